-- U4 of 02, "Several rounds on one page", as statements of every record: the page's model is the plain model unrolled, and the
-- page answers as the record of one round of its unrolled model does, which is of version 1 where every width is 1, and of
-- version 3 where some width is not (U7 of 02).
-- Assumes nothing.
use Rattle.std.specs.Prelude.{ℕ, ◌+◌, ◌≤◌, ◌<◌, List, [], ◌∷◌, ◌++◌, ◌↔◌, ◌≡◌, ℤ, length}
use Rattle.std.proofs.Math.Option.{Option}
use Rattle.schedule.specs.Fields.{field, Bytes}
use Rattle.schedule.specs.Rule.{Rule, Refusal, first_break, AllHold}
use Rattle.schedule.specs.Records.{length_rule, version_rule, formula_rule}
use Rattle.schedule.specs.Rounds.{no_loop}
use Rattle.schedule.specs.Model.{Model, Page, page, model, model_length, newest_model, model_form}
use Rattle.schedule.specs.Unrolls.{Unrolls}
use Rattle.schedule.specs.ModelBytes.{model_bytes}
use Rattle.schedule.specs.Answers.{accepted, plain_verdict, strict_verdict, Written, length_needed, run_answer, run_buffer}
use Rattle.schedule.specs.Answers.{MeetsForm, WellFormed, PassesTests}
use Rattle.schedule.specs.Report.{report_answer, report_rows}
use Rattle.schedule.specs.Streams.{input_limit, view_refusal, view_word}
use Rattle.demands.specs.Strict.{Passes, SingleStrictPlan, plan_written}
use Rattle.demands.specs.Widths.{OfWidthOne}

-- ---- the unrolled model is what the request says

abbrev pub PagesUnroll : Type 0
PagesUnroll = (s : List ℕ) → Bytes s → MeetsForm s → Unrolls (page s) (model s)

-- ---- the page is its unrolled model

-- What two records give to whoever asks is the same: the form rule that they break first, or none, and the model that they say.
pub record SameGiven (s u : List ℕ) : Type 0 where
  pub form : first_break (model_form s) ≡ first_break (model_form u)
  pub says : model s ≡ model u

-- So whatever is made of these is the same for both records, and so is the first break of the form rules and any others that
-- speak of the model: what a later call answers too, if it asks for no more. One that asks for the page itself, as for its rounds
-- or its own threads, is not of this kind.
abbrev pub MadeAlike : Type 1
MadeAlike = (A : Type 0) (make : Option Refusal → Model → A) (s u : List ℕ) → SameGiven s u
    → make (first_break (model_form s)) (model s) ≡ make (first_break (model_form u)) (model u)

abbrev pub TriedAlike : Type 1
TriedAlike = (rules : Model → List Rule) (s u : List ℕ) → SameGiven s u
    → first_break (model_form s ++ rules (model s)) ≡ first_break (model_form u ++ rules (model u))

-- What follows for the calls of today. Two records of a model get the same answers: every verdict with its figures or its number
-- and place, every view, run, buffer and report, and the plans that demand 3 speaks of.
pub record SameAnswers (s u : List ℕ) : Type 0 where
  pub plain : (r : List ℕ) → plain_verdict s r ≡ plain_verdict u r
  pub strict : (r : List ℕ) → strict_verdict s r ≡ strict_verdict u r
  pub view : (r : List ℕ) → view_refusal s r ≡ view_refusal u r
  pub word : (r : List ℕ) (t : ℕ) → view_word s r t ≡ view_word u r t
  pub run : (q : List ℕ) (room : ℕ) → run_answer s q room ≡ run_answer u q room
  pub buffer : (q buffer : List ℕ) → run_buffer s q buffer ≡ run_buffer u q buffer
  pub report : (q : List ℕ) (lent : ℕ) → report_answer s q lent ≡ report_answer u q lent
  pub rows : (q : List ℕ) (list : List ℤ) → report_rows s q list ≡ report_rows u q list
  pub passes : (q r : List ℕ) → Passes s q r ↔ Passes u q r

abbrev pub AnsweredAlike : Type 0
AnsweredAlike = (s u : List ℕ) → SameGiven s u → SameAnswers s u

-- A record u is that of a page's unrolled model: its version is 1 where every width of the model is 1, and 3 where some width is
-- not; it has one round and no loops; its bytes meet the form rules, the plain model that they say is the page's unrolled, and
-- the two records give the same and get the same answers.
pub record IsUnrolled (s u : List ℕ) : Type 0 where
  pub bytes : Bytes u
  pub version_1 : OfWidthOne (model s) → field u 4 1 ≡ 1
  pub version_3 : (a : ℕ) → a < (model s).activities → ¬ ((model s).width a ≡ 1) → field u 4 1 ≡ 3
  pub one_round : (page u).rounds ≡ 1
  pub no_loops : (a : ℕ) → a < (page u).plain.activities → (page u).loop a ≡ no_loop
  pub formed : MeetsForm u
  pub unrolls : Unrolls (page s) (page u).plain
  pub given : SameGiven s u
  pub same : SameAnswers s u

abbrev pub PagesAreUnrolled : Type 0
PagesAreUnrolled = (s : List ℕ) → Bytes s → MeetsForm s → IsUnrolled s (model_bytes (model s))

-- "the single strict plan of a page is that of its unrolled model": demand 3 holds of both records, and the plan that the run
-- writes for the one is what it writes for the other
pub record SamePlan (s u q buffer : List ℕ) : Type 0 where
  pub of_page : SingleStrictPlan s q buffer
  pub of_unrolled : SingleStrictPlan u q buffer
  pub same : (w : Written) → run_answer s q (length buffer) ≡ accepted w
      → (run_answer u q (length buffer) ≡ accepted w) × (plan_written s q buffer w ≡ plan_written u q buffer w)

abbrev pub OnePlan : Type 0
OnePlan = (s q buffer : List ℕ) → Bytes s → Bytes q → MeetsForm s → PassesTests s q
    → length_needed (model s) ≤ length buffer → SamePlan s (model_bytes (model s)) q buffer

-- ---- "Version 1 is one round without loops"

-- two records say the same page: the same counts, the same rounds, and the same rows
pub record SamePage (p q : Page) : Type 0 where
  pub cores : p.plain.cores ≡ q.plain.cores
  pub threads : p.plain.threads ≡ q.plain.threads
  pub activities : p.plain.activities ≡ q.plain.activities
  pub horizon : p.plain.horizon ≡ q.plain.horizon
  pub rounds : p.rounds ≡ q.rounds
  pub least_period : (j : ℕ) → j < p.plain.threads → p.plain.least_period j ≡ q.plain.least_period j
  pub most_period : (j : ℕ) → j < p.plain.threads → p.plain.most_period j ≡ q.plain.most_period j
  pub least_release : (j : ℕ) → j < p.plain.threads → p.plain.least_release j ≡ q.plain.least_release j
  pub most_release : (j : ℕ) → j < p.plain.threads → p.plain.most_release j ≡ q.plain.most_release j
  pub priority : (j : ℕ) → j < p.plain.threads → p.plain.priority j ≡ q.plain.priority j
  pub thread : (a : ℕ) → a < p.plain.activities → p.plain.thread a ≡ q.plain.thread a
  pub least_duration : (a : ℕ) → a < p.plain.activities → p.plain.least_duration a ≡ q.plain.least_duration a
  pub most_duration : (a : ℕ) → a < p.plain.activities → p.plain.most_duration a ≡ q.plain.most_duration a
  pub delay : (a : ℕ) → a < p.plain.activities → p.plain.delay a ≡ q.plain.delay a
  pub temporal_mask : (a : ℕ) → a < p.plain.activities → p.plain.temporal_mask a ≡ q.plain.temporal_mask a
  pub data_mask : (a : ℕ) → a < p.plain.activities → p.plain.data_mask a ≡ q.plain.data_mask a
  pub loop : (a : ℕ) → a < p.plain.activities → p.loop a ≡ q.loop a
  pub width : (a : ℕ) → a < p.plain.activities → p.plain.width a ≡ q.plain.width a

-- rules 1, 2 and 4, which speak of a record's own bytes and not of its page
abbrev pub Sized : List ℕ → Type 0
Sized s = AllHold (
    length_rule 1 10 s
    ∷ version_rule 2 newest_model s
    ∷ formula_rule 4 (model_length (field s 4 1) (page s).plain.threads (page s).plain.activities) s
    ∷ [])

-- records that pass these and say the same page, in one version or in two, give the same and get the same answers, refused or
-- not: so a version 2 record with i 1 and no loops answers as the version 1 record of the same page, and a version 3 record whose
-- widths are all 1 as the version 2 record of it
abbrev pub VersionsAgree : Type 0
VersionsAgree = (s u : List ℕ) → Sized s → Sized u → SamePage (page s) (page u) → SameGiven s u × SameAnswers s u

-- ---- "later models are longer"

-- a model and a plan that is well-formed for it have at most 17,188 bytes together, a model and a choice at most 738: the
-- programs read either pair whole
pub record PairsFit (s : List ℕ) : Type 0 where
  pub with_plan : (r : List ℕ) → WellFormed s r → length s + length r ≤ 17188
  pub with_choice : (q : List ℕ) → PassesTests s q → length s + length q ≤ 738
  pub read_whole : 17188 ≤ input_limit

abbrev pub AllPairsFit : Type 0
AllPairsFit = (s : List ℕ) → MeetsForm s → PairsFit s
