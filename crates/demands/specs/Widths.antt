-- U7 of 02, "Activities that take several cores", of models whose activities take one core each: "older models have width 1", all
-- that is answered about a model of width 1 is what was answered before, and so is what is answered about older models that are
-- wrapped for exchange. And what the usage of every model is: "usage, demand 2's figure with it, is counted in core ticks".
-- Assumes nothing.
use Rattle.std.specs.Prelude.{ℕ, ◌<◌, List, ◌⊎◌, ◌≡◌, ℤ, length}
use Rattle.schedule.specs.Fields.{field}
use Rattle.schedule.specs.Rule.{Rule, first_break}
use Rattle.schedule.specs.Model.{Model, page, model, model_form}
use Rattle.schedule.specs.Plan.{Plan}
use Rattle.schedule.specs.Machine.{machine_word, machine_start, machine_end, machine_owes}
use Rattle.schedule.specs.Answers.{figures, plain_verdict, strict_verdict, run_answer, run_buffer}
use Rattle.schedule.specs.Report.{report_answer, report_rows}
use Rattle.schedule.specs.Streams.{view_refusal, view_word}
use Rattle.schedule.specs.Exchange.{wrapped, standing, record_at}
use Rattle.schedule.specs.Exchange.{both_of, pair_answer, pair_part, pair_bytes, records_of, file_answer, file_bytes}
use Rattle.demands.specs.Demand2.{counted_usage}
use Rattle.demands.specs.FormerForm
use Rattle.demands.specs.FormerMachine
use Rattle.demands.specs.FormerChecks
use Rattle.demands.specs.FormerAnswers
use Rattle.demands.specs.FormerExchange

-- "width 1": each activity takes one core
abbrev pub OfWidthOne : Model → Type 0
OfWidthOne m = (a : ℕ) → a < m.activities → m.width a ≡ 1

-- "older models have width 1": those of version 1 and 2, whatever else their bytes are
abbrev pub Older : List ℕ → Type 0
Older s = (field s 4 1 ≡ 1) ⊎ (field s 4 1 ≡ 2)

abbrev pub OlderModels : Type 0
OlderModels = (s : List ℕ) → Older s → OfWidthOne (model s)

-- Their bytes say what they said, so the model that they unroll to is the same too.
abbrev pub SameReading : Type 0
SameReading = (s : List ℕ) → Older s → page s ≡ FormerForm.page s

-- a record is not of version 3: it is an older model's, or it is refused, now as before
abbrev pub NotOfVersion3 : List ℕ → Type 0
NotOfVersion3 s = ¬ (field s 4 1 ≡ 3)

-- Such a record breaks the form rule that it broke before, at the same place, or none: 57 turns no older model away.
abbrev pub SameForm : Type 0
SameForm = (s : List ℕ) → NotOfVersion3 s → first_break (model_form s) ≡ first_break (FormerForm.model_form s)

-- All that is answered about a model's bytes is what was answered before of form rules and of a model that they said: both verdicts,
-- with their figures or with their number and place; the machine's words at every tick, its starts and ends, and what it owes; the
-- run's answer and the lent buffer after it; the report's answer and the lent list after it; the view's refusal and its words.
pub record AnswersAsBefore (s : List ℕ) (form : List Rule) (m : Model) : Type 0 where
  pub plain : (r : List ℕ) → plain_verdict s r ≡ FormerChecks.plain_verdict form m r
  pub strict : (r : List ℕ) → strict_verdict s r ≡ FormerChecks.strict_verdict form m r
  pub words : (release duration : ℕ → ℕ) (t : ℕ)
      → machine_word (model s) release duration t ≡ FormerMachine.machine_word m release duration t
  pub starts : (release duration : ℕ → ℕ) (a : ℕ)
      → machine_start (model s) release duration a ≡ FormerMachine.machine_start m release duration a
  pub ends : (release duration : ℕ → ℕ) (a : ℕ)
      → machine_end (model s) release duration a ≡ FormerMachine.machine_end m release duration a
  pub owed : (release duration : ℕ → ℕ) (a : ℕ)
      → machine_owes (model s) release duration a ≡ FormerMachine.machine_owes m release duration a
  pub run : (q : List ℕ) (room : ℕ) → run_answer s q room ≡ FormerAnswers.run_answer form m q room
  pub buffer : (q buffer : List ℕ) → run_buffer s q buffer ≡ FormerAnswers.run_buffer form m q buffer
  pub report : (q : List ℕ) (lent : ℕ) → report_answer s q lent ≡ FormerAnswers.report_answer form m q lent
  pub rows : (q : List ℕ) (list : List ℤ) → report_rows s q list ≡ FormerAnswers.report_rows form m q list
  pub refusal : (r : List ℕ) → view_refusal s r ≡ FormerAnswers.view_refusal form m r
  pub view : (r : List ℕ) (t : ℕ) → view_word s r t ≡ FormerAnswers.view_word form m r t

-- of every older model, refused or not, and beside every second record: with its bytes read as they were, and the former form rules
abbrev pub OlderModelsAnswerAsBefore : Type 0
OlderModelsAnswerAsBefore = (s : List ℕ) → Older s → AnswersAsBefore s (FormerForm.model_form s) (FormerForm.model s)

-- And of every model of width 1 throughout, of version 3 too, which was not read before: with today's reading and form rules in front
-- of what was answered.
abbrev pub NoChange : Type 0
NoChange = (s : List ℕ) → OfWidthOne (model s) → AnswersAsBefore s (model_form s) (model s)

-- of wrapped records one after the other, no model is of version 3
abbrev pub NoneOfVersion3 : List (List ℕ) → Type 0
NoneOfVersion3 ws = (k : ℕ) → k < length ws → NotOfVersion3 (wrapped (record_at ws k))

-- Of every list of such records, every pair and every file of them, what is answered is what was answered before: which one stands
-- and where it lies, or the refusal's number and record, and the bytes handed back.
pub record WrappedAsBefore : Type 0 where
  pub stands : (ws : List (List ℕ)) → NoneOfVersion3 ws → standing ws ≡ FormerExchange.standing ws
  pub pair : (x y : List ℕ) → NoneOfVersion3 (both_of x y) → pair_answer x y ≡ FormerExchange.pair_answer x y
  pub part_of_pair : (x y : List ℕ) → NoneOfVersion3 (both_of x y) → pair_part x y ≡ FormerExchange.pair_part x y
  pub bytes_of_pair : (x y : List ℕ) → NoneOfVersion3 (both_of x y) → pair_bytes x y ≡ FormerExchange.pair_bytes x y
  pub file : (f : List ℕ) → NoneOfVersion3 (records_of f) → file_answer f ≡ FormerExchange.file_answer f
  pub bytes_of_file : (f : List ℕ) → NoneOfVersion3 (records_of f) → file_bytes f ≡ FormerExchange.file_bytes f

-- "counted in core ticks": an activity's ticks count as often as it takes cores, of every model and every plan
abbrev pub InCoreTicks : Type 0
InCoreTicks = (m : Model) (p : Plan) → (figures m p).usage ≡ counted_usage m p
