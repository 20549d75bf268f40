-- Equal numbers and values mean equal answers: each map of crate schedule's Numbers is undone by a map back.
-- Assumes nothing.
use Prim.Native.Nat.{ℕ}
use native.Mathlib.Omega.{arith}
use mathlib.Core.Bool.{cond}
use mathlib.Core.List.{List, [], ◌∷◌, ◌++◌, map}
use mathlib.Core.Path.{◌≡◌, refl, sym, ap, ◌∙◌}
use lib.Dec.{eqb}
use Rattle.std.specs.Prelude.{Option, Some, None, Ok, Err}
use Rattle.schedule.specs.declared.Place.{Place}
use Rattle.schedule.specs.declared.RowRule.{RowRule}
use Rattle.schedule.specs.declared.FormRefusal.{FormRefusal}
use Rattle.schedule.specs.declared.ActivityRule.{ActivityRule}
use Rattle.schedule.specs.declared.TickRule.{TickRule}
use Rattle.schedule.specs.declared.RuleRefusal.{RuleRefusal}
use Rattle.schedule.specs.declared.RunRefusal.{RunRefusal}
use Rattle.schedule.specs.declared.Refusal.{Refusal}
use Rattle.schedule.specs.declared.WrapRefusal.{WrapRefusal}
use Rattle.schedule.specs.declared.WrapRefused.{WrapRefused}
use Rattle.schedule.specs.declared.Side.{Side}
use Rattle.schedule.specs.Rule
use Rattle.schedule.specs.Model.{row_order}
use Rattle.schedule.specs.Checks.{strict_order}
use Rattle.schedule.specs.Answers
use Rattle.schedule.specs.Answers.{Answer, accepted, refused}
use Rattle.schedule.specs.Streams.{WordOrPast, word, past}
use Rattle.schedule.specs.Exchange
use Rattle.schedule.specs.Numbers.{form_number, rule_number, run_number, refusal_numbers, verdict_numbers}
use Rattle.schedule.specs.Numbers.{Verdict, RunVerdict, Standing, Chosen}
use Rattle.schedule.specs.Numbers.{run_numbers, word_numbers, wrap_number, wrap_refusal, standing_numbers, chosen_numbers}
use Rattle.schedule.specs.Retired.{NoCaseRetired}

-- a map that another undoes takes no two things to one
undone_injective : {X Y : Type 0} (f : X → Y) (g : Y → X) → ((x : X) → g (f x) ≡ x)
    → (x y : X) → f x ≡ f y → x ≡ y
undone_injective f g undone x y e = sym (undone x) ∙ ap g e ∙ undone y

-- the cases of form and of the run; those of a model's rows are its order's, and those of the rules the strict check's
abbrev forms : List FormRefusal
forms =
    FormRefusal.ModelSize
    ∷ FormRefusal.ModelVersion
    ∷ FormRefusal.ModelLimits
    ∷ FormRefusal.ModelFormula
    ∷ FormRefusal.Rounds
    ∷ FormRefusal.SecondSize
    ∷ FormRefusal.SecondVersion
    ∷ FormRefusal.SecondCounts
    ∷ FormRefusal.SecondFormula
    ∷ FormRefusal.ThreadChoice
    ∷ FormRefusal.DurationChoice
    ∷ FormRefusal.WordBits
    ∷ []

abbrev runs : List RunRefusal
runs = RunRefusal.Room ∷ RunRefusal.Owed ∷ RunRefusal.Late ∷ RunRefusal.Rows ∷ []

-- every refusal that there is, still without its place
abbrev refusals : List (Place → Refusal)
refusals =
    map (λ (why : FormRefusal) (at : Place). Refusal.Form why at) (forms ++ map FormRefusal.ModelRow row_order)
    ++ (map (λ (why : RuleRefusal) (at : Place). Refusal.Rule why at) strict_order
    ++ map (λ (why : RunRefusal) (at : Place). Refusal.Run why at) runs)

-- the one of a list that has a number
abbrev numbered : ℕ → Place → List (Place → Refusal) → Refusal
numbered number at [] = Refusal.Form FormRefusal.ModelSize at
numbered number at (x ∷ xs) = cond (eqb (refusal_numbers (x at)).number number) (x at) (numbered number at xs)

-- a refusal from its number and place
abbrev refusal_of : Rule.Refusal → Refusal
refusal_of x = numbered x.number (record { a = x.A; b = x.B }) refusals

form_undone : (why : FormRefusal) (at : Place) → refusal_of (refusal_numbers (Refusal.Form why at)) ≡ Refusal.Form why at
form_undone FormRefusal.ModelSize at = refl
form_undone FormRefusal.ModelVersion at = refl
form_undone FormRefusal.ModelLimits at = refl
form_undone FormRefusal.ModelFormula at = refl
form_undone FormRefusal.Rounds at = refl
form_undone (FormRefusal.ModelRow RowRule.Thread) at = refl
form_undone (FormRefusal.ModelRow RowRule.Period) at = refl
form_undone (FormRefusal.ModelRow RowRule.Activity) at = refl
form_undone (FormRefusal.ModelRow RowRule.Loop) at = refl
form_undone (FormRefusal.ModelRow RowRule.Width) at = refl
form_undone (FormRefusal.ModelRow RowRule.Masks) at = refl
form_undone FormRefusal.SecondSize at = refl
form_undone FormRefusal.SecondVersion at = refl
form_undone FormRefusal.SecondCounts at = refl
form_undone FormRefusal.SecondFormula at = refl
form_undone FormRefusal.ThreadChoice at = refl
form_undone FormRefusal.DurationChoice at = refl
form_undone FormRefusal.WordBits at = refl

rule_undone : (why : RuleRefusal) (at : Place) → refusal_of (refusal_numbers (Refusal.Rule why at)) ≡ Refusal.Rule why at
rule_undone (RuleRefusal.Activity ActivityRule.Window) at = refl
rule_undone (RuleRefusal.Activity ActivityRule.Count) at = refl
rule_undone (RuleRefusal.Activity ActivityRule.Deadline) at = refl
rule_undone (RuleRefusal.Activity ActivityRule.Temporal) at = refl
rule_undone (RuleRefusal.Activity ActivityRule.Data) at = refl
rule_undone (RuleRefusal.Activity ActivityRule.Eligible) at = refl
rule_undone (RuleRefusal.Tick TickRule.Cores) at = refl
rule_undone (RuleRefusal.Tick TickRule.Preemption) at = refl
rule_undone (RuleRefusal.Tick TickRule.Idle) at = refl
rule_undone (RuleRefusal.Tick TickRule.Tie) at = refl

run_undone : (why : RunRefusal) (at : Place) → refusal_of (refusal_numbers (Refusal.Run why at)) ≡ Refusal.Run why at
run_undone RunRefusal.Room at = refl
run_undone RunRefusal.Owed at = refl
run_undone RunRefusal.Late at = refl
run_undone RunRefusal.Rows at = refl

refusal_undone : (x : Refusal) → refusal_of (refusal_numbers x) ≡ x
refusal_undone (Refusal.Form why at) = form_undone why at
refusal_undone (Refusal.Rule why at) = rule_undone why at
refusal_undone (Refusal.Run why at) = run_undone why at

abbrev verdict_of : Answer Answers.Figures → Verdict
verdict_of (accepted f) = Ok (record { usage = f.usage; capacity = f.capacity; makespan = f.makespan })
verdict_of (refused x) = Err (refusal_of x)

verdict_undone : (v : Verdict) → verdict_of (verdict_numbers v) ≡ v
verdict_undone (Ok f) = refl
verdict_undone (Err x) = ap Err (refusal_undone x)

abbrev run_verdict_of : Answer Answers.Written → RunVerdict
run_verdict_of (accepted w) = Ok (record {
  length = w.length;
  figures = record {
    usage = w.figures.usage;
    capacity = w.figures.capacity;
    makespan = w.figures.makespan;
  };
})
run_verdict_of (refused x) = Err (refusal_of x)

run-verdict_undone : (v : RunVerdict) → run_verdict_of (run_numbers v) ≡ v
run-verdict_undone (Ok w) = refl
run-verdict_undone (Err x) = ap Err (refusal_undone x)

abbrev word_at_of : WordOrPast → Option ℕ
word_at_of (word w) = Some w
word_at_of past = None

word_undone : (w : Option ℕ) → word_at_of (word_numbers w) ≡ w
word_undone (Some w) = refl
word_undone None = refl

abbrev wrap_of : ℕ → WrapRefusal
wrap_of number = cond (eqb number 54) WrapRefusal.Wrapper (cond (eqb number 55) WrapRefusal.Series WrapRefusal.Copy)

wrap_undone : (why : WrapRefusal) → wrap_of (wrap_number why) ≡ why
wrap_undone WrapRefusal.Wrapper = refl
wrap_undone WrapRefusal.Series = refl
wrap_undone WrapRefusal.Copy = refl

abbrev wrap_refused_of : Rule.Refusal → WrapRefused
wrap_refused_of x = record { why = wrap_of x.number; index = x.A }

wrap-refused_undone : (x : WrapRefused) → wrap_refused_of (wrap_refusal x) ≡ x
wrap-refused_undone x = ap (λ (w : WrapRefusal). record { why = w; index = x.index }) (wrap_undone x.why)

abbrev standing_of : Answer ℕ → Standing
standing_of (accepted r) = Ok (cond (eqb r 0) Side.First Side.Second)
standing_of (refused x) = Err (wrap_refused_of x)

standing_undone : (v : Standing) → standing_of (standing_numbers v) ≡ v
standing_undone (Ok Side.First) = refl
standing_undone (Ok Side.Second) = refl
standing_undone (Err x) = ap Err (wrap-refused_undone x)

abbrev chosen_of : Answer Exchange.Part → Chosen
chosen_of (accepted x) = Ok (record { index = x.index; offset = x.offset; length = x.length })
chosen_of (refused x) = Err (wrap_refused_of x)

chosen_undone : (v : Chosen) → chosen_of (chosen_numbers v) ≡ v
chosen_undone (Ok x) = refl
chosen_undone (Err x) = ap Err (wrap-refused_undone x)

-- equal numbers and values mean equal answers
pub refusal_injective : (x y : Refusal) → refusal_numbers x ≡ refusal_numbers y → x ≡ y
refusal_injective = undone_injective refusal_numbers refusal_of refusal_undone

-- a place, where none matters
abbrev nowhere : Place
nowhere = record { a = 0; b = 0 }

-- two rules of one number are one
pub rule_injective : (x y : RuleRefusal) → rule_number x ≡ rule_number y → x ≡ y
rule_injective x y e =
    let same : Refusal.Rule x nowhere ≡ Refusal.Rule y nowhere =
    refusal_injective (Refusal.Rule x nowhere) (Refusal.Rule y nowhere) (ap (λ (k : ℕ). record { number = k; A = 0; B = 0 }) e) in
    cc

-- a number that none of them has is used by no refusal
pub unused : (number : ℕ) → ((at : Place) → ¬ ((refusal_numbers (numbered number at refusals)).number ≡ number))
    → (x : Refusal) → ¬ ((refusal_numbers x).number ≡ number)
unused number absent x e =
    let at : Place = record { a = (refusal_numbers x).A; b = (refusal_numbers x).B } in
    let same : numbered number at refusals ≡ x = ap (λ k. numbered k at refusals) (sym e) ∙ refusal_undone x in
    absent at (ap (λ (y : Refusal). (refusal_numbers y).number) same ∙ e)

-- "The number is never used again" (U11 of 02): of every refusal, and of each kind of refusal by itself
pub never_24 : NoCaseRetired (λ (x : Refusal). (refusal_numbers x).number)
never_24 = unused _ (λ at e. omega (arith, e))

pub forms_never_24 : NoCaseRetired form_number
forms_never_24 why = never_24 (Refusal.Form why nowhere)

pub rules_never_24 : NoCaseRetired rule_number
rules_never_24 why = never_24 (Refusal.Rule why nowhere)

pub runs_never_24 : NoCaseRetired run_number
runs_never_24 why = never_24 (Refusal.Run why nowhere)

pub wraps_never_24 : NoCaseRetired wrap_number
wraps_never_24 WrapRefusal.Wrapper e = omega (arith, e)
wraps_never_24 WrapRefusal.Series e = omega (arith, e)
wraps_never_24 WrapRefusal.Copy e = omega (arith, e)

pub verdict_injective : (x y : Verdict) → verdict_numbers x ≡ verdict_numbers y → x ≡ y
verdict_injective = undone_injective verdict_numbers verdict_of verdict_undone

pub run-verdict_injective : (x y : RunVerdict) → run_numbers x ≡ run_numbers y → x ≡ y
run-verdict_injective = undone_injective run_numbers run_verdict_of run-verdict_undone

pub word_injective : (x y : Option ℕ) → word_numbers x ≡ word_numbers y → x ≡ y
word_injective = undone_injective word_numbers word_at_of word_undone

pub standing_injective : (x y : Standing) → standing_numbers x ≡ standing_numbers y → x ≡ y
standing_injective = undone_injective standing_numbers standing_of standing_undone

pub chosen_injective : (x y : Chosen) → chosen_numbers x ≡ chosen_numbers y → x ≡ y
chosen_injective = undone_injective chosen_numbers chosen_of chosen_undone
