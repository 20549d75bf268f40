-- The lists of rules as they are tried: the rules that name no row one by one, then each rule over its rows.
-- Assumes nothing.
use Prim.Native.Nat.{ℕ}
use mathlib.Core.Bool.{Bool, true, false, ◌&&◌}
use mathlib.Core.List.{List, [], ◌∷◌}
use mathlib.Core.Option.{Option, none}
use mathlib.Core.Path.{◌≡◌, refl, sym, ap, ap₂, ◌∙◌}
use Rattle.schedule.specs.Fields.{field}
use Rattle.schedule.specs.Rule.{Rule, Refusal, break, first_break}
use Rattle.schedule.specs.Records.{length_rule, version_rule, formula_rule}
use Rattle.schedule.specs.Model.{Page, page, model, model_length, newest_model, head_rules, row_rules, model_form, limits_rule, rounds_rule}
use Rattle.schedule.specs.Choice.{choice, choice_length, choice_form, choice_counts, duration_rule}
use Rattle.schedule.specs.Plan.{plan, plan_length, plan_form, plan_counts, word_rule}
use Rattle.records.specs.declared.model.Sizes.{Sizes}
use Rattle.records.specs.declared.plan.PlanSizes.{PlanSizes}
use Rattle.records.specs.Rows.{limits_hold, rounds_hold, sizes_of, plan_sizes_of, counts_hold, horizon_holds, timing_rule}
use Rattle.records.specs.Reads.{pick, head_break, model_names, second_head}
use Rattle.records.proofs.Reading.{or_else, orElse_none, orElse_pick, rule_end, rule_next, rule_picked, rules_next}

-- a rule that names no row
abbrev Single : Rule → Type 0
Single r = (r.rows ≡ 1) × (r.columns ≡ 1)

-- one, before rules whose first break is known
before : (r : Rule) (rs : List Rule) (o rest : Option Refusal) → Single r → first_break rs ≡ or_else o rest
    → first_break (r ∷ rs) ≡ or_else (pick (r.test 0 0) r.number o) rest
before r rs o rest one h =
    rule_picked r rs one.0 one.1
    ∙ ap (pick (r.test 0 0) r.number) h
    ∙ sym (orElse_pick (r.test 0 0) r.number o rest)

-- the first break of four, where the test of the third is told
abbrev of_four : Rule → Rule → Rule → Rule → Bool → Option Refusal
of_four p q r s t =
    pick (p.test 0 0) p.number
    (pick (q.test 0 0) q.number (pick t r.number (pick (s.test 0 0) s.number none)))

-- four, before others
four-first : (p q r s : Rule) (rest : List Rule) (t : Bool) → Single p → Single q → Single r → Single s → r.test 0 0 ≡ t
    → first_break (p ∷ q ∷ r ∷ s ∷ rest) ≡ or_else (of_four p q r s t) (first_break rest)
four-first p q r s rest t one two three four e =
    rw (← e)
    (before p _ _ _ one (before q _ _ _ two (before r _ _ _ three (before s rest none (first_break rest) four refl))))

-- four, before two that are tried over rows
four_and_two : (p q r s u v : Rule) (t : Bool) → Single p → Single q → Single r → Single s → r.test 0 0 ≡ t
    → first_break (p ∷ q ∷ r ∷ s ∷ u ∷ v ∷ []) ≡ or_else (of_four p q r s t) (or_else (break u) (break v))
four_and_two p q r s u v t one two three four e =
    four-first p q r s (u ∷ v ∷ []) t one two three four e
    ∙ ap (or_else (of_four p q r s t))
    (rule_next u (v ∷ [])
    ∙ ap (or_else (break u)) (rule_next v [] ∙ ap (or_else (break v)) rule_end ∙ orElse_none (break v)))

-- rules 1 to 4 and 51, where the counts of one round, their test and the length were told
pub model-head : (s : List ℕ) (one : Sizes) (limits : Bool) (wanted : ℕ) → one ≡ sizes_of (page s).plain
    → limits ≡ limits_hold one → wanted ≡ model_length (field s 4 1) one.threads one.activities
    → first_break (head_rules s) ≡ or_else (head_break s model_names 10 newest_model limits wanted) (first_break (rounds_rule (page s) ∷ []))
unfolding head_break length_rule version_rule limits_rule formula_rule limits_hold sizes_of
model-head s one limits wanted e t w =
    rw (w, t, e) (four-first _ _ _ _ _ _ (refl, refl) (refl, refl) (refl, refl) (refl, refl) refl)

-- the test of rule 51, of what was read
pub rounds-told : (p : Page) (one : Sizes) (rounds : ℕ) (t : Bool) → one ≡ sizes_of p.plain → rounds ≡ p.rounds
    → t ≡ rounds_hold one rounds → first_break (rounds_rule p ∷ []) ≡ pick t 51 none
unfolding rounds_rule rounds_hold sizes_of
rounds-told p one rounds t e r h =
    rule_picked (rounds_rule p) [] refl refl ∙ ap₂ (λ (t : Bool) (o : Option Refusal). pick t 51 o) (sym (h ∙ ap₂ rounds_hold e r)) rule_end

-- the model's form rules: those that name no row, then those of the rows
pub model-form : (s : List ℕ) → first_break (model_form s) ≡ or_else (first_break (head_rules s)) (first_break (row_rules (page s)))
unfolding model_form
model-form s = rules_next (head_rules s) (row_rules (page s))

-- rules 8 to 13 of a choice, beside the bytes s of a model
pub choice-form : (s q : List ℕ) (wanted : ℕ) → wanted ≡ choice_length (choice q).threads (choice q).activities
    → first_break (choice_form (model s) q)
    ≡ or_else (second_head s q 7 true wanted) (or_else (break (timing_rule (model s) q 7)) (break (duration_rule (model s) (choice q))))
unfolding choice_form head_break length_rule version_rule choice_counts formula_rule counts_hold choice
choice-form s q wanted w =
    rw w (four_and_two _ _ _ _ _ _ _ (refl, refl) (refl, refl) (refl, refl) (refl, refl) refl)

-- rule 10 of a plan: n and m, and H
and_comm : (a b : Bool) → (a && b) ≡ (b && a)
and_comm true true = refl
and_comm true false = refl
and_comm false true = refl
and_comm false false = refl

-- rules 8 to 12 and 14 of a plan
pub plan-form : (s r : List ℕ) (sizes : PlanSizes) (further : Bool) (wanted : ℕ) → sizes ≡ plan_sizes_of (plan r)
    → further ≡ horizon_holds s r → wanted ≡ plan_length sizes.threads sizes.activities sizes.horizon
    → first_break (plan_form (model s) r)
    ≡ or_else (second_head s r 9 further wanted) (or_else (break (timing_rule (model s) r 9)) (break (word_rule (model s) (plan r))))
unfolding plan_form head_break length_rule version_rule plan_counts formula_rule counts_hold horizon_holds plan_sizes_of plan
plan-form s r sizes further wanted e t w =
    rw (w, t, e)
    (four_and_two _ _ _ _ _ _ _ (refl, refl) (refl, refl) (refl, refl) (refl, refl)
    (and_comm (counts_hold s r) (horizon_holds s r)))
