-- Rules tried in the order of their names: a pass that is refused ends the list, one that holds leaves the answer to the rest.
-- Assumes nothing.
use Prim.Native.Nat.{ℕ, ◌+◌, ◌≤◌, ◌<◌}
use native.Mathlib.Numerals.{add-one}
use mathlib.Core.List.{List}
use mathlib.Core.Option.{Option, none}
use mathlib.Core.Path.{◌≡◌, sym, ap, ◌∙◌}
use lib.ListN.{length, drop, get_or, drop_of_length-le}
use lib.Seq.{drop-cons}
use Rattle.std.specs.Prelude.{Result, Ok, Err}
use Rattle.schedule.specs.Rule
use Rattle.schedule.specs.Rule.{Rule, break, first_break, rules_named}
use Rattle.schedule.specs.declared.Refusal.{Refusal}
use Rattle.records.specs.Reads.{pass_numbers}
use Rattle.records.proofs.Reading.{or_else, pass_refused, pass_holds, rule_next, rule_end}

-- what is left to be tried once k of them have been
abbrev pub untried : {N : Type 0} → (N → Rule) → List N → ℕ → Option Rule.Refusal
untried rule_of order k = first_break (rules_named rule_of (drop k order))

module _ {N : Type 0} (rule_of : N → Rule) (order : List N) (k : ℕ) (any : N) (less : k < length order) (pass : Result (Unit {0}) Refusal)
    (e : pass_numbers pass ≡ break (rule_of (get_or order k any))) where
  -- rule k, then those behind it
  parted : untried rule_of order k ≡ or_else (break (rule_of (get_or order k any))) (untried rule_of order (k + 1))
  parted =
      ap (λ (l : List N). first_break (rules_named rule_of l)) (drop-cons order k any less)
      ∙ rule_next _ _
      ∙ ap (λ (n : ℕ). or_else (break (rule_of (get_or order k any))) (untried rule_of order n)) (sym (add-one k))

  -- it is broken, and that is the answer
  pub order_stops : (x : Refusal) → pass ≡ Err x → pass_numbers pass ≡ untried rule_of order k
  order_stops x told = ap pass_numbers told ∙ pass_refused _ _ (untried rule_of order (k + 1)) pass parted e x told

  -- it holds, and the rest decides
  pub order_goes_on : pass ≡ Ok tt → untried rule_of order (k + 1) ≡ untried rule_of order k
  order_goes_on told = sym (pass_holds _ _ (untried rule_of order (k + 1)) pass parted e told)

-- all are tried
pub order-ends : {N : Type 0} (rule_of : N → Rule) (order : List N) (k : ℕ) → length order ≤ k → untried rule_of order k ≡ none
order-ends {N} rule_of order k whole =
    ap (λ (l : List N). first_break (rules_named rule_of l)) (drop_of_length-le order {i = k} whole) ∙ rule_end
