-- The rules of a whole check in the order in which the code tries them, and the tables that it tries them with.
-- Assumes nothing.
use Prim.Native.Nat.{ℕ, ◌+◌, ◌≤◌, ◌<◌, max}
use native.Mathlib.Omega.{arith}
use mathlib.Core.Bool.{Bool, true, false, cond}
use mathlib.Core.List.{List}
use mathlib.Core.Path.{◌≡◌, refl, ap, ap₂, ◌∙◌}
use lib.ListN.{length, get_or, get_or-append}
use Rattle.schedule.specs.Bounded.{table}
use Rattle.schedule.specs.Rule.{rules_named}
use Rattle.schedule.specs.Model.{Model, temporally, by_data}
use Rattle.schedule.specs.Plan.{Plan}
use Rattle.schedule.specs.Checks.{count_of, rule_of, plain_order, further_order, strict_order, plain_rules, strict_rules}
use Rattle.schedule.specs.declared.RuleRefusal.{RuleRefusal}
use Rattle.laws.proofs.MachineLaws.{getD_table}
use Rattle.laws.proofs.Sums.{greatest_ext}
use Rattle.tables.specs.Columns.{TableOf}
use Rattle.checks.specs.Tables.{after, waits_from, finish_of, from_of}
use Rattle.checks.specs.Rules.{order_of, grid_rules}
use Rattle.checks.proofs.EfeTable.{from-after}

-- the rules of a check are those of its order
pub in_order : (strict : Bool) (m : Model) (p : Plan)
    → rules_named (λ name. rule_of name m p) (order_of strict) ≡ grid_rules strict m p
unfolding plain_rules strict_rules
in_order true m p = refl
in_order false m p = refl

-- the plain check's order is the front of the strict check's
pub same_place : (strict : Bool) (k : ℕ) (any : RuleRefusal) → k < length (order_of strict)
    → get_or strict_order k any ≡ get_or (order_of strict) k any
same_place true k any l = refl
same_place false k any l = get_or-append plain_order further_order any k l

module _ (m : Model) (p : Plan) where
  -- the counts of a model's activities
  pub count-table : (counted : List ℕ) → m.activities ≤ 32 → counted ≡ table 32 (count_of m p) → TableOf m counted (count_of m p)
  count-table counted few e a l = ap (λ (x : List ℕ). get_or x a 0) e ∙ getD_table 0 32 (count_of m p) a (omega arith)

  -- the ticks from which activities can wait, from the other tables
  pub from-tables : (counted ended done opened : List ℕ) → TableOf m counted (count_of m p) → TableOf m ended p.end
      → TableOf m done (finish_of m p) → TableOf m opened (from_of m done counted ended) → TableOf m opened (waits_from m p)
  unfolding after
  from-tables counted ended done opened hc he hf h a l =
      h a l
      ∙ ap₂ max (omega (arith, hc a l, hf a l))
      (greatest_ext m.activities _ _ (λ b lb.
      ap (λ (x : ℕ). cond (temporally m b a) (x + m.delay b) (cond (by_data m b a) x 0)) (he b lb)))
      ∙ from-after m p a
