-- Rules tried in order, each over all its places before the next, and the first one that is broken.
-- Every refusal of 01 but 41, which names a length and no place, is such a rule, and so are those of 02 but that of an empty
-- file; so "first broken" is said once.
-- Assumes nothing.
use Rattle.std.specs.Prelude.{ℕ, ◌<◌, Bool, cond, List, [], ◌∷◌, ◌++◌, ◌⊎◌, ◌≡◌}
use Rattle.std.proofs.Math.Option.{Option, some, none}
use Rattle.schedule.specs.Bounded.{first}

-- A rule: its number in the paper, how many rows (A) and columns (B) it is tried at (1 where it names no A or no B),
-- what it says at a place, as the paper writes it, and the test that decides it there.
pub record Rule : Type 1 where
  pub number : ℕ
  pub rows : ℕ
  pub columns : ℕ
  pub Holds : ℕ → ℕ → Type 0
  pub test : ℕ → ℕ → Bool

-- "A refusal answers its number, A and B"
pub record Refusal : Type 0 where
  pub number : ℕ
  pub A : ℕ
  pub B : ℕ

-- the first place at which a rule's test fails: "lowest A first, then lowest B"
unfoldable pub break : Rule → Option Refusal
break r =
    first r.rows (λ a.
    first r.columns (λ b.
    cond (r.test a b) none (some (record { number = r.number; A = a; B = b }))))

-- the first break of the rules, "each tried over everything before the next"
unfoldable pub first_break : List Rule → Option Refusal
first_break [] = none
first_break (r ∷ rs) = elim (break r) [ some x ↦ some x | none ↦ first_break rs ]

-- the rules of a list of names, in its order, where a function gives the rule of a name
abbrev pub rules_named : {N : Type 0} → (N → Rule) → List N → List Rule
rules_named rule_of [] = []
rules_named rule_of (x ∷ xs) = rule_of x ∷ rules_named rule_of xs

-- a rule holds at each of its places
abbrev pub Everywhere : Rule → Type 0
Everywhere r = (a b : ℕ) → a < r.rows → b < r.columns → r.Holds a b

-- every rule of the list holds at each of its places
abbrev pub AllHold : List Rule → Type 0
AllHold [] = Unit {0}
AllHold (r ∷ rs) = Everywhere r × AllHold rs

-- place (a, b) comes before place (A, B)
abbrev pub Earlier : ℕ → ℕ → ℕ → ℕ → Type 0
Earlier a b A B = (a < A) ⊎ ((a ≡ A) × (b < B))

-- A rule is broken first at a refusal's place: it holds at every earlier place of its own, and fails at that one.
pub record BrokenAt (rule : Rule) (x : Refusal) : Type 0 where
  pub numbered : rule.number ≡ x.number
  pub in_row : x.A < rule.rows
  pub in_column : x.B < rule.columns
  pub earlier_places : (a b : ℕ) → a < rule.rows → b < rule.columns → Earlier a b x.A x.B → rule.Holds a b
  pub fails : ¬ rule.Holds x.A x.B

-- A refusal is the first break of a list of rules: the rules before the broken one hold everywhere.
pub record FirstBroken (rules : List Rule) (x : Refusal) : Type 1 where
  pub before : List Rule
  pub rule : Rule
  pub after : List Rule
  pub splits : rules ≡ before ++ (rule ∷ after)
  pub earlier_rules : AllHold before
  pub broken : BrokenAt rule x
