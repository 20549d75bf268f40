-- The bytes that the programs read, split into two records, and the held view of a plan's grid.
-- Assumes nothing.
use Rattle.std.specs.Prelude.{ℕ, Bool, ◌&&◌, cond, List, [], ◌++◌, leb, ltb, length, take, drop}
use Rattle.std.proofs.Math.Option.{Option, some, none}
use Rattle.schedule.specs.Fields.{field}
use Rattle.schedule.specs.Rule.{Refusal, first_break}
use Rattle.schedule.specs.Model.{model, model_form}
use Rattle.schedule.specs.Plan.{plan, plan_form}

-- "Both read at most 17,189 bytes of standard input and take them as all there is"
abbrev pub input_limit : ℕ
input_limit = 17189

unfoldable pub taken : List ℕ → List ℕ
taken input = take input_limit input

-- "With 4 bytes or more and a first length L no greater than what was read"; L may be 0 to 3
unfoldable pub splits : List ℕ → Bool
splits s = leb 4 (length s) && leb (field s 0 4) (length s)

-- "the first record, L bytes, .. and the rest is the second. Otherwise everything is the first and the second is empty"
unfoldable pub first_record : List ℕ → List ℕ
first_record s = cond (splits s) (take (field s 0 4) s) s

unfoldable pub second_record : List ℕ → List ℕ
second_record s = cond (splits s) (drop (field s 0 4) s) []

-- what a held view gives at a tick
pub data WordOrPast : Type 0 where
  word : ℕ → WordOrPast
  past : WordOrPast

-- the making of a view is "refused with the number, A and B that the check gives", by the form rules of both records only
unfoldable pub view_refusal : List ℕ → List ℕ → Option Refusal
view_refusal s r = first_break (model_form s ++ plan_form (model s) r)

-- "the view left by that gives past at every tick"
abbrev pub or_past : Option Refusal → WordOrPast → WordOrPast
or_past none w = w
or_past (some x) w = past

-- "it gives the word at a tick, or past for a tick ≥ H"
unfoldable pub view_word : List ℕ → List ℕ → ℕ → WordOrPast
view_word s r t = or_past (view_refusal s r) (cond (ltb t (plan r).horizon) (word ((plan r).word t)) past)
