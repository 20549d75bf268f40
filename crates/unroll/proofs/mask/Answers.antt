-- `mask` meets its contract: a word that is moved by 32 or more has no bit left.
-- Assumes nothing.
use Prim.Native.Nat.{ℕ, ◌*◌, ◌%◌, ◌^◌, ◌<◌}
use native.Mathlib.Omega.{arith}
use mathlib.Core.Path.{◌≡◌, sym, ap, ◌∙◌}
use Rattle.std.proofs.Common.{Option, None, Some}
use Rattle.std.specs.Option.{SomeIff, unwrap_or}
use Rattle.laws.proofs.RoundLaws.{moved_out}
use Rattle.unroll.proofs.mask.Goals as goal

shifted : (mask by : ℕ) (r : Option ℕ) → SomeIff r (by < 32) (mask * 2 ^ by % 2 ^ 32) → unwrap_or r 0 ≡ mask * 2 ^ by % 2 ^ 32
shifted mask by None h = sym (moved_out mask by (omega arith))
shifted mask by (Some x) h = h.1

pub returns : goal.returns
returns c =
    let x = c.args in
    c.unwrap_or.ensures
    ∙ shifted x.mask c.times.result c.checked_shl.result c.checked_shl.ensures
    ∙ ap (λ (by : ℕ). x.mask * 2 ^ by % 2 ^ 32) c.times.ensures.value
