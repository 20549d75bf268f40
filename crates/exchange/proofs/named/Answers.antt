-- `exchange::named` meets its contract: in each case the slice that is handed on is the one that the answer names.
-- Assumes nothing.
use Rattle.std.proofs.Common.{rules}
use Rattle.std.specs.Prelude.{◌≡◌, Ok}
use Rattle.schedule.specs.declared.Side.{Side}
use mathlib.Core.Path.{refl}
use Rattle.exchange.proofs.named.Goals as goal

pub returns-in-Ok-First : goal.returns-in-Ok-First
returns-in-Ok-First c = let told : c.args.found ≡ Ok Side.First = search rules in rw told refl

pub returns-in-Ok-Second : goal.returns-in-Ok-Second
returns-in-Ok-Second c = let told : c.args.found ≡ Ok Side.Second = search rules in rw told refl

pub returns-in-Err : goal.returns-in-Err
returns-in-Err c = rw c.in-Err.is (refl, refl)
