-- `exchange::bytes_of` meets its contract: the part of the file from the record's first byte on, which lies there. Assumes nothing.
use native.Mathlib.Nat.{add-sub_cancel_left}
use mathlib.Core.Path.{refl}
use Rattle.exchange.proofs.bytes_of.Goals as goal

pub returns : goal.returns
returns c = (rw (add-sub_cancel_left) refl, refl)
