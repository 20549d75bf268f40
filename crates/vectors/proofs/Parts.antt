-- The length that a printing call answers counts bytes at the start of the buffer that it leaves.
-- Assumes nothing.
use Rattle.std.proofs.Common.{ℕ, ◌≤◌, ◌≡◌, List, length, take, sym, arith}
use Rattle.std.proofs.lemmas.List.{length-take-le}
use Rattle.text.specs.Printed.{leaves, printed}
use Rattle.text.proofs.PrintedLaws.{printed_le}

pub counts-printed : (n : ℕ) (out text old : List ℕ) → length out ≡ length old → leaves n out ≡ printed text old
    → (n ≤ length out) × (n ≡ length (take n out))
counts-printed n out text old same e =
    let within : n ≤ length out = omega (arith, printed_le text old e) in
    (within, sym (length-take-le n out within))
