-- `fields::split` meets its contract. Each shift moves one of the four bytes to the end.
-- Assumes nothing.
use Rattle.fields.proofs.PutLaws.{four_bytes}
use Rattle.fields.proofs.split.Goals as goal

pub returns : goal.returns
returns c =
    rw (c.last_byte.ensures, c.last_byte-2.ensures, c.last_byte-3.ensures, c.last_byte-4.ensures) (four_bytes c.args.v)
