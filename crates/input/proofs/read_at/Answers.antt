-- Only the bytes that came are stored, and every byte behind them stays.
use Rattle.std.proofs.Common.{arith, rules}
use Rattle.std.proofs.lemmas.Grind.{common_steps}
use Rattle.std.proofs.lemmas.Slice.{overwrites}
use Rattle.input.proofs.read_at.Goals as goal

pub returns-clause-filled : goal.returns-clause-filled
returns-clause-filled g c = record {
  more = omega arith;
  filled = (grind (arith, common_steps, c.read_some.ensures.within, c.in_ok-more.ensures.cases, c.in_ok-more.ensures.variant), search (rules, overwrites));
}
