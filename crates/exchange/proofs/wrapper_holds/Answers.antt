-- `exchange::wrapper_holds` meets its contract: each way out has the tests that led there, in the order of 54's causes.
-- Assumes nothing.
use borrow.Author.Tests.{eq-eqb, ne_eqb, le-leb, lt-leb}
use Rattle.schedule.specs.Exchange.{wrapper_rule}
use Rattle.exchange.proofs.RecordLaws.{right_by}
use Rattle.exchange.proofs.wrapper_holds.Goals as goal

pub returns-then-w-lt-WRAPPER : goal.returns-then-w-lt-WRAPPER
unfolding wrapper_rule
returns-then-w-lt-WRAPPER c = simp (right_by c.args.w.now, lt-leb _ _ c.if-w-lt-WRAPPER.true)

pub returns-then-be32-w : goal.returns-then-be32-w
unfolding wrapper_rule
returns-then-be32-w c =
    simp (
      right_by c.args.w.now,
      le-leb _ _ c.if-w-lt-WRAPPER.false,
      ← c.be32.ensures,
      ne_eqb _ _ c.if-be32-w.true,
    )

pub returns-then-byte-ne1 : goal.returns-then-byte-ne1
unfolding wrapper_rule
returns-then-byte-ne1 c =
    simp (
      right_by c.args.w.now,
      le-leb _ _ c.if-w-lt-WRAPPER.false,
      ← c.be32.ensures,
      eq-eqb _ _ c.if-be32-w.false,
      ← c.byte.ensures,
      ne_eqb _ _ c.if-byte-ne1.true,
    )

pub returns-then-withdrawn-gt1 : goal.returns-then-withdrawn-gt1
unfolding wrapper_rule
returns-then-withdrawn-gt1 c =
    simp (
      right_by c.args.w.now,
      le-leb _ _ c.if-w-lt-WRAPPER.false,
      ← c.be32.ensures,
      eq-eqb _ _ c.if-be32-w.false,
      ← c.byte.ensures,
      eq-eqb _ _ c.if-byte-ne1.false,
      ← c.withdrawn.ensures,
      lt-leb _ _ c.if-withdrawn-gt1.true,
    )

pub returns : goal.returns
unfolding wrapper_rule
returns c =
    simp (
      right_by c.args.w.now,
      le-leb _ _ c.if-w-lt-WRAPPER.false,
      ← c.be32.ensures,
      eq-eqb _ _ c.if-be32-w.false,
      ← c.byte.ensures,
      eq-eqb _ _ c.if-byte-ne1.false,
      ← c.withdrawn.ensures,
      le-leb _ _ c.if-withdrawn-gt1.false,
      c.model_holds.ensures,
    )
