-- `form::head` meets its contract: each way out has the tests that led there, in the order of the rules.
-- Assumes nothing.
use Rattle.records.specs.Reads.{head_break}
use Rattle.records.proofs.Reading.{told_no, told-yes}
use Rattle.records.proofs.form.head.Goals as goal

pub returns-then-not-length_holds : goal.returns-then-not-length_holds
unfolding head_break
returns-then-not-length_holds c = rw (told_no c.length_holds.ensures c.if-not-length_holds.true) c.refused.ensures

pub returns-then-not-version_holds : goal.returns-then-not-version_holds
unfolding head_break
returns-then-not-version_holds c =
    rw (
      told-yes c.length_holds.ensures c.if-not-length_holds.false,
      told_no c.version_holds.ensures c.if-not-version_holds.true,
    ) c.refused-then-not-version_holds.ensures

pub returns-then-not-counts : goal.returns-then-not-counts
unfolding head_break
returns-then-not-counts c =
    rw (
      told-yes c.length_holds.ensures c.if-not-length_holds.false,
      told-yes c.version_holds.ensures c.if-not-version_holds.false,
      c.if-not-counts.true,
    ) c.refused-then-not-counts.ensures

pub returns-then-not-formula_holds : goal.returns-then-not-formula_holds
unfolding head_break
returns-then-not-formula_holds c =
    rw (
      told-yes c.length_holds.ensures c.if-not-length_holds.false,
      told-yes c.version_holds.ensures c.if-not-version_holds.false,
      c.if-not-counts.false,
      told_no c.formula_holds.ensures c.if-not-formula_holds.true,
    ) c.refused-then-not-formula_holds.ensures

pub returns : goal.returns
unfolding head_break
returns c =
    rw (
      told-yes c.length_holds.ensures c.if-not-length_holds.false,
      told-yes c.version_holds.ensures c.if-not-version_holds.false,
      c.if-not-counts.false,
      told-yes c.formula_holds.ensures c.if-not-formula_holds.false,
    )
