-- `model::page::activity_at` meets its contract, version by version.
-- Assumes nothing.
use native.Mathlib.Omega.{arith}
use mathlib.Core.Path.{refl}
use borrow.Author.Tests.{eq-eqb, ne_eqb}
use Rattle.records.proofs.model.page.activity_at.Goals as goal

pub returns-then-version-eq1 : goal.returns-then-version-eq1
returns-then-version-eq1 c = record {
  value = rw (← c.thread_at-first.ensures.value, eq-eqb _ _ c.if-version-eq1.true) refl;
  most = omega (arith, c.thread_at-first.ensures.most);
}

pub returns-then-version-eq2 : goal.returns-then-version-eq2
returns-then-version-eq2 c =
    let first = c.thread_at-first.ensures in
    record {
      value = rw (← first.value, ne_eqb _ _ c.if-version-eq1.false, eq-eqb _ _ c.if-version-eq2.true) refl;
      most = omega (arith, first.most);
    }

pub returns-else-version-eq2 : goal.returns-else-version-eq2
returns-else-version-eq2 c =
    let first = c.thread_at-first.ensures in
    record {
      value = rw (← first.value, ne_eqb _ _ c.if-version-eq1.false, ne_eqb _ _ c.if-version-eq2.false) refl;
      most = omega (arith, first.most);
    }
