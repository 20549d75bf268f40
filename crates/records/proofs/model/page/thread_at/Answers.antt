-- `model::page::thread_at` meets its contract, version by version.
-- Assumes nothing.
use native.Mathlib.Omega.{arith}
use mathlib.Core.Path.{refl}
use borrow.Author.Tests.{eq-eqb, ne_eqb}
use Rattle.records.proofs.model.page.thread_at.Goals as goal

pub returns-then-version-eq1 : goal.returns-then-version-eq1
returns-then-version-eq1 c = record {
  value = rw (eq-eqb _ _ c.if-version-eq1.true) refl;
  most = omega arith;
}

pub returns-else-version-eq1 : goal.returns-else-version-eq1
returns-else-version-eq1 c = record {
  value = rw (ne_eqb _ _ c.if-version-eq1.false) refl;
  most = omega arith;
}
