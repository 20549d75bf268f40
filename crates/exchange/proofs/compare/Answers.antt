-- `exchange::compare` meets its contract: each way out has the tests that led there. Assumes nothing.
use mathlib.Core.Path.{refl}
use Rattle.records.proofs.Reading.{told_no, told-yes}
use Rattle.exchange.proofs.RecordLaws.{compared_by, taken_above}
use Rattle.exchange.proofs.compare.Goals as goal

pub returns-then-not-wrapper_holds : goal.returns-then-not-wrapper_holds
returns-then-not-wrapper_holds c =
    let x = c.args in
    rw (compared_by x.x.now x.w.now, told_no c.wrapper_holds.ensures c.if-not-wrapper_holds.true) refl

pub returns-then-not-series_holds : goal.returns-then-not-series_holds
returns-then-not-series_holds c =
    let x = c.args in
    rw (
      compared_by x.x.now x.w.now,
      told-yes c.wrapper_holds.ensures c.if-not-wrapper_holds.false,
      told_no c.series_holds.ensures c.if-not-series_holds.true,
    ) refl

pub returns-then-not-copy_holds : goal.returns-then-not-copy_holds
returns-then-not-copy_holds c =
    let x = c.args in
    rw (
      compared_by x.x.now x.w.now,
      told-yes c.wrapper_holds.ensures c.if-not-wrapper_holds.false,
      told-yes c.series_holds.ensures c.if-not-series_holds.false,
      told_no c.copy_holds.ensures c.if-not-copy_holds.true,
    ) refl

pub returns : goal.returns
returns c =
    let x = c.args in
    rw (
      compared_by x.x.now x.w.now,
      told-yes c.wrapper_holds.ensures c.if-not-wrapper_holds.false,
      told-yes c.series_holds.ensures c.if-not-series_holds.false,
      told-yes c.copy_holds.ensures c.if-not-copy_holds.false,
    ) (taken_above _ _ c.outranks.ensures)
