-- `checks::page::Page::window_holds` meets its contract, by the tests in turn. Assumes nothing.
use mathlib.Core.Bool.{not, not-not}
use mathlib.Core.Path.{sym, ap, ◌∙◌}
use Rattle.std.proofs.Common.{rules}
use Rattle.checks.proofs.ActivityLaws.{window-row}
use Rattle.checks.proofs.page.Page.window_holds.Goals as goal
use Rattle.checks.proofs.page.Page.window_holds.Goals.{then-spans, else-spans, then-has, else-has}

pub returns-then-has-2 : goal.returns-then-has-2
returns-then-has-2 c =
    let page = c.args.self.now in
    elim c.if-spans.branch [
      | then-spans w ↦ elim c.if-has.branch [
        | then-has v ↦
            rw (
              window-row page.s.now page.r.now _ _ _ c.activity_row-row.ensures c.counts-sizes.ensures,
              ← c.spans.ensures,
              w.if-spans.true,
              ← w.word.ensures,
              ← w.has.ensures,
              sym w.value-is ∙ v.if-has.true,
              ← v.word-then-has.ensures,
              ← v.has-then-has.ensures,
              sym v.value-is ∙ c.if-has-2.true,
            )
            (ap not (c.has-then-has-2.ensures ∙ page.counted.strays c.args.a.0 c.requires) ∙ not-not _)
        | else-has v ↦ search rules
      ]
      | else-spans w ↦ elim c.if-has.branch [ then-has v ↦ search rules | else-has v ↦ search rules ]
    ]

pub returns-else-has-2 : goal.returns-else-has-2
returns-else-has-2 c =
    let page = c.args.self.now in
    let shape = window-row page.s.now page.r.now _ _ _ c.activity_row-row.ensures c.counts-sizes.ensures in
    elim c.if-spans.branch [
      | then-spans w ↦ elim c.if-has.branch [
        | then-has v ↦
            rw (
              shape,
              ← c.spans.ensures,
              w.if-spans.true,
              ← w.word.ensures,
              ← w.has.ensures,
              sym w.value-is ∙ v.if-has.true,
              ← v.word-then-has.ensures,
              ← v.has-then-has.ensures,
              sym v.value-is ∙ c.if-has-2.false,
            )
            c.if-has-2.false
        | else-has v ↦
            rw (
              shape,
              ← c.spans.ensures,
              w.if-spans.true,
              ← w.word.ensures,
              ← w.has.ensures,
              sym w.value-is ∙ v.if-has.false,
            )
            c.if-has-2.false
      ]
      | else-spans w ↦ elim c.if-has.branch [
        | then-has v ↦ search rules
        | else-has v ↦ rw (shape, ← c.spans.ensures, w.if-spans.false) c.if-has-2.false
      ]
    ]
