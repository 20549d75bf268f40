-- `edits::apply` meets its contract: a refused call changes nothing, and any other makes its edit. Assumes nothing.
use Rattle.std.proofs.Common.{rules}
use Rattle.std.specs.Prelude.{◌≡◌, Err}
use mathlib.Core.Path.{sym, ap, ◌∙◌}
use Rattle.edit_rules.specs.EditNumbers.{edited_numbers}
use Rattle.edits.proofs.StrokeLaws.{refused-leaves, is_done, done_editable, done-leaves}
use Rattle.edits.proofs.apply.Goals as goal

pub returns-in_err-tried : goal.returns-in_err-tried
returns-in_err-tried c =
    let told : c.from_residual.result ≡ Err c.in_err-tried.field-0.0 = search rules in
    let x = c.args in (
      ap edited_numbers (told ∙ sym c.in_err-tried.was) ∙ c.tried.ensures,
      refused-leaves x.s.now x.r.now x.e _ c.tried.ensures _ c.in_err-tried.was,
    )

pub make-requires : goal.make-requires
make-requires c =
    let x = c.args in
    done_editable x.s.now x.r.now x.e
    (is_done x.s.now x.r.now x.e _ c.tried.ensures c.in_ok-tried.was)
    (λ i _. (c.slice_known-1.given i).fits)

pub returns : goal.returns
returns c =
    let x = c.args in
    let done = is_done x.s.now x.r.now x.e _ c.tried.ensures c.in_ok-tried.was in (
      sym done,
      c.make.ensures ∙ done-leaves x.s.now x.r.now x.e done,
    )
