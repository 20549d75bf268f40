-- `capi::grid_stands` meets its contract: the part of the record that stands, or the refusal, as exported. Assumes nothing.
use Rattle.std.proofs.Common.{rules}
use Rattle.std.specs.Prelude.{◌≡◌, Ok}
use mathlib.Core.Path.{sym, ap, ◌∙◌}
use Rattle.schedule.specs.declared.Side.{Side}
use Rattle.schedule.specs.Numbers.{standing_numbers}
use Rattle.capi.specs.Exported.{part_exported}
use Rattle.capi.proofs.PairLaws.{pair-placed, pair-refused}
use Rattle.capi.proofs.grid_stands.Goals as goal

pub returns-in-Ok-First : goal.returns-in-Ok-First
returns-in-Ok-First c =
    let told : c.which_stands.result ≡ Ok Side.First = search rules in
    let x = c.args in
    c.from.ensures
    ∙ ap part_exported (sym (pair-placed x.first.now x.second.now 0
    (sym c.which_stands.ensures ∙ ap standing_numbers told)))

pub returns-in-Ok-Second : goal.returns-in-Ok-Second
returns-in-Ok-Second c =
    let told : c.which_stands.result ≡ Ok Side.Second = search rules in
    let x = c.args in
    c.from-in-Ok-Second.ensures
    ∙ ap part_exported (sym (pair-placed x.first.now x.second.now 1
    (sym c.which_stands.ensures ∙ ap standing_numbers told)))

pub returns-in-Err : goal.returns-in-Err
returns-in-Err c =
    let x = c.args in
    c.from-in-Err.ensures
    ∙ ap part_exported (sym (pair-refused x.first.now x.second.now _
    (sym c.which_stands.ensures ∙ ap standing_numbers c.in-Err.is)))
