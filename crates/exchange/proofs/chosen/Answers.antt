-- `exchange::chosen` meets its contract: the part that is answered, or an empty one, each where it lies in the file.
-- Assumes nothing.
use mathlib.Core.Path.{refl, sym, ap, ◌∙◌}
use Rattle.schedule.specs.Numbers.{chosen_numbers}
use Rattle.laws.proofs.FileRecords.{chosen_part, chosen-nothing}
use Rattle.exchange.proofs.chosen.Goals as goal

pub bytes_of-requires : goal.bytes_of-requires
bytes_of-requires c =
    (chosen_part c.args.file.now _
    (sym c.choose.ensures ∙ ap chosen_numbers c.in-Ok.is)).inside

pub returns-in-Ok : goal.returns-in-Ok
returns-in-Ok c =
    let file = c.args.file in
    let answered = sym c.choose.ensures ∙ ap chosen_numbers c.in-Ok.is in
    let part = chosen_part file.now _ answered in (
      c.bytes_of.ensures.0 ∙ sym (part.bytes ∙ part.lies),
      rw answered c.bytes_of.ensures.1,
    )

pub returns-in-Err : goal.returns-in-Err
returns-in-Err c =
    let file = c.args.file in
    let answered = sym c.choose.ensures ∙ ap chosen_numbers c.in-Err.is in (
      sym (chosen-nothing file.now _ answered).1,
      rw answered refl,
    )
