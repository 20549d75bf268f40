-- `machine::play_ticks` meets its contract: at each tick the tables hold the machine's state, and the words written are its words.
-- Assumes nothing.
use Rattle.schedule.specs.Choice.{choice}
use Rattle.schedule.specs.Model.{model}
use Rattle.machine.specs.Stretches.{Lasts}
use Rattle.machine.proofs.PlayLaws.{Running}
use Rattle.machine.proofs.play_ticks.Given as goal

abbrev pub invariant-loop-t : goal.invariant-loop-t
invariant-loop-t l = record {
  running : Running (model l.s) (choice l.q) l.initial.grid l.grid l.state.owed l.state.ends l.t;
  lasts : Lasts l.tables l.state.owed l.state.ends l.kept l.t;
}
