-- `run::plan::starts` meets its contract: what was seen has its first tick, the rest none so far.
-- Assumes nothing.
use Rattle.schedule.specs.Plan.{word_in}
use Rattle.run.proofs.StartLaws.{Seen}
use Rattle.run.proofs.plan.starts.Given as goal

abbrev pub invariant-loop-t : goal.invariant-loop-t
invariant-loop-t l = Seen (word_in l.grid) l.h l.t l.seen l.firsts
