-- `checks::tick::Trial::contending` meets its contract: the waiting passed are sifted by whether they fit. Assumes nothing.
use Rattle.checks.specs.Ticks.{fits_from}
use Rattle.checks.proofs.WordLoops.{Sifted}
use Rattle.checks.proofs.tick.Trial.contending.Given as goal

abbrev pub invariant-loop-rest : goal.invariant-loop-rest
invariant-loop-rest l = Sifted l.waiting l.rest l.mask (fits_from l.self.widths l.self.befores.now l.word l.self.cores)

abbrev pub decreases-loop-rest : goal.decreases-loop-rest
decreases-loop-rest l = l.rest
