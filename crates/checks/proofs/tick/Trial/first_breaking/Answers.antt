-- `checks::tick::Trial::first_breaking` meets its contract: what broke nothing is shown again, or the rule is tried.
-- Assumes nothing.
use mathlib.Core.Path.{sym, ◌∙◌}
use Rattle.checks.specs.Ticks.{breaking_of}
use Rattle.checks.proofs.TickLaws.{shown_again}
use Rattle.checks.proofs.tick.Trial.first_breaking.Goals as goal

pub returns-then-eq : goal.returns-then-eq
returns-then-eq c =
    let q = c.args.self.now in
    shown_again (λ tick. breaking_of q.rule q.widths q.outranked q.befores.now q.cores tick) c.args.tick c.args.passed
    (sym c.eq.ensures ∙ c.if-eq.true) c.requires
