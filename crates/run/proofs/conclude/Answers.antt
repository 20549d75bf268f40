-- `run::conclude` meets its contract: a refusal clears the plan's bytes, a success writes what stands in front of the grid.
-- Assumes nothing.
use Prim.Native.Nat.{ℕ}
use native.Mathlib.Omega.{arith}
use mathlib.Core.List.{◌++◌}
use mathlib.Core.Path.{ap, ◌∙◌}
use lib.ListN.{drop, replicate}
use Rattle.schedule.specs.Fields.{Bytes}
use Rattle.schedule.specs.Answers.{length_needed}
use Rattle.laws.proofs.Ranges.{chosen-release_lt, chosen-period_lt}
use Rattle.machine.proofs.PlayLaws.{ended-refused, ended_success}
use Rattle.run.proofs.RunLaws.{refused-answers, accepted-answers, ends-small}
use Rattle.run.proofs.conclude.Goals as goal

pub returns-in-Refused : goal.returns-in-Refused
returns-in-Refused c =
    refused-answers _ _ _ _ _ (ended-refused _ _ _ _ c.requires.ended _ c.in-Refused.is)
    (c.clear.ensures ∙ ap (λ (k : ℕ). replicate k 0 ++ drop k c.args.out.now) c.needed-length.ensures)

pub write_front-requires : goal.write_front-requires
unfolding length_needed
write_front-requires c =
    let stands = c.requires in
    record {
      formed = stands.ended.formed;
      room = omega (arith, stands.room);
      small = ends-small _ _ _ _ _ stands;
    }

pub returns : goal.returns
returns c =
    let chosen : Bytes c.args.q.now = λ i _. (c.type_inv.q i).fits in
    accepted-answers _ _ _ _ _ _ _ _ (chosen-release_lt _ chosen) (chosen-period_lt _ chosen) c.requires
    (ended_success _ _ _ _ c.requires.ended c.in_default.not-Refused)
    c.needed-length.ensures c.write_front.ensures c.figures.ensures
