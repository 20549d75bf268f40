-- `run::plan::write_front` meets its contract: the header and the two runs of rows, each behind the one before.
-- Assumes nothing.
use native.Mathlib.Omega.{arith}
use Prim.Native.Nat.{ℕ, ◌<◌}
use mathlib.Core.List.{List}
use mathlib.Core.Path.{◌≡◌, ap, ◌∙◌}
use lib.ListN.{drop, get_or}
use Rattle.schedule.specs.Bounded.{table}
use Rattle.laws.proofs.MachineLaws.{getD_table}
use Rattle.records.specs.Rows.{sizes_of}
use Rattle.records.specs.declared.model.Sizes.{Sizes}
use Rattle.run.specs.Front.{front_in}
use Rattle.run.proofs.PlanLaws.{front-says, start_le}
use Rattle.run.proofs.plan.write_front.Goals as goal

-- an entry of a table
started : (l : List ℕ) (f : ℕ → ℕ) → l ≡ table 32 f → (a : ℕ) → a < 32 → get_or l a 0 ≡ f a
started l f e a k = ap (λ (t : List ℕ). get_or t a 0) e ∙ getD_table 0 32 f a k

pub write_threads-requires : goal.write_threads-requires
unfolding sizes_of
write_threads-requires c =
    let en = ap (λ (r : Sizes). r.threads) c.counts-sizes.ensures in
    let em = ap (λ (r : Sizes). r.activities) c.counts-sizes.ensures in
    omega (arith, en, em, c.requires.room, c.put_head.auto.out)

pub write_activities-requires : goal.write_activities-requires
unfolding sizes_of
write_activities-requires c =
    let grid = drop c.grid_at.result c.args.out.now in
    let en = ap (λ (r : Sizes). r.threads) c.counts-sizes.ensures in
    let em = ap (λ (r : Sizes). r.activities) c.counts-sizes.ensures in (
      omega (arith, em, c.requires.formed.activities.1),
      omega (arith, en, em, c.requires.room, c.put_head.auto.out, c.write_threads.auto.out),
      λ a l. (
        omega (
          arith,
          started c.starts_from-firsts.result _ c.starts_from-firsts.ensures a (omega (arith, l, em, c.requires.formed.activities.1)),
          start_le grid c.counts-sizes.result.horizon a,
        ),
        c.requires.small a (omega (arith, em)),
      ),
    )

pub returns : goal.returns
unfolding sizes_of front_in
returns c =
    let en = ap (λ (r : Sizes). r.threads) c.counts-sizes.ensures in
    let em = ap (λ (r : Sizes). r.activities) c.counts-sizes.ensures in
    let whole = front-says _ _ _ _ _ _ _ _ c.args.out.now _ _ _ (omega (arith, en, em, c.requires.room))
    (λ a l. started c.starts_from-firsts.result _ c.starts_from-firsts.ensures a (omega (arith, l, em, c.requires.formed.activities.1)))
    c.put_head.ensures c.write_threads.ensures c.write_activities.ensures in
    rw (c.counts-sizes.ensures, c.grid_at.ensures) at whole
