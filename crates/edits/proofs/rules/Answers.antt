-- `edits::rules` meets its contract: each way out has the tests that led there. Assumes nothing.
use native.Mathlib.Omega.{arith}
use mathlib.Core.Path.{sym, ap, ◌∙◌}
use Rattle.schedule.specs.Bounded.{bit}
use Rattle.schedule.specs.Model.{model}
use Rattle.schedule.specs.Plan.{plan, active}
use Rattle.records.specs.declared.model.Sizes.{Sizes}
use Rattle.records.specs.Rows.{sizes_of}
use Rattle.edit_rules.proofs.AnswerLaws.{rules_58, rules_59, rules_60, rules-done}
use Rattle.edits.proofs.ScanLaws.{so, so_taken, so_free}
use Rattle.edits.proofs.rules.Goals as goal

pub returns-then-sizes-e : goal.returns-then-sizes-e
unfolding sizes_of
returns-then-sizes-e c =
    let x = c.args in
    sym (rules_58 (model x.s.now) (plan x.r.now) x.e
    (omega (arith, c.if-sizes-e.true, ap (λ (y : Sizes). y.activities) c.counts-sizes.ensures)))

pub returns-then-sizes-e-2 : goal.returns-then-sizes-e-2
unfolding sizes_of
returns-then-sizes-e-2 c =
    let x = c.args in
    sym (rules_59 (model x.s.now) (plan x.r.now) x.e
    (omega (arith, c.if-sizes-e.false, ap (λ (y : Sizes). y.activities) c.counts-sizes.ensures))
    (omega (arith, c.if-sizes-e-2.true, ap (λ (y : Sizes). y.horizon) c.counts-sizes.ensures)))

pub returns-then-already : goal.returns-then-already
unfolding sizes_of
returns-then-already c =
    let x = c.args in
    sym (rules_60 (model x.s.now) (plan x.r.now) x.e
    (omega (arith, c.if-sizes-e.false, ap (λ (y : Sizes). y.activities) c.counts-sizes.ensures))
    (omega (arith, c.if-sizes-e-2.false, ap (λ (y : Sizes). y.horizon) c.counts-sizes.ensures))
    (so_taken x.e.on (active (plan x.r.now) x.e.tick x.e.activity) c.already.result
    (c.already.ensures
    ∙ ap (so x.e.on) (c.has.ensures ∙ ap (λ w. bit w x.e.activity) c.word-word.ensures))
    c.if-already.true))

pub returns : goal.returns
unfolding sizes_of
returns c =
    let x = c.args in
    sym (rules-done (model x.s.now) (plan x.r.now) x.e
    (omega (arith, c.if-sizes-e.false, ap (λ (y : Sizes). y.activities) c.counts-sizes.ensures))
    (omega (arith, c.if-sizes-e-2.false, ap (λ (y : Sizes). y.horizon) c.counts-sizes.ensures))
    (so_free x.e.on (active (plan x.r.now) x.e.tick x.e.activity) c.already.result
    (c.already.ensures
    ∙ ap (so x.e.on) (c.has.ensures ∙ ap (λ w. bit w x.e.activity) c.word-word.ensures))
    c.if-already.false))
