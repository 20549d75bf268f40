-- Lists of rules that break alike, and answers by them.
-- Assumes nothing.
use mathlib.Core.List.{List, ◌∷◌, ◌++◌}
use mathlib.Core.Option.{Option, some, none}
use mathlib.Core.Path.{◌≡◌, refl, sym, ap, ap₂, ◌∙◌}
use Rattle.schedule.specs.Rule.{Rule, Refusal, break, first_break}
use Rattle.schedule.specs.Answers.{answer}
use Rattle.laws.proofs.FirstBreak.{append_none, append_some}

-- rules that break alike, one by one
pub cons_same : (r r' : Rule) (rs rs' : List Rule) → break r ≡ break r' → first_break rs ≡ first_break rs'
    → first_break (r ∷ rs) ≡ first_break (r' ∷ rs')
unfolding first_break
cons_same r r' rs rs' = ap₂ (λ (o rest : Option Refusal). elim o [ some x ↦ some x | none ↦ rest ])

-- Two lists behind two that break alike: what is made of their first breaks is the same if it is the same of every refusal, and of
-- the two lists where the rules before them are kept.
pub behind_same : {A : Type 0} (f g : Option Refusal → A) (before before' rs rs' : List Rule)
    → first_break before ≡ first_break before' → ((x : Refusal) → f (some x) ≡ g (some x))
    → (first_break before ≡ none → f (first_break rs) ≡ g (first_break rs'))
    → f (first_break (before ++ rs)) ≡ g (first_break (before' ++ rs'))
behind_same f g before before' rs rs' alike refusals same = by (first_break before) refl
  where
    by : (o : Option Refusal) → first_break before ≡ o → f (first_break (before ++ rs)) ≡ g (first_break (before' ++ rs'))
    by (some x) e = ap f (append_some before rs x e) ∙ refusals x ∙ sym (ap g (append_some before' rs' x (sym alike ∙ e)))
    by none e = ap f (append_none before rs e) ∙ same e ∙ sym (ap g (append_none before' rs' (sym alike ∙ e)))

-- so their answers are
pub answers_behind : {F : Type 0} (before before' rs rs' : List Rule) (pass pass' : F) → first_break before ≡ first_break before'
    → (first_break before ≡ none → answer (first_break rs) pass ≡ answer (first_break rs') pass')
    → answer (first_break (before ++ rs)) pass ≡ answer (first_break (before' ++ rs')) pass'
unfolding answer
answers_behind before before' rs rs' pass pass' alike =
    behind_same (λ o. answer o pass) (λ o. answer o pass') before before' rs rs' alike (λ x. refl)
