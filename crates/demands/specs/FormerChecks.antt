-- The checks as they were before U7 of 02: rules 28 to 31 of 01 count the ones in a word, every waiting activity counts in 29, 30
-- and 31, and usage is all ones. A plan's form rules and rules 21 to 27 are today's. A model's bytes are not read here: the verdicts
-- are by the form rules of its record and by the model that it says.
-- Assumes nothing.
use Rattle.std.specs.Prelude.{ℕ, ◌-◌, ◌*◌, ◌≤◌, ◌<◌, not, List, [], ◌∷◌, ◌++◌, ◌≡◌, T, eqb, leb, ltb}
use Rattle.schedule.specs.Bounded.{all, total, greatest, least, ones, ◌⇒◌}
use Rattle.schedule.specs.Rule.{Rule, first_break}
use Rattle.schedule.specs.Model.{Model, priority_of}
use Rattle.schedule.specs.Plan.{Plan, plan, plan_form, active}
use Rattle.schedule.specs.Checks.{Waiting, waits, rule21, rule22, rule23, rule25, rule26, rule27}
use Rattle.schedule.specs.Answers.{Answer, answer, Figures}

-- 28 at most c ones in the word. A tick.
unfoldable pub rule28 : Model → Plan → Rule
rule28 m p = record {
  number = 28;
  rows = m.horizon;
  columns = 1;
  Holds = λ t _. ones (p.word t) ≤ m.cores;
  test = λ t _. leb (ones (p.word t)) m.cores;
}

-- 29 with exactly c ones, no waiting B has a priority above an active one's. A tick.
unfoldable pub rule29 : Model → Plan → Rule
rule29 m p = record {
  number = 29;
  rows = m.horizon;
  columns = m.activities;
  Holds = λ t b. ones (p.word t) ≡ m.cores → Waiting m p t b
      → (a : ℕ) → a < m.activities → T (active p t a) → priority_of m b ≤ priority_of m a;
  test = λ t b. eqb (ones (p.word t)) m.cores ⇒ waits m p t b
      ⇒ all m.activities (λ a. active p t a ⇒ leb (priority_of m b) (priority_of m a));
}

-- 30 with fewer than c ones, nothing waits. A tick, B activity.
unfoldable pub rule30 : Model → Plan → Rule
rule30 m p = record {
  number = 30;
  rows = m.horizon;
  columns = m.activities;
  Holds = λ t b. ones (p.word t) < m.cores → ¬ Waiting m p t b;
  test = λ t b. ltb (ones (p.word t)) m.cores ⇒ not (waits m p t b);
}

-- 31 with exactly c ones, no waiting B has the priority of an active activity with a larger number. A tick.
unfoldable pub rule31 : Model → Plan → Rule
rule31 m p = record {
  number = 31;
  rows = m.horizon;
  columns = m.activities;
  Holds = λ t b. Waiting m p t b → ones (p.word t) ≡ m.cores
      → (a : ℕ) → a < m.activities → T (active p t a) → b < a → ¬ (priority_of m b ≡ priority_of m a);
  test = λ t b. waits m p t b ⇒ eqb (ones (p.word t)) m.cores
      ⇒ all m.activities (λ a. active p t a ⇒ ltb b a ⇒ not (eqb (priority_of m b) (priority_of m a)));
}

-- the rules of the plain and of the strict check, in the order in which they are tried
unfoldable pub plain_rules : Model → Plan → List Rule
plain_rules m p =
    rule21 m p
    ∷ rule22 m p
    ∷ rule23 m p
    ∷ rule25 m p
    ∷ rule26 m p
    ∷ rule27 m p
    ∷ rule28 m p
    ∷ rule29 m p
    ∷ []

unfoldable pub strict_rules : Model → Plan → List Rule
strict_rules m p = plain_rules m p ++ (rule30 m p ∷ rule31 m p ∷ [])

-- "A pass answers usage (all ones), c times H, makespan"
unfoldable pub figures : Model → Plan → Figures
figures m p = record {
  usage = total m.horizon (λ t. ones (p.word t));
  capacity = m.cores * m.horizon;
  makespan = greatest m.activities p.end - least m.threads p.release;
}

-- both verdicts on a model, its form rules in front, and a plan's bytes
unfoldable pub plain_verdict : List Rule → Model → List ℕ → Answer Figures
plain_verdict form m r =
    answer (first_break (form ++ (plan_form m r ++ plain_rules m (plan r)))) (figures m (plan r))

unfoldable pub strict_verdict : List Rule → Model → List ℕ → Answer Figures
strict_verdict form m r =
    answer (first_break (form ++ (plan_form m r ++ strict_rules m (plan r)))) (figures m (plan r))
