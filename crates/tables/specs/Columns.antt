-- Tables by activity: what each column of the records holds.
-- Assumes nothing.
use Rattle.std.specs.Prelude.{ℕ, ◌<◌, Bool, ◌&&◌, cond, List, ◌≡◌, ltb, get_or}
use Rattle.schedule.specs.Bounded.{table, word_of}
use Rattle.schedule.specs.Model.{Model, model, priority_of, temporally, by_data}
use Rattle.schedule.specs.Choice.{choice}
use Rattle.schedule.specs.Plan.{plan}
use Rattle.tables.specs.declared.columns.Column.{Column}

-- a table holds f at each activity of the model
abbrev pub TableOf : Model → List ℕ → (ℕ → ℕ) → Type 0
TableOf m l f = (a : ℕ) → a < m.activities → get_or l a 0 ≡ f a

-- the table of 32 numbers that does, and is 0 from there on
unfoldable pub by_activity : Model → (ℕ → ℕ) → List ℕ
by_activity m f = table 32 (λ a. cond (ltb a m.activities) (f a) 0)

-- the word of the model's activities that have a property
unfoldable pub among_activities : Model → (ℕ → Bool) → ℕ
among_activities m p = word_of 32 (λ b. ltb b m.activities && p b)

-- what a column holds for activity a, from a model's bytes and a second record's, which is read as a choice or as a plan;
-- priority, release and period are looked up by the activity's thread
abbrev pub entry_of : Column → List ℕ → List ℕ → ℕ → ℕ
entry_of Column.Delay s r a = (model s).delay a
entry_of Column.Temporal s r a = among_activities (model s) (λ b. temporally (model s) b a)
entry_of Column.ByData s r a = among_activities (model s) (λ b. by_data (model s) b a)
entry_of Column.Width s r a = (model s).width a
entry_of Column.Priority s r a = priority_of (model s) a
entry_of Column.ChosenRelease s r a = (choice r).release ((model s).thread a)
entry_of Column.ChosenPeriod s r a = (choice r).period ((model s).thread a)
entry_of Column.ChosenDuration s r a = (choice r).duration a
entry_of Column.PlanStart s r a = (plan r).start a
entry_of Column.PlanEnd s r a = (plan r).end a

-- a column
unfoldable pub column_of : Column → List ℕ → List ℕ → List ℕ
column_of which s r = by_activity (model s) (entry_of which s r)
