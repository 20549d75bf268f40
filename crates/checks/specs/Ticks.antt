-- Rules 28 to 31 at a tick, on whole words: the waiting that count, and those that break a rule.
-- Assumes nothing.
use Rattle.std.specs.Prelude.{ℕ, Bool, ◌&&◌, not, cond, List, ◌≡◌, eqb, leb, ltb, get_or}
use Rattle.std.specs.Int.Bits.{bit_and}
use Rattle.schedule.specs.Bounded.{all, bit, with_bit, word_of}
use Rattle.schedule.specs.Model.{Model, priority_of}
use Rattle.schedule.specs.Plan.{Plan}
use Rattle.schedule.specs.Rule.{Rule}
use Rattle.schedule.specs.Checks.{contends, rule_of}
use Rattle.schedule.specs.declared.TickRule.{TickRule}
use Rattle.schedule.specs.declared.RuleRefusal.{RuleRefusal}
use Rattle.tables.specs.declared.loads.Widths.{Widths}
use Rattle.tables.specs.declared.ranking.Order.{Order}
use Rattle.tables.specs.Loads.{load_from}
use Rattle.tables.specs.Ranking.{ranks, ranking_of}
use Rattle.checks.specs.declared.tick.Snapshot.{Snapshot}
use Rattle.checks.specs.Windows.{without}

-- rules 28 to 31 by name
abbrev pub tick_rule : TickRule → Model → Plan → Rule
tick_rule rule = rule_of (RuleRefusal.Tick rule)

-- ---- who outranks whom

-- p holds of some i < n
unfoldable pub any : ℕ → (ℕ → Bool) → Bool
any n p = not (all n (λ i. not (p i)))

-- the activities that come before a in a sense
unfoldable pub rank_mask : Model → Order → ℕ → ℕ
rank_mask m order a = word_of m.activities (λ b. ranks order (priority_of m) b a)

-- the activities that stand in the mask of some activity of the word
unfoldable pub outranking : ℕ → (ℕ → ℕ) → ℕ → ℕ
outranking n mask word = word_of 32 (λ b. any n (λ a. bit word a && bit (mask a) b))

-- the same from a table of masks
unfoldable pub outranking_of : List ℕ → ℕ → ℕ
outranking_of masks word = outranking 32 (λ a. get_or masks a 0) word

-- the masks by which 29 and 31 compare a waiting activity; the others compare none
abbrev pub Ranked : TickRule → Model → List ℕ → Type 0
Ranked TickRule.Cores m masks = Unit
Ranked TickRule.Preemption m masks = masks ≡ ranking_of Order.Higher m
Ranked TickRule.Idle m masks = Unit
Ranked TickRule.Tie m masks = masks ≡ ranking_of Order.Level m

-- ---- the waiting that count

-- those of a model and a plan at tick t
unfoldable pub contending_mask : Model → Plan → ℕ → ℕ
contending_mask m p t = word_of m.activities (contends m p t)

-- whether activity b and the active ones that rank before it, by a table of masks, take no more than c cores
unfoldable pub fits_from : Widths → List ℕ → ℕ → ℕ → ℕ → Bool
fits_from widths befores word c b = leb (load_from widths (with_bit (bit_and word (get_or befores b 0)) b)) c

-- those of a word that do
unfoldable pub contending_of : Widths → List ℕ → ℕ → ℕ → ℕ → ℕ
contending_of widths befores word c waiting = word_of 32 (λ b. bit waiting b && fits_from widths befores word c b)

-- ---- the activities that break a rule at a tick

-- those that wait
abbrev pub waiting_in : Snapshot → ℕ
waiting_in tick = without tick.opened tick.word

-- 28, which names none
unfoldable pub overloaded_of : Widths → ℕ → Snapshot → ℕ
overloaded_of widths c tick = cond (leb (load_from widths tick.word) c) 0 1

-- 29 and 31
unfoldable pub contested_of : Widths → List ℕ → List ℕ → ℕ → Snapshot → ℕ
contested_of widths outranked befores c tick =
    cond (eqb (load_from widths tick.word) c)
    (contending_of widths befores tick.word c (bit_and (waiting_in tick) (outranking_of outranked tick.word))) 0

-- 30
unfoldable pub idle_of : Widths → List ℕ → ℕ → Snapshot → ℕ
idle_of widths befores c tick =
    cond (ltb (load_from widths tick.word) c) (contending_of widths befores tick.word c (waiting_in tick)) 0

abbrev pub breaking_of : TickRule → Widths → List ℕ → List ℕ → ℕ → Snapshot → ℕ
breaking_of TickRule.Cores widths outranked befores c tick = overloaded_of widths c tick
breaking_of TickRule.Preemption widths outranked befores c tick = contested_of widths outranked befores c tick
breaking_of TickRule.Idle widths outranked befores c tick = idle_of widths befores c tick
breaking_of TickRule.Tie widths outranked befores c tick = contested_of widths outranked befores c tick
