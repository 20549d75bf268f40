-- The record of one round of a model, written from its parts: of version 1 where every width is 1, and of version 3 where some
-- width is not.
-- Assumes nothing.
use Rattle.std.specs.Prelude.{ℕ, cond, List, [], ◌++◌, eqb}
use Rattle.schedule.specs.Bounded.{all, chain}
use Rattle.schedule.specs.Fields.{bytes}
use Rattle.schedule.specs.Rounds.{no_loop}
use Rattle.schedule.specs.Model.{Model, model_length}

-- "older models have width 1": the version of the record
unfoldable pub plain_version : Model → ℕ
plain_version m = cond (all m.activities (λ a. eqb (m.width a) 1)) 1 3

-- what version 3 has besides the bytes of version 1
abbrev pub later : ℕ → List ℕ → List ℕ
later version more = cond (eqb version 1) [] more

-- "least and most period, least and most release, priority, 2 bytes each"
abbrev pub thread_bytes : Model → ℕ → List ℕ
thread_bytes m j =
    bytes 2 (m.least_period j)
    ++ (bytes 2 (m.most_period j)
    ++ (bytes 2 (m.least_release j)
    ++ (bytes 2 (m.most_release j)
    ++ bytes 2 (m.priority j))))

-- "thread (1), least and most duration (2 each), delay (2), temporal mask (4), data mask (4)", and no loop and the width
abbrev pub activity_bytes : ℕ → Model → ℕ → List ℕ
activity_bytes version m a =
    bytes 1 (m.thread a)
    ++ (bytes 2 (m.least_duration a)
    ++ (bytes 2 (m.most_duration a)
    ++ (bytes 2 (m.delay a)
    ++ (bytes 4 (m.temporal_mask a)
    ++ (bytes 4 (m.data_mask a)
    ++ later version (bytes 1 no_loop ++ bytes 1 (m.width a)))))))

-- length, version, counts, one round and rows, in version 1 or 3
unfoldable pub round_bytes : ℕ → Model → List ℕ
round_bytes version m =
    bytes 4 (model_length version m.threads m.activities)
    ++ (bytes 1 version
    ++ (bytes 1 m.cores
    ++ (bytes 1 m.threads
    ++ (bytes 1 m.activities
    ++ (bytes 2 m.horizon
    ++ (later version (bytes 1 1)
    ++ (chain m.threads (thread_bytes m)
    ++ chain m.activities (activity_bytes version m))))))))

unfoldable pub model_bytes : Model → List ℕ
model_bytes m = round_bytes (plain_version m) m
