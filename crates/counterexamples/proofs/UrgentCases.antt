-- "Urgent threads don't notice the others" (U3 of 02) on literal models and choices: where something is promised and the words
-- differ elsewhere, where nothing is promised, and claims that are nearly the request's, each with records on which it would
-- be false. Pages of one round, of two rounds with a loop, and of gangs. One table with one truth about it; the values are
-- worked out by hand.
-- Assumes nothing.
use Prim.Native.Nat.{ℕ}
use mathlib.Core.Bool.{Bool, true, false}
use mathlib.Core.List.{List, [], ◌∷◌, ◌++◌, map}
use mathlib.Core.Path.{◌≡◌, refl}
use Rattle.schedule.specs.Model.{Model, page, model}
use Rattle.schedule.specs.Choice.{Choice, choice}
use Rattle.schedule.specs.Answers.{Answer, Figures}
use Rattle.schedule.specs.Cases.{every, patch, accepts, refuses, words, run, Saying, verdict, numbers, said}
use Rattle.counterexamples.proofs.UrgentClaims.{
  Claim,
  asks,
  agree,
  requested,
  temporal_only,
  data_only,
  by_rows,
  preceded_above,
  releases_above,
  durations_above,
  above_everywhere,
  without_releases,
  without_durations,
  every_bit,
  by_number,
}

-- What a claim comes to, of a model, a P and two choices: whether what it asks for is given, and whether the bits that it
-- promises agree.
pub record Comes : Type 0 where
  pub given : Bool
  pub kept : Bool

abbrev comes : Claim → Model → ℕ → Choice → Choice → Comes
comes c m P q q' = record { given = asks c m P q q'; kept = agree c m P q q' }

-- it promises these bits, and they agree; it promises nothing, and they differ; it is false
abbrev holds : Comes
holds = record { given = true; kept = true }

abbrev silent : Comes
silent = record { given = false; kept = false }

abbrev fails : Comes
fails = record { given = true; kept = false }

-- What the machine makes of a choice: its words, and the run's verdict. None is of the model: each meets its form rules.
pub record Ran : Type 0 where
  pub words : Saying
  pub verdict : Saying

abbrev runs : List ℕ → Answer Figures → Ran
runs ws v = record { words = numbers ws; verdict = verdict v }

-- What is said of a model, a P and two choices: both runs, what the request's claim comes to, and what another does.
pub record Said : Type 0 where
  pub first : Ran
  pub second : Ran
  pub right : Comes
  pub instead : Comes

abbrev says : Ran → Ran → Comes → Comes → Said
says first second right instead = record { first = first; second = second; right = right; instead = instead }

pub record Case : Type 0 where
  pub model-bytes : List ℕ
  pub P : ℕ
  pub first : List ℕ
  pub second : List ℕ
  pub claim : Claim
  pub expected : Said

abbrev answered : Case → Said
answered c =
    let s : List ℕ = c.model-bytes in
    let comes-to : Claim → Comes = λ x. comes x (model s) c.P (choice c.first) (choice c.second) in
    record {
      first = record { words = said (words s c.first); verdict = said (run s c.first) };
      second = record { words = said (words s c.second); verdict = said (run s c.second) };
      right = comes-to requested;
      instead = comes-to c.claim;
    }

-- c 1, n 3, m 4, H 8. Every thread has period 1..65535 and release 0..9. Thread 0, sampling: priority 4. Thread 1, the alarm:
-- priority 7. Thread 2, logging: priority 1. Every duration is 1..9. Activity 0: logging. Activity 1: sampling, delay 1.
-- Activity 2: the alarm, temporal mask 2. Activity 3: logging, data mask 4.
abbrev board : List ℕ
board =
    (0 ∷ 0 ∷ 0 ∷ 100 ∷ 1 ∷ 1 ∷ 3 ∷ 4 ∷ 0 ∷ 8 ∷ [])
    ++ (0 ∷ 1 ∷ 255 ∷ 255 ∷ 0 ∷ 0 ∷ 0 ∷ 9 ∷ 0 ∷ 4 ∷ [])
    ++ (0 ∷ 1 ∷ 255 ∷ 255 ∷ 0 ∷ 0 ∷ 0 ∷ 9 ∷ 0 ∷ 7 ∷ [])
    ++ (0 ∷ 1 ∷ 255 ∷ 255 ∷ 0 ∷ 0 ∷ 0 ∷ 9 ∷ 0 ∷ 1 ∷ [])
    ++ (2 ∷ 0 ∷ 1 ∷ 0 ∷ 9 ∷ 0 ∷ 0 ∷ 0 ∷ 0 ∷ 0 ∷ 0 ∷ 0 ∷ 0 ∷ 0 ∷ 0 ∷ [])
    ++ (0 ∷ 0 ∷ 1 ∷ 0 ∷ 9 ∷ 0 ∷ 1 ∷ 0 ∷ 0 ∷ 0 ∷ 0 ∷ 0 ∷ 0 ∷ 0 ∷ 0 ∷ [])
    ++ (1 ∷ 0 ∷ 1 ∷ 0 ∷ 9 ∷ 0 ∷ 0 ∷ 0 ∷ 0 ∷ 0 ∷ 2 ∷ 0 ∷ 0 ∷ 0 ∷ 0 ∷ [])
    ++ (2 ∷ 0 ∷ 1 ∷ 0 ∷ 9 ∷ 0 ∷ 0 ∷ 0 ∷ 0 ∷ 0 ∷ 0 ∷ 0 ∷ 0 ∷ 0 ∷ 4 ∷ [])

-- the same with two cores
abbrev two_cores : List ℕ
two_cores = patch 5 (2 ∷ []) board

-- the alarm comes after sampling by data
abbrev alarm_by_data : List ℕ
alarm_by_data = patch 77 (0 ∷ 0 ∷ 0 ∷ 0 ∷ 0 ∷ 0 ∷ 0 ∷ 2 ∷ []) board

-- sampling comes after activity 0 of logging
abbrev after_logging : List ℕ
after_logging = patch 62 (0 ∷ 0 ∷ 0 ∷ 1 ∷ []) board

-- logging has the priority of sampling
abbrev level : List ℕ
level = patch 38 (0 ∷ 4 ∷ []) board

-- the choice with these releases of threads 0, 1 and 2 and these durations; every period is 8
abbrev choose : ℕ → ℕ → ℕ → ℕ → ℕ → ℕ → ℕ → List ℕ
choose r0 r1 r2 d0 d1 d2 d3 =
    (0 ∷ 0 ∷ 0 ∷ 27 ∷ 1 ∷ 3 ∷ 4 ∷ [])
    ++ (0 ∷ r0 ∷ 0 ∷ 8 ∷ 0 ∷ r1 ∷ 0 ∷ 8 ∷ 0 ∷ r2 ∷ 0 ∷ 8 ∷ [])
    ++ (0 ∷ d0 ∷ 0 ∷ d1 ∷ 0 ∷ d2 ∷ 0 ∷ d3 ∷ [])

-- sampling is released at 1, the others at 0
abbrev base : List ℕ
base = choose 1 0 0 2 2 1 1

abbrev base_runs : Ran
base_runs = runs (1 ∷ 2 ∷ 2 ∷ 1 ∷ 4 ∷ 8 ∷ 0 ∷ 0 ∷ []) (accepts 6 8 6)

-- logging is released at 3
abbrev later_logging : List ℕ
later_logging = choose 1 0 3 2 2 1 1

abbrev later-runs : Ran
later-runs = runs (0 ∷ 2 ∷ 2 ∷ 1 ∷ 4 ∷ 1 ∷ 8 ∷ 0 ∷ []) (accepts 6 8 7)

-- sampling lasts 3 ticks
abbrev longer_sampling : List ℕ
longer_sampling = choose 1 0 0 2 3 1 1

abbrev longer_runs : Ran
longer_runs = runs (1 ∷ 2 ∷ 2 ∷ 2 ∷ 1 ∷ 4 ∷ 8 ∷ 0 ∷ []) (accepts 7 8 7)

-- c 1, n 2, m 2, H 8, two rounds; no periods, releases 0. Thread 0, sampling: priority 5. Thread 1, logging: priority 1. Activity
-- 0: sampling, duration 1, loop byte 1: it comes after logging of the round before. Activity 1: logging, duration 1..3.
abbrev rounds : List ℕ
rounds =
    (0 ∷ 0 ∷ 0 ∷ 63 ∷ 2 ∷ 1 ∷ 2 ∷ 2 ∷ 0 ∷ 8 ∷ 2 ∷ [])
    ++ (0 ∷ 0 ∷ 0 ∷ 0 ∷ 0 ∷ 0 ∷ 0 ∷ 0 ∷ 0 ∷ 5 ∷ [])
    ++ (0 ∷ 0 ∷ 0 ∷ 0 ∷ 0 ∷ 0 ∷ 0 ∷ 0 ∷ 0 ∷ 1 ∷ [])
    ++ (0 ∷ 0 ∷ 1 ∷ 0 ∷ 1 ∷ 0 ∷ 0 ∷ 0 ∷ 0 ∷ 0 ∷ 0 ∷ 0 ∷ 0 ∷ 0 ∷ 0 ∷ 1 ∷ [])
    ++ (1 ∷ 0 ∷ 1 ∷ 0 ∷ 3 ∷ 0 ∷ 0 ∷ 0 ∷ 0 ∷ 0 ∷ 0 ∷ 0 ∷ 0 ∷ 0 ∷ 0 ∷ 255 ∷ [])

-- sampling comes after sampling of the round before
abbrev after-itself : List ℕ
after-itself = patch 46 (0 ∷ []) rounds

-- a choice for either, with a duration of logging in round 0; all others last 1 tick
abbrev logs_for : ℕ → List ℕ
logs_for d =
    (0 ∷ 0 ∷ 0 ∷ 31 ∷ 1 ∷ 4 ∷ 4 ∷ [])
    ++ (0 ∷ 0 ∷ 0 ∷ 0 ∷ 0 ∷ 0 ∷ 0 ∷ 0 ∷ 0 ∷ 0 ∷ 0 ∷ 0 ∷ 0 ∷ 0 ∷ 0 ∷ 0 ∷ [])
    ++ (0 ∷ 1 ∷ 0 ∷ d ∷ 0 ∷ 1 ∷ 0 ∷ 1 ∷ [])

-- c 3, n 3, m 3, H 8, one round; no periods, releases 0..9, durations 1..9. Thread 0, sampling: priority 7. Thread 1, logging:
-- priority 1. Thread 2, the spectrum: priority 4. Activity 0: logging. Activity 1: sampling. Activity 2: the spectrum, a gang
-- of width 3; the others have width 1.
abbrev gang : List ℕ
gang =
    (0 ∷ 0 ∷ 0 ∷ 92 ∷ 3 ∷ 3 ∷ 3 ∷ 3 ∷ 0 ∷ 8 ∷ 1 ∷ [])
    ++ (0 ∷ 0 ∷ 0 ∷ 0 ∷ 0 ∷ 0 ∷ 0 ∷ 9 ∷ 0 ∷ 7 ∷ [])
    ++ (0 ∷ 0 ∷ 0 ∷ 0 ∷ 0 ∷ 0 ∷ 0 ∷ 9 ∷ 0 ∷ 1 ∷ [])
    ++ (0 ∷ 0 ∷ 0 ∷ 0 ∷ 0 ∷ 0 ∷ 0 ∷ 9 ∷ 0 ∷ 4 ∷ [])
    ++ (1 ∷ 0 ∷ 1 ∷ 0 ∷ 9 ∷ 0 ∷ 0 ∷ 0 ∷ 0 ∷ 0 ∷ 0 ∷ 0 ∷ 0 ∷ 0 ∷ 0 ∷ 255 ∷ 1 ∷ [])
    ++ (0 ∷ 0 ∷ 1 ∷ 0 ∷ 9 ∷ 0 ∷ 0 ∷ 0 ∷ 0 ∷ 0 ∷ 0 ∷ 0 ∷ 0 ∷ 0 ∷ 0 ∷ 255 ∷ 1 ∷ [])
    ++ (2 ∷ 0 ∷ 1 ∷ 0 ∷ 9 ∷ 0 ∷ 0 ∷ 0 ∷ 0 ∷ 0 ∷ 0 ∷ 0 ∷ 0 ∷ 0 ∷ 0 ∷ 255 ∷ 3 ∷ [])

-- a core for each of the three
abbrev no_gang : List ℕ
no_gang = patch 91 (1 ∷ []) gang

-- a choice for either, with the release and the duration of logging and the duration of sampling; the spectrum lasts 2 ticks
abbrev beside : ℕ → ℕ → ℕ → List ℕ
beside r0 d0 d1 =
    (0 ∷ 0 ∷ 0 ∷ 25 ∷ 1 ∷ 3 ∷ 3 ∷ [])
    ++ (0 ∷ 0 ∷ 0 ∷ 0 ∷ 0 ∷ r0 ∷ 0 ∷ 0 ∷ 0 ∷ 0 ∷ 0 ∷ 0 ∷ [])
    ++ (0 ∷ d0 ∷ 0 ∷ d1 ∷ 0 ∷ 2 ∷ [])

abbrev cases : List Case
cases =
    -- logging moves, and the bits of sampling and of the alarm stand
    record {
      model-bytes = board;
      P = 4;
      first = base;
      second = later_logging;
      claim = every_bit;
      expected = says base_runs later-runs holds fails;
    }
    -- activity 0 lasts 65535 ticks and activity 3 none: outside their ranges, and never finished
    ∷ record {
      model-bytes = board;
      P = 4;
      first = base;
      second = patch 19 (255 ∷ 255 ∷ 0 ∷ 2 ∷ 0 ∷ 1 ∷ 0 ∷ 0 ∷ []) base;
      claim = every_bit;
      expected = says base_runs (runs (1 ∷ 2 ∷ 2 ∷ 1 ∷ 4 ∷ 1 ∷ 1 ∷ 1 ∷ []) (refuses 13 0 0)) holds fails;
    }
    -- logging is released at 65535, outside its range
    ∷ record {
      model-bytes = board;
      P = 4;
      first = base;
      second = patch 15 (255 ∷ 255 ∷ []) base;
      claim = every_bit;
      expected = says base_runs (runs (0 ∷ 2 ∷ 2 ∷ 0 ∷ 4 ∷ 0 ∷ 0 ∷ 0 ∷ []) (refuses 12 2 0)) holds fails;
    }
    -- the alarm follows sampling at once, before logging
    ∷ record {
      model-bytes = alarm_by_data;
      P = 4;
      first = base;
      second = later_logging;
      claim = every_bit;
      expected =
          says (runs (1 ∷ 2 ∷ 2 ∷ 4 ∷ 1 ∷ 8 ∷ 0 ∷ 0 ∷ []) (accepts 6 8 6))
          (runs (0 ∷ 2 ∷ 2 ∷ 4 ∷ 1 ∷ 1 ∷ 8 ∷ 0 ∷ []) (accepts 6 8 7)) holds fails;
    }
    -- two cores, and a P that no thread has
    ∷ record {
      model-bytes = two_cores;
      P = 3;
      first = base;
      second = later_logging;
      claim = every_bit;
      expected =
          says (runs (1 ∷ 3 ∷ 2 ∷ 0 ∷ 4 ∷ 8 ∷ 0 ∷ 0 ∷ []) (accepts 6 16 6))
          (runs (0 ∷ 2 ∷ 2 ∷ 1 ∷ 5 ∷ 8 ∷ 0 ∷ 0 ∷ []) (accepts 6 16 6)) holds fails;
    }
    -- P above all priorities: nothing is asked for and nothing promised
    ∷ record {
      model-bytes = board;
      P = 8;
      first = base;
      second = choose 5 6 7 9 9 9 9;
      claim = every_bit;
      expected = says base_runs (runs (0 ∷ 0 ∷ 0 ∷ 0 ∷ 0 ∷ 2 ∷ 2 ∷ 2 ∷ []) (refuses 42 0 0)) holds fails;
    }
    -- P below all: two choices that differ in every period give the same words
    ∷ record {
      model-bytes = board;
      P = 0;
      first = base;
      second = patch 7 (0 ∷ 1 ∷ 255 ∷ 255 ∷ 0 ∷ 0 ∷ 0 ∷ 1 ∷ 0 ∷ 0 ∷ 0 ∷ 9 ∷ []) base;
      claim = every_bit;
      expected = says base_runs (runs (1 ∷ 2 ∷ 2 ∷ 1 ∷ 4 ∷ 8 ∷ 0 ∷ 0 ∷ []) (refuses 43 2 0)) holds holds;
    }
    -- P below all: everything has to agree
    ∷ record {
      model-bytes = board;
      P = 0;
      first = base;
      second = later_logging;
      claim = without_releases;
      expected = says base_runs later-runs silent fails;
    }
    -- P at the lowest priority, which is logging's
    ∷ record {
      model-bytes = board;
      P = 1;
      first = base;
      second = later_logging;
      claim = releases_above;
      expected = says base_runs later-runs silent fails;
    }
    -- sampling, which is below 7, precedes the alarm
    ∷ record {
      model-bytes = board;
      P = 7;
      first = base;
      second = longer_sampling;
      claim = data_only;
      expected = says base_runs longer_runs silent fails;
    }
    -- the same by data
    ∷ record {
      model-bytes = alarm_by_data;
      P = 7;
      first = base;
      second = longer_sampling;
      claim = temporal_only;
      expected =
          says (runs (1 ∷ 2 ∷ 2 ∷ 4 ∷ 1 ∷ 8 ∷ 0 ∷ 0 ∷ []) (accepts 6 8 6))
          (runs (1 ∷ 2 ∷ 2 ∷ 2 ∷ 4 ∷ 1 ∷ 8 ∷ 0 ∷ []) (accepts 7 8 7)) silent fails;
    }
    -- logging precedes sampling, which is at 4
    ∷ record {
      model-bytes = after_logging;
      P = 4;
      first = base;
      second = later_logging;
      claim = preceded_above;
      expected =
          says (runs (1 ∷ 1 ∷ 2 ∷ 2 ∷ 0 ∷ 4 ∷ 8 ∷ 0 ∷ []) (accepts 6 8 7))
          (runs (0 ∷ 0 ∷ 0 ∷ 1 ∷ 1 ∷ 2 ∷ 2 ∷ 0 ∷ []) (refuses 42 2 0)) silent fails;
    }
    -- sampling, at 4, lasts longer, and precedes the alarm
    ∷ record {
      model-bytes = board;
      P = 4;
      first = base;
      second = longer_sampling;
      claim = above_everywhere;
      expected = says base_runs longer_runs silent fails;
    }
    -- logging, at 4 too and with the lower number, lasts longer, and sampling has to wait
    ∷ record {
      model-bytes = level;
      P = 4;
      first = base;
      second = choose 1 0 0 3 2 1 1;
      claim = durations_above;
      expected =
          says (runs (1 ∷ 1 ∷ 2 ∷ 2 ∷ 0 ∷ 4 ∷ 8 ∷ 0 ∷ []) (accepts 6 8 7))
          (runs (1 ∷ 1 ∷ 1 ∷ 2 ∷ 2 ∷ 0 ∷ 4 ∷ 8 ∷ []) (accepts 7 8 8)) silent fails;
    }
    -- the alarm lasts longer, and is above 4
    ∷ record {
      model-bytes = board;
      P = 4;
      first = base;
      second = choose 1 0 0 2 2 2 1;
      claim = without_durations;
      expected = says base_runs (runs (1 ∷ 2 ∷ 2 ∷ 1 ∷ 4 ∷ 4 ∷ 8 ∷ 0 ∷ []) (accepts 7 8 7)) silent fails;
    }
    -- activities 0 and 1 have the numbers of threads 0 and 1, which are at or above 4, and activity 2, the alarm, that of
    -- logging; no thread has number 3, and what stands behind the thread rows reads as priority 0
    ∷ record {
      model-bytes = board;
      P = 4;
      first = choose 1 0 0 4 2 1 1;
      second = choose 1 0 0 4 2 2 1;
      claim = by_number;
      expected =
          says (runs (1 ∷ 2 ∷ 2 ∷ 1 ∷ 4 ∷ 1 ∷ 1 ∷ 8 ∷ []) (accepts 8 8 8))
          (runs (1 ∷ 2 ∷ 2 ∷ 1 ∷ 4 ∷ 4 ∷ 1 ∷ 1 ∷ []) (refuses 42 3 0)) silent fails;
    }
    -- two rounds: logging of round 0 precedes sampling of round 1 by the loop byte, and no row has a bit in its masks
    ∷ record {
      model-bytes = rounds;
      P = 5;
      first = logs_for 1;
      second = logs_for 3;
      claim = by_rows (page rounds);
      expected =
          says (runs (1 ∷ 2 ∷ 4 ∷ 8 ∷ 0 ∷ 0 ∷ 0 ∷ 0 ∷ []) (accepts 4 8 4))
          (runs (1 ∷ 2 ∷ 2 ∷ 2 ∷ 4 ∷ 8 ∷ 0 ∷ 0 ∷ []) (accepts 6 8 6)) silent fails;
    }
    -- sampling of round 0 does, and logging moves alone
    ∷ record {
      model-bytes = after-itself;
      P = 5;
      first = logs_for 1;
      second = logs_for 3;
      claim = every_bit;
      expected =
          says (runs (1 ∷ 4 ∷ 2 ∷ 8 ∷ 0 ∷ 0 ∷ 0 ∷ 0 ∷ []) (accepts 4 8 4))
          (runs (1 ∷ 4 ∷ 2 ∷ 2 ∷ 2 ∷ 8 ∷ 0 ∷ 0 ∷ []) (accepts 6 8 6)) holds fails;
    }
    -- logging runs beside sampling, where the gang does not fit, and the gang does not notice it
    ∷ record {
      model-bytes = gang;
      P = 4;
      first = beside 0 3 2;
      second = beside 1 1 2;
      claim = every_bit;
      expected =
          says (runs (3 ∷ 3 ∷ 4 ∷ 4 ∷ 1 ∷ 0 ∷ 0 ∷ 0 ∷ []) (accepts 11 24 5))
          (runs (2 ∷ 3 ∷ 4 ∷ 4 ∷ 0 ∷ 0 ∷ 0 ∷ 0 ∷ []) (accepts 9 24 4)) holds fails;
    }
    -- Activity 0, logging, has the number of sampling's thread, and activity 1, which lasts longer, that of logging's. With a
    -- core for each nobody notices that; a gang that waits until sampling ends does, and logging with it.
    ∷ record {
      model-bytes = no_gang;
      P = 4;
      first = beside 0 3 2;
      second = beside 0 3 3;
      claim = by_number;
      expected =
          says (runs (7 ∷ 7 ∷ 1 ∷ 0 ∷ 0 ∷ 0 ∷ 0 ∷ 0 ∷ []) (accepts 7 24 3))
          (runs (7 ∷ 7 ∷ 3 ∷ 0 ∷ 0 ∷ 0 ∷ 0 ∷ 0 ∷ []) (accepts 8 24 3)) silent holds;
    }
    ∷ record {
      model-bytes = gang;
      P = 4;
      first = beside 0 3 2;
      second = beside 0 3 3;
      claim = by_number;
      expected =
          says (runs (3 ∷ 3 ∷ 4 ∷ 4 ∷ 1 ∷ 0 ∷ 0 ∷ 0 ∷ []) (accepts 11 24 5))
          (runs (3 ∷ 3 ∷ 3 ∷ 4 ∷ 4 ∷ 0 ∷ 0 ∷ 0 ∷ []) (accepts 12 24 5)) silent fails;
    }
    ∷ []

pub urgent_cases : map answered cases ≡ map (λ c. c.expected) cases
unfolding every
urgent_cases = refl
