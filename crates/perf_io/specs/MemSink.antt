-- inner
-- A place in memory for bytes. This project's own profile of reading and writing.
use Rattle.std.specs.Prelude.{ℕ, ◌-◌, ◌<◌, ◌≤◌, ◌⊎◌, List, ◌++◌, length, take, min, Contains}
use Rattle.perf_io.specs.{Counts.{count_after}, Outside.{Flushes}}

-- What a contract sees of such a sink.
pub record SinkState : Type 0 where
  -- The bytes that it holds.
  pub held : List ℕ
  -- How often it was flushed, and how many it held when the last flush that did not fail came, 0 before the first.
  pub flushed : Flushes
  -- The most bytes that one write adds, at least 1.
  pub piece : ℕ
  -- The numbers of the calls that fail. A flush is a call too.
  pub fail : List ℕ
  -- The most bytes that it ever holds.
  pub room : ℕ
  -- The number of the next call, counted from 0. It stays at `last_count`.
  pub calls : ℕ
  -- How many calls failed, a count that stays at `last_count`.
  pub faults : ℕ

-- A write of these bytes fails: its call is listed, or there is something to add and no room left.
abbrev pub FailsToWrite : SinkState → List ℕ → Type 0
FailsToWrite sink bytes = Contains sink.fail sink.calls ⊎ ((0 < length bytes) × (sink.room ≤ length sink.held))

-- How many of so many bytes a write adds, where it does not fail.
abbrev pub write_count : SinkState → ℕ → ℕ
write_count sink offered = min offered (min sink.piece (sink.room - length sink.held))

-- The sink after a write that added the first n of these bytes.
abbrev pub after_write : SinkState → List ℕ → ℕ → SinkState
after_write sink bytes n = record sink { held = sink.held ++ take n bytes; calls = count_after sink.calls 1 }

-- The sink after a flush that did not fail.
abbrev pub after_flush : SinkState → SinkState
after_flush sink = record sink { flushed = record { calls = count_after sink.flushed.calls 1; bytes = length sink.held }; calls = count_after sink.calls 1 }

-- The sink after a write that failed, and after such a flush.
abbrev pub after_failed_write : SinkState → SinkState
after_failed_write sink = record sink { calls = count_after sink.calls 1; faults = count_after sink.faults 1 }

abbrev pub after_failed_flush : SinkState → SinkState
after_failed_flush sink =
    record sink { flushed = record sink.flushed { calls = count_after sink.flushed.calls 1 }; calls = count_after sink.calls 1; faults = count_after sink.faults 1 }
