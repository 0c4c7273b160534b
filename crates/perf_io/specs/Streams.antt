-- inner
-- What a contract sees of the sinks that show no bytes. This project's own profile of reading and writing.
use Rattle.std.specs.Prelude.{ℕ}
use Rattle.perf_io.specs.Outside.{Flushes}

-- a stream of the system: how many calls failed, a count that stays at `last_count`, and how often it was
-- flushed, a count that stays there too
pub record StreamState : Type 0 where
  pub faults : ℕ
  pub flushes : ℕ

-- a sink that never fails: how many bytes were written, a count that stays at `last_count`, and how often it was
-- flushed, a count that stays there too
pub record CalmState : Type 0 where
  pub written : ℕ
  pub flushes : ℕ

-- so many flushes of a sink that shows no bytes
abbrev pub only_calls : ℕ → Flushes
only_calls n = record { calls = n; bytes = 0 }
