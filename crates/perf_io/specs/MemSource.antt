-- inner
-- A source of bytes in memory. This project's own profile of reading and writing.
use Rattle.std.specs.Prelude.{ℕ, List, length, drop, min}
use Rattle.perf_io.specs.Counts.{count_after}

-- What a contract sees of such a source.
pub record SourceState : Type 0 where
  -- The bytes that no read has given yet.
  pub left : List ℕ
  -- The most bytes that one read gives, at least 1.
  pub piece : ℕ
  -- The numbers of the calls that fail.
  pub fail : List ℕ
  -- The number of the next call, counted from 0. It stays at `last_count`.
  pub calls : ℕ
  -- How many calls failed, a count that stays at `last_count`.
  pub faults : ℕ

-- How many bytes a read into so much room gives, where it does not fail.
abbrev pub read_count : SourceState → ℕ → ℕ
read_count source room = min room (min source.piece (length source.left))

-- The source after a read that gave n bytes.
abbrev pub after_read : SourceState → ℕ → SourceState
after_read source n = record source { left = drop n source.left; calls = count_after source.calls 1 }

-- The source after a read that failed.
abbrev pub after_failed_read : SourceState → SourceState
after_failed_read source = record source { calls = count_after source.calls 1; faults = count_after source.faults 1 }
