-- inner
-- What a contract sees of a line in memory. This project's own profile.
use Rattle.std.specs.Prelude.{ℕ, List}
use Rattle.perf_io.specs.Outside.{Flushes}

-- the bytes that it holds, and how it was flushed
pub record LineState : Type 0 where
  pub text : List ℕ
  pub flushed : Flushes
