-- believed
-- Bytes that wait, and the source behind them. This project's own profile of reading line by line.
use Rattle.std.specs.Prelude.{ℕ, List, ◌++◌, Option, option_map}
use Rattle.perf_io.specs.Outside.{SourceShows}

-- What is left of a source behind the bytes that wait, where it shows its bytes.
abbrev pub ahead : {S : Type 0} → SourceShows S → List ℕ → S → Option (List ℕ)
ahead shows waiting source = option_map (λ left. waiting ++ left) (shows.left source)
