-- believed
-- What a source has left, what a sink holds, when a count of faults rose, and how a sink was flushed. This project's
-- own profile of reading and writing.
use Rattle.std.specs.Prelude.{◌≡◌, ℕ, ◌<◌, ◌⊎◌, List, [], ◌++◌, ⊤, Option, None, Some}

-- Where bytes are shown, the first of them are taken and the others are left. Nothing is claimed where they
-- are not shown.
abbrev pub Takes : Option (List ℕ) → Option (List ℕ) → List ℕ → Type 0
Takes None new taken = ⊤
Takes (Some left) None taken = ⊥
Takes (Some left) (Some rest) taken = left ≡ taken ++ rest

-- Where bytes are shown, these stand behind them now.
abbrev pub Adds : Option (List ℕ) → Option (List ℕ) → List ℕ → Type 0
Adds None new added = ⊤
Adds (Some held) None added = ⊥
Adds (Some held) (Some longer) added = longer ≡ held ++ added

-- Where bytes are shown, none is left.
abbrev pub IsAtEnd : Option (List ℕ) → Type 0
IsAtEnd None = ⊤
IsAtEnd (Some left) = left ≡ []

-- A count of faults rose: it is greater now, or it stands at the last value that its type has.
abbrev pub Rose : Option ℕ → ℕ → ℕ → Type 0
Rose last before after = (before < after) ⊎ (last ≡ Some after)

-- How often a sink was flushed, a count that stays at `last_count`, and how many bytes it held when that last
-- succeeded, 0 before.
pub record Flushes : Type 0 where
  pub calls : ℕ
  pub bytes : ℕ

abbrev pub no_flushes : Flushes
no_flushes = record { calls = 0; bytes = 0 }

-- What a contract sees of a source: the bytes left, where it shows them; how many faults there were, and the last value
-- of that count, where it has one.
pub record SourceShows (S : Type 0) : Type 0 where
  pub left : S → Option (List ℕ)
  pub faults : S → ℕ
  pub last_fault : Option ℕ

-- What a contract sees of a sink: the bytes that it holds, where it shows them; how it was flushed; how many faults
-- there were, and the last value of that count, where it has one.
pub record SinkShows (K : Type 0) : Type 0 where
  pub held : K → Option (List ℕ)
  pub flushed : K → Flushes
  pub faults : K → ℕ
  pub last_fault : Option ℕ
