-- inner
-- How far a reader is, and what the end that sends knows of it, for a caller who has both ends of a ring.
use Rattle.std.specs.Prelude.{◌≡◌, ℕ, ◌+◌, ◌*◌, ◌<◌, List, length, None}
use mathlib.Core.List.{IsPrefix}
use Rattle.sample_ring.specs.{OutEnds.{OutEnd}, InEnds.{InEnd}}

-- The reader has taken, and released, just the words before a place. This project's own profile.
pub record IsUpTo (i : InEnd) (place : ℕ) : Type 0 where
  pub kept : i.kept ≡ None
  pub words : 8 * length i.words ≡ place
  pub released : i.consumer.released ≡ length i.words

-- the end that sends, with this last tail seen and this number of loads (this project's own profile)
abbrev pub with_tail : OutEnd → (tail loads : ℕ) → OutEnd
with_tail o tail loads = record o { producer = record o.producer { last_tail = tail; loads = loads } }

-- The reader has taken one record more of those published, and released it. This project's own profile.
pub record TakesOne (i j : InEnd) (published : List ℕ) : Type 0 where
  pub reader : IsUpTo j (8 * length j.words)
  pub records : j.records ≡ i.records + 1
  pub words : IsPrefix j.words published
  pub longer : length i.words < length j.words
