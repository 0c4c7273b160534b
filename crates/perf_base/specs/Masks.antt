-- believed
-- Masks of counters: bit C stands for counter C. This project's own profile.
use Rattle.std.specs.Prelude.{ℕ, ◌^◌, ◌<◌}

-- a mask of some counters of a processor
abbrev pub IsMask : ℕ → ℕ → Type 0
IsMask counters mask = (0 < mask) × (mask < 2 ^ counters)
