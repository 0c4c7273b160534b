-- believed
-- When events can stand on counters together: each on a counter of its own, one that can count it. The constraint
-- of event scheduling in kernel/events/core.c and arch/x86/events/core.c. A mask is a number whose bit C says that
-- counter C can count the event; a processor has at most 16 counters, as this project's own profile has it.
use Rattle.std.specs.Prelude.{◌≡◌, ◌≢◌, ℕ, zero, suc, ◌<◌, Bool, true, false, not, ◌&&◌, ◌==◌, nat_eq, nat_lt, IsTrue, ◌↔◌, List, [], ◌∷◌, length, slice_index}
use Rattle.std.specs.{List.{list_any}, Int.{bit_at}}

-- whether the mask has the counter
abbrev pub can_count : ℕ → ℕ → Bool
can_count mask counter = nat_lt counter 16 && bit_at mask counter == 1

-- whether the first event can take a counter below some number, one that is not taken, so that the others fit
unfoldable pub fits_below : ℕ → (List ℕ → Bool) → ℕ → List ℕ → Bool
fits_below zero others mask taken = false
fits_below (suc counter) others mask taken =
    elim (can_count mask counter && not (list_any (nat_eq counter) taken)) [
      | true ↦ elim (others (counter ∷ taken)) [ true ↦ true | false ↦ fits_below counter others mask taken ]
      | false ↦ fits_below counter others mask taken
    ]

-- whether events with these masks fit on the counters that are not taken
unfoldable pub fits_beside : List ℕ → List ℕ → Bool
fits_beside [] taken = true
fits_beside (mask ∷ masks) taken = fits_below 16 (fits_beside masks) mask taken

-- whether events with these masks fit: a plain search over all counters for each
unfoldable pub fits : List ℕ → Bool
fits masks = fits_beside masks []

-- a counter for each event, one of its mask, and no counter for two
pub record IsAssignment (masks counters : List ℕ) : Type 0 where
  pub one_each : length counters ≡ length masks
  pub allowed : (i : ℕ) → i < length masks → IsTrue (can_count (slice_index masks i) (slice_index counters i))
  pub different : (i j : ℕ) → i < j → j < length counters → slice_index counters i ≢ slice_index counters j

-- The law of fitting: events fit exactly where an assignment exists.
abbrev pub FitsLaw : Type 0
FitsLaw = (masks : List ℕ) → IsTrue (fits masks) ↔ ((counters : List ℕ) × IsAssignment masks counters)
