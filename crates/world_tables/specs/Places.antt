-- inner
-- The lists of one context, and the tables by slot. This project's own profile.
use Rattle.std.specs.Prelude.{ℕ, ◌^◌, ◌<◌, Bool, true, false, List, length, map, replicate, Option, None, slice_index, slice_index_or, slice_set}
use Rattle.perf_base.specs.declared.{numbers.{Key.{Key}, TaskNo.{TaskNo}}, reply.Sums.{Sums}}
use Rattle.stage_spec.specs.{Hardware.{Hardware}, Shares.{no_sums}}
use Rattle.counter_match.specs.Seating.{Seated, empty_seating}
use Rattle.world_spec.specs.Value.{Leaders, Family, no_family}

-- the leaders of the pinned groups, or of the flexible ones
abbrev pub picked : Bool → Leaders → List Key
picked true l = l.pinned
picked false l = l.flexible

-- of one slot the family, what its copies that exited had counted, and how many records of it were lost
pub record Slot : Type 0 where
  pub family : Family
  pub folded : Sums
  pub lost : ℕ

abbrev pub empty_slot : Slot
empty_slot = record { family = no_family; folded = no_sums; lost = 0 }

-- and of all slots
pub record Slots : Type 0 where
  pub families : List Family
  pub folded : List Sums
  pub lost : List ℕ

abbrev pub slots : List Slot → Slots
slots rows = record { families = map (λ r. r.family) rows; folded = map (λ r. r.folded) rows; lost = map (λ r. r.lost) rows }

abbrev pub no_slots : Slots
no_slots = record { families = replicate 256 no_family; folded = replicate 256 no_sums; lost = replicate 256 0 }

-- a change of the family of one slot
abbrev pub with_family : ℕ → (Family → Family) → Slots → Slots
with_family slot f s = record s { families = slice_set s.families slot (f (slice_index_or s.families slot no_family)) }

-- sums that a number of 64 bits holds
pub record IsBelow (s : Sums) : Type 0 where
  pub count : s.count < 2 ^ 63
  pub enabled : s.enabled < 2 ^ 63
  pub running : s.running < 2 ^ 63

-- the seats of no processor
abbrev pub no_seats : Seated
no_seats = empty_seating 0

-- of one processor the task on it and its seats
pub record Place : Type 0 where
  pub running : Option TaskNo
  pub seats : Seated

-- and of all processors
pub record Places : Type 0 where
  pub running : List (Option TaskNo)
  pub seats : List Seated

abbrev pub places : List Place → Places
places rows = record { running = map (λ r. r.running) rows; seats = map (λ r. r.seats) rows }

-- processors that are idle, with no event on their counters
abbrev pub idle_places : Hardware → Places
idle_places hw = record {
  running = replicate (length hw.cpu_pmus) None;
  seats = map (λ pmu. empty_seating (slice_index hw.counters pmu)) hw.cpu_pmus;
}
