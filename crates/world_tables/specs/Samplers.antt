-- inner
-- How many events of each context sample. An event samples where its period is not 0, as is_sampling_event of
-- include/linux/perf_event.h has it; that they are counted by context is this project's own profile.
use Rattle.std.specs.Prelude.{◌≡◌, ℕ, ◌+◌, ◌-◌, ◌<◌, ◌==◌, Bool, false, not, ◌&&◌, List, length, count_by, Option, Some, None, slice_index_or, slice_set, if◌then◌else◌}
use Rattle.perf_base.specs.declared.standing.Context.{Context}
use Rattle.slab.specs.Slab.{Slab}
use Rattle.stage_spec.specs.{declared.instance.Instance.{Instance}, Stage.{place_of}}
use Rattle.world_tables.specs.Rows.{Kept}

-- whether an instance samples, and whether an event that is kept does so at a place
abbrev pub is_sampler : Instance → Bool
is_sampler i = not (i.attr.period == 0)

abbrev pub samples_at : ℕ → Option Kept → Bool
samples_at place None = false
samples_at place (Some e) = place_of e.entry.context == place && is_sampler e.entry.instance

-- of each place the number of events that sample there
pub record AreCounted (counts : List ℕ) (s : Slab Kept) : Type 0 where
  pub places : length counts ≡ 72
  pub each : (place : ℕ) → place < 72 → slice_index_or counts place 0 ≡ count_by (samples_at place) s.slots

-- the numbers after an event came into a context, and after it left
abbrev pub with_event : Instance → Context → List ℕ → List ℕ
with_event i c counts = if is_sampler i then slice_set counts (place_of c) (slice_index_or counts (place_of c) 0 + 1) else counts

abbrev pub without_event : Instance → Context → List ℕ → List ℕ
without_event i c counts = if is_sampler i then slice_set counts (place_of c) (slice_index_or counts (place_of c) 0 - 1) else counts
