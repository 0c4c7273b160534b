-- inner
-- Each change keeps a world, and is the stage's own change or leaves the stage. After what kernel/events/core.c keeps
-- of its contexts and groups; the tables are this project's own profile.
use Rattle.std.specs.Prelude.{◌≡◌, ℕ, ◌+◌, ◌^◌, ◌<◌, Bool, true, Option, Some, length, slice_index_or, if◌then◌else◌}
use Rattle.perf_base.specs.declared.{numbers.{CpuNo.{CpuNo}, Key.{Key}, RingNo.{RingNo}, TaskNo.{TaskNo}}, standing.{Own.{Own}, Standing.{Standing}}}
use Rattle.stage_spec.specs.{Hardware.{Hardware, counters_of}, Reading.{is_error}, Stage.{Stage, task_on, status_of, fresh_task, set_status}}
use Rattle.stage_spec.specs.Switching.{put_on}
use Rattle.stage_spec.specs.declared.instance.TaskState.TheVariants as state
use Rattle.stage_laws.specs.OneByOne.{change_one}
use Rattle.counter_match.specs.Seating.{Seated, IsSound}
use Rattle.world_spec.specs.{Value.{World, is_live, entry_at, instance_at, is_key}, StageOf.{stage_of}, Kept.{IsKept, family_sums}}
use Rattle.world_spec.specs.Changes.{remember, set_own, set_period, set_ring, set_standing, with_seats, add_lost, hit, reset_count, place, add_task, end_task}

-- a change of the world that keeps what it keeps
abbrev pub Keeps : Hardware → World → World → Type 0
Keeps hw w after = IsKept hw w → IsKept hw after

-- An own state is set on the stage's instance; only a leader's may be an error.
abbrev pub OwnLaw : Type 0
OwnLaw = (hw : Hardware) (w : World) (k : Key) (o : Own) → IsKept hw w → is_live w k ≡ true
    → stage_of (set_own k o w) ≡ change_one (λ i. record i { own = o }) (instance_at w k).id (stage_of w)

abbrev pub OwnKeptLaw : Type 0
OwnKeptLaw = (hw : Hardware) (w : World) (k : Key) (o : Own) → is_live w k ≡ true → (is_error o ≡ true → is_key k (entry_at w k).leader ≡ true) → Keeps hw w (set_own k o w)

-- so is a period
abbrev pub PeriodLaw : Type 0
PeriodLaw = (hw : Hardware) (w : World) (k : Key) (period : ℕ) → IsKept hw w → is_live w k ≡ true
    → stage_of (set_period k period w) ≡ change_one (λ i. record i { attr = record i.attr { period = period } }) (instance_at w k).id (stage_of w)

abbrev pub PeriodKeptLaw : Type 0
PeriodKeptLaw = (hw : Hardware) (w : World) (k : Key) (period : ℕ) → is_live w k ≡ true → Keeps hw w (set_period k period w)

-- and a ring, which is remembered where the event has a mapping of its own
abbrev pub remembered : RingNo → Bool → Stage → Stage
remembered ring owner s = record s { mapped = if owner then remember ring s.mapped else s.mapped }

abbrev pub RingLaw : Type 0
RingLaw = (hw : Hardware) (w : World) (k : Key) (ring : RingNo) (owner : Bool) → IsKept hw w → is_live w k ≡ true
    → stage_of (set_ring k ring owner w) ≡ remembered ring owner (change_one (λ i. record i { ring = Some ring; mapped = owner }) (instance_at w k).id (stage_of w))

abbrev pub RingKeptLaw : Type 0
RingKeptLaw = (hw : Hardware) (w : World) (k : Key) (ring : RingNo) (owner : Bool) → is_live w k ≡ true → Keeps hw w (set_ring k ring owner w)

-- Standings, seats, clocks and lost counts leave the stage. Seats are sound and over the processor's counters.
abbrev pub StandingLaw : Type 0
StandingLaw = (w : World) (k : Key) (s : Standing) → stage_of (set_standing k s w) ≡ stage_of w

abbrev pub StandingKeptLaw : Type 0
StandingKeptLaw = (hw : Hardware) (w : World) (k : Key) (s : Standing) → is_live w k ≡ true → Keeps hw w (set_standing k s w)

abbrev pub SeatsLaw : Type 0
SeatsLaw = (w : World) (cpu : CpuNo) (seated : Seated) → stage_of (with_seats cpu seated w) ≡ stage_of w

abbrev pub SeatsKeptLaw : Type 0
SeatsKeptLaw = (hw : Hardware) (w : World) (cpu : CpuNo) (seated : Seated) → IsSound seated → seated.counters ≡ counters_of hw cpu → Keeps hw w (with_seats cpu seated w)

abbrev pub LostLaw : Type 0
LostLaw = (w : World) (k : Key) → stage_of (add_lost k w) ≡ stage_of w

abbrev pub LostKeptLaw : Type 0
LostKeptLaw = (hw : Hardware) (w : World) (k : Key) → slice_index_or w.lost (instance_at w k).event.0 0 + 1 < 2 ^ 63 → Keeps hw w (add_lost k w)

-- Occurrences and resets leave the stage. What a family has counted must stay small.
abbrev pub HitLaw : Type 0
HitLaw = (w : World) (k : Key) (n : ℕ) → stage_of (hit k n w) ≡ stage_of w

abbrev pub HitKeptLaw : Type 0
HitKeptLaw = (hw : Hardware) (w : World) (k : Key) (n : ℕ) → is_live w k ≡ true
    → (family_sums w (instance_at w k).event.0).count + n < 2 ^ 63 → Keeps hw w (hit k n w)

abbrev pub ResetLaw : Type 0
ResetLaw = (w : World) (k : Key) → stage_of (reset_count k w) ≡ stage_of w

abbrev pub ResetKeptLaw : Type 0
ResetKeptLaw = (hw : Hardware) (w : World) (k : Key) → is_live w k ≡ true → Keeps hw w (reset_count k w)

-- Placing a task is what a switch does to the stage. The task is live, and on no other processor.
abbrev pub PlaceLaw : Type 0
PlaceLaw = (w : World) (cpu : CpuNo) (to : Option TaskNo) → stage_of (place cpu to w) ≡ put_on cpu to (stage_of w)

pub record IsFree (w : World) (cpu : CpuNo) (task : TaskNo) : Type 0 where
  pub live : (status_of (stage_of w) task).state ≡ state.Live
  pub on_no_other : (other : CpuNo) → task_on (stage_of w) other ≡ Some task → other.0 ≡ cpu.0

abbrev pub PlaceKeptLaw : Type 0
PlaceKeptLaw = (hw : Hardware) (w : World) (cpu : CpuNo) (to : Option TaskNo) → cpu.0 < length w.quiet.running
    → ((task : TaskNo) → to ≡ Some task → IsFree w cpu task) → Keeps hw w (place cpu to w)

-- A task comes that there never was, and one exits that no processor runs.
abbrev pub TaskLaw : Type 0
TaskLaw = (w : World) (task : TaskNo) → stage_of (add_task task w) ≡ set_status task fresh_task (stage_of w)

abbrev pub TaskKeptLaw : Type 0
TaskKeptLaw = (hw : Hardware) (w : World) (task : TaskNo) → (status_of (stage_of w) task).state ≡ state.Unknown → Keeps hw w (add_task task w)

abbrev pub EndLaw : Type 0
EndLaw = (w : World) (task : TaskNo) → stage_of (end_task task w) ≡ set_status task (record (status_of (stage_of w) task) { state = state.Exited }) (stage_of w)

abbrev pub EndKeptLaw : Type 0
EndKeptLaw = (hw : Hardware) (w : World) (task : TaskNo) → ((cpu : CpuNo) → task_on (stage_of w) cpu ≡ Some task → ⊥) → Keeps hw w (end_task task w)
