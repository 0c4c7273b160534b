-- inner
-- How a processor stands as rescheduling leaves it: its groups, and the counters that serve its events. After
-- ctx_sched_in and merge_sched_in of kernel/events/core.c; the tables are this project's own profile.
use Rattle.std.specs.{Prelude.{◌≡◌, ◌≢◌, ◌<◌, true, List, ◌++◌, length}, List.{fold}}
use Rattle.perf_base.specs.{Cpus.{HasCpu}, declared.{numbers.{CpuNo.{CpuNo}, CpuSet.{CpuSet}, Key.{Key}}, standing.Standing.{Standing}}}
use Rattle.perf_base.specs.declared.standing.Context.TheVariants as context
use Rattle.perf_base.specs.declared.standing.Own.TheVariants as own
use Rattle.perf_base.specs.declared.standing.Standing.TheVariants as standing
use Rattle.stage_spec.specs.{Fits.{IsAssignment}, Hardware.{Hardware}, Replies.{seated, IsSeats}, Settle.{IsSettled, settle}, Stage.{task_on}}
use Rattle.stage_spec.specs.{Tight.{masks_of}, Verdict.{standing_of, with_masks}}
use Rattle.stage_laws.specs.{Narrowing.{has_context}, Standings.{briefs, standings}}
use Rattle.counter_match.specs.Seating.{seat_list}
use Rattle.world_spec.specs.{Value.{World, entry_at, instance_at, standing_at, seats_at, leaders_of}, StageOf.{group_at, stage_of}}
use Rattle.world_spec.specs.{Kept.{leads, post_at, IsKept}, Changes.{set_own, set_standing}, Laws.{Keeps}, Listings.{task_leaders}}

-- A processor's counters serve the hardware events that are on, in pass order and with their masks: each has a counter
-- of its mask, and no two have the same one.
pub record AreServed (hw : Hardware) (w : World) (cpu : CpuNo) : Type 0 where
  pub events : (seats_at w cpu).events ≡ with_masks hw (seated hw (stage_of w) cpu)
  pub assigned : IsAssignment (masks_of (seats_at w cpu).events) (seats_at w cpu).seats

-- Each group of a processor's own context and of its task's stands as its verdict with its cause, and Out where it is
-- not eligible. Its counters serve what is on.
pub record IsJudged (hw : Hardware) (w : World) (cpu : CpuNo) : Type 0 where
  pub standings : (k : Key) → leads (post_at w) k ≡ true → has_context (stage_of w) cpu (entry_at w k).context ≡ true
      → standing_at w k ≡ standing_of hw (stage_of w) cpu (group_at w k)
  pub served : AreServed hw w cpu

-- so after rescheduling, which leaves the processor settled too
pub record IsRescheduled (hw : Hardware) (w : World) (cpu : CpuNo) : Type 0 where
  pub settled : IsSettled hw cpu (stage_of w)
  pub judged : IsJudged hw w cpu

-- and so each processor
abbrev pub AreRescheduled : Hardware → World → Type 0
AreRescheduled hw w = (cpu : CpuNo) → cpu.0 < length w.quiet.running → IsRescheduled hw w cpu

-- The seats of such a processor are the answer to SEATS.
abbrev pub SeatsAnswerLaw : Type 0
SeatsAnswerLaw = (hw : Hardware) (w : World) (cpu : CpuNo) → IsRescheduled hw w cpu → IsSeats hw (stage_of w) cpu (seat_list (seats_at w cpu))

-- what a change leaves to a processor: what verdicts need of its groups, its seats, and the standings of its groups
pub record IsLeft (hw : Hardware) (w after : World) (cpu : CpuNo) : Type 0 where
  pub briefs : briefs hw (stage_of after) cpu ≡ briefs hw (stage_of w) cpu
  pub seats : seats_at after cpu ≡ seats_at w cpu
  pub groups : (k : Key) → leads (post_at after) k ≡ true → has_context (stage_of after) cpu (entry_at after k).context ≡ true
      → (leads (post_at w) k ≡ true) × (has_context (stage_of w) cpu (entry_at w k).context ≡ true)
      × ((instance_at after k).id ≡ (instance_at w k).id) × (standing_at after k ≡ standing_at w k)

-- What a call leaves to a processor that it does not name: what verdicts need of its eligible groups, their verdicts,
-- each with its cause, and its seats. Where it stood as rescheduling leaves it, it still does.
pub record IsUntouched (hw : Hardware) (w after : World) (cpu : CpuNo) : Type 0 where
  pub briefs : briefs hw (stage_of after) cpu ≡ briefs hw (stage_of w) cpu
  pub verdicts : standings hw (stage_of after) cpu ≡ standings hw (stage_of w) cpu
  pub seats : seats_at after cpu ≡ seats_at w cpu
  pub rescheduled : IsRescheduled hw w cpu → IsRescheduled hw after cpu

-- so each processor of the machine; each but one; each that is not in a set
abbrev pub AreUntouched : World → World → Type 0
AreUntouched w after = (cpu : CpuNo) → cpu.0 < length w.quiet.running → IsUntouched w.hardware w after cpu

abbrev pub AreUntouchedBut : CpuNo → World → World → Type 0
AreUntouchedBut own w after = (cpu : CpuNo) → cpu.0 < length w.quiet.running → cpu.0 ≢ own.0 → IsUntouched w.hardware w after cpu

abbrev pub AreUntouchedOutside : CpuSet → World → World → Type 0
AreUntouchedOutside set w after = (cpu : CpuNo) → cpu.0 < length w.quiet.running → (HasCpu set cpu → ⊥) → IsUntouched w.hardware w after cpu

-- Such a change leaves the processor untouched.
abbrev pub LeftLaw : Type 0
LeftLaw = (hw : Hardware) (w after : World) (cpu : CpuNo) → cpu.0 < 8 → IsLeft hw w after cpu → IsUntouched hw w after cpu

-- the leaders of a processor's pinned groups: its own, and then its task's
abbrev pub pinned_leaders : World → CpuNo → List Key
pinned_leaders w cpu = (leaders_of w (context.Processor cpu)).pinned ++ (task_leaders w (task_on (stage_of w) cpu)).pinned

-- a group that was refused goes to error with its cause, and stands out; and so some groups, one after the other
abbrev pub fail_by : Standing → Key → World → World
fail_by standing.Out k w = w
fail_by standing.On k w = w
fail_by (standing.Refused cause) k w = set_standing k standing.Out (set_own k (own.Error cause) w)

abbrev pub fail_group : World → Key → World
fail_group w k = fail_by (standing_at w k) k w

abbrev pub fail_groups : List Key → World → World
fail_groups keys w = fold fail_group w keys

-- Where a processor was judged and its refused pinned groups then go to error, it is rescheduled, and the stage is
-- settled there.
abbrev pub FailStageLaw : Type 0
FailStageLaw = (hw : Hardware) (w : World) (cpu : CpuNo) → cpu.0 < 8 → IsKept hw w → IsJudged hw w cpu
    → stage_of (fail_groups (pinned_leaders w cpu) w) ≡ settle hw cpu (stage_of w)

abbrev pub FailLaw : Type 0
FailLaw = (hw : Hardware) (w : World) (cpu : CpuNo) → cpu.0 < 8 → IsKept hw w → IsJudged hw w cpu → IsRescheduled hw (fail_groups (pinned_leaders w cpu) w) cpu

abbrev pub FailKeptLaw : Type 0
FailKeptLaw = (hw : Hardware) (w : World) (cpu : CpuNo) → Keeps hw w (fail_groups (pinned_leaders w cpu) w)
