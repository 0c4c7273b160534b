-- inner
-- What a world is after a step, by what it was before: the stage after the step, and of each instance, slot and
-- processor what the step adds. This project's own profile.
use Rattle.std.specs.Prelude.{◌≡◌, ◌+◌, ◌<◌, ◌≤◌, true, List, [], map, flat_map, slice_index_or}
use Rattle.perf_base.specs.declared.numbers.{CpuNo.{CpuNo}, EventNo.{EventNo}, Key.{Key}}
use Rattle.stage_spec.specs.{Families.{plus, leaving}, Hardware.{Hardware}, History.{Step, stage_step}, Recurrence.{after_reset}}
use Rattle.stage_spec.specs.{Remainders.{left_by}, Shares.{share, no_sums}, Stage.{Stage}, Sums.{resets}}
use Rattle.ring_spec.specs.{Agreement.{IsCurrentSlot}, Running.{Running, losses_on, more_lost, record_after}, Sending.{sent_by_step, length_by}}
use Rattle.world_spec.specs.{Agreement.{AgreesWith}, Kept.{IsKept, plus_keys}, StageOf.{stage_of}}
use Rattle.world_spec.specs.Value.{World, is_live, instance_at, account_at, times}

-- An instance that was there has what it had, or nothing after a reset, and what the step adds to it; and what the step
-- leaves of its period.
pub record HasItsShare (hw : Hardware) (w after : World) (x : Step) (k : Key) : Type 0 where
  pub live : is_live w k ≡ true
  pub id : (instance_at after k).id ≡ (instance_at w k).id
  pub sums : (account_at after k).sums
      ≡ plus (after_reset (resets (stage_of w) x (instance_at w k).id) (account_at w k).sums) (share hw (stage_of w) x (instance_at w k).id)
  pub left : (account_at after k).left ≡ left_by hw (stage_of w) x (instance_at w k).id (account_at w k).left

-- An instance that the step made has counted nothing, and has a whole period.
pub record IsBorn (after : World) (k : Key) : Type 0 where
  pub sums : (account_at after k).sums ≡ no_sums
  pub left : (account_at after k).left ≡ (instance_at after k).attr.period

-- Folded sums have those of the copies that the step takes away.
pub record HasFolded (w after : World) (x : Step) (e : EventNo) (gone : List Key) : Type 0 where
  pub leaving : leaving (stage_of w) x e ≡ map (instance_at w) gone
  pub live : (k : Key) → 1 ≤ times k gone → is_live w k ≡ true
  pub sums : slice_index_or after.folded e.0 no_sums ≡ plus (slice_index_or w.folded e.0 no_sums) (plus_keys (λ k. (account_at w k).sums) gone)

-- What a step makes of a world whose stage is this one then.
pub record HasBecome (hw : Hardware) (stage_then : Stage) (w after : World) (x : Step) : Type 0 where
  pub stage : stage_of after ≡ stage_then
  pub drawn : w.quiet.next_id ≤ after.quiet.next_id
  pub old : (k : Key) → is_live after k ≡ true → (instance_at after k).id < w.quiet.next_id → HasItsShare hw w after x k
  pub new : (k : Key) → is_live after k ≡ true → w.quiet.next_id ≤ (instance_at after k).id → IsBorn after k
  pub slots : (e : EventNo) → IsCurrentSlot (stage_of after) e → IsCurrentSlot (stage_of w) e
  pub folded : (e : EventNo) → IsCurrentSlot (stage_of after) e → (gone : List Key) × HasFolded w after x e gone
  pub lost : (e : EventNo) → slice_index_or after.lost e.0 0 ≡ slice_index_or w.lost e.0 0
  pub clock : (cpu : CpuNo) → slice_index_or after.quiet.clocks cpu.0 0 ≡ slice_index_or w.quiet.clocks cpu.0 0 + length_by cpu x

-- The whole step: every processor is settled.
abbrev pub HasStepped : Hardware → (w after : World) → Step → Type 0
HasStepped hw w after x = HasBecome hw (stage_step hw (stage_of w) x) w after x

-- the events whose records the rings lose by a step
abbrev pub losses_by : Hardware → Running → Step → List EventNo
losses_by hw r x = flat_map (losses_on x (sent_by_step hw r.stage r.left r.clock x)) r.rings

-- a step by which no ring loses a record
abbrev pub LosesNone : Hardware → Running → Step → Type 0
LosesNone hw r x = losses_by hw r x ≡ []

-- A world that agrees with a record leads by a step that loses none to one that agrees with the record after it.
abbrev pub SteppedLaw : Type 0
SteppedLaw = (hw : Hardware) (w after : World) (r : Running) (x : Step) → IsKept hw w → IsKept hw after → AgreesWith w r → HasStepped hw w after x → LosesNone hw r x
    → AgreesWith after (record_after hw r x)

-- A step that loses records of these events: but for their counts it is one that loses none.
pub record HasLost (hw : Hardware) (w after : World) (x : Step) (losses : List EventNo) : Type 0 where
  pub stepped : HasStepped hw w (record after { lost = w.lost }) x
  pub lost : (e : EventNo) → e.0 < 256 → slice_index_or after.lost e.0 0 ≡ more_lost (λ f. slice_index_or w.lost f.0 0) losses e

-- It leads to a world that agrees with the record after it where these are the losses by the record.
abbrev pub LosingLaw : Type 0
LosingLaw = (hw : Hardware) (w after : World) (r : Running) (x : Step) → IsKept hw w → IsKept hw after → AgreesWith w r → HasLost hw w after x (losses_by hw r x)
    → AgreesWith after (record_after hw r x)
