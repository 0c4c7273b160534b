-- inner
-- When a world agrees with the record of a step: they are of one stage, and the world's accounts, folded sums, lost
-- counts and clocks are the record's of all that a later line can ask for. This project's own profile.
use Rattle.std.specs.Prelude.{◌≡◌, ℕ, ◌≤◌, true, List, length, map, slice_index_or}
use Rattle.perf_base.specs.declared.numbers.{CpuNo.{CpuNo}, EventNo.{EventNo}, Key.{Key}, RingNo.{RingNo}, TaskNo.{TaskNo}}
use Rattle.stage_spec.specs.{Hardware.{Hardware}, Shares.{no_sums}, Stage.{first_stage, is_open}}
use Rattle.ring_spec.specs.{Running.{Running, first_record, family_by}, Agreement.{Agree, IsCurrentSlot, view_of}}
use Rattle.world_spec.specs.{Value.{World, is_live, instance_at, account_at}, StageOf.{stage_of}, Kept.{family_sums, IsKept}, First.{first_world}}

-- Of each instance that is there, the sums and what is left of its period; no sums of ids that were not drawn. Of slots
-- that are open or were never used, the folded sums and the lost counts. Of each processor the clock. Rings are not the
-- world's.
pub record AgreesWith (w : World) (r : Running) : Type 0 where
  pub stage : r.stage ≡ stage_of w
  pub sums : (k : Key) → is_live w k ≡ true → r.sums (instance_at w k).id ≡ (account_at w k).sums
  pub fresh : (id : ℕ) → w.quiet.next_id ≤ id → r.sums id ≡ no_sums
  pub left : (k : Key) → is_live w k ≡ true → r.left (instance_at w k).id ≡ (account_at w k).left
  pub folded : (e : EventNo) → IsCurrentSlot (stage_of w) e → r.folded e ≡ slice_index_or w.folded e.0 no_sums
  pub lost : (e : EventNo) → IsCurrentSlot (stage_of w) e → r.lost e ≡ slice_index_or w.lost e.0 0
  pub clock : (cpu : CpuNo) → r.clock cpu ≡ slice_index_or w.quiet.clocks cpu.0 0

-- The first world agrees with the record before the first step.
abbrev pub FirstAgreesLaw : Type 0
FirstAgreesLaw = (hw : Hardware) (declared : List TaskNo) (rings : List (RingNo × ℕ))
    → AgreesWith (first_world hw declared) (first_record (first_stage (length hw.cpu_pmus) declared) rings)

-- Two records with which a world agrees, and whose rings show the same, agree. A world agrees with each record that
-- agrees with one of its own.
abbrev pub RecordsAgreeLaw : Type 0
RecordsAgreeLaw = (hw : Hardware) (w : World) (r q : Running) → IsKept hw w → AgreesWith w r → AgreesWith w q → map view_of r.rings ≡ map view_of q.rings → Agree r q

abbrev pub OtherRecordLaw : Type 0
OtherRecordLaw = (hw : Hardware) (w : World) (r q : Running) → IsKept hw w → AgreesWith w r → Agree r q → AgreesWith w q

-- What the family of an open event has counted by the record is what the world has of it.
abbrev pub FamilyAgreesLaw : Type 0
FamilyAgreesLaw = (hw : Hardware) (w : World) (r : Running) (e : EventNo) → IsKept hw w → AgreesWith w r → is_open (stage_of w) e ≡ true → family_by r e ≡ family_sums w e.0
