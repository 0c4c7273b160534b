-- inner
-- When two records of a step agree: a machine forgets what no later line asks for. This project's own profile.
use Rattle.std.specs.{Prelude.{◌↔◌, ◌≡◌, ℕ, ◌≤◌, ◌⊎◌, ◌==◌, Bool, true, false, List, All, length, map}, List.{list_any}}
use Rattle.perf_base.specs.declared.{numbers.{CpuNo.{CpuNo}, EventNo.{EventNo}, RingNo.{RingNo}}, reply.Reply.{Reply}}
use Rattle.stage_spec.specs.{Hardware.{Hardware}, Stage.{Stage, all_instances, is_open}, Opening.{is_used}, History.{Step}}
use Rattle.ring_spec.specs.{Records.{Record}, Running.{RingAccount, Running, record_after, IsAnswerBy}}

-- whether an instance has an id
abbrev pub lives : Stage → ℕ → Bool
lives s id = list_any (λ i. i.id == id) (all_instances s)

-- an id that an instance has, or that none had yet; a slot that is open, or that was never used
abbrev pub IsCurrentId : Stage → ℕ → Type 0
IsCurrentId s id = (lives s id ≡ true) ⊎ (s.next_id ≤ id)

abbrev pub IsCurrentSlot : Stage → EventNo → Type 0
IsCurrentSlot s e = (is_open s e ≡ true) ⊎ (is_used s e ≡ false)

-- what a ring shows of its account: the records written, the losses pending, how many were lost, and where the tail was
-- seen last
pub record RingView : Type 0 where
  pub ring : RingNo
  pub bytes : ℕ
  pub written : List Record
  pub pending : ℕ
  pub lost : ℕ
  pub tail : ℕ

abbrev pub view_of : RingAccount → RingView
view_of a = record {
  ring = a.ring;
  bytes = a.bytes;
  written = a.account.written;
  pending = a.account.pending;
  lost = length a.account.lost;
  tail = a.account.tail;
}

-- Two records agree: they have one stage, the same sums of current ids, the same remainders of the live instances, the
-- same folded sums and lost counts of current slots, the same clocks, and rings that show the same.
pub record Agree (r q : Running) : Type 0 where
  pub stage : r.stage ≡ q.stage
  pub sums : (id : ℕ) → IsCurrentId r.stage id → r.sums id ≡ q.sums id
  pub left : (id : ℕ) → lives r.stage id ≡ true → r.left id ≡ q.left id
  pub folded : (e : EventNo) → IsCurrentSlot r.stage e → r.folded e ≡ q.folded e
  pub lost : (e : EventNo) → IsCurrentSlot r.stage e → r.lost e ≡ q.lost e
  pub clock : (cpu : CpuNo) → r.clock cpu ≡ q.clock cpu
  pub rings : map view_of r.rings ≡ map view_of q.rings

-- A step takes records that agree to records that agree.
abbrev pub StepAgreesLaw : Type 0
StepAgreesLaw = (hw : Hardware) (r q : Running) (x : Step) → Agree r q → Agree (record_after hw r x) (record_after hw q x)

-- the slot of each instance is open
abbrev pub AreFamiliesOpen : Stage → Type 0
AreFamiliesOpen s = All (λ i. is_open s i.event ≡ true) (all_instances s)

-- Where the slot of each instance is open, an answer by one record is an answer by each that agrees with it.
abbrev pub AnswerAgreesLaw : Type 0
AnswerAgreesLaw = (hw : Hardware) (r q : Running) (x : Step) (a : Reply) → AreFamiliesOpen r.stage → Agree r q → (IsAnswerBy hw r x a ↔ IsAnswerBy hw q x a)
