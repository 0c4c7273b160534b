-- inner
-- What a stretch of work sends, as the code has it: the samples, and the overflows that they are of. This project's own
-- profile.
use Rattle.std.specs.Prelude.{◌≡◌, ℕ, zero, suc, ◌+◌, List, length, flat_map, Some, slice_index_or, true}
use Rattle.perf_base.specs.declared.{lines.Work.{Work}, numbers.{CpuNo.{CpuNo}, EventNo.{EventNo}, Key.{Key}, RingNo.{RingNo}}}
use Rattle.stage_spec.specs.Stage.{original_of}
use Rattle.ring_spec.specs.Sending.{SentSample, sent_by_family, sent_at}
use Rattle.sample_ring.specs.{RingLists.{OutList, HasRing}, Sends.{Request, request}}
use Rattle.world_spec.specs.{Value.{World, is_live, instance_at, account_at}, StageOf.{stage_of}}
use Rattle.work_account.specs.declared.{overflowing.Overflow.{Overflow}, samples.{Sample.{Sample}, Stretch.{Stretch}}}
use Rattle.work_account.specs.Ends.{Ends, HaveSpace, send_one}

-- the ends, and a world's counts of records lost
abbrev pub ends_of : OutList → World → Ends
ends_of outs w = record { outs = outs; lost = w.lost }

-- what a sample asks of the end that it is sent to
abbrev pub asks : Sample → Request
asks s = request s.sent s.id s.trailer

-- a record that is sent a number of times
abbrev pub send_times : ℕ → EventNo → RingNo → Request → Ends → Ends
send_times zero e ring q x = x
send_times (suc n) e ring q x = send_times n e ring q (send_one x e ring q)

-- the records of an instance's overflows, and of those of several, one after the other
abbrev pub sents_of : World → Stretch → Overflow → List (RingNo × SentSample)
sents_of w line o = sent_by_family (original_of (stage_of w) (instance_at w o.key).event) (stage_of w) line.cpu line.work line.clock o.count (instance_at w o.key)

abbrev pub sents_all : World → Stretch → List Overflow → List (RingNo × SentSample)
sents_all w line found = flat_map (sents_of w line) found

-- a slot that some instance is of
abbrev pub HasInstance : World → ℕ → Type 0
HasInstance w slot = (k : Key) × (is_live w k ≡ true) × ((instance_at w k).event.0 ≡ slot)

-- each instance's ring is there
abbrev pub HaveRings : World → List RingNo → Type 0
HaveRings w numbers = (k : Key) → is_live w k ≡ true → (ring : RingNo) → (instance_at w k).ring ≡ Some ring → HasRing numbers ring

-- the remainder of each instance by its id
abbrev pub AreLeft : World → (ℕ → ℕ) → Type 0
AreLeft w left = (k : Key) → is_live w k ≡ true → left (instance_at w k).id ≡ (account_at w k).left

-- the records that a stretch of work on a processor sends, given the remainders; the clock in them is the one after it
abbrev pub sent_by : World → (ℕ → ℕ) → CpuNo → Work → List (RingNo × SentSample)
sent_by w left cpu work = sent_at w.hardware (stage_of w) left (slice_index_or w.quiet.clocks cpu.0 0 + work.length) cpu work

-- There is space for all of them, whose events have instances.
pub record HaveSpaceToSend (w : World) (x : Ends) (cpu : CpuNo) (work : Work) : Type 0 where
  pub left : ℕ → ℕ
  pub are_left : AreLeft w left
  pub space : HaveSpace (HasInstance w) (length (sent_by w left cpu work)) x
