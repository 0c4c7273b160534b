-- inner
-- Running state: what a history leaves, kept step by step. This project's own profile.
use Rattle.std.specs.Prelude.{◌↔◌, ◌≡◌, ℕ, ◌+◌, List, [], ◌∷◌, map, filter, fold, flat_map, count_by}
use Rattle.perf_base.specs.declared.{numbers.{CpuNo.{CpuNo}, EventNo.{EventNo}, RingNo.{RingNo}}, reply.{Reply.{Reply}, Sums.{Sums}}}
use Rattle.stage_spec.specs.{Hardware.{Hardware}, Stage.{Stage, all_instances, is_of_family}, History.{Step, SeenStep, stage_step, stage_after}}
use Rattle.stage_spec.specs.{Shares.{share, no_sums}, Sums.{resets, sums_of}, Remainders.{left_by, remainder_of}}
use Rattle.stage_spec.specs.{Families.{plus, plus_each, leaving, folded_of}, Recurrence.{after_reset}, Replies.{IsAnswerAt, AreReplies}}
use Rattle.ring_spec.specs.Sending.{SentSample, sent_by_step, length_by, clock_of}
use Rattle.ring_spec.specs.{Account.{Account, empty_account, ring_step, lost_among, is_event}, Rings.{events_by, account_of, lost_count}}

-- a ring with its size in bytes, and what became of the records that were sent to it
pub record RingAccount : Type 0 where
  pub ring : RingNo
  pub bytes : ℕ
  pub account : Account

-- The record of a step: the stage that it leaves; of each id what its instance has counted and what is left of its
-- period; of each slot what its copies that exited had counted and how many of its records were lost; each processor's
-- clock; each ring's account.
pub record Running : Type 0 where
  pub stage : Stage
  pub sums : ℕ → Sums
  pub left : ℕ → ℕ
  pub folded : EventNo → Sums
  pub lost : EventNo → ℕ
  pub clock : CpuNo → ℕ
  pub rings : List RingAccount

-- the record before the first step, at a stage and with these rings
abbrev pub empty_ring : RingNo × ℕ → RingAccount
empty_ring ring = record { ring = ring.0; bytes = ring.1; account = empty_account }

abbrev pub first_record : Stage → List (RingNo × ℕ) → Running
first_record s rings = record {
  stage = s;
  sums = λ id. no_sums;
  left = λ id. 0;
  folded = λ e. no_sums;
  lost = λ e. 0;
  clock = λ cpu. 0;
  rings = map empty_ring rings;
}

-- a ring after one step more, and the events whose records it loses by that step, given the records that the step sends
abbrev pub ring_after : Step → List (RingNo × SentSample) → RingAccount → RingAccount
ring_after x sents a = record a { account = fold (ring_step a.bytes) a.account (events_by x sents a.ring) }

abbrev pub losses_on : Step → List (RingNo × SentSample) → RingAccount → List EventNo
losses_on x sents a = lost_among a.bytes a.account (events_by x sents a.ring)

-- how many records of an event were lost, with these
abbrev pub more_lost : (EventNo → ℕ) → List EventNo → EventNo → ℕ
more_lost lost losses e = lost e + count_by (is_event e) losses

-- the record after one step more, given the records that the step sends, and after one step more
abbrev pub record_with : Hardware → Running → Step → List (RingNo × SentSample) → Running
record_with hw r x sents = record {
  stage = stage_step hw r.stage x;
  sums = λ id. plus (after_reset (resets r.stage x id) (r.sums id)) (share hw r.stage x id);
  left = λ id. left_by hw r.stage x id (r.left id);
  folded = λ e. plus (r.folded e) (plus_each (λ i. r.sums i.id) (leaving r.stage x e));
  lost = more_lost r.lost (flat_map (losses_on x sents) r.rings);
  clock = λ cpu. r.clock cpu + length_by cpu x;
  rings = map (ring_after x sents) r.rings;
}

abbrev pub record_after : Hardware → Running → Step → Running
record_after hw r x = record_with hw r x (sent_by_step hw r.stage r.left r.clock x)

-- the record after some steps, the first of which is at a stage, with these rings
unfoldable pub record_of : Hardware → Stage → List (RingNo × ℕ) → List Step → Running
record_of hw s rings steps = fold (record_after hw) (first_record s rings) steps

-- what an event's family has counted by a record: its instances that are there, and the copies that exited
abbrev pub family_by : Running → EventNo → Sums
family_by r e = plus (plus_each (λ i. r.sums i.id) (filter (is_of_family e) (all_instances r.stage))) (r.folded e)

-- the answer to a step by a record, and the replies to steps, each by the record of those before it
abbrev pub IsAnswerBy : Hardware → Running → Step → Reply → Type 0
IsAnswerBy hw r x a = IsAnswerAt hw r.stage (family_by r) r.lost x a

unfoldable pub AreRepliesBy : Hardware → Running → List Step → List Reply → Type 0
AreRepliesBy hw r [] [] = Unit {0}
AreRepliesBy hw r [] (a ∷ replies) = ⊥
AreRepliesBy hw r (SeenStep ring place ∷ steps) replies = AreRepliesBy hw (record_after hw r (SeenStep ring place)) steps replies
AreRepliesBy hw r (x ∷ steps) [] = ⊥
AreRepliesBy hw r (x ∷ steps) (a ∷ replies) = IsAnswerBy hw r x a × AreRepliesBy hw (record_after hw r x) steps replies

-- The fields of a record are what the definitions over the whole history give.
pub record IsRecordOf (hw : Hardware) (s : Stage) (declared : List (RingNo × ℕ)) (steps : List Step) (r : Running) : Type 0 where
  pub stage : r.stage ≡ stage_after hw s steps
  pub sums : (id : ℕ) → r.sums id ≡ sums_of hw s steps id
  pub left : (id : ℕ) → r.left id ≡ remainder_of hw s steps id
  pub folded : (e : EventNo) → r.folded e ≡ folded_of hw s steps e
  pub lost : (e : EventNo) → r.lost e ≡ lost_count hw s declared steps e
  pub clock : (cpu : CpuNo) → r.clock cpu ≡ clock_of steps cpu
  pub rings : r.rings ≡ map (λ ring. record { ring = ring.0; bytes = ring.1; account = account_of hw s steps ring }) declared

abbrev pub RecordLaw : Type 0
RecordLaw = (hw : Hardware) (s : Stage) (rings : List (RingNo × ℕ)) (steps : List Step) → IsRecordOf hw s rings steps (record_of hw s rings steps)

-- Replies by the record are the definitions' replies, lost counts included, and the other way round.
abbrev pub RepliesLaw : Type 0
RepliesLaw = (hw : Hardware) (s : Stage) (rings : List (RingNo × ℕ)) (before steps : List Step) (replies : List Reply)
    → (AreRepliesBy hw (record_of hw s rings before) steps replies ↔ AreReplies hw s (lost_count hw s rings) before steps replies)
