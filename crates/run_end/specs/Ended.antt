-- inner
-- What is left of a run. This project's own profile.
use Rattle.std.specs.Prelude.{◌≡◌, ℕ, ◌*◌, All, List, [], length, map, Option, Some, None, slice_get}
use Rattle.perf_base.specs.{declared.{acts.Act.{Act}, numbers.RingNo.{RingNo}, reply.Answer.{Answer}}, Scripts.{Scripted}}
use Rattle.stage_spec.specs.{Order.{IsCounted}, Replies.{lines_from}}
use Rattle.sample_ring.specs.{InEnds.{InEnd}, RingLists.{InList, HasReader, ring_index}}
use Rattle.run_end.specs.declared.ended.RingEnd.{RingEnd}

-- its script, the order in which its lines were done, the answers to them, what each ring came to, and the rings'
-- readers
pub record Ran : Type 0 where
  pub script : Scripted
  pub order : List Act
  pub answers : List Answer
  pub ends : List RingEnd
  pub ins : InList

-- the words that the reader of a ring has taken; none where it is not there
abbrev pub words_of_slot : Option (Option InEnd) → List ℕ
words_of_slot None = []
words_of_slot (Some None) = []
words_of_slot (Some (Some i)) = i.words

abbrev pub words_in : InList → RingNo → List ℕ
words_in ins ring = words_of_slot (slice_get ins.readers (ring_index ins.numbers ring))

-- The reader of a ring is there, and has taken all words up to the ring's head.
pub record HasTakenAll (ins : InList) (e : RingEnd) : Type 0 where
  pub there : HasReader ins e.ring
  pub words : 8 * length (words_in ins e.ring) ≡ e.numbers.head

-- No actor did more lines than the script gives it, each line that was done has its answer, in their order, and each
-- ring of the script has its end, all of whose words were taken.
pub record IsRan (r : Ran) : Type 0 where
  pub counted : IsCounted r.script r.order
  pub lines : map (λ a. (a.actor, a.number)) r.answers ≡ lines_from [] r.order
  pub rings : map (λ e. e.ring) r.ends ≡ map (λ s. s.0) r.script.rings
  pub taken : All (HasTakenAll r.ins) r.ends
