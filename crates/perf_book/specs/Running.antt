-- inner
-- What threads make of a book: the order that they leave, and what the readers do. This project's own profile.
use Rattle.std.specs.Prelude.{◌≡◌, ◌+◌, ◌*◌, ◌≤◌, All, List, length, slice_get, Option, Some, MatchOption}
use Rattle.perf_base.specs.{declared.{acts.Act.{Act}, lines.ReaderLine.{ReaderLine}, numbers.RingNo.{RingNo}}, Scripts.{Scripted}, Weight.{weight}}
use Rattle.sample_ring.specs.{InEnds.{InEnd}, RingLists.{HasRing, InList, RingList, ring_index}}
use Rattle.report_spec.specs.Answers.{IsRunShaped, reader_of}
use Rattle.ring_laws.specs.Growing.{EndsWithLine}
use Rattle.stage_spec.specs.Order.{IsComplete}
use Rattle.work_account.specs.Ends.{AreTogether}
use Rattle.machine.specs.Readers.{AreReaders}
use Rattle.perf_book.specs.Book.{Booked}

-- the order of a run between two of its lines: each look is one that a run makes, and the last act, if there is one, is
-- a line
abbrev pub IsUnderWay : List Act → Type 0
IsUnderWay order = IsRunShaped order × EndsWithLine order

-- The reader has loaded the head once for each try of its line, taken no more records than the line allows, and
-- released all that it has taken.
pub record HasRead (line : ReaderLine) (i j : InEnd) : Type 0 where
  pub ring : j.consumer.ring ≡ i.consumer.ring
  pub room : j.room ≡ i.room
  pub loads : j.consumer.loads ≡ i.consumer.loads + line.tries
  pub records : j.records ≤ i.records + line.tries * line.batch
  pub released : j.consumer.released ≡ length j.words

-- what stands in the place of a ring's reader
abbrev pub slot_of : InList → RingNo → Option (Option InEnd)
slot_of ins ring = slice_get ins.readers (ring_index ins.numbers ring)

-- The reader of a ring has done its line, where it has one; else it is as it was.
abbrev pub IsReadBy : Option ReaderLine → (before after : InList) → RingNo → Type 0
IsReadBy line before after ring =
    MatchOption line (slot_of after ring ≡ slot_of before ring)
    (λ line. (i : InEnd) × (j : InEnd) × (slot_of before ring ≡ Some (Some i)) × (slot_of after ring ≡ Some (Some j)) × HasRead line i j)

abbrev pub IsRead : Scripted → (before after : InList) → RingNo → Type 0
IsRead s before after ring = IsReadBy (reader_of s ring) before after ring

-- The reader of a ring is there, takes from the ring of that number, and has released all that it has taken.
pub record IsReady (rings : RingList) (ins : InList) (ring : RingNo) : Type 0 where
  pub known : HasRing rings.numbers ring
  pub listed : HasRing ins.numbers ring
  pub reader : InEnd
  pub there : slot_of ins ring ≡ Some (Some reader)
  pub same : slice_get rings.tables (ring_index rings.numbers ring) ≡ Some reader.consumer.ring
  pub released : reader.consumer.released ≡ length reader.words

abbrev pub AreReady : RingList → InList → List ReaderLine → Type 0
AreReady rings ins lines = All (λ line. IsReady rings ins line.ring) lines

-- A script was run to its end by threads from a book of which no line was done.
pub record HasRun (rings : RingList) (before : Booked) (ins : InList) (after : Booked) (left : InList) : Type 0 where
  pub script : after.script ≡ before.script
  pub together : AreTogether rings after.machine.outs
  pub complete : IsComplete after.script after.order
  pub shaped : IsUnderWay after.order
  pub readers : AreReaders (9 * weight after.script) after.machine.outs left
  pub numbers : left.numbers ≡ ins.numbers
  pub read : All (λ ring. IsRead before.script ins left ring.0) before.script.rings
