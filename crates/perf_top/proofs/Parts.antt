-- What each reader of a run took.
use Rattle.std.specs.Prelude.{◌≡◌, ℕ, ◌*◌, ◌≤◌, All, List, length, MatchOption, Option, Some, None, slice_get, slice_index_or}
use Rattle.std.proofs.Common.{arith, refl, ap, ◌∙◌}
use Rattle.perf_base.specs.{declared.{acts.Act.{Act}, lines.ReaderLine.{ReaderLine}, numbers.RingNo.{RingNo}}, Scripts.{Scripted}}
use Rattle.ring_spec.specs.Rings.{account_in}
use Rattle.sample_ring.specs.{InEnds.{InEnd}, RingLists.{InList, ring_index}}
use Rattle.stage_spec.specs.Order.{last_seen}
use Rattle.machine.specs.Readers.{records_taken, records_of_slot, released_in, released_of_slot}
use Rattle.report_spec.specs.Answers.{AreReadersParts, IsNoLook, IsRunShaped, reader_of, taken_of}
use Rattle.ring_laws.proofs.Taken.{never-seen}
use Rattle.perf_book.specs.{Ending.{AreParts}, Running.{IsRead, IsReadBy}}

-- no reader has taken or released anything
abbrev AreUnread : InList → Type 0
AreUnread ins = (place : ℕ) (i : InEnd) → slice_get ins.readers place ≡ Some (Some i) → (i.records ≡ 0) × (i.consumer.released ≡ 0)

-- a reader that has taken nothing has released nothing
none-released : (ins : InList) (ring : RingNo) → AreUnread ins → released_in ins ring ≡ 0
none-released ins ring unread = one (slice_get ins.readers (ring_index ins.numbers ring)) refl
  where
    one : (slot : Option (Option InEnd)) → slice_get ins.readers (ring_index ins.numbers ring) ≡ slot → released_of_slot slot ≡ 0
    one None at = refl
    one (Some None) at = refl
    one (Some (Some i)) at = omega (arith, (unread (ring_index ins.numbers ring) i at).1)

-- the part of one ring's reader, if it has a line
part-of : (order : List Act) (ring : RingNo) (taken : ℕ) (before after : InList) (line : Option ReaderLine) → IsRunShaped order → AreUnread before → IsReadBy line before after ring
    → last_seen ring order ≡ released_in after ring → taken ≤ records_taken after ring → MatchOption line (All (IsNoLook ring) order) (λ l. taken ≤ l.tries * l.batch)
part-of order ring taken before after None shaped unread read last few =
    never-seen order ring shaped (last ∙ (ap released_of_slot read ∙ none-released before ring unread))
part-of order ring taken before after (Some line) shaped unread read last few =
    omega (arith, few, ap records_of_slot read.3, read.4.records, (unread (ring_index before.numbers ring) read.0 read.2).0)

pub readers-parts : (s : Scripted) (order : List Act) (before after : InList) → IsRunShaped order → AreUnread before → All (λ r. IsRead s before after r.0) s.rings → AreParts s order after
    → AreReadersParts s order
readers-parts s order before after shaped unread read parts k d low =
    let r : RingNo × ℕ = slice_index_or s.rings k d in
    let part = parts k d low in
    part-of order r.0 (length (taken_of (account_in s order r))) before after (reader_of s r.0) shaped unread (read k d low) part.0 part.1
