-- What a look counts, and what is left of the two ends of a ring where they meet.
use Rattle.std.specs.Prelude.{◌≡◌, ℕ, ◌+◌, ◌≤◌, List, map, option_map, Some, slice_get, slice_index_or, slice_set, take}
use Rattle.std.proofs.{Common.{sym, ap, subst, ◌∙◌}, lemmas.{List.{map-set}, Option.{get_or_from_slice_get, slice_get-map}}}
use Rattle.perf_base.specs.{declared.{acts.Act.{Act}, numbers.RingNo.{RingNo}}, Scripts.{Scripted}}
use Rattle.stage_spec.specs.Order.{IsLawfulSeen, last_seen}
use Rattle.ring_spec.specs.{Records.{Record, words_of}, Rings.{sizes_in}}
use Rattle.sample_ring.specs.{Taking.{with_tail}, InEnds.{InEnd}, Lending.{with_out, with_reader}, OutEnds.{OutEnd, IsSoundOut}}
use Rattle.sample_ring.specs.RingLists.{HasRing, InList, OutList, ring_index}
use Rattle.ring_words.specs.Ends.{IsStop}
use Rattle.machine.specs.{Leading.{Kept, LeadTo}, Readers.{loads_of, records_taken, records_of_slot}}
use Rattle.run_end.specs.Ended.{words_of_slot}
use Rattle.run_end.specs.Ended.{words_in}
use Rattle.machine.proofs.{Places.{set-here}, Seen.{lawful-stop}}

-- one end has loaded its tail once more
pub one-load : (outs : OutList) (place : ℕ) (o p : OutEnd) → slice_get outs.outs place ≡ Some o → p.producer.loads ≡ o.producer.loads + 1
    → loads_of (with_out outs place p) ≡ slice_set (loads_of outs) place (slice_index_or (loads_of outs) place 0 + 1)
one-load outs place o p at more =
    let loads : OutEnd → ℕ = λ q. q.producer.loads in
    let before : slice_index_or (loads_of outs) place 0 ≡ o.producer.loads =
    get_or_from_slice_get (map loads outs.outs) place o.producer.loads 0 (slice_get-map loads outs.outs place ∙ ap (option_map loads) at) in
    map-set loads outs.outs place p ∙ ap (slice_set (loads_of outs) place) (more ∙ ap (λ n. n + 1) (sym before))

-- where two ends meet the tail may be seen
pub met-lawful : (s : Scripted) (acts : List Act) (m : Kept) (ring : RingNo) (place loads : ℕ) (o p : OutEnd) → LeadTo s acts m → HasRing m.outs.numbers ring
    → slice_get m.outs.outs (ring_index m.outs.numbers ring) ≡ Some o → p ≡ with_tail o place loads → o.producer.last_tail ≤ p.producer.last_tail → IsSoundOut p
    → IsLawfulSeen (sizes_in s acts ring) (last_seen ring acts) place
met-lawful s acts m ring place loads o p led there at e rises sound =
    lawful-stop s acts m ring place o led there at (subst (λ (q : OutEnd). o.producer.last_tail ≤ q.producer.last_tail) e rises)
    (subst (λ (q : OutEnd). IsStop q.producer.published q.producer.last_tail) e sound.producer.stop)

-- and the reader's words are those of the first records written
pub met-words : (ins : InList) (ring : RingNo) (i j : InEnd) (records : List Record) → slice_get ins.readers (ring_index ins.numbers ring) ≡ Some (Some i)
    → j.words ≡ i.words → j.records ≡ i.records → i.words ≡ words_of (take i.records records)
    → words_in (with_reader ins (ring_index ins.numbers ring) j) ring ≡ words_of (take (records_taken (with_reader ins (ring_index ins.numbers ring) j) ring) records)
met-words ins ring i j records at words number first =
    let here = set-here ins.readers (ring_index ins.numbers ring) (Some i) (Some j) at in
    ap words_of_slot here ∙ (words ∙ (first ∙ ap (λ n. words_of (take n records)) (sym (ap records_of_slot here ∙ number))))
