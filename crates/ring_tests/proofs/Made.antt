-- Rings that a test makes, with their two ends.
use Rattle.std.proofs.Common.{map, inl, inr, ap, ◌≡◌, ℕ, List, [], ◌∷◌, Option, Some, Result, Ok, Err, IfOk, length, lit<, refl, sym, ◌∙◌, subst, arith}
use Rattle.std.proofs.lemmas.{Option.{slice_get-map, slice_get_cases}, List.{length-map}}
use Rattle.std.specs.{Option.{option_map}, Result.{result_ok}, Prelude.{slice_get}}
use Rattle.perf_base.specs.declared.numbers.{NoMemory.{NoMemory}, RingNo.{RingNo}}
use Rattle.ring_words.specs.Ends.{Ring}
use Rattle.sample_ring.specs.{OutEnds.{OutEnd, new_out}, InEnds.{InEnd, new_in}, RingLists.{RingList, OutList, InList, AreNew, HasRing, HasReader, ring_index}}
use Rattle.sample_ring.specs.Taking.{IsUpTo}

-- the ring, the end that sends and the end that takes that a new run has at the place of a ring
record NewAt (words : ℕ) (rings : RingList) (outs : OutList) (ins : InList) (ring : RingNo) : Type 0 where
  pub table : Ring
  pub table_is : slice_get rings.tables (ring_index rings.numbers ring) ≡ Some table
  pub out_is : slice_get outs.outs (ring_index outs.numbers ring) ≡ Some (new_out table)
  pub reader_is : slice_get ins.readers (ring_index ins.numbers ring) ≡ Some (Some (new_in table words))

module _ (sizes : List (RingNo × ℕ)) (words : ℕ) (rings : RingList) (outs : OutList) (ins : InList) (new : AreNew sizes words rings outs ins) (ring : RingNo) where
  abbrev at : ℕ
  at = ring_index rings.numbers ring

  same_place : (numbers : List RingNo) → numbers ≡ map (λ (s : RingNo × ℕ). s.0) sizes → ring_index numbers ring ≡ at
  same_place numbers e = ap (λ (l : List RingNo). ring_index l ring) (e ∙ sym new.ring_numbers)

  as_many : length rings.tables ≡ length rings.numbers
  as_many = sym (length-map rings.tables (λ (t : Ring). t.bytes)) ∙ (ap length new.bytes ∙ (length-map sizes (λ (s : RingNo × ℕ). s.1) ∙ (sym (length-map sizes (λ (s : RingNo × ℕ). s.0)) ∙ sym (ap length new.ring_numbers))))

  there : (t : Ring) → slice_get rings.tables at ≡ Some t → NewAt words rings outs ins ring
  there t is = record {
    table = t;
    table_is = is;
    out_is = ap (slice_get outs.outs) (same_place outs.numbers new.out_numbers) ∙ (ap (λ (l : List OutEnd). slice_get l at) new.new_outs ∙ (slice_get-map new_out rings.tables at ∙ ap (option_map new_out) is));
    reader_is = ap (slice_get ins.readers) (same_place ins.numbers new.in_numbers) ∙ (ap (λ (l : List (Option InEnd)). slice_get l at) new.new_readers ∙ (slice_get-map (λ (r : Ring). Some (new_in r words)) rings.tables at ∙ ap (option_map (λ (r : Ring). Some (new_in r words))) is));
  }

  new_at : HasRing rings.numbers ring → NewAt words rings outs ins ring
  new_at h = elim (slice_get_cases rings.tables at).1 [ inl (t, _, is, _) ↦ there t is | inr (past, _) ↦ absurd (omega (arith, past, as_many, h)) ]

pub reader_there : (sizes : List (RingNo × ℕ)) (words : ℕ) (rings : RingList) (outs : OutList) (ins : InList) (ring : RingNo) → AreNew sizes words rings outs ins → HasRing rings.numbers ring → HasReader ins ring
reader_there sizes words rings outs ins ring new h = let n : NewAt words rings outs ins ring = new_at sizes words rings outs ins new ring h in (new_in n.table words, n.reader_is)

-- the ring of most tests
abbrev pub ring : RingNo
ring = record { 0 = 3 }

-- what a call that makes this ring alone answers
abbrev pub Made : Type 0
Made = Result (RingList × OutList × InList) NoMemory

abbrev pub MadeOf : (bytes words : ℕ) → Made → Type 0
MadeOf bytes words r = IfOk r (λ m. AreNew ((ring, bytes) ∷ []) words m.0 m.1 m.2)

pub record AreEnds (t : Ring) (o : OutEnd) (i : InEnd) (words : ℕ) : Type 0 where
  pub out : o ≡ new_out t
  pub reader : i ≡ new_in t words

module _ (r : Made) (rings : RingList) (outs : OutList) (ins : InList) (bytes words : ℕ) (made : MadeOf bytes words r) {o : Option (RingList × OutList × InList)} (here : o ≡ Some (rings, outs, ins)) (is : o ≡ result_ok r) where
  new_of : (q : Made) → MadeOf bytes words q → Some (rings, outs, ins) ≡ result_ok q → AreNew ((ring, bytes) ∷ []) words rings outs ins
  new_of (Ok m) new same =
      let one : (rings, outs, ins) ≡ m = cc in
      let P : RingList × OutList × InList → Type 0 = λ n. AreNew ((ring, bytes) ∷ []) words n.0 n.1 n.2 in subst P (sym one) new
  new_of (Err e) new same = absurd (cc)

  new : AreNew ((ring, bytes) ∷ []) words rings outs ins
  new = new_of r made (sym here ∙ is)

  pub reader_made : HasReader ins ring
  reader_made = reader_there ((ring, bytes) ∷ []) words rings outs ins ring new (rw new.ring_numbers (lit< tt))

  pub ends_made : (t : Ring) (o : OutEnd) (i : InEnd)
      → slice_get rings.tables (ring_index rings.numbers ring) ≡ Some t → slice_get outs.outs (ring_index outs.numbers ring) ≡ Some o → slice_get ins.readers (ring_index ins.numbers ring) ≡ Some (Some i)
      → AreEnds t o i words
  ends_made t o i a b c =
      let n : NewAt words rings outs ins ring = new_at ((ring, bytes) ∷ []) words rings outs ins new ring (rw new.ring_numbers (lit< tt)) in
      let first : t ≡ n.table = cc (n.table_is) in
      let second : o ≡ new_out n.table = cc (n.out_is) in
      let third : i ≡ new_in n.table words = cc (n.reader_is) in
      record { out = second ∙ ap new_out (sym first); reader = third ∙ ap (λ (r : Ring). new_in r words) (sym first) }

module _ (t : Ring) (o : OutEnd) (i : InEnd) (words : ℕ) (e : AreEnds t o i words) where
  pub out_ring : o.producer.ring ≡ t
  out_ring = ap (λ (o : OutEnd). o.producer.ring) e.out

  pub reader_ring : i.consumer.ring ≡ t
  reader_ring = ap (λ (i : InEnd). i.consumer.ring) e.reader

  pub room_made : i.room ≡ words
  room_made = ap (λ (i : InEnd). i.room) e.reader

  pub starts : IsUpTo i o.producer.last_tail
  starts = rw (e.out, e.reader) (record { kept = refl; words = refl; released = refl })
