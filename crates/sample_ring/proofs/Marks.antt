-- The marks of the ends of records: one more record is marked, and one more look keeps them.
use Rattle.std.proofs.Common.{◌≡◌, ◌≢◌, ◌↔◌, ℕ, suc, ◌+◌, ◌-◌, ◌*◌, ◌/◌, ◌<◌, ◌≤◌, List, [], ◌∷◌, ◌++◌, length, take, slice_index, set, sym, ap, ◌∙◌, subst, append_assoc, length-append, length-set, length-take-le, get_or-set_same, get_or-set_other, lt_of_not-le, arith}
use Rattle.std.proofs.{Math.{Decide.{dec_le, ℕ_discrete}, Logic.{dite}, Seq.{take-append-add}}, lemmas.List.{take_all, take-append-le}}
use Rattle.atomic_table.proofs.Lists.{one_turn}
use Rattle.ring_spec.{specs.{Whole.{IsBlock, IsWhole}, Records.{Record, IsRecord, record_words, record_size}}, proofs.Cutting.{block-of}}
use Rattle.ring_words.specs.Ends.{ProducerEnd, head_place, room_of, IsStop, LeadsTo, BeginsBlock, IsSoundProducer}
use Rattle.ring_words.proofs.{Prefixes.{whole_both, whole_one, stop_more}, Cuts.{next_begins}}
use Rattle.sample_ring.specs.Outs.{mark_of, AreMarks}

-- a stop behind whole words and within one block more is the end of that block
pub stop_behind : (words : List ℕ) (first : ℕ) (others : List ℕ) (place : ℕ) → IsWhole words → IsBlock (first ∷ others) → IsStop (words ++ first ∷ others) place
    → 8 * length words < place → place ≡ 8 * length (words ++ first ∷ others)
stop_behind words first others place whole block stop more =
    let n : ℕ = place / 8 in
    let m : ℕ = n - length words - 1 in
    let long : length (words ++ first ∷ others) ≡ length words + length (first ∷ others) = length-append words (first ∷ others) in
    let counts : length words + suc m ≡ n = omega (arith, stop.of_words, more) in
    let cut : take n (words ++ first ∷ others) ≡ words ++ first ∷ take m others = ap (λ (k : ℕ). take k (words ++ first ∷ others)) (sym counts) ∙ take-append-add words (first ∷ others) (suc m) in
    let joined : (words ++ first ∷ []) ++ take m others ≡ words ++ first ∷ take m others = append_assoc words (first ∷ []) (take m others) in
    let at_end : 8 * length (take n (words ++ first ∷ others)) ≡ place = ap (λ (k : ℕ). 8 * k) (length-take-le n (words ++ first ∷ others) (omega (arith, stop.within))) ∙ omega (arith, stop.of_words) in
    let leads : LeadsTo (words ++ first ∷ []) place = record {
      others = take m others;
      whole = subst IsWhole (cut ∙ sym joined) stop.whole;
      ends = ap (λ (l : List ℕ). 8 * length l) (joined ∙ sym cut) ∙ at_end;
    } in
    let begins : BeginsBlock first (8 * length words) place = next_begins words first place leads whole in
    omega (arith, begins.within, block, stop.within, long)

-- a stop at or before the end of a beginning is one of that beginning
pub stop_before : (words more : List ℕ) (place : ℕ) → IsStop (words ++ more) place → place ≤ 8 * length words → IsStop words place
stop_before words more place stop h = grind (arith, take-append-le)

-- whole words have a stop at their end
pub stop_at_end : (words : List ℕ) (place : ℕ) → IsWhole words → place ≡ 8 * length words → IsStop words place
stop_at_end words place whole at = grind (arith, take_all)

-- one more record, whose end is marked
module _ (marks words : List ℕ) (first : ℕ) (others : List ℕ) (tail place : ℕ) (m : AreMarks marks words tail) (block : IsBlock (first ∷ others))
    (at : place ≡ 8 * length (words ++ first ∷ others)) (fits : place < tail + 8 * length marks) where
  abbrev cell : ℕ
  cell = mark_of (length marks) place

  abbrev after : List ℕ
  after = set marks cell place

  within : cell < length marks
  within = let some : 0 < length marks = m.some in omega (arith, some)

  same_length : length after ≡ length marks
  same_length = length-set marks cell place

  whole_after : IsWhole (words ++ first ∷ others)
  whole_after = whole_both words (first ∷ others) m.whole (whole_one (first ∷ others) block)

  end_stops : IsStop (words ++ first ∷ others) place
  end_stops = stop_at_end (words ++ first ∷ others) place whole_after at

  stops_after : (k : ℕ) → k < length after → IsStop (words ++ first ∷ others) (slice_index after k)
  stops_after k h =
      dite (ℕ_discrete k cell)
      (λ (same : k ≡ cell). subst (IsStop (words ++ first ∷ others)) (sym (ap (slice_index after) same ∙ get_or-set_same marks cell place 0 within)) end_stops)
      (λ (other : k ≢ cell). subst (IsStop (words ++ first ∷ others)) (sym (get_or-set_other marks cell k place 0 other)) (stop_more words (first ∷ others) (slice_index marks k) (m.stops k (omega (arith, same_length, h)))))

  apart : (other : ℕ) → IsStop (words ++ first ∷ others) other → tail ≤ other → other ≤ 8 * length words → mark_of (length marks) other ≢ cell
  apart other stop low h same =
      let long : length (words ++ first ∷ others) ≡ length words + length (first ∷ others) = length-append words (first ∷ others) in
      let turn : other / 8 ≡ place / 8 = one_turn (other / 8) (place / 8) (length marks) (omega (arith, at, long, h)) (omega (arith, fits, low, stop.of_words)) same in
      omega (arith, turn, at, long, h, stop.of_words)

  found_marked : (other : ℕ) → IsStop (words ++ first ∷ others) other → tail ≤ other → slice_index after (mark_of (length marks) other) ≡ other
  found_marked other stop low =
      dite (dec_le other (8 * length words))
      (λ (h : other ≤ 8 * length words). get_or-set_other marks cell (mark_of (length marks) other) place 0 (apart other stop low h) ∙ m.found other (stop_before words (first ∷ others) other stop h) low)
      (λ h.
      let here : other ≡ place = stop_behind words first others other m.whole block stop (lt_of_not-le h) ∙ sym at in
      ap (λ (n : ℕ). slice_index after (mark_of (length marks) n)) here ∙ get_or-set_same marks cell place 0 within ∙ sym here)

  pub marks_more : AreMarks after (words ++ first ∷ others) tail
  marks_more = record {
    some = omega (arith, m.some, same_length);
    whole = whole_after;
    stops = stops_after;
    found = λ other stop low. ap (λ (n : ℕ). slice_index after (mark_of n other)) same_length ∙ found_marked other stop low;
  }

marks_block : (marks words block : List ℕ) (tail place : ℕ) → AreMarks marks words tail → IsBlock block → place ≡ 8 * length (words ++ block) → place < tail + 8 * length marks
    → AreMarks (set marks (mark_of (length marks) place) place) (words ++ block) tail
marks_block marks words [] tail place m block at fits = absurd block
marks_block marks words (first ∷ others) tail place m block at fits = marks_more marks words first others tail place m block at fits

pub marks_put : (marks : List ℕ) (p : ProducerEnd) (r : Record) (place : ℕ) → AreMarks marks (p.published ++ p.put) p.last_tail → IsRecord r → place ≡ head_place p + record_size r
    → p.ring.bytes ≡ 8 * length marks → IsSoundProducer p → record_size r ≤ room_of p
    → AreMarks (set marks (mark_of (length marks) place) place) (p.published ++ (p.put ++ record_words r)) p.last_tail
marks_put marks p r place m lawful at bytes sound room =
    let words : List ℕ = p.published ++ p.put in
    let joined : words ++ record_words r ≡ p.published ++ (p.put ++ record_words r) = append_assoc p.published p.put (record_words r) in
    let long : length (words ++ record_words r) ≡ length p.published + length p.put + length (record_words r) = length-append words (record_words r) ∙ ap (λ (n : ℕ). n + length (record_words r)) (length-append p.published p.put) in
    let P : List ℕ → Type 0 = λ l. AreMarks (set marks (mark_of (length marks) place) place) l p.last_tail in
    subst P joined (marks_block marks words (record_words r) p.last_tail place m (block-of r lawful) (omega (arith, at, long)) (omega (arith, at, bytes, room, sound.fits)))

-- whether a place is marked says whether a record ends there
pub marked : (marks words : List ℕ) (tail place : ℕ) → AreMarks marks words tail → tail ≤ place → (slice_index marks (mark_of (length marks) place) ≡ place) ↔ IsStop words place
marked marks words tail place m h =
    let some : 0 < length marks = m.some in
    (λ same. subst (IsStop words) same (m.stops (mark_of (length marks) place) (omega (arith, some))), λ stop. m.found place stop h)

-- the marks that were found are found from a later place on
pub marks_later : (marks words : List ℕ) (tail later : ℕ) → AreMarks marks words tail → tail ≤ later → AreMarks marks words later
marks_later marks words tail later m h = grind arith
