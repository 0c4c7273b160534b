-- The records that a reader took are the first of those written.
use Rattle.std.proofs.Common.{◌≡◌, ◌↔◌, ◌*◌, ◌/◌, subst, ℕ, zero, List, [], ◌∷◌, ◌++◌, All, length, length-take-le, map, take, drop, sum, refl, sym, ap, ◌∙◌, append_assoc, arith}
use Rattle.std.proofs.lemmas.List.{take-append-drop, take-map, Concat.{flat_map-append, flat_map-cons}, Sums.{sum-map}, Elements.{All-tail, All-take}}
use Rattle.std.{proofs.Math.Seq.{take-append_seam}, specs.List.{concat}}
use mathlib.Core.List.{IsPrefix}
use Rattle.ring_spec.specs.{Whole.{size_field, IsBlock, IsWhole}, Records.{Record, IsRecord, record_words, words_of, EndsAtRecord, record_size}}
use Rattle.ring_spec.{specs.Account.{Account}, proofs.{Cutting.{back, block-of, whole_law}, Sizes.{prefix_law}}}
use Rattle.ring_spec.proofs.Sizes.{size-words}
use Rattle.ring_words.{proofs.Prefixes.{stop_more}, specs.Ends.{IsStop}}
use Rattle.sample_ring.{proofs.Marks.{stop_at_end}, specs.OutEnds.{OutEnd, HasAccount, EndsRecord}}
use Rattle.sample_ring.specs.InEnds.{InEnd, kept_words, IsSoundIn}

record SameBlock (a b us vs : List ℕ) : Type 0 where
  pub blocks : a ≡ b
  pub rests : us ≡ vs

-- of two lists that are equal, the blocks at their beginnings are
same_block : (a b us vs : List ℕ) → IsBlock a → IsBlock b → a ++ us ≡ b ++ vs → SameBlock a b us vs
same_block [] b us vs h k e = absurd h
same_block (f ∷ t) [] us vs h k e = absurd k
same_block (f ∷ t) (g ∷ u) us vs h k e =
    let first : f ≡ g = cc in
    let size : size_field f ≡ size_field g = ap size_field first in
    let long : length (f ∷ t) ≡ length (g ∷ u) = omega (arith, h, k, size) in
    record {
      blocks = sym (take-append_seam (f ∷ t) us) ∙ (ap (take (length (f ∷ t))) e ∙ (ap (λ (n : ℕ). take n ((g ∷ u) ++ vs)) long ∙ take-append_seam (g ∷ u) vs));
      rests = back (f ∷ t) (g ∷ u) us vs long e;
    }

cut_as : (blocks : List (List ℕ)) (rest : List ℕ) (records : List Record) → All IsBlock blocks → All IsRecord records → concat blocks ++ rest ≡ words_of records
    → concat blocks ≡ words_of (take (length blocks) records)
cut_as [] rest records all lawful e = refl
cut_as ([] ∷ bs) rest [] all lawful e = absurd (all zero [] (omega arith))
cut_as ((f ∷ t) ∷ bs) rest [] all lawful e = absurd (cc)
cut_as (b ∷ bs) rest (r ∷ rs) all lawful e =
    let joined : b ++ (concat bs ++ rest) ≡ record_words r ++ words_of rs = sym (append_assoc b (concat bs) rest) ∙ (e ∙ flat_map-cons record_words r rs) in
    let same : SameBlock b (record_words r) (concat bs ++ rest) (words_of rs) = same_block b (record_words r) (concat bs ++ rest) (words_of rs) (all zero [] (omega arith)) (block-of r (lawful zero r (omega arith))) joined in
    let behind : concat bs ≡ words_of (take (length bs) rs) = cut_as bs rest rs (All-tail IsBlock b bs all) (All-tail IsRecord r rs lawful) same.rests in
    ap (λ (l : List ℕ). l ++ concat bs) same.blocks ∙ (ap (λ (l : List ℕ). record_words r ++ l) behind ∙ sym (flat_map-cons record_words r (take (length bs) rs)))

pub records_taken : (i : InEnd) (published : List ℕ) (records : List Record) → IsSoundIn i → IsPrefix i.consumer.taken published → words_of records ≡ published → All IsRecord records
    → i.words ≡ words_of (take i.records records)
records_taken i published records s p same lawful =
    let rest : List ℕ = kept_words i.kept ++ p.0 in
    let all : concat s.records.0 ++ rest ≡ words_of records = ap (λ (l : List ℕ). l ++ rest) s.records.2 ∙ (sym (append_assoc i.words (kept_words i.kept) p.0) ∙ (ap (λ (l : List ℕ). l ++ p.0) (sym s.taken) ∙ (p.1 ∙ sym same))) in
    sym s.records.2 ∙ (cut_as s.records.0 rest records s.records.1 lawful all ∙ ap (λ (n : ℕ). words_of (take n records)) s.records.3)

-- a stop of the words of records is a place at which one of them ends
pub stop_ends : (a : Account) (place : ℕ) → All IsRecord a.written → IsStop (words_of a.written) place → EndsRecord a place
stop_ends a place lawful stop =
    let ends : EndsAtRecord a.written (take (place / 8) (words_of a.written)) = prefix_law a.written (place / 8) lawful stop.whole in
    let long : length (take (place / 8) (words_of a.written)) ≡ place / 8 = length-take-le (place / 8) (words_of a.written) (omega (arith, stop.within)) in
    (ends.few, omega (arith, stop.of_words, long) ∙ ends.place)

sizes_of : (n : ℕ) (records : List Record) → sum (take n (map record_size records)) ≡ 8 * length (words_of (take n records))
sizes_of n records = ap sum (take-map record_size n records) ∙ (sum-map record_size (take n records) ∙ size-words (take n records))

pub ends_stop : (a : Account) (place : ℕ) → All IsRecord a.written → EndsRecord a place → IsStop (words_of a.written) place
ends_stop a place lawful e =
    let before : List ℕ = words_of (take e.0 a.written) in
    let behind : List ℕ = words_of (drop e.0 a.written) in
    let whole : IsWhole before = whole_law (take e.0 a.written) (All-take IsRecord e.0 a.written lawful) in
    let all : before ++ behind ≡ words_of a.written = sym (flat_map-append record_words (take e.0 a.written) (drop e.0 a.written)) ∙ ap words_of (take-append-drop e.0 a.written) in
    let P : List ℕ → Type 0 = λ l. IsStop l place in
    subst P all (stop_more before behind place (stop_at_end before place whole (e.1 ∙ sizes_of e.0 a.written)))

-- a stop is a place at which a record of the account ends
pub stops_are_ends : (o : OutEnd) (a : Account) (place : ℕ) → HasAccount o a → IsStop o.producer.published place ↔ EndsRecord a place
stops_are_ends o a place h =
    let P : List ℕ → Type 0 = λ l. IsStop l place ↔ EndsRecord a place in
    subst P h.written (stop_ends a place h.lawful, ends_stop a place h.lawful)
