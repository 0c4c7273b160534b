-- A view that is cut in two, or joined to another, keeps the rule. So does the start, and the end tells the last words.
use Rattle.std.proofs.Common.{◌≡◌, ◌≢◌, ℕ, zero, suc, ◌+◌, ◌*◌, ◌/◌, ◌<◌, ◌≤◌, true, List, [], ◌∷◌, ◌++◌, length, take, filter, set, slice_index, replicate, refl, sym, ap, ◌∙◌, subst, ⊎_elim, append-nil, arith}
use Rattle.std.proofs.lemmas.List.{set_comm, length-replicate, get_or-replicate, Elements.{filter-append}}
use mathlib.Core.{Option.{some, some-injective, some-ne-none}, List.{IsPrefix}}
use lib.ListN.{get_elem?}
use Rattle.atomic_table.{specs.Table.{State, Splits, Joins, Final, Seen, opening}, proofs.Lists.{at_set, at_snoc, set_again, set_else}}
use Rattle.ring_words.specs.{declared.view.View.{View}, Ends.{cells_of, cell_of}}
use Rattle.ring_words.specs.Views.{both_ends, spent, producer_of, consumer_of, note_of_producer, note_of_consumer, informed, rejoined, IsProducer, IsConsumer, IsNote}
use Rattle.ring_words.specs.Rule.{Tied, NoteHolds, Kept}
use Rattle.ring_words.proofs.{Prefixes.{whole_nothing}, Sizes.{least_bytes}}
use Rattle.ring_words.proofs.Keeping.{after, is_producer, is_consumer, tied_producer, tied_consumer, producer_keeps, consumer_keeps}
use Rattle.perf_base.{specs.Scripts.{IsRingSize}, proofs.{Alone.{it_stays, it_goes, it_comes, others_stay}, Prefixes.{prefix_self}}}

abbrev Table : Type 0
Table = State (Unit {0}) View

-- the table with one more seat
abbrev grown : Table → ℕ → View → View → Table
grown s id v n = record { words = s.words; homes = s.homes; views = set s.views id v ++ n ∷ [] }

-- what ties the words to two views looks at no other part of them
tied_so : (bytes : ℕ) (words : List ℕ) (p c q d : View) → p.bytes ≡ q.bytes → c.bytes ≡ d.bytes → p.published ≡ q.published → p.put ≡ q.put → p.last_tail ≡ q.last_tail
    → c.taken ≡ d.taken → c.released ≡ d.released → c.last_head ≡ d.last_head → Tied bytes words p c → Tied bytes words q d
tied_so bytes words p c q d e e' e1 e2 e3 e4 e5 e6 t = record {
  size = t.size;
  count = t.count;
  known = (sym e ∙ t.known.0, sym e' ∙ t.known.1);
  head = subst (λ (l : List ℕ). slice_index words 1 ≡ 8 * length l) e1 t.head;
  tail = subst (λ (n : ℕ). slice_index words 0 ≡ 8 * n) e5 t.tail;
  last_tail = omega (arith, t.last_tail, e3, e5);
  taken = subst (λ (l : List ℕ). IsPrefix l q.published) e4 (subst (λ (l : List ℕ). IsPrefix c.taken l) e1 t.taken);
  released = subst (λ (l : List ℕ). d.released ≤ length l) e4 (omega (arith, t.released, e5));
  looked = subst (λ (l : List ℕ). 8 * length l ≤ d.last_head) e4 (omega (arith, t.looked, e6));
  last_head = subst (λ (l : List ℕ). d.last_head ≤ 8 * length l) e1 (omega (arith, t.last_head, e6));
  stored = subst (λ (l : List ℕ). (j : ℕ) → d.released ≤ j → j < length l → slice_index words (cell_of bytes j) ≡ slice_index l j) (λ i. e1 i ++ e2 i) (λ j low below. t.stored j (omega (arith, e5, low)) below);
  room = omega (arith, t.room, e3, ap length e1, ap length e2);
  whole = subst Rattle.ring_spec.specs.Whole.IsWhole e1 t.whole;
  whole_released = subst Rattle.ring_spec.specs.Whole.IsWhole (λ i. take (e5 i) (e1 i)) t.whole_released;
  whole_tail = subst Rattle.ring_spec.specs.Whole.IsWhole (λ i. take (e3 i / 8) (e1 i)) t.whole_tail;
  whole_head = subst Rattle.ring_spec.specs.Whole.IsWhole (λ i. take (e6 i / 8) (e1 i)) t.whole_head;
}

-- one more seat with a note
adds_note : (bytes : ℕ) (s : Table) (k : Kept bytes s) (id : ℕ) (v n : View) → get_elem? s.views id ≡ some v → IsNote n → NoteHolds k.producer k.consumer n → Kept bytes (grown s id v n)
adds_note bytes s k id v n at none note =
    let same : set s.views id v ≡ s.views = set_again s.views id v at in record {
      producer = k.producer;
      consumer = k.consumer;
      one_writes = filter-append (λ u. u.writes) (set s.views id v) (n ∷ []) ∙ ap (λ (l : List View). filter (λ u. u.writes) l ++ filter (λ u. u.writes) (n ∷ [])) same
          ∙ ap (λ (b : Rattle.std.proofs.Common.Bool). filter (λ u. u.writes) s.views ++ Rattle.std.proofs.Common.cond b (n ∷ []) []) none.0 ∙ append-nil (filter (λ u. u.writes) s.views) ∙ k.one_writes;
      one_reads = filter-append (λ u. u.reads) (set s.views id v) (n ∷ []) ∙ ap (λ (l : List View). filter (λ u. u.reads) l ++ filter (λ u. u.reads) (n ∷ [])) same
          ∙ ap (λ (b : Rattle.std.proofs.Common.Bool). filter (λ u. u.reads) s.views ++ Rattle.std.proofs.Common.cond b (n ∷ []) []) none.1 ∙ append-nil (filter (λ u. u.reads) s.views) ∙ k.one_reads;
      tied = k.tied;
      notes = λ seat u there.
          ⊎_elim (λ (was : get_elem? (set s.views id v) seat ≡ some u). k.notes seat u (ap (λ (l : List View). get_elem? l seat) (sym same) ∙ was))
          (λ (e : n ≡ u). subst (λ (z : View). NoteHolds k.producer k.consumer z) e note) (at_snoc (set s.views id v) n u seat there);
    }

-- a note is replaced by another
replaces_note : (bytes : ℕ) (s : Table) (k : Kept bytes s) (id : ℕ) (v n : View) → get_elem? s.views id ≡ some v → IsNote v → IsNote n → NoteHolds k.producer k.consumer n → Kept bytes (after s s.words id n)
replaces_note bytes s k id v n at was none note = record {
  producer = k.producer;
  consumer = k.consumer;
  one_writes = others_stay (λ u. u.writes) s.views id v at n was.0 none.0 ∙ k.one_writes;
  one_reads = others_stay (λ u. u.reads) s.views id v at n was.1 none.1 ∙ k.one_reads;
  tied = k.tied;
  notes = λ seat u there.
      ⊎_elim (λ (t : (seat ≡ id) × (n ≡ u)). subst (λ (z : View). NoteHolds k.producer k.consumer z) t.1 note)
      (λ (t : (seat ≢ id) × (get_elem? s.views seat ≡ some u)). k.notes seat u t.1) (at_set s.views id seat n u there);
}

spent_holds : (p c : View) → NoteHolds p c spent
spent_holds p c = ((p.published, refl), omega arith)

module _ (bytes id : ℕ) (v : View) where
  pub may_part : v.writes ≡ true → v.reads ≡ true → Splits (Kept bytes) id v (producer_of v) (consumer_of v)
  may_part writes reads s k at =
      let p : v ≡ k.producer = is_producer bytes s k id v at writes in
      let c : v ≡ k.consumer = is_consumer bytes s k id v at reads in
      let views : List View = set s.views id (producer_of v) in
      let tied : Tied bytes s.words v v = subst (λ (u : View). Tied bytes s.words v u) (sym c) (tied_producer bytes s k id v at writes) in
      let note : (u : View) → NoteHolds k.producer k.consumer u → NoteHolds (producer_of v) (consumer_of v) u =
      λ u n. let P : View → View → Type 0 = λ q d. NoteHolds q d u in subst (λ (q : View). P q v) (sym p) (subst (λ (d : View). P k.producer d) (sym c) n) in record {
        producer = producer_of v;
        consumer = consumer_of v;
        one_writes = filter-append (λ u. u.writes) views (consumer_of v ∷ []) ∙ append-nil (filter (λ u. u.writes) views) ∙ it_stays (λ u. u.writes) s.views id v at k.producer (producer_of v) writes writes k.one_writes;
        one_reads = filter-append (λ u. u.reads) views (consumer_of v ∷ [])
            ∙ ap (λ (l : List View). l ++ filter (λ u. u.reads) (consumer_of v ∷ [])) (it_goes (λ u. u.reads) s.views id v at k.consumer (producer_of v) reads refl k.one_reads)
            ∙ ap (λ (b : Rattle.std.proofs.Common.Bool). Rattle.std.proofs.Common.cond b (consumer_of v ∷ []) []) reads;
        tied = tied_so bytes s.words v v (producer_of v) (consumer_of v) refl refl refl refl refl refl refl refl tied;
        notes = λ seat u there.
            ⊎_elim
            (λ (was : get_elem? views seat ≡ some u).
            ⊎_elim (λ (t : (seat ≡ id) × (producer_of v ≡ u)). subst (λ (z : View). NoteHolds (producer_of v) (consumer_of v) z) t.1 (note v (k.notes id v at)))
            (λ (t : (seat ≢ id) × (get_elem? s.views seat ≡ some u)). note u (k.notes seat u t.1)) (at_set s.views id seat (producer_of v) u was))
            (λ (e : consumer_of v ≡ u). subst (λ (z : View). NoteHolds (producer_of v) (consumer_of v) z) e (note v (k.notes id v at))) (at_snoc views (consumer_of v) u seat there);
      }

  pub may_note_producer : IsProducer v → Splits (Kept bytes) id v v (note_of_producer v)
  may_note_producer role s k at =
      let p : v ≡ k.producer = is_producer bytes s k id v at role.0 in
      adds_note bytes s k id v (note_of_producer v) at (refl, refl)
      (let P : View → Type 0 = λ q. IsPrefix v.published q.published in subst P p (prefix_self v.published), (tied_producer bytes s k id v at role.0).last_tail)

  pub may_note_consumer : IsConsumer v → Splits (Kept bytes) id v v (note_of_consumer v)
  may_note_consumer role s k at =
      let same : v.released ≡ k.consumer.released = ap (λ (u : View). u.released) (is_consumer bytes s k id v at role.0) in
      adds_note bytes s k id v (note_of_consumer v) at (refl, refl) ((tied_consumer bytes s k id v at role.0).taken, omega (arith, same))

  module _ (other : ℕ) (w : View) where
    pub may_inform_producer : IsProducer v → IsNote w → Joins (Kept bytes) id v other w (informed v w) spent
    may_inform_producer role none s k at apart there =
        let was : get_elem? s.views other ≡ some w = sym (set_else s.views id other (informed v w) apart) ∙ there in
        let p : v ≡ k.producer = is_producer bytes s k id v at role.0 in
        let t = tied_producer bytes s k id v at role.0 in
        let n : NoteHolds v k.consumer w = subst (λ (q : View). NoteHolds q k.consumer w) (sym p) (k.notes other w was) in
        let tied : Tied bytes s.words (informed v w) k.consumer = tied_so bytes s.words v k.consumer (informed v w) k.consumer refl refl refl refl refl refl refl refl t in
        let first : Kept bytes (after s s.words id (informed v w)) =
        producer_keeps bytes s k id v at s.words (informed v w) role role tied (prefix_self v.published) n in
        replaces_note bytes (after s s.words id (informed v w)) first other w spent there none (refl, refl) (spent_holds first.producer first.consumer)

    pub may_inform_consumer : IsConsumer v → IsNote w → Joins (Kept bytes) id v other w (informed v w) spent
    may_inform_consumer role none s k at apart there =
        let was : get_elem? s.views other ≡ some w = sym (set_else s.views id other (informed v w) apart) ∙ there in
        let c : v ≡ k.consumer = is_consumer bytes s k id v at role.0 in
        let t = tied_consumer bytes s k id v at role.0 in
        let n : NoteHolds k.producer v w = subst (λ (d : View). NoteHolds k.producer d w) (sym c) (k.notes other w was) in
        let tied : Tied bytes s.words k.producer (informed v w) = tied_so bytes s.words k.producer v k.producer (informed v w) refl refl refl refl refl refl refl refl t in
        let first : Kept bytes (after s s.words id (informed v w)) =
        consumer_keeps bytes s k id v at s.words (informed v w) role role tied (omega arith) n in
        replaces_note bytes (after s s.words id (informed v w)) first other w spent there none (refl, refl) (spent_holds first.producer first.consumer)

    pub may_rejoin : IsProducer v → IsConsumer w → Joins (Kept bytes) id v other w (rejoined v w) spent
    may_rejoin role reader s k at apart there =
        let both : View = rejoined v w in
        let was : get_elem? s.views other ≡ some w = sym (set_else s.views id other both apart) ∙ there in
        let p : v ≡ k.producer = is_producer bytes s k id v at role.0 in
        let c : w ≡ k.consumer = is_consumer bytes s k other w was reader.0 in
        let tied : Tied bytes s.words v w = subst (λ (d : View). Tied bytes s.words v d) (sym c) (tied_producer bytes s k id v at role.0) in
        let known : w.bytes ≡ both.bytes = tied.known.1 ∙ sym tied.known.0 in
        let left : List View = set s.views other spent in
        let turned : set (set s.views id both) other spent ≡ set left id both = set_comm s.views id other both spent (λ e. apart (sym e)) in
        let here : get_elem? left id ≡ some v = set_else s.views other id spent (λ e. apart (sym e)) ∙ at in
        let note : (u : View) → NoteHolds k.producer k.consumer u → NoteHolds both both u =
        λ u n. let P : View → View → Type 0 = λ q d. NoteHolds q d u in subst (λ (q : View). P q w) (sym p) (subst (λ (d : View). P k.producer d) (sym c) n) in record {
          producer = both;
          consumer = both;
          one_writes = ap (filter (λ (u : View). u.writes)) turned
              ∙ it_stays (λ u. u.writes) left id v here k.producer both role.0 role.0 (others_stay (λ u. u.writes) s.views other w was spent reader.1 refl ∙ k.one_writes);
          one_reads = ap (filter (λ (u : View). u.reads)) turned
              ∙ it_comes (λ u. u.reads) left id v here both role.1 reader.0 (it_goes (λ u. u.reads) s.views other w was k.consumer spent reader.0 refl k.one_reads);
          tied = tied_so bytes s.words v w both both refl known refl refl refl refl refl refl tied;
          notes = λ seat u at'.
              ⊎_elim (λ (t : (seat ≡ other) × (spent ≡ u)). subst (λ (z : View). NoteHolds both both z) t.1 (spent_holds both both))
              (λ (t : (seat ≢ other) × (get_elem? (set s.views id both) seat ≡ some u)).
              ⊎_elim (λ (x : (seat ≡ id) × (both ≡ u)). subst (λ (z : View). NoteHolds both both z) x.1 (note v (k.notes id v at)))
              (λ (x : (seat ≢ id) × (get_elem? s.views seat ≡ some u)). note u (k.notes seat u x.1)) (at_set s.views id seat both u t.1))
              (at_set (set s.views id both) other seat spent u at');
        }

first_note : (bytes seat : ℕ) (v : View) → get_elem? (both_ends bytes ∷ []) seat ≡ some v → NoteHolds (both_ends bytes) (both_ends bytes) v
first_note bytes zero v at = subst (λ (z : View). NoteHolds (both_ends bytes) (both_ends bytes) z) (some-injective (both_ends bytes) v at) (prefix_self [], omega arith)
first_note bytes (suc seat) v at = absurd (some-ne-none v (sym at))

-- a new ring: all words are 0
pub starts : (bytes : ℕ) → IsRingSize bytes → (words : List ℕ) → words ≡ replicate (2 + cells_of bytes) 0 → Kept bytes (opening words [] (both_ends bytes))
starts bytes size words are = record {
  producer = both_ends bytes;
  consumer = both_ends bytes;
  one_writes = refl;
  one_reads = refl;
  tied = record {
    size = size;
    count = ap length are ∙ length-replicate (2 + cells_of bytes) 0;
    known = (refl, refl);
    head = ap (λ (l : List ℕ). slice_index l 1) are ∙ get_or-replicate (2 + cells_of bytes) 1 0 0 (omega arith);
    tail = ap (λ (l : List ℕ). slice_index l 0) are ∙ get_or-replicate (2 + cells_of bytes) 0 0 0 (omega arith);
    last_tail = omega arith;
    taken = ([], refl);
    released = omega arith;
    looked = omega arith;
    last_head = omega arith;
    stored = λ j low below. absurd (omega arith);
    room = let least : 64 ≤ bytes = least_bytes bytes size in omega (arith, least);
    whole = whole_nothing;
    whole_released = whole_nothing;
    whole_tail = whole_nothing;
    whole_head = whole_nothing;
  };
  notes = first_note bytes;
}

pub at_word : (l : List ℕ) (i n : ℕ) → get_elem? l i ≡ some n → n ≡ slice_index l i
at_word [] i n at = absurd (some-ne-none n (sym at))
at_word (x ∷ xs) zero n at = sym (some-injective x n at)
at_word (x ∷ xs) (suc i) n at = at_word xs i n at

-- the last words of a ring whose two ends are one view again
pub closes : (bytes id : ℕ) (p c v : View) (words : List ℕ) (slots : List (Unit {0})) → IsProducer p → IsConsumer c → v ≡ rejoined p c
    → Final (Seen (Kept bytes) id v) words slots → Tied bytes words (rejoined p c) (rejoined p c)
closes bytes id p c v words slots writer reader same end =
    let s = end.0 in
    let k : Kept bytes s = end.1.0 in
    let at : get_elem? s.views id ≡ some (rejoined p c) = end.1.1 ∙ ap (λ (u : View). some u) same in
    let t : Tied bytes s.words (rejoined p c) k.consumer = tied_producer bytes s k id (rejoined p c) at writer.0 in
    let u : Tied bytes s.words (rejoined p c) (rejoined p c) = subst (λ (d : View). Tied bytes s.words (rejoined p c) d) (sym (is_consumer bytes s k id (rejoined p c) at reader.0)) t in
    subst (λ (l : List ℕ). Tied bytes l (rejoined p c) (rejoined p c)) end.2 u
