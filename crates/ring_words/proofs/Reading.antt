-- The consumer's steps keep the rule.
use Rattle.std.proofs.Common.{◌≡◌, ℕ, ◌+◌, ◌*◌, ◌/◌, ◌%◌, ◌<◌, List, [], ◌∷◌, ◌++◌, length, take, set, slice_index, refl, sym, ap, ◌∙◌, subst, length-append, length-set, get_or-set_same, get_or-set_other, arith}
use Rattle.std.proofs.{lemmas.List.{set-get_or}, Math.{ListN.{get_or-append}, Seq.{take-length}}}
use mathlib.Core.List.{IsPrefix}
use Rattle.atomic_table.specs.Table.{keeps, Allows}
use Rattle.ring_words.specs.{declared.view.View.{View}, Ends.{cell_of, LeadsTo}, Views.{IsConsumer, Holder, saw_head, with_taken, all_released}}
use Rattle.ring_words.specs.{Rule.{Tied, NoteHolds, Kept}, Steps.{LoadsHead, LoadsWord, StoresTail, ChecksTail}}
use Rattle.perf_base.proofs.Prefixes.{length-prefix}
use Rattle.ring_words.proofs.{Prefixes.{prefix_next, take-prefix, leads_by}, Keeping.{tied_consumer, consumer_note, consumer_keeps}}
use Rattle.ring_spec.specs.Whole.{IsWhole}

module _ (bytes : ℕ) (words : List ℕ) (p v : View) (t : Tied bytes words p v) where
  whole_at_head : IsWhole (take (8 * length p.published / 8) p.published)
  whole_at_head =
      let all : 8 * length p.published / 8 ≡ length p.published = omega arith in
      subst IsWhole (sym (ap (λ (n : ℕ). take n p.published) all ∙ take-length p.published)) t.whole

  sees_head : Tied bytes words p (saw_head v (8 * length p.published))
  sees_head = record {
    size = t.size;
    count = t.count;
    known = t.known;
    head = t.head;
    tail = t.tail;
    last_tail = t.last_tail;
    taken = t.taken;
    released = t.released;
    looked = omega (arith, t.looked, t.last_head);
    last_head = omega arith;
    stored = t.stored;
    room = t.room;
    whole = t.whole;
    whole_released = t.whole_released;
    whole_tail = t.whole_tail;
    whole_head = whole_at_head;
  }

  leads_to_head : LeadsTo v.taken (8 * length p.published)
  leads_to_head = leads_by v.taken p.published (8 * length p.published) t.taken (omega arith) (omega (arith, t.looked, t.last_head)) (omega arith) whole_at_head

  module _ (more : 8 * length v.taken < v.last_head) (even : v.last_head % 8 ≡ 0) where
    published_there : length v.taken < length p.published
    published_there = omega (arith, more, t.last_head)

    found_there : slice_index words (cell_of bytes (length v.taken)) ≡ slice_index p.published (length v.taken)
    found_there =
        t.stored (length v.taken) t.released (let h = published_there in omega (arith, length-append p.published p.put, h))
        ∙ get_or-append p.published p.put 0 (length v.taken) published_there

    next_taken : IsPrefix (v.taken ++ slice_index p.published (length v.taken) ∷ []) p.published
    next_taken = prefix_next v.taken p.published t.taken published_there

    takes_word : (word : ℕ) → slice_index p.published (length v.taken) ≡ word → Tied bytes words p (with_taken v word)
    takes_word word is =
        let long : length (v.taken ++ word ∷ []) ≡ length v.taken + 1 = length-append v.taken (word ∷ []) in record {
          size = t.size;
          count = t.count;
          known = t.known;
          head = t.head;
          tail = t.tail;
          last_tail = t.last_tail;
          taken = let P : ℕ → Type 0 = λ n. IsPrefix (v.taken ++ n ∷ []) p.published in subst P is next_taken;
          released = omega (arith, long, t.released);
          looked = omega (arith, long, more, even);
          last_head = t.last_head;
          stored = t.stored;
          room = t.room;
          whole = t.whole;
          whole_released = t.whole_released;
          whole_tail = t.whole_tail;
          whole_head = t.whole_head;
        }

    leads_still : (word : ℕ) → slice_index p.published (length v.taken) ≡ word → LeadsTo (v.taken ++ word ∷ []) v.last_head
    leads_still word is =
        let u : Tied bytes words p (with_taken v word) = takes_word word is in
        leads_by (v.taken ++ word ∷ []) p.published v.last_head u.taken even u.looked t.last_head t.whole_head

  releases : IsWhole v.taken → Tied bytes (set words 0 (8 * length v.taken)) p (all_released v)
  releases whole = record {
    size = t.size;
    count = length-set words 0 (8 * length v.taken) ∙ t.count;
    known = t.known;
    head = get_or-set_other words 0 1 (8 * length v.taken) 0 (λ e. omega arith) ∙ t.head;
    tail = get_or-set_same words 0 (8 * length v.taken) 0 (omega (arith, t.count));
    last_tail = omega (arith, t.last_tail, t.released);
    taken = t.taken;
    released = omega arith;
    looked = t.looked;
    last_head = t.last_head;
    stored = λ j low below. get_or-set_other words 0 (cell_of bytes j) (8 * length v.taken) 0 (λ e. omega arith) ∙ t.stored j (omega (arith, low, t.released)) below;
    room = t.room;
    whole = t.whole;
    whole_released = subst IsWhole (sym (take-prefix v.taken p.published t.taken)) whole;
    whole_tail = t.whole_tail;
    whole_head = t.whole_head;
  }

module _ (bytes slots id : ℕ) (m : Holder) (role : IsConsumer m.0) where
  pub may_load_head : Allows (Kept bytes) slots id m 1 (λ n. n) (LoadsHead 1 m)
  may_load_head s k _ at _ =
      let v : View = m.0 in
      let t : Tied bytes s.words k.producer v = tied_consumer bytes s k id v at role.0 in
      let note : NoteHolds k.producer v v = consumer_note bytes s k id v at role.0 in
      let found : slice_index s.words 1 ≡ 8 * length k.producer.published = t.head in
      let same : set s.words 1 (slice_index s.words 1) ≡ s.words = set-get_or s.words 1 0 in
      let tied : Tied bytes (set s.words 1 (slice_index s.words 1)) k.producer (saw_head v (slice_index s.words 1)) =
      let P : List ℕ → ℕ → Type 0 = λ l n. Tied bytes l k.producer (saw_head v n) in
      subst (λ (n : ℕ). P (set s.words 1 (slice_index s.words 1)) n) (sym found) (subst (λ (l : List ℕ). P l (8 * length k.producer.published)) (sym same) (sees_head bytes s.words k.producer v t)) in (
        saw_head v (slice_index s.words 1),
        keeps,
        tt,
        consumer_keeps bytes s k id v at (set s.words 1 (slice_index s.words 1)) (saw_head v (slice_index s.words 1)) role role tied (omega arith) note,
        record {
          on = refl;
          view = refl;
          learns = record {
            rises = omega (arith, found, t.last_head);
            leads = subst (LeadsTo v.taken) (sym found) (leads_to_head bytes s.words k.producer v t);
            note = omega (arith, found, length-prefix v.note k.producer.published note.0);
          };
        },
      )

  pub may_load_word : (place : ℕ) → place ≡ cell_of bytes (length m.0.taken) → 8 * length m.0.taken < m.0.last_head → m.0.last_head % 8 ≡ 0
      → Allows (Kept bytes) slots id m place (λ n. n) (LoadsWord place m)
  may_load_word place is more even s k _ at _ =
      let v : View = m.0 in
      let t : Tied bytes s.words k.producer v = tied_consumer bytes s k id v at role.0 in
      let note : NoteHolds k.producer v v = consumer_note bytes s k id v at role.0 in
      let word : ℕ = slice_index s.words place in
      let found : slice_index k.producer.published (length v.taken) ≡ word = sym (ap (slice_index s.words) is ∙ found_there bytes s.words k.producer v t more even) in
      let same : set s.words place word ≡ s.words = set-get_or s.words place 0 in
      let tied : Tied bytes (set s.words place word) k.producer (with_taken v word) =
      let P : List ℕ → Type 0 = λ l. Tied bytes l k.producer (with_taken v word) in subst P (sym same) (takes_word bytes s.words k.producer v t more even word found) in (
        with_taken v word,
        keeps,
        tt,
        consumer_keeps bytes s k id v at (set s.words place word) (with_taken v word) role role tied (omega arith) note,
        record { on = is ∙ ap (λ (b : ℕ). cell_of b (length v.taken)) (sym t.known.1); view = refl; leads = leads_still bytes s.words k.producer v t more even word found },
      )

  pub may_store_tail : (tail : ℕ) → tail ≡ 8 * length m.0.taken → IsWhole m.0.taken → Allows (Kept bytes) slots id m 0 (λ _. tail) (λ _. StoresTail 0 m tail)
  may_store_tail tail is whole s k _ at _ =
      let v : View = m.0 in
      let t : Tied bytes s.words k.producer v = tied_consumer bytes s k id v at role.0 in
      let note : NoteHolds k.producer v v = consumer_note bytes s k id v at role.0 in
      let tied : Tied bytes (set s.words 0 tail) k.producer (all_released v) =
      let P : ℕ → Type 0 = λ n. Tied bytes (set s.words 0 n) k.producer (all_released v) in subst P (sym is) (releases bytes s.words k.producer v t whole) in (
        all_released v,
        keeps,
        tt,
        consumer_keeps bytes s k id v at (set s.words 0 tail) (all_released v) role role tied t.released (note.0, omega (arith, note.1, t.released)),
        record { on = refl; view = refl },
      )

  pub may_check_tail : Allows (Kept bytes) slots id m 0 (λ n. n) (ChecksTail 0 m)
  may_check_tail s k _ at _ =
      let v : View = m.0 in
      let t : Tied bytes s.words k.producer v = tied_consumer bytes s k id v at role.0 in
      let note : NoteHolds k.producer v v = consumer_note bytes s k id v at role.0 in
      let same : set s.words 0 (slice_index s.words 0) ≡ s.words = set-get_or s.words 0 0 in
      let tied : Tied bytes (set s.words 0 (slice_index s.words 0)) k.producer v =
      let P : List ℕ → Type 0 = λ l. Tied bytes l k.producer v in subst P (sym same) t in (
        v,
        keeps,
        tt,
        consumer_keeps bytes s k id v at (set s.words 0 (slice_index s.words 0)) v role role tied (omega arith) note,
        record { on = refl; view = refl; own = t.tail; note = omega (arith, t.tail, note.1) },
      )
