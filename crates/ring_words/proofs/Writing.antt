-- The producer's steps keep the rule.
use Rattle.std.proofs.Common.{◌≡◌, ◌≢◌, ℕ, ◌+◌, ◌-◌, ◌*◌, ◌/◌, ◌<◌, ◌≤◌, List, [], ◌∷◌, ◌++◌, length, take, set, slice_index, refl, sym, ap, ◌∙◌, subst, ⊎_elim, append_assoc, append-nil, length-append, length-set, get_or-set_same, get_or-set_other, eq-or-lt_of_le, arith}
use Rattle.std.proofs.{lemmas.List.{set-get_or}, Math.{ListN.{get_or-append}, Seq.{get_or-append_seam}}}
use Rattle.atomic_table.{specs.Table.{keeps, Allows}, proofs.Lists.{one_turn}}
use Rattle.ring_words.specs.{declared.view.View.{View}, Ends.{cells_of, cell_of, IsStop}}
use Rattle.ring_words.specs.{Views.{IsProducer, Holder, saw_tail, with_put, all_published}, Rule.{Tied, NoteHolds, Kept}}
use Rattle.ring_words.specs.Steps.{LoadsTail, StoresWord, StoresHead}
use Rattle.ring_words.proofs.{Prefixes.{whole_both, whole_more}, Sizes.{least_bytes, bytes_of_cells}}
use Rattle.ring_words.proofs.Keeping.{tied_producer, producer_note, producer_keeps}
use Rattle.ring_spec.specs.Whole.{IsWhole}
use Rattle.perf_base.proofs.Prefixes.{prefix_more, prefix_self, length-prefix}

module _ (bytes : ℕ) (words : List ℕ) (v c : View) (t : Tied bytes words v c) where
  released_within : c.released ≤ length v.published
  released_within = omega (arith, t.released, length-prefix c.taken v.published t.taken)

  tail_in_words : 8 * c.released / 8 ≡ c.released
  tail_in_words = omega arith

  sees_tail : Tied bytes words (saw_tail v (8 * c.released)) c
  sees_tail = record {
    size = t.size;
    count = t.count;
    known = t.known;
    head = t.head;
    tail = t.tail;
    last_tail = omega arith;
    taken = t.taken;
    released = t.released;
    looked = t.looked;
    last_head = t.last_head;
    stored = t.stored;
    room = omega (arith, t.room, t.last_tail);
    whole = t.whole;
    whole_released = t.whole_released;
    whole_tail = let P : ℕ → Type 0 = λ n. IsWhole (take n v.published) in subst P (sym tail_in_words) t.whole_released;
    whole_head = t.whole_head;
  }

  stop_at_tail : IsStop v.published (8 * c.released)
  stop_at_tail = record {
    of_words = omega arith;
    within = omega (arith, released_within);
    whole = let P : ℕ → Type 0 = λ n. IsWhole (take n v.published) in subst P (sym tail_in_words) t.whole_released;
  }

  publishes : IsWhole v.put → Tied bytes (set words 1 (8 * (length v.published + length v.put))) (all_published v) c
  publishes put_whole = record {
    size = t.size;
    count = length-set words 1 (8 * (length v.published + length v.put)) ∙ t.count;
    known = t.known;
    head = get_or-set_same words 1 (8 * (length v.published + length v.put)) 0 (omega (arith, t.count)) ∙ ap (λ (n : ℕ). 8 * n) (sym (length-append v.published v.put));
    tail = get_or-set_other words 1 0 (8 * (length v.published + length v.put)) 0 (λ e. omega arith) ∙ t.tail;
    last_tail = t.last_tail;
    taken = prefix_more c.taken v.published v.put t.taken;
    released = t.released;
    looked = t.looked;
    last_head = omega (arith, t.last_head, length-append v.published v.put);
    stored = λ j low below.
        let same : v.published ++ v.put ++ [] ≡ v.published ++ v.put = append-nil (v.published ++ v.put) in
        let P : List ℕ → Type 0 = λ l. j < length l → slice_index (set words 1 (8 * (length v.published + length v.put))) (cell_of bytes j) ≡ slice_index l j in
        subst P (sym same) (λ h. get_or-set_other words 1 (cell_of bytes j) (8 * (length v.published + length v.put)) 0 (λ e. omega arith) ∙ t.stored j low h) below;
    room = let e = length-append v.published v.put in omega (arith, t.room, e);
    whole = whole_both v.published v.put t.whole put_whole;
    whole_released = whole_more v.published v.put c.released released_within t.whole_released;
    whole_tail = whole_more v.published v.put (v.last_tail / 8) (omega (arith, t.last_tail, released_within)) t.whole_tail;
    whole_head = whole_more v.published v.put (c.last_head / 8) (omega (arith, t.last_head)) t.whole_head;
  }

  -- the word behind the last one goes where none stands that is not released
  module _ (word : ℕ) (room : 8 ≤ bytes - 1 - (8 * (length v.published + length v.put) - v.last_tail)) where
    abbrev stream : List ℕ
    stream = v.published ++ v.put

    abbrev end_of : ℕ
    end_of = length v.published + length v.put

    free_cell : (j : ℕ) → c.released ≤ j → j < end_of → cell_of bytes j ≢ cell_of bytes end_of
    free_cell j low below same =
        let n : ℕ = cells_of bytes in
        let e : 8 * n ≡ bytes = bytes_of_cells bytes t.size in
        let near : end_of < j + n = omega (arith, e, room, t.last_tail, low) in
        let turn : j ≡ end_of = one_turn j end_of n (omega arith) near (omega (arith, same)) in omega (arith, turn, below)

    stored_after : (j : ℕ) → c.released ≤ j → j < length (v.published ++ (v.put ++ word ∷ []))
        → slice_index (set words (cell_of bytes end_of) word) (cell_of bytes j) ≡ slice_index (v.published ++ (v.put ++ word ∷ [])) j
    stored_after j low below =
        let long : length stream ≡ end_of = length-append v.published v.put in
        let joined : stream ++ word ∷ [] ≡ v.published ++ (v.put ++ word ∷ []) = append_assoc v.published v.put (word ∷ []) in
        let at_most : j ≤ end_of = omega (arith, long, below, ap length joined, length-append stream (word ∷ [])) in
        let read : slice_index (stream ++ word ∷ []) j ≡ slice_index (v.published ++ (v.put ++ word ∷ [])) j = ap (λ (l : List ℕ). slice_index l j) joined in
        let whole : 8 * cells_of bytes ≡ bytes = bytes_of_cells bytes t.size in
        let cells : cell_of bytes end_of < length words = let n : ℕ = cells_of bytes in let least : 64 ≤ bytes = least_bytes bytes t.size in omega (arith, t.count, whole, least) in
        ⊎_elim
        (λ (same : j ≡ end_of).
        ap (λ (k : ℕ). slice_index (set words (cell_of bytes end_of) word) (cell_of bytes k)) same
        ∙ get_or-set_same words (cell_of bytes end_of) word 0 cells
        ∙ sym (ap (slice_index (stream ++ word ∷ [])) (same ∙ sym long) ∙ get_or-append_seam stream word [] 0)
        ∙ read)
        (λ (before : j < end_of).
        get_or-set_other words (cell_of bytes end_of) (cell_of bytes j) word 0 (free_cell j low before)
        ∙ t.stored j low (omega (arith, long, before))
        ∙ sym (get_or-append stream (word ∷ []) 0 j (omega (arith, long, before)))
        ∙ read)
        (eq-or-lt_of_le at_most)

    stores_word : Tied bytes (set words (cell_of bytes end_of) word) (with_put v word) c
    stores_word =
        let long : length (v.put ++ word ∷ []) ≡ length v.put + 1 = length-append v.put (word ∷ []) in record {
          size = t.size;
          count = length-set words (cell_of bytes end_of) word ∙ t.count;
          known = t.known;
          head = get_or-set_other words (cell_of bytes end_of) 1 word 0 (λ e. omega arith) ∙ t.head;
          tail = get_or-set_other words (cell_of bytes end_of) 0 word 0 (λ e. omega arith) ∙ t.tail;
          last_tail = t.last_tail;
          taken = t.taken;
          released = t.released;
          looked = t.looked;
          last_head = t.last_head;
          stored = stored_after;
          room = omega (arith, long, room);
          whole = t.whole;
          whole_released = t.whole_released;
          whole_tail = t.whole_tail;
          whole_head = t.whole_head;
        }

module _ (bytes slots id : ℕ) (m : Holder) (role : IsProducer m.0) where
  pub may_load_tail : Allows (Kept bytes) slots id m 0 (λ n. n) (LoadsTail 0 m)
  may_load_tail s k _ at _ =
      let v : View = m.0 in
      let t : Tied bytes s.words v k.consumer = tied_producer bytes s k id v at role.0 in
      let note : NoteHolds v k.consumer v = producer_note bytes s k id v at role.0 in
      let found : slice_index s.words 0 ≡ 8 * k.consumer.released = t.tail in
      let same : set s.words 0 (slice_index s.words 0) ≡ s.words = set-get_or s.words 0 0 in
      let seen : Tied bytes s.words (saw_tail v (8 * k.consumer.released)) k.consumer = sees_tail bytes s.words v k.consumer t in
      let tied : Tied bytes (set s.words 0 (slice_index s.words 0)) (saw_tail v (slice_index s.words 0)) k.consumer =
      let P : List ℕ → ℕ → Type 0 = λ l n. Tied bytes l (saw_tail v n) k.consumer in subst (λ (n : ℕ). P (set s.words 0 (slice_index s.words 0)) n) (sym found) (subst (λ (l : List ℕ). P l (8 * k.consumer.released)) (sym same) seen) in (
        saw_tail v (slice_index s.words 0),
        keeps,
        tt,
        producer_keeps bytes s k id v at (set s.words 0 (slice_index s.words 0)) (saw_tail v (slice_index s.words 0)) role role tied (prefix_self v.published) note,
        record {
          on = refl;
          view = refl;
          learns = record {
            rises = omega (arith, found, t.last_tail);
            stop = subst (IsStop v.published) (sym found) (stop_at_tail bytes s.words v k.consumer t);
            note = note.0;
            reached = omega (arith, found, note.1);
          };
        },
      )

  pub may_store_word : (word place : ℕ) → place ≡ cell_of bytes (length m.0.published + length m.0.put) → 8 ≤ bytes - 1 - (8 * (length m.0.published + length m.0.put) - m.0.last_tail)
      → Allows (Kept bytes) slots id m place (λ _. word) (λ _. StoresWord place m word)
  may_store_word word place is room s k _ at _ =
      let v : View = m.0 in
      let t : Tied bytes s.words v k.consumer = tied_producer bytes s k id v at role.0 in
      let note : NoteHolds v k.consumer v = producer_note bytes s k id v at role.0 in
      let tied : Tied bytes (set s.words place word) (with_put v word) k.consumer =
      let P : ℕ → Type 0 = λ i. Tied bytes (set s.words i word) (with_put v word) k.consumer in subst P (sym is) (stores_word bytes s.words v k.consumer t word room) in (
        with_put v word,
        keeps,
        tt,
        producer_keeps bytes s k id v at (set s.words place word) (with_put v word) role role tied (prefix_self v.published) note,
        record { on = is ∙ ap (λ (b : ℕ). cell_of b (length v.published + length v.put)) (sym t.known.0); view = refl },
      )

  pub may_store_head : (head : ℕ) → head ≡ 8 * (length m.0.published + length m.0.put) → IsWhole m.0.put
      → Allows (Kept bytes) slots id m 1 (λ _. head) (λ _. StoresHead 1 m head)
  may_store_head head is whole s k _ at _ =
      let v : View = m.0 in
      let t : Tied bytes s.words v k.consumer = tied_producer bytes s k id v at role.0 in
      let note : NoteHolds v k.consumer v = producer_note bytes s k id v at role.0 in
      let tied : Tied bytes (set s.words 1 head) (all_published v) k.consumer =
      let P : ℕ → Type 0 = λ n. Tied bytes (set s.words 1 n) (all_published v) k.consumer in subst P (sym is) (publishes bytes s.words v k.consumer t whole) in (
        all_published v,
        keeps,
        tt,
        producer_keeps bytes s k id v at (set s.words 1 head) (all_published v) role role tied (v.put, refl) (prefix_more v.note v.published v.put note.0, note.1),
        record { on = refl; view = refl },
      )
