-- How the rule goes from one state to the next, where one end's view changes.
use Rattle.std.proofs.Common.{◌≡◌, ◌≢◌, ℕ, ◌≤◌, true, List, set, sym, ap, ◌∙◌, subst, ⊎_elim, arith}
use mathlib.Core.{Option.{some}, List.{IsPrefix}}
use lib.ListN.{get_elem?}
use Rattle.atomic_table.{specs.Table.{State}, proofs.Lists.{at_set}}
use Rattle.ring_words.specs.{declared.view.View.{View}, Views.{IsProducer, IsConsumer}, Rule.{Tied, NoteHolds, Kept}}
use Rattle.perf_base.proofs.{Alone.{it_alone, it_stays, others_stay}, Prefixes.{prefix_through}}

abbrev Table : Type 0
Table = State (Unit {0}) View

-- the table after a step of the seat
abbrev pub after : Table → List ℕ → ℕ → View → Table
after s words id w = record { words = words; homes = s.homes; views = set s.views id w }

module _ (bytes : ℕ) (s : Table) (k : Kept bytes s) (id : ℕ) (v : View) (at : get_elem? s.views id ≡ some v) where
  pub is_producer : v.writes ≡ true → v ≡ k.producer
  is_producer writes = it_alone (λ u. u.writes) s.views id v at k.producer writes k.one_writes

  pub is_consumer : v.reads ≡ true → v ≡ k.consumer
  is_consumer reads = it_alone (λ u. u.reads) s.views id v at k.consumer reads k.one_reads

  pub tied_producer : v.writes ≡ true → Tied bytes s.words v k.consumer
  tied_producer writes = subst (λ (u : View). Tied bytes s.words u k.consumer) (sym (is_producer writes)) k.tied

  pub tied_consumer : v.reads ≡ true → Tied bytes s.words k.producer v
  tied_consumer reads = subst (λ (u : View). Tied bytes s.words k.producer u) (sym (is_consumer reads)) k.tied

  pub producer_note : v.writes ≡ true → NoteHolds v k.consumer v
  producer_note writes = subst (λ (u : View). NoteHolds u k.consumer v) (sym (is_producer writes)) (k.notes id v at)

  pub consumer_note : v.reads ≡ true → NoteHolds k.producer v v
  consumer_note reads = subst (λ (u : View). NoteHolds k.producer u v) (sym (is_consumer reads)) (k.notes id v at)

  -- each note holds still where the words published only grow
  pub producer_keeps : (words : List ℕ) (w : View) → IsProducer v → IsProducer w
      → Tied bytes words w k.consumer → IsPrefix v.published w.published → NoteHolds w k.consumer w → Kept bytes (after s words id w)
  producer_keeps words w role role' tied grows note = record {
    producer = w;
    consumer = k.consumer;
    one_writes = it_stays (λ u. u.writes) s.views id v at k.producer w role.0 role'.0 k.one_writes;
    one_reads = others_stay (λ u. u.reads) s.views id v at w role.1 role'.1 ∙ k.one_reads;
    tied = tied;
    notes = λ seat u there.
        ⊎_elim (λ (t : (seat ≡ id) × (w ≡ u)). subst (λ (z : View). NoteHolds w k.consumer z) t.1 note)
        (λ (t : (seat ≢ id) × (get_elem? s.views seat ≡ some u)).
        let n : NoteHolds k.producer k.consumer u = k.notes seat u t.1 in
        let old : IsPrefix u.note v.published = subst (λ (z : View). IsPrefix u.note z.published) (sym (is_producer role.0)) n.0 in
        (prefix_through u.note v.published w.published old grows, n.1))
        (at_set s.views id seat w u there);
  }

  -- each note holds still where the number released does not fall
  pub consumer_keeps : (words : List ℕ) (w : View) → IsConsumer v → IsConsumer w
      → Tied bytes words k.producer w → v.released ≤ w.released → NoteHolds k.producer w w → Kept bytes (after s words id w)
  consumer_keeps words w role role' tied rises note = record {
    producer = k.producer;
    consumer = w;
    one_writes = others_stay (λ u. u.writes) s.views id v at w role.1 role'.1 ∙ k.one_writes;
    one_reads = it_stays (λ u. u.reads) s.views id v at k.consumer w role.0 role'.0 k.one_reads;
    tied = tied;
    notes = λ seat u there.
        ⊎_elim (λ (t : (seat ≡ id) × (w ≡ u)). subst (λ (z : View). NoteHolds k.producer w z) t.1 note)
        (λ (t : (seat ≢ id) × (get_elem? s.views seat ≡ some u)).
        let n : NoteHolds k.producer k.consumer u = k.notes seat u t.1 in
        let same : k.consumer.released ≡ v.released = ap (λ (z : View). z.released) (sym (is_consumer role.0)) in
        (n.0, omega (arith, n.1, same, rises)))
        (at_set s.views id seat w u there);
  }
