-- What is true of an end between any two calls stays true.
use Rattle.std.proofs.Common.{◌≡◌, ℕ, ◌+◌, ◌*◌, ◌≤◌, [], length, length-append, subst, sym, ap, ◌∙◌, refl, arith}
use Rattle.atomic_table.specs.Seated.{TableId}
use Rattle.ring_words.specs.{declared.view.View.{View}, Ends.{cells_of, Ring, IsSoundProducer, IsSoundConsumer, new_producer, new_consumer}}
use Rattle.ring_words.specs.Views.{Holder, IsProducer, ring_of, both_ends, producer_of, consumer_of, producer_end, consumer_end, all_published, HoldsProducer}
use Rattle.ring_words.proofs.{Prefixes.{whole_nothing, whole_both, stop_at_start, stop_more}, Sizes.{least_bytes, bytes_of_cells}}
use Rattle.ring_spec.specs.Whole.{IsWhole}
use Rattle.perf_base.specs.Scripts.{IsRingSize}

pub sound_published : (id : TableId) (v : View) → IsSoundProducer (producer_end id v) → IsWhole v.put → IsSoundProducer (producer_end id (all_published v))
sound_published id v s put = record {
  whole = whole_both v.published v.put s.whole put;
  stop = stop_more v.published v.put v.last_tail s.stop;
  fits = omega (arith, s.fits, length-append v.published v.put);
}

pub holds_published : (id : TableId) (m : Holder) (place : ℕ) → HoldsProducer id m place → IsWhole m.0.put → HoldsProducer id (all_published m.0, m.1) place
holds_published id m place h put = record {
  role = h.role;
  bare = h.bare;
  place_is = omega (arith, h.place_is, length-append m.0.published m.0.put);
  below = h.below;
  sound = sound_published id m.0 h.sound put;
}

-- the ring of a table that has a word for the tail, one for the head, and these data words
ring_is : (id : TableId) (bytes : ℕ) → id.words ≡ 2 + cells_of bytes → IsRingSize bytes → ring_of id ≡ record { table = id; bytes = bytes }
ring_is id bytes words size = grind (arith, bytes_of_cells)

sound_start : (ring : Ring) → 64 ≤ ring.bytes → IsSoundProducer (new_producer ring)
sound_start ring least = record { whole = whole_nothing; stop = stop_at_start; fits = omega (arith, least) }

sound_first : (ring : Ring) → IsSoundConsumer (new_consumer ring)
sound_first ring = record { leads = record { others = []; whole = whole_nothing; ends = refl }; released = omega arith; whole = whole_nothing }

module _ (id : TableId) (bytes : ℕ) (words : id.words ≡ 2 + cells_of bytes) (size : IsRingSize bytes) where
  pub producer_starts : (id' : TableId) (v : View) → id' ≡ id → v ≡ producer_of (both_ends bytes)
      → (producer_end id' v ≡ new_producer (record { table = id; bytes = bytes })) × IsSoundProducer (producer_end id' v)
  producer_starts id' v same start =
      let ring : Ring = record { table = id; bytes = bytes } in
      let e : producer_end id' v ≡ new_producer ring = (λ i. producer_end (same i) (start i)) ∙ ap new_producer (ring_is id bytes words size) in
      (e, subst IsSoundProducer (sym e) (sound_start ring (least_bytes bytes size)))

  pub producer_holds : (id' : TableId) (m : Holder) → id' ≡ id → m.0 ≡ producer_of (both_ends bytes) → m.1 ≡ [] → HoldsProducer id' m 0
  producer_holds id' m same start bare = record {
    role = subst IsProducer (sym start) (refl, refl);
    bare = bare;
    place_is = let P : View → Type 0 = λ v. 0 ≡ 8 * (length v.published + length v.put) in subst P (sym start) refl;
    below = omega arith;
    sound = (producer_starts id' m.0 same start).1;
  }

  pub consumer_starts : (id' : TableId) (v : View) → id' ≡ id → v ≡ consumer_of (both_ends bytes)
      → (consumer_end id' v ≡ new_consumer (record { table = id; bytes = bytes })) × IsSoundConsumer (consumer_end id' v)
  consumer_starts id' v same start =
      let ring : Ring = record { table = id; bytes = bytes } in
      let e : consumer_end id' v ≡ new_consumer ring = (λ i. consumer_end (same i) (start i)) ∙ ap new_consumer (ring_is id bytes words size) in
      (e, subst IsSoundConsumer (sym e) (sound_first ring))
