-- Readers go on following the ends that send.
use Rattle.std.specs.Prelude.{◌≡◌, ℕ, List, map, option_map, Option, Some, None, slice_get, slice_set}
use Rattle.std.proofs.{Common.{refl, sym, ap, subst, ◌∙◌, inl, inr}, lemmas.{Bool.{cases_eq}, Option.{none-some, same_Some, slice_get-map}}}
use Rattle.sample_ring.specs.{Taking.{IsUpTo}, InEnds.{InEnd}, OutEnds.{OutEnd}, RingLists.{InList, OutList, RingList, with_slot}}
use Rattle.ring_words.specs.Ends.{Ring}
use Rattle.machine.{specs.{Stepped.{seen_of}, Readers.{AreFollowing, Follows}}, proofs.Places.{set-here, set-other}}
use Rattle.work_account.specs.Ends.{AreTogether}

-- what stands at a place of a list whose image is another's
mapped-at : {X Y : Type 0} (f : X → Y) (o : Option X) (y : X) → option_map f o ≡ Some (f y) → (x : X) × (o ≡ Some x) × (f x ≡ f y)
mapped-at f None y h = absurd (none-some _ h)
mapped-at f (Some x) y h = (x, refl, same_Some (f x) (f y) h)

image-at : {X Y : Type 0} (f : X → Y) (xs ys : List X) (i : ℕ) (y : X) → map f ys ≡ map f xs → slice_get ys i ≡ Some y → (x : X) × (slice_get xs i ≡ Some x) × (f x ≡ f y)
image-at f xs ys i y e at =
    mapped-at f (slice_get xs i) y (sym (slice_get-map f xs i) ∙ (ap (λ l. slice_get l i) (sym e) ∙ (slice_get-map f ys i ∙ ap (option_map f) at)))

-- a line leaves what each end has seen of its reader
pub following-still : (words : ℕ) (rings : RingList) (outs sent : OutList) (ins : InList) → AreFollowing words outs ins → AreTogether rings outs → AreTogether rings sent
    → seen_of sent ≡ seen_of outs → AreFollowing words sent ins
following-still words rings outs sent ins h before then seen = record {
  numbers = h.numbers ∙ (sym before.numbers ∙ then.numbers);
  each = λ place p at.
      let ring : OutEnd → Ring = λ o. o.producer.ring in
      let knows : OutEnd → ℕ × ℕ = λ o. (o.producer.last_tail, o.producer.loads) in
      let by_ring = image-at ring outs.outs sent.outs place p (then.tables ∙ sym before.tables) at in
      let by_tail = image-at knows outs.outs sent.outs place p seen at in
      let same : by_tail.0 ≡ by_ring.0 = same_Some by_tail.0 by_ring.0 (sym by_tail.1 ∙ by_ring.1) in
      let tail : by_ring.0.producer.last_tail ≡ p.producer.last_tail = ap (λ (o : OutEnd). o.producer.last_tail) (sym same) ∙ ap (λ k. k.0) by_tail.2 in
      let i : (i : InEnd) × (slice_get ins.readers place ≡ Some (Some i)) × Follows words by_ring.0 i = h.each place by_ring.0 by_ring.1 in
      (i.0, i.1, record { ring = i.2.ring ∙ by_ring.2; up_to = subst (IsUpTo i.0) tail i.2.up_to; room = i.2.room });
}

-- a look at one ring, whose reader follows
pub following-look : (words : ℕ) (outs : OutList) (ins : InList) (place : ℕ) (o p : OutEnd) (i j : InEnd) → AreFollowing words outs ins → slice_get outs.outs place ≡ Some o
    → slice_get ins.readers place ≡ Some (Some i) → Follows words p j → AreFollowing words (record outs { outs = slice_set outs.outs place p }) (with_slot ins place (Some j))
following-look words outs ins place o p i j h at reader follows = record {
  numbers = h.numbers;
  each = λ other q there. elim (cases_eq other place) [
    | inl e ↦
        let here : slice_get (slice_set outs.outs place p) place ≡ Some q = ap (slice_get (slice_set outs.outs place p)) (sym e) ∙ there in
        let is : p ≡ q = same_Some p q (sym (set-here outs.outs place o p at) ∙ here) in
        (j, ap (slice_get (slice_set ins.readers place (Some j))) e ∙ set-here ins.readers place (Some i) (Some j) reader, subst (λ (x : OutEnd). Follows words x j) is follows)
    | inr off ↦
        let before = h.each other q (sym (set-other outs.outs place other p off) ∙ there) in
        (before.0, set-other ins.readers place other (Some j) off ∙ before.1, before.2)
  ];
}
