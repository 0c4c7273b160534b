-- A send to the end of a ring among those that there are.
use Rattle.std.specs.Prelude.{◌≡◌, ℕ, suc, ◌+◌, ◌^◌, ◌<◌, ◌==◌, Bool, true, false, not, All, List, [], ◌∷◌, slice_get, slice_set, cond, Some, if◌then◌else◌}
use Rattle.std.proofs.{Common.{arith, refl, sym, ap, subst, ◌∙◌, inl, inr}, lemmas.{Bool.{cases_eq, Decides.{nat_tests}}, List.Elements.{All-get_or}}}
use Rattle.std.proofs.lemmas.Option.{slice_get_within, get_or_from_slice_get, same_Some}
use Rattle.perf_base.specs.declared.numbers.RingNo.{RingNo}
use Rattle.ring_words.specs.Ends as words
use Rattle.sample_ring.specs.{OutEnds.{OutEnd}, RingLists.{ring_index, HasRing}, Sends.{Request, need_for, sent_to, answer_to, fits}}
use Rattle.sample_ring.{specs.declared.sent.Sent.{Sent as Answer}, proofs.Sending.{head_bounded, lost_bounded}}
use Rattle.sample_ring.specs.declared.sent.Sent.TheVariants as answer
use Rattle.work_account.specs.Ends.{sent_among, loses_among, is_lost}

-- what is found at a place, and what the lists have there
pub at-place : (P : OutEnd → Type 0) (outs : List OutEnd) (i : ℕ) (o : OutEnd) → slice_get outs i ≡ Some o → All P outs → P o
at-place P outs i o at all = subst P (get_or_from_slice_get outs i o o at) (All-get_or P outs i o (slice_get_within outs i o at) all)

pub place-here : (n ring : RingNo) (numbers : List RingNo) → n.0 ≡ ring.0 → ring_index (n ∷ numbers) ring ≡ 0
place-here n ring numbers e = let its : (n.0 == ring.0) ≡ true = grind (arith, nat_tests, e) in ap (λ (b : Bool). cond (not b) (1 + ring_index numbers ring) 0) its

pub place-later : (n ring : RingNo) (numbers : List RingNo) → (n.0 ≡ ring.0 → ⊥) → ring_index (n ∷ numbers) ring ≡ suc (ring_index numbers ring)
place-later n ring numbers off = grind (arith, nat_tests)

pub found-is : (numbers : List RingNo) (outs : List OutEnd) (ring : RingNo) (q : Request) (o : OutEnd) → HasRing numbers ring → slice_get outs (ring_index numbers ring) ≡ Some o
    → (slice_set outs (ring_index numbers ring) (sent_to o q) ≡ sent_among numbers outs ring q) × (loses_among numbers outs ring q ≡ not (fits o q))
found-is [] outs ring q o there at = absurd (omega (arith, there))
found-is (n ∷ numbers) [] ring q o there at = absurd (cc (at))
found-is (n ∷ numbers) (p ∷ outs) ring q o there at =
    let sent : Bool → List OutEnd = λ b. if b then sent_to p q ∷ outs else p ∷ sent_among numbers outs ring q in
    let lost : Bool → Bool = λ b. if b then not (fits p q) else loses_among numbers outs ring q in
    elim (cases_eq n.0 ring.0) [
      | inl e ↦ grind (arith, nat_tests, e, place-here, same_Some)
      | inr off ↦
          let other : (n.0 == ring.0) ≡ false = grind (arith, nat_tests, off) in
          let later : ring_index (n ∷ numbers) ring ≡ suc (ring_index numbers ring) = place-later n ring numbers off in
          let rest = found-is numbers outs ring q o (omega (arith, there, later)) (ap (slice_get (p ∷ outs)) (sym later) ∙ at) in (
            ap (λ (i : ℕ). slice_set (p ∷ outs) i (sent_to o q)) later ∙ (ap (λ (l : List OutEnd). p ∷ l) rest.0 ∙ ap sent (sym other)),
            ap lost other ∙ rest.1,
          )
    ]

pub lost-answer : (numbers : List RingNo) (outs : List OutEnd) (ring : RingNo) (q : Request) (o : OutEnd) (a : Answer) → HasRing numbers ring
    → slice_get outs (ring_index numbers ring) ≡ Some o → a ≡ answer_to o q → is_lost a ≡ loses_among numbers outs ring q
lost-answer numbers outs ring q o a there at is = ap is_lost is ∙ (one (fits o q) ∙ sym (found-is numbers outs ring q o there at).1)
  where
    one : (b : Bool) → is_lost (elim b as (λ _. Answer) [ true ↦ answer.Written | false ↦ answer.Lost (words.head_place o.producer) o.producer.last_tail (need_for o q) ]) ≡ not b
    one true = refl
    one false = refl

-- there is space for one record
pub head-fits : (outs : List OutEnd) (i : ℕ) (o : OutEnd) (q : Request) → All (λ p. words.head_place p.producer + p.producer.ring.bytes < 2 ^ 63) outs → slice_get outs i ≡ Some o
    → words.head_place (sent_to o q).producer < 2 ^ 63
head-fits outs i o q h at = omega (arith, head_bounded o q, at-place (λ (p : OutEnd). words.head_place p.producer + p.producer.ring.bytes < 2 ^ 63) outs i o at h)

pub lost-fits : (outs : List OutEnd) (i : ℕ) (o : OutEnd) (q : Request) → All (λ p. p.lost + 1 < 2 ^ 63) outs → slice_get outs i ≡ Some o → (sent_to o q).lost < 2 ^ 63
lost-fits outs i o q h at = omega (arith, lost_bounded o q, at-place (λ (p : OutEnd). p.lost + 1 < 2 ^ 63) outs i o at h)
