-- Records that are sent one after the other, and the space for those to come.
use Rattle.std.specs.Prelude.{◌≡◌, ℕ, zero, suc, ◌+◌, ◌<◌, List, [], ◌∷◌, ◌++◌, length, drop, replicate, slice_get, slice_index_or, Option, Some, None}
use Rattle.std.proofs.{Common.{arith, refl, sym, ap, subst, ◌∙◌}, Math.Seq.{drop-cons}, lemmas.List.{length-append, length-replicate}}
use Rattle.std.proofs.lemmas.{List.Sums.{fold-append}, Option.{slice_get_within, get_or_from_slice_get}}
use Rattle.perf_base.specs.declared.{lines.Work.{Work}, numbers.{CpuNo.{CpuNo}, RingNo.{RingNo}}}
use Rattle.stage_spec.specs.{declared.instance.Instance.{Instance}, Stage.{Stage}}
use Rattle.ring_spec.specs.Sending.{SentSample, fields_of, sent_of, to_ring, sent_by_family}
use Rattle.sample_ring.specs.{RingLists.{RingList}, Sends.{Request, request_of}}
use Rattle.world_spec.specs.Value.{World}
use Rattle.work_account.specs.declared.{overflowing.Overflow.{Overflow}, samples.Stretch.{Stretch}}
use Rattle.work_account.specs.{Ends.{Ends, send_one, send_next, send_all, AreTogether, HaveSpace}, Sampling.{send_times, sents_of, sents_all}}
use Rattle.work_account.proofs.Space.{space-next, space-less, together-next}

pub send_all-none : (x : Ends) → send_all x [] ≡ x
unfolding send_all
send_all-none x = refl

pub send_all-append : (x : Ends) (front rest : List (RingNo × SentSample)) → send_all x (front ++ rest) ≡ send_all (send_all x front) rest
unfolding send_all
send_all-append x front rest = fold-append send_next x front rest

-- what stays after records are sent
pub numbers-after : (sents : List (RingNo × SentSample)) (x : Ends) → (send_all x sents).outs.numbers ≡ x.outs.numbers
unfolding send_all
numbers-after [] x = refl
numbers-after (p ∷ sents) x = numbers-after sents (send_next x p)

pub together-after : (rings : RingList) (sents : List (RingNo × SentSample)) (x : Ends) → AreTogether rings x.outs → AreTogether rings (send_all x sents).outs
unfolding send_all
together-after rings [] x h = h
together-after rings (p ∷ sents) x h = together-after rings sents (send_next x p) (together-next rings x p.1.event p.0 (request_of p.1) h)

pub space-after : (S : ℕ → Type 0) (front rest : List (RingNo × SentSample)) (x : Ends) → HaveSpace S (length (front ++ rest)) x → HaveSpace S (length rest) (send_all x front)
unfolding send_all
space-after S [] rest x h = h
space-after S (p ∷ front) rest x h = space-after S front rest (send_next x p) (space-next S (length (front ++ rest)) x p.1.event p.0 (request_of p.1) h)

pub space-front : (S : ℕ → Type 0) (front rest : List (RingNo × SentSample)) (x : Ends) → HaveSpace S (length (front ++ rest)) x → HaveSpace S (length front) x
space-front S front rest x h = space-less S (length front) (length rest) x (subst (λ n. HaveSpace S n x) (length-append front rest) h)

-- a record that is sent so many times
times-all : (n : ℕ) (ring : RingNo) (s : SentSample) (x : Ends) → send_times n s.event ring (request_of s) x ≡ send_all x (replicate n (ring, s))
unfolding send_all
times-all zero ring s x = refl
times-all (suc n) ring s x = times-all n ring s (send_one x s.event ring (request_of s))

-- the records of an instance, by its original
module _ (st : Stage) (cpu : CpuNo) (work : Work) (clock count : ℕ) (original i : Instance) where
  abbrev says : SentSample
  says = sent_of original work i (fields_of st cpu work clock original.id i)

  pub ring-sends : (ring other : RingNo) (q : Request) (x after : Ends) → Some ring ≡ original.ring → other ≡ ring → q ≡ request_of says
      → after ≡ send_times count original.event other q x → after ≡ send_all x (sent_by_family (Some original) st cpu work clock count i)
  ring-sends ring other q x after e same asks is =
      is
      ∙ (ap (λ (r : RingNo). send_times count original.event r q x) same
      ∙ (ap (λ (r : Request). send_times count original.event ring r x) asks
      ∙ (times-all count ring says x
      ∙ ap (λ (o : Option RingNo). send_all x (to_ring o count says)) e)))

  pub ring-space : (S : ℕ → Type 0) (ring : RingNo) (x : Ends) → Some ring ≡ original.ring → HaveSpace S (length (sent_by_family (Some original) st cpu work clock count i)) x
      → HaveSpace S count x
  ring-space S ring x e h =
      subst (λ n. HaveSpace S n x) (ap (λ (o : Option RingNo). length (to_ring o count says)) (sym e) ∙ length-replicate count (ring, says)) h

  pub no-ring : (x : Ends) → original.ring ≡ None → x ≡ send_all x (sent_by_family (Some original) st cpu work clock count i)
  no-ring x e = sym (send_all-none x) ∙ ap (λ (o : Option RingNo). send_all x (to_ring o count says)) (sym e)

pub no-family : (o : Option Instance) (st : Stage) (cpu : CpuNo) (work : Work) (clock count : ℕ) (i : Instance) (x : Ends) → o ≡ None
    → x ≡ send_all x (sent_by_family o st cpu work clock count i)
no-family o st cpu work clock count i x e = sym (send_all-none x) ∙ ap (λ (p : Option Instance). send_all x (sent_by_family p st cpu work clock count i)) (sym e)

-- one overflow further
pub next-overflow : (found : List Overflow) (i : ℕ) (o : Overflow) → slice_get found i ≡ Some o → drop i found ≡ o ∷ drop (i + 1) found
next-overflow found i o at =
    let below : i < length found = slice_get_within found i o at in
    let one : suc i ≡ i + 1 = omega arith in
    drop-cons found i o below ∙ (ap (λ n. slice_index_or found i o ∷ drop n found) one ∙ ap (λ p. p ∷ drop (i + 1) found) (get_or_from_slice_get found i o o at))

module _ (w : World) (line : Stretch) (found : List Overflow) (i : ℕ) (o : Overflow) (at : slice_get found i ≡ Some o) where
  front-split : sents_all w line (drop i found) ≡ sents_of w line o ++ sents_all w line (drop (i + 1) found)
  front-split = ap (sents_all w line) (next-overflow found i o at)

  pub front-space : (S : ℕ → Type 0) (x : Ends) → HaveSpace S (length (sents_all w line (drop i found))) x → HaveSpace S (length (sents_of w line o)) x
  front-space S x h = space-front S (sents_of w line o) (sents_all w line (drop (i + 1) found)) x (subst (λ l. HaveSpace S (length l) x) front-split h)

  pub rest-space : (S : ℕ → Type 0) (x after : Ends) → after ≡ send_all x (sents_of w line o) → HaveSpace S (length (sents_all w line (drop i found))) x
      → HaveSpace S (length (sents_all w line (drop (i + 1) found))) after
  rest-space S x after is h =
      subst (HaveSpace S (length (sents_all w line (drop (i + 1) found)))) (sym is)
      (space-after S (sents_of w line o) (sents_all w line (drop (i + 1) found)) x (subst (λ l. HaveSpace S (length l) x) front-split h))

  pub rest-sends : (x after : Ends) → after ≡ send_all x (sents_of w line o) → send_all after (sents_all w line (drop (i + 1) found)) ≡ send_all x (sents_all w line (drop i found))
  rest-sends x after is =
      ap (λ y. send_all y (sents_all w line (drop (i + 1) found))) is
      ∙ (sym (send_all-append x (sents_of w line o) (sents_all w line (drop (i + 1) found))) ∙ ap (send_all x) (sym front-split))
