-- Sends leave rings and ends together, and space for as many fewer records.
use Rattle.std.specs.Prelude.{◌≡◌, ℕ, suc, ◌+◌, ◌-◌, ◌*◌, ◌^◌, ◌<◌, ◌≤◌, ◌==◌, Bool, true, false, All, List, [], ◌∷◌, map, slice_index_or}
use Rattle.std.proofs.{Common.{arith, refl, sym, ap, ◌∙◌, inl, inr}, lemmas.Bool.{cases_Bool, cases_lt}}
use Rattle.std.proofs.{lemmas.List.{get_or-set_same, get_or-set_other, Elements.{All-head, All-tail, All-cons}}, Math.Seq.{set_out}}
use Rattle.perf_base.specs.declared.numbers.{EventNo.{EventNo}, RingNo.{RingNo}}
use Rattle.ring_words.specs.Ends.{head_place}
use Rattle.sample_ring.{specs.{OutEnds.{OutEnd}, RingLists.{RingList}, Sends.{Request, sent_to}}, proofs.Sending.{head_bounded, lost_bounded}}
use Rattle.work_account.specs.{Ends.{Ends, sent_among, loses_among, count_lost, send_one, AreTogether, HaveSpace}, Sampling.{send_times}}
use Rattle.work_account.proofs.Accounts.{ring-kept}

-- what holds of each end after a send, from what held of each before
all-sent : (P Q : OutEnd → Type 0) (q : Request) → ((o : OutEnd) → P o → Q o) → ((o : OutEnd) → P o → Q (sent_to o q)) → (numbers : List RingNo) (outs : List OutEnd) (ring : RingNo)
    → All P outs → All Q (sent_among numbers outs ring q)
all-sent P Q q other its numbers [] ring h = none numbers
  where
    none : (numbers : List RingNo) → All Q (sent_among numbers [] ring q)
    none [] = λ k d inside. absurd (omega (arith, inside))
    none (n ∷ numbers) = λ k d inside. absurd (omega (arith, inside))
all-sent P Q q other its [] (o ∷ outs) ring h = λ k d inside. other _ (h k d inside)
all-sent P Q q other its (n ∷ numbers) (o ∷ outs) ring h =
    let head : P o = All-head P o outs h in
    let rest : All P outs = All-tail P o outs h in
    elim (cases_Bool (n.0 == ring.0)) [
      | inl e ↦ rw e (All-cons Q (sent_to o q) outs (its o head) (λ k d inside. other _ (rest k d inside)))
      | inr e ↦ rw e (All-cons Q o (sent_among numbers outs ring q) (other o head) (all-sent P Q q other its numbers outs ring rest))
    ]

-- one record moves a head by its ring's size at most
times-more : (n b : ℕ) → suc n * b ≡ n * b + b
times-more n b = omega arith

head-next : (n : ℕ) (q : Request) (o : OutEnd) → head_place o.producer + suc n * o.producer.ring.bytes < 2 ^ 63 → head_place (sent_to o q).producer + n * (sent_to o q).producer.ring.bytes < 2 ^ 63
head-next n q o h = grind (arith, ring-kept, head_bounded, times-more)

count-next : (b : Bool) (e : EventNo) (lost : List ℕ) (slot : ℕ) → slice_index_or (count_lost b e lost) slot 0 ≤ slice_index_or lost slot 0 + 1
count-next false e lost slot = omega arith
count-next true e lost slot = grind (arith, get_or-set_other, cases_lt, get_or-set_same, set_out)

pub space-next : (S : ℕ → Type 0) (n : ℕ) (x : Ends) (e : EventNo) (ring : RingNo) (q : Request) → HaveSpace S (suc n) x → HaveSpace S n (send_one x e ring q)
space-next S n x e ring q h = record {
  heads = all-sent (λ (o : OutEnd). head_place o.producer + suc n * o.producer.ring.bytes < 2 ^ 63) (λ (o : OutEnd). head_place o.producer + n * o.producer.ring.bytes < 2 ^ 63) q
      (λ o a. omega (arith, a, times-more n o.producer.ring.bytes)) (head-next n q) x.outs.numbers x.outs.outs ring h.heads;
  losses = all-sent (λ (o : OutEnd). o.lost + suc n < 2 ^ 63) (λ (o : OutEnd). o.lost + n < 2 ^ 63) q
      (λ o a. omega (arith, a)) (λ o a. omega (arith, a, lost_bounded o q)) x.outs.numbers x.outs.outs ring h.losses;
  lost = λ slot its. omega (arith, h.lost slot its, count-next (loses_among x.outs.numbers x.outs.outs ring q) e x.lost slot);
}

-- space for some records is space for fewer
pub space-less : (S : ℕ → Type 0) (m n : ℕ) (x : Ends) → HaveSpace S (m + n) x → HaveSpace S m x
space-less S m n x h = record {
  heads = λ k d inside. omega (arith, h.heads k d inside, more (slice_index_or x.outs.outs k d).producer.ring.bytes);
  losses = λ k d inside. omega (arith, h.losses k d inside);
  lost = λ slot its. omega (arith, h.lost slot its);
}
  where
    more : (b : ℕ) → m * b ≤ (m + n) * b
    more b = let e : (m + n) * b ≡ m * b + n * b = omega arith in omega (arith, e)

-- the rings of the ends stay
tables-kept : (numbers : List RingNo) (outs : List OutEnd) (ring : RingNo) (q : Request)
    → map (λ (o : OutEnd). o.producer.ring) (sent_among numbers outs ring q) ≡ map (λ (o : OutEnd). o.producer.ring) outs
tables-kept [] outs ring q = refl
tables-kept (n ∷ numbers) [] ring q = refl
tables-kept (n ∷ numbers) (o ∷ outs) ring q = grind (arith, ring-kept, tables-kept numbers outs ring q)

pub together-next : (rings : RingList) (x : Ends) (e : EventNo) (ring : RingNo) (q : Request) → AreTogether rings x.outs → AreTogether rings (send_one x e ring q).outs
together-next rings x e ring q h = record { numbers = h.numbers; tables = tables-kept x.outs.numbers x.outs.outs ring q ∙ h.tables }

-- a burst of which some are left to be sent
module _ (e : EventNo) (ring : RingNo) (q : Request) where
  pub burst-next : (count done : ℕ) (x : Ends) → done < count → send_times (count - (done + 1)) e ring q (send_one x e ring q) ≡ send_times (count - done) e ring q x
  burst-next count done x below =
      let left : count - done ≡ suc (count - (done + 1)) = omega (arith, below) in
      sym (ap (λ (n : ℕ). send_times n e ring q x) left)

  pub burst-done : (count done : ℕ) (x : Ends) → count ≤ done → send_times (count - done) e ring q x ≡ x
  burst-done count done x past =
      let left : count - done ≡ 0 = omega (arith, past) in
      ap (λ (n : ℕ). send_times n e ring q x) left
