-- What is lost and where heads stand: few, over the orders of a script.
use Rattle.std.specs.Prelude.{◌≡◌, ℕ, suc, ◌+◌, ◌≤◌, ◌==◌, All, Bool, true, false, cond, List, [], ◌∷◌, length, sum_by, count_by, ◌≢◌, ◌<◌, AllPairs, filter, slice_index_or}
use Rattle.std.proofs.{Common.{arith, refl, ap, sym, inl, inr, ◌∙◌}, lemmas.List.{length-map, Elements.{All-head, All-tail}}}
use Rattle.std.proofs.lemmas.{List.Sums.{sum_by-cons, sum_by-le-sum_by, length-filter, count_by-le-length}, Bool.{cases_eq, Decides.{nat_tests}}}
use Rattle.perf_base.specs.declared.numbers.{EventNo.{EventNo}, RingNo.{RingNo}}
use Rattle.stage_spec.specs.{Hardware.{Hardware, hardware_of}, Stage.{Stage}, History.{Step, history, opening_stage}}
use Rattle.ring_spec.specs.{Sending.{SentSample, sent_by_steps}}
use Rattle.ring_spec.specs.Account.{RingEvent, Sends, is_sent, lost_of}
use Rattle.ring_spec.{specs.Rings.{is_to, events_of, account_of, lost_count, account_in}, proofs.{Conserved.{sent_law}, Rings.{sends_law}, Sizes.{size-words}}}
use Rattle.ring_laws.{specs.Losses.{FewLostLaw, FewLostOfScriptLaw, HeadsLaw, SmallHeadsLaw}, proofs.Orders.{few_of_script, few_words}}
use Rattle.ring_laws.proofs.Reached.{count-one}

-- A record goes to one ring at most.
apart-none : (a b : ℕ) → a ≢ b → cond (a == b) 1 0 ≤ 0
apart-none a b h = grind (arith, nat_tests)

none_of : (n : ℕ) (rings : List (RingNo × ℕ)) → All (λ r. n ≢ r.0.0) rings → count_by (λ (r : RingNo × ℕ). n == r.0.0) rings ≡ 0
none_of n [] h = refl
none_of n (r ∷ rings) h =
    omega (arith, apart-none n r.0.0 (All-head (λ (q : RingNo × ℕ). n ≢ q.0.0) r rings h), none_of n rings (All-tail (λ (q : RingNo × ℕ). n ≢ q.0.0) r rings h), count-one (λ (q : RingNo × ℕ). n == q.0.0) r rings)

pub if_some : (b : Bool) → cond b 1 0 ≤ 1
if_some true = omega arith
if_some false = omega arith

at_most_one : (n : ℕ) (rings : List (RingNo × ℕ)) → AllPairs (λ q r. q.0.0 ≢ r.0.0) rings → count_by (λ (r : RingNo × ℕ). n == r.0.0) rings ≤ 1
at_most_one n [] h = omega arith
at_most_one n (r ∷ rings) h = elim (cases_eq n r.0.0) [
  | inl e ↦
      let others : All (λ q. n ≢ q.0.0) rings = λ k d l same. h 0 (suc k) d (omega arith) (omega (arith, l)) (sym e ∙ same) in
      omega (arith, none_of n rings others, if_some (n == r.0.0), count-one (λ (q : RingNo × ℕ). n == q.0.0) r rings)
  | inr e ↦
      let rest : count_by (λ (q : RingNo × ℕ). n == q.0.0) rings ≤ 1 = at_most_one n rings (λ i j d below inside. h (suc i) (suc j) d (omega (arith, below)) (omega (arith, inside))) in
      omega (arith, apart-none n r.0.0 e, rest, count-one (λ (q : RingNo × ℕ). n == q.0.0) r rings)
]

abbrev sent_to : List (RingNo × SentSample) → RingNo × ℕ → ℕ
sent_to sents ring = count_by (is_to ring.0) sents

one_sent : (x : RingNo × SentSample) (sents : List (RingNo × SentSample)) (rings : List (RingNo × ℕ))
    → sum_by (sent_to (x ∷ sents)) rings ≡ count_by (λ (r : RingNo × ℕ). x.0.0 == r.0.0) rings + sum_by (sent_to sents) rings
one_sent x sents [] = refl
one_sent x sents (r ∷ rings) =
    omega (
      arith,
      one_sent x sents rings,
      sum_by-cons (sent_to (x ∷ sents)) r rings,
      sum_by-cons (sent_to sents) r rings,
      count-one (is_to r.0) x sents,
      count-one (λ (q : RingNo × ℕ). x.0.0 == q.0.0) r rings,
    )

none_sent : (rings : List (RingNo × ℕ)) → sum_by (sent_to []) rings ≡ 0
none_sent [] = refl
none_sent (r ∷ rings) = omega (arith, none_sent rings, sum_by-cons (sent_to []) r rings)

to_rings : (sents : List (RingNo × SentSample)) (rings : List (RingNo × ℕ)) → AllPairs (λ q r. q.0.0 ≢ r.0.0) rings → sum_by (sent_to sents) rings ≤ length sents
to_rings [] rings h = omega (arith, none_sent rings)
to_rings (x ∷ sents) rings h = omega (arith, to_rings sents rings h, one_sent x sents rings, at_most_one x.0.0 rings h)

-- What an event lost on a ring was sent to it.
lost_on : (hw : Hardware) (s : Stage) (steps : List Step) (e : EventNo) (ring : RingNo × ℕ) → lost_of e (account_of hw s steps ring) ≤ sent_to (sent_by_steps hw s steps) ring
unfolding account_of
lost_on hw s steps e ring =
    let events : List RingEvent = events_of hw s steps ring.0 in
    let sents : List (RingNo × SentSample) = filter (is_to ring.0) (sent_by_steps hw s steps) in
    let sends : length (filter is_sent events) ≡ length sents = ap length (sends_law hw s steps ring.0) ∙ length-map sents (λ (sent : RingNo × SentSample). Sends sent.1) in
    grind (arith, nat_tests, sends, sent_law, events, length-filter, count_by-le-length)

pub few_lost : FewLostLaw
unfolding lost_count
few_lost hw s rings steps e h =
    omega (
      arith,
      sum_by-le-sum_by (λ ring. lost_of e (account_of hw s steps ring)) (sent_to (sent_by_steps hw s steps)) rings (λ ring. lost_on hw s steps e ring),
      to_rings (sent_by_steps hw s steps) rings h,
    )

below-apart : (a b : ℕ) → a < b → a ≢ b
below-apart a b l e = absurd (omega (arith, l, e))

pub few_lost_of_script : FewLostOfScriptLaw
few_lost_of_script s order e h covered =
    omega (
      arith,
      few_lost (hardware_of s) (opening_stage s) s.rings (history s order) e
          (λ i j d below inside. below-apart (slice_index_or s.rings i d).0.0 (slice_index_or s.rings j d).0.0 (h.rings_rise i j d below inside)),
      few_of_script s order h covered,
    )

pub heads : HeadsLaw
heads s order ring h covered = omega (arith, size-words (account_in s order ring).written, few_words s order ring h covered)

pub small_heads : SmallHeadsLaw
small_heads s order ring h covered light = omega (arith, light, heads s order ring h covered)
