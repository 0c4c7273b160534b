-- The readers have all words up to the heads.
use Rattle.std.{specs.Prelude.{◌≡◌, ℕ, ◌*◌, All, List, [], ◌∷◌, length, map}, proofs.Common.{arith, sym, ap, subst, ◌∙◌}}
use Rattle.std.proofs.lemmas.List.Elements.{All-cons, All-head, All-nil, All-tail}
use Rattle.perf_base.specs.{declared.{acts.Act.{Act}, numbers.RingNo.{RingNo}}, Scripts.{Scripted}}
use Rattle.ring_spec.specs.{Account.{Account, head_of}, Rings.{account_in, bytes_of}}
use Rattle.ring_spec.proofs.Sizes.{size-words}
use Rattle.sample_ring.specs.RingLists.{InList}
use Rattle.run_end.specs.{declared.ended.RingEnd.{RingEnd}, Ended.{HasTakenAll}}
use Rattle.machine.specs.Readers.{HasTaken, HaveTaken, IsShown}

pub first-is : (m n : RingNo) (ms ns : List RingNo) → ◌≡◌ {A = List RingNo} (m ∷ ms) (n ∷ ns) → m ≡ n
first-is m n ms ns e = cc

pub others-are : (m n : RingNo) (ms ns : List RingNo) → ◌≡◌ {A = List RingNo} (m ∷ ms) (n ∷ ns) → ms ≡ ns
others-are m n ms ns e = cc

taken-each : (s : Scripted) (order : List Act) (ins : InList) (ends : List RingEnd) (rings : List (RingNo × ℕ)) → map (λ (e : RingEnd). e.ring) ends ≡ map (λ (r : RingNo × ℕ). r.0) rings
    → All (λ (e : RingEnd). IsShown e.numbers (account_in s order (e.ring, bytes_of s e.ring))) ends → All (λ (r : RingNo × ℕ). HasTaken s order ins r.0) rings → All (HasTakenAll ins) ends
taken-each s order ins [] rings same shown taken = All-nil (HasTakenAll ins)
taken-each s order ins (e ∷ ends) [] same shown taken = absurd (omega (arith, ap length same))
taken-each s order ins (e ∷ ends) (r ∷ rings) same shown taken =
    let numbers : List RingNo = map (λ (x : RingEnd). x.ring) ends in
    let others : List RingNo = map (λ (q : RingNo × ℕ). q.0) rings in
    let here : e.ring ≡ r.0 = first-is e.ring r.0 numbers others same in
    let its : HasTaken s order ins e.ring = subst (HasTaken s order ins) (sym here) (All-head (λ (q : RingNo × ℕ). HasTaken s order ins q.0) r rings taken) in
    let a : Account = account_in s order (e.ring, bytes_of s e.ring) in
    let head : e.numbers.head ≡ head_of a = (All-head (λ (x : RingEnd). IsShown x.numbers (account_in s order (x.ring, bytes_of s x.ring))) e ends shown).head in
    All-cons (HasTakenAll ins) e ends (record { there = its.there; words = ap (λ (words : List ℕ). 8 * length words) its.words ∙ (sym (size-words a.written) ∙ sym head) })
    (taken-each s order ins ends rings (others-are e.ring r.0 numbers others same)
    (All-tail (λ (x : RingEnd). IsShown x.numbers (account_in s order (x.ring, bytes_of s x.ring))) e ends shown) (All-tail (λ (q : RingNo × ℕ). HasTaken s order ins q.0) r rings taken))

pub all-taken : (s : Scripted) (order : List Act) (ins : InList) (ends : List RingEnd) → map (λ (e : RingEnd). e.ring) ends ≡ map (λ (r : RingNo × ℕ). r.0) s.rings
    → All (λ (e : RingEnd). IsShown e.numbers (account_in s order (e.ring, bytes_of s e.ring))) ends → HaveTaken s order ins → All (HasTakenAll ins) ends
all-taken s order ins ends same shown taken = taken-each s order ins ends s.rings same shown taken
