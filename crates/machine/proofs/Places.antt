-- The end of a ring among those that there are, its account, and what a look at its tail leaves.
use Rattle.std.specs.Prelude.{◌≡◌, ◌≢◌, ℕ, zero, suc, ◌<◌, ◌==◌, false, AllPairs, List, [], ◌∷◌, map, find, Option, Some, length, slice_get, slice_index_or, slice_set}
use Rattle.std.proofs.{Common.{arith, refl, sym, ap, subst, ◌∙◌, inl, inr}, lemmas.Bool.{cases_eq, Decides.{nat_tests}}}
use Rattle.std.proofs.lemmas.Option.{get_or_from_slice_get, none-some, same_Some, slice_get_within}
use Rattle.perf_base.specs.declared.numbers.RingNo.{RingNo}
use Rattle.stage_spec.specs.History.{SeenStep}
use Rattle.stage_laws.proofs.Leaders.{find-first, find-later}
use Rattle.ring_spec.{specs.{Account.{Account}, Rings.{bytes_in}, Running.{RingAccount, ring_after}}, proofs.Running.{in_account}}
use Rattle.sample_ring.specs.{OutEnds.{OutEnd}, RingLists.{HasRing, ring_index}}
use Rattle.work_account.specs.Ends.{IsAccountOf, AreAccounts}
use Rattle.work_account.proofs.Sends.{place-here, place-later}

-- what stands in a list of which one entry was set
pub set-here : {X : Type 0} (xs : List X) (i : ℕ) (x y : X) → slice_get xs i ≡ Some x → slice_get (slice_set xs i y) i ≡ Some y
set-here [] i x y h = absurd (none-some _ h)
set-here (z ∷ xs) zero x y h = refl
set-here (z ∷ xs) (suc i) x y h = set-here xs i x y h

pub set-other : {X : Type 0} (xs : List X) (i j : ℕ) (y : X) → (j ≡ i → ⊥) → slice_get (slice_set xs i y) j ≡ slice_get xs j
set-other [] i j y off = refl
set-other (z ∷ xs) zero zero y off = absurd (off refl)
set-other (z ∷ xs) zero (suc j) y off = refl
set-other (z ∷ xs) (suc i) zero y off = refl
set-other (z ∷ xs) (suc i) (suc j) y off = set-other xs i j y (λ e. off (ap suc e))

-- the place of a ring is that of its number
pub ring-is : (m n : RingNo) → m.0 ≡ n.0 → m ≡ n
ring-is m n e = λ i. record { 0 = e i }

-- The end of a declared ring has that ring's account.
account-here : (f : RingNo × ℕ → Account) (n ring : RingNo) (o : OutEnd) (r : RingNo × ℕ) (rings : List (RingNo × ℕ)) → n.0 ≡ ring.0 → IsAccountOf n o (in_account f r)
    → IsAccountOf ring o (in_account f (ring, bytes_in (find (λ q. q.0.0 == ring.0) (r ∷ rings))))
account-here f n ring o r rings e h = grind (arith, nat_tests, ring-is, find-first, in_account)

pub account-there : (f : RingNo × ℕ → Account) (numbers : List RingNo) (outs : List OutEnd) (rings : List (RingNo × ℕ)) (ring : RingNo) (o : OutEnd)
    → AreAccounts numbers outs (map (in_account f) rings) → HasRing numbers ring → slice_get outs (ring_index numbers ring) ≡ Some o
    → IsAccountOf ring o (in_account f (ring, bytes_in (find (λ r. r.0.0 == ring.0) rings)))
account-there f [] outs rings ring o h there at = absurd (omega (arith, there))
account-there f (n ∷ numbers) [] rings ring o h there at = absurd (none-some _ at)
account-there f (n ∷ numbers) (p ∷ outs) [] ring o h there at = absurd h
account-there f (n ∷ numbers) (p ∷ outs) (r ∷ rings) ring o h there at = elim (cases_eq n.0 ring.0) [
  | inl e ↦ grind (arith, nat_tests, same_Some, place-here, e, account-here, in_account)
  | inr off ↦
      let later : ring_index (n ∷ numbers) ring ≡ suc (ring_index numbers ring) = place-later n ring numbers off in
      let apart : (r.0.0 == ring.0) ≡ false = grind (arith, nat_tests, off, ap (λ (q : RingNo). q.0) h.0.ring) in
      let rest : IsAccountOf ring o (in_account f (ring, bytes_in (find (λ q. q.0.0 == ring.0) rings))) =
      account-there f numbers outs rings ring o h.1 (omega (arith, there, later)) (ap (slice_get (p ∷ outs)) (sym later) ∙ at) in
      subst (λ (q : Option (RingNo × ℕ)). IsAccountOf ring o (in_account f (ring, bytes_in q))) (sym (find-later (λ (q : RingNo × ℕ). q.0.0 == ring.0) r rings apart)) rest
]

-- an account whose tail was seen at a place
abbrev pub with_tail : ℕ → RingAccount → RingAccount
with_tail place a = record a { account = record a.account { tail = place } }

look-here : (ring : RingNo) (place : ℕ) (a : RingAccount) → a.ring.0 ≡ ring.0 → ring_after (SeenStep ring place) [] a ≡ with_tail place a
look-here ring place a e = grind (arith, nat_tests)

look-other : (ring : RingNo) (place : ℕ) (a : RingAccount) → (a.ring.0 ≡ ring.0 → ⊥) → ring_after (SeenStep ring place) [] a ≡ a
look-other ring place a off = grind (arith, nat_tests)

-- rings that are not looked at
others-still : (numbers : List RingNo) (outs : List OutEnd) (accounts : List RingAccount) (ring : RingNo) (place : ℕ) → AreAccounts numbers outs accounts
    → ((j : ℕ) (d : RingNo) → slice_get numbers j ≡ Some d → d.0 ≡ ring.0 → ⊥) → AreAccounts numbers outs (map (ring_after (SeenStep ring place) []) accounts)
others-still [] [] [] ring place h off = tt
others-still [] [] (a ∷ accounts) ring place h off = absurd h
others-still [] (o ∷ outs) accounts ring place h off = absurd h
others-still (n ∷ numbers) [] accounts ring place h off = absurd h
others-still (n ∷ numbers) (o ∷ outs) [] ring place h off = absurd h
others-still (n ∷ numbers) (o ∷ outs) (a ∷ accounts) ring place h off =
    let same : ring_after (SeenStep ring place) [] a ≡ a = look-other ring place a (λ e. off 0 n refl (sym (ap (λ (q : RingNo). q.0) h.0.ring) ∙ e)) in
    (subst (IsAccountOf n o) (sym same) h.0, others-still numbers outs accounts ring place h.1 (λ j d at. off (suc j) d at))

-- a ring that stands first stands nowhere else
others-apart : (n ring : RingNo) (numbers : List RingNo) (j : ℕ) (d : RingNo) → AllPairs (λ m q. m.0 ≢ q.0) (n ∷ numbers) → slice_get numbers j ≡ Some d → n.0 ≡ ring.0 → d.0 ≡ ring.0 → ⊥
others-apart n ring numbers j d apart at e same =
    let low : j < length numbers = slice_get_within numbers j d at in
    let is : slice_index_or numbers j n ≡ d = get_or_from_slice_get numbers j d n at in
    apart 0 (suc j) n (omega arith) (omega (arith, low)) (e ∙ (sym same ∙ sym (ap (λ (q : RingNo). q.0) is)))

-- A look at a ring leaves its end with the account that was looked at, and the others as they were.
pub seen-among : (numbers : List RingNo) (outs : List OutEnd) (accounts : List RingAccount) (ring : RingNo) (place : ℕ) (o p : OutEnd)
    → AllPairs (λ m n. m.0 ≢ n.0) numbers → AreAccounts numbers outs accounts → HasRing numbers ring → slice_get outs (ring_index numbers ring) ≡ Some o
    → ((n : RingNo) (a : RingAccount) → IsAccountOf n o a → IsAccountOf n p (with_tail place a))
    → AreAccounts numbers (slice_set outs (ring_index numbers ring) p) (map (ring_after (SeenStep ring place) []) accounts)
seen-among [] outs accounts ring place o p apart h there at looked = absurd (omega (arith, there))
seen-among (n ∷ numbers) [] accounts ring place o p apart h there at looked = absurd (none-some _ at)
seen-among (n ∷ numbers) (q ∷ outs) [] ring place o p apart h there at looked = absurd h
seen-among (n ∷ numbers) (q ∷ outs) (a ∷ accounts) ring place o p apart h there at looked = elim (cases_eq n.0 ring.0) [
  | inl e ↦
      let first : ring_index (n ∷ numbers) ring ≡ 0 = place-here n ring numbers e in
      let same : q ≡ o = same_Some q o (ap (slice_get (q ∷ outs)) (sym first) ∙ at) in
      let here : IsAccountOf n p (with_tail place a) = looked n a (subst (λ (x : OutEnd). IsAccountOf n x a) same h.0) in
      let is : ring_after (SeenStep ring place) [] a ≡ with_tail place a = look-here ring place a (ap (λ (x : RingNo). x.0) h.0.ring ∙ e) in
      subst (λ (i : ℕ). AreAccounts (n ∷ numbers) (slice_set (q ∷ outs) i p) (map (ring_after (SeenStep ring place) []) (a ∷ accounts))) (sym first)
      (subst (IsAccountOf n p) (sym is) here, others-still numbers outs accounts ring place h.1 (λ j d in_list same_ring. others-apart n ring numbers j d apart in_list e same_ring))
  | inr off ↦
      let later : ring_index (n ∷ numbers) ring ≡ suc (ring_index numbers ring) = place-later n ring numbers off in
      let still : ring_after (SeenStep ring place) [] a ≡ a = look-other ring place a (λ e. off (sym (ap (λ (x : RingNo). x.0) h.0.ring) ∙ e)) in
      let rest : AreAccounts numbers (slice_set outs (ring_index numbers ring) p) (map (ring_after (SeenStep ring place) []) accounts) =
      seen-among numbers outs accounts ring place o p (λ i j d below inside. apart (suc i) (suc j) d (omega (arith, below)) (omega (arith, inside))) h.1 (omega (arith, there, later))
      (ap (slice_get (q ∷ outs)) (sym later) ∙ at) looked in
      subst (λ (i : ℕ). AreAccounts (n ∷ numbers) (slice_set (q ∷ outs) i p) (map (ring_after (SeenStep ring place) []) (a ∷ accounts))) (sym later)
      (subst (IsAccountOf n q) (sym still) h.0, rest)
]
