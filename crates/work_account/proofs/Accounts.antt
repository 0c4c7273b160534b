-- What records that are sent do to the accounts of the ends, and to the counts of records lost.
use Rattle.std.specs.Prelude.{◌≡◌, ◌≢◌, ℕ, suc, ◌+◌, ◌<◌, ◌≤◌, ◌==◌, nat_le, Bool, true, false, not, All, AllPairs, List, [], ◌∷◌, ◌++◌, length, map, filter, fold, flat_map, count_by, slice_index_or, if◌then◌else◌, cond}
use Rattle.std.proofs.{Common.{arith, refl, sym, ap, subst, ◌∙◌, inl, inr}, lemmas.Bool.{cases_eq, false≢true, Decides.{nat_tests}}}
use Rattle.std.proofs.lemmas.List.{length-append, length-set, get_or-set_same, get_or-set_other, Elements.{All-head, All-tail}}
use Rattle.perf_base.specs.declared.{lines.CpuLine.{CpuLine}, numbers.{CpuNo.{CpuNo}, EventNo.{EventNo}, RingNo.{RingNo}}}
use Rattle.stage_spec.{specs.History.{CpuStep}, proofs.Each.{Each, head-Each, tail-Each}}
use Rattle.stage_laws.proofs.{Counts.{count-append, count-cons}, Totals.{as_number}}
use Rattle.ring_spec.specs.{Account.{Account, Sends, send, ring_step, lost_by, lost_among, is_event, need_of, room_of}, Records.{IsRecord}}
use Rattle.ring_spec.specs.{Rings.{is_to, sends_to}, Running.{RingAccount, ring_after, losses_on, more_lost}, Sending.{SentSample}}
use Rattle.ring_spec.proofs.Sizes.{IsSized, AreSized}
use Rattle.ring_spec.specs.Account as account
use Rattle.ring_words.specs.Ends.{Ring}
use Rattle.sample_ring.specs.{OutEnds.{OutEnd, HasAccount}, Sends.{Request, request_of, records_for, sent_to, written_to, lost_to, fits}}
use Rattle.sample_ring.proofs.Sending.{account_sent, lawful-both}
use Rattle.work_account.specs.Ends.{Ends, sent_among, loses_among, count_lost, send_next, send_all, IsAccountOf, AreAccounts, HaveAccounts}

lawful : (o : OutEnd) (s : SentSample) → IsSized s → All IsRecord (records_for o (request_of s))
lawful o s z = lawful-both o.pending _ _ z.1 z.0

-- a send leaves an end's ring, and nothing put
pub ring-kept : (o : OutEnd) (q : Request) → (sent_to o q).producer.ring ≡ o.producer.ring
ring-kept o q = one (fits o q)
  where
    one : (b : Bool) → (elim b as (λ _. OutEnd) [ true ↦ written_to o q | false ↦ lost_to o ]).producer.ring ≡ o.producer.ring
    one true = refl
    one false = refl

put-kept : (o : OutEnd) (q : Request) → (sent_to o q).producer.put ≡ o.producer.put
put-kept o q = one (fits o q)
  where
    one : (b : Bool) → (elim b as (λ _. OutEnd) [ true ↦ written_to o q | false ↦ lost_to o ]).producer.put ≡ o.producer.put
    one true = refl
    one false = refl

-- an account once a record was sent to a ring, and the event whose record is lost then
abbrev after_one : RingNo → SentSample → RingAccount → RingAccount
after_one ring s a = record a { account = if ring.0 == a.ring.0 then send a.bytes a.account s else a.account }

abbrev lost_one : RingNo → SentSample → RingAccount → List EventNo
lost_one ring s a = if ring.0 == a.ring.0 then lost_by a.bytes a.account (Sends s) else []

module _ (n : RingNo) (o : OutEnd) (a : RingAccount) (h : IsAccountOf n o a) (ring : RingNo) (s : SentSample) where
  here : n.0 ≡ ring.0 → (ring.0 == a.ring.0) ≡ true
  here e = let same : a.ring.0 ≡ n.0 = ap (λ (r : RingNo). r.0) h.ring in grind (arith, nat_tests, e, same)

  away : n.0 ≢ ring.0 → (ring.0 == a.ring.0) ≡ false
  away off = let same : a.ring.0 ≡ n.0 = ap (λ (r : RingNo). r.0) h.ring in grind (arith, nat_tests, off, same)

  has-sent : IsSized s → HasAccount (sent_to o (request_of s)) (send a.bytes a.account s)
  has-sent z = subst (λ (m : ℕ). HasAccount (sent_to o (request_of s)) (send m a.account s)) (sym h.bytes) (account_sent o a.account s h.has h.put (lawful o s z))

  sent-here : IsSized s → n.0 ≡ ring.0 → IsAccountOf n (sent_to o (request_of s)) (after_one ring s a)
  sent-here z e = record {
    ring = h.ring;
    bytes = h.bytes ∙ ap (λ (r : Ring). r.bytes) (sym (ring-kept o (request_of s)));
    has = subst (λ (b : Bool). HasAccount (sent_to o (request_of s)) (if b then send a.bytes a.account s else a.account)) (sym (here e)) (has-sent z);
    put = put-kept o (request_of s) ∙ h.put;
  }

  sent-away : n.0 ≢ ring.0 → IsAccountOf n o (after_one ring s a)
  sent-away off = record {
    ring = h.ring;
    bytes = h.bytes;
    has = subst (λ (b : Bool). HasAccount o (if b then send a.bytes a.account s else a.account)) (sym (away off)) h.has;
    put = h.put;
  }

  -- it fits by the account where it fits by the end: else their numbers of losses would differ
  fits-both : (b c : Bool) → length (elim b as (λ _. Account) [ true ↦ account.written_to a.account s | false ↦ account.lost_to a.account s ]).lost
      ≡ (elim c as (λ _. OutEnd) [ true ↦ written_to o (request_of s) | false ↦ lost_to o ]).lost → b ≡ c
  fits-both true true e = refl
  fits-both false false e = refl
  fits-both true false e = absurd (omega (arith, e, h.has.lost))
  fits-both false true e = absurd (omega (arith, e, h.has.lost, length-append a.account.lost (s.event ∷ [])))

  fits-same : IsSized s → nat_le (need_of a.account s) (room_of a.bytes a.account) ≡ fits o (request_of s)
  fits-same z = fits-both (nat_le (need_of a.account s) (room_of a.bytes a.account)) (fits o (request_of s)) (has-sent z).lost

  lost-here : IsSized s → n.0 ≡ ring.0 → (e : EventNo) → count_by (is_event e) (lost_one ring s a) ≡ (if not (fits o (request_of s)) then as_number (s.event.0 == e.0) else 0)
  lost-here z same e =
      ap (λ (b : Bool). count_by (is_event e) (if b then lost_by a.bytes a.account (Sends s) else [])) (here same) ∙ one (nat_le (need_of a.account s) (room_of a.bytes a.account)) (fits o (request_of s)) (fits-same z)
    where
      one : (b c : Bool) → b ≡ c → count_by (is_event e) (elim b as (λ _. List EventNo) [ true ↦ [] | false ↦ s.event ∷ [] ]) ≡ (if not c then as_number (s.event.0 == e.0) else 0)
      one true true same = refl
      one false false same = omega (arith, count-cons (is_event e) s.event [])
      one true false same = absurd (false≢true (sym same))
      one false true same = absurd (false≢true same)

  lost-away : n.0 ≢ ring.0 → (e : EventNo) → count_by (is_event e) (lost_one ring s a) ≡ 0
  lost-away off e = ap (λ (b : Bool). count_by (is_event e) (if b then lost_by a.bytes a.account (Sends s) else [])) (away off)

abbrev AreApart : List RingNo → Type 0
AreApart numbers = AllPairs (λ m n. m.0 ≢ n.0) numbers

apart-rest : (n : RingNo) (numbers : List RingNo) → AreApart (n ∷ numbers) → AreApart numbers
apart-rest n numbers h = λ i j d below inside. h (suc i) (suc j) d (omega (arith, below)) (omega (arith, inside))

apart-first : (n ring : RingNo) (numbers : List RingNo) → n.0 ≡ ring.0 → AreApart (n ∷ numbers) → All (λ m. m.0 ≢ ring.0) numbers
apart-first n ring numbers e h = λ k d inside same. h 0 (suc k) d (omega arith) (omega (arith, inside)) (e ∙ sym same)

none-after : (numbers : List RingNo) (outs : List OutEnd) (accounts : List RingAccount) (ring : RingNo) (s : SentSample) → All (λ m. m.0 ≢ ring.0) numbers
    → AreAccounts numbers outs accounts → AreAccounts numbers outs (map (after_one ring s) accounts)
none-after [] [] [] ring s off h = tt
none-after [] [] (a ∷ accounts) ring s off h = absurd h
none-after [] (o ∷ outs) accounts ring s off h = absurd h
none-after (n ∷ numbers) [] accounts ring s off h = absurd h
none-after (n ∷ numbers) (o ∷ outs) [] ring s off h = absurd h
none-after (n ∷ numbers) (o ∷ outs) (a ∷ accounts) ring s off h =
    grind (arith, nat_tests, All-head, All-tail, none-after numbers outs accounts ring s (All-tail (λ (m : RingNo). m.0 ≢ ring.0) n numbers off) h.1)

one-after : (numbers : List RingNo) (outs : List OutEnd) (accounts : List RingAccount) (ring : RingNo) (s : SentSample) → IsSized s → AreApart numbers
    → AreAccounts numbers outs accounts → AreAccounts numbers (sent_among numbers outs ring (request_of s)) (map (after_one ring s) accounts)
one-after [] [] [] ring s z apart h = tt
one-after [] [] (a ∷ accounts) ring s z apart h = absurd h
one-after [] (o ∷ outs) accounts ring s z apart h = absurd h
one-after (n ∷ numbers) [] accounts ring s z apart h = absurd h
one-after (n ∷ numbers) (o ∷ outs) [] ring s z apart h = absurd h
one-after (n ∷ numbers) (o ∷ outs) (a ∷ accounts) ring s z apart h =
    let q : Request = request_of s in
    let P : Bool → Type 0 = λ b. AreAccounts (n ∷ numbers) (if b then sent_to o q ∷ outs else o ∷ sent_among numbers outs ring q) (after_one ring s a ∷ map (after_one ring s) accounts) in
    elim (cases_eq n.0 ring.0) [
      | inl e ↦
          subst P (let is : true ≡ (n.0 == ring.0) = grind (arith, nat_tests, e) in is)
          (sent-here n o a h.0 ring s z e, none-after numbers outs accounts ring s (apart-first n ring numbers e apart) h.1)
      | inr off ↦ grind (arith, nat_tests, off, apart-rest, one-after numbers outs accounts ring s z (apart-rest n numbers apart) h.1)
    ]

none-lost : (numbers : List RingNo) (outs : List OutEnd) (accounts : List RingAccount) (ring : RingNo) (s : SentSample) → All (λ m. m.0 ≢ ring.0) numbers
    → AreAccounts numbers outs accounts → (e : EventNo) → count_by (is_event e) (flat_map (lost_one ring s) accounts) ≡ 0
none-lost [] [] [] ring s off h e = refl
none-lost [] [] (a ∷ accounts) ring s off h e = absurd h
none-lost [] (o ∷ outs) accounts ring s off h e = absurd h
none-lost (n ∷ numbers) [] accounts ring s off h e = absurd h
none-lost (n ∷ numbers) (o ∷ outs) [] ring s off h e = absurd h
none-lost (n ∷ numbers) (o ∷ outs) (a ∷ accounts) ring s off h e =
    omega (
      arith,
      count-append (is_event e) (lost_one ring s a) (flat_map (lost_one ring s) accounts),
      lost-away n o a h.0 ring s (All-head (λ (m : RingNo). m.0 ≢ ring.0) n numbers off) e,
      none-lost numbers outs accounts ring s (All-tail (λ (m : RingNo). m.0 ≢ ring.0) n numbers off) h.1 e,
    )

-- one of an event, where the record was lost
abbrev once_lost : Bool → SentSample → EventNo → ℕ
once_lost lost s e = if lost then as_number (s.event.0 == e.0) else 0

one-lost : (numbers : List RingNo) (outs : List OutEnd) (accounts : List RingAccount) (ring : RingNo) (s : SentSample) → IsSized s → AreApart numbers
    → AreAccounts numbers outs accounts → (e : EventNo)
    → count_by (is_event e) (flat_map (lost_one ring s) accounts) ≡ once_lost (loses_among numbers outs ring (request_of s)) s e
one-lost [] [] [] ring s z apart h e = refl
one-lost [] [] (a ∷ accounts) ring s z apart h e = absurd h
one-lost [] (o ∷ outs) accounts ring s z apart h e = absurd h
one-lost (n ∷ numbers) [] accounts ring s z apart h e = absurd h
one-lost (n ∷ numbers) (o ∷ outs) [] ring s z apart h e = absurd h
one-lost (n ∷ numbers) (o ∷ outs) (a ∷ accounts) ring s z apart h e =
    let q : Request = request_of s in
    let all : ℕ = count_by (is_event e) (lost_one ring s a ++ flat_map (lost_one ring s) accounts) in
    let P : Bool → Type 0 = λ b. all ≡ once_lost (if b then not (fits o q) else loses_among numbers outs ring q) s e in
    elim (cases_eq n.0 ring.0) [
      | inl same ↦
          subst P (let is : true ≡ (n.0 == ring.0) = grind (arith, nat_tests, same) in is)
          (omega (
            arith,
            count-append (is_event e) (lost_one ring s a) (flat_map (lost_one ring s) accounts),
            lost-here n o a h.0 ring s z same e,
            none-lost numbers outs accounts ring s (apart-first n ring numbers same apart) h.1 e,
          ))
      | inr off ↦ grind (arith, nat_tests, off, count-append, apart-rest, one-lost numbers outs accounts ring s z (apart-rest n numbers apart) h.1 e)
    ]

-- what a processor's step that sends one record more does to an account: that record first
module _ (cpu : CpuNo) (line : CpuLine) (p : RingNo × SentSample) (sents : List (RingNo × SentSample)) where
  first-account : (a : RingAccount) → ring_after (CpuStep cpu line) (p ∷ sents) a ≡ ring_after (CpuStep cpu line) sents (after_one p.0 p.1 a)
  first-account a = one (p.0.0 == a.ring.0)
    where
      one : (b : Bool) → record a { account = fold (ring_step a.bytes) a.account (map (λ (t : RingNo × SentSample). Sends t.1) (cond b (p ∷ filter (is_to a.ring) sents) (filter (is_to a.ring) sents))) }
          ≡ record a { account = fold (ring_step a.bytes) (if b then send a.bytes a.account p.1 else a.account) (sends_to a.ring sents) }
      one true = refl
      one false = refl

  first-losses : (a : RingAccount) → losses_on (CpuStep cpu line) (p ∷ sents) a ≡ lost_one p.0 p.1 a ++ losses_on (CpuStep cpu line) sents (after_one p.0 p.1 a)
  first-losses a = one (p.0.0 == a.ring.0)
    where
      one : (b : Bool) → lost_among a.bytes a.account (map (λ (t : RingNo × SentSample). Sends t.1) (cond b (p ∷ filter (is_to a.ring) sents) (filter (is_to a.ring) sents)))
          ≡ (if b then lost_by a.bytes a.account (Sends p.1) else []) ++ lost_among a.bytes (if b then send a.bytes a.account p.1 else a.account) (sends_to a.ring sents)
      one true = refl
      one false = refl

  first-accounts : (accounts : List RingAccount) → map (ring_after (CpuStep cpu line) (p ∷ sents)) accounts ≡ map (ring_after (CpuStep cpu line) sents) (map (after_one p.0 p.1) accounts)
  first-accounts [] = refl
  first-accounts (a ∷ accounts) = λ i. first-account a i ∷ first-accounts accounts i

  first-lost : (e : EventNo) (accounts : List RingAccount) → count_by (is_event e) (flat_map (losses_on (CpuStep cpu line) (p ∷ sents)) accounts)
      ≡ count_by (is_event e) (flat_map (lost_one p.0 p.1) accounts) + count_by (is_event e) (flat_map (losses_on (CpuStep cpu line) sents) (map (after_one p.0 p.1) accounts))
  first-lost e [] = refl
  first-lost e (a ∷ accounts) =
      let step = CpuStep cpu line in
      let b : RingAccount = after_one p.0 p.1 a in
      omega (
        arith,
        ap (λ (l : List EventNo). count_by (is_event e) (l ++ flat_map (losses_on step (p ∷ sents)) accounts)) (first-losses a),
        count-append (is_event e) (lost_one p.0 p.1 a ++ losses_on step sents b) (flat_map (losses_on step (p ∷ sents)) accounts),
        count-append (is_event e) (lost_one p.0 p.1 a) (losses_on step sents b),
        count-append (is_event e) (lost_one p.0 p.1 a) (flat_map (lost_one p.0 p.1) accounts),
        count-append (is_event e) (losses_on step sents b) (flat_map (losses_on step sents) (map (after_one p.0 p.1) accounts)),
        first-lost e accounts,
      )

-- The accounts of the ends after some records, and how many of an event's were lost.
nothing-after : (cpu : CpuNo) (line : CpuLine) (accounts : List RingAccount) → map (ring_after (CpuStep cpu line) []) accounts ≡ accounts
nothing-after cpu line [] = refl
nothing-after cpu line (a ∷ accounts) = λ i. a ∷ nothing-after cpu line accounts i

pub nothing-lost : (cpu : CpuNo) (line : CpuLine) (accounts : List RingAccount) → flat_map (losses_on (CpuStep cpu line) []) accounts ≡ []
nothing-lost cpu line [] = refl
nothing-lost cpu line (a ∷ accounts) = nothing-lost cpu line accounts

next-accounts : (x : Ends) (p : RingNo × SentSample) (accounts : List RingAccount) → IsSized p.1 → HaveAccounts x.outs accounts
    → HaveAccounts (send_next x p).outs (map (after_one p.0 p.1) accounts)
next-accounts x p accounts z h = grind (arith, nat_tests, one-after)

pub accounts-after : (cpu : CpuNo) (line : CpuLine) (sents : List (RingNo × SentSample)) (x : Ends) (accounts : List RingAccount) → AreSized sents → HaveAccounts x.outs accounts
    → HaveAccounts (send_all x sents).outs (map (ring_after (CpuStep cpu line) sents) accounts)
unfolding send_all
accounts-after cpu line [] x accounts z h = subst (HaveAccounts x.outs) (sym (nothing-after cpu line accounts)) h
accounts-after cpu line (p ∷ sents) x accounts z h =
    let S : RingNo × SentSample → Type 0 = λ (t : RingNo × SentSample). IsSized t.1 in
    subst (HaveAccounts (send_all (send_next x p) sents).outs) (sym (first-accounts cpu line p sents accounts))
    (accounts-after cpu line sents (send_next x p) (map (after_one p.0 p.1) accounts) (tail-Each S p sents z) (next-accounts x p accounts (head-Each S p sents z) h))

counted-lost : (lost : List ℕ) (b : Bool) (s : SentSample) (e : EventNo) → e.0 < length lost
    → (slice_index_or (count_lost b s.event lost) e.0 0 ≡ slice_index_or lost e.0 0 + once_lost b s e) × (length (count_lost b s.event lost) ≡ length lost)
counted-lost lost false s e low = (omega arith, refl)
counted-lost lost true s e low = grind (arith, nat_tests, length-set, get_or-set_same, get_or-set_other)

pub lost-after : (cpu : CpuNo) (line : CpuLine) (sents : List (RingNo × SentSample)) (x : Ends) (accounts : List RingAccount) → AreSized sents → HaveAccounts x.outs accounts
    → (e : EventNo) → e.0 < length x.lost
    → slice_index_or (send_all x sents).lost e.0 0 ≡ more_lost (λ f. slice_index_or x.lost f.0 0) (flat_map (losses_on (CpuStep cpu line) sents) accounts) e
unfolding send_all
lost-after cpu line [] x accounts z h e low = omega (arith, ap (count_by (is_event e)) (nothing-lost cpu line accounts))
lost-after cpu line (p ∷ sents) x accounts z h e low =
    let S : RingNo × SentSample → Type 0 = λ (t : RingNo × SentSample). IsSized t.1 in
    let one = counted-lost x.lost (loses_among x.outs.numbers x.outs.outs p.0 (request_of p.1)) p.1 e low in
    omega (
      arith,
      lost-after cpu line sents (send_next x p) (map (after_one p.0 p.1) accounts) (tail-Each S p sents z) (next-accounts x p accounts (head-Each S p sents z) h) e (omega (arith, one.1, low)),
      one.0,
      one-lost x.outs.numbers x.outs.outs accounts p.0 p.1 (head-Each S p sents z) h.apart h.each e,
      first-lost cpu line p sents e accounts,
    )
