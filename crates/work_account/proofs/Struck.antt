-- Instances that are hit, one after the other.
use Rattle.std.specs.Prelude.{◌≡◌, ℕ, suc, ◌+◌, ◌<◌, ◌≤◌, true, false, List, [], ◌∷◌, ◌++◌, length, map, take, drop, count_by, slice_index_or}
use Rattle.std.{specs.{FinMap.{contains_key}, Option.{unwrap_or}}, proofs.Common.{arith, refl, sym, ap, subst, ◌∙◌, inl, inr}}
use Rattle.std.proofs.lemmas.{Bool.{cases_eq, cases_Bool, Decides.{nat_tests}}, List.{take-append-drop, Sums.{fold-append}}}
use Rattle.std.proofs.Math.Seq.{drop-cons, take-suc}
use Rattle.perf_base.specs.declared.{numbers.Key.{Key}, reply.Sums.{Sums}}
use Rattle.stage_spec.specs.{Families.{plus}, Occurrences.{left_after, overflows}, Shares.{no_sums}}
use Rattle.stage_laws.proofs.Counts.{count-cons, count-append}
use Rattle.world_spec.specs.Value.{World, Account, no_account, no_family, instance_at, account_at, is_key, times}
use Rattle.world_spec.{specs.{Kept.{post_at, keys_of, plus_keys, family_sums, AreLinked}, Changes.{with_account}}, proofs.Accounts.{family-other}}
use Rattle.world_spec.proofs.{Keys.{key-is, is_key-same, is_key-other, times-cons, once-true, once-false}, Tables.{get-here, get-there, keys-written}}
use Rattle.work_account.specs.declared.{happening.Happening.{Happening}, overflowing.{Hit.{Hit}}}
use Rattle.work_account.specs.Visits.{occurs, hit_at, is_of, hit_one, hit_all, overflow_of, MayHit, MayHitAll}

-- an account after a write
account-here : (f : Account → Account) (w : World) (k q : Key) → q.0 ≡ k.0 → account_at (with_account f k w) q ≡ f (account_at w k)
account-here f w k q same = ap (λ o. unwrap_or o no_account) (get-here w.accounts k.0 (f (account_at w k)) q.0 same)

account-there : (f : Account → Account) (w : World) (k q : Key) → (q.0 ≡ k.0 → ⊥) → account_at (with_account f k w) q ≡ account_at w q
account-there f w k q apart = ap (λ o. unwrap_or o no_account) (get-there w.accounts k.0 (f (account_at w k)) q.0 apart)

-- an account after occurrences
abbrev pub after_hits : ℕ → ℕ → Account → Account
after_hits n period a = record { sums = record a.sums { count = a.sums.count + n }; left = left_after n period a.left }

hit-own : (w : World) (h : Hit) → account_at (hit_one w h) h.key ≡ after_hits h.occurrences (instance_at w h.key).attr.period (account_at w h.key)
hit-own w h = account-here (after_hits h.occurrences (instance_at w h.key).attr.period) w h.key h.key refl

hit-other : (w : World) (h : Hit) (q : Key) → (q.0 ≡ h.key.0 → ⊥) → account_at (hit_one w h) q ≡ account_at w q
hit-other w h q apart = account-there (after_hits h.occurrences (instance_at w h.key).attr.period) w h.key q apart

-- the sums of keys where one that changes is not among them
plus-other : (s t : Key → Sums) (k : Key) → ((q : Key) → (q.0 ≡ k.0 → ⊥) → s q ≡ t q) → (keys : List Key) → times k keys ≡ 0 → plus_keys s keys ≡ plus_keys t keys
plus-other s t k same [] none = refl
plus-other s t k same (q ∷ keys) none = elim (cases_eq q.0 k.0) [
  | inl e ↦ absurd (omega (arith, none, times-cons k q keys, once-true (is_key k q) (is_key-same k q e)))
  | inr apart ↦ grind (arith, nat_tests, times-cons, apart, plus-other s t k same keys (omega (arith, none, times-cons k q keys)))
]

-- hits of other families leave a family, and its instances' accounts
one-stays : (w : World) → AreLinked (post_at w) w.contexts w.families → (h : Hit) (slot : ℕ) → ((instance_at w h.key).event.0 ≡ slot → ⊥)
    → family_sums (hit_one w h) slot ≡ family_sums w slot
one-stays w linked h slot apart =
    let keys : List Key = keys_of (slice_index_or w.families slot no_family) in
    ap (λ s. plus s (slice_index_or w.folded slot no_sums))
    (plus-other (λ q. (account_at (hit_one w h) q).sums) (λ q. (account_at w q).sums) h.key (λ q other. ap (λ a. a.sums) (hit-other w h q other)) keys
    (family-other w linked h.key slot apart))

not-of : (w : World) (slot : ℕ) (h : Hit) → is_of w slot h ≡ false → (instance_at w h.key).event.0 ≡ slot → ⊥
not-of w slot h off same = (let its : is_of w slot h ≡ true = grind (arith, nat_tests, same) in cc (its, off))

pub all-stays : (hits : List Hit) (w : World) → AreLinked (post_at w) w.contexts w.families → (slot : ℕ) → count_by (is_of w slot) hits ≡ 0
    → family_sums (hit_all hits w) slot ≡ family_sums w slot
unfolding hit_all
all-stays [] w linked slot none = refl
all-stays (h ∷ hits) w linked slot none = elim (cases_Bool (is_of w slot h)) [
  | inl its ↦ absurd (omega (arith, none, count-cons (is_of w slot) h hits, once-true (is_of w slot h) its))
  | inr other ↦
      all-stays hits (hit_one w h) linked slot (omega (arith, none, count-cons (is_of w slot) h hits)) ∙ one-stays w linked h slot (not-of w slot h other)
]

pub all-apart : (hits : List Hit) (w : World) (k : Key) → count_by (is_of w (instance_at w k).event.0) hits ≡ 0 → account_at (hit_all hits w) k ≡ account_at w k
unfolding hit_all
all-apart [] w k none = refl
all-apart (h ∷ hits) w k none = elim (cases_Bool (is_of w (instance_at w k).event.0 h)) [
  | inl its ↦ absurd (omega (arith, none, count-cons (is_of w (instance_at w k).event.0) h hits, once-true (is_of w (instance_at w k).event.0 h) its))
  | inr other ↦
      all-apart hits (hit_one w h) k (omega (arith, none, count-cons (is_of w (instance_at w k).event.0) h hits))
      ∙ hit-other w h k (λ same. not-of w (instance_at w k).event.0 h other (ap (λ q. (instance_at w q).event.0) (sym (key-is k h.key same))))
]

-- hits change nothing but accounts
pub all-rest : (hits : List Hit) (w : World) → hit_all hits w ≡ record w { accounts = (hit_all hits w).accounts }
unfolding hit_all
all-rest [] w = refl
all-rest (h ∷ hits) w = all-rest hits (hit_one w h)

pub none-hit : (w : World) → hit_all [] w ≡ w
unfolding hit_all
none-hit w = refl

one-more : (hits : List Hit) (h : Hit) (w : World) → hit_all (hits ++ h ∷ []) w ≡ hit_one (hit_all hits w) h
unfolding hit_all
one-more hits h w = fold-append hit_one w hits (h ∷ [])

take-next : (hits : List Hit) (i : ℕ) (d : Hit) → i < length hits → take (i + 1) hits ≡ take i hits ++ slice_index_or hits i d ∷ []
take-next hits i d low = ap (λ n. take n hits) (let e : i + 1 ≡ suc i = omega arith in e) ∙ take-suc hits i d low

pub hit-next : (hits : List Hit) (i : ℕ) (d : Hit) (w now new : World) → i < length hits → now ≡ hit_all (take i hits) w
    → new ≡ hit_one now (slice_index_or hits i d) → new ≡ hit_all (take (i + 1) hits) w
hit-next hits i d w now new low so_far more =
    more
    ∙ (ap (λ v. hit_one v (slice_index_or hits i d)) so_far
    ∙ sym (ap (λ l. hit_all l w) (take-next hits i d low) ∙ one-more (take i hits) (slice_index_or hits i d) w))

-- the next one is of no family of those before it
module _ (w : World) (hits : List Hit) (may : MayHitAll w hits) (i : ℕ) (d : Hit) (low : i < length hits) where
  abbrev next : Hit
  next = slice_index_or hits i d

  first-of : count_by (is_of w (instance_at w next.key).event.0) (take i hits) ≡ 0
  first-of =
      let slot : ℕ = (instance_at w next.key).event.0 in
      let own : is_of w slot next ≡ true = grind (arith, nat_tests) in
      omega (
        arith,
        may.one_each slot,
        ap (count_by (is_of w slot)) (sym (take-append-drop i hits)),
        count-append (is_of w slot) (take i hits) (drop i hits),
        ap (count_by (is_of w slot)) (drop-cons hits i d low),
        count-cons (is_of w slot) next (drop (suc i) hits),
        once-true (is_of w slot next) own,
      )

  module _ (linked : AreLinked (post_at w) w.contexts w.families) (now : World) (so_far : now ≡ hit_all (take i hits) w) where
    rest : now ≡ record w { accounts = now.accounts }
    rest = so_far ∙ (all-rest (take i hits) w ∙ ap {A = World} {B = World} (λ v. record w { accounts = v.accounts }) (sym so_far))

    pub next-may : MayHit now next
    next-may =
        let m : MayHit w next = may.each i d low in
        let stays : family_sums now (instance_at w next.key).event.0 ≡ family_sums w (instance_at w next.key).event.0 =
        ap (λ v. family_sums v (instance_at w next.key).event.0) so_far ∙ all-stays (take i hits) w linked (instance_at w next.key).event.0 first-of in
        subst (λ v. MayHit v next) (sym rest) (record {
          live = m.live;
          alone = m.alone;
          counts = omega (arith, m.counts, ap (λ s. s.count) (ap (λ v. family_sums v (instance_at w next.key).event.0) (sym rest) ∙ stays));
        })

    pub next-over : overflow_of now next ≡ overflow_of w next
    next-over =
        let same : account_at now next.key ≡ account_at w next.key = ap (λ v. account_at v next.key) so_far ∙ all-apart (take i hits) w next.key first-of in
        ap (λ v. record { key = next.key; count = overflows next.occurrences (instance_at v next.key).attr.period (account_at now next.key).left }) rest
        ∙ ap (λ (a : Account). record { key = next.key; count = overflows next.occurrences (instance_at w next.key).attr.period a.left }) same

-- the account of a key after hits: as it was where it is not among them, and with what it is hit by where it is there
-- once
module _ (x : Happening) (w : World) where
  pub hit-out : (keys : List Key) (v : World) (k : Key) → times k keys ≡ 0 → account_at (hit_all (map (hit_at x w) keys) v) k ≡ account_at v k
  unfolding hit_all
  hit-out [] v k none = refl
  hit-out (q ∷ keys) v k none = elim (cases_eq k.0 q.0) [
    | inl same ↦ absurd (omega (arith, none, times-cons k q keys, once-true (is_key k q) (is_key-same k q (sym same))))
    | inr apart ↦ hit-out keys (hit_one v (hit_at x w q)) k (omega (arith, none, times-cons k q keys)) ∙ hit-other v (hit_at x w q) k apart
  ]

  pub hit-in : (keys : List Key) (v : World) (k : Key) → times k keys ≡ 1
      → account_at (hit_all (map (hit_at x w) keys) v) k ≡ after_hits (occurs x (instance_at w k)) (instance_at v k).attr.period (account_at v k)
  unfolding hit_all
  hit-in [] v k one = absurd (omega (arith, one))
  hit-in (q ∷ keys) v k one = elim (cases_eq k.0 q.0) [
    | inl same ↦
        let is : q ≡ k = key-is q k (sym same) in
        let rest : times k keys ≡ 0 = omega (arith, one, times-cons k q keys, once-true (is_key k q) (is_key-same k q (sym same))) in
        hit-out keys (hit_one v (hit_at x w q)) k rest ∙ (ap (λ j. account_at (hit_one v (hit_at x w j)) k) is ∙ hit-own v (hit_at x w k))
    | inr apart ↦
        let rest : times k keys ≡ 1 = omega (arith, one, times-cons k q keys, once-false (is_key k q) (is_key-other k q (λ e. apart (sym e)))) in
        hit-in keys (hit_one v (hit_at x w q)) k rest
        ∙ ap (after_hits (occurs x (instance_at w k)) (instance_at v k).attr.period) (hit-other v (hit_at x w q) k apart)
  ]

  -- the same keys have accounts
  pub hit-keys : (keys : List Key) (v : World) → ((q : Key) → 1 ≤ times q keys → contains_key v.accounts q.0 ≡ true)
      → (k : Key) → contains_key (hit_all (map (hit_at x w) keys) v).accounts k.0 ≡ contains_key v.accounts k.0
  unfolding hit_all
  hit-keys [] v there k = refl
  hit-keys (q ∷ keys) v there k =
      let here : contains_key v.accounts q.0 ≡ true = there q (omega (arith, times-cons q q keys, once-true (is_key q q) (is_key-same q q refl))) in
      let one : (j : Key) → contains_key (hit_one v (hit_at x w q)).accounts j.0 ≡ contains_key v.accounts j.0 = λ j. keys-written v.accounts q.0 _ here j.0 in
      hit-keys keys (hit_one v (hit_at x w q)) (λ j some. one j ∙ there j (omega (arith, some, times-cons j q keys))) k ∙ one k

pub but-all : (hits : List Hit) (w new : World) → new ≡ hit_all hits w → new ≡ record w { accounts = new.accounts }
but-all hits w new is = is ∙ (all-rest hits w ∙ ap {A = World} {B = World} (λ v. record w { accounts = v.accounts }) (sym is))
