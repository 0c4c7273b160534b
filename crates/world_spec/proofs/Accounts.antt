-- What one account adds to the sums of its family, and that occurrences, stretches of work and resets keep a world.
use Rattle.std.specs.{Prelude.{◌≡◌, ℕ, ◌+◌, ◌^◌, ◌<◌, ◌≤◌, ◌==◌, Bool, true, false, not, ◌&&◌, cond, List, [], ◌∷◌, slice_index_or}, FinMap.{get}}
use Rattle.std.{specs.Option.{unwrap_or}, proofs.{Common.{arith, refl, sym, ap, subst, ◌∙◌, inl, inr}, lemmas.Bool.{cases_eq, cases_Bool}}}
use Rattle.std.proofs.lemmas.Bool.Decides.{nat_tests}
use Rattle.perf_base.specs.declared.{numbers.Key.{Key}, reply.Sums.{Sums}}
use Rattle.stage_spec.specs.{declared.instance.Instance.{Instance}, Families.{plus}, Hardware.{Hardware}, Occurrences.{left_after}, Shares.{no_sums}}
use Rattle.stage_laws.proofs.{Counts.{count-cons, count-append}, Totals.{total}}
use Rattle.world_spec.specs.Value.{World, Account, no_family, no_account, is_live, instance_at, account_at, is_key, times}
use Rattle.world_spec.specs.Kept.{post_at, once_if, is_original_in, is_copy_in, keys_of, plus_keys, family_sums, AreLinked, IsKept}
use Rattle.world_spec.specs.{Changes.{with_instance, with_account}, Laws.{HitLaw, HitKeptLaw, ResetLaw, ResetKeptLaw, PeriodLaw, PeriodKeptLaw}}
use Rattle.world_spec.proofs.{Tables.{get-here, get-there, keys-written}, Renaming.{instance-stage}, Keeping.{instance-kept}}

-- a number of some keys that one key alone gives
abbrev only : Key → ℕ → Key → ℕ
only k n q = cond (is_key k q) n 0

none-only : (k : Key) (n : ℕ) (keys : List Key) → times k keys ≡ 0 → total (only k n) keys ≡ 0
unfolding total
none-only k n [] h = refl
none-only k n (q ∷ keys) h = elim (cases_Bool (is_key k q)) [
  | inl e ↦ absurd (omega (arith, h, count-cons (is_key k) q keys, ap {B = ℕ} (λ b. cond b 1 0) e))
  | inr e ↦ omega (arith, none-only k n keys (omega (arith, h, count-cons (is_key k) q keys)), ap {B = ℕ} (λ b. cond b n 0) e)
]

once-only : (k : Key) (n : ℕ) (keys : List Key) → times k keys ≤ 1 → total (only k n) keys ≤ n
unfolding total
once-only k n [] h = omega arith
once-only k n (q ∷ keys) h = elim (cases_Bool (is_key k q)) [
  | inl e ↦ omega (arith, none-only k n keys (omega (arith, h, count-cons (is_key k) q keys, ap {B = ℕ} (λ b. cond b 1 0) e)), ap {B = ℕ} (λ b. cond b n 0) e)
  | inr e ↦ omega (arith, once-only k n keys (omega (arith, h, count-cons (is_key k) q keys)), ap {B = ℕ} (λ b. cond b n 0) e)
]

-- one of the three sums
pub record IsSum (p : Sums → ℕ) : Type 0 where
  pub none : p no_sums ≡ 0
  pub both : (a b : Sums) → p (plus a b) ≡ p a + p b

sum-grows : (p : Sums → ℕ) → IsSum p → (s t : Key → Sums) (k : Key) (n : ℕ) → ((q : Key) → p (t q) ≤ p (s q) + only k n q)
    → (keys : List Key) → p (plus_keys t keys) ≤ p (plus_keys s keys) + total (only k n) keys
unfolding total
sum-grows p is s t k n h [] = omega arith
sum-grows p is s t k n h (q ∷ keys) = omega (arith, is.both (s q) (plus_keys s keys), is.both (t q) (plus_keys t keys), h q, sum-grows p is s t k n h keys)

-- a key stands once in its own family, and in no other
one_of_both : (a b c : Bool) → once_if (a && b && not c) + once_if (a && b && c) ≤ 1
one_of_both true true true = omega arith
one_of_both true true false = omega arith
one_of_both true false c = omega arith
one_of_both false b c = omega arith

none_of_both : (a b c : Bool) → b ≡ false → once_if (a && b && not c) + once_if (a && b && c) ≡ 0
none_of_both true true c h = absurd (cc)
none_of_both true false c h = refl
none_of_both false b c h = refl

pub family-times : (w : World) → AreLinked (post_at w) w.contexts w.families → (k : Key) (slot : ℕ)
    → times k (keys_of (slice_index_or w.families slot no_family)) ≡ once_if (is_original_in (post_at w) slot k) + once_if (is_copy_in (post_at w) slot k)
family-times w h k slot = grind (arith, nat_tests, count-append)

pub family-once : (w : World) → AreLinked (post_at w) w.contexts w.families → (k : Key) (slot : ℕ) → times k (keys_of (slice_index_or w.families slot no_family)) ≤ 1
family-once w h k slot = omega (arith, family-times w h k slot, one_of_both (is_live w k) ((instance_at w k).event.0 == slot) (instance_at w k).copy)

pub family-other : (w : World) → AreLinked (post_at w) w.contexts w.families → (k : Key) (slot : ℕ) → ((instance_at w k).event.0 ≡ slot → ⊥)
    → times k (keys_of (slice_index_or w.families slot no_family)) ≡ 0
family-other w h k slot apart =
    let no : ((instance_at w k).event.0 == slot) ≡ false = grind (arith, nat_tests, apart) in
    omega (arith, family-times w h k slot, none_of_both (is_live w k) ((instance_at w k).event.0 == slot) (instance_at w k).copy no)

-- so a family grows by what its account grows
family-grows : (p : Sums → ℕ) → IsSum p → (w : World) → AreLinked (post_at w) w.contexts w.families → (t : Key → Sums) (k : Key) (n bound : ℕ)
    → ((q : Key) → p (t q) ≤ p (account_at w q).sums + only k n q) → ((slot : ℕ) → p (family_sums w slot) < bound) → p (family_sums w (instance_at w k).event.0) + n < bound
    → (slot : ℕ) → p (plus (plus_keys t (keys_of (slice_index_or w.families slot no_family))) (slice_index_or w.folded slot no_sums)) < bound
family-grows p is w linked t k n bound grows low room slot =
    let s : Key → Sums = λ q. (account_at w q).sums in
    let keys : List Key = keys_of (slice_index_or w.families slot no_family) in
    let away : Sums = slice_index_or w.folded slot no_sums in
    let now : p (plus_keys t keys) ≤ p (plus_keys s keys) + total (only k n) keys = sum-grows p is s t k n grows keys in
    let split : p (plus (plus_keys t keys) away) ≡ p (plus_keys t keys) + p away = is.both (plus_keys t keys) away in
    let before : p (family_sums w slot) ≡ p (plus_keys s keys) + p away = is.both (plus_keys s keys) away in
    elim (cases_eq (instance_at w k).event.0 slot) [
      | inl e ↦
          let there : p (family_sums w (instance_at w k).event.0) ≡ p (family_sums w slot) = ap (λ n. p (family_sums w n)) e in
          omega (arith, now, split, before, there, room, once-only k n keys (family-once w linked k slot))
      | inr apart ↦ omega (arith, now, split, before, low slot, none-only k n keys (family-other w linked k slot apart))
    ]

-- an account after a write
by_account : (P : Account → Type 0) (f : Account → Account) (w : World) (k q : Key) → (q.0 ≡ k.0 → P (f (account_at w k))) → ((q.0 ≡ k.0 → ⊥) → P (account_at w q))
    → P (account_at (with_account f k w) q)
by_account P f w k q here there = elim (cases_eq q.0 k.0) [
  | inl same ↦ subst P (sym (ap (λ o. unwrap_or o no_account) (get-here w.accounts k.0 (f (account_at w k)) q.0 same))) (here same)
  | inr apart ↦ subst P (sym (ap (λ o. unwrap_or o no_account) (get-there w.accounts k.0 (f (account_at w k)) q.0 apart))) (there apart)
]

account-grows : (p : Sums → ℕ) (f : Account → Account) (w : World) (k : Key) (n : ℕ) → p (f (account_at w k)).sums ≤ p (account_at w k).sums + n
    → (q : Key) → p (account_at (with_account f k w) q).sums ≤ p (account_at w q).sums + only k n q
account-grows p f w k n h q = by_account (λ a. p a.sums ≤ p (account_at w q).sums + only k n q) f w k q
    (λ same.
    let here : p (account_at w q).sums ≡ p (account_at w k).sums = ap (λ m. p (unwrap_or (get w.accounts m) no_account).sums) same in
    let test : is_key k q ≡ true = grind (arith, nat_tests, same) in
    omega (arith, h, here, ap {B = ℕ} (λ b. cond b n 0) test))
    (λ apart. omega arith)

pub counts_are_sums : IsSum (λ s. s.count)
counts_are_sums = record { none = refl; both = λ a b. refl }

pub times_are_sums : IsSum (λ s. s.enabled)
times_are_sums = record { none = refl; both = λ a b. refl }

-- an account that grows by so much in room enough
pub account-kept : (f : Account → Account) (hw : Hardware) (w : World) (k : Key) (n m : ℕ) → is_live w k ≡ true
    → (f (account_at w k)).sums.count ≤ (account_at w k).sums.count + n → (f (account_at w k)).sums.enabled ≤ (account_at w k).sums.enabled + m
    → (f (account_at w k)).sums.running ≤ (f (account_at w k)).sums.enabled
    → (family_sums w (instance_at w k).event.0).count + n < 2 ^ 63 → (family_sums w (instance_at w k).event.0).enabled + m < 2 ^ 63
    → IsKept hw w → IsKept hw (with_account f k w)
account-kept f hw w k n m there count enabled ran room_count room_enabled h = record {
  tables = record {
    accounts = λ q. keys-written w.accounts k.0 (f (account_at w k)) (h.tables.accounts k ∙ there) q.0 ∙ h.tables.accounts q;
    standings = h.tables.standings;
    families = h.tables.families;
    folded = h.tables.folded;
    lost = h.tables.lost;
    clocks = h.tables.clocks;
    totals = h.tables.totals;
    seats = h.tables.seats;
  };
  shape = record { running = h.shape.running; tasks = h.shape.tasks; contexts = h.shape.contexts };
  running = record { live = h.running.live; once = h.running.once };
  linked = h.linked;
  copies = h.copies;
  grouped = h.grouped;
  numbered = h.numbered;
  apart = h.apart;
  fitting = h.fitting;
  lawful = record { errors = h.lawful.errors; samples = h.lawful.samples; kinds = h.lawful.kinds; used = h.lawful.used; placed = h.lawful.placed };
  seated = h.seated;
  small = record {
    counts = family-grows (λ s. s.count) counts_are_sums w h.linked (λ q. (account_at (with_account f k w) q).sums) k n (2 ^ 63)
        (account-grows (λ s. s.count) f w k n count) h.small.counts room_count;
    times = family-grows (λ s. s.enabled) times_are_sums w h.linked (λ q. (account_at (with_account f k w) q).sums) k m (2 ^ 63)
        (account-grows (λ s. s.enabled) f w k m enabled) h.small.times room_enabled;
    ran = λ q. by_account (λ a. a.sums.running ≤ a.sums.enabled) f w k q (λ same. ran) (λ apart. h.small.ran q);
    folded_ran = h.small.folded_ran;
    clocks = h.small.clocks;
    totals = h.small.totals;
    lost = h.small.lost;
    ids = h.small.ids;
  };
}

pub hit-stage : HitLaw
hit-stage w k n = refl

pub hit-kept : HitKeptLaw
hit-kept hw w k n there room h =
    account-kept (λ a. record a { sums = record a.sums { count = a.sums.count + n }; left = left_after n (instance_at w k).attr.period a.left }) hw w k n 0 there
    (omega arith) (omega arith) (h.small.ran k) room (omega (arith, h.small.times (instance_at w k).event.0)) h

pub reset-stage : ResetLaw
reset-stage w k = refl

pub reset-kept : ResetKeptLaw
reset-kept hw w k there h =
    account-kept (λ a. record a { sums = record a.sums { count = 0 } }) hw w k 0 0 there
    (omega arith) (omega arith) (h.small.ran k) (omega (arith, h.small.counts (instance_at w k).event.0)) (omega (arith, h.small.times (instance_at w k).event.0)) h

pub period-stage : PeriodLaw
period-stage hw w k period h there = instance-stage (λ i. record i { attr = record i.attr { period = period } }) (λ live e. refl) w k h.numbered there

pub period-kept : PeriodKeptLaw
period-kept hw w k period there h =
    let f : Instance → Instance = λ i. record i { attr = record i.attr { period = period } } in
    let t : World = with_instance f k w in
    let kept : IsKept hw t = instance-kept f (λ live e. refl) hw w k there (h.lawful.errors k there) refl refl h in
    account-kept (λ a. record a { left = period }) hw t k 0 0 (sym (kept.tables.accounts k) ∙ (h.tables.accounts k ∙ there))
    (omega arith) (omega arith) (h.small.ran k) (omega (arith, kept.small.counts (instance_at t k).event.0)) (omega (arith, kept.small.times (instance_at t k).event.0)) kept
