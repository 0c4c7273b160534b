-- The present brief of a processor has at most 256 groups and 256 events, each once.
use Rattle.std.specs.Prelude.{◌≡◌, ℕ, zero, suc, ◌+◌, ◌<◌, ◌≤◌, ◌==◌, nat_lt, Bool, true, ◌&&◌, cond, All, List, [], ◌∷◌, ◌++◌, length, map, filter, flat_map, count_by, take, slice_index_or}
use Rattle.std.proofs.{Common.{arith, refl, sym, ap, subst, ◌∙◌, inl, inr}, lemmas.Bool.{cases_Bool, Decides.{nat_tests}}}
use Rattle.std.proofs.lemmas.List.{get_or-map, length-append, length-map, map-append, Elements.{All-append, All-cons, filter-append}}
use Rattle.perf_base.specs.declared.numbers.{CpuNo.{CpuNo}, EventNo.{EventNo}, Key.{Key}}
use Rattle.stage_spec.specs.{declared.instance.Instance.{Instance}, Effective.{is_ready, is_hardware}, Hardware.{counters_of, mask_of}}
use Rattle.stage_spec.specs.{Stage.{members_of, is_of_family}, Verdict.{is_eligible, with_masks}}
use Rattle.stage_laws.{specs.Briefs.{GroupBrief}, proofs.{Counts.{count-cons, count-append}, Totals.{as_number}}}
use Rattle.world_spec.specs.{Kept.{leads, post_at, IsKept}, Listings.{pass_leaders}, StageOf.{group_at}}
use Rattle.world_spec.{specs.Value.{World, entry_at, instance_at, is_live, is_key}, proofs.{Copies.{times-at}, GoneStage.{AreLeading}}}
use Rattle.world_spec.proofs.{Keys.{times-cons, once-true}, Listings.{reached_leaders, reached-leading}, Moving.{leads-parts}}
use Rattle.cpu_sched.specs.Briefs.{groups_in, events_in, brief_at, briefs_at, present_brief, IsGroupBrief, IsBrief}
use Rattle.cpu_sched.proofs.Briefs.{by-members, members-live}
use Rattle.cpu_sched.proofs.Served.{slots, held, held-parts, held-one, slots-of, held-reached}
use Rattle.world_spec.proofs.Tables.{same_number}

-- Slots below 256 of which each stands once at most are 256 at most.
one_if-less : (x n : ℕ) → as_number (nat_lt x (suc n)) ≡ as_number (nat_lt x n) + as_number (x == n)
one_if-less x n = grind (arith, nat_tests)

number-less : {X : Type 0} (slot : X → ℕ) (n : ℕ) (xs : List X)
    → count_by (λ x. nat_lt (slot x) (suc n)) xs ≡ count_by (λ x. nat_lt (slot x) n) xs + count_by (λ x. slot x == n) xs
number-less slot n [] = refl
number-less slot n (x ∷ xs) = omega (arith, count-cons, one_if-less, number-less slot n xs)

none-less : {X : Type 0} (slot : X → ℕ) (xs : List X) → count_by (λ x. nat_lt (slot x) 0) xs ≡ 0
none-less slot [] = refl
none-less slot (x ∷ xs) = grind (arith, nat_tests, count-cons, as_number, none-less slot xs)

few-less : {X : Type 0} (slot : X → ℕ) (xs : List X) → ((n : ℕ) → count_by (λ x. slot x == n) xs ≤ 1) → (n : ℕ) → count_by (λ x. nat_lt (slot x) n) xs ≤ n
few-less slot xs once zero = omega (arith, none-less slot xs)
few-less slot xs once (suc n) = omega (arith, number-less slot n xs, few-less slot xs once n, once n)

all-less : {X : Type 0} (slot : X → ℕ) (n : ℕ) (xs : List X) → All (λ x. slot x < n) xs → length xs ≤ count_by (λ x. nat_lt (slot x) n) xs
all-less slot n [] all = omega arith
all-less slot n (x ∷ xs) all =
    let below : slot x < n = all 0 x (omega arith) in
    let on : nat_lt (slot x) n ≡ true = grind (arith, nat_tests, below) in
    omega (
      arith,
      count-cons (λ x. nat_lt (slot x) n) x xs,
      ap as_number on,
      all-less slot n xs (λ i d low. all (suc i) d (omega (arith, low))),
    )

pub few-slots : {X : Type 0} (slot : X → ℕ) (xs : List X) → All (λ x. slot x < 256) xs → ((n : ℕ) → count_by (λ x. slot x == n) xs ≤ 1) → length xs ≤ 256
few-slots slot xs all once = omega (arith, all-less slot 256 xs all, few-less slot xs once 256)

-- the leaders that a processor reaches
abbrev slot_at : World → Key → ℕ
slot_at w k = (instance_at w k).event.0

leader-counted : (w : World) (e : EventNo) (k : Key) → as_number (slot_at w k == e.0) ≤ count_by (is_of_family e) (members_of (group_at w k))
leader-counted w e k = grind (arith, nat_tests, count-cons, count-cons (is_of_family e) (instance_at w k) (group_at w k).siblings)

leaders-counted : (w : World) (e : EventNo) (keys : List Key) → count_by (λ k. slot_at w k == e.0) keys ≤ held w e keys
leaders-counted w e [] = omega arith
leaders-counted w e (k ∷ keys) =
    omega (
      arith,
      count-cons (λ k. slot_at w k == e.0) k keys,
      held-parts w e (k ∷ []) keys,
      held-one w e k,
      leader-counted w e k,
      leaders-counted w e keys,
    )

leaders-low : (w : World) → IsKept w.hardware w → (keys : List Key) → AreLeading w keys → All (λ k. slot_at w k < 256) keys
leaders-low w kept keys all i d low =
    let k : Key = slice_index_or keys i d in
    kept.numbered.slots k (leads-parts (is_live w k) (is_key k (entry_at w k).leader) (all k (times-at keys i d low))).0

pub reached-few : (w : World) (cpu : CpuNo) → IsKept w.hardware w → length (reached_leaders w cpu) ≤ 256
reached-few w cpu kept =
    few-slots (slot_at w) (reached_leaders w cpu) (leaders-low w kept (reached_leaders w cpu) (reached-leading w.hardware w kept cpu))
    (λ n. omega (arith, leaders-counted w (record { 0 = n }) (reached_leaders w cpu), held-reached w.hardware w cpu (record { 0 = n }) kept))

pass-part : (ps : List (List Key)) (pass : ℕ) → length (slice_index_or ps pass []) ≤ length (flat_map (λ keys. keys) ps)
pass-part [] pass = omega arith
pass-part (p ∷ ps) zero = omega (arith, length-append p (flat_map (λ keys. keys) ps))
pass-part (p ∷ ps) (suc pass) = omega (arith, length-append p (flat_map (λ keys. keys) ps), pass-part ps pass)

pub pass-few : (w : World) (cpu : CpuNo) (pass : ℕ) → IsKept w.hardware w → length (slice_index_or (pass_leaders w cpu) pass []) ≤ 256
pass-few w cpu pass kept = omega (arith, pass-part (pass_leaders w cpu) pass, reached-few w cpu kept)

-- the events of briefs are those of members
briefs-held : (w : World) (cpu : CpuNo) (e : EventNo) (keys : List Key) → slots e (events_in (briefs_at w cpu keys)) ≤ held w e keys
briefs-held w cpu e [] = omega arith
briefs-held w cpu e (k ∷ keys) =
    let rest : List Key = filter (λ q. is_eligible w.hardware cpu (group_at w q)) keys in
    elim (cases_Bool (is_eligible w.hardware cpu (group_at w k))) [
      | inl on ↦
          omega (
            arith,
            ap (λ b. slots e (events_in (map (brief_at w) (cond b (k ∷ rest) rest)))) on,
            count-append (λ event. event.0.0 == e.0) (brief_at w k).counted (events_in (map (brief_at w) rest)),
            slots-of w.hardware e (λ i. is_ready i.own && is_hardware i) (members_of (group_at w k)),
            held-parts w e (k ∷ []) keys,
            held-one w e k,
            briefs-held w cpu e keys,
          )
      | inr off ↦
          omega (
            arith,
            ap (λ b. slots e (events_in (map (brief_at w) (cond b (k ∷ rest) rest)))) off,
            held-parts w e (k ∷ []) keys,
            briefs-held w cpu e keys,
          )
    ]

-- and their slots are below 256
masks-low : (w : World) (p : Instance → Bool) (is : List Instance) → All (λ i. i.event.0 < 256) is → All (λ event. event.0.0 < 256) (with_masks w.hardware (filter p is))
masks-low w p [] all = λ k d low. absurd (omega (arith, low))
masks-low w p (i ∷ is) all =
    let rest : All (λ j. j.event.0 < 256) is = λ k d low. all (suc k) d (omega (arith, low)) in
    elim (cases_Bool (p i)) [
      | inl e ↦
          subst (λ b. All (λ event. event.0.0 < 256) (with_masks w.hardware (cond b (i ∷ filter p is) (filter p is)))) (sym e)
          (All-cons (λ event. event.0.0 < 256) (i.event, mask_of w.hardware i.attr.kind) (with_masks w.hardware (filter p is)) (all 0 i (omega arith)) (masks-low w p is rest))
      | inr e ↦ grind (arith, nat_tests, e, masks-low w p is rest)
    ]

members-low : (w : World) → IsKept w.hardware w → (k : Key) → leads (post_at w) k ≡ true → All (λ i. i.event.0 < 256) (members_of (group_at w k))
members-low w kept k lead =
    let keys : List Key = (entry_at w k).members in
    subst (All (λ i. i.event.0 < 256)) (by-members w.hardware w k keys kept lead refl) (λ i d low.
    let within : i < length keys = omega (arith, low, length-map keys (instance_at w)) in
    subst (λ (x : Instance). x.event.0 < 256) (sym (get_or-map (instance_at w) keys i k d within))
    (kept.numbered.slots (slice_index_or keys i k) (members-live w.hardware w k keys kept refl i k within)))

briefs-low : (w : World) (cpu : CpuNo) → IsKept w.hardware w → (keys : List Key) → AreLeading w keys → All (λ event. event.0.0 < 256) (events_in (briefs_at w cpu keys))
briefs-low w cpu kept [] all = λ k d low. absurd (omega (arith, low))
briefs-low w cpu kept (k ∷ keys) all =
    let rest : List Key = filter (λ q. is_eligible w.hardware cpu (group_at w q)) keys in
    let own : is_key k k ≡ true = same_number k.0 k.0 refl in
    let lead : leads (post_at w) k ≡ true = all k (omega (arith, times-cons k k keys, once-true (is_key k k) own)) in
    let others : All (λ event. event.0.0 < 256) (events_in (map (brief_at w) rest)) = briefs-low w cpu kept keys (λ q some. all q (omega (arith, some, times-cons q k keys))) in
    elim (cases_Bool (is_eligible w.hardware cpu (group_at w k))) [
      | inl on ↦
          subst (λ b. All (λ event. event.0.0 < 256) (events_in (map (brief_at w) (cond b (k ∷ rest) rest)))) (sym on)
          (All-append (λ event. event.0.0 < 256) (brief_at w k).counted (events_in (map (brief_at w) rest))
          (masks-low w (λ i. is_ready i.own && is_hardware i) (members_of (group_at w k)) (members-low w kept k lead)) others)
      | inr off ↦ grind (arith, nat_tests, off)
    ]

-- the groups of all passes
pub briefs-append : (w : World) (cpu : CpuNo) (xs ys : List Key) → briefs_at w cpu (xs ++ ys) ≡ briefs_at w cpu xs ++ briefs_at w cpu ys
briefs-append w cpu xs ys = grind (arith, nat_tests, filter-append, map-append)

flat-briefs : (w : World) (cpu : CpuNo) (ps : List (List Key)) → flat_map (λ p. p) (map (briefs_at w cpu) ps) ≡ briefs_at w cpu (flat_map (λ keys. keys) ps)
flat-briefs w cpu [] = refl
flat-briefs w cpu (p ∷ ps) = ap (λ bs. briefs_at w cpu p ++ bs) (flat-briefs w cpu ps) ∙ sym (briefs-append w cpu p (flat_map (λ keys. keys) ps))

filter-fewer : {X : Type 0} (p : X → Bool) (xs : List X) → length (filter p xs) ≤ length xs
filter-fewer p [] = omega arith
filter-fewer p (x ∷ xs) = grind (arith, nat_tests, filter-fewer p xs)

pub briefs-fewer : (w : World) (cpu : CpuNo) (keys : List Key) → length (briefs_at w cpu keys) ≤ length keys
briefs-fewer w cpu keys = grind (arith, nat_tests, length-map, filter-fewer)

abbrev sound_pass : World → CpuNo → ℕ → Type 0
sound_pass w cpu pass = All (IsGroupBrief (counters_of w.hardware cpu)) (briefs_at w cpu (slice_index_or (pass_leaders w cpu) pass []))

pub present-sound : (w : World) (cpu : CpuNo) → IsKept w.hardware w → 0 < counters_of w.hardware cpu → counters_of w.hardware cpu ≤ 16
    → sound_pass w cpu 0 → sound_pass w cpu 1 → sound_pass w cpu 2 → sound_pass w cpu 3 → IsBrief (present_brief w cpu)
present-sound w cpu kept some most a b c d =
    let keys : List Key = reached_leaders w cpu in
    let P : GroupBrief Key → Type 0 = IsGroupBrief (counters_of w.hardware cpu) in
    let at : ℕ → List (GroupBrief Key) = λ pass. briefs_at w cpu (slice_index_or (pass_leaders w cpu) pass []) in
    let all : groups_in (present_brief w cpu) ≡ briefs_at w cpu keys = flat-briefs w cpu (pass_leaders w cpu) in
    let once : (e : EventNo) → slots e (events_in (groups_in (present_brief w cpu))) ≤ 1 =
    λ e. omega (arith, ap (λ gs. slots e (events_in gs)) all, briefs-held w cpu e keys, held-reached w.hardware w cpu e kept) in
    record {
      four = refl;
      some = some;
      most = most;
      groups = All-append P (at 0) (at 1 ++ (at 2 ++ (at 3 ++ []))) a (All-append P (at 1) (at 2 ++ (at 3 ++ [])) b (All-append P (at 2) (at 3 ++ []) c
          (All-append P (at 3) [] d (λ i g low. absurd (omega (arith, low))))));
      few = omega (arith, ap length all, briefs-fewer w cpu keys, reached-few w cpu kept);
      events = few-slots (λ event. event.0.0) (events_in (groups_in (present_brief w cpu)))
          (subst (λ gs. All (λ event. event.0.0 < 256) (events_in gs)) (sym all) (briefs-low w cpu kept keys (reached-leading w.hardware w kept cpu)))
          (λ n. once (record { 0 = n }));
      once = once;
    }

-- the groups of a list of leaders, with one leader in the midst
split-at : (keys : List Key) (i : ℕ) (d : Key) → i < length keys → (rest : List Key) × (keys ≡ take i keys ++ (slice_index_or keys i d ∷ rest))
split-at [] i d low = absurd (omega (arith, low))
split-at (k ∷ keys) zero d low = (keys, refl)
split-at (k ∷ keys) (suc i) d low =
    let r : (rest : List Key) × (keys ≡ take i keys ++ (slice_index_or keys i d ∷ rest)) = split-at keys i d (omega (arith, low)) in
    (r.0, ap (λ xs. k ∷ xs) r.1)

pub briefs-split : (w : World) (cpu : CpuNo) (keys : List Key) (i : ℕ) (d : Key) → i < length keys
    → (rest : List (GroupBrief Key)) × (briefs_at w cpu keys ≡ briefs_at w cpu (take i keys) ++ (briefs_at w cpu (slice_index_or keys i d ∷ []) ++ rest))
briefs-split w cpu keys i d low =
    let r : (rest : List Key) × (keys ≡ take i keys ++ (slice_index_or keys i d ∷ rest)) = split-at keys i d low in
    let k : Key = slice_index_or keys i d in (
      briefs_at w cpu r.0,
      ap (briefs_at w cpu) r.1
          ∙ (briefs-append w cpu (take i keys) (k ∷ r.0) ∙ ap (λ bs. briefs_at w cpu (take i keys) ++ bs) (briefs-append w cpu (k ∷ []) r.0)),
    )
