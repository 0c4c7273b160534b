-- The leaders of a task's groups while copies among them go.
use Rattle.std.specs.Prelude.{◌≡◌, ℕ, zero, suc, ◌+◌, ◌-◌, ◌<◌, ◌≤◌, ◌==◌, Bool, true, false, not, ◌&&◌, List, [], ◌∷◌, ◌++◌, length, map, flat_map, slice_get, Option, Some, None, if◌then◌else◌}
use Rattle.std.proofs.{Common.{arith, refl, sym, ap, subst, ◌∙◌, inl, inr, get_or-set_same}, lemmas.Bool.{cases_eq, cases_Bool, false≢true}}
use Rattle.std.proofs.lemmas.{Bool.Decides.{nat_tests}, List.{append_assoc, length-append, length-map, map-append, Elements.{filter-append}}}
use Rattle.std.proofs.{lemmas.Option.{slice_get_within}, Math.ListN.{get_or-map}}
use Rattle.perf_base.specs.declared.{numbers.{Key.{Key}, TaskNo.{TaskNo}}, standing.Context.{Context}}
use Rattle.perf_base.specs.declared.standing.Context.TheVariants as context
use Rattle.stage_spec.specs.{Hardware.{Hardware}, Stage.{Stage, place_of, groups_in, all_groups, lists_of, no_groups}}
use Rattle.stage_spec.proofs.{Each.{Each, none-Each, get_or-Each}, Parts.{Each-from_All, joined-Each}}
use Rattle.stage_laws.{specs.Sound.{IsGroup, IsGrouped, AreAlike}, proofs.{Tasks.{some-same}}}
use Rattle.world_spec.specs.Value.{World, Leaders, no_leaders, is_live, entry_at, instance_at, leaders_of, is_key, times}
use Rattle.world_spec.specs.{StageOf.{after_first, group_at, lists_at, stage_of}, Kept.{post_at, leads, once_if, IsKept}, Adding.{folded_away}}
use Rattle.world_spec.{specs.{Changes.{all_but}, Listings.{keys_in}, Staying.{HasGone}}, proofs.Counting.{AreSameKeys, same-total}}
use Rattle.world_spec.proofs.{Disbanding.{disband}, Families.{leaders_both, leaders-at, length-total}, Folding.{folded-is, fold-kept}}
use Rattle.world_spec.proofs.GoneLeader.{led_world, entries_freed, standings_freed, dropped-leader}
use Rattle.world_spec.proofs.Keys.{key-is, is_key-same, is_key-other, all_but-cons, all_but-none, times-cons, once-true, once-false}
use Rattle.world_spec.proofs.Moving.{leads-parts}
use Rattle.exit_fold.{specs.Leaving.{is_of_task, leaders_in, fold_copy}, proofs.{Contexts.{by-place}, Copies.{of-task-is}}}
use Rattle.exit_fold.proofs.Walked.{AreFolding, IsNext, next-live, next-gone, folding-none, folding-more}
use Rattle.world_spec.proofs.Along.{once-both}
use Rattle.world_spec.proofs.Tables.{same_number}
use Rattle.world_spec.proofs.Copying.{at-most-once}
use Rattle.world_spec.proofs.Listings.{keys-at}

-- small facts
both-once : (a b : Bool) → a ≡ true → b ≡ true → once_if (a && b) ≡ 1
both-once a b first second = λ i. once_if (first i && second i)

past-end : (xs : List Key) (n : ℕ) → slice_get xs n ≡ None → length xs ≤ n
past-end [] n h = omega arith
past-end (x ∷ xs) zero h = absurd (cc)
past-end (x ∷ xs) (suc n) h = omega (arith, past-end xs n h)

-- a key at a place of a list
pub key-at : (m : Key) (xs : List Key) (i : ℕ) → slice_get xs i ≡ Some m → 1 ≤ times m xs
key-at m [] i h = absurd (cc)
key-at m (x ∷ xs) zero h =
    let same : x.0 ≡ m.0 = ap (λ k. k.0) (some-same x m h) in
    omega (arith, times-cons m x xs, once-true (is_key m x) (is_key-same m x same))
key-at m (x ∷ xs) (suc i) h = omega (arith, times-cons m x xs, key-at m xs i h)

pub place-of : (m : Key) (xs : List Key) → 1 ≤ times m xs → (i : ℕ) × (slice_get xs i ≡ Some m)
place-of m [] some = absurd (omega (arith, some))
place-of m (x ∷ xs) some = elim (cases_eq x.0 m.0) [
  | inl is ↦ (0, ap {B = Option Key} Some (key-is x m is))
  | inr off ↦
      let rest : (i : ℕ) × (slice_get xs i ≡ Some m) = place-of m xs (omega (arith, some, times-cons m x xs, once-false (is_key m x) (is_key-other m x off))) in
      (suc rest.0, rest.1)
]

-- before a key that goes all stay
not-first : (q x : Key) (xs : List Key) (p : ℕ) → slice_get xs p ≡ Some q → times q (x ∷ xs) ≤ 1 → is_key q x ≡ false
not-first q x xs p h once = elim (cases_Bool (is_key q x)) [
  | inl is ↦ absurd (omega (arith, once, times-cons q x xs, once-true (is_key q x) is, key-at q xs p h))
  | inr off ↦ off
]

pub front-stays : (q : Key) (xs ys : List Key) (p i : ℕ) → slice_get xs p ≡ Some q → times q xs ≤ 1 → i < p → slice_get (all_but q xs ++ ys) i ≡ slice_get xs i
front-stays q [] ys p i h once low = absurd (cc)
front-stays q (x ∷ xs) ys zero i h once low = absurd (omega (arith, low))
front-stays q (x ∷ xs) ys (suc p) zero h once low = ap (λ ks. slice_get (ks ++ ys) 0) (all_but-cons q x xs false (not-first q x xs p h once))
front-stays q (x ∷ xs) ys (suc p) (suc i) h once low =
    grind (arith, all_but-cons, not-first, times-cons, front-stays q xs ys p i h (omega (arith, once, times-cons q x xs)) (omega (arith, low)))

-- the lists after a leader went
both-after : (pinned : Bool) (q : Key) (siblings : List Key) (l : Leaders) → (pinned ≡ true → times q l.flexible ≡ 0) → (pinned ≡ false → times q l.pinned ≡ 0)
    → leaders_both (disband pinned q siblings l) ≡ all_but q (leaders_both l) ++ siblings
both-after true q siblings l flexible pinned = grind (arith, nat_tests, filter-append, all_but-none, append_assoc)
both-after false q siblings l flexible pinned = grind (arith, nat_tests, filter-append, all_but-none, append_assoc)

not-flexible : (a b : Bool) → once_if (a && b && false) ≡ 0
not-flexible true true = refl
not-flexible true false = refl
not-flexible false b = refl

led-leaders : (w : World) (q : Key) (c : Context) → (entry_at w q).context ≡ c → place_of c < length w.contexts
    → leaders_of (led_world w q (entries_freed w q) (standings_freed w q)) c ≡ disband (entry_at w q).pinned q (after_first (entry_at w q).members) (leaders_of w c)
led-leaders w q c same low = grind (arith, nat_tests, disband, get_or-set_same)

pub leaders-then : (hw : Hardware) (w : World) (task : TaskNo) (q : Key) → IsKept hw w → task.0 < 64 → IsNext w task q
    → leaders_in (folded_away q w) task ≡ all_but q (leaders_in w task) ++ after_first (entry_at w q).members
leaders-then hw w task q h low x =
    let c : Context = context.Task task in
    let own : is_key q (entry_at w q).leader ≡ true = (leads-parts (is_live w q) (is_key q (entry_at w q).leader) x.lead).1 in
    let lists : leaders_of (folded_away q w) c ≡ disband (entry_at w q).pinned q (after_first (entry_at w q).members) (leaders_of w c) =
    grind (arith, nat_tests, folded-is, dropped-leader, led-leaders, of-task-is, length-map) in
    ap leaders_both lists
    ∙ both-after (entry_at w q).pinned q (after_first (entry_at w q).members) (leaders_of w c)
    (λ pinned. h.linked.flexible q (place_of c) ∙ (ap (λ b. once_if (leads (post_at w) q && place_of (entry_at w q).context == place_of c && (if b then false else not false))) pinned
    ∙ not-flexible (leads (post_at w) q) (place_of (entry_at w q).context == place_of c)))
    (λ pinned. h.linked.pinned q (place_of c) ∙ (ap (λ b. once_if (leads (post_at w) q && place_of (entry_at w q).context == place_of c && (if b then true else not true))) pinned
    ∙ not-flexible (leads (post_at w) q) (place_of (entry_at w q).context == place_of c)))

-- the leader at a place
pub stands-at : (hw : Hardware) (w : World) (task : TaskNo) (q : Key) (place : ℕ) → IsKept hw w → slice_get (leaders_in w task) place ≡ Some q
    → (leads (post_at w) q && place_of (entry_at w q).context == 8 + task.0) ≡ true
stands-at hw w task q place h at =
    grind (arith, nat_tests, once-both, key-at, leaders-at, key-at q (leaders_in w task) place at, leaders-at hw w h q (8 + task.0))

pub is-next : (hw : Hardware) (w : World) (task : TaskNo) (q : Key) (place : ℕ) → IsKept hw w → task.0 < 64 → slice_get (leaders_in w task) place ≡ Some q → (instance_at w q).copy ≡ true → IsNext w task q
is-next hw w task q place h low at copy =
    let parts : (leads (post_at w) q ≡ true) × ((place_of (entry_at w q).context == 8 + task.0) ≡ true) =
    leads-parts (leads (post_at w) q) (place_of (entry_at w q).context == 8 + task.0) (stands-at hw w task q place h at) in
    record { lead = parts.0; copy = copy; there = by-place task (entry_at w q).context low ∙ parts.1 }

-- Some leaders were gone over, and each of them is an original.
pub record AreWalked (hw : Hardware) (task : TaskNo) (v w : World) (passed : ℕ) : Type 0 where
  pub folding : AreFolding hw task v w
  pub originals : (i : ℕ) (m : Key) → i < passed → slice_get (leaders_in w task) i ≡ Some m → (instance_at w m).copy ≡ false

pub walked-original : (hw : Hardware) (task : TaskNo) (v w : World) (q : Key) (passed : ℕ) → AreWalked hw task v w passed → slice_get (leaders_in w task) passed ≡ Some q
    → (instance_at w q).copy ≡ false → AreWalked hw task v w (passed + 1)
walked-original hw task v w q passed f at original = record {
  folding = f.folding;
  originals = λ i m low found. elim (cases_eq i passed) [
    | inl is ↦ grind (arith, nat_tests, some-same, is)
    | inr off ↦ f.originals i m (omega (arith, low, off)) found
  ];
}

pub walked-copy : (hw : Hardware) (task : TaskNo) (v w : World) (q : Key) (passed : ℕ) → IsKept hw v → task.0 < 64 → AreWalked hw task v w passed → slice_get (leaders_in w task) passed ≡ Some q
    → (instance_at w q).copy ≡ true → AreWalked hw task v (folded_away q w) passed
walked-copy hw task v w q passed h task_low f at copy =
    let x : IsNext w task q = is-next hw w task q passed f.folding.kept task_low at copy in
    let g : HasGone w (folded_away q w) q = next-gone hw w task q f.folding.kept x in
    let keys : List Key = leaders_in w task in
    let siblings : List Key = after_first (entry_at w q).members in
    let once : times q keys ≤ 1 = omega (arith, leaders-at hw w f.folding.kept q (8 + task.0), at-most-once (leads (post_at w) q && place_of (entry_at w q).context == 8 + task.0)) in
    record {
      folding = folding-more hw task v w q h f.folding x;
      originals = λ i m low found.
          let before : slice_get keys i ≡ Some m =
          sym (ap (λ ks. slice_get ks i) (leaders-then hw w task q f.folding.kept task_low x) ∙ front-stays q keys siblings passed i at once low) ∙ found in
          let original : (instance_at w m).copy ≡ false = f.originals i m low before in
          let apart : m.0 ≡ q.0 → ⊥ = λ is. false≢true (sym original ∙ (ap (λ k. (instance_at w k).copy) (key-is m q is) ∙ copy)) in
          ap (λ y. y.copy) (g.others.instances m apart) ∙ original;
    }

walked-by : (hw : Hardware) (task : TaskNo) (v w : World) (q : Key) (passed : ℕ) (copy : Bool) → IsKept hw v → task.0 < 64 → AreWalked hw task v w passed → slice_get (leaders_in w task) passed ≡ Some q
    → (instance_at w q).copy ≡ copy → AreWalked hw task v (fold_copy copy q w) (if copy then passed else passed + 1)
walked-by hw task v w q passed true h low f at copy = walked-copy hw task v w q passed h low f at copy
walked-by hw task v w q passed false h low f at copy = walked-original hw task v w q passed f at copy

pub walked-then : (hw : Hardware) (task : TaskNo) (v w t : World) (q : Key) (passed next : ℕ) → IsKept hw v → task.0 < 64 → AreWalked hw task v w passed → slice_get (leaders_in w task) passed ≡ Some q
    → t ≡ fold_copy (instance_at w q).copy q w → next ≡ (if (instance_at w q).copy then passed else passed + 1) → AreWalked hw task v t next
walked-then hw task v w t q passed next h low f at world is =
    subst (λ (y : World). AreWalked hw task v y next) (sym world)
    (subst (AreWalked hw task v (fold_copy (instance_at w q).copy q w)) (sym is) (walked-by hw task v w q passed (instance_at w q).copy h low f at refl))

-- at the end no copy is left in the context
pub none-left : (hw : Hardware) (task : TaskNo) (v w : World) (passed : ℕ) → task.0 < 64 → AreWalked hw task v w passed → slice_get (leaders_in w task) passed ≡ None
    → (k : Key) → is_live w k ≡ true → is_of_task task (entry_at w k).context ≡ true → (instance_at w k).copy ≡ false
none-left hw task v w passed low f end k live there =
    let h : IsKept hw w = f.folding.kept in
    let m : Key = (entry_at w k).leader in
    let here : place_of (entry_at w m).context ≡ 8 + task.0 = ap place_of (h.grouped.together k live ∙ of-task-is task (entry_at w k).context there) in
    let once : times m (leaders_in w task) ≡ 1 =
    leaders-at hw w h m (8 + task.0) ∙ both-once (leads (post_at w) m) (place_of (entry_at w m).context == 8 + task.0) (h.grouped.led k live) (same_number (place_of (entry_at w m).context) (8 + task.0) here) in
    let found : (i : ℕ) × (slice_get (leaders_in w task) i ≡ Some m) = place-of m (leaders_in w task) (omega (arith, once)) in
    let long : length (leaders_in w task) ≤ passed = past-end (leaders_in w task) passed end in
    let within : found.0 < length (leaders_in w task) = slice_get_within (leaders_in w task) found.0 m found.1 in
    sym (f.folding.alike k live there) ∙ f.originals found.0 m (omega (arith, within, long)) found.1

-- each step leaves less to do
same-length : (xs ys : List Key) → AreSameKeys xs ys → length xs ≡ length ys
same-length xs ys h = length-total xs ∙ (same-total (λ k. 1) xs ys h ∙ sym (length-total ys))

pub fewer-keys : (hw : Hardware) (w : World) (task : TaskNo) (q : Key) → IsKept hw w → task.0 < 64 → IsNext w task q
    → length (keys_in w (context.Task task)) ≡ suc (length (keys_in (folded_away q w) (context.Task task)))
fewer-keys hw w task q h low x =
    let t : World = folded_away q w in
    let g : HasGone w t q = next-gone hw w task q h x in
    let n : ℕ = 8 + task.0 in
    let live : is_live w q ≡ true = next-live w task q x in
    let kept : IsKept hw t = fold-kept hw w q live x.copy h in
    let after : List Key = keys_in t (context.Task task) in
    let before : List Key = keys_in w (context.Task task) in
    let same : AreSameKeys before (q ∷ after) = λ k. elim (cases_eq k.0 q.0) [
      | inl is ↦
          let one : times q before ≡ 1 =
          keys-at hw w h q n ∙ both-once (is_live w q) (place_of (entry_at w q).context == n) live (sym (by-place task (entry_at w q).context low) ∙ x.there) in
          let none : times q after ≡ 0 = keys-at hw t kept q n ∙ ap (λ b. once_if (b && place_of (entry_at t q).context == n)) g.dead in
          subst (λ j. times j before ≡ times j (q ∷ after)) (sym (key-is k q is)) (omega (arith, one, none, times-cons q q after, once-true (is_key q q) (is_key-same q q refl)))
      | inr off ↦
          let other : times k before ≡ times k after =
          keys-at hw w h k n ∙ ((λ i. once_if (sym (g.others.live k off) i && place_of (sym (g.others.contexts k off) i) == n)) ∙ sym (keys-at hw t kept k n)) in
          omega (arith, other, times-cons k q after, once-false (is_key k q) (is_key-other k q (λ e. off (sym e))))
    ] in
    same-length before (q ∷ after) same

each-some : (w : World) (keys : List Key) → ((k : Key) → 1 ≤ times k keys → (entry_at w k).members ≡ k ∷ after_first (entry_at w k).members) → length keys ≤ length (flat_map (λ k. (entry_at w k).members) keys)
each-some w [] first = omega arith
each-some w (q ∷ keys) first =
    let rest : length keys ≤ length (flat_map (λ k. (entry_at w k).members) keys) = each-some w keys (λ k some. first k (omega (arith, some, times-cons k q keys))) in
    let mine : length (entry_at w q).members ≡ suc (length (after_first (entry_at w q).members)) =
    ap (λ ks. length ks) (first q (omega (arith, times-cons q q keys, once-true (is_key q q) (is_key-same q q refl)))) in
    omega (arith, rest, mine, length-append (entry_at w q).members (flat_map (λ k. (entry_at w k).members) keys))

pub long-enough : (hw : Hardware) (w : World) (task : TaskNo) → IsKept hw w → length (leaders_in w task) ≤ length (keys_in w (context.Task task))
long-enough hw w task h = each-some w (leaders_in w task) (λ k some.
    let at : (i : ℕ) × (slice_get (leaders_in w task) i ≡ Some k) = place-of k (leaders_in w task) some in
    h.grouped.leader_first k (leads-parts (leads (post_at w) k) (place_of (entry_at w k).context == 8 + task.0) (stands-at hw w task k at.0 h at.1)).0)

-- in a sound stage the members of a group are alike
each-at : {X : Type 0} (P : X → Type 0) (f : Key → X) (m : Key) (keys : List Key) → Each P (map f keys) → 1 ≤ times m keys → P (f m)
unfolding Each
each-at P f m [] each some = absurd (omega (arith, some))
each-at P f m (q ∷ keys) each some = elim (cases_eq q.0 m.0) [
  | inl is ↦ subst (λ k. P (f k)) (key-is q m is) each.0
  | inr off ↦ each-at P f m keys each.1 (omega (arith, some, times-cons m q keys, once-false (is_key m q) (is_key-other m q off)))
]

pub first-alike : (hw : Hardware) (v : World) (task : TaskNo) (k : Key) → IsKept hw v → IsGrouped hw (stage_of v) → is_live v k ≡ true → is_of_task task (entry_at v k).context ≡ true
    → (instance_at v (entry_at v k).leader).copy ≡ (instance_at v k).copy
first-alike hw v task k h grouped live there =
    let s : Stage = stage_of v in
    let c : Context = context.Task task in
    let m : Key = (entry_at v k).leader in
    let l : Leaders = leaders_of v c in
    let lead : leads (post_at v) m ≡ true = h.grouped.led k live in
    let each : Each (λ y. Each (IsGroup hw) (groups_in y)) s.contexts = joined-Each (IsGroup hw) groups_in s.contexts (Each-from_All (IsGroup hw) (all_groups s) grouped.groups) in
    let here : Each (IsGroup hw) (groups_in (lists_of s c)) = get_or-Each (λ y. Each (IsGroup hw) (groups_in y)) s.contexts (place_of c) no_groups each (none-Each (IsGroup hw)) in
    let lists : lists_of s c ≡ lists_at v l = get_or-map (lists_at v) v.contexts (place_of c) no_leaders in
    let groups : groups_in (lists_of s c) ≡ map (group_at v) (leaders_both l) = ap groups_in lists ∙ sym (map-append (group_at v) l.pinned l.flexible) in
    let at : place_of (entry_at v m).context ≡ place_of c = ap place_of (h.grouped.together k live ∙ of-task-is task (entry_at v k).context there) in
    let once : times m (leaders_both l) ≡ 1 =
    leaders-at hw v h m (place_of c) ∙ both-once (leads (post_at v) m) (place_of (entry_at v m).context == place_of c) lead (same_number (place_of (entry_at v m).context) (place_of c) at) in
    let group : IsGroup hw (group_at v m) = each-at (IsGroup hw) (group_at v) m (leaders_both l) (subst (Each (IsGroup hw)) groups here) (omega (arith, once)) in
    elim (cases_eq k.0 m.0) [
      | inl is ↦ ap (λ q. (instance_at v q).copy) (key-is m k (sym is))
      | inr off ↦
          let siblings : List Key = after_first (entry_at v m).members in
          let one : times k (entry_at v m).members ≡ 1 = h.linked.members k m ∙ both-once (is_live v k) (is_key m m) live (is_key-same m m refl) in
          let all : times k (entry_at v m).members ≡ once_if (is_key k m) + times k siblings = ap (times k) (h.grouped.leader_first m lead) ∙ times-cons k m siblings in
          (each-at (AreAlike (instance_at v m)) (instance_at v) k siblings (Each-from_All (AreAlike (instance_at v m)) (map (instance_at v) siblings) group.alike)
          (omega (arith, one, all, once-false (is_key k m) (is_key-other k m (λ e. off (sym e)))))).copy
    ]

less-by : (hw : Hardware) (task : TaskNo) (w : World) (q : Key) (passed : ℕ) (copy : Bool) → IsKept hw w → task.0 < 64 → slice_get (leaders_in w task) passed ≡ Some q → (instance_at w q).copy ≡ copy
    → length (keys_in (fold_copy copy q w) (context.Task task)) - (if copy then passed else passed + 1) < length (keys_in w (context.Task task)) - passed
less-by hw task w q passed true h low at copy =
    omega (arith, fewer-keys hw w task q h low (is-next hw w task q passed h low at copy), long-enough hw w task h, slice_get_within (leaders_in w task) passed q at)
less-by hw task w q passed false h low at copy = omega (arith, long-enough hw w task h, slice_get_within (leaders_in w task) passed q at)

pub less-then : (hw : Hardware) (task : TaskNo) (w t : World) (q : Key) (passed next : ℕ) → IsKept hw w → task.0 < 64 → slice_get (leaders_in w task) passed ≡ Some q
    → t ≡ fold_copy (instance_at w q).copy q w → next ≡ (if (instance_at w q).copy then passed else passed + 1)
    → length (keys_in t (context.Task task)) - next < length (keys_in w (context.Task task)) - passed
less-then hw task w t q passed next h low at world is = grind (arith, nat_tests, less-by)

pub leader-live : (hw : Hardware) (w : World) (task : TaskNo) (q : Key) (place : ℕ) → IsKept hw w → slice_get (leaders_in w task) place ≡ Some q → is_live w q ≡ true
leader-live hw w task q place h at =
    let lead : leads (post_at w) q ≡ true = (leads-parts (leads (post_at w) q) (place_of (entry_at w q).context == 8 + task.0) (stands-at hw w task q place h at)).0 in
    (leads-parts (is_live w q) (is_key q (entry_at w q).leader) lead).0

-- at first none was gone over
pub walked-none : (hw : Hardware) (task : TaskNo) (v : World) → IsKept hw v → IsGrouped hw (stage_of v) → AreWalked hw task v v 0
walked-none hw task v h grouped = record {
  folding = folding-none hw task v h (λ k live there. first-alike hw v task k h grouped live there);
  originals = λ i m low found. absurd (omega (arith, low));
}
