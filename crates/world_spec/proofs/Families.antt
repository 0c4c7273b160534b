-- The instances of the stage are those of the world's keys, each once; so families, originals and copies are the
-- world's.
use Rattle.std.specs.Prelude.{◌≡◌, ℕ, ◌+◌, ◌<◌, ◌≤◌, ◌==◌, Bool, true, false, not, ◌&&◌, cond, List, [], ◌∷◌, ◌++◌, length, map, filter, find, count_by, flat_map, is_some, Option, Some, None, option_map, slice_index_or, if◌then◌else◌}
use Rattle.std.{specs.List.{list_any}, proofs.{Common.{arith, refl, sym, ap, ◌∙◌, inl, inr}, lemmas.Bool.{cases_Bool, Decides.{nat_tests}}}}
use Rattle.std.proofs.{lemmas.List.{length-map, map-append, Concat.{length-flat_map}, Sums.{length-filter}}, Math.Bool.{and-true}}
use Rattle.perf_base.specs.declared.{numbers.{EventNo.{EventNo}, Key.{Key}}, reply.Sums.{Sums}}
use Rattle.perf_base.specs.declared.reasons.Reason.TheVariants as reason
use Rattle.stage_spec.specs.{declared.instance.Instance.{Instance}, Commands.{closed_refusal}, Families.{plus, plus_each}, Hardware.{Hardware}, Refusals.{first_of}}
use Rattle.stage_spec.specs.Stage.{members_of, members, groups_in, all_instances, place_of, is_of_family, is_original, is_copy}
use Rattle.stage_laws.{specs.Sound.{has_id}, proofs.Images.{filter-map}}
use Rattle.stage_laws.proofs.Totals.{total, one_if, as_number, total-nil, total-cons, total-map, total-same, total-none, count_by-is-total}
use Rattle.stage_laws.proofs.Counts.{count-append}
use Rattle.world_spec.specs.Value.{World, Leaders, Family, no_family, no_leaders, family_of, is_live, entry_at, instance_at, is_key, times}
use Rattle.world_spec.specs.StageOf.{group_at, lists_at, stage_of}
use Rattle.world_spec.specs.Kept.{post_at, once_if, in_option, is_copy_in, is_member_of, leads, keys_of, plus_keys, IsKept}
use Rattle.world_spec.specs.{Listings.{MembersLaw}, Families.{OriginalLaw, OpenSlotLaw, GroupLaw, FamilyIdsLaw, FamilySumsLaw, CopiesLaw}}
use Rattle.world_spec.proofs.Keys.{key-is, is_key-same, is_key-true, is_key-turned, times-cons, once-true, once-false}
use Rattle.world_spec.proofs.{Accounts.{IsSum, counts_are_sums, times_are_sums, family-times}, Moving.{leads-parts}, Coming.{three}}
use Rattle.world_spec.proofs.{AddedStage.{one-in_option}, Going.{all_three}, GoneStage.{AreLeading}, GoneLeaderStage.{leading-rest, leading-first}}
use Rattle.world_spec.proofs.Folding.{run_times_are_sums}
use Rattle.world_spec.proofs.Counting.{times-flat, spread-one, spread-zero, AreSameKeys, same-total, times-filter, find-one, find-none, find-mapped, any-find, any-there, any-key}

-- the leaders of all contexts, and the keys of all groups
abbrev pub leaders_both : Leaders → List Key
leaders_both l = l.pinned ++ l.flexible

abbrev all_leaders : World → List Key
all_leaders w = flat_map leaders_both w.contexts

abbrev pub members_at : World → Key → List Key
members_at w q = (entry_at w q).members

abbrev pub all_keys : World → List Key
all_keys w = flat_map (members_at w) (all_leaders w)

-- each leader stands once among the leaders
both-lists : (a b pinned : Bool) → once_if (a && b && (if pinned then true else false)) + once_if (a && b && (if pinned then false else true)) ≡ once_if (a && b)
both-lists true true true = refl
both-lists true true false = refl
both-lists true false pinned = refl
both-lists false b pinned = refl

pub leaders-at : (hw : Hardware) (w : World) → IsKept hw w → (q : Key) (place : ℕ)
    → times q (leaders_both (slice_index_or w.contexts place no_leaders)) ≡ once_if (leads (post_at w) q && place_of (entry_at w q).context == place)
leaders-at hw w h q place = grind (arith, nat_tests, count-append, both-lists)

plus-zero : (p : ℕ) → p ≡ 0 + p
plus-zero p = omega arith

turned : (m n : ℕ) → (m == n) ≡ (n == m)
turned m n = grind (arith, nat_tests)

times-leaders : (hw : Hardware) (w : World) → IsKept hw w → (q : Key) → times q (all_leaders w) ≡ once_if (leads (post_at w) q)
times-leaders hw w h q =
    let f : Leaders → ℕ = λ l. times q (leaders_both l) in
    let place : ℕ = place_of (entry_at w q).context in
    times-flat q leaders_both w.contexts ∙ elim (cases_Bool (leads (post_at w) q)) [
      | inl lead ↦
          let live : is_live w q ≡ true = (leads-parts (is_live w q) (is_key q (entry_at w q).leader) lead).0 in
          let low : place < length w.contexts = omega (arith, h.numbered.places q live, h.shape.contexts, length-map w.contexts (lists_at w)) in
          spread-one f no_leaders w.contexts 0 place
          (λ p below. leaders-at hw w h q p ∙ (ap (λ b. once_if (b && place == p)) lead ∙ ap once_if (turned place p ∙ ap (λ n. n == place) (plus-zero p))))
          (omega arith) (omega (arith, low))
          ∙ sym (once-true (leads (post_at w) q) lead)
      | inr off ↦
          spread-zero f no_leaders w.contexts (λ p below. leaders-at hw w h q p ∙ once-false (leads (post_at w) q && place == p) (ap (λ b. b && place == p) off))
          ∙ sym (once-false (leads (post_at w) q) off)
    ]

-- each live key stands once among the keys, and no other
pub times-keys : (hw : Hardware) (w : World) → IsKept hw w → (k : Key) → times k (all_keys w) ≡ once_if (is_live w k)
times-keys hw w h k =
    let m : Key = (entry_at w k).leader in
    times-flat k (members_at w) (all_leaders w)
    ∙ (total-same (λ q. times k (members_at w q)) (λ q. once_if (is_live w k && is_key q m)) (λ q. h.linked.members k q) (all_leaders w)
    ∙ elim (cases_Bool (is_live w k)) [
      | inl live ↦ grind (arith, nat_tests, total-same, one_if, live, is_key-turned, count_by-is-total, times-leaders, once-true)
      | inr dead ↦ search (nat_tests, total-same, dead, total-none, once-false)
    ])

-- the groups and the instances of the stage are those of these keys
groups-are : (w : World) (ls : List Leaders) → flat_map groups_in (map (lists_at w) ls) ≡ map (group_at w) (flat_map leaders_both ls)
groups-are w [] = refl
groups-are w (l ∷ ls) = grind (arith, nat_tests, map-append, groups-are w ls)

pub members-are : (hw : Hardware) (w : World) → IsKept hw w → (keys : List Key) → AreLeading w keys → members (map (group_at w) keys) ≡ map (instance_at w) (flat_map (members_at w) keys)
members-are hw w h [] ls = refl
members-are hw w h (q ∷ keys) ls =
    let first : members_of (group_at w q) ≡ map (instance_at w) (members_at w q) = ap (map (instance_at w)) (sym (h.grouped.leader_first q (leading-first w q keys ls))) in
    grind (arith, nat_tests, leading-rest, first, map-append, members-are hw w h keys (leading-rest w q keys ls))

all-lead : (hw : Hardware) (w : World) → IsKept hw w → AreLeading w (all_leaders w)
all-lead hw w h q some = grind (arith, nat_tests, times-leaders, once-false)

pub instances-are : (hw : Hardware) (w : World) → IsKept hw w → all_instances (stage_of w) ≡ map (instance_at w) (all_keys w)
instances-are hw w h = ap members (groups-are w w.contexts) ∙ members-are hw w h (all_leaders w) (all-lead hw w h)

-- the keys of a family, and all copies
abbrev of_family : World → EventNo → Key → Bool
of_family w e k = is_of_family e (instance_at w k)

one-family : (live of copy : Bool) → cond of (once_if live) 0 ≡ once_if (live && of && not copy) + once_if (live && of && copy)
one-family true true true = refl
one-family true true false = refl
one-family true false copy = refl
one-family false true copy = refl
one-family false false copy = refl

family-keys : (hw : Hardware) (w : World) → IsKept hw w → (e : EventNo) → AreSameKeys (filter (of_family w e) (all_keys w)) (keys_of (family_of w e))
family-keys hw w h e k =
    times-filter k (of_family w e) (all_keys w) ∙ (ap (λ n. cond (of_family w e k) n 0) (times-keys hw w h k)
    ∙ (one-family (is_live w k) (of_family w e k) (instance_at w k).copy ∙ sym (family-times w h.linked k e.0)))

chosen-one : (live copy : Bool) → live ≡ true → copy ≡ true → cond copy (once_if live) 0 ≡ 1
chosen-one live copy hl hc = rw (hl, hc) refl

chosen-none : (live copy : Bool) → (live && copy) ≡ false → cond copy (once_if live) 0 ≡ 0
chosen-none true true h = absurd (cc)
chosen-none true false h = refl
chosen-none false true h = refl
chosen-none false false h = refl

outer-fails : (a b c : Bool) → (a && c) ≡ false → (a && b && c) ≡ false
outer-fails true true c h = h
outer-fails true false c h = refl
outer-fails false b c h = refl

copy-keys : (hw : Hardware) (w : World) → IsKept hw w → AreSameKeys (filter (λ k. (instance_at w k).copy) (all_keys w)) (flat_map (λ f. f.copies) w.families)
copy-keys hw w h k =
    let event : ℕ = (instance_at w k).event.0 in
    let copy : Bool = (instance_at w k).copy in
    let f : Family → ℕ = λ x. times k x.copies in
    times-filter k (λ q. (instance_at w q).copy) (all_keys w) ∙ (ap (λ n. cond copy n 0) (times-keys hw w h k) ∙ (elim (cases_Bool (is_live w k && copy)) [
      | inl both ↦
          let parts : (is_live w k ≡ true) × (copy ≡ true) = leads-parts (is_live w k) copy both in
          let low : event < length w.families = omega (arith, h.numbered.slots k parts.0, h.tables.families) in
          let one : total f w.families ≡ 1 = spread-one f no_family w.families 0 event
          (λ p below. h.linked.copies k p ∙ (ap (λ b. once_if (b && event == p && copy)) parts.0 ∙ (ap (λ b. once_if (event == p && b)) parts.1
          ∙ ap once_if (and-true (event == p) ∙ (turned event p ∙ ap (λ n. n == event) (plus-zero p)))))) (omega arith) (omega (arith, low)) in
          chosen-one (is_live w k) copy parts.0 parts.1 ∙ sym one
      | inr off ↦
          let none : total f w.families ≡ 0 = spread-zero f no_family w.families
          (λ p below. h.linked.copies k p ∙ once-false (is_copy_in (post_at w) p k) (outer-fails (is_live w k) (event == p) copy off)) in
          chosen-none (is_live w k) copy off ∙ sym none
    ] ∙ sym (times-flat k (λ x. x.copies) w.families)))

-- sums by the keys
pub sums-total : (p : Sums → ℕ) → IsSum p → (s : Key → Sums) (keys : List Key) → p (plus_keys s keys) ≡ total (λ k. p (s k)) keys
sums-total p is s [] = is.none ∙ sym (total-nil (λ k. p (s k)))
sums-total p is s (q ∷ keys) = omega (arith, is.both (s q) (plus_keys s keys), sums-total p is s keys, total-cons (λ k. p (s k)) q keys)

pub same-sums : (s : Key → Sums) (xs ys : List Key) → AreSameKeys xs ys → plus_keys s xs ≡ plus_keys s ys
same-sums s xs ys h =
    let each : (p : Sums → ℕ) → IsSum p → p (plus_keys s xs) ≡ p (plus_keys s ys) = λ p is. sums-total p is s xs ∙ (same-total (λ k. p (s k)) xs ys h ∙ sym (sums-total p is s ys)) in
    λ i. record {
      count = each (λ x. x.count) counts_are_sums i;
      enabled = each (λ x. x.enabled) times_are_sums i;
      running = each (λ x. x.running) run_times_are_sums i;
    }

pub each-by_keys : (f : Instance → Sums) (w : World) (keys : List Key) → plus_each f (map (instance_at w) keys) ≡ plus_keys (λ k. f (instance_at w k)) keys
each-by_keys f w [] = refl
each-by_keys f w (q ∷ keys) = ap (plus (f (instance_at w q))) (each-by_keys f w keys)

family-instances : (hw : Hardware) (w : World) → IsKept hw w → (e : EventNo) → filter (is_of_family e) (all_instances (stage_of w)) ≡ map (instance_at w) (filter (of_family w e) (all_keys w))
family-instances hw w h e = ap (filter (is_of_family e)) (instances-are hw w h) ∙ filter-map (is_of_family e) (of_family w e) (instance_at w) (λ k. refl) (all_keys w)

pub family-sums : FamilySumsLaw
family-sums hw w e f h =
    ap (plus_each f) (family-instances hw w h e) ∙ (each-by_keys f w (filter (of_family w e) (all_keys w))
    ∙ same-sums (λ k. f (instance_at w k)) (filter (of_family w e) (all_keys w)) (keys_of (family_of w e)) (family-keys hw w h e))

pub family-ids : FamilyIdsLaw
family-ids hw w e h n =
    let keys : List Key = keys_of (family_of w e) in
    let found : List Key = filter (of_family w e) (all_keys w) in
    count_by-is-total (λ id. n == id) (map (λ k. (instance_at w k).id) keys)
    ∙ (total-map (one_if (λ id. n == id)) (λ k. (instance_at w k).id) keys
    ∙ (total-same (λ k. as_number (n == (instance_at w k).id)) (λ k. as_number ((instance_at w k).id == n)) (λ k. ap as_number (turned n (instance_at w k).id)) keys
    ∙ (sym (same-total (λ k. as_number ((instance_at w k).id == n)) found keys (family-keys hw w h e))
    ∙ (sym (total-map (one_if (has_id n)) (instance_at w) found)
    ∙ (sym (count_by-is-total (has_id n) (map (instance_at w) found)) ∙ ap (count_by (has_id n)) (sym (family-instances hw w h e)))))))

pub length-total : (keys : List Key) → length keys ≡ total (λ k. 1) keys
length-total [] = sym (total-nil {X = Key} (λ k. 1))
length-total (q ∷ keys) = omega (arith, total-cons (λ k. 1) q keys, length-total keys)

pub copies-are : CopiesLaw
copies-are hw w h =
    let copy : Key → Bool = λ k. (instance_at w k).copy in
    let found : List Key = filter copy (all_keys w) in
    let copies : List Key = flat_map (λ f. f.copies) w.families in
    ap (count_by is_copy) (instances-are hw w h)
    ∙ (count_by-is-total is_copy (map (instance_at w) (all_keys w)) ∙ (total-map (one_if is_copy) (instance_at w) (all_keys w)
    ∙ (sym (count_by-is-total copy (all_keys w)) ∙ (sym (length-filter copy (all_keys w))
    ∙ (length-total found ∙ (same-total (λ k. 1) found copies (copy-keys hw w h) ∙ (sym (length-total copies) ∙ length-flat_map (λ f. f.copies) w.families)))))))

-- the original of a slot
pub key-lives : (hw : Hardware) (w : World) → IsKept hw w → (q : Key) → 1 ≤ times q (all_keys w) → is_live w q ≡ true
key-lives hw w h q there = grind (arith, nat_tests, times-keys, once-false)

one-is : (k : Key) → times k (k ∷ []) ≡ 1
one-is k = omega (arith, times-cons k k [], once-true (is_key k k) (is_key-same k k refl))

both_hold : (a copy : Bool) → a ≡ true → copy ≡ false → (a && not copy) ≡ true
both_hold a copy ha hc = rw (ha, hc) refl

pub stands-original : (hw : Hardware) (w : World) → IsKept hw w → (e : EventNo) (q : Key) → is_live w q ≡ true → is_original e (instance_at w q) ≡ true → times q (in_option (family_of w e).original) ≡ 1
stands-original hw w h e q live passes = grind (arith, nat_tests, leads-parts, once-true, all_three)

-- no live key, or one alone, is the original
abbrev AreOriginals : World → EventNo → Option Key → Type 0
AreOriginals w e None = (q : Key) → is_live w q ≡ true → is_original e (instance_at w q) ≡ true → ⊥
AreOriginals w e (Some k) =
    (is_live w k ≡ true) × (is_original e (instance_at w k) ≡ true) × ((q : Key) → is_live w q ≡ true → is_original e (instance_at w q) ≡ true → q.0 ≡ k.0)

originals-are : (hw : Hardware) (w : World) → IsKept hw w → (e : EventNo) (o : Option Key) → (family_of w e).original ≡ o → AreOriginals w e o
originals-are hw w h e None is = λ q live passes. omega (arith, stands-original hw w h e q live passes, ap (λ x. times q (in_option x)) is)
originals-are hw w h e (Some k) is = grind (arith, nat_tests, one-is, once-false, three, both_hold, one-in_option, stands-original)

found-original : (hw : Hardware) (w : World) → IsKept hw w → (e : EventNo) (o : Option Key) → AreOriginals w e o → find (λ k. is_original e (instance_at w k)) (all_keys w) ≡ o
found-original hw w h e None none = find-none (λ k. is_original e (instance_at w k)) (all_keys w) (λ q there passes. none q (key-lives hw w h q there) passes)
found-original hw w h e (Some k) one =
    find-one (λ q. is_original e (instance_at w q)) (all_keys w) k one.1 (omega (arith, times-keys hw w h k, once-true (is_live w k) one.0))
    (λ q there passes. one.2 q (key-lives hw w h q there) passes)

pub original-is : OriginalLaw
original-is hw w e h =
    ap (find (is_original e)) (instances-are hw w h) ∙ (find-mapped (is_original e) (instance_at w) (all_keys w)
    ∙ ap (option_map (instance_at w)) (found-original hw w h e (family_of w e).original (originals-are hw w h e (family_of w e).original refl)))

some-mapped : {X : Type 0} (f : Key → X) (o : Option Key) → is_some (option_map f o) ≡ is_some o
some-mapped f None = refl
some-mapped f (Some k) = refl

pub open-is : OpenSlotLaw
open-is hw w e h =
    any-find (is_original e) (all_instances (stage_of w)) ∙ (ap is_some (original-is hw w e h) ∙ some-mapped (instance_at w) (family_of w e).original)

pub closed-none : (hw : Hardware) (w : World) (e : EventNo) → IsKept hw w → (family_of w e).original ≡ None → closed_refusal (stage_of w) e ≡ Some reason.NoEvent
closed-none hw w e h none = ap (λ b. first_of ((reason.NoEvent, not b) ∷ [])) (open-is hw w e h ∙ ap is_some none)

pub open-some : (hw : Hardware) (w : World) (e : EventNo) (k : Key) → IsKept hw w → (family_of w e).original ≡ Some k → closed_refusal (stage_of w) e ≡ None
open-some hw w e k h some = ap (λ b. first_of ((reason.NoEvent, not b) ∷ [])) (open-is hw w e h ∙ ap is_some some)

-- and its group
has_original : World → EventNo → Key → Bool
has_original w e q = list_any (is_original e) (members_of (group_at w q))

pub group-members : MembersLaw
group-members hw w q h lead = ap (map (instance_at w)) (sym (h.grouped.leader_first q lead))

-- a leader whose group has the original leads it
led-original : (hw : Hardware) (w : World) → IsKept hw w → (e : EventNo) (q : Key) → leads (post_at w) q ≡ true → has_original w e q ≡ true
    → (j : Key) × (is_live w j ≡ true) × (is_original e (instance_at w j) ≡ true) × ((entry_at w j).leader.0 ≡ q.0)
unfolding has_original
led-original hw w h e q lead has =
    let j : (j : Key) × (1 ≤ times j (members_at w q)) × (is_original e (instance_at w j) ≡ true) =
    any-key (is_original e) (instance_at w) (members_at w q) (ap (list_any (is_original e)) (sym (group-members hw w q h lead)) ∙ has) in
    let member : is_member_of (post_at w) q j.0 ≡ true = (elim (cases_Bool (is_member_of (post_at w) q j.0)) [
      | inl is ↦ is
      | inr off ↦ absurd (omega (arith, j.1, h.linked.members j.0 q, once-false (is_member_of (post_at w) q j.0) off))
    ]) in
    let parts : (is_live w j.0 ≡ true) × (is_key q (entry_at w j.0).leader ≡ true) = leads-parts (is_live w j.0) (is_key q (entry_at w j.0).leader) member in
    (j.0, parts.0, j.2, is_key-true q (entry_at w j.0).leader parts.1)

its-group : (hw : Hardware) (w : World) → IsKept hw w → (e : EventNo) (k : Key) → is_live w k ≡ true → is_original e (instance_at w k) ≡ true → has_original w e (entry_at w k).leader ≡ true
unfolding has_original
its-group hw w h e k live passes =
    let m : Key = (entry_at w k).leader in
    let member : is_member_of (post_at w) m k ≡ true = ap (λ b. b && is_key m m) live ∙ is_key-same m m refl in
    ap (list_any (is_original e)) (group-members hw w m h (h.grouped.led k live))
    ∙ any-there (is_original e) (instance_at w) k (members_at w m) (omega (arith, h.linked.members k m, once-true (is_member_of (post_at w) m k) member)) passes

found-group : (hw : Hardware) (w : World) → IsKept hw w → (e : EventNo) (o : Option Key) → AreOriginals w e o → find (has_original w e) (all_leaders w) ≡ option_map (λ k. (entry_at w k).leader) o
found-group hw w h e None none = find-none (has_original w e) (all_leaders w) (λ q there has.
    let j : _ = led-original hw w h e q (all-lead hw w h q there) has in none j.0 j.1 j.2)
found-group hw w h e (Some k) one =
    let m : Key = (entry_at w k).leader in
    find-one (has_original w e) (all_leaders w) m (its-group hw w h e k one.0 one.1)
    (omega (arith, times-leaders hw w h m, once-true (leads (post_at w) m) (h.grouped.led k one.0)))
    (λ q there has.
    let j : _ = led-original hw w h e q (all-lead hw w h q there) has in
    sym j.3 ∙ ap (λ x. (entry_at w x).leader.0) (key-is j.0 k (one.2 j.0 j.1 j.2)))

mapped-twice : {X : Type 0} (f : Key → Key) (g : Key → X) (o : Option Key) → option_map g (option_map f o) ≡ option_map (λ k. g (f k)) o
mapped-twice f g None = refl
mapped-twice f g (Some k) = refl

pub group-is : GroupLaw
unfolding has_original
group-is hw w e h =
    ap (find (λ g. list_any (is_original e) (members_of g))) (groups-are w w.contexts) ∙ (find-mapped (λ g. list_any (is_original e) (members_of g)) (group_at w) (all_leaders w)
    ∙ (ap (option_map (group_at w)) (found-group hw w h e (family_of w e).original (originals-are hw w h e (family_of w e).original refl))
    ∙ mapped-twice (λ k. (entry_at w k).leader) (group_at w) (family_of w e).original))
