-- The stage after an instance came.
use Rattle.std.specs.Prelude.{◌≡◌, ℕ, ◌+◌, ◌<◌, ◌==◌, suc, zero, Bool, true, false, not, ◌&&◌, List, [], ◌∷◌, ◌++◌, map, Option, Some, None, slice_index_or, if◌then◌else◌}
use Rattle.std.proofs.{Common.{arith, refl, sym, ap, ◌∙◌, inl, inr}, lemmas.Bool.{cases_eq, Decides.{nat_tests}}}
use Rattle.std.proofs.{lemmas.{List.{map-set, map-append}, Simd.{map-map}}, Math.ListN.{get_or-map}}
use Rattle.perf_base.specs.{declared.{numbers.{EventNo.{EventNo}, Key.{Key}}}, Contexts.{context_of}}
use Rattle.stage_spec.specs.{declared.instance.Instance.{Instance}, Flags.{is_pinned}, Hardware.{Hardware}}
use Rattle.stage_spec.specs.Opening.{joined, add_group, join_group, join_lists, opened}
use Rattle.stage_spec.specs.Stage.{Stage, Group, Lists, alone, place_of, lists_of, is_original}
use Rattle.stage_laws.specs.Sound.{has_id}
use Rattle.world_spec.specs.Value.{World, Leaders, no_leaders, leaders_of, is_live, entry_at, instance_at, is_key, times}
use Rattle.world_spec.specs.StageOf.{after_first, group_at, lists_at, stage_of}
use Rattle.world_spec.specs.{Kept.{post_at, in_option, is_member_of, leads, leads_in, AreLinked, IsKept}, Changes.{in_list}}
use Rattle.world_spec.specs.Adding.{Newcomer, new_instance}
use Rattle.world_spec.specs.Comings.{HasRoom, join_id, instance_comes, counted_in, slot_led, IsLedByOriginal, OpenLaw, AddLaw}
use Rattle.world_spec.proofs.{Renaming.{id-apart, dead-entry}, Keys.{key-is, is_key-other, times-cons, once-true, once-false}, Moving.{leads-parts}}
use Rattle.world_spec.proofs.{Coming.{live-apart}, ComingLinks.{none_of_two, none_of_three}, ComingGroups.{push_key, map-apart}}
use Rattle.world_spec.proofs.Added.{added, alone-members, grown-members, joined-members, other-instance, new-entry_at, entry-instance}

both_true : (b : Bool) → b ≡ true → (b && true) ≡ true
both_true true h = refl
both_true false h = absurd (cc)

-- two functions that agree at each place give one list
pub map-places : {X Y : Type 0} (f g : X → Y) (d : X) (xs : List X) → ((p : ℕ) → f (slice_index_or xs p d) ≡ g (slice_index_or xs p d)) → map f xs ≡ map g xs
map-places f g d [] h = refl
map-places f g d (x ∷ xs) h = rw (h zero, map-places f g d xs (λ p. h (suc p))) refl

-- a dead key stands in no list and in no group
pub unlisted : (w : World) → AreLinked (post_at w) w.contexts w.families → (k : Key) → is_live w k ≡ false → (place : ℕ)
    → (times k (slice_index_or w.contexts place no_leaders).pinned ≡ 0) × (times k (slice_index_or w.contexts place no_leaders).flexible ≡ 0)
unlisted w h k dead place =
    let no : (b : Bool) → leads_in (post_at w) place b k ≡ false = grind (arith, nat_tests, none_of_three, none_of_two) in
    (h.pinned k place ∙ once-false (leads_in (post_at w) place true k) (no true), h.flexible k place ∙ once-false (leads_in (post_at w) place false k) (no false))

pub ungrouped : (w : World) → AreLinked (post_at w) w.contexts w.families → (k : Key) → is_live w k ≡ false → (q : Key) → times k (entry_at w q).members ≡ 0
ungrouped w h k dead q = h.members k q ∙ once-false (is_member_of (post_at w) q k) (none_of_two (is_live w k) (is_key q (entry_at w k).leader) dead)

pub times-after_first : (k : Key) (ms : List Key) → times k ms ≡ 0 → times k (after_first ms) ≡ 0
times-after_first k [] h = h
times-after_first k (m ∷ ms) h = omega (arith, h, times-cons k m ms)

-- where the groups of all keys but a dead one change alike, so do all contexts
pub contexts-changed : (w t : World) (g : Group → Group) → AreLinked (post_at w) w.contexts w.families → (k : Key) → is_live w k ≡ false
    → ((q : Key) → (q.0 ≡ k.0 → ⊥) → group_at t q ≡ g (group_at w q))
    → map (lists_at t) w.contexts ≡ map (λ l. record { pinned = map g l.pinned; flexible = map g l.flexible }) (map (lists_at w) w.contexts)
contexts-changed w t g h k dead same =
    let groups : (keys : List Key) → times k keys ≡ 0 → map (group_at t) keys ≡ map g (map (group_at w) keys) =
    λ keys none. map-apart (group_at t) (λ q. g (group_at w q)) k same keys none ∙ sym (map-map g (group_at w) keys) in
    map-places (lists_at t) (λ l. record { pinned = map g (lists_at w l).pinned; flexible = map g (lists_at w l).flexible }) no_leaders w.contexts
    (λ p i. record {
      pinned = groups (slice_index_or w.contexts p no_leaders).pinned (unlisted w h k dead p).0 i;
      flexible = groups (slice_index_or w.contexts p no_leaders).flexible (unlisted w h k dead p).1 i;
    })
    ∙ sym (map-map (λ l. record { pinned = map g l.pinned; flexible = map g l.flexible }) (lists_at w) w.contexts)

pub contexts-same : (w t : World) → AreLinked (post_at w) w.contexts w.families → (k : Key) → is_live w k ≡ false
    → ((q : Key) → (q.0 ≡ k.0 → ⊥) → group_at t q ≡ group_at w q) → map (lists_at t) w.contexts ≡ map (lists_at w) w.contexts
contexts-same w t h k dead same =
    let groups : (keys : List Key) → times k keys ≡ 0 → map (group_at t) keys ≡ map (group_at w) keys = λ keys none. map-apart (group_at t) (group_at w) k same keys none in
    map-places (lists_at t) (lists_at w) no_leaders w.contexts (λ p i. record {
      pinned = groups (slice_index_or w.contexts p no_leaders).pinned (unlisted w h k dead p).0 i;
      flexible = groups (slice_index_or w.contexts p no_leaders).flexible (unlisted w h k dead p).1 i;
    })

-- the group of another leader with the same members
pub group-other : (w : World) (k : Key) (n : Newcomer) (leader : Option Key) → AreLinked (post_at w) w.contexts w.families → is_live w k ≡ false
    → (q : Key) → (q.0 ≡ k.0 → ⊥) → (entry_at (added w k n leader) q).members ≡ (entry_at w q).members → group_at (added w k n leader) q ≡ group_at w q
group-other w k n leader h dead q apart members =
    let t : World = added w k n leader in
    let siblings : map (instance_at t) (after_first (entry_at t q).members) ≡ map (instance_at w) (after_first (entry_at w q).members) =
    ap (λ ms. map (instance_at t) (after_first ms)) members
    ∙ map-apart (instance_at t) (instance_at w) k (other-instance w k n leader) (after_first (entry_at w q).members) (times-after_first k (entry_at w q).members (ungrouped w h k dead q)) in
    λ i. record { leader = other-instance w k n leader q apart i; siblings = siblings i }

-- a group of its own
group-new : (w : World) (k : Key) (n : Newcomer) → group_at (added w k n None) k ≡ alone (new_instance w n)
group-new w k n =
    let t : World = added w k n None in
    ap {B = Group} (λ e. record { leader = e.instance; siblings = map (instance_at t) (after_first e.members) }) (new-entry_at w k n None)

pushed-lists : (w t : World) (k : Key) (i : Instance) → group_at t k ≡ alone i → (l : Leaders) → map (group_at t) l.pinned ≡ map (group_at w) l.pinned
    → map (group_at t) l.flexible ≡ map (group_at w) l.flexible → (pinned : Bool) → lists_at t (in_list pinned (push_key k) l) ≡ add_group pinned (alone i) (lists_at w l)
pushed-lists w t k i new l pinned_same flexible_same true = grind (arith, nat_tests, map-append)
pushed-lists w t k i new l pinned_same flexible_same false = grind (arith, nat_tests, map-append)

alone-stage : (hw : Hardware) (w : World) (k : Key) (n : Newcomer) → IsKept hw w → is_live w k ≡ false
    → stage_of (added w k n None) ≡ counted_in n (instance_comes w n None (stage_of w))
alone-stage hw w k n h dead =
    let t : World = added w k n None in
    let l : Leaders = leaders_of w n.context in
    let same : (q : Key) → (q.0 ≡ k.0 → ⊥) → group_at t q ≡ group_at w q = λ q apart. group-other w k n None h.linked dead q apart (alone-members w k n q apart) in
    let groups : (keys : List Key) → times k keys ≡ 0 → map (group_at t) keys ≡ map (group_at w) keys = λ keys none. map-apart (group_at t) (group_at w) k same keys none in
    let none : (times k l.pinned ≡ 0) × (times k l.flexible ≡ 0) = unlisted w h.linked k dead (place_of n.context) in
    let here : lists_at t (in_list (is_pinned n.attr) (push_key k) l) ≡ add_group (is_pinned n.attr) (alone (new_instance w n)) (lists_at w l) =
    pushed-lists w t k (new_instance w n) (group-new w k n) l (groups l.pinned none.0) (groups l.flexible none.1) (is_pinned n.attr) in
    let found : lists_of (stage_of w) n.context ≡ lists_at w l = get_or-map (lists_at w) w.contexts (place_of n.context) no_leaders in
    grind (arith, nat_tests, map-set, t, push_key, l, contexts-same, same, here, found)

-- a sibling in its leader's group
after_pushed : (ms : List Key) (first k : Key) → ms ≡ first ∷ after_first ms → after_first (ms ++ k ∷ []) ≡ after_first ms ++ k ∷ []
after_pushed [] first k h = absurd (cc)
after_pushed (m ∷ ms) first k h = refl

group-grown : (hw : Hardware) (w : World) (k first : Key) (n : Newcomer) → IsKept hw w → is_live w k ≡ false → leads (post_at w) first ≡ true
    → group_at (added w k n (Some first)) first ≡ joined (new_instance w n) (group_at w first)
group-grown hw w k first n h dead lead =
    let t : World = added w k n (Some first) in
    let far : first.0 ≡ k.0 → ⊥ = live-apart (post_at w) k dead first (leads-parts (is_live w first) (is_key first (entry_at w first).leader) lead).0 in
    let ms : List Key = (entry_at w first).members in
    let mine : instance_at t k ≡ new_instance w n = ap (λ e. e.instance) (new-entry_at w k n (Some first)) ∙ entry-instance w k n (Some first) in
    let siblings : map (instance_at t) (after_first (entry_at t first).members) ≡ map (instance_at w) (after_first ms) ++ new_instance w n ∷ [] =
    ap (λ x. map (instance_at t) (after_first x)) (grown-members w k n first far)
    ∙ (ap (map (instance_at t)) (after_pushed ms first k (h.grouped.leader_first first lead))
    ∙ (map-append (instance_at t) (after_first ms) (k ∷ [])
    ∙ (ap (λ is. is ++ instance_at t k ∷ []) (map-apart (instance_at t) (instance_at w) k (other-instance w k n (Some first)) (after_first ms)
    (times-after_first k ms (ungrouped w h.linked k dead first)))
    ∙ ap (λ i. map (instance_at w) (after_first ms) ++ i ∷ []) mine))) in
    λ i. record { leader = other-instance w k n (Some first) first far i; siblings = siblings i }

pub branch : (b c : Bool) (x y : Group) → b ≡ c → (if b then x else y) ≡ (if c then x else y)
branch b c x y e = ap {B = Group} (λ d. if d then x else y) e

joined-stage : (hw : Hardware) (w : World) (k first : Key) (n : Newcomer) → IsKept hw w → is_live w k ≡ false → leads (post_at w) first ≡ true
    → stage_of (added w k n (Some first)) ≡ counted_in n (instance_comes w n (Some first) (stage_of w))
joined-stage hw w k first n h dead lead =
    let t : World = added w k n (Some first) in
    let id : ℕ = (instance_at w first).id in
    let i : Instance = new_instance w n in
    let live : is_live w first ≡ true = (leads-parts (is_live w first) (is_key first (entry_at w first).leader) lead).0 in
    let own : has_id id (instance_at w first) ≡ true = grind (arith, nat_tests) in
    let same : (q : Key) → (q.0 ≡ k.0 → ⊥) → group_at t q ≡ join_id id i (group_at w q) = λ q apart. (elim (cases_eq q.0 first.0) [
      | inl e ↦ grind (arith, nat_tests, key-is, e, group-grown, branch)
      | inr off ↦
          group-other w k n (Some first) h.linked dead q apart (joined-members w k n first q apart off)
          ∙ branch false (has_id id (instance_at w q)) (joined i (group_at w q)) (group_at w q) (sym (id-apart w first q h.numbered live off))
    ]) in
    ap {A = List Lists} (λ cs. counted_in n (record (stage_of w) { contexts = cs })) (contexts-changed w t (join_id id i) h.linked k dead same)

added-stage : (hw : Hardware) (w : World) (k : Key) (n : Newcomer) (leader : Option Key) → IsKept hw w → is_live w k ≡ false → HasRoom w n leader
    → stage_of (added w k n leader) ≡ counted_in n (instance_comes w n leader (stage_of w))
added-stage hw w k n None h dead room = alone-stage hw w k n h dead
added-stage hw w k n (Some first) h dead room = joined-stage hw w k first n h dead room.0

-- The original in a slot is one key.
pub one-in_option : (o : Option Key) (j k : Key) → times j (in_option o) ≡ 1 → times k (in_option o) ≡ 1 → j.0 ≡ k.0
one-in_option None j k hj hk = absurd (omega (arith, hj))
one-in_option (Some q) j k hj hk = grind (arith, nat_tests, times-cons, once-false, is_key-other)

other-original : (w : World) → AreLinked (post_at w) w.contexts w.families → (first q : Key) → is_live w first ≡ true → (instance_at w first).copy ≡ false → (instance_at w first).event.0 < 256
    → (q.0 ≡ first.0 → ⊥) → is_original (instance_at w first).event (instance_at w q) ≡ false
other-original w h first q live original low apart = grind (arith, nat_tests, dead-entry, none_of_two, both_true, one-in_option, once-true)

-- what opening makes
opened-alone : (w : World) (n : Newcomer) → n.copy ≡ false → context_of n.attr ≡ n.context
    → counted_in n (instance_comes w n None (stage_of w)) ≡ opened (stage_of w) n.event n.attr None
unfolding opened
opened-alone w n first there = grind (arith, nat_tests)

opened-joined : (hw : Hardware) (w : World) (k leader : Key) (n : Newcomer) → IsKept hw w → is_live w k ≡ false → leads (post_at w) leader ≡ true → n.copy ≡ false → (instance_at w leader).copy ≡ false
    → stage_of (added w k n (Some leader)) ≡ opened (stage_of w) n.event n.attr (Some (instance_at w leader).event)
unfolding opened
opened-joined hw w k leader n h dead lead first original =
    let t : World = added w k n (Some leader) in
    let e : EventNo = (instance_at w leader).event in
    let i : Instance = new_instance w n in
    let live : is_live w leader ≡ true = (leads-parts (is_live w leader) (is_key leader (entry_at w leader).leader) lead).0 in
    let own : is_original e (instance_at w leader) ≡ true = ap (λ b. (e.0 == e.0) && not b) original ∙ both_true (e.0 == e.0) (grind (arith, nat_tests)) in
    let same : (q : Key) → (q.0 ≡ k.0 → ⊥) → group_at t q ≡ join_group e i (group_at w q) = λ q apart. (elim (cases_eq q.0 leader.0) [
      | inl at ↦ grind (arith, nat_tests, key-is, at, group-grown, branch)
      | inr off ↦
          group-other w k n (Some leader) h.linked dead q apart (joined-members w k n leader q apart off)
          ∙ branch false (is_original e (instance_at w q)) (joined i (group_at w q)) (group_at w q)
          (sym (other-original w h.linked leader q live original (h.numbered.slots leader live) off))
    ]) in
    let made : Bool → Stage = λ copy. (record (stage_of w) {
      contexts = map (join_lists e (record i { copy = copy })) (map (lists_at w) w.contexts);
      used = if copy then w.quiet.used else w.quiet.used ++ n.event ∷ [];
      next_id = w.quiet.next_id + 1;
    }) in
    ap {A = List Lists} (λ cs. counted_in n (record (stage_of w) { contexts = cs })) (contexts-changed w t (join_group e i) h.linked k dead same) ∙ ap made first

opened-stage : (hw : Hardware) (w : World) (k : Key) (n : Newcomer) (leader : Option Key) → IsKept hw w → is_live w k ≡ false → HasRoom w n leader
    → n.copy ≡ false → context_of n.attr ≡ n.context → IsLedByOriginal w leader → stage_of (added w k n leader) ≡ opened (stage_of w) n.event n.attr (slot_led w leader)
opened-stage hw w k n None h dead room first there by = alone-stage hw w k n h dead ∙ opened-alone w n first there
opened-stage hw w k n (Some leader) h dead room first there by = opened-joined hw w k leader n h dead room.0 first by

pub open-stage : OpenLaw
open-stage hw w k n h may room first there by = opened-stage hw w k n n.leader h may.fresh room first there by

pub add-stage : AddLaw
add-stage hw w k n h may room = added-stage hw w k n n.leader h may.fresh room
