-- A copy that a fork makes is the definitions' own.
use Rattle.std.specs.Prelude.{◌≡◌, ℕ, zero, suc, ◌+◌, ◌<◌, ◌≤◌, ◌==◌, Bool, true, false, not, List, [], ◌∷◌, ◌++◌, length, map, Option, Some, None, slice_index_or, slice_set, if◌then◌else◌}
use Rattle.std.proofs.{Common.{arith, refl, sym, ap, ◌∙◌, inl, inr}, lemmas.Bool.{cases_eq, false≢true, Decides.{nat_tests}}}
use Rattle.std.proofs.{lemmas.{List.{length-map, length-set, map-set, map-append}, Simd.{map-map}}, Math.ListN.{get_or-map}}
use Rattle.perf_base.specs.declared.{numbers.{Key.{Key}, TaskNo.{TaskNo}}, standing.Own.{Own}}
use Rattle.perf_base.specs.declared.standing.Context.TheVariants as context
use Rattle.stage_spec.specs.{declared.instance.Instance.{Instance}, Effective.{is_ready}, Forks.{copied_state, copy_of}}
use Rattle.stage_spec.specs.{Hardware.{Hardware}, Opening.{joined, add_group}, Reading.{is_error}}
use Rattle.stage_spec.specs.Stage.{Stage, Group, Lists, no_groups, alone, place_of, lists_of, change_group, change_lists, change_context}
use Rattle.stage_laws.{specs.{Sound.{has_id}, OneByOne.{Parent, change_one, join_last, add_sibling, add_instance}}, proofs.Images.{map-same}}
use Rattle.world_spec.specs.Value.{World, Leaders, no_leaders, leaders_of, is_live, entry_at, instance_at, is_key, times}
use Rattle.world_spec.specs.{StageOf.{group_at, lists_at, stage_of}, Kept.{post_at, once_if, leads, leads_in, AreNumbered, IsKept}}
use Rattle.world_spec.specs.{Adding.{Newcomer, new_instance, add}, Comings.{HasRoom, join_id, join_lists_id, instance_comes, counted_in}}
use Rattle.world_spec.{specs.Copying.{copy_from, leaders_in, LeadsLast, FollowsParent, CopyLaw, CopyKeptLaw}, proofs.Renaming.{id-apart, dead-entry}}
use Rattle.world_spec.proofs.{Keeping.{own-stage, own-kept}, Keys.{is_key-same, times-cons, times-push, once-true, once-false, at_place}}
use Rattle.world_spec.proofs.{Moving.{leads-parts}, ComingLinks.{middle_fails}, Added.{comes-by, new-entry_at, entry-instance}, AddedKept.{add-kept}}
use Rattle.world_spec.proofs.AddedStage.{add-stage, branch}
use Rattle.stage_laws.proofs.OneByOneCopies.{join-pushed}

-- The next id is nobody's, so a change of its instance leaves those that were there.
no-id : (w : World) → AreNumbered (post_at w) w.quiet.next_id → (q : Key) → has_id w.quiet.next_id (instance_at w q) ≡ false
no-id w h q = grind (arith, nat_tests, dead-entry)

abbrev with_state : Own → ℕ → Instance → Instance
with_state o id i = if has_id id i then record i { own = o } else i

abbrev Leaves : World → (Instance → Instance) → Type 0
Leaves w g = (q : Key) → g (instance_at w q) ≡ instance_at w q

state-leaves : (w : World) (o : Own) → AreNumbered (post_at w) w.quiet.next_id → Leaves w (with_state o w.quiet.next_id)
state-leaves w o h q = ap (λ b. if b then record (instance_at w q) { own = o } else instance_at w q) (no-id w h q)

group-left : (w : World) (g : Instance → Instance) → Leaves w g → (q : Key) → change_group g (group_at w q) ≡ group_at w q
group-left w g h q = grind (arith, nat_tests, map-map, map-same)

groups-left : (w : World) (g : Instance → Instance) → Leaves w g → (keys : List Key) → map (change_group g) (map (group_at w) keys) ≡ map (group_at w) keys
groups-left w g h keys = map-map (change_group g) (group_at w) keys ∙ map-same (λ q. change_group g (group_at w q)) (group_at w) (group-left w g h) keys

lists-left : (w : World) (g : Instance → Instance) → Leaves w g → (l : Leaders) → change_lists g (lists_at w l) ≡ lists_at w l
lists-left w g h l = λ i. record { pinned = groups-left w g h l.pinned i; flexible = groups-left w g h l.flexible i }

contexts-left : (w : World) (g : Instance → Instance) → Leaves w g → map (change_lists g) (map (lists_at w) w.contexts) ≡ map (lists_at w) w.contexts
contexts-left w g h = map-map (change_lists g) (lists_at w) w.contexts ∙ map-same (λ l. change_lists g (lists_at w l)) (lists_at w) (lists-left w g h) w.contexts

-- a group of its own
push-changed : (g : Instance → Instance) (gs : List Group) (i : Instance) → map (change_group g) (gs ++ alone i ∷ []) ≡ map (change_group g) gs ++ alone (g i) ∷ []
push-changed g gs i = map-append (change_group g) gs (alone i ∷ [])

add-changed : (pinned : Bool) (g : Instance → Instance) (i : Instance) (l : Lists) → change_lists g (add_group pinned (alone i) l) ≡ add_group pinned (alone (g i)) (change_lists g l)
add-changed true g i l = λ x. record { pinned = push-changed g l.pinned i x; flexible = map (change_group g) l.flexible }
add-changed false g i l = λ x. record { pinned = map (change_group g) l.pinned; flexible = push-changed g l.flexible i x }

lists-are : (w : World) (child : TaskNo) → lists_of (stage_of w) (context.Task child) ≡ lists_at w (leaders_of w (context.Task child))
lists-are w child = get_or-map (lists_at w) w.contexts (place_of (context.Task child)) no_leaders

alone-changed : (w : World) (g : Instance → Instance) → Leaves w g → (child : TaskNo) (pinned : Bool) (i : Instance)
    → map (change_lists g) (change_context (context.Task child) (add_group pinned (alone i)) (stage_of w)).contexts
    ≡ (change_context (context.Task child) (add_group pinned (alone (g i))) (stage_of w)).contexts
alone-changed w g h child pinned i = grind (arith, nat_tests, lists-are, lists-left, map-set, contexts-left, add-changed)

-- a sibling in the last group
abbrev joins : World → Key → (Instance → Instance) → Instance → Key → Group
joins w m g i q = change_group g (join_id (instance_at w m).id i (group_at w q))

others-unjoined : (w : World) (m : Key) (g : Instance → Instance) (i : Instance) → AreNumbered (post_at w) w.quiet.next_id → is_live w m ≡ true → Leaves w g
    → (keys : List Key) → times m keys ≡ 0 → map (joins w m g i) keys ≡ map (group_at w) keys
others-unjoined w m g i numbered live h [] none = refl
others-unjoined w m g i numbered live h (q ∷ keys) none = elim (cases_eq q.0 m.0) [
  | inl e ↦ absurd (omega (arith, none, times-cons m q keys, once-true (is_key m q) (is_key-same m q e)))
  | inr apart ↦
      grind (arith, branch, id-apart, group-left, times-cons, others-unjoined w m g i numbered live h keys (omega (arith, none, times-cons m q keys)))
]

last-joins : (w : World) (m : Key) (g : Instance → Instance) (i : Instance) → Leaves w g → joins w m g i m ≡ joined (g i) (group_at w m)
last-joins w m g i h = grind (arith, nat_tests, group-left, branch, map-append)

list-joins : (w : World) (m : Key) (g : Instance → Instance) (i : Instance) → AreNumbered (post_at w) w.quiet.next_id → is_live w m ≡ true → Leaves w g
    → (before keys : List Key) → keys ≡ before ++ m ∷ [] → times m keys ≤ 1 → map (joins w m g i) keys ≡ join_last (g i) (map (group_at w) keys)
list-joins w m g i numbered live h before keys is once =
    let few : times m before ≡ 0 = omega (arith, once, ap (times m) is, times-push m before m, once-true (is_key m m) (is_key-same m m refl)) in
    grind (arith, nat_tests, map-append, others-unjoined, few, last-joins, join-pushed)

-- the lists of all contexts
same-items : {X : Type 0} (d : X) (xs ys : List X) → length xs ≡ length ys → ((p : ℕ) → slice_index_or xs p d ≡ slice_index_or ys p d) → xs ≡ ys
same-items d [] [] size h = refl
same-items d [] (y ∷ ys) size h = absurd (omega (arith, size))
same-items d (x ∷ xs) [] size h = absurd (omega (arith, size))
same-items d (x ∷ xs) (y ∷ ys) size h = rw (h zero, same-items d xs ys (omega (arith, size)) (λ p. h (suc p))) refl

abbrev joined_lists : World → Key → (Instance → Instance) → Instance → Leaders → Lists
joined_lists w m g i l = change_lists g (join_lists_id (instance_at w m).id i (lists_at w l))

joined-parts : (w : World) (m : Key) (g : Instance → Instance) (i : Instance) (keys : List Key)
    → map (change_group g) (map (join_id (instance_at w m).id i) (map (group_at w) keys)) ≡ map (joins w m g i) keys
joined-parts w m g i keys = grind (arith, nat_tests, map-map)

lists-by : (w : World) (m : Key) (g : Instance → Instance) (i : Instance) (l : Leaders) (pinned flexible : List Group)
    → map (joins w m g i) l.pinned ≡ pinned → map (joins w m g i) l.flexible ≡ flexible → joined_lists w m g i l ≡ record { pinned = pinned; flexible = flexible }
lists-by w m g i l pinned flexible hp hf = grind (arith, nat_tests, joined-parts)

lists-with : (w : World) (m : Key) (g : Instance → Instance) (i : Instance) → AreNumbered (post_at w) w.quiet.next_id → is_live w m ≡ true → Leaves w g
    → (pinned : Bool) (l : Leaders) → LeadsLast l pinned m → times m (leaders_in pinned l) ≤ 1 → times m (leaders_in (not pinned) l) ≡ 0
    → joined_lists w m g i l ≡ add_sibling pinned (g i) (lists_at w l)
lists-with w m g i numbered live h true l last once none = grind (arith, nat_tests, lists-by, list-joins, others-unjoined)
lists-with w m g i numbered live h false l last once none = grind (arith, nat_tests, lists-by, others-unjoined, list-joins)

times-in : (hw : Hardware) (w : World) → IsKept hw w → (m : Key) (place : ℕ) (b : Bool) → times m (leaders_in b (slice_index_or w.contexts place no_leaders)) ≡ once_if (leads_in (post_at w) place b m)
times-in hw w h m place true = h.linked.pinned m place
times-in hw w h m place false = h.linked.flexible m place

pub at-most-once : (b : Bool) → once_if b ≤ 1
at-most-once true = omega arith
at-most-once false = omega arith

stands-last : (l : Leaders) (pinned : Bool) (m : Key) → LeadsLast l pinned m → 1 ≤ times m (leaders_in pinned l)
stands-last l pinned m last = omega (arith, ap (times m) last.last, times-push m last.before m, once-true (is_key m m) (is_key-same m m refl))

joined-changed : (hw : Hardware) (w : World) (m : Key) (g : Instance → Instance) (i : Instance) (child : TaskNo) (pinned : Bool) → IsKept hw w → Leaves w g
    → leads (post_at w) m ≡ true → (entry_at w m).context ≡ context.Task child → LeadsLast (leaders_of w (context.Task child)) pinned m
    → map (change_lists g) (map (join_lists_id (instance_at w m).id i) (map (lists_at w) w.contexts))
    ≡ (change_context (context.Task child) (add_sibling pinned (g i)) (stage_of w)).contexts
joined-changed hw w m g i child pinned h leaves lead there last =
    let cs : List Lists = map (lists_at w) w.contexts in
    let place : ℕ = place_of (context.Task child) in
    let l : Leaders = leaders_of w (context.Task child) in
    let live : is_live w m ≡ true = (leads-parts (is_live w m) (is_key m (entry_at w m).leader) lead).0 in
    let new : Lists = add_sibling pinned (g i) (lists_of (stage_of w) (context.Task child)) in
    let low : place < length cs = omega (arith, h.numbered.places m live, h.shape.contexts, ap place_of there) in
    let once : times m (leaders_in pinned l) ≤ 1 = omega (arith, times-in hw w h m place pinned, at-most-once (leads_in (post_at w) place pinned m)) in
    let none : times m (leaders_in (not pinned) l) ≡ 0 = grind (arith, stands-last l pinned m last, times-in hw w h m place pinned) in
    let here : joined_lists w m g i l ≡ new = grind (arith, nat_tests, lists-with, lists-are) in
    let away : (p : ℕ) → (p ≡ place → ⊥) → joined_lists w m g i (slice_index_or w.contexts p no_leaders) ≡ lists_at w (slice_index_or w.contexts p no_leaders) = λ p off.
    (let nowhere : (b : Bool) → leads_in (post_at w) p b m ≡ false = λ b.
    middle_fails (leads (post_at w) m) (place_of (entry_at w m).context == p) (if (entry_at w m).pinned then b else not b)
    (let is : place_of (entry_at w m).context ≡ place = ap place_of there in grind (arith, nat_tests, off, is)) in
    let x : Leaders = slice_index_or w.contexts p no_leaders in
    lists-by w m g i x (map (group_at w) x.pinned) (map (group_at w) x.flexible)
    (others-unjoined w m g i h.numbered live leaves x.pinned (h.linked.pinned m p ∙ once-false (leads_in (post_at w) p true m) (nowhere true)))
    (others-unjoined w m g i h.numbered live leaves x.flexible (h.linked.flexible m p ∙ once-false (leads_in (post_at w) p false m) (nowhere false)))) in
    let whole : map (change_lists g) (map (join_lists_id (instance_at w m).id i) cs) ≡ map (joined_lists w m g i) w.contexts =
    grind (arith, nat_tests, map-map) in
    whole ∙ same-items no_groups (map (joined_lists w m g i) w.contexts) (slice_set cs place new)
    (length-map w.contexts (joined_lists w m g i) ∙ (sym (length-map w.contexts (lists_at w)) ∙ sym (length-set cs place new)))
    (λ p. get_or-map (joined_lists w m g i) w.contexts p no_leaders
    ∙ sym (at_place (λ x. x ≡ joined_lists w m g i (slice_index_or w.contexts p no_leaders)) cs place new no_groups p low
    (λ e. sym here ∙ ap (λ n. joined_lists w m g i (slice_index_or w.contexts n no_leaders)) (sym e))
    (λ off. get_or-map (lists_at w) w.contexts p no_leaders ∙ sym (away p off))))

-- the step of a copy
new-state : (w : World) (o : Own) (i : Instance) → i.id ≡ w.quiet.next_id → with_state o w.quiet.next_id i ≡ record i { own = o }
new-state w o i e = grind (arith, nat_tests)

-- the stage with these contexts and the id drawn, and what stands in the child's context by whether the instance leads
abbrev drawn_by : World → List Lists → Stage
drawn_by w cs = record (stage_of w) { contexts = cs; next_id = w.quiet.next_id + 1 }

added-by : (w : World) (child : TaskNo) (p : Parent) (i : Instance) (leads_it : Bool) → p.leads ≡ leads_it
    → drawn_by w (change_context (context.Task child) (λ l. if leads_it then add_group p.pinned (alone i) l else add_sibling p.pinned i l) (stage_of w)).contexts ≡ add_instance child p i (stage_of w)
added-by w child p i leads_it e = grind (arith, nat_tests)

copy-adds : (hw : Hardware) (w : World) (child : TaskNo) (p : Parent) (leader : Option Key) → IsKept hw w → HasRoom w (copy_from w child p.instance leader) leader → FollowsParent w child p leader
    → change_one (λ i. record i { own = copied_state p.instance.own }) w.quiet.next_id
    (counted_in (copy_from w child p.instance leader) (instance_comes w (copy_from w child p.instance leader) leader (stage_of w)))
    ≡ add_instance child p (copy_of (stage_of w) w.quiet.next_id p.instance) (stage_of w)
copy-adds hw w child p None h room follows = grind (arith, nat_tests, alone-changed, new-state, added-by)
copy-adds hw w child p (Some m) h room follows =
    let o : Own = copied_state p.instance.own in
    let i : Instance = new_instance w (copy_from w child p.instance (Some m)) in
    let copy : Instance = copy_of (stage_of w) w.quiet.next_id p.instance in
    ap (drawn_by w) (joined-changed hw w m (with_state o w.quiet.next_id) i child p.pinned h (state-leaves w o h.numbered) room.0 room.1 follows.1)
    ∙ (ap {A = Instance} (λ x. drawn_by w (change_context (context.Task child) (add_sibling p.pinned x) (stage_of w)).contexts) (new-state w o i refl) ∙ added-by w child p copy false follows.0)

copy-live : (w : World) (k : Key) (n : Newcomer) → is_live w k ≡ false → HasRoom w n n.leader → is_live (add k n w) k ≡ true
copy-live w k n dead room = ap (λ x. x.live) (comes-by w k n dead n.leader room).new

pub copy-stage : CopyLaw
copy-stage hw w k child p leader h may of room follows =
    let n : Newcomer = copy_from w child p.instance leader in
    let t : World = add k n w in
    let kept : IsKept hw t = add-kept hw w k n may of room h in
    let id : (instance_at t k).id ≡ w.quiet.next_id = ap (λ e. e.instance.id) (new-entry_at w k n leader) ∙ ap (λ i. i.id) (entry-instance w k n leader) in
    own-stage hw t k (copied_state p.instance.own) kept (copy-live w k n may.fresh room)
    ∙ (ap (λ x. change_one (λ i. record i { own = copied_state p.instance.own }) x (stage_of t)) id
    ∙ (ap (change_one (λ i. record i { own = copied_state p.instance.own }) w.quiet.next_id) (add-stage hw w k n h may room)
    ∙ copy-adds hw w child p leader h room follows))

no-error : (b : Bool) (o : Own) → is_ready o ≡ b → is_error (copied_state o) ≡ false
no-error true o h = rw h refl
no-error false o h = rw h refl

pub copy-kept : CopyKeptLaw
copy-kept hw w k child i leader may of room h =
    let n : Newcomer = copy_from w child i leader in
    let t : World = add k n w in
    let kept : IsKept hw t = add-kept hw w k n may of room h in
    own-kept hw t k (copied_state i.own) (copy-live w k n may.fresh room) (λ error. absurd (false≢true (sym (no-error (is_ready i.own) i.own refl) ∙ error))) kept
