-- What a fork leaves: the stage is the definitions', and processors stand as they stood.
use Rattle.std.specs.Prelude.{◌≡◌, ◌+◌, ◌^◌, ◌<◌, ◌≤◌, Bool, true, false, ◌&&◌, List, [], ◌∷◌, ◌++◌, length, map, flat_map, slice_index_or, if◌then◌else◌}
use Rattle.std.proofs.{Common.{arith, refl, sym, ap, subst, ◌∙◌, inl, inr}, lemmas.{Bool.{cases_Bool, false≢true}, List.{map-append}, Simd.{map-map}}}
use Rattle.std.proofs.Math.ListN.{get_or-map}
use Rattle.perf_base.specs.declared.{numbers.{CpuNo.{CpuNo}, Key.{Key}, TaskNo.{TaskNo}}}
use Rattle.perf_base.specs.declared.standing.Context.TheVariants as context
use Rattle.stage_spec.specs.{Flags.{is_inherited, is_pinned}, Forks.{inherited_groups, copied, forked}}
use Rattle.stage_spec.specs.{Stage.{Stage, Group, lists_of, place_of, task_on, is_task, set_status, fresh_task}, Verdict.{task_lists}}
use Rattle.stage_laws.specs.{Narrowing.{has_context}, OneByOne.{parents_in, fork_parents, add_copies}, Sound.{IsSound}}
use Rattle.stage_laws.proofs.{EachSettled.{briefs-of_passes}, OneByOneCopies.{forked_one_by_one}, Others.{ReachesSame, passes-same, task-changed}}
use Rattle.stage_laws.proofs.Tasks.{has-same, is_task-some}
use Rattle.counter_match.specs.Seating.{empty_seating}
use Rattle.world_spec.specs.{Changes.{add_task}, Kept.{post_at, leads, IsKept}, Rescheduled.{IsUntouched}}
use Rattle.world_spec.specs.StageOf.{after_first, group_at, lists_at, stage_of}
use Rattle.world_spec.{specs.Value.{World, Entry, no_leaders, is_live, entry_at, instance_at, is_key, times}, proofs.GoneLeader.{siblings-stand}}
use Rattle.world_spec.proofs.{GoneLeaderStage.{map-within, leading-first, leading-rest}, GoneStage.{AreLeading}}
use Rattle.world_spec.proofs.{Keys.{key-is, is_key-same, is_key-other, is_key-true, times-cons, once-true}, Moving.{leads-parts}}
use Rattle.world_spec.proofs.{Placing.{task-low}, Standing.{left-untouched}}
use Rattle.fork_inherit.specs.Copies.{parent_of, inherited_members, inherited_keys, leaders_from, IsNewCopy, AreCopied, MayCopyList, HasForked}
use Rattle.fork_inherit.proofs.{Group.{IsMember, member-of}, Listed.{IsInherited, inherited-key, led-place, same-list, copied-then}}
use Rattle.fork_inherit.proofs.{Room.{list-leads}, Starting.{IsFree, not-on, none-in, listed, flag-is, all-fit}}

-- the flexible groups, after the pinned ones
same-inherited : (child : TaskNo) (v w : World) (done keys : List Key) → AreCopied child v w done → ((q : Key) → 1 ≤ times q keys → is_live v q ≡ true) → inherited_keys w keys ≡ inherited_keys v keys
same-inherited child v w done [] f lives = refl
same-inherited child v w done (q ∷ keys) f lives =
    let entry : entry_at w q ≡ entry_at v q = f.entries q (lives q (omega (arith, times-cons q q keys, once-true (is_key q q) (is_key-same q q refl)))) in
    let rest : inherited_keys w keys ≡ inherited_keys v keys = same-inherited child v w done keys f (λ x some. lives x (omega (arith, some, times-cons x q keys))) in
    λ i. (if is_inherited (entry i).instance.attr then (entry i).members else []) ++ rest i

leaders-live : (v : World) (parent : TaskNo) (b : Bool) → IsKept v.hardware v → (q : Key) → 1 ≤ times q (leaders_from v parent b) → is_live v q ≡ true
leaders-live v parent b h q some = (leads-parts (is_live v q) (is_key q (entry_at v q).leader) (list-leads v.hardware v (context.Task parent) b h q some)).0

pub flexible-keys : (v w : World) (cpu : CpuNo) (child parent : TaskNo) (done : List Key) → IsKept v.hardware v → IsFree v cpu child parent → AreCopied child v w done
    → inherited_keys w (leaders_from w parent false) ≡ inherited_keys v (leaders_from v parent false)
flexible-keys v w cpu child parent done h free f =
    ap (inherited_keys w) (same-list child parent false v w done (not-on v cpu child parent parent cpu h free free.on) f)
    ∙ same-inherited child v w done (leaders_from v parent false) f (leaders-live v parent false h)

pub may-flexible : (v w : World) (cpu : CpuNo) (child parent : TaskNo) → IsKept v.hardware v → IsSound v.hardware (stage_of v) → child.0 < 64 → v.quiet.next_id + 4097 < 2 ^ 63 → IsFree v cpu child parent
    → AreCopied child v w (inherited_keys v (leaders_from v parent true)) → MayCopyList child parent false w
may-flexible v w cpu child parent h sound low room free f =
    let done : List Key = inherited_keys v (leaders_from v parent true) in
    let apart : parent.0 ≡ child.0 → ⊥ = not-on v cpu child parent parent cpu h free free.on in
    let parent_low : parent.0 < 64 = task-low v.hardware v cpu parent h free.on in
    let list : leaders_from w parent false ≡ leaders_from v parent false = same-list child parent false v w done apart f in
    let keys : inherited_keys w (leaders_from w parent false) ≡ inherited_keys v (leaders_from v parent false) = flexible-keys v w cpu child parent done h free f in
    record {
      numbers = (low, parent_low, apart);
      listed = λ k some.
          (let there : 1 ≤ times k (leaders_from v parent false) = subst (λ ks. 1 ≤ times k ks) list some in
          subst (λ (e : Entry). is_pinned e.instance.attr ≡ e.pinned) (sym (f.entries k (leaders-live v parent false h k there))) (listed v parent false h parent_low sound k there));
      none_there = λ j k live at some same.
          (let second : IsInherited v (leaders_from v parent false) k = inherited-key v (leaders_from v parent false) k h (subst (λ ks. 1 ≤ times k ks) keys some) in
          let event : (instance_at w j).event.0 ≡ (instance_at v k).event.0 = same ∙ ap (λ e. e.instance.event.0) (f.entries k second.live) in
          elim (cases_Bool (is_live v j)) [
            | inl was ↦ none-in v child j h (sound.placed.unknown child free.fresh) was (ap (λ e. place_of e.context) (sym (f.entries j was)) ∙ at)
            | inr none ↦
                let x : IsNewCopy child v w done j = f.fresh j none live in
                let y : Key = x.parent.0 in
                let first : IsInherited v (leaders_from v parent true) y = inherited-key v (leaders_from v parent true) y h x.parent.1 in
                let one : place_of (entry_at v y).context ≡ 8 + parent.0 = ap place_of first.together ∙ led-place v parent true h (entry_at v y).leader first.leader in
                let two : place_of (entry_at v k).context ≡ 8 + parent.0 = ap place_of second.together ∙ led-place v parent false h (entry_at v k).leader second.leader in
                let is : y ≡ k = h.apart.one_each y k first.live second.live (ap (λ e. e.0) (sym x.parent.2) ∙ event) (one ∙ sym two) in
                let leader : 1 ≤ times (entry_at v k).leader (leaders_from v parent true) = subst (λ z. 1 ≤ times (entry_at v z).leader (leaders_from v parent true)) is first.leader in
                false≢true (sym (flag-is v parent false h (entry_at v k).leader second.leader) ∙ flag-is v parent true h (entry_at v k).leader leader)
          ]);
      ids = omega (arith, room, ap (λ x. x.next_id) f.quiet, ap length keys, all-fit v cpu child parent h free);
      few = omega (arith, f.few, ap length keys, all-fit v cpu child parent h free);
    }

-- both lists
pub both-copied : (v w t : World) (cpu : CpuNo) (child parent : TaskNo) → IsKept v.hardware v → IsFree v cpu child parent → AreCopied child v w (inherited_keys v (leaders_from v parent true))
    → AreCopied child w t (inherited_keys w (leaders_from w parent false)) → AreCopied child v t (inherited_keys v (leaders_from v parent true) ++ inherited_keys v (leaders_from v parent false))
both-copied v w t cpu child parent h free f g =
    copied-then child v w t (inherited_keys v (leaders_from v parent true)) (inherited_keys v (leaders_from v parent false)) h f
    (subst (AreCopied child w t) (flexible-keys v w cpu child parent (inherited_keys v (leaders_from v parent true)) h free f) g)
    (λ q some. (inherited-key v (leaders_from v parent false) q h some).live)

-- the parents by their keys
group-parents : (v : World) (b : Bool) (q : Key) → IsKept v.hardware v → leads (post_at v) q ≡ true → (entry_at v q).pinned ≡ b → parents_in b (group_at v q) ≡ map (parent_of v) (entry_at v q).members
group-parents v b q h lead flag =
    let parts : (is_live v q ≡ true) × (is_key q (entry_at v q).leader ≡ true) = leads-parts (is_live v q) (is_key q (entry_at v q).leader) lead in
    let own : (entry_at v q).leader ≡ q = key-is (entry_at v q).leader q (is_key-true q (entry_at v q).leader parts.1) in
    let rest : List Key = after_first (entry_at v q).members in
    let all : (entry_at v q).members ≡ q ∷ rest = h.grouped.leader_first q lead in
    let first : parent_of v q ≡ record { instance = instance_at v q; leads = true; pinned = b } =
    λ i. record { instance = instance_at v q; leads = parts.1 i; pinned = (ap (λ k. (entry_at v k).pinned) own ∙ flag) i } in
    let each : map (parent_of v) rest ≡ map (λ j. record { instance = instance_at v j; leads = false; pinned = b }) rest =
    map-within (parent_of v) (λ j. record { instance = instance_at v j; leads = false; pinned = b }) rest (λ j some.
    (let m : IsMember v q j = member-of v q j h (omega (arith, some, ap (times j) all, times-cons j q rest)) in
    let apart : q.0 ≡ j.0 → ⊥ = λ e. omega (arith, some, (siblings-stand v.hardware v q h lead).not_itself, ap (λ k. times k rest) (key-is q j e)) in
    let sibling : is_key j (entry_at v j).leader ≡ false = ap (is_key j) m.led ∙ is_key-other j q apart in
    λ i. record { instance = instance_at v j; leads = sibling i; pinned = (ap (λ k. (entry_at v k).pinned) m.led ∙ flag) i })) in
    let mapped : map (λ i. record { instance = i; leads = false; pinned = b }) (map (instance_at v) rest) ≡ map (λ j. record { instance = instance_at v j; leads = false; pinned = b }) rest =
    map-map (λ i. record { instance = i; leads = false; pinned = b }) (instance_at v) rest in
    sym (ap (map (parent_of v)) all ∙ (λ i. first i ∷ (each ∙ sym mapped) i))

one-parents : (v : World) (b wanted : Bool) (q : Key) (gs : List Group) → is_inherited (instance_at v q).attr ≡ wanted → parents_in b (group_at v q) ≡ map (parent_of v) (entry_at v q).members
    → flat_map (parents_in b) (inherited_groups (group_at v q ∷ gs)) ≡ map (parent_of v) (inherited_members v q) ++ flat_map (parents_in b) (inherited_groups gs)
one-parents v b true q gs is same = grind arith
one-parents v b false q gs is same = grind arith

list-parents : (v : World) (b : Bool) (keys : List Key) → IsKept v.hardware v → AreLeading v keys → ((q : Key) → 1 ≤ times q keys → (entry_at v q).pinned ≡ b)
    → flat_map (parents_in b) (inherited_groups (map (group_at v) keys)) ≡ map (parent_of v) (inherited_keys v keys)
list-parents v b [] h lead flag = refl
list-parents v b (q ∷ keys) h lead flag =
    one-parents v b (is_inherited (instance_at v q).attr) q (map (group_at v) keys) refl
    (group-parents v b q h (leading-first v q keys lead) (flag q (omega (arith, times-cons q q keys, once-true (is_key q q) (is_key-same q q refl)))))
    ∙ (ap (λ ps. map (parent_of v) (inherited_members v q) ++ ps) (list-parents v b keys h (leading-rest v q keys lead) (λ x some. flag x (omega (arith, some, times-cons x q keys))))
    ∙ sym (map-append (parent_of v) (inherited_members v q) (inherited_keys v keys)))

all-parents : (v : World) (parent : TaskNo) → IsKept v.hardware v
    → fork_parents (lists_of (stage_of v) (context.Task parent)) ≡ map (parent_of v) (inherited_keys v (leaders_from v parent true) ++ inherited_keys v (leaders_from v parent false))
all-parents v parent h =
    ap fork_parents (get_or-map (lists_at v) v.contexts (place_of (context.Task parent)) no_leaders)
    ∙ ((λ i. list-parents v true (leaders_from v parent true) h (list-leads v.hardware v (context.Task parent) true h) (flag-is v parent true h) i
    ++ list-parents v false (leaders_from v parent false) h (list-leads v.hardware v (context.Task parent) false h) (flag-is v parent false h) i)
    ∙ sym (map-append (parent_of v) (inherited_keys v (leaders_from v parent true)) (inherited_keys v (leaders_from v parent false))))

abbrev pub both_keys : World → TaskNo → List Key
both_keys v parent = inherited_keys v (leaders_from v parent true) ++ inherited_keys v (leaders_from v parent false)

-- the stage
pub fork-stage : (v t x : World) (cpu : CpuNo) (child parent : TaskNo) → IsKept v.hardware v → IsSound v.hardware (stage_of v) → IsFree v cpu child parent → AreCopied child v t (both_keys v parent)
    → stage_of x ≡ set_status child fresh_task (stage_of t) → stage_of x ≡ forked cpu child (stage_of v)
fork-stage v t x cpu child parent h sound free f is =
    is ∙ (ap (set_status child fresh_task) f.stage
    ∙ (ap (λ ps. set_status child fresh_task (add_copies child ps (stage_of v))) (sym (all-parents v parent h) ∙ ap (λ o. fork_parents (task_lists (stage_of v) o)) (sym free.on))
    ∙ forked_one_by_one cpu child (stage_of v) sound.placed free.fresh))

-- all that was there stays
pub has-forked : (v t x : World) (child parent : TaskNo) → AreCopied child v t (both_keys v parent) → x ≡ add_task child t → HasForked child v x
has-forked v t x child parent f is = grind arith

-- processors
fork-reaches : (v : World) (cpu other : CpuNo) (child parent : TaskNo) → IsKept v.hardware v → IsFree v cpu child parent → ReachesSame (stage_of v) (forked cpu child (stage_of v)) other
unfolding forked
fork-reaches v cpu other child parent h free =
    let s : Stage = stage_of v in
    let r : ReachesSame s _ other = task-changed child other (λ l. copied s (task_lists s (task_on s cpu))) s h.shape.contexts (λ here on same. not-on v cpu child parent here other h free on same) in
    record { running = r.running; own = r.own; task = r.task }

pub fork-others : (v t x : World) (cpu other : CpuNo) (child parent : TaskNo) → IsKept v.hardware v → IsFree v cpu child parent → AreCopied child v t (both_keys v parent) → x ≡ add_task child t
    → stage_of x ≡ forked cpu child (stage_of v) → other.0 < 8 → IsUntouched v.hardware v x other
fork-others v t x cpu other child parent h free f is stage low =
    let r : ReachesSame (stage_of v) (stage_of x) other = subst (λ s. ReachesSame (stage_of v) s other) (sym stage) (fork-reaches v cpu other child parent h free) in
    let g : HasForked child v x = has-forked v t x child parent f is in
    left-untouched v.hardware v x other low (record {
      briefs = briefs-of_passes v.hardware other (stage_of v) (stage_of x) (passes-same (stage_of v) (stage_of x) other r);
      seats = ap (λ q. slice_index_or q.seats other.0 (empty_seating 0)) g.quiet;
      groups = λ k lead has.
          let live : is_live x k ≡ true = (leads-parts (is_live x k) (is_key k (entry_at x k).leader) lead).0 in
          let here : has_context (stage_of v) other (entry_at x k).context ≡ true = sym (has-same (stage_of v) (stage_of x) other (entry_at x k).context r.running) ∙ has in
          let was : is_live v k ≡ true = elim (cases_Bool (is_live v k)) [
            | inl there ↦ there
            | inr none ↦
                let task : is_task (task_on (stage_of v) other) child ≡ true = ap (has_context (stage_of v) other) (sym (g.places k none live)) ∙ here in
                absurd (not-on v cpu child parent child other h free (is_task-some (task_on (stage_of v) other) child task) refl)
          ] in
          let entry : entry_at x k ≡ entry_at v k = g.entries k was in (
            (λ i. was i && is_key k (sym entry i).leader) ∙ (leads-parts (is_live x k) (is_key k (entry_at x k).leader) lead).1,
            ap (λ e. has_context (stage_of v) other e.context) (sym entry) ∙ here,
            ap (λ e. e.instance.id) entry,
            g.standings k was,
          );
    })
