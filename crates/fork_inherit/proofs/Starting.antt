-- That a fork which is not refused may copy both lists of its parent.
use Rattle.std.specs.Prelude.{◌≡◌, ℕ, suc, zero, ◌+◌, ◌^◌, ◌<◌, ◌≤◌, ◌==◌, nat_lt, Bool, true, false, not, All, List, [], ◌∷◌, length, map, Some, None, if◌then◌else◌}
use Rattle.std.proofs.{Common.{arith, refl, sym, ap, subst, ◌∙◌, inl, inr}, lemmas.Bool.{cases_Bool, false≢true, Decides.{nat_tests}}}
use Rattle.std.proofs.{lemmas.List.{length-map, Concat.{length-flat_map}}, Math.ListN.{get_or-map}}
use Rattle.perf_base.specs.declared.numbers.{CpuNo.{CpuNo}, Key.{Key}, TaskNo.{TaskNo}}
use Rattle.perf_base.specs.declared.standing.Context.TheVariants as context
use Rattle.stage_spec.specs.{Flags.{is_pinned}, Forks.{fork_refusal, new_copies}}
use Rattle.stage_spec.specs.Stage.{Group, no_groups, lists_of, live_copies, place_of, task_on, status_of, was_used}
use Rattle.stage_laws.{specs.Sound.{IsSound, AreListed}, proofs.Tasks.{first-clear, rest-clear}}
use Rattle.stage_laws.proofs.{Totals.{total-same, sum_by-is-total}, Counts.{count-append}}
use Rattle.world_spec.specs.{Kept.{post_at, leads, copies_in, IsKept}, StageOf.{group_at, lists_at, stage_of}}
use Rattle.world_spec.specs.Value.{World, Leaders, no_leaders, leaders_of, is_live, entry_at, instance_at, is_key, times}
use Rattle.world_spec.proofs.{Families.{leaders_both, leaders-at, copies-are}, Keys.{key-is, is_key-true, times-cons, once-false}}
use Rattle.fork_inherit.specs.Copies.{copies_of_all, inherited_keys, leaders_from, MayCopyList}
use Rattle.fork_inherit.proofs.{Listed.{in-list}, Room.{copies-new}}
use Rattle.world_spec.proofs.{Along.{once-three}, Placing.{task-low}, Tables.{same_number}}
use Rattle.stage_laws.proofs.OpenHomes.{live-used}

-- what a fork that is not refused says
pub record IsFree (v : World) (cpu : CpuNo) (child parent : TaskNo) : Type 0 where
  pub on : task_on (stage_of v) cpu ≡ Some parent
  pub fresh : was_used (status_of (stage_of v) child).state ≡ false
  pub room : live_copies (stage_of v) + new_copies (lists_of (stage_of v) (context.Task parent)) ≤ 4096

not-less : (m n : ℕ) → nat_lt m n ≡ false → n ≤ m
not-less m n h = grind (arith, nat_tests, h)

pub is-free : (v : World) (cpu : CpuNo) (child parent : TaskNo) → task_on (stage_of v) cpu ≡ Some parent → fork_refusal (stage_of v) cpu child ≡ None → IsFree v cpu child parent
is-free v cpu child parent on free = grind (arith, nat_tests, rest-clear, first-clear, not-less)

-- the child is not on a processor, nor is it the parent
pub not-on : (v : World) (cpu : CpuNo) (child parent other : TaskNo) (at : CpuNo) → IsKept v.hardware v → IsFree v cpu child parent → task_on (stage_of v) at ≡ Some other → other.0 ≡ child.0 → ⊥
not-on v cpu child parent other at h free on same = grind (arith, nat_tests, false≢true, live-used)

-- no instance stands in the child's context
no-times : (q : Key) (keys : List Key) → length keys ≡ 0 → times q keys ≡ 0
no-times q [] none = refl
no-times q (x ∷ keys) none = absurd (omega (arith, none))

pub none-in : (v : World) (child : TaskNo) (j : Key) → IsKept v.hardware v → lists_of (stage_of v) (context.Task child) ≡ no_groups → is_live v j ≡ true → place_of (entry_at v j).context ≡ 8 + child.0 → ⊥
none-in v child j h empty live at =
    let l : Leaders = leaders_of v (context.Task child) in
    let lists : lists_at v l ≡ no_groups = sym (get_or-map (lists_at v) v.contexts (place_of (context.Task child)) no_leaders) ∙ empty in
    let q : Key = (entry_at v j).leader in
    let there : (place_of (entry_at v q).context == 8 + child.0) ≡ true = same_number (place_of (entry_at v q).context) (8 + child.0) (ap place_of (h.grouped.together j live) ∙ at) in
    let one : times q (leaders_both l) ≡ 1 = grind (arith, nat_tests, leaders-at) in
    let pinned : times q l.pinned ≡ 0 = no-times q l.pinned (sym (length-map l.pinned (group_at v)) ∙ ap (λ x. length x.pinned) lists) in
    let flexible : times q l.flexible ≡ 0 = no-times q l.flexible (sym (length-map l.flexible (group_at v)) ∙ ap (λ x. length x.flexible) lists) in
    omega (arith, one, pinned, flexible, count-append (is_key q) l.pinned l.flexible)

-- leaders stand in the list of their flag
all-at : (P : Group → Type 0) (v : World) (keys : List Key) → All P (map (group_at v) keys) → (q : Key) → 1 ≤ times q keys → P (group_at v q)
all-at P v [] h q some = absurd (omega (arith, some))
all-at P v (x ∷ keys) h q some = elim (cases_Bool (is_key q x)) [
  | inl same ↦ subst (λ y. P (group_at v y)) (key-is x q (is_key-true q x same)) (h zero (group_at v x) (omega arith))
  | inr off ↦ all-at P v keys (λ i d low. h (suc i) d (omega (arith, low))) q (omega (arith, some, times-cons q x keys, once-false (is_key q x) off))
]

by-flag : (pinned b : Bool) → (if pinned then b else not b) ≡ true → pinned ≡ b
by-flag true b h = sym h
by-flag false true h = absurd (false≢true h)
by-flag false false h = refl

pub flag-is : (v : World) (parent : TaskNo) (b : Bool) → IsKept v.hardware v → (q : Key) → 1 ≤ times q (leaders_from v parent b) → (entry_at v q).pinned ≡ b
flag-is v parent b h q some =
    by-flag (entry_at v q).pinned b (once-three (leads (post_at v) q) (place_of (entry_at v q).context == 8 + parent.0) (if (entry_at v q).pinned then b else not b) (omega (arith, some, in-list v parent b h q))).2

are-listed : (v : World) (parent : TaskNo) → IsKept v.hardware v → parent.0 < 64 → IsSound v.hardware (stage_of v) → AreListed (lists_at v (leaders_of v (context.Task parent)))
are-listed v parent h low sound =
    subst AreListed (get_or-map (lists_at v) v.contexts (place_of (context.Task parent)) no_leaders)
    (sound.grouped.lists (place_of (context.Task parent)) no_groups (omega (arith, low, h.shape.contexts)))

pub listed : (v : World) (parent : TaskNo) (b : Bool) → IsKept v.hardware v → parent.0 < 64 → IsSound v.hardware (stage_of v) → (q : Key) → 1 ≤ times q (leaders_from v parent b)
    → is_pinned (instance_at v q).attr ≡ (entry_at v q).pinned
listed v parent true h low sound q some =
    all-at (λ g. is_pinned g.leader.attr ≡ true) v (leaders_from v parent true) (are-listed v parent h low sound).pinned q some ∙ sym (flag-is v parent true h q some)
listed v parent false h low sound q some =
    all-at (λ g. is_pinned g.leader.attr ≡ false) v (leaders_from v parent false) (are-listed v parent h low sound).flexible q some ∙ sym (flag-is v parent false h q some)

-- how many are copied
chosen-size : (b : Bool) (keys : List Key) → length (if b then keys else []) ≡ (if b then length keys else 0)
chosen-size true keys = refl
chosen-size false keys = refl

pub keys-size : (v : World) (keys : List Key) → length (inherited_keys v keys) ≡ copies_of_all v keys
keys-size v keys = grind (arith, nat_tests, length-flat_map, sum_by-is-total, total-same, chosen-size)

pub all-fit : (v : World) (cpu : CpuNo) (child parent : TaskNo) → IsKept v.hardware v → IsFree v cpu child parent
    → copies_in v.families + (length (inherited_keys v (leaders_from v parent true)) + length (inherited_keys v (leaders_from v parent false))) ≤ 4096
all-fit v cpu child parent h free =
    omega (
      arith,
      free.room,
      copies-are v.hardware v h,
      copies-new v.hardware v (context.Task parent) h,
      keys-size v (leaders_from v parent true),
      keys-size v (leaders_from v parent false),
    )

pub may-pinned : (v : World) (cpu : CpuNo) (child parent : TaskNo) → IsKept v.hardware v → IsSound v.hardware (stage_of v) → child.0 < 64 → v.quiet.next_id + 4097 < 2 ^ 63 → IsFree v cpu child parent
    → MayCopyList child parent true v
may-pinned v cpu child parent h sound low room free =
    let parent_low : parent.0 < 64 = task-low v.hardware v cpu parent h free.on in
    record {
      numbers = (low, parent_low, not-on v cpu child parent parent cpu h free free.on);
      listed = listed v parent true h parent_low sound;
      none_there = λ j k live at some same. none-in v child j h (sound.placed.unknown child free.fresh) live at;
      ids = omega (arith, room, all-fit v cpu child parent h free);
      few = omega (arith, all-fit v cpu child parent h free);
    }
