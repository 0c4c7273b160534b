-- An open keeps where instances stand: the new original comes to the context of its attribute, and its slot had no
-- instance.
use Rattle.std.specs.Prelude.{◌≡◌, ℕ, ◌+◌, ◌*◌, ◌<◌, ◌≤◌, ◌==◌, Bool, true, false, not, ◌&&◌, [], length, cond, Option, Some, None, slice_index_or}
use Rattle.std.proofs.Common.{refl, sym, ap, ◌∙◌, arith}
use Rattle.std.proofs.lemmas.Bool.{both_ways, and_parts, not-true, not-false, eq-eqb, ne_eqb, false≢true}
use Rattle.perf_base.specs.declared.{numbers.{EventNo.{EventNo}, TaskNo.{TaskNo}}, attr.{Attr.{Attr}, TaskSel.{TaskSel}, CpuSel.{CpuSel}}}
use Rattle.perf_base.specs.{declared.standing.Context.{Context}, Contexts.{context_of, context_by}}
use Rattle.perf_base.specs.declared.attr.TaskSel.TheVariants as tasks
use Rattle.perf_base.specs.declared.attr.CpuSel.TheVariants as cpus
use Rattle.perf_base.specs.declared.standing.Context.TheVariants as context
use Rattle.stage_spec.specs.{declared.instance.{Instance.{Instance}, TaskState.{TaskState}}, Flags.{is_pinned}, Hardware.{Hardware}}
use Rattle.stage_spec.specs.Places.{is_same_task, is_same_cpu}
use Rattle.stage_spec.specs.Stage.{Stage, alone, Lists, lists_of, groups_in, no_groups, place_of, is_original, is_of_family, original_of, all_instances, status_of, is_live, was_used}
use Rattle.stage_spec.specs.Opening.{is_used, placed, add_group, join_lists, new_original, names_no_task}
use Rattle.stage_spec.proofs.{Each.{none-Each, cons-Each, InLists, no_groups-In}, Contexts.{At, At-from_each, both-At, change_context-at, map-at}}
use Rattle.stage_spec.proofs.Inside.{weaker-in, both-in, add_group-in, join_lists-in, InStage-from_all}
use Rattle.stage_spec.specs.declared.instance.TaskState.TheVariants as state
use Rattle.stage_laws.{specs.Sound.{IsNumbered}, proofs.{Accepted.{IsAccepted}, Leaders.{none_counted, found_only}}}
use Rattle.stage_laws.proofs.Grouped.{same_task, same_cpu, holds_of-some}
use Rattle.stage_laws.proofs.Totals.{total, total-append, total-le, total-times, get_or-le-total, one_if}
use Rattle.stage_laws.proofs.Weights.{weigh, lists_weight, group_weight, no_groups-weigh, weigh-is-count}
use Rattle.stage_laws.proofs.Gains.{leads, added-weighs, join_lists-weigh, leads-le}
use Rattle.stage_laws.proofs.Homes.{of_period, context_at, context_at-place, state_at, StandsIn, IsHome, IsHome-table, no_groups-home}
use Rattle.stage_laws.proofs.Origins.{IsFamilied}

-- the slot is new: no instance is of its family
no_family : (s : Stage) (slot : EventNo) → IsNumbered s → IsFamilied s → is_used s slot ≡ false → weigh (one_if (is_of_family slot)) s ≡ 0
no_family s slot n h unused = h slot (sym (weigh-is-count (is_original slot) s) ∙ n.used slot unused)

others : (s : Stage) (slot : EventNo) → weigh (one_if (is_of_family slot)) s ≡ 0 → At (λ n. InLists (λ i. is_of_family slot i ≡ false)) s
others s slot none =
    At-from_each (InLists (λ i. is_of_family slot i ≡ false)) (no_groups-In (λ i. is_of_family slot i ≡ false)) s
    (InStage-from_all (λ i. is_of_family slot i ≡ false) s (none_counted (is_of_family slot) (all_instances s) (weigh-is-count (is_of_family slot) s ∙ none)))

-- the table with the attribute of the new slot
abbrev pub with_slot : EventNo → Attr → (ℕ → Attr) → ℕ → Attr
with_slot slot a table m = cond (m == slot.0) a (table m)

with_slot-other : (slot : EventNo) (a : Attr) (table : ℕ → Attr) (i : Instance) → is_of_family slot i ≡ false → with_slot slot a table i.event.0 ≡ table i.event.0
with_slot-other slot a table i h = ap (λ b. cond b a (table i.event.0)) h

with_slot-same : (slot : EventNo) (a : Attr) (table : ℕ → Attr) → with_slot slot a table slot.0 ≡ a
with_slot-same slot a table = ap (λ b. cond b a (table slot.0)) (eq-eqb slot.0 slot.0 refl)

-- the new original in the context of its attribute
new-stands : (s : Stage) (slot : EventNo) (a : Attr) (table : ℕ → Attr) (c : Context) → context_of a ≡ c → StandsIn s.tasks (with_slot slot a table) c (new_original s slot a)
new-stands s slot a table c h = record {
  attr = sym (ap (of_period a.period) (with_slot-same slot a table));
  original = λ k. h;
  copied = λ k. absurd (false≢true k);
}

abbrev is_task_context : Context → Bool
is_task_context (context.Processor cpu) = false
is_task_context (context.Task task) = true

named-live : (s : Stage) (named : TaskSel) (cpu : CpuSel) (task : TaskNo) → context_by named cpu ≡ context.Task task → names_no_task s named ≡ false → is_live (status_of s task).state ≡ true
named-live s (tasks.One other) cpu task h k = grind (arith, not-false)
named-live s tasks.All (cpus.One cpu) task h k = absurd (false≢true (ap is_task_context h))
named-live s tasks.All cpus.Any task h k = absurd (false≢true (ap is_task_context h))

pub live-used : (t : TaskState) → is_live t ≡ true → was_used t ≡ true
live-used state.Unknown h = absurd (false≢true h)
live-used state.Live h = refl
live-used state.Exited h = absurd (false≢true h)

abbrev one_or_none : Bool → ℕ
one_or_none b = cond b 1 0

-- at most one of a family, with one more where there was none
one_more : (n m : ℕ) (slot e : EventNo) → n ≤ 1 → (slot.0 ≡ e.0 → n ≡ 0) → m ≡ one_or_none (slot.0 == e.0) → n + m ≤ 1
one_more n m slot e few none is = grind (arith, eq-eqb, ne_eqb)

none_of : (s : Stage) (slot e : EventNo) (n : ℕ) → weigh (one_if (is_of_family slot)) s ≡ 0 → (l : Lists) → lists_weight (one_if (is_of_family slot)) l ≤ weigh (one_if (is_of_family slot)) s
    → slot.0 ≡ e.0 → lists_weight (one_if (is_of_family e)) l ≡ 0
none_of s slot e n none l within same = grind (arith, lists_weight, one_if)

-- alone
alone-home : (s : Stage) (slot : EventNo) (a : Attr) (table : ℕ → Attr) → names_no_task s a.task ≡ false → weigh (one_if (is_of_family slot)) s ≡ 0 → place_of (context_of a) < 72
    → (l : Lists) → lists_weight (one_if (is_of_family slot)) l ≤ weigh (one_if (is_of_family slot)) s
    → IsHome s.tasks (with_slot slot a table) (place_of (context_of a)) l
    → IsHome s.tasks (with_slot slot a table) (place_of (context_of a)) (add_group (is_pinned a) (alone (new_original s slot a)) l)
alone-home s slot a table named none place l within h =
    let i : Instance = new_original s slot a in
    let c : Context = context_at (place_of (context_of a)) in
    let at : context_of a ≡ c = sym (context_at-place (context_of a) place) in
    let P : Instance → Type 0 = StandsIn s.tasks (with_slot slot a table) c in
    record {
      stands = add_group-in P (is_pinned a) (alone i) l (cons-Each P i [] (new-stands s slot a table c at) (none-Each P)) h.stands;
      empty = λ task here unused.
          let same : context_of a ≡ context.Task task = at ∙ (ap context_at (sym here) ∙ context_at-place (context.Task task) (omega (arith, here, place))) in
          absurd (both_ways (was_used (state_at s.tasks task)) unused (live-used (state_at s.tasks task) (named-live s a.task a.cpu task same named)));
      one = λ e.
          let more : lists_weight (one_if (is_of_family e)) (add_group (is_pinned a) (alone i) l) ≡ lists_weight (one_if (is_of_family e)) l + one_if (is_of_family e) i
          = added-weighs (one_if (is_of_family e)) i l in
          omega (arith, more, one_more (lists_weight (one_if (is_of_family e)) l) (one_if (is_of_family e) i) slot e (h.one e) (none_of s slot e 0 none l within) refl);
    }

-- beside its leader, which stands where the attribute says
abbrev IsFoundAs : Stage → EventNo → Instance → Type 0
IsFoundAs s e i = is_original e i ≡ true → original_of s e ≡ Some i

founds : (s : Stage) (e : EventNo) → IsNumbered s → At (λ n. InLists (IsFoundAs s e)) s
founds s e n = At-from_each (InLists (IsFoundAs s e)) (no_groups-In (IsFoundAs s e)) s
    (InStage-from_all (IsFoundAs s e) s (found_only (is_original e) (all_instances s) (n.one_original e)))

joins-le : (e : EventNo) (l : Lists) → total (one_if (leads e)) (groups_in l) ≤ lists_weight (one_if (is_original e)) l
joins-le e l = grind (arith, total-append, group_weight, one_if, total-le, leads, leads-le)

joins_one : (n k : ℕ) (slot f : EventNo) → n ≤ 1 → (slot.0 ≡ f.0 → n ≡ 0) → k ≤ 1 → n + k * one_or_none (slot.0 == f.0) ≤ 1
joins_one n k slot f few none once = grind (arith, eq-eqb, ne_eqb)

joined-home : (s : Stage) (hw : Hardware) (slot : EventNo) (a : Attr) (e : EventNo) (table : ℕ → Attr) → IsAccepted hw s slot a (Some e) → IsNumbered s
    → weigh (one_if (is_of_family slot)) s ≡ 0 → (n : ℕ) (l : Lists)
    → lists_weight (one_if (is_of_family slot)) l ≤ weigh (one_if (is_of_family slot)) s → lists_weight (one_if (is_original e)) l ≤ 1
    → InLists (IsFoundAs s e) l → IsHome s.tasks (with_slot slot a table) n l → IsHome s.tasks (with_slot slot a table) n (join_lists e (new_original s slot a) l)
joined-home s hw slot a e table ok numbered none n l within few found h =
    let i : Instance = new_original s slot a in
    let P : Instance → Type 0 = StandsIn s.tasks (with_slot slot a table) (context_at n) in
    let Q : Instance → Type 0 = λ j. P j × IsFoundAs s e j in
    record {
      stands = join_lists-in Q P e i (λ j k. k.0)
          (λ leader leads k.
          let here : (is_same_task leader.attr.task a.task && is_same_cpu leader.attr.cpu a.cpu) ≡ true =
          not-false _ (holds_of-some (λ j. not (is_same_task j.attr.task a.task && is_same_cpu j.attr.cpu a.cpu)) (original_of s e) leader (k.1 leads) ok.here) in
          let places = and_parts (is_same_task leader.attr.task a.task) (is_same_cpu leader.attr.cpu a.cpu) here in
          let same : context_of a ≡ context_of leader.attr = grind (arith, same_task, same_cpu) in
          let original : leader.copy ≡ false = not-true leader.copy (and_parts (is_of_family e leader) (not leader.copy) leads).1 in
          new-stands s slot a table (context_at n) (same ∙ k.0.original original))
          l (both-in P (IsFoundAs s e) Q (λ j k f. (k, f)) l h.stands found);
      empty = λ task at unused. ap (join_lists e i) (h.empty task at unused);
      one = λ f.
          let more : lists_weight (one_if (is_of_family f)) (join_lists e i l) ≡ lists_weight (one_if (is_of_family f)) l + total (one_if (leads e)) (groups_in l) * one_if (is_of_family f) i
          = join_lists-weigh (one_if (is_of_family f)) e i l ∙ ap (λ m. lists_weight (one_if (is_of_family f)) l + m) (total-times (leads e) (one_if (is_of_family f) i) (groups_in l)) in
          omega (
            arith,
            more,
            joins_one (lists_weight (one_if (is_of_family f)) l) (total (one_if (leads e)) (groups_in l)) slot f (h.one f)
                (none_of s slot f 0 none l within) (omega (arith, joins-le e l, few)),
          );
    }

pub placed-homes : (hw : Hardware) (s : Stage) (slot : EventNo) (a : Attr) (leader : Option EventNo) (table : ℕ → Attr) → length s.contexts ≡ 72 → IsNumbered s → IsFamilied s
    → IsAccepted hw s slot a leader → At (IsHome s.tasks table) s → At (IsHome s.tasks (with_slot slot a table)) (placed leader (new_original s slot a) s)
placed-homes hw s slot a leader table shape numbered families ok h = by_leader leader ok
  where
    none : weigh (one_if (is_of_family slot)) s ≡ 0
    none = no_family s slot numbered families ok.unused

    now : ℕ → Attr
    now = with_slot slot a table

    homes : At (IsHome s.tasks now) s
    homes = both-At (λ n. InLists (λ i. is_of_family slot i ≡ false)) (IsHome s.tasks table) (IsHome s.tasks now)
        (λ n l other k. IsHome-table s.tasks table now n l (weaker-in (λ i. is_of_family slot i ≡ false) (λ i. now i.event.0 ≡ table i.event.0) (with_slot-other slot a table) l other) k)
        s (others s slot none) h

    few : (f : Instance → ℕ) (n : ℕ) → lists_weight f (slice_index_or s.contexts n no_groups) ≤ weigh f s
    few f n = get_or-le-total (lists_weight f) s.contexts n no_groups (no_groups-weigh f)

    by_leader : (to : Option EventNo) → IsAccepted hw s slot a to → At (IsHome s.tasks now) (placed to (new_original s slot a) s)
    by_leader None accepted =
        change_context-at (IsHome s.tasks now) (IsHome s.tasks now) (no_groups-home s.tasks now) (context_of a) (add_group (is_pinned a) (alone (new_original s slot a))) s
        (λ within. alone-home s slot a table accepted.task none (omega (arith, within, shape)) (lists_of s (context_of a)) (few (one_if (is_of_family slot)) (place_of (context_of a))))
        (λ n l apart k. k) homes
    by_leader (Some e) accepted =
        map-at (λ n l. IsHome s.tasks now n (join_lists e (new_original s slot a) l)) (IsHome s.tasks now) (join_lists e (new_original s slot a)) s refl (λ n l k. k)
        (λ n. joined-home s hw slot a e table accepted numbered none n (slice_index_or s.contexts n no_groups) (few (one_if (is_of_family slot)) n)
        (omega (arith, few (one_if (is_original e)) n, weigh-is-count (is_original e) s, numbered.one_original e)) (founds s e numbered n) (homes n))
