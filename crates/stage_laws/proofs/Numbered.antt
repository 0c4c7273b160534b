-- Each step keeps that ids and slots are of one instance each, by weights.
use Rattle.std.specs.Prelude.{◌≡◌, ℕ, ◌+◌, ◌*◌, ◌<◌, ◌≤◌, ◌==◌, nat_le, All, Bool, true, false, not, ◌&&◌, List, [], ◌∷◌, ◌++◌, length, Option, Some, None, if◌then◌else◌}
use Rattle.std.{specs.List.{list_any}, proofs.{Common.{arith, refl, ap, ◌∙◌, sym, inl, inr}, Math.Nat.{mul-le-mul_right}}}
use Rattle.std.proofs.lemmas.Bool.{cases_lt, cases_eq, cases_Bool, and_right, eqb-true, ne_eqb, or_parts, Decides.{nat_tests}}
use Rattle.std.proofs.lemmas.List.{Elements.{All-nil, All-cons}, Folds.{list_any-append}}
use Rattle.perf_base.specs.declared.{numbers.{CpuNo.{CpuNo}, EventNo.{EventNo}, TaskNo.{TaskNo}, RingNo.{RingNo}}, attr.Attr.{Attr}}
use Rattle.perf_base.specs.declared.{attr.{TaskSel.{TaskSel}, CpuSel.{CpuSel}}, lines.{CpuLine.{CpuLine}, ToolLine.{ToolLine}}}
use Rattle.perf_base.specs.{declared.{reasons.Reason.{Reason}, standing.Own.{Own}}, Scripts.{IsTaskSel, IsCpuSel, IsAttr}}
use Rattle.perf_base.specs.Contexts.{context_of, context_by}
use Rattle.perf_base.specs.declared.attr.TaskSel.TheVariants as tasks
use Rattle.perf_base.specs.declared.attr.CpuSel.TheVariants as cpus
use Rattle.perf_base.specs.declared.lines.CpuLine.TheVariants as cpu_line
use Rattle.perf_base.specs.declared.lines.ToolLine.TheVariants as tool_line
use Rattle.perf_base.specs.declared.standing.Context.TheVariants as context
use Rattle.stage_spec.specs.{declared.instance.Instance.{Instance}, Hardware.{Hardware}}
use Rattle.stage_spec.specs.Stage.{Stage, Lists, no_groups, place_of, all_instances, change_each, is_original, is_copy, live_copies, task_on, first_stage}
use Rattle.stage_spec.specs.{Verdict.{task_lists}, Settle.{settle_all}, Opening.{is_used, new_original, opened}}
use Rattle.stage_spec.specs.Commands.{is_reached, command_each, with_period, enabled, disabled, targets}
use Rattle.stage_spec.specs.{Mapping.{set_ring, ring_of, mapped_to, output_to}, Closing.{closed}, Rotation.{rotated}}
use Rattle.stage_spec.specs.{Forks.{copy_of, fork_refusal, forked, new_copies}, Exits.{exited}, Switching.{switched}}
use Rattle.stage_spec.specs.History.{Step, CpuStep, ToolStep, SeenStep, cpu_refusal, tool_refusal, cpu_changed, tool_changed, stage_step, unless_refused}
use Rattle.stage_spec.{specs.Limits.{Limits, IsMachine, IsWithin, HasShape}, proofs.Each.{Each}}
use Rattle.stage_spec.proofs.Shape.{SameNumbers, settle_all-numbers, switched-numbers, rotated-numbers, exited-numbers}
use Rattle.stage_laws.{specs.Sound.{has_id, IsNumbered, IsSound}, proofs.Accepted.{accepted, no_reason}}
use Rattle.stage_laws.proofs.Totals.{total, total-replicate, total-by_All, one_if, as_number}
use Rattle.stage_laws.proofs.Weights.{lists_weight, weigh, no_groups-weigh, weigh-is-total, weigh-is-count, weight_in-le, change_each-keeps, settle_all-weighs, switched-weighs, rotated-weighs, closed-le, exited-le}
use Rattle.stage_laws.proofs.Gains.{among, among-drawn, among-before, among-after, copied-ids, copied-none, copied-weighs, inherited_weight-le, inherited-count, forked-le, groups_joined, groups_led-le, opened-weighs}

-- an instance of no slot
abbrev pub is_outside : Instance → Bool
is_outside i = nat_le 256 i.event.0

-- what is kept, by weights
pub record Weighed (s : Stage) : Type 0 where
  pub first : 1 ≤ s.next_id
  pub zero : weigh (one_if (has_id 0)) s ≡ 0
  pub undrawn : (id : ℕ) → s.next_id ≤ id → weigh (one_if (has_id id)) s ≡ 0
  pub once : (id : ℕ) → weigh (one_if (has_id id)) s ≤ 1
  pub slots : weigh (one_if is_outside) s ≡ 0
  pub one_original : (e : EventNo) → weigh (one_if (is_original e)) s ≤ 1
  pub used : (e : EventNo) → is_used s e ≡ false → weigh (one_if (is_original e)) s ≡ 0
  pub few : weigh (one_if is_copy) s ≤ 4096

-- it says the same as being numbered
id-within : (id n : ℕ) → ((m : ℕ) → n ≤ m → as_number (id == m) ≡ 0) → as_number (id == 0) ≡ 0 → (1 ≤ id) × (id < n)
id-within id n h z = elim (cases_lt id n) [
  | inl k ↦ elim (cases_eq id 0) [
    | inl e ↦ let bad : as_number (id == 0) ≡ 1 = grind (arith, nat_tests, e) in absurd (omega (arith, z, bad))
    | inr e ↦ (grind (arith, e), k)
  ]
  | inr k ↦ let bad : as_number (id == id) ≡ 1 = grind (arith, nat_tests) in absurd (omega (arith, h id k, bad))
]

drawn_by_weight : (n : ℕ) (xs : List Instance) → ((id : ℕ) → n ≤ id → total (one_if (has_id id)) xs ≡ 0) → total (one_if (has_id 0)) xs ≡ 0
    → All (λ i. (1 ≤ i.id) × (i.id < n)) xs
unfolding total
drawn_by_weight n [] h z = All-nil (λ i. (1 ≤ i.id) × (i.id < n))
drawn_by_weight n (x ∷ xs) h z = All-cons (λ i. (1 ≤ i.id) × (i.id < n)) x xs
    (id-within x.id n (λ m k. omega (arith, h m k)) (omega (arith, z)))
    (drawn_by_weight n xs (λ m k. omega (arith, h m k)) (omega (arith, z)))

slots_by_weight : (xs : List Instance) → total (one_if is_outside) xs ≡ 0 → All (λ i. i.event.0 < 256) xs
unfolding total
slots_by_weight [] h = All-nil (λ i. i.event.0 < 256)
slots_by_weight (x ∷ xs) h = grind (arith, nat_tests, as_number, All-cons, slots_by_weight xs (omega (arith, h)))

pub numbered_by_weights : (s : Stage) → Weighed s → IsNumbered s
numbered_by_weights s w = record {
  first = w.first;
  drawn = drawn_by_weight s.next_id (all_instances s) (λ id h. weigh-is-total (one_if (has_id id)) s ∙ w.undrawn id h) (weigh-is-total (one_if (has_id 0)) s ∙ w.zero);
  once = λ id. omega (arith, weigh-is-count (has_id id) s, w.once id);
  slots = slots_by_weight (all_instances s) (weigh-is-total (one_if is_outside) s ∙ w.slots);
  one_original = λ e. omega (arith, weigh-is-count (is_original e) s, w.one_original e);
  used = λ e h. weigh-is-count (is_original e) s ∙ w.used e h;
  few_copies = omega (arith, weigh-is-count is_copy s, w.few);
}

other_id : (n id : ℕ) (i : Instance) → n ≤ id → (1 ≤ i.id) × (i.id < n) → one_if (has_id id) i ≡ 0
other_id n id i h k = let below : i.id < n = k.1 in grind (arith, nat_tests, h, below)

no_zero : (n : ℕ) (i : Instance) → (1 ≤ i.id) × (i.id < n) → one_if (has_id 0) i ≡ 0
no_zero n i k = let above : 1 ≤ i.id = k.0 in grind (arith, nat_tests, above)

pub inside : (i : Instance) → i.event.0 < 256 → one_if is_outside i ≡ 0
inside i h = grind (arith, nat_tests, h)

pub weights_of_numbered : (s : Stage) → IsNumbered s → Weighed s
weights_of_numbered s h = record {
  first = h.first;
  zero = sym (weigh-is-total (one_if (has_id 0)) s)
      ∙ total-by_All (one_if (has_id 0)) (λ i. (1 ≤ i.id) × (i.id < s.next_id)) (no_zero s.next_id) (all_instances s) h.drawn;
  undrawn = λ id k. sym (weigh-is-total (one_if (has_id id)) s)
      ∙ total-by_All (one_if (has_id id)) (λ i. (1 ≤ i.id) × (i.id < s.next_id)) (λ i. other_id s.next_id id i k) (all_instances s) h.drawn;
  once = λ id. omega (arith, weigh-is-count (has_id id) s, h.once id);
  slots = sym (weigh-is-total (one_if is_outside) s) ∙ total-by_All (one_if is_outside) (λ i. i.event.0 < 256) inside (all_instances s) h.slots;
  one_original = λ e. omega (arith, weigh-is-count (is_original e) s, h.one_original e);
  used = λ e k. sym (weigh-is-count (is_original e) s) ∙ h.used e k;
  few = omega (arith, weigh-is-count is_copy s, h.few_copies);
}

-- a number by an instance's id, slot and whether it is a copy
abbrev pub GoesByName : (Instance → ℕ) → Type 0
GoesByName f = (i j : Instance) → i.id ≡ j.id → i.event ≡ j.event → i.copy ≡ j.copy → f i ≡ f j

by_id : (id : ℕ) → GoesByName (one_if (has_id id))
by_id id i j a b c = ap (λ n. as_number (n == id)) a

by_slot : GoesByName (one_if is_outside)
by_slot i j a b c = ap (λ (e : EventNo). as_number (nat_le 256 e.0)) b

by_original : (e : EventNo) → GoesByName (one_if (is_original e))
by_original e i j a b c = ap (λ (x : EventNo). as_number (x.0 == e.0 && not i.copy)) b ∙ ap (λ d. as_number (j.event.0 == e.0 && not d)) c

by_copy : GoesByName (one_if is_copy)
by_copy i j a b c = ap as_number c

-- a change that draws no id, uses no slot and adds no instance
pub record IsQuiet (s t : Stage) : Type 0 where
  pub ids : t.next_id ≡ s.next_id
  pub used : t.used ≡ s.used
  pub lighter : (f : Instance → ℕ) → GoesByName f → weigh f t ≤ weigh f s

pub quiet_keeps : (s t : Stage) → IsQuiet s t → Weighed s → Weighed t
quiet_keeps s t q w = record {
  first = omega (arith, q.ids, w.first);
  zero = omega (arith, q.lighter (one_if (has_id 0)) (by_id 0), w.zero);
  undrawn = λ id h. omega (arith, q.lighter (one_if (has_id id)) (by_id id), w.undrawn id (omega (arith, q.ids, h)));
  once = λ id. omega (arith, q.lighter (one_if (has_id id)) (by_id id), w.once id);
  slots = omega (arith, q.lighter (one_if is_outside) by_slot, w.slots);
  one_original = λ e. omega (arith, q.lighter (one_if (is_original e)) (by_original e), w.one_original e);
  used = λ e h. omega (arith, q.lighter (one_if (is_original e)) (by_original e), w.used e (ap (λ us. list_any (λ u. u.0 == e.0) us) (sym q.used) ∙ h));
  few = omega (arith, q.lighter (one_if is_copy) by_copy, w.few);
}

-- the changes that are quiet
same_weight : (s t : Stage) → SameNumbers s t → ((f : Instance → ℕ) → GoesByName f → weigh f t ≡ weigh f s) → IsQuiet s t
same_weight s t n h = record { ids = n.ids; used = n.used; lighter = λ f k. omega (arith, h f k) }

pub settle_all-quiet : (hw : Hardware) (s : Stage) → IsQuiet s (settle_all hw s)
settle_all-quiet hw s = same_weight s (settle_all hw s) (settle_all-numbers hw s) (λ f k. settle_all-weighs f (λ i o. k (record i { own = o }) i refl refl refl) hw s)

one_instance : (f : Instance → ℕ) (b : Bool) (i j : Instance) → f i ≡ f j → f (if b then i else j) ≡ f j
one_instance f true i j h = h
one_instance f false i j h = refl

-- some instances are changed, but for id, slot and whether they are copies
changed-quiet : (test : Instance → Bool) (change : Instance → Instance) → ((f : Instance → ℕ) → GoesByName f → (i : Instance) → f (change i) ≡ f i)
    → (s : Stage) → IsQuiet s (change_each (λ i. if test i then change i else i) s)
changed-quiet test change h s = record {
  ids = refl;
  used = refl;
  lighter = λ f k. omega (arith, change_each-keeps f (λ i. if test i then change i else i) (λ i. one_instance f (test i) (change i) i (h f k i)) s);
}

pub command_each-quiet : (change : Own → Own) (events : List EventNo) (s : Stage) → IsQuiet s (command_each change events s)
unfolding command_each
command_each-quiet change events s = changed-quiet (is_reached events) (λ i. record i { own = change i.own }) (λ f k i. k (record i { own = change i.own }) i refl refl refl) s

pub with_period-quiet : (e : EventNo) (period : ℕ) (s : Stage) → IsQuiet s (with_period e period s)
unfolding with_period
with_period-quiet e period s = search (nat_tests, changed-quiet)

set_ring-quiet : (e : EventNo) (ring : Option RingNo) (owner : Bool) (s : Stage) → IsQuiet s (set_ring e ring owner s)
set_ring-quiet e ring owner s = search (nat_tests, changed-quiet)

pub mapped_to-quiet : (e : EventNo) (ring : RingNo) (s : Stage) → IsQuiet s (mapped_to e ring s)
unfolding mapped_to
mapped_to-quiet e ring s = record { ids = refl; used = refl; lighter = (set_ring-quiet e (Some ring) true s).lighter }

pub output_to-quiet : (e target : EventNo) (s : Stage) → IsQuiet s (output_to e target s)
unfolding output_to
output_to-quiet e target s = set_ring-quiet e (ring_of s target) false s

pub closed-quiet : (e : EventNo) (s : Stage) → IsQuiet s (closed e s)
unfolding closed
closed-quiet e s = record { ids = refl; used = refl; lighter = λ f k. closed-le f e s }

exited-quiet : (cpu : CpuNo) (s : Stage) → IsQuiet s (exited cpu s)
exited-quiet cpu s = let same : SameNumbers s (exited cpu s) = exited-numbers cpu s in record { ids = same.ids; used = same.used; lighter = λ f k. exited-le f cpu s }

-- a fork
pub task_lists-le : (f : Instance → ℕ) (s : Stage) (to : Option TaskNo) → lists_weight f (task_lists s to) ≤ weigh f s
task_lists-le f s None = omega (arith, no_groups-weigh f)
task_lists-le f s (Some task) = weight_in-le f s (context.Task task)

no_copy_is_original : (e : EventNo) (s : Stage) (id : ℕ) (i : Instance) → one_if (is_original e) (copy_of s id i) ≡ 0
no_copy_is_original e s id i = ap as_number (and_right (i.event.0 == e.0) false refl)

-- a fork that is not refused leaves at most 4,096 copies
pub room_for_copies : (cpu : CpuNo) (child : TaskNo) (s : Stage) → fork_refusal s cpu child ≡ None → live_copies s + new_copies (task_lists s (task_on s cpu)) ≤ 4096
unfolding Each
room_for_copies cpu child s h = grind (arith, nat_tests, no_reason)

fork_keeps : (cpu : CpuNo) (child : TaskNo) (s : Stage) → fork_refusal s cpu child ≡ None → Weighed s → Weighed (forked cpu child s)
unfolding forked
fork_keeps cpu child s h w =
    let parent : Lists = task_lists s (task_on s cpu) in
    let more : ℕ = new_copies parent in
    let by_ids : (id : ℕ) → weigh (one_if (has_id id)) (forked cpu child s) ≤ weigh (one_if (has_id id)) s + among s.next_id more id
    = λ id. omega (arith, forked-le (one_if (has_id id)) cpu child s, copied-ids s id parent) in
    let originals : (e : EventNo) → weigh (one_if (is_original e)) (forked cpu child s) ≤ weigh (one_if (is_original e)) s
    = λ e. omega (arith, forked-le (one_if (is_original e)) cpu child s, copied-none (one_if (is_original e)) s (no_copy_is_original e s) parent) in
    let room : live_copies s + more ≤ 4096 = room_for_copies cpu child s h in
    record {
      first = omega (arith, w.first);
      zero = omega (arith, by_ids 0, w.zero, among-before s.next_id more 0 w.first);
      undrawn = λ id k. omega (arith, by_ids id, w.undrawn id (omega (arith, k)), among-after s.next_id more id k);
      once = λ id. elim (cases_lt id s.next_id) [
        | inl k ↦ omega (arith, by_ids id, w.once id, among-before s.next_id more id k)
        | inr k ↦ omega (arith, by_ids id, w.undrawn id k, among-drawn s.next_id more id)
      ];
      slots = omega (
        arith,
        forked-le (one_if is_outside) cpu child s,
        copied-weighs (one_if is_outside) (one_if is_outside) s (λ id i. refl) parent,
        inherited_weight-le (one_if is_outside) parent,
        task_lists-le (one_if is_outside) s (task_on s cpu),
        w.slots,
      );
      one_original = λ e. omega (arith, originals e, w.one_original e);
      used = λ e k. omega (arith, originals e, w.used e k);
      few = omega (arith, forked-le (one_if is_copy) cpu child s, copied-weighs (one_if is_copy) (λ i. 1) s (λ id i. refl) parent, inherited-count parent, weigh-is-count is_copy s, room);
    }

-- an open
pub context_by-place : (n : ℕ) (task : TaskSel) (cpu : CpuSel) → n ≤ 8 → IsTaskSel task → IsCpuSel n cpu → place_of (context_by task cpu) < 72
context_by-place n (tasks.One task) cpu few h k = omega (arith, h)
context_by-place n tasks.All (cpus.One cpu) few h k = grind (arith, nat_tests, few, k)
context_by-place n tasks.All cpus.Any few h k = omega arith

-- an event that can be written has a context
pub context_of-place : (hw : Hardware) (l : Limits) (s : Stage) (a : Attr) → IsMachine l hw → HasShape hw s → IsAttr l.cpus l.kinds a → place_of (context_of a) < length s.contexts
context_of-place hw l s a m shape h = grind (arith, nat_tests, context_by-place)

at_most_once : (n x : ℕ) → n ≤ 1 → n * x ≤ x
at_most_once n x h = omega (arith, mul-le-mul_right x h)

pub groups_joined-le : (leader : Option EventNo) (s : Stage) → Weighed s → groups_joined leader s ≤ 1
groups_joined-le None s w = omega arith
groups_joined-le (Some e) s w = omega (arith, groups_led-le e s, w.one_original e)

pub opened-le : (f : Instance → ℕ) (s : Stage) (slot : EventNo) (a : Attr) (leader : Option EventNo) → Weighed s → place_of (context_of a) < length s.contexts
    → weigh f (opened s slot a leader) ≤ weigh f s + f (new_original s slot a)
opened-le f s slot a leader w h = grind (arith, nat_tests, opened-weighs, at_most_once, groups_joined, groups_joined-le)

used_push : (us : List EventNo) (slot e : EventNo) → list_any (λ u. u.0 == e.0) (us ++ slot ∷ []) ≡ false → (list_any (λ u. u.0 == e.0) us ≡ false) × ((slot.0 == e.0) ≡ false)
used_push us slot e h = grind (arith, nat_tests, or_parts, list_any-append)

other_slot : (slot e : EventNo) (b : Bool) → (slot.0 == e.0) ≡ false → as_number ((slot.0 == e.0) && b) ≡ 0
other_slot slot e b h = ap (λ c. as_number (c && b)) h

same_slot : (us : List EventNo) (slot e : EventNo) → list_any (λ u. u.0 == slot.0) us ≡ false → (slot.0 == e.0) ≡ true → list_any (λ u. u.0 == e.0) us ≡ false
same_slot us slot e h k = let same : slot.0 ≡ e.0 = eqb-true slot.0 e.0 k in ap (λ n. list_any (λ u. u.0 == n) us) (sym same) ∙ h

at_most_one : (b : Bool) → as_number b ≤ 1
at_most_one true = omega arith
at_most_one false = omega arith

open_keeps : (s : Stage) (slot : EventNo) (a : Attr) (leader : Option EventNo) → slot.0 < 256 → place_of (context_of a) < length s.contexts → is_used s slot ≡ false
    → Weighed s → Weighed (opened s slot a leader)
unfolding opened
open_keeps s slot a leader small h fresh w =
    let new : Instance = new_original s slot a in
    let more : (f : Instance → ℕ) → weigh f (opened s slot a leader) ≤ weigh f s + f new = λ f. opened-le f s slot a leader w h in
    let other : (id : ℕ) → (s.next_id ≡ id → ⊥) → one_if (has_id id) new ≡ 0 = λ id k. ap as_number (ne_eqb s.next_id id k) in
    record {
      first = omega (arith, w.first);
      zero = omega (arith, more (one_if (has_id 0)), w.zero, other 0 (λ e. omega (arith, e, w.first)));
      undrawn = λ id k. omega (arith, more (one_if (has_id id)), w.undrawn id (omega (arith, k)), other id (λ e. omega (arith, e, k)));
      once = λ id. elim (cases_eq s.next_id id) [
        | inl e ↦ omega (arith, more (one_if (has_id id)), w.undrawn id (omega (arith, e)), at_most_one (s.next_id == id))
        | inr e ↦ omega (arith, more (one_if (has_id id)), w.once id, other id e)
      ];
      slots = omega (arith, more (one_if is_outside), w.slots, inside new small);
      one_original = λ e. elim (cases_Bool (slot.0 == e.0)) [
        | inl k ↦ omega (arith, more (one_if (is_original e)), w.used e (same_slot s.used slot e fresh k), at_most_one ((slot.0 == e.0) && true))
        | inr k ↦ omega (arith, more (one_if (is_original e)), w.one_original e, other_slot slot e true k)
      ];
      used = λ e k. let apart : (list_any (λ u. u.0 == e.0) s.used ≡ false) × ((slot.0 == e.0) ≡ false) = used_push s.used slot e k in
          omega (arith, more (one_if (is_original e)), w.used e apart.0, other_slot slot e true apart.1);
      few = omega (arith, more (one_if is_copy), w.few);
    }

-- every step
cpu_keeps : (l : Limits) (hw : Hardware) (cpu : CpuNo) (line : CpuLine) (s : Stage) → cpu_refusal s cpu line ≡ None → Weighed s → Weighed (cpu_changed hw cpu line s)
cpu_keeps l hw cpu (cpu_line.Switch to) s r w = quiet_keeps s (switched cpu to s) (same_weight s (switched cpu to s) (switched-numbers cpu to s) (λ f k. switched-weighs f cpu to s)) w
cpu_keeps l hw cpu (cpu_line.Work work) s r w = w
cpu_keeps l hw cpu cpu_line.Tick s r w = quiet_keeps s (rotated hw cpu s) (same_weight s (rotated hw cpu s) (rotated-numbers hw cpu s) (λ f k. rotated-weighs f hw cpu s)) w
cpu_keeps l hw cpu (cpu_line.Fork child) s r w = fork_keeps cpu child s r w
cpu_keeps l hw cpu cpu_line.Exit s r w = quiet_keeps s (exited cpu s) (exited-quiet cpu s) w

tool_keeps : (l : Limits) (hw : Hardware) (line : ToolLine) (s : Stage) → IsMachine l hw → IsWithin l (ToolStep line) → HasShape hw s → tool_refusal hw s line ≡ None
    → Weighed s → Weighed (tool_changed line s)
tool_keeps l hw (tool_line.Open slot a leader) s m within shape r w =
    open_keeps s slot a leader within.0 (context_of-place hw l s a m shape within.1) (accepted hw s slot a leader r).unused w
tool_keeps l hw (tool_line.Enable event group) s m within shape r w =
    quiet_keeps s (command_each enabled (targets s event group) s) (command_each-quiet enabled (targets s event group) s) w
tool_keeps l hw (tool_line.Disable event group) s m within shape r w =
    quiet_keeps s (command_each disabled (targets s event group) s) (command_each-quiet disabled (targets s event group) s) w
tool_keeps l hw (tool_line.Reset event group) s m within shape r w = w
tool_keeps l hw (tool_line.Period event period) s m within shape r w = quiet_keeps s (with_period event period s) (with_period-quiet event period s) w
tool_keeps l hw (tool_line.Read event size) s m within shape r w = w
tool_keeps l hw (tool_line.Map event ring) s m within shape r w = quiet_keeps s (mapped_to event ring s) (mapped_to-quiet event ring s) w
tool_keeps l hw (tool_line.Output event target) s m within shape r w = quiet_keeps s (output_to event target s) (output_to-quiet event target s) w
tool_keeps l hw (tool_line.Close event) s m within shape r w = quiet_keeps s (closed event s) (closed-quiet event s) w
tool_keeps l hw (tool_line.Why event) s m within shape r w = w
tool_keeps l hw (tool_line.Seats cpu) s m within shape r w = w

unless_refused-keeps : (hw : Hardware) (r : Option Reason) (change : Stage → Stage) (s : Stage) → Weighed s → (r ≡ None → Weighed (change s)) → Weighed (unless_refused hw r change s)
unless_refused-keeps hw (Some r) change s w h = w
unless_refused-keeps hw None change s w h = quiet_keeps (change s) (settle_all hw (change s)) (settle_all-quiet hw (change s)) (h refl)

step_keeps : (l : Limits) (hw : Hardware) (s : Stage) (x : Step) → IsMachine l hw → IsWithin l x → HasShape hw s → Weighed s → Weighed (stage_step hw s x)
unfolding stage_step
step_keeps l hw s (CpuStep cpu line) m within shape w =
    unless_refused-keeps hw (cpu_refusal s cpu line) (cpu_changed hw cpu line) s w (λ r. cpu_keeps l hw cpu line s r w)
step_keeps l hw s (ToolStep line) m within shape w =
    unless_refused-keeps hw (tool_refusal hw s line) (tool_changed line) s w (λ r. tool_keeps l hw line s m within shape r w)
step_keeps l hw s (SeenStep ring place) m within shape w = w

pub numbered_step : (l : Limits) (hw : Hardware) (s : Stage) (x : Step) → IsMachine l hw → IsWithin l x → IsSound hw s → IsNumbered (stage_step hw s x)
numbered_step l hw s x m within sound = numbered_by_weights (stage_step hw s x) (step_keeps l hw s x m within sound.shape (weights_of_numbered s sound.numbered))

-- at first there is none
pub first-weighs : (f : Instance → ℕ) (n : ℕ) (declared : List TaskNo) → weigh f (first_stage n declared) ≡ 0
unfolding first_stage
first-weighs f n declared = total-replicate (lists_weight f) 72 no_groups (no_groups-weigh f)

pub numbered_first : (n : ℕ) (declared : List TaskNo) → IsNumbered (first_stage n declared)
unfolding first_stage
numbered_first n declared = grind (arith, nat_tests, numbered_by_weights, first-weighs, one_if)
