-- Sums of a family stay below what steps may add, over any history; and few ids are drawn.
use Rattle.std.specs.Prelude.{◌≡◌, ℕ, ◌+◌, ◌*◌, ◌≤◌, ◌==◌, max, All, Bool, true, false, cond, ◌&&◌, List, [], ◌∷◌, ◌++◌, filter, sum_by, Option, Some, None, count_by}
use Rattle.std.{specs.List.{fold}, proofs.{Common.{arith, refl, ap, ◌∙◌, sym, subst, append_assoc, append-nil}, Math.Nat.{max-le}}}
use Rattle.std.proofs.lemmas.{Option.{none-some}, List.{Elements.{All-head, All-tail}, Sums.{sum_by-cons, sum_by_push}}}
use Rattle.perf_base.specs.declared.{numbers.{CpuNo.{CpuNo}, EventNo.{EventNo}, TaskNo.{TaskNo}}, lines.{CpuLine.{CpuLine}, ToolLine.{ToolLine}}}
use Rattle.perf_base.specs.declared.{reasons.Reason.{Reason}, reply.Sums.{Sums}}
use Rattle.perf_base.specs.declared.lines.CpuLine.TheVariants as cpu_line
use Rattle.perf_base.specs.declared.lines.ToolLine.TheVariants as tool_line
use Rattle.perf_base.specs.declared.reasons.Reason.TheVariants as reason
use Rattle.stage_spec.specs.{declared.instance.Instance.{Instance}, Hardware.{Hardware}}
use Rattle.stage_spec.specs.Stage.{Stage, Group, group_size, Lists, groups_in, members, all_instances, is_of_family, is_copy, is_idle, task_on, first_stage}
use Rattle.stage_spec.specs.{Verdict.{task_lists}, Refusals.{first_of}, Opening.{opened}}
use Rattle.stage_spec.specs.{Commands.{command_each, enabled, disabled, targets, with_period}, Mapping.{mapped_to, output_to}, Closing.{closed}}
use Rattle.stage_spec.specs.{Forks.{copies_from, copy_groups, copied, forked}, Settle.{settle_all}}
use Rattle.stage_spec.specs.History.{Step, CpuStep, ToolStep, SeenStep, cpu_refusal, tool_refusal, cpu_changed, tool_changed, stage_step, stage_after, unless_refused}
use Rattle.stage_spec.specs.{Shares.{share, no_sums}, Sums.{sums_of, count_of, enabled_of, running_of}}
use Rattle.stage_spec.specs.{Families.{plus, plus_each, leaving, leaving_by, folded_from, folded_of, family_sums}}
use Rattle.stage_spec.{specs.Limits.{Limits, IsMachine, IsWithin}, proofs.{Each.{weaker-Each}, Parts.{Each-from_All}}}
use Rattle.stage_spec.proofs.{Shape.{switched-numbers, rotated-numbers, exited-numbers}, Ids.{AllBelow, AllBelow-more}}
use Rattle.stage_spec.proofs.{Births.{Grows, at_first, after-ids, share-none, unborn}, Recurrence.{stage_after-push, sums_of-push, folded_of-push}}
use Rattle.stage_laws.specs.Sound.{IsSound}
use Rattle.stage_laws.specs.Bounds.{most_of, most_of_all, most_drawn_by, most_opened_by, most_drawn, is_line, IsLineWithin, AreAtMost, FamilySumsLaw, SmallSumsLaw, FewIdsLaw}
use Rattle.stage_laws.proofs.Totals.{total, total-nil, total-same, total-le, total-plus, total-none, total-filter, total-times, count_by-is-total, sum_by-is-total}
use Rattle.stage_laws.proofs.Weights.{group_weight, lists_weight, weigh, lists-weigh, if_goes, switched-weighs, rotated-weighs, exited-weighs}
use Rattle.stage_laws.proofs.Gains.{forked-le}
use Rattle.stage_laws.proofs.Numbered.{GoesByName, IsQuiet, settle_all-quiet, command_each-quiet, with_period-quiet, mapped_to-quiet, output_to-quiet, closed-quiet, room_for_copies, opened-le, weights_of_numbered, context_of-place}
use Rattle.stage_laws.proofs.{Sound.{first_sound, step_sound}, BoundsReached.{total-le_each, of_family, if_nothing}}
use Rattle.stage_laws.proofs.BoundsStep.{IsPart, count_in, enabled_in, running_in, count_part, enabled_part, running_part, part-total, family-weighs, family_shared}

-- a number by id, and none for the ids that are not drawn yet
abbrev family_by : EventNo → (ℕ → ℕ) → Instance → ℕ
family_by e g = of_family e (λ i. g i.id)

abbrev NoneLater : Stage → (ℕ → ℕ) → Type 0
NoneLater s g = (id : ℕ) → s.next_id ≤ id → g id ≡ 0

by_name : (e : EventNo) (g : ℕ → ℕ) → GoesByName (family_by e g)
by_name e g i j a b c = ap (λ n. cond (is_of_family e i) (g n) 0) a ∙ ap (λ (x : EventNo). cond (x.0 == e.0) (g j.id) 0) b

-- what a change takes from a weight, and how many ids it draws
record Loses (f : Instance → ℕ) (gone drawn : ℕ) (s t : Stage) : Type 0 where
  pub weight : weigh f t + gone ≤ weigh f s
  pub ids : t.next_id ≤ s.next_id + drawn

quiet_loses : (f : Instance → ℕ) → GoesByName f → (s t : Stage) → IsQuiet s t → Loses f 0 0 s t
quiet_loses f k s t q = record { weight = omega (arith, q.lighter f k); ids = omega (arith, q.ids) }

stays : (f : Instance → ℕ) (s : Stage) → Loses f 0 0 s s
stays f s = record { weight = omega arith; ids = omega arith }

-- new copies weigh nothing
copies-none : (e : EventNo) (g : ℕ → ℕ) (s : Stage) → NoneLater s g → (id : ℕ) (xs : List Instance) → s.next_id ≤ id → total (family_by e g) (copies_from s id xs) ≡ 0
unfolding copies_from total
copies-none e g s h id [] low = refl
copies-none e g s h id (i ∷ xs) low = grind (arith, if_nothing, copies-none e g s h (id + 1) xs (omega (arith, low)))

copy_groups-none : (e : EventNo) (g : ℕ → ℕ) (s : Stage) → NoneLater s g → (id : ℕ) (groups : List Group) → s.next_id ≤ id
    → total (group_weight (family_by e g)) (copy_groups s id groups) ≡ 0
unfolding copy_groups total
copy_groups-none e g s h id [] low = refl
copy_groups-none e g s h id (group ∷ groups) low =
    grind (arith, if_nothing, copies-none, copy_groups-none e g s h (id + group_size group) groups (omega (arith, low)))

new_copies-none : (e : EventNo) (g : ℕ → ℕ) (s : Stage) → NoneLater s g → (l : Lists) → lists_weight (family_by e g) (copied s l) ≡ 0
new_copies-none e g s h l = grind (arith, copy_groups-none)

-- the copies that go by an exit
if_both : (a b : Bool) (n : ℕ) → cond (a && b) n 0 ≡ cond b (cond a n 0) 0
if_both true b n = refl
if_both false true n = refl
if_both false false n = refl

leaving-weighs : (e : EventNo) (g : ℕ → ℕ) (l : Lists)
    → total (λ i. g i.id) (filter (λ i. is_of_family e i && i.copy) (members (groups_in l))) ≡ lists_weight (if_goes is_copy (family_by e g)) l
leaving-weighs e g l = grind (arith, total-filter, total-same, if_goes, if_both, lists-weigh)

idle-none : (e : EventNo) (g : ℕ → ℕ) (s : Stage) (to : Option TaskNo) (q : Reason) → first_of ((reason.Idle, is_idle to) ∷ []) ≡ Some q
    → total (λ i. g i.id) (filter (λ i. is_of_family e i && i.copy) (members (groups_in (task_lists s to)))) ≡ 0
idle-none e g s None q h = total-nil (λ i. g i.id)
idle-none e g s (Some task) q h = absurd (none-some q h)

refused-none : (e : EventNo) (g : ℕ → ℕ) (s : Stage) (cpu : CpuNo) (line : CpuLine) (q : Reason) → cpu_refusal s cpu line ≡ Some q → total (λ i. g i.id) (leaving_by s cpu line e) ≡ 0
refused-none e g s cpu (cpu_line.Switch to) q h = total-nil (λ i. g i.id)
refused-none e g s cpu (cpu_line.Work w) q h = total-nil (λ i. g i.id)
refused-none e g s cpu cpu_line.Tick q h = total-nil (λ i. g i.id)
refused-none e g s cpu (cpu_line.Fork child) q h = total-nil (λ i. g i.id)
refused-none e g s cpu cpu_line.Exit q h = idle-none e g s (task_on s cpu) q h

-- each change
cpu_loses : (e : EventNo) (g : ℕ → ℕ) (hw : Hardware) (cpu : CpuNo) (line : CpuLine) (s : Stage) → NoneLater s g → cpu_refusal s cpu line ≡ None
    → Loses (family_by e g) (total (λ i. g i.id) (leaving_by s cpu line e)) (most_drawn_by line) s (cpu_changed hw cpu line s)
unfolding total forked
cpu_loses e g hw cpu (cpu_line.Switch to) s h r = record { weight = omega (arith, switched-weighs (family_by e g) cpu to s); ids = omega (arith, (switched-numbers cpu to s).ids) }
cpu_loses e g hw cpu (cpu_line.Work w) s h r = stays (family_by e g) s
cpu_loses e g hw cpu cpu_line.Tick s h r = record { weight = omega (arith, rotated-weighs (family_by e g) hw cpu s); ids = omega (arith, (rotated-numbers hw cpu s).ids) }
cpu_loses e g hw cpu (cpu_line.Fork child) s h r = record {
  weight = omega (arith, forked-le (family_by e g) cpu child s, new_copies-none e g s h (task_lists s (task_on s cpu)));
  ids = omega (arith, room_for_copies cpu child s r);
}
cpu_loses e g hw cpu cpu_line.Exit s h r = record {
  weight = omega (arith, exited-weighs (family_by e g) cpu s, leaving-weighs e g (task_lists s (task_on s cpu)));
  ids = omega (arith, (exited-numbers cpu s).ids);
}

tool_loses : (e : EventNo) (g : ℕ → ℕ) (l : Limits) (hw : Hardware) (line : ToolLine) (s : Stage) → NoneLater s g → IsMachine l hw → IsWithin l (ToolStep line) → IsSound hw s
    → Loses (family_by e g) 0 (most_opened_by line) s (tool_changed line s)
unfolding opened
tool_loses e g l hw (tool_line.Open slot a leader) s h m within sound = record {
  weight = omega (
    arith,
    opened-le (family_by e g) s slot a leader (weights_of_numbered s sound.numbered) (context_of-place hw l s a m sound.shape within.1),
    if_nothing (slot.0 == e.0) (g s.next_id) (h s.next_id (omega arith)),
  );
  ids = omega arith;
}
tool_loses e g l hw (tool_line.Enable event group) s h m within sound =
    quiet_loses (family_by e g) (by_name e g) s (command_each enabled (targets s event group) s) (command_each-quiet enabled (targets s event group) s)
tool_loses e g l hw (tool_line.Disable event group) s h m within sound =
    quiet_loses (family_by e g) (by_name e g) s (command_each disabled (targets s event group) s) (command_each-quiet disabled (targets s event group) s)
tool_loses e g l hw (tool_line.Reset event group) s h m within sound = stays (family_by e g) s
tool_loses e g l hw (tool_line.Period event period) s h m within sound =
    quiet_loses (family_by e g) (by_name e g) s (with_period event period s) (with_period-quiet event period s)
tool_loses e g l hw (tool_line.Read event size) s h m within sound = stays (family_by e g) s
tool_loses e g l hw (tool_line.Map event ring) s h m within sound = quiet_loses (family_by e g) (by_name e g) s (mapped_to event ring s) (mapped_to-quiet event ring s)
tool_loses e g l hw (tool_line.Output event target) s h m within sound =
    quiet_loses (family_by e g) (by_name e g) s (output_to event target s) (output_to-quiet event target s)
tool_loses e g l hw (tool_line.Close event) s h m within sound = quiet_loses (family_by e g) (by_name e g) s (closed event s) (closed-quiet event s)
tool_loses e g l hw (tool_line.Why event) s h m within sound = stays (family_by e g) s
tool_loses e g l hw (tool_line.Seats cpu) s h m within sound = stays (family_by e g) s

unless_loses : (f : Instance → ℕ) → GoesByName f → (gone drawn : ℕ) (hw : Hardware) (r : Option Reason) (change : Stage → Stage) (s : Stage)
    → ((q : Reason) → r ≡ Some q → gone ≡ 0) → (r ≡ None → Loses f gone drawn s (change s)) → Loses f gone drawn s (unless_refused hw r change s)
unless_loses f k gone drawn hw (Some q) change s none h = record { weight = omega (arith, none q refl); ids = omega arith }
unless_loses f k gone drawn hw None change s none h =
    let settled : IsQuiet (change s) (settle_all hw (change s)) = settle_all-quiet hw (change s) in
    record { weight = omega (arith, settled.lighter f k, (h refl).weight); ids = omega (arith, settled.ids, (h refl).ids) }

step_loses : (e : EventNo) (g : ℕ → ℕ) (l : Limits) (hw : Hardware) (s : Stage) (x : Step) → NoneLater s g → IsMachine l hw → IsLineWithin l x → IsSound hw s
    → Loses (family_by e g) (total (λ i. g i.id) (leaving s x e)) (most_drawn x) s (stage_step hw s x)
unfolding stage_step total
step_loses e g l hw s (CpuStep cpu line) h m within sound =
    unless_loses (family_by e g) (by_name e g) (total (λ i. g i.id) (leaving_by s cpu line e)) (most_drawn_by line) hw (cpu_refusal s cpu line) (cpu_changed hw cpu line) s
    (λ q r. refused-none e g s cpu line q r) (λ r. cpu_loses e g hw cpu line s h r)
step_loses e g l hw s (ToolStep line) h m within sound =
    unless_loses (family_by e g) (by_name e g) 0 (most_opened_by line) hw (tool_refusal hw s line) (tool_changed line) s (λ q r. refl) (λ r. tool_loses e g l hw line s h m within sound)
step_loses e g l hw s (SeenStep ring place) h m within sound = stays (family_by e g) s

-- each step leaves a sound stage sound, also where a look is of no ring
pub line_sound : (l : Limits) (hw : Hardware) (s : Stage) (x : Step) → IsMachine l hw → IsLineWithin l x → IsSound hw s → IsSound hw (stage_step hw s x)
unfolding stage_step
line_sound l hw s (CpuStep cpu line) machine within sound = step_sound l hw s (CpuStep cpu line) machine within sound
line_sound l hw s (ToolStep line) machine within sound = step_sound l hw s (ToolStep line) machine within sound
line_sound l hw s (SeenStep ring place) machine within sound = sound

-- one more step of a history
part-share : (p : Sums → ℕ) → IsPart p → (hw : Hardware) (s : Stage) (before : List Step) (x : Step) (id : ℕ)
    → p (sums_of hw s (before ++ x ∷ []) id) ≤ p (sums_of hw s before id) + p (share hw (stage_after hw s before) x id)
part-share p h hw s before x id = grind (arith, sums_of-push)

part_grows : (p : Sums → ℕ) → IsPart p → (l : Limits) (hw : Hardware) (s : Stage) (before : List Step) (x : Step) (e : EventNo) (m : ℕ)
    → AllBelow s.next_id s → IsMachine l hw → IsLineWithin l x → IsSound hw (stage_after hw s before)
    → p (plus_each (λ i. share hw (stage_after hw s before) x i.id) (filter (is_of_family e) (all_instances (stage_after hw s before)))) ≤ m
    → p (family_sums hw s (before ++ x ∷ []) e) ≤ p (family_sums hw s before e) + m
unfolding family_sums
part_grows p h l hw s before x e m drawn machine within sound added =
    let t : Stage = stage_after hw s before in
    let now : Stage = stage_step hw t x in
    let old : List Instance = filter (is_of_family e) (all_instances t) in
    let new : List Instance = filter (is_of_family e) (all_instances now) in
    let sums : ℕ → ℕ = λ id. p (sums_of hw s before id) in
    let shares : ℕ → ℕ = λ id. p (share hw t x id) in
    let later : ℕ → Sums = λ id. sums_of hw s (before ++ x ∷ []) id in
    let grown : Grows s t = after-ids hw s before drawn in
    let lose_sums : Loses (family_by e sums) (total (λ i. sums i.id) (leaving t x e)) (most_drawn x) t now = search (step_loses, unborn) in
    let lose_shares : Loses (family_by e shares) (total (λ i. shares i.id) (leaving t x e)) (most_drawn x) t now =
    step_loses e shares l hw t x (λ id low. ap p (share-none hw t x id (AllBelow-more t.next_id id low t grown.below)) ∙ h.none) machine within sound in
    let here : p (plus_each (λ i. later i.id) new) ≤ total (λ i. sums i.id) new + total (λ i. shares i.id) new =
    omega (
      arith,
      part-total p h (λ i. later i.id) new,
      total-le (λ i. p (later i.id)) (λ i. sums i.id + shares i.id) (λ i. part-share p h hw s before x i.id) new,
      total-plus (λ i. sums i.id) (λ i. shares i.id) new,
    ) in
    let gone : Sums = plus_each (λ i. sums_of hw s before i.id) (leaving t x e) in
    let folded : p (folded_of hw s (before ++ x ∷ []) e) ≡ p (folded_of hw s before e) + total (λ i. sums i.id) (leaving t x e) =
    ap p (folded_of-push hw s before x e) ∙ (h.plus (folded_of hw s before e) gone
    ∙ ap (λ n. p (folded_of hw s before e) + n) (part-total p h (λ i. sums_of hw s before i.id) (leaving t x e))) in
    let whole : p (plus (plus_each (λ i. later i.id) new) (folded_of hw s (before ++ x ∷ []) e)) ≤ p (family_sums hw s before e) + m =
    omega (
      arith,
      h.plus (plus_each (λ i. later i.id) new) (folded_of hw s (before ++ x ∷ []) e),
      h.plus (plus_each (λ i. sums_of hw s before i.id) old) (folded_of hw s before e),
      here,
      folded,
      part-total p h (λ i. sums_of hw s before i.id) old,
      part-total p h (λ i. share hw t x i.id) old,
      lose_sums.weight,
      lose_shares.weight,
      family-weighs sums e t,
      family-weighs sums e now,
      family-weighs shares e t,
      family-weighs shares e now,
      added,
    ) in
    grind (arith, later, stage_after-push, whole)

-- a whole history
more_at_most : (l : Limits) (hw : Hardware) (s : Stage) (before : List Step) (x : Step) (e : EventNo) → AllBelow s.next_id s → IsMachine l hw → IsLineWithin l x
    → IsSound hw (stage_after hw s before) → AreAtMost (family_sums hw s before e) (most_of_all before) → AreAtMost (family_sums hw s (before ++ x ∷ []) e) (most_of_all (before ++ x ∷ []))
more_at_most l hw s before x e drawn machine within sound h =
    let t : Stage = stage_after hw s before in
    let most : Sums = most_of x in
    let added : AreAtMost (plus_each (λ i. share hw t x i.id) (filter (is_of_family e) (all_instances t))) most = family_shared l hw t x e machine within sound in
    record {
      count = omega (
        arith,
        part_grows count_in count_part l hw s before x e most.count drawn machine within sound added.count,
        h.count,
        sum_by_push (λ y. (most_of y).count) before x,
      );
      enabled = omega (
        arith,
        part_grows enabled_in enabled_part l hw s before x e most.enabled drawn machine within sound added.enabled,
        h.enabled,
        sum_by_push (λ y. (most_of y).enabled) before x,
      );
      running = omega (
        arith,
        part_grows running_in running_part l hw s before x e most.running drawn machine within sound added.running,
        h.running,
        sum_by_push (λ y. (most_of y).running) before x,
      );
    }

from_there : (l : Limits) (hw : Hardware) (s : Stage) (before steps : List Step) (e : EventNo) → AllBelow s.next_id s → IsMachine l hw → All (IsLineWithin l) steps
    → IsSound hw (stage_after hw s before) → AreAtMost (family_sums hw s before e) (most_of_all before) → AreAtMost (family_sums hw s (before ++ steps) e) (most_of_all (before ++ steps))
from_there l hw s before [] e drawn machine within sound h = subst (λ all. AreAtMost (family_sums hw s all e) (most_of_all all)) (sym (append-nil before)) h
from_there l hw s before (x ∷ steps) e drawn machine within sound h =
    let first : IsLineWithin l x = All-head (IsLineWithin l) x steps within in
    subst (λ all. AreAtMost (family_sums hw s all e) (most_of_all all)) (append_assoc before (x ∷ []) steps)
    (from_there l hw s (before ++ x ∷ []) steps e drawn machine (All-tail (IsLineWithin l) x steps within)
    (subst (IsSound hw) (sym (stage_after-push hw s before x)) (line_sound l hw (stage_after hw s before) x machine first sound))
    (more_at_most l hw s before x e drawn machine first sound h))

-- before any step nothing was counted
nothing_part : (p : Sums → ℕ) → IsPart p → (hw : Hardware) (s : Stage) (e : EventNo) → p (family_sums hw s [] e) ≡ 0
unfolding family_sums folded_of folded_from sums_of count_of enabled_of running_of
nothing_part p h hw s e =
    let xs : List Instance = filter (is_of_family e) (all_instances (stage_after hw s [])) in
    omega (
      arith,
      h.plus (plus_each (λ i. sums_of hw s [] i.id) xs) no_sums,
      part-total p h (λ i. sums_of hw s [] i.id) xs,
      total-same (λ i. p (sums_of hw s [] i.id)) (λ i. 0) (λ i. h.none) xs,
      total-none xs,
      h.none,
    )

nothing_yet : (hw : Hardware) (s : Stage) (e : EventNo) → AreAtMost (family_sums hw s [] e) (most_of_all [])
nothing_yet hw s e =
    grind (arith, nothing_part count_in count_part hw s e, nothing_part enabled_in enabled_part hw s e, nothing_part running_in running_part hw s e)

pub family_at_most : FamilySumsLaw
unfolding stage_after
family_at_most l hw declared steps e machine numbers within =
    let s : Stage = first_stage l.cpus declared in
    from_there l hw s [] steps e (at_first l.cpus declared) machine within (first_sound l hw declared machine numbers) (nothing_yet hw s e)

-- in plain numbers
pub greatest-least : (m first : ℕ) (numbers : List ℕ) → first ≤ m → All (λ n. n ≤ m) numbers → fold max first numbers ≤ m
greatest-least m first [] h all = h
greatest-least m first (n ∷ numbers) h all =
    greatest-least m (max first n) numbers (max-le h (All-head (λ k. k ≤ m) n numbers all)) (All-tail (λ k. k ≤ m) n numbers all)

-- the most that a line within the limits adds, and nothing of a look
abbrev pub most_by_line : Step → ℕ
most_by_line x = cond (is_line x) 1000000000 0

pub record IsSmall (x : Step) : Type 0 where
  pub count : (most_of x).count ≤ most_by_line x
  pub enabled : (most_of x).enabled ≤ most_by_line x
  pub running : (most_of x).running ≤ most_by_line x

line_small : (l : Limits) (cpu : CpuNo) (line : CpuLine) → IsWithin l (CpuStep cpu line) → IsSmall (CpuStep cpu line)
line_small l cpu (cpu_line.Switch to) h = record { count = omega arith; enabled = omega arith; running = omega arith }
line_small l cpu (cpu_line.Work w) h =
    let length : w.length ≤ 1000000000 = h.1.length in
    record { count = max-le length (greatest-least 1000000000 0 w.hits (omega arith) h.1.hits); enabled = length; running = length }
line_small l cpu cpu_line.Tick h = record { count = omega arith; enabled = omega arith; running = omega arith }
line_small l cpu (cpu_line.Fork child) h = record { count = omega arith; enabled = omega arith; running = omega arith }
line_small l cpu cpu_line.Exit h = record { count = omega arith; enabled = omega arith; running = omega arith }

step_small : (l : Limits) (x : Step) → IsLineWithin l x → IsSmall x
step_small l (CpuStep cpu line) h = line_small l cpu line h
step_small l (ToolStep line) h = record { count = omega arith; enabled = omega arith; running = omega arith }
step_small l (SeenStep ring place) h = record { count = omega arith; enabled = omega arith; running = omega arith }

pub all_small : (f : Step → ℕ) → ((x : Step) → IsSmall x → f x ≤ most_by_line x) → (l : Limits) (steps : List Step) → All (IsLineWithin l) steps
    → sum_by f steps ≤ count_by is_line steps * 1000000000
all_small f h l steps within =
    omega (
      arith,
      sum_by-is-total f steps,
      total-le_each f most_by_line steps (weaker-Each (IsLineWithin l) (λ x. f x ≤ most_by_line x) (λ x k. h x (step_small l x k)) steps (Each-from_All (IsLineWithin l) steps within)),
      total-times is_line 1000000000 steps,
      ap (λ n. n * 1000000000) (count_by-is-total is_line steps),
    )

pub family_small : SmallSumsLaw
family_small l hw declared steps e machine numbers within few =
    let h : AreAtMost (family_sums hw (first_stage l.cpus declared) steps e) (most_of_all steps) = family_at_most l hw declared steps e machine numbers within in
    record {
      count = omega (arith, few, h.count, all_small (λ x. (most_of x).count) (λ x k. k.count) l steps within);
      enabled = omega (arith, few, h.enabled, all_small (λ x. (most_of x).enabled) (λ x k. k.enabled) l steps within);
      running = omega (arith, few, h.running, all_small (λ x. (most_of x).running) (λ x k. k.running) l steps within);
    }

-- ids
ids_from : (l : Limits) (hw : Hardware) (s : Stage) (steps : List Step) → IsMachine l hw → All (IsLineWithin l) steps → IsSound hw s
    → (stage_after hw s steps).next_id ≤ s.next_id + sum_by most_drawn steps
unfolding stage_after
ids_from l hw s [] machine within sound = omega arith
ids_from l hw s (x ∷ steps) machine within sound =
    let first : IsLineWithin l x = All-head (IsLineWithin l) x steps within in
    let now : Loses (family_by (record { 0 = 0 }) (λ id. 0)) (total (λ i. 0) (leaving s x (record { 0 = 0 }))) (most_drawn x) s (stage_step hw s x) =
    step_loses (record { 0 = 0 }) (λ id. 0) l hw s x (λ id low. refl) machine first sound in
    omega (
      arith,
      now.ids,
      ids_from l hw (stage_step hw s x) steps machine (All-tail (IsLineWithin l) x steps within) (line_sound l hw s x machine first sound),
      sum_by-cons most_drawn x steps,
    )

pub few_ids : FewIdsLaw
unfolding first_stage
few_ids l hw declared steps machine numbers within = ids_from l hw (first_stage l.cpus declared) steps machine within (first_sound l hw declared machine numbers)
