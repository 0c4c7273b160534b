-- What a step adds to an event with its copies is at most what it adds to one instance.
use Rattle.std.specs.Prelude.{◌≡◌, ℕ, ◌+◌, ◌≤◌, ◌==◌, max, Bool, true, false, not, ◌&&◌, List, [], ◌∷◌, filter, slice_index, Option, Some, None, if◌then◌else◌, zero, suc}
use Rattle.std.{specs.List.{fold}, proofs.{Common.{arith, refl, ap, ◌∙◌, sym}, Math.Nat.{le-max_left, le-max_right, mul-le-mul_right}}}
use Rattle.std.proofs.lemmas.Bool.{eqb-true}
use Rattle.perf_base.specs.declared.{numbers.{CpuNo.{CpuNo}, EventNo.{EventNo}, TaskNo.{TaskNo}}, attr.{Attr.{Attr}, Kind.{Kind}}, lines.Work.{Work}}
use Rattle.perf_base.specs.declared.{lines.CpuLine.{CpuLine}, reasons.Reason.{Reason}, reply.Sums.{Sums}}
use Rattle.perf_base.specs.declared.attr.Kind.TheVariants as kind
use Rattle.perf_base.specs.declared.lines.CpuLine.TheVariants as cpu_line
use Rattle.stage_spec.specs.{declared.instance.Instance.{Instance}, Flags.{excludes_kernel}, Hardware.{Hardware}}
use Rattle.stage_spec.specs.{Stage.{Stage, all_instances, is_of_family, task_on}, Verdict.{on_instances, reached}}
use Rattle.stage_spec.specs.Switching.{switched, switch_refusal, is_running, is_migration}
use Rattle.stage_spec.specs.History.{CpuStep, ToolStep, SeenStep, stage_step, unless_refused}
use Rattle.stage_spec.specs.Shares.{counted_by, work_hits, is_switches, is_migrations, switch_hits, migration_hits, of_instance, no_sums, ready_instances, work_share, migration_share, switch_share, changes_task, cpu_share, share}
use Rattle.stage_spec.specs.{Families.{plus, plus_each}, Recurrence.{after_reset}, Limits.{Limits, IsMachine, IsWithin}}
use Rattle.stage_spec.proofs.{Each.{Each, weaker-Each, InStage}, Parts.{all-Each}, Carried.{IsOfAttr, settle_all-in, switched-in}}
use Rattle.stage_spec.proofs.{Inside.{all_instances-in, InStage-from_all}, Present.{on_instances-in, ready_instances-in}}
use Rattle.stage_laws.specs.{Sound.{IsSound, IsNumbered}, Bounds.{greatest, most_of_line, AreAtMost, FamilyShareLaw}}
use Rattle.stage_laws.proofs.Totals.{total, total-plus, total-none, total-filter, total-times, one_if, as_number, count_by-is-total}
use Rattle.stage_laws.proofs.{Weights.{weigh, weigh-is-total, settle_all-weighs, switched-weighs}, Housed.{Housed}}
use Rattle.stage_laws.proofs.{Placed.{IsTabled, tabled, housed-from_placed}, Sound.{step_sound}}
use Rattle.stage_laws.proofs.BoundsReached.{total-le_each, on-le, ready-le, of_family, family_gets}

-- one of three sums
pub record IsPart (p : Sums → ℕ) : Type 0 where
  pub none : p no_sums ≡ 0
  pub plus : (a b : Sums) → p (plus a b) ≡ p a + p b
  pub reset : (b : Bool) (a : Sums) → p (after_reset b a) ≤ p a

abbrev pub count_in : Sums → ℕ
count_in a = a.count

abbrev pub enabled_in : Sums → ℕ
enabled_in a = a.enabled

abbrev pub running_in : Sums → ℕ
running_in a = a.running

count-reset : (b : Bool) (a : Sums) → (after_reset b a).count ≤ a.count
count-reset true a = omega arith
count-reset false a = omega arith

enabled-reset : (b : Bool) (a : Sums) → (after_reset b a).enabled ≤ a.enabled
enabled-reset true a = omega arith
enabled-reset false a = omega arith

running-reset : (b : Bool) (a : Sums) → (after_reset b a).running ≤ a.running
running-reset true a = omega arith
running-reset false a = omega arith

pub count_part : IsPart count_in
count_part = record { none = refl; plus = λ a b. refl; reset = count-reset }

pub enabled_part : IsPart enabled_in
enabled_part = record { none = refl; plus = λ a b. refl; reset = enabled-reset }

pub running_part : IsPart running_in
running_part = record { none = refl; plus = λ a b. refl; reset = running-reset }

pub part-total : (p : Sums → ℕ) → IsPart p → (f : Instance → Sums) (xs : List Instance) → p (plus_each f xs) ≡ total (λ i. p (f i)) xs
unfolding total
part-total p h f [] = h.none
part-total p h f (x ∷ xs) = omega (arith, h.plus (f x) (plus_each f xs), part-total p h f xs)

at_most : (f : Instance → Sums) (xs : List Instance) (m : Sums) → total (λ i. (f i).count) xs ≤ m.count → total (λ i. (f i).enabled) xs ≤ m.enabled
    → total (λ i. (f i).running) xs ≤ m.running → AreAtMost (plus_each f xs) m
at_most f xs m count enabled running = record {
  count = omega (arith, part-total count_in count_part f xs, count);
  enabled = omega (arith, part-total enabled_in enabled_part f xs, enabled);
  running = omega (arith, part-total running_in running_part f xs, running);
}

none_at_most : (xs : List Instance) (m : Sums) → AreAtMost (plus_each (λ i. no_sums) xs) m
none_at_most xs m = at_most (λ i. no_sums) xs m (omega (arith, total-none xs)) (omega (arith, total-none xs)) (omega (arith, total-none xs))

-- an event with its copies gets at most what one instance of it may
AtMostIn : EventNo → (Instance → ℕ) → ℕ → Instance → Type 0
AtMostIn e f m i = is_of_family e i ≡ true → f i ≤ m

member_at_most : (e : EventNo) (f : Instance → ℕ) (m : ℕ) (i : Instance) → AtMostIn e f m i → of_family e f i ≤ of_family e (λ j. m) i
unfolding AtMostIn
member_at_most e f m i h = grind arith

gets_at_most : (s : Stage) (e : EventNo) (f : Instance → ℕ) (m : ℕ) (ys : List Instance) → ((P : Instance → Type 0) → Each P (all_instances s) → Each P ys) → IsNumbered s
    → total (one_if (is_of_family e)) ys ≤ 1 → Each (AtMostIn e f m) (all_instances s) → total (λ i. of_instance f i.id ys) (filter (is_of_family e) (all_instances s)) ≤ m
gets_at_most s e f m ys among n few h =
    omega (
      arith,
      family_gets s e f ys among n,
      total-le_each (of_family e f) (of_family e (λ i. m)) ys
          (weaker-Each (AtMostIn e f m) (λ i. of_family e f i ≤ of_family e (λ j. m) i) (member_at_most e f m) ys (among (AtMostIn e f m) h)),
      total-times (is_of_family e) m ys,
      mul-le-mul_right m few,
    )

on_gets : (hw : Hardware) (s : Stage) (cpu : CpuNo) (e : EventNo) (f : Instance → ℕ) (m : ℕ) → IsSound hw s → Each (AtMostIn e f m) (all_instances s)
    → total (λ i. of_instance f i.id (on_instances hw s cpu)) (filter (is_of_family e) (all_instances s)) ≤ m
on_gets hw s cpu e f m sound h =
    gets_at_most s e f m (on_instances hw s cpu) (λ P k. on_instances-in P hw s cpu (InStage-from_all P s k)) sound.numbered
    (omega (arith, on-le (one_if (is_of_family e)) hw s cpu, count_by-is-total (is_of_family e) (reached s cpu), sound.placed.one_reached cpu e)) h

ready_gets : (hw : Hardware) (s : Stage) (cpu : CpuNo) (e : EventNo) (f : Instance → ℕ) (m : ℕ) → IsSound hw s → Each (AtMostIn e f m) (all_instances s)
    → total (λ i. of_instance f i.id (ready_instances s cpu)) (filter (is_of_family e) (all_instances s)) ≤ m
ready_gets hw s cpu e f m sound h =
    gets_at_most s e f m (ready_instances s cpu) (λ P k. ready_instances-in P s cpu (InStage-from_all P s k)) sound.numbered
    (omega (arith, ready-le (one_if (is_of_family e)) s cpu, count_by-is-total (is_of_family e) (reached s cpu), sound.placed.one_reached cpu e)) h

-- work
pub greatest-start : (first : ℕ) (numbers : List ℕ) → first ≤ fold max first numbers
greatest-start first [] = omega arith
greatest-start first (n ∷ numbers) = omega (arith, le-max_left first n, greatest-start (max first n) numbers)

pub greatest-at : (first : ℕ) (numbers : List ℕ) (k : ℕ) → slice_index numbers k ≤ fold max first numbers
greatest-at first [] k = omega arith
greatest-at first (n ∷ numbers) zero = omega (arith, le-max_right first n, greatest-start (max first n) numbers)
greatest-at first (n ∷ numbers) (suc k) = greatest-at (max first n) numbers k

pub unless-le : (b : Bool) (n m : ℕ) → n ≤ m → (if b then 0 else n) ≤ m
unless-le true n m h = omega arith
unless-le false n m h = h

pub counted-le : (w : Work) (a : Attr) (k : Kind) → counted_by w a k ≤ max w.length (greatest w.hits)
counted-le w a (kind.Hard n) = grind (arith, unless-le, greatest-at, le-max_right)
counted-le w a kind.ContextSwitches = omega arith
counted-le w a kind.CpuMigrations = omega arith
counted-le w a kind.TaskClock = le-max_left w.length (greatest w.hits)
counted-le w a kind.Dummy = omega arith

work_shared : (hw : Hardware) (s : Stage) (cpu : CpuNo) (w : Work) (e : EventNo) → IsSound hw s
    → AreAtMost (plus_each (λ i. work_share hw s cpu w i.id) (filter (is_of_family e) (all_instances s))) (most_of_line (cpu_line.Work w))
unfolding AtMostIn
work_shared hw s cpu w e sound =
    let most : ℕ = max w.length (greatest w.hits) in
    let length : Instance → ℕ = λ i. w.length in
    at_most (λ i. work_share hw s cpu w i.id) (filter (is_of_family e) (all_instances s)) (most_of_line (cpu_line.Work w))
    (on_gets hw s cpu e (work_hits w) most sound (all-Each (AtMostIn e (work_hits w) most) (λ i member. counted-le w i.attr i.attr.kind) (all_instances s)))
    (ready_gets hw s cpu e length w.length sound (all-Each (AtMostIn e length w.length) (λ i member. omega arith) (all_instances s)))
    (on_gets hw s cpu e length w.length sound (all-Each (AtMostIn e length w.length) (λ i member. omega arith) (all_instances s)))

-- a switch: a family is of one kind
IsOfKind : EventNo → Kind → Instance → Type 0
IsOfKind e k i = is_of_family e i ≡ true → i.attr.kind ≡ k

record HasOneKind (s : Stage) (e : EventNo) : Type 0 where
  pub kind : Kind
  pub all : Each (IsOfKind e kind) (all_instances s)

one_kind : (hw : Hardware) (s : Stage) (e : EventNo) → IsSound hw s → HasOneKind s e
unfolding IsOfKind
one_kind hw s e sound =
    let h : Housed s = housed-from_placed s sound.numbered sound.placed in
    let k : Kind = (h.table e.0).kind in
    record {
      kind = k;
      all = weaker-Each (IsTabled h.table) (IsOfKind e k)
          (λ i is member. ap (λ a. a.kind) is.attr ∙ ap (λ n. (h.table n).kind) (eqb-true i.event.0 e.0 member)) (all_instances s) (tabled h.table s h.housed.homes);
    }

kind_of_attr : (e : EventNo) (k : Kind) → IsOfAttr (IsOfKind e k)
unfolding IsOfKind
kind_of_attr e k = record { holds = λ i j id event copy attr h member. ap (λ a. a.kind) (sym attr) ∙ h (ap (λ (n : EventNo). n.0 == e.0) event ∙ member) }

both-le : (a b : Bool) → (if a && b then 1 else 0) ≤ as_number a
both-le true true = omega arith
both-le true false = omega arith
both-le false b = omega arith

switches_of_kind : (e : EventNo) (k : Kind) (i : Instance) → IsOfKind e k i → AtMostIn e switch_hits (as_number (is_switches k)) i
unfolding IsOfKind AtMostIn
switches_of_kind e k i h member = rw (← h member) (both-le (is_switches i.attr.kind) (not (excludes_kernel i.attr)))

migrations_of_kind : (e : EventNo) (k : Kind) (i : Instance) → IsOfKind e k i → AtMostIn e migration_hits (as_number (is_migrations k)) i
unfolding IsOfKind AtMostIn
migrations_of_kind e k i h member = rw (← h member) (both-le (is_migrations i.attr.kind) (not (excludes_kernel i.attr)))

one_or_other : (k : Kind) → as_number (is_switches k) + as_number (is_migrations k) ≤ 1
one_or_other (kind.Hard n) = omega arith
one_or_other kind.ContextSwitches = omega arith
one_or_other kind.CpuMigrations = omega arith
one_or_other kind.TaskClock = omega arith
one_or_other kind.Dummy = omega arith

-- the stage after it has the same instances, but for their own states
switch-in : (P : Instance → Type 0) → IsOfAttr P → (hw : Hardware) (r : Option Reason) (cpu : CpuNo) (to : Option TaskNo) (s : Stage) → InStage P s
    → InStage P (unless_refused hw r (switched cpu to) s)
switch-in P named hw (Some r) cpu to s h = h
switch-in P named hw None cpu to s h = settle_all-in P named hw (switched cpu to s) (switched-in P cpu to s h)

switch-weighs : (g : ℕ → ℕ) (e : EventNo) (hw : Hardware) (r : Option Reason) (cpu : CpuNo) (to : Option TaskNo) (s : Stage)
    → weigh (of_family e (λ i. g i.id)) (unless_refused hw r (switched cpu to) s) ≡ weigh (of_family e (λ i. g i.id)) s
switch-weighs g e hw (Some r) cpu to s = refl
switch-weighs g e hw None cpu to s = settle_all-weighs (of_family e (λ i. g i.id)) (λ i o. refl) hw (switched cpu to s) ∙ switched-weighs (of_family e (λ i. g i.id)) cpu to s

-- the sum over a family is a weight
pub family-weighs : (g : ℕ → ℕ) (e : EventNo) (s : Stage) → total (λ i. g i.id) (filter (is_of_family e) (all_instances s)) ≡ weigh (of_family e (λ i. g i.id)) s
family-weighs g e s = total-filter (λ i. g i.id) (is_of_family e) (all_instances s) ∙ weigh-is-total (of_family e (λ i. g i.id)) s

migration_total : (hw : Hardware) (b : Bool) (after : Stage) (cpu : CpuNo) (xs : List Instance) (m : ℕ) → total (λ i. of_instance migration_hits i.id (on_instances hw after cpu)) xs ≤ m
    → total (λ i. migration_share hw b after cpu i.id) xs ≤ m
migration_total hw true after cpu xs m h = h
migration_total hw false after cpu xs m h = omega (arith, total-none xs)

switch_shared : (l : Limits) (hw : Hardware) (s : Stage) (cpu : CpuNo) (to : Option TaskNo) (e : EventNo) → IsMachine l hw → IsWithin l (CpuStep cpu (cpu_line.Switch to)) → IsSound hw s
    → AreAtMost (plus_each (λ i. switch_share hw s cpu to i.id) (filter (is_of_family e) (all_instances s))) (most_of_line (cpu_line.Switch to))
unfolding stage_step
switch_shared l hw s cpu to e machine within sound =
    let xs : List Instance = filter (is_of_family e) (all_instances s) in
    let after : Stage = stage_step hw s (CpuStep cpu (cpu_line.Switch to)) in
    let r : Option Reason = switch_refusal s cpu to in
    let later : ℕ → ℕ = λ id. of_instance migration_hits id (on_instances hw after cpu) in
    let sound_after : IsSound hw after = step_sound l hw s (CpuStep cpu (cpu_line.Switch to)) machine within sound in
    let one : HasOneKind s e = one_kind hw s e sound in
    let k : Kind = one.kind in
    let kinds : Each (IsOfKind e k) (all_instances after) = search (all_instances-in, IsOfKind, switch-in, kind_of_attr, InStage-from_all) in
    let switches : total (λ i. of_instance switch_hits i.id (on_instances hw s cpu)) xs ≤ as_number (is_switches k) =
    on_gets hw s cpu e switch_hits (as_number (is_switches k)) sound
    (weaker-Each (IsOfKind e k) (AtMostIn e switch_hits (as_number (is_switches k))) (switches_of_kind e k) (all_instances s) one.all) in
    let migrations : total (λ i. later i.id) (filter (is_of_family e) (all_instances after)) ≤ as_number (is_migrations k) =
    on_gets hw after cpu e migration_hits (as_number (is_migrations k)) sound_after
    (weaker-Each (IsOfKind e k) (AtMostIn e migration_hits (as_number (is_migrations k))) (migrations_of_kind e k) (all_instances after) kinds) in
    let same : total (λ i. later i.id) xs ≡ total (λ i. later i.id) (filter (is_of_family e) (all_instances after)) =
    family-weighs later e s ∙ (sym (switch-weighs later e hw r cpu to s) ∙ sym (family-weighs later e after)) in
    at_most (λ i. switch_share hw s cpu to i.id) xs (most_of_line (cpu_line.Switch to))
    (omega (
      arith,
      total-plus (λ i. of_instance switch_hits i.id (on_instances hw s cpu)) (λ i. migration_share hw (is_migration s cpu to) after cpu i.id) xs,
      switches,
      migration_total hw (is_migration s cpu to) after cpu xs (as_number (is_migrations k)) (omega (arith, same, migrations)),
      one_or_other k,
    ))
    (omega (arith, total-none xs)) (omega (arith, total-none xs))

either_shared : (b : Bool) (f : ℕ → Sums) (xs : List Instance) (m : Sums) → AreAtMost (plus_each (λ i. f i.id) xs) m
    → AreAtMost (plus_each (λ i. elim b as (λ x. Sums) [ true ↦ f i.id | false ↦ no_sums ]) xs) m
either_shared true f xs m h = h
either_shared false f xs m h = none_at_most xs m

line_shared : (l : Limits) (hw : Hardware) (s : Stage) (cpu : CpuNo) (line : CpuLine) (e : EventNo) → IsMachine l hw → IsWithin l (CpuStep cpu line) → IsSound hw s
    → AreAtMost (plus_each (λ i. cpu_share hw s cpu line i.id) (filter (is_of_family e) (all_instances s))) (most_of_line line)
line_shared l hw s cpu (cpu_line.Switch to) e machine within sound =
    either_shared (changes_task (switch_refusal s cpu to) (is_running (task_on s cpu) to)) (switch_share hw s cpu to) (filter (is_of_family e) (all_instances s))
    (most_of_line (cpu_line.Switch to)) (switch_shared l hw s cpu to e machine within sound)
line_shared l hw s cpu (cpu_line.Work w) e machine within sound = work_shared hw s cpu w e sound
line_shared l hw s cpu cpu_line.Tick e machine within sound = none_at_most (filter (is_of_family e) (all_instances s)) no_sums
line_shared l hw s cpu (cpu_line.Fork child) e machine within sound = none_at_most (filter (is_of_family e) (all_instances s)) no_sums
line_shared l hw s cpu cpu_line.Exit e machine within sound = none_at_most (filter (is_of_family e) (all_instances s)) no_sums

pub family_shared : FamilyShareLaw
unfolding share
family_shared l hw s (CpuStep cpu line) e machine within sound = line_shared l hw s cpu line e machine within sound
family_shared l hw s (ToolStep line) e machine within sound = none_at_most (filter (is_of_family e) (all_instances s)) no_sums
family_shared l hw s (SeenStep ring place) e machine within sound = none_at_most (filter (is_of_family e) (all_instances s)) no_sums
