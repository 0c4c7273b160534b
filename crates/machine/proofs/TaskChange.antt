-- A switch that is done.
use Rattle.std.specs.Prelude.{◌≡◌, ℕ, zero, suc, ◌+◌, ◌<◌, ◌==◌, Bool, true, false, cond, List, [], ◌∷◌, length, filter, Option, Some, None, slice_index_or, if◌then◌else◌}
use Rattle.std.proofs.{Common.{arith, refl, sym, ap, subst, ◌∙◌, inl, inr}, lemmas.{Bool.{cases_eq}, List.{length-set}}}
use Rattle.perf_base.specs.declared.{numbers.{CpuNo.{CpuNo}, Key.{Key}, TaskNo.{TaskNo}}}
use Rattle.perf_base.specs.declared.attr.Kind.TheVariants as kind
use Rattle.perf_base.specs.declared.lines.CpuLine.TheVariants as line
use Rattle.perf_base.specs.declared.reply.Reply.TheVariants as reply
use Rattle.stage_spec.specs.{declared.instance.Instance.{Instance}, Families.{plus}, Hardware.{Hardware}, History.{Step, CpuStep, stage_step}}
use Rattle.stage_spec.specs.{Limits.{IsMachine, IsWithin}, Occurrences.{left_after, left_after_one}}
use Rattle.stage_spec.specs.{Settle.{settle, settle_each}, Shares.{share, no_sums, of_instance, migration_share, switch_share}}
use Rattle.stage_spec.specs.{Stage.{Stage, all_cpus, task_on}, Switching.{is_running, is_migration, switch_refusal, switched}, Verdict.{on_instances}}
use Rattle.stage_spec.proofs.Recurrence.{plus-none, plus-assoc}
use Rattle.stage_laws.specs.{Narrowing.{IsNarrow, changed, unless_left, unless_no, touches}, Bounds.{AreAtMost}, Sound.{IsSound}}
use Rattle.stage_laws.proofs.{Narrow.{narrows}, Sound.{step_sound}}
use Rattle.world_spec.specs.{Changes.{place}, Kept.{IsKept, family_sums}, Rescheduled.{AreRescheduled, AreUntouchedBut, IsRescheduled}}
use Rattle.world_spec.specs.{StageOf.{stage_of}, Value.{World, Account, is_live, entry_at, instance_at, account_at}}
use Rattle.world_spec.specs.{Shares.{HaveShares, HaveRoom, with_share, soft_shares, soft_hits, one_hit}, Stepping.{HasStepped, HasItsShare}}
use Rattle.world_spec.proofs.{Lines.{slots-current}, Quiet.{none-after}, Stepping.{stepped, instance-found}}
use Rattle.cpu_sched.specs.Resched.{StaysBut}
use Rattle.machine.{specs.{Stepped.{limits_in, IsReady}, Switched.{migration_shares, two_hits}}, proofs.Refused.{accepted-cpu}}
use Rattle.machine.proofs.{Keeping.{one-below}, Settling.{one-settled}}
use Rattle.machine.specs.Stepped as stepped_line
use Rattle.work_account.proofs.Accounts.{nothing-lost}

-- no migration leaves the accounts
pub none-given : (w : World) (cpu : CpuNo) → HaveShares w w (migration_shares false w cpu)
none-given w cpu = grind (arith, plus-none, none-after)

-- a task that comes leaves what is counted
pub record KeepsCounts (w x : World) : Type 0 where
  pub hardware : x.hardware ≡ w.hardware
  pub entries : x.entries ≡ w.entries
  pub accounts : x.accounts ≡ w.accounts
  pub families : x.families ≡ w.families
  pub folded : x.folded ≡ w.folded
  pub lost : x.lost ≡ w.lost
  pub size : length x.quiet.running ≡ length w.quiet.running
  pub clocks : x.quiet.clocks ≡ w.quiet.clocks
  pub used : x.quiet.used ≡ w.quiet.used
  pub next_id : x.quiet.next_id ≡ w.quiet.next_id

placed-keeps : (cpu : CpuNo) (to : Option TaskNo) (w : World) → KeepsCounts w (place cpu to w)
placed-keeps cpu None w = record { hardware = refl; entries = refl; accounts = refl; families = refl; folded = refl; lost = refl; size = length-set w.quiet.running cpu.0 None; clocks = refl; used = refl; next_id = refl }
placed-keeps cpu (Some task) w = record { hardware = refl; entries = refl; accounts = refl; families = refl; folded = refl; lost = refl; size = length-set w.quiet.running cpu.0 (Some task); clocks = refl; used = refl; next_id = refl }

pub placed-totals : (cpu : CpuNo) (to : Option TaskNo) (w : World) → (place cpu to w).quiet.totals ≡ w.quiet.totals
placed-totals cpu None w = refl
placed-totals cpu (Some task) w = refl

-- What is told of a switch: the worlds before it, after its own count, after the task came, and after the processor was
-- rescheduled.
pub record Course (w a b x : World) (cpu : CpuNo) (to : Option TaskNo) (migrates : Bool) : Type 0 where
  pub kept : IsKept w.hardware w
  pub ready : IsReady w
  pub low : cpu.0 < length w.quiet.running
  pub task : (task : TaskNo) → to ≡ Some task → task.0 < 64
  pub accepted : switch_refusal (stage_of w) cpu to ≡ None
  pub changes : is_running (task_on (stage_of w) cpu) to ≡ false
  pub first : HaveShares w a (soft_shares w cpu kind.ContextSwitches)
  pub first_rest : a ≡ record w { accounts = a.accounts }
  pub grown : (slot : ℕ) → AreAtMost (family_sums a slot) (plus (family_sums w slot) one_hit)
  pub migration : migrates ≡ is_migration (stage_of a) cpu to
  pub moved : b ≡ place cpu to a
  pub moved_stage : stage_of b ≡ switched cpu to (stage_of a)
  pub settled : stage_of x ≡ settle b.hardware cpu (stage_of b)
  pub rest : StaysBut cpu b x

-- What is told of its end: the world after the migration's count, and that the processors are as rescheduling leaves
-- them.
pub record End (w a b x d : World) (cpu : CpuNo) (to : Option TaskNo) (migrates : Bool) : Type 0 where
  pub course : Course w a b x cpu to migrates
  pub given : HaveShares x d (migration_shares migrates x cpu)
  pub stage : stage_of d ≡ stage_of x
  pub rest : d ≡ record x { accounts = d.accounts }
  pub kept_then : IsKept d.hardware d

stage-first : (w a : World) → a ≡ record w { accounts = a.accounts } → stage_of a ≡ stage_of w
stage-first w a is = ap stage_of is

-- after the rescheduling all is counted as after the switch's own count
pub keeps-counts : (w a b x : World) (cpu : CpuNo) (to : Option TaskNo) (m : Bool) → Course w a b x cpu to m → KeepsCounts a b
keeps-counts w a b x cpu to m c = subst (KeepsCounts a) (sym c.moved) (placed-keeps cpu to a)

entry-then : (w a b x : World) (cpu : CpuNo) (to : Option TaskNo) (m : Bool) → Course w a b x cpu to m → (k : Key)
    → entry_at x k ≡ record (entry_at w k) { instance = record (instance_at w k) { own = (instance_at x k).own } }
entry-then w a b x cpu to m c k = grind (arith, keeps-counts)

live-then : (w a b x : World) (cpu : CpuNo) (to : Option TaskNo) (m : Bool) → Course w a b x cpu to m → (k : Key) → is_live x k ≡ is_live w k
live-then w a b x cpu to m c k = grind (arith, keeps-counts)

account-then : (w a b x : World) (cpu : CpuNo) (to : Option TaskNo) (m : Bool) → Course w a b x cpu to m → (k : Key) → account_at x k ≡ account_at a k
account-then w a b x cpu to m c k = grind (arith, keeps-counts)

sums-then : (w a b x : World) (cpu : CpuNo) (to : Option TaskNo) (m : Bool) → Course w a b x cpu to m → (slot : ℕ) → family_sums x slot ≡ family_sums a slot
sums-then w a b x cpu to m c slot = grind (arith, keeps-counts)

pub room-then : (w a b x : World) (cpu : CpuNo) (to : Option TaskNo) (m : Bool) → Course w a b x cpu to m → HaveRoom w two_hits → HaveRoom x one_hit
room-then w a b x cpu to m c room =
    let slot : (k : Key) → (instance_at x k).event.0 ≡ (instance_at w k).event.0 = λ k. ap (λ e. e.instance.event.0) (entry-then w a b x cpu to m c k) in
    let live : (k : Key) → is_live x k ≡ true → is_live w k ≡ true = λ k there. sym (live-then w a b x cpu to m c k) ∙ there in
    let sums : (k : Key) → family_sums x (instance_at x k).event.0 ≡ family_sums a (instance_at w k).event.0 = grind (arith, sums-then) in
    grind (arith, live, sums)

-- the stage after the switch
pub hardware-then : (w a b x : World) (cpu : CpuNo) (to : Option TaskNo) (m : Bool) → Course w a b x cpu to m → b.hardware ≡ w.hardware
hardware-then w a b x cpu to m c = (keeps-counts w a b x cpu to m c).hardware ∙ ap (λ (y : World). y.hardware) c.first_rest

pub filter-alike : (p q : CpuNo → Bool) (xs : List CpuNo) → ((cpu : CpuNo) → p cpu ≡ q cpu) → filter p xs ≡ filter q xs
filter-alike p q [] same = refl
filter-alike p q (x ∷ xs) same = λ i. cond (same x i) (x ∷ filter-alike p q xs same i) (filter-alike p q xs same i)

switch-within : (w : World) (cpu : CpuNo) (to : Option TaskNo) → cpu.0 < length w.quiet.running → ((task : TaskNo) → to ≡ Some task → task.0 < 64) → IsWithin (limits_in w) (CpuStep cpu (line.Switch to))
switch-within w cpu None low task = (low, tt)
switch-within w cpu (Some t) low task = (low, task t refl)

pub switch-stage : (w a b x : World) (cpu : CpuNo) (to : Option TaskNo) (m : Bool) → Course w a b x cpu to m → stage_of x ≡ stage_step w.hardware (stage_of w) (CpuStep cpu (line.Switch to))
switch-stage w a b x cpu to m c =
    let hw : Hardware = w.hardware in
    let s : Stage = stage_of w in
    let step : Step = CpuStep cpu (line.Switch to) in
    let narrow : IsNarrow hw s step = narrows (limits_in w) hw s step c.ready.machine (switch-within w cpu to c.low c.task) c.ready.sound (λ own low. (c.ready.rescheduled own low).settled) in
    let made : stage_of b ≡ switched cpu to s = c.moved_stage ∙ ap (switched cpu to) (stage-first w a c.first_rest) in
    let change : changed hw s step ≡ switched cpu to s = ap (λ o. unless_left o (switched cpu to) s) c.accepted in
    let touched : (own : CpuNo) → touches hw s step own ≡ (cpu.0 == own.0) = λ own. ap (λ o. unless_no o (cpu.0 == own.0)) c.accepted in
    c.settled
    ∙ ((λ i. settle (hardware-then w a b x cpu to m c i) cpu (made i))
    ∙ (sym (one-settled hw cpu (switched cpu to s))
    ∙ (ap (λ cs. settle_each hw cs (switched cpu to s)) (sym (filter-alike (touches hw s step) (λ own. cpu.0 == own.0) (all_cpus s) touched ∙ one-below cpu (length w.quiet.running) c.low))
    ∙ (ap (settle_each hw (filter (touches hw s step) (all_cpus s))) (sym change) ∙ sym narrow.stage))))

-- two shares, one after the other
left-together : (m n period left : ℕ) → left_after n period (left_after m period left) ≡ left_after (m + n) period left
unfolding left_after
left-together zero n period left = let none : n ≡ 0 + n = omega arith in ap (λ k. left_after k period left) none
left-together (suc m) n period left =
    let more : suc (m + n) ≡ suc m + n = omega arith in
    left-together m n period (left_after_one period left) ∙ ap (λ k. left_after k period left) more

given-together : (i j : Instance) (account : Account) (m n : ℕ) → j.attr.period ≡ i.attr.period
    → with_share j (record no_sums { count = n }) (with_share i (record no_sums { count = m }) account) ≡ with_share i (record no_sums { count = m + n }) account
given-together i j account m n same = grind (arith, plus-assoc, left-together)

-- the share of a migration, as the definitions have it
migration-share : (hw : Hardware) (m : Bool) (s : Stage) (cpu : CpuNo) (id : ℕ) → (if m then of_instance (soft_hits kind.CpuMigrations) id (on_instances hw s cpu) else 0) ≡ migration_share hw m s cpu id
migration-share hw true s cpu id = refl
migration-share hw false s cpu id = refl

switch-gives : (hw : Hardware) (s : Stage) (cpu : CpuNo) (to : Option TaskNo) (id : ℕ) → switch_refusal s cpu to ≡ None → is_running (task_on s cpu) to ≡ false
    → share hw s (CpuStep cpu (line.Switch to)) id ≡ switch_share hw s cpu to id
unfolding share
switch-gives hw s cpu to id accepted changes = grind arith

-- what the two counts give together is the share of the switch
hits-together : (w a b x : World) (cpu : CpuNo) (to : Option TaskNo) (m : Bool) (id : ℕ) → Course w a b x cpu to m
    → (soft_shares w cpu kind.ContextSwitches id).count + (migration_shares m x cpu id).count ≡ (switch_share w.hardware (stage_of w) cpu to id).count
hits-together w a b x cpu to m id c =
    let own : ℕ = of_instance (soft_hits kind.ContextSwitches) id (on_instances w.hardware (stage_of w) cpu) in
    let hardware : x.hardware ≡ w.hardware = ap (λ (y : World). y.hardware) c.rest.world ∙ hardware-then w a b x cpu to m c in
    let migrates : m ≡ is_migration (stage_of w) cpu to = c.migration ∙ ap (λ s. is_migration s cpu to) (stage-first w a c.first_rest) in
    ap (λ n. own + n) (migration-share x.hardware m (stage_of x) cpu id ∙ (λ i. migration_share (hardware i) (migrates i) (switch-stage w a b x cpu to m c i) cpu id))

switch-account : (w a b x d : World) (cpu : CpuNo) (to : Option TaskNo) (m : Bool) (k : Key) → End w a b x d cpu to m → is_live x k ≡ true → is_live w k ≡ true
    → account_at d k ≡ with_share (instance_at w k) (share w.hardware (stage_of w) (CpuStep cpu (line.Switch to)) (instance_at w k).id) (account_at w k)
switch-account w a b x d cpu to m k e came live =
    let c : Course w a b x cpu to m = e.course in
    let id : ℕ = (instance_at w k).id in
    let entry : entry_at x k ≡ record (entry_at w k) { instance = record (instance_at w k) { own = (instance_at x k).own } } = entry-then w a b x cpu to m c k in
    let ids : (instance_at x k).id ≡ id = ap (λ y. y.instance.id) entry in
    let gives : share w.hardware (stage_of w) (CpuStep cpu (line.Switch to)) id ≡ switch_share w.hardware (stage_of w) cpu to id =
    switch-gives w.hardware (stage_of w) cpu to id c.accepted c.changes in
    e.given.accounts k came
    ∙ ((λ i. with_share (instance_at x k) (migration_shares m x cpu (ids i)) ((account-then w a b x cpu to m c k ∙ c.first.accounts k live) i))
    ∙ (given-together (instance_at w k) (instance_at x k) (account_at w k) (soft_shares w cpu kind.ContextSwitches id).count (migration_shares m x cpu id).count (ap (λ y. y.instance.attr.period) entry)
    ∙ (ap (λ n. with_share (instance_at w k) (record no_sums { count = n }) (account_at w k)) (hits-together w a b x cpu to m id c)
    ∙ ap (λ g. with_share (instance_at w k) g (account_at w k)) (sym gives))))

live-last : (w a b x d : World) (cpu : CpuNo) (to : Option TaskNo) (m : Bool) (k : Key) → End w a b x d cpu to m → is_live d k ≡ is_live x k
live-last w a b x d cpu to m k e = ap (λ (y : World). is_live y k) e.rest

id-last : (w a b x d : World) (cpu : CpuNo) (to : Option TaskNo) (m : Bool) (k : Key) → End w a b x d cpu to m → (instance_at d k).id ≡ (instance_at w k).id
id-last w a b x d cpu to m k e = ap (λ (y : World). (instance_at y k).id) e.rest ∙ ap (λ y. y.instance.id) (entry-then w a b x cpu to m e.course k)

switch-share : (w a b x d : World) (cpu : CpuNo) (to : Option TaskNo) (m : Bool) (k : Key) → End w a b x d cpu to m → is_live d k ≡ true
    → HasItsShare w.hardware w d (CpuStep cpu (line.Switch to)) k
switch-share w a b x d cpu to m k e there = grind (arith, live-last, live-then, switch-account, id-last, instance-found)

-- all that is counted by slot and by processor stays
record KeepsSlots (w d : World) : Type 0 where
  hardware : d.hardware ≡ w.hardware
  families : d.families ≡ w.families
  folded : d.folded ≡ w.folded
  lost : d.lost ≡ w.lost
  size : length d.quiet.running ≡ length w.quiet.running
  clocks : d.quiet.clocks ≡ w.quiet.clocks
  used : d.quiet.used ≡ w.quiet.used
  next_id : d.quiet.next_id ≡ w.quiet.next_id

slots-kept : (w a b x d : World) (cpu : CpuNo) (to : Option TaskNo) (m : Bool) → End w a b x d cpu to m → KeepsSlots w d
slots-kept w a b x d cpu to m e = grind (arith, keeps-counts)

switch-stepped : (w a b x d : World) (cpu : CpuNo) (to : Option TaskNo) (m : Bool) → End w a b x d cpu to m → HasStepped w.hardware w d (CpuStep cpu (line.Switch to))
switch-stepped w a b x d cpu to m e =
    let keeps : KeepsSlots w d = slots-kept w a b x d cpu to m e in
    record {
      stage = e.stage ∙ switch-stage w a b x cpu to m e.course;
      drawn = omega (arith, keeps.next_id);
      old = λ k live before. switch-share w a b x d cpu to m k e live;
      new = λ k live past.
          let low : (instance_at w k).id < w.quiet.next_id = grind (arith, live-then, live-last) in
          absurd (omega (arith, low, past, id-last w a b x d cpu to m k e));
      slots = slots-current w d e.course.kept e.kept_then keeps.families keeps.used;
      folded = λ slot current. (
        [],
        record {
          leaving = refl;
          live = λ k some. absurd (omega (arith, some));
          sums = ap (λ f. slice_index_or f slot.0 no_sums) keeps.folded ∙ sym (plus-none (slice_index_or w.folded slot.0 no_sums));
        },
      );
      lost = λ slot. ap (λ l. slice_index_or l slot.0 0) keeps.lost;
      clock = λ own. let same : slice_index_or d.quiet.clocks own.0 0 ≡ slice_index_or w.quiet.clocks own.0 0 = ap (λ l. slice_index_or l own.0 0) keeps.clocks in omega (arith, same);
    }

pub switch-done : (w a b x d : World) (cpu : CpuNo) (to : Option TaskNo) (m : Bool) → End w a b x d cpu to m → stepped_line.IsDone (CpuStep cpu (line.Switch to)) w d reply.Ok
switch-done w a b x d cpu to m e by agrees = record {
  answer = accepted-cpu w by cpu (line.Switch to) e.course.accepted agrees;
  agrees = stepped w.hardware w d by (CpuStep cpu (line.Switch to)) e.course.kept (subst (λ (hw : Hardware). IsKept hw d) (slots-kept w a b x d cpu to m e).hardware e.kept_then) agrees
      (switch-stepped w a b x d cpu to m e) (nothing-lost cpu (line.Switch to) by.rings);
}

-- every processor stands as rescheduling leaves it
pub switch-rescheduled : (w a b x d : World) (cpu : CpuNo) (to : Option TaskNo) (m : Bool) → End w a b x d cpu to m → IsRescheduled b.hardware x cpu
    → ((other : CpuNo) → IsRescheduled w.hardware w other → IsRescheduled w.hardware a other)
    → AreUntouchedBut cpu a b
    → AreUntouchedBut cpu b x
    → ((other : CpuNo) → IsRescheduled x.hardware x other → IsRescheduled x.hardware d other) → AreRescheduled d.hardware d
switch-rescheduled w a b x d cpu to m e own first moved settled last other low =
    let c : Course w a b x cpu to m = e.course in
    let k : KeepsCounts a b = keeps-counts w a b x cpu to m c in
    let keeps : KeepsSlots w d = slots-kept w a b x d cpu to m e in
    let to_a : a.hardware ≡ w.hardware = ap (λ (y : World). y.hardware) c.first_rest in
    let to_x : x.hardware ≡ b.hardware = ap (λ (y : World). y.hardware) c.rest.world in
    let to_d : d.hardware ≡ x.hardware = ap (λ (y : World). y.hardware) e.rest in
    let within : other.0 < length w.quiet.running = omega (arith, low, keeps.size) in
    let size_a : length a.quiet.running ≡ length w.quiet.running = ap (λ (y : World). length y.quiet.running) c.first_rest in
    let at_x : IsRescheduled b.hardware x other =
    elim (cases_eq other.0 cpu.0) [
      | inl same ↦ subst (λ (n : ℕ). IsRescheduled b.hardware x (record { 0 = n })) (sym same) own
      | inr apart ↦ grind (arith, apart)
    ] in
    subst (λ (hw : Hardware). IsRescheduled hw d other) (sym to_d) (last other (subst (λ (hw : Hardware). IsRescheduled hw x other) (sym to_x) at_x))

pub switch-ready : (w a b x d : World) (cpu : CpuNo) (to : Option TaskNo) (m : Bool) → End w a b x d cpu to m → AreRescheduled d.hardware d → IsReady d
switch-ready w a b x d cpu to m e rescheduled =
    let keeps : KeepsSlots w d = slots-kept w a b x d cpu to m e in
    let c : Course w a b x cpu to m = e.course in
    let stage : stage_of d ≡ stage_step w.hardware (stage_of w) (CpuStep cpu (line.Switch to)) = e.stage ∙ switch-stage w a b x cpu to m c in
    record {
      machine = subst (λ (n : ℕ). IsMachine (record { cpus = n; kinds = length d.hardware.kind_pmus; rings = [] }) d.hardware) (sym keeps.size)
          (subst (λ (hw : Hardware). IsMachine (record { cpus = length w.quiet.running; kinds = length hw.kind_pmus; rings = [] }) hw) (sym keeps.hardware) c.ready.machine);
      sound = subst (λ (hw : Hardware). IsSound hw (stage_of d)) (sym keeps.hardware)
          (subst (IsSound w.hardware) (sym stage) (step_sound (limits_in w) w.hardware (stage_of w) (CpuStep cpu (line.Switch to)) c.ready.machine (switch-within w cpu to c.low c.task) c.ready.sound));
      rescheduled = rescheduled;
      homes = λ k own live at.
          let context : (entry_at d k).context ≡ (entry_at w k).context = ap (λ (y : World). (entry_at y k).context) e.rest ∙ ap (λ y. y.context) (entry-then w a b x cpu to m c k) in
          let low : own.0 < length w.quiet.running = c.ready.homes k own (sym (live-then w a b x cpu to m c k) ∙ (sym (live-last w a b x d cpu to m k e) ∙ live)) (sym context ∙ at) in
          omega (arith, low, keeps.size);
    }
