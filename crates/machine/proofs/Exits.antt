-- An exit.
use Rattle.std.specs.Prelude.{◌≡◌, ◌<◌, ◌≤◌, ◌&&◌, ◌==◌, true, not, List, [], length, map, filter, Option, Some, None, slice_index_or}
use Rattle.std.proofs.{Common.{arith, refl, sym, ap, subst, ◌∙◌}, lemmas.{List.{length-set}}}
use Rattle.perf_base.specs.declared.numbers.{CpuNo.{CpuNo}, EventNo.{EventNo}, Key.{Key}, TaskNo.{TaskNo}}
use Rattle.perf_base.specs.declared.lines.CpuLine.TheVariants as line
use Rattle.perf_base.specs.declared.reply.Reply.TheVariants as reply
use Rattle.perf_base.specs.declared.standing.Context.TheVariants as context
use Rattle.stage_spec.specs.{Exits.{exit_refusal, exited, exited_by}, Hardware.{Hardware}, History.{Step, CpuStep, stage_step}}
use Rattle.stage_spec.specs.{Settle.{settle, settle_each}}
use Rattle.stage_spec.specs.{Stage.{Stage, all_cpus, task_on, members, groups_in, is_of_family}, Verdict.{task_lists}}
use Rattle.stage_laws.{specs.{Narrowing.{IsNarrow, changed, unless_left, unless_no, touches}}, proofs.Narrow.{narrows}}
use Rattle.world_spec.specs.{Kept.{plus_keys, IsKept}, Listings.{keys_in}, Rescheduled.{AreUntouchedBut, IsRescheduled}}
use Rattle.world_spec.specs.{StageOf.{stage_of}, Value.{World, is_live, entry_at, instance_at, account_at, family_of, times}, Quiet.{KeepsAccount}}
use Rattle.world_spec.{specs.Stepping.{HasStepped, HasFolded}, proofs.{Lines.{slots-same}, Moving.{leads-parts}, Quiet.{quiet-keeps}, Stepping.{stepped}}}
use Rattle.cpu_sched.specs.Resched.{StaysBut}
use Rattle.exit_fold.{specs.Leaving.{leaves, leaving_copies, leaving_sums, HasExited}, proofs.Copies.{leaving-times}}
use Rattle.exit_fold.proofs.Leaving.{of_event, leaving-mapped, same-keys}
use Rattle.world_spec.proofs.Placing.{task-low}
use Rattle.machine.{specs.Stepped.{limits_in, IsReady}, proofs.{Keeping.{one-below, ready-then, rescheduled-but}, Refused.{accepted-cpu}}}
use Rattle.machine.proofs.{Settling.{one-settled}, TaskChange.{filter-alike}}
use Rattle.machine.specs.Stepped as stepped_line
use Rattle.world_spec.proofs.Along.{filter-no}
use Rattle.world_spec.proofs.Families.{same-sums}
use Rattle.work_account.proofs.Accounts.{nothing-lost}

-- What is told of an exit: the worlds before it, after it, and after the processor was rescheduled.
pub record Course (w v x : World) (cpu : CpuNo) : Type 0 where
  pub kept : IsKept w.hardware w
  pub ready : IsReady w
  pub low : cpu.0 < length w.quiet.running
  pub accepted : exit_refusal (stage_of w) cpu ≡ None
  pub stage : stage_of v ≡ exited cpu (stage_of w)
  pub gone : HasExited w v (task_on (stage_of w) cpu)
  pub settled : stage_of x ≡ settle v.hardware cpu (stage_of v)
  pub rest : StaysBut cpu v x
  pub kept_then : IsKept x.hardware x

-- as many processors stay
size-by : (cpu : CpuNo) (o : Option TaskNo) (s : Stage) → length (exited_by cpu o s).running ≡ length s.running
size-by cpu None s = refl
size-by cpu (Some task) s = length-set s.running cpu.0 None

size-exited : (cpu : CpuNo) (s : Stage) → length (exited cpu s).running ≡ length s.running
unfolding exited
size-exited cpu s = size-by cpu (task_on s cpu) s

pub exit-size : (w v : World) (cpu : CpuNo) → stage_of v ≡ exited cpu (stage_of w) → length v.quiet.running ≡ length w.quiet.running
exit-size w v cpu stage = ap (λ s. length s.running) stage ∙ size-exited cpu (stage_of w)

-- what is counted by slot and by processor, and how many processors there are
record KeepsRest (w x : World) : Type 0 where
  hardware : x.hardware ≡ w.hardware
  originals : (e : EventNo) → (family_of x e).original ≡ (family_of w e).original
  lost : x.lost ≡ w.lost
  size : length x.quiet.running ≡ length w.quiet.running
  clocks : x.quiet.clocks ≡ w.quiet.clocks
  used : x.quiet.used ≡ w.quiet.used
  next_id : x.quiet.next_id ≡ w.quiet.next_id

rest-kept : (w v x : World) (cpu : CpuNo) → Course w v x cpu → KeepsRest w x
rest-kept w v x cpu c = grind (arith, exit-size)

exit-stage : (w v x : World) (cpu : CpuNo) → Course w v x cpu → stage_of x ≡ stage_step w.hardware (stage_of w) (CpuStep cpu line.Exit)
exit-stage w v x cpu c =
    let hw : Hardware = w.hardware in
    let s : Stage = stage_of w in
    let step : Step = CpuStep cpu line.Exit in
    let narrow : IsNarrow hw s step = narrows (limits_in w) hw s step c.ready.machine (c.low, tt) c.ready.sound (λ own low. (c.ready.rescheduled own low).settled) in
    let change : changed hw s step ≡ exited cpu s = ap (λ o. unless_left o (exited cpu) s) c.accepted in
    let touched : (own : CpuNo) → touches hw s step own ≡ (cpu.0 == own.0) = λ own. ap (λ o. unless_no o (cpu.0 == own.0)) c.accepted in
    c.settled
    ∙ ((λ i. settle (c.gone.gone.hardware i) cpu (c.stage i))
    ∙ (sym (one-settled hw cpu (exited cpu s))
    ∙ (ap (λ cs. settle_each hw cs (exited cpu s)) (sym (filter-alike (touches hw s step) (λ own. cpu.0 == own.0) (all_cpus s) touched ∙ one-below cpu (length w.quiet.running) c.low))
    ∙ (ap (settle_each hw (filter (touches hw s step) (all_cpus s))) (sym change) ∙ sym narrow.stage))))

-- each key that names an instance then has what it had
record Stays (w x : World) (k : Key) : Type 0 where
  keeps : KeepsAccount w x k
  context : (entry_at x k).context ≡ (entry_at w k).context

stays : (w v x : World) (cpu : CpuNo) (k : Key) → Course w v x cpu → is_live x k ≡ true → Stays w x k
stays w v x cpu k c live =
    let there : is_live v k ≡ true = sym (c.rest.live k) ∙ live in
    record {
      keeps = record {
        live = (leads-parts (is_live w k) (not (leaves w (task_on (stage_of w) cpu) k)) (sym (c.gone.gone.live k) ∙ there)).0;
        id = ap (λ y. y.instance.id) (c.rest.entries k) ∙ ap (λ i. i.id) (c.gone.gone.instances k there);
        account = ap (λ (y : World). account_at y k) c.rest.world ∙ c.gone.gone.accounts k there;
      };
      context = ap (λ y. y.context) (c.rest.entries k) ∙ c.gone.gone.contexts k there;
    }

-- the copies that go
abbrev gone_keys : World → Option TaskNo → EventNo → List Key
gone_keys w None e = []
gone_keys w (Some task) e = filter (of_event w e) (keys_in w (context.Task task))

gone-mapped : (w : World) (o : Option TaskNo) (e : EventNo) → IsKept w.hardware w
    → filter (λ i. is_of_family e i && i.copy) (members (groups_in (task_lists (stage_of w) o))) ≡ map (instance_at w) (gone_keys w o e)
gone-mapped w None e h = refl
gone-mapped w (Some task) e h = leaving-mapped w.hardware w task e h

gone-live : (w : World) (o : Option TaskNo) (e : EventNo) (k : Key) → IsKept w.hardware w → ((task : TaskNo) → o ≡ Some task → task.0 < 64) → 1 ≤ times k (gone_keys w o e) → is_live w k ≡ true
gone-live w None e k h low some = absurd (omega (arith, some))
gone-live w (Some task) e k h low some = grind (arith, some, same-keys w.hardware w task e h (low task refl) k, leaving-times w.hardware w task e h k)

gone-sums : (w : World) (o : Option TaskNo) (e : EventNo) → IsKept w.hardware w → ((task : TaskNo) → o ≡ Some task → task.0 < 64)
    → leaving_sums w o e ≡ plus_keys (λ k. (account_at w k).sums) (gone_keys w o e)
gone-sums w None e h low = ap (plus_keys (λ k. (account_at w k).sums)) (filter-no (family_of w e).copies)
gone-sums w (Some task) e h low =
    sym (same-sums (λ k. (account_at w k).sums) (gone_keys w (Some task) e) (leaving_copies w (Some task) e) (same-keys w.hardware w task e h (low task refl)))

exit-folded : (w v x : World) (cpu : CpuNo) (e : EventNo) → Course w v x cpu → HasFolded w x (CpuStep cpu line.Exit) e (gone_keys w (task_on (stage_of w) cpu) e)
exit-folded w v x cpu e c = grind (arith, task-low, gone-mapped, gone-live, gone-sums)

exit-stepped : (w v x : World) (cpu : CpuNo) → Course w v x cpu → HasStepped w.hardware w x (CpuStep cpu line.Exit)
exit-stepped w v x cpu c =
    let keeps : KeepsRest w x = rest-kept w v x cpu c in
    record {
      stage = exit-stage w v x cpu c;
      drawn = omega (arith, keeps.next_id);
      old = λ k live before. quiet-keeps w.hardware w x (CpuStep cpu line.Exit) k c.kept refl (stays w v x cpu k c live).keeps;
      new = λ k live past.
          let same : KeepsAccount w x k = (stays w v x cpu k c live).keeps in
          let low : (instance_at w k).id < w.quiet.next_id = (c.kept.numbered.drawn k same.live).1 in
          absurd (omega (arith, low, past, same.id));
      slots = slots-same w x c.kept c.kept_then keeps.originals keeps.used;
      folded = λ e current. (gone_keys w (task_on (stage_of w) cpu) e, exit-folded w v x cpu e c);
      lost = λ e. ap (λ l. slice_index_or l e.0 0) keeps.lost;
      clock = λ own.
          let same : slice_index_or x.quiet.clocks own.0 0 ≡ slice_index_or w.quiet.clocks own.0 0 = ap (λ l. slice_index_or l own.0 0) keeps.clocks in
          omega (arith, same);
    }

pub exit-done : (w v x : World) (cpu : CpuNo) → Course w v x cpu → stepped_line.IsDone (CpuStep cpu line.Exit) w x reply.Ok
exit-done w v x cpu c by agrees = record {
  answer = accepted-cpu w by cpu line.Exit c.accepted agrees;
  agrees = stepped w.hardware w x by (CpuStep cpu line.Exit) c.kept (subst (λ (hw : Hardware). IsKept hw x) (rest-kept w v x cpu c).hardware c.kept_then) agrees
      (exit-stepped w v x cpu c) (nothing-lost cpu line.Exit by.rings);
}

-- the world is ready for the next line
pub exit-ready : (w v x : World) (cpu : CpuNo) → Course w v x cpu → IsRescheduled v.hardware x cpu → AreUntouchedBut cpu w v → AreUntouchedBut cpu v x → IsReady x
exit-ready w v x cpu c own left others =
    let keeps : KeepsRest w x = rest-kept w v x cpu c in
    ready-then (limits_in w) w x (CpuStep cpu line.Exit) c.ready c.ready.machine (c.low, tt) keeps.hardware keeps.size
    (λ k place live at.
    let same : Stays w x k = stays w v x cpu k c live in
    let low : place.0 < length w.quiet.running = c.ready.homes k place same.keeps.live (sym same.context ∙ at) in
    omega (arith, low, keeps.size))
    (exit-stage w v x cpu c) (rescheduled-but w v x cpu c.gone.gone.hardware (exit-size w v cpu c.stage) keeps.size c.ready.rescheduled own left others)
