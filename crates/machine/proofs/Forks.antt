-- A fork.
use Rattle.std.specs.Prelude.{◌≡◌, ℕ, ◌<◌, ◌≤◌, true, false, [], length, filter, None, slice_index_or}
use Rattle.std.proofs.{Common.{arith, refl, sym, ap, subst, ◌∙◌, inl, inr}, lemmas.Bool.{cases_Bool}}
use Rattle.perf_base.specs.declared.numbers.{CpuNo.{CpuNo}, Key.{Key}, TaskNo.{TaskNo}}
use Rattle.perf_base.specs.declared.lines.CpuLine.TheVariants as line
use Rattle.perf_base.specs.declared.reply.Reply.TheVariants as reply
use Rattle.perf_base.specs.declared.standing.Context.TheVariants as context
use Rattle.stage_spec.specs.{Forks.{fork_refusal, forked}, Hardware.{Hardware}, History.{Step, CpuStep, stage_step}, Limits.{IsMachine}}
use Rattle.stage_spec.{specs.{Settle.{settle_each}, Shares.{no_sums}, Stage.{Stage, all_cpus}}, proofs.Recurrence.{plus-none}}
use Rattle.stage_laws.{specs.{Narrowing.{IsNarrow, changed, unless_left, unless_no, touches}, Sound.{IsSound}}, proofs.Narrow.{narrows, takes-none}}
use Rattle.stage_laws.proofs.Sound.{step_sound}
use Rattle.world_spec.specs.{Kept.{IsKept}, Rescheduled.{AreRescheduled, AreUntouched}, StageOf.{stage_of}, Value.{World, is_live, instance_at}}
use Rattle.world_spec.{specs.Stepping.{HasStepped}, proofs.{Lines.{slots-same}, Quiet.{quiet-keeps}, Stepping.{stepped}}}
use Rattle.fork_inherit.specs.Copies.{HasForked}
use Rattle.machine.{specs.Stepped.{limits_in, IsReady}, proofs.{Refused.{accepted-cpu}, TaskChange.{filter-alike}}}
use Rattle.machine.specs.Stepped as stepped_line
use Rattle.work_account.proofs.Accounts.{nothing-lost}

-- What is told of a fork: the worlds before and after it.
pub record Course (w x : World) (cpu : CpuNo) (child : TaskNo) : Type 0 where
  pub kept : IsKept w.hardware w
  pub ready : IsReady w
  pub low : cpu.0 < length w.quiet.running
  pub number : child.0 < 64
  pub accepted : fork_refusal (stage_of w) cpu child ≡ None
  pub stage : stage_of x ≡ forked cpu child (stage_of w)
  pub stays : HasForked child w x
  pub others : AreUntouched w x
  pub kept_then : IsKept x.hardware x

settle-none : (hw : Hardware) (s : Stage) → settle_each hw [] s ≡ s
unfolding settle_each
settle-none hw s = refl

fork-stage : (w x : World) (cpu : CpuNo) (child : TaskNo) → Course w x cpu child → stage_of x ≡ stage_step w.hardware (stage_of w) (CpuStep cpu (line.Fork child))
fork-stage w x cpu child c =
    let hw : Hardware = w.hardware in
    let s : Stage = stage_of w in
    let step : Step = CpuStep cpu (line.Fork child) in
    let narrow : IsNarrow hw s step = narrows (limits_in w) hw s step c.ready.machine (c.low, c.number) c.ready.sound (λ own low. (c.ready.rescheduled own low).settled) in
    let change : changed hw s step ≡ forked cpu child s = ap (λ o. unless_left o (forked cpu child) s) c.accepted in
    let untouched : (own : CpuNo) → touches hw s step own ≡ false = λ own. ap (λ o. unless_no o false) c.accepted in
    let none : filter (touches hw s step) (all_cpus s) ≡ [] = filter-alike (touches hw s step) (λ own. false) (all_cpus s) untouched ∙ takes-none (all_cpus s) in
    c.stage ∙ (sym change ∙ (sym (settle-none hw (changed hw s step)) ∙ (ap (λ cs. settle_each hw cs (changed hw s step)) (sym none) ∙ sym narrow.stage)))

-- a key that names an instance then and did not before names a copy
fork-was : (w x : World) (cpu : CpuNo) (child : TaskNo) (k : Key) → Course w x cpu child → is_live x k ≡ true → (instance_at x k).id < w.quiet.next_id → is_live w k ≡ true
fork-was w x cpu child k c live before = grind arith

fork-new : (w x : World) (cpu : CpuNo) (child : TaskNo) (k : Key) → Course w x cpu child → w.quiet.next_id ≤ (instance_at x k).id → is_live w k ≡ false
fork-new w x cpu child k c past = elim (cases_Bool (is_live w k)) [
  | inl there ↦
      let low : (instance_at w k).id < w.quiet.next_id = (c.kept.numbered.drawn k there).1 in
      absurd (omega (arith, low, past, ap (λ e. e.instance.id) (c.stays.entries k there)))
  | inr none ↦ none
]

fork-stepped : (w x : World) (cpu : CpuNo) (child : TaskNo) → Course w x cpu child → HasStepped w.hardware w x (CpuStep cpu (line.Fork child))
fork-stepped w x cpu child c = record {
  stage = fork-stage w x cpu child c;
  drawn = c.stays.drawn;
  old = λ k live before.
      let was : is_live w k ≡ true = fork-was w x cpu child k c live before in
      quiet-keeps w.hardware w x (CpuStep cpu (line.Fork child)) k c.kept refl (record {
        live = was;
        id = ap (λ e. e.instance.id) (c.stays.entries k was);
        account = c.stays.accounts k was;
      });
  new = λ k live past.
      let none : is_live w k ≡ false = fork-new w x cpu child k c past in
      record { sums = ap (λ a. a.sums) (c.stays.fresh k none live); left = ap (λ a. a.left) (c.stays.fresh k none live) };
  slots = slots-same w x c.kept c.kept_then c.stays.originals (ap (λ q. q.used) c.stays.quiet);
  folded = λ e current. (
    [],
    record {
      leaving = refl;
      live = λ k some. absurd (omega (arith, some));
      sums = ap (λ f. slice_index_or f e.0 no_sums) c.stays.folded ∙ sym (plus-none (slice_index_or w.folded e.0 no_sums));
    },
  );
  lost = λ e. ap (λ l. slice_index_or l e.0 0) c.stays.lost;
  clock = λ own.
      let same : slice_index_or x.quiet.clocks own.0 0 ≡ slice_index_or w.quiet.clocks own.0 0 = ap (λ q. slice_index_or q.clocks own.0 0) c.stays.quiet in
      omega (arith, same);
}

pub fork-done : (w x : World) (cpu : CpuNo) (child : TaskNo) → Course w x cpu child → stepped_line.IsDone (CpuStep cpu (line.Fork child)) w x reply.Ok
fork-done w x cpu child c by agrees = record {
  answer = accepted-cpu w by cpu (line.Fork child) c.accepted agrees;
  agrees = stepped w.hardware w x by (CpuStep cpu (line.Fork child)) c.kept (subst (λ (hw : Hardware). IsKept hw x) c.stays.hardware c.kept_then) agrees
      (fork-stepped w x cpu child c) (nothing-lost cpu (line.Fork child) by.rings);
}

apart-contexts : (child : TaskNo) (own : CpuNo) → context.Task child ≡ context.Processor own → ⊥
apart-contexts child own h = absurd (cc)

pub fork-ready : (w x : World) (cpu : CpuNo) (child : TaskNo) → Course w x cpu child → IsReady x
fork-ready w x cpu child c =
    let size : length x.quiet.running ≡ length w.quiet.running = ap (λ q. length q.running) c.stays.quiet in
    record {
      machine = subst (λ (n : ℕ). IsMachine (record { cpus = n; kinds = length x.hardware.kind_pmus; rings = [] }) x.hardware) (sym size)
          (subst (λ (hw : Hardware). IsMachine (record { cpus = length w.quiet.running; kinds = length hw.kind_pmus; rings = [] }) hw) (sym c.stays.hardware) c.ready.machine);
      sound = subst (λ (hw : Hardware). IsSound hw (stage_of x)) (sym c.stays.hardware)
          (subst (IsSound w.hardware) (sym (fork-stage w x cpu child c)) (step_sound (limits_in w) w.hardware (stage_of w) (CpuStep cpu (line.Fork child)) c.ready.machine (c.low, c.number) c.ready.sound));
      rescheduled = subst (λ (hw : Hardware). AreRescheduled hw x) (sym c.stays.hardware)
          (λ other low. let within : other.0 < length w.quiet.running = omega (arith, low, size) in (c.others other within).rescheduled (c.ready.rescheduled other within));
      homes = λ k own live at. elim (cases_Bool (is_live w k)) [
        | inl there ↦
            let low : own.0 < length w.quiet.running = c.ready.homes k own there (sym (ap (λ e. e.context) (c.stays.entries k there)) ∙ at) in
            omega (arith, low, size)
        | inr none ↦ absurd (apart-contexts child own (sym (c.stays.places k none live) ∙ at))
      ];
    }
