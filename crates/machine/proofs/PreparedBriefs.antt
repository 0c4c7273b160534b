-- What a line that reschedules its processor is planned from is the brief of the stage that its own change leads to.
use Rattle.std.specs.Prelude.{◌≡◌, ◌<◌, Bool, true, false, List, length, Option, Some, None}
use Rattle.std.proofs.{Common.{arith, refl, sym, ap, ◌∙◌, inl, inr}, lemmas.Bool.{cases_Bool, false≢true}}
use Rattle.perf_base.specs.declared.{numbers.{CpuNo.{CpuNo}, Key.{Key}, TaskNo.{TaskNo}}, reasons.Reason.{Reason}}
use Rattle.perf_base.specs.declared.lines.CpuLine.TheVariants as line
use Rattle.stage_spec.specs.{Exits.{exit_refusal, exited}, History.{cpu_refusal}, Stage.{Stage, task_on}}
use Rattle.stage_spec.specs.{Switching.{is_running, put_on, switch_refusal, switched}}
use Rattle.stage_laws.{specs.{Briefs.{GroupBrief}, Narrowing.{unless_left, unless_no}, Standings.{briefs}}, proofs.Tasks.{is_task-some}}
use Rattle.world_spec.{specs.{Changes.{place}, Kept.{IsKept}, StageOf.{stage_of}, Value.{World}}, proofs.Placing.{place-stage}}
use Rattle.cpu_sched.specs.{After.{after_brief, brief_with}, Briefs.{present_brief}}
use Rattle.cpu_sched.proofs.Relabelled.{briefs-relabelled, id_at, one-pass, relabel}
use Rattle.task_moves.{specs.Turning.{turned_world}, proofs.{Rotating.{is-rotated}, Switching.{switched-on}}}
use Rattle.machine.{specs.{Prepared.{PreparedLaw, by_ids}, Stepped.{IsReady}}, proofs.Counting.{never-touched}}
use Rattle.machine.proofs.{Foreseen.{idle-then, own-then, switch-foreseen, tick-foreseen}, Ticking.{only-lists}}
use Rattle.world_spec.proofs.Listings.{lists-are}

accepted-of : (o : Option Reason) (b : Bool) → unless_no o b ≡ true → o ≡ None
accepted-of None b on = refl
accepted-of (Some r) b on = absurd (false≢true on)

-- a tick
tick-prepared : (w : World) (cpu : CpuNo) → IsKept w.hardware w → IsReady w → cpu.0 < length w.quiet.running → cpu.0 < 8
    → by_ids w (after_brief w cpu line.Tick).passes ≡ briefs w.hardware (unless_left (cpu_refusal (stage_of w) cpu line.Tick) (λ s. stage_of (turned_world cpu w)) (stage_of w)) cpu
tick-prepared w cpu kept ready low small =
    let v : World = turned_world cpu w in
    let only : v ≡ record w { contexts = v.contexts } = only-lists cpu w v refl in
    ap (λ b. by_ids w b.passes) (sym (tick-foreseen w v cpu kept small refl))
    ∙ (sym (ap (λ (y : World). by_ids y (present_brief v cpu).passes) only)
    ∙ (briefs-relabelled v cpu ∙ ap (λ (y : World). briefs y.hardware (stage_of v) cpu) only))

-- a switch
same-running : (o to : Option TaskNo) → is_running o to ≡ true → o ≡ to
same-running None None on = refl
same-running (Some task) None on = absurd (false≢true on)
same-running o (Some task) on = is_task-some o task on

by-placed : (w : World) (cpu : CpuNo) (to : Option TaskNo) (ps : List (List (GroupBrief Key))) → by_ids (place cpu to w) ps ≡ by_ids w ps
by-placed w cpu None ps = refl
by-placed w cpu (Some task) ps = refl

hardware-placed : (w : World) (cpu : CpuNo) (to : Option TaskNo) → (place cpu to w).hardware ≡ w.hardware
hardware-placed w cpu None = refl
hardware-placed w cpu (Some task) = refl

switch-prepared : (w : World) (cpu : CpuNo) (to : Option TaskNo) → cpu.0 < length w.quiet.running
    → by_ids w (after_brief w cpu (line.Switch to)).passes ≡ briefs w.hardware (switched cpu to (stage_of w)) cpu
unfolding switched
switch-prepared w cpu to low = elim (cases_Bool (is_running (task_on (stage_of w) cpu) to)) [
  | inl runs ↦
      ap (λ o. by_ids w (brief_with w cpu o).passes) (sym (same-running (task_on (stage_of w) cpu) to runs))
      ∙ (briefs-relabelled w cpu
      ∙ ap (λ s. briefs w.hardware s cpu) (let same : stage_of w ≡ switched cpu to (stage_of w) = λ i. elim (sym runs i) as (λ b. Stage) [ true ↦ stage_of w | false ↦ put_on cpu to (stage_of w) ] in same))
  | inr off ↦
      let v : World = place cpu to w in
      ap (λ b. by_ids w b.passes) (sym (switch-foreseen w w v cpu to low refl refl))
      ∙ (sym (by-placed w cpu to (present_brief v cpu).passes)
      ∙ (briefs-relabelled v cpu
      ∙ ((λ i. briefs (hardware-placed w cpu to i) (place-stage w cpu to i) cpu) ∙ ap (λ s. briefs w.hardware s cpu) (switched-on (stage_of w) cpu to off))))
]

-- an exit
exit-prepared : (w : World) (cpu : CpuNo) → cpu.0 < 8 → cpu.0 < length w.quiet.running
    → by_ids w (after_brief w cpu line.Exit).passes ≡ briefs w.hardware (exited cpu (stage_of w)) cpu
unfolding exited
exit-prepared w cpu small low = search (idle-then, own-then, lists-are, relabel, id_at, one-pass)

pub prepared-briefs : PreparedLaw
prepared-briefs w cpu (line.Switch to) kept ready low touched =
    switch-prepared w cpu to low ∙ ap (λ o. briefs w.hardware (unless_left o (switched cpu to) (stage_of w)) cpu) (sym (accepted-of (switch_refusal (stage_of w) cpu to) _ touched))
prepared-briefs w cpu (line.Work work) kept ready low touched = absurd (false≢true (sym (never-touched (cpu_refusal (stage_of w) cpu (line.Work work))) ∙ touched))
prepared-briefs w cpu line.Tick kept ready low touched =
    let small : cpu.0 < 8 = omega (arith, low, ready.machine.sound.cpus.1, ready.machine.cpus) in
    grind (arith, tick-prepared, small, is-rotated)
prepared-briefs w cpu (line.Fork child) kept ready low touched = absurd (false≢true (sym (never-touched (cpu_refusal (stage_of w) cpu (line.Fork child))) ∙ touched))
prepared-briefs w cpu line.Exit kept ready low touched =
    let small : cpu.0 < 8 = omega (arith, low, ready.machine.sound.cpus.1, ready.machine.cpus) in
    exit-prepared w cpu small low ∙ ap (λ o. briefs w.hardware (unless_left o (exited cpu) (stage_of w)) cpu) (sym (accepted-of (exit_refusal (stage_of w) cpu) _ touched))
