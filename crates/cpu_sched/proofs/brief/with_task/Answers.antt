use Rattle.std.proofs.Common.{arith, ◌≡◌, ◌∙◌, [], ◌∷◌, ap, sym, subst}
use Rattle.perf_base.specs.declared.numbers.CpuNo.{CpuNo}
use Rattle.stage_spec.specs.Hardware.{counters_of}
use Rattle.world_spec.specs.Value.{World}
use Rattle.cpu_sched.{specs.{After.{brief_with}, Briefs.{brief_seen, IsBrief}}, proofs.Lone.{with-sound}}
use Rattle.cpu_sched.proofs.brief.with_task.Goals as goal

pub invariant_of-into : goal.invariant_of-into
invariant_of-into c =
    let w : World = c.args.world.now in
    let cpu : CpuNo = c.args.cpu in
    let number : c.counters-into-inside.result ≡ counters_of w.hardware cpu = c.counters-into-inside.ensures.number ∙ ap (λ hw. counters_of hw cpu) c.pmus.ensures.pmus in
    let view : brief_seen c.counters-into-inside.result c.take_pass.new.briefs.items c.take_task.new.briefs.items c.take_pass-2.new.briefs.items c.take_task-2.new.briefs.items ≡ brief_with w cpu c.args.task =
    λ i. record {
      counters = number i;
      passes = c.take_pass.ensures.taken i ∷ c.take_task.ensures.taken i ∷ c.take_pass-2.ensures.taken i ∷ c.take_task-2.ensures.taken i ∷ [];
    } in
    let sound : IsBrief (brief_with w cpu c.args.task) =
    with-sound w cpu c.args.task c.take_pass.ensures.kept c.requires.cpu c.requires.task (omega (arith, number, c.counters-into-inside.ensures.range.0)) (omega (arith, number, c.counters-into-inside.ensures.range.1))
    c.take_pass.ensures.sound c.take_task.ensures.sound c.take_pass-2.ensures.sound c.take_task-2.ensures.sound in (
      subst IsBrief (sym view) sound,
      omega (arith, c.take_pass.ensures.capacity, c.into.invariant.1),
      omega (arith, c.take_task.ensures.capacity, c.into.invariant.2),
      omega (arith, c.take_pass-2.ensures.capacity, c.into.invariant.3),
      omega (arith, c.take_task-2.ensures.capacity, c.into.invariant.4),
    )
