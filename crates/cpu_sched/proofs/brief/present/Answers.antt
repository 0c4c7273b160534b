use Rattle.std.proofs.Common.{arith, ◌≡◌, ◌∙◌, [], ◌∷◌, ap, sym, subst}
use Rattle.perf_base.specs.declared.numbers.CpuNo.{CpuNo}
use Rattle.stage_spec.specs.Hardware.{counters_of}
use Rattle.world_spec.specs.Value.{World}
use Rattle.cpu_sched.{specs.Briefs.{brief_seen, present_brief, IsBrief}, proofs.Bounded.{present-sound}}
use Rattle.cpu_sched.proofs.brief.present.Goals as goal

pub invariant_of-into : goal.invariant_of-into
invariant_of-into c =
    let w : World = c.args.world.now in
    let cpu : CpuNo = c.args.cpu in
    let number : c.counters-into-inside.result ≡ counters_of w.hardware cpu = c.counters-into-inside.ensures.number ∙ ap (λ hw. counters_of hw cpu) c.pmus.ensures.pmus in
    let view : brief_seen c.counters-into-inside.result c.take_pass.new.briefs.items c.take_pass-2.new.briefs.items c.take_pass-3.new.briefs.items c.take_pass-4.new.briefs.items ≡ present_brief w cpu =
    λ i. record {
      counters = number i;
      passes = c.take_pass.ensures.taken i ∷ c.take_pass-2.ensures.taken i ∷ c.take_pass-3.ensures.taken i ∷ c.take_pass-4.ensures.taken i ∷ [];
    } in
    let sound : IsBrief (present_brief w cpu) =
    present-sound w cpu c.take_pass.ensures.kept (omega (arith, number, c.counters-into-inside.ensures.range.0)) (omega (arith, number, c.counters-into-inside.ensures.range.1))
    c.take_pass.ensures.sound c.take_pass-2.ensures.sound c.take_pass-3.ensures.sound c.take_pass-4.ensures.sound in (
      subst IsBrief (sym view) sound,
      omega (arith, c.take_pass.ensures.capacity, c.into.invariant.1),
      omega (arith, c.take_pass-2.ensures.capacity, c.into.invariant.2),
      omega (arith, c.take_pass-3.ensures.capacity, c.into.invariant.3),
      omega (arith, c.take_pass-4.ensures.capacity, c.into.invariant.4),
    )
