use Rattle.std.proofs.Common.{arith, ◌∙◌, ◌++◌, length, ap}
use Rattle.perf_base.specs.declared.numbers.CpuNo.{CpuNo}
use Rattle.world_spec.specs.Value.{World}
use Rattle.cpu_sched.specs.Adopting.{with_standings, out_standings}
use Rattle.cpu_sched.proofs.Adopted.{four-passes, leaders_at, out-then}
use Rattle.cpu_sched.proofs.adopting.clear_passes.Goals as goal

pub clear_pass-requires-2-clause-cpu : goal.clear_pass-requires-2-clause-cpu
clear_pass-requires-2-clause-cpu c = omega (arith, c.requires, ap (λ (w : World). length w.quiet.running) c.clear_pass.ensures)

pub clear_pass-requires-3-clause-cpu : goal.clear_pass-requires-3-clause-cpu
clear_pass-requires-3-clause-cpu c = omega (arith, c.requires, ap (λ (w : World). length w.quiet.running) c.clear_pass.ensures, ap (λ (w : World). length w.quiet.running) c.clear_pass-2.ensures)

pub clear_pass-requires-4-clause-cpu : goal.clear_pass-requires-4-clause-cpu
clear_pass-requires-4-clause-cpu c =
    omega (arith, c.requires, ap (λ (w : World). length w.quiet.running) c.clear_pass.ensures, ap (λ (w : World). length w.quiet.running) c.clear_pass-2.ensures, ap (λ (w : World). length w.quiet.running) c.clear_pass-3.ensures)

pub returns : goal.returns
returns c =
    let v : World = c.args.world.now in
    let cpu : CpuNo = c.args.cpu in
    out-then v c.clear_pass-3.new.world c.clear_pass-4.new.world cpu 3 ((leaders_at v cpu 0 ++ leaders_at v cpu 1) ++ leaders_at v cpu 2)
    (out-then v c.clear_pass-2.new.world c.clear_pass-3.new.world cpu 2 (leaders_at v cpu 0 ++ leaders_at v cpu 1)
    (out-then v c.clear_pass.new.world c.clear_pass-2.new.world cpu 1 (leaders_at v cpu 0) c.clear_pass.ensures c.clear_pass-2.ensures) c.clear_pass-3.ensures) c.clear_pass-4.ensures
    ∙ ap (λ keys. with_standings (out_standings keys v.standings) v) (four-passes v cpu)
