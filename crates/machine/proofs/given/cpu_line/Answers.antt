use Rattle.std.{specs.Option.{option_copied}, proofs.Common.{length, refl, sym, subst}}
use Rattle.perf_base.specs.Scripts.{IsCpuLine}
use Rattle.perf_base.specs.declared.lines.CpuLine.TheVariants as line
use Rattle.stage_spec.specs.History.{CpuStep}
use Rattle.machine.{specs.{Counted.{IsCountedBy}, Stepped.{IsDoneWith, StaysIfIdle}}, proofs.{Counting.{still-cpu_counted}, Refused.{stays-same}}}
use Rattle.machine.proofs.{Lines.{work-room}, Stepped.{cpu-sends}, Totals.{meter-room, none-grow}}
use Rattle.machine.proofs.given.cpu_line.Goals as goal

pub work-requires-clause-room : goal.work-requires-clause-room
work-requires-clause-room g c =
    work-room c.args.world.now (length c.args.world.now.hardware.kind_pmus) c.in-Work.work c.requires.room
    (subst (IsCpuLine (length c.args.world.now.hardware.kind_pmus)) c.in-Work.is c.requires.line)

pub work-requires-clause-meter : goal.work-requires-clause-meter
work-requires-clause-meter g c =
    meter-room c.args.world.now (length c.args.world.now.hardware.kind_pmus) c.args.cpu c.in-Work.work c.requires.room
    (subst (IsCpuLine (length c.args.world.now.hardware.kind_pmus)) c.in-Work.is c.requires.line)

pub work-requires-clause-space : goal.work-requires-clause-space
work-requires-clause-space g c = c.requires.space c.in-Work.work c.in-Work.is

pub returns-in-Switch-clause-done : goal.returns-in-Switch-clause-done
returns-in-Switch-clause-done g c =
    subst (λ l. IsDoneWith (CpuStep c.args.cpu l) c.args.world.now c.switch.new.world c.args.outs.now c.args.outs.now c.switch.result) (sym c.in-Switch.is)
    (cpu-sends c.args.world.now c.switch.new.world c.args.cpu (line.Switch c.in-Switch.to) c.args.outs.now c.switch.result (λ r. refl) c.switch.ensures.done)

pub returns-in-Work-clause-done : goal.returns-in-Work-clause-done
returns-in-Work-clause-done g c =
    subst (λ l. IsDoneWith (CpuStep c.args.cpu l) c.args.world.now c.work.new.world c.args.outs.now c.work.new.outs c.work.result) (sym c.in-Work.is) c.work.ensures.done

pub returns-in-Tick-clause-done : goal.returns-in-Tick-clause-done
returns-in-Tick-clause-done g c =
    subst (λ l. IsDoneWith (CpuStep c.args.cpu l) c.args.world.now c.tick.new.world c.args.outs.now c.args.outs.now c.tick.result) (sym c.in-Tick.is)
    (cpu-sends c.args.world.now c.tick.new.world c.args.cpu line.Tick c.args.outs.now c.tick.result (λ r. refl) c.tick.ensures.done)

pub returns-in-Fork-clause-done : goal.returns-in-Fork-clause-done
returns-in-Fork-clause-done g c =
    subst (λ l. IsDoneWith (CpuStep c.args.cpu l) c.args.world.now c.fork.new.world c.args.outs.now c.args.outs.now c.fork.result) (sym c.in-Fork.is)
    (cpu-sends c.args.world.now c.fork.new.world c.args.cpu (line.Fork c.in-Fork.child) c.args.outs.now c.fork.result (λ r. refl) c.fork.ensures.done)

pub returns-in-Exit-clause-done : goal.returns-in-Exit-clause-done
returns-in-Exit-clause-done g c =
    subst (λ l. IsDoneWith (CpuStep c.args.cpu l) c.args.world.now c.exit.new.world c.args.outs.now c.args.outs.now c.exit.result) (sym c.in-Exit.is)
    (cpu-sends c.args.world.now c.exit.new.world c.args.cpu line.Exit c.args.outs.now c.exit.result (λ r. refl) c.exit.ensures.done)

pub returns-in-Switch-clause-ends : goal.returns-in-Switch-clause-ends
returns-in-Switch-clause-ends g c = stays-same c.args.outs.now c.switch.result

pub returns-in-Tick-clause-ends : goal.returns-in-Tick-clause-ends
returns-in-Tick-clause-ends g c = stays-same c.args.outs.now c.tick.result

pub returns-in-Fork-clause-ends : goal.returns-in-Fork-clause-ends
returns-in-Fork-clause-ends g c = stays-same c.args.outs.now c.fork.result

pub returns-in-Exit-clause-ends : goal.returns-in-Exit-clause-ends
returns-in-Exit-clause-ends g c = stays-same c.args.outs.now c.exit.result

pub returns-in-Switch-clause-totals : goal.returns-in-Switch-clause-totals
returns-in-Switch-clause-totals g c = none-grow c.args.cpu c.args.world.now c.switch.new.world c.switch.ensures.totals

pub returns-in-Tick-clause-totals : goal.returns-in-Tick-clause-totals
returns-in-Tick-clause-totals g c = none-grow c.args.cpu c.args.world.now c.tick.new.world c.tick.ensures.totals

pub returns-in-Fork-clause-totals : goal.returns-in-Fork-clause-totals
returns-in-Fork-clause-totals g c = none-grow c.args.cpu c.args.world.now c.fork.new.world c.fork.ensures.totals

pub returns-in-Exit-clause-totals : goal.returns-in-Exit-clause-totals
returns-in-Exit-clause-totals g c = none-grow c.args.cpu c.args.world.now c.exit.new.world c.exit.ensures.totals

pub returns-in-Switch-clause-counted : goal.returns-in-Switch-clause-counted
returns-in-Switch-clause-counted g c =
    subst (λ l. IsCountedBy (option_copied c.args.sheet) (CpuStep c.args.cpu l) c.args.world.now c.switch.new.world c.args.tests.now c.switch.new.tests) (sym c.in-Switch.is) c.switch.ensures.counted

pub returns-in-Tick-clause-counted : goal.returns-in-Tick-clause-counted
returns-in-Tick-clause-counted g c =
    subst (λ l. IsCountedBy (option_copied c.args.sheet) (CpuStep c.args.cpu l) c.args.world.now c.tick.new.world c.args.tests.now c.tick.new.tests) (sym c.in-Tick.is) c.tick.ensures.counted

pub returns-in-Work-clause-counted : goal.returns-in-Work-clause-counted
returns-in-Work-clause-counted g c =
    subst (λ l. IsCountedBy (option_copied c.args.sheet) (CpuStep c.args.cpu l) c.args.world.now c.work.new.world c.args.tests.now c.args.tests.now) (sym c.in-Work.is)
    (still-cpu_counted (option_copied c.args.sheet) c.args.world.now c.work.new.world c.args.cpu (line.Work c.in-Work.work) c.args.tests.now (λ other. refl))

pub returns-in-Fork-clause-counted : goal.returns-in-Fork-clause-counted
returns-in-Fork-clause-counted g c =
    subst (λ l. IsCountedBy (option_copied c.args.sheet) (CpuStep c.args.cpu l) c.args.world.now c.fork.new.world c.args.tests.now c.args.tests.now) (sym c.in-Fork.is)
    (still-cpu_counted (option_copied c.args.sheet) c.args.world.now c.fork.new.world c.args.cpu (line.Fork c.in-Fork.child) c.args.tests.now (λ other. refl))

pub returns-in-Exit-clause-counted : goal.returns-in-Exit-clause-counted
returns-in-Exit-clause-counted g c =
    subst (λ l. IsCountedBy (option_copied c.args.sheet) (CpuStep c.args.cpu l) c.args.world.now c.exit.new.world c.args.tests.now c.exit.new.tests) (sym c.in-Exit.is) c.exit.ensures.counted

pub returns-in-Switch-clause-idle : goal.returns-in-Switch-clause-idle
returns-in-Switch-clause-idle g c = subst (λ l. StaysIfIdle (CpuStep c.args.cpu l) c.args.world.now c.switch.new.world) (sym c.in-Switch.is) c.switch.ensures.idle
