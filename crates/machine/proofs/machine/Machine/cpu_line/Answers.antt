use Rattle.std.{specs.Prelude.{◌<◌, length}, proofs.{Common.{arith, sym, subst, ◌∙◌}, lemmas.List.{length-set}}}
use Rattle.stage_spec.specs.History.{CpuStep}
use Rattle.work_account.specs.Ends.{AreTogether}
use Rattle.machine.specs.{Given.{IsLedBy, IsNext, TakesAlone}, Leading.{Kept}}
use Rattle.machine.proofs.GivenLines.{cpu-given, cpu-given-reply, given-cpu, given-few, given-low, given-there}
use Rattle.machine.proofs.{NoRings.{ends-stay, no-rings-there, rest-is, space-alone}, Roomy.{room-by}, Totals.{cpu-totals}}
use Rattle.machine.proofs.machine.Machine.cpu_line.Goals as goal

pub bounds-self-inside-cpu : goal.bounds-self-inside-cpu
bounds-self-inside-cpu c = given-low c.args.self.now c.args.cpu c.args.line.now c.requires.line.takes

pub overflow_add-done : goal.overflow_add-done
overflow_add-done c =
    let m : Kept = record { cpus = c.self.inside.cpus; tools = c.self.inside.tools; world = c.self.inside.world; outs = c.self.inside.outs } in
    let alone : TakesAlone m (CpuStep c.args.cpu c.args.line.now) = subst (λ k. TakesAlone k (CpuStep c.args.cpu c.args.line.now)) (sym c.self.view_is) c.requires.line in
    omega (arith, given-few alone.takes.script alone.takes.steps m c.args.cpu (CpuStep c.args.cpu c.args.line.now) alone.takes.next)

pub cpu_line_alone-requires-clause-cpu : goal.cpu_line_alone-requires-clause-cpu
cpu_line_alone-requires-clause-cpu c =
    let m : Kept = record { cpus = c.self.inside.cpus; tools = c.self.inside.tools; world = c.self.inside.world; outs = c.self.inside.outs } in
    let alone : TakesAlone m (CpuStep c.args.cpu c.args.line.now) = subst (λ k. TakesAlone k (CpuStep c.args.cpu c.args.line.now)) (sym c.self.view_is) c.requires.line in
    given-there alone.takes.script alone.takes.steps m c.args.cpu c.args.line.now alone.takes.sound alone.takes.covered c.self.invariant.ready alone.takes.next

pub cpu_line_alone-requires-clause-line : goal.cpu_line_alone-requires-clause-line
cpu_line_alone-requires-clause-line c =
    let m : Kept = record { cpus = c.self.inside.cpus; tools = c.self.inside.tools; world = c.self.inside.world; outs = c.self.inside.outs } in
    let alone : TakesAlone m (CpuStep c.args.cpu c.args.line.now) = subst (λ k. TakesAlone k (CpuStep c.args.cpu c.args.line.now)) (sym c.self.view_is) c.requires.line in
    given-cpu alone.takes.script alone.takes.steps m c.args.cpu c.args.line.now alone.takes.sound alone.takes.covered alone.takes.next

pub cpu_line_alone-requires-clause-room : goal.cpu_line_alone-requires-clause-room
cpu_line_alone-requires-clause-room c =
    let m : Kept = record { cpus = c.self.inside.cpus; tools = c.self.inside.tools; world = c.self.inside.world; outs = c.self.inside.outs } in
    let alone : TakesAlone m (CpuStep c.args.cpu c.args.line.now) = subst (λ k. TakesAlone k (CpuStep c.args.cpu c.args.line.now)) (sym c.self.view_is) c.requires.line in
    room-by alone.takes.script alone.takes.steps m alone.takes.sound alone.takes.covered alone.takes.next.led c.use_invariant.ensures c.self.invariant

pub cpu_line_alone-requires-clause-rings : goal.cpu_line_alone-requires-clause-rings
cpu_line_alone-requires-clause-rings c =
    let m : Kept = record { cpus = c.self.inside.cpus; tools = c.self.inside.tools; world = c.self.inside.world; outs = c.self.inside.outs } in
    let alone : TakesAlone m (CpuStep c.args.cpu c.args.line.now) = subst (λ k. TakesAlone k (CpuStep c.args.cpu c.args.line.now)) (sym c.self.view_is) c.requires.line in
    no-rings-there alone.takes.script alone.takes.steps m m.outs.numbers alone.no_rings alone.takes.next.led c.use_invariant.ensures c.self.invariant.ready.sound

pub cpu_line_alone-requires-clause-space : goal.cpu_line_alone-requires-clause-space
cpu_line_alone-requires-clause-space c = λ work is.
    let m : Kept = record { cpus = c.self.inside.cpus; tools = c.self.inside.tools; world = c.self.inside.world; outs = c.self.inside.outs } in
    let alone : TakesAlone m (CpuStep c.args.cpu c.args.line.now) = subst (λ k. TakesAlone k (CpuStep c.args.cpu c.args.line.now)) (sym c.self.view_is) c.requires.line in
    space-alone alone.takes.script alone.takes.steps m c.args.cpu work alone.no_rings alone.takes.next.led c.use_invariant.ensures c.self.invariant.ready.sound

pub invariant_of-self : goal.invariant_of-self
invariant_of-self c =
    let m : Kept = record { cpus = c.self.inside.cpus; tools = c.self.inside.tools; world = c.self.inside.world; outs = c.self.inside.outs } in
    let low : c.args.cpu.0 < length c.self.inside.cpus = omega (arith, c.self.invariant.cpus, given-low c.args.self.now c.args.cpu c.args.line.now c.requires.line.takes) in
    record {
      cpus = length-set c.self.inside.cpus c.args.cpu.0 _ ∙ c.self.invariant.cpus;
      tools = c.self.invariant.tools;
      ready = c.cpu_line_alone.ensures.ready;
      totals = cpu-totals m c.args.cpu c.cpu_line_alone.new.world low c.cpu_line_alone.ensures.totals c.self.invariant.totals;
    }

pub returns-clause-reply : goal.returns-clause-reply
returns-clause-reply c = λ s steps led.
    let m : Kept = record { cpus = c.self.inside.cpus; tools = c.self.inside.tools; world = c.self.inside.world; outs = c.self.inside.outs } in
    cpu-given-reply s steps m c.args.cpu c.args.line.now c.cpu_line_alone.new.world c.cpu_line_alone.new.outs c.cpu_line_alone.result c.cpu_line_alone.ensures.done
    (subst (IsLedBy s steps) (sym c.self.view_is) led)

pub returns-clause-led : goal.returns-clause-led
returns-clause-led c = λ s steps next.
    let m : Kept = record { cpus = c.self.inside.cpus; tools = c.self.inside.tools; world = c.self.inside.world; outs = c.self.inside.outs } in
    let low : c.args.cpu.0 < length c.self.inside.cpus = omega (arith, c.self.invariant.cpus, given-low c.args.self.now c.args.cpu c.args.line.now c.requires.line.takes) in
    cpu-given s steps m c.args.cpu c.args.line.now c.cpu_line_alone.new.world c.cpu_line_alone.new.outs c.cpu_line_alone.result low c.cpu_line_alone.ensures.hardware
    c.cpu_line_alone.ensures.done (subst (λ k. IsNext s steps k (CpuStep c.args.cpu c.args.line.now)) (sym c.self.view_is) next)

pub returns-clause-rest : goal.returns-clause-rest
returns-clause-rest c =
    let m : Kept = record { cpus = c.self.inside.cpus; tools = c.self.inside.tools; world = c.self.inside.world; outs = c.self.inside.outs } in
    let alone : TakesAlone m (CpuStep c.args.cpu c.args.line.now) = subst (λ k. TakesAlone k (CpuStep c.args.cpu c.args.line.now)) (sym c.self.view_is) c.requires.line in
    let before : AreTogether c.args.rings.now m.outs = subst (λ (k : Kept). AreTogether c.args.rings.now k.outs) (sym c.self.view_is) c.requires.together in
    rest-is m c.args.self.now _ c.cpu_line_alone.new.world c.cpu_line_alone.new.outs c.self.view_is
    (ends-stay alone.takes.script alone.takes.steps m c.args.rings.now c.cpu_line_alone.new.outs alone.no_rings alone.takes.next.led before c.cpu_line_alone.ensures.together)
