use Rattle.std.proofs.Common.{refl, ◌≡◌}
use Rattle.perf_base.specs.declared.lines.ToolLine.TheVariants as line
use Rattle.stage_spec.specs.Commands.{with_period}
use Rattle.world_spec.{specs.StageOf.{stage_of}, proofs.Lines.{still-changed}}
use Rattle.event_commands.proofs.{Periods.{few-cpus, has-period, period-stage, period-others}, Restarting.{period-share, period-slots}}
use Rattle.event_commands.proofs.commands.period.Goals as goal

pub returns-clause-period : goal.returns-clause-period
returns-clause-period c =
    has-period c.args.world.now.hardware c.args.world.now c.set_period.new.self c.args.event c.args.period c.in_ok-original.original c.in_ok-original.ensures.original c.set_period.ensures.world

pub returns-clause-answer : goal.returns-clause-answer
returns-clause-answer c =
    let stage : stage_of c.set_period.new.self ≡ with_period c.args.event c.args.period (stage_of c.args.world.now) =
    period-stage c.args.world.now.hardware c.args.world.now c.set_period.new.self c.args.event c.args.period c.in_ok-original.original c.check_period.ensures.kept c.in_ok-original.ensures.original
    c.set_period.ensures.stage in
    still-changed c.args.world.now c.set_period.new.self (line.Period c.args.event c.args.period) c.new.result c.check_period.ensures.kept c.use_invariant-2.ensures
    (period-slots c.args.world.now c.set_period.new.self c.args.event c.args.period c.check_period.ensures.kept (returns-clause-period c))
    (λ k. period-share c.args.world.now c.set_period.new.self c.args.event c.args.period k c.check_period.ensures.kept c.in_ok-original.ensures.accepted (returns-clause-period c))
    c.in_ok-original.ensures.accepted stage (λ cpu. refl) c.new.ensures
    (λ cpu low.
    period-others c.args.world.now.hardware c.args.world.now c.set_period.new.self c.args.event c.args.period c.in_ok-original.original cpu c.check_period.ensures.kept
    c.in_ok-original.ensures.live c.set_period.ensures.world stage (few-cpus c.pmus.result.now c.args.world.now cpu c.check_period.ensures.kept c.pmus.ensures.pmus c.use_invariant.ensures.cpus.1 low))
