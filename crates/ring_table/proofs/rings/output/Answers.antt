use Rattle.std.proofs.Common.{refl, ◌≡◌, [], ◌∷◌, ◌++◌, true, false, Some}
use Rattle.perf_base.specs.declared.lines.ToolLine.TheVariants as line
use Rattle.stage_spec.specs.Mapping.{output_to, ring_of}
use Rattle.world_spec.specs.StageOf.{stage_of}
use Rattle.ring_table.proofs.Given.{few-cpus, output-rest, output-stage, output-stays, ring-changed}
use Rattle.ring_table.proofs.rings.output.Goals as goal

pub returns-clause-rest : goal.returns-clause-rest
returns-clause-rest c =
    output-rest c.args.world.now c.set_ring.new.self c.args.event c.args.target c.in_ok-key.ring c.in_ok-key.key c.in_ok-key.ensures.live c.in_ok-key.ensures.original
    c.in_ok-key.ensures.ring c.set_ring.ensures.world

pub returns-clause-answer : goal.returns-clause-answer
returns-clause-answer c =
    let stage : stage_of c.set_ring.new.self ≡ output_to c.args.event c.args.target (stage_of c.args.world.now) =
    output-stage c.args.world.now c.set_ring.new.self c.args.event c.args.target c.in_ok-key.ring c.in_ok-key.key c.check_output.ensures.kept c.in_ok-key.ensures.original
    c.in_ok-key.ensures.ring c.set_ring.ensures.stage in
    ring-changed c.args.world.now c.set_ring.new.self (line.Output c.args.event c.args.target) c.new.result c.args.event (ring_of (stage_of c.args.world.now) c.args.target) false c.args.world.now.quiet.mapped
    c.check_output.ensures.kept c.use_invariant-2.ensures (returns-clause-rest c) refl c.in_ok-key.ensures.accepted stage (λ cpu. refl) c.new.ensures
    (λ cpu low.
    output-stays c.args.world.now c.set_ring.new.self c.args.event c.args.target c.in_ok-key.ring c.in_ok-key.key cpu c.in_ok-key.ensures.live c.set_ring.ensures.world stage
    (few-cpus c.pmus.result.now c.args.world.now cpu c.check_output.ensures.kept c.pmus.ensures.pmus c.use_invariant.ensures.cpus.1 low))
