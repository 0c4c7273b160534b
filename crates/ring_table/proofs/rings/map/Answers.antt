use Rattle.std.proofs.Common.{refl, ◌≡◌, [], ◌∷◌, ◌++◌, true, false, Some}
use Rattle.perf_base.specs.declared.lines.ToolLine.TheVariants as line
use Rattle.stage_spec.specs.Mapping.{mapped_to}
use Rattle.world_spec.specs.StageOf.{stage_of}
use Rattle.ring_table.proofs.Given.{few-cpus, map-rest, map-stage, map-stays, ring-changed}
use Rattle.ring_table.proofs.rings.map.Goals as goal

pub returns-clause-rest : goal.returns-clause-rest
returns-clause-rest c =
    map-rest c.args.world.now c.set_ring.new.self c.args.event c.args.ring c.in_ok-key.key c.in_ok-key.ensures.live c.in_ok-key.ensures.original c.in_ok-key.ensures.accepted
    c.set_ring.ensures.world

pub returns-clause-answer : goal.returns-clause-answer
returns-clause-answer c =
    let stage : stage_of c.set_ring.new.self ≡ mapped_to c.args.event c.args.ring (stage_of c.args.world.now) =
    map-stage c.args.world.now c.set_ring.new.self c.args.event c.args.ring c.in_ok-key.key c.check_map.ensures.kept c.in_ok-key.ensures.original c.in_ok-key.ensures.accepted
    c.set_ring.ensures.stage in
    ring-changed c.args.world.now c.set_ring.new.self (line.Map c.args.event c.args.ring) c.new.result c.args.event (Some c.args.ring) true (c.args.world.now.quiet.mapped ++ c.args.ring ∷ [])
    c.check_map.ensures.kept c.use_invariant-2.ensures (returns-clause-rest c) refl c.in_ok-key.ensures.accepted stage (λ cpu. refl) c.new.ensures
    (λ cpu low.
    map-stays c.args.world.now c.set_ring.new.self c.args.event c.args.ring c.in_ok-key.key cpu c.in_ok-key.ensures.live c.set_ring.ensures.world stage
    (few-cpus c.pmus.result.now c.args.world.now cpu c.check_map.ensures.kept c.pmus.ensures.pmus c.use_invariant.ensures.cpus.1 low))
