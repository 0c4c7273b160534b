use Rattle.std.proofs.Common.{ap, sym, ◌∙◌, option_map}
use Rattle.stage_spec.specs.Stage.{original_of}
use Rattle.world_spec.specs.{Value.{World, instance_at}, StageOf.{stage_of}}
use Rattle.work_account.{specs.Sampling.{ends_of}, proofs.Sequences.{no-family}}
use Rattle.work_account.proofs.sending.send_overflow.Goals as goal

pub returns-in_default-clause-ends : goal.returns-in_default-clause-ends
returns-in_default-clause-ends c =
    let w : World = c.args.world.now in
    let line = c.args.stretch.now in
    let o = c.args.overflow in
    no-family (original_of (stage_of w) (instance_at w o.key).event) (stage_of w) line.cpu line.work line.clock o.count (instance_at w o.key) (ends_of c.args.outs.now w)
    (ap (original_of (stage_of w)) (sym c.event_of.ensures) ∙ (c.key_of.ensures.original ∙ ap (option_map (instance_at w)) c.in_default.is))
