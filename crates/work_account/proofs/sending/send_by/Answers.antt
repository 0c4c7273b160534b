use Rattle.std.proofs.Common.{ap, sym, ◌∙◌}
use Rattle.stage_spec.specs.declared.instance.Instance.{Instance}
use Rattle.perf_base.specs.declared.numbers.Key.{Key}
use Rattle.world_spec.specs.{Value.{World, instance_at}, StageOf.{stage_of}}
use Rattle.work_account.{specs.Sampling.{HasInstance, asks, ends_of, send_times}, proofs.Sequences.{ring-sends, ring-space, no-ring}}
use Rattle.work_account.proofs.sending.send_by.Goals as goal

pub send_burst-requires-clause-space : goal.send_burst-requires-clause-space
send_burst-requires-clause-space c =
    let w : World = c.args.world.now in
    let line = c.args.stretch.now in
    let o = c.args.overflow in
    ring-space (stage_of w) line.cpu line.work line.clock o.count (instance_at w c.args.origin) (instance_at w o.key) (HasInstance w) c.in-Some.ring (ends_of c.args.outs.now w)
    (sym c.in-Some.is ∙ ap (λ (i : Instance). i.ring) c.instance.ensures.instance) c.requires.space

pub returns-in-Some-clause-ends : goal.returns-in-Some-clause-ends
returns-in-Some-clause-ends c =
    let w : World = c.args.world.now in
    let line = c.args.stretch.now in
    let o = c.args.overflow in
    let s = c.sample_of-sample.result in
    let x = ends_of c.args.outs.now w in
    ring-sends (stage_of w) line.cpu line.work line.clock o.count (instance_at w c.args.origin) (instance_at w o.key) c.in-Some.ring s.ring (asks s) x
    (ends_of c.send_burst.new.outs c.send_burst.new.world)
    (sym c.in-Some.is ∙ ap (λ (i : Instance). i.ring) c.instance.ensures.instance)
    c.sample_of-sample.ensures.ring c.sample_of-sample.ensures.says
    (c.send_burst.ensures.ends ∙ ap (λ (k : Key). send_times o.count (instance_at w k).event s.ring (asks s) x) c.sample_of-sample.ensures.origin)

pub returns-in_default-clause-ends : goal.returns-in_default-clause-ends
returns-in_default-clause-ends c =
    let w : World = c.args.world.now in
    let line = c.args.stretch.now in
    let o = c.args.overflow in
    no-ring (stage_of w) line.cpu line.work line.clock o.count (instance_at w c.args.origin) (instance_at w o.key) (ends_of c.args.outs.now w)
    (sym (ap (λ (i : Instance). i.ring) c.instance.ensures.instance) ∙ c.in_default.is)
