use Rattle.std.proofs.Common.{◌≡◌, ap, ◌∙◌}
use Rattle.perf_base.specs.declared.numbers.Key.{Key}
use Rattle.stage_spec.specs.{Reading.{is_error}, Stage.{Stage}, Tables.{in_error}}
use Rattle.world_spec.specs.Value.{World, entry_at, instance_at}
use Rattle.machine.{specs.Leading.{Kept}, proofs.{Opened.{error-by}, Roomy.{stage-then}}}
use Rattle.machine.proofs.machine.Machine.error.Goals as goal

pub returns-clause-there : goal.returns-clause-there
returns-clause-there c =
    let w : World = c.args.self.now.world in
    let key : Key = c.original-key.result in
    let own : c.own.result ≡ (instance_at w (entry_at w key).leader).own =
    c.own.ensures
    ∙ (ap (λ (k : Key). (instance_at c.self.inside.world k).own) c.leader_of-leader.ensures
    ∙ ap (λ (m : Kept). (instance_at m.world (entry_at m.world key).leader).own) c.self.view_is) in
    c.is_error.ensures ∙ (ap is_error own ∙ error-by w.hardware w c.args.event key c.original-key.ensures.kept c.original-key.ensures.original)

pub returns-clause-led : goal.returns-clause-led
returns-clause-led c = λ s acts led. returns-clause-there c ∙ ap (λ (st : Stage). in_error st c.args.event) (stage-then s acts c.args.self.now led)
