use Rattle.std.proofs.Common.{ap, sym, ◌∙◌}
use Rattle.stage_spec.specs.Stage.{Stage, is_open}
use Rattle.world_spec.specs.StageOf.{stage_of}
use Rattle.event_reads.proofs.Opened.{is-open}
use Rattle.machine.{specs.Leading.{Kept}, proofs.Roomy.{stage-then}}
use Rattle.machine.proofs.machine.Machine.is_open.Goals as goal

pub returns-clause-there : goal.returns-clause-there
returns-clause-there c =
    c.is_some.ensures
    ∙ (sym (is-open c.self.inside.world.hardware c.self.inside.world c.args.event c.key_of.result c.key_of.ensures.kept (sym c.key_of.ensures.key))
    ∙ ap (λ (m : Kept). is_open (stage_of m.world) c.args.event) c.self.view_is)

pub returns-clause-led : goal.returns-clause-led
returns-clause-led c = λ s acts led. returns-clause-there c ∙ ap (λ (st : Stage). is_open st c.args.event) (stage-then s acts c.args.self.now led)
