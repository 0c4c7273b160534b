use Rattle.std.{specs.Prelude.{Some}, proofs.Common.{ap, sym, ◌∙◌}}
use Rattle.perf_base.specs.declared.{attr.Attr.{Attr}, numbers.Key.{Key}}
use Rattle.stage_spec.specs.{Stage.{Stage}, Tables.{kind_in}}
use Rattle.world_spec.specs.Value.{World, instance_at}
use Rattle.machine.{specs.Leading.{Kept}, proofs.{Opened.{kind-by}, Roomy.{stage-then}}}
use Rattle.machine.proofs.machine.Machine.kind.Goals as goal

pub returns-clause-there : goal.returns-clause-there
returns-clause-there c =
    let w : World = c.args.self.now.world in
    let key : Key = c.original.result in
    kind-by w.hardware w c.args.event key c.original.ensures.kept c.original.ensures.original
    ∙ ap (λ (a : Attr). Some a.kind) (ap (λ (m : Kept). (instance_at m.world key).attr) (sym c.self.view_is) ∙ sym c.attr.ensures)

pub returns-clause-led : goal.returns-clause-led
returns-clause-led c = λ s acts led. ap (λ (st : Stage). kind_in st c.args.event) (sym (stage-then s acts c.args.self.now led)) ∙ returns-clause-there c
