use Rattle.std.{proofs.Common.{sym, subst, ap, ◌∙◌}, specs.Prelude.{◌≡◌, [], replicate}}
use Rattle.stage_spec.{specs.{Hardware.{hardware_of}, Limits.{limits_of}}, proofs.Machines.{script_machine}}
use Rattle.world_spec.specs.First.{first_world}
use Rattle.machine.{specs.Leading.{IsWhole, LeadTo}, proofs.Beginning.{first-whole, first-led}}
use Rattle.machine.proofs.machine.Machine.new.Goals as goal

pub invariant_of-result : goal.invariant_of-result
invariant_of-result c =
    let same : c.in_ok-new.field-0 ≡ first_world (hardware_of c.args.script.now) c.args.script.now.tasks =
    c.in_ok-new.ensures.world ∙ (ap (λ hw. first_world hw c.tasks.result.now) c.pmus_of.ensures ∙ ap (first_world (hardware_of c.args.script.now)) c.tasks.ensures.tasks) in
    subst (λ w. IsWhole (record { cpus = replicate 8 0; tools = replicate 4 0; world = w; outs = c.args.outs })) (sym same)
    (first-whole (limits_of c.args.script.now) (hardware_of c.args.script.now) c.args.script.now.tasks (script_machine c.args.script.now c.tasks.ensures.sound c.requires.covered) c.args.outs c.tasks.ensures.sound.tasks)

pub returns-clause-led : goal.returns-clause-led
returns-clause-led c =
    let same : c.in_ok-new.field-0 ≡ first_world (hardware_of c.args.script.now) c.args.script.now.tasks =
    c.in_ok-new.ensures.world ∙ (ap (λ hw. first_world hw c.tasks.result.now) c.pmus_of.ensures ∙ ap (first_world (hardware_of c.args.script.now)) c.tasks.ensures.tasks) in
    subst (λ w. LeadTo c.args.script.now [] (record { cpus = replicate 8 0; tools = replicate 4 0; world = w; outs = c.args.outs })) (sym same)
    (first-led c.args.script.now c.args.outs c.tasks.ensures.sound c.requires.covered c.requires.ends)
