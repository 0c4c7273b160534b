use Rattle.std.proofs.Common.{◌&&◌, not, ap, sym, refl, ◌∙◌, true, false, is_none}
use Rattle.stage_spec.specs.Places.{is_any_cpu, is_same_cpu, is_same_task}
use Rattle.ring_table.proofs.Refusing.{output-closed, output-to_closed, output-checked, same-slot, other-slot}
use Rattle.ring_table.proofs.refusals.check_output.Goals as goal

pub returns-in_default-clause-refused : goal.returns-in_default-clause-refused
returns-in_default-clause-refused c = output-closed c.args.world.now c.args.event c.args.target c.key_of.ensures.kept (sym c.key_of.ensures.key ∙ c.in_default.is)

pub returns-in_default-key_of-clause-refused : goal.returns-in_default-key_of-clause-refused
returns-in_default-key_of-clause-refused c =
    output-to_closed c.args.world.now c.args.event c.args.target c.in-Some.key c.key_of.ensures.kept (sym c.key_of.ensures.key ∙ c.in-Some.is) (sym c.key_of-2.ensures.key ∙ c.in_default-key_of.is)

pub returns-then-event-target-clause-refused : goal.returns-then-event-target-clause-refused
returns-then-event-target-clause-refused c =
    output-checked c.args.world.now c.args.event c.args.target c.in-Some.key c.in-Some-key_of.other true _ _ _ _ c.key_of.ensures.kept
    (sym c.key_of.ensures.key ∙ c.in-Some.is) (sym c.key_of-2.ensures.key ∙ c.in-Some-key_of.is)
    (same-slot c.args.event c.args.target c.if-event-target.true)
    refl refl refl refl

pub returns-then-is_other_cpu-clause-refused : goal.returns-then-is_other_cpu-clause-refused
returns-then-is_other_cpu-clause-refused c =
    output-checked c.args.world.now c.args.event c.args.target c.in-Some.key c.in-Some-key_of.other false true _ _ _ c.key_of.ensures.kept
    (sym c.key_of.ensures.key ∙ c.in-Some.is) (sym c.key_of-2.ensures.key ∙ c.in-Some-key_of.is)
    (other-slot c.args.event c.args.target c.if-event-target.false)
    ((λ t. not (is_same_cpu (sym c.attr.ensures t).cpu (sym c.attr-2.ensures t).cpu)) ∙ (sym c.is_other_cpu.ensures ∙ c.if-is_other_cpu.true))
    refl refl refl

pub returns-then-is_other_task_anywhere-clause-refused : goal.returns-then-is_other_task_anywhere-clause-refused
returns-then-is_other_task_anywhere-clause-refused c =
    output-checked c.args.world.now c.args.event c.args.target c.in-Some.key c.in-Some-key_of.other false false true _ _ c.key_of.ensures.kept
    (sym c.key_of.ensures.key ∙ c.in-Some.is) (sym c.key_of-2.ensures.key ∙ c.in-Some-key_of.is)
    (other-slot c.args.event c.args.target c.if-event-target.false)
    ((λ t. not (is_same_cpu (sym c.attr.ensures t).cpu (sym c.attr-2.ensures t).cpu)) ∙ (sym c.is_other_cpu.ensures ∙ c.if-is_other_cpu.false))
    ((λ t. is_any_cpu (sym c.attr-3.ensures t).cpu && is_any_cpu (sym c.attr-4.ensures t).cpu && not (is_same_task (sym c.attr-3.ensures t).task (sym c.attr-4.ensures t).task)) ∙ (sym c.is_other_task_anywhere.ensures ∙ c.if-is_other_task_anywhere.true))
    refl refl

pub returns-then-mapped-clause-refused : goal.returns-then-mapped-clause-refused
returns-then-mapped-clause-refused c =
    output-checked c.args.world.now c.args.event c.args.target c.in-Some.key c.in-Some-key_of.other false false false true _ c.key_of.ensures.kept
    (sym c.key_of.ensures.key ∙ c.in-Some.is) (sym c.key_of-2.ensures.key ∙ c.in-Some-key_of.is)
    (other-slot c.args.event c.args.target c.if-event-target.false)
    ((λ t. not (is_same_cpu (sym c.attr.ensures t).cpu (sym c.attr-2.ensures t).cpu)) ∙ (sym c.is_other_cpu.ensures ∙ c.if-is_other_cpu.false))
    ((λ t. is_any_cpu (sym c.attr-3.ensures t).cpu && is_any_cpu (sym c.attr-4.ensures t).cpu && not (is_same_task (sym c.attr-3.ensures t).task (sym c.attr-4.ensures t).task)) ∙ (sym c.is_other_task_anywhere.ensures ∙ c.if-is_other_task_anywhere.false))
    (sym c.mapped.ensures ∙ c.if-mapped.true) refl

pub returns-in-None-clause-refused : goal.returns-in-None-clause-refused
returns-in-None-clause-refused c =
    output-checked c.args.world.now c.args.event c.args.target c.in-Some.key c.in-Some-key_of.other false false false false true c.key_of.ensures.kept
    (sym c.key_of.ensures.key ∙ c.in-Some.is) (sym c.key_of-2.ensures.key ∙ c.in-Some-key_of.is)
    (other-slot c.args.event c.args.target c.if-event-target.false)
    ((λ t. not (is_same_cpu (sym c.attr.ensures t).cpu (sym c.attr-2.ensures t).cpu)) ∙ (sym c.is_other_cpu.ensures ∙ c.if-is_other_cpu.false))
    ((λ t. is_any_cpu (sym c.attr-3.ensures t).cpu && is_any_cpu (sym c.attr-4.ensures t).cpu && not (is_same_task (sym c.attr-3.ensures t).task (sym c.attr-4.ensures t).task)) ∙ (sym c.is_other_task_anywhere.ensures ∙ c.if-is_other_task_anywhere.false))
    (sym c.mapped.ensures ∙ c.if-mapped.false) (ap (λ i. is_none i.ring) (sym c.instance.ensures.instance) ∙ ap is_none c.in-None.is)

pub returns-in-Some-ring-clause-accepted : goal.returns-in-Some-ring-clause-accepted
returns-in-Some-ring-clause-accepted c =
    output-checked c.args.world.now c.args.event c.args.target c.in-Some.key c.in-Some-key_of.other false false false false false c.key_of.ensures.kept
    (sym c.key_of.ensures.key ∙ c.in-Some.is) (sym c.key_of-2.ensures.key ∙ c.in-Some-key_of.is)
    (other-slot c.args.event c.args.target c.if-event-target.false)
    ((λ t. not (is_same_cpu (sym c.attr.ensures t).cpu (sym c.attr-2.ensures t).cpu)) ∙ (sym c.is_other_cpu.ensures ∙ c.if-is_other_cpu.false))
    ((λ t. is_any_cpu (sym c.attr-3.ensures t).cpu && is_any_cpu (sym c.attr-4.ensures t).cpu && not (is_same_task (sym c.attr-3.ensures t).task (sym c.attr-4.ensures t).task)) ∙ (sym c.is_other_task_anywhere.ensures ∙ c.if-is_other_task_anywhere.false))
    (sym c.mapped.ensures ∙ c.if-mapped.false) (ap (λ i. is_none i.ring) (sym c.instance.ensures.instance) ∙ ap is_none c.in-Some-ring.is)
