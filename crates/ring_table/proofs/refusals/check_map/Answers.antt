use Rattle.std.proofs.Common.{◌&&◌, ap, sym, refl, ◌∙◌, true, false, is_some}
use Rattle.stage_spec.specs.{Flags.{is_inherited}, Places.{is_any_cpu}}
use Rattle.ring_table.proofs.Refusing.{map-closed, map-checked}
use Rattle.ring_table.proofs.refusals.check_map.Goals as goal

pub returns-in_default-clause-refused : goal.returns-in_default-clause-refused
returns-in_default-clause-refused c = map-closed c.args.world.now c.args.event c.args.ring c.key_of.ensures.kept (sym c.key_of.ensures.key ∙ c.in_default.is)

pub returns-then-is_inherited_anywhere-clause-refused : goal.returns-then-is_inherited_anywhere-clause-refused
returns-then-is_inherited_anywhere-clause-refused c =
    map-checked c.args.world.now c.args.event c.args.ring c.in-Some.key true _ _ c.key_of.ensures.kept (sym c.key_of.ensures.key ∙ c.in-Some.is)
    (ap (λ a. is_inherited a && is_any_cpu a.cpu) (sym c.attr.ensures) ∙ (sym c.is_inherited_anywhere.ensures ∙ c.if-is_inherited_anywhere.true)) refl refl

pub returns-then-is_some-clause-refused : goal.returns-then-is_some-clause-refused
returns-then-is_some-clause-refused c =
    map-checked c.args.world.now c.args.event c.args.ring c.in-Some.key false true _ c.key_of.ensures.kept (sym c.key_of.ensures.key ∙ c.in-Some.is)
    (ap (λ a. is_inherited a && is_any_cpu a.cpu) (sym c.attr.ensures) ∙ (sym c.is_inherited_anywhere.ensures ∙ c.if-is_inherited_anywhere.false))
    (ap (λ i. is_some i.ring) (sym c.instance.ensures.instance) ∙ (sym c.is_some.ensures ∙ c.if-is_some.true)) refl

pub returns-then-ring_used-clause-refused : goal.returns-then-ring_used-clause-refused
returns-then-ring_used-clause-refused c =
    map-checked c.args.world.now c.args.event c.args.ring c.in-Some.key false false true c.key_of.ensures.kept (sym c.key_of.ensures.key ∙ c.in-Some.is)
    (ap (λ a. is_inherited a && is_any_cpu a.cpu) (sym c.attr.ensures) ∙ (sym c.is_inherited_anywhere.ensures ∙ c.if-is_inherited_anywhere.false))
    (ap (λ i. is_some i.ring) (sym c.instance.ensures.instance) ∙ (sym c.is_some.ensures ∙ c.if-is_some.false)) (sym c.ring_used.ensures ∙ c.if-ring_used.true)

pub returns-else-ring_used-clause-accepted : goal.returns-else-ring_used-clause-accepted
returns-else-ring_used-clause-accepted c =
    map-checked c.args.world.now c.args.event c.args.ring c.in-Some.key false false false c.key_of.ensures.kept (sym c.key_of.ensures.key ∙ c.in-Some.is)
    (ap (λ a. is_inherited a && is_any_cpu a.cpu) (sym c.attr.ensures) ∙ (sym c.is_inherited_anywhere.ensures ∙ c.if-is_inherited_anywhere.false))
    (ap (λ i. is_some i.ring) (sym c.instance.ensures.instance) ∙ (sym c.is_some.ensures ∙ c.if-is_some.false)) (sym c.ring_used.ensures ∙ c.if-ring_used.false)
