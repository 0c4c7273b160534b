use Rattle.std.{specs.Prelude.{◌≡◌, false, true, Some, None, if◌then◌else◌}, proofs.Common.{ap, sym, ◌∙◌}}
use Rattle.stage_spec.specs.{Stage.{is_open}, Tables.{stage_in, family_in}}
use Rattle.world_spec.specs.Kept.{family_sums}
use Rattle.machine.{specs.Leading.{Kept}, proofs.Roomy.{family-then}}
use Rattle.machine.proofs.machine.Machine.family.Goals as goal

pub returns-then-not-is_open-clause-led : goal.returns-then-not-is_open-clause-led
returns-then-not-is_open-clause-led c = λ s acts led.
    let closed : is_open (stage_in s acts) c.args.event ≡ false = sym (c.is_open.ensures.led s acts led) ∙ c.if-not-is_open.true in
    sym (ap (λ b. if b then Some (family_in s acts c.args.event) else None) closed)

pub returns-clause-sums : goal.returns-clause-sums
returns-clause-sums c = c.family_sums.ensures ∙ ap (λ (m : Kept). family_sums m.world c.args.event.0) c.self.view_is

pub returns-clause-led : goal.returns-clause-led
returns-clause-led c = λ s acts led.
    let opened : is_open (stage_in s acts) c.args.event ≡ true = sym (c.is_open.ensures.led s acts led) ∙ c.if-not-is_open.false in
    ap Some (returns-clause-sums c ∙ family-then s acts c.args.self.now c.args.event led c.use_slot.ensures.kept (sym c.is_open.ensures.there ∙ c.if-not-is_open.false))
    ∙ sym (ap (λ b. if b then Some (family_in s acts c.args.event) else None) opened)
