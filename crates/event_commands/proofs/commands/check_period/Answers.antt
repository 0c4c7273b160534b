use Rattle.std.proofs.Common.{ap, sym, ◌∙◌}
use Rattle.event_commands.proofs.Periods.{no-event, not-sampling, zero-period, no-reason, some-period}
use Rattle.event_commands.proofs.commands.check_period.Goals as goal

pub returns-in_default-clause-refused : goal.returns-in_default-clause-refused
returns-in_default-clause-refused c =
    no-event c.args.world.now.hardware c.args.world.now c.args.event c.args.period c.key_of.ensures.kept (sym c.key_of.ensures.key ∙ c.in_default.is)

pub returns-then-attr-eq0-clause-refused : goal.returns-then-attr-eq0-clause-refused
returns-then-attr-eq0-clause-refused c =
    not-sampling c.args.world.now.hardware c.args.world.now c.args.event c.args.period c.in-Some.key c.key_of.ensures.kept (sym c.key_of.ensures.key ∙ c.in-Some.is)
    (ap (λ a. a.period) (sym c.attr.ensures) ∙ c.if-attr-eq0.true)

pub returns-then-is_no_period-clause-refused : goal.returns-then-is_no_period-clause-refused
returns-then-is_no_period-clause-refused c =
    zero-period c.args.world.now.hardware c.args.world.now c.args.event c.args.period c.in-Some.key c.key_of.ensures.kept (sym c.key_of.ensures.key ∙ c.in-Some.is)
    (λ zero. c.if-attr-eq0.false (ap (λ a. a.period) c.attr.ensures ∙ zero)) (sym c.is_no_period.ensures ∙ c.if-is_no_period.true)

pub returns-clause-accepted : goal.returns-clause-accepted
returns-clause-accepted c =
    no-reason c.args.world.now.hardware c.args.world.now c.args.event c.args.period c.in-Some.key c.key_of.ensures.kept (sym c.key_of.ensures.key ∙ c.in-Some.is)
    (λ zero. c.if-attr-eq0.false (ap (λ a. a.period) c.attr.ensures ∙ zero)) (sym c.is_no_period.ensures ∙ c.if-is_no_period.false)

pub returns-clause-some : goal.returns-clause-some
returns-clause-some c = some-period c.args.period (sym c.is_no_period.ensures ∙ c.if-is_no_period.false)
