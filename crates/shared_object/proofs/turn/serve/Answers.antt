use Rattle.std.proofs.Common.{rules, ◌≡◌, Some, ap, subst}
use Rattle.shared_object.proofs.turn.serve.Goals as goal

pub returns-clause-value : goal.returns-clause-value
returns-clause-value g c =
    let kept = c.make_call-reply.new.kept in
    let calls : kept.1 ≡ c.exchange-2.new.seat.me.0.seen = search rules in
    let is : g.O.Sequential.after c.args.table.now.key kept.0 kept.1 = search rules in (
      Some kept,
      search rules,
      (kept.0, ap (λ l. Some (kept.0, l)) calls, subst (g.O.Sequential.after c.args.table.now.key kept.0) calls is),
    )
