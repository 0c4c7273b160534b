use Rattle.std.proofs.Common.{◌∙◌, ap, sym}
use Rattle.stage_spec.specs.Stage.{place_of}
use Rattle.world_spec.specs.{Changes.{in_list, to_last, with_leaders}, Value.{leaders_of, entry_at}}
use Rattle.task_moves.{specs.Turning.{last_if}, proofs.Turning.{flexible-there, turning-there, one-context}}
use Rattle.task_moves.proofs.rotation.turn.Goals as goal
use Rattle.world_spec.proofs.Coming.{number_true}

pub move_last-requires-clause-leads : goal.move_last-requires-clause-leads
move_last-requires-clause-leads c =
    (flexible-there c.args.world.now.hardware c.args.world.now c.args.context c.in-Some.leader c.next_to_turn.ensures.kept
    (turning-there c.args.world.now c.args.cpu (leaders_of c.args.world.now c.args.context).flexible c.in-Some.leader (sym c.next_to_turn.ensures.turn ∙ c.in-Some.is))).0

pub move_last-requires-clause-context : goal.move_last-requires-clause-context
move_last-requires-clause-context c =
    one-context (entry_at c.args.world.now c.in-Some.leader).context c.args.context c.requires.place
    (number_true (place_of (entry_at c.args.world.now c.in-Some.leader).context) (place_of c.args.context)
    (flexible-there c.args.world.now.hardware c.args.world.now c.args.context c.in-Some.leader c.next_to_turn.ensures.kept
    (turning-there c.args.world.now c.args.cpu (leaders_of c.args.world.now c.args.context).flexible c.in-Some.leader (sym c.next_to_turn.ensures.turn ∙ c.in-Some.is))).1)

pub returns-in-Some : goal.returns-in-Some
returns-in-Some c =
    let flexible : _ =
    (flexible-there c.args.world.now.hardware c.args.world.now c.args.context c.in-Some.leader c.next_to_turn.ensures.kept
    (turning-there c.args.world.now c.args.cpu (leaders_of c.args.world.now c.args.context).flexible c.in-Some.leader (sym c.next_to_turn.ensures.turn ∙ c.in-Some.is))).2 in
    c.move_last.ensures.world
    ∙ (ap (λ b. with_leaders c.args.context (in_list b (to_last c.in-Some.leader)) c.args.world.now) flexible
    ∙ ap (λ o. with_leaders c.args.context (λ l. record l { flexible = last_if o l.flexible }) c.args.world.now) (sym c.in-Some.is ∙ c.next_to_turn.ensures.turn))
