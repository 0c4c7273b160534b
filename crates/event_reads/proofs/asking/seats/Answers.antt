use Rattle.std.{proofs.Common.{◌∙◌, ap, subst, sym, List}, specs.Prelude.{ℕ}}
use Rattle.perf_base.specs.declared.numbers.EventNo.{EventNo}
use Rattle.stage_spec.specs.Replies.{IsSeats}
use Rattle.counter_match.specs.Seating.{seat_list}
use Rattle.world_spec.{specs.StageOf.{stage_of}, proofs.Standing.{seats-answer}}
use Rattle.event_reads.proofs.asking.seats.Goals as goal

pub returns : goal.returns
returns c =
    subst (λ (list : List (EventNo × ℕ)). IsSeats c.args.world.now.hardware (stage_of c.args.world.now) c.args.cpu list)
    (sym (c.list.ensures.list ∙ ap seat_list c.seating.ensures))
    (seats-answer c.args.world.now.hardware c.args.world.now c.args.cpu c.requires.rescheduled)
