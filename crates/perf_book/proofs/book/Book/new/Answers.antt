use Rattle.std.{specs.Prelude.{[]}, proofs.Common.{sym, subst}}
use Rattle.perf_base.specs.Scripts.{IsScript}
use Rattle.perf_book.{specs.Book.{IsBooked}, proofs.Rooms.{booked-none}}
use Rattle.perf_book.proofs.book.Book.new.Goals as goal

pub invariant_of-result : goal.invariant_of-result
invariant_of-result c =
    let lists = c.in_ok-order.ensures in (
      subst (λ acts. IsBooked (record { script = c.args.script; machine = c.in_ok-machine.machine; order = acts; answers = c.in_ok-order.answers.items })) (sym lists.empty.0)
          (subst (λ answers. IsBooked (record { script = c.args.script; machine = c.in_ok-machine.machine; order = []; answers = answers })) (sym lists.empty.1)
          (booked-none c.args.script c.in_ok-machine.machine (subst IsScript c.script.view_is c.script.invariant) c.requires.covered c.requires.light c.in_ok-machine.ensures.led)),
      lists.room,
      lists.empty.2,
    )
