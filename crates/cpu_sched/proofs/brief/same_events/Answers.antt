use Rattle.std.proofs.lemmas.Slice.Eq.{slice_eq-Decides}
use Rattle.cpu_sched.proofs.Same.{event-decides}
use Rattle.cpu_sched.proofs.brief.same_events.Goals as goal

pub returns : goal.returns
returns c = slice_eq-Decides event-decides c.args.one.now c.args.other.now c.eq.result c.eq.ensures
