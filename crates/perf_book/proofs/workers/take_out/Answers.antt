use Rattle.std.proofs.Common.{sym, subst}
use Rattle.sample_ring.specs.RingLists.{InList}
use Rattle.perf_book.{specs.Running.{AreReady}, proofs.Reading.{rest-ready, rest-rise}}
use Rattle.perf_book.proofs.workers.take_out.Goals as goal

pub returns-clause-rise : goal.returns-clause-rise
returns-clause-rise c = rest-rise c.args.line c.args.rest.now c.requires.rise

pub returns-clause-ready : goal.returns-clause-ready
returns-clause-ready c =
    subst (λ (i : InList). AreReady c.args.rings.now i c.args.rest.now) (sym c.take_reader.ensures.end)
    (rest-ready c.args.rings.now c.args.ins.now c.args.line c.args.rest.now c.requires.rise c.requires.ready)
