use Rattle.std.proofs.Common.{◌<◌, AllPairs, subst}
use Rattle.perf_base.specs.declared.lines.ReaderLine.{ReaderLine}
use Rattle.perf_book.{specs.Running.{AreReady}, proofs.Reading.{read-more, still-out}}
use Rattle.perf_book.proofs.workers.+fn-run_readers-join+arg3+run_readers.Goals as goal

pub take_out-reader-requires-clause-rise : goal.take_out-reader-requires-clause-rise
take_out-reader-requires-clause-rise g t c = subst (AllPairs (λ (q r : ReaderLine). q.ring.0 < r.ring.0)) c.in-Some.ensures.cases.0 c.requires.rise

pub take_out-reader-requires-clause-ready : goal.take_out-reader-requires-clause-ready
take_out-reader-requires-clause-ready g t c = subst (AreReady c.args.rings.now c.args.ins) c.in-Some.ensures.cases.0 c.requires.ready

pub give_reader-requires : goal.give_reader-requires
give_reader-requires g t c =
    still-out c.args.ins c.take_out-reader.new.ins c.join-reader.result.1 c.args.lines.now c.in-Some.rest.now c.in-Some.line.now c.take_out-reader.result c.in-Some.ensures.cases.0
    c.requires.rise c.take_out-reader.ensures.reader c.take_out-reader.ensures.end c.join-reader.ensures.second.1

pub returns-clause-read : goal.returns-clause-read
returns-clause-read g t c =
    read-more c.args.ins c.take_out-reader.new.ins c.join-reader.result.1 c.give_reader.new.self c.args.lines.now c.in-Some.rest.now c.in-Some.line.now c.take_out-reader.result
    c.join-reader.result.0 c.in-Some.ensures.cases.0 c.requires.rise c.take_out-reader.ensures.listed c.take_out-reader.ensures.reader c.take_out-reader.ensures.end
    c.join-reader.ensures.second.0 c.join-reader.ensures.second.1 c.join-reader.ensures.first c.give_reader.ensures
