use Rattle.perf_io.proofs.Behind.{wrote_part, wrote_whole}
use Rattle.perf_io.proofs.buffering.write_and_send.Goals as goal

pub returns-in_err-write_to-clause-wrote : goal.returns-in_err-write_to-clause-wrote
returns-in_err-write_to-clause-wrote g c =
    let w = c.in_err-write_to.ensures.wrote in
    wrote_part g.B.Behind.start c.args.buffered.now.room c.write_to.new.sink.room _ w.written.1.0 c.requires.start c.requires.room c.write_to.new.sink.grew w.count c.from_residual.ensures.0 w.written.0 w.written.1.1 w.written.1.2

pub returns-clause-wrote : goal.returns-clause-wrote
returns-clause-wrote g c =
    let w = c.in_ok-write_to.ensures.wrote in
    let s = c.send_all.ensures in
    wrote_whole c.write_to.new.sink.sink.now g.B.Behind.start c.args.buffered.now.room c.write_to.new.sink.room c.send_all.new.self.room _ c.requires.start c.requires.room c.send_all.new.self.grew w.count s.count s.cause s.sent w.written s.held
