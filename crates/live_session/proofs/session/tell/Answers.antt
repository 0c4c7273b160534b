use Rattle.live_session.proofs.Telling.{flush-failed}
use Rattle.live_session.specs.Texts.{said_text}
use Rattle.live_session.proofs.session.tell.Goals as goal

pub returns-clause-err : goal.returns-clause-err
returns-clause-err g c =
    flush-failed c.args.sink.now c.write_buffered.new.sink c.flush.new.self c.write_buffered.result c.flush.result (said_text c.args.said.now) c.in_ok-write_buffered.was c.write_buffered.ensures.wrote
    c.flush.ensures.cause c.flush.ensures.held
