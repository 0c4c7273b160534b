use Rattle.std.proofs.{Common.{sym, ◌∙◌}, lemmas.Option.{same_Some}}
use Rattle.perf_book.proofs.Reading.{no-tries, one-try}
use Rattle.perf_book.proofs.workers.read.Goals as goal

pub loop-attempt-init : goal.loop-attempt-init
loop-attempt-init g c = no-tries c.args.line c.args.reader c.requires.released

pub take-requires : goal.take-requires
take-requires g c = c.loop-attempt.invariant.ring ∙ same_Some c.args.reader.consumer.ring c.table.result.now (sym c.requires.same ∙ c.table.ensures)

pub loop-attempt-preserved : goal.loop-attempt-preserved
loop-attempt-preserved g c =
    one-try c.args.line c.loop-attempt.attempt c.take.result c.args.reader c.loop-attempt.reader c.take.new.self c.loop-attempt.invariant c.take.ensures.reads c.take.ensures.most
    c.take.ensures.records c.take.ensures.released c.take.ensures.still
