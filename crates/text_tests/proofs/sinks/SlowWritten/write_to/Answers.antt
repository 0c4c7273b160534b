use Rattle.std.proofs.Common.{◌≤◌, ◌∙◌, drop, arith}
use Rattle.perf_io.proofs.{Wrote.{wrote_then, wrote_exit, wrote_text}, Pieces.{front_and_piece, front_piece_rest}}
use Rattle.text_tests.proofs.sinks.SlowWritten.write_to.Goals as goal

pub returns-in_err-write_all-clause-wrote : goal.returns-in_err-write_all-clause-wrote
returns-in_err-write_all-clause-wrote g c =
    let bytes = c.args.self.now.bytes.now in
    let later : c.loop-done.done ≤ c.min-end.result = grind (arith, c.min-end.ensures, c.loop-done-test.true) in
    wrote_text (front_piece_rest c.loop-done.done c.min-end.result bytes later)
    (wrote_exit (drop c.min-end.result bytes) c.from_residual.ensures.0 (wrote_then c.loop-done.invariant.wrote c.in_err-write_all.ensures.wrote))

pub loop-done-preserved : goal.loop-done-preserved
loop-done-preserved g c =
    let bytes = c.args.self.now.bytes.now in
    let later : c.loop-done.done ≤ c.min-end.result = grind (arith, c.min-end.ensures, c.loop-done-test.true) in
    record {
      within = grind (arith, c.min-end.ensures);
      wrote = wrote_text (front_and_piece c.loop-done.done c.min-end.result bytes later) (wrote_then c.loop-done.invariant.wrote c.in_ok-write_all.ensures.wrote);
      flushed = c.in_ok-write_all.ensures.flushed ∙ c.loop-done.invariant.flushed;
    }
