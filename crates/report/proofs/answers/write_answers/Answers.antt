use Rattle.std.proofs.{Common.{rules, sym}, lemmas.Option.{get_or_from_slice_get, slice_get_within}}
use Rattle.script_print.proofs.Loops.{loop_exit_is, loop_more_is}
use Rattle.report.proofs.Entries.{answers_each}
use Rattle.report.proofs.answers.write_answers.Goals as goal

pub returns-in_err-put_kept-clause-wrote : goal.returns-in_err-put_kept-clause-wrote
returns-in_err-put_kept-clause-wrote g c =
    loop_exit_is (answers_each c.args.script.now) c.args.answers.now.items c.loop-place.place c.get.result (slice_get_within c.args.answers.now.items c.loop-place.place c.get.result c.get.ensures)
    (sym (get_or_from_slice_get c.args.answers.now.items c.loop-place.place c.get.result c.get.result c.get.ensures)) c.loop-place.invariant.wrote c.from_residual.ensures.0 c.in_err-put_kept.ensures.wrote

pub loop-place-preserved : goal.loop-place-preserved
loop-place-preserved g c = record {
  wrote = loop_more_is (answers_each c.args.script.now) c.args.answers.now.items c.loop-place.place c.get.result (slice_get_within c.args.answers.now.items c.loop-place.place c.get.result c.get.ensures)
      (sym (get_or_from_slice_get c.args.answers.now.items c.loop-place.place c.get.result c.get.result c.get.ensures)) c.loop-place.invariant.wrote c.in_ok-put_kept.ensures.wrote;
  flushed = search rules;
}
