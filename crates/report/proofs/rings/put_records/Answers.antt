use Rattle.std.proofs.{Common.{arith, ◌+◌, ◌*◌, ◌∙◌, length, sym}, lemmas.Bool.{eqb-true}}
use Rattle.perf_io.proofs.Wrote.{wrote_exit, wrote_nothing, wrote_text, wrote_then}
use Rattle.report.{specs.Told.{cut_lines, cut_records}, proofs.Told.{lines_step, no_lines}}
use Rattle.report.proofs.rings.put_records.Goals as goal

pub loop-rest-preserved : goal.loop-rest-preserved
loop-rest-preserved g c =
    let i = c.loop-rest.invariant in
    let front = c.split_at.result.0.now in
    let behind = c.split_at.result.1.now in
    record {
      place = omega (arith, i.place, c.split_at.ensures.front_len, c.split_at.ensures.back_len, c.first_length.ensures.within);
      wrote = λ after r w. i.wrote after r
          (wrote_text (lines_step c.args.tail c.loop-rest.place c.first_length.result c.loop-rest.rest.now front behind c.first_length.ensures.cut c.split_at.ensures.front c.split_at.ensures.back)
          (wrote_then c.in_ok-put_record.ensures.wrote w));
      flushed = c.in_ok-put_record.ensures.flushed ∙ i.flushed;
    }

pub returns-in_err-put_record-clause-wrote : goal.returns-in_err-put_record-clause-wrote
returns-in_err-put_record-clause-wrote g c =
    let front = c.split_at.result.0.now in
    let behind = c.split_at.result.1.now in
    c.loop-rest.invariant.wrote c.put_record.new.sink c.from_residual.result
    (wrote_text (lines_step c.args.tail c.loop-rest.place c.first_length.result c.loop-rest.rest.now front behind c.first_length.ensures.cut c.split_at.ensures.front c.split_at.ensures.back)
    (wrote_exit (cut_lines c.args.tail (c.loop-rest.place + 8 * length front) (cut_records behind)) c.from_residual.ensures.0 c.in_err-put_record.ensures.wrote))

pub returns-clause-wrote : goal.returns-clause-wrote
returns-clause-wrote g c =
    c.loop-rest.invariant.wrote c.loop-rest.sink _
    (wrote_text (no_lines c.args.tail c.loop-rest.place c.loop-rest.rest.now (eqb-true (length c.loop-rest.rest.now) 0 (sym c.is_empty.ensures ∙ c.loop-rest-test.false))) wrote_nothing)
