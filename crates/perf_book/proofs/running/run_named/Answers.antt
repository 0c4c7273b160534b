use Rattle.std.proofs.Common.{◌≡◌, ◌*◌, ◌<◌, List, AllPairs, slice_index_or, sym, subst, ◌∙◌}
use Rattle.perf_base.specs.{declared.{lines.ReaderLine.{ReaderLine}, numbers.RingNo.{RingNo}}, Scripts.{Scripted}, Weight.{weight}}
use Rattle.sample_ring.specs.RingLists.{RingList}
use Rattle.work_account.specs.Ends.{AreTogether}
use Rattle.machine.specs.Readers.{AreReaders}
use Rattle.report_spec.specs.Answers.{line_for}
use Rattle.perf_book.{specs.{Book.{IsBooked}, Running.{AreReady, IsReadBy}}, proofs.Ready.{all-ready, planned, readers-back}}
use Rattle.perf_book.proofs.running.run_named.Goals as goal

pub run_readers-ins-requires-clause-rise : goal.run_readers-ins-requires-clause-rise
run_readers-ins-requires-clause-rise g c κs within =
    let lines = planned c.args.book.script c.script.result.now c.lines.result.now c.of-plan.result.readers c.of-plan.result.reader_count c.lines.ensures c.of-plan.ensures.readers c.script.ensures.script in
    subst (AllPairs (λ (q r : ReaderLine). q.ring.0 < r.ring.0)) (sym lines) c.script.ensures.sound.script.readers_rise

pub run_readers-ins-requires-clause-ready : goal.run_readers-ins-requires-clause-ready
run_readers-ins-requires-clause-ready g c κs within =
    let lines = planned c.args.book.script c.script.result.now c.lines.result.now c.of-plan.result.readers c.of-plan.result.reader_count c.lines.ensures c.of-plan.ensures.readers c.script.ensures.script in
    subst (AreReady c.args.rings.now c.args.ins) (sym lines)
    (all-ready c.args.book (9 * weight c.args.book.script) c.args.rings.now c.args.ins c.script.ensures.sound c.requires.together c.requires.readers)

pub returns-clause-readers : goal.returns-clause-readers
returns-clause-readers g c =
    let lines = planned c.args.book.script c.script.result.now c.lines.result.now c.of-plan.result.readers c.of-plan.result.reader_count c.lines.ensures c.of-plan.ensures.readers c.script.ensures.script in
    let same : c.into_parts-book.result.0.script ≡ c.args.book.script = c.into_parts-book.ensures.script ∙ sym c.requires.script in
    subst (λ (s : Scripted). AreReaders (9 * weight s) c.into_parts-book.result.0.machine.outs c.run_readers-ins.result) (sym same)
    (readers-back c.args.book c.into_parts-book.result.0 (9 * weight c.args.book.script) c.args.rings.now c.args.ins c.run_readers-ins.result c.script.ensures.sound (subst IsBooked (sym c.into_parts-book.ensures.book) c.do_rest_alone.ensures.sound) same
    c.requires.together (subst (λ (rings : RingList). AreTogether rings c.into_parts-book.result.0.machine.outs) (sym c.requires.rings) c.into_parts-book.ensures.together) c.run_readers-ins.ensures.numbers
    (λ ring. subst (λ (l : List ReaderLine). IsReadBy (line_for l ring) c.args.ins c.run_readers-ins.result ring) lines (c.run_readers-ins.ensures.read ring)) c.requires.readers)

pub returns-clause-read : goal.returns-clause-read
returns-clause-read g c =
    let lines = planned c.args.book.script c.script.result.now c.lines.result.now c.of-plan.result.readers c.of-plan.result.reader_count c.lines.ensures c.of-plan.ensures.readers c.script.ensures.script in (
      c.run_readers-ins.ensures.numbers,
      λ k d low.
          let ring : RingNo = (slice_index_or c.args.book.script.rings k d).0 in
          subst (λ (l : List ReaderLine). IsReadBy (line_for l ring) c.args.ins c.run_readers-ins.result ring) lines (c.run_readers-ins.ensures.read ring),
    )
