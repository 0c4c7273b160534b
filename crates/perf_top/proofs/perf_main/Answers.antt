use Rattle.std.{specs.Prelude.{map, string_bytes}, proofs.Common.{subst, sym}}
use Rattle.perf_top.{specs.Outcome.{IsAnswer, IsDone}, proofs.Whole.{from-start, whole}}
use Rattle.perf_ask.{specs.declared.asked.Asked.{Asked}, proofs.Asking.{for-asked}}
use Rattle.perf_top.proofs.perf_main.Goals as goal

pub returns-in-Err-clause-answer : goal.returns-in-Err-clause-answer
returns-in-Err-clause-answer g c = λ other.
    let h = from-start g.S.Source.shows g.K.Sink.shows c.in-Err.asked c.answer_threads.result c.args.source.now c.main_alone.new.source c.answer_threads.new.source
    c.args.sink.now c.main_alone.new.sink c.answer_threads.new.sink c.in-Err.ensures.nothing.0 c.in-Err.ensures.nothing.1 c.answer_threads.ensures.answer in (
      c.in-Err.asked,
      c.in-Err.ensures.threads.0,
      subst (λ x. IsAnswer g.S.Source.shows g.K.Sink.shows c.in-Err.asked x c.args.source.now c.answer_threads.new.source c.args.sink.now c.answer_threads.new.sink) (sym c.noted.ensures.same) h,
    )

pub returns-in-Err-clause-complete : goal.returns-in-Err-clause-complete
returns-in-Err-clause-complete g c = λ a asks can calm_source calm_sink.
    let h = from-start g.S.Source.shows g.K.Sink.shows c.in-Err.asked c.answer_threads.result c.args.source.now c.main_alone.new.source c.answer_threads.new.source
    c.args.sink.now c.main_alone.new.sink c.answer_threads.new.sink c.in-Err.ensures.nothing.0 c.in-Err.ensures.nothing.1 c.answer_threads.ensures.answer in
    subst (IsDone a) (sym c.noted.ensures.same)
    (whole g.S.Source.shows g.K.Sink.shows a c.answer_threads.result c.args.source.now c.answer_threads.new.source c.args.sink.now c.answer_threads.new.sink
    (for-asked
    (λ (x : Asked). IsAnswer g.S.Source.shows g.K.Sink.shows x c.answer_threads.result c.args.source.now c.answer_threads.new.source c.args.sink.now c.answer_threads.new.sink)
    (map string_bytes c.args.words.now) c.in-Err.asked a c.in-Err.ensures.threads.0 h asks)
    can calm_source calm_sink)
