use Rattle.std.{specs.Prelude.{map, string_bytes}, proofs.Common.{rules, subst, sym}}
use Rattle.perf_top.{specs.Outcome.{IsAnswer, IsDone}, proofs.Whole.{whole}}
use Rattle.perf_ask.{specs.{Asking.{DoesOrder, ReadsScript}, declared.asked.Asked.{Asked}}, proofs.Asking.{for-asked}}
use Rattle.perf_top.proofs.main_alone.Goals as goal

pub returns-in-Some : goal.returns-in-Some
returns-in-Some g c =
    let words = map string_bytes c.args.words.now in
    let fact : ReadsScript c.in-Some.alone → DoesOrder c.in-Some.alone = search rules in
    record {
      counts = search rules;
      usage = search rules;
      unknown = search rules;
      answer = search rules;
      complete = λ a asks can calm_source calm_sink.
          subst (IsDone a) (sym c.noted-in-Some.ensures.same)
          (whole g.S.Source.shows g.K.Sink.shows a c.answer_alone.result c.args.source.now c.answer_alone.new.source c.args.sink.now c.answer_alone.new.sink
          (for-asked (λ (x : Asked). IsAnswer g.S.Source.shows g.K.Sink.shows x c.answer_alone.result c.args.source.now c.answer_alone.new.source c.args.sink.now c.answer_alone.new.sink)
          words c.in-Some.alone a c.in-Some.ensures c.answer_alone.ensures.answer asks) can calm_source calm_sink);
      note = search rules;
      alone = λ a asks. for-asked (λ (x : Asked). ReadsScript x → DoesOrder x) words c.in-Some.alone a c.in-Some.ensures fact asks;
      threads = tt;
      nothing = tt;
    }
