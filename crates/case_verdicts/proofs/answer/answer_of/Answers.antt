use Rattle.std.{specs.Prelude.{List, ℕ, Some, map, string_bytes}, proofs.Common.{ap, refl}}
use Rattle.case_verdicts.{specs.Written.{HaveOutcome}, proofs.Given.{have-outcome, of-answer, sink_in_memory, source_in_memory}}
use Rattle.case_verdicts.proofs.answer.answer_of.Goals as goal

pub returns-clause-outcome : goal.returns-clause-outcome
returns-clause-outcome g c =
    let p = c.perf_main-status in
    of-answer (HaveOutcome (map string_bytes c.args.words.now) c.args.text.items) c.new-2.result p.result p.new.sink c.new-2.ensures.parts c.new-2.ensures.caused
    (have-outcome source_in_memory sink_in_memory (map string_bytes c.args.words.now) c.args.text.items p.new.sink.held p.result c.new-source.result p.new.source c.in_ok-out.out p.new.sink
    p.ensures.answer p.ensures.usage (λ u. (p.ensures.unknown u).1) (ap (λ s. Some s.left) c.new-source.ensures) (ap (λ (bytes : List ℕ). Some bytes) c.in_ok-out.ensures) refl)
