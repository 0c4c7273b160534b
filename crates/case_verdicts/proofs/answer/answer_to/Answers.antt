use Rattle.std.{specs.Prelude.{◌≡◌, List, ℕ, [], ◌∷◌, Ok, Some, codes, map, string_bytes}, proofs.Common.{ap, refl, rules, ◌∙◌}}
use Rattle.perf_ask.specs.declared.{asked.Asked.{Asked}, status.Status.{Status}}
use Rattle.perf_ask.specs.declared.asked.Asked.TheVariants as asked
use Rattle.case_verdicts.{specs.Written.{IsOutcome}, proofs.Given.{of-answer, replay-outcome, sink_in_memory, source_in_memory}}
use Rattle.case_verdicts.proofs.answer.answer_to.Goals as goal

pub returns-clause-outcome : goal.returns-clause-outcome
returns-clause-outcome c =
    let words : map string_bytes c.deref.result.now ≡ codes "replay" ∷ [] = search rules in
    let p = c.main_alone in
    of-answer (IsOutcome asked.Replay c.args.text.items) c.new-in-Ok.result c.in-Ok.status p.new.sink c.new-in-Ok.ensures.parts c.new-in-Ok.ensures.caused
    (replay-outcome source_in_memory sink_in_memory (map string_bytes c.deref.result.now) c.args.text.items p.new.sink.held c.in-Ok.status c.new-source.result p.new.source c.in_ok-out.out p.new.sink
    words c.in-Ok.ensures.answer (λ u. c.in-Ok.ensures.usage.0 (ap (λ (s : Status). Ok s) u))
    (ap (λ s. Some s.left) c.new-source.ensures) (ap (λ (bytes : List ℕ). Some bytes) c.in_ok-out.ensures) refl)
