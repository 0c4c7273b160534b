use Rattle.std.proofs.Common.{refl, ap, ◌∙◌, [], ◌∷◌, ◌++◌}
use Rattle.perf_base.{specs.Answered.{Answered}, proofs.Answered.{answers-more}}
use Rattle.perf_base.proofs.answers.Answers.push_reserved.Goals as goal

pub returns-clause-items : goal.returns-clause-items
returns-clause-items c =
    rw (c.keep-short.ensures.reasons, c.keep-short.ensures.told, c.push_reserved.ensures.items) (
    answers-more c.self.inside.reasons.items c.self.inside.told.items c.self.inside.entries.items c.self.inside.room c.args.answer
    (record { actor = c.args.answer.actor; number = c.args.answer.number; short = c.keep-short.result }) c.self.invariant.0 refl refl c.keep-short.ensures.short)
    ∙ ap (λ (k : Answered). k.items ++ c.args.answer ∷ []) c.self.view_is
