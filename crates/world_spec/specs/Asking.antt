-- inner
-- What a world answers, and steps that ask and change nothing. This project's own profile.
use Rattle.std.specs.Prelude.{slice_index_or}
use Rattle.perf_base.specs.declared.reply.Reply.{Reply}
use Rattle.stage_spec.specs.{Hardware.{Hardware}, History.{Step}, Replies.{IsAnswerAt}}
use Rattle.ring_spec.specs.Running.{Running, IsAnswerBy}
use Rattle.world_spec.specs.{Agreement.{AgreesWith}, Kept.{IsKept, family_sums}, StageOf.{stage_of}, Value.{World}}

-- An answer by what the families of a world have counted and lost is the answer by each record with which the world
-- agrees.
abbrev pub AnswerLaw : Type 0
AnswerLaw = (hw : Hardware) (w : World) (r : Running) (x : Step) (a : Reply) → IsKept hw w → AgreesWith w r
    → IsAnswerAt hw (stage_of w) (λ e. family_sums w e.0) (λ e. slice_index_or w.lost e.0 0) x a → IsAnswerBy hw r x a
