-- That replies are the answers to the acts of a script's order, and how that is computed.
use Rattle.std.specs.Prelude.{List, [], ◌∷◌}
use Rattle.perf_base.specs.{declared.reply.Reply.{Reply}, Scripts.{Scripted}}
use Rattle.stage_spec.specs.{Hardware.{Hardware, hardware_of}, Stage.{Stage, first_stage}, Fits.{fits, fits_beside, fits_below}}
use Rattle.stage_spec.specs.{Tight.{tight_set, tight_after, shortest_unfit, unfit_after}, Verdict.{judge, judge_pass, judge_passes, verdicts}}
use Rattle.stage_spec.specs.{Settle.{settle_pass, settle, settle_each, settle_all}, Opening.{open_refusal, opened}}
use Rattle.stage_spec.specs.{Commands.{command_each, with_period}, Mapping.{mapped_to, output_to}, Closing.{closed}, Switching.{switched}}
use Rattle.stage_spec.specs.{Rotation.{rotated}, Forks.{copies_from, copy_groups, forked}, Exits.{exited}, Reading.{read_words}}
use Rattle.stage_spec.specs.{History.{Step, SeenStep, stage_step, steps_from, history, opening_stage}, Shares.{share}, Replies.{why_of, AreReplies}}
use Rattle.ring_spec.specs.{Rings.{lost_count}, Running.{Running, first_record, record_after, record_of, AreRepliesBy}}
use Rattle.ring_spec.proofs.Running.{replies_law}
use Rattle.worked_theorems.proofs.Answering.{AnswerBy, answer_by}

-- The replies to the lines of a script's order, by the definitions. No record is lost.
abbrev pub Answers : Scripted → List Reply → Type 0
Answers s replies = AreReplies (hardware_of s) (opening_stage s) (λ before e. 0) [] (history s s.order) replies

-- The same step by step.
AnswersBy : Hardware → Running → List Step → List Reply → Type 0
AnswersBy hw r [] [] = Unit {0}
AnswersBy hw r [] (a ∷ replies) = ⊥
AnswersBy hw r (SeenStep ring place ∷ steps) replies = AnswersBy hw (record_after hw r (SeenStep ring place)) steps replies
AnswersBy hw r (x ∷ steps) [] = ⊥
AnswersBy hw r (x ∷ steps) (a ∷ replies) = AnswerBy hw r x a × AnswersBy hw (record_after hw r x) steps replies

answers_by : (hw : Hardware) (r : Running) (steps : List Step) (replies : List Reply) → AnswersBy hw r steps replies → AreRepliesBy hw r steps replies
unfolding AnswersBy AreRepliesBy
answers_by hw r [] [] h = h
answers_by hw r [] (a ∷ replies) h = h
answers_by hw r (SeenStep ring place ∷ steps) replies h = answers_by hw (record_after hw r (SeenStep ring place)) steps replies h
answers_by hw r (x ∷ steps) [] h = h
answers_by hw r (x ∷ steps) (a ∷ replies) h = (answer_by hw r x a h.0, answers_by hw (record_after hw r x) steps replies h.1)

-- So for a script's order. Where this is unfolded, so is all that it computes with.
unfoldable pub Computed : Scripted → List Reply → Type 0
unfolding AnswersBy first_stage fits fits_beside fits_below tight_set tight_after shortest_unfit unfit_after judge judge_pass judge_passes verdicts settle_pass settle settle_each settle_all open_refusal opened command_each with_period mapped_to output_to closed switched rotated copies_from copy_groups forked exited read_words stage_step steps_from share why_of
Computed s replies = AnswersBy (hardware_of s) (first_record (opening_stage s) []) (history s s.order) replies

by_record : (hw : Hardware) (s : Stage) (steps : List Step) (replies : List Reply) → AreRepliesBy hw (first_record s []) steps replies → AreReplies hw s (λ before e. 0) [] steps replies
unfolding record_of lost_count
by_record hw s steps replies h = (replies_law hw s [] [] steps replies).0 h

pub computed : (s : Scripted) (replies : List Reply) → Computed s replies → Answers s replies
unfolding Computed
computed s replies g =
    by_record (hardware_of s) (opening_stage s) (history s s.order) replies (answers_by (hardware_of s) (first_record (opening_stage s) []) (history s s.order) replies g)
