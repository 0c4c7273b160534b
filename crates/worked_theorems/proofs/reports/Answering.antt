-- That an order and replies answer a script and have this report, and how that is computed.
use Rattle.std.specs.{Prelude.{◌≡◌, ℕ, true, List, [], ◌∷◌}, Fmt.{digits}}
use Rattle.perf_base.specs.{declared.reply.Reply.{Reply}, Scripts.{Scripted}}
use Rattle.stage_spec.specs.{Hardware.{Hardware, hardware_of}, Stage.{first_stage}, Fits.{fits, fits_beside, fits_below}}
use Rattle.stage_spec.specs.{Tight.{tight_set, tight_after, shortest_unfit, unfit_after}, Verdict.{judge, judge_pass, judge_passes, verdicts}}
use Rattle.stage_spec.specs.{Settle.{settle_pass, settle, settle_each, settle_all}, Opening.{open_refusal, opened}}
use Rattle.stage_spec.specs.{Commands.{command_each, with_period}, Mapping.{mapped_to, output_to}, Closing.{closed}, Switching.{switched}}
use Rattle.stage_spec.specs.{Rotation.{rotated}, Forks.{copies_from, copy_groups, forked}, Exits.{exited}, Reading.{read_words}}
use Rattle.stage_spec.specs.{History.{Step, SeenStep, stage_step, steps_from, history, opening_stage}, Shares.{share}}
use Rattle.stage_spec.specs.{Occurrences.{left_after, overflows}, Replies.{why_of}}
use Rattle.report_spec.specs.Report.{report, hexadecimal_digits, record_lines}
use Rattle.ring_spec.specs.Running.{Running, first_record, record_after}
use Rattle.worked_theorems.proofs.{Answering.{AnswerBy, answer_by}, Answered.{RunRings, look_ok}, Whole.{IsWorked, EndsAs, is_filled, worked}}

-- Each step answered at what those before it leave.
AnswersBy : Hardware → (Running → Type 0) → Running → List Step → List Reply → Type 0
AnswersBy hw End k [] [] = End k
AnswersBy hw End k [] (a ∷ replies) = ⊥
AnswersBy hw End k (SeenStep ring place ∷ steps) replies = (look_ok k.rings (SeenStep ring place) ≡ true) × AnswersBy hw End (record_after hw k (SeenStep ring place)) steps replies
AnswersBy hw End k (x ∷ steps) [] = ⊥
AnswersBy hw End k (x ∷ steps) (a ∷ replies) = AnswerBy hw k x a × AnswersBy hw End (record_after hw k x) steps replies

answers_by : (hw : Hardware) (End : Running → Type 0) (k : Running) (steps : List Step) (replies : List Reply) → AnswersBy hw End k steps replies → RunRings hw End k steps replies
unfolding AnswersBy RunRings
answers_by hw End k [] [] h = h
answers_by hw End k [] (a ∷ replies) h = h
answers_by hw End k (SeenStep ring place ∷ steps) replies h = (h.0, answers_by hw End (record_after hw k (SeenStep ring place)) steps replies h.1)
answers_by hw End k (x ∷ steps) [] h = h
answers_by hw End k (x ∷ steps) (a ∷ replies) h = (answer_by hw k x a h.0, answers_by hw End (record_after hw k x) steps replies h.1)

-- So for a script's order, and its report at the end. Where this is unfolded, so is all that it computes with.
unfoldable pub Computed : Scripted → List Reply → List ℕ → Type 0
unfolding AnswersBy digits first_stage fits fits_beside fits_below tight_set tight_after shortest_unfit unfit_after judge judge_pass judge_passes verdicts settle_pass settle settle_each settle_all open_refusal opened command_each with_period mapped_to output_to closed switched rotated copies_from copy_groups forked exited read_words stage_step steps_from share why_of left_after overflows report hexadecimal_digits record_lines
Computed s replies text = AnswersBy (hardware_of s) (EndsAs s replies text) (first_record (opening_stage s) s.rings) (history s s.order) replies

pub computed : (s : Scripted) (replies : List Reply) (text : List ℕ) → is_filled s replies ≡ true → Computed s replies text → IsWorked s replies text
unfolding Computed
computed s replies text counted g =
    worked s replies text counted
    (answers_by (hardware_of s) (EndsAs s replies text) (first_record (opening_stage s) s.rings) (history s s.order) replies g)
