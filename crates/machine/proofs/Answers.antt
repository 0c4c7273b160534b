-- Answers to an order with one act more.
use Rattle.std.{specs.Prelude.{◌≡◌, ℕ, List, [], ◌∷◌, ◌++◌, map}, proofs.Common.{refl, sym, ap, subst, ◌∙◌, append_assoc, append-nil}}
use Rattle.std.proofs.lemmas.List.{map-append}
use Rattle.perf_base.proofs.FlatMaps.{flat_map_after-push}
use Rattle.perf_base.specs.declared.{acts.Act.{Act}, numbers.{EventNo.{EventNo}, RingNo.{RingNo}}, reply.{Reply.{Reply}, Answer.{Answer}}}
use Rattle.perf_base.specs.Scripts.{Scripted}
use Rattle.perf_base.specs.declared.acts.Act.TheVariants as act
use Rattle.stage_spec.specs.Hardware.{Hardware, hardware_of}
use Rattle.stage_spec.specs.History.{Step, CpuStep, ToolStep, SeenStep, steps_of, steps_from, history, opening_stage}
use Rattle.stage_spec.specs.{Replies.{AnswerOrder, AreReplies, lines_from, lines_of_act}, Stage.{Stage}}
use Rattle.machine.proofs.History.{history-grows}

-- replies to some steps and to some more
pub replies-append : (hw : Hardware) (st : Stage) (lost : List Step → EventNo → ℕ) (before steps more : List Step) (replies others : List Reply)
    → AreReplies hw st lost before steps replies → AreReplies hw st lost (before ++ steps) more others → AreReplies hw st lost before (steps ++ more) (replies ++ others)
unfolding AreReplies
replies-append hw st lost before [] more [] others h g = subst (λ bs. AreReplies hw st lost bs more others) (append-nil before) g
replies-append hw st lost before [] more (r ∷ replies) others h g = absurd h
replies-append hw st lost before (SeenStep ring place ∷ steps) more replies others h g =
    replies-append hw st lost (before ++ SeenStep ring place ∷ []) steps more replies others h
    (subst (λ bs. AreReplies hw st lost bs more others) (sym (append_assoc before (SeenStep ring place ∷ []) steps)) g)
replies-append hw st lost before (CpuStep cpu line ∷ steps) more [] others h g = absurd h
replies-append hw st lost before (CpuStep cpu line ∷ steps) more (r ∷ replies) others h g = (
  h.0,
  replies-append hw st lost (before ++ CpuStep cpu line ∷ []) steps more replies others h.1
      (subst (λ bs. AreReplies hw st lost bs more others) (sym (append_assoc before (CpuStep cpu line ∷ []) steps)) g),
)
replies-append hw st lost before (ToolStep line ∷ steps) more [] others h g = absurd h
replies-append hw st lost before (ToolStep line ∷ steps) more (r ∷ replies) others h g = (
  h.0,
  replies-append hw st lost (before ++ ToolStep line ∷ []) steps more replies others h.1
      (subst (λ bs. AreReplies hw st lost bs more others) (sym (append_assoc before (ToolStep line ∷ []) steps)) g),
)

-- the lines that they do
lines-push : (before acts : List Act) (a : Act) → lines_from before (acts ++ a ∷ []) ≡ lines_from before acts ++ lines_of_act (before ++ acts) a
lines-push before acts a = flat_map_after-push lines_of_act before acts a

-- One more act with the reply to its line is one more answer.
pub answers-push : (s : Scripted) (lost : List Step → EventNo → ℕ) (acts : List Act) (a : Act) (answers : List Answer) (answer : Answer) → AnswerOrder s lost acts answers
    → lines_of_act acts a ≡ (answer.actor, answer.number) ∷ [] → AreReplies (hardware_of s) (opening_stage s) lost (history s acts) (steps_of s acts a) (answer.reply ∷ [])
    → AnswerOrder s lost (acts ++ a ∷ []) (answers ++ answer ∷ [])
answers-push s lost acts a answers answer h line reply = record {
  lines = map-append (λ x. (x.actor, x.number)) answers (answer ∷ [])
      ∙ (ap (λ xs. xs ++ (answer.actor, answer.number) ∷ []) h.lines ∙ (ap (λ xs. lines_from [] acts ++ xs) (sym line) ∙ sym (lines-push [] acts a)));
  replies = subst (λ steps. AreReplies (hardware_of s) (opening_stage s) lost [] steps (map (λ x. x.reply) (answers ++ answer ∷ []))) (sym (history-grows s acts a))
      (subst (AreReplies (hardware_of s) (opening_stage s) lost [] (history s acts ++ steps_of s acts a)) (sym (map-append (λ x. x.reply) answers (answer ∷ [])))
      (replies-append (hardware_of s) (opening_stage s) lost [] (history s acts) (steps_of s acts a) (map (λ x. x.reply) answers) (answer.reply ∷ []) h.replies reply));
}

-- A look is no line and has no answer.
pub answers-look : (s : Scripted) (lost : List Step → EventNo → ℕ) (acts : List Act) (ring : RingNo) (place : ℕ) (answers : List Answer) → AnswerOrder s lost acts answers
    → AnswerOrder s lost (acts ++ act.Seen ring place ∷ []) answers
unfolding AreReplies
answers-look s lost acts ring place answers h = record {
  lines = h.lines ∙ (sym (append-nil (lines_from [] acts)) ∙ sym (lines-push [] acts (act.Seen ring place)));
  replies = subst (λ steps. AreReplies (hardware_of s) (opening_stage s) lost [] steps (map (λ x. x.reply) answers)) (sym (history-grows s acts (act.Seen ring place)))
      (subst (AreReplies (hardware_of s) (opening_stage s) lost [] (history s acts ++ SeenStep ring place ∷ [])) (append-nil (map (λ x. x.reply) answers))
      (replies-append (hardware_of s) (opening_stage s) lost [] (history s acts) (SeenStep ring place ∷ []) (map (λ x. x.reply) answers) [] h.replies tt));
}

pub no-answers : (s : Scripted) (lost : List Step → EventNo → ℕ) → AnswerOrder s lost [] []
unfolding AreReplies steps_from
no-answers s lost = record { lines = refl; replies = tt }
