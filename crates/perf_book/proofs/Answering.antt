-- The answers to an order, with one more.
use Rattle.std.{specs.Prelude.{◌≡◌, ℕ, List, [], ◌∷◌, ◌++◌, length, map, Option, Some, None}, proofs.Common.{arith, sym, ap, subst, ◌∙◌, append-nil}}
use Rattle.perf_base.specs.{declared.{acts.{Act.{Act}, Actor.{Actor}}, reply.{Answer.{Answer}, Reply.{Reply}}}, Scripts.{Scripted}}
use Rattle.perf_base.specs.declared.acts.Act.TheVariants as act
use Rattle.perf_base.specs.declared.acts.Actor.TheVariants as actor
use Rattle.ring_spec.proofs.Running.{map-map}
use Rattle.stage_spec.specs.Replies.{AnswerOrder, lines_of_act}
use Rattle.sample_ring.specs.{OutEnds.{OutEnd}, RingLists.{OutList}}
use Rattle.machine.specs.{Stepped.{seen_of}, Leading.{Kept, HasLine, IsReplyTo, LeadTo, act_of, done_by}, Readers.{loads_of}, Stepping.{IsAnswerTo}}
use Rattle.machine.proofs.Answers.{answers-look, answers-push}
use Rattle.report_spec.specs.Answers.{lost_in}
use Rattle.perf_book.specs.Keeping.{kept, line_in}

-- an act with the answer that it keeps
pub answered-then : (s : Scripted) (acts : List Act) (a : Act) (line : Option (Actor × ℕ)) (reply : Reply) (answers : List Answer) → lines_of_act acts a ≡ line_in line
    → IsAnswerTo s acts a reply → AnswerOrder s (lost_in s) acts answers → AnswerOrder s (lost_in s) (acts ++ a ∷ []) (answers ++ kept line reply)
answered-then s acts (act.Processor cpu) None reply answers is r h = absurd (omega (arith, ap length is))
answered-then s acts (act.Processor cpu) (Some line) reply answers is r h =
    answers-push s (lost_in s) acts (act.Processor cpu) answers (record { actor = line.0; number = line.1; reply = reply }) h is r
answered-then s acts (act.Tool tool) None reply answers is r h = absurd (omega (arith, ap length is))
answered-then s acts (act.Tool tool) (Some line) reply answers is r h =
    answers-push s (lost_in s) acts (act.Tool tool) answers (record { actor = line.0; number = line.1; reply = reply }) h is r
answered-then s acts (act.Seen ring place) None reply answers is r h =
    subst (λ xs. AnswerOrder s (lost_in s) (acts ++ act.Seen ring place ∷ []) xs) (sym (append-nil answers)) (answers-look s (lost_in s) acts ring place answers h)
answered-then s acts (act.Seen ring place) (Some line) reply answers is r h = absurd (omega (arith, ap length is))

-- an actor's next line with its answer
pub answered-line : (s : Scripted) (acts : List Act) (m : Kept) (who : Actor) (reply : Reply) (answers : List Answer) → HasLine s m who → LeadTo s acts m
    → IsReplyTo s acts (act_of who) reply → AnswerOrder s (lost_in s) acts answers
    → AnswerOrder s (lost_in s) (acts ++ act_of who ∷ []) (answers ++ record { actor = who; number = done_by who m; reply = reply } ∷ [])
answered-line s acts m (actor.Processor cpu) reply answers has led r h =
    answered-then s acts (act.Processor cpu) (Some (actor.Processor cpu, done_by (actor.Processor cpu) m)) reply answers (ap (λ n. (actor.Processor cpu, n) ∷ []) (sym (led.cpus cpu))) r h
answered-line s acts m (actor.Tool tool) reply answers has led r h =
    answered-then s acts (act.Tool tool) (Some (actor.Tool tool, done_by (actor.Tool tool) m)) reply answers (ap (λ n. (actor.Tool tool, n) ∷ []) (sym (led.tools tool))) r h
answered-line s acts m (actor.Reader ring) reply answers has led r h = absurd has
answered-line s acts m actor.Watcher reply answers has led r h = absurd has

-- where ends have seen the same, they have loaded as often
pub same-loads : (outs sent : OutList) → seen_of sent ≡ seen_of outs → loads_of sent ≡ loads_of outs
same-loads outs sent e =
    let knows : OutEnd → ℕ × ℕ = λ o. (o.producer.last_tail, o.producer.loads) in
    sym (map-map knows (λ k. k.1) sent.outs) ∙ (ap (map (λ k. k.1)) e ∙ map-map knows (λ k. k.1) outs.outs)
