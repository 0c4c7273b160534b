-- A stretch of work sends no more records than the script weighs.
use Rattle.std.specs.Prelude.{◌≡◌, ◌≤◌, List, [], ◌∷◌, ◌++◌, length}
use Rattle.std.proofs.{Common.{arith, ap, ◌∙◌, append-nil, append_assoc}, Math.Path.{fun_ext}, lemmas.List.{length-append}}
use Rattle.perf_base.specs.{declared.{acts.Act.{Act}, lines.Work.{Work}, numbers.CpuNo.{CpuNo}}, Scripts.{Scripted, IsCovered, IsScript}}
use Rattle.perf_base.specs.Weight.{weight}
use Rattle.perf_base.specs.declared.acts.Act.TheVariants as act
use Rattle.perf_base.specs.declared.lines.CpuLine.TheVariants as line
use Rattle.stage_spec.specs.{Hardware.{Hardware, hardware_of}, History.{Step, CpuStep, history, opening_stage, steps_of}}
use Rattle.stage_spec.{specs.Stage.{Stage}, proofs.Recurrence.{steps-push}}
use Rattle.ring_spec.specs.{Running.{record_of}, Sending.{sent_after, sent_by_steps, sent_from}}
use Rattle.ring_laws.proofs.Orders.{few_of_script}
use Rattle.sample_ring.specs.RingLists.{OutList}
use Rattle.world_spec.specs.{Value.{World}}
use Rattle.work_account.specs.Sampling.{sent_by}
use Rattle.machine.{specs.Left.{IsLeft}, proofs.RingsThere.{recorded}}

-- what the last step sends is among all that steps send
last-sent : (hw : Hardware) (s : Stage) (before steps : List Step) (x : Step) → length (sent_after hw s (before ++ steps) x) ≤ length (sent_from hw s before (steps ++ x ∷ []))
unfolding sent_from
last-sent hw s before [] x = omega (arith, ap (λ (b : List Step). length (sent_after hw s b x)) (append-nil before), length-append (sent_after hw s before x) [])
last-sent hw s before (y ∷ steps) x = grind (arith, append_assoc, length-append, last-sent hw s (before ++ y ∷ []) steps x)

-- so the step of an act sends no more records than the script weighs
act-sends : (s : Scripted) (acts : List Act) (a : Act) (x : Step) → IsScript s → IsCovered s → steps_of s acts a ≡ x ∷ []
    → length (sent_after (hardware_of s) (opening_stage s) (history s acts) x) ≤ weight s
act-sends s acts a x script covered step =
    let all : history s (acts ++ a ∷ []) ≡ history s acts ++ x ∷ [] = steps-push s [] acts a ∙ ap (λ (xs : List Step). history s acts ++ xs) step in
    omega (
      arith,
      last-sent (hardware_of s) (opening_stage s) [] (history s acts) x,
      ap (λ (xs : List Step). length (sent_by_steps (hardware_of s) (opening_stage s) xs)) all,
      few_of_script s (acts ++ a ∷ []) script covered,
    )

-- What a stretch of work sends by the world is what its step sends by the acts before it.
sent-is : (s : Scripted) (acts : List Act) (w : World) (outs : OutList) (cpu : CpuNo) (work : Work) → IsLeft s acts w outs
    → sent_by w (record_of (hardware_of s) (opening_stage s) s.rings (history s acts)).left cpu work
    ≡ sent_after (hardware_of s) (opening_stage s) (history s acts) (CpuStep cpu (line.Work work))
unfolding sent_after
sent-is s acts w outs cpu work left = grind (arith, recorded, fun_ext)

pub few-sent : (s : Scripted) (acts : List Act) (w : World) (outs : OutList) (cpu : CpuNo) (work : Work) → IsScript s → IsCovered s → IsLeft s acts w outs
    → steps_of s acts (act.Processor cpu) ≡ CpuStep cpu (line.Work work) ∷ []
    → length (sent_by w (record_of (hardware_of s) (opening_stage s) s.rings (history s acts)).left cpu work) ≤ weight s
few-sent s acts w outs cpu work script covered left step =
    omega (arith, ap length (sent-is s acts w outs cpu work left), act-sends s acts (act.Processor cpu) (CpuStep cpu (line.Work work)) script covered step)
