-- After a step only the processors that it touches have to be settled.
use Rattle.std.specs.Prelude.{◌≡◌, ◌≢◌, ◌+◌, ◌<◌, ◌≤◌, nat_lt, Bool, true, false, List, [], ◌∷◌, map, filter, length, Option, Some, None}
use Rattle.std.proofs.{Common.{arith, refl, sym, ap, ◌∙◌}, lemmas.Bool.{false≢true}}
use Rattle.perf_base.specs.declared.{numbers.{CpuNo.{CpuNo}, TaskNo.{TaskNo}}, lines.{CpuLine.{CpuLine}, ToolLine.{ToolLine}}}
use Rattle.perf_base.specs.declared.reasons.Reason.{Reason}
use Rattle.perf_base.specs.declared.lines.CpuLine.TheVariants as cpu_line
use Rattle.perf_base.specs.declared.lines.ToolLine.TheVariants as tool_line
use Rattle.perf_base.specs.declared.reasons.Reason.TheVariants as reason
use Rattle.perf_base.specs.declared.standing.Context.TheVariants as context
use Rattle.stage_spec.specs.{Hardware.{Hardware}, Numbers.{numbers_below}}
use Rattle.stage_spec.specs.Stage.{Stage, task_on, all_cpus, is_idle, is_live, was_used, status_of, live_copies, change_context, is_copy}
use Rattle.stage_spec.specs.{Verdict.{Judged, passes, task_lists}, Settle.{settle_each, settle_all}, Commands.{targets, enabled, disabled}}
use Rattle.stage_spec.specs.{Closing.{without}, Switching.{switched, put_on, is_running}, Rotation.{turn_lists, turn_task, rotated}}
use Rattle.stage_spec.specs.{Forks.{fork_refusal, forked, copied, new_copies}, Exits.{exited, exited_by}}
use Rattle.stage_spec.specs.History.{Step, CpuStep, ToolStep, SeenStep, cpu_refusal, tool_refusal, cpu_changed, tool_changed, unless_refused, stage_step}
use Rattle.stage_spec.{specs.Limits.{Limits, IsMachine, IsWithin}, proofs.Shape.{one_stage, cpu_changed-shape, tool_changed-shape, SameShape}}
use Rattle.stage_laws.specs.{Sound.{IsSound}, Standings.{briefs, standings}}
use Rattle.stage_laws.specs.Narrowing.{AreSettled, tool_touches, cpu_touches, unless_no, unless_left, changed, touches, SettleOthersLaw, NarrowLaw}
use Rattle.stage_laws.proofs.Tasks.{task_numbered, first-clear, rest-clear, task_on-other, kept-AreRunning}
use Rattle.stage_laws.proofs.{RunningTasks.{settle_all-keeps, cpu-running, tool-keeps}, Briefs.{by_briefs}}
use Rattle.stage_laws.proofs.ByStandings.{settled_by_briefs}
use Rattle.stage_laws.proofs.Others.{ReachesSame, passes-same, task-changed, both-changed, change_task, tasks-apart, settle-others}
use Rattle.stage_laws.proofs.EachSettled.{IsRoomy, briefs-of_passes, each-settled, only-some, others-reach, all-within, is-there}
use Rattle.stage_laws.proofs.Untouched.{other-number, command-reaches, close-reaches, open-reaches, period-briefs, map-briefs, output-briefs}
use Rattle.stage_laws.proofs.OpenHomes.{live-used}

pub settle_others : SettleOthersLaw
settle_others hw s cpu other sound low high apart = settle-others hw s cpu other sound.shape.contexts sound.running (λ e. apart (sym e))

-- lines of another processor
reaches-itself : (s : Stage) (cpu : CpuNo) → ReachesSame s s cpu
reaches-itself s cpu = record { running = refl; own = refl; task = λ task on. refl }

put-reaches : (s : Stage) (at cpu : CpuNo) (to : Option TaskNo) → cpu.0 ≢ at.0 → ReachesSame s (put_on at to s) cpu
put-reaches s at cpu None apart = record { running = task_on-other s at cpu None apart; own = refl; task = λ task on. refl }
put-reaches s at cpu (Some task) apart = record { running = task_on-other s at cpu (Some task) apart; own = refl; task = λ task on. refl }

switch-reaches : (s : Stage) (at cpu : CpuNo) (to : Option TaskNo) → cpu.0 ≢ at.0 → ReachesSame s (switched at to s) cpu
unfolding switched
switch-reaches s at cpu to apart = one_stage (λ t. ReachesSame s t cpu) (is_running (task_on s at) to) s (put_on at to s) (reaches-itself s cpu) (put-reaches s at cpu to apart)

turn_task-is : (hw : Hardware) (cpu : CpuNo) (js : List Judged) (to : Option TaskNo) (s : Stage) → turn_task hw cpu js to s ≡ change_task to (turn_lists hw cpu js) s
turn_task-is hw cpu js None s = refl
turn_task-is hw cpu js (Some task) s = refl

tick-reaches : (hw : Hardware) (s : Stage) (at cpu : CpuNo) → IsSound hw s → cpu.0 ≢ at.0 → passes (rotated hw at s) cpu ≡ passes s cpu
unfolding rotated
tick-reaches hw s at cpu sound apart = search (turn_task-is, passes-same, change_task, both-changed)

fork-reaches : (hw : Hardware) (s : Stage) (at cpu : CpuNo) (child : TaskNo) → IsSound hw s → fork_refusal s at child ≡ None → ReachesSame s (forked at child s) cpu
unfolding forked
fork-reaches hw s at cpu child sound free =
    let exists : Bool = was_used (status_of s child).state in
    let full : List (Reason × Bool) = (reason.CopiesFull, nat_lt 4096 (live_copies s + new_copies (task_lists s (task_on s at)))) ∷ [] in
    let fresh : exists ≡ false = first-clear reason.Exists exists full (rest-clear reason.Idle (is_idle (task_on s at)) ((reason.Exists, exists) ∷ full) free) in
    let h : ReachesSame s (change_context (context.Task child) (λ l. copied s (task_lists s (task_on s at))) s) cpu =
    task-changed child cpu (λ l. copied s (task_lists s (task_on s at))) s sound.shape.contexts (λ here on same.
    let live : is_live (status_of s child).state ≡ true = ap (λ n. is_live (status_of s (task_numbered n)).state) (sym same) ∙ sound.running.live cpu here on in
    false≢true (sym fresh ∙ live-used (status_of s child).state live)) in
    record { running = h.running; own = h.own; task = h.task }

exited_by-reaches : (hw : Hardware) (s : Stage) (at cpu : CpuNo) (to : Option TaskNo) → IsSound hw s → cpu.0 ≢ at.0 → task_on s at ≡ to → ReachesSame s (exited_by at to s) cpu
exited_by-reaches hw s at cpu None sound apart on = reaches-itself s cpu
exited_by-reaches hw s at cpu (Some task) sound apart on =
    let h : ReachesSame s (change_context (context.Task task) (without is_copy) s) cpu = search (task-changed, tasks-apart) in
    record { running = task_on-other s at cpu None apart; own = h.own; task = h.task }

exit-reaches : (hw : Hardware) (s : Stage) (at cpu : CpuNo) → IsSound hw s → cpu.0 ≢ at.0 → ReachesSame s (exited at s) cpu
unfolding exited
exit-reaches hw s at cpu sound apart = exited_by-reaches hw s at cpu (task_on s at) sound apart refl

-- a line that does not touch a processor leaves the briefs there
reach-briefs : (hw : Hardware) (s t : Stage) (cpu : CpuNo) → ReachesSame s t cpu → briefs hw t cpu ≡ briefs hw s cpu
reach-briefs hw s t cpu h = briefs-of_passes hw cpu s t (passes-same s t cpu h)

cpu-briefs : (hw : Hardware) (s : Stage) (at : CpuNo) (line : CpuLine) (cpu : CpuNo) → IsSound hw s → cpu_refusal s at line ≡ None → cpu_touches at line cpu ≡ false
    → briefs hw (cpu_changed hw at line s) cpu ≡ briefs hw s cpu
cpu-briefs hw s at (cpu_line.Switch to) cpu sound free away = reach-briefs hw s (switched at to s) cpu (switch-reaches s at cpu to (other-number at.0 cpu.0 away))
cpu-briefs hw s at (cpu_line.Work w) cpu sound free away = refl
cpu-briefs hw s at cpu_line.Tick cpu sound free away = briefs-of_passes hw cpu s (rotated hw at s) (tick-reaches hw s at cpu sound (other-number at.0 cpu.0 away))
cpu-briefs hw s at (cpu_line.Fork child) cpu sound free away = reach-briefs hw s (forked at child s) cpu (fork-reaches hw s at cpu child sound free)
cpu-briefs hw s at cpu_line.Exit cpu sound free away = reach-briefs hw s (exited at s) cpu (exit-reaches hw s at cpu sound (other-number at.0 cpu.0 away))

tool-briefs : (hw : Hardware) (s : Stage) (line : ToolLine) (cpu : CpuNo) → IsSound hw s → tool_refusal hw s line ≡ None → tool_touches s line cpu ≡ false
    → briefs hw (tool_changed line s) cpu ≡ briefs hw s cpu
tool-briefs hw s (tool_line.Open slot attr leader) cpu sound free away = reach-briefs hw s _ cpu (open-reaches hw s slot attr leader cpu sound free away)
tool-briefs hw s (tool_line.Enable event group) cpu sound free away = reach-briefs hw s _ cpu (command-reaches enabled (targets s event group) s cpu away)
tool-briefs hw s (tool_line.Disable event group) cpu sound free away = reach-briefs hw s _ cpu (command-reaches disabled (targets s event group) s cpu away)
tool-briefs hw s (tool_line.Reset event group) cpu sound free away = refl
tool-briefs hw s (tool_line.Period event period) cpu sound free away = period-briefs hw event period s cpu
tool-briefs hw s (tool_line.Read event size) cpu sound free away = refl
tool-briefs hw s (tool_line.Map event ring) cpu sound free away = map-briefs hw event ring s cpu
tool-briefs hw s (tool_line.Output event target) cpu sound free away = output-briefs hw event target s cpu
tool-briefs hw s (tool_line.Close event) cpu sound free away = reach-briefs hw s _ cpu (close-reaches event s cpu away)
tool-briefs hw s (tool_line.Why event) cpu sound free away = refl
tool-briefs hw s (tool_line.Seats cpu_no) cpu sound free away = refl

-- a step that settles a change narrows, where the change leaves what it does not touch
record IsNarrowBy (hw : Hardware) (s next left : Stage) (touched : CpuNo → Bool) : Type 0 where
  pub stage : next ≡ settle_each hw (filter touched (all_cpus s)) left
  pub settled : AreSettled hw next
  pub others : (cpu : CpuNo) → cpu.0 < length s.running → touched cpu ≡ false → standings hw next cpu ≡ standings hw s cpu

narrow-all : (hw : Hardware) (s t : Stage) (touched : CpuNo → Bool) → length s.running ≤ 8 → length t.running ≡ length s.running → IsRoomy t → AreSettled hw s
    → ((cpu : CpuNo) → cpu.0 < length s.running → touched cpu ≡ false → briefs hw t cpu ≡ briefs hw s cpu) → IsNarrowBy hw s (settle_all hw t) t touched
unfolding settle_all
narrow-all hw s t touched small size roomy settled same =
    let cpus : all_cpus t ≡ all_cpus s = ap (λ n. map (λ k. record { 0 = k }) (numbers_below n)) size in
    let narrowed : settle_all hw t ≡ settle_each hw (filter touched (all_cpus s)) t =
    ap (λ cs. settle_each hw cs t) cpus ∙ only-some hw touched (length s.running) (all_cpus s) t small roomy (all-within s)
    (λ cpu low away. settled_by_briefs hw cpu s t (omega (arith, low, small)) (same cpu low away) (settled cpu low)) in
    grind (arith, narrowed, settle_all-keeps, each-settled, is-there, by_briefs, briefs-of_passes, others-reach)

pub takes-none : (cs : List CpuNo) → filter (λ c. false) cs ≡ []
takes-none [] = refl
takes-none (c ∷ cs) = takes-none cs

narrow-still : (hw : Hardware) (s : Stage) → AreSettled hw s → IsNarrowBy hw s s s (λ cpu. false)
unfolding settle_each
narrow-still hw s settled = record { stage = ap (λ cs. settle_each hw cs s) (sym (takes-none (all_cpus s))); settled = settled; others = λ cpu low away. refl }

narrow-unless : (hw : Hardware) (s : Stage) (r : Option Reason) (change : Stage → Stage) (touched : CpuNo → Bool) → AreSettled hw s
    → (r ≡ None → IsNarrowBy hw s (settle_all hw (change s)) (change s) touched)
    → IsNarrowBy hw s (unless_refused hw r change s) (unless_left r change s) (λ cpu. unless_no r (touched cpu))
narrow-unless hw s (Some r) change touched settled h = narrow-still hw s settled
narrow-unless hw s None change touched settled h = h refl

narrow-step : (l : Limits) (hw : Hardware) (s : Stage) (x : Step) → IsMachine l hw → IsWithin l x → IsSound hw s → AreSettled hw s
    → IsNarrowBy hw s (stage_step hw s x) (changed hw s x) (touches hw s x)
unfolding stage_step
narrow-step l hw s (CpuStep at line) machine within sound settled =
    let small : length s.running ≤ 8 = omega (arith, sound.shape.running, machine.sound.cpus.1) in
    let low : at.0 < length s.running = omega (arith, within.0, sound.shape.running, machine.cpus) in
    let shape : SameShape s (cpu_changed hw at line s) = cpu_changed-shape hw at line s in
    narrow-unless hw s (cpu_refusal s at line) (cpu_changed hw at line) (cpu_touches at line) settled
    (λ free. narrow-all hw s (cpu_changed hw at line s) (cpu_touches at line) small shape.running
    (record { size = shape.contexts ∙ sound.shape.contexts; running = cpu-running hw s at line low sound.running free }) settled
    (λ cpu there away. cpu-briefs hw s at line cpu sound free away))
narrow-step l hw s (ToolStep line) machine within sound settled =
    let small : length s.running ≤ 8 = omega (arith, sound.shape.running, machine.sound.cpus.1) in
    let shape : SameShape s (tool_changed line s) = tool_changed-shape line s in
    narrow-unless hw s (tool_refusal hw s line) (tool_changed line) (tool_touches s line) settled
    (λ free. narrow-all hw s (tool_changed line s) (tool_touches s line) small shape.running
    (record { size = shape.contexts ∙ sound.shape.contexts; running = kept-AreRunning s (tool_changed line s) (tool-keeps line s) sound.running }) settled
    (λ cpu there away. tool-briefs hw s line cpu sound free away))
narrow-step l hw s (SeenStep ring place) machine within sound settled = narrow-still hw s settled

pub narrows : NarrowLaw
narrows l hw s x machine within sound settled =
    let h : IsNarrowBy hw s (stage_step hw s x) (changed hw s x) (touches hw s x) = narrow-step l hw s x machine within sound settled in
    record { stage = h.stage; settled = h.settled; others = h.others }
