-- The rings that were mapped are rings of the script.
use Rattle.std.{specs.Prelude.{◌≡◌, ℕ, All, List, [], ◌∷◌, Option, Some, None}, proofs.Common.{refl, sym, subst}}
use Rattle.std.proofs.lemmas.List.Elements.{All-head, All-nil, All-push, All-tail}
use Rattle.perf_base.specs.declared.{acts.Act.{Act}, lines.{CpuLine.{CpuLine}, ToolLine.{ToolLine}}, numbers.CpuNo.{CpuNo}}
use Rattle.perf_base.specs.declared.{numbers.{RingNo.{RingNo}, TaskNo.{TaskNo}}, reasons.Reason.{Reason}}
use Rattle.perf_base.specs.Scripts.{Scripted, HasRing, IsScript, IsToolLine}
use Rattle.perf_base.specs.declared.lines.CpuLine.TheVariants as cpu_line
use Rattle.perf_base.specs.declared.lines.ToolLine.TheVariants as tool_line
use Rattle.stage_spec.specs.{Closing.{closed}, Commands.{command_each, with_period}, Forks.{forked}}
use Rattle.stage_spec.specs.Hardware.{Hardware, hardware_of}
use Rattle.stage_spec.specs.History.{Step, CpuStep, ToolStep, SeenStep, cpu_changed, cpu_refusal, history, opening_stage, stage_after, stage_step, tool_changed, tool_refusal, unless_refused}
use Rattle.stage_spec.specs.{Limits.{Limits, limits_of}, Mapping.{mapped_to, output_to}}
use Rattle.stage_spec.{specs.Stage.{Stage, first_stage}, proofs.Shape.{exited-numbers, rotated-numbers, settle_all-numbers, switched-numbers}}
use Rattle.stage_laws.specs.Bounds.{IsLineWithin}
use Rattle.ring_laws.proofs.Orders.{within}
use Rattle.stage_laws.proofs.Mapped.{opened-mapped}

abbrev AreDeclared : List (RingNo × ℕ) → Stage → Type 0
AreDeclared rings s = All (HasRing rings) s.mapped

-- no line of a processor maps a ring
cpu-maps : (hw : Hardware) (cpu : CpuNo) (line : CpuLine) (s : Stage) → (cpu_changed hw cpu line s).mapped ≡ s.mapped
unfolding forked
cpu-maps hw cpu (cpu_line.Switch to) s = (switched-numbers cpu to s).mapped
cpu-maps hw cpu (cpu_line.Work work) s = refl
cpu-maps hw cpu cpu_line.Tick s = (rotated-numbers hw cpu s).mapped
cpu-maps hw cpu (cpu_line.Fork child) s = refl
cpu-maps hw cpu cpu_line.Exit s = (exited-numbers cpu s).mapped

-- a line of a tool maps a ring that is declared, or none
tool-maps : (l : Limits) (line : ToolLine) (s : Stage) → IsToolLine l.cpus l.kinds l.rings line → AreDeclared l.rings s → AreDeclared l.rings (tool_changed line s)
unfolding command_each with_period mapped_to output_to closed
tool-maps l (tool_line.Open slot attr leader) s within h = subst (All (HasRing l.rings)) (sym (opened-mapped s slot attr leader)) h
tool-maps l (tool_line.Enable event group) s within h = h
tool-maps l (tool_line.Disable event group) s within h = h
tool-maps l (tool_line.Reset event group) s within h = h
tool-maps l (tool_line.Period event period) s within h = h
tool-maps l (tool_line.Read event size) s within h = h
tool-maps l (tool_line.Map event ring) s within h = All-push (HasRing l.rings) s.mapped ring h within.1
tool-maps l (tool_line.Output event target) s within h = h
tool-maps l (tool_line.Close event) s within h = h
tool-maps l (tool_line.Why event) s within h = h
tool-maps l (tool_line.Seats cpu) s within h = h

-- so does each step
either-maps : (rings : List (RingNo × ℕ)) (hw : Hardware) (r : Option Reason) (change : Stage → Stage) (s : Stage) → AreDeclared rings s → AreDeclared rings (change s)
    → AreDeclared rings (unless_refused hw r change s)
either-maps rings hw (Some r) change s h k = h
either-maps rings hw None change s h k = subst (All (HasRing rings)) (sym (settle_all-numbers hw (change s)).mapped) k

step-maps : (l : Limits) (hw : Hardware) (s : Stage) (x : Step) → IsLineWithin l x → AreDeclared l.rings s → AreDeclared l.rings (stage_step hw s x)
unfolding stage_step
step-maps l hw s (CpuStep cpu line) within h =
    either-maps l.rings hw (cpu_refusal s cpu line) (cpu_changed hw cpu line) s h (subst (All (HasRing l.rings)) (sym (cpu-maps hw cpu line s)) h)
step-maps l hw s (ToolStep line) within h = either-maps l.rings hw (tool_refusal hw s line) (tool_changed line) s h (tool-maps l line s within h)
step-maps l hw s (SeenStep ring place) within h = h

steps-map : (l : Limits) (hw : Hardware) (s : Stage) (steps : List Step) → All (IsLineWithin l) steps → AreDeclared l.rings s → AreDeclared l.rings (stage_after hw s steps)
unfolding stage_after
steps-map l hw s [] within h = h
steps-map l hw s (x ∷ steps) within h =
    steps-map l hw (stage_step hw s x) steps (All-tail (IsLineWithin l) x steps within) (step-maps l hw s x (All-head (IsLineWithin l) x steps within) h)

none-mapped : (rings : List (RingNo × ℕ)) (cpus : ℕ) (tasks : List TaskNo) → AreDeclared rings (first_stage cpus tasks)
unfolding first_stage
none-mapped rings cpus tasks = All-nil (HasRing rings)

pub mapped-by : (s : Scripted) (steps : List Step) → All (IsLineWithin (limits_of s)) steps → All (HasRing s.rings) (stage_after (hardware_of s) (opening_stage s) steps).mapped
mapped-by s steps within = steps-map (limits_of s) (hardware_of s) (opening_stage s) steps within (none-mapped s.rings s.cpus s.tasks)

pub mapped-declared : (s : Scripted) (acts : List Act) → IsScript s → All (HasRing s.rings) (stage_after (hardware_of s) (opening_stage s) (history s acts)).mapped
mapped-declared s acts h = mapped-by s (history s acts) (within s [] acts h)
