-- The tests of an actor's next line, by the script.
use Rattle.std.{specs.Prelude.{◌≡◌, ℕ, option_map, Option, Some, slice_get, slice_index_or}, proofs.Common.{sym, ap, subst, ◌∙◌}}
use Rattle.std.proofs.lemmas.Option.{same_Some}
use Rattle.perf_base.specs.{Scripts.{Scripted, lines_of_cpu, lines_of_tool}, declared.{acts.Actor.{Actor}, lines.CpuLine.{CpuLine}}}
use Rattle.perf_base.specs.declared.{lines.ToolLine.{ToolLine}, numbers.{CpuNo.{CpuNo}, ToolNo.{ToolNo}}}
use Rattle.perf_base.specs.declared.acts.Actor.TheVariants as actor
use Rattle.stage_spec.specs.History.{Step, CpuStep, ToolStep}
use Rattle.world_spec.specs.Value.{World}
use Rattle.cpu_sched.specs.Sheets.{Held}
use Rattle.machine.{specs.{Counted.{IsCounted, IsCountedBy}, Leading.{Kept, next_step}, Stepped.{StaysIfIdle}}, proofs.Counting.{tool-counted}}

-- the step that is done is the next one
next-counted : (sheet : Option Held) (s : Scripted) (m self : Kept) (who own : Actor) (done : Step) (after : World) (t u : ℕ) → m ≡ self → who ≡ own → next_step s m own ≡ Some done
    → IsCountedBy sheet done m.world after t u → (x : Step) → next_step s self who ≡ Some x → IsCountedBy sheet x self.world after t u
next-counted sheet s m self who own done after t u same is next h x told =
    let step : next_step s self who ≡ Some done = ap (next_step s self) is ∙ (ap (λ (k : Kept). next_step s k own) (sym same) ∙ next) in
    let one : done ≡ x = same_Some done x (sym step ∙ told) in
    subst (λ (k : Kept). IsCountedBy sheet x k.world after t u) same (subst (λ y. IsCountedBy sheet y m.world after t u) one h)

pub next-cpu_counted : (sheet : Option Held) (s : Scripted) (m self : Kept) (who : Actor) (cpu : CpuNo) (l : CpuLine) (after : World) (t u : ℕ) → m ≡ self → who ≡ actor.Processor cpu
    → slice_get (lines_of_cpu s cpu) (slice_index_or m.cpus cpu.0 0) ≡ Some l → IsCountedBy sheet (CpuStep cpu l) m.world after t u
    → (x : Step) → next_step s self who ≡ Some x → IsCountedBy sheet x self.world after t u
next-cpu_counted sheet s m self who cpu l after t u same is line =
    next-counted sheet s m self who (actor.Processor cpu) (CpuStep cpu l) after t u same is (ap (option_map (CpuStep cpu)) line)

pub next-tool_counted : (sheet : Option Held) (s : Scripted) (m self : Kept) (who : Actor) (tool : ToolNo) (l : ToolLine) (after : World) (t u : ℕ) → m ≡ self → who ≡ actor.Tool tool
    → slice_get (lines_of_tool s tool) (slice_index_or m.tools tool.0 0) ≡ Some l → IsCounted (ToolStep l) m.world after t u
    → (x : Step) → next_step s self who ≡ Some x → IsCountedBy sheet x self.world after t u
next-tool_counted sheet s m self who tool l after t u same is line h =
    next-counted sheet s m self who (actor.Tool tool) (ToolStep l) after t u same is (ap (option_map ToolStep) line) (tool-counted sheet m.world after l t u h)

-- so it is with the world that a line leaves
next-idle : (s : Scripted) (m self : Kept) (who own : Actor) (done : Step) (after : World) → m ≡ self → who ≡ own → next_step s m own ≡ Some done
    → StaysIfIdle done m.world after → (x : Step) → next_step s self who ≡ Some x → StaysIfIdle x self.world after
next-idle s m self who own done after same is next h x told =
    let step : next_step s self who ≡ Some done = ap (next_step s self) is ∙ (ap (λ (k : Kept). next_step s k own) (sym same) ∙ next) in
    let one : done ≡ x = same_Some done x (sym step ∙ told) in
    subst (λ (k : Kept). StaysIfIdle x k.world after) same (subst (λ y. StaysIfIdle y m.world after) one h)

pub next-cpu_idle : (s : Scripted) (m self : Kept) (who : Actor) (cpu : CpuNo) (l : CpuLine) (after : World) → m ≡ self → who ≡ actor.Processor cpu
    → slice_get (lines_of_cpu s cpu) (slice_index_or m.cpus cpu.0 0) ≡ Some l → StaysIfIdle (CpuStep cpu l) m.world after
    → (x : Step) → next_step s self who ≡ Some x → StaysIfIdle x self.world after
next-cpu_idle s m self who cpu l after same is line = next-idle s m self who (actor.Processor cpu) (CpuStep cpu l) after same is (ap (option_map (CpuStep cpu)) line)

pub next-tool_idle : (s : Scripted) (m self : Kept) (who : Actor) (tool : ToolNo) (l : ToolLine) (after : World) → m ≡ self → who ≡ actor.Tool tool
    → slice_get (lines_of_tool s tool) (slice_index_or m.tools tool.0 0) ≡ Some l → StaysIfIdle (ToolStep l) m.world after
    → (x : Step) → next_step s self who ≡ Some x → StaysIfIdle x self.world after
next-tool_idle s m self who tool l after same is line = next-idle s m self who (actor.Tool tool) (ToolStep l) after same is (ap (option_map ToolStep) line)
