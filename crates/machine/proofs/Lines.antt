-- A line of a script, and the room that it has.
use Rattle.std.specs.Prelude.{◌≡◌, ℕ, ◌+◌, ◌-◌, ◌<◌, ◌≤◌, max, List, [], drop, length, Some, slice_get, slice_index_or}
use Rattle.std.proofs.{Common.{arith, sym, ap, subst, ◌∙◌, get_or, inl, inr}, lemmas.{Bool.{cases_lt}, List.{get_or_past, get_or-drop, length-drop}}}
use Rattle.std.proofs.lemmas.{Option.{slice_get-get_or}}
use Rattle.perf_base.specs.declared.{acts.Act.{Act}, lines.{CpuLine.{CpuLine}, ToolLine.{ToolLine}, Work.{Work}}, numbers.CpuNo.{CpuNo}}
use Rattle.perf_base.specs.declared.numbers.ToolNo.{ToolNo}
use Rattle.perf_base.specs.Scripts.{Scripted, IsCovered, IsScript, IsCpuLine, IsToolLine, lines_of_cpu, lines_of_tool}
use Rattle.perf_base.specs.declared.acts.Actor.TheVariants as actor
use Rattle.perf_base.specs.declared.lines.CpuLine.TheVariants as line
use Rattle.stage_spec.{specs.Hardware.{hardware_of}, proofs.Machines.{script_machine}}
use Rattle.stage_laws.specs.Bounds.{greatest, most_of_line}
use Rattle.world_spec.specs.{Shares.{HaveRoom}, Value.{World}}
use Rattle.machine.specs.{Stepped.{IsReady}, Leading.{Kept, HasLine, LeadTo}, Room.{HasRoom, IsLineFor}}
use Rattle.stage_laws.proofs.BoundsWhole.{greatest-least}

-- what no processor and no tool has
pub no-cpu : (s : Scripted) (m : Kept) (cpu : CpuNo) → IsScript s → 8 ≤ cpu.0 → HasLine s m (actor.Processor cpu) → ⊥
no-cpu s m cpu h past has = grind (arith, get_or_past)

pub no-tool : (s : Scripted) (m : Kept) (tool : ToolNo) → IsScript s → 4 ≤ tool.0 → HasLine s m (actor.Tool tool) → ⊥
no-tool s m tool h past has = grind (arith, get_or_past)

pub cpu-low : (s : Scripted) (m : Kept) (cpu : CpuNo) → IsScript s → HasLine s m (actor.Processor cpu) → cpu.0 < 8
cpu-low s m cpu h has = grind (arith, cases_lt, no-cpu)

pub tool-low : (s : Scripted) (m : Kept) (tool : ToolNo) → IsScript s → HasLine s m (actor.Tool tool) → tool.0 < 4
tool-low s m tool h has = grind (arith, cases_lt, no-tool)

-- a processor that has lines is one of the machine's
busy-low : (s : Scripted) (cpu : CpuNo) → IsScript s → 0 < length (lines_of_cpu s cpu) → cpu.0 < s.cpus
busy-low s cpu h some = elim (cases_lt cpu.0 s.cpus) [
  | inl low ↦ low
  | inr past ↦ elim (cases_lt cpu.0 (length s.cpu_lines)) [
    | inl within ↦
        let here : get_or (drop s.cpus s.cpu_lines) (cpu.0 - s.cpus) [] ≡ [] = h.idle (cpu.0 - s.cpus) [] (omega (arith, length-drop s.cpus s.cpu_lines, within, past)) in
        let place : s.cpus + (cpu.0 - s.cpus) ≡ cpu.0 = omega (arith, past) in
        let none : lines_of_cpu s cpu ≡ [] = ap (λ i. get_or s.cpu_lines i []) (sym place) ∙ (sym (get_or-drop s.cpus s.cpu_lines (cpu.0 - s.cpus) []) ∙ here) in
        absurd (omega (arith, some, ap length none))
    | inr outside ↦ absurd (omega (arith, some, ap length (get_or_past s.cpu_lines cpu.0 [] outside)))
  ]
]

-- the machine has as many processors and kinds as the script
pub as-many-cpus : (s : Scripted) (w : World) → IsScript s → IsCovered s → IsReady w → w.hardware ≡ hardware_of s → length w.quiet.running ≡ s.cpus
as-many-cpus s w h covered ready is = sym ready.machine.cpus ∙ (ap (λ hw. length hw.cpu_pmus) is ∙ (script_machine s h covered).cpus)

pub as-many-kinds : (s : Scripted) (w : World) → IsScript s → IsCovered s → w.hardware ≡ hardware_of s → length w.hardware.kind_pmus ≡ length s.kinds
as-many-kinds s w h covered is = ap (λ hw. length hw.kind_pmus) is ∙ (script_machine s h covered).kinds.0

pub machine-cpus : (s : Scripted) (acts : List Act) (m : Kept) → IsScript s → IsCovered s → IsReady m.world → LeadTo s acts m → length m.world.quiet.running ≡ s.cpus
machine-cpus s acts m h covered ready led = as-many-cpus s m.world h covered ready led.hardware

pub machine-kinds : (s : Scripted) (acts : List Act) (m : Kept) → IsScript s → IsCovered s → LeadTo s acts m → length m.world.hardware.kind_pmus ≡ length s.kinds
machine-kinds s acts m h covered led = as-many-kinds s m.world h covered led.hardware

pub cpu-there : (s : Scripted) (acts : List Act) (m : Kept) (cpu : CpuNo) → IsScript s → IsCovered s → IsReady m.world → LeadTo s acts m → HasLine s m (actor.Processor cpu)
    → cpu.0 < length m.world.quiet.running
cpu-there s acts m cpu h covered ready led has = omega (arith, machine-cpus s acts m h covered ready led, busy-low s cpu h (omega (arith, has)))

-- a line of a script by its place among an actor's
pub line-is : {X : Type 0} (lines own : List X) (n : ℕ) (d : X) → lines ≡ own → n < length own → slice_get own n ≡ Some (slice_index_or lines n d)
line-is lines own n d e low = slice_get-get_or own n d low ∙ ap (λ ls. Some (get_or ls n d)) (sym e)

pub cpu-line-within : (s : Scripted) (acts : List Act) (m : Kept) (cpu : CpuNo) (lines : List CpuLine) (d : CpuLine) → IsScript s → IsCovered s → LeadTo s acts m
    → HasLine s m (actor.Processor cpu) → lines ≡ lines_of_cpu s cpu
    → IsCpuLine (length m.world.hardware.kind_pmus) (slice_index_or lines (slice_index_or m.cpus cpu.0 0) d)
cpu-line-within s acts m cpu lines d h covered led has e = grind (arith, get_or, cpu-low, machine-kinds)

pub tool-line-within : (s : Scripted) (acts : List Act) (m : Kept) (tool : ToolNo) (lines : List ToolLine) (d : ToolLine) → IsScript s → IsCovered s → IsReady m.world → LeadTo s acts m
    → HasLine s m (actor.Tool tool) → lines ≡ lines_of_tool s tool → IsLineFor m.world (slice_index_or lines (slice_index_or m.tools tool.0 0) d)
tool-line-within s acts m tool lines d h covered ready led has e =
    let at : ToolLine = get_or (lines_of_tool s tool) (slice_index_or m.tools tool.0 0) d in
    let here : IsToolLine s.cpus (length s.kinds) s.rings at = grind (arith, tool-low) in
    let kinds : IsToolLine s.cpus (length m.world.hardware.kind_pmus) s.rings at = subst (λ n. IsToolLine s.cpus n s.rings at) (sym (machine-kinds s acts m h covered led)) here in
    subst (λ ls. IsLineFor m.world (get_or ls (slice_index_or m.tools tool.0 0) d)) (sym e)
    (s.rings, subst (λ n. IsToolLine n (length m.world.hardware.kind_pmus) s.rings at) (sym (machine-cpus s acts m h covered ready led)) kinds)

-- a stretch of work has room
pub work-room : (w : World) (kinds : ℕ) (work : Work) → HasRoom w → IsCpuLine kinds (line.Work work) → HaveRoom w (most_of_line (line.Work work))
work-room w kinds work room h =
    let hits : greatest work.hits ≤ 1000000000 = greatest-least 1000000000 0 work.hits (omega arith) h.hits in
    let most : max work.length (greatest work.hits) ≤ 1000000000 = omega (arith, hits, h.length) in
    grind (arith, most)
