-- Where given lines, or acts of a script, lead to a machine, its world has room for one line more.
use Rattle.std.specs.Prelude.{◌≡◌, ◌+◌, ◌*◌, ◌^◌, ◌<◌, ◌≤◌, true, List, [], ◌∷◌, count_by, sum_by, slice_index_or}
use Rattle.std.proofs.{Common.{arith, sym, ap, subst, ◌∙◌}, Math.Path.{fun_ext}, lemmas.List.Sums.{sum_by-cons}}
use Rattle.perf_base.specs.declared.{acts.Act.{Act}, lines.{CpuLine.{CpuLine}, ToolLine.{ToolLine}}, numbers.{CpuNo.{CpuNo}, EventNo.{EventNo}}}
use Rattle.perf_base.specs.{declared.numbers.Key.{Key}, Scripts.{Scripted, IsCovered, IsScript}}
use Rattle.perf_base.specs.declared.lines.CpuLine.TheVariants as cpu_line
use Rattle.perf_base.specs.declared.lines.ToolLine.TheVariants as tool_line
use Rattle.stage_spec.specs.{Families.{family_sums as family_over}, Hardware.{Hardware, hardware_of}}
use Rattle.stage_spec.specs.{History.{Step, CpuStep, ToolStep, SeenStep, history, opening_stage, stage_after}, Limits.{limits_of}, Stage.{is_open}}
use Rattle.stage_spec.proofs.Machines.{script_machine}
use Rattle.stage_laws.{specs.Bounds.{most_drawn, most_drawn_by, most_opened_by, is_line, AreSmall}, proofs.BoundsWhole.{family_small, few_ids}}
use Rattle.ring_spec.{specs.Running.{IsRecordOf, family_by}, proofs.Running.{record_law}}
use Rattle.ring_laws.proofs.{Clocks.{clock_small}, Reached.{count-one}}
use Rattle.world_spec.specs.{Agreement.{AgreesWith}, Kept.{IsKept, family_sums}, StageOf.{stage_of}, Value.{World, is_live, instance_at, totals_at}}
use Rattle.world_spec.proofs.{Agreement.{family-agrees}, Families.{open-is}, Staying.{origin-is}}
use Rattle.machine.specs.{Given.{IsLedBy, is_line_of, record_by}, Leading.{IsWhole, Kept, LeadTo}, Room.{HasRoom}, Totals.{AreUpTo}}
use Rattle.machine.proofs.{Led.{led-by-acts}, Totals.{further}}
use Rattle.ring_laws.proofs.Losses.{if_some}

-- what an event has counted by the record of steps is what the definitions over them say
family-is : (s : Scripted) (steps : List Step) (e : EventNo) → family_by (record_by s steps) e ≡ family_over (hardware_of s) (opening_stage s) steps e
unfolding family_over
family-is s steps e = grind (arith, record_law, fun_ext)

-- The slot of an event that is there is open.
pub slot-open : (hw : Hardware) (w : World) (k : Key) → IsKept hw w → is_live w k ≡ true → is_open (stage_of w) (instance_at w k).event ≡ true
slot-open hw w k h live = grind (arith, origin-is, open-is)

-- what a world has of an open event is what the definitions over the history say, and its stage is the one after it
family-by : (s : Scripted) (steps : List Step) (w : World) (e : EventNo) → AgreesWith w (record_by s steps) → IsKept w.hardware w → is_open (stage_of w) e ≡ true
    → family_sums w e.0 ≡ family_over (hardware_of s) (opening_stage s) steps e
family-by s steps w e agrees kept there = sym (family-agrees w.hardware w (record_by s steps) e kept agrees there) ∙ family-is s steps e

pub family-then : (s : Scripted) (acts : List Act) (m : Kept) (e : EventNo) → LeadTo s acts m → IsKept m.world.hardware m.world → is_open (stage_of m.world) e ≡ true
    → family_sums m.world e.0 ≡ family_over (hardware_of s) (opening_stage s) (history s acts) e
family-then s acts m e led kept there = family-by s (history s acts) m.world e led.agrees kept there

pub stage-by : (s : Scripted) (steps : List Step) (w : World) → AgreesWith w (record_by s steps) → stage_of w ≡ stage_after (hardware_of s) (opening_stage s) steps
stage-by s steps w agrees = sym agrees.stage ∙ (record_law (hardware_of s) (opening_stage s) s.rings steps).stage

pub stage-then : (s : Scripted) (acts : List Act) (m : Kept) → LeadTo s acts m → stage_of m.world ≡ stage_after (hardware_of s) (opening_stage s) (history s acts)
stage-then s acts m led = stage-by s (history s acts) m.world led.agrees

small-sums : (s : Scripted) (steps : List Step) (m : Kept) (k : Key) → IsScript s → IsCovered s → IsLedBy s steps m → IsKept m.world.hardware m.world → is_live m.world k ≡ true
    → AreSmall (family_sums m.world (instance_at m.world k).event.0)
small-sums s steps m k h covered led kept live =
    let e : EventNo = (instance_at m.world k).event in
    subst AreSmall (sym (family-by s steps m.world e led.agrees kept (slot-open m.world.hardware m.world k kept live)))
    (family_small (limits_of s) (hardware_of s) s.tasks steps e (script_machine s h covered) h.tasks led.within led.few)

-- clocks
small-clock : (s : Scripted) (steps : List Step) (m : Kept) (cpu : CpuNo) → IsLedBy s steps m → slice_index_or m.world.quiet.clocks cpu.0 0 < 2 ^ 44
small-clock s steps m cpu led =
    let is : IsRecordOf (hardware_of s) (opening_stage s) s.rings steps (record_by s steps) = record_law (hardware_of s) (opening_stage s) s.rings steps in
    omega (arith, led.agrees.clock cpu, is.clock cpu, clock_small (limits_of s) steps cpu led.within led.few)

-- ids: each line draws at most 4,096
cpu-draws : (line : CpuLine) → most_drawn_by line ≤ 4096
cpu-draws (cpu_line.Switch to) = omega arith
cpu-draws (cpu_line.Work w) = omega arith
cpu-draws cpu_line.Tick = omega arith
cpu-draws (cpu_line.Fork child) = omega arith
cpu-draws cpu_line.Exit = omega arith

tool-draws : (line : ToolLine) → most_opened_by line ≤ 4096
tool-draws (tool_line.Open slot attr leader) = omega arith
tool-draws (tool_line.Enable event group) = omega arith
tool-draws (tool_line.Disable event group) = omega arith
tool-draws (tool_line.Reset event group) = omega arith
tool-draws (tool_line.Period event period) = omega arith
tool-draws (tool_line.Read event size) = omega arith
tool-draws (tool_line.Map event ring) = omega arith
tool-draws (tool_line.Output event target) = omega arith
tool-draws (tool_line.Close event) = omega arith
tool-draws (tool_line.Why event) = omega arith
tool-draws (tool_line.Seats cpu) = omega arith

few-drawn : (steps : List Step) → sum_by most_drawn steps ≤ 4096 * count_by is_line steps
few-drawn [] = omega arith
few-drawn (CpuStep cpu line ∷ steps) = omega (arith, few-drawn steps, cpu-draws line, sum_by-cons most_drawn (CpuStep cpu line) steps, count-one is_line (CpuStep cpu line) steps)
few-drawn (ToolStep line ∷ steps) = omega (arith, few-drawn steps, tool-draws line, sum_by-cons most_drawn (ToolStep line) steps, count-one is_line (ToolStep line) steps)
few-drawn (SeenStep ring place ∷ steps) = omega (arith, few-drawn steps, sum_by-cons most_drawn (SeenStep ring place) steps, count-one is_line (SeenStep ring place) steps)

small-ids : (s : Scripted) (steps : List Step) (m : Kept) → IsScript s → IsCovered s → IsLedBy s steps m → m.world.quiet.next_id ≤ 1 + 4096 * 16384
small-ids s steps m h covered led =
    let stage : stage_of m.world ≡ stage_after (hardware_of s) (opening_stage s) steps = stage-by s steps m.world led.agrees in
    let few = few_ids (limits_of s) (hardware_of s) s.tasks steps (script_machine s h covered) h.tasks led.within in
    omega (arith, ap (λ st. st.next_id) stage, few, few-drawn steps, led.few)

-- totals: each processor did few lines
pub lines-of-one : (cpu : CpuNo) (steps : List Step) → count_by (is_line_of cpu) steps ≤ count_by is_line steps
lines-of-one cpu [] = omega arith
lines-of-one cpu (CpuStep other line ∷ steps) = omega (arith, if_some, count-one, lines-of-one cpu steps)
lines-of-one cpu (ToolStep line ∷ steps) = omega (arith, lines-of-one cpu steps, count-one (is_line_of cpu) (ToolStep line) steps, count-one is_line (ToolStep line) steps)
lines-of-one cpu (SeenStep ring place ∷ steps) = grind (arith, count-one, lines-of-one cpu steps)

small-totals : (s : Scripted) (steps : List Step) (m : Kept) (cpu : CpuNo) → IsLedBy s steps m → AreUpTo (slice_index_or m.cpus cpu.0 0 * 1000000000) (totals_at m.world cpu)
    → AreUpTo (2 ^ 62) (totals_at m.world cpu)
small-totals s steps m cpu led up = omega (arith, lines-of-one, further)

pub room-by : (s : Scripted) (steps : List Step) (m : Kept) → IsScript s → IsCovered s → IsLedBy s steps m → IsKept m.world.hardware m.world → IsWhole m → HasRoom m.world
room-by s steps m h covered led kept whole = record {
  sums = record {
    counts = λ k live. omega (arith, (small-sums s steps m k h covered led kept live).count);
    times = λ k live. omega (arith, (small-sums s steps m k h covered led kept live).enabled);
  };
  clocks = λ cpu. omega (arith, small-clock s steps m cpu led);
  totals = λ cpu. small-totals s steps m cpu led (whole.totals cpu);
  ids = omega (arith, small-ids s steps m h covered led);
}

pub has-room : (s : Scripted) (acts : List Act) (m : Kept) → IsScript s → IsCovered s → LeadTo s acts m → IsKept m.world.hardware m.world → IsWhole m → HasRoom m.world
has-room s acts m h covered led kept whole = room-by s (history s acts) m h covered (led-by-acts s acts m h led) kept whole
