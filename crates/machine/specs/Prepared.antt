-- inner
-- What a processor's worker plans from before its next line: the brief that the line's own change leads to. This
-- project's own profile.
use Rattle.std.specs.Prelude.{◌≡◌, ℕ, ◌<◌, true, false, length, List, map, option_map, Option, None, slice_get, slice_index_or}
use Rattle.perf_base.specs.{Scripts.{Scripted, lines_of_cpu}, declared.{lines.CpuLine.{CpuLine}, numbers.{CpuNo.{CpuNo}, Key.{Key}}}}
use Rattle.stage_spec.specs.History.{CpuStep}
use Rattle.stage_laws.specs.{Briefs.{GroupBrief}, Narrowing.{changed, touches}, Standings.{briefs}}
use Rattle.world_spec.specs.{Kept.{IsKept}, StageOf.{stage_of}, Value.{World, instance_at}}
use Rattle.cpu_sched.specs.{After.{after_brief}, Briefs.{ProcessorBrief}, Sheets.{Held}}
use Rattle.machine.specs.{Leading.{Kept}, Stepped.{IsReady}}

-- none where the processor has no line left
abbrev pub next_brief : Scripted → Kept → CpuNo → Option ProcessorBrief
next_brief s m cpu = option_map (after_brief m.world cpu) (slice_get (lines_of_cpu s cpu) (slice_index_or m.cpus cpu.0 0))

-- a sheet that holds it, not planned, or is blank
abbrev pub prepared : Scripted → Kept → CpuNo → Held
prepared s m cpu = record { brief = next_brief s m cpu; planned = false; seats = None }

-- the groups of a brief, their leaders named by ids as on the stage
abbrev pub by_ids : World → List (List (GroupBrief Key)) → List (List (GroupBrief ℕ))
by_ids w passes = map (map (λ g. record {
  leader = (instance_at w g.leader).id;
  slot = g.slot;
  software = g.software;
  exclusive = g.exclusive;
  counted = g.counted;
})) passes

-- What a line that reschedules its processor is planned from is the brief of the stage that the line's own change leads
-- to, before anything is settled.
abbrev pub PreparedLaw : Type 0
PreparedLaw = (w : World) (cpu : CpuNo) (line : CpuLine) → IsKept w.hardware w → IsReady w → cpu.0 < length w.quiet.running
    → touches w.hardware (stage_of w) (CpuStep cpu line) cpu ≡ true
    → by_ids w (after_brief w cpu line).passes ≡ briefs w.hardware (changed w.hardware (stage_of w) (CpuStep cpu line)) cpu
