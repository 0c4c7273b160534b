-- There is space for the records of a line of work.
use Rattle.std.{specs.Prelude.{◌≡◌, ◌≤◌, List, Some, slice_get, slice_index_or}, proofs.Common.{ap, ◌∙◌}}
use Rattle.perf_base.specs.declared.{acts.Act.{Act}, lines.{CpuLine.{CpuLine}, Work.{Work}}, numbers.CpuNo.{CpuNo}}
use Rattle.perf_base.specs.{Scripts.{Scripted, IsCovered, IsScript, lines_of_cpu}, Weight.{weight}}
use Rattle.perf_base.specs.declared.lines.CpuLine.TheVariants as line
use Rattle.world_spec.specs.Kept.{IsKept}
use Rattle.work_account.specs.Sampling.{HaveSpaceToSend, ends_of}
use Rattle.machine.{specs.{Left.{IsLeft}, Leading.{Kept, LeadTo}}, proofs.{Space.{space}, Stepped.{next-cpu}}}

-- what acts leave, by a machine that they lead to
pub is-left : (s : Scripted) (acts : List Act) (m : Kept) → LeadTo s acts m → IsLeft s acts m.world m.outs
is-left s acts m led = record { hardware = led.hardware; agrees = led.agrees; ends = led.ends }

pub work-space : (s : Scripted) (acts : List Act) (m : Kept) (cpu : CpuNo) (l : CpuLine) (work : Work) → IsScript s → IsCovered s → weight s ≤ 65536 → IsKept m.world.hardware m.world
    → LeadTo s acts m → slice_get (lines_of_cpu s cpu) (slice_index_or m.cpus cpu.0 0) ≡ Some l → l ≡ line.Work work → HaveSpaceToSend m.world (ends_of m.outs m.world) cpu work
work-space s acts m cpu l work h covered light kept led at is =
    space s acts m.world m.outs cpu work h covered light kept (is-left s acts m led) (next-cpu s m acts cpu (line.Work work) led (at ∙ ap (λ x. Some x) is))
