-- Scripts and their printed texts, worked out by hand.
use Rattle.std.{specs.Prelude.{◌≡◌, ℕ, true, [], ◌∷◌, ◌++◌, Some, None, codes}, specs.Fmt.{digits}, proofs.Common.{refl}}
use Rattle.perf_base.specs.{Scripts.{Scripted, empty_script}, declared.lines.{CpuLine.{CpuLine}, ToolLine.{ToolLine}}}
use Rattle.perf_base.specs.declared.attr.Kind.TheVariants as kind
use Rattle.perf_base.specs.declared.attr.TaskSel.TheVariants as tasks
use Rattle.perf_base.specs.declared.attr.CpuSel.TheVariants as cpus
use Rattle.perf_base.specs.declared.lines.Mode.TheVariants as mode
use Rattle.perf_base.specs.declared.lines.CpuLine.TheVariants as cpu_line
use Rattle.perf_base.specs.declared.lines.ToolLine.TheVariants as tool_line
use Rattle.script_spec.specs.Printing.{printed, printed_forms}
use Rattle.worked_theorems.proofs.answers.Words.{cpu, task, slot, ring, by_cpu, seen, pmu, kind_line, attr, work, reader, eight, four}

-- One PMU on all processors and nothing else is printed in version one.
pub smallest_script : printed (record (empty_script 1) { pmus = pmu 1 1 ∷ [] }) ≡ codes "perf 1\nmachine cpus=1 counters=1\nend\n"
unfolding digits printed printed_forms
smallest_script = refl

-- Two PMUs are printed in version two.
pub two_pmus : printed (record (empty_script 2) { pmus = pmu 1 1 ∷ pmu 16 2 ∷ []; kinds = kind_line (codes "a") 1 255 ∷ [] })
    ≡ codes "perf 2\nmachine cpus=2\npmu 0 counters=1 cpus=1\npmu 1 counters=16 cpus=2\nkind a pmu=1 mask=ff\nend\n"
unfolding digits printed printed_forms
two_pmus = refl

-- A processor's lines: kinds that do not occur and an instruction pointer of 0 are left out.
abbrev stretch : (ip first second : ℕ) → CpuLine
stretch ip first second = cpu_line.Work (work 10 mode.Kernel ip (first ∷ second ∷ []))

abbrev processor : Scripted
processor = record (empty_script 2) {
  pmus = pmu 2 3 ∷ [];
  kinds = kind_line (codes "b") 0 3 ∷ kind_line (codes "a") 0 2 ∷ [];
  cpu_lines = eight ([] ∷ (cpu_line.Switch (Some (task 5)) ∷ stretch 0xab 0 7 ∷ stretch 0 8 7 ∷ cpu_line.Switch None ∷ []) ∷ []);
  order = by_cpu 1 ∷ [];
}

pub lines_of_a_processor : printed processor
    ≡ codes "perf 1\nmachine cpus=2 counters=2\nkind b mask=3\nkind a mask=2\nprocessor 1\nswitch 5\n"
    ++ codes "work 10 kernel ip=ab a=7\nwork 10 kernel b=8 a=7\nswitch idle\norder p1\nend\n"
unfolding digits printed printed_forms
lines_of_a_processor = refl

-- A tool's lines: an event with all that can be asked of it, and one that nothing is asked of.
abbrev full_opening : ToolLine
full_opening = tool_line.Open (slot 7) (attr (kind.Hard 0) (tasks.One (task 5)) (cpus.One (cpu 1)) 100000 0x1ff 0xab 127) (Some (slot 0))

abbrev plain_opening : ToolLine
plain_opening = tool_line.Open (slot 8) (attr kind.TaskClock tasks.All cpus.Any 0 0 0 0) None

abbrev tool : Scripted
tool = record (empty_script 2) {
  pmus = pmu 1 3 ∷ [];
  kinds = kind_line (codes "a") 0 1 ∷ [];
  tool_lines = four (
      [] ∷
      [] ∷
      (full_opening ∷ plain_opening ∷ tool_line.Enable (slot 7) true ∷ tool_line.Read (slot 7) (Some 0) ∷ tool_line.Read (slot 7) None ∷ []) ∷
      []);
}

pub lines_of_a_tool : printed tool
    ≡ codes "perf 1\nmachine cpus=2 counters=1\nkind a mask=1\ntool 2\n"
    ++ codes "open 7 kind=a task=5 cpu=1 leader=0 period=100000 sample=1ff format=ab "
    ++ codes "flags=disabled,inherit,pinned,exclusive,exclude_user,exclude_kernel,sample_id_all\n"
    ++ codes "open 8 kind=task-clock task=all cpu=any\nenable 7 group\nread 7 size=0\nread 7\nend\n"
unfolding digits printed printed_forms
lines_of_a_tool = refl

-- a task, a ring, a reader and a look at the ring
pub a_ring_and_its_reader : printed (record (empty_script 1) {
  pmus = pmu 1 1 ∷ [];
  tasks = task 63 ∷ [];
  rings = (ring 3, 64) ∷ [];
  readers = reader 3 9 1 ∷ [];
  order = seen 3 0 ∷ [];
})
    ≡ codes "perf 1\nmachine cpus=1 counters=1\ntask 63\nring 3 bytes=64\nreader 3 tries=9 batch=1\norder s3=0\nend\n"
unfolding digits printed printed_forms
a_ring_and_its_reader = refl
