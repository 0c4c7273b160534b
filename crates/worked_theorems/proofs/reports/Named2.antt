-- Worked cases, written by tools/maintain/script_terms.py from texts and their reports.
use Rattle.std.specs.Prelude.{ℕ, List, [], ◌∷◌, ◌++◌, Some, None, codes}
use Rattle.std.proofs.Common.{refl}
use Rattle.perf_base.specs.declared.attr.Kind.TheVariants as kind
use Rattle.perf_base.specs.declared.attr.TaskSel.TheVariants as tasks
use Rattle.perf_base.specs.declared.attr.CpuSel.TheVariants as cpus
use Rattle.perf_base.specs.declared.lines.Mode.TheVariants as mode
use Rattle.perf_base.specs.declared.lines.CpuLine.TheVariants as cpu_line
use Rattle.perf_base.specs.declared.lines.ToolLine.TheVariants as tool_line
use Rattle.perf_base.specs.declared.reply.Reply.{Reply}
use Rattle.perf_base.specs.declared.reply.Reply.TheVariants as reply
use Rattle.perf_base.specs.Scripts.{Scripted}
use Rattle.worked_theorems.proofs.answers.Words.{cpu, task, slot, ring, by_cpu, by_tool, seen, pmu, kind_line, attr, work, eight, four}
use Rattle.worked_theorems.proofs.Whole.{IsWorked}
use Rattle.worked_theorems.proofs.reports.Answering.{Computed, computed}

record_larger_than_ring : Scripted
record_larger_than_ring = record {
  cpus = 1;
  pmus = pmu 1 1 ∷ [];
  kinds = kind_line (codes "a") 0 1 ∷ [];
  tasks = [];
  rings = (ring 0, 64) ∷ [];
  cpu_lines = eight ((
      cpu_line.Work (work 1 mode.User 0 (2 ∷ [])) ∷
      []) ∷ []);
  tool_lines = four ((
      tool_line.Open (slot 0) (attr (kind.Hard 0) tasks.All (cpus.One (cpu 0)) 1 66503 20 0) None ∷
      tool_line.Map (slot 0) (ring 0) ∷
      tool_line.Read (slot 0) None ∷
      []) ∷ []);
  readers = [];
  order = by_tool 0 ∷ by_tool 0 ∷ by_cpu 0 ∷ by_tool 0 ∷ [];
}

record_larger_than_ring_replies : List Reply
record_larger_than_ring_replies = reply.Ok ∷ reply.Ok ∷ reply.Ok ∷ reply.Read (2 ∷ 1 ∷ 2 ∷ []) ∷ []

record_larger_than_ring_report : List ℕ
record_larger_than_ring_report =
    codes "order t0 t0 p0 t0\n" ++
    codes "t0.2 read 2 1 2\n" ++
    codes "ring 0 head=0 tail=0 lost=2 pending=2\n" ++
    codes "end\n"

record_larger_than_ring-worked : IsWorked record_larger_than_ring record_larger_than_ring_replies record_larger_than_ring_report
unfolding Computed record_larger_than_ring record_larger_than_ring_replies record_larger_than_ring_report
record_larger_than_ring-worked = computed record_larger_than_ring record_larger_than_ring_replies record_larger_than_ring_report refl (refl, (refl, (refl, (refl, refl))))

sample_of_copy : Scripted
sample_of_copy = record {
  cpus = 2;
  pmus = pmu 1 3 ∷ [];
  kinds = kind_line (codes "a") 0 1 ∷ [];
  tasks = task 0 ∷ [];
  rings = (ring 0, 128) ∷ [];
  cpu_lines = eight ([] ∷ (
      cpu_line.Switch (Some (task 0)) ∷
      cpu_line.Fork (task 2) ∷
      cpu_line.Switch (Some (task 2)) ∷
      cpu_line.Work (work 7 mode.Kernel 240 (5 ∷ [])) ∷
      []) ∷ []);
  tool_lines = four ((
      tool_line.Open (slot 0) (attr (kind.Hard 0) (tasks.One (task 0)) (cpus.One (cpu 1)) 5 66503 0 2) None ∷
      tool_line.Map (slot 0) (ring 0) ∷
      []) ∷ []);
  readers = [];
  order = by_tool 0 ∷ by_tool 0 ∷ by_cpu 1 ∷ by_cpu 1 ∷ by_cpu 1 ∷ by_cpu 1 ∷ [];
}

sample_of_copy_replies : List Reply
sample_of_copy_replies = reply.Ok ∷ reply.Ok ∷ reply.Ok ∷ reply.Ok ∷ reply.Ok ∷ reply.Ok ∷ []

sample_of_copy_report : List ℕ
sample_of_copy_report =
    codes "order t0 t0 p1 p1 p1 p1\n" ++
    codes "ring 0 head=72 tail=0 lost=0 pending=0\n" ++
    codes "left 0048000100000009 0000000000000001 00000000000000f0 0000000300000003 0000000000000007 0000000000000001 0000000000000002 0000000000000001 0000000000000005\n" ++
    codes "end\n"

sample_of_copy-worked : IsWorked sample_of_copy sample_of_copy_replies sample_of_copy_report
unfolding Computed sample_of_copy sample_of_copy_replies sample_of_copy_report
sample_of_copy-worked = computed sample_of_copy sample_of_copy_replies sample_of_copy_report refl (refl, (refl, (refl, (refl, (refl, (refl, refl))))))

trailer_of_copy : Scripted
trailer_of_copy = record {
  cpus = 1;
  pmus = pmu 1 1 ∷ [];
  kinds = kind_line (codes "a") 0 1 ∷ [];
  tasks = task 0 ∷ [];
  rings = (ring 0, 128) ∷ [];
  cpu_lines = eight ((
      cpu_line.Switch (Some (task 0)) ∷
      cpu_line.Fork (task 1) ∷
      cpu_line.Switch (Some (task 1)) ∷
      cpu_line.Work (work 5 mode.User 7 (7 ∷ [])) ∷
      cpu_line.Work (work 5 mode.User 8 (1 ∷ [])) ∷
      []) ∷ []);
  tool_lines = four ((
      tool_line.Open (slot 0) (attr (kind.Hard 0) (tasks.One (task 0)) (cpus.One (cpu 0)) 1 576 0 66) None ∷
      tool_line.Map (slot 0) (ring 0) ∷
      []) ∷ []);
  readers = [];
  order = by_tool 0 ∷ by_tool 0 ∷ by_cpu 0 ∷ by_cpu 0 ∷ by_cpu 0 ∷ by_cpu 0 ∷ seen 0 120 ∷ by_cpu 0 ∷ [];
}

trailer_of_copy_replies : List Reply
trailer_of_copy_replies = reply.Ok ∷ reply.Ok ∷ reply.Ok ∷ reply.Ok ∷ reply.Ok ∷ reply.Ok ∷ reply.Ok ∷ []

trailer_of_copy_report : List ℕ
trailer_of_copy_report =
    codes "order t0 t0 p0 p0 p0 p0 s0=120 p0\n" ++
    codes "ring 0 head=184 tail=120 lost=2 pending=0\n" ++
    codes "taken 0018000200000009 0000000000000001 0000000000000002\n" ++
    codes "taken 0018000200000009 0000000000000001 0000000000000002\n" ++
    codes "taken 0018000200000009 0000000000000001 0000000000000002\n" ++
    codes "taken 0018000200000009 0000000000000001 0000000000000002\n" ++
    codes "taken 0018000200000009 0000000000000001 0000000000000002\n" ++
    codes "left 0028000000000002 0000000000000001 0000000000000002 0000000000000001 0000000000000001\n" ++
    codes "left 0018000200000009 0000000000000001 0000000000000002\n" ++
    codes "end\n"

trailer_of_copy-worked : IsWorked trailer_of_copy trailer_of_copy_replies trailer_of_copy_report
unfolding Computed trailer_of_copy trailer_of_copy_replies trailer_of_copy_report
trailer_of_copy-worked = computed trailer_of_copy trailer_of_copy_replies trailer_of_copy_report refl (refl, (refl, (refl, (refl, (refl, (refl, (refl, (refl, refl))))))))

two_events_on_one_ring : Scripted
two_events_on_one_ring = record {
  cpus = 1;
  pmus = pmu 2 1 ∷ [];
  kinds = kind_line (codes "a") 0 1 ∷ kind_line (codes "b") 0 2 ∷ [];
  tasks = [];
  rings = (ring 0, 64) ∷ [];
  cpu_lines = eight ((
      cpu_line.Work (work 1 mode.User 0 (2 ∷ 2 ∷ [])) ∷
      cpu_line.Work (work 1 mode.User 0 (0 ∷ 1 ∷ [])) ∷
      []) ∷ []);
  tool_lines = four ((
      tool_line.Open (slot 0) (attr (kind.Hard 0) tasks.All (cpus.One (cpu 0)) 1 64 16 0) None ∷
      tool_line.Open (slot 1) (attr (kind.Hard 1) tasks.All (cpus.One (cpu 0)) 1 64 16 4) None ∷
      tool_line.Map (slot 0) (ring 0) ∷
      tool_line.Output (slot 1) (slot 0) ∷
      tool_line.Read (slot 0) None ∷
      tool_line.Read (slot 1) None ∷
      []) ∷ []);
  readers = [];
  order = by_tool 0 ∷ by_tool 0 ∷ by_tool 0 ∷ by_tool 0 ∷ by_cpu 0 ∷ seen 0 48 ∷ by_cpu 0 ∷ by_tool 0 ∷ by_tool 0 ∷ [];
}

two_events_on_one_ring_replies : List Reply
two_events_on_one_ring_replies = reply.Ok ∷ reply.Ok ∷ reply.Ok ∷ reply.Ok ∷ reply.Ok ∷ reply.Ok ∷ reply.Read (2 ∷ 1 ∷ []) ∷
    reply.Read (3 ∷ 0 ∷ []) ∷ []

two_events_on_one_ring_report : List ℕ
two_events_on_one_ring_report =
    codes "order t0 t0 t0 t0 p0 s0=48 p0 t0 t0\n" ++
    codes "t0.4 read 2 1\n" ++
    codes "t0.5 read 3 0\n" ++
    codes "ring 0 head=88 tail=48 lost=1 pending=0\n" ++
    codes "taken 0010000200000009 0000000000000002\n" ++
    codes "taken 0010000200000009 0000000000000002\n" ++
    codes "taken 0010000200000009 0000000000000001\n" ++
    codes "left 0018000000000002 0000000000000002 0000000000000001\n" ++
    codes "left 0010000200000009 0000000000000002\n" ++
    codes "end\n"

two_events_on_one_ring-worked : IsWorked two_events_on_one_ring two_events_on_one_ring_replies two_events_on_one_ring_report
unfolding Computed two_events_on_one_ring two_events_on_one_ring_replies two_events_on_one_ring_report
two_events_on_one_ring-worked = computed two_events_on_one_ring two_events_on_one_ring_replies two_events_on_one_ring_report refl (refl, (refl, (refl, (refl, (refl, (refl, (refl, (refl, (refl, refl)))))))))
