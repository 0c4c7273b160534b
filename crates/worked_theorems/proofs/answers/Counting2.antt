-- Worked cases, written by tools/maintain/script_terms.py from texts and their reports.
use Rattle.std.specs.Prelude.{List, [], ◌∷◌, Some, None, codes}
use Rattle.std.proofs.Common.{refl}
use Rattle.perf_base.specs.declared.attr.Kind.TheVariants as kind
use Rattle.perf_base.specs.declared.attr.TaskSel.TheVariants as tasks
use Rattle.perf_base.specs.declared.attr.CpuSel.TheVariants as cpus
use Rattle.perf_base.specs.declared.lines.Mode.TheVariants as mode
use Rattle.perf_base.specs.declared.lines.CpuLine.TheVariants as cpu_line
use Rattle.perf_base.specs.declared.lines.ToolLine.TheVariants as tool_line
use Rattle.perf_base.specs.declared.standing.Rule.TheVariants as rule
use Rattle.perf_base.specs.declared.standing.Cause.TheVariants as cause
use Rattle.perf_base.specs.declared.standing.Why.TheVariants as why
use Rattle.perf_base.specs.declared.reasons.Reason.TheVariants as reason
use Rattle.perf_base.specs.declared.reply.Reply.{Reply}
use Rattle.perf_base.specs.declared.reply.Reply.TheVariants as reply
use Rattle.perf_base.specs.Scripts.{Scripted}
use Rattle.worked_theorems.proofs.answers.Words.{cpu, task, slot, slots, by_cpu, by_tool, pmu, kind_line, attr, work, eight, four}
use Rattle.worked_theorems.proofs.answers.Answering.{Answers, Computed, computed}

counting_025 : Scripted
counting_025 = record {
  cpus = 2;
  pmus = pmu 6 3 ∷ [];
  kinds = kind_line (codes "order") 0 63 ∷ kind_line (codes "user") 0 63 ∷ kind_line (codes "lzzl4ecy") 0 63 ∷
      kind_line (codes "cache-misses") 0 63 ∷ [];
  tasks = task 0 ∷ [];
  rings = [];
  cpu_lines = eight ((
      cpu_line.Switch (Some (task 0)) ∷
      cpu_line.Work (work 0 mode.Kernel 4197479 (0 ∷ 0 ∷ 0 ∷ 1 ∷ [])) ∷
      cpu_line.Work (work 1000000000 mode.User 4197877 (0 ∷ 5 ∷ 5 ∷ 0 ∷ [])) ∷
      cpu_line.Tick ∷
      cpu_line.Work (work 0 mode.User 0 (0 ∷ 0 ∷ 0 ∷ 0 ∷ [])) ∷
      cpu_line.Work (work 0 mode.Kernel 8079980880081874607 (5 ∷ 0 ∷ 3 ∷ 0 ∷ [])) ∷
      []) ∷ []);
  tool_lines = four ((
      tool_line.Open (slot 211) (attr (kind.Hard 2) (tasks.One (task 0)) cpus.Any 9223372036854775807 65537 15 0) None ∷
      tool_line.Read (slot 238) (Some 18446744073709551615) ∷
      tool_line.Open (slot 0) (attr kind.TaskClock tasks.All (cpus.One (cpu 0)) 0 1 30 11) None ∷
      tool_line.Open (slot 1) (attr (kind.Hard 3) (tasks.One (task 0)) cpus.Any 0 66434 13 0) (Some (slot 211)) ∷
      tool_line.Open (slot 223) (attr (kind.Hard 1) tasks.All (cpus.One (cpu 1)) 0 256 3 50) (Some (slot 0)) ∷
      []) ∷ (
      tool_line.Read (slot 1) None ∷
      []) ∷ (
      tool_line.Read (slot 211) None ∷
      tool_line.Why (slot 0) ∷
      []) ∷ []);
  readers = [];
  order = by_cpu 0 ∷ by_tool 0 ∷ by_cpu 0 ∷ by_cpu 0 ∷ by_tool 0 ∷ by_cpu 0 ∷ by_tool 2 ∷ by_cpu 0 ∷ by_tool 0 ∷ by_tool 0 ∷ by_tool 0 ∷ by_tool 2 ∷
      by_cpu 0 ∷ by_tool 1 ∷ [];
}

counting_025_replies : List Reply
counting_025_replies = reply.Ok ∷ reply.Ok ∷ reply.Ok ∷ reply.Ok ∷ reply.Refused reason.NoEvent ∷ reply.Ok ∷
    reply.Read (1 ∷ 1000000000 ∷ 1000000000 ∷ 5 ∷ 1 ∷ []) ∷ reply.Ok ∷ reply.Ok ∷ reply.Ok ∷ reply.Refused reason.OtherContext ∷ reply.Why why.Off ∷
    reply.Ok ∷ reply.Read (2 ∷ 1000000000 ∷ 8 ∷ 1 ∷ 0 ∷ 3 ∷ []) ∷ []

counting_025-answers : Answers counting_025 counting_025_replies
unfolding Computed counting_025 counting_025_replies
counting_025-answers = computed counting_025 counting_025_replies (refl, (refl, (refl, (refl, (refl, (refl, (refl, (refl, (refl, (refl, (refl, (refl, (refl, (refl, tt))))))))))))))

counting_026 : Scripted
counting_026 = record {
  cpus = 8;
  pmus = pmu 3 255 ∷ [];
  kinds = kind_line (codes "nw33gk59go5") 0 7 ∷ kind_line (codes "dummy-2") 0 2 ∷ kind_line (codes "d") 0 7 ∷ kind_line (codes "oe") 0 7 ∷
      kind_line (codes "x") 0 7 ∷ [];
  tasks = [];
  rings = [];
  cpu_lines = eight ([] ∷ [] ∷ [] ∷ (
      cpu_line.Switch None ∷
      cpu_line.Work (work 1000000000 mode.User 11 (1 ∷ 0 ∷ 1 ∷ 1 ∷ 0 ∷ [])) ∷
      cpu_line.Work (work 83237187 mode.User 0 (0 ∷ 0 ∷ 1 ∷ 0 ∷ 0 ∷ [])) ∷
      cpu_line.Work (work 1000000000 mode.Kernel 9 (0 ∷ 0 ∷ 1 ∷ 1 ∷ 0 ∷ [])) ∷
      []) ∷ [] ∷ (
      cpu_line.Work (work 16 mode.Kernel 4196184 (0 ∷ 0 ∷ 0 ∷ 0 ∷ 0 ∷ [])) ∷
      []) ∷ []);
  tool_lines = four ((
      tool_line.Open (slot 0) (attr (kind.Hard 0) tasks.All (cpus.One (cpu 3)) 0 194 16 0) None ∷
      tool_line.Read (slot 0) None ∷
      tool_line.Read (slot 0) None ∷
      tool_line.Open (slot 2) (attr (kind.Hard 4) tasks.All (cpus.One (cpu 4)) 3 384 19 0) None ∷
      []) ∷ (
      tool_line.Read (slot 0) (Some 18446744073709551615) ∷
      tool_line.Open (slot 1) (attr (kind.Hard 1) tasks.All (cpus.One (cpu 0)) 0 66 3 2) None ∷
      tool_line.Why (slot 0) ∷
      []) ∷ (
      tool_line.Read (slot 0) (Some 18446744073709551615) ∷
      tool_line.Why (slot 110) ∷
      []) ∷ []);
  readers = [];
  order = by_tool 0 ∷ by_tool 1 ∷ by_tool 2 ∷ by_tool 1 ∷ by_cpu 5 ∷ by_tool 0 ∷ by_tool 2 ∷ by_tool 1 ∷ by_tool 0 ∷ by_cpu 3 ∷ by_cpu 3 ∷ by_cpu 3 ∷
      by_tool 0 ∷ by_cpu 3 ∷ [];
}

counting_026_replies : List Reply
counting_026_replies = reply.Ok ∷ reply.Read (0 ∷ 0 ∷ []) ∷ reply.Read (0 ∷ 0 ∷ []) ∷ reply.Ok ∷ reply.Ok ∷ reply.Read (0 ∷ 0 ∷ []) ∷
    reply.Refused reason.NoEvent ∷ reply.Why why.On ∷ reply.Read (0 ∷ 0 ∷ []) ∷ reply.Ok ∷ reply.Ok ∷ reply.Ok ∷ reply.Ok ∷ reply.Ok ∷ []

counting_026-answers : Answers counting_026 counting_026_replies
unfolding Computed counting_026 counting_026_replies
counting_026-answers = computed counting_026 counting_026_replies (refl, (refl, (refl, (refl, (refl, (refl, (refl, (refl, (refl, (refl, (refl, (refl, (refl, (refl, tt))))))))))))))

counting_027 : Scripted
counting_027 = record {
  cpus = 8;
  pmus = pmu 16 255 ∷ [];
  kinds = kind_line (codes "cache-misses") 0 65535 ∷ kind_line (codes "b") 0 512 ∷ kind_line (codes "rzta") 0 56365 ∷
      kind_line (codes "cycles") 0 43718 ∷ [];
  tasks = task 0 ∷ [];
  rings = [];
  cpu_lines = eight ((
      cpu_line.Work (work 19 mode.User 4195775 (0 ∷ 0 ∷ 0 ∷ 1000000 ∷ [])) ∷
      []) ∷ [] ∷ (
      cpu_line.Work (work 0 mode.User 4195075 (1000000 ∷ 0 ∷ 0 ∷ 0 ∷ [])) ∷
      []) ∷ [] ∷ [] ∷ (
      cpu_line.Work (work 17 mode.User 5 (1000000 ∷ 0 ∷ 1000000 ∷ 0 ∷ [])) ∷
      []) ∷ [] ∷ (
      cpu_line.Switch (Some (task 0)) ∷
      cpu_line.Work (work 0 mode.User 4197174 (0 ∷ 10611633 ∷ 3 ∷ 1000000 ∷ [])) ∷
      []) ∷ []);
  tool_lines = four ((
      tool_line.Why (slot 1) ∷
      tool_line.Seats (cpu 6) ∷
      tool_line.Open (slot 2) (attr kind.CpuMigrations (tasks.One (task 0)) cpus.Any 0 66305 0 32) (Some (slot 0)) ∷
      []) ∷ (
      tool_line.Read (slot 0) None ∷
      tool_line.Read (slot 2) None ∷
      tool_line.Open (slot 3) (attr (kind.Hard 1) (tasks.One (task 0)) cpus.Any 0 65858 15 16) (Some (slot 0)) ∷
      []) ∷ (
      tool_line.Open (slot 0) (attr (kind.Hard 1) (tasks.One (task 0)) cpus.Any 1000000 135 3 32) None ∷
      tool_line.Open (slot 1) (attr (kind.Hard 0) (tasks.One (task 0)) cpus.Any 1000000 705 3 0) (Some (slot 0)) ∷
      tool_line.Read (slot 1) None ∷
      []) ∷ []);
  readers = [];
  order = by_tool 2 ∷ by_tool 1 ∷ by_cpu 7 ∷ by_tool 2 ∷ by_cpu 7 ∷ by_tool 0 ∷ by_tool 2 ∷ by_cpu 2 ∷ by_tool 0 ∷ by_cpu 5 ∷ by_tool 0 ∷ by_tool 1 ∷
      by_tool 1 ∷ by_cpu 0 ∷ [];
}

counting_027_replies : List Reply
counting_027_replies = reply.Ok ∷ reply.Read (0 ∷ 0 ∷ 0 ∷ []) ∷ reply.Ok ∷ reply.Ok ∷ reply.Ok ∷ reply.Why why.On ∷ reply.Read (0 ∷ 0 ∷ 0 ∷ []) ∷
    reply.Ok ∷ reply.Seats [] ∷ reply.Ok ∷ reply.Ok ∷ reply.Read (0 ∷ []) ∷ reply.Refused (reason.NoAssignment (slots (0 ∷ 3 ∷ []))) ∷ reply.Ok ∷ []

counting_027-answers : Answers counting_027 counting_027_replies
unfolding Computed counting_027 counting_027_replies
counting_027-answers = computed counting_027 counting_027_replies (refl, (refl, (refl, (refl, (refl, (refl, (refl, (refl, ((refl, refl), (refl, (refl, (refl, (refl, (refl, tt))))))))))))))

counting_029 : Scripted
counting_029 = record {
  cpus = 1;
  pmus = pmu 16 1 ∷ [];
  kinds = kind_line (codes "b") 0 16 ∷ [];
  tasks = task 21 ∷ task 50 ∷ [];
  rings = [];
  cpu_lines = eight ((
      cpu_line.Switch (Some (task 50)) ∷
      cpu_line.Switch None ∷
      cpu_line.Work (work 1 mode.User 4194385 (3 ∷ [])) ∷
      cpu_line.Work (work 1 mode.User 4194348 (11 ∷ [])) ∷
      cpu_line.Switch (Some (task 50)) ∷
      cpu_line.Work (work 1 mode.User 0 (147 ∷ [])) ∷
      cpu_line.Work (work 11 mode.Kernel 0 (4 ∷ [])) ∷
      cpu_line.Switch (Some (task 21)) ∷
      []) ∷ []);
  tool_lines = four ((
      tool_line.Open (slot 0) (attr (kind.Hard 0) tasks.All (cpus.One (cpu 0)) 0 65539 3 6) None ∷
      tool_line.Read (slot 0) None ∷
      tool_line.Why (slot 0) ∷
      tool_line.Open (slot 1) (attr (kind.Hard 0) tasks.All (cpus.One (cpu 0)) 0 582 3 18) (Some (slot 0)) ∷
      tool_line.Read (slot 0) None ∷
      tool_line.Seats (cpu 0) ∷
      []) ∷ []);
  readers = [];
  order = by_tool 0 ∷ by_cpu 0 ∷ by_tool 0 ∷ by_cpu 0 ∷ by_cpu 0 ∷ by_tool 0 ∷ by_cpu 0 ∷ by_cpu 0 ∷ by_tool 0 ∷ by_tool 0 ∷ by_tool 0 ∷ by_cpu 0 ∷
      by_cpu 0 ∷ by_cpu 0 ∷ [];
}

counting_029_replies : List Reply
counting_029_replies = reply.Ok ∷ reply.Ok ∷ reply.Read (0 ∷ 0 ∷ 0 ∷ []) ∷ reply.Ok ∷ reply.Ok ∷ reply.Why why.On ∷ reply.Ok ∷ reply.Ok ∷
    reply.Refused (reason.NoAssignment (slots (0 ∷ 1 ∷ []))) ∷ reply.Read (14 ∷ 2 ∷ 2 ∷ []) ∷ reply.Seats ((slot 0, 4) ∷ []) ∷ reply.Ok ∷ reply.Ok ∷
    reply.Ok ∷ []

counting_029-answers : Answers counting_029 counting_029_replies
unfolding Computed counting_029 counting_029_replies
counting_029-answers = computed counting_029 counting_029_replies (refl, (refl, (refl, (refl, (refl, (refl, (refl, (refl, (refl, (refl, ((refl, refl), (refl, (refl, (refl, tt))))))))))))))

counting_030 : Scripted
counting_030 = record {
  cpus = 1;
  pmus = pmu 6 1 ∷ [];
  kinds = [];
  tasks = task 0 ∷ task 1 ∷ task 2 ∷ task 3 ∷ [];
  rings = [];
  cpu_lines = eight ((
      cpu_line.Switch (Some (task 0)) ∷
      cpu_line.Work (work 2 mode.Kernel 4198366 []) ∷
      cpu_line.Work (work 681727536 mode.User 4194502 []) ∷
      cpu_line.Work (work 1000000000 mode.Kernel 4194741 []) ∷
      cpu_line.Tick ∷
      []) ∷ []);
  tool_lines = four ((
      tool_line.Open (slot 0) (attr kind.TaskClock tasks.All (cpus.One (cpu 0)) 0 644 31 2) None ∷
      tool_line.Open (slot 1) (attr kind.TaskClock tasks.All (cpus.One (cpu 0)) 0 66115 23 0) None ∷
      tool_line.Why (slot 1) ∷
      tool_line.Open (slot 59) (attr kind.ContextSwitches tasks.All (cpus.One (cpu 0)) 0 130 0 0) (Some (slot 1)) ∷
      tool_line.Why (slot 1) ∷
      tool_line.Read (slot 1) (Some 27) ∷
      tool_line.Open (slot 2) (attr kind.CpuMigrations tasks.All (cpus.One (cpu 0)) 0 65601 3 0) (Some (slot 1)) ∷
      tool_line.Read (slot 1) None ∷
      tool_line.Read (slot 2) None ∷
      []) ∷ []);
  readers = [];
  order = by_tool 0 ∷ by_cpu 0 ∷ by_tool 0 ∷ by_tool 0 ∷ by_cpu 0 ∷ by_cpu 0 ∷ by_tool 0 ∷ by_tool 0 ∷ by_tool 0 ∷ by_tool 0 ∷ by_cpu 0 ∷ by_cpu 0 ∷
      by_tool 0 ∷ by_tool 0 ∷ [];
}

counting_030_replies : List Reply
counting_030_replies = reply.Ok ∷ reply.Ok ∷ reply.Ok ∷ reply.Why why.On ∷ reply.Ok ∷ reply.Ok ∷ reply.Ok ∷ reply.Why why.On ∷
    reply.Refused reason.NoSpace ∷ reply.Ok ∷ reply.Ok ∷ reply.Ok ∷ reply.Read (1681727538 ∷ 1681727538 ∷ 1681727538 ∷ 2 ∷ 0 ∷ []) ∷
    reply.Read (0 ∷ 1000000000 ∷ 1000000000 ∷ []) ∷ []

counting_030-answers : Answers counting_030 counting_030_replies
unfolding Computed counting_030 counting_030_replies
counting_030-answers = computed counting_030 counting_030_replies (refl, (refl, (refl, (refl, (refl, (refl, (refl, (refl, (refl, (refl, (refl, (refl, (refl, (refl, tt))))))))))))))

counting_031 : Scripted
counting_031 = record {
  cpus = 4;
  pmus = pmu 16 15 ∷ [];
  kinds = [];
  tasks = task 11 ∷ task 52 ∷ task 56 ∷ [];
  rings = [];
  cpu_lines = eight ((
      cpu_line.Tick ∷
      cpu_line.Switch (Some (task 56)) ∷
      cpu_line.Tick ∷
      []) ∷ (
      cpu_line.Switch (Some (task 11)) ∷
      []) ∷ (
      cpu_line.Switch (Some (task 52)) ∷
      []) ∷ []);
  tool_lines = four ((
      tool_line.Open (slot 1) (attr kind.Dummy tasks.All (cpus.One (cpu 0)) 0 130 15 32) None ∷
      tool_line.Read (slot 35) None ∷
      []) ∷ (
      tool_line.Open (slot 0) (attr kind.TaskClock (tasks.One (task 52)) cpus.Any 0 641 24 23) None ∷
      tool_line.Read (slot 0) None ∷
      tool_line.Open (slot 2) (attr kind.ContextSwitches (tasks.One (task 52)) (cpus.One (cpu 0)) 0 640 22 11) None ∷
      tool_line.Open (slot 3) (attr kind.ContextSwitches (tasks.One (task 11)) cpus.Any 0 65732 3 22) None ∷
      tool_line.Open (slot 193) (attr kind.ContextSwitches (tasks.One (task 56)) (cpus.One (cpu 1)) 0 706 22 1) None ∷
      tool_line.Open (slot 4) (attr kind.CpuMigrations (tasks.One (task 56)) (cpus.One (cpu 3)) 0 258 3 0) None ∷
      tool_line.Read (slot 53) (Some 18446744073709551615) ∷
      []) ∷ []);
  readers = [];
  order = by_tool 1 ∷ by_tool 0 ∷ by_cpu 2 ∷ by_tool 1 ∷ by_cpu 0 ∷ by_tool 1 ∷ by_tool 1 ∷ by_tool 1 ∷ by_cpu 0 ∷ by_tool 1 ∷ by_tool 0 ∷
      by_tool 1 ∷ by_cpu 1 ∷ by_cpu 0 ∷ [];
}

counting_031_replies : List Reply
counting_031_replies = reply.Ok ∷ reply.Ok ∷ reply.Ok ∷ reply.Read (1 ∷ 0 ∷ 0 ∷ []) ∷ reply.Ok ∷ reply.Ok ∷ reply.Ok ∷ reply.Ok ∷ reply.Ok ∷
    reply.Ok ∷ reply.Refused reason.NoEvent ∷ reply.Refused reason.NoEvent ∷ reply.Ok ∷ reply.Ok ∷ []

counting_031-answers : Answers counting_031 counting_031_replies
unfolding Computed counting_031 counting_031_replies
counting_031-answers = computed counting_031 counting_031_replies (refl, (refl, (refl, (refl, (refl, (refl, (refl, (refl, (refl, (refl, (refl, (refl, (refl, (refl, tt))))))))))))))

counting_034 : Scripted
counting_034 = record {
  cpus = 4;
  pmus = pmu 2 15 ∷ [];
  kinds = [];
  tasks = task 0 ∷ [];
  rings = [];
  cpu_lines = eight ((
      cpu_line.Switch (Some (task 0)) ∷
      cpu_line.Work (work 0 mode.User 10186196993127159950 []) ∷
      cpu_line.Work (work 18 mode.User 4194915 []) ∷
      cpu_line.Work (work 3 mode.Kernel 0 []) ∷
      cpu_line.Work (work 1 mode.Kernel 4197189 []) ∷
      cpu_line.Work (work 1 mode.Kernel 4197410 []) ∷
      []) ∷ [] ∷ (
      cpu_line.Work (work 1000000000 mode.Kernel 4196350 []) ∷
      []) ∷ []);
  tool_lines = four ((
      tool_line.Open (slot 171) (attr kind.Dummy tasks.All (cpus.One (cpu 0)) 0 65792 3 4) None ∷
      tool_line.Read (slot 171) (Some 160) ∷
      tool_line.Open (slot 212) (attr kind.Dummy tasks.All (cpus.One (cpu 0)) 0 517 0 4) None ∷
      tool_line.Read (slot 212) None ∷
      tool_line.Read (slot 118) None ∷
      tool_line.Seats (cpu 1) ∷
      tool_line.Open (slot 0) (attr kind.Dummy (tasks.One (task 0)) (cpus.One (cpu 3)) 0 68 3 0) None ∷
      []) ∷ []);
  readers = [];
  order = by_tool 0 ∷ by_cpu 0 ∷ by_tool 0 ∷ by_tool 0 ∷ by_cpu 0 ∷ by_cpu 0 ∷ by_cpu 0 ∷ by_tool 0 ∷ by_cpu 2 ∷ by_tool 0 ∷ by_tool 0 ∷ by_tool 0 ∷
      by_cpu 0 ∷ by_cpu 0 ∷ [];
}

counting_034_replies : List Reply
counting_034_replies = reply.Ok ∷ reply.Ok ∷ reply.Read (0 ∷ 0 ∷ 0 ∷ []) ∷ reply.Ok ∷ reply.Ok ∷ reply.Ok ∷ reply.Ok ∷ reply.Read (0 ∷ []) ∷
    reply.Ok ∷ reply.Refused reason.NoEvent ∷ reply.Seats [] ∷ reply.Ok ∷ reply.Ok ∷ reply.Ok ∷ []

counting_034-answers : Answers counting_034 counting_034_replies
unfolding Computed counting_034 counting_034_replies
counting_034-answers = computed counting_034 counting_034_replies (refl, (refl, (refl, (refl, (refl, (refl, (refl, (refl, (refl, (refl, ((refl, refl), (refl, (refl, (refl, tt))))))))))))))

counting_035 : Scripted
counting_035 = record {
  cpus = 1;
  pmus = pmu 8 1 ∷ [];
  kinds = kind_line (codes "vnb5h") 0 242 ∷ kind_line (codes "t7w2wl0lybbvz9ckk9a76bjiqj-r1hz") 0 128 ∷ [];
  tasks = task 4 ∷ task 11 ∷ task 16 ∷ task 53 ∷ [];
  rings = [];
  cpu_lines = eight ((
      cpu_line.Work (work 1 mode.User 4196981 (7 ∷ 7 ∷ [])) ∷
      cpu_line.Switch (Some (task 16)) ∷
      []) ∷ []);
  tool_lines = four ((
      tool_line.Why (slot 0) ∷
      tool_line.Read (slot 2) None ∷
      tool_line.Seats (cpu 0) ∷
      []) ∷ (
      tool_line.Open (slot 0) (attr (kind.Hard 0) (tasks.One (task 16)) (cpus.One (cpu 0)) 7 513 11 38) None ∷
      tool_line.Open (slot 1) (attr (kind.Hard 0) (tasks.One (task 16)) (cpus.One (cpu 0)) 7 1 16 2) (Some (slot 0)) ∷
      tool_line.Read (slot 1) None ∷
      []) ∷ (
      tool_line.Open (slot 2) (attr (kind.Hard 0) (tasks.One (task 16)) cpus.Any 42 384 26 10) None ∷
      tool_line.Read (slot 0) None ∷
      tool_line.Why (slot 1) ∷
      tool_line.Why (slot 2) ∷
      []) ∷ []);
  readers = [];
  order = by_tool 1 ∷ by_tool 1 ∷ by_cpu 0 ∷ by_tool 1 ∷ by_tool 2 ∷ by_cpu 0 ∷ by_tool 2 ∷ by_tool 0 ∷ by_tool 2 ∷ by_tool 0 ∷ by_tool 2 ∷
      by_tool 0 ∷ [];
}

counting_035_replies : List Reply
counting_035_replies = reply.Ok ∷ reply.Ok ∷ reply.Ok ∷ reply.Read (0 ∷ 0 ∷ []) ∷ reply.Ok ∷ reply.Ok ∷ reply.Read (2 ∷ 0 ∷ 0 ∷ 0 ∷ 0 ∷ []) ∷
    reply.Why why.On ∷ reply.Why why.On ∷ reply.Read (1 ∷ 0 ∷ 0 ∷ 0 ∷ []) ∷ reply.Why (why.Refused (cause.Rule (rule.ExclusiveSelf (slot 0)))) ∷
    reply.Seats ((slot 0, 4) ∷ (slot 1, 1) ∷ []) ∷ []

counting_035-answers : Answers counting_035 counting_035_replies
unfolding Computed counting_035 counting_035_replies
counting_035-answers = computed counting_035 counting_035_replies (refl, (refl, (refl, (refl, (refl, (refl, (refl, (refl, (refl, (refl, (refl, ((refl, refl), tt))))))))))))

counting_036 : Scripted
counting_036 = record {
  cpus = 2;
  pmus = pmu 2 3 ∷ [];
  kinds = kind_line (codes "lxw94b-0i") 0 3 ∷ kind_line (codes "x") 0 2 ∷ kind_line (codes "fpb17d8aqa1") 0 2 ∷ kind_line (codes "r-t1t1fl") 0 2 ∷
      kind_line (codes "c") 0 3 ∷ kind_line (codes "hlb3f") 0 3 ∷ [];
  tasks = task 0 ∷ [];
  rings = [];
  cpu_lines = eight ((
      cpu_line.Work (work 1309 mode.Kernel 4196857 (0 ∷ 0 ∷ 0 ∷ 1 ∷ 0 ∷ 0 ∷ [])) ∷
      cpu_line.Switch (Some (task 1)) ∷
      cpu_line.Work (work 0 mode.User 4198125 (0 ∷ 0 ∷ 0 ∷ 0 ∷ 0 ∷ 0 ∷ [])) ∷
      []) ∷ (
      cpu_line.Switch (Some (task 0)) ∷
      cpu_line.Work (work 1 mode.User 5 (0 ∷ 3 ∷ 3 ∷ 3 ∷ 0 ∷ 0 ∷ [])) ∷
      cpu_line.Work (work 336756010 mode.Kernel 4195867 (3 ∷ 0 ∷ 0 ∷ 0 ∷ 2 ∷ 3 ∷ [])) ∷
      cpu_line.Work (work 0 mode.User 15733778637674325807 (0 ∷ 0 ∷ 0 ∷ 0 ∷ 0 ∷ 0 ∷ [])) ∷
      cpu_line.Tick ∷
      []) ∷ []);
  tool_lines = four ((
      tool_line.Why (slot 190) ∷
      []) ∷ (
      tool_line.Seats (cpu 1) ∷
      []) ∷ (
      tool_line.Open (slot 190) (attr (kind.Hard 4) (tasks.One (task 0)) (cpus.One (cpu 0)) 3 453 23 16) None ∷
      tool_line.Read (slot 190) (Some 18) ∷
      tool_line.Read (slot 190) None ∷
      tool_line.Why (slot 190) ∷
      []) ∷ []);
  readers = [];
  order = by_tool 2 ∷ by_cpu 1 ∷ by_cpu 0 ∷ by_tool 2 ∷ by_cpu 1 ∷ by_tool 0 ∷ by_cpu 0 ∷ by_cpu 1 ∷ by_tool 1 ∷ by_cpu 1 ∷ by_cpu 0 ∷ by_cpu 1 ∷
      by_tool 2 ∷ by_tool 2 ∷ [];
}

counting_036_replies : List Reply
counting_036_replies = reply.Ok ∷ reply.Ok ∷ reply.Ok ∷ reply.Refused reason.NoSpace ∷ reply.Ok ∷ reply.Why why.Away ∷ reply.Refused reason.NoTask ∷
    reply.Ok ∷ reply.Seats [] ∷ reply.Ok ∷ reply.Ok ∷ reply.Ok ∷ reply.Read (0 ∷ 336756011 ∷ 0 ∷ 1 ∷ 0 ∷ []) ∷ reply.Why why.Away ∷ []

counting_036-answers : Answers counting_036 counting_036_replies
unfolding Computed counting_036 counting_036_replies
counting_036-answers = computed counting_036 counting_036_replies (refl, (refl, (refl, (refl, (refl, (refl, (refl, (refl, ((refl, refl), (refl, (refl, (refl, (refl, (refl, tt))))))))))))))
