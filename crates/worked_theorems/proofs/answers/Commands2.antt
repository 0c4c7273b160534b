-- Worked cases, written by tools/maintain/script_terms.py from texts and their reports.
use Rattle.std.specs.Prelude.{true, false, List, [], ◌∷◌, Some, None, codes}
use Rattle.std.proofs.Common.{refl}
use Rattle.perf_base.specs.declared.attr.Kind.TheVariants as kind
use Rattle.perf_base.specs.declared.attr.TaskSel.TheVariants as tasks
use Rattle.perf_base.specs.declared.attr.CpuSel.TheVariants as cpus
use Rattle.perf_base.specs.declared.lines.Mode.TheVariants as mode
use Rattle.perf_base.specs.declared.lines.CpuLine.TheVariants as cpu_line
use Rattle.perf_base.specs.declared.lines.ToolLine.TheVariants as tool_line
use Rattle.perf_base.specs.declared.standing.Why.TheVariants as why
use Rattle.perf_base.specs.declared.reasons.Reason.TheVariants as reason
use Rattle.perf_base.specs.declared.reply.Reply.{Reply}
use Rattle.perf_base.specs.declared.reply.Reply.TheVariants as reply
use Rattle.perf_base.specs.Scripts.{Scripted}
use Rattle.worked_theorems.proofs.answers.Words.{cpu, task, slot, slots, by_cpu, by_tool, pmu, kind_line, attr, work, eight, four}
use Rattle.worked_theorems.proofs.answers.Answering.{Answers, Computed, computed}

commands_023 : Scripted
commands_023 = record {
  cpus = 1;
  pmus = pmu 1 1 ∷ [];
  kinds = kind_line (codes "p1") 0 1 ∷ kind_line (codes "cycles") 0 1 ∷ [];
  tasks = task 53 ∷ [];
  rings = [];
  cpu_lines = eight ((
      cpu_line.Work (work 0 mode.User 4196736 (0 ∷ 0 ∷ [])) ∷
      cpu_line.Switch (Some (task 53)) ∷
      cpu_line.Tick ∷
      cpu_line.Switch None ∷
      cpu_line.Work (work 12 mode.User 0 (0 ∷ 0 ∷ [])) ∷
      []) ∷ []);
  tool_lines = four ((
      tool_line.Open (slot 0) (attr (kind.Hard 1) (tasks.One (task 53)) cpus.Any 300 65536 25 0) None ∷
      tool_line.Open (slot 1) (attr (kind.Hard 0) (tasks.One (task 53)) cpus.Any 0 128 25 2) None ∷
      tool_line.Open (slot 3) (attr (kind.Hard 0) (tasks.One (task 53)) cpus.Any 900 260 3 3) None ∷
      tool_line.Open (slot 4) (attr (kind.Hard 1) (tasks.One (task 53)) cpus.Any 100 2 14 4) None ∷
      tool_line.Read (slot 0) (Some 18446744073709551615) ∷
      tool_line.Reset (slot 1) true ∷
      []) ∷ (
      tool_line.Open (slot 2) (attr (kind.Hard 0) (tasks.One (task 53)) cpus.Any 0 196 25 0) None ∷
      tool_line.Enable (slot 1) true ∷
      tool_line.Open (slot 148) (attr (kind.Hard 0) (tasks.One (task 53)) (cpus.One (cpu 0)) 0 133 6 52) None ∷
      tool_line.Read (slot 1) None ∷
      tool_line.Read (slot 3) None ∷
      []) ∷ []);
  readers = [];
  order = by_tool 0 ∷ by_cpu 0 ∷ by_tool 0 ∷ by_tool 1 ∷ by_tool 0 ∷ by_tool 1 ∷ by_tool 1 ∷ by_tool 0 ∷ by_cpu 0 ∷ by_cpu 0 ∷ by_tool 1 ∷ by_cpu 0 ∷
      by_tool 0 ∷ by_tool 0 ∷ by_cpu 0 ∷ by_tool 1 ∷ [];
}

commands_023_replies : List Reply
commands_023_replies = reply.Ok ∷ reply.Ok ∷ reply.Ok ∷ reply.Ok ∷ reply.Ok ∷ reply.Ok ∷ reply.Ok ∷ reply.Ok ∷ reply.Ok ∷ reply.Ok ∷
    reply.Read (1 ∷ 0 ∷ 0 ∷ 0 ∷ []) ∷ reply.Ok ∷ reply.Read (1 ∷ 0 ∷ 0 ∷ 0 ∷ []) ∷ reply.Ok ∷ reply.Ok ∷ reply.Read (0 ∷ 0 ∷ 0 ∷ []) ∷ []

commands_023-answers : Answers commands_023 commands_023_replies
unfolding Computed commands_023 commands_023_replies
commands_023-answers = computed commands_023 commands_023_replies (refl, (refl, (refl, (refl, (refl, (refl, (refl, (refl, (refl, (refl, (refl, (refl, (refl, (refl, (refl, (refl, tt))))))))))))))))

commands_024 : Scripted
commands_024 = record {
  cpus = 1;
  pmus = pmu 1 1 ∷ [];
  kinds = [];
  tasks = task 0 ∷ task 1 ∷ [];
  rings = [];
  cpu_lines = eight ((
      cpu_line.Work (work 17 mode.User 4196895 []) ∷
      cpu_line.Switch (Some (task 1)) ∷
      cpu_line.Switch (Some (task 1)) ∷
      cpu_line.Work (work 1 mode.Kernel 4195509 []) ∷
      cpu_line.Work (work 0 mode.Kernel 13 []) ∷
      cpu_line.Fork (task 15) ∷
      cpu_line.Exit ∷
      cpu_line.Switch (Some (task 0)) ∷
      cpu_line.Work (work 1000000000 mode.User 2 []) ∷
      []) ∷ []);
  tool_lines = four ((
      tool_line.Why (slot 0) ∷
      tool_line.Read (slot 0) (Some 36) ∷
      []) ∷ (
      tool_line.Open (slot 2) (attr kind.ContextSwitches (tasks.One (task 1)) cpus.Any 0 194 2 48) (Some (slot 0)) ∷
      []) ∷ (
      tool_line.Open (slot 0) (attr kind.Dummy (tasks.One (task 1)) cpus.Any 0 386 12 40) None ∷
      tool_line.Read (slot 0) None ∷
      tool_line.Read (slot 0) None ∷
      tool_line.Open (slot 1) (attr kind.TaskClock (tasks.One (task 1)) cpus.Any 0 131 3 0) (Some (slot 0)) ∷
      []) ∷ []);
  readers = [];
  order = by_tool 2 ∷ by_tool 2 ∷ by_tool 2 ∷ by_tool 0 ∷ by_cpu 0 ∷ by_tool 0 ∷ by_cpu 0 ∷ by_tool 2 ∷ by_cpu 0 ∷ by_cpu 0 ∷ by_cpu 0 ∷ by_cpu 0 ∷
      by_cpu 0 ∷ by_tool 1 ∷ by_cpu 0 ∷ by_cpu 0 ∷ [];
}

commands_024_replies : List Reply
commands_024_replies = reply.Ok ∷ reply.Read (1 ∷ 0 ∷ 1 ∷ []) ∷ reply.Read (1 ∷ 0 ∷ 1 ∷ []) ∷ reply.Why why.Away ∷ reply.Ok ∷
    reply.Read (1 ∷ 0 ∷ 1 ∷ []) ∷ reply.Ok ∷ reply.Ok ∷ reply.Ok ∷ reply.Ok ∷ reply.Ok ∷ reply.Ok ∷ reply.Ok ∷ reply.Refused reason.NoTask ∷
    reply.Ok ∷ reply.Ok ∷ []

commands_024-answers : Answers commands_024 commands_024_replies
unfolding Computed commands_024 commands_024_replies
commands_024-answers = computed commands_024 commands_024_replies (refl, (refl, (refl, (refl, (refl, (refl, (refl, (refl, (refl, (refl, (refl, (refl, (refl, (refl, (refl, (refl, tt))))))))))))))))

commands_025 : Scripted
commands_025 = record {
  cpus = 2;
  pmus = pmu 6 3 ∷ [];
  kinds = kind_line (codes "cache-references") 0 63 ∷ kind_line (codes "branch-misses") 0 32 ∷ kind_line (codes "order") 0 18 ∷ [];
  tasks = task 37 ∷ task 43 ∷ task 62 ∷ [];
  rings = [];
  cpu_lines = eight ((
      cpu_line.Switch (Some (task 62)) ∷
      cpu_line.Work (work 16 mode.Kernel 4194564 (1000000000 ∷ 0 ∷ 0 ∷ [])) ∷
      cpu_line.Work (work 0 mode.Kernel 4197984 (14 ∷ 0 ∷ 2 ∷ [])) ∷
      cpu_line.Fork (task 58) ∷
      cpu_line.Work (work 3463 mode.Kernel 0 (0 ∷ 0 ∷ 2 ∷ [])) ∷
      []) ∷ (
      cpu_line.Switch (Some (task 43)) ∷
      []) ∷ []);
  tool_lines = four ((
      tool_line.Open (slot 104) (attr (kind.Hard 2) tasks.All cpus.Any 0 71 3 35) None ∷
      tool_line.Open (slot 1) (attr (kind.Hard 1) tasks.All (cpus.One (cpu 1)) 0 65921 3 3) None ∷
      tool_line.Why (slot 1) ∷
      tool_line.Read (slot 1) None ∷
      tool_line.Reset (slot 0) true ∷
      tool_line.Read (slot 1) (Some 18446744073709551615) ∷
      tool_line.Read (slot 0) None ∷
      tool_line.Read (slot 2) None ∷
      []) ∷ (
      tool_line.Open (slot 0) (attr (kind.Hard 1) (tasks.One (task 62)) cpus.Any 0 258 19 2) None ∷
      tool_line.Open (slot 2) (attr (kind.Hard 0) (tasks.One (task 43)) (cpus.One (cpu 1)) 0 66372 3 0) None ∷
      []) ∷ []);
  readers = [];
  order = by_cpu 0 ∷ by_tool 0 ∷ by_tool 1 ∷ by_cpu 0 ∷ by_tool 0 ∷ by_tool 1 ∷ by_cpu 0 ∷ by_tool 0 ∷ by_tool 0 ∷ by_tool 0 ∷ by_cpu 1 ∷ by_tool 0 ∷
      by_cpu 0 ∷ by_cpu 0 ∷ by_tool 0 ∷ by_tool 0 ∷ [];
}

commands_025_replies : List Reply
commands_025_replies = reply.Ok ∷ reply.Refused reason.NoPlace ∷ reply.Ok ∷ reply.Ok ∷ reply.Ok ∷ reply.Ok ∷ reply.Ok ∷ reply.Why why.Off ∷
    reply.Read (0 ∷ 0 ∷ 0 ∷ []) ∷ reply.Ok ∷ reply.Ok ∷ reply.Read (0 ∷ 0 ∷ 0 ∷ []) ∷ reply.Ok ∷ reply.Ok ∷ reply.Read (0 ∷ 3479 ∷ 3479 ∷ 0 ∷ []) ∷
    reply.Read (0 ∷ 0 ∷ 0 ∷ []) ∷ []

commands_025-answers : Answers commands_025 commands_025_replies
unfolding Computed commands_025 commands_025_replies
commands_025-answers = computed commands_025 commands_025_replies (refl, (refl, (refl, (refl, (refl, (refl, (refl, (refl, (refl, (refl, (refl, (refl, (refl, (refl, (refl, (refl, tt))))))))))))))))

commands_026 : Scripted
commands_026 = record {
  cpus = 2;
  pmus = pmu 6 3 ∷ [];
  kinds = kind_line (codes "order") 0 63 ∷ kind_line (codes "user") 0 63 ∷ kind_line (codes "lzzl4ecy") 0 63 ∷
      kind_line (codes "cache-misses") 0 63 ∷ [];
  tasks = task 0 ∷ [];
  rings = [];
  cpu_lines = eight ((
      cpu_line.Switch (Some (task 0)) ∷
      cpu_line.Work (work 0 mode.Kernel 4197479 (0 ∷ 0 ∷ 0 ∷ 1 ∷ [])) ∷
      cpu_line.Work (work 1000000000 mode.User 4197877 (0 ∷ 5 ∷ 5 ∷ 0 ∷ [])) ∷
      cpu_line.Tick ∷
      cpu_line.Work (work 0 mode.User 0 (0 ∷ 0 ∷ 0 ∷ 0 ∷ [])) ∷
      cpu_line.Work (work 0 mode.Kernel 8079980880081874607 (5 ∷ 0 ∷ 3 ∷ 0 ∷ [])) ∷
      []) ∷ (
      cpu_line.Exit ∷
      []) ∷ []);
  tool_lines = four ((
      tool_line.Open (slot 211) (attr (kind.Hard 2) (tasks.One (task 0)) cpus.Any 9223372036854775807 65537 15 0) None ∷
      tool_line.Period (slot 211) 20 ∷
      tool_line.Read (slot 238) (Some 18446744073709551615) ∷
      tool_line.Open (slot 0) (attr kind.TaskClock tasks.All (cpus.One (cpu 0)) 0 1 30 11) None ∷
      tool_line.Open (slot 1) (attr (kind.Hard 3) (tasks.One (task 0)) cpus.Any 0 66434 13 0) (Some (slot 211)) ∷
      tool_line.Open (slot 223) (attr (kind.Hard 1) tasks.All (cpus.One (cpu 1)) 0 256 3 50) (Some (slot 0)) ∷
      []) ∷ (
      tool_line.Read (slot 1) None ∷
      []) ∷ (
      tool_line.Read (slot 211) None ∷
      tool_line.Why (slot 0) ∷
      []) ∷ []);
  readers = [];
  order = by_cpu 0 ∷ by_tool 0 ∷ by_cpu 0 ∷ by_tool 0 ∷ by_cpu 0 ∷ by_tool 0 ∷ by_cpu 0 ∷ by_tool 2 ∷ by_cpu 0 ∷ by_tool 0 ∷ by_tool 0 ∷ by_tool 0 ∷
      by_tool 2 ∷ by_cpu 1 ∷ by_cpu 0 ∷ by_tool 1 ∷ [];
}

commands_026_replies : List Reply
commands_026_replies = reply.Ok ∷ reply.Ok ∷ reply.Ok ∷ reply.Ok ∷ reply.Ok ∷ reply.Refused reason.NoEvent ∷ reply.Ok ∷
    reply.Read (1 ∷ 1000000000 ∷ 1000000000 ∷ 5 ∷ 1 ∷ []) ∷ reply.Ok ∷ reply.Ok ∷ reply.Ok ∷ reply.Refused reason.OtherContext ∷ reply.Why why.Off ∷
    reply.Refused reason.Idle ∷ reply.Ok ∷ reply.Read (2 ∷ 1000000000 ∷ 8 ∷ 1 ∷ 0 ∷ 3 ∷ []) ∷ []

commands_026-answers : Answers commands_026 commands_026_replies
unfolding Computed commands_026 commands_026_replies
commands_026-answers = computed commands_026 commands_026_replies (refl, (refl, (refl, (refl, (refl, (refl, (refl, (refl, (refl, (refl, (refl, (refl, (refl, (refl, (refl, (refl, tt))))))))))))))))

commands_028 : Scripted
commands_028 = record {
  cpus = 8;
  pmus = pmu 16 255 ∷ [];
  kinds = kind_line (codes "cache-misses") 0 65535 ∷ kind_line (codes "b") 0 512 ∷ kind_line (codes "rzta") 0 56365 ∷
      kind_line (codes "cycles") 0 43718 ∷ [];
  tasks = task 0 ∷ [];
  rings = [];
  cpu_lines = eight ((
      cpu_line.Work (work 19 mode.User 4195775 (0 ∷ 0 ∷ 0 ∷ 1000000 ∷ [])) ∷
      []) ∷ [] ∷ (
      cpu_line.Work (work 0 mode.User 4195075 (1000000 ∷ 0 ∷ 0 ∷ 0 ∷ [])) ∷
      []) ∷ [] ∷ [] ∷ (
      cpu_line.Work (work 17 mode.User 5 (1000000 ∷ 0 ∷ 1000000 ∷ 0 ∷ [])) ∷
      []) ∷ [] ∷ (
      cpu_line.Switch (Some (task 0)) ∷
      cpu_line.Work (work 0 mode.User 4197174 (0 ∷ 10611633 ∷ 3 ∷ 1000000 ∷ [])) ∷
      cpu_line.Exit ∷
      []) ∷ []);
  tool_lines = four ((
      tool_line.Why (slot 1) ∷
      tool_line.Seats (cpu 6) ∷
      tool_line.Open (slot 2) (attr kind.CpuMigrations (tasks.One (task 0)) cpus.Any 0 66305 0 32) (Some (slot 0)) ∷
      []) ∷ (
      tool_line.Read (slot 0) None ∷
      tool_line.Read (slot 2) None ∷
      tool_line.Open (slot 3) (attr (kind.Hard 1) (tasks.One (task 0)) cpus.Any 0 65858 15 16) (Some (slot 0)) ∷
      []) ∷ (
      tool_line.Open (slot 0) (attr (kind.Hard 1) (tasks.One (task 0)) cpus.Any 1000000 135 3 32) None ∷
      tool_line.Open (slot 1) (attr (kind.Hard 0) (tasks.One (task 0)) cpus.Any 1000000 705 3 0) (Some (slot 0)) ∷
      tool_line.Read (slot 1) None ∷
      tool_line.Reset (slot 2) false ∷
      []) ∷ []);
  readers = [];
  order = by_tool 2 ∷ by_tool 1 ∷ by_cpu 7 ∷ by_tool 2 ∷ by_cpu 7 ∷ by_tool 0 ∷ by_tool 2 ∷ by_cpu 2 ∷ by_tool 0 ∷ by_cpu 5 ∷ by_tool 0 ∷ by_tool 1 ∷
      by_tool 1 ∷ by_cpu 7 ∷ by_tool 2 ∷ by_cpu 0 ∷ [];
}

commands_028_replies : List Reply
commands_028_replies = reply.Ok ∷ reply.Read (0 ∷ 0 ∷ 0 ∷ []) ∷ reply.Ok ∷ reply.Ok ∷ reply.Ok ∷ reply.Why why.On ∷ reply.Read (0 ∷ 0 ∷ 0 ∷ []) ∷
    reply.Ok ∷ reply.Seats [] ∷ reply.Ok ∷ reply.Ok ∷ reply.Read (0 ∷ []) ∷ reply.Refused (reason.NoAssignment (slots (0 ∷ 3 ∷ []))) ∷ reply.Ok ∷
    reply.Ok ∷ reply.Ok ∷ []

commands_028-answers : Answers commands_028 commands_028_replies
unfolding Computed commands_028 commands_028_replies
commands_028-answers = computed commands_028 commands_028_replies (refl, (refl, (refl, (refl, (refl, (refl, (refl, (refl, ((refl, refl), (refl, (refl, (refl, (refl, (refl, (refl, (refl, tt))))))))))))))))

commands_030 : Scripted
commands_030 = record {
  cpus = 1;
  pmus = pmu 6 1 ∷ [];
  kinds = [];
  tasks = task 0 ∷ task 1 ∷ task 2 ∷ task 3 ∷ [];
  rings = [];
  cpu_lines = eight ((
      cpu_line.Switch (Some (task 0)) ∷
      cpu_line.Work (work 2 mode.Kernel 4198366 []) ∷
      cpu_line.Work (work 681727536 mode.User 4194502 []) ∷
      cpu_line.Work (work 1000000000 mode.Kernel 4194741 []) ∷
      cpu_line.Tick ∷
      []) ∷ []);
  tool_lines = four ((
      tool_line.Open (slot 0) (attr kind.TaskClock tasks.All (cpus.One (cpu 0)) 0 644 31 2) None ∷
      tool_line.Close (slot 0) ∷
      tool_line.Open (slot 1) (attr kind.TaskClock tasks.All (cpus.One (cpu 0)) 0 66115 23 0) None ∷
      tool_line.Why (slot 1) ∷
      tool_line.Open (slot 59) (attr kind.ContextSwitches tasks.All (cpus.One (cpu 0)) 0 130 0 0) (Some (slot 1)) ∷
      tool_line.Why (slot 1) ∷
      tool_line.Read (slot 1) (Some 27) ∷
      tool_line.Open (slot 2) (attr kind.CpuMigrations tasks.All (cpus.One (cpu 0)) 0 65601 3 0) (Some (slot 1)) ∷
      tool_line.Read (slot 1) None ∷
      tool_line.Read (slot 2) None ∷
      tool_line.Read (slot 59) None ∷
      []) ∷ []);
  readers = [];
  order = by_tool 0 ∷ by_tool 0 ∷ by_cpu 0 ∷ by_tool 0 ∷ by_tool 0 ∷ by_cpu 0 ∷ by_cpu 0 ∷ by_tool 0 ∷ by_tool 0 ∷ by_tool 0 ∷ by_tool 0 ∷ by_cpu 0 ∷
      by_cpu 0 ∷ by_tool 0 ∷ by_tool 0 ∷ by_tool 0 ∷ [];
}

commands_030_replies : List Reply
commands_030_replies = reply.Ok ∷ reply.Ok ∷ reply.Ok ∷ reply.Ok ∷ reply.Why why.On ∷ reply.Ok ∷ reply.Ok ∷ reply.Ok ∷ reply.Why why.On ∷
    reply.Refused reason.NoSpace ∷ reply.Ok ∷ reply.Ok ∷ reply.Ok ∷ reply.Read (1681727538 ∷ 1681727538 ∷ 1681727538 ∷ 2 ∷ 0 ∷ []) ∷
    reply.Read (0 ∷ 1000000000 ∷ 1000000000 ∷ []) ∷ reply.Read (0 ∷ []) ∷ []

commands_030-answers : Answers commands_030 commands_030_replies
unfolding Computed commands_030 commands_030_replies
commands_030-answers = computed commands_030 commands_030_replies (refl, (refl, (refl, (refl, (refl, (refl, (refl, (refl, (refl, (refl, (refl, (refl, (refl, (refl, (refl, (refl, tt))))))))))))))))

commands_031 : Scripted
commands_031 = record {
  cpus = 4;
  pmus = pmu 16 15 ∷ [];
  kinds = [];
  tasks = task 11 ∷ task 52 ∷ task 56 ∷ [];
  rings = [];
  cpu_lines = eight ((
      cpu_line.Tick ∷
      cpu_line.Switch (Some (task 56)) ∷
      cpu_line.Tick ∷
      []) ∷ (
      cpu_line.Switch (Some (task 11)) ∷
      []) ∷ (
      cpu_line.Switch (Some (task 52)) ∷
      []) ∷ []);
  tool_lines = four ((
      tool_line.Open (slot 1) (attr kind.Dummy tasks.All (cpus.One (cpu 0)) 0 130 15 32) None ∷
      tool_line.Enable (slot 1) false ∷
      tool_line.Read (slot 35) None ∷
      []) ∷ (
      tool_line.Open (slot 0) (attr kind.TaskClock (tasks.One (task 52)) cpus.Any 0 641 24 23) None ∷
      tool_line.Read (slot 0) None ∷
      tool_line.Open (slot 2) (attr kind.ContextSwitches (tasks.One (task 52)) (cpus.One (cpu 0)) 0 640 22 11) None ∷
      tool_line.Open (slot 3) (attr kind.ContextSwitches (tasks.One (task 11)) cpus.Any 0 65732 3 22) None ∷
      tool_line.Open (slot 193) (attr kind.ContextSwitches (tasks.One (task 56)) (cpus.One (cpu 1)) 0 706 22 1) None ∷
      tool_line.Open (slot 4) (attr kind.CpuMigrations (tasks.One (task 56)) (cpus.One (cpu 3)) 0 258 3 0) None ∷
      tool_line.Period (slot 4) 6 ∷
      tool_line.Read (slot 53) (Some 18446744073709551615) ∷
      []) ∷ []);
  readers = [];
  order = by_tool 1 ∷ by_tool 0 ∷ by_cpu 2 ∷ by_tool 1 ∷ by_cpu 0 ∷ by_tool 0 ∷ by_tool 1 ∷ by_tool 1 ∷ by_tool 1 ∷ by_cpu 0 ∷ by_tool 1 ∷
      by_tool 0 ∷ by_tool 1 ∷ by_tool 1 ∷ by_cpu 1 ∷ by_cpu 0 ∷ [];
}

commands_031_replies : List Reply
commands_031_replies = reply.Ok ∷ reply.Ok ∷ reply.Ok ∷ reply.Read (1 ∷ 0 ∷ 0 ∷ []) ∷ reply.Ok ∷ reply.Ok ∷ reply.Ok ∷ reply.Ok ∷ reply.Ok ∷
    reply.Ok ∷ reply.Ok ∷ reply.Refused reason.NoEvent ∷ reply.Refused reason.NotSampling ∷ reply.Refused reason.NoEvent ∷ reply.Ok ∷ reply.Ok ∷ []

commands_031-answers : Answers commands_031 commands_031_replies
unfolding Computed commands_031 commands_031_replies
commands_031-answers = computed commands_031 commands_031_replies (refl, (refl, (refl, (refl, (refl, (refl, (refl, (refl, (refl, (refl, (refl, (refl, (refl, (refl, (refl, (refl, tt))))))))))))))))

commands_033 : Scripted
commands_033 = record {
  cpus = 4;
  pmus = pmu 8 15 ∷ [];
  kinds = kind_line (codes "raz9nwa7") 0 255 ∷ kind_line (codes "instructions") 0 61 ∷ kind_line (codes "uokghowm") 0 175 ∷ [];
  tasks = task 30 ∷ [];
  rings = [];
  cpu_lines = eight ((
      cpu_line.Work (work 6 mode.User 4198063 (100 ∷ 0 ∷ 0 ∷ [])) ∷
      cpu_line.Fork (task 63) ∷
      []) ∷ (
      cpu_line.Tick ∷
      []) ∷ (
      cpu_line.Tick ∷
      []) ∷ []);
  tool_lines = four ((
      tool_line.Open (slot 186) (attr (kind.Hard 2) tasks.All (cpus.One (cpu 2)) 0 135 19 18) None ∷
      tool_line.Why (slot 186) ∷
      []) ∷ [] ∷ (
      tool_line.Read (slot 0) (Some 112) ∷
      tool_line.Why (slot 0) ∷
      tool_line.Read (slot 186) None ∷
      tool_line.Seats (cpu 1) ∷
      tool_line.Seats (cpu 2) ∷
      tool_line.Seats (cpu 3) ∷
      []) ∷ (
      tool_line.Open (slot 0) (attr (kind.Hard 1) (tasks.One (task 30)) cpus.Any 100 324 31 18) None ∷
      tool_line.Disable (slot 6) false ∷
      tool_line.Read (slot 0) None ∷
      tool_line.Seats (cpu 0) ∷
      []) ∷ []);
  readers = [];
  order = by_tool 3 ∷ by_cpu 0 ∷ by_cpu 2 ∷ by_cpu 0 ∷ by_cpu 1 ∷ by_tool 2 ∷ by_tool 3 ∷ by_tool 0 ∷ by_tool 3 ∷ by_tool 2 ∷ by_tool 2 ∷ by_tool 0 ∷
      by_tool 3 ∷ by_tool 2 ∷ by_tool 2 ∷ by_tool 2 ∷ [];
}

commands_033_replies : List Reply
commands_033_replies = reply.Ok ∷ reply.Ok ∷ reply.Ok ∷ reply.Refused reason.Idle ∷ reply.Ok ∷ reply.Read (1 ∷ 0 ∷ 0 ∷ 0 ∷ 1 ∷ 0 ∷ []) ∷
    reply.Refused reason.NoEvent ∷ reply.Ok ∷ reply.Read (1 ∷ 0 ∷ 0 ∷ 0 ∷ 1 ∷ 0 ∷ []) ∷ reply.Why why.Away ∷ reply.Read (0 ∷ 0 ∷ 0 ∷ 0 ∷ []) ∷
    reply.Why why.On ∷ reply.Seats [] ∷ reply.Seats [] ∷ reply.Seats ((slot 186, 0) ∷ []) ∷ reply.Seats [] ∷ []

commands_033-answers : Answers commands_033 commands_033_replies
unfolding Computed commands_033 commands_033_replies
commands_033-answers = computed commands_033 commands_033_replies (refl, (refl, (refl, (refl, (refl, (refl, (refl, (refl, (refl, (refl, (refl, (refl, ((refl, refl), ((refl, refl), ((refl, refl), ((refl, refl), tt))))))))))))))))
