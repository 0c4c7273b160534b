-- Worked cases, written by tools/maintain/script_terms.py from texts and their reports.
use Rattle.std.specs.Prelude.{true, false, List, [], ◌∷◌, Some, None, codes}
use Rattle.std.proofs.Common.{refl}
use Rattle.perf_base.specs.declared.attr.Kind.TheVariants as kind
use Rattle.perf_base.specs.declared.attr.TaskSel.TheVariants as tasks
use Rattle.perf_base.specs.declared.attr.CpuSel.TheVariants as cpus
use Rattle.perf_base.specs.declared.lines.Mode.TheVariants as mode
use Rattle.perf_base.specs.declared.lines.CpuLine.TheVariants as cpu_line
use Rattle.perf_base.specs.declared.lines.ToolLine.TheVariants as tool_line
use Rattle.perf_base.specs.declared.standing.Rule.TheVariants as rule
use Rattle.perf_base.specs.declared.standing.Cause.TheVariants as cause
use Rattle.perf_base.specs.declared.standing.Why.TheVariants as why
use Rattle.perf_base.specs.declared.reasons.Reason.TheVariants as reason
use Rattle.perf_base.specs.declared.reply.Reply.{Reply}
use Rattle.perf_base.specs.declared.reply.Reply.TheVariants as reply
use Rattle.perf_base.specs.Scripts.{Scripted}
use Rattle.worked_theorems.proofs.answers.Words.{cpu, task, slot, slots, by_cpu, by_tool, pmu, kind_line, attr, work, eight, four}
use Rattle.worked_theorems.proofs.answers.Answering.{Answers, Computed, computed}

commands_007 : Scripted
commands_007 = record {
  cpus = 2;
  pmus = pmu 4 3 ∷ [];
  kinds = kind_line (codes "idle") 0 1 ∷ kind_line (codes "p0") 0 8 ∷ [];
  tasks = [];
  rings = [];
  cpu_lines = eight ((
      cpu_line.Work (work 3713 mode.User 13 (1 ∷ 1 ∷ [])) ∷
      cpu_line.Exit ∷
      []) ∷ (
      cpu_line.Switch None ∷
      cpu_line.Work (work 13 mode.User 0 (0 ∷ 0 ∷ [])) ∷
      []) ∷ []);
  tool_lines = four ((
      tool_line.Open (slot 77) (attr (kind.Hard 1) tasks.All (cpus.One (cpu 1)) 0 256 3 0) None ∷
      tool_line.Close (slot 0) ∷
      tool_line.Read (slot 111) None ∷
      tool_line.Seats (cpu 1) ∷
      []) ∷ (
      tool_line.Open (slot 111) (attr (kind.Hard 0) tasks.All (cpus.One (cpu 0)) 0 65859 14 0) None ∷
      tool_line.Disable (slot 206) true ∷
      tool_line.Open (slot 0) (attr kind.CpuMigrations tasks.All (cpus.One (cpu 0)) 0 515 3 0) (Some (slot 111)) ∷
      tool_line.Read (slot 77) None ∷
      tool_line.Read (slot 77) None ∷
      tool_line.Why (slot 111) ∷
      tool_line.Seats (cpu 0) ∷
      []) ∷ []);
  readers = [];
  order = by_cpu 0 ∷ by_tool 0 ∷ by_tool 1 ∷ by_cpu 1 ∷ by_tool 1 ∷ by_tool 1 ∷ by_tool 0 ∷ by_cpu 0 ∷ by_cpu 1 ∷ by_tool 1 ∷ by_tool 1 ∷ by_tool 0 ∷
      by_tool 1 ∷ by_tool 1 ∷ by_tool 0 ∷ [];
}

commands_007_replies : List Reply
commands_007_replies = reply.Ok ∷ reply.Ok ∷ reply.Ok ∷ reply.Ok ∷ reply.Refused reason.NoEvent ∷ reply.Ok ∷ reply.Ok ∷ reply.Refused reason.Idle ∷
    reply.Ok ∷ reply.Read (0 ∷ 13 ∷ 13 ∷ []) ∷ reply.Read (0 ∷ 13 ∷ 13 ∷ []) ∷ reply.Read (1 ∷ 0 ∷ 0 ∷ 2 ∷ []) ∷ reply.Why why.On ∷
    reply.Seats ((slot 111, 0) ∷ []) ∷ reply.Seats ((slot 77, 3) ∷ []) ∷ []

commands_007-answers : Answers commands_007 commands_007_replies
unfolding Computed commands_007 commands_007_replies
commands_007-answers = computed commands_007 commands_007_replies (refl, (refl, (refl, (refl, (refl, (refl, (refl, (refl, (refl, (refl, (refl, (refl, (refl, ((refl, refl), ((refl, refl), tt)))))))))))))))

commands_008 : Scripted
commands_008 = record {
  cpus = 3;
  pmus = pmu 8 7 ∷ [];
  kinds = kind_line (codes "y") 0 64 ∷ [];
  tasks = task 22 ∷ task 53 ∷ [];
  rings = [];
  cpu_lines = eight ((
      cpu_line.Tick ∷
      cpu_line.Exit ∷
      cpu_line.Tick ∷
      cpu_line.Switch (Some (task 22)) ∷
      []) ∷ []);
  tool_lines = four ((
      tool_line.Open (slot 0) (attr (kind.Hard 0) tasks.All (cpus.One (cpu 0)) 1 4 27 2) None ∷
      tool_line.Open (slot 1) (attr kind.TaskClock tasks.All (cpus.One (cpu 2)) 0 66051 3 0) None ∷
      tool_line.Read (slot 1) None ∷
      tool_line.Reset (slot 2) false ∷
      tool_line.Read (slot 1) None ∷
      tool_line.Open (slot 4) (attr (kind.Hard 0) tasks.All (cpus.One (cpu 0)) 0 324 3 2) (Some (slot 0)) ∷
      []) ∷ (
      tool_line.Open (slot 2) (attr kind.Dummy tasks.All (cpus.One (cpu 0)) 0 516 25 2) (Some (slot 0)) ∷
      tool_line.Open (slot 3) (attr kind.CpuMigrations tasks.All (cpus.One (cpu 2)) 0 65605 9 0) (Some (slot 1)) ∷
      tool_line.Period (slot 222) 3 ∷
      tool_line.Why (slot 2) ∷
      tool_line.Read (slot 0) None ∷
      tool_line.Open (slot 125) (attr (kind.Hard 0) tasks.All (cpus.One (cpu 0)) 0 65923 3 34) (Some (slot 0)) ∷
      []) ∷ []);
  readers = [];
  order = by_cpu 0 ∷ by_tool 0 ∷ by_tool 0 ∷ by_tool 1 ∷ by_cpu 0 ∷ by_tool 0 ∷ by_tool 0 ∷ by_cpu 0 ∷ by_tool 0 ∷ by_cpu 0 ∷ by_tool 1 ∷ by_tool 1 ∷
      by_tool 1 ∷ by_tool 1 ∷ by_tool 1 ∷ by_tool 0 ∷ [];
}

commands_008_replies : List Reply
commands_008_replies = reply.Ok ∷ reply.Ok ∷ reply.Ok ∷ reply.Ok ∷ reply.Refused reason.Idle ∷ reply.Read (0 ∷ 0 ∷ 0 ∷ []) ∷ reply.Ok ∷ reply.Ok ∷
    reply.Read (0 ∷ 0 ∷ 0 ∷ []) ∷ reply.Ok ∷ reply.Ok ∷ reply.Refused reason.NoEvent ∷ reply.Why why.On ∷
    reply.Read (2 ∷ 0 ∷ 0 ∷ 0 ∷ 0 ∷ 0 ∷ 0 ∷ []) ∷ reply.Refused (reason.NoAssignment (slots (0 ∷ 125 ∷ []))) ∷
    reply.Refused (reason.NoAssignment (slots (0 ∷ 4 ∷ []))) ∷ []

commands_008-answers : Answers commands_008 commands_008_replies
unfolding Computed commands_008 commands_008_replies
commands_008-answers = computed commands_008 commands_008_replies (refl, (refl, (refl, (refl, (refl, (refl, (refl, (refl, (refl, (refl, (refl, (refl, (refl, (refl, (refl, (refl, tt))))))))))))))))

commands_010 : Scripted
commands_010 = record {
  cpus = 3;
  pmus = pmu 2 7 ∷ [];
  kinds = kind_line (codes "x") 0 3 ∷ kind_line (codes "misses") 0 1 ∷ [];
  tasks = task 47 ∷ task 53 ∷ [];
  rings = [];
  cpu_lines = eight ((
      cpu_line.Switch (Some (task 47)) ∷
      cpu_line.Switch (Some (task 53)) ∷
      cpu_line.Fork (task 39) ∷
      cpu_line.Work (work 0 mode.User 7141517832350390012 (999999 ∷ 0 ∷ [])) ∷
      cpu_line.Switch (Some (task 58)) ∷
      []) ∷ (
      cpu_line.Work (work 9 mode.Kernel 4195723 (0 ∷ 5 ∷ [])) ∷
      []) ∷ (
      cpu_line.Work (work 12 mode.User 4 (0 ∷ 1000000 ∷ [])) ∷
      cpu_line.Tick ∷
      []) ∷ []);
  tool_lines = four ((
      tool_line.Open (slot 1) (attr (kind.Hard 1) (tasks.One (task 53)) (cpus.One (cpu 2)) 6000000 66433 3 1) (Some (slot 0)) ∷
      tool_line.Read (slot 0) (Some 72) ∷
      tool_line.Open (slot 2) (attr (kind.Hard 0) (tasks.One (task 53)) (cpus.One (cpu 2)) 1000000 960 31 7) None ∷
      []) ∷ (
      tool_line.Open (slot 0) (attr (kind.Hard 1) (tasks.One (task 53)) (cpus.One (cpu 2)) 0 962 13 33) None ∷
      []) ∷ (
      tool_line.Period (slot 0) 9223372036854775807 ∷
      tool_line.Open (slot 1) (attr (kind.Hard 1) (tasks.One (task 47)) cpus.Any 0 2 3 16) None ∷
      tool_line.Read (slot 1) None ∷
      tool_line.Read (slot 1) (Some 18446744073709551615) ∷
      []) ∷ []);
  readers = [];
  order = by_cpu 2 ∷ by_cpu 0 ∷ by_tool 1 ∷ by_tool 0 ∷ by_tool 2 ∷ by_cpu 0 ∷ by_tool 2 ∷ by_cpu 2 ∷ by_tool 2 ∷ by_tool 2 ∷ by_cpu 0 ∷ by_cpu 0 ∷
      by_cpu 1 ∷ by_tool 0 ∷ by_tool 0 ∷ by_cpu 0 ∷ [];
}

commands_010_replies : List Reply
commands_010_replies = reply.Ok ∷ reply.Ok ∷ reply.Ok ∷ reply.Refused (reason.NoAssignment (slots (0 ∷ 1 ∷ []))) ∷ reply.Refused reason.NotSampling ∷
    reply.Ok ∷ reply.Ok ∷ reply.Ok ∷ reply.Read (0 ∷ 0 ∷ 0 ∷ []) ∷ reply.Read (0 ∷ 0 ∷ 0 ∷ []) ∷ reply.Ok ∷ reply.Ok ∷ reply.Ok ∷
    reply.Read (1 ∷ 0 ∷ 0 ∷ 1 ∷ []) ∷ reply.Ok ∷ reply.Refused reason.NoTask ∷ []

commands_010-answers : Answers commands_010 commands_010_replies
unfolding Computed commands_010 commands_010_replies
commands_010-answers = computed commands_010 commands_010_replies (refl, (refl, (refl, (refl, (refl, (refl, (refl, (refl, (refl, (refl, (refl, (refl, (refl, (refl, (refl, (refl, tt))))))))))))))))

commands_011 : Scripted
commands_011 = record {
  cpus = 2;
  pmus = pmu 1 3 ∷ [];
  kinds = kind_line (codes "c") 0 1 ∷ [];
  tasks = task 3 ∷ task 23 ∷ task 45 ∷ [];
  rings = [];
  cpu_lines = eight ((
      cpu_line.Exit ∷
      []) ∷ (
      cpu_line.Work (work 13 mode.Kernel 4196154 (0 ∷ [])) ∷
      cpu_line.Switch (Some (task 45)) ∷
      cpu_line.Work (work 0 mode.User 4197986 (3 ∷ [])) ∷
      cpu_line.Work (work 5 mode.User 4194968 (0 ∷ [])) ∷
      cpu_line.Work (work 5 mode.User 5 (0 ∷ [])) ∷
      cpu_line.Work (work 1 mode.Kernel 4195459 (3 ∷ [])) ∷
      []) ∷ []);
  tool_lines = four ((
      tool_line.Open (slot 0) (attr (kind.Hard 0) (tasks.One (task 45)) (cpus.One (cpu 1)) 0 261 8 0) None ∷
      tool_line.Seats (cpu 1) ∷
      tool_line.Disable (slot 89) false ∷
      []) ∷ (
      tool_line.Open (slot 181) (attr kind.TaskClock (tasks.One (task 45)) (cpus.One (cpu 1)) 0 512 1 0) None ∷
      tool_line.Read (slot 181) None ∷
      []) ∷ (
      tool_line.Read (slot 181) None ∷
      tool_line.Period (slot 181) 9223372036854775808 ∷
      tool_line.Open (slot 1) (attr (kind.Hard 0) (tasks.One (task 23)) (cpus.One (cpu 1)) 0 66304 8 0) None ∷
      tool_line.Open (slot 2) (attr (kind.Hard 0) (tasks.One (task 45)) (cpus.One (cpu 1)) 0 65730 17 0) (Some (slot 0)) ∷
      []) ∷ []);
  readers = [];
  order = by_tool 1 ∷ by_cpu 0 ∷ by_tool 1 ∷ by_cpu 1 ∷ by_tool 2 ∷ by_tool 2 ∷ by_cpu 1 ∷ by_tool 0 ∷ by_tool 2 ∷ by_tool 0 ∷ by_cpu 1 ∷ by_tool 2 ∷
      by_tool 0 ∷ by_cpu 1 ∷ by_cpu 1 ∷ by_cpu 1 ∷ [];
}

commands_011_replies : List Reply
commands_011_replies = reply.Ok ∷ reply.Refused reason.Idle ∷ reply.Read (0 ∷ 0 ∷ []) ∷ reply.Ok ∷ reply.Read (0 ∷ 0 ∷ []) ∷
    reply.Refused reason.NotSampling ∷ reply.Ok ∷ reply.Ok ∷ reply.Ok ∷ reply.Seats ((slot 0, 0) ∷ []) ∷ reply.Ok ∷
    reply.Refused (reason.NoAssignment (slots (0 ∷ 2 ∷ []))) ∷ reply.Refused reason.NoEvent ∷ reply.Ok ∷ reply.Ok ∷ reply.Ok ∷ []

commands_011-answers : Answers commands_011 commands_011_replies
unfolding Computed commands_011 commands_011_replies
commands_011-answers = computed commands_011 commands_011_replies (refl, (refl, (refl, (refl, (refl, (refl, (refl, (refl, (refl, ((refl, refl), (refl, (refl, (refl, (refl, (refl, (refl, tt))))))))))))))))

commands_012 : Scripted
commands_012 = record {
  cpus = 8;
  pmus = pmu 1 255 ∷ [];
  kinds = kind_line (codes "bq234pm3") 0 1 ∷ [];
  tasks = [];
  rings = [];
  cpu_lines = eight ((
      cpu_line.Fork (task 56) ∷
      []) ∷ (
      cpu_line.Work (work 1 mode.User 13 (0 ∷ [])) ∷
      []) ∷ [] ∷ [] ∷ (
      cpu_line.Tick ∷
      []) ∷ (
      cpu_line.Work (work 381 mode.User 4196299 (2 ∷ [])) ∷
      cpu_line.Work (work 1 mode.User 13 (0 ∷ [])) ∷
      []) ∷ [] ∷ (
      cpu_line.Work (work 0 mode.User 4196720 (10 ∷ [])) ∷
      []) ∷ []);
  tool_lines = four ((
      tool_line.Open (slot 0) (attr (kind.Hard 0) tasks.All (cpus.One (cpu 1)) 0 65664 5 4) None ∷
      tool_line.Open (slot 1) (attr kind.TaskClock tasks.All (cpus.One (cpu 1)) 0 966 35 1) (Some (slot 0)) ∷
      tool_line.Why (slot 127) ∷
      []) ∷ (
      tool_line.Open (slot 1) (attr (kind.Hard 0) tasks.All (cpus.One (cpu 1)) 0 323 3 0) (Some (slot 0)) ∷
      tool_line.Open (slot 1) (attr kind.ContextSwitches tasks.All (cpus.One (cpu 1)) 0 65542 26 0) (Some (slot 0)) ∷
      tool_line.Read (slot 0) None ∷
      []) ∷ (
      tool_line.Open (slot 2) (attr (kind.Hard 0) tasks.All cpus.Any 0 64 9 8) None ∷
      tool_line.Enable (slot 0) true ∷
      []) ∷ (
      tool_line.Read (slot 0) None ∷
      tool_line.Read (slot 0) None ∷
      []) ∷ []);
  readers = [];
  order = by_cpu 5 ∷ by_cpu 1 ∷ by_tool 0 ∷ by_tool 1 ∷ by_tool 3 ∷ by_tool 3 ∷ by_cpu 4 ∷ by_cpu 0 ∷ by_tool 0 ∷ by_cpu 5 ∷ by_tool 1 ∷ by_tool 0 ∷
      by_cpu 7 ∷ by_tool 2 ∷ by_tool 2 ∷ by_tool 1 ∷ [];
}

commands_012_replies : List Reply
commands_012_replies = reply.Ok ∷ reply.Ok ∷ reply.Ok ∷ reply.Refused (reason.NoAssignment (slots (0 ∷ 1 ∷ []))) ∷ reply.Read (0 ∷ 0 ∷ 1 ∷ []) ∷
    reply.Read (0 ∷ 0 ∷ 1 ∷ []) ∷ reply.Ok ∷ reply.Refused reason.Idle ∷ reply.Refused reason.BadFormatBits ∷ reply.Ok ∷ reply.Ok ∷
    reply.Refused reason.NoEvent ∷ reply.Ok ∷ reply.Refused reason.NoPlace ∷ reply.Ok ∷ reply.Read (0 ∷ 0 ∷ 1 ∷ []) ∷ []

commands_012-answers : Answers commands_012 commands_012_replies
unfolding Computed commands_012 commands_012_replies
commands_012-answers = computed commands_012 commands_012_replies (refl, (refl, (refl, (refl, (refl, (refl, (refl, (refl, (refl, (refl, (refl, (refl, (refl, (refl, (refl, (refl, tt))))))))))))))))

commands_013 : Scripted
commands_013 = record {
  cpus = 1;
  pmus = pmu 8 1 ∷ [];
  kinds = kind_line (codes "cache-references") 0 151 ∷ kind_line (codes "c") 0 15 ∷ kind_line (codes "m-fy2wou9u-") 0 16 ∷
      kind_line (codes "ipc") 0 32 ∷ kind_line (codes "misses") 0 18 ∷ [];
  tasks = task 28 ∷ [];
  rings = [];
  cpu_lines = eight ((
      cpu_line.Work (work 1000000000 mode.User 13 (0 ∷ 0 ∷ 3 ∷ 0 ∷ 0 ∷ [])) ∷
      cpu_line.Switch (Some (task 28)) ∷
      cpu_line.Work (work 739419714 mode.User 4194421 (3 ∷ 0 ∷ 0 ∷ 2 ∷ 0 ∷ [])) ∷
      cpu_line.Tick ∷
      cpu_line.Work (work 10 mode.Kernel 9385537313195016442 (3 ∷ 0 ∷ 0 ∷ 0 ∷ 0 ∷ [])) ∷
      cpu_line.Tick ∷
      cpu_line.Tick ∷
      cpu_line.Work (work 1000000000 mode.Kernel 3315733664093491718 (0 ∷ 0 ∷ 0 ∷ 0 ∷ 0 ∷ [])) ∷
      cpu_line.Work (work 0 mode.Kernel 4198051 (0 ∷ 0 ∷ 3 ∷ 0 ∷ 3 ∷ [])) ∷
      []) ∷ []);
  tool_lines = four ((
      tool_line.Enable (slot 0) false ∷
      []) ∷ (
      tool_line.Open (slot 0) (attr (kind.Hard 3) (tasks.One (task 28)) (cpus.One (cpu 0)) 0 66053 3 3) None ∷
      tool_line.Open (slot 1) (attr (kind.Hard 1) (tasks.One (task 28)) (cpus.One (cpu 0)) 9223372036854775808 705 21 0) None ∷
      tool_line.Seats (cpu 0) ∷
      []) ∷ (
      tool_line.Why (slot 0) ∷
      tool_line.Read (slot 0) (Some 33) ∷
      tool_line.Seats (cpu 0) ∷
      []) ∷ []);
  readers = [];
  order = by_cpu 0 ∷ by_tool 1 ∷ by_cpu 0 ∷ by_cpu 0 ∷ by_cpu 0 ∷ by_tool 2 ∷ by_cpu 0 ∷ by_cpu 0 ∷ by_cpu 0 ∷ by_cpu 0 ∷ by_tool 2 ∷ by_tool 0 ∷
      by_tool 2 ∷ by_cpu 0 ∷ by_tool 1 ∷ by_tool 1 ∷ [];
}

commands_013_replies : List Reply
commands_013_replies = reply.Ok ∷ reply.Ok ∷ reply.Ok ∷ reply.Ok ∷ reply.Ok ∷ reply.Why why.Off ∷ reply.Ok ∷ reply.Ok ∷ reply.Ok ∷ reply.Ok ∷
    reply.Read (0 ∷ 0 ∷ 0 ∷ []) ∷ reply.Ok ∷ reply.Seats ((slot 0, 5) ∷ []) ∷ reply.Ok ∷ reply.Refused reason.BadPeriod ∷
    reply.Seats ((slot 0, 5) ∷ []) ∷ []

commands_013-answers : Answers commands_013 commands_013_replies
unfolding Computed commands_013 commands_013_replies
commands_013-answers = computed commands_013 commands_013_replies (refl, (refl, (refl, (refl, (refl, (refl, (refl, (refl, (refl, (refl, (refl, (refl, ((refl, refl), (refl, (refl, ((refl, refl), tt))))))))))))))))

commands_016 : Scripted
commands_016 = record {
  cpus = 3;
  pmus = pmu 16 7 ∷ [];
  kinds = kind_line (codes "c") 0 65535 ∷ [];
  tasks = task 0 ∷ task 1 ∷ [];
  rings = [];
  cpu_lines = eight ((
      cpu_line.Switch (Some (task 1)) ∷
      cpu_line.Work (work 9 mode.Kernel 6 (0 ∷ [])) ∷
      []) ∷ (
      cpu_line.Switch (Some (task 0)) ∷
      []) ∷ []);
  tool_lines = four ((
      tool_line.Open (slot 32) (attr (kind.Hard 0) tasks.All (cpus.One (cpu 1)) 7 66310 13 32) None ∷
      tool_line.Why (slot 32) ∷
      tool_line.Read (slot 32) None ∷
      tool_line.Why (slot 0) ∷
      tool_line.Why (slot 1) ∷
      tool_line.Read (slot 32) None ∷
      []) ∷ (
      tool_line.Open (slot 0) (attr kind.CpuMigrations tasks.All (cpus.One (cpu 0)) 0 65536 20 48) None ∷
      tool_line.Open (slot 1) (attr (kind.Hard 0) tasks.All (cpus.One (cpu 1)) 0 260 0 16) (Some (slot 32)) ∷
      []) ∷ (
      tool_line.Open (slot 0) (attr (kind.Hard 0) (tasks.One (task 55)) (cpus.One (cpu 1)) 0 65607 22 0) None ∷
      tool_line.Read (slot 0) None ∷
      tool_line.Read (slot 1) None ∷
      []) ∷ (
      tool_line.Read (slot 0) None ∷
      tool_line.Open (slot 1) (attr (kind.Hard 0) tasks.All (cpus.One (cpu 1)) 0 519 9 0) (Some (slot 0)) ∷
      []) ∷ []);
  readers = [];
  order = by_tool 0 ∷ by_tool 2 ∷ by_tool 0 ∷ by_cpu 1 ∷ by_tool 1 ∷ by_tool 3 ∷ by_cpu 0 ∷ by_tool 3 ∷ by_cpu 0 ∷ by_tool 1 ∷ by_tool 0 ∷
      by_tool 2 ∷ by_tool 0 ∷ by_tool 2 ∷ by_tool 0 ∷ by_tool 0 ∷ [];
}

commands_016_replies : List Reply
commands_016_replies = reply.Ok ∷ reply.Refused reason.NoTask ∷ reply.Why why.On ∷ reply.Ok ∷ reply.Ok ∷ reply.Read (0 ∷ 2 ∷ 0 ∷ []) ∷ reply.Ok ∷
    reply.Refused reason.OtherContext ∷ reply.Ok ∷ reply.Ok ∷ reply.Read (2 ∷ 0 ∷ 0 ∷ 1 ∷ 0 ∷ 3 ∷ []) ∷ reply.Read (0 ∷ 2 ∷ 0 ∷ []) ∷
    reply.Why why.On ∷ reply.Read (0 ∷ []) ∷ reply.Why why.On ∷ reply.Read (2 ∷ 0 ∷ 0 ∷ 1 ∷ 0 ∷ 3 ∷ []) ∷ []

commands_016-answers : Answers commands_016 commands_016_replies
unfolding Computed commands_016 commands_016_replies
commands_016-answers = computed commands_016 commands_016_replies (refl, (refl, (refl, (refl, (refl, (refl, (refl, (refl, (refl, (refl, (refl, (refl, (refl, (refl, (refl, (refl, tt))))))))))))))))

commands_018 : Scripted
commands_018 = record {
  cpus = 3;
  pmus = pmu 1 7 ∷ [];
  kinds = kind_line (codes "x") 0 1 ∷ kind_line (codes "branches") 0 1 ∷ [];
  tasks = task 15 ∷ task 37 ∷ task 55 ∷ [];
  rings = [];
  cpu_lines = eight ((
      cpu_line.Work (work 9 mode.User 9 (0 ∷ 2 ∷ [])) ∷
      cpu_line.Switch (Some (task 15)) ∷
      cpu_line.Fork (task 21) ∷
      cpu_line.Switch (Some (task 15)) ∷
      cpu_line.Switch None ∷
      cpu_line.Switch (Some (task 37)) ∷
      []) ∷ [] ∷ (
      cpu_line.Switch (Some (task 15)) ∷
      []) ∷ []);
  tool_lines = four ((
      tool_line.Read (slot 1) None ∷
      []) ∷ (
      tool_line.Open (slot 1) (attr (kind.Hard 0) (tasks.One (task 15)) cpus.Any 0 65734 26 0) None ∷
      tool_line.Why (slot 5) ∷
      tool_line.Open (slot 64) (attr (kind.Hard 1) (tasks.One (task 15)) cpus.Any 1000000 65671 7 2) (Some (slot 225)) ∷
      tool_line.Read (slot 0) None ∷
      []) ∷ (
      tool_line.Open (slot 225) (attr (kind.Hard 1) (tasks.One (task 15)) cpus.Any 8000000 2 9 14) None ∷
      tool_line.Open (slot 2) (attr (kind.Hard 0) (tasks.One (task 21)) (cpus.One (cpu 2)) 9223372036854775808 193 14 38) None ∷
      []) ∷ (
      tool_line.Open (slot 0) (attr (kind.Hard 0) (tasks.One (task 37)) (cpus.One (cpu 1)) 0 66054 3 38) None ∷
      tool_line.Why (slot 1) ∷
      []) ∷ []);
  readers = [];
  order = by_cpu 0 ∷ by_tool 3 ∷ by_tool 1 ∷ by_tool 2 ∷ by_cpu 0 ∷ by_cpu 0 ∷ by_cpu 0 ∷ by_cpu 0 ∷ by_tool 2 ∷ by_cpu 2 ∷ by_cpu 0 ∷ by_tool 1 ∷
      by_tool 1 ∷ by_tool 1 ∷ by_tool 0 ∷ by_tool 3 ∷ [];
}

commands_018_replies : List Reply
commands_018_replies = reply.Ok ∷ reply.Ok ∷ reply.Ok ∷ reply.Ok ∷ reply.Ok ∷ reply.Ok ∷ reply.Ok ∷ reply.Ok ∷ reply.Refused reason.BadPeriod ∷
    reply.Ok ∷ reply.Ok ∷ reply.Refused reason.NoEvent ∷ reply.Refused (reason.NoAssignment (slots (225 ∷ 64 ∷ []))) ∷ reply.Read (0 ∷ 0 ∷ 0 ∷ []) ∷
    reply.Read (1 ∷ 0 ∷ 0 ∷ 0 ∷ []) ∷ reply.Why (why.Refused (cause.Rule (rule.Exclusive (slot 225)))) ∷ []

commands_018-answers : Answers commands_018 commands_018_replies
unfolding Computed commands_018 commands_018_replies
commands_018-answers = computed commands_018 commands_018_replies (refl, (refl, (refl, (refl, (refl, (refl, (refl, (refl, (refl, (refl, (refl, (refl, (refl, (refl, (refl, (refl, tt))))))))))))))))
