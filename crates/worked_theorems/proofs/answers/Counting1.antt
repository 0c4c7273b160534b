-- Worked cases, written by tools/maintain/script_terms.py from texts and their reports.
use Rattle.std.specs.Prelude.{List, [], ◌∷◌, Some, None, codes}
use Rattle.std.proofs.Common.{refl}
use Rattle.perf_base.specs.declared.attr.Kind.TheVariants as kind
use Rattle.perf_base.specs.declared.attr.TaskSel.TheVariants as tasks
use Rattle.perf_base.specs.declared.attr.CpuSel.TheVariants as cpus
use Rattle.perf_base.specs.declared.lines.Mode.TheVariants as mode
use Rattle.perf_base.specs.declared.lines.CpuLine.TheVariants as cpu_line
use Rattle.perf_base.specs.declared.lines.ToolLine.TheVariants as tool_line
use Rattle.perf_base.specs.declared.standing.Rule.TheVariants as rule
use Rattle.perf_base.specs.declared.standing.Cause.TheVariants as cause
use Rattle.perf_base.specs.declared.standing.Why.TheVariants as why
use Rattle.perf_base.specs.declared.reasons.Reason.TheVariants as reason
use Rattle.perf_base.specs.declared.reply.Reply.{Reply}
use Rattle.perf_base.specs.declared.reply.Reply.TheVariants as reply
use Rattle.perf_base.specs.Scripts.{Scripted}
use Rattle.worked_theorems.proofs.answers.Words.{cpu, task, slot, slots, by_cpu, by_tool, pmu, kind_line, attr, work, eight, four}
use Rattle.worked_theorems.proofs.answers.Answering.{Answers, Computed, computed}

counting_002 : Scripted
counting_002 = record {
  cpus = 8;
  pmus = pmu 1 255 ∷ [];
  kinds = kind_line (codes "branches") 0 1 ∷ kind_line (codes "bf") 0 1 ∷ kind_line (codes "j7e") 0 1 ∷ [];
  tasks = task 0 ∷ task 1 ∷ task 2 ∷ task 3 ∷ [];
  rings = [];
  cpu_lines = eight ([] ∷ (
      cpu_line.Switch (Some (task 0)) ∷
      []) ∷ (
      cpu_line.Tick ∷
      []) ∷ [] ∷ (
      cpu_line.Switch (Some (task 3)) ∷
      []) ∷ (
      cpu_line.Work (work 18 mode.Kernel 4196858 (0 ∷ 1 ∷ 5 ∷ [])) ∷
      cpu_line.Tick ∷
      []) ∷ [] ∷ (
      cpu_line.Tick ∷
      []) ∷ []);
  tool_lines = four ((
      tool_line.Open (slot 120) (attr (kind.Hard 1) (tasks.One (task 0)) (cpus.One (cpu 6)) 0 704 28 34) None ∷
      tool_line.Open (slot 0) (attr kind.Dummy (tasks.One (task 3)) cpus.Any 0 65602 11 50) None ∷
      tool_line.Read (slot 0) None ∷
      tool_line.Open (slot 1) (attr kind.ContextSwitches (tasks.One (task 3)) cpus.Any 0 256 27 2) (Some (slot 0)) ∷
      []) ∷ (
      tool_line.Open (slot 2) (attr (kind.Hard 1) (tasks.One (task 0)) cpus.Any 0 66304 3 2) None ∷
      []) ∷ (
      tool_line.Why (slot 120) ∷
      tool_line.Read (slot 120) None ∷
      tool_line.Open (slot 160) (attr kind.Dummy (tasks.One (task 3)) cpus.Any 0 65600 15 0) None ∷
      []) ∷ []);
  readers = [];
  order = by_tool 0 ∷ by_tool 2 ∷ by_cpu 1 ∷ by_tool 0 ∷ by_cpu 5 ∷ by_cpu 7 ∷ by_tool 2 ∷ by_cpu 5 ∷ by_tool 0 ∷ by_cpu 2 ∷ by_tool 0 ∷ by_cpu 4 ∷
      by_tool 1 ∷ by_tool 2 ∷ [];
}

counting_002_replies : List Reply
counting_002_replies = reply.Ok ∷ reply.Why why.Away ∷ reply.Ok ∷ reply.Ok ∷ reply.Ok ∷ reply.Ok ∷ reply.Read (1 ∷ 0 ∷ 1 ∷ 0 ∷ []) ∷ reply.Ok ∷
    reply.Read (1 ∷ 0 ∷ 0 ∷ 0 ∷ []) ∷ reply.Ok ∷ reply.Ok ∷ reply.Ok ∷ reply.Ok ∷ reply.Ok ∷ []

counting_002-answers : Answers counting_002 counting_002_replies
unfolding Computed counting_002 counting_002_replies
counting_002-answers = computed counting_002 counting_002_replies (refl, (refl, (refl, (refl, (refl, (refl, (refl, (refl, (refl, (refl, (refl, (refl, (refl, (refl, tt))))))))))))))

counting_009 : Scripted
counting_009 = record {
  cpus = 1;
  pmus = pmu 6 1 ∷ [];
  kinds = kind_line (codes "cache-references") 0 63 ∷ kind_line (codes "n93wom7") 0 1 ∷ [];
  tasks = task 0 ∷ task 1 ∷ [];
  rings = [];
  cpu_lines = eight ((
      cpu_line.Switch (Some (task 1)) ∷
      cpu_line.Switch None ∷
      cpu_line.Switch (Some (task 1)) ∷
      cpu_line.Work (work 568891775 mode.User 4194607 (0 ∷ 0 ∷ [])) ∷
      cpu_line.Switch (Some (task 0)) ∷
      cpu_line.Work (work 19 mode.User 4918998270180089429 (0 ∷ 0 ∷ [])) ∷
      []) ∷ []);
  tool_lines = four ((
      tool_line.Open (slot 1) (attr (kind.Hard 1) tasks.All (cpus.One (cpu 0)) 0 65668 3 2) None ∷
      tool_line.Open (slot 151) (attr (kind.Hard 0) (tasks.One (task 1)) cpus.Any 0 390 3 1) (Some (slot 2)) ∷
      tool_line.Read (slot 1) None ∷
      tool_line.Seats (cpu 0) ∷
      tool_line.Why (slot 0) ∷
      []) ∷ (
      tool_line.Open (slot 0) (attr (kind.Hard 1) (tasks.One (task 1)) cpus.Any 2 128 22 10) None ∷
      tool_line.Open (slot 2) (attr (kind.Hard 0) (tasks.One (task 1)) cpus.Any 0 192 8 0) None ∷
      tool_line.Open (slot 77) (attr (kind.Hard 1) tasks.All (cpus.One (cpu 0)) 0 65 16 2) (Some (slot 1)) ∷
      []) ∷ []);
  readers = [];
  order = by_tool 1 ∷ by_cpu 0 ∷ by_cpu 0 ∷ by_tool 0 ∷ by_cpu 0 ∷ by_cpu 0 ∷ by_tool 1 ∷ by_tool 0 ∷ by_tool 0 ∷ by_cpu 0 ∷ by_cpu 0 ∷ by_tool 0 ∷
      by_tool 1 ∷ by_tool 0 ∷ [];
}

counting_009_replies : List Reply
counting_009_replies = reply.Ok ∷ reply.Ok ∷ reply.Ok ∷ reply.Ok ∷ reply.Ok ∷ reply.Ok ∷ reply.Ok ∷ reply.Ok ∷
    reply.Read (0 ∷ 568891775 ∷ 568891775 ∷ []) ∷ reply.Ok ∷ reply.Ok ∷ reply.Seats ((slot 1, 0) ∷ []) ∷
    reply.Refused (reason.NoAssignment (slots (1 ∷ 77 ∷ []))) ∷ reply.Why why.Away ∷ []

counting_009-answers : Answers counting_009 counting_009_replies
unfolding Computed counting_009 counting_009_replies
counting_009-answers = computed counting_009 counting_009_replies (refl, (refl, (refl, (refl, (refl, (refl, (refl, (refl, (refl, (refl, (refl, ((refl, refl), (refl, (refl, tt))))))))))))))

counting_012 : Scripted
counting_012 = record {
  cpus = 2;
  pmus = pmu 1 3 ∷ [];
  kinds = kind_line (codes "c") 0 1 ∷ [];
  tasks = task 3 ∷ task 23 ∷ task 45 ∷ [];
  rings = [];
  cpu_lines = eight ([] ∷ (
      cpu_line.Work (work 13 mode.Kernel 4196154 (0 ∷ [])) ∷
      cpu_line.Switch (Some (task 45)) ∷
      cpu_line.Work (work 0 mode.User 4197986 (3 ∷ [])) ∷
      cpu_line.Work (work 5 mode.User 4194968 (0 ∷ [])) ∷
      cpu_line.Work (work 5 mode.User 5 (0 ∷ [])) ∷
      cpu_line.Work (work 1 mode.Kernel 4195459 (3 ∷ [])) ∷
      []) ∷ []);
  tool_lines = four ((
      tool_line.Open (slot 0) (attr (kind.Hard 0) (tasks.One (task 45)) (cpus.One (cpu 1)) 0 261 8 0) None ∷
      tool_line.Seats (cpu 1) ∷
      []) ∷ (
      tool_line.Open (slot 181) (attr kind.TaskClock (tasks.One (task 45)) (cpus.One (cpu 1)) 0 512 1 0) None ∷
      tool_line.Read (slot 181) None ∷
      tool_line.Open (slot 2) (attr kind.Dummy (tasks.One (task 45)) (cpus.One (cpu 1)) 0 834 20 0) (Some (slot 64)) ∷
      []) ∷ (
      tool_line.Read (slot 181) None ∷
      tool_line.Open (slot 1) (attr (kind.Hard 0) (tasks.One (task 23)) (cpus.One (cpu 1)) 0 66304 8 0) None ∷
      tool_line.Open (slot 2) (attr (kind.Hard 0) (tasks.One (task 45)) (cpus.One (cpu 1)) 0 65730 17 0) (Some (slot 0)) ∷
      []) ∷ []);
  readers = [];
  order = by_tool 1 ∷ by_tool 1 ∷ by_cpu 1 ∷ by_tool 2 ∷ by_cpu 1 ∷ by_tool 0 ∷ by_tool 2 ∷ by_tool 0 ∷ by_cpu 1 ∷ by_tool 2 ∷ by_cpu 1 ∷ by_cpu 1 ∷
      by_cpu 1 ∷ by_tool 1 ∷ [];
}

counting_012_replies : List Reply
counting_012_replies = reply.Ok ∷ reply.Read (0 ∷ 0 ∷ []) ∷ reply.Ok ∷ reply.Read (0 ∷ 0 ∷ []) ∷ reply.Ok ∷ reply.Ok ∷ reply.Ok ∷
    reply.Seats ((slot 0, 0) ∷ []) ∷ reply.Ok ∷ reply.Refused (reason.NoAssignment (slots (0 ∷ 2 ∷ []))) ∷ reply.Ok ∷ reply.Ok ∷ reply.Ok ∷
    reply.Refused reason.NoEvent ∷ []

counting_012-answers : Answers counting_012 counting_012_replies
unfolding Computed counting_012 counting_012_replies
counting_012-answers = computed counting_012 counting_012_replies (refl, (refl, (refl, (refl, (refl, (refl, (refl, ((refl, refl), (refl, (refl, (refl, (refl, (refl, (refl, tt))))))))))))))

counting_013 : Scripted
counting_013 = record {
  cpus = 8;
  pmus = pmu 1 255 ∷ [];
  kinds = kind_line (codes "bq234pm3") 0 1 ∷ [];
  tasks = [];
  rings = [];
  cpu_lines = eight ([] ∷ (
      cpu_line.Work (work 1 mode.User 13 (0 ∷ [])) ∷
      []) ∷ [] ∷ [] ∷ (
      cpu_line.Tick ∷
      []) ∷ (
      cpu_line.Work (work 381 mode.User 4196299 (2 ∷ [])) ∷
      cpu_line.Work (work 1 mode.User 13 (0 ∷ [])) ∷
      []) ∷ [] ∷ (
      cpu_line.Work (work 0 mode.User 4196720 (10 ∷ [])) ∷
      []) ∷ []);
  tool_lines = four ((
      tool_line.Open (slot 0) (attr (kind.Hard 0) tasks.All (cpus.One (cpu 1)) 0 65664 5 4) None ∷
      tool_line.Open (slot 1) (attr kind.TaskClock tasks.All (cpus.One (cpu 1)) 0 966 35 1) (Some (slot 0)) ∷
      tool_line.Why (slot 127) ∷
      []) ∷ (
      tool_line.Open (slot 1) (attr (kind.Hard 0) tasks.All (cpus.One (cpu 1)) 0 323 3 0) (Some (slot 0)) ∷
      tool_line.Open (slot 1) (attr kind.ContextSwitches tasks.All (cpus.One (cpu 1)) 0 65542 26 0) (Some (slot 0)) ∷
      tool_line.Read (slot 0) None ∷
      []) ∷ (
      tool_line.Open (slot 2) (attr (kind.Hard 0) tasks.All cpus.Any 0 64 9 8) None ∷
      []) ∷ (
      tool_line.Read (slot 0) None ∷
      tool_line.Read (slot 0) None ∷
      []) ∷ []);
  readers = [];
  order = by_cpu 5 ∷ by_cpu 1 ∷ by_tool 0 ∷ by_tool 1 ∷ by_tool 3 ∷ by_tool 3 ∷ by_cpu 4 ∷ by_tool 0 ∷ by_cpu 5 ∷ by_tool 1 ∷ by_tool 0 ∷ by_cpu 7 ∷
      by_tool 2 ∷ by_tool 1 ∷ [];
}

counting_013_replies : List Reply
counting_013_replies = reply.Ok ∷ reply.Ok ∷ reply.Ok ∷ reply.Refused (reason.NoAssignment (slots (0 ∷ 1 ∷ []))) ∷ reply.Read (0 ∷ 0 ∷ 1 ∷ []) ∷
    reply.Read (0 ∷ 0 ∷ 1 ∷ []) ∷ reply.Ok ∷ reply.Refused reason.BadFormatBits ∷ reply.Ok ∷ reply.Ok ∷ reply.Refused reason.NoEvent ∷ reply.Ok ∷
    reply.Refused reason.NoPlace ∷ reply.Read (0 ∷ 0 ∷ 1 ∷ []) ∷ []

counting_013-answers : Answers counting_013 counting_013_replies
unfolding Computed counting_013 counting_013_replies
counting_013-answers = computed counting_013 counting_013_replies (refl, (refl, (refl, (refl, (refl, (refl, (refl, (refl, (refl, (refl, (refl, (refl, (refl, (refl, tt))))))))))))))

counting_014 : Scripted
counting_014 = record {
  cpus = 4;
  pmus = pmu 2 15 ∷ [];
  kinds = kind_line (codes "user") 0 2 ∷ kind_line (codes "cycles") 0 2 ∷ kind_line (codes "bvybrxaajxluoi9yymku2b4xuijt1bi") 0 3 ∷ [];
  tasks = task 0 ∷ task 1 ∷ [];
  rings = [];
  cpu_lines = eight ([] ∷ (
      cpu_line.Switch (Some (task 1)) ∷
      cpu_line.Work (work 1000000000 mode.User 4194470 (1000000 ∷ 0 ∷ 1000000 ∷ [])) ∷
      cpu_line.Switch (Some (task 41)) ∷
      []) ∷ [] ∷ (
      cpu_line.Work (work 6 mode.User 4196543 (0 ∷ 0 ∷ 0 ∷ [])) ∷
      []) ∷ []);
  tool_lines = four ((
      tool_line.Open (slot 0) (attr kind.TaskClock (tasks.One (task 1)) cpus.Any 0 576 21 0) None ∷
      tool_line.Open (slot 1) (attr (kind.Hard 1) (tasks.One (task 1)) cpus.Any 0 193 24 12) None ∷
      tool_line.Open (slot 2) (attr (kind.Hard 1) (tasks.One (task 1)) cpus.Any 0 704 20 0) (Some (slot 0)) ∷
      tool_line.Read (slot 0) None ∷
      tool_line.Why (slot 0) ∷
      tool_line.Why (slot 1) ∷
      tool_line.Seats (cpu 0) ∷
      tool_line.Seats (cpu 1) ∷
      tool_line.Seats (cpu 2) ∷
      tool_line.Seats (cpu 3) ∷
      []) ∷ []);
  readers = [];
  order = by_cpu 1 ∷ by_cpu 3 ∷ by_tool 0 ∷ by_cpu 1 ∷ by_tool 0 ∷ by_cpu 1 ∷ by_tool 0 ∷ by_tool 0 ∷ by_tool 0 ∷ by_tool 0 ∷ by_tool 0 ∷ by_tool 0 ∷
      by_tool 0 ∷ by_tool 0 ∷ [];
}

counting_014_replies : List Reply
counting_014_replies = reply.Ok ∷ reply.Ok ∷ reply.Ok ∷ reply.Ok ∷ reply.Ok ∷ reply.Refused reason.NoTask ∷ reply.Ok ∷
    reply.Read (1000000000 ∷ 1000000000 ∷ 1 ∷ 0 ∷ []) ∷ reply.Why (why.Refused (cause.Rule (rule.Exclusive (slot 1)))) ∷ reply.Why why.On ∷
    reply.Seats [] ∷ reply.Seats ((slot 1, 1) ∷ []) ∷ reply.Seats [] ∷ reply.Seats [] ∷ []

counting_014-answers : Answers counting_014 counting_014_replies
unfolding Computed counting_014 counting_014_replies
counting_014-answers = computed counting_014 counting_014_replies (refl, (refl, (refl, (refl, (refl, (refl, (refl, (refl, (refl, (refl, ((refl, refl), ((refl, refl), ((refl, refl), ((refl, refl), tt))))))))))))))

counting_016 : Scripted
counting_016 = record {
  cpus = 2;
  pmus = pmu 3 3 ∷ [];
  kinds = kind_line (codes "qiw-aw26xsu3fvblvqg7nijas0z8zp-") 0 6 ∷ [];
  tasks = task 0 ∷ task 1 ∷ task 2 ∷ [];
  rings = [];
  cpu_lines = eight ((
      cpu_line.Tick ∷
      cpu_line.Switch (Some (task 0)) ∷
      cpu_line.Work (work 1587 mode.Kernel 2 (6 ∷ [])) ∷
      cpu_line.Work (work 150721189 mode.User 0 (34 ∷ [])) ∷
      []) ∷ (
      cpu_line.Switch (Some (task 2)) ∷
      cpu_line.Switch (Some (task 1)) ∷
      []) ∷ []);
  tool_lines = four ((
      tool_line.Open (slot 0) (attr (kind.Hard 0) (tasks.One (task 0)) cpus.Any 0 256 4 2) None ∷
      tool_line.Why (slot 74) ∷
      tool_line.Open (slot 2) (attr (kind.Hard 0) (tasks.One (task 0)) cpus.Any 0 65920 28 2) (Some (slot 0)) ∷
      []) ∷ (
      tool_line.Open (slot 0) (attr (kind.Hard 0) (tasks.One (task 0)) cpus.Any 0 11 3 2) None ∷
      tool_line.Why (slot 0) ∷
      tool_line.Open (slot 1) (attr (kind.Hard 0) (tasks.One (task 0)) cpus.Any 0 386 26 3) (Some (slot 0)) ∷
      tool_line.Read (slot 0) None ∷
      tool_line.Read (slot 0) None ∷
      []) ∷ []);
  readers = [];
  order = by_tool 1 ∷ by_cpu 1 ∷ by_tool 0 ∷ by_tool 1 ∷ by_cpu 0 ∷ by_cpu 0 ∷ by_cpu 1 ∷ by_tool 0 ∷ by_tool 1 ∷ by_cpu 0 ∷ by_tool 0 ∷ by_tool 1 ∷
      by_cpu 0 ∷ by_tool 1 ∷ [];
}

counting_016_replies : List Reply
counting_016_replies = reply.Refused reason.BadSampleBits ∷ reply.Ok ∷ reply.Ok ∷ reply.Why why.Away ∷ reply.Ok ∷ reply.Ok ∷ reply.Ok ∷
    reply.Refused reason.NoEvent ∷ reply.Ok ∷ reply.Ok ∷ reply.Refused (reason.NoAssignment (slots (0 ∷ 1 ∷ 2 ∷ []))) ∷ reply.Read (6 ∷ 1 ∷ []) ∷
    reply.Ok ∷ reply.Read (40 ∷ 1 ∷ []) ∷ []

counting_016-answers : Answers counting_016 counting_016_replies
unfolding Computed counting_016 counting_016_replies
counting_016-answers = computed counting_016 counting_016_replies (refl, (refl, (refl, (refl, (refl, (refl, (refl, (refl, (refl, (refl, (refl, (refl, (refl, (refl, tt))))))))))))))

counting_018 : Scripted
counting_018 = record {
  cpus = 3;
  pmus = pmu 16 7 ∷ [];
  kinds = kind_line (codes "c") 0 65535 ∷ [];
  tasks = task 0 ∷ task 1 ∷ [];
  rings = [];
  cpu_lines = eight ((
      cpu_line.Switch (Some (task 1)) ∷
      cpu_line.Work (work 9 mode.Kernel 6 (0 ∷ [])) ∷
      []) ∷ (
      cpu_line.Switch (Some (task 0)) ∷
      []) ∷ []);
  tool_lines = four ((
      tool_line.Open (slot 32) (attr (kind.Hard 0) tasks.All (cpus.One (cpu 1)) 7 66310 13 32) None ∷
      tool_line.Why (slot 32) ∷
      tool_line.Read (slot 32) None ∷
      tool_line.Why (slot 0) ∷
      []) ∷ (
      tool_line.Open (slot 0) (attr kind.CpuMigrations tasks.All (cpus.One (cpu 0)) 0 65536 20 48) None ∷
      tool_line.Open (slot 1) (attr (kind.Hard 0) tasks.All (cpus.One (cpu 1)) 0 260 0 16) (Some (slot 32)) ∷
      []) ∷ (
      tool_line.Open (slot 0) (attr (kind.Hard 0) (tasks.One (task 55)) (cpus.One (cpu 1)) 0 65607 22 0) None ∷
      tool_line.Read (slot 0) None ∷
      tool_line.Read (slot 1) None ∷
      []) ∷ (
      tool_line.Read (slot 0) None ∷
      tool_line.Open (slot 1) (attr (kind.Hard 0) tasks.All (cpus.One (cpu 1)) 0 519 9 0) (Some (slot 0)) ∷
      []) ∷ []);
  readers = [];
  order = by_tool 0 ∷ by_tool 2 ∷ by_tool 0 ∷ by_cpu 1 ∷ by_tool 1 ∷ by_tool 3 ∷ by_cpu 0 ∷ by_tool 3 ∷ by_cpu 0 ∷ by_tool 1 ∷ by_tool 0 ∷
      by_tool 2 ∷ by_tool 0 ∷ by_tool 2 ∷ [];
}

counting_018_replies : List Reply
counting_018_replies = reply.Ok ∷ reply.Refused reason.NoTask ∷ reply.Why why.On ∷ reply.Ok ∷ reply.Ok ∷ reply.Read (0 ∷ 2 ∷ 0 ∷ []) ∷ reply.Ok ∷
    reply.Refused reason.OtherContext ∷ reply.Ok ∷ reply.Ok ∷ reply.Read (2 ∷ 0 ∷ 0 ∷ 1 ∷ 0 ∷ 3 ∷ []) ∷ reply.Read (0 ∷ 2 ∷ 0 ∷ []) ∷
    reply.Why why.On ∷ reply.Read (0 ∷ []) ∷ []

counting_018-answers : Answers counting_018 counting_018_replies
unfolding Computed counting_018 counting_018_replies
counting_018-answers = computed counting_018 counting_018_replies (refl, (refl, (refl, (refl, (refl, (refl, (refl, (refl, (refl, (refl, (refl, (refl, (refl, (refl, tt))))))))))))))

counting_024 : Scripted
counting_024 = record {
  cpus = 2;
  pmus = pmu 6 3 ∷ [];
  kinds = kind_line (codes "cache-references") 0 63 ∷ kind_line (codes "branch-misses") 0 32 ∷ kind_line (codes "order") 0 18 ∷ [];
  tasks = task 37 ∷ task 43 ∷ task 62 ∷ [];
  rings = [];
  cpu_lines = eight ((
      cpu_line.Switch (Some (task 62)) ∷
      cpu_line.Work (work 16 mode.Kernel 4194564 (1000000000 ∷ 0 ∷ 0 ∷ [])) ∷
      cpu_line.Work (work 0 mode.Kernel 4197984 (14 ∷ 0 ∷ 2 ∷ [])) ∷
      cpu_line.Work (work 3463 mode.Kernel 0 (0 ∷ 0 ∷ 2 ∷ [])) ∷
      []) ∷ (
      cpu_line.Switch (Some (task 43)) ∷
      []) ∷ []);
  tool_lines = four ((
      tool_line.Open (slot 104) (attr (kind.Hard 2) tasks.All cpus.Any 0 71 3 35) None ∷
      tool_line.Open (slot 1) (attr (kind.Hard 1) tasks.All (cpus.One (cpu 1)) 0 65921 3 3) None ∷
      tool_line.Why (slot 1) ∷
      tool_line.Read (slot 1) None ∷
      tool_line.Read (slot 1) (Some 18446744073709551615) ∷
      tool_line.Read (slot 0) None ∷
      tool_line.Read (slot 2) None ∷
      []) ∷ (
      tool_line.Open (slot 0) (attr (kind.Hard 1) (tasks.One (task 62)) cpus.Any 0 258 19 2) None ∷
      tool_line.Open (slot 2) (attr (kind.Hard 0) (tasks.One (task 43)) (cpus.One (cpu 1)) 0 66372 3 0) None ∷
      []) ∷ []);
  readers = [];
  order = by_cpu 0 ∷ by_tool 0 ∷ by_tool 1 ∷ by_cpu 0 ∷ by_tool 0 ∷ by_tool 1 ∷ by_cpu 0 ∷ by_tool 0 ∷ by_tool 0 ∷ by_cpu 1 ∷ by_tool 0 ∷ by_cpu 0 ∷
      by_tool 0 ∷ by_tool 0 ∷ [];
}

counting_024_replies : List Reply
counting_024_replies = reply.Ok ∷ reply.Refused reason.NoPlace ∷ reply.Ok ∷ reply.Ok ∷ reply.Ok ∷ reply.Ok ∷ reply.Ok ∷ reply.Why why.Off ∷
    reply.Read (0 ∷ 0 ∷ 0 ∷ []) ∷ reply.Ok ∷ reply.Read (0 ∷ 0 ∷ 0 ∷ []) ∷ reply.Ok ∷ reply.Read (0 ∷ 3479 ∷ 3479 ∷ 0 ∷ []) ∷
    reply.Read (0 ∷ 0 ∷ 0 ∷ []) ∷ []

counting_024-answers : Answers counting_024 counting_024_replies
unfolding Computed counting_024 counting_024_replies
counting_024-answers = computed counting_024 counting_024_replies (refl, (refl, (refl, (refl, (refl, (refl, (refl, (refl, (refl, (refl, (refl, (refl, (refl, (refl, tt))))))))))))))
