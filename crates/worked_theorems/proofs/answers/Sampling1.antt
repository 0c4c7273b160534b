-- Worked cases, written by tools/maintain/script_terms.py from texts and their reports.
use Rattle.std.specs.Prelude.{true, false, List, [], ◌∷◌, Some, None, codes}
use Rattle.std.proofs.Common.{refl}
use Rattle.perf_base.specs.declared.attr.Kind.TheVariants as kind
use Rattle.perf_base.specs.declared.attr.TaskSel.TheVariants as tasks
use Rattle.perf_base.specs.declared.attr.CpuSel.TheVariants as cpus
use Rattle.perf_base.specs.declared.lines.Mode.TheVariants as mode
use Rattle.perf_base.specs.declared.lines.CpuLine.TheVariants as cpu_line
use Rattle.perf_base.specs.declared.lines.ToolLine.TheVariants as tool_line
use Rattle.perf_base.specs.declared.reasons.Reason.TheVariants as reason
use Rattle.perf_base.specs.declared.reply.Reply.{Reply}
use Rattle.perf_base.specs.declared.reply.Reply.TheVariants as reply
use Rattle.perf_base.specs.Scripts.{Scripted}
use Rattle.worked_theorems.proofs.answers.Words.{cpu, task, slot, slots, ring, by_cpu, by_tool, seen, pmu, kind_line, attr, work, reader, eight, four}
use Rattle.worked_theorems.proofs.answers.Answering.{Answers, Computed, computed}

sampling_001 : Scripted
sampling_001 = record {
  cpus = 2;
  pmus = pmu 3 3 ∷ [];
  kinds = kind_line (codes "misses") 0 4 ∷ [];
  tasks = task 40 ∷ [];
  rings = (ring 9, 256) ∷ (ring 13, 16384) ∷ [];
  cpu_lines = eight ((
      cpu_line.Work (work 1000000000 mode.User 0 (0 ∷ [])) ∷
      cpu_line.Switch (Some (task 40)) ∷
      []) ∷ (
      cpu_line.Tick ∷
      cpu_line.Fork (task 33) ∷
      cpu_line.Work (work 0 mode.User 16586810627191024948 (249 ∷ [])) ∷
      []) ∷ []);
  tool_lines = four ((
      tool_line.Open (slot 0) (attr (kind.Hard 0) tasks.All (cpus.One (cpu 1)) 0 0 7 1) None ∷
      tool_line.Disable (slot 0) false ∷
      tool_line.Read (slot 0) (Some 78) ∷
      tool_line.Output (slot 0) (slot 0) ∷
      tool_line.Enable (slot 0) false ∷
      tool_line.Output (slot 81) (slot 3) ∷
      tool_line.Map (slot 1) (ring 9) ∷
      []) ∷ (
      tool_line.Enable (slot 0) true ∷
      []) ∷ (
      tool_line.Open (slot 81) (attr (kind.Hard 0) (tasks.One (task 40)) cpus.Any 3 66240 4 2) None ∷
      tool_line.Open (slot 1) (attr (kind.Hard 0) tasks.All (cpus.One (cpu 1)) 3 129 3 4) None ∷
      tool_line.Enable (slot 50) true ∷
      []) ∷ []);
  readers = reader 13 24 3 ∷ [];
  order = by_tool 0 ∷ by_tool 0 ∷ by_tool 0 ∷ by_cpu 1 ∷ by_tool 0 ∷ by_cpu 0 ∷ by_tool 0 ∷ by_tool 2 ∷ by_tool 0 ∷ by_tool 2 ∷ seen 9 0 ∷
      by_tool 0 ∷ by_cpu 1 ∷ by_tool 2 ∷ by_cpu 0 ∷ by_cpu 1 ∷ by_tool 1 ∷ seen 9 240 ∷ [];
}

sampling_001_replies : List Reply
sampling_001_replies = reply.Ok ∷ reply.Ok ∷ reply.Read (0 ∷ 0 ∷ 0 ∷ 1 ∷ []) ∷ reply.Ok ∷ reply.Refused reason.SameEvent ∷ reply.Ok ∷ reply.Ok ∷
    reply.Ok ∷ reply.Refused reason.NoEvent ∷ reply.Ok ∷ reply.Ok ∷ reply.Refused reason.Idle ∷ reply.Refused reason.NoEvent ∷ reply.Ok ∷ reply.Ok ∷
    reply.Ok ∷ []

sampling_001-answers : Answers sampling_001 sampling_001_replies
unfolding Computed sampling_001 sampling_001_replies
sampling_001-answers = computed sampling_001 sampling_001_replies (refl, (refl, (refl, (refl, (refl, (refl, (refl, (refl, (refl, (refl, (refl, (refl, (refl, (refl, (refl, (refl, tt))))))))))))))))

sampling_003 : Scripted
sampling_003 = record {
  cpus = 2;
  pmus = pmu 1 3 ∷ [];
  kinds = kind_line (codes "n1n") 0 1 ∷ kind_line (codes "bbpq7u25e56") 0 1 ∷ kind_line (codes "c53n") 0 1 ∷ [];
  tasks = task 8 ∷ task 9 ∷ task 28 ∷ task 36 ∷ [];
  rings = (ring 13, 256) ∷ [];
  cpu_lines = eight ((
      cpu_line.Switch (Some (task 9)) ∷
      cpu_line.Work (work 10 mode.User 2007006941593378693 (1 ∷ 0 ∷ 0 ∷ [])) ∷
      cpu_line.Work (work 15 mode.User 4195987 (0 ∷ 0 ∷ 0 ∷ [])) ∷
      cpu_line.Work (work 1 mode.User 4195441 (0 ∷ 1 ∷ 0 ∷ [])) ∷
      cpu_line.Fork (task 0) ∷
      cpu_line.Tick ∷
      cpu_line.Fork (task 56) ∷
      cpu_line.Work (work 51385121 mode.Kernel 7 (0 ∷ 73 ∷ 0 ∷ [])) ∷
      cpu_line.Work (work 1 mode.User 1 (0 ∷ 2 ∷ 0 ∷ [])) ∷
      []) ∷ (
      cpu_line.Switch (Some (task 28)) ∷
      cpu_line.Switch (Some (task 28)) ∷
      cpu_line.Exit ∷
      []) ∷ []);
  tool_lines = four ((
      tool_line.Open (slot 0) (attr (kind.Hard 1) tasks.All (cpus.One (cpu 0)) 1 582 4 0) None ∷
      tool_line.Map (slot 0) (ring 13) ∷
      []) ∷ (
      tool_line.Open (slot 127) (attr (kind.Hard 2) (tasks.One (task 8)) cpus.Any 5 774 9223372036854775809 6) None ∷
      tool_line.Output (slot 127) (slot 173) ∷
      tool_line.Output (slot 0) (slot 0) ∷
      tool_line.Read (slot 0) (Some 120) ∷
      []) ∷ []);
  readers = reader 13 65536 16 ∷ [];
  order = by_cpu 1 ∷ by_cpu 0 ∷ by_cpu 0 ∷ by_cpu 1 ∷ by_cpu 1 ∷ by_tool 1 ∷ by_cpu 0 ∷ by_cpu 0 ∷ by_cpu 0 ∷ by_tool 1 ∷ by_tool 0 ∷ by_cpu 0 ∷
      by_tool 0 ∷ by_cpu 0 ∷ by_cpu 0 ∷ by_cpu 0 ∷ by_tool 1 ∷ by_tool 1 ∷ [];
}

sampling_003_replies : List Reply
sampling_003_replies = reply.Ok ∷ reply.Ok ∷ reply.Ok ∷ reply.Ok ∷ reply.Ok ∷ reply.Refused reason.BadFormatBits ∷ reply.Ok ∷ reply.Ok ∷ reply.Ok ∷
    reply.Refused reason.NoEvent ∷ reply.Ok ∷ reply.Ok ∷ reply.Ok ∷ reply.Ok ∷ reply.Ok ∷ reply.Ok ∷ reply.Refused reason.SameEvent ∷
    reply.Read (75 ∷ 1 ∷ []) ∷ []

sampling_003-answers : Answers sampling_003 sampling_003_replies
unfolding Computed sampling_003 sampling_003_replies
sampling_003-answers = computed sampling_003 sampling_003_replies (refl, (refl, (refl, (refl, (refl, (refl, (refl, (refl, (refl, (refl, (refl, (refl, (refl, (refl, (refl, (refl, (refl, (refl, tt))))))))))))))))))

sampling_005 : Scripted
sampling_005 = record {
  cpus = 4;
  pmus = pmu 16 15 ∷ [];
  kinds = kind_line (codes "branches") 0 4 ∷ [];
  tasks = task 0 ∷ [];
  rings = (ring 0, 256) ∷ (ring 1, 64) ∷ (ring 2, 128) ∷ (ring 3, 64) ∷ (ring 4, 128) ∷ [];
  cpu_lines = eight ((
      cpu_line.Switch (Some (task 0)) ∷
      cpu_line.Fork (task 51) ∷
      cpu_line.Tick ∷
      cpu_line.Work (work 1 mode.Kernel 0 (1918 ∷ [])) ∷
      cpu_line.Tick ∷
      []) ∷ [] ∷ (
      cpu_line.Switch (Some (task 51)) ∷
      cpu_line.Work (work 2582 mode.Kernel 4196608 (1 ∷ [])) ∷
      cpu_line.Work (work 1 mode.User 4196278 (6 ∷ [])) ∷
      cpu_line.Work (work 707876689 mode.Kernel 4196891 (42 ∷ [])) ∷
      []) ∷ (
      cpu_line.Work (work 1 mode.User 2603440672464664083 (7 ∷ [])) ∷
      []) ∷ []);
  tool_lines = four ((
      tool_line.Map (slot 0) (ring 0) ∷
      tool_line.Map (slot 1) (ring 1) ∷
      []) ∷ [] ∷ (
      tool_line.Open (slot 0) (attr (kind.Hard 0) (tasks.One (task 0)) cpus.Any 35 451 3 20) None ∷
      tool_line.Open (slot 1) (attr (kind.Hard 0) (tasks.One (task 51)) cpus.Any 7 65664 3 16) None ∷
      tool_line.Open (slot 2) (attr (kind.Hard 0) (tasks.One (task 51)) cpus.Any 0 65987 3 5) None ∷
      tool_line.Close (slot 0) ∷
      []) ∷ []);
  readers = reader 0 26 1 ∷ reader 2 2 1 ∷ reader 3 30 1 ∷ reader 4 22 2 ∷ [];
  order = by_tool 2 ∷ by_tool 0 ∷ by_cpu 0 ∷ by_cpu 3 ∷ by_cpu 0 ∷ by_cpu 0 ∷ by_tool 2 ∷ by_tool 0 ∷ by_cpu 0 ∷ seen 0 240 ∷ by_cpu 0 ∷ by_tool 2 ∷
      by_cpu 2 ∷ seen 0 240 ∷ by_cpu 2 ∷ by_cpu 2 ∷ by_tool 2 ∷ by_cpu 2 ∷ [];
}

sampling_005_replies : List Reply
sampling_005_replies = reply.Ok ∷ reply.Ok ∷ reply.Ok ∷ reply.Ok ∷ reply.Ok ∷ reply.Ok ∷ reply.Ok ∷ reply.Ok ∷ reply.Ok ∷ reply.Ok ∷ reply.Ok ∷
    reply.Ok ∷ reply.Ok ∷ reply.Ok ∷ reply.Ok ∷ reply.Ok ∷ []

sampling_005-answers : Answers sampling_005 sampling_005_replies
unfolding Computed sampling_005 sampling_005_replies
sampling_005-answers = computed sampling_005 sampling_005_replies (refl, (refl, (refl, (refl, (refl, (refl, (refl, (refl, (refl, (refl, (refl, (refl, (refl, (refl, (refl, (refl, tt))))))))))))))))

sampling_009 : Scripted
sampling_009 = record {
  cpus = 1;
  pmus = pmu 3 1 ∷ [];
  kinds = kind_line (codes "nf") 0 7 ∷ [];
  tasks = task 0 ∷ task 1 ∷ task 2 ∷ [];
  rings = (ring 0, 128) ∷ [];
  cpu_lines = eight ((
      cpu_line.Switch (Some (task 1)) ∷
      cpu_line.Tick ∷
      cpu_line.Work (work 0 mode.User 4196654 (0 ∷ [])) ∷
      cpu_line.Work (work 998135186 mode.User 0 (2 ∷ [])) ∷
      cpu_line.Fork (task 63) ∷
      cpu_line.Tick ∷
      cpu_line.Work (work 620128884 mode.User 17628778795826780420 (64 ∷ [])) ∷
      []) ∷ []);
  tool_lines = four ((
      tool_line.Open (slot 1) (attr (kind.Hard 0) (tasks.One (task 0)) (cpus.One (cpu 0)) 14 196 15 0) (Some (slot 0)) ∷
      tool_line.Open (slot 1) (attr (kind.Hard 0) tasks.All (cpus.One (cpu 0)) 0 65542 14 0) (Some (slot 0)) ∷
      tool_line.Map (slot 220) (ring 0) ∷
      tool_line.Output (slot 2) (slot 185) ∷
      []) ∷ (
      tool_line.Open (slot 0) (attr (kind.Hard 0) tasks.All (cpus.One (cpu 0)) 0 66305 1 0) None ∷
      tool_line.Map (slot 1) (ring 0) ∷
      tool_line.Read (slot 1) (Some 18446744073709551615) ∷
      tool_line.Open (slot 2) (attr (kind.Hard 0) tasks.All (cpus.One (cpu 0)) 0 642 3 0) (Some (slot 0)) ∷
      tool_line.Open (slot 220) (attr (kind.Hard 0) tasks.All (cpus.One (cpu 0)) 2 6 3 0) None ∷
      tool_line.Map (slot 220) (ring 0) ∷
      tool_line.Read (slot 1) None ∷
      []) ∷ []);
  readers = reader 0 34 1024 ∷ [];
  order = by_cpu 0 ∷ by_cpu 0 ∷ by_tool 1 ∷ by_tool 0 ∷ by_tool 1 ∷ by_cpu 0 ∷ by_tool 0 ∷ by_tool 1 ∷ by_cpu 0 ∷ by_tool 1 ∷ by_tool 1 ∷ by_tool 1 ∷
      by_cpu 0 ∷ by_cpu 0 ∷ by_tool 0 ∷ by_tool 0 ∷ by_tool 1 ∷ by_cpu 0 ∷ [];
}

sampling_009_replies : List Reply
sampling_009_replies = reply.Ok ∷ reply.Ok ∷ reply.Ok ∷ reply.Refused reason.OtherContext ∷ reply.Refused reason.NoEvent ∷ reply.Ok ∷ reply.Ok ∷
    reply.Read (2 ∷ 0 ∷ 0 ∷ 1 ∷ 0 ∷ 2 ∷ []) ∷ reply.Ok ∷ reply.Ok ∷ reply.Ok ∷ reply.Ok ∷ reply.Ok ∷ reply.Ok ∷ reply.Refused reason.HasRing ∷
    reply.Refused reason.NoEvent ∷ reply.Read (3 ∷ 998135186 ∷ 2 ∷ 1 ∷ 2 ∷ 2 ∷ 0 ∷ 3 ∷ []) ∷ reply.Ok ∷ []

sampling_009-answers : Answers sampling_009 sampling_009_replies
unfolding Computed sampling_009 sampling_009_replies
sampling_009-answers = computed sampling_009 sampling_009_replies (refl, (refl, (refl, (refl, (refl, (refl, (refl, (refl, (refl, (refl, (refl, (refl, (refl, (refl, (refl, (refl, (refl, (refl, tt))))))))))))))))))

sampling_011 : Scripted
sampling_011 = record {
  cpus = 1;
  pmus = pmu 8 1 ∷ [];
  kinds = kind_line (codes "zd3apov-") 0 168 ∷ [];
  tasks = task 16 ∷ task 34 ∷ [];
  rings = (ring 11, 256) ∷ [];
  cpu_lines = eight ((
      cpu_line.Switch (Some (task 16)) ∷
      cpu_line.Switch (Some (task 34)) ∷
      cpu_line.Fork (task 0) ∷
      cpu_line.Work (work 3 mode.User 4194471 (2 ∷ [])) ∷
      cpu_line.Work (work 1000000000 mode.Kernel 7 (4 ∷ [])) ∷
      cpu_line.Work (work 7 mode.Kernel 10675206617292030461 (10 ∷ [])) ∷
      cpu_line.Tick ∷
      cpu_line.Work (work 14 mode.User 0 (172 ∷ [])) ∷
      []) ∷ []);
  tool_lines = four ((
      tool_line.Output (slot 2) (slot 228) ∷
      []) ∷ [] ∷ (
      tool_line.Open (slot 0) (attr (kind.Hard 0) tasks.All (cpus.One (cpu 0)) 6 515 6 2) None ∷
      []) ∷ (
      tool_line.Map (slot 0) (ring 11) ∷
      tool_line.Open (slot 1) (attr (kind.Hard 0) tasks.All (cpus.One (cpu 0)) 1 65668 3 2) None ∷
      tool_line.Open (slot 2) (attr (kind.Hard 0) (tasks.One (task 16)) cpus.Any 8 0 12 0) None ∷
      tool_line.Open (slot 3) (attr (kind.Hard 0) tasks.All (cpus.One (cpu 0)) 9223372036854775807 65856 22 18) None ∷
      tool_line.Output (slot 3) (slot 1) ∷
      []) ∷ []);
  readers = [];
  order = by_tool 2 ∷ by_cpu 0 ∷ by_tool 3 ∷ by_tool 3 ∷ by_tool 3 ∷ by_cpu 0 ∷ by_tool 0 ∷ by_tool 3 ∷ by_cpu 0 ∷ by_cpu 0 ∷ by_cpu 0 ∷ seen 11 0 ∷
      by_cpu 0 ∷ seen 11 32 ∷ by_cpu 0 ∷ seen 11 64 ∷ by_cpu 0 ∷ by_tool 3 ∷ [];
}

sampling_011_replies : List Reply
sampling_011_replies = reply.Ok ∷ reply.Ok ∷ reply.Ok ∷ reply.Ok ∷ reply.Ok ∷ reply.Ok ∷ reply.Refused reason.NoEvent ∷ reply.Ok ∷ reply.Ok ∷
    reply.Ok ∷ reply.Ok ∷ reply.Ok ∷ reply.Ok ∷ reply.Ok ∷ reply.Refused reason.NoRing ∷ []

sampling_011-answers : Answers sampling_011 sampling_011_replies
unfolding Computed sampling_011 sampling_011_replies
sampling_011-answers = computed sampling_011 sampling_011_replies (refl, (refl, (refl, (refl, (refl, (refl, (refl, (refl, (refl, (refl, (refl, (refl, (refl, (refl, (refl, tt)))))))))))))))

sampling_014 : Scripted
sampling_014 = record {
  cpus = 2;
  pmus = pmu 3 3 ∷ [];
  kinds = kind_line (codes "order") 0 2 ∷ kind_line (codes "bf1mntcoitsstj8oi282w11kbzgxjm3") 0 7 ∷ [];
  tasks = task 14 ∷ task 20 ∷ task 47 ∷ [];
  rings = (ring 0, 256) ∷ (ring 1, 128) ∷ [];
  cpu_lines = eight ((
      cpu_line.Tick ∷
      cpu_line.Work (work 1000000000 mode.Kernel 4196101 (2 ∷ 2 ∷ [])) ∷
      cpu_line.Switch (Some (task 14)) ∷
      cpu_line.Work (work 8 mode.Kernel 0 (51 ∷ 0 ∷ [])) ∷
      []) ∷ (
      cpu_line.Switch (Some (task 20)) ∷
      cpu_line.Work (work 3 mode.Kernel 4197823 (0 ∷ 2 ∷ [])) ∷
      cpu_line.Work (work 10 mode.User 2 (0 ∷ 0 ∷ [])) ∷
      cpu_line.Work (work 0 mode.User 4198311 (0 ∷ 2 ∷ [])) ∷
      cpu_line.Switch (Some (task 17)) ∷
      []) ∷ []);
  tool_lines = four ((
      tool_line.Open (slot 0) (attr kind.CpuMigrations (tasks.One (task 20)) cpus.Any 0 0 3 16) None ∷
      tool_line.Open (slot 1) (attr (kind.Hard 1) tasks.All (cpus.One (cpu 0)) 0 66246 18 0) None ∷
      tool_line.Period (slot 0) 2 ∷
      tool_line.Seats (cpu 1) ∷
      tool_line.Open (slot 46) (attr (kind.Hard 0) tasks.All (cpus.One (cpu 0)) 2 66310 23 0) None ∷
      tool_line.Map (slot 46) (ring 0) ∷
      tool_line.Read (slot 1) None ∷
      tool_line.Open (slot 2) (attr kind.TaskClock tasks.All (cpus.One (cpu 0)) 0 259 3 0) None ∷
      tool_line.Close (slot 1) ∷
      []) ∷ []);
  readers = reader 0 22 16 ∷ reader 1 20 16 ∷ [];
  order = by_cpu 0 ∷ by_tool 0 ∷ by_cpu 1 ∷ by_cpu 0 ∷ by_cpu 0 ∷ by_cpu 1 ∷ by_tool 0 ∷ by_tool 0 ∷ by_tool 0 ∷ by_tool 0 ∷ by_tool 0 ∷ by_tool 0 ∷
      by_cpu 1 ∷ by_cpu 1 ∷ by_cpu 1 ∷ by_tool 0 ∷ by_cpu 0 ∷ by_tool 0 ∷ [];
}

sampling_014_replies : List Reply
sampling_014_replies = reply.Ok ∷ reply.Ok ∷ reply.Ok ∷ reply.Ok ∷ reply.Ok ∷ reply.Ok ∷ reply.Ok ∷ reply.Refused reason.NotSampling ∷
    reply.Seats [] ∷ reply.Ok ∷ reply.Ok ∷ reply.Read (0 ∷ 0 ∷ 0 ∷ []) ∷ reply.Ok ∷ reply.Ok ∷ reply.Refused reason.NoTask ∷ reply.Ok ∷ reply.Ok ∷
    reply.Ok ∷ []

sampling_014-answers : Answers sampling_014 sampling_014_replies
unfolding Computed sampling_014 sampling_014_replies
sampling_014-answers = computed sampling_014 sampling_014_replies (refl, (refl, (refl, (refl, (refl, (refl, (refl, (refl, ((refl, refl), (refl, (refl, (refl, (refl, (refl, (refl, (refl, (refl, (refl, tt))))))))))))))))))

sampling_021 : Scripted
sampling_021 = record {
  cpus = 4;
  pmus = pmu 2 15 ∷ [];
  kinds = kind_line (codes "sw37n") 0 3 ∷ [];
  tasks = [];
  rings = (ring 0, 128) ∷ [];
  cpu_lines = eight ((
      cpu_line.Work (work 1000000000 mode.User 5427233924459967546 (0 ∷ [])) ∷
      cpu_line.Work (work 0 mode.Kernel 4194683 (0 ∷ [])) ∷
      []) ∷ (
      cpu_line.Tick ∷
      cpu_line.Switch None ∷
      cpu_line.Work (work 1 mode.User 4194663 (0 ∷ [])) ∷
      cpu_line.Tick ∷
      []) ∷ (
      cpu_line.Work (work 9 mode.User 4197026 (1000000 ∷ [])) ∷
      cpu_line.Tick ∷
      cpu_line.Tick ∷
      cpu_line.Tick ∷
      cpu_line.Work (work 17 mode.Kernel 4197637 (5000000 ∷ [])) ∷
      []) ∷ (
      cpu_line.Work (work 0 mode.User 0 (8 ∷ [])) ∷
      []) ∷ []);
  tool_lines = four ((
      tool_line.Period (slot 0) 0 ∷
      tool_line.Read (slot 0) (Some 18446744073709551615) ∷
      []) ∷ (
      tool_line.Open (slot 0) (attr (kind.Hard 0) tasks.All (cpus.One (cpu 2)) 1000000 262 0 18) None ∷
      tool_line.Map (slot 0) (ring 0) ∷
      tool_line.Open (slot 1) (attr (kind.Hard 0) tasks.All (cpus.One (cpu 2)) 5000000 129 0 2) (Some (slot 0)) ∷
      tool_line.Open (slot 2) (attr (kind.Hard 0) tasks.All (cpus.One (cpu 2)) 0 448 30 3) (Some (slot 0)) ∷
      []) ∷ []);
  readers = reader 0 27 16 ∷ [];
  order = by_cpu 1 ∷ by_cpu 0 ∷ by_cpu 3 ∷ by_cpu 2 ∷ by_cpu 2 ∷ by_tool 1 ∷ by_cpu 1 ∷ by_tool 1 ∷ by_tool 1 ∷ by_cpu 2 ∷ by_tool 0 ∷ by_tool 0 ∷
      by_cpu 0 ∷ by_tool 1 ∷ by_cpu 1 ∷ by_cpu 1 ∷ by_cpu 2 ∷ by_cpu 2 ∷ [];
}

sampling_021_replies : List Reply
sampling_021_replies = reply.Ok ∷ reply.Ok ∷ reply.Ok ∷ reply.Ok ∷ reply.Ok ∷ reply.Ok ∷ reply.Ok ∷ reply.Ok ∷ reply.Ok ∷ reply.Ok ∷
    reply.Refused reason.ZeroPeriod ∷ reply.Read (0 ∷ []) ∷ reply.Ok ∷ reply.Refused (reason.NoAssignment (slots (0 ∷ 1 ∷ 2 ∷ []))) ∷ reply.Ok ∷
    reply.Ok ∷ reply.Ok ∷ reply.Ok ∷ []

sampling_021-answers : Answers sampling_021 sampling_021_replies
unfolding Computed sampling_021 sampling_021_replies
sampling_021-answers = computed sampling_021 sampling_021_replies (refl, (refl, (refl, (refl, (refl, (refl, (refl, (refl, (refl, (refl, (refl, (refl, (refl, (refl, (refl, (refl, (refl, (refl, tt))))))))))))))))))

sampling_022 : Scripted
sampling_022 = record {
  cpus = 8;
  pmus = pmu 3 255 ∷ [];
  kinds = kind_line (codes "cycles") 0 2 ∷ kind_line (codes "order") 0 1 ∷ kind_line (codes "kernel") 0 5 ∷ [];
  tasks = [];
  rings = (ring 1, 256) ∷ [];
  cpu_lines = eight ((
      cpu_line.Work (work 53596323 mode.Kernel 4196519 (0 ∷ 2 ∷ 0 ∷ [])) ∷
      cpu_line.Work (work 0 mode.User 4195700 (0 ∷ 44 ∷ 2 ∷ [])) ∷
      cpu_line.Tick ∷
      cpu_line.Exit ∷
      cpu_line.Work (work 139 mode.User 8 (2 ∷ 46 ∷ 0 ∷ [])) ∷
      []) ∷ [] ∷ [] ∷ (
      cpu_line.Work (work 1000000000 mode.User 0 (0 ∷ 1 ∷ 0 ∷ [])) ∷
      cpu_line.Exit ∷
      []) ∷ (
      cpu_line.Work (work 7 mode.User 10 (0 ∷ 0 ∷ 2 ∷ [])) ∷
      cpu_line.Work (work 1000000000 mode.User 15 (2 ∷ 2 ∷ 0 ∷ [])) ∷
      cpu_line.Switch None ∷
      []) ∷ [] ∷ (
      cpu_line.Work (work 3 mode.User 8790392280767530105 (0 ∷ 0 ∷ 0 ∷ [])) ∷
      []) ∷ []);
  tool_lines = four ((
      tool_line.Map (slot 201) (ring 1) ∷
      tool_line.Open (slot 171) (attr (kind.Hard 2) tasks.All cpus.Any 2 128 24 2) (Some (slot 201)) ∷
      []) ∷ (
      tool_line.Open (slot 201) (attr (kind.Hard 1) tasks.All (cpus.One (cpu 0)) 2 66308 27 2) None ∷
      tool_line.Map (slot 201) (ring 1) ∷
      tool_line.Output (slot 171) (slot 201) ∷
      []) ∷ []);
  readers = reader 1 37 1 ∷ [];
  order = by_tool 1 ∷ by_cpu 0 ∷ by_cpu 4 ∷ by_tool 1 ∷ by_cpu 4 ∷ by_tool 0 ∷ by_cpu 6 ∷ by_cpu 0 ∷ by_tool 0 ∷ seen 1 40 ∷ by_cpu 0 ∷ seen 1 240 ∷
      by_cpu 4 ∷ by_cpu 3 ∷ by_cpu 0 ∷ by_cpu 0 ∷ by_cpu 3 ∷ by_tool 1 ∷ [];
}

sampling_022_replies : List Reply
sampling_022_replies = reply.Ok ∷ reply.Ok ∷ reply.Ok ∷ reply.Ok ∷ reply.Ok ∷ reply.Refused reason.HasRing ∷ reply.Ok ∷ reply.Ok ∷
    reply.Refused reason.NoPlace ∷ reply.Ok ∷ reply.Ok ∷ reply.Ok ∷ reply.Refused reason.Idle ∷ reply.Ok ∷ reply.Refused reason.Idle ∷
    reply.Refused reason.NoEvent ∷ []

sampling_022-answers : Answers sampling_022 sampling_022_replies
unfolding Computed sampling_022 sampling_022_replies
sampling_022-answers = computed sampling_022 sampling_022_replies (refl, (refl, (refl, (refl, (refl, (refl, (refl, (refl, (refl, (refl, (refl, (refl, (refl, (refl, (refl, (refl, tt))))))))))))))))
