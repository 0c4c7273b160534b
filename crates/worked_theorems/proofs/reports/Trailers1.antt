-- Worked cases, written by tools/maintain/script_terms.py from texts and their reports.
use Rattle.std.specs.Prelude.{ℕ, true, false, List, [], ◌∷◌, ◌++◌, Some, None, codes}
use Rattle.std.proofs.Common.{refl}
use Rattle.perf_base.specs.declared.attr.Kind.TheVariants as kind
use Rattle.perf_base.specs.declared.attr.TaskSel.TheVariants as tasks
use Rattle.perf_base.specs.declared.attr.CpuSel.TheVariants as cpus
use Rattle.perf_base.specs.declared.lines.Mode.TheVariants as mode
use Rattle.perf_base.specs.declared.lines.CpuLine.TheVariants as cpu_line
use Rattle.perf_base.specs.declared.lines.ToolLine.TheVariants as tool_line
use Rattle.perf_base.specs.declared.standing.Why.TheVariants as why
use Rattle.perf_base.specs.declared.reasons.Reason.TheVariants as reason
use Rattle.perf_base.specs.declared.reply.Reply.{Reply}
use Rattle.perf_base.specs.declared.reply.Reply.TheVariants as reply
use Rattle.perf_base.specs.Scripts.{Scripted}
use Rattle.worked_theorems.proofs.answers.Words.{cpu, task, slot, slots, ring, by_cpu, by_tool, seen, pmu, kind_line, attr, work, reader, eight, four}
use Rattle.worked_theorems.proofs.Whole.{IsWorked}
use Rattle.worked_theorems.proofs.reports.Answering.{Computed, computed}

trailers_006 : Scripted
trailers_006 = record {
  cpus = 1;
  pmus = pmu 3 1 ∷ [];
  kinds = kind_line (codes "cycles") 0 7 ∷ kind_line (codes "pcjec7") 0 4 ∷ [];
  tasks = task 0 ∷ [];
  rings = (ring 7, 256) ∷ (ring 10, 256) ∷ (ring 13, 64) ∷ [];
  cpu_lines = eight ((
      cpu_line.Switch (Some (task 0)) ∷
      cpu_line.Switch None ∷
      cpu_line.Switch (Some (task 0)) ∷
      cpu_line.Work (work 186612571 mode.User 4195943 (462 ∷ 0 ∷ [])) ∷
      cpu_line.Work (work 33717891 mode.Kernel 14694267664840647483 (58 ∷ 0 ∷ [])) ∷
      cpu_line.Fork (task 1) ∷
      cpu_line.Work (work 731 mode.User 4198029 (0 ∷ 0 ∷ [])) ∷
      []) ∷ []);
  tool_lines = four ((
      tool_line.Open (slot 40) (attr (kind.Hard 0) (tasks.One (task 0)) cpus.Any 0 1 2 0) None ∷
      tool_line.Open (slot 0) (attr (kind.Hard 0) (tasks.One (task 0)) cpus.Any 2 66372 31 64) (Some (slot 40)) ∷
      tool_line.Map (slot 0) (ring 7) ∷
      tool_line.Why (slot 40) ∷
      tool_line.Read (slot 40) None ∷
      tool_line.Map (slot 0) (ring 13) ∷
      tool_line.Enable (slot 40) false ∷
      tool_line.Open (slot 53) (attr (kind.Hard 1) tasks.All (cpus.One (cpu 0)) 2 706 3 2) None ∷
      tool_line.Output (slot 40) (slot 0) ∷
      tool_line.Disable (slot 53) false ∷
      []) ∷ []);
  readers = reader 7 7 2 ∷ reader 10 40 1024 ∷ reader 13 25 2 ∷ [];
  order = by_tool 0 ∷ by_tool 0 ∷ by_cpu 0 ∷ by_tool 0 ∷ by_tool 0 ∷ by_tool 0 ∷ by_cpu 0 ∷ by_tool 0 ∷ by_cpu 0 ∷ by_cpu 0 ∷ by_cpu 0 ∷ by_tool 0 ∷
      by_tool 0 ∷ seen 7 192 ∷ by_cpu 0 ∷ by_tool 0 ∷ by_cpu 0 ∷ by_tool 0 ∷ [];
}

trailers_006_replies : List Reply
trailers_006_replies = reply.Ok ∷ reply.Ok ∷ reply.Ok ∷ reply.Ok ∷ reply.Why why.On ∷ reply.Read (0 ∷ 0 ∷ []) ∷ reply.Ok ∷
    reply.Refused reason.HasRing ∷ reply.Ok ∷ reply.Ok ∷ reply.Ok ∷ reply.Ok ∷ reply.Ok ∷ reply.Ok ∷ reply.Ok ∷ reply.Ok ∷ reply.Ok ∷ []

trailers_006_report : List ℕ
trailers_006_report =
    codes "order t0 t0 p0 t0 t0 t0 p0 t0 p0 p0 p0 t0 t0 s7=192 p0 t0 p0 t0\n" ++
    codes "t0.3 why on\n" ++
    codes "t0.4 read 0 0\n" ++
    codes "t0.5 map EMAPPED\n" ++
    codes "ring 7 head=240 tail=192 lost=255 pending=255\n" ++
    codes "taken 0030000200000009 0000000000000002 000000000b1f7b5b 0000000000000002 0000000000000002 0000000000000002\n" ++
    codes "taken 0030000200000009 0000000000000002 000000000b1f7b5b 0000000000000002 0000000000000002 0000000000000002\n" ++
    codes "taken 0030000200000009 0000000000000002 000000000b1f7b5b 0000000000000002 0000000000000002 0000000000000002\n" ++
    codes "taken 0030000200000009 0000000000000002 000000000b1f7b5b 0000000000000002 0000000000000002 0000000000000002\n" ++
    codes "left 0030000200000009 0000000000000002 000000000b1f7b5b 0000000000000002 0000000000000002 0000000000000002\n" ++
    codes "ring 10 head=0 tail=0 lost=0 pending=0\n" ++
    codes "ring 13 head=0 tail=0 lost=0 pending=0\n" ++
    codes "end\n"

trailers_006-worked : IsWorked trailers_006 trailers_006_replies trailers_006_report
unfolding Computed trailers_006 trailers_006_replies trailers_006_report
trailers_006-worked = computed trailers_006 trailers_006_replies trailers_006_report refl (refl, (refl, (refl, (refl, (refl, (refl, (refl, (refl, (refl, (refl, (refl, (refl, (refl, (refl, (refl, (refl, (refl, (refl, refl))))))))))))))))))

trailers_008 : Scripted
trailers_008 = record {
  cpus = 3;
  pmus = pmu 4 7 ∷ [];
  kinds = kind_line (codes "user") 0 8 ∷ kind_line (codes "cache-references") 0 15 ∷ [];
  tasks = [];
  rings = (ring 0, 256) ∷ (ring 5, 64) ∷ (ring 11, 128) ∷ [];
  cpu_lines = eight ((
      cpu_line.Work (work 16 mode.User 4196217 (1 ∷ 0 ∷ [])) ∷
      cpu_line.Work (work 12 mode.Kernel 4197360 (0 ∷ 0 ∷ [])) ∷
      []) ∷ [] ∷ (
      cpu_line.Work (work 7 mode.Kernel 4196803 (0 ∷ 1 ∷ [])) ∷
      cpu_line.Work (work 13 mode.User 0 (0 ∷ 0 ∷ [])) ∷
      cpu_line.Work (work 0 mode.User 1266292254510002766 (0 ∷ 1 ∷ [])) ∷
      cpu_line.Work (work 0 mode.Kernel 16196850201003813549 (0 ∷ 5 ∷ [])) ∷
      cpu_line.Tick ∷
      cpu_line.Switch None ∷
      cpu_line.Work (work 17 mode.Kernel 4194857 (1 ∷ 116 ∷ [])) ∷
      cpu_line.Switch (Some (task 5)) ∷
      cpu_line.Work (work 1 mode.User 6 (1 ∷ 9 ∷ [])) ∷
      []) ∷ []);
  tool_lines = four ((
      tool_line.Map (slot 0) (ring 0) ∷
      tool_line.Open (slot 1) (attr (kind.Hard 0) tasks.All (cpus.One (cpu 2)) 8 66308 3 0) None ∷
      []) ∷ (
      tool_line.Open (slot 0) (attr (kind.Hard 1) tasks.All (cpus.One (cpu 2)) 1 258 23 66) None ∷
      tool_line.Output (slot 1) (slot 1) ∷
      tool_line.Read (slot 1) None ∷
      []) ∷ []);
  readers = reader 5 65536 1 ∷ reader 11 31 16 ∷ [];
  order = by_cpu 0 ∷ by_tool 1 ∷ by_cpu 2 ∷ by_cpu 2 ∷ by_cpu 2 ∷ by_tool 0 ∷ by_cpu 0 ∷ by_cpu 2 ∷ seen 0 120 ∷ by_cpu 2 ∷ by_cpu 2 ∷ by_tool 0 ∷
      by_tool 1 ∷ by_cpu 2 ∷ seen 0 312 ∷ by_cpu 2 ∷ by_tool 1 ∷ by_cpu 2 ∷ [];
}

trailers_008_replies : List Reply
trailers_008_replies = reply.Ok ∷ reply.Ok ∷ reply.Ok ∷ reply.Ok ∷ reply.Ok ∷ reply.Ok ∷ reply.Ok ∷ reply.Ok ∷ reply.Ok ∷ reply.Ok ∷ reply.Ok ∷
    reply.Refused reason.SameEvent ∷ reply.Ok ∷ reply.Refused reason.NoTask ∷ reply.Read (1 ∷ 17 ∷ 17 ∷ []) ∷ reply.Ok ∷ []

trailers_008_report : List ℕ
trailers_008_report =
    codes "order p0 t1 p2 p2 p2 t0 p0 p2 s0=120 p2 p2 t0 t1 p2 s0=312 p2 t1 p2\n" ++
    codes "t1.1 output ESELF\n" ++
    codes "p2.7 switch ESRCH\n" ++
    codes "t1.2 read 1 17 17\n" ++
    codes "ring 0 head=560 tail=312 lost=108 pending=2\n" ++
    codes "taken 0018000100000009 0000000000000000 0000000000000001\n" ++
    codes "taken 0018000100000009 0000000000000000 0000000000000001\n" ++
    codes "taken 0018000100000009 0000000000000000 0000000000000001\n" ++
    codes "taken 0018000100000009 0000000000000000 0000000000000001\n" ++
    codes "taken 0018000100000009 0000000000000000 0000000000000001\n" ++
    codes "taken 0018000100000009 0000000000000000 0000000000000001\n" ++
    codes "taken 0018000100000009 0000000000000000 0000000000000001\n" ++
    codes "taken 0018000100000009 0000000000000000 0000000000000001\n" ++
    codes "taken 0018000100000009 0000000000000000 0000000000000001\n" ++
    codes "taken 0018000100000009 0000000000000000 0000000000000001\n" ++
    codes "taken 0018000100000009 0000000000000000 0000000000000001\n" ++
    codes "taken 0018000100000009 0000000000000000 0000000000000001\n" ++
    codes "taken 0018000100000009 0000000000000000 0000000000000001\n" ++
    codes "left 0018000100000009 0000000000000000 0000000000000001\n" ++
    codes "left 0018000100000009 0000000000000000 0000000000000001\n" ++
    codes "left 0020000000000002 0000000000000001 000000000000006a 0000000000000000\n" ++
    codes "left 0018000200000009 0000000000000000 0000000000000001\n" ++
    codes "left 0018000200000009 0000000000000000 0000000000000001\n" ++
    codes "left 0018000200000009 0000000000000000 0000000000000001\n" ++
    codes "left 0018000200000009 0000000000000000 0000000000000001\n" ++
    codes "left 0018000200000009 0000000000000000 0000000000000001\n" ++
    codes "left 0018000200000009 0000000000000000 0000000000000001\n" ++
    codes "left 0018000200000009 0000000000000000 0000000000000001\n" ++
    codes "ring 5 head=0 tail=0 lost=0 pending=0\n" ++
    codes "ring 11 head=0 tail=0 lost=0 pending=0\n" ++
    codes "end\n"

trailers_008-worked : IsWorked trailers_008 trailers_008_replies trailers_008_report
unfolding Computed trailers_008 trailers_008_replies trailers_008_report
trailers_008-worked = computed trailers_008 trailers_008_replies trailers_008_report refl (refl, (refl, (refl, (refl, (refl, (refl, (refl, (refl, (refl, (refl, (refl, (refl, (refl, (refl, (refl, (refl, (refl, (refl, refl))))))))))))))))))

trailers_010 : Scripted
trailers_010 = record {
  cpus = 1;
  pmus = pmu 2 1 ∷ [];
  kinds = kind_line (codes "dummy-2") 0 3 ∷ [];
  tasks = [];
  rings = (ring 4, 256) ∷ [];
  cpu_lines = eight ((
      cpu_line.Switch None ∷
      cpu_line.Work (work 984185716 mode.User 4194808 (1 ∷ [])) ∷
      cpu_line.Work (work 170643121 mode.User 4198328 (0 ∷ [])) ∷
      cpu_line.Work (work 1000000000 mode.Kernel 0 (0 ∷ [])) ∷
      cpu_line.Switch None ∷
      cpu_line.Work (work 1 mode.Kernel 0 (282 ∷ [])) ∷
      cpu_line.Work (work 10 mode.User 4194743 (66 ∷ [])) ∷
      []) ∷ []);
  tool_lines = four ((
      tool_line.Open (slot 0) (attr (kind.Hard 0) tasks.All (cpus.One (cpu 0)) 4 389 21 66) None ∷
      tool_line.Map (slot 0) (ring 4) ∷
      tool_line.Open (slot 1) (attr (kind.Hard 0) tasks.All (cpus.One (cpu 0)) 0 65540 4 66) (Some (slot 0)) ∷
      tool_line.Open (slot 2) (attr (kind.Hard 0) tasks.All (cpus.One (cpu 0)) 8 834 11 66) (Some (slot 0)) ∷
      tool_line.Open (slot 2) (attr (kind.Hard 0) tasks.All (cpus.One (cpu 0)) 18 578 3 2) (Some (slot 0)) ∷
      tool_line.Why (slot 0) ∷
      tool_line.Period (slot 0) 9223372036854775807 ∷
      tool_line.Open (slot 2) (attr (kind.Hard 0) tasks.All (cpus.One (cpu 0)) 18 65600 9 2) (Some (slot 0)) ∷
      []) ∷ []);
  readers = [];
  order = by_tool 0 ∷ by_cpu 0 ∷ by_cpu 0 ∷ by_cpu 0 ∷ by_cpu 0 ∷ by_cpu 0 ∷ by_tool 0 ∷ by_cpu 0 ∷ by_tool 0 ∷ by_tool 0 ∷ by_tool 0 ∷ seen 4 160 ∷
      by_cpu 0 ∷ by_tool 0 ∷ seen 4 280 ∷ by_tool 0 ∷ seen 4 400 ∷ by_tool 0 ∷ [];
}

trailers_010_replies : List Reply
trailers_010_replies = reply.Ok ∷ reply.Ok ∷ reply.Ok ∷ reply.Ok ∷ reply.Ok ∷ reply.Ok ∷ reply.Ok ∷ reply.Ok ∷ reply.Ok ∷
    reply.Refused (reason.NoAssignment (slots (0 ∷ 1 ∷ 2 ∷ []))) ∷ reply.Refused (reason.NoAssignment (slots (0 ∷ 1 ∷ 2 ∷ []))) ∷ reply.Ok ∷
    reply.Why why.On ∷ reply.Ok ∷ reply.Refused (reason.NoAssignment (slots (0 ∷ 1 ∷ 2 ∷ []))) ∷ []

trailers_010_report : List ℕ
trailers_010_report =
    codes "order t0 p0 p0 p0 p0 p0 t0 p0 t0 t0 t0 s4=160 p0 t0 s4=280 t0 s4=400 t0\n" ++
    codes "t0.3 open EASSIGN 0 1 2\n" ++
    codes "t0.4 open EASSIGN 0 1 2\n" ++
    codes "t0.5 why on\n" ++
    codes "t0.7 open EASSIGN 0 1 2\n" ++
    codes "ring 4 head=400 tail=400 lost=78 pending=14\n" ++
    codes "taken 0028000100000009 0000000000000000 0000000080701426 0000000000000000 0000000000000004\n" ++
    codes "taken 0028000100000009 0000000000000000 0000000080701426 0000000000000000 0000000000000004\n" ++
    codes "taken 0028000100000009 0000000000000000 0000000080701426 0000000000000000 0000000000000004\n" ++
    codes "taken 0028000100000009 0000000000000000 0000000080701426 0000000000000000 0000000000000004\n" ++
    codes "taken 0028000100000009 0000000000000000 0000000080701426 0000000000000000 0000000000000004\n" ++
    codes "taken 0028000100000009 0000000000000000 0000000080701426 0000000000000000 0000000000000004\n" ++
    codes "taken 0028000000000002 0000000000000001 0000000000000040 0000000080701430 0000000000000000\n" ++
    codes "taken 0028000200000009 00000000004001b7 0000000080701430 0000000000000000 0000000000000004\n" ++
    codes "taken 0028000200000009 00000000004001b7 0000000080701430 0000000000000000 0000000000000004\n" ++
    codes "taken 0028000200000009 00000000004001b7 0000000080701430 0000000000000000 0000000000000004\n" ++
    codes "end\n"

trailers_010-worked : IsWorked trailers_010 trailers_010_replies trailers_010_report
unfolding Computed trailers_010 trailers_010_replies trailers_010_report
trailers_010-worked = computed trailers_010 trailers_010_replies trailers_010_report refl (refl, (refl, (refl, (refl, (refl, (refl, (refl, (refl, (refl, (refl, (refl, (refl, (refl, (refl, (refl, (refl, (refl, (refl, refl))))))))))))))))))

trailers_014 : Scripted
trailers_014 = record {
  cpus = 3;
  pmus = pmu 6 7 ∷ [];
  kinds = kind_line (codes "dhyef54") 0 13 ∷ [];
  tasks = task 0 ∷ task 1 ∷ task 2 ∷ [];
  rings = (ring 0, 128) ∷ (ring 1, 64) ∷ [];
  cpu_lines = eight ((
      cpu_line.Switch (Some (task 0)) ∷
      cpu_line.Work (work 1 mode.User 6684655941880969858 (0 ∷ [])) ∷
      []) ∷ (
      cpu_line.Switch (Some (task 2)) ∷
      cpu_line.Work (work 8 mode.User 4196719 (5 ∷ [])) ∷
      cpu_line.Work (work 2298 mode.User 16395838581897162466 (9 ∷ [])) ∷
      cpu_line.Work (work 15 mode.Kernel 1062530972769072829 (10 ∷ [])) ∷
      cpu_line.Work (work 0 mode.User 9 (2 ∷ [])) ∷
      []) ∷ (
      cpu_line.Switch (Some (task 1)) ∷
      []) ∷ []);
  tool_lines = four ((
      tool_line.Open (slot 0) (attr (kind.Hard 0) (tasks.One (task 0)) cpus.Any 0 65540 3 72) None ∷
      tool_line.Close (slot 0) ∷
      tool_line.Map (slot 1) (ring 0) ∷
      tool_line.Disable (slot 1) false ∷
      []) ∷ (
      tool_line.Reset (slot 0) true ∷
      []) ∷ (
      tool_line.Open (slot 1) (attr (kind.Hard 0) tasks.All (cpus.One (cpu 1)) 1 65926 22 74) None ∷
      tool_line.Why (slot 1) ∷
      []) ∷ []);
  readers = reader 0 14 1024 ∷ [];
  order = by_tool 0 ∷ by_cpu 0 ∷ by_tool 1 ∷ by_cpu 0 ∷ by_tool 0 ∷ by_cpu 2 ∷ by_tool 2 ∷ by_cpu 1 ∷ by_tool 0 ∷ by_cpu 1 ∷ seen 0 96 ∷ by_cpu 1 ∷
      by_cpu 1 ∷ seen 0 200 ∷ by_cpu 1 ∷ by_tool 2 ∷ by_tool 0 ∷ seen 0 304 ∷ [];
}

trailers_014_replies : List Reply
trailers_014_replies = reply.Ok ∷ reply.Ok ∷ reply.Ok ∷ reply.Ok ∷ reply.Ok ∷ reply.Ok ∷ reply.Ok ∷ reply.Ok ∷ reply.Ok ∷ reply.Ok ∷ reply.Ok ∷
    reply.Ok ∷ reply.Ok ∷ reply.Why why.On ∷ reply.Ok ∷ []

trailers_014_report : List ℕ
trailers_014_report =
    codes "order t0 p0 t1 p0 t0 p2 t2 p1 t0 p1 s0=96 p1 p1 s0=200 p1 t2 t0 s0=304\n" ++
    codes "t2.1 why on\n" ++
    codes "ring 0 head=304 tail=304 lost=22 pending=1\n" ++
    codes "taken 0030000200000009 0000000000000002 0000000300000003 0000000000000008 0000000000000001 0000000000000001\n" ++
    codes "taken 0030000200000009 0000000000000002 0000000300000003 0000000000000008 0000000000000001 0000000000000001\n" ++
    codes "taken 0038000000000002 0000000000000002 0000000000000003 0000000300000003 0000000000000902 0000000000000001 0000000000000002\n" ++
    codes "taken 0030000200000009 0000000000000002 0000000300000003 0000000000000902 0000000000000001 0000000000000001\n" ++
    codes "taken 0038000000000002 0000000000000002 0000000000000012 0000000300000003 0000000000000911 0000000000000001 0000000000000002\n" ++
    codes "taken 0030000200000009 0000000000000002 0000000300000003 0000000000000911 0000000000000001 0000000000000001\n" ++
    codes "ring 1 head=0 tail=0 lost=0 pending=0\n" ++
    codes "end\n"

trailers_014-worked : IsWorked trailers_014 trailers_014_replies trailers_014_report
unfolding Computed trailers_014 trailers_014_replies trailers_014_report
trailers_014-worked = computed trailers_014 trailers_014_replies trailers_014_report refl (refl, (refl, (refl, (refl, (refl, (refl, (refl, (refl, (refl, (refl, (refl, (refl, (refl, (refl, (refl, (refl, (refl, (refl, refl))))))))))))))))))

trailers_015 : Scripted
trailers_015 = record {
  cpus = 1;
  pmus = pmu 3 1 ∷ [];
  kinds = kind_line (codes "clgmp8v9y") 0 2 ∷ kind_line (codes "yqsqgzqes2") 0 2 ∷ [];
  tasks = task 53 ∷ [];
  rings = (ring 0, 256) ∷ (ring 1, 64) ∷ (ring 2, 128) ∷ [];
  cpu_lines = eight ((
      cpu_line.Switch (Some (task 53)) ∷
      cpu_line.Work (work 0 mode.Kernel 4198295 (0 ∷ 0 ∷ [])) ∷
      cpu_line.Work (work 2565 mode.User 1 (0 ∷ 1 ∷ [])) ∷
      cpu_line.Tick ∷
      cpu_line.Work (work 1000000000 mode.User 4196400 (0 ∷ 0 ∷ [])) ∷
      cpu_line.Work (work 1 mode.Kernel 0 (0 ∷ 0 ∷ [])) ∷
      cpu_line.Tick ∷
      cpu_line.Exit ∷
      cpu_line.Work (work 1 mode.User 4195526 (0 ∷ 0 ∷ [])) ∷
      cpu_line.Tick ∷
      cpu_line.Work (work 0 mode.User 0 (1 ∷ 1 ∷ [])) ∷
      cpu_line.Work (work 1 mode.User 14 (5 ∷ 0 ∷ [])) ∷
      cpu_line.Work (work 1 mode.User 0 (1 ∷ 1 ∷ [])) ∷
      []) ∷ []);
  tool_lines = four ((
      tool_line.Open (slot 55) (attr (kind.Hard 0) tasks.All (cpus.One (cpu 0)) 1 192 3 98) None ∷
      []) ∷ [] ∷ (
      tool_line.Map (slot 55) (ring 2) ∷
      tool_line.Why (slot 20) ∷
      []) ∷ (
      tool_line.Output (slot 55) (slot 55) ∷
      []) ∷ []);
  readers = reader 0 27 16 ∷ reader 1 34 3 ∷ reader 2 37 1024 ∷ [];
  order = by_cpu 0 ∷ by_cpu 0 ∷ by_tool 0 ∷ by_cpu 0 ∷ by_cpu 0 ∷ by_tool 3 ∷ by_cpu 0 ∷ by_cpu 0 ∷ by_cpu 0 ∷ by_cpu 0 ∷ by_tool 2 ∷ by_tool 2 ∷
      by_cpu 0 ∷ by_cpu 0 ∷ by_cpu 0 ∷ seen 2 24 ∷ by_cpu 0 ∷ by_cpu 0 ∷ [];
}

trailers_015_replies : List Reply
trailers_015_replies = reply.Ok ∷ reply.Ok ∷ reply.Ok ∷ reply.Ok ∷ reply.Ok ∷ reply.Refused reason.SameEvent ∷ reply.Ok ∷ reply.Ok ∷ reply.Ok ∷
    reply.Ok ∷ reply.Ok ∷ reply.Refused reason.NoEvent ∷ reply.Ok ∷ reply.Ok ∷ reply.Ok ∷ reply.Ok ∷ reply.Ok ∷ []

trailers_015_report : List ℕ
trailers_015_report =
    codes "order p0 p0 t0 p0 p0 t3 p0 p0 p0 p0 t2 t2 p0 p0 p0 s2=24 p0 p0\n" ++
    codes "t3.0 output ESELF\n" ++
    codes "t2.1 why EBADF\n" ++
    codes "ring 0 head=0 tail=0 lost=0 pending=0\n" ++
    codes "ring 1 head=0 tail=0 lost=0 pending=0\n" ++
    codes "ring 2 head=144 tail=24 lost=1 pending=1\n" ++
    codes "taken 0018000200000009 0000000000000001 0000000000000000\n" ++
    codes "left 0018000200000009 0000000000000001 0000000000000000\n" ++
    codes "left 0018000200000009 0000000000000001 0000000000000000\n" ++
    codes "left 0018000200000009 0000000000000001 0000000000000000\n" ++
    codes "left 0018000200000009 0000000000000001 0000000000000000\n" ++
    codes "left 0018000200000009 0000000000000001 0000000000000000\n" ++
    codes "end\n"

trailers_015-worked : IsWorked trailers_015 trailers_015_replies trailers_015_report
unfolding Computed trailers_015 trailers_015_replies trailers_015_report
trailers_015-worked = computed trailers_015 trailers_015_replies trailers_015_report refl (refl, (refl, (refl, (refl, (refl, (refl, (refl, (refl, (refl, (refl, (refl, (refl, (refl, (refl, (refl, (refl, (refl, (refl, refl))))))))))))))))))
