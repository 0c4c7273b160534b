-- Worked cases, written by tools/maintain/script_terms.py from texts and their reports.
use Rattle.std.specs.Prelude.{ℕ, true, false, List, [], ◌∷◌, ◌++◌, Some, None, codes}
use Rattle.std.proofs.Common.{refl}
use Rattle.perf_base.specs.declared.attr.Kind.TheVariants as kind
use Rattle.perf_base.specs.declared.attr.TaskSel.TheVariants as tasks
use Rattle.perf_base.specs.declared.attr.CpuSel.TheVariants as cpus
use Rattle.perf_base.specs.declared.lines.Mode.TheVariants as mode
use Rattle.perf_base.specs.declared.lines.CpuLine.TheVariants as cpu_line
use Rattle.perf_base.specs.declared.lines.ToolLine.TheVariants as tool_line
use Rattle.perf_base.specs.declared.reasons.Reason.TheVariants as reason
use Rattle.perf_base.specs.declared.reply.Reply.{Reply}
use Rattle.perf_base.specs.declared.reply.Reply.TheVariants as reply
use Rattle.perf_base.specs.Scripts.{Scripted}
use Rattle.worked_theorems.proofs.answers.Words.{cpu, task, slot, ring, by_cpu, by_tool, seen, pmu, kind_line, attr, work, reader, eight, four}
use Rattle.worked_theorems.proofs.Whole.{IsWorked}
use Rattle.worked_theorems.proofs.reports.Answering.{Computed, computed}

sampling_001 : Scripted
sampling_001 = record {
  cpus = 2;
  pmus = pmu 3 3 ∷ [];
  kinds = kind_line (codes "misses") 0 4 ∷ [];
  tasks = task 40 ∷ [];
  rings = (ring 9, 256) ∷ (ring 13, 16384) ∷ [];
  cpu_lines = eight ((
      cpu_line.Work (work 1000000000 mode.User 0 (0 ∷ [])) ∷
      cpu_line.Switch (Some (task 40)) ∷
      []) ∷ (
      cpu_line.Tick ∷
      cpu_line.Fork (task 33) ∷
      cpu_line.Work (work 0 mode.User 16586810627191024948 (249 ∷ [])) ∷
      []) ∷ []);
  tool_lines = four ((
      tool_line.Open (slot 0) (attr (kind.Hard 0) tasks.All (cpus.One (cpu 1)) 0 0 7 1) None ∷
      tool_line.Disable (slot 0) false ∷
      tool_line.Read (slot 0) (Some 78) ∷
      tool_line.Output (slot 0) (slot 0) ∷
      tool_line.Enable (slot 0) false ∷
      tool_line.Output (slot 81) (slot 3) ∷
      tool_line.Map (slot 1) (ring 9) ∷
      []) ∷ (
      tool_line.Enable (slot 0) true ∷
      []) ∷ (
      tool_line.Open (slot 81) (attr (kind.Hard 0) (tasks.One (task 40)) cpus.Any 3 66240 4 2) None ∷
      tool_line.Open (slot 1) (attr (kind.Hard 0) tasks.All (cpus.One (cpu 1)) 3 129 3 4) None ∷
      tool_line.Enable (slot 50) true ∷
      []) ∷ []);
  readers = reader 13 24 3 ∷ [];
  order = by_tool 0 ∷ by_tool 0 ∷ by_tool 0 ∷ by_cpu 1 ∷ by_tool 0 ∷ by_cpu 0 ∷ by_tool 0 ∷ by_tool 2 ∷ by_tool 0 ∷ by_tool 2 ∷ seen 9 0 ∷
      by_tool 0 ∷ by_cpu 1 ∷ by_tool 2 ∷ by_cpu 0 ∷ by_cpu 1 ∷ by_tool 1 ∷ seen 9 240 ∷ [];
}

sampling_001_replies : List Reply
sampling_001_replies = reply.Ok ∷ reply.Ok ∷ reply.Read (0 ∷ 0 ∷ 0 ∷ 1 ∷ []) ∷ reply.Ok ∷ reply.Refused reason.SameEvent ∷ reply.Ok ∷ reply.Ok ∷
    reply.Ok ∷ reply.Refused reason.NoEvent ∷ reply.Ok ∷ reply.Ok ∷ reply.Refused reason.Idle ∷ reply.Refused reason.NoEvent ∷ reply.Ok ∷ reply.Ok ∷
    reply.Ok ∷ []

sampling_001_report : List ℕ
sampling_001_report =
    codes "order t0 t0 t0 p1 t0 p0 t0 t2 t0 t2 s9=0 t0 p1 t2 p0 p1 t1 s9=240\n" ++
    codes "t0.2 read 0 0 0 1\n" ++
    codes "t0.3 output ESELF\n" ++
    codes "t0.5 output EBADF\n" ++
    codes "p1.1 fork EIDLE\n" ++
    codes "t2.2 enable EBADF\n" ++
    codes "ring 9 head=240 tail=240 lost=73 pending=73\n" ++
    codes "taken 0018000200000009 e63030627e652d34 0000000000000001\n" ++
    codes "taken 0018000200000009 e63030627e652d34 0000000000000001\n" ++
    codes "taken 0018000200000009 e63030627e652d34 0000000000000001\n" ++
    codes "taken 0018000200000009 e63030627e652d34 0000000000000001\n" ++
    codes "taken 0018000200000009 e63030627e652d34 0000000000000001\n" ++
    codes "taken 0018000200000009 e63030627e652d34 0000000000000001\n" ++
    codes "taken 0018000200000009 e63030627e652d34 0000000000000001\n" ++
    codes "taken 0018000200000009 e63030627e652d34 0000000000000001\n" ++
    codes "taken 0018000200000009 e63030627e652d34 0000000000000001\n" ++
    codes "taken 0018000200000009 e63030627e652d34 0000000000000001\n" ++
    codes "ring 13 head=0 tail=0 lost=0 pending=0\n" ++
    codes "end\n"

sampling_001-worked : IsWorked sampling_001 sampling_001_replies sampling_001_report
unfolding Computed sampling_001 sampling_001_replies sampling_001_report
sampling_001-worked = computed sampling_001 sampling_001_replies sampling_001_report refl (refl, (refl, (refl, (refl, (refl, (refl, (refl, (refl, (refl, (refl, (refl, (refl, (refl, (refl, (refl, (refl, (refl, (refl, refl))))))))))))))))))

sampling_005 : Scripted
sampling_005 = record {
  cpus = 4;
  pmus = pmu 16 15 ∷ [];
  kinds = kind_line (codes "branches") 0 4 ∷ [];
  tasks = task 0 ∷ [];
  rings = (ring 0, 256) ∷ (ring 1, 64) ∷ (ring 2, 128) ∷ (ring 3, 64) ∷ (ring 4, 128) ∷ [];
  cpu_lines = eight ((
      cpu_line.Switch (Some (task 0)) ∷
      cpu_line.Fork (task 51) ∷
      cpu_line.Tick ∷
      cpu_line.Work (work 1 mode.Kernel 0 (1918 ∷ [])) ∷
      cpu_line.Tick ∷
      []) ∷ [] ∷ (
      cpu_line.Switch (Some (task 51)) ∷
      cpu_line.Work (work 2582 mode.Kernel 4196608 (1 ∷ [])) ∷
      cpu_line.Work (work 1 mode.User 4196278 (6 ∷ [])) ∷
      cpu_line.Work (work 707876689 mode.Kernel 4196891 (42 ∷ [])) ∷
      []) ∷ (
      cpu_line.Work (work 1 mode.User 2603440672464664083 (7 ∷ [])) ∷
      []) ∷ []);
  tool_lines = four ((
      tool_line.Map (slot 0) (ring 0) ∷
      tool_line.Map (slot 1) (ring 1) ∷
      []) ∷ [] ∷ (
      tool_line.Open (slot 0) (attr (kind.Hard 0) (tasks.One (task 0)) cpus.Any 35 451 3 20) None ∷
      tool_line.Open (slot 1) (attr (kind.Hard 0) (tasks.One (task 51)) cpus.Any 7 65664 3 16) None ∷
      tool_line.Open (slot 2) (attr (kind.Hard 0) (tasks.One (task 51)) cpus.Any 0 65987 3 5) None ∷
      tool_line.Close (slot 0) ∷
      []) ∷ []);
  readers = reader 0 26 1 ∷ reader 2 2 1 ∷ reader 3 30 1 ∷ reader 4 22 2 ∷ [];
  order = by_tool 2 ∷ by_tool 0 ∷ by_cpu 0 ∷ by_cpu 3 ∷ by_cpu 0 ∷ by_cpu 0 ∷ by_tool 2 ∷ by_tool 0 ∷ by_cpu 0 ∷ seen 0 240 ∷ by_cpu 0 ∷ by_tool 2 ∷
      by_cpu 2 ∷ seen 0 240 ∷ by_cpu 2 ∷ by_cpu 2 ∷ by_tool 2 ∷ by_cpu 2 ∷ [];
}

sampling_005_replies : List Reply
sampling_005_replies = reply.Ok ∷ reply.Ok ∷ reply.Ok ∷ reply.Ok ∷ reply.Ok ∷ reply.Ok ∷ reply.Ok ∷ reply.Ok ∷ reply.Ok ∷ reply.Ok ∷ reply.Ok ∷
    reply.Ok ∷ reply.Ok ∷ reply.Ok ∷ reply.Ok ∷ reply.Ok ∷ []

sampling_005_report : List ℕ
sampling_005_report =
    codes "order t2 t0 p0 p3 p0 p0 t2 t0 p0 s0=240 p0 t2 p2 s0=240 p2 p2 t2 p2\n" ++
    codes "ring 0 head=240 tail=240 lost=49 pending=49\n" ++
    codes "taken 0030000100000009 0000000000000000 0000000100000001 0000000000000001 0000000000000000 0000000000000023\n" ++
    codes "taken 0030000100000009 0000000000000000 0000000100000001 0000000000000001 0000000000000000 0000000000000023\n" ++
    codes "taken 0030000100000009 0000000000000000 0000000100000001 0000000000000001 0000000000000000 0000000000000023\n" ++
    codes "taken 0030000100000009 0000000000000000 0000000100000001 0000000000000001 0000000000000000 0000000000000023\n" ++
    codes "taken 0030000100000009 0000000000000000 0000000100000001 0000000000000001 0000000000000000 0000000000000023\n" ++
    codes "ring 1 head=48 tail=0 lost=4 pending=4\n" ++
    codes "left 0018000100000009 0000000000000002 0000000000000002\n" ++
    codes "left 0018000100000009 0000000000000002 0000000000000002\n" ++
    codes "ring 2 head=0 tail=0 lost=0 pending=0\n" ++
    codes "ring 3 head=0 tail=0 lost=0 pending=0\n" ++
    codes "ring 4 head=0 tail=0 lost=0 pending=0\n" ++
    codes "end\n"

sampling_005-worked : IsWorked sampling_005 sampling_005_replies sampling_005_report
unfolding Computed sampling_005 sampling_005_replies sampling_005_report
sampling_005-worked = computed sampling_005 sampling_005_replies sampling_005_report refl (refl, (refl, (refl, (refl, (refl, (refl, (refl, (refl, (refl, (refl, (refl, (refl, (refl, (refl, (refl, (refl, (refl, (refl, refl))))))))))))))))))

sampling_009 : Scripted
sampling_009 = record {
  cpus = 1;
  pmus = pmu 3 1 ∷ [];
  kinds = kind_line (codes "nf") 0 7 ∷ [];
  tasks = task 0 ∷ task 1 ∷ task 2 ∷ [];
  rings = (ring 0, 128) ∷ [];
  cpu_lines = eight ((
      cpu_line.Switch (Some (task 1)) ∷
      cpu_line.Tick ∷
      cpu_line.Work (work 0 mode.User 4196654 (0 ∷ [])) ∷
      cpu_line.Work (work 998135186 mode.User 0 (2 ∷ [])) ∷
      cpu_line.Fork (task 63) ∷
      cpu_line.Tick ∷
      cpu_line.Work (work 620128884 mode.User 17628778795826780420 (64 ∷ [])) ∷
      []) ∷ []);
  tool_lines = four ((
      tool_line.Open (slot 1) (attr (kind.Hard 0) (tasks.One (task 0)) (cpus.One (cpu 0)) 14 196 15 0) (Some (slot 0)) ∷
      tool_line.Open (slot 1) (attr (kind.Hard 0) tasks.All (cpus.One (cpu 0)) 0 65542 14 0) (Some (slot 0)) ∷
      tool_line.Map (slot 220) (ring 0) ∷
      tool_line.Output (slot 2) (slot 185) ∷
      []) ∷ (
      tool_line.Open (slot 0) (attr (kind.Hard 0) tasks.All (cpus.One (cpu 0)) 0 66305 1 0) None ∷
      tool_line.Map (slot 1) (ring 0) ∷
      tool_line.Read (slot 1) (Some 18446744073709551615) ∷
      tool_line.Open (slot 2) (attr (kind.Hard 0) tasks.All (cpus.One (cpu 0)) 0 642 3 0) (Some (slot 0)) ∷
      tool_line.Open (slot 220) (attr (kind.Hard 0) tasks.All (cpus.One (cpu 0)) 2 6 3 0) None ∷
      tool_line.Map (slot 220) (ring 0) ∷
      tool_line.Read (slot 1) None ∷
      []) ∷ []);
  readers = reader 0 34 1024 ∷ [];
  order = by_cpu 0 ∷ by_cpu 0 ∷ by_tool 1 ∷ by_tool 0 ∷ by_tool 1 ∷ by_cpu 0 ∷ by_tool 0 ∷ by_tool 1 ∷ by_cpu 0 ∷ by_tool 1 ∷ by_tool 1 ∷ by_tool 1 ∷
      by_cpu 0 ∷ by_cpu 0 ∷ by_tool 0 ∷ by_tool 0 ∷ by_tool 1 ∷ by_cpu 0 ∷ [];
}

sampling_009_replies : List Reply
sampling_009_replies = reply.Ok ∷ reply.Ok ∷ reply.Ok ∷ reply.Refused reason.OtherContext ∷ reply.Refused reason.NoEvent ∷ reply.Ok ∷ reply.Ok ∷
    reply.Read (2 ∷ 0 ∷ 0 ∷ 1 ∷ 0 ∷ 2 ∷ []) ∷ reply.Ok ∷ reply.Ok ∷ reply.Ok ∷ reply.Ok ∷ reply.Ok ∷ reply.Ok ∷ reply.Refused reason.HasRing ∷
    reply.Refused reason.NoEvent ∷ reply.Read (3 ∷ 998135186 ∷ 2 ∷ 1 ∷ 2 ∷ 2 ∷ 0 ∷ 3 ∷ []) ∷ reply.Ok ∷ []

sampling_009_report : List ℕ
sampling_009_report =
    codes "order p0 p0 t1 t0 t1 p0 t0 t1 p0 t1 t1 t1 p0 p0 t0 t0 t1 p0\n" ++
    codes "t0.0 open ECONTEXT\n" ++
    codes "t1.1 map EBADF\n" ++
    codes "t1.2 read 2 0 0 1 0 2\n" ++
    codes "t0.2 map EMAPPED\n" ++
    codes "t0.3 output EBADF\n" ++
    codes "t1.6 read 3 998135186 2 1 2 2 0 3\n" ++
    codes "ring 0 head=120 tail=0 lost=27 pending=27\n" ++
    codes "left 0018000200000009 0000000200000002 000000006074c006\n" ++
    codes "left 0018000200000009 0000000200000002 000000006074c006\n" ++
    codes "left 0018000200000009 0000000200000002 000000006074c006\n" ++
    codes "left 0018000200000009 0000000200000002 000000006074c006\n" ++
    codes "left 0018000200000009 0000000200000002 000000006074c006\n" ++
    codes "end\n"

sampling_009-worked : IsWorked sampling_009 sampling_009_replies sampling_009_report
unfolding Computed sampling_009 sampling_009_replies sampling_009_report
sampling_009-worked = computed sampling_009 sampling_009_replies sampling_009_report refl (refl, (refl, (refl, (refl, (refl, (refl, (refl, (refl, (refl, (refl, (refl, (refl, (refl, (refl, (refl, (refl, (refl, (refl, refl))))))))))))))))))

sampling_016 : Scripted
sampling_016 = record {
  cpus = 1;
  pmus = pmu 1 1 ∷ [];
  kinds = kind_line (codes "w-g-c53ju") 0 1 ∷ kind_line (codes "vufrdrvq") 0 1 ∷ [];
  tasks = task 29 ∷ task 42 ∷ [];
  rings = (ring 0, 128) ∷ (ring 2, 128) ∷ (ring 14, 64) ∷ [];
  cpu_lines = eight ((
      cpu_line.Switch (Some (task 29)) ∷
      cpu_line.Work (work 18 mode.User 10 (0 ∷ 0 ∷ [])) ∷
      cpu_line.Switch (Some (task 42)) ∷
      cpu_line.Work (work 1 mode.User 13 (0 ∷ 1 ∷ [])) ∷
      cpu_line.Switch (Some (task 60)) ∷
      cpu_line.Tick ∷
      cpu_line.Work (work 16 mode.User 4195259 (0 ∷ 0 ∷ [])) ∷
      cpu_line.Work (work 10 mode.User 10376513235412500534 (1 ∷ 0 ∷ [])) ∷
      cpu_line.Work (work 2054 mode.User 4194405 (0 ∷ 0 ∷ [])) ∷
      cpu_line.Work (work 1000000000 mode.Kernel 0 (0 ∷ 0 ∷ [])) ∷
      cpu_line.Work (work 1 mode.Kernel 14076963084278417522 (1 ∷ 111 ∷ [])) ∷
      cpu_line.Work (work 2459 mode.User 4194501 (0 ∷ 93 ∷ [])) ∷
      []) ∷ []);
  tool_lines = four ((
      tool_line.Open (slot 0) (attr (kind.Hard 1) (tasks.One (task 42)) cpus.Any 1 0 8 0) None ∷
      tool_line.Map (slot 0) (ring 0) ∷
      tool_line.Map (slot 0) (ring 0) ∷
      tool_line.Open (slot 1) (attr kind.CpuMigrations (tasks.One (task 21)) cpus.Any 0 71 3 7) None ∷
      []) ∷ []);
  readers = reader 0 23 1 ∷ reader 14 19 3 ∷ [];
  order = by_cpu 0 ∷ by_cpu 0 ∷ by_cpu 0 ∷ by_cpu 0 ∷ by_cpu 0 ∷ by_cpu 0 ∷ by_cpu 0 ∷ by_tool 0 ∷ by_cpu 0 ∷ by_cpu 0 ∷ by_tool 0 ∷ by_tool 0 ∷
      by_tool 0 ∷ by_cpu 0 ∷ by_cpu 0 ∷ seen 0 32 ∷ by_cpu 0 ∷ seen 0 152 ∷ [];
}

sampling_016_replies : List Reply
sampling_016_replies = reply.Ok ∷ reply.Ok ∷ reply.Ok ∷ reply.Ok ∷ reply.Refused reason.NoTask ∷ reply.Ok ∷ reply.Ok ∷ reply.Ok ∷ reply.Ok ∷
    reply.Ok ∷ reply.Ok ∷ reply.Refused reason.HasRing ∷ reply.Refused reason.NoTask ∷ reply.Ok ∷ reply.Ok ∷ reply.Ok ∷ []

sampling_016_report : List ℕ
sampling_016_report =
    codes "order p0 p0 p0 p0 p0 p0 p0 t0 p0 p0 t0 t0 t0 p0 p0 s0=32 p0 s0=152\n" ++
    codes "p0.4 switch ESRCH\n" ++
    codes "t0.2 map EMAPPED\n" ++
    codes "t0.3 open ESRCH\n" ++
    codes "ring 0 head=152 tail=152 lost=188 pending=92\n" ++
    codes "taken 0008000100000009\n" ++
    codes "taken 0008000100000009\n" ++
    codes "taken 0008000100000009\n" ++
    codes "taken 0008000100000009\n" ++
    codes "taken 0008000100000009\n" ++
    codes "taken 0008000100000009\n" ++
    codes "taken 0008000100000009\n" ++
    codes "taken 0008000100000009\n" ++
    codes "taken 0008000100000009\n" ++
    codes "taken 0008000100000009\n" ++
    codes "taken 0008000100000009\n" ++
    codes "taken 0008000100000009\n" ++
    codes "taken 0008000100000009\n" ++
    codes "taken 0008000100000009\n" ++
    codes "taken 0008000100000009\n" ++
    codes "taken 0018000000000002 0000000000000001 0000000000000060\n" ++
    codes "taken 0008000200000009\n" ++
    codes "ring 2 head=0 tail=0 lost=0 pending=0\n" ++
    codes "ring 14 head=0 tail=0 lost=0 pending=0\n" ++
    codes "end\n"

sampling_016-worked : IsWorked sampling_016 sampling_016_replies sampling_016_report
unfolding Computed sampling_016 sampling_016_replies sampling_016_report
sampling_016-worked = computed sampling_016 sampling_016_replies sampling_016_report refl (refl, (refl, (refl, (refl, (refl, (refl, (refl, (refl, (refl, (refl, (refl, (refl, (refl, (refl, (refl, (refl, (refl, (refl, refl))))))))))))))))))

sampling_017 : Scripted
sampling_017 = record {
  cpus = 3;
  pmus = pmu 2 7 ∷ [];
  kinds = kind_line (codes "aor") 0 3 ∷ kind_line (codes "idle") 0 1 ∷ kind_line (codes "user") 0 3 ∷ kind_line (codes "y") 0 3 ∷
      kind_line (codes "dummy-2") 0 3 ∷ [];
  tasks = task 0 ∷ [];
  rings = (ring 0, 256) ∷ (ring 1, 128) ∷ (ring 2, 256) ∷ [];
  cpu_lines = eight ((
      cpu_line.Tick ∷
      cpu_line.Work (work 1 mode.User 4196150 (0 ∷ 0 ∷ 0 ∷ 0 ∷ 0 ∷ [])) ∷
      []) ∷ (
      cpu_line.Switch (Some (task 0)) ∷
      cpu_line.Work (work 1 mode.User 13410867897438251492 (0 ∷ 0 ∷ 5 ∷ 5 ∷ 0 ∷ [])) ∷
      cpu_line.Exit ∷
      cpu_line.Work (work 11 mode.Kernel 0 (0 ∷ 69 ∷ 5 ∷ 5 ∷ 0 ∷ [])) ∷
      cpu_line.Work (work 1 mode.User 4195503 (0 ∷ 7 ∷ 0 ∷ 153 ∷ 0 ∷ [])) ∷
      cpu_line.Switch None ∷
      cpu_line.Switch (Some (task 0)) ∷
      []) ∷ (
      cpu_line.Tick ∷
      cpu_line.Work (work 1000000000 mode.Kernel 4195470 (0 ∷ 0 ∷ 4 ∷ 0 ∷ 0 ∷ [])) ∷
      []) ∷ []);
  tool_lines = four ((
      tool_line.Open (slot 0) (attr (kind.Hard 3) tasks.All (cpus.One (cpu 1)) 25 261 16 16) None ∷
      tool_line.Enable (slot 7) true ∷
      tool_line.Read (slot 0) None ∷
      []) ∷ (
      tool_line.Map (slot 0) (ring 0) ∷
      tool_line.Open (slot 1) (attr (kind.Hard 1) tasks.All (cpus.One (cpu 1)) 15 7 3 0) None ∷
      tool_line.Map (slot 1) (ring 1) ∷
      []) ∷ []);
  readers = reader 1 17 1024 ∷ reader 2 18 1 ∷ [];
  order = by_cpu 0 ∷ by_cpu 1 ∷ by_tool 0 ∷ by_tool 1 ∷ by_tool 0 ∷ by_tool 1 ∷ by_cpu 2 ∷ by_tool 1 ∷ by_cpu 1 ∷ by_cpu 1 ∷ by_tool 0 ∷ by_cpu 2 ∷
      by_cpu 1 ∷ seen 1 64 ∷ by_cpu 1 ∷ by_cpu 0 ∷ by_cpu 1 ∷ by_cpu 1 ∷ [];
}

sampling_017_replies : List Reply
sampling_017_replies = reply.Ok ∷ reply.Ok ∷ reply.Ok ∷ reply.Ok ∷ reply.Refused reason.NoEvent ∷ reply.Ok ∷ reply.Ok ∷ reply.Ok ∷ reply.Ok ∷
    reply.Ok ∷ reply.Read (0 ∷ 0 ∷ []) ∷ reply.Ok ∷ reply.Ok ∷ reply.Ok ∷ reply.Ok ∷ reply.Ok ∷ reply.Refused reason.NoTask ∷ []

sampling_017_report : List ℕ
sampling_017_report =
    codes "order p0 p1 t0 t1 t0 t1 p2 t1 p1 p1 t0 p2 p1 s1=64 p1 p0 p1 p1\n" ++
    codes "t0.1 enable EBADF\n" ++
    codes "t0.2 read 0 0\n" ++
    codes "p1.6 switch ESRCH\n" ++
    codes "ring 0 head=0 tail=0 lost=0 pending=0\n" ++
    codes "ring 1 head=152 tail=64 lost=1 pending=0\n" ++
    codes "taken 0020000100000009 0000000000000000 0000000000000000 000000000000000c\n" ++
    codes "taken 0020000100000009 0000000000000000 0000000000000000 000000000000000c\n" ++
    codes "left 0020000100000009 0000000000000000 0000000000000000 000000000000000c\n" ++
    codes "left 0018000000000002 0000000000000002 0000000000000001\n" ++
    codes "left 0020000200000009 00000000004004af 0000000000000000 000000000000000d\n" ++
    codes "ring 2 head=0 tail=0 lost=0 pending=0\n" ++
    codes "end\n"

sampling_017-worked : IsWorked sampling_017 sampling_017_replies sampling_017_report
unfolding Computed sampling_017 sampling_017_replies sampling_017_report
sampling_017-worked = computed sampling_017 sampling_017_replies sampling_017_report refl (refl, (refl, (refl, (refl, (refl, (refl, (refl, (refl, (refl, (refl, (refl, (refl, (refl, (refl, (refl, (refl, (refl, (refl, refl))))))))))))))))))
