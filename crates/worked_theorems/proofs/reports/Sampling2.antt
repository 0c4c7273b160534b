-- Worked cases, written by tools/maintain/script_terms.py from texts and their reports.
use Rattle.std.specs.Prelude.{ℕ, true, false, List, [], ◌∷◌, ◌++◌, Some, None, codes}
use Rattle.std.proofs.Common.{refl}
use Rattle.perf_base.specs.declared.attr.Kind.TheVariants as kind
use Rattle.perf_base.specs.declared.attr.TaskSel.TheVariants as tasks
use Rattle.perf_base.specs.declared.attr.CpuSel.TheVariants as cpus
use Rattle.perf_base.specs.declared.lines.Mode.TheVariants as mode
use Rattle.perf_base.specs.declared.lines.CpuLine.TheVariants as cpu_line
use Rattle.perf_base.specs.declared.lines.ToolLine.TheVariants as tool_line
use Rattle.perf_base.specs.declared.reasons.Reason.TheVariants as reason
use Rattle.perf_base.specs.declared.reply.Reply.{Reply}
use Rattle.perf_base.specs.declared.reply.Reply.TheVariants as reply
use Rattle.perf_base.specs.Scripts.{Scripted}
use Rattle.worked_theorems.proofs.answers.Words.{cpu, task, slot, ring, by_cpu, by_tool, seen, pmu, kind_line, attr, work, reader, eight, four}
use Rattle.worked_theorems.proofs.Whole.{IsWorked}
use Rattle.worked_theorems.proofs.reports.Answering.{Computed, computed}

sampling_019 : Scripted
sampling_019 = record {
  cpus = 8;
  pmus = pmu 2 255 ∷ [];
  kinds = kind_line (codes "p0") 0 1 ∷ [];
  tasks = task 0 ∷ task 1 ∷ [];
  rings = (ring 0, 64) ∷ [];
  cpu_lines = eight ([] ∷ [] ∷ [] ∷ [] ∷ (
      cpu_line.Switch (Some (task 0)) ∷
      cpu_line.Work (work 3 mode.User 13159020955895146900 (1 ∷ [])) ∷
      cpu_line.Work (work 16 mode.User 0 (87 ∷ [])) ∷
      cpu_line.Fork (task 62) ∷
      cpu_line.Work (work 958989254 mode.User 4196783 (73 ∷ [])) ∷
      cpu_line.Work (work 2 mode.User 12909618032999643442 (0 ∷ [])) ∷
      cpu_line.Work (work 10 mode.Kernel 4 (15 ∷ [])) ∷
      []) ∷ [] ∷ (
      cpu_line.Switch (Some (task 62)) ∷
      []) ∷ (
      cpu_line.Switch (Some (task 1)) ∷
      cpu_line.Work (work 8 mode.User 0 (0 ∷ [])) ∷
      []) ∷ []);
  tool_lines = four ([] ∷ (
      tool_line.Open (slot 0) (attr (kind.Hard 0) tasks.All (cpus.One (cpu 4)) 6 66048 3 2) None ∷
      []) ∷ [] ∷ (
      tool_line.Map (slot 0) (ring 0) ∷
      tool_line.Seats (cpu 3) ∷
      tool_line.Open (slot 214) (attr kind.ContextSwitches tasks.All (cpus.One (cpu 6)) 9223372036854775807 3 3 6) None ∷
      []) ∷ []);
  readers = reader 0 15 2 ∷ [];
  order = by_tool 1 ∷ seen 0 0 ∷ by_cpu 4 ∷ by_tool 3 ∷ by_cpu 4 ∷ by_cpu 7 ∷ by_cpu 4 ∷ seen 0 24 ∷ by_cpu 4 ∷ by_tool 3 ∷ by_tool 3 ∷ by_cpu 4 ∷
      by_cpu 4 ∷ seen 0 48 ∷ by_cpu 4 ∷ by_cpu 7 ∷ seen 0 96 ∷ by_cpu 6 ∷ [];
}

sampling_019_replies : List Reply
sampling_019_replies = reply.Ok ∷ reply.Ok ∷ reply.Ok ∷ reply.Ok ∷ reply.Ok ∷ reply.Ok ∷ reply.Ok ∷ reply.Seats [] ∷
    reply.Refused reason.SoftPeriod ∷ reply.Ok ∷ reply.Ok ∷ reply.Ok ∷ reply.Ok ∷ reply.Ok ∷ []

sampling_019_report : List ℕ
sampling_019_report =
    codes "order t1 s0=0 p4 t3 p4 p7 p4 s0=24 p4 t3 t3 p4 p4 s0=48 p4 p7 s0=96 p6\n" ++
    codes "t3.1 seats\n" ++
    codes "t3.2 open ESOFTPERIOD\n" ++
    codes "ring 0 head=96 tail=96 lost=26 pending=2\n" ++
    codes "taken 0018000200000009 0000000000000001 0000000000000001\n" ++
    codes "taken 0018000200000009 0000000000000001 0000000000000001\n" ++
    codes "taken 0018000000000002 0000000000000001 0000000000000018\n" ++
    codes "taken 0018000100000009 0000000000000001 0000000000000001\n" ++
    codes "end\n"

sampling_019-worked : IsWorked sampling_019 sampling_019_replies sampling_019_report
unfolding Computed sampling_019 sampling_019_replies sampling_019_report
sampling_019-worked = computed sampling_019 sampling_019_replies sampling_019_report refl (refl, (refl, (refl, (refl, (refl, (refl, (refl, (refl, (refl, ((refl, refl), (refl, (refl, (refl, (refl, (refl, (refl, (refl, (refl, refl))))))))))))))))))

sampling_020 : Scripted
sampling_020 = record {
  cpus = 1;
  pmus = pmu 16 1 ∷ [];
  kinds = kind_line (codes "etxjkl9h2rh") 0 3580 ∷ [];
  tasks = task 0 ∷ task 5 ∷ task 27 ∷ task 42 ∷ [];
  rings = (ring 0, 128) ∷ (ring 1, 256) ∷ [];
  cpu_lines = eight ((
      cpu_line.Switch (Some (task 27)) ∷
      cpu_line.Work (work 3404 mode.User 1 (7 ∷ [])) ∷
      cpu_line.Switch (Some (task 42)) ∷
      cpu_line.Exit ∷
      cpu_line.Exit ∷
      cpu_line.Switch (Some (task 27)) ∷
      cpu_line.Tick ∷
      cpu_line.Switch (Some (task 29)) ∷
      cpu_line.Work (work 45709305 mode.User 12 (0 ∷ [])) ∷
      cpu_line.Work (work 19 mode.User 1 (11 ∷ [])) ∷
      cpu_line.Fork (task 1) ∷
      cpu_line.Work (work 7 mode.User 0 (0 ∷ [])) ∷
      cpu_line.Fork (task 2) ∷
      cpu_line.Work (work 170456418 mode.User 4195358 (4382 ∷ [])) ∷
      []) ∷ []);
  tool_lines = four ((
      tool_line.Map (slot 0) (ring 0) ∷
      []) ∷ (
      tool_line.Open (slot 0) (attr (kind.Hard 0) tasks.All (cpus.One (cpu 0)) 14 68 3 2) None ∷
      tool_line.Open (slot 2) (attr (kind.Hard 0) tasks.All (cpus.One (cpu 0)) 0 64 9223372036854775813 10) None ∷
      []) ∷ (
      tool_line.Open (slot 1) (attr (kind.Hard 0) (tasks.One (task 5)) cpus.Any 0 512 6 2) None ∷
      []) ∷ []);
  readers = reader 1 8 3 ∷ [];
  order = by_cpu 0 ∷ by_cpu 0 ∷ by_cpu 0 ∷ by_tool 1 ∷ by_tool 0 ∷ by_tool 2 ∷ by_cpu 0 ∷ by_cpu 0 ∷ by_cpu 0 ∷ by_cpu 0 ∷ by_cpu 0 ∷ by_tool 1 ∷
      by_cpu 0 ∷ by_cpu 0 ∷ by_cpu 0 ∷ by_cpu 0 ∷ by_cpu 0 ∷ by_cpu 0 ∷ [];
}

sampling_020_replies : List Reply
sampling_020_replies = reply.Ok ∷ reply.Ok ∷ reply.Ok ∷ reply.Ok ∷ reply.Ok ∷ reply.Ok ∷ reply.Ok ∷ reply.Refused reason.Idle ∷ reply.Ok ∷ reply.Ok ∷
    reply.Refused reason.NoTask ∷ reply.Refused reason.BadFormatBits ∷ reply.Ok ∷ reply.Ok ∷ reply.Ok ∷ reply.Ok ∷ reply.Ok ∷ reply.Ok ∷ []

sampling_020_report : List ℕ
sampling_020_report =
    codes "order p0 p0 p0 t1 t0 t2 p0 p0 p0 p0 p0 t1 p0 p0 p0 p0 p0 p0\n" ++
    codes "p0.4 exit EIDLE\n" ++
    codes "p0.7 switch ESRCH\n" ++
    codes "t1.1 open EFORMATBITS\n" ++
    codes "ring 0 head=120 tail=0 lost=308 pending=308\n" ++
    codes "left 0018000200000009 000000000ce27ac1 0000000000000001\n" ++
    codes "left 0018000200000009 000000000ce27ac1 0000000000000001\n" ++
    codes "left 0018000200000009 000000000ce27ac1 0000000000000001\n" ++
    codes "left 0018000200000009 000000000ce27ac1 0000000000000001\n" ++
    codes "left 0018000200000009 000000000ce27ac1 0000000000000001\n" ++
    codes "ring 1 head=0 tail=0 lost=0 pending=0\n" ++
    codes "end\n"

sampling_020-worked : IsWorked sampling_020 sampling_020_replies sampling_020_report
unfolding Computed sampling_020 sampling_020_replies sampling_020_report
sampling_020-worked = computed sampling_020 sampling_020_replies sampling_020_report refl (refl, (refl, (refl, (refl, (refl, (refl, (refl, (refl, (refl, (refl, (refl, (refl, (refl, (refl, (refl, (refl, (refl, (refl, refl))))))))))))))))))

sampling_026 : Scripted
sampling_026 = record {
  cpus = 2;
  pmus = pmu 4 3 ∷ [];
  kinds = kind_line (codes "order") 0 8 ∷ kind_line (codes "v231lpfidlu") 0 15 ∷ [];
  tasks = task 0 ∷ [];
  rings = (ring 3, 256) ∷ (ring 4, 64) ∷ [];
  cpu_lines = eight ((
      cpu_line.Tick ∷
      cpu_line.Tick ∷
      []) ∷ (
      cpu_line.Switch (Some (task 0)) ∷
      cpu_line.Tick ∷
      cpu_line.Work (work 0 mode.User 4197089 (0 ∷ 5 ∷ [])) ∷
      cpu_line.Work (work 0 mode.User 4194973 (0 ∷ 15 ∷ [])) ∷
      cpu_line.Work (work 1 mode.Kernel 11666710231669899207 (0 ∷ 111 ∷ [])) ∷
      cpu_line.Work (work 9 mode.User 6367192880531381905 (0 ∷ 1 ∷ [])) ∷
      cpu_line.Work (work 7 mode.User 0 (0 ∷ 5 ∷ [])) ∷
      []) ∷ []);
  tool_lines = four ((
      tool_line.Map (slot 231) (ring 3) ∷
      tool_line.Open (slot 0) (attr kind.Dummy (tasks.One (task 0)) cpus.Any 0 65536 3 32) (Some (slot 231)) ∷
      []) ∷ (
      tool_line.Open (slot 231) (attr (kind.Hard 1) (tasks.One (task 0)) cpus.Any 5 66309 3 0) None ∷
      tool_line.Open (slot 106) (attr (kind.Hard 0) (tasks.One (task 0)) cpus.Any 0 641 13 34) None ∷
      tool_line.Open (slot 1) (attr (kind.Hard 1) (tasks.One (task 0)) cpus.Any 0 65862 3 18) (Some (slot 106)) ∷
      tool_line.Period (slot 231) 35 ∷
      []) ∷ []);
  readers = reader 4 22 3 ∷ [];
  order = by_cpu 1 ∷ seen 4 0 ∷ by_tool 1 ∷ by_tool 0 ∷ by_cpu 1 ∷ by_tool 1 ∷ by_cpu 0 ∷ by_tool 0 ∷ by_cpu 1 ∷ by_tool 1 ∷ by_tool 1 ∷ seen 3 48 ∷
      by_cpu 1 ∷ by_cpu 0 ∷ by_cpu 1 ∷ seen 3 192 ∷ by_cpu 1 ∷ by_cpu 1 ∷ [];
}

sampling_026_replies : List Reply
sampling_026_replies = reply.Ok ∷ reply.Ok ∷ reply.Ok ∷ reply.Ok ∷ reply.Ok ∷ reply.Ok ∷ reply.Ok ∷ reply.Ok ∷ reply.Ok ∷ reply.Ok ∷ reply.Ok ∷
    reply.Ok ∷ reply.Ok ∷ reply.Ok ∷ reply.Ok ∷ []

sampling_026_report : List ℕ
sampling_026_report =
    codes "order p1 s4=0 t1 t0 p1 t1 p0 t0 p1 t1 t1 s3=48 p1 p0 p1 s3=192 p1 p1\n" ++
    codes "ring 3 head=192 tail=192 lost=0 pending=0\n" ++
    codes "taken 0030000200000009 0000000000000001 0000000000400ae1 0000000000000000 0000000000000001 0000000000000005\n" ++
    codes "taken 0030000100000009 0000000000000001 a1e87b2490197fc7 0000000000000001 0000000000000001 0000000000000023\n" ++
    codes "taken 0030000100000009 0000000000000001 a1e87b2490197fc7 0000000000000001 0000000000000001 0000000000000023\n" ++
    codes "taken 0030000100000009 0000000000000001 a1e87b2490197fc7 0000000000000001 0000000000000001 0000000000000023\n" ++
    codes "ring 4 head=0 tail=0 lost=0 pending=0\n" ++
    codes "end\n"

sampling_026-worked : IsWorked sampling_026 sampling_026_replies sampling_026_report
unfolding Computed sampling_026 sampling_026_replies sampling_026_report
sampling_026-worked = computed sampling_026 sampling_026_replies sampling_026_report refl (refl, (refl, (refl, (refl, (refl, (refl, (refl, (refl, (refl, (refl, (refl, (refl, (refl, (refl, (refl, (refl, (refl, (refl, refl))))))))))))))))))

sampling_027 : Scripted
sampling_027 = record {
  cpus = 2;
  pmus = pmu 4 3 ∷ [];
  kinds = kind_line (codes "y") 0 15 ∷ [];
  tasks = task 0 ∷ task 1 ∷ task 2 ∷ task 3 ∷ [];
  rings = (ring 0, 256) ∷ (ring 1, 256) ∷ [];
  cpu_lines = eight ((
      cpu_line.Switch (Some (task 2)) ∷
      cpu_line.Work (work 18 mode.User 10654362483167702959 (0 ∷ [])) ∷
      cpu_line.Switch (Some (task 3)) ∷
      cpu_line.Work (work 0 mode.User 4194891 (15 ∷ [])) ∷
      cpu_line.Switch (Some (task 0)) ∷
      cpu_line.Work (work 1 mode.User 15 (4 ∷ [])) ∷
      cpu_line.Tick ∷
      cpu_line.Tick ∷
      []) ∷ []);
  tool_lines = four ((
      tool_line.Open (slot 1) (attr (kind.Hard 0) tasks.All (cpus.One (cpu 0)) 24 193 3 32) None ∷
      tool_line.Open (slot 117) (attr kind.TaskClock (tasks.One (task 3)) (cpus.One (cpu 0)) 0 2 26 1) None ∷
      []) ∷ (
      tool_line.Read (slot 185) None ∷
      tool_line.Open (slot 2) (attr (kind.Hard 0) tasks.All (cpus.One (cpu 0)) 3 1 26 0) (Some (slot 1)) ∷
      []) ∷ (
      tool_line.Open (slot 185) (attr (kind.Hard 0) tasks.All (cpus.One (cpu 0)) 3 320 30 36) None ∷
      tool_line.Map (slot 185) (ring 0) ∷
      tool_line.Enable (slot 185) false ∷
      tool_line.Open (slot 0) (attr kind.CpuMigrations tasks.All (cpus.One (cpu 0)) 0 65857 9 1) (Some (slot 185)) ∷
      tool_line.Read (slot 1) None ∷
      []) ∷ []);
  readers = reader 1 6 3 ∷ [];
  order = by_cpu 0 ∷ by_tool 2 ∷ by_cpu 0 ∷ by_cpu 0 ∷ by_tool 2 ∷ by_tool 2 ∷ by_tool 1 ∷ by_tool 2 ∷ by_tool 0 ∷ by_cpu 0 ∷ by_tool 0 ∷ by_cpu 0 ∷
      seen 0 72 ∷ by_cpu 0 ∷ by_tool 2 ∷ by_tool 1 ∷ by_cpu 0 ∷ by_cpu 0 ∷ [];
}

sampling_027_replies : List Reply
sampling_027_replies = reply.Ok ∷ reply.Ok ∷ reply.Ok ∷ reply.Ok ∷ reply.Ok ∷ reply.Ok ∷ reply.Read (1 ∷ 18 ∷ 0 ∷ 1 ∷ 0 ∷ []) ∷ reply.Ok ∷ reply.Ok ∷
    reply.Ok ∷ reply.Ok ∷ reply.Ok ∷ reply.Ok ∷ reply.Read (19 ∷ 1 ∷ 1 ∷ []) ∷ reply.Ok ∷ reply.Ok ∷ reply.Ok ∷ []

sampling_027_report : List ℕ
sampling_027_report =
    codes "order p0 t2 p0 p0 t2 t2 t1 t2 t0 p0 t0 p0 s0=72 p0 t2 t1 p0 p0\n" ++
    codes "t1.0 read 1 18 0 1 0\n" ++
    codes "t2.4 read 19 1 1\n" ++
    codes "ring 0 head=144 tail=72 lost=0 pending=0\n" ++
    codes "taken 0018000200000009 0000000000000001 0000000000000003\n" ++
    codes "taken 0018000200000009 0000000000000001 0000000000000003\n" ++
    codes "taken 0018000200000009 0000000000000001 0000000000000003\n" ++
    codes "left 0018000200000009 0000000000000001 0000000000000003\n" ++
    codes "left 0018000200000009 0000000000000001 0000000000000003\n" ++
    codes "left 0018000200000009 0000000000000001 0000000000000003\n" ++
    codes "ring 1 head=0 tail=0 lost=0 pending=0\n" ++
    codes "end\n"

sampling_027-worked : IsWorked sampling_027 sampling_027_replies sampling_027_report
unfolding Computed sampling_027 sampling_027_replies sampling_027_report
sampling_027-worked = computed sampling_027 sampling_027_replies sampling_027_report refl (refl, (refl, (refl, (refl, (refl, (refl, (refl, (refl, (refl, (refl, (refl, (refl, (refl, (refl, (refl, (refl, (refl, (refl, refl))))))))))))))))))

sampling_030 : Scripted
sampling_030 = record {
  cpus = 1;
  pmus = pmu 3 1 ∷ [];
  kinds = kind_line (codes "user") 0 1 ∷ kind_line (codes "wyp57c") 0 4 ∷ [];
  tasks = task 24 ∷ task 25 ∷ task 46 ∷ task 54 ∷ [];
  rings = (ring 4, 32768) ∷ (ring 5, 256) ∷ [];
  cpu_lines = eight ((
      cpu_line.Switch (Some (task 46)) ∷
      cpu_line.Tick ∷
      cpu_line.Switch (Some (task 24)) ∷
      cpu_line.Work (work 1 mode.User 3807257667414890498 (0 ∷ 11 ∷ [])) ∷
      cpu_line.Switch (Some (task 25)) ∷
      cpu_line.Work (work 750 mode.User 13 (2 ∷ 10 ∷ [])) ∷
      cpu_line.Work (work 580447307 mode.Kernel 8 (0 ∷ 10 ∷ [])) ∷
      cpu_line.Work (work 1 mode.Kernel 4197378 (2 ∷ 9 ∷ [])) ∷
      []) ∷ []);
  tool_lines = four ((
      tool_line.Open (slot 116) (attr (kind.Hard 0) tasks.All (cpus.One (cpu 0)) 0 325 3 6) None ∷
      tool_line.Open (slot 0) (attr (kind.Hard 1) tasks.All (cpus.One (cpu 0)) 2 900 3 2) None ∷
      tool_line.Map (slot 0) (ring 4) ∷
      tool_line.Map (slot 0) (ring 5) ∷
      tool_line.Read (slot 116) None ∷
      tool_line.Open (slot 1) (attr kind.TaskClock (tasks.One (task 46)) (cpus.One (cpu 0)) 0 964 26 7) None ∷
      tool_line.Open (slot 2) (attr (kind.Hard 1) tasks.All (cpus.One (cpu 0)) 2 65856 31 2) None ∷
      tool_line.Output (slot 2) (slot 0) ∷
      tool_line.Reset (slot 1) true ∷
      []) ∷ []);
  readers = reader 5 32 16 ∷ [];
  order = by_tool 0 ∷ by_cpu 0 ∷ by_cpu 0 ∷ by_cpu 0 ∷ by_tool 0 ∷ by_tool 0 ∷ by_cpu 0 ∷ seen 4 80 ∷ by_tool 0 ∷ by_tool 0 ∷ by_cpu 0 ∷ by_tool 0 ∷
      by_tool 0 ∷ by_tool 0 ∷ by_tool 0 ∷ by_cpu 0 ∷ by_cpu 0 ∷ by_cpu 0 ∷ [];
}

sampling_030_replies : List Reply
sampling_030_replies = reply.Ok ∷ reply.Ok ∷ reply.Ok ∷ reply.Ok ∷ reply.Ok ∷ reply.Ok ∷ reply.Ok ∷ reply.Refused reason.HasRing ∷
    reply.Read (0 ∷ 1 ∷ 1 ∷ []) ∷ reply.Ok ∷ reply.Ok ∷ reply.Ok ∷ reply.Ok ∷ reply.Ok ∷ reply.Ok ∷ reply.Ok ∷ reply.Ok ∷ []

sampling_030_report : List ℕ
sampling_030_report =
    codes "order t0 p0 p0 p0 t0 t0 p0 s4=80 t0 t0 p0 t0 t0 t0 t0 p0 p0 p0\n" ++
    codes "t0.3 map EMAPPED\n" ++
    codes "t0.4 read 0 1 1\n" ++
    codes "ring 4 head=800 tail=80 lost=0 pending=0\n" ++
    codes "taken 0028000200000009 0000000000000001 0000000000000002 0000000000000000 0000000000000002\n" ++
    codes "taken 0028000200000009 0000000000000001 0000000000000002 0000000000000000 0000000000000002\n" ++
    codes "left 0028000200000009 0000000000000001 0000000000000002 0000000000000000 0000000000000002\n" ++
    codes "left 0028000200000009 0000000000000001 0000000000000002 0000000000000000 0000000000000002\n" ++
    codes "left 0028000200000009 0000000000000001 0000000000000002 0000000000000000 0000000000000002\n" ++
    codes "left 0028000200000009 00000000000002ef 0000000000000002 0000000000000000 0000000000000002\n" ++
    codes "left 0028000200000009 00000000000002ef 0000000000000002 0000000000000000 0000000000000002\n" ++
    codes "left 0028000200000009 00000000000002ef 0000000000000002 0000000000000000 0000000000000002\n" ++
    codes "left 0028000200000009 00000000000002ef 0000000000000002 0000000000000000 0000000000000002\n" ++
    codes "left 0028000200000009 00000000000002ef 0000000000000002 0000000000000000 0000000000000002\n" ++
    codes "left 0028000100000009 000000002298ef3a 0000000000000002 0000000000000000 0000000000000002\n" ++
    codes "left 0028000100000009 000000002298ef3a 0000000000000002 0000000000000000 0000000000000002\n" ++
    codes "left 0028000100000009 000000002298ef3a 0000000000000002 0000000000000000 0000000000000002\n" ++
    codes "left 0028000100000009 000000002298ef3a 0000000000000002 0000000000000000 0000000000000002\n" ++
    codes "left 0028000100000009 000000002298ef3a 0000000000000002 0000000000000000 0000000000000002\n" ++
    codes "left 0028000100000009 000000002298ef3b 0000000000000002 0000000000000000 0000000000000002\n" ++
    codes "left 0028000100000009 000000002298ef3b 0000000000000002 0000000000000000 0000000000000002\n" ++
    codes "left 0028000100000009 000000002298ef3b 0000000000000002 0000000000000000 0000000000000002\n" ++
    codes "left 0028000100000009 000000002298ef3b 0000000000000002 0000000000000000 0000000000000002\n" ++
    codes "left 0028000100000009 000000002298ef3b 0000000000000002 0000000000000000 0000000000000002\n" ++
    codes "ring 5 head=0 tail=0 lost=0 pending=0\n" ++
    codes "end\n"

sampling_030-worked : IsWorked sampling_030 sampling_030_replies sampling_030_report
unfolding Computed sampling_030 sampling_030_replies sampling_030_report
sampling_030-worked = computed sampling_030 sampling_030_replies sampling_030_report refl (refl, (refl, (refl, (refl, (refl, (refl, (refl, (refl, (refl, (refl, (refl, (refl, (refl, (refl, (refl, (refl, (refl, (refl, refl))))))))))))))))))
