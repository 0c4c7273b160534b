-- Worked cases, written by tools/maintain/script_terms.py from texts and their reports.
use Rattle.std.specs.Prelude.{ℕ, true, List, [], ◌∷◌, ◌++◌, Some, None, codes}
use Rattle.std.proofs.Common.{refl}
use Rattle.perf_base.specs.declared.attr.Kind.TheVariants as kind
use Rattle.perf_base.specs.declared.attr.TaskSel.TheVariants as tasks
use Rattle.perf_base.specs.declared.attr.CpuSel.TheVariants as cpus
use Rattle.perf_base.specs.declared.lines.Mode.TheVariants as mode
use Rattle.perf_base.specs.declared.lines.CpuLine.TheVariants as cpu_line
use Rattle.perf_base.specs.declared.lines.ToolLine.TheVariants as tool_line
use Rattle.perf_base.specs.declared.standing.Why.TheVariants as why
use Rattle.perf_base.specs.declared.reasons.Reason.TheVariants as reason
use Rattle.perf_base.specs.declared.reply.Reply.{Reply}
use Rattle.perf_base.specs.declared.reply.Reply.TheVariants as reply
use Rattle.perf_base.specs.Scripts.{Scripted}
use Rattle.worked_theorems.proofs.answers.Words.{cpu, task, slot, ring, by_cpu, by_tool, seen, pmu, kind_line, attr, work, eight, four}
use Rattle.worked_theorems.proofs.Whole.{IsWorked}
use Rattle.worked_theorems.proofs.reports.Answering.{Computed, computed}

burst_over_periods : Scripted
burst_over_periods = record {
  cpus = 1;
  pmus = pmu 1 1 ∷ [];
  kinds = kind_line (codes "a") 0 1 ∷ [];
  tasks = [];
  rings = (ring 0, 64) ∷ [];
  cpu_lines = eight ((
      cpu_line.Work (work 10 mode.User 171 (250 ∷ [])) ∷
      cpu_line.Work (work 10 mode.Kernel 205 (50 ∷ [])) ∷
      []) ∷ []);
  tool_lines = four ((
      tool_line.Open (slot 0) (attr (kind.Hard 0) tasks.All (cpus.One (cpu 0)) 100 1 0 0) None ∷
      tool_line.Map (slot 0) (ring 0) ∷
      []) ∷ []);
  readers = [];
  order = by_tool 0 ∷ by_tool 0 ∷ by_cpu 0 ∷ by_cpu 0 ∷ [];
}

burst_over_periods_replies : List Reply
burst_over_periods_replies = reply.Ok ∷ reply.Ok ∷ reply.Ok ∷ reply.Ok ∷ []

burst_over_periods_report : List ℕ
burst_over_periods_report =
    codes "order t0 t0 p0 p0\n" ++
    codes "ring 0 head=48 tail=0 lost=0 pending=0\n" ++
    codes "left 0010000200000009 00000000000000ab\n" ++
    codes "left 0010000200000009 00000000000000ab\n" ++
    codes "left 0010000100000009 00000000000000cd\n" ++
    codes "end\n"

burst_over_periods-worked : IsWorked burst_over_periods burst_over_periods_replies burst_over_periods_report
unfolding Computed burst_over_periods burst_over_periods_replies burst_over_periods_report
burst_over_periods-worked = computed burst_over_periods burst_over_periods_replies burst_over_periods_report refl (refl, (refl, (refl, (refl, refl))))

full_ring_and_lost : Scripted
full_ring_and_lost = record {
  cpus = 1;
  pmus = pmu 1 1 ∷ [];
  kinds = kind_line (codes "a") 0 1 ∷ [];
  tasks = [];
  rings = (ring 0, 64) ∷ [];
  cpu_lines = eight ((
      cpu_line.Work (work 1 mode.User 5 (4 ∷ [])) ∷
      cpu_line.Work (work 1 mode.User 5 (1 ∷ [])) ∷
      cpu_line.Work (work 1 mode.User 5 (1 ∷ [])) ∷
      []) ∷ []);
  tool_lines = four ((
      tool_line.Open (slot 0) (attr (kind.Hard 0) tasks.All (cpus.One (cpu 0)) 1 1 0 0) None ∷
      tool_line.Map (slot 0) (ring 0) ∷
      []) ∷ []);
  readers = [];
  order = by_tool 0 ∷ by_tool 0 ∷ by_cpu 0 ∷ seen 0 16 ∷ by_cpu 0 ∷ seen 0 48 ∷ by_cpu 0 ∷ [];
}

full_ring_and_lost_replies : List Reply
full_ring_and_lost_replies = reply.Ok ∷ reply.Ok ∷ reply.Ok ∷ reply.Ok ∷ reply.Ok ∷ []

full_ring_and_lost_report : List ℕ
full_ring_and_lost_report =
    codes "order t0 t0 p0 s0=16 p0 s0=48 p0\n" ++
    codes "ring 0 head=88 tail=48 lost=2 pending=0\n" ++
    codes "taken 0010000200000009 0000000000000005\n" ++
    codes "taken 0010000200000009 0000000000000005\n" ++
    codes "taken 0010000200000009 0000000000000005\n" ++
    codes "left 0018000000000002 0000000000000001 0000000000000002\n" ++
    codes "left 0010000200000009 0000000000000005\n" ++
    codes "end\n"

full_ring_and_lost-worked : IsWorked full_ring_and_lost full_ring_and_lost_replies full_ring_and_lost_report
unfolding Computed full_ring_and_lost full_ring_and_lost_replies full_ring_and_lost_report
full_ring_and_lost-worked = computed full_ring_and_lost full_ring_and_lost_replies full_ring_and_lost_report refl (refl, (refl, (refl, (refl, (refl, (refl, (refl, refl)))))))

leader_closed : Scripted
leader_closed = record {
  cpus = 1;
  pmus = pmu 2 1 ∷ [];
  kinds = kind_line (codes "a") 0 1 ∷ kind_line (codes "b") 0 2 ∷ [];
  tasks = [];
  rings = [];
  cpu_lines = eight ((
      cpu_line.Work (work 10 mode.User 0 (0 ∷ 4 ∷ [])) ∷
      []) ∷ []);
  tool_lines = four ((
      tool_line.Open (slot 0) (attr (kind.Hard 0) tasks.All (cpus.One (cpu 0)) 0 0 0 1) None ∷
      tool_line.Open (slot 1) (attr (kind.Hard 1) tasks.All (cpus.One (cpu 0)) 0 0 3 0) (Some (slot 0)) ∷
      tool_line.Why (slot 1) ∷
      tool_line.Enable (slot 1) true ∷
      tool_line.Why (slot 1) ∷
      tool_line.Close (slot 0) ∷
      tool_line.Why (slot 1) ∷
      tool_line.Read (slot 1) None ∷
      []) ∷ []);
  readers = [];
  order = by_tool 0 ∷ by_tool 0 ∷ by_tool 0 ∷ by_tool 0 ∷ by_tool 0 ∷ by_tool 0 ∷ by_tool 0 ∷ by_cpu 0 ∷ by_tool 0 ∷ [];
}

leader_closed_replies : List Reply
leader_closed_replies = reply.Ok ∷ reply.Ok ∷ reply.Why why.Off ∷ reply.Ok ∷ reply.Why why.On ∷ reply.Ok ∷ reply.Why why.On ∷ reply.Ok ∷
    reply.Read (4 ∷ 10 ∷ 10 ∷ []) ∷ []

leader_closed_report : List ℕ
leader_closed_report =
    codes "order t0 t0 t0 t0 t0 t0 t0 p0 t0\n" ++
    codes "t0.2 why off\n" ++
    codes "t0.4 why on\n" ++
    codes "t0.6 why on\n" ++
    codes "t0.7 read 4 10 10\n" ++
    codes "end\n"

leader_closed-worked : IsWorked leader_closed leader_closed_replies leader_closed_report
unfolding Computed leader_closed leader_closed_replies leader_closed_report
leader_closed-worked = computed leader_closed leader_closed_replies leader_closed_report refl (refl, (refl, (refl, (refl, (refl, (refl, (refl, (refl, (refl, refl)))))))))

lost_trailer_one_byte_short : Scripted
lost_trailer_one_byte_short = record {
  cpus = 1;
  pmus = pmu 1 1 ∷ [];
  kinds = kind_line (codes "a") 0 1 ∷ [];
  tasks = [];
  rings = (ring 0, 64) ∷ [];
  cpu_lines = eight ((
      cpu_line.Work (work 1 mode.User 5 (4 ∷ [])) ∷
      cpu_line.Work (work 1 mode.User 6 (1 ∷ [])) ∷
      []) ∷ []);
  tool_lines = four ((
      tool_line.Open (slot 0) (attr (kind.Hard 0) tasks.All (cpus.One (cpu 0)) 1 2 0 64) None ∷
      tool_line.Map (slot 0) (ring 0) ∷
      []) ∷ []);
  readers = [];
  order = by_tool 0 ∷ by_tool 0 ∷ by_cpu 0 ∷ seen 0 32 ∷ by_cpu 0 ∷ [];
}

lost_trailer_one_byte_short_replies : List Reply
lost_trailer_one_byte_short_replies = reply.Ok ∷ reply.Ok ∷ reply.Ok ∷ reply.Ok ∷ []

lost_trailer_one_byte_short_report : List ℕ
lost_trailer_one_byte_short_report =
    codes "order t0 t0 p0 s0=32 p0\n" ++
    codes "ring 0 head=48 tail=32 lost=2 pending=2\n" ++
    codes "taken 0010000200000009 0000000000000000\n" ++
    codes "taken 0010000200000009 0000000000000000\n" ++
    codes "left 0010000200000009 0000000000000000\n" ++
    codes "end\n"

lost_trailer_one_byte_short-worked : IsWorked lost_trailer_one_byte_short lost_trailer_one_byte_short_replies lost_trailer_one_byte_short_report
unfolding Computed lost_trailer_one_byte_short lost_trailer_one_byte_short_replies lost_trailer_one_byte_short_report
lost_trailer_one_byte_short-worked = computed lost_trailer_one_byte_short lost_trailer_one_byte_short_replies lost_trailer_one_byte_short_report refl (refl, (refl, (refl, (refl, (refl, refl)))))

lost_trailer : Scripted
lost_trailer = record {
  cpus = 1;
  pmus = pmu 1 1 ∷ [];
  kinds = kind_line (codes "a") 0 1 ∷ [];
  tasks = [];
  rings = (ring 0, 64) ∷ [];
  cpu_lines = eight ((
      cpu_line.Work (work 1 mode.User 5 (3 ∷ [])) ∷
      cpu_line.Work (work 1 mode.User 6 (1 ∷ [])) ∷
      []) ∷ []);
  tool_lines = four ((
      tool_line.Open (slot 0) (attr (kind.Hard 0) tasks.All (cpus.One (cpu 0)) 1 5 0 64) None ∷
      tool_line.Map (slot 0) (ring 0) ∷
      []) ∷ []);
  readers = [];
  order = by_tool 0 ∷ by_tool 0 ∷ by_cpu 0 ∷ seen 0 48 ∷ by_cpu 0 ∷ [];
}

lost_trailer_replies : List Reply
lost_trailer_replies = reply.Ok ∷ reply.Ok ∷ reply.Ok ∷ reply.Ok ∷ []

lost_trailer_report : List ℕ
lost_trailer_report =
    codes "order t0 t0 p0 s0=48 p0\n" ++
    codes "ring 0 head=104 tail=48 lost=1 pending=0\n" ++
    codes "taken 0018000200000009 0000000000000005 0000000000000001\n" ++
    codes "taken 0018000200000009 0000000000000005 0000000000000001\n" ++
    codes "left 0020000000000002 0000000000000001 0000000000000001 0000000000000002\n" ++
    codes "left 0018000200000009 0000000000000006 0000000000000002\n" ++
    codes "end\n"

lost_trailer-worked : IsWorked lost_trailer lost_trailer_replies lost_trailer_report
unfolding Computed lost_trailer lost_trailer_replies lost_trailer_report
lost_trailer-worked = computed lost_trailer lost_trailer_replies lost_trailer_report refl (refl, (refl, (refl, (refl, (refl, refl)))))

lost_without_trailer : Scripted
lost_without_trailer = record {
  cpus = 1;
  pmus = pmu 1 1 ∷ [];
  kinds = kind_line (codes "a") 0 1 ∷ [];
  tasks = [];
  rings = (ring 0, 64) ∷ [];
  cpu_lines = eight ((
      cpu_line.Work (work 1 mode.User 5 (4 ∷ [])) ∷
      cpu_line.Work (work 1 mode.User 6 (1 ∷ [])) ∷
      []) ∷ []);
  tool_lines = four ((
      tool_line.Open (slot 0) (attr (kind.Hard 0) tasks.All (cpus.One (cpu 0)) 1 2 0 0) None ∷
      tool_line.Map (slot 0) (ring 0) ∷
      []) ∷ []);
  readers = [];
  order = by_tool 0 ∷ by_tool 0 ∷ by_cpu 0 ∷ seen 0 32 ∷ by_cpu 0 ∷ [];
}

lost_without_trailer_replies : List Reply
lost_without_trailer_replies = reply.Ok ∷ reply.Ok ∷ reply.Ok ∷ reply.Ok ∷ []

lost_without_trailer_report : List ℕ
lost_without_trailer_report =
    codes "order t0 t0 p0 s0=32 p0\n" ++
    codes "ring 0 head=88 tail=32 lost=1 pending=0\n" ++
    codes "taken 0010000200000009 0000000000000000\n" ++
    codes "taken 0010000200000009 0000000000000000\n" ++
    codes "left 0010000200000009 0000000000000000\n" ++
    codes "left 0018000000000002 0000000000000001 0000000000000001\n" ++
    codes "left 0010000200000009 0000000000000000\n" ++
    codes "end\n"

lost_without_trailer-worked : IsWorked lost_without_trailer lost_without_trailer_replies lost_without_trailer_report
unfolding Computed lost_without_trailer lost_without_trailer_replies lost_without_trailer_report
lost_without_trailer-worked = computed lost_without_trailer lost_without_trailer_replies lost_without_trailer_report refl (refl, (refl, (refl, (refl, (refl, refl)))))

map_and_output : Scripted
map_and_output = record {
  cpus = 2;
  pmus = pmu 2 3 ∷ [];
  kinds = kind_line (codes "a") 0 3 ∷ [];
  tasks = task 0 ∷ task 1 ∷ [];
  rings = (ring 0, 64) ∷ (ring 1, 64) ∷ [];
  cpu_lines = eight ((
      cpu_line.Work (work 10 mode.User 7 (5 ∷ [])) ∷
      []) ∷ []);
  tool_lines = four ((
      tool_line.Open (slot 0) (attr (kind.Hard 0) tasks.All (cpus.One (cpu 0)) 0 0 0 0) None ∷
      tool_line.Open (slot 1) (attr (kind.Hard 0) tasks.All (cpus.One (cpu 1)) 0 0 0 0) None ∷
      tool_line.Open (slot 2) (attr (kind.Hard 0) (tasks.One (task 0)) cpus.Any 0 0 0 2) None ∷
      tool_line.Open (slot 3) (attr (kind.Hard 0) tasks.All (cpus.One (cpu 0)) 5 1 0 0) None ∷
      tool_line.Open (slot 4) (attr (kind.Hard 0) (tasks.One (task 0)) cpus.Any 0 0 0 0) None ∷
      tool_line.Open (slot 5) (attr (kind.Hard 0) (tasks.One (task 1)) cpus.Any 0 0 0 0) None ∷
      tool_line.Map (slot 2) (ring 0) ∷
      tool_line.Map (slot 0) (ring 0) ∷
      tool_line.Map (slot 0) (ring 1) ∷
      tool_line.Map (slot 3) (ring 0) ∷
      tool_line.Output (slot 0) (slot 0) ∷
      tool_line.Output (slot 1) (slot 0) ∷
      tool_line.Output (slot 4) (slot 5) ∷
      tool_line.Output (slot 0) (slot 3) ∷
      tool_line.Output (slot 4) (slot 2) ∷
      tool_line.Output (slot 3) (slot 0) ∷
      tool_line.Output (slot 3) (slot 9) ∷
      tool_line.Close (slot 0) ∷
      []) ∷ []);
  readers = [];
  order = by_tool 0 ∷ by_tool 0 ∷ by_tool 0 ∷ by_tool 0 ∷ by_tool 0 ∷ by_tool 0 ∷ by_tool 0 ∷ by_tool 0 ∷ by_tool 0 ∷ by_tool 0 ∷ by_tool 0 ∷
      by_tool 0 ∷ by_tool 0 ∷ by_tool 0 ∷ by_tool 0 ∷ by_tool 0 ∷ by_tool 0 ∷ by_tool 0 ∷ by_cpu 0 ∷ [];
}

map_and_output_replies : List Reply
map_and_output_replies = reply.Ok ∷ reply.Ok ∷ reply.Ok ∷ reply.Ok ∷ reply.Ok ∷ reply.Ok ∷ reply.Refused reason.Inherit ∷ reply.Ok ∷
    reply.Refused reason.HasRing ∷ reply.Refused reason.Busy ∷ reply.Refused reason.SameEvent ∷ reply.Refused reason.OtherCpu ∷
    reply.Refused reason.OtherContext ∷ reply.Refused reason.HasRing ∷ reply.Refused reason.NoRing ∷ reply.Ok ∷ reply.Refused reason.NoEvent ∷
    reply.Ok ∷ reply.Ok ∷ []

map_and_output_report : List ℕ
map_and_output_report =
    codes "order t0 t0 t0 t0 t0 t0 t0 t0 t0 t0 t0 t0 t0 t0 t0 t0 t0 t0 p0\n" ++
    codes "t0.6 map EINHERIT\n" ++
    codes "t0.8 map EMAPPED\n" ++
    codes "t0.9 map EBUSY\n" ++
    codes "t0.10 output ESELF\n" ++
    codes "t0.11 output ECPU\n" ++
    codes "t0.12 output ECONTEXT\n" ++
    codes "t0.13 output EMAPPED\n" ++
    codes "t0.14 output ENORING\n" ++
    codes "t0.16 output EBADF\n" ++
    codes "ring 0 head=16 tail=0 lost=0 pending=0\n" ++
    codes "left 0010000200000009 0000000000000007\n" ++
    codes "ring 1 head=0 tail=0 lost=0 pending=0\n" ++
    codes "end\n"

map_and_output-worked : IsWorked map_and_output map_and_output_replies map_and_output_report
unfolding Computed map_and_output map_and_output_replies map_and_output_report
map_and_output-worked = computed map_and_output map_and_output_replies map_and_output_report refl (refl, (refl, (refl, (refl, (refl, (refl, (refl, (refl, (refl, (refl, (refl, (refl, (refl, (refl, (refl, (refl, (refl, (refl, (refl, refl)))))))))))))))))))

multiplexing : Scripted
multiplexing = record {
  cpus = 1;
  pmus = pmu 1 1 ∷ [];
  kinds = kind_line (codes "cycles") 0 1 ∷ [];
  tasks = [];
  rings = [];
  cpu_lines = eight ((
      cpu_line.Work (work 10 mode.User 0 (100 ∷ [])) ∷
      cpu_line.Tick ∷
      cpu_line.Work (work 10 mode.User 0 (40 ∷ [])) ∷
      []) ∷ []);
  tool_lines = four ((
      tool_line.Open (slot 0) (attr (kind.Hard 0) tasks.All (cpus.One (cpu 0)) 0 0 3 0) None ∷
      tool_line.Open (slot 1) (attr (kind.Hard 0) tasks.All (cpus.One (cpu 0)) 0 0 3 0) None ∷
      tool_line.Read (slot 0) None ∷
      tool_line.Read (slot 1) None ∷
      []) ∷ []);
  readers = [];
  order = by_tool 0 ∷ by_tool 0 ∷ by_cpu 0 ∷ by_cpu 0 ∷ by_cpu 0 ∷ by_tool 0 ∷ by_tool 0 ∷ [];
}

multiplexing_replies : List Reply
multiplexing_replies = reply.Ok ∷ reply.Ok ∷ reply.Ok ∷ reply.Ok ∷ reply.Ok ∷ reply.Read (100 ∷ 20 ∷ 10 ∷ []) ∷ reply.Read (40 ∷ 20 ∷ 10 ∷ []) ∷ []

multiplexing_report : List ℕ
multiplexing_report =
    codes "order t0 t0 p0 p0 p0 t0 t0\n" ++
    codes "t0.2 read 100 20 10\n" ++
    codes "t0.3 read 40 20 10\n" ++
    codes "end\n"

multiplexing-worked : IsWorked multiplexing multiplexing_replies multiplexing_report
unfolding Computed multiplexing multiplexing_replies multiplexing_report
multiplexing-worked = computed multiplexing multiplexing_replies multiplexing_report refl (refl, (refl, (refl, (refl, (refl, (refl, (refl, refl)))))))

new_period : Scripted
new_period = record {
  cpus = 1;
  pmus = pmu 1 1 ∷ [];
  kinds = kind_line (codes "a") 0 1 ∷ [];
  tasks = [];
  rings = (ring 0, 64) ∷ [];
  cpu_lines = eight ((
      cpu_line.Work (work 10 mode.User 0 (90 ∷ [])) ∷
      cpu_line.Work (work 10 mode.User 0 (29 ∷ [])) ∷
      cpu_line.Work (work 10 mode.User 0 (1 ∷ [])) ∷
      []) ∷ []);
  tool_lines = four ((
      tool_line.Open (slot 0) (attr (kind.Hard 0) tasks.All (cpus.One (cpu 0)) 100 257 0 0) None ∷
      tool_line.Map (slot 0) (ring 0) ∷
      tool_line.Period (slot 0) 0 ∷
      tool_line.Period (slot 0) 30 ∷
      []) ∷ []);
  readers = [];
  order = by_tool 0 ∷ by_tool 0 ∷ by_cpu 0 ∷ by_tool 0 ∷ by_tool 0 ∷ by_cpu 0 ∷ by_cpu 0 ∷ [];
}

new_period_replies : List Reply
new_period_replies = reply.Ok ∷ reply.Ok ∷ reply.Ok ∷ reply.Refused reason.ZeroPeriod ∷ reply.Ok ∷ reply.Ok ∷ reply.Ok ∷ []

new_period_report : List ℕ
new_period_report =
    codes "order t0 t0 p0 t0 t0 p0 p0\n" ++
    codes "t0.2 period EPERIOD\n" ++
    codes "ring 0 head=24 tail=0 lost=0 pending=0\n" ++
    codes "left 0018000200000009 0000000000000000 000000000000001e\n" ++
    codes "end\n"

new_period-worked : IsWorked new_period new_period_replies new_period_report
unfolding Computed new_period new_period_replies new_period_report
new_period-worked = computed new_period new_period_replies new_period_report refl (refl, (refl, (refl, (refl, (refl, (refl, (refl, refl)))))))
