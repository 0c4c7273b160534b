-- Worked cases, written by tools/maintain/script_terms.py from texts and their reports.
use Rattle.std.specs.Prelude.{true, false, List, [], ◌∷◌, Some, None, codes}
use Rattle.std.proofs.Common.{refl}
use Rattle.perf_base.specs.declared.attr.Kind.TheVariants as kind
use Rattle.perf_base.specs.declared.attr.TaskSel.TheVariants as tasks
use Rattle.perf_base.specs.declared.attr.CpuSel.TheVariants as cpus
use Rattle.perf_base.specs.declared.lines.Mode.TheVariants as mode
use Rattle.perf_base.specs.declared.lines.CpuLine.TheVariants as cpu_line
use Rattle.perf_base.specs.declared.lines.ToolLine.TheVariants as tool_line
use Rattle.perf_base.specs.declared.standing.Rule.TheVariants as rule
use Rattle.perf_base.specs.declared.standing.Cause.TheVariants as cause
use Rattle.perf_base.specs.declared.standing.Why.TheVariants as why
use Rattle.perf_base.specs.declared.reasons.Reason.TheVariants as reason
use Rattle.perf_base.specs.declared.reply.Reply.{Reply}
use Rattle.perf_base.specs.declared.reply.Reply.TheVariants as reply
use Rattle.perf_base.specs.Scripts.{Scripted}
use Rattle.worked_theorems.proofs.answers.Words.{cpu, task, slot, slots, ring, by_cpu, by_tool, pmu, kind_line, attr, work, eight, four}
use Rattle.worked_theorems.proofs.answers.Answering.{Answers, Computed, computed}

freed_siblings_last : Scripted
freed_siblings_last = record {
  cpus = 1;
  pmus = pmu 4 1 ∷ [];
  kinds = kind_line (codes "a") 0 15 ∷ [];
  tasks = [];
  rings = [];
  cpu_lines = eight [];
  tool_lines = four ((
      tool_line.Open (slot 0) (attr (kind.Hard 0) tasks.All (cpus.One (cpu 0)) 0 0 0 4) None ∷
      tool_line.Open (slot 1) (attr (kind.Hard 0) tasks.All (cpus.One (cpu 0)) 0 0 0 0) (Some (slot 0)) ∷
      tool_line.Open (slot 2) (attr (kind.Hard 0) tasks.All (cpus.One (cpu 0)) 0 0 0 0) (Some (slot 0)) ∷
      tool_line.Open (slot 3) (attr (kind.Hard 0) tasks.All (cpus.One (cpu 0)) 0 0 0 0) None ∷
      tool_line.Seats (cpu 0) ∷
      tool_line.Close (slot 0) ∷
      tool_line.Seats (cpu 0) ∷
      []) ∷ []);
  readers = [];
  order = by_tool 0 ∷ by_tool 0 ∷ by_tool 0 ∷ by_tool 0 ∷ by_tool 0 ∷ by_tool 0 ∷ by_tool 0 ∷ [];
}

freed_siblings_last_replies : List Reply
freed_siblings_last_replies = reply.Ok ∷ reply.Ok ∷ reply.Ok ∷ reply.Ok ∷ reply.Seats ((slot 0, 0) ∷ (slot 1, 1) ∷ (slot 2, 2) ∷ (slot 3, 3) ∷ []) ∷
    reply.Ok ∷ reply.Seats ((slot 3, 0) ∷ (slot 1, 1) ∷ (slot 2, 2) ∷ []) ∷ []

freed_siblings_last-answers : Answers freed_siblings_last freed_siblings_last_replies
unfolding Computed freed_siblings_last freed_siblings_last_replies
freed_siblings_last-answers = computed freed_siblings_last freed_siblings_last_replies (refl, (refl, (refl, (refl, ((refl, refl), (refl, ((refl, refl), tt)))))))

group_full : Scripted
group_full = record {
  cpus = 1;
  pmus = pmu 1 1 ∷ [];
  kinds = [];
  tasks = [];
  rings = [];
  cpu_lines = eight [];
  tool_lines = four ((
      tool_line.Open (slot 0) (attr kind.Dummy tasks.All (cpus.One (cpu 0)) 0 0 0 0) None ∷
      tool_line.Open (slot 1) (attr kind.Dummy tasks.All (cpus.One (cpu 0)) 0 0 0 0) (Some (slot 0)) ∷
      tool_line.Open (slot 2) (attr kind.Dummy tasks.All (cpus.One (cpu 0)) 0 0 0 0) (Some (slot 0)) ∷
      tool_line.Open (slot 3) (attr kind.Dummy tasks.All (cpus.One (cpu 0)) 0 0 0 0) (Some (slot 0)) ∷
      tool_line.Open (slot 4) (attr kind.Dummy tasks.All (cpus.One (cpu 0)) 0 0 0 0) (Some (slot 0)) ∷
      tool_line.Open (slot 5) (attr kind.Dummy tasks.All (cpus.One (cpu 0)) 0 0 0 0) (Some (slot 0)) ∷
      tool_line.Open (slot 6) (attr kind.Dummy tasks.All (cpus.One (cpu 0)) 0 0 0 0) (Some (slot 0)) ∷
      tool_line.Open (slot 7) (attr kind.Dummy tasks.All (cpus.One (cpu 0)) 0 0 0 0) (Some (slot 0)) ∷
      tool_line.Open (slot 8) (attr kind.Dummy tasks.All (cpus.One (cpu 0)) 0 0 0 0) (Some (slot 0)) ∷
      []) ∷ []);
  readers = [];
  order = by_tool 0 ∷ by_tool 0 ∷ by_tool 0 ∷ by_tool 0 ∷ by_tool 0 ∷ by_tool 0 ∷ by_tool 0 ∷ by_tool 0 ∷ by_tool 0 ∷ [];
}

group_full_replies : List Reply
group_full_replies = reply.Ok ∷ reply.Ok ∷ reply.Ok ∷ reply.Ok ∷ reply.Ok ∷ reply.Ok ∷ reply.Ok ∷ reply.Ok ∷ reply.Refused reason.GroupFull ∷ []

group_full-answers : Answers group_full group_full_replies
unfolding Computed group_full group_full_replies
group_full-answers = computed group_full group_full_replies (refl, (refl, (refl, (refl, (refl, (refl, (refl, (refl, (refl, tt)))))))))

group_read : Scripted
group_read = record {
  cpus = 1;
  pmus = pmu 2 1 ∷ [];
  kinds = kind_line (codes "a") 0 1 ∷ kind_line (codes "b") 0 2 ∷ [];
  tasks = [];
  rings = [];
  cpu_lines = eight ((
      cpu_line.Work (work 20 mode.User 0 (7 ∷ 9 ∷ [])) ∷
      []) ∷ []);
  tool_lines = four ((
      tool_line.Open (slot 0) (attr (kind.Hard 0) tasks.All (cpus.One (cpu 0)) 0 0 15 0) None ∷
      tool_line.Open (slot 1) (attr (kind.Hard 1) tasks.All (cpus.One (cpu 0)) 0 0 15 0) (Some (slot 0)) ∷
      tool_line.Read (slot 1) (Some 40) ∷
      tool_line.Read (slot 1) (Some 56) ∷
      tool_line.Period (slot 0) 5 ∷
      []) ∷ []);
  readers = [];
  order = by_tool 0 ∷ by_tool 0 ∷ by_cpu 0 ∷ by_tool 0 ∷ by_tool 0 ∷ by_tool 0 ∷ [];
}

group_read_replies : List Reply
group_read_replies = reply.Ok ∷ reply.Ok ∷ reply.Ok ∷ reply.Refused reason.NoSpace ∷ reply.Read (2 ∷ 20 ∷ 20 ∷ 7 ∷ 1 ∷ 9 ∷ 2 ∷ []) ∷
    reply.Refused reason.NotSampling ∷ []

group_read-answers : Answers group_read group_read_replies
unfolding Computed group_read group_read_replies
group_read-answers = computed group_read group_read_replies (refl, (refl, (refl, (refl, (refl, (refl, tt))))))

group_whole : Scripted
group_whole = record {
  cpus = 1;
  pmus = pmu 2 1 ∷ [];
  kinds = kind_line (codes "a") 0 1 ∷ kind_line (codes "b") 0 2 ∷ [];
  tasks = [];
  rings = [];
  cpu_lines = eight ((
      cpu_line.Work (work 10 mode.User 0 (5 ∷ 6 ∷ [])) ∷
      cpu_line.Tick ∷
      cpu_line.Work (work 10 mode.User 0 (7 ∷ 8 ∷ [])) ∷
      []) ∷ []);
  tool_lines = four ((
      tool_line.Open (slot 0) (attr (kind.Hard 0) tasks.All (cpus.One (cpu 0)) 0 0 3 0) None ∷
      tool_line.Open (slot 1) (attr (kind.Hard 1) tasks.All (cpus.One (cpu 0)) 0 0 3 0) None ∷
      tool_line.Open (slot 2) (attr (kind.Hard 0) tasks.All (cpus.One (cpu 0)) 0 0 3 0) (Some (slot 1)) ∷
      tool_line.Why (slot 1) ∷
      tool_line.Why (slot 2) ∷
      tool_line.Read (slot 0) None ∷
      tool_line.Read (slot 1) None ∷
      tool_line.Read (slot 2) None ∷
      tool_line.Why (slot 0) ∷
      tool_line.Read (slot 0) None ∷
      tool_line.Read (slot 1) None ∷
      tool_line.Read (slot 2) None ∷
      []) ∷ []);
  readers = [];
  order = by_tool 0 ∷ by_tool 0 ∷ by_tool 0 ∷ by_tool 0 ∷ by_tool 0 ∷ by_cpu 0 ∷ by_tool 0 ∷ by_tool 0 ∷ by_tool 0 ∷ by_cpu 0 ∷ by_tool 0 ∷
      by_cpu 0 ∷ by_tool 0 ∷ by_tool 0 ∷ by_tool 0 ∷ [];
}

group_whole_replies : List Reply
group_whole_replies = reply.Ok ∷ reply.Ok ∷ reply.Ok ∷ reply.Why (why.Refused (cause.Hall (slots (0 ∷ 2 ∷ [])))) ∷
    reply.Why (why.Refused (cause.Hall (slots (0 ∷ 2 ∷ [])))) ∷ reply.Ok ∷ reply.Read (5 ∷ 10 ∷ 10 ∷ []) ∷ reply.Read (0 ∷ 10 ∷ 0 ∷ []) ∷
    reply.Read (0 ∷ 10 ∷ 0 ∷ []) ∷ reply.Ok ∷ reply.Why (why.Refused (cause.Hall (slots (2 ∷ 0 ∷ [])))) ∷ reply.Ok ∷ reply.Read (5 ∷ 20 ∷ 10 ∷ []) ∷
    reply.Read (8 ∷ 20 ∷ 10 ∷ []) ∷ reply.Read (7 ∷ 20 ∷ 10 ∷ []) ∷ []

group_whole-answers : Answers group_whole group_whole_replies
unfolding Computed group_whole group_whole_replies
group_whole-answers = computed group_whole group_whole_replies (refl, (refl, (refl, (refl, (refl, (refl, (refl, (refl, (refl, (refl, (refl, (refl, (refl, (refl, (refl, tt)))))))))))))))

hardware_by_kinds : Scripted
hardware_by_kinds = record {
  cpus = 2;
  pmus = pmu 2 3 ∷ [];
  kinds = kind_line (codes "a") 0 3 ∷ [];
  tasks = [];
  rings = [];
  cpu_lines = eight [];
  tool_lines = four ((
      tool_line.Open (slot 0) (attr kind.Dummy tasks.All (cpus.One (cpu 0)) 0 0 0 8) None ∷
      tool_line.Open (slot 1) (attr (kind.Hard 0) tasks.All (cpus.One (cpu 0)) 0 0 0 1) (Some (slot 0)) ∷
      tool_line.Open (slot 2) (attr (kind.Hard 0) tasks.All (cpus.One (cpu 0)) 0 0 0 0) None ∷
      tool_line.Why (slot 0) ∷
      tool_line.Why (slot 1) ∷
      tool_line.Why (slot 2) ∷
      tool_line.Open (slot 5) (attr kind.Dummy tasks.All (cpus.One (cpu 1)) 0 0 0 0) None ∷
      tool_line.Open (slot 6) (attr (kind.Hard 0) tasks.All (cpus.One (cpu 1)) 0 0 0 1) (Some (slot 5)) ∷
      tool_line.Open (slot 7) (attr (kind.Hard 0) tasks.All (cpus.One (cpu 1)) 0 0 0 8) None ∷
      tool_line.Why (slot 5) ∷
      tool_line.Why (slot 7) ∷
      tool_line.Disable (slot 5) false ∷
      tool_line.Why (slot 7) ∷
      []) ∷ []);
  readers = [];
  order = by_tool 0 ∷ by_tool 0 ∷ by_tool 0 ∷ by_tool 0 ∷ by_tool 0 ∷ by_tool 0 ∷ by_tool 0 ∷ by_tool 0 ∷ by_tool 0 ∷ by_tool 0 ∷ by_tool 0 ∷
      by_tool 0 ∷ by_tool 0 ∷ [];
}

hardware_by_kinds_replies : List Reply
hardware_by_kinds_replies = reply.Ok ∷ reply.Ok ∷ reply.Ok ∷ reply.Why why.On ∷ reply.Why why.Off ∷
    reply.Why (why.Refused (cause.Rule (rule.Exclusive (slot 0)))) ∷ reply.Ok ∷ reply.Ok ∷ reply.Ok ∷ reply.Why why.On ∷
    reply.Why (why.Refused (cause.Rule (rule.ExclusiveSelf (slot 5)))) ∷ reply.Ok ∷ reply.Why why.On ∷ []

hardware_by_kinds-answers : Answers hardware_by_kinds hardware_by_kinds_replies
unfolding Computed hardware_by_kinds hardware_by_kinds_replies
hardware_by_kinds-answers = computed hardware_by_kinds hardware_by_kinds_replies (refl, (refl, (refl, (refl, (refl, (refl, (refl, (refl, (refl, (refl, (refl, (refl, (refl, tt)))))))))))))

hybrid_machine : Scripted
hybrid_machine = record {
  cpus = 2;
  pmus = pmu 1 1 ∷ pmu 2 2 ∷ [];
  kinds = kind_line (codes "core") 0 1 ∷ kind_line (codes "atom") 1 3 ∷ [];
  tasks = task 0 ∷ [];
  rings = [];
  cpu_lines = eight ((
      cpu_line.Switch (Some (task 0)) ∷
      cpu_line.Work (work 10 mode.User 0 (100 ∷ 0 ∷ [])) ∷
      cpu_line.Switch None ∷
      []) ∷ (
      cpu_line.Switch (Some (task 0)) ∷
      cpu_line.Work (work 30 mode.User 0 (0 ∷ 50 ∷ [])) ∷
      []) ∷ []);
  tool_lines = four ((
      tool_line.Open (slot 0) (attr (kind.Hard 0) (tasks.One (task 0)) cpus.Any 0 0 3 0) None ∷
      tool_line.Open (slot 1) (attr (kind.Hard 1) (tasks.One (task 0)) cpus.Any 0 0 3 0) None ∷
      tool_line.Open (slot 2) (attr (kind.Hard 0) tasks.All (cpus.One (cpu 1)) 0 0 0 0) None ∷
      tool_line.Open (slot 2) (attr (kind.Hard 1) (tasks.One (task 0)) cpus.Any 0 0 0 0) (Some (slot 0)) ∷
      tool_line.Read (slot 0) None ∷
      tool_line.Read (slot 1) None ∷
      tool_line.Why (slot 0) ∷
      []) ∷ []);
  readers = [];
  order = by_tool 0 ∷ by_tool 0 ∷ by_tool 0 ∷ by_tool 0 ∷ by_cpu 0 ∷ by_cpu 0 ∷ by_cpu 0 ∷ by_cpu 1 ∷ by_cpu 1 ∷ by_tool 0 ∷ by_tool 0 ∷ by_tool 0 ∷
      [];
}

hybrid_machine_replies : List Reply
hybrid_machine_replies = reply.Ok ∷ reply.Ok ∷ reply.Refused reason.NoDevice ∷ reply.Refused reason.OtherPmu ∷ reply.Ok ∷ reply.Ok ∷ reply.Ok ∷
    reply.Ok ∷ reply.Ok ∷ reply.Read (100 ∷ 40 ∷ 10 ∷ []) ∷ reply.Read (50 ∷ 40 ∷ 30 ∷ []) ∷ reply.Why why.Away ∷ []

hybrid_machine-answers : Answers hybrid_machine hybrid_machine_replies
unfolding Computed hybrid_machine hybrid_machine_replies
hybrid_machine-answers = computed hybrid_machine hybrid_machine_replies (refl, (refl, (refl, (refl, (refl, (refl, (refl, (refl, (refl, (refl, (refl, (refl, tt))))))))))))

leader_closed : Scripted
leader_closed = record {
  cpus = 1;
  pmus = pmu 2 1 ∷ [];
  kinds = kind_line (codes "a") 0 1 ∷ kind_line (codes "b") 0 2 ∷ [];
  tasks = [];
  rings = [];
  cpu_lines = eight ((
      cpu_line.Work (work 10 mode.User 0 (0 ∷ 4 ∷ [])) ∷
      []) ∷ []);
  tool_lines = four ((
      tool_line.Open (slot 0) (attr (kind.Hard 0) tasks.All (cpus.One (cpu 0)) 0 0 0 1) None ∷
      tool_line.Open (slot 1) (attr (kind.Hard 1) tasks.All (cpus.One (cpu 0)) 0 0 3 0) (Some (slot 0)) ∷
      tool_line.Why (slot 1) ∷
      tool_line.Enable (slot 1) true ∷
      tool_line.Why (slot 1) ∷
      tool_line.Close (slot 0) ∷
      tool_line.Why (slot 1) ∷
      tool_line.Read (slot 1) None ∷
      []) ∷ []);
  readers = [];
  order = by_tool 0 ∷ by_tool 0 ∷ by_tool 0 ∷ by_tool 0 ∷ by_tool 0 ∷ by_tool 0 ∷ by_tool 0 ∷ by_cpu 0 ∷ by_tool 0 ∷ [];
}

leader_closed_replies : List Reply
leader_closed_replies = reply.Ok ∷ reply.Ok ∷ reply.Why why.Off ∷ reply.Ok ∷ reply.Why why.On ∷ reply.Ok ∷ reply.Why why.On ∷ reply.Ok ∷
    reply.Read (4 ∷ 10 ∷ 10 ∷ []) ∷ []

leader_closed-answers : Answers leader_closed leader_closed_replies
unfolding Computed leader_closed leader_closed_replies
leader_closed-answers = computed leader_closed leader_closed_replies (refl, (refl, (refl, (refl, (refl, (refl, (refl, (refl, (refl, tt)))))))))

map_and_output : Scripted
map_and_output = record {
  cpus = 2;
  pmus = pmu 2 3 ∷ [];
  kinds = kind_line (codes "a") 0 3 ∷ [];
  tasks = task 0 ∷ task 1 ∷ [];
  rings = (ring 0, 64) ∷ (ring 1, 64) ∷ [];
  cpu_lines = eight ((
      cpu_line.Work (work 10 mode.User 7 (5 ∷ [])) ∷
      []) ∷ []);
  tool_lines = four ((
      tool_line.Open (slot 0) (attr (kind.Hard 0) tasks.All (cpus.One (cpu 0)) 0 0 0 0) None ∷
      tool_line.Open (slot 1) (attr (kind.Hard 0) tasks.All (cpus.One (cpu 1)) 0 0 0 0) None ∷
      tool_line.Open (slot 2) (attr (kind.Hard 0) (tasks.One (task 0)) cpus.Any 0 0 0 2) None ∷
      tool_line.Open (slot 3) (attr (kind.Hard 0) tasks.All (cpus.One (cpu 0)) 5 1 0 0) None ∷
      tool_line.Open (slot 4) (attr (kind.Hard 0) (tasks.One (task 0)) cpus.Any 0 0 0 0) None ∷
      tool_line.Open (slot 5) (attr (kind.Hard 0) (tasks.One (task 1)) cpus.Any 0 0 0 0) None ∷
      tool_line.Map (slot 2) (ring 0) ∷
      tool_line.Map (slot 0) (ring 0) ∷
      tool_line.Map (slot 0) (ring 1) ∷
      tool_line.Map (slot 3) (ring 0) ∷
      tool_line.Output (slot 0) (slot 0) ∷
      tool_line.Output (slot 1) (slot 0) ∷
      tool_line.Output (slot 4) (slot 5) ∷
      tool_line.Output (slot 0) (slot 3) ∷
      tool_line.Output (slot 4) (slot 2) ∷
      tool_line.Output (slot 3) (slot 0) ∷
      tool_line.Output (slot 3) (slot 9) ∷
      tool_line.Close (slot 0) ∷
      []) ∷ []);
  readers = [];
  order = by_tool 0 ∷ by_tool 0 ∷ by_tool 0 ∷ by_tool 0 ∷ by_tool 0 ∷ by_tool 0 ∷ by_tool 0 ∷ by_tool 0 ∷ by_tool 0 ∷ by_tool 0 ∷ by_tool 0 ∷
      by_tool 0 ∷ by_tool 0 ∷ by_tool 0 ∷ by_tool 0 ∷ by_tool 0 ∷ by_tool 0 ∷ by_tool 0 ∷ by_cpu 0 ∷ [];
}

map_and_output_replies : List Reply
map_and_output_replies = reply.Ok ∷ reply.Ok ∷ reply.Ok ∷ reply.Ok ∷ reply.Ok ∷ reply.Ok ∷ reply.Refused reason.Inherit ∷ reply.Ok ∷
    reply.Refused reason.HasRing ∷ reply.Refused reason.Busy ∷ reply.Refused reason.SameEvent ∷ reply.Refused reason.OtherCpu ∷
    reply.Refused reason.OtherContext ∷ reply.Refused reason.HasRing ∷ reply.Refused reason.NoRing ∷ reply.Ok ∷ reply.Refused reason.NoEvent ∷
    reply.Ok ∷ reply.Ok ∷ []

map_and_output-answers : Answers map_and_output map_and_output_replies
unfolding Computed map_and_output map_and_output_replies
map_and_output-answers = computed map_and_output map_and_output_replies (refl, (refl, (refl, (refl, (refl, (refl, (refl, (refl, (refl, (refl, (refl, (refl, (refl, (refl, (refl, (refl, (refl, (refl, (refl, tt)))))))))))))))))))

modes_left_out : Scripted
modes_left_out = record {
  cpus = 1;
  pmus = pmu 2 1 ∷ [];
  kinds = kind_line (codes "a") 0 3 ∷ [];
  tasks = task 0 ∷ [];
  rings = [];
  cpu_lines = eight ((
      cpu_line.Switch None ∷
      cpu_line.Switch (Some (task 0)) ∷
      cpu_line.Switch (Some (task 0)) ∷
      cpu_line.Work (work 10 mode.User 0 (3 ∷ [])) ∷
      cpu_line.Work (work 20 mode.Kernel 0 (5 ∷ [])) ∷
      cpu_line.Switch None ∷
      []) ∷ []);
  tool_lines = four ((
      tool_line.Open (slot 0) (attr kind.ContextSwitches tasks.All (cpus.One (cpu 0)) 0 0 0 0) None ∷
      tool_line.Open (slot 1) (attr kind.ContextSwitches tasks.All (cpus.One (cpu 0)) 0 0 0 32) None ∷
      tool_line.Open (slot 2) (attr kind.TaskClock tasks.All (cpus.One (cpu 0)) 0 0 0 48) None ∷
      tool_line.Open (slot 3) (attr (kind.Hard 0) tasks.All (cpus.One (cpu 0)) 0 0 0 16) None ∷
      tool_line.Open (slot 4) (attr (kind.Hard 0) tasks.All (cpus.One (cpu 0)) 0 0 0 32) None ∷
      tool_line.Read (slot 0) None ∷
      tool_line.Read (slot 1) None ∷
      tool_line.Read (slot 2) None ∷
      tool_line.Read (slot 3) None ∷
      tool_line.Read (slot 4) None ∷
      []) ∷ []);
  readers = [];
  order = by_tool 0 ∷ by_tool 0 ∷ by_tool 0 ∷ by_tool 0 ∷ by_tool 0 ∷ by_cpu 0 ∷ by_cpu 0 ∷ by_cpu 0 ∷ by_cpu 0 ∷ by_cpu 0 ∷ by_cpu 0 ∷ by_tool 0 ∷
      by_tool 0 ∷ by_tool 0 ∷ by_tool 0 ∷ by_tool 0 ∷ [];
}

modes_left_out_replies : List Reply
modes_left_out_replies = reply.Ok ∷ reply.Ok ∷ reply.Ok ∷ reply.Ok ∷ reply.Ok ∷ reply.Ok ∷ reply.Ok ∷ reply.Ok ∷ reply.Ok ∷ reply.Ok ∷ reply.Ok ∷
    reply.Read (2 ∷ []) ∷ reply.Read (0 ∷ []) ∷ reply.Read (30 ∷ []) ∷ reply.Read (5 ∷ []) ∷ reply.Read (3 ∷ []) ∷ []

modes_left_out-answers : Answers modes_left_out modes_left_out_replies
unfolding Computed modes_left_out modes_left_out_replies
modes_left_out-answers = computed modes_left_out modes_left_out_replies (refl, (refl, (refl, (refl, (refl, (refl, (refl, (refl, (refl, (refl, (refl, (refl, (refl, (refl, (refl, (refl, tt))))))))))))))))

multiplexing : Scripted
multiplexing = record {
  cpus = 1;
  pmus = pmu 1 1 ∷ [];
  kinds = kind_line (codes "cycles") 0 1 ∷ [];
  tasks = [];
  rings = [];
  cpu_lines = eight ((
      cpu_line.Work (work 10 mode.User 0 (100 ∷ [])) ∷
      cpu_line.Tick ∷
      cpu_line.Work (work 10 mode.User 0 (40 ∷ [])) ∷
      []) ∷ []);
  tool_lines = four ((
      tool_line.Open (slot 0) (attr (kind.Hard 0) tasks.All (cpus.One (cpu 0)) 0 0 3 0) None ∷
      tool_line.Open (slot 1) (attr (kind.Hard 0) tasks.All (cpus.One (cpu 0)) 0 0 3 0) None ∷
      tool_line.Read (slot 0) None ∷
      tool_line.Read (slot 1) None ∷
      []) ∷ []);
  readers = [];
  order = by_tool 0 ∷ by_tool 0 ∷ by_cpu 0 ∷ by_cpu 0 ∷ by_cpu 0 ∷ by_tool 0 ∷ by_tool 0 ∷ [];
}

multiplexing_replies : List Reply
multiplexing_replies = reply.Ok ∷ reply.Ok ∷ reply.Ok ∷ reply.Ok ∷ reply.Ok ∷ reply.Read (100 ∷ 20 ∷ 10 ∷ []) ∷ reply.Read (40 ∷ 20 ∷ 10 ∷ []) ∷ []

multiplexing-answers : Answers multiplexing multiplexing_replies
unfolding Computed multiplexing multiplexing_replies
multiplexing-answers = computed multiplexing multiplexing_replies (refl, (refl, (refl, (refl, (refl, (refl, (refl, tt)))))))
