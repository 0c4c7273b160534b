-- Worked cases, written by tools/maintain/script_terms.py from texts and their reports.
use Rattle.std.specs.Prelude.{false, List, [], ◌∷◌, Some, None, codes}
use Rattle.std.proofs.Common.{refl}
use Rattle.perf_base.specs.declared.attr.Kind.TheVariants as kind
use Rattle.perf_base.specs.declared.attr.TaskSel.TheVariants as tasks
use Rattle.perf_base.specs.declared.attr.CpuSel.TheVariants as cpus
use Rattle.perf_base.specs.declared.lines.Mode.TheVariants as mode
use Rattle.perf_base.specs.declared.lines.CpuLine.TheVariants as cpu_line
use Rattle.perf_base.specs.declared.lines.ToolLine.TheVariants as tool_line
use Rattle.perf_base.specs.declared.standing.Cause.TheVariants as cause
use Rattle.perf_base.specs.declared.standing.Why.TheVariants as why
use Rattle.perf_base.specs.declared.reasons.Reason.TheVariants as reason
use Rattle.perf_base.specs.declared.reply.Reply.{Reply}
use Rattle.perf_base.specs.declared.reply.Reply.TheVariants as reply
use Rattle.perf_base.specs.Scripts.{Scripted}
use Rattle.worked_theorems.proofs.answers.Words.{cpu, task, slot, slots, by_cpu, by_tool, pmu, kind_line, attr, work, eight, four}
use Rattle.worked_theorems.proofs.answers.Answering.{Answers, Computed, computed}

sibling_of_error : Scripted
sibling_of_error = record {
  cpus = 1;
  pmus = pmu 2 1 ∷ [];
  kinds = kind_line (codes "a") 0 1 ∷ kind_line (codes "b") 0 2 ∷ [];
  tasks = [];
  rings = [];
  cpu_lines = eight [];
  tool_lines = four ((
      tool_line.Open (slot 0) (attr (kind.Hard 0) tasks.All (cpus.One (cpu 0)) 0 0 0 4) None ∷
      tool_line.Open (slot 1) (attr (kind.Hard 0) tasks.All (cpus.One (cpu 0)) 0 0 0 4) None ∷
      tool_line.Open (slot 2) (attr (kind.Hard 1) tasks.All (cpus.One (cpu 0)) 0 0 0 1) (Some (slot 1)) ∷
      tool_line.Open (slot 3) (attr kind.Dummy tasks.All (cpus.One (cpu 0)) 0 0 0 0) (Some (slot 1)) ∷
      tool_line.Why (slot 2) ∷
      tool_line.Read (slot 2) None ∷
      tool_line.Read (slot 2) (Some 0) ∷
      tool_line.Why (slot 3) ∷
      tool_line.Disable (slot 1) false ∷
      tool_line.Why (slot 2) ∷
      tool_line.Why (slot 3) ∷
      tool_line.Read (slot 3) None ∷
      tool_line.Enable (slot 1) false ∷
      tool_line.Why (slot 1) ∷
      tool_line.Why (slot 2) ∷
      tool_line.Close (slot 1) ∷
      tool_line.Why (slot 2) ∷
      tool_line.Why (slot 3) ∷
      []) ∷ []);
  readers = [];
  order = by_tool 0 ∷ by_tool 0 ∷ by_tool 0 ∷ by_tool 0 ∷ by_tool 0 ∷ by_tool 0 ∷ by_tool 0 ∷ by_tool 0 ∷ by_tool 0 ∷ by_tool 0 ∷ by_tool 0 ∷
      by_tool 0 ∷ by_tool 0 ∷ by_tool 0 ∷ by_tool 0 ∷ by_tool 0 ∷ by_tool 0 ∷ by_tool 0 ∷ [];
}

sibling_of_error_replies : List Reply
sibling_of_error_replies = reply.Ok ∷ reply.Ok ∷ reply.Ok ∷ reply.Ok ∷ reply.Why (why.Failed (cause.Hall (slots (0 ∷ 1 ∷ [])))) ∷ reply.Read [] ∷
    reply.Read [] ∷ reply.Why (why.Failed (cause.Hall (slots (0 ∷ 1 ∷ [])))) ∷ reply.Ok ∷ reply.Why why.Off ∷ reply.Why why.Off ∷
    reply.Read (0 ∷ []) ∷ reply.Ok ∷ reply.Why (why.Failed (cause.Hall (slots (0 ∷ 1 ∷ [])))) ∷
    reply.Why (why.Failed (cause.Hall (slots (0 ∷ 1 ∷ [])))) ∷ reply.Ok ∷ reply.Why why.Off ∷ reply.Why why.On ∷ []

sibling_of_error-answers : Answers sibling_of_error sibling_of_error_replies
unfolding Computed sibling_of_error sibling_of_error_replies
sibling_of_error-answers = computed sibling_of_error sibling_of_error_replies (refl, (refl, (refl, (refl, (refl, (refl, (refl, (refl, (refl, (refl, (refl, (refl, (refl, (refl, (refl, (refl, (refl, (refl, tt))))))))))))))))))

sibling_off_takes_no_counter : Scripted
sibling_off_takes_no_counter = record {
  cpus = 1;
  pmus = pmu 2 1 ∷ [];
  kinds = kind_line (codes "a") 0 1 ∷ kind_line (codes "b") 0 2 ∷ [];
  tasks = [];
  rings = [];
  cpu_lines = eight [];
  tool_lines = four ((
      tool_line.Open (slot 0) (attr (kind.Hard 1) tasks.All (cpus.One (cpu 0)) 0 0 0 0) None ∷
      tool_line.Open (slot 1) (attr (kind.Hard 0) tasks.All (cpus.One (cpu 0)) 0 0 0 0) None ∷
      tool_line.Open (slot 2) (attr (kind.Hard 1) tasks.All (cpus.One (cpu 0)) 0 0 0 1) (Some (slot 1)) ∷
      tool_line.Why (slot 1) ∷
      tool_line.Why (slot 2) ∷
      tool_line.Enable (slot 2) false ∷
      tool_line.Why (slot 1) ∷
      tool_line.Why (slot 2) ∷
      tool_line.Open (slot 3) (attr (kind.Hard 0) tasks.All (cpus.One (cpu 0)) 0 0 0 0) (Some (slot 1)) ∷
      []) ∷ []);
  readers = [];
  order = by_tool 0 ∷ by_tool 0 ∷ by_tool 0 ∷ by_tool 0 ∷ by_tool 0 ∷ by_tool 0 ∷ by_tool 0 ∷ by_tool 0 ∷ by_tool 0 ∷ [];
}

sibling_off_takes_no_counter_replies : List Reply
sibling_off_takes_no_counter_replies = reply.Ok ∷ reply.Ok ∷ reply.Ok ∷ reply.Why why.On ∷ reply.Why why.Off ∷ reply.Ok ∷
    reply.Why (why.Refused (cause.Hall (slots (0 ∷ 2 ∷ [])))) ∷ reply.Why (why.Refused (cause.Hall (slots (0 ∷ 2 ∷ [])))) ∷
    reply.Refused (reason.NoAssignment (slots (1 ∷ 3 ∷ []))) ∷ []

sibling_off_takes_no_counter-answers : Answers sibling_off_takes_no_counter sibling_off_takes_no_counter_replies
unfolding Computed sibling_off_takes_no_counter sibling_off_takes_no_counter_replies
sibling_off_takes_no_counter-answers = computed sibling_off_takes_no_counter sibling_off_takes_no_counter_replies (refl, (refl, (refl, (refl, (refl, (refl, (refl, (refl, (refl, tt)))))))))

sibling_off : Scripted
sibling_off = record {
  cpus = 1;
  pmus = pmu 3 1 ∷ [];
  kinds = kind_line (codes "a") 0 1 ∷ kind_line (codes "b") 0 2 ∷ kind_line (codes "c") 0 4 ∷ [];
  tasks = [];
  rings = [];
  cpu_lines = eight ((
      cpu_line.Work (work 10 mode.User 0 (5 ∷ 6 ∷ 7 ∷ [])) ∷
      []) ∷ []);
  tool_lines = four ((
      tool_line.Open (slot 0) (attr (kind.Hard 0) tasks.All (cpus.One (cpu 0)) 0 0 15 0) None ∷
      tool_line.Open (slot 1) (attr (kind.Hard 1) tasks.All (cpus.One (cpu 0)) 0 0 3 1) (Some (slot 0)) ∷
      tool_line.Open (slot 2) (attr (kind.Hard 2) tasks.All (cpus.One (cpu 0)) 0 0 0 0) (Some (slot 0)) ∷
      tool_line.Read (slot 0) None ∷
      tool_line.Read (slot 1) None ∷
      tool_line.Why (slot 1) ∷
      []) ∷ []);
  readers = [];
  order = by_tool 0 ∷ by_tool 0 ∷ by_tool 0 ∷ by_cpu 0 ∷ by_tool 0 ∷ by_tool 0 ∷ by_tool 0 ∷ [];
}

sibling_off_replies : List Reply
sibling_off_replies = reply.Ok ∷ reply.Ok ∷ reply.Ok ∷ reply.Ok ∷ reply.Read (3 ∷ 10 ∷ 10 ∷ 5 ∷ 1 ∷ 0 ∷ 2 ∷ 7 ∷ 3 ∷ []) ∷
    reply.Read (0 ∷ 0 ∷ 0 ∷ []) ∷ reply.Why why.Off ∷ []

sibling_off-answers : Answers sibling_off sibling_off_replies
unfolding Computed sibling_off sibling_off_replies
sibling_off-answers = computed sibling_off sibling_off_replies (refl, (refl, (refl, (refl, (refl, (refl, (refl, tt)))))))

one_event_read : Scripted
one_event_read = record {
  cpus = 1;
  pmus = pmu 1 1 ∷ [];
  kinds = kind_line (codes "cycles") 0 1 ∷ [];
  tasks = [];
  rings = [];
  cpu_lines = eight ((
      cpu_line.Work (work 100 mode.User 0 (500 ∷ [])) ∷
      []) ∷ []);
  tool_lines = four ((
      tool_line.Open (slot 0) (attr (kind.Hard 0) tasks.All (cpus.One (cpu 0)) 0 0 3 0) None ∷
      tool_line.Read (slot 0) None ∷
      []) ∷ []);
  readers = [];
  order = by_tool 0 ∷ by_cpu 0 ∷ by_tool 0 ∷ [];
}

one_event_read_replies : List Reply
one_event_read_replies = reply.Ok ∷ reply.Ok ∷ reply.Read (500 ∷ 100 ∷ 100 ∷ []) ∷ []

one_event_read-answers : Answers one_event_read one_event_read_replies
unfolding Computed one_event_read one_event_read_replies
one_event_read-answers = computed one_event_read one_event_read_replies (refl, (refl, (refl, tt)))

software_kinds : Scripted
software_kinds = record {
  cpus = 2;
  pmus = pmu 1 3 ∷ [];
  kinds = [];
  tasks = task 0 ∷ [];
  rings = [];
  cpu_lines = eight ((
      cpu_line.Switch (Some (task 0)) ∷
      cpu_line.Work (work 10 mode.User 0 []) ∷
      cpu_line.Switch None ∷
      []) ∷ (
      cpu_line.Switch (Some (task 0)) ∷
      cpu_line.Work (work 5 mode.Kernel 0 []) ∷
      []) ∷ []);
  tool_lines = four ((
      tool_line.Open (slot 0) (attr kind.ContextSwitches (tasks.One (task 0)) cpus.Any 0 0 0 0) None ∷
      tool_line.Open (slot 1) (attr kind.CpuMigrations (tasks.One (task 0)) cpus.Any 0 0 0 0) None ∷
      tool_line.Open (slot 2) (attr kind.TaskClock (tasks.One (task 0)) cpus.Any 0 0 0 0) None ∷
      tool_line.Open (slot 3) (attr kind.ContextSwitches tasks.All (cpus.One (cpu 0)) 0 0 0 0) None ∷
      tool_line.Read (slot 0) None ∷
      tool_line.Read (slot 1) None ∷
      tool_line.Read (slot 2) None ∷
      tool_line.Read (slot 3) None ∷
      []) ∷ []);
  readers = [];
  order = by_tool 0 ∷ by_tool 0 ∷ by_tool 0 ∷ by_tool 0 ∷ by_cpu 0 ∷ by_cpu 0 ∷ by_cpu 0 ∷ by_cpu 1 ∷ by_cpu 1 ∷ by_tool 0 ∷ by_tool 0 ∷ by_tool 0 ∷
      by_tool 0 ∷ [];
}

software_kinds_replies : List Reply
software_kinds_replies = reply.Ok ∷ reply.Ok ∷ reply.Ok ∷ reply.Ok ∷ reply.Ok ∷ reply.Ok ∷ reply.Ok ∷ reply.Ok ∷ reply.Ok ∷ reply.Read (1 ∷ []) ∷
    reply.Read (1 ∷ []) ∷ reply.Read (15 ∷ []) ∷ reply.Read (2 ∷ []) ∷ []

software_kinds-answers : Answers software_kinds software_kinds_replies
unfolding Computed software_kinds software_kinds_replies
software_kinds-answers = computed software_kinds software_kinds_replies (refl, (refl, (refl, (refl, (refl, (refl, (refl, (refl, (refl, (refl, (refl, (refl, (refl, tt)))))))))))))

software_sibling_of_another_pmu : Scripted
software_sibling_of_another_pmu = record {
  cpus = 2;
  pmus = pmu 1 1 ∷ pmu 1 2 ∷ [];
  kinds = kind_line (codes "core") 0 1 ∷ [];
  tasks = task 0 ∷ [];
  rings = [];
  cpu_lines = eight ([] ∷ (
      cpu_line.Switch (Some (task 0)) ∷
      cpu_line.Work (work 10 mode.User 0 (0 ∷ [])) ∷
      []) ∷ []);
  tool_lines = four ((
      tool_line.Open (slot 0) (attr kind.TaskClock (tasks.One (task 0)) cpus.Any 0 0 3 0) None ∷
      tool_line.Open (slot 1) (attr (kind.Hard 0) (tasks.One (task 0)) cpus.Any 0 0 0 0) (Some (slot 0)) ∷
      tool_line.Open (slot 2) (attr kind.TaskClock (tasks.One (task 0)) cpus.Any 0 0 3 0) None ∷
      tool_line.Why (slot 0) ∷
      tool_line.Why (slot 1) ∷
      tool_line.Why (slot 2) ∷
      tool_line.Read (slot 0) None ∷
      tool_line.Read (slot 2) None ∷
      []) ∷ []);
  readers = [];
  order = by_cpu 1 ∷ by_tool 0 ∷ by_tool 0 ∷ by_tool 0 ∷ by_tool 0 ∷ by_tool 0 ∷ by_tool 0 ∷ by_cpu 1 ∷ by_tool 0 ∷ by_tool 0 ∷ [];
}

software_sibling_of_another_pmu_replies : List Reply
software_sibling_of_another_pmu_replies = reply.Ok ∷ reply.Ok ∷ reply.Ok ∷ reply.Ok ∷ reply.Why why.Away ∷ reply.Why why.Away ∷ reply.Why why.On ∷
    reply.Ok ∷ reply.Read (0 ∷ 10 ∷ 0 ∷ []) ∷ reply.Read (10 ∷ 10 ∷ 10 ∷ []) ∷ []

software_sibling_of_another_pmu-answers : Answers software_sibling_of_another_pmu software_sibling_of_another_pmu_replies
unfolding Computed software_sibling_of_another_pmu software_sibling_of_another_pmu_replies
software_sibling_of_another_pmu-answers = computed software_sibling_of_another_pmu software_sibling_of_another_pmu_replies (refl, (refl, (refl, (refl, (refl, (refl, (refl, (refl, (refl, (refl, tt))))))))))

switches_refused : Scripted
switches_refused = record {
  cpus = 2;
  pmus = pmu 1 3 ∷ [];
  kinds = [];
  tasks = task 1 ∷ [];
  rings = [];
  cpu_lines = eight ((
      cpu_line.Switch (Some (task 1)) ∷
      []) ∷ (
      cpu_line.Switch (Some (task 1)) ∷
      cpu_line.Switch (Some (task 5)) ∷
      []) ∷ []);
  tool_lines = four [];
  readers = [];
  order = by_cpu 0 ∷ by_cpu 1 ∷ by_cpu 1 ∷ [];
}

switches_refused_replies : List Reply
switches_refused_replies = reply.Ok ∷ reply.Refused reason.Busy ∷ reply.Refused reason.NoTask ∷ []

switches_refused-answers : Answers switches_refused switches_refused_replies
unfolding Computed switches_refused switches_refused_replies
switches_refused-answers = computed switches_refused switches_refused_replies (refl, (refl, (refl, tt)))

tick_and_software : Scripted
tick_and_software = record {
  cpus = 1;
  pmus = pmu 1 1 ∷ [];
  kinds = kind_line (codes "a") 0 1 ∷ [];
  tasks = [];
  rings = [];
  cpu_lines = eight ((
      cpu_line.Tick ∷
      []) ∷ []);
  tool_lines = four ((
      tool_line.Open (slot 0) (attr kind.TaskClock tasks.All (cpus.One (cpu 0)) 0 0 0 0) None ∷
      tool_line.Open (slot 1) (attr (kind.Hard 0) tasks.All (cpus.One (cpu 0)) 0 0 0 0) None ∷
      tool_line.Open (slot 2) (attr (kind.Hard 0) tasks.All (cpus.One (cpu 0)) 0 0 0 0) None ∷
      tool_line.Why (slot 2) ∷
      tool_line.Why (slot 1) ∷
      tool_line.Why (slot 2) ∷
      []) ∷ []);
  readers = [];
  order = by_tool 0 ∷ by_tool 0 ∷ by_tool 0 ∷ by_tool 0 ∷ by_cpu 0 ∷ by_tool 0 ∷ by_tool 0 ∷ [];
}

tick_and_software_replies : List Reply
tick_and_software_replies = reply.Ok ∷ reply.Ok ∷ reply.Ok ∷ reply.Why (why.Refused (cause.Hall (slots (1 ∷ 2 ∷ [])))) ∷ reply.Ok ∷
    reply.Why (why.Refused (cause.Hall (slots (2 ∷ 1 ∷ [])))) ∷ reply.Why why.On ∷ []

tick_and_software-answers : Answers tick_and_software tick_and_software_replies
unfolding Computed tick_and_software tick_and_software_replies
tick_and_software-answers = computed tick_and_software tick_and_software_replies (refl, (refl, (refl, (refl, (refl, (refl, (refl, tt)))))))

tick_without_waiting : Scripted
tick_without_waiting = record {
  cpus = 1;
  pmus = pmu 2 1 ∷ [];
  kinds = kind_line (codes "a") 0 1 ∷ kind_line (codes "b") 0 2 ∷ [];
  tasks = [];
  rings = [];
  cpu_lines = eight ((
      cpu_line.Tick ∷
      cpu_line.Tick ∷
      []) ∷ []);
  tool_lines = four ((
      tool_line.Open (slot 0) (attr (kind.Hard 0) tasks.All (cpus.One (cpu 0)) 0 0 0 0) None ∷
      tool_line.Open (slot 1) (attr (kind.Hard 1) tasks.All (cpus.One (cpu 0)) 0 0 0 0) None ∷
      tool_line.Open (slot 2) (attr (kind.Hard 0) tasks.All (cpus.One (cpu 0)) 0 0 0 1) None ∷
      tool_line.Seats (cpu 0) ∷
      tool_line.Seats (cpu 0) ∷
      tool_line.Enable (slot 2) false ∷
      tool_line.Why (slot 2) ∷
      tool_line.Seats (cpu 0) ∷
      tool_line.Why (slot 0) ∷
      []) ∷ []);
  readers = [];
  order = by_tool 0 ∷ by_tool 0 ∷ by_tool 0 ∷ by_tool 0 ∷ by_cpu 0 ∷ by_tool 0 ∷ by_tool 0 ∷ by_tool 0 ∷ by_cpu 0 ∷ by_tool 0 ∷ by_tool 0 ∷ [];
}

tick_without_waiting_replies : List Reply
tick_without_waiting_replies = reply.Ok ∷ reply.Ok ∷ reply.Ok ∷ reply.Seats ((slot 0, 0) ∷ (slot 1, 1) ∷ []) ∷ reply.Ok ∷
    reply.Seats ((slot 0, 0) ∷ (slot 1, 1) ∷ []) ∷ reply.Ok ∷ reply.Why (why.Refused (cause.Hall (slots (0 ∷ 2 ∷ [])))) ∷ reply.Ok ∷
    reply.Seats ((slot 1, 1) ∷ (slot 2, 0) ∷ []) ∷ reply.Why (why.Refused (cause.Hall (slots (2 ∷ 0 ∷ [])))) ∷ []

tick_without_waiting-answers : Answers tick_without_waiting tick_without_waiting_replies
unfolding Computed tick_without_waiting tick_without_waiting_replies
tick_without_waiting-answers = computed tick_without_waiting tick_without_waiting_replies (refl, (refl, (refl, ((refl, refl), (refl, ((refl, refl), (refl, (refl, (refl, ((refl, refl), (refl, tt)))))))))))

tight_set : Scripted
tight_set = record {
  cpus = 1;
  pmus = pmu 3 1 ∷ [];
  kinds = kind_line (codes "a") 0 1 ∷ kind_line (codes "b") 0 6 ∷ [];
  tasks = [];
  rings = [];
  cpu_lines = eight [];
  tool_lines = four ((
      tool_line.Open (slot 0) (attr (kind.Hard 0) tasks.All (cpus.One (cpu 0)) 0 0 0 0) None ∷
      tool_line.Open (slot 1) (attr (kind.Hard 1) tasks.All (cpus.One (cpu 0)) 0 0 0 0) None ∷
      tool_line.Open (slot 2) (attr (kind.Hard 0) tasks.All (cpus.One (cpu 0)) 0 0 0 0) None ∷
      tool_line.Why (slot 2) ∷
      tool_line.Why (slot 1) ∷
      []) ∷ []);
  readers = [];
  order = by_tool 0 ∷ by_tool 0 ∷ by_tool 0 ∷ by_tool 0 ∷ by_tool 0 ∷ [];
}

tight_set_replies : List Reply
tight_set_replies = reply.Ok ∷ reply.Ok ∷ reply.Ok ∷ reply.Why (why.Refused (cause.Hall (slots (0 ∷ 2 ∷ [])))) ∷ reply.Why why.On ∷ []

tight_set-answers : Answers tight_set tight_set_replies
unfolding Computed tight_set tight_set_replies
tight_set-answers = computed tight_set tight_set_replies (refl, (refl, (refl, (refl, (refl, tt)))))

times_under_an_off_leader : Scripted
times_under_an_off_leader = record {
  cpus = 1;
  pmus = pmu 2 1 ∷ [];
  kinds = kind_line (codes "a") 0 3 ∷ [];
  tasks = [];
  rings = [];
  cpu_lines = eight ((
      cpu_line.Work (work 10 mode.User 0 (3 ∷ [])) ∷
      cpu_line.Work (work 20 mode.User 0 (5 ∷ [])) ∷
      []) ∷ []);
  tool_lines = four ((
      tool_line.Open (slot 0) (attr (kind.Hard 0) tasks.All (cpus.One (cpu 0)) 0 0 3 1) None ∷
      tool_line.Open (slot 1) (attr (kind.Hard 0) tasks.All (cpus.One (cpu 0)) 0 0 3 0) (Some (slot 0)) ∷
      tool_line.Read (slot 0) None ∷
      tool_line.Read (slot 1) None ∷
      tool_line.Enable (slot 0) false ∷
      tool_line.Read (slot 0) None ∷
      tool_line.Read (slot 1) None ∷
      []) ∷ []);
  readers = [];
  order = by_tool 0 ∷ by_tool 0 ∷ by_cpu 0 ∷ by_tool 0 ∷ by_tool 0 ∷ by_tool 0 ∷ by_cpu 0 ∷ by_tool 0 ∷ by_tool 0 ∷ [];
}

times_under_an_off_leader_replies : List Reply
times_under_an_off_leader_replies = reply.Ok ∷ reply.Ok ∷ reply.Ok ∷ reply.Read (0 ∷ 0 ∷ 0 ∷ []) ∷ reply.Read (0 ∷ 0 ∷ 0 ∷ []) ∷ reply.Ok ∷
    reply.Ok ∷ reply.Read (5 ∷ 20 ∷ 20 ∷ []) ∷ reply.Read (5 ∷ 20 ∷ 20 ∷ []) ∷ []

times_under_an_off_leader-answers : Answers times_under_an_off_leader times_under_an_off_leader_replies
unfolding Computed times_under_an_off_leader times_under_an_off_leader_replies
times_under_an_off_leader-answers = computed times_under_an_off_leader times_under_an_off_leader_replies (refl, (refl, (refl, (refl, (refl, (refl, (refl, (refl, (refl, tt)))))))))
