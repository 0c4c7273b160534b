-- Worked cases, written by tools/maintain/script_terms.py from texts and their reports.
use Rattle.std.specs.Prelude.{false, List, [], ◌∷◌, Some, None, codes}
use Rattle.std.proofs.Common.{refl}
use Rattle.perf_base.specs.declared.attr.Kind.TheVariants as kind
use Rattle.perf_base.specs.declared.attr.TaskSel.TheVariants as tasks
use Rattle.perf_base.specs.declared.attr.CpuSel.TheVariants as cpus
use Rattle.perf_base.specs.declared.lines.Mode.TheVariants as mode
use Rattle.perf_base.specs.declared.lines.CpuLine.TheVariants as cpu_line
use Rattle.perf_base.specs.declared.lines.ToolLine.TheVariants as tool_line
use Rattle.perf_base.specs.declared.standing.Rule.TheVariants as rule
use Rattle.perf_base.specs.declared.standing.Cause.TheVariants as cause
use Rattle.perf_base.specs.declared.standing.Why.TheVariants as why
use Rattle.perf_base.specs.declared.reasons.Reason.TheVariants as reason
use Rattle.perf_base.specs.declared.reply.Reply.{Reply}
use Rattle.perf_base.specs.declared.reply.Reply.TheVariants as reply
use Rattle.perf_base.specs.Scripts.{Scripted}
use Rattle.worked_theorems.proofs.answers.Words.{cpu, task, slot, slots, ring, by_cpu, by_tool, pmu, kind_line, attr, work, eight, four}
use Rattle.worked_theorems.proofs.answers.Answering.{Answers, Computed, computed}

new_period : Scripted
new_period = record {
  cpus = 1;
  pmus = pmu 1 1 ∷ [];
  kinds = kind_line (codes "a") 0 1 ∷ [];
  tasks = [];
  rings = (ring 0, 64) ∷ [];
  cpu_lines = eight ((
      cpu_line.Work (work 10 mode.User 0 (90 ∷ [])) ∷
      cpu_line.Work (work 10 mode.User 0 (29 ∷ [])) ∷
      cpu_line.Work (work 10 mode.User 0 (1 ∷ [])) ∷
      []) ∷ []);
  tool_lines = four ((
      tool_line.Open (slot 0) (attr (kind.Hard 0) tasks.All (cpus.One (cpu 0)) 100 257 0 0) None ∷
      tool_line.Map (slot 0) (ring 0) ∷
      tool_line.Period (slot 0) 0 ∷
      tool_line.Period (slot 0) 30 ∷
      []) ∷ []);
  readers = [];
  order = by_tool 0 ∷ by_tool 0 ∷ by_cpu 0 ∷ by_tool 0 ∷ by_tool 0 ∷ by_cpu 0 ∷ by_cpu 0 ∷ [];
}

new_period_replies : List Reply
new_period_replies = reply.Ok ∷ reply.Ok ∷ reply.Ok ∷ reply.Refused reason.ZeroPeriod ∷ reply.Ok ∷ reply.Ok ∷ reply.Ok ∷ []

new_period-answers : Answers new_period new_period_replies
unfolding Computed new_period new_period_replies
new_period-answers = computed new_period new_period_replies (refl, (refl, (refl, (refl, (refl, (refl, (refl, tt)))))))

opens_refused : Scripted
opens_refused = record {
  cpus = 2;
  pmus = pmu 1 3 ∷ [];
  kinds = kind_line (codes "a") 0 1 ∷ [];
  tasks = task 0 ∷ [];
  rings = [];
  cpu_lines = eight [];
  tool_lines = four ((
      tool_line.Open (slot 0) (attr (kind.Hard 0) (tasks.One (task 0)) cpus.Any 0 0 0 0) None ∷
      tool_line.Open (slot 0) (attr (kind.Hard 0) (tasks.One (task 0)) cpus.Any 0 0 0 0) None ∷
      tool_line.Open (slot 1) (attr (kind.Hard 0) tasks.All cpus.Any 0 0 0 0) None ∷
      tool_line.Open (slot 1) (attr (kind.Hard 0) (tasks.One (task 0)) cpus.Any 9223372036854775808 0 0 0) None ∷
      tool_line.Open (slot 1) (attr (kind.Hard 0) (tasks.One (task 0)) cpus.Any 0 8 0 0) None ∷
      tool_line.Open (slot 1) (attr (kind.Hard 0) (tasks.One (task 0)) cpus.Any 0 0 32 0) None ∷
      tool_line.Open (slot 1) (attr kind.Dummy (tasks.One (task 0)) cpus.Any 5 0 0 0) None ∷
      tool_line.Open (slot 1) (attr (kind.Hard 0) (tasks.One (task 7)) cpus.Any 0 0 0 0) None ∷
      tool_line.Open (slot 1) (attr (kind.Hard 0) (tasks.One (task 0)) cpus.Any 0 0 0 0) (Some (slot 9)) ∷
      tool_line.Open (slot 1) (attr (kind.Hard 0) (tasks.One (task 0)) (cpus.One (cpu 0)) 0 0 0 0) (Some (slot 0)) ∷
      tool_line.Open (slot 1) (attr (kind.Hard 0) (tasks.One (task 0)) cpus.Any 0 0 0 4) (Some (slot 0)) ∷
      tool_line.Open (slot 1) (attr (kind.Hard 0) (tasks.One (task 0)) cpus.Any 0 0 0 2) (Some (slot 0)) ∷
      tool_line.Open (slot 1) (attr (kind.Hard 0) (tasks.One (task 0)) cpus.Any 0 0 0 0) (Some (slot 0)) ∷
      tool_line.Open (slot 1) (attr kind.Dummy (tasks.One (task 0)) cpus.Any 0 0 0 0) (Some (slot 0)) ∷
      tool_line.Open (slot 2) (attr kind.Dummy (tasks.One (task 0)) cpus.Any 0 0 0 0) (Some (slot 1)) ∷
      []) ∷ []);
  readers = [];
  order = by_tool 0 ∷ by_tool 0 ∷ by_tool 0 ∷ by_tool 0 ∷ by_tool 0 ∷ by_tool 0 ∷ by_tool 0 ∷ by_tool 0 ∷ by_tool 0 ∷ by_tool 0 ∷ by_tool 0 ∷
      by_tool 0 ∷ by_tool 0 ∷ by_tool 0 ∷ by_tool 0 ∷ [];
}

opens_refused_replies : List Reply
opens_refused_replies = reply.Ok ∷ reply.Refused reason.Exists ∷ reply.Refused reason.NoPlace ∷ reply.Refused reason.BadPeriod ∷
    reply.Refused reason.BadSampleBits ∷ reply.Refused reason.BadFormatBits ∷ reply.Refused reason.SoftPeriod ∷ reply.Refused reason.NoTask ∷
    reply.Refused reason.NoEvent ∷ reply.Refused reason.OtherContext ∷ reply.Refused reason.SiblingFlags ∷ reply.Refused reason.Inherit ∷
    reply.Refused (reason.NoAssignment (slots (0 ∷ 1 ∷ []))) ∷ reply.Ok ∷ reply.Refused reason.NotLeader ∷ []

opens_refused-answers : Answers opens_refused opens_refused_replies
unfolding Computed opens_refused opens_refused_replies
opens_refused-answers = computed opens_refused opens_refused_replies (refl, (refl, (refl, (refl, (refl, (refl, (refl, (refl, (refl, (refl, (refl, (refl, (refl, (refl, (refl, tt)))))))))))))))

pass_order_of_seats : Scripted
pass_order_of_seats = record {
  cpus = 1;
  pmus = pmu 4 1 ∷ [];
  kinds = kind_line (codes "a") 0 15 ∷ [];
  tasks = task 0 ∷ [];
  rings = [];
  cpu_lines = eight ((
      cpu_line.Switch (Some (task 0)) ∷
      []) ∷ []);
  tool_lines = four ((
      tool_line.Open (slot 0) (attr (kind.Hard 0) (tasks.One (task 0)) cpus.Any 0 0 0 0) None ∷
      tool_line.Open (slot 1) (attr (kind.Hard 0) tasks.All (cpus.One (cpu 0)) 0 0 0 0) None ∷
      tool_line.Open (slot 2) (attr (kind.Hard 0) (tasks.One (task 0)) (cpus.One (cpu 0)) 0 0 0 4) None ∷
      tool_line.Open (slot 3) (attr (kind.Hard 0) tasks.All (cpus.One (cpu 0)) 0 0 0 4) None ∷
      tool_line.Open (slot 4) (attr kind.Dummy tasks.All (cpus.One (cpu 0)) 0 0 0 4) None ∷
      tool_line.Seats (cpu 0) ∷
      tool_line.Open (slot 5) (attr (kind.Hard 0) tasks.All (cpus.One (cpu 0)) 0 0 0 8) None ∷
      tool_line.Why (slot 5) ∷
      []) ∷ []);
  readers = [];
  order = by_cpu 0 ∷ by_tool 0 ∷ by_tool 0 ∷ by_tool 0 ∷ by_tool 0 ∷ by_tool 0 ∷ by_tool 0 ∷ by_tool 0 ∷ by_tool 0 ∷ [];
}

pass_order_of_seats_replies : List Reply
pass_order_of_seats_replies = reply.Ok ∷ reply.Ok ∷ reply.Ok ∷ reply.Ok ∷ reply.Ok ∷ reply.Ok ∷
    reply.Seats ((slot 3, 0) ∷ (slot 2, 1) ∷ (slot 1, 2) ∷ (slot 0, 3) ∷ []) ∷ reply.Ok ∷
    reply.Why (why.Refused (cause.Rule (rule.ExclusiveSelf (slot 3)))) ∷ []

pass_order_of_seats-answers : Answers pass_order_of_seats pass_order_of_seats_replies
unfolding Computed pass_order_of_seats pass_order_of_seats_replies
pass_order_of_seats-answers = computed pass_order_of_seats pass_order_of_seats_replies (refl, (refl, (refl, (refl, (refl, (refl, ((refl, refl), (refl, (refl, tt)))))))))

pinned_and_error : Scripted
pinned_and_error = record {
  cpus = 1;
  pmus = pmu 1 1 ∷ [];
  kinds = kind_line (codes "a") 0 1 ∷ [];
  tasks = [];
  rings = [];
  cpu_lines = eight [];
  tool_lines = four ((
      tool_line.Open (slot 0) (attr (kind.Hard 0) tasks.All (cpus.One (cpu 0)) 0 0 0 4) None ∷
      tool_line.Open (slot 1) (attr (kind.Hard 0) tasks.All (cpus.One (cpu 0)) 0 0 0 4) None ∷
      tool_line.Read (slot 1) None ∷
      tool_line.Why (slot 1) ∷
      tool_line.Disable (slot 0) false ∷
      tool_line.Enable (slot 1) false ∷
      tool_line.Why (slot 1) ∷
      tool_line.Why (slot 0) ∷
      []) ∷ []);
  readers = [];
  order = by_tool 0 ∷ by_tool 0 ∷ by_tool 0 ∷ by_tool 0 ∷ by_tool 0 ∷ by_tool 0 ∷ by_tool 0 ∷ by_tool 0 ∷ [];
}

pinned_and_error_replies : List Reply
pinned_and_error_replies = reply.Ok ∷ reply.Ok ∷ reply.Read [] ∷ reply.Why (why.Failed (cause.Hall (slots (0 ∷ 1 ∷ [])))) ∷ reply.Ok ∷ reply.Ok ∷
    reply.Why why.On ∷ reply.Why why.Off ∷ []

pinned_and_error-answers : Answers pinned_and_error pinned_and_error_replies
unfolding Computed pinned_and_error pinned_and_error_replies
pinned_and_error-answers = computed pinned_and_error pinned_and_error_replies (refl, (refl, (refl, (refl, (refl, (refl, (refl, (refl, tt))))))))

pinned_and_exclusive : Scripted
pinned_and_exclusive = record {
  cpus = 1;
  pmus = pmu 2 1 ∷ [];
  kinds = kind_line (codes "a") 0 3 ∷ [];
  tasks = [];
  rings = [];
  cpu_lines = eight [];
  tool_lines = four ((
      tool_line.Open (slot 0) (attr (kind.Hard 0) tasks.All (cpus.One (cpu 0)) 0 0 0 12) None ∷
      tool_line.Open (slot 1) (attr (kind.Hard 0) tasks.All (cpus.One (cpu 0)) 0 0 0 4) None ∷
      tool_line.Why (slot 1) ∷
      tool_line.Read (slot 1) None ∷
      tool_line.Close (slot 0) ∷
      tool_line.Why (slot 1) ∷
      tool_line.Enable (slot 1) false ∷
      tool_line.Why (slot 1) ∷
      tool_line.Open (slot 2) (attr (kind.Hard 0) tasks.All (cpus.One (cpu 0)) 0 0 0 12) None ∷
      tool_line.Why (slot 2) ∷
      tool_line.Open (slot 3) (attr (kind.Hard 0) tasks.All (cpus.One (cpu 0)) 0 0 0 4) None ∷
      tool_line.Why (slot 3) ∷
      tool_line.Enable (slot 2) false ∷
      tool_line.Why (slot 3) ∷
      tool_line.Reset (slot 9) false ∷
      tool_line.Close (slot 9) ∷
      tool_line.Reset (slot 0) false ∷
      []) ∷ []);
  readers = [];
  order = by_tool 0 ∷ by_tool 0 ∷ by_tool 0 ∷ by_tool 0 ∷ by_tool 0 ∷ by_tool 0 ∷ by_tool 0 ∷ by_tool 0 ∷ by_tool 0 ∷ by_tool 0 ∷ by_tool 0 ∷
      by_tool 0 ∷ by_tool 0 ∷ by_tool 0 ∷ by_tool 0 ∷ by_tool 0 ∷ by_tool 0 ∷ [];
}

pinned_and_exclusive_replies : List Reply
pinned_and_exclusive_replies = reply.Ok ∷ reply.Ok ∷ reply.Why (why.Failed (cause.Rule (rule.Exclusive (slot 0)))) ∷ reply.Read [] ∷ reply.Ok ∷
    reply.Why (why.Failed (cause.Rule (rule.Exclusive (slot 0)))) ∷ reply.Ok ∷ reply.Why why.On ∷ reply.Ok ∷
    reply.Why (why.Failed (cause.Rule (rule.ExclusiveSelf (slot 1)))) ∷ reply.Ok ∷ reply.Why why.On ∷ reply.Ok ∷
    reply.Why (why.Failed (cause.Rule (rule.Earlier (slot 2)))) ∷ reply.Refused reason.NoEvent ∷ reply.Refused reason.NoEvent ∷
    reply.Refused reason.NoEvent ∷ []

pinned_and_exclusive-answers : Answers pinned_and_exclusive pinned_and_exclusive_replies
unfolding Computed pinned_and_exclusive pinned_and_exclusive_replies
pinned_and_exclusive-answers = computed pinned_and_exclusive pinned_and_exclusive_replies (refl, (refl, (refl, (refl, (refl, (refl, (refl, (refl, (refl, (refl, (refl, (refl, (refl, (refl, (refl, (refl, (refl, tt)))))))))))))))))

six_inherited_events_on_four_counters : Scripted
six_inherited_events_on_four_counters = record {
  cpus = 2;
  pmus = pmu 4 3 ∷ [];
  kinds = kind_line (codes "cycles") 0 15 ∷ kind_line (codes "instructions") 0 15 ∷ kind_line (codes "branches") 0 15 ∷
      kind_line (codes "branch-misses") 0 15 ∷ kind_line (codes "cache-references") 0 15 ∷ kind_line (codes "cache-misses") 0 15 ∷ [];
  tasks = task 0 ∷ [];
  rings = [];
  cpu_lines = eight ((
      cpu_line.Switch (Some (task 0)) ∷
      cpu_line.Work (work 4000000 mode.User 0 (12000000 ∷ 9000000 ∷ 2000000 ∷ 40000 ∷ 80000 ∷ 8000 ∷ [])) ∷
      cpu_line.Fork (task 1) ∷
      cpu_line.Tick ∷
      cpu_line.Work (work 4000000 mode.User 0 (12000000 ∷ 9000000 ∷ 2000000 ∷ 40000 ∷ 80000 ∷ 8000 ∷ [])) ∷
      cpu_line.Tick ∷
      cpu_line.Work (work 4000000 mode.User 0 (12000000 ∷ 9000000 ∷ 2000000 ∷ 40000 ∷ 80000 ∷ 8000 ∷ [])) ∷
      []) ∷ (
      cpu_line.Switch (Some (task 1)) ∷
      cpu_line.Work (work 4000000 mode.User 0 (12000000 ∷ 9000000 ∷ 2000000 ∷ 40000 ∷ 80000 ∷ 8000 ∷ [])) ∷
      cpu_line.Exit ∷
      []) ∷ []);
  tool_lines = four ((
      tool_line.Open (slot 0) (attr (kind.Hard 0) (tasks.One (task 0)) cpus.Any 0 0 3 2) None ∷
      tool_line.Open (slot 1) (attr (kind.Hard 1) (tasks.One (task 0)) cpus.Any 0 0 3 2) None ∷
      tool_line.Open (slot 2) (attr (kind.Hard 2) (tasks.One (task 0)) cpus.Any 0 0 3 2) None ∷
      tool_line.Open (slot 3) (attr (kind.Hard 3) (tasks.One (task 0)) cpus.Any 0 0 3 2) None ∷
      tool_line.Open (slot 4) (attr (kind.Hard 4) (tasks.One (task 0)) cpus.Any 0 0 3 2) None ∷
      tool_line.Open (slot 5) (attr (kind.Hard 5) (tasks.One (task 0)) cpus.Any 0 0 3 2) None ∷
      tool_line.Read (slot 0) None ∷
      tool_line.Read (slot 1) None ∷
      tool_line.Read (slot 2) None ∷
      tool_line.Read (slot 3) None ∷
      tool_line.Read (slot 4) None ∷
      tool_line.Read (slot 5) None ∷
      []) ∷ []);
  readers = [];
  order = by_tool 0 ∷ by_tool 0 ∷ by_tool 0 ∷ by_tool 0 ∷ by_tool 0 ∷ by_tool 0 ∷ by_cpu 0 ∷ by_cpu 0 ∷ by_cpu 0 ∷ by_cpu 1 ∷ by_cpu 0 ∷ by_cpu 1 ∷
      by_cpu 0 ∷ by_cpu 1 ∷ by_cpu 0 ∷ by_cpu 0 ∷ by_tool 0 ∷ by_tool 0 ∷ by_tool 0 ∷ by_tool 0 ∷ by_tool 0 ∷ by_tool 0 ∷ [];
}

six_inherited_events_on_four_counters_replies : List Reply
six_inherited_events_on_four_counters_replies = reply.Ok ∷ reply.Ok ∷ reply.Ok ∷ reply.Ok ∷ reply.Ok ∷ reply.Ok ∷ reply.Ok ∷ reply.Ok ∷ reply.Ok ∷
    reply.Ok ∷ reply.Ok ∷ reply.Ok ∷ reply.Ok ∷ reply.Ok ∷ reply.Ok ∷ reply.Ok ∷ reply.Read (24000000 ∷ 16000000 ∷ 8000000 ∷ []) ∷
    reply.Read (27000000 ∷ 16000000 ∷ 12000000 ∷ []) ∷ reply.Read (8000000 ∷ 16000000 ∷ 16000000 ∷ []) ∷
    reply.Read (160000 ∷ 16000000 ∷ 16000000 ∷ []) ∷ reply.Read (160000 ∷ 16000000 ∷ 8000000 ∷ []) ∷ reply.Read (8000 ∷ 16000000 ∷ 4000000 ∷ []) ∷ []

six_inherited_events_on_four_counters-answers : Answers six_inherited_events_on_four_counters six_inherited_events_on_four_counters_replies
unfolding Computed six_inherited_events_on_four_counters six_inherited_events_on_four_counters_replies
six_inherited_events_on_four_counters-answers = computed six_inherited_events_on_four_counters six_inherited_events_on_four_counters_replies (refl, (refl, (refl, (refl, (refl, (refl, (refl, (refl, (refl, (refl, (refl, (refl, (refl, (refl, (refl, (refl, (refl, (refl, (refl, (refl, (refl, (refl, tt))))))))))))))))))))))

refusals_in_order : Scripted
refusals_in_order = record {
  cpus = 2;
  pmus = pmu 1 1 ∷ pmu 2 2 ∷ [];
  kinds = kind_line (codes "core") 0 1 ∷ kind_line (codes "atom") 1 3 ∷ [];
  tasks = task 0 ∷ task 1 ∷ [];
  rings = [];
  cpu_lines = eight [];
  tool_lines = four ((
      tool_line.Open (slot 0) (attr (kind.Hard 0) (tasks.One (task 0)) cpus.Any 0 0 0 2) None ∷
      tool_line.Open (slot 0) (attr kind.Dummy tasks.All cpus.Any 9223372036854775808 8 32 0) (Some (slot 9)) ∷
      tool_line.Open (slot 1) (attr kind.Dummy tasks.All cpus.Any 9223372036854775808 8 32 0) (Some (slot 9)) ∷
      tool_line.Open (slot 1) (attr kind.Dummy tasks.All cpus.Any 5 8 32 0) (Some (slot 9)) ∷
      tool_line.Open (slot 1) (attr kind.Dummy tasks.All cpus.Any 5 0 32 0) (Some (slot 9)) ∷
      tool_line.Open (slot 1) (attr kind.Dummy tasks.All cpus.Any 5 0 0 0) (Some (slot 9)) ∷
      tool_line.Open (slot 1) (attr kind.Dummy (tasks.One (task 7)) cpus.Any 5 0 0 0) (Some (slot 9)) ∷
      tool_line.Open (slot 1) (attr (kind.Hard 1) (tasks.One (task 7)) (cpus.One (cpu 0)) 0 0 0 0) (Some (slot 9)) ∷
      tool_line.Open (slot 1) (attr (kind.Hard 1) (tasks.One (task 7)) cpus.Any 0 0 0 0) (Some (slot 9)) ∷
      tool_line.Open (slot 1) (attr (kind.Hard 1) (tasks.One (task 1)) cpus.Any 0 0 0 4) (Some (slot 9)) ∷
      tool_line.Open (slot 2) (attr kind.Dummy (tasks.One (task 0)) cpus.Any 0 0 0 2) (Some (slot 0)) ∷
      tool_line.Open (slot 1) (attr (kind.Hard 1) (tasks.One (task 1)) cpus.Any 0 0 0 4) (Some (slot 2)) ∷
      tool_line.Open (slot 1) (attr (kind.Hard 1) (tasks.One (task 1)) cpus.Any 0 0 0 4) (Some (slot 0)) ∷
      tool_line.Open (slot 1) (attr (kind.Hard 1) (tasks.One (task 0)) cpus.Any 0 0 0 4) (Some (slot 0)) ∷
      tool_line.Open (slot 1) (attr (kind.Hard 1) (tasks.One (task 0)) cpus.Any 0 0 0 0) (Some (slot 0)) ∷
      tool_line.Open (slot 3) (attr kind.Dummy (tasks.One (task 0)) cpus.Any 0 0 0 2) (Some (slot 0)) ∷
      tool_line.Open (slot 4) (attr kind.Dummy (tasks.One (task 0)) cpus.Any 0 0 0 2) (Some (slot 0)) ∷
      tool_line.Open (slot 5) (attr kind.Dummy (tasks.One (task 0)) cpus.Any 0 0 0 2) (Some (slot 0)) ∷
      tool_line.Open (slot 6) (attr kind.Dummy (tasks.One (task 0)) cpus.Any 0 0 0 2) (Some (slot 0)) ∷
      tool_line.Open (slot 7) (attr kind.Dummy (tasks.One (task 0)) cpus.Any 0 0 0 2) (Some (slot 0)) ∷
      tool_line.Open (slot 8) (attr kind.Dummy (tasks.One (task 0)) cpus.Any 0 0 0 2) (Some (slot 0)) ∷
      tool_line.Open (slot 9) (attr (kind.Hard 1) (tasks.One (task 0)) cpus.Any 0 0 0 2) (Some (slot 0)) ∷
      tool_line.Open (slot 9) (attr (kind.Hard 0) (tasks.One (task 0)) cpus.Any 0 0 0 2) (Some (slot 0)) ∷
      tool_line.Close (slot 8) ∷
      tool_line.Open (slot 9) (attr (kind.Hard 0) (tasks.One (task 0)) cpus.Any 0 0 0 2) (Some (slot 0)) ∷
      tool_line.Open (slot 8) (attr kind.Dummy (tasks.One (task 0)) cpus.Any 0 0 0 0) None ∷
      []) ∷ []);
  readers = [];
  order = by_tool 0 ∷ by_tool 0 ∷ by_tool 0 ∷ by_tool 0 ∷ by_tool 0 ∷ by_tool 0 ∷ by_tool 0 ∷ by_tool 0 ∷ by_tool 0 ∷ by_tool 0 ∷ by_tool 0 ∷
      by_tool 0 ∷ by_tool 0 ∷ by_tool 0 ∷ by_tool 0 ∷ by_tool 0 ∷ by_tool 0 ∷ by_tool 0 ∷ by_tool 0 ∷ by_tool 0 ∷ by_tool 0 ∷ by_tool 0 ∷ by_tool 0 ∷
      by_tool 0 ∷ by_tool 0 ∷ by_tool 0 ∷ [];
}

refusals_in_order_replies : List Reply
refusals_in_order_replies = reply.Ok ∷ reply.Refused reason.Exists ∷ reply.Refused reason.BadPeriod ∷ reply.Refused reason.BadSampleBits ∷
    reply.Refused reason.BadFormatBits ∷ reply.Refused reason.NoPlace ∷ reply.Refused reason.SoftPeriod ∷ reply.Refused reason.NoDevice ∷
    reply.Refused reason.NoTask ∷ reply.Refused reason.NoEvent ∷ reply.Ok ∷ reply.Refused reason.NotLeader ∷ reply.Refused reason.OtherContext ∷
    reply.Refused reason.SiblingFlags ∷ reply.Refused reason.Inherit ∷ reply.Ok ∷ reply.Ok ∷ reply.Ok ∷ reply.Ok ∷ reply.Ok ∷ reply.Ok ∷
    reply.Refused reason.OtherPmu ∷ reply.Refused reason.GroupFull ∷ reply.Ok ∷ reply.Refused (reason.NoAssignment (slots (0 ∷ 9 ∷ []))) ∷
    reply.Refused reason.Exists ∷ []

refusals_in_order-answers : Answers refusals_in_order refusals_in_order_replies
unfolding Computed refusals_in_order refusals_in_order_replies
refusals_in_order-answers = computed refusals_in_order refusals_in_order_replies (refl, (refl, (refl, (refl, (refl, (refl, (refl, (refl, (refl, (refl, (refl, (refl, (refl, (refl, (refl, (refl, (refl, (refl, (refl, (refl, (refl, (refl, (refl, (refl, (refl, (refl, tt))))))))))))))))))))))))))

seated_event_moves : Scripted
seated_event_moves = record {
  cpus = 1;
  pmus = pmu 2 1 ∷ [];
  kinds = kind_line (codes "x") 0 3 ∷ kind_line (codes "y") 0 1 ∷ [];
  tasks = [];
  rings = [];
  cpu_lines = eight [];
  tool_lines = four ((
      tool_line.Open (slot 0) (attr (kind.Hard 0) tasks.All (cpus.One (cpu 0)) 0 0 0 0) None ∷
      tool_line.Open (slot 1) (attr (kind.Hard 1) tasks.All (cpus.One (cpu 0)) 0 0 0 0) None ∷
      tool_line.Seats (cpu 0) ∷
      tool_line.Why (slot 1) ∷
      []) ∷ []);
  readers = [];
  order = by_tool 0 ∷ by_tool 0 ∷ by_tool 0 ∷ by_tool 0 ∷ [];
}

seated_event_moves_replies : List Reply
seated_event_moves_replies = reply.Ok ∷ reply.Ok ∷ reply.Seats ((slot 0, 1) ∷ (slot 1, 0) ∷ []) ∷ reply.Why why.On ∷ []

seated_event_moves-answers : Answers seated_event_moves seated_event_moves_replies
unfolding Computed seated_event_moves seated_event_moves_replies
seated_event_moves-answers = computed seated_event_moves seated_event_moves_replies (refl, (refl, ((refl, refl), (refl, tt))))

shortest_beginning : Scripted
shortest_beginning = record {
  cpus = 1;
  pmus = pmu 2 1 ∷ [];
  kinds = kind_line (codes "a") 0 1 ∷ kind_line (codes "b") 0 2 ∷ [];
  tasks = [];
  rings = [];
  cpu_lines = eight [];
  tool_lines = four ((
      tool_line.Open (slot 0) (attr (kind.Hard 0) tasks.All (cpus.One (cpu 0)) 0 0 0 0) None ∷
      tool_line.Open (slot 5) (attr (kind.Hard 1) tasks.All (cpus.One (cpu 0)) 0 0 0 0) None ∷
      tool_line.Open (slot 1) (attr (kind.Hard 0) tasks.All (cpus.One (cpu 0)) 0 0 0 0) None ∷
      tool_line.Open (slot 2) (attr (kind.Hard 1) tasks.All (cpus.One (cpu 0)) 0 0 0 0) (Some (slot 1)) ∷
      tool_line.Why (slot 1) ∷
      tool_line.Why (slot 2) ∷
      []) ∷ []);
  readers = [];
  order = by_tool 0 ∷ by_tool 0 ∷ by_tool 0 ∷ by_tool 0 ∷ by_tool 0 ∷ by_tool 0 ∷ [];
}

shortest_beginning_replies : List Reply
shortest_beginning_replies = reply.Ok ∷ reply.Ok ∷ reply.Ok ∷ reply.Ok ∷ reply.Why (why.Refused (cause.Hall (slots (0 ∷ 1 ∷ [])))) ∷
    reply.Why (why.Refused (cause.Hall (slots (0 ∷ 1 ∷ [])))) ∷ []

shortest_beginning-answers : Answers shortest_beginning shortest_beginning_replies
unfolding Computed shortest_beginning shortest_beginning_replies
shortest_beginning-answers = computed shortest_beginning shortest_beginning_replies (refl, (refl, (refl, (refl, (refl, (refl, tt))))))
