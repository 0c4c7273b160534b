-- Worked cases, written by tools/maintain/script_terms.py from texts and their reports.
use Rattle.std.specs.Prelude.{false, List, [], ◌∷◌, Some, None, codes}
use Rattle.std.proofs.Common.{refl}
use Rattle.perf_base.specs.declared.attr.Kind.TheVariants as kind
use Rattle.perf_base.specs.declared.attr.TaskSel.TheVariants as tasks
use Rattle.perf_base.specs.declared.attr.CpuSel.TheVariants as cpus
use Rattle.perf_base.specs.declared.lines.Mode.TheVariants as mode
use Rattle.perf_base.specs.declared.lines.CpuLine.TheVariants as cpu_line
use Rattle.perf_base.specs.declared.lines.ToolLine.TheVariants as tool_line
use Rattle.perf_base.specs.declared.standing.Cause.TheVariants as cause
use Rattle.perf_base.specs.declared.standing.Why.TheVariants as why
use Rattle.perf_base.specs.declared.reasons.Reason.TheVariants as reason
use Rattle.perf_base.specs.declared.reply.Reply.{Reply}
use Rattle.perf_base.specs.declared.reply.Reply.TheVariants as reply
use Rattle.perf_base.specs.Scripts.{Scripted}
use Rattle.worked_theorems.proofs.answers.Words.{cpu, task, slot, slots, ring, by_cpu, by_tool, pmu, kind_line, attr, work, eight, four}
use Rattle.worked_theorems.proofs.answers.Answering.{Answers, Computed, computed}

bound_elsewhere : Scripted
bound_elsewhere = record {
  cpus = 2;
  pmus = pmu 1 3 ∷ [];
  kinds = kind_line (codes "a") 0 1 ∷ [];
  tasks = task 0 ∷ [];
  rings = [];
  cpu_lines = eight ([] ∷ (
      cpu_line.Switch (Some (task 0)) ∷
      cpu_line.Work (work 50 mode.User 0 (9 ∷ [])) ∷
      []) ∷ []);
  tool_lines = four ((
      tool_line.Open (slot 0) (attr (kind.Hard 0) (tasks.One (task 0)) (cpus.One (cpu 0)) 0 0 3 0) None ∷
      tool_line.Read (slot 0) None ∷
      tool_line.Why (slot 0) ∷
      []) ∷ []);
  readers = [];
  order = by_tool 0 ∷ by_cpu 1 ∷ by_cpu 1 ∷ by_tool 0 ∷ by_tool 0 ∷ [];
}

bound_elsewhere_replies : List Reply
bound_elsewhere_replies = reply.Ok ∷ reply.Ok ∷ reply.Ok ∷ reply.Read (0 ∷ 50 ∷ 0 ∷ []) ∷ reply.Why why.Away ∷ []

bound_elsewhere-answers : Answers bound_elsewhere bound_elsewhere_replies
unfolding Computed bound_elsewhere bound_elsewhere_replies
bound_elsewhere-answers = computed bound_elsewhere bound_elsewhere_replies (refl, (refl, (refl, (refl, (refl, tt)))))

close_takes_copies : Scripted
close_takes_copies = record {
  cpus = 1;
  pmus = pmu 1 1 ∷ [];
  kinds = kind_line (codes "a") 0 1 ∷ [];
  tasks = task 0 ∷ [];
  rings = [];
  cpu_lines = eight ((
      cpu_line.Switch (Some (task 0)) ∷
      cpu_line.Fork (task 1) ∷
      cpu_line.Switch (Some (task 1)) ∷
      []) ∷ []);
  tool_lines = four ((
      tool_line.Open (slot 0) (attr (kind.Hard 0) (tasks.One (task 0)) cpus.Any 0 0 0 2) None ∷
      tool_line.Open (slot 1) (attr (kind.Hard 0) (tasks.One (task 1)) cpus.Any 0 0 0 0) None ∷
      tool_line.Why (slot 1) ∷
      tool_line.Why (slot 0) ∷
      tool_line.Close (slot 0) ∷
      tool_line.Why (slot 1) ∷
      []) ∷ []);
  readers = [];
  order = by_tool 0 ∷ by_cpu 0 ∷ by_cpu 0 ∷ by_cpu 0 ∷ by_tool 0 ∷ by_tool 0 ∷ by_tool 0 ∷ by_tool 0 ∷ by_tool 0 ∷ [];
}

close_takes_copies_replies : List Reply
close_takes_copies_replies = reply.Ok ∷ reply.Ok ∷ reply.Ok ∷ reply.Ok ∷ reply.Ok ∷ reply.Why (why.Refused (cause.Hall (slots (0 ∷ 1 ∷ [])))) ∷
    reply.Why why.Away ∷ reply.Ok ∷ reply.Why why.On ∷ []

close_takes_copies-answers : Answers close_takes_copies close_takes_copies_replies
unfolding Computed close_takes_copies close_takes_copies_replies
close_takes_copies-answers = computed close_takes_copies close_takes_copies_replies (refl, (refl, (refl, (refl, (refl, (refl, (refl, (refl, (refl, tt)))))))))

command_refusals_in_order : Scripted
command_refusals_in_order = record {
  cpus = 1;
  pmus = pmu 1 1 ∷ [];
  kinds = kind_line (codes "a") 0 1 ∷ [];
  tasks = task 0 ∷ task 1 ∷ [];
  rings = (ring 0, 64) ∷ [];
  cpu_lines = eight ((
      cpu_line.Fork (task 0) ∷
      cpu_line.Switch (Some (task 9)) ∷
      []) ∷ []);
  tool_lines = four ((
      tool_line.Open (slot 0) (attr (kind.Hard 0) (tasks.One (task 0)) cpus.Any 0 0 0 0) None ∷
      tool_line.Open (slot 1) (attr (kind.Hard 0) (tasks.One (task 0)) cpus.Any 0 0 0 2) None ∷
      tool_line.Open (slot 2) (attr (kind.Hard 0) (tasks.One (task 0)) cpus.Any 0 0 0 0) None ∷
      tool_line.Open (slot 3) (attr (kind.Hard 0) (tasks.One (task 0)) cpus.Any 0 0 0 0) None ∷
      tool_line.Open (slot 4) (attr (kind.Hard 0) (tasks.One (task 1)) (cpus.One (cpu 0)) 0 0 0 0) None ∷
      tool_line.Open (slot 5) (attr (kind.Hard 0) (tasks.One (task 1)) cpus.Any 0 0 0 0) None ∷
      tool_line.Map (slot 0) (ring 0) ∷
      tool_line.Output (slot 1) (slot 0) ∷
      tool_line.Output (slot 2) (slot 0) ∷
      tool_line.Map (slot 9) (ring 0) ∷
      tool_line.Map (slot 1) (ring 0) ∷
      tool_line.Map (slot 2) (ring 0) ∷
      tool_line.Map (slot 3) (ring 0) ∷
      tool_line.Output (slot 9) (slot 9) ∷
      tool_line.Output (slot 0) (slot 0) ∷
      tool_line.Output (slot 0) (slot 4) ∷
      tool_line.Output (slot 0) (slot 5) ∷
      tool_line.Output (slot 0) (slot 3) ∷
      tool_line.Output (slot 2) (slot 3) ∷
      tool_line.Period (slot 9) 0 ∷
      tool_line.Period (slot 0) 0 ∷
      tool_line.Open (slot 6) (attr (kind.Hard 0) (tasks.One (task 0)) cpus.Any 7 0 0 0) None ∷
      tool_line.Period (slot 6) 0 ∷
      tool_line.Period (slot 6) 9223372036854775808 ∷
      tool_line.Read (slot 9) (Some 0) ∷
      tool_line.Read (slot 0) (Some 7) ∷
      tool_line.Read (slot 0) (Some 8) ∷
      []) ∷ []);
  readers = [];
  order = by_cpu 0 ∷ by_cpu 0 ∷ by_tool 0 ∷ by_tool 0 ∷ by_tool 0 ∷ by_tool 0 ∷ by_tool 0 ∷ by_tool 0 ∷ by_tool 0 ∷ by_tool 0 ∷ by_tool 0 ∷
      by_tool 0 ∷ by_tool 0 ∷ by_tool 0 ∷ by_tool 0 ∷ by_tool 0 ∷ by_tool 0 ∷ by_tool 0 ∷ by_tool 0 ∷ by_tool 0 ∷ by_tool 0 ∷ by_tool 0 ∷ by_tool 0 ∷
      by_tool 0 ∷ by_tool 0 ∷ by_tool 0 ∷ by_tool 0 ∷ by_tool 0 ∷ by_tool 0 ∷ [];
}

command_refusals_in_order_replies : List Reply
command_refusals_in_order_replies = reply.Refused reason.Idle ∷ reply.Refused reason.NoTask ∷ reply.Ok ∷ reply.Ok ∷ reply.Ok ∷ reply.Ok ∷ reply.Ok ∷
    reply.Ok ∷ reply.Ok ∷ reply.Ok ∷ reply.Ok ∷ reply.Refused reason.NoEvent ∷ reply.Refused reason.Inherit ∷ reply.Refused reason.HasRing ∷
    reply.Refused reason.Busy ∷ reply.Refused reason.NoEvent ∷ reply.Refused reason.SameEvent ∷ reply.Refused reason.OtherCpu ∷
    reply.Refused reason.OtherContext ∷ reply.Refused reason.HasRing ∷ reply.Refused reason.NoRing ∷ reply.Refused reason.NoEvent ∷
    reply.Refused reason.NotSampling ∷ reply.Ok ∷ reply.Refused reason.ZeroPeriod ∷ reply.Refused reason.ZeroPeriod ∷ reply.Refused reason.NoEvent ∷
    reply.Refused reason.NoSpace ∷ reply.Read (0 ∷ []) ∷ []

command_refusals_in_order-answers : Answers command_refusals_in_order command_refusals_in_order_replies
unfolding Computed command_refusals_in_order command_refusals_in_order_replies
command_refusals_in_order-answers = computed command_refusals_in_order command_refusals_in_order_replies (refl, (refl, (refl, (refl, (refl, (refl, (refl, (refl, (refl, (refl, (refl, (refl, (refl, (refl, (refl, (refl, (refl, (refl, (refl, (refl, (refl, (refl, (refl, (refl, (refl, (refl, (refl, (refl, (refl, tt)))))))))))))))))))))))))))))

commands_reach_copies : Scripted
commands_reach_copies = record {
  cpus = 1;
  pmus = pmu 1 1 ∷ [];
  kinds = kind_line (codes "a") 0 1 ∷ [];
  tasks = task 0 ∷ [];
  rings = [];
  cpu_lines = eight ((
      cpu_line.Switch (Some (task 0)) ∷
      cpu_line.Fork (task 1) ∷
      cpu_line.Switch (Some (task 1)) ∷
      cpu_line.Work (work 10 mode.User 0 (3 ∷ [])) ∷
      cpu_line.Work (work 20 mode.User 0 (5 ∷ [])) ∷
      cpu_line.Work (work 40 mode.User 0 (7 ∷ [])) ∷
      cpu_line.Work (work 80 mode.User 0 (11 ∷ [])) ∷
      cpu_line.Exit ∷
      []) ∷ []);
  tool_lines = four ((
      tool_line.Open (slot 0) (attr (kind.Hard 0) (tasks.One (task 0)) cpus.Any 0 0 3 3) None ∷
      tool_line.Read (slot 0) None ∷
      tool_line.Enable (slot 0) false ∷
      tool_line.Read (slot 0) None ∷
      tool_line.Reset (slot 0) false ∷
      tool_line.Read (slot 0) None ∷
      tool_line.Disable (slot 0) false ∷
      tool_line.Read (slot 0) None ∷
      tool_line.Enable (slot 0) false ∷
      tool_line.Read (slot 0) None ∷
      tool_line.Reset (slot 0) false ∷
      tool_line.Read (slot 0) None ∷
      []) ∷ []);
  readers = [];
  order = by_tool 0 ∷ by_cpu 0 ∷ by_cpu 0 ∷ by_cpu 0 ∷ by_cpu 0 ∷ by_tool 0 ∷ by_tool 0 ∷ by_cpu 0 ∷ by_tool 0 ∷ by_tool 0 ∷ by_tool 0 ∷ by_cpu 0 ∷
      by_tool 0 ∷ by_tool 0 ∷ by_cpu 0 ∷ by_tool 0 ∷ by_cpu 0 ∷ by_tool 0 ∷ by_tool 0 ∷ by_tool 0 ∷ [];
}

commands_reach_copies_replies : List Reply
commands_reach_copies_replies = reply.Ok ∷ reply.Ok ∷ reply.Ok ∷ reply.Ok ∷ reply.Ok ∷ reply.Read (0 ∷ 0 ∷ 0 ∷ []) ∷ reply.Ok ∷ reply.Ok ∷
    reply.Read (5 ∷ 20 ∷ 20 ∷ []) ∷ reply.Ok ∷ reply.Read (0 ∷ 20 ∷ 20 ∷ []) ∷ reply.Ok ∷ reply.Ok ∷ reply.Read (7 ∷ 60 ∷ 60 ∷ []) ∷ reply.Ok ∷
    reply.Ok ∷ reply.Ok ∷ reply.Read (7 ∷ 60 ∷ 60 ∷ []) ∷ reply.Ok ∷ reply.Read (7 ∷ 60 ∷ 60 ∷ []) ∷ []

commands_reach_copies-answers : Answers commands_reach_copies commands_reach_copies_replies
unfolding Computed commands_reach_copies commands_reach_copies_replies
commands_reach_copies-answers = computed commands_reach_copies commands_reach_copies_replies (refl, (refl, (refl, (refl, (refl, (refl, (refl, (refl, (refl, (refl, (refl, (refl, (refl, (refl, (refl, (refl, (refl, (refl, (refl, (refl, tt))))))))))))))))))))
