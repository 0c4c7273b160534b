-- Worked cases, written by tools/maintain/script_terms.py from texts and their reports.
use Rattle.std.specs.Prelude.{List, [], ◌∷◌, Some, None, codes}
use Rattle.std.proofs.Common.{refl}
use Rattle.perf_base.specs.declared.attr.Kind.TheVariants as kind
use Rattle.perf_base.specs.declared.attr.TaskSel.TheVariants as tasks
use Rattle.perf_base.specs.declared.attr.CpuSel.TheVariants as cpus
use Rattle.perf_base.specs.declared.lines.Mode.TheVariants as mode
use Rattle.perf_base.specs.declared.lines.CpuLine.TheVariants as cpu_line
use Rattle.perf_base.specs.declared.lines.ToolLine.TheVariants as tool_line
use Rattle.perf_base.specs.declared.standing.Cause.TheVariants as cause
use Rattle.perf_base.specs.declared.standing.Why.TheVariants as why
use Rattle.perf_base.specs.declared.reasons.Reason.TheVariants as reason
use Rattle.perf_base.specs.declared.reply.Reply.{Reply}
use Rattle.perf_base.specs.declared.reply.Reply.TheVariants as reply
use Rattle.perf_base.specs.Scripts.{Scripted}
use Rattle.worked_theorems.proofs.answers.Words.{cpu, task, slot, slots, by_cpu, by_tool, pmu, kind_line, attr, work, eight, four}
use Rattle.worked_theorems.proofs.answers.Answering.{Answers, Computed, computed}

counting_037 : Scripted
counting_037 = record {
  cpus = 2;
  pmus = pmu 1 3 ∷ [];
  kinds = kind_line (codes "order") 0 1 ∷ kind_line (codes "a") 0 1 ∷ [];
  tasks = task 0 ∷ [];
  rings = [];
  cpu_lines = eight ((
      cpu_line.Switch (Some (task 0)) ∷
      cpu_line.Work (work 1 mode.User 4197615 (0 ∷ 0 ∷ [])) ∷
      cpu_line.Work (work 1 mode.Kernel 0 (0 ∷ 0 ∷ [])) ∷
      cpu_line.Switch (Some (task 52)) ∷
      []) ∷ (
      cpu_line.Work (work 869504562 mode.User 4196229 (0 ∷ 0 ∷ [])) ∷
      cpu_line.Work (work 1 mode.User 4197214 (0 ∷ 0 ∷ [])) ∷
      []) ∷ []);
  tool_lines = four ((
      tool_line.Open (slot 0) (attr (kind.Hard 0) tasks.All (cpus.One (cpu 0)) 1 582 29 2) (Some (slot 60)) ∷
      tool_line.Open (slot 0) (attr (kind.Hard 1) tasks.All (cpus.One (cpu 0)) 0 644 14 2) None ∷
      []) ∷ (
      tool_line.Open (slot 60) (attr (kind.Hard 0) tasks.All (cpus.One (cpu 0)) 1 260 27 2) None ∷
      tool_line.Read (slot 0) None ∷
      tool_line.Why (slot 60) ∷
      []) ∷ (
      tool_line.Why (slot 60) ∷
      tool_line.Why (slot 0) ∷
      []) ∷ (
      tool_line.Read (slot 60) None ∷
      []) ∷ []);
  readers = [];
  order = by_cpu 0 ∷ by_cpu 1 ∷ by_tool 1 ∷ by_cpu 0 ∷ by_tool 0 ∷ by_tool 2 ∷ by_cpu 0 ∷ by_cpu 0 ∷ by_cpu 1 ∷ by_tool 0 ∷ by_tool 1 ∷ by_tool 2 ∷
      by_tool 3 ∷ by_tool 1 ∷ [];
}

counting_037_replies : List Reply
counting_037_replies = reply.Ok ∷ reply.Ok ∷ reply.Ok ∷ reply.Ok ∷ reply.Refused (reason.NoAssignment (slots (60 ∷ 0 ∷ []))) ∷ reply.Why why.On ∷
    reply.Ok ∷ reply.Refused reason.NoTask ∷ reply.Ok ∷ reply.Ok ∷ reply.Read (1 ∷ 0 ∷ 0 ∷ 2 ∷ []) ∷
    reply.Why (why.Refused (cause.Hall (slots (60 ∷ 0 ∷ [])))) ∷ reply.Read (1 ∷ 2 ∷ 2 ∷ 0 ∷ 0 ∷ []) ∷ reply.Why why.On ∷ []

counting_037-answers : Answers counting_037 counting_037_replies
unfolding Computed counting_037 counting_037_replies
counting_037-answers = computed counting_037 counting_037_replies (refl, (refl, (refl, (refl, (refl, (refl, (refl, (refl, (refl, (refl, (refl, (refl, (refl, (refl, tt))))))))))))))

counting_039 : Scripted
counting_039 = record {
  cpus = 2;
  pmus = pmu 8 3 ∷ [];
  kinds = kind_line (codes "dk4ei3ty4") 0 255 ∷ [];
  tasks = task 55 ∷ [];
  rings = [];
  cpu_lines = eight ((
      cpu_line.Switch (Some (task 55)) ∷
      []) ∷ (
      cpu_line.Tick ∷
      cpu_line.Work (work 1 mode.User 0 (5 ∷ [])) ∷
      []) ∷ []);
  tool_lines = four ((
      tool_line.Open (slot 2) (attr (kind.Hard 0) (tasks.One (task 55)) cpus.Any 40 66180 6 48) None ∷
      tool_line.Seats (cpu 0) ∷
      tool_line.Open (slot 248) (attr (kind.Hard 0) tasks.All (cpus.One (cpu 0)) 5 4 25 36) None ∷
      tool_line.Read (slot 0) (Some 200) ∷
      tool_line.Why (slot 0) ∷
      tool_line.Read (slot 1) None ∷
      tool_line.Read (slot 2) None ∷
      tool_line.Why (slot 248) ∷
      []) ∷ (
      tool_line.Open (slot 0) (attr (kind.Hard 0) (tasks.One (task 55)) cpus.Any 5 4 19 20) None ∷
      tool_line.Open (slot 1) (attr (kind.Hard 0) tasks.All (cpus.One (cpu 1)) 0 65538 15 0) None ∷
      tool_line.Seats (cpu 0) ∷
      []) ∷ []);
  readers = [];
  order = by_tool 1 ∷ by_tool 1 ∷ by_tool 0 ∷ by_cpu 0 ∷ by_tool 0 ∷ by_tool 1 ∷ by_tool 0 ∷ by_cpu 1 ∷ by_tool 0 ∷ by_cpu 1 ∷ by_tool 0 ∷
      by_tool 0 ∷ by_tool 0 ∷ by_tool 0 ∷ [];
}

counting_039_replies : List Reply
counting_039_replies = reply.Ok ∷ reply.Ok ∷ reply.Ok ∷ reply.Ok ∷ reply.Seats ((slot 0, 1) ∷ (slot 2, 0) ∷ []) ∷
    reply.Seats ((slot 0, 1) ∷ (slot 2, 0) ∷ []) ∷ reply.Ok ∷ reply.Ok ∷ reply.Read (0 ∷ 0 ∷ 0 ∷ 0 ∷ []) ∷ reply.Ok ∷ reply.Why why.On ∷
    reply.Read (1 ∷ 1 ∷ 1 ∷ 5 ∷ 2 ∷ []) ∷ reply.Read (0 ∷ 0 ∷ 3 ∷ []) ∷ reply.Why why.On ∷ []

counting_039-answers : Answers counting_039 counting_039_replies
unfolding Computed counting_039 counting_039_replies
counting_039-answers = computed counting_039 counting_039_replies (refl, (refl, (refl, (refl, ((refl, refl), ((refl, refl), (refl, (refl, (refl, (refl, (refl, (refl, (refl, (refl, tt))))))))))))))

counting_040 : Scripted
counting_040 = record {
  cpus = 2;
  pmus = pmu 8 3 ∷ [];
  kinds = kind_line (codes "instructions") 0 128 ∷ [];
  tasks = task 0 ∷ task 1 ∷ task 2 ∷ task 3 ∷ [];
  rings = [];
  cpu_lines = eight ((
      cpu_line.Work (work 19 mode.User 4195142 (0 ∷ [])) ∷
      []) ∷ (
      cpu_line.Tick ∷
      cpu_line.Switch (Some (task 3)) ∷
      cpu_line.Tick ∷
      []) ∷ []);
  tool_lines = four ((
      tool_line.Open (slot 0) (attr (kind.Hard 0) (tasks.One (task 3)) cpus.Any 0 65728 1 2) None ∷
      tool_line.Why (slot 0) ∷
      tool_line.Open (slot 105) (attr (kind.Hard 0) (tasks.One (task 3)) cpus.Any 3 65536 15 2) (Some (slot 0)) ∷
      tool_line.Read (slot 0) (Some 18446744073709551615) ∷
      tool_line.Open (slot 1) (attr (kind.Hard 0) tasks.All (cpus.One (cpu 0)) 0 0 13 3) None ∷
      tool_line.Read (slot 1) (Some 24) ∷
      tool_line.Open (slot 2) (attr kind.Dummy (tasks.One (task 1)) (cpus.One (cpu 1)) 0 578 3 35) None ∷
      tool_line.Why (slot 0) ∷
      tool_line.Why (slot 1) ∷
      tool_line.Open (slot 3) (attr kind.ContextSwitches tasks.All (cpus.One (cpu 0)) 0 134 3 1) None ∷
      []) ∷ []);
  readers = [];
  order = by_tool 0 ∷ by_tool 0 ∷ by_tool 0 ∷ by_cpu 1 ∷ by_cpu 1 ∷ by_tool 0 ∷ by_cpu 1 ∷ by_tool 0 ∷ by_cpu 0 ∷ by_tool 0 ∷ by_tool 0 ∷ by_tool 0 ∷
      by_tool 0 ∷ by_tool 0 ∷ [];
}

counting_040_replies : List Reply
counting_040_replies = reply.Ok ∷ reply.Why why.Away ∷ reply.Refused (reason.NoAssignment (slots (0 ∷ 105 ∷ []))) ∷ reply.Ok ∷ reply.Ok ∷
    reply.Read (0 ∷ 0 ∷ []) ∷ reply.Ok ∷ reply.Ok ∷ reply.Ok ∷ reply.Refused reason.NoSpace ∷ reply.Ok ∷ reply.Why why.On ∷ reply.Why why.Off ∷
    reply.Ok ∷ []

counting_040-answers : Answers counting_040 counting_040_replies
unfolding Computed counting_040 counting_040_replies
counting_040-answers = computed counting_040 counting_040_replies (refl, (refl, (refl, (refl, (refl, (refl, (refl, (refl, (refl, (refl, (refl, (refl, (refl, (refl, tt))))))))))))))
