-- Worked cases, written by tools/maintain/script_terms.py from texts and their reports.
use Rattle.std.specs.Prelude.{true, false, List, [], ◌∷◌, Some, None, codes}
use Rattle.std.proofs.Common.{refl}
use Rattle.perf_base.specs.declared.attr.Kind.TheVariants as kind
use Rattle.perf_base.specs.declared.attr.TaskSel.TheVariants as tasks
use Rattle.perf_base.specs.declared.attr.CpuSel.TheVariants as cpus
use Rattle.perf_base.specs.declared.lines.Mode.TheVariants as mode
use Rattle.perf_base.specs.declared.lines.CpuLine.TheVariants as cpu_line
use Rattle.perf_base.specs.declared.lines.ToolLine.TheVariants as tool_line
use Rattle.perf_base.specs.declared.standing.Rule.TheVariants as rule
use Rattle.perf_base.specs.declared.standing.Cause.TheVariants as cause
use Rattle.perf_base.specs.declared.standing.Why.TheVariants as why
use Rattle.perf_base.specs.declared.reasons.Reason.TheVariants as reason
use Rattle.perf_base.specs.declared.reply.Reply.{Reply}
use Rattle.perf_base.specs.declared.reply.Reply.TheVariants as reply
use Rattle.perf_base.specs.Scripts.{Scripted}
use Rattle.worked_theorems.proofs.answers.Words.{cpu, task, slot, slots, by_cpu, by_tool, pmu, kind_line, attr, work, eight, four}
use Rattle.worked_theorems.proofs.answers.Answering.{Answers, Computed, computed}

commands_035 : Scripted
commands_035 = record {
  cpus = 1;
  pmus = pmu 8 1 ∷ [];
  kinds = kind_line (codes "vnb5h") 0 242 ∷ kind_line (codes "t7w2wl0lybbvz9ckk9a76bjiqj-r1hz") 0 128 ∷ [];
  tasks = task 4 ∷ task 11 ∷ task 16 ∷ task 53 ∷ [];
  rings = [];
  cpu_lines = eight ((
      cpu_line.Work (work 1 mode.User 4196981 (7 ∷ 7 ∷ [])) ∷
      cpu_line.Switch (Some (task 16)) ∷
      []) ∷ []);
  tool_lines = four ((
      tool_line.Why (slot 0) ∷
      tool_line.Read (slot 2) None ∷
      tool_line.Seats (cpu 0) ∷
      []) ∷ (
      tool_line.Open (slot 0) (attr (kind.Hard 0) (tasks.One (task 16)) (cpus.One (cpu 0)) 7 513 11 38) None ∷
      tool_line.Enable (slot 0) false ∷
      tool_line.Open (slot 1) (attr (kind.Hard 0) (tasks.One (task 16)) (cpus.One (cpu 0)) 7 1 16 2) (Some (slot 0)) ∷
      tool_line.Read (slot 1) None ∷
      []) ∷ (
      tool_line.Open (slot 2) (attr (kind.Hard 0) (tasks.One (task 16)) cpus.Any 42 384 26 10) None ∷
      tool_line.Read (slot 0) None ∷
      tool_line.Why (slot 1) ∷
      tool_line.Why (slot 2) ∷
      []) ∷ []);
  readers = [];
  order = by_tool 1 ∷ by_tool 1 ∷ by_tool 1 ∷ by_cpu 0 ∷ by_tool 1 ∷ by_tool 2 ∷ by_cpu 0 ∷ by_tool 2 ∷ by_tool 0 ∷ by_tool 2 ∷ by_tool 0 ∷
      by_tool 2 ∷ by_tool 0 ∷ [];
}

commands_035_replies : List Reply
commands_035_replies = reply.Ok ∷ reply.Ok ∷ reply.Ok ∷ reply.Ok ∷ reply.Read (0 ∷ 0 ∷ []) ∷ reply.Ok ∷ reply.Ok ∷
    reply.Read (2 ∷ 0 ∷ 0 ∷ 0 ∷ 0 ∷ []) ∷ reply.Why why.On ∷ reply.Why why.On ∷ reply.Read (1 ∷ 0 ∷ 0 ∷ 0 ∷ []) ∷
    reply.Why (why.Refused (cause.Rule (rule.ExclusiveSelf (slot 0)))) ∷ reply.Seats ((slot 0, 4) ∷ (slot 1, 1) ∷ []) ∷ []

commands_035-answers : Answers commands_035 commands_035_replies
unfolding Computed commands_035 commands_035_replies
commands_035-answers = computed commands_035 commands_035_replies (refl, (refl, (refl, (refl, (refl, (refl, (refl, (refl, (refl, (refl, (refl, (refl, ((refl, refl), tt)))))))))))))

commands_036 : Scripted
commands_036 = record {
  cpus = 2;
  pmus = pmu 1 3 ∷ [];
  kinds = kind_line (codes "order") 0 1 ∷ kind_line (codes "a") 0 1 ∷ [];
  tasks = task 0 ∷ [];
  rings = [];
  cpu_lines = eight ((
      cpu_line.Switch (Some (task 0)) ∷
      cpu_line.Work (work 1 mode.User 4197615 (0 ∷ 0 ∷ [])) ∷
      cpu_line.Fork (task 52) ∷
      cpu_line.Exit ∷
      cpu_line.Work (work 1 mode.Kernel 0 (0 ∷ 0 ∷ [])) ∷
      cpu_line.Switch (Some (task 52)) ∷
      []) ∷ (
      cpu_line.Work (work 869504562 mode.User 4196229 (0 ∷ 0 ∷ [])) ∷
      cpu_line.Work (work 1 mode.User 4197214 (0 ∷ 0 ∷ [])) ∷
      []) ∷ []);
  tool_lines = four ((
      tool_line.Open (slot 0) (attr (kind.Hard 0) tasks.All (cpus.One (cpu 0)) 1 582 29 2) (Some (slot 60)) ∷
      tool_line.Open (slot 0) (attr (kind.Hard 1) tasks.All (cpus.One (cpu 0)) 0 644 14 2) None ∷
      []) ∷ (
      tool_line.Open (slot 60) (attr (kind.Hard 0) tasks.All (cpus.One (cpu 0)) 1 260 27 2) None ∷
      tool_line.Read (slot 0) None ∷
      tool_line.Why (slot 60) ∷
      []) ∷ (
      tool_line.Why (slot 60) ∷
      tool_line.Why (slot 0) ∷
      []) ∷ (
      tool_line.Read (slot 60) None ∷
      []) ∷ []);
  readers = [];
  order = by_cpu 0 ∷ by_cpu 1 ∷ by_tool 1 ∷ by_cpu 0 ∷ by_cpu 0 ∷ by_tool 0 ∷ by_cpu 0 ∷ by_tool 2 ∷ by_cpu 0 ∷ by_cpu 0 ∷ by_cpu 1 ∷ by_tool 0 ∷
      by_tool 1 ∷ by_tool 2 ∷ by_tool 3 ∷ by_tool 1 ∷ [];
}

commands_036_replies : List Reply
commands_036_replies = reply.Ok ∷ reply.Ok ∷ reply.Ok ∷ reply.Ok ∷ reply.Ok ∷ reply.Refused (reason.NoAssignment (slots (60 ∷ 0 ∷ []))) ∷ reply.Ok ∷
    reply.Why why.On ∷ reply.Ok ∷ reply.Ok ∷ reply.Ok ∷ reply.Ok ∷ reply.Read (1 ∷ 0 ∷ 0 ∷ 2 ∷ []) ∷
    reply.Why (why.Refused (cause.Hall (slots (60 ∷ 0 ∷ [])))) ∷ reply.Read (1 ∷ 2 ∷ 2 ∷ 0 ∷ 0 ∷ []) ∷ reply.Why why.On ∷ []

commands_036-answers : Answers commands_036 commands_036_replies
unfolding Computed commands_036 commands_036_replies
commands_036-answers = computed commands_036 commands_036_replies (refl, (refl, (refl, (refl, (refl, (refl, (refl, (refl, (refl, (refl, (refl, (refl, (refl, (refl, (refl, (refl, tt))))))))))))))))

commands_037 : Scripted
commands_037 = record {
  cpus = 1;
  pmus = pmu 3 1 ∷ [];
  kinds = kind_line (codes "dummy-2") 0 7 ∷ kind_line (codes "branch-misses") 0 7 ∷ kind_line (codes "misses") 0 1 ∷ [];
  tasks = task 0 ∷ task 1 ∷ task 2 ∷ task 3 ∷ [];
  rings = [];
  cpu_lines = eight ((
      cpu_line.Switch (Some (task 0)) ∷
      cpu_line.Tick ∷
      cpu_line.Work (work 20 mode.User 4196310 (0 ∷ 2 ∷ 0 ∷ [])) ∷
      cpu_line.Tick ∷
      cpu_line.Switch (Some (task 0)) ∷
      cpu_line.Work (work 12 mode.Kernel 4194466 (0 ∷ 2 ∷ 0 ∷ [])) ∷
      cpu_line.Fork (task 32) ∷
      cpu_line.Fork (task 4) ∷
      []) ∷ []);
  tool_lines = four ((
      tool_line.Read (slot 251) None ∷
      []) ∷ (
      tool_line.Read (slot 226) None ∷
      tool_line.Read (slot 0) None ∷
      tool_line.Close (slot 1) ∷
      tool_line.Open (slot 2) (attr (kind.Hard 0) (tasks.One (task 0)) cpus.Any 8 1 3 2) None ∷
      []) ∷ (
      tool_line.Open (slot 0) (attr (kind.Hard 2) (tasks.One (task 0)) cpus.Any 2 66049 41 0) None ∷
      tool_line.Open (slot 0) (attr kind.Dummy (tasks.One (task 0)) (cpus.One (cpu 0)) 0 257 8 0) None ∷
      tool_line.Open (slot 1) (attr (kind.Hard 0) (tasks.One (task 0)) cpus.Any 2 257 29 0) None ∷
      []) ∷ []);
  readers = [];
  order = by_tool 2 ∷ by_tool 2 ∷ by_tool 1 ∷ by_cpu 0 ∷ by_cpu 0 ∷ by_tool 1 ∷ by_cpu 0 ∷ by_tool 0 ∷ by_cpu 0 ∷ by_cpu 0 ∷ by_cpu 0 ∷ by_tool 2 ∷
      by_cpu 0 ∷ by_tool 1 ∷ by_tool 1 ∷ by_cpu 0 ∷ [];
}

commands_037_replies : List Reply
commands_037_replies = reply.Refused reason.BadFormatBits ∷ reply.Ok ∷ reply.Refused reason.NoEvent ∷ reply.Ok ∷ reply.Ok ∷ reply.Read (1 ∷ 0 ∷ []) ∷
    reply.Ok ∷ reply.Refused reason.NoEvent ∷ reply.Ok ∷ reply.Ok ∷ reply.Ok ∷ reply.Ok ∷ reply.Ok ∷ reply.Ok ∷ reply.Ok ∷ reply.Ok ∷ []

commands_037-answers : Answers commands_037 commands_037_replies
unfolding Computed commands_037 commands_037_replies
commands_037-answers = computed commands_037 commands_037_replies (refl, (refl, (refl, (refl, (refl, (refl, (refl, (refl, (refl, (refl, (refl, (refl, (refl, (refl, (refl, (refl, tt))))))))))))))))

commands_038 : Scripted
commands_038 = record {
  cpus = 2;
  pmus = pmu 2 3 ∷ [];
  kinds = kind_line (codes "p0") 0 3 ∷ kind_line (codes "a") 0 1 ∷ [];
  tasks = task 0 ∷ [];
  rings = [];
  cpu_lines = eight ((
      cpu_line.Switch (Some (task 0)) ∷
      cpu_line.Switch (Some (task 0)) ∷
      cpu_line.Tick ∷
      []) ∷ (
      cpu_line.Tick ∷
      []) ∷ []);
  tool_lines = four ((
      tool_line.Open (slot 0) (attr (kind.Hard 1) (tasks.One (task 0)) (cpus.One (cpu 1)) 1 5 24 0) None ∷
      tool_line.Open (slot 1) (attr (kind.Hard 0) (tasks.One (task 0)) (cpus.One (cpu 1)) 1 65 3 0) (Some (slot 0)) ∷
      tool_line.Enable (slot 0) true ∷
      tool_line.Enable (slot 169) false ∷
      tool_line.Read (slot 149) (Some 184) ∷
      tool_line.Read (slot 0) None ∷
      tool_line.Why (slot 0) ∷
      tool_line.Read (slot 1) None ∷
      tool_line.Seats (cpu 0) ∷
      tool_line.Seats (cpu 1) ∷
      []) ∷ []);
  readers = [];
  order = by_tool 0 ∷ by_tool 0 ∷ by_cpu 0 ∷ by_cpu 0 ∷ by_cpu 1 ∷ by_cpu 0 ∷ by_tool 0 ∷ by_tool 0 ∷ by_tool 0 ∷ by_tool 0 ∷ by_tool 0 ∷ by_tool 0 ∷
      by_tool 0 ∷ by_tool 0 ∷ [];
}

commands_038_replies : List Reply
commands_038_replies = reply.Ok ∷ reply.Ok ∷ reply.Ok ∷ reply.Ok ∷ reply.Ok ∷ reply.Ok ∷ reply.Ok ∷ reply.Refused reason.NoEvent ∷
    reply.Refused reason.NoEvent ∷ reply.Read (2 ∷ 0 ∷ 0 ∷ 0 ∷ 0 ∷ []) ∷ reply.Why why.Away ∷ reply.Read (0 ∷ 0 ∷ 0 ∷ []) ∷ reply.Seats [] ∷
    reply.Seats [] ∷ []

commands_038-answers : Answers commands_038 commands_038_replies
unfolding Computed commands_038 commands_038_replies
commands_038-answers = computed commands_038 commands_038_replies (refl, (refl, (refl, (refl, (refl, (refl, (refl, (refl, (refl, (refl, (refl, (refl, ((refl, refl), ((refl, refl), tt))))))))))))))
