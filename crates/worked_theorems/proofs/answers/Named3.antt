-- Worked cases, written by tools/maintain/script_terms.py from texts and their reports.
use Rattle.std.specs.Prelude.{false, List, [], ◌∷◌, Some, None, codes}
use Rattle.std.proofs.Common.{refl}
use Rattle.perf_base.specs.declared.attr.Kind.TheVariants as kind
use Rattle.perf_base.specs.declared.attr.TaskSel.TheVariants as tasks
use Rattle.perf_base.specs.declared.attr.CpuSel.TheVariants as cpus
use Rattle.perf_base.specs.declared.lines.Mode.TheVariants as mode
use Rattle.perf_base.specs.declared.lines.CpuLine.TheVariants as cpu_line
use Rattle.perf_base.specs.declared.lines.ToolLine.TheVariants as tool_line
use Rattle.perf_base.specs.declared.standing.Rule.TheVariants as rule
use Rattle.perf_base.specs.declared.standing.Cause.TheVariants as cause
use Rattle.perf_base.specs.declared.standing.Why.TheVariants as why
use Rattle.perf_base.specs.declared.reasons.Reason.TheVariants as reason
use Rattle.perf_base.specs.declared.reply.Reply.{Reply}
use Rattle.perf_base.specs.declared.reply.Reply.TheVariants as reply
use Rattle.perf_base.specs.Scripts.{Scripted}
use Rattle.worked_theorems.proofs.answers.Words.{cpu, task, slot, slots, by_cpu, by_tool, pmu, kind_line, attr, work, eight, four}
use Rattle.worked_theorems.proofs.answers.Answering.{Answers, Computed, computed}

copy_of_copy : Scripted
copy_of_copy = record {
  cpus = 1;
  pmus = pmu 1 1 ∷ [];
  kinds = kind_line (codes "a") 0 1 ∷ [];
  tasks = task 0 ∷ [];
  rings = [];
  cpu_lines = eight ((
      cpu_line.Switch (Some (task 0)) ∷
      cpu_line.Fork (task 1) ∷
      cpu_line.Switch (Some (task 1)) ∷
      cpu_line.Fork (task 2) ∷
      cpu_line.Work (work 2 mode.User 0 (3 ∷ [])) ∷
      cpu_line.Switch (Some (task 2)) ∷
      cpu_line.Work (work 4 mode.User 0 (5 ∷ [])) ∷
      cpu_line.Fork (task 1) ∷
      cpu_line.Switch None ∷
      cpu_line.Exit ∷
      []) ∷ []);
  tool_lines = four ((
      tool_line.Open (slot 0) (attr (kind.Hard 0) (tasks.One (task 0)) cpus.Any 0 0 3 2) None ∷
      tool_line.Read (slot 0) None ∷
      tool_line.Close (slot 0) ∷
      tool_line.Read (slot 0) None ∷
      []) ∷ []);
  readers = [];
  order = by_tool 0 ∷ by_cpu 0 ∷ by_cpu 0 ∷ by_cpu 0 ∷ by_cpu 0 ∷ by_cpu 0 ∷ by_cpu 0 ∷ by_cpu 0 ∷ by_cpu 0 ∷ by_cpu 0 ∷ by_cpu 0 ∷ by_tool 0 ∷
      by_tool 0 ∷ by_tool 0 ∷ [];
}

copy_of_copy_replies : List Reply
copy_of_copy_replies = reply.Ok ∷ reply.Ok ∷ reply.Ok ∷ reply.Ok ∷ reply.Ok ∷ reply.Ok ∷ reply.Ok ∷ reply.Ok ∷ reply.Refused reason.Exists ∷
    reply.Ok ∷ reply.Refused reason.Idle ∷ reply.Read (8 ∷ 6 ∷ 6 ∷ []) ∷ reply.Ok ∷ reply.Refused reason.NoEvent ∷ []

copy_of_copy-answers : Answers copy_of_copy copy_of_copy_replies
unfolding Computed copy_of_copy copy_of_copy_replies
copy_of_copy-answers = computed copy_of_copy copy_of_copy_replies (refl, (refl, (refl, (refl, (refl, (refl, (refl, (refl, (refl, (refl, (refl, (refl, (refl, (refl, tt))))))))))))))

disable_clears_error : Scripted
disable_clears_error = record {
  cpus = 1;
  pmus = pmu 1 1 ∷ [];
  kinds = kind_line (codes "a") 0 1 ∷ [];
  tasks = [];
  rings = [];
  cpu_lines = eight [];
  tool_lines = four ((
      tool_line.Open (slot 0) (attr (kind.Hard 0) tasks.All (cpus.One (cpu 0)) 0 0 0 4) None ∷
      tool_line.Open (slot 1) (attr (kind.Hard 0) tasks.All (cpus.One (cpu 0)) 0 0 0 4) None ∷
      tool_line.Why (slot 1) ∷
      tool_line.Disable (slot 1) false ∷
      tool_line.Why (slot 1) ∷
      tool_line.Read (slot 1) None ∷
      tool_line.Close (slot 0) ∷
      tool_line.Why (slot 1) ∷
      []) ∷ []);
  readers = [];
  order = by_tool 0 ∷ by_tool 0 ∷ by_tool 0 ∷ by_tool 0 ∷ by_tool 0 ∷ by_tool 0 ∷ by_tool 0 ∷ by_tool 0 ∷ [];
}

disable_clears_error_replies : List Reply
disable_clears_error_replies = reply.Ok ∷ reply.Ok ∷ reply.Why (why.Failed (cause.Hall (slots (0 ∷ 1 ∷ [])))) ∷ reply.Ok ∷ reply.Why why.Off ∷
    reply.Read (0 ∷ []) ∷ reply.Ok ∷ reply.Why why.Off ∷ []

disable_clears_error-answers : Answers disable_clears_error disable_clears_error_replies
unfolding Computed disable_clears_error disable_clears_error_replies
disable_clears_error-answers = computed disable_clears_error disable_clears_error_replies (refl, (refl, (refl, (refl, (refl, (refl, (refl, (refl, tt))))))))

earlier_refusal : Scripted
earlier_refusal = record {
  cpus = 1;
  pmus = pmu 2 1 ∷ [];
  kinds = kind_line (codes "a") 0 1 ∷ kind_line (codes "b") 0 2 ∷ [];
  tasks = [];
  rings = [];
  cpu_lines = eight [];
  tool_lines = four ((
      tool_line.Open (slot 0) (attr (kind.Hard 0) tasks.All (cpus.One (cpu 0)) 0 0 0 0) None ∷
      tool_line.Open (slot 1) (attr (kind.Hard 0) tasks.All (cpus.One (cpu 0)) 0 0 0 0) None ∷
      tool_line.Open (slot 2) (attr (kind.Hard 1) tasks.All (cpus.One (cpu 0)) 0 0 0 0) None ∷
      tool_line.Why (slot 1) ∷
      tool_line.Why (slot 2) ∷
      []) ∷ []);
  readers = [];
  order = by_tool 0 ∷ by_tool 0 ∷ by_tool 0 ∷ by_tool 0 ∷ by_tool 0 ∷ [];
}

earlier_refusal_replies : List Reply
earlier_refusal_replies = reply.Ok ∷ reply.Ok ∷ reply.Ok ∷ reply.Why (why.Refused (cause.Hall (slots (0 ∷ 1 ∷ [])))) ∷
    reply.Why (why.Refused (cause.Rule (rule.Earlier (slot 1)))) ∷ []

earlier_refusal-answers : Answers earlier_refusal earlier_refusal_replies
unfolding Computed earlier_refusal earlier_refusal_replies
earlier_refusal-answers = computed earlier_refusal earlier_refusal_replies (refl, (refl, (refl, (refl, (refl, tt)))))

nothing_to_do : Scripted
nothing_to_do = record {
  cpus = 1;
  pmus = pmu 1 1 ∷ [];
  kinds = [];
  tasks = [];
  rings = [];
  cpu_lines = eight [];
  tool_lines = four [];
  readers = [];
  order = [];
}

nothing_to_do_replies : List Reply
nothing_to_do_replies = []

nothing_to_do-answers : Answers nothing_to_do nothing_to_do_replies
unfolding Computed nothing_to_do nothing_to_do_replies
nothing_to_do-answers = computed nothing_to_do nothing_to_do_replies tt

exclusive_software : Scripted
exclusive_software = record {
  cpus = 1;
  pmus = pmu 2 1 ∷ [];
  kinds = kind_line (codes "a") 0 3 ∷ [];
  tasks = [];
  rings = [];
  cpu_lines = eight [];
  tool_lines = four ((
      tool_line.Open (slot 0) (attr kind.TaskClock tasks.All (cpus.One (cpu 0)) 0 0 0 8) None ∷
      tool_line.Open (slot 1) (attr (kind.Hard 0) tasks.All (cpus.One (cpu 0)) 0 0 0 0) None ∷
      tool_line.Why (slot 0) ∷
      tool_line.Why (slot 1) ∷
      tool_line.Open (slot 2) (attr (kind.Hard 0) tasks.All (cpus.One (cpu 0)) 0 0 0 0) (Some (slot 0)) ∷
      tool_line.Why (slot 0) ∷
      tool_line.Why (slot 1) ∷
      []) ∷ []);
  readers = [];
  order = by_tool 0 ∷ by_tool 0 ∷ by_tool 0 ∷ by_tool 0 ∷ by_tool 0 ∷ by_tool 0 ∷ by_tool 0 ∷ [];
}

exclusive_software_replies : List Reply
exclusive_software_replies = reply.Ok ∷ reply.Ok ∷ reply.Why why.On ∷ reply.Why why.On ∷ reply.Ok ∷ reply.Why why.On ∷
    reply.Why (why.Refused (cause.Rule (rule.Exclusive (slot 0)))) ∷ []

exclusive_software-answers : Answers exclusive_software exclusive_software_replies
unfolding Computed exclusive_software exclusive_software_replies
exclusive_software-answers = computed exclusive_software exclusive_software_replies (refl, (refl, (refl, (refl, (refl, (refl, (refl, tt)))))))

exclusive : Scripted
exclusive = record {
  cpus = 1;
  pmus = pmu 2 1 ∷ [];
  kinds = kind_line (codes "a") 0 3 ∷ [];
  tasks = [];
  rings = [];
  cpu_lines = eight ((
      cpu_line.Tick ∷
      []) ∷ []);
  tool_lines = four ((
      tool_line.Open (slot 0) (attr (kind.Hard 0) tasks.All (cpus.One (cpu 0)) 0 0 0 0) None ∷
      tool_line.Open (slot 1) (attr (kind.Hard 0) tasks.All (cpus.One (cpu 0)) 0 0 0 8) None ∷
      tool_line.Why (slot 1) ∷
      tool_line.Why (slot 0) ∷
      tool_line.Why (slot 1) ∷
      []) ∷ []);
  readers = [];
  order = by_tool 0 ∷ by_tool 0 ∷ by_tool 0 ∷ by_cpu 0 ∷ by_tool 0 ∷ by_tool 0 ∷ [];
}

exclusive_replies : List Reply
exclusive_replies = reply.Ok ∷ reply.Ok ∷ reply.Why (why.Refused (cause.Rule (rule.ExclusiveSelf (slot 0)))) ∷ reply.Ok ∷
    reply.Why (why.Refused (cause.Rule (rule.Exclusive (slot 1)))) ∷ reply.Why why.On ∷ []

exclusive-answers : Answers exclusive exclusive_replies
unfolding Computed exclusive exclusive_replies
exclusive-answers = computed exclusive exclusive_replies (refl, (refl, (refl, (refl, (refl, (refl, tt))))))

exited_task : Scripted
exited_task = record {
  cpus = 1;
  pmus = pmu 1 1 ∷ [];
  kinds = kind_line (codes "a") 0 1 ∷ [];
  tasks = task 0 ∷ task 1 ∷ [];
  rings = [];
  cpu_lines = eight ((
      cpu_line.Switch (Some (task 0)) ∷
      cpu_line.Work (work 10 mode.User 0 (3 ∷ [])) ∷
      cpu_line.Exit ∷
      cpu_line.Fork (task 2) ∷
      cpu_line.Switch (Some (task 0)) ∷
      cpu_line.Switch (Some (task 1)) ∷
      cpu_line.Fork (task 0) ∷
      cpu_line.Fork (task 2) ∷
      []) ∷ []);
  tool_lines = four ((
      tool_line.Open (slot 0) (attr (kind.Hard 0) (tasks.One (task 0)) cpus.Any 0 0 3 0) None ∷
      tool_line.Read (slot 0) None ∷
      tool_line.Why (slot 0) ∷
      tool_line.Disable (slot 0) false ∷
      tool_line.Why (slot 0) ∷
      tool_line.Enable (slot 0) false ∷
      tool_line.Why (slot 0) ∷
      tool_line.Open (slot 1) (attr (kind.Hard 0) (tasks.One (task 0)) cpus.Any 0 0 0 0) None ∷
      tool_line.Open (slot 1) (attr (kind.Hard 0) (tasks.One (task 0)) cpus.Any 0 0 0 0) (Some (slot 0)) ∷
      []) ∷ []);
  readers = [];
  order = by_tool 0 ∷ by_cpu 0 ∷ by_cpu 0 ∷ by_cpu 0 ∷ by_cpu 0 ∷ by_cpu 0 ∷ by_cpu 0 ∷ by_cpu 0 ∷ by_cpu 0 ∷ by_tool 0 ∷ by_tool 0 ∷ by_tool 0 ∷
      by_tool 0 ∷ by_tool 0 ∷ by_tool 0 ∷ by_tool 0 ∷ by_tool 0 ∷ [];
}

exited_task_replies : List Reply
exited_task_replies = reply.Ok ∷ reply.Ok ∷ reply.Ok ∷ reply.Ok ∷ reply.Refused reason.Idle ∷ reply.Refused reason.NoTask ∷ reply.Ok ∷
    reply.Refused reason.Exists ∷ reply.Ok ∷ reply.Read (3 ∷ 10 ∷ 10 ∷ []) ∷ reply.Why why.Away ∷ reply.Ok ∷ reply.Why why.Off ∷ reply.Ok ∷
    reply.Why why.Away ∷ reply.Refused reason.NoTask ∷ reply.Refused reason.NoTask ∷ []

exited_task-answers : Answers exited_task exited_task_replies
unfolding Computed exited_task exited_task_replies
exited_task-answers = computed exited_task exited_task_replies (refl, (refl, (refl, (refl, (refl, (refl, (refl, (refl, (refl, (refl, (refl, (refl, (refl, (refl, (refl, (refl, (refl, tt)))))))))))))))))

first_switch_is_no_migration : Scripted
first_switch_is_no_migration = record {
  cpus = 2;
  pmus = pmu 1 3 ∷ [];
  kinds = [];
  tasks = task 0 ∷ [];
  rings = [];
  cpu_lines = eight ((
      cpu_line.Switch (Some (task 0)) ∷
      cpu_line.Fork (task 1) ∷
      cpu_line.Switch (Some (task 1)) ∷
      []) ∷ (
      cpu_line.Switch (Some (task 1)) ∷
      cpu_line.Switch None ∷
      cpu_line.Switch (Some (task 1)) ∷
      cpu_line.Switch None ∷
      []) ∷ []);
  tool_lines = four ((
      tool_line.Open (slot 0) (attr kind.CpuMigrations (tasks.One (task 0)) cpus.Any 0 0 0 2) None ∷
      tool_line.Open (slot 1) (attr kind.CpuMigrations tasks.All (cpus.One (cpu 0)) 0 0 0 0) None ∷
      tool_line.Read (slot 0) None ∷
      tool_line.Read (slot 0) None ∷
      tool_line.Read (slot 0) None ∷
      tool_line.Read (slot 1) None ∷
      []) ∷ []);
  readers = [];
  order = by_tool 0 ∷ by_tool 0 ∷ by_cpu 0 ∷ by_cpu 0 ∷ by_cpu 1 ∷ by_cpu 1 ∷ by_tool 0 ∷ by_cpu 1 ∷ by_cpu 1 ∷ by_tool 0 ∷ by_cpu 0 ∷ by_tool 0 ∷
      by_tool 0 ∷ [];
}

first_switch_is_no_migration_replies : List Reply
first_switch_is_no_migration_replies = reply.Ok ∷ reply.Ok ∷ reply.Ok ∷ reply.Ok ∷ reply.Ok ∷ reply.Ok ∷ reply.Read (0 ∷ []) ∷ reply.Ok ∷ reply.Ok ∷
    reply.Read (0 ∷ []) ∷ reply.Ok ∷ reply.Read (1 ∷ []) ∷ reply.Read (1 ∷ []) ∷ []

first_switch_is_no_migration-answers : Answers first_switch_is_no_migration first_switch_is_no_migration_replies
unfolding Computed first_switch_is_no_migration first_switch_is_no_migration_replies
first_switch_is_no_migration-answers = computed first_switch_is_no_migration first_switch_is_no_migration_replies (refl, (refl, (refl, (refl, (refl, (refl, (refl, (refl, (refl, (refl, (refl, (refl, (refl, tt)))))))))))))

fold_and_reset : Scripted
fold_and_reset = record {
  cpus = 1;
  pmus = pmu 1 1 ∷ [];
  kinds = kind_line (codes "a") 0 1 ∷ [];
  tasks = task 0 ∷ [];
  rings = [];
  cpu_lines = eight ((
      cpu_line.Switch (Some (task 0)) ∷
      cpu_line.Fork (task 1) ∷
      cpu_line.Switch (Some (task 1)) ∷
      cpu_line.Work (work 10 mode.User 0 (70 ∷ [])) ∷
      cpu_line.Exit ∷
      cpu_line.Switch (Some (task 0)) ∷
      cpu_line.Work (work 10 mode.User 0 (30 ∷ [])) ∷
      []) ∷ []);
  tool_lines = four ((
      tool_line.Open (slot 0) (attr (kind.Hard 0) (tasks.One (task 0)) cpus.Any 0 0 3 2) None ∷
      tool_line.Read (slot 0) None ∷
      tool_line.Reset (slot 0) false ∷
      tool_line.Read (slot 0) None ∷
      []) ∷ []);
  readers = [];
  order = by_tool 0 ∷ by_cpu 0 ∷ by_cpu 0 ∷ by_cpu 0 ∷ by_cpu 0 ∷ by_cpu 0 ∷ by_cpu 0 ∷ by_cpu 0 ∷ by_tool 0 ∷ by_tool 0 ∷ by_tool 0 ∷ [];
}

fold_and_reset_replies : List Reply
fold_and_reset_replies = reply.Ok ∷ reply.Ok ∷ reply.Ok ∷ reply.Ok ∷ reply.Ok ∷ reply.Ok ∷ reply.Ok ∷ reply.Ok ∷ reply.Read (100 ∷ 20 ∷ 20 ∷ []) ∷
    reply.Ok ∷ reply.Read (70 ∷ 20 ∷ 20 ∷ []) ∷ []

fold_and_reset-answers : Answers fold_and_reset fold_and_reset_replies
unfolding Computed fold_and_reset fold_and_reset_replies
fold_and_reset-answers = computed fold_and_reset fold_and_reset_replies (refl, (refl, (refl, (refl, (refl, (refl, (refl, (refl, (refl, (refl, (refl, tt)))))))))))

fork_inherits_some : Scripted
fork_inherits_some = record {
  cpus = 1;
  pmus = pmu 2 1 ∷ [];
  kinds = kind_line (codes "a") 0 3 ∷ [];
  tasks = task 0 ∷ [];
  rings = [];
  cpu_lines = eight ((
      cpu_line.Switch (Some (task 0)) ∷
      cpu_line.Work (work 10 mode.User 0 (4 ∷ [])) ∷
      cpu_line.Fork (task 1) ∷
      cpu_line.Switch (Some (task 1)) ∷
      cpu_line.Work (work 20 mode.User 0 (7 ∷ [])) ∷
      []) ∷ []);
  tool_lines = four ((
      tool_line.Open (slot 0) (attr (kind.Hard 0) (tasks.One (task 0)) cpus.Any 0 0 7 2) None ∷
      tool_line.Open (slot 1) (attr (kind.Hard 0) (tasks.One (task 0)) cpus.Any 0 0 7 0) None ∷
      tool_line.Read (slot 0) None ∷
      tool_line.Read (slot 1) None ∷
      tool_line.Open (slot 2) (attr (kind.Hard 0) (tasks.One (task 1)) cpus.Any 0 0 4 0) None ∷
      tool_line.Read (slot 2) None ∷
      []) ∷ []);
  readers = [];
  order = by_tool 0 ∷ by_tool 0 ∷ by_cpu 0 ∷ by_cpu 0 ∷ by_cpu 0 ∷ by_cpu 0 ∷ by_cpu 0 ∷ by_tool 0 ∷ by_tool 0 ∷ by_tool 0 ∷ by_tool 0 ∷ [];
}

fork_inherits_some_replies : List Reply
fork_inherits_some_replies = reply.Ok ∷ reply.Ok ∷ reply.Ok ∷ reply.Ok ∷ reply.Ok ∷ reply.Ok ∷ reply.Ok ∷ reply.Read (11 ∷ 30 ∷ 30 ∷ 1 ∷ []) ∷
    reply.Read (4 ∷ 10 ∷ 10 ∷ 2 ∷ []) ∷ reply.Ok ∷ reply.Read (0 ∷ 4 ∷ []) ∷ []

fork_inherits_some-answers : Answers fork_inherits_some fork_inherits_some_replies
unfolding Computed fork_inherits_some fork_inherits_some_replies
fork_inherits_some-answers = computed fork_inherits_some fork_inherits_some_replies (refl, (refl, (refl, (refl, (refl, (refl, (refl, (refl, (refl, (refl, (refl, tt)))))))))))

four_passes : Scripted
four_passes = record {
  cpus = 1;
  pmus = pmu 2 1 ∷ [];
  kinds = kind_line (codes "a") 0 1 ∷ kind_line (codes "b") 0 2 ∷ [];
  tasks = task 0 ∷ [];
  rings = [];
  cpu_lines = eight ((
      cpu_line.Switch (Some (task 0)) ∷
      []) ∷ []);
  tool_lines = four ((
      tool_line.Open (slot 0) (attr (kind.Hard 0) (tasks.One (task 0)) cpus.Any 0 0 0 4) None ∷
      tool_line.Why (slot 0) ∷
      tool_line.Open (slot 1) (attr (kind.Hard 0) tasks.All (cpus.One (cpu 0)) 0 0 0 4) None ∷
      tool_line.Why (slot 0) ∷
      tool_line.Why (slot 1) ∷
      tool_line.Open (slot 2) (attr (kind.Hard 1) (tasks.One (task 0)) cpus.Any 0 0 0 0) None ∷
      tool_line.Why (slot 2) ∷
      tool_line.Open (slot 3) (attr (kind.Hard 1) tasks.All (cpus.One (cpu 0)) 0 0 0 0) None ∷
      tool_line.Why (slot 2) ∷
      tool_line.Why (slot 3) ∷
      tool_line.Close (slot 3) ∷
      tool_line.Open (slot 4) (attr (kind.Hard 0) tasks.All (cpus.One (cpu 0)) 0 0 0 0) None ∷
      tool_line.Why (slot 4) ∷
      tool_line.Why (slot 2) ∷
      []) ∷ []);
  readers = [];
  order = by_cpu 0 ∷ by_tool 0 ∷ by_tool 0 ∷ by_tool 0 ∷ by_tool 0 ∷ by_tool 0 ∷ by_tool 0 ∷ by_tool 0 ∷ by_tool 0 ∷ by_tool 0 ∷ by_tool 0 ∷
      by_tool 0 ∷ by_tool 0 ∷ by_tool 0 ∷ by_tool 0 ∷ [];
}

four_passes_replies : List Reply
four_passes_replies = reply.Ok ∷ reply.Ok ∷ reply.Why why.On ∷ reply.Ok ∷ reply.Why (why.Failed (cause.Hall (slots (1 ∷ 0 ∷ [])))) ∷
    reply.Why why.On ∷ reply.Ok ∷ reply.Why why.On ∷ reply.Ok ∷ reply.Why (why.Refused (cause.Hall (slots (3 ∷ 2 ∷ [])))) ∷ reply.Why why.On ∷
    reply.Ok ∷ reply.Ok ∷ reply.Why (why.Refused (cause.Hall (slots (1 ∷ 4 ∷ [])))) ∷ reply.Why why.On ∷ []

four_passes-answers : Answers four_passes four_passes_replies
unfolding Computed four_passes four_passes_replies
four_passes-answers = computed four_passes four_passes_replies (refl, (refl, (refl, (refl, (refl, (refl, (refl, (refl, (refl, (refl, (refl, (refl, (refl, (refl, (refl, tt)))))))))))))))
