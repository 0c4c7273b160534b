-- inner
-- The brief of a processor after a line's own change, before it is rescheduled. After perf_event_task_sched_in,
-- perf_event_exit_task and perf_rotate_context of kernel/events/core.c.
use Rattle.std.specs.{Prelude.{Bool, not, List, [], ◌∷◌, ◌++◌, Option, None, if◌then◌else◌}, List.{list_any}}
use Rattle.perf_base.specs.{declared.{lines.CpuLine.{CpuLine}, numbers.{CpuNo.{CpuNo}, Key.{Key}, TaskNo.{TaskNo}}}, Standings.{stands_on}}
use Rattle.perf_base.specs.declared.lines.CpuLine.TheVariants as cpu_line
use Rattle.perf_base.specs.declared.standing.Context.TheVariants as context
use Rattle.stage_spec.specs.{Hardware.{counters_of}, Stage.{task_on}}
use Rattle.stage_laws.specs.Briefs.{GroupBrief}
use Rattle.world_spec.specs.{Listings.{task_leaders}, StageOf.{stage_of}, Value.{World, leaders_of, standing_at}}
use Rattle.cpu_sched.specs.Briefs.{ProcessorBrief, briefs_at, present_brief}

-- with the groups of a task, or of none, in the place of those of the task that is on the processor
abbrev pub brief_with : World → CpuNo → Option TaskNo → ProcessorBrief
brief_with w cpu task = record {
  counters = counters_of w.hardware cpu;
  passes = briefs_at w cpu (leaders_of w (context.Processor cpu)).pinned ∷ briefs_at w cpu (task_leaders w task).pinned
      ∷ briefs_at w cpu (leaders_of w (context.Processor cpu)).flexible ∷ briefs_at w cpu (task_leaders w task).flexible ∷ [];
}

-- The first hardware group goes last; so where some eligible group waits, that is, does not stand on.
unfoldable pub hardware_goes_last : List (GroupBrief Key) → List (GroupBrief Key)
hardware_goes_last [] = []
hardware_goes_last (g ∷ groups) = if g.software then g ∷ hardware_goes_last groups else groups ++ g ∷ []

abbrev pub some_wait : World → List (GroupBrief Key) → Bool
some_wait w groups = list_any (λ g. not (stands_on (standing_at w g.leader))) groups

abbrev pub turned_groups : World → List (GroupBrief Key) → List (GroupBrief Key)
turned_groups w groups = if some_wait w groups then hardware_goes_last groups else groups

-- with both flexible lists turned
abbrev pub turned_brief : World → CpuNo → ProcessorBrief
turned_brief w cpu = record {
  counters = counters_of w.hardware cpu;
  passes = briefs_at w cpu (leaders_of w (context.Processor cpu)).pinned ∷ briefs_at w cpu (task_leaders w (task_on (stage_of w) cpu)).pinned
      ∷ turned_groups w (briefs_at w cpu (leaders_of w (context.Processor cpu)).flexible)
      ∷ turned_groups w (briefs_at w cpu (task_leaders w (task_on (stage_of w) cpu)).flexible) ∷ [];
}

-- A switch brings the groups of the task that it names, whether or not it would be refused now; an exit leaves none.
abbrev pub after_brief : World → CpuNo → CpuLine → ProcessorBrief
after_brief w cpu (cpu_line.Switch to) = brief_with w cpu to
after_brief w cpu (cpu_line.Work work) = present_brief w cpu
after_brief w cpu cpu_line.Tick = turned_brief w cpu
after_brief w cpu (cpu_line.Fork child) = present_brief w cpu
after_brief w cpu cpu_line.Exit = brief_with w cpu None
