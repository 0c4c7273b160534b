-- inner
-- What contexts and processors have on the stage, by the keys of a world. After the lists of struct perf_event_context
-- of kernel/events/core.c; the order of the passes is that of ctx_sched_in.
use Rattle.std.specs.Prelude.{◌≡◌, ◌≤◌, true, List, [], ◌∷◌, ◌++◌, map, count_by, flat_map, Option, Some, None}
use Rattle.perf_base.specs.declared.{numbers.{CpuNo.{CpuNo}, EventNo.{EventNo}, Key.{Key}, TaskNo.{TaskNo}}, standing.Context.{Context}}
use Rattle.perf_base.specs.declared.standing.Context.TheVariants as context
use Rattle.stage_spec.specs.{Hardware.{Hardware}, Stage.{members_of, is_of_family, task_on}, Verdict.{passes, instances_in, reached}}
use Rattle.stage_laws.specs.Sound.{IsNumbered}
use Rattle.world_spec.specs.{Value.{World, Leaders, no_leaders, leaders_of, entry_at, instance_at}, StageOf.{group_at, stage_of}}
use Rattle.world_spec.specs.Kept.{post_at, leads, IsKept}

-- the leaders of the groups of the task on a processor; an idle processor has none
abbrev pub task_leaders : World → Option TaskNo → Leaders
task_leaders w None = no_leaders
task_leaders w (Some task) = leaders_of w (context.Task task)

-- the leaders of a processor's groups in the four passes, and the groups that they lead are the stage's
abbrev pub pass_leaders : World → CpuNo → List (List Key)
pass_leaders w cpu =
    (leaders_of w (context.Processor cpu)).pinned ∷ (task_leaders w (task_on (stage_of w) cpu)).pinned
    ∷ (leaders_of w (context.Processor cpu)).flexible ∷ (task_leaders w (task_on (stage_of w) cpu)).flexible ∷ []

abbrev pub PassesLaw : Type 0
PassesLaw = (w : World) (cpu : CpuNo) → passes (stage_of w) cpu ≡ map (map (group_at w)) (pass_leaders w cpu)

-- the keys of a context, group by group, and their instances are the stage's
abbrev pub keys_in : World → Context → List Key
keys_in w c = flat_map (λ k. (entry_at w k).members) ((leaders_of w c).pinned ++ (leaders_of w c).flexible)

abbrev pub ContextLaw : Type 0
ContextLaw = (hw : Hardware) (w : World) (c : Context) → IsKept hw w → instances_in (stage_of w) c ≡ map (instance_at w) (keys_in w c)

-- The members of a leader's group are those of its keys, the leader first.
abbrev pub MembersLaw : Type 0
MembersLaw = (hw : Hardware) (w : World) (k : Key) → IsKept hw w → leads (post_at w) k ≡ true → members_of (group_at w k) ≡ map (instance_at w) (entry_at w k).members

-- The stage is numbered. A context, and what a processor reaches, has at most one instance of a family.
abbrev pub NumberedLaw : Type 0
NumberedLaw = (hw : Hardware) (w : World) → IsKept hw w → IsNumbered (stage_of w)

abbrev pub OneInContextLaw : Type 0
OneInContextLaw = (hw : Hardware) (w : World) (c : Context) (e : EventNo) → IsKept hw w → count_by (is_of_family e) (instances_in (stage_of w) c) ≤ 1

abbrev pub OneOnProcessorLaw : Type 0
OneOnProcessorLaw = (hw : Hardware) (w : World) (cpu : CpuNo) (e : EventNo) → IsKept hw w → count_by (is_of_family e) (reached (stage_of w) cpu) ≤ 1
