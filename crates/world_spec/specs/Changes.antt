-- inner
-- What each change does to a world, but for those by which instances come and go. After perf_event_enable,
-- perf_event_period, perf_mmap, perf_swevent_event and perf_event_task_sched_in of kernel/events/core.c; the tables are
-- this project's own profile.
use Rattle.std.specs.Prelude.{ℕ, ◌+◌, ◌==◌, Bool, true, false, not, List, [], ◌∷◌, ◌++◌, filter, Option, Some, None, slice_index_or, slice_set, if◌then◌else◌}
use Rattle.std.specs.{FinMap.{insert}, List.{list_any}}
use Rattle.perf_base.specs.declared.{numbers.{CpuNo.{CpuNo}, Key.{Key}, RingNo.{RingNo}, TaskNo.{TaskNo}}, standing.{Context.{Context}, Own.{Own}}}
use Rattle.perf_base.specs.declared.standing.Standing.{Standing}
use Rattle.stage_spec.specs.{declared.instance.{Instance.{Instance}, TaskStatus.{TaskStatus}}, Occurrences.{left_after}}
use Rattle.stage_spec.specs.Stage.{place_of, unknown_task, fresh_task}
use Rattle.stage_spec.specs.declared.instance.TaskState.TheVariants as state
use Rattle.counter_match.specs.Seating.{Seated}
use Rattle.world_spec.specs.Value.{World, Account, Leaders, entry_at, instance_at, account_at, leaders_of, is_key}

-- a change of the instance, and of the account, at a key
abbrev pub with_instance : (Instance → Instance) → Key → World → World
with_instance f k w = record w { entries = insert w.entries k.0 (record (entry_at w k) { instance = f (instance_at w k) }) }

abbrev pub with_account : (Account → Account) → Key → World → World
with_account f k w = record w { accounts = insert w.accounts k.0 (f (account_at w k)) }

-- a ring that was mapped is remembered, once
abbrev pub remember : RingNo → List RingNo → List RingNo
remember ring mapped = if list_any (λ r. r.0 == ring.0) mapped then mapped else mapped ++ ring ∷ []

-- the own state, the period, with a whole one left then, and the ring; a mapping of its own is remembered
abbrev pub set_own : Key → Own → World → World
set_own k o w = with_instance (λ i. record i { own = o }) k w

abbrev pub set_period : Key → ℕ → World → World
set_period k period w = with_account (λ a. record a { left = period }) k (with_instance (λ i. record i { attr = record i.attr { period = period } }) k w)

abbrev pub set_ring : Key → RingNo → Bool → World → World
set_ring k ring owner w = record (with_instance (λ i. record i { ring = Some ring; mapped = owner }) k w) {
  quiet = record w.quiet { mapped = if owner then remember ring w.quiet.mapped else w.quiet.mapped };
}

-- a number of occurrences, and a count from 0 on again
abbrev pub hit : Key → ℕ → World → World
hit k n w = with_account (λ a. record a {
  sums = record a.sums { count = a.sums.count + n };
  left = left_after n (instance_at w k).attr.period a.left;
}) k w

abbrev pub reset_count : Key → World → World
reset_count k w = with_account (λ a. record a { sums = record a.sums { count = 0 } }) k w

-- the standing of a group by its leader, the seats of a processor, and one record more that was lost
abbrev pub set_standing : Key → Standing → World → World
set_standing k s w = record w { standings = insert w.standings k.0 s }

abbrev pub with_seats : CpuNo → Seated → World → World
with_seats cpu seated w = record w { quiet = record w.quiet { seats = slice_set w.quiet.seats cpu.0 seated } }

abbrev pub add_lost : Key → World → World
add_lost k w = record w { lost = slice_set w.lost (instance_at w k).event.0 (slice_index_or w.lost (instance_at w k).event.0 0 + 1) }

-- where a task stands; a new task; and one that exited
abbrev pub with_status : TaskNo → (TaskStatus → TaskStatus) → World → World
with_status task f w = record w { quiet = record w.quiet { tasks = slice_set w.quiet.tasks task.0 (f (slice_index_or w.quiet.tasks task.0 unknown_task)) } }

abbrev pub add_task : TaskNo → World → World
add_task task w = with_status task (λ t. fresh_task) w

abbrev pub end_task : TaskNo → World → World
end_task task w = with_status task (λ t. record t { state = state.Exited }) w

-- what runs on a processor; a task was last switched to there, and where none is given all keep their last one
abbrev pub with_running : CpuNo → Option TaskNo → World → World
with_running cpu to w = record w { quiet = record w.quiet { running = slice_set w.quiet.running cpu.0 to } }

abbrev pub place : CpuNo → Option TaskNo → World → World
place cpu None w = with_running cpu None w
place cpu (Some task) w = with_status task (λ t. record t { last = Some cpu }) (with_running cpu (Some task) w)

-- a group goes last in its list
abbrev pub all_but : Key → List Key → List Key
all_but k keys = filter (λ j. not (is_key k j)) keys

abbrev pub to_last : Key → List Key → List Key
to_last k keys = all_but k keys ++ k ∷ []

abbrev pub in_list : Bool → (List Key → List Key) → Leaders → Leaders
in_list true f l = record l { pinned = f l.pinned }
in_list false f l = record l { flexible = f l.flexible }

abbrev pub with_leaders : Context → (Leaders → Leaders) → World → World
with_leaders c f w = record w { contexts = slice_set w.contexts (place_of c) (f (leaders_of w c)) }

abbrev pub move_last : Context → Key → World → World
move_last c k w = with_leaders c (in_list (entry_at w k).pinned (to_last k)) w
