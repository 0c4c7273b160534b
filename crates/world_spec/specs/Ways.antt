-- inner
-- Along which processor's clock and totals the account of each instance runs, and which change turns which accounts.
-- After event_sched_in, event_sched_out and perf_event_update_time of kernel/events/core.c; the ways are this project's
-- own profile.
use Rattle.std.specs.Prelude.{◌≡◌, ℕ, ◌==◌, Bool, true, false, ◌&&◌, Option, Some, None}
use Rattle.perf_base.specs.declared.{numbers.{CpuNo.{CpuNo}, Key.{Key}, RingNo.{RingNo}, TaskNo.{TaskNo}}, standing.{Context.{Context}, Own.{Own}}}
use Rattle.perf_base.specs.{declared.standing.Standing.{Standing}, Standings.{stands_on}}
use Rattle.perf_base.specs.declared.standing.Context.TheVariants as context
use Rattle.stage_spec.specs.{Hardware.{Hardware}, Replies.{cpu_with}, Stage.{task_on, is_task}}
use Rattle.stage_laws.specs.Narrowing.{has_context}
use Rattle.world_spec.specs.{Value.{World, is_live, entry_at, standing_at, times}, StageOf.{stage_of}, Kept.{IsKept}}
use Rattle.world_spec.specs.{Adding.{Newcomer, add, drop_instance, folded_away}, Changes.{set_own, set_period, set_ring, set_standing, place}}
use Rattle.world_spec.specs.{Comings.{MayCome, HasRoom}, Listings.{keys_in}, Working.{is_effective, is_on}}

-- An account runs along one processor's clock while its instance is ready there, and along its totals while it is on.
pub record Way : Type 0 where
  pub cpu : CpuNo
  pub ready : Bool
  pub on : Bool

-- An instance is ready at a processor where it is effectively ready and its context is on that processor, and on where
-- its group stands on, too.
abbrev pub is_ready_at : World → CpuNo → Key → Bool
is_ready_at w cpu k = is_effective w k && has_context (stage_of w) cpu (entry_at w k).context

abbrev pub is_on_at : World → CpuNo → Key → Bool
is_on_at w cpu k = is_ready_at w cpu k && stands_on (standing_at w (entry_at w k).leader)

-- A way is turned as the world has it: at each processor it is as ready, and as on, as the instance is.
pub record IsTurned (w : World) (u : Way) (k : Key) : Type 0 where
  pub ready : (cpu : CpuNo) → (u.ready && u.cpu.0 == cpu.0) ≡ is_ready_at w cpu k
  pub on : (cpu : CpuNo) → (u.on && u.cpu.0 == cpu.0) ≡ is_on_at w cpu k

-- The way of an instance goes along the processor that its context is on. Where that is on none, it is neither ready
-- nor on.
abbrev pub way_along : World → Key → Option CpuNo → Way
way_along w k None = record { cpu = record { 0 = 0 }; ready = false; on = false }
way_along w k (Some cpu) = record { cpu = cpu; ready = is_effective w k; on = is_on w k }

abbrev pub way_now : World → Key → Way
way_now w k = way_along w k (cpu_with (stage_of w) (entry_at w k).context)

abbrev pub WayLaw : Type 0
WayLaw = (hw : Hardware) (w : World) (k : Key) → IsKept hw w → IsTurned w (way_now w k) k

-- A change keeps a key's way where the instance is as ready, and as on, at each processor as before. Then a way that
-- was turned still is.
pub record KeepsWay (w after : World) (k : Key) : Type 0 where
  pub ready : (cpu : CpuNo) → is_ready_at after cpu k ≡ is_ready_at w cpu k
  pub on : (cpu : CpuNo) → is_on_at after cpu k ≡ is_on_at w cpu k

abbrev pub TurnedLaw : Type 0
TurnedLaw = (w after : World) (u : Way) (k : Key) → KeepsWay w after k → IsTurned w u k → IsTurned after u k

-- What changes no entry, no standing and no task that runs keeps all ways: occurrences, resets, seats, clocks, totals,
-- lost records, groups that go last, and tasks that come or exit.
abbrev pub OtherWaysLaw : Type 0
OtherWaysLaw = (w after : World) (k : Key) → after.entries ≡ w.entries → after.standings ≡ w.standings → after.quiet.running ≡ w.quiet.running → KeepsWay w after k

-- A new period and a ring keep all ways, too.
abbrev pub PeriodWaysLaw : Type 0
PeriodWaysLaw = (w : World) (k : Key) (period : ℕ) (j : Key) → KeepsWay w (set_period k period w) j

abbrev pub RingWaysLaw : Type 0
RingWaysLaw = (w : World) (k : Key) (ring : RingNo) (owner : Bool) (j : Key) → KeepsWay w (set_ring k ring owner w) j

-- An own state turns ways in its group alone, and so does the standing of a leader.
abbrev pub OwnWaysLaw : Type 0
OwnWaysLaw = (hw : Hardware) (w : World) (k : Key) (o : Own) (j : Key) → IsKept hw w → is_live w j ≡ true → ((entry_at w j).leader.0 ≡ (entry_at w k).leader.0 → ⊥)
    → KeepsWay w (set_own k o w) j

abbrev pub StandingWaysLaw : Type 0
StandingWaysLaw = (w : World) (leader : Key) (s : Standing) (j : Key) → ((entry_at w j).leader.0 ≡ leader.0 → ⊥) → KeepsWay w (set_standing leader s w) j

-- A task that is placed turns the ways of its own instances, and of those of the task that was there.
abbrev pub is_context_of : Option TaskNo → Context → Bool
is_context_of task (context.Processor cpu) = false
is_context_of task (context.Task other) = is_task task other

abbrev pub PlaceWaysLaw : Type 0
PlaceWaysLaw = (w : World) (cpu : CpuNo) (to : Option TaskNo) (j : Key) → is_context_of (task_on (stage_of w) cpu) (entry_at w j).context ≡ false
    → is_context_of to (entry_at w j).context ≡ false → KeepsWay w (place cpu to w) j

-- So such a change turns the members of a group, or the keys of the two tasks' contexts: each other key is led by
-- another one, or stands in another context.
abbrev pub OutsideGroupLaw : Type 0
OutsideGroupLaw = (hw : Hardware) (w : World) (leader j : Key) → IsKept hw w → is_live w j ≡ true → times j (entry_at w leader).members ≡ 0 → (entry_at w j).leader.0 ≡ leader.0 → ⊥

abbrev pub OutsideContextLaw : Type 0
OutsideContextLaw = (hw : Hardware) (w : World) (task : TaskNo) (j : Key) → IsKept hw w → is_live w j ≡ true → times j (keys_in w (context.Task task)) ≡ 0
    → is_context_of (Some task) (entry_at w j).context ≡ false

-- An instance that comes turns no other way. One that goes turns the ways of the siblings that it led.
abbrev pub AddWaysLaw : Type 0
AddWaysLaw = (hw : Hardware) (w : World) (k : Key) (n : Newcomer) (j : Key) → IsKept hw w → MayCome hw w k n → HasRoom w n n.leader → is_live w j ≡ true → KeepsWay w (add k n w) j

abbrev pub GoWaysLaw : Type 0
GoWaysLaw = (hw : Hardware) (w : World) (k j : Key) → IsKept hw w → is_live w k ≡ true → is_live w j ≡ true → (j.0 ≡ k.0 → ⊥) → ((entry_at w j).leader.0 ≡ k.0 → ⊥)
    → KeepsWay w (drop_instance k w) j

abbrev pub FoldWaysLaw : Type 0
FoldWaysLaw = (hw : Hardware) (w : World) (k j : Key) → IsKept hw w → is_live w k ≡ true → is_live w j ≡ true → (j.0 ≡ k.0 → ⊥) → ((entry_at w j).leader.0 ≡ k.0 → ⊥)
    → KeepsWay w (folded_away k w) j
