-- That the way of now is turned, and which changes keep the ways of which keys.
use Rattle.std.specs.Prelude.{◌≡◌, ℕ, ◌+◌, ◌==◌, Bool, true, false, not, ◌&&◌, List, Option, Some, None, slice_index_or, slice_set}
use Rattle.std.specs.{FinMap.{FinMap, get}, Option.{unwrap_or}, Ordering.{nat_cmp}}
use Rattle.std.proofs.Common.{arith, refl, sym, ap, ◌∙◌, inl, inr, get_or-set_other, get_or-set_same}
use Rattle.std.proofs.{lemmas.Bool.{cases_lt, cases_Bool, false≢true, Decides.{nat_tests}}, Math.Seq.{set_out}}
use Rattle.perf_base.specs.{declared.{numbers.{CpuNo.{CpuNo}, Key.{Key}, TaskNo.{TaskNo}}, standing.Context.{Context}}}
use Rattle.perf_base.specs.declared.standing.Context.TheVariants as context
use Rattle.perf_base.specs.declared.standing.Standing.TheVariants as standing
use Rattle.stage_spec.specs.{declared.instance.Instance.{Instance}, Hardware.{Hardware}, Refusals.{holds_of}}
use Rattle.stage_spec.specs.{Replies.{cpu_with}, Stage.{Stage, cpu_of, is_on_cpu, is_task, place_of, task_on}}
use Rattle.stage_spec.proofs.Present.{find-passes}
use Rattle.stage_laws.{specs.{Narrowing.{has_context}, Sound.{AreRunning}}, proofs.Tasks.{free-task, is_task-some}}
use Rattle.world_spec.specs.{Value.{World, Entry, no_entry, is_live, entry_at, instance_at, standing_at, is_key}, StageOf.{stage_of}}
use Rattle.world_spec.specs.{Kept.{post_at, is_member_of, IsKept}, Changes.{with_instance, place}}
use Rattle.world_spec.specs.Ways.{IsTurned, way_along, is_context_of, KeepsWay, WayLaw, TurnedLaw, OtherWaysLaw, PeriodWaysLaw, RingWaysLaw, OwnWaysLaw, StandingWaysLaw, PlaceWaysLaw, OutsideGroupLaw, OutsideContextLaw}
use Rattle.world_spec.proofs.{Keys.{key-is, is_key-same, is_key-true, once-true}, Listings.{keys-at}, Moving.{leads-parts}}
use Rattle.world_spec.proofs.Tables.{get-there, entry-here, entry-there, entry-numbered}

-- the processor that a context is on
abbrev pub is_at : Option CpuNo → CpuNo → Bool
is_at None cpu = false
is_at (Some p) cpu = p.0 == cpu.0

-- a task that is found nowhere runs nowhere, and one that is found runs there alone
runs-nowhere : (s : Stage) (task : TaskNo) → AreRunning s → cpu_of s task ≡ None → (cpu : CpuNo) → is_on_cpu s task cpu ≡ false
runs-nowhere s task h none cpu = elim (cases_Bool (is_on_cpu s task cpu)) [
  | inr off ↦ off
  | inl on ↦
      let other : CpuNo = record { 0 = cpu.0 + 1 } in
      let same : cpu.0 ≡ other.0 = free-task s other cpu task h (ap (holds_of (λ c. not (c.0 == other.0))) none) (is_task-some (task_on s cpu) task on) in
      absurd (omega (arith, same))
]

runs-there : (s : Stage) (task : TaskNo) (p : CpuNo) → AreRunning s → cpu_of s task ≡ Some p → (cpu : CpuNo) → is_on_cpu s task cpu ≡ (p.0 == cpu.0)
runs-there s task p h found cpu = grind (arith, nat_tests, find-passes, is_task-some)

task-at : (s : Stage) (task : TaskNo) (o : Option CpuNo) → AreRunning s → cpu_of s task ≡ o → (cpu : CpuNo) → is_on_cpu s task cpu ≡ is_at o cpu
task-at s task None h is cpu = runs-nowhere s task h is cpu
task-at s task (Some p) h is cpu = runs-there s task p h is cpu

pub context-at : (s : Stage) (c : Context) → AreRunning s → (cpu : CpuNo) → has_context s cpu c ≡ is_at (cpu_with s c) cpu
context-at s (context.Processor p) h cpu = refl
context-at s (context.Task task) h cpu = task-at s task (cpu_of s task) h refl cpu

-- the way of now is turned
both-off : (a b : Bool) → b ≡ false → false ≡ (a && b)
both-off true b h = sym h
both-off false b h = refl

pub turn-about : (a b c : Bool) → ((a && b) && c) ≡ ((a && c) && b)
turn-about true true true = refl
turn-about true true false = refl
turn-about true false true = refl
turn-about true false false = refl
turn-about false b c = refl

none-on : (a b c : Bool) → b ≡ false → false ≡ ((a && b) && c)
none-on true true c h = absurd (false≢true (sym h))
none-on true false c h = refl
none-on false b c h = refl

along-is : (w : World) (k : Key) (o : Option CpuNo) → ((cpu : CpuNo) → has_context (stage_of w) cpu (entry_at w k).context ≡ is_at o cpu) → IsTurned w (way_along w k o) k
along-is w k None h = grind (arith, nat_tests, both-off, none-on)
along-is w k (Some p) h = grind (arith, nat_tests, turn-about)

pub way-is : WayLaw
way-is hw w k h = along-is w k (cpu_with (stage_of w) (entry_at w k).context) (context-at (stage_of w) (entry_at w k).context h.running)

pub still-turned : TurnedLaw
still-turned w after u k keeps h = record { ready = λ cpu. h.ready cpu ∙ sym (keeps.ready cpu); on = λ cpu. h.on cpu ∙ sym (keeps.on cpu) }

-- what a key's way goes by
pub record GoesOn (w after : World) (j : Key) : Type 0 where
  pub leader : (entry_at after j).leader ≡ (entry_at w j).leader
  pub context : (entry_at after j).context ≡ (entry_at w j).context
  pub own : (instance_at after j).own ≡ (instance_at w j).own
  pub led : (instance_at after (entry_at w j).leader).own ≡ (instance_at w (entry_at w j).leader).own
  pub standing : standing_at after (entry_at w j).leader ≡ standing_at w (entry_at w j).leader

pub keeps-there : (w after : World) (j : Key) → GoesOn w after j
    → ((cpu : CpuNo) → has_context (stage_of after) cpu (entry_at w j).context ≡ has_context (stage_of w) cpu (entry_at w j).context) → KeepsWay w after j
keeps-there w after j g there = grind (arith, nat_tests)

running-there : (s t : Stage) → t.running ≡ s.running → (cpu : CpuNo) (c : Context) → has_context t cpu c ≡ has_context s cpu c
running-there s t same cpu (context.Processor p) = refl
running-there s t same cpu (context.Task task) = ap (λ r. is_task (slice_index_or r cpu.0 None) task) same

pub keeps-running : (w after : World) (j : Key) → GoesOn w after j → after.quiet.running ≡ w.quiet.running → KeepsWay w after j
keeps-running w after j g same = keeps-there w after j g (λ cpu. running-there (stage_of w) (stage_of after) same cpu (entry_at w j).context)

abbrev entry_in : FinMap nat_cmp Entry → Key → Entry
entry_in m q = unwrap_or (get m q.0) no_entry

pub other-ways : OtherWaysLaw
other-ways w after k entries standings running = keeps-running w after k (record {
  leader = ap (λ m. (entry_in m k).leader) entries;
  context = ap (λ m. (entry_in m k).context) entries;
  own = ap (λ m. (entry_in m k).instance.own) entries;
  led = ap (λ m. (entry_in m (entry_at w k).leader).instance.own) entries;
  standing = ap (λ m. unwrap_or (get m (entry_at w k).leader.0) standing.Out) standings;
}) running

-- a change of one instance
changed-entry : {X : Type 0} (f : Instance → Instance) (part : Entry → X) → ((e : Entry) → part (record e { instance = f e.instance }) ≡ part e) → (w : World) (k j : Key)
    → part (entry_at (with_instance f k w) j) ≡ part (entry_at w j)
changed-entry f part same w k j = grind (arith, nat_tests, entry-here, entry-numbered, entry-there)

own-goes-on : (f : Instance → Instance) → ((i : Instance) → (f i).own ≡ i.own) → (w : World) (k j : Key) → GoesOn w (with_instance f k w) j
own-goes-on f same w k j = record {
  leader = changed-entry f (λ e. e.leader) (λ e. refl) w k j;
  context = changed-entry f (λ e. e.context) (λ e. refl) w k j;
  own = changed-entry f (λ e. e.instance.own) (λ e. same e.instance) w k j;
  led = changed-entry f (λ e. e.instance.own) (λ e. same e.instance) w k (entry_at w j).leader;
  standing = refl;
}

pub period-ways : PeriodWaysLaw
period-ways w k period j =
    let g : GoesOn w (with_instance (λ i. record i { attr = record i.attr { period = period } }) k w) j = own-goes-on (λ i. record i { attr = record i.attr { period = period } }) (λ i. refl) w k j in
    keeps-running w _ j (record { leader = g.leader; context = g.context; own = g.own; led = g.led; standing = g.standing }) refl

pub ring-ways : RingWaysLaw
ring-ways w k ring owner j =
    let g : GoesOn w (with_instance (λ i. record i { ring = Some ring; mapped = owner }) k w) j = own-goes-on (λ i. record i { ring = Some ring; mapped = owner }) (λ i. refl) w k j in
    keeps-running w _ j (record { leader = g.leader; context = g.context; own = g.own; led = g.led; standing = g.standing }) refl

-- an own state, in another group
led-apart : (hw : Hardware) (w : World) (j k : Key) → IsKept hw w → is_live w j ≡ true → ((entry_at w j).leader.0 ≡ (entry_at w k).leader.0 → ⊥) → (entry_at w j).leader.0 ≡ k.0 → ⊥
led-apart hw w j k h live apart e = grind (arith, nat_tests, leads-parts, is_key-true, key-is)

pub own-ways : OwnWaysLaw
own-ways hw w k o j h live apart =
    let f : Instance → Instance = λ i. record i { own = o } in
    let e : Entry = record (entry_at w k) { instance = f (instance_at w k) } in
    keeps-running w (with_instance f k w) j (record {
      leader = changed-entry f (λ x. x.leader) (λ x. refl) w k j;
      context = changed-entry f (λ x. x.context) (λ x. refl) w k j;
      own = ap (λ x. x.instance.own) (entry-there w k e j (λ same. apart (ap (λ x. x.leader.0) (entry-numbered w k j same))));
      led = ap (λ x. x.instance.own) (entry-there w k e (entry_at w j).leader (led-apart hw w j k h live apart));
      standing = refl;
    }) refl

pub standing-ways : StandingWaysLaw
standing-ways w leader s j apart = keeps-running w _ j (record {
  leader = refl;
  context = refl;
  own = refl;
  led = refl;
  standing = ap (λ x. unwrap_or x standing.Out) (get-there w.standings leader.0 s (entry_at w j).leader.0 apart);
}) refl

-- a task that is placed
placed-running : (w : World) (cpu : CpuNo) (to : Option TaskNo) → (place cpu to w).quiet.running ≡ slice_set w.quiet.running cpu.0 to
placed-running w cpu None = refl
placed-running w cpu (Some task) = refl

set-there : (running : List (Option TaskNo)) (cpu : ℕ) (to : Option TaskNo) (task : TaskNo) → is_task (slice_index_or running cpu None) task ≡ false → is_task to task ≡ false → (other : ℕ)
    → is_task (slice_index_or (slice_set running cpu to) other None) task ≡ is_task (slice_index_or running other None) task
set-there running cpu to task was will other = grind (arith, nat_tests, get_or-set_other, cases_lt, get_or-set_same, set_out)

placed-there : (w : World) (cpu : CpuNo) (to : Option TaskNo) (c : Context) → is_context_of (task_on (stage_of w) cpu) c ≡ false → is_context_of to c ≡ false → (other : CpuNo)
    → has_context (stage_of (place cpu to w)) other c ≡ has_context (stage_of w) other c
placed-there w cpu to (context.Processor p) was will other = refl
placed-there w cpu to (context.Task task) was will other = grind (arith, nat_tests, placed-running, set-there)

placed-on : (w : World) (cpu : CpuNo) (to : Option TaskNo) (j : Key) → GoesOn w (place cpu to w) j
placed-on w cpu None j = record { leader = refl; context = refl; own = refl; led = refl; standing = refl }
placed-on w cpu (Some task) j = record { leader = refl; context = refl; own = refl; led = refl; standing = refl }

pub place-ways : PlaceWaysLaw
place-ways w cpu to j was will = keeps-there w (place cpu to w) j (placed-on w cpu to j) (placed-there w cpu to (entry_at w j).context was will)

-- whom settling a group or a context does not reach
pub outside-group : OutsideGroupLaw
outside-group hw w leader j h live none e =
    let its : is_member_of (post_at w) leader j ≡ true = ap (λ b. b && is_key leader (entry_at w j).leader) live ∙ is_key-same leader (entry_at w j).leader e in
    omega (arith, none, h.linked.members j leader, once-true (is_member_of (post_at w) leader j) its)

off-context : (task : TaskNo) (c : Context) → (place_of c == 8 + task.0) ≡ false → is_context_of (Some task) c ≡ false
off-context task (context.Processor cpu) off = refl
off-context task (context.Task other) off = grind (arith, nat_tests, false≢true)

pub outside-context : OutsideContextLaw
outside-context hw w task j h live none = off-context task (entry_at w j).context (elim (cases_Bool (place_of (entry_at w j).context == 8 + task.0)) [
  | inr off ↦ off
  | inl there ↦ grind (arith, nat_tests, there, keys-at, once-true)
])
