-- Every instance of a stage has an id that was drawn, through each change of the stage.
use Rattle.std.specs.Prelude.{◌≡◌, ℕ, ◌+◌, ◌<◌, ◌≤◌, Bool, true, false, List, [], ◌∷◌, length, sum_by, Option, Some, None, if◌then◌else◌}
use Rattle.std.proofs.{Common.{arith, refl}, lemmas.List.Sums.{sum_by-cons}}
use Rattle.perf_base.specs.declared.{numbers.{CpuNo.{CpuNo}, EventNo.{EventNo}, RingNo.{RingNo}, TaskNo.{TaskNo}}, attr.Attr.{Attr}}
use Rattle.perf_base.specs.{declared.standing.{Context.{Context}, Own.{Own}}}
use Rattle.perf_base.specs.declared.standing.Context.TheVariants as context
use Rattle.stage_spec.specs.{declared.instance.Instance.{Instance}, Hardware.{Hardware}}
use Rattle.stage_spec.specs.Stage.{Stage, Group, group_size, Lists, lists_of, no_groups, place_of, change_each, change_context, is_original, task_on, first_stage}
use Rattle.stage_spec.specs.{Verdict.{task_lists}, Settle.{settle_all}, Opening.{opened, placed, new_original}}
use Rattle.stage_spec.specs.{Commands.{command_each, with_period, is_reached}, Mapping.{mapped_to, output_to, ring_of}}
use Rattle.stage_spec.specs.{Closing.{without, closed}, Rotation.{rotated}}
use Rattle.stage_spec.specs.{Forks.{copy_of, copies_from, copy_group, copy_groups, copied, inherited_groups, new_copies, forked}, Exits.{exited}}
use Rattle.stage_spec.specs.Switching.{switched}
use Rattle.stage_spec.proofs.Each.{Each, none-Each, cons-Each, map-Each, weaker-Each, replicate-Each, InGroup, InGroups, InLists, InStage, no_groups-In}
use Rattle.stage_spec.proofs.Contexts.{At, AllowsNone, At-from_each, each-from_At, task_lists-in, change_context-keeps, settle_all-keeps, rotated-keeps, closed-keeps, exited-keeps, switched-keeps}
use Rattle.stage_spec.proofs.Inside.{weaker-in, settle_lists-in, turn_lists-in, change_lists-in, without-in, add_group-in, join_lists-in}

-- the id of an instance is below a number
abbrev pub IdBelow : ℕ → Instance → Type 0
IdBelow n i = i.id < n

abbrev pub AllBelow : ℕ → Stage → Type 0
AllBelow n s = InStage (IdBelow n) s

pub AllBelow-more : (m n : ℕ) → m ≤ n → (s : Stage) → AllBelow m s → AllBelow n s
AllBelow-more m n h s below = weaker-Each (InLists (IdBelow m)) (InLists (IdBelow n)) (weaker-in (IdBelow m) (IdBelow n) (λ i k. omega arith)) s.contexts below

-- by place
abbrev AtPlace : ℕ → ℕ → Lists → Type 0
AtPlace n place l = InLists (IdBelow n) l

none_there : (n : ℕ) → AllowsNone (AtPlace n)
none_there n place = no_groups-In (IdBelow n)

by_place : (n : ℕ) (s : Stage) → AllBelow n s → At (AtPlace n) s
by_place n s h = At-from_each (InLists (IdBelow n)) (no_groups-In (IdBelow n)) s h

from_places : (n : ℕ) (s : Stage) → At (AtPlace n) s → AllBelow n s
from_places n s h = each-from_At (InLists (IdBelow n)) s h

pub lists_of-below : (n : ℕ) (c : Context) (s : Stage) → AllBelow n s → InLists (IdBelow n) (lists_of s c)
lists_of-below n c s h = by_place n s h (place_of c)

pub task_lists-below : (n : ℕ) (s : Stage) (to : Option TaskNo) → AllBelow n s → InLists (IdBelow n) (task_lists s to)
task_lists-below n s to h = task_lists-in (InLists (IdBelow n)) (no_groups-In (IdBelow n)) s to (by_place n s h)

change_context-below : (n : ℕ) (c : Context) (f : Lists → Lists) (s : Stage) → ((l : Lists) → InLists (IdBelow n) l → InLists (IdBelow n) (f l)) → AllBelow n s → AllBelow n (change_context c f s)
change_context-below n c f s k h = from_places n (change_context c f s) (change_context-keeps (AtPlace n) (none_there n) c f s (k (lists_of s c)) (by_place n s h))

-- settling, ticks, switches, and instances that go
pub settle_all-below : (n : ℕ) (hw : Hardware) (s : Stage) → AllBelow n s → AllBelow n (settle_all hw s)
settle_all-below n hw s h = search (from_places, settle_all-keeps, none_there, settle_lists-in, by_place)

pub rotated-below : (n : ℕ) (hw : Hardware) (cpu : CpuNo) (s : Stage) → AllBelow n s → AllBelow n (rotated hw cpu s)
rotated-below n hw cpu s h = from_places n (rotated hw cpu s) (rotated-keeps (AtPlace n) (none_there n) hw (λ place. turn_lists-in (IdBelow n) hw) cpu s (by_place n s h))

pub switched-below : (n : ℕ) (cpu : CpuNo) (to : Option TaskNo) (s : Stage) → AllBelow n s → AllBelow n (switched cpu to s)
switched-below n cpu to s h = from_places n (switched cpu to s) (switched-keeps (AtPlace n) cpu to s (by_place n s h))

loses : (n place : ℕ) (goes : Instance → Bool) (l : Lists) → InLists (IdBelow n) l → InLists (IdBelow n) (without goes l)
loses n place goes l h = without-in (IdBelow n) (IdBelow n) goes (λ i stays k. k) l h

pub closed-below : (n : ℕ) (e : EventNo) (s : Stage) → AllBelow n s → AllBelow n (closed e s)
closed-below n e s h = from_places n (closed e s) (closed-keeps (AtPlace n) (loses n) e s (by_place n s h))

pub exited-below : (n : ℕ) (cpu : CpuNo) (s : Stage) → AllBelow n s → AllBelow n (exited cpu s)
exited-below n cpu s h = from_places n (exited cpu s) (exited-keeps (AtPlace n) (none_there n) (loses n) cpu s (by_place n s h))

-- commands, rings: a change of some instances that keeps ids
kept_id : (b : Bool) (i j : Instance) → i.id ≡ j.id → (if b then i else j).id ≡ j.id
kept_id true i j h = h
kept_id false i j h = refl

change_some-below : (n : ℕ) (test : Instance → Bool) (f : Instance → Instance) → ((i : Instance) → (f i).id ≡ i.id) → (s : Stage)
    → AllBelow n s → AllBelow n (change_each (λ i. if test i then f i else i) s)
change_some-below n test f same s h = search (map-Each, InLists, change_lists-in, kept_id)

pub command_each-below : (n : ℕ) (f : Own → Own) (events : List EventNo) (s : Stage) → AllBelow n s → AllBelow n (command_each f events s)
unfolding command_each
command_each-below n f events s h = change_some-below n (is_reached events) (λ i. record i { own = f i.own }) (λ i. refl) s h

pub with_period-below : (n : ℕ) (e : EventNo) (period : ℕ) (s : Stage) → AllBelow n s → AllBelow n (with_period e period s)
unfolding with_period
with_period-below n e period s h = change_some-below n (is_original e) (λ i. record i { attr = record i.attr { period = period } }) (λ i. refl) s h

pub mapped_to-below : (n : ℕ) (e : EventNo) (ring : RingNo) (s : Stage) → AllBelow n s → AllBelow n (mapped_to e ring s)
unfolding mapped_to
mapped_to-below n e ring s h = change_some-below n (is_original e) (λ i. record i { ring = Some ring; mapped = true }) (λ i. refl) s h

pub output_to-below : (n : ℕ) (e f : EventNo) (s : Stage) → AllBelow n s → AllBelow n (output_to e f s)
unfolding output_to
output_to-below n e f s h = change_some-below n (is_original e) (λ i. record i { ring = ring_of s f; mapped = false }) (λ i. refl) s h

-- opening
placed-below : (n : ℕ) (leader : Option EventNo) (i : Instance) (s : Stage) → i.id < n → AllBelow n s → AllBelow n (placed leader i s)
placed-below n None i s h k = search (change_context-below, add_group-in, cons-Each, none-Each)
placed-below n (Some e) i s h k = search (map-Each, InLists, join_lists-in)

opened-below : (s : Stage) (slot : EventNo) (a : Attr) (leader : Option EventNo) → AllBelow s.next_id s → AllBelow (s.next_id + 1) (opened s slot a leader)
unfolding opened
opened-below s slot a leader h = placed-below (s.next_id + 1) leader (new_original s slot a) s (omega arith) (AllBelow-more s.next_id (s.next_id + 1) (omega arith) s h)

pub opened-ids : (s : Stage) (slot : EventNo) (a : Attr) (leader : Option EventNo) → s.next_id ≤ (opened s slot a leader).next_id
unfolding opened
opened-ids s slot a leader = omega arith

pub opened_all-below : (s : Stage) (slot : EventNo) (a : Attr) (leader : Option EventNo) → AllBelow s.next_id s → AllBelow (opened s slot a leader).next_id (opened s slot a leader)
unfolding opened
opened_all-below s slot a leader h = opened-below s slot a leader h

-- forks: the copies of a group take the ids from a number on
copies_from-below : (s : Stage) (id n : ℕ) (instances : List Instance) → id + length instances ≤ n → Each (IdBelow n) (copies_from s id instances)
unfolding copies_from Each
copies_from-below s id n [] h = tt
copies_from-below s id n (i ∷ instances) h = (omega arith, copies_from-below s (id + 1) n instances (omega arith))

copy_group-below : (s : Stage) (id n : ℕ) (g : Group) → id + group_size g ≤ n → InGroup (IdBelow n) (copy_group s id g)
copy_group-below s id n g h = cons-Each (IdBelow n) (copy_of s id g.leader) (copies_from s (id + 1) g.siblings) (omega arith) (copies_from-below s (id + 1) n g.siblings (omega arith))

copy_groups-below : (s : Stage) (id n : ℕ) (groups : List Group) → id + sum_by group_size groups ≤ n → InGroups (IdBelow n) (copy_groups s id groups)
unfolding copy_groups Each
copy_groups-below s id n [] h = tt
copy_groups-below s id n (g ∷ groups) h =
    let e : sum_by group_size (g ∷ groups) ≡ group_size g + sum_by group_size groups = sum_by-cons group_size g groups in
    (copy_group-below s id n g (omega (arith, e, h)), copy_groups-below s (id + group_size g) n groups (omega (arith, e, h)))

copied-below : (s : Stage) (l : Lists) → InLists (IdBelow (s.next_id + new_copies l)) (copied s l)
copied-below s l = record {
  in_pinned = copy_groups-below s s.next_id (s.next_id + new_copies l) (inherited_groups l.pinned) (omega arith);
  in_flexible = copy_groups-below s (s.next_id + sum_by group_size (inherited_groups l.pinned)) (s.next_id + new_copies l) (inherited_groups l.flexible) (omega arith);
}

pub forked-below : (cpu : CpuNo) (child : TaskNo) (s : Stage) → AllBelow s.next_id s → AllBelow (forked cpu child s).next_id (forked cpu child s)
unfolding forked
forked-below cpu child s h =
    let parent : Lists = task_lists s (task_on s cpu) in
    let n : ℕ = s.next_id + new_copies parent in
    change_context-below n (context.Task child) (λ l. copied s parent) s (λ l k. copied-below s parent) (AllBelow-more s.next_id n (omega arith) s h)

pub forked-ids : (cpu : CpuNo) (child : TaskNo) (s : Stage) → s.next_id ≤ (forked cpu child s).next_id
unfolding forked
forked-ids cpu child s = omega arith

-- at first there is none
pub first_stage-below : (cpus : ℕ) (declared : List TaskNo) → AllBelow 1 (first_stage cpus declared)
unfolding first_stage
first_stage-below cpus declared = replicate-Each (InLists (IdBelow 1)) 72 no_groups (no_groups-In (IdBelow 1))
