-- Soundness does not look at the own states of leaders, and so settling keeps it, both ways.
use Rattle.std.specs.Prelude.{◌≡◌, List, [], ◌∷◌, ◌++◌, map, flat_map, Option, Some, None, slice_index_or}
use Rattle.std.proofs.{Common.{refl, sym, ap, ◌∙◌, inl, inr}, lemmas.{Bool.{cases_Bool}, List.{map-append}}, Math.Seq.{map-set_same}}
use Rattle.std.proofs.Math.ListN.{get_or-map}
use Rattle.perf_base.specs.declared.{numbers.{CpuNo.{CpuNo}, TaskNo.{TaskNo}}, standing.{Context.{Context}, Standing.{Standing}}}
use Rattle.perf_base.specs.declared.standing.Context.TheVariants as context
use Rattle.perf_base.specs.declared.standing.Own.TheVariants as own
use Rattle.perf_base.specs.declared.standing.Standing.TheVariants as standing
use Rattle.stage_spec.specs.{declared.instance.Instance.{Instance}, Hardware.{Hardware}}
use Rattle.stage_spec.specs.Stage.{Stage, Group, members_of, Lists, lists_of, no_groups, groups_in, all_groups, all_instances, members, place_of, task_on, change_context, all_cpus}
use Rattle.stage_spec.specs.Verdict.{Judged, is_eligible, judge, task_lists, instances_in, reached}
use Rattle.stage_spec.specs.Settle.{failed, settle_pass, settle_lists, settle_task, own_verdicts, settle, settle_each, settle_all}
use Rattle.stage_spec.proofs.Settling.{judged, settle_pass-here, settle_pass-away}

-- an instance without its own state, and a group without its leader's
abbrev pub bare : Instance → Instance
bare i = record i { own = own.Off }

abbrev pub bare_group : Group → Group
bare_group g = record g { leader = bare g.leader }

abbrev pub bare_lists : Lists → Lists
bare_lists l = record { pinned = map bare_group l.pinned; flexible = map bare_group l.flexible }

-- two stages that differ in leaders' own states alone
pub record AreLike (s t : Stage) : Type 0 where
  pub running : t.running ≡ s.running
  pub tasks : t.tasks ≡ s.tasks
  pub used : t.used ≡ s.used
  pub mapped : t.mapped ≡ s.mapped
  pub ids : t.next_id ≡ s.next_id
  pub contexts : map bare_lists t.contexts ≡ map bare_lists s.contexts

pub like-itself : (s : Stage) → AreLike s s
like-itself s = record { running = refl; tasks = refl; used = refl; mapped = refl; ids = refl; contexts = refl }

pub like-back : (s t : Stage) → AreLike s t → AreLike t s
like-back s t h = record { running = sym h.running; tasks = sym h.tasks; used = sym h.used; mapped = sym h.mapped; ids = sym h.ids; contexts = sym h.contexts }

pub like-then : (s t u : Stage) → AreLike s t → AreLike t u → AreLike s u
like-then s t u h k = record {
  running = k.running ∙ h.running;
  tasks = k.tasks ∙ h.tasks;
  used = k.used ∙ h.used;
  mapped = k.mapped ∙ h.mapped;
  ids = k.ids ∙ h.ids;
  contexts = k.contexts ∙ h.contexts;
}

-- settling changes own states of leaders alone
failed-bare : (v : Standing) (g : Group) → bare_group (failed v g) ≡ bare_group g
failed-bare standing.Out g = refl
failed-bare standing.On g = refl
failed-bare (standing.Refused c) g = refl

settle_pass-bare : (hw : Hardware) (cpu : CpuNo) (before within : List Judged) (groups : List Group) → map bare_group (settle_pass hw cpu before within groups) ≡ map bare_group groups
unfolding settle_pass
settle_pass-bare hw cpu before within [] = refl
settle_pass-bare hw cpu before within (g ∷ groups) =
    let v : Standing = judge hw before within g in
    elim (cases_Bool (is_eligible hw cpu g)) [
      | inl here ↦ ap (map bare_group) (settle_pass-here hw cpu before within g groups here)
          ∙ (rw (failed-bare v g) (ap (λ gs. bare_group g ∷ gs) (settle_pass-bare hw cpu before (within ++ judged g v ∷ []) groups)))
      | inr away ↦ ap (map bare_group) (settle_pass-away hw cpu before within g groups away) ∙ ap (λ gs. bare_group g ∷ gs) (settle_pass-bare hw cpu before within groups)
    ]

settle_lists-bare : (hw : Hardware) (cpu : CpuNo) (before : List Judged) (l : Lists) → bare_lists (settle_lists hw cpu before l) ≡ bare_lists l
settle_lists-bare hw cpu before l = ap (λ pinned. record (bare_lists l) { pinned = pinned }) (settle_pass-bare hw cpu before [] l.pinned)

change_context-like : (c : Context) (f : Lists → Lists) (s : Stage) → ((l : Lists) → bare_lists (f l) ≡ bare_lists l) → AreLike s (change_context c f s)
change_context-like c f s same = record {
  running = refl;
  tasks = refl;
  used = refl;
  mapped = refl;
  ids = refl;
  contexts = map-set_same bare_lists s.contexts (place_of c) (f (lists_of s c)) no_groups (same (lists_of s c));
}

settle_task-like : (hw : Hardware) (cpu : CpuNo) (before : List Judged) (to : Option TaskNo) (s : Stage) → AreLike s (settle_task hw cpu before to s)
settle_task-like hw cpu before None s = like-itself s
settle_task-like hw cpu before (Some task) s = change_context-like (context.Task task) (settle_lists hw cpu before) s (settle_lists-bare hw cpu before)

pub settle-like : (hw : Hardware) (cpu : CpuNo) (s : Stage) → AreLike s (settle hw cpu s)
unfolding settle
settle-like hw cpu s =
    let first : Stage = change_context (context.Processor cpu) (settle_lists hw cpu []) s in
    like-then s first (settle_task hw cpu (own_verdicts hw s cpu) (task_on s cpu) first) (change_context-like (context.Processor cpu) (settle_lists hw cpu []) s (settle_lists-bare hw cpu []))
    (settle_task-like hw cpu (own_verdicts hw s cpu) (task_on s cpu) first)

pub settle_each-like : (hw : Hardware) (cpus : List CpuNo) (s : Stage) → AreLike s (settle_each hw cpus s)
unfolding settle_each
settle_each-like hw [] s = like-itself s
settle_each-like hw (cpu ∷ cpus) s = like-then s (settle hw cpu s) (settle_each hw cpus (settle hw cpu s)) (settle-like hw cpu s) (settle_each-like hw cpus (settle hw cpu s))

pub settle_all-like : (hw : Hardware) (s : Stage) → AreLike s (settle_all hw s)
unfolding settle_all
settle_all-like hw s = settle_each-like hw (all_cpus s) s

-- the groups and instances of like stages
groups-bare : (l : Lists) → map bare_group (groups_in l) ≡ groups_in (bare_lists l)
groups-bare l = map-append bare_group l.pinned l.flexible

all_groups-bare : (contexts : List Lists) → map bare_group (flat_map groups_in contexts) ≡ flat_map groups_in (map bare_lists contexts)
all_groups-bare [] = refl
all_groups-bare (l ∷ ls) = map-append bare_group (groups_in l) (flat_map groups_in ls) ∙ (rw (groups-bare l, all_groups-bare ls) refl)

members-bare : (groups : List Group) → map bare (members (map bare_group groups)) ≡ map bare (members groups)
members-bare [] = refl
members-bare (g ∷ groups) =
    map-append bare (members_of (bare_group g)) (members (map bare_group groups))
    ∙ (ap (λ is. map bare (members_of g) ++ is) (members-bare groups) ∙ sym (map-append bare (members_of g) (members groups)))

pub lists-like : (s t : Stage) → AreLike s t → (c : Context) → bare_lists (lists_of t c) ≡ bare_lists (lists_of s c)
lists-like s t h c =
    sym (get_or-map bare_lists t.contexts (place_of c) no_groups) ∙ (ap (λ ls. slice_index_or ls (place_of c) no_groups) h.contexts ∙ get_or-map bare_lists s.contexts (place_of c) no_groups)

pub groups-like : (s t : Stage) → AreLike s t → map bare_group (all_groups t) ≡ map bare_group (all_groups s)
groups-like s t h = all_groups-bare t.contexts ∙ (ap (flat_map groups_in) h.contexts ∙ sym (all_groups-bare s.contexts))

-- equal groups but for leaders' own states have equal instances but for own states
pub instances-alike : (gs hs : List Group) → map bare_group gs ≡ map bare_group hs → map bare (members gs) ≡ map bare (members hs)
instances-alike gs hs h = sym (members-bare gs) ∙ (ap (λ groups. map bare (members groups)) h ∙ members-bare hs)

pub all-alike : (s t : Stage) → AreLike s t → map bare (all_instances t) ≡ map bare (all_instances s)
all-alike s t h = instances-alike (all_groups t) (all_groups s) (groups-like s t h)

pub context-alike : (s t : Stage) → AreLike s t → (c : Context) → map bare (instances_in t c) ≡ map bare (instances_in s c)
context-alike s t h c = instances-alike (groups_in (lists_of t c)) (groups_in (lists_of s c))
    (groups-bare (lists_of t c) ∙ (ap groups_in (lists-like s t h c) ∙ sym (groups-bare (lists_of s c))))

task_lists-like : (s t : Stage) → AreLike s t → (to : Option TaskNo) → bare_lists (task_lists t to) ≡ bare_lists (task_lists s to)
task_lists-like s t h None = refl
task_lists-like s t h (Some task) = lists-like s t h (context.Task task)

-- what a processor reaches by its own lists and its task's
abbrev four_lists : Lists → Lists → List Group
four_lists o k = o.pinned ++ (k.pinned ++ (o.flexible ++ (k.flexible ++ [])))

four-bare : (o k : Lists) → map bare_group (four_lists o k) ≡ four_lists (bare_lists o) (bare_lists k)
four-bare o k =
    map-append bare_group o.pinned (k.pinned ++ (o.flexible ++ (k.flexible ++ [])))
    ∙ ap (λ gs. map bare_group o.pinned ++ gs) (map-append bare_group k.pinned (o.flexible ++ (k.flexible ++ []))
    ∙ ap (λ gs. map bare_group k.pinned ++ gs) (map-append bare_group o.flexible (k.flexible ++ []) ∙ ap (λ gs. map bare_group o.flexible ++ gs) (map-append bare_group k.flexible [])))

pub reached-alike : (s t : Stage) → AreLike s t → (cpu : CpuNo) → map bare (reached t cpu) ≡ map bare (reached s cpu)
reached-alike s t h cpu =
    let to : task_on t cpu ≡ task_on s cpu = ap (λ r. slice_index_or r cpu.0 None) h.running in
    let same : bare_lists (task_lists t (task_on t cpu)) ≡ bare_lists (task_lists s (task_on s cpu)) = ap (λ o. bare_lists (task_lists t o)) to ∙ task_lists-like s t h (task_on s cpu) in
    let own : bare_lists (lists_of t (context.Processor cpu)) ≡ bare_lists (lists_of s (context.Processor cpu)) = lists-like s t h (context.Processor cpu) in
    instances-alike (four_lists (lists_of t (context.Processor cpu)) (task_lists t (task_on t cpu))) (four_lists (lists_of s (context.Processor cpu)) (task_lists s (task_on s cpu)))
    (four-bare (lists_of t (context.Processor cpu)) (task_lists t (task_on t cpu))
    ∙ (ap (λ o. four_lists o (bare_lists (task_lists t (task_on t cpu)))) own ∙ (ap (four_lists (bare_lists (lists_of s (context.Processor cpu)))) same
    ∙ sym (four-bare (lists_of s (context.Processor cpu)) (task_lists s (task_on s cpu))))))
