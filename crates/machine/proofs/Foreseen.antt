-- The brief of a processor after a line's own change is the one that was foreseen before the line.
use Rattle.std.specs.Prelude.{◌≡◌, ◌≢◌, ◌<◌, ◌≤◌, Bool, true, false, not, ◌&&◌, ◌||◌, cond, List, [], ◌∷◌, ◌++◌, map, filter, find, length, Option, Some, None}
use Rattle.std.{specs.List.{list_any}, proofs.Common.{arith, refl, sym, ap, ◌∙◌, inl, inr, get_or-set_same, get_or-set_other}}
use Rattle.std.proofs.lemmas.{Bool.{cases_Bool, false≢true}, List.{length-map, length-set}}
use Rattle.perf_base.specs.{declared.{numbers.{CpuNo.{CpuNo}, Key.{Key}, TaskNo.{TaskNo}}, standing.Context.{Context}}, Standings.{stands_on}}
use Rattle.perf_base.specs.declared.lines.CpuLine.TheVariants as line
use Rattle.perf_base.specs.declared.standing.Context.TheVariants as context
use Rattle.stage_spec.specs.{Effective.{is_wholly_software}, Exits.{exited, exited_by}, Hardware.{Hardware, counters_of}, Rotation.{takes_turns}}
use Rattle.stage_spec.specs.{Stage.{Stage, Group, lists_of, place_of, task_on}, Verdict.{is_eligible}}
use Rattle.stage_spec.proofs.Settled.{place_of-cpu}
use Rattle.stage_laws.{specs.{Briefs.{GroupBrief}, Standings.{brief_of}}, proofs.Leaders.{find-first, find-later}}
use Rattle.world_spec.specs.{Changes.{all_but, place}, Kept.{IsKept}, Listings.{task_leaders}, StageOf.{group_at, lists_at, stage_of}}
use Rattle.world_spec.specs.Value.{World, no_leaders, leaders_of, standing_at, is_key, times}
use Rattle.world_spec.proofs.Keys.{is_key-same, is_key-other, times-cons, once-true, all_but-cons, all_but-none}
use Rattle.cpu_sched.specs.After.{after_brief, brief_with, hardware_goes_last, some_wait, turned_groups}
use Rattle.cpu_sched.specs.Briefs.{ProcessorBrief, brief_at, briefs_at, present_brief}
use Rattle.exit_fold.specs.Leaving.{HasExited}
use Rattle.world_spec.proofs.Placing.{task-low}
use Rattle.task_moves.specs.Turning.{last_if, turn_in, turn_keys, turn_of_task, turned_world, turning, waits_there}
use Rattle.task_moves.proofs.Turning.{flexible-once, found-there}
use Rattle.cpu_sched.proofs.Bounded.{briefs-append}
use Rattle.cpu_sched.proofs.Turned.{goes-by, goes-none}
use Rattle.world_spec.proofs.Listings.{lists-are}
use Rattle.task_moves.proofs.Rotating.{turned-elsewhere}

-- A group's brief goes by its leader's key and by the group alone.
abbrev brief_by : Hardware → Key → Group → GroupBrief Key
brief_by hw k g = record {
  leader = k;
  slot = (brief_of hw g).slot;
  software = (brief_of hw g).software;
  exclusive = (brief_of hw g).exclusive;
  counted = (brief_of hw g).counted;
}

abbrev taken_by : Hardware → CpuNo → Key → Group → List (GroupBrief Key) → List (GroupBrief Key)
taken_by hw cpu k g rest = cond (is_eligible hw cpu g) (brief_by hw k g ∷ rest) rest

map-cond : {X Y : Type 0} (f : X → Y) (b : Bool) (x : X) (xs : List X) → map f (cond b (x ∷ xs) xs) ≡ cond b (f x ∷ map f xs) (map f xs)
map-cond f true x xs = refl
map-cond f false x xs = refl

briefs-cons : (w : World) (cpu : CpuNo) (k : Key) (keys : List Key) → briefs_at w cpu (k ∷ keys) ≡ taken_by w.hardware cpu k (group_at w k) (briefs_at w cpu keys)
briefs-cons w cpu k keys = map-cond (brief_at w) (is_eligible w.hardware cpu (group_at w k)) k (filter (λ j. is_eligible w.hardware cpu (group_at w j)) keys)

abbrev first_or : {X : Type 0} → X → List X → X
first_or d [] = d
first_or d (x ∷ xs) = x

abbrev others_of : {X : Type 0} → List X → List X
others_of [] = []
others_of (x ∷ xs) = xs

briefs-by : (w v : World) (cpu : CpuNo) (keys : List Key) → v.hardware ≡ w.hardware → map (group_at v) keys ≡ map (group_at w) keys → briefs_at v cpu keys ≡ briefs_at w cpu keys
briefs-by w v cpu [] hardware same = refl
briefs-by w v cpu (k ∷ keys) hardware same = grind (arith, briefs-cons, briefs-by w v cpu keys hardware (ap others_of same))

-- A switch brings the groups of the task that it names.
with-placed : (w : World) (cpu : CpuNo) (to : Option TaskNo) (o : Option TaskNo) → brief_with (place cpu to w) cpu o ≡ brief_with w cpu o
with-placed w cpu None None = refl
with-placed w cpu None (Some task) = refl
with-placed w cpu (Some to) None = refl
with-placed w cpu (Some to) (Some task) = refl

on-placed : (w : World) (cpu : CpuNo) (to : Option TaskNo) → cpu.0 < length w.quiet.running → task_on (stage_of (place cpu to w)) cpu ≡ to
on-placed w cpu None low = get_or-set_same w.quiet.running cpu.0 None None low
on-placed w cpu (Some task) low = get_or-set_same w.quiet.running cpu.0 (Some task) None low

pub switch-foreseen : (w a b : World) (cpu : CpuNo) (to : Option TaskNo) → cpu.0 < length w.quiet.running → a ≡ record w { accounts = a.accounts } → b ≡ place cpu to a
    → present_brief b cpu ≡ after_brief w cpu (line.Switch to)
switch-foreseen w a b cpu to low first moved =
    let v : World = record w { accounts = a.accounts } in
    ap (λ (y : World). present_brief y cpu) (moved ∙ ap (place cpu to) first)
    ∙ (ap (brief_with (place cpu to v) cpu) (on-placed v cpu to low) ∙ with-placed v cpu to to)

-- An exit leaves the groups of the processor alone.
own-place_apart : (cpu : CpuNo) (task : TaskNo) → cpu.0 < 8 → place_of (context.Processor cpu) ≢ place_of (context.Task task)
own-place_apart cpu task low same = omega (arith, same, place_of-cpu cpu low, low)

pub idle-then : (s : Stage) (cpu : CpuNo) (o : Option TaskNo) → task_on s cpu ≡ o → cpu.0 < length s.running → task_on (exited_by cpu o s) cpu ≡ None
idle-then s cpu None on low = on
idle-then s cpu (Some task) on low = get_or-set_same s.running cpu.0 None None low

pub own-then : (s : Stage) (cpu : CpuNo) (o : Option TaskNo) → cpu.0 < 8 → lists_of (exited_by cpu o s) (context.Processor cpu) ≡ lists_of s (context.Processor cpu)
own-then s cpu None low = refl
own-then s cpu (Some task) low = grind (arith, get_or-set_other, own-place_apart)

pub exit-foreseen : (w v : World) (cpu : CpuNo) → cpu.0 < 8 → cpu.0 < length w.quiet.running → stage_of v ≡ exited cpu (stage_of w) → HasExited w v (task_on (stage_of w) cpu)
    → present_brief v cpu ≡ after_brief w cpu line.Exit
unfolding exited
exit-foreseen w v cpu small low stage x =
    let s : Stage = stage_of w in
    let own : Context = context.Processor cpu in
    let idle : task_on (stage_of v) cpu ≡ None = ap (λ t. task_on t cpu) stage ∙ idle-then s cpu (task_on s cpu) refl low in
    let groups : lists_at v (leaders_of w own) ≡ lists_at w (leaders_of w own) =
    ap (lists_at v) (sym (x.leaders cpu)) ∙ (sym (lists-are v own) ∙ (ap (λ t. lists_of t own) stage ∙ (own-then s cpu (task_on s cpu) small ∙ lists-are w own))) in
    let pinned : briefs_at v cpu (leaders_of v own).pinned ≡ briefs_at w cpu (leaders_of w own).pinned = grind (arith, briefs-by) in
    let flexible : briefs_at v cpu (leaders_of v own).flexible ≡ briefs_at w cpu (leaders_of w own).flexible = grind (arith, briefs-by) in
    let same : brief_with v cpu None ≡ brief_with w cpu None = λ i. record { counters = counters_of (x.gone.hardware i) cpu; passes = pinned i ∷ [] ∷ flexible i ∷ [] ∷ [] } in
    ap (brief_with v cpu) idle ∙ same

-- Whether some group waits, by leaders and by briefs.
wait-cond : (w : World) (b : Bool) (g : GroupBrief Key) (rest : List (GroupBrief Key))
    → some_wait w (cond b (g ∷ rest) rest) ≡ ((b && not (stands_on (standing_at w g.leader))) || some_wait w rest)
wait-cond w true g rest = refl
wait-cond w false g rest = refl

some-wait : (w : World) (cpu : CpuNo) (keys : List Key) → some_wait w (briefs_at w cpu keys) ≡ list_any (waits_there w cpu) keys
some-wait w cpu [] = refl
some-wait w cpu (k ∷ keys) = grind (arith, briefs-cons, wait-cond, some-wait w cpu keys)

-- The first hardware group that is eligible goes last, by leaders and by briefs.
goes-on : (b s : Bool) (g : GroupBrief Key) (rest : List (GroupBrief Key)) → g.software ≡ s → (b && not s) ≡ true
    → (hardware_goes_last (cond b (g ∷ rest) rest) ≡ rest ++ g ∷ []) × (cond b (g ∷ []) [] ≡ g ∷ [])
goes-on true true g rest is on = absurd (false≢true on)
goes-on true false g rest is on = (goes-by g rest false is, refl)
goes-on false s g rest is on = absurd (false≢true on)

goes-off : (b s : Bool) (g : GroupBrief Key) (rest : List (GroupBrief Key)) → g.software ≡ s → (b && not s) ≡ false
    → hardware_goes_last (cond b (g ∷ rest) rest) ≡ cond b (g ∷ hardware_goes_last rest) (hardware_goes_last rest)
goes-off true true g rest is off = goes-by g rest true is
goes-off true false g rest is off = absurd (false≢true (sym off))
goes-off false s g rest is off = refl

abbrev takes : World → CpuNo → Key → Bool
takes w cpu k = takes_turns w.hardware cpu (group_at w k)

later-brief : (w : World) (cpu : CpuNo) (q : Key) (keys : List Key) (o : Option Key) → ((j : Key) → times j (q ∷ keys) ≤ 1) → find (takes w cpu) keys ≡ o → takes w cpu q ≡ false
    → briefs_at w cpu (last_if o keys) ≡ hardware_goes_last (briefs_at w cpu keys) → briefs_at w cpu (last_if o (q ∷ keys)) ≡ hardware_goes_last (briefs_at w cpu (q ∷ keys))
later-brief w cpu q keys None once found off rest = grind (arith, briefs-cons, goes-off)
later-brief w cpu q keys (Some k) once found off rest =
    let g : Group = group_at w q in
    let there : 1 ≤ times k keys = found-there (takes w cpu) keys k found in
    let apart : q.0 ≡ k.0 → ⊥ = λ e. omega (arith, once k, there, times-cons k q keys, once-true (is_key k q) (is_key-same k q e)) in
    let but : all_but k (q ∷ keys) ≡ q ∷ all_but k keys = all_but-cons k q keys false (is_key-other k q apart) in
    grind (arith, but, briefs-cons, g, goes-off)

first-last : (w : World) (cpu : CpuNo) (keys : List Key) (o : Option Key) → ((j : Key) → times j keys ≤ 1) → find (takes w cpu) keys ≡ o
    → briefs_at w cpu (last_if o keys) ≡ hardware_goes_last (briefs_at w cpu keys)
first-last w cpu [] None once found = sym goes-none
first-last w cpu [] (Some k) once found = absurd (cc)
first-last w cpu (q ∷ keys) o once found = elim (cases_Bool (takes w cpu q)) [
  | inl on ↦
      let g : Group = group_at w q in
      let is : o ≡ Some q = sym found ∙ find-first (takes w cpu) q keys on in
      let none : times q keys ≡ 0 = omega (arith, once q, times-cons q q keys, once-true (is_key q q) (is_key-same q q refl)) in
      let own : all_but q (q ∷ keys) ≡ keys = all_but-cons q q keys true (is_key-same q q refl) ∙ all_but-none q keys none in
      let goes : (hardware_goes_last (taken_by w.hardware cpu q g (briefs_at w cpu keys)) ≡ briefs_at w cpu keys ++ brief_at w q ∷ []) × (taken_by w.hardware cpu q g [] ≡ brief_at w q ∷ []) =
      goes-on (is_eligible w.hardware cpu g) (is_wholly_software g) (brief_at w q) (briefs_at w cpu keys) refl on in
      ap (λ x. briefs_at w cpu (last_if x (q ∷ keys))) is
      ∙ (ap (λ ks. briefs_at w cpu (ks ++ q ∷ [])) own
      ∙ (briefs-append w cpu keys (q ∷ [])
      ∙ (ap (λ gs. briefs_at w cpu keys ++ gs) (briefs-cons w cpu q [] ∙ goes.1) ∙ sym (ap hardware_goes_last (briefs-cons w cpu q keys) ∙ goes.0))))
  | inr off ↦
      let found_then : find (takes w cpu) keys ≡ o = sym (find-later (takes w cpu) q keys off) ∙ found in
      let few : (j : Key) → times j keys ≤ 1 = λ j. omega (arith, once j, times-cons j q keys) in
      later-brief w cpu q keys o once found_then off (first-last w cpu keys o few found_then)
]

turned-by : (w : World) (cpu : CpuNo) (keys : List Key) (b : Bool) → ((j : Key) → times j keys ≤ 1) → list_any (waits_there w cpu) keys ≡ b
    → briefs_at w cpu (last_if (turning w cpu keys) keys) ≡ turned_groups w (briefs_at w cpu keys)
turned-by w cpu keys true once waiting = grind (arith, first-last, some-wait)
turned-by w cpu keys false once waiting = grind (arith, some-wait)

turned-flexible : (hw : Hardware) (w : World) (cpu : CpuNo) (c : Context) → IsKept hw w → briefs_at w cpu (turn_keys w cpu (leaders_of w c)).flexible ≡ turned_groups w (briefs_at w cpu (leaders_of w c).flexible)
turned-flexible hw w cpu c h = turned-by w cpu (leaders_of w c).flexible (list_any (waits_there w cpu) (leaders_of w c).flexible) (flexible-once hw w c h) refl

-- A tick turns both lists.
abbrev turned_with : World → CpuNo → Option TaskNo → ProcessorBrief
turned_with w cpu task = record {
  counters = counters_of w.hardware cpu;
  passes = briefs_at w cpu (leaders_of w (context.Processor cpu)).pinned ∷ briefs_at w cpu (task_leaders w task).pinned
      ∷ turned_groups w (briefs_at w cpu (leaders_of w (context.Processor cpu)).flexible) ∷ turned_groups w (briefs_at w cpu (task_leaders w task).flexible) ∷ [];
}

turned-lists : (w : World) (cpu : CpuNo) (c : Context) → place_of c < length w.contexts → leaders_of (turn_in cpu c w) c ≡ turn_keys w cpu (leaders_of w c)
turned-lists w cpu c low = get_or-set_same w.contexts (place_of c) (turn_keys w cpu (leaders_of w c)) no_leaders low

tick-by : (hw : Hardware) (w : World) (cpu : CpuNo) (o : Option TaskNo) → IsKept hw w → cpu.0 < 8 → task_on (stage_of w) cpu ≡ o
    → present_brief (turn_of_task cpu o (turn_in cpu (context.Processor cpu) w)) cpu ≡ turned_with w cpu o
tick-by hw w cpu None h small on =
    let own : Context = context.Processor cpu in
    let v : World = turn_in cpu own w in
    let size : length w.contexts ≡ 72 = sym (length-map w.contexts (lists_at w)) ∙ h.shape.contexts in
    let here : leaders_of v own ≡ turn_keys w cpu (leaders_of w own) = turned-lists w cpu own (omega (arith, size, place_of-cpu cpu small, small)) in
    let flexible : briefs_at w cpu (leaders_of v own).flexible ≡ turned_groups w (briefs_at w cpu (leaders_of w own).flexible) =
    ap (λ l. briefs_at w cpu l.flexible) here ∙ turned-flexible hw w cpu own h in
    let same : brief_with v cpu None ≡ turned_with w cpu None = λ i. record { counters = counters_of w.hardware cpu; passes = briefs_at w cpu (here i).pinned ∷ [] ∷ flexible i ∷ [] ∷ [] } in
    ap (brief_with v cpu) on ∙ same
tick-by hw w cpu (Some task) h small on =
    let own : Context = context.Processor cpu in
    let other : Context = context.Task task in
    let first : World = turn_in cpu own w in
    let v : World = turn_in cpu other first in
    let size : length w.contexts ≡ 72 = sym (length-map w.contexts (lists_at w)) ∙ h.shape.contexts in
    let wide : length first.contexts ≡ 72 = length-set w.contexts (place_of own) (turn_keys w cpu (leaders_of w own)) ∙ size in
    let task_small : task.0 < 64 = task-low hw w cpu task h on in
    let here : leaders_of v own ≡ turn_keys w cpu (leaders_of w own) =
    turned-elsewhere first cpu other own (own-place_apart cpu task small) ∙ turned-lists w cpu own (omega (arith, size, place_of-cpu cpu small, small)) in
    let there : leaders_of v other ≡ turn_keys w cpu (leaders_of w other) =
    turned-lists first cpu other (omega (arith, wide, task_small)) ∙ ap (turn_keys w cpu) (turned-elsewhere w cpu own other (λ e. own-place_apart cpu task small (sym e))) in
    let own_flexible : briefs_at w cpu (leaders_of v own).flexible ≡ turned_groups w (briefs_at w cpu (leaders_of w own).flexible) =
    ap (λ l. briefs_at w cpu l.flexible) here ∙ turned-flexible hw w cpu own h in
    let task_flexible : briefs_at w cpu (leaders_of v other).flexible ≡ turned_groups w (briefs_at w cpu (leaders_of w other).flexible) =
    ap (λ l. briefs_at w cpu l.flexible) there ∙ turned-flexible hw w cpu other h in
    let same : brief_with v cpu (Some task) ≡ turned_with w cpu (Some task) = grind arith in
    ap (brief_with v cpu) on ∙ same

pub tick-foreseen : (w v : World) (cpu : CpuNo) → IsKept w.hardware w → cpu.0 < 8 → v ≡ turned_world cpu w → present_brief v cpu ≡ after_brief w cpu line.Tick
tick-foreseen w v cpu h small is = ap (λ (y : World). present_brief y cpu) is ∙ tick-by w.hardware w cpu (task_on (stage_of w) cpu) h small refl
