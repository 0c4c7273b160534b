-- The tally of groups that were told one after the other, by the definitions' verdicts.
use Rattle.std.specs.Prelude.{◌≡◌, ℕ, ◌≤◌, ◌==◌, Bool, true, false, not, ◌&&◌, cond, List, [], ◌∷◌, ◌++◌, map, filter, find, flat_map, count_by, Option, Some, None, option_map, if◌then◌else◌}
use Rattle.std.specs.{FinMap.{FinMap, get}, List.{fold}, Option.{unwrap_or, option_or}, Ordering.{nat_cmp}}
use Rattle.std.proofs.{Common.{arith, refl, sym, ap, subst, ◌∙◌, inl, inr, append_assoc}, lemmas.Bool.{cases_eq}}
use Rattle.std.proofs.lemmas.{List.{append-nil, map-append, Elements.{filter-append}, Folds.{find-append}}, Grind.{flat_map-append}}
use Rattle.perf_base.specs.declared.{numbers.{CpuNo.{CpuNo}, EventNo.{EventNo}, Key.{Key}}, standing.Standing.{Standing}}
use Rattle.perf_base.specs.Standings.{stands_on, stands_refused}
use Rattle.perf_base.specs.declared.standing.Standing.TheVariants as standing
use Rattle.stage_spec.specs.{declared.instance.Instance.{Instance}, Effective.{name_of, is_wholly_software, is_exclusive_group, counted_members}}
use Rattle.stage_spec.specs.{Hardware.{Hardware, mask_of}, Stage.{Group}}
use Rattle.stage_spec.specs.Verdict.{Judged, is_eligible, judge, judge_pass, judge_passes, groups_on, first_named, first_refused, with_masks, standing_among}
use Rattle.stage_spec.proofs.Settling.{judged, groups_on-append}
use Rattle.stage_laws.proofs.{Counts.{count-cons, count-append, count-filter}, Leaders.{find-first, find-later}}
use Rattle.world_spec.specs.{Kept.{leads, post_at, IsKept}, StageOf.{group_at}, Value.{World, instance_at, is_key, times}}
use Rattle.world_spec.proofs.{Keys.{key-is, is_key-same, is_key-other, times-push, once-true, once-false}, GoneStage.{AreLeading}}
use Rattle.world_spec.proofs.Listings.{count-none}
use Rattle.world_spec.proofs.Rescheduling.{is_led, is_about, about-groups, own_id, among-none, among-later, among-cons, same-id, count-leaders}
use Rattle.world_spec.proofs.Tables.{get-here, get-there}
use Rattle.cpu_sched.specs.Judging.{Tally, first_or, events_next, told_of, with_told, tell, next_pass, tell_pass}
use Rattle.world_spec.proofs.Standing.{with_masks-parts}

-- the standing that a table has at a key
abbrev pub stand_at : FinMap nat_cmp Standing → Key → Standing
stand_at t k = unwrap_or (get t k.0) standing.Out

-- the first that passes a test, with one more behind
pub first-stays : (name : EventNo) (o : Option EventNo) → first_or false name o ≡ o
first-stays name None = refl
first-stays name (Some group) = refl

first-by : {X : Type 0} (name : X → EventNo) (test : X → Bool) (xs : List X) (x : X) (b : Bool) (o : Option X) → find test xs ≡ o → test x ≡ b
    → option_map name (find test (xs ++ x ∷ [])) ≡ first_or b (name x) (option_map name o)
first-by name test xs x b (Some y) found is = ap (option_map name) (find-append test xs (x ∷ []) ∙ ap (λ o. option_or o (find test (x ∷ []))) found)
first-by name test xs x true None found is = grind (arith, find-append, find-first)
first-by name test xs x false None found is = grind (arith, find-append, find-later)

pub first-push : {X : Type 0} (name : X → EventNo) (test : X → Bool) (xs : List X) (x : X)
    → option_map name (find test (xs ++ x ∷ [])) ≡ first_or (test x) (name x) (option_map name (find test xs))
first-push name test xs x = first-by name test xs x (test x) (find test xs) refl refl

-- the groups that are on, with one more that was judged
on-push : (js : List Judged) (g : Group) (s : Standing) → groups_on (js ++ judged g s ∷ []) ≡ cond (stands_on s) (groups_on js ++ g ∷ []) (groups_on js)
on-push js g standing.Out = groups_on-append js (judged g standing.Out ∷ []) ∙ append-nil (groups_on js)
on-push js g standing.On = groups_on-append js (judged g standing.On ∷ [])
on-push js g (standing.Refused cause) = groups_on-append js (judged g (standing.Refused cause) ∷ []) ∙ append-nil (groups_on js)

named-by : (test : Group → Bool) (js : List Judged) (g : Group) (s : Standing) (b : Bool) → stands_on s ≡ b
    → first_named test (groups_on (js ++ judged g s ∷ [])) ≡ first_or (b && test g) (name_of g) (first_named test (groups_on js))
named-by test js g s true is = ap (first_named test) (on-push js g s ∙ ap (λ b. cond b (groups_on js ++ g ∷ []) (groups_on js)) is) ∙ first-push name_of test (groups_on js) g
named-by test js g s false is = grind (arith, on-push, first-stays)

named-push : (test : Group → Bool) (js : List Judged) (g : Group) (s : Standing)
    → first_named test (groups_on (js ++ judged g s ∷ [])) ≡ first_or (stands_on s && test g) (name_of g) (first_named test (groups_on js))
named-push test js g s = named-by test js g s (stands_on s) refl

-- the events of the groups that are on
abbrev events_of_on : Hardware → List Group → List (EventNo × ℕ)
events_of_on hw gs = with_masks hw (flat_map counted_members gs)

events-push : (hw : Hardware) (gs : List Group) (g : Group) → events_of_on hw (gs ++ g ∷ []) ≡ events_of_on hw gs ++ with_masks hw (counted_members g)
events-push hw gs g = grind (arith, flat_map-append, append-nil, with_masks-parts)

events-by : (hw : Hardware) (js : List Judged) (g : Group) (s : Standing) (b : Bool) → stands_on s ≡ b
    → events_of_on hw (groups_on (js ++ judged g s ∷ [])) ≡ (if b then events_of_on hw (groups_on js) ++ with_masks hw (counted_members g) else events_of_on hw (groups_on js))
events-by hw js g s true is = grind (arith, on-push, events-push)
events-by hw js g s false is = ap (events_of_on hw) (on-push js g s ∙ ap (λ b. cond b (groups_on js ++ g ∷ []) (groups_on js)) is)

-- What a tally is after some leaders were told: the standings are those among the verdicts before this pass and within
-- it, and so are the events and what is noted.
pub record Stands (v : World) (cpu : CpuNo) (start : FinMap nat_cmp Standing) (told : List Key) (before within : List Judged) (t : Tally) : Type 0 where
  pub groups : map (λ j. j.group) (before ++ within) ≡ filter (is_eligible v.hardware cpu) (map (group_at v) told)
  pub standings : (k : Key) → 1 ≤ times k told → stand_at t.standings k ≡ standing_among (before ++ within) (group_at v k)
  pub others : (k : Key) → times k told ≡ 0 → stand_at t.standings k ≡ stand_at start k
  pub events : t.events ≡ with_masks v.hardware (flat_map counted_members (groups_on (before ++ within)))
  pub exclusive : t.so_far.exclusive_on ≡ first_named is_exclusive_group (groups_on (before ++ within))
  pub first : t.so_far.first_on ≡ first_named (λ h. not (is_wholly_software h)) (groups_on (before ++ within))
  pub refused : t.so_far.refused ≡ first_refused within

-- the standing that is told is the definitions'
pub told-out : (hw : Hardware) (cpu : CpuNo) (g : Group) (t : Tally) → is_eligible hw cpu g ≡ false → told_of hw cpu g t ≡ standing.Out
told-out hw cpu g t out = grind arith

pub told-in : (v : World) (cpu : CpuNo) (start : FinMap nat_cmp Standing) (told : List Key) (before within : List Judged) (t : Tally) (g : Group)
    → Stands v cpu start told before within t → is_eligible v.hardware cpu g ≡ true → told_of v.hardware cpu g t ≡ judge v.hardware before within g
unfolding judge
told-in v cpu start told before within t g h eligible = grind (arith, with_masks-parts)

-- no verdict so far is about a leader that was not told
not-about : (v : World) (cpu : CpuNo) (k : Key) (told : List Key) (js : List Judged) → IsKept v.hardware v → AreLeading v told → leads (post_at v) k ≡ true → times k told ≡ 0
    → map (λ j. j.group) js ≡ filter (is_eligible v.hardware cpu) (map (group_at v) told) → count_by (is_about (instance_at v k).id) js ≡ 0
not-about v cpu k told js kept all lead none groups =
    let id : ℕ = (instance_at v k).id in
    omega (
      arith,
      about-groups id js,
      ap (count_by (is_led id)) groups,
      count-filter (is_led id) (is_eligible v.hardware cpu) (map (group_at v) told),
      count-leaders v id told,
      count-none (λ q. (instance_at v q).id == id) told (λ q some same. omega (arith, some, none, ap (λ x. times x told) (same-id v.hardware v kept q k (all q some) lead same))),
    )

-- a standing among verdicts of which the last is about another leader, and where the last alone is about it
among-push : (js : List Judged) (g h : Group) (s : Standing) → is_led h.leader.id g ≡ false → standing_among (js ++ judged g s ∷ []) h ≡ standing_among js h
among-push [] g h s other = among-cons (judged g s) [] h false other
among-push (j ∷ js) g h s other = ap {B = Standing} (λ x. elim (is_about h.leader.id j) as (λ b. Standing) [ true ↦ j.standing | false ↦ x ]) (among-push js g h s other)

among-last : (js : List Judged) (g : Group) (s : Standing) → count_by (is_about g.leader.id) js ≡ 0 → standing_among (js ++ judged g s ∷ []) g ≡ s
among-last js g s none = among-later js (judged g s ∷ []) g none ∙ among-cons (judged g s) [] g true (own_id g)

-- the groups of some leaders with one more
eligible-push : (hw : Hardware) (cpu : CpuNo) (v : World) (told : List Key) (k : Key) (b : Bool) → is_eligible hw cpu (group_at v k) ≡ b
    → filter (is_eligible hw cpu) (map (group_at v) (told ++ k ∷ [])) ≡ filter (is_eligible hw cpu) (map (group_at v) told) ++ cond b (group_at v k ∷ []) []
eligible-push hw cpu v told k b is = grind (arith, map-append, filter-append)

-- the keys told, with one more
told-before : (q k : Key) (told : List Key) → (q.0 ≡ k.0 → ⊥) → times q (told ++ k ∷ []) ≡ times q told
told-before q k told apart = omega (arith, times-push q told k, once-false (is_key q k) (is_key-other q k (λ e. apart (sym e))))

-- a group that is not eligible
pub step-out : (v : World) (cpu : CpuNo) (start : FinMap nat_cmp Standing) (told : List Key) (before within : List Judged) (t : Tally) (k : Key)
    → IsKept v.hardware v → AreLeading v told → leads (post_at v) k ≡ true → times k told ≡ 0 → Stands v cpu start told before within t → is_eligible v.hardware cpu (group_at v k) ≡ false
    → Stands v cpu start (told ++ k ∷ []) before within (with_told v.hardware (group_at v k) k standing.Out t)
step-out v cpu start told before within t k kept all lead none h out =
    let js : List Judged = before ++ within in
    let free : count_by (is_about (instance_at v k).id) js ≡ 0 = not-about v cpu k told js kept all lead none h.groups in
    record {
      groups = h.groups ∙ sym (eligible-push v.hardware cpu v told k false out ∙ append-nil (filter (is_eligible v.hardware cpu) (map (group_at v) told)));
      standings = λ q some. elim (cases_eq q.0 k.0) [
        | inl e ↦
            ap (λ o. unwrap_or o standing.Out) (get-here t.standings k.0 standing.Out q.0 e)
            ∙ sym (ap (λ x. standing_among js (group_at v x)) (key-is q k e) ∙ among-none js (group_at v k) free)
        | inr apart ↦ grind (arith, get-there, apart, told-before, some, told-before q k told apart)
      ];
      others = λ q zero.
          let apart : q.0 ≡ k.0 → ⊥ = λ e. omega (arith, zero, times-push q told k, once-true (is_key q k) (is_key-same q k (sym e))) in
          ap (λ o. unwrap_or o standing.Out) (get-there t.standings k.0 standing.Out q.0 apart) ∙ h.others q (omega (arith, zero, told-before q k told apart));
      events = h.events;
      exclusive = first-stays (name_of (group_at v k)) t.so_far.exclusive_on ∙ h.exclusive;
      first = first-stays (name_of (group_at v k)) t.so_far.first_on ∙ h.first;
      refused = first-stays (name_of (group_at v k)) t.so_far.refused ∙ h.refused;
    }

-- a group that is judged
pub step-in : (v : World) (cpu : CpuNo) (start : FinMap nat_cmp Standing) (told : List Key) (before within : List Judged) (t : Tally) (k : Key) (s : Standing)
    → IsKept v.hardware v → AreLeading v told → leads (post_at v) k ≡ true → times k told ≡ 0 → Stands v cpu start told before within t → is_eligible v.hardware cpu (group_at v k) ≡ true
    → Stands v cpu start (told ++ k ∷ []) before (within ++ judged (group_at v k) s ∷ []) (with_told v.hardware (group_at v k) k s t)
step-in v cpu start told before within t k s kept all lead none h in_it =
    let g : Group = group_at v k in
    let js : List Judged = before ++ within in
    let more : List Judged = js ++ judged g s ∷ [] in
    let is : before ++ (within ++ judged g s ∷ []) ≡ more = sym (append_assoc before within (judged g s ∷ [])) in
    let free : count_by (is_about g.leader.id) js ≡ 0 = not-about v cpu k told js kept all lead none h.groups in
    let other : (q : Key) → leads (post_at v) q ≡ true → (q.0 ≡ k.0 → ⊥) → is_led (instance_at v q).id g ≡ false = grind (arith, is_led, same-id) in
    record {
      groups = ap (map (λ j. j.group)) is ∙ (map-append (λ j. j.group) js (judged g s ∷ []) ∙ (ap (λ gs. gs ++ g ∷ []) h.groups ∙ sym (eligible-push v.hardware cpu v told k true in_it)));
      standings = λ q some. (elim (cases_eq q.0 k.0) [
        | inl e ↦
            ap (λ o. unwrap_or o standing.Out) (get-here t.standings k.0 s q.0 e)
            ∙ sym (ap (λ x. standing_among more (group_at v x)) (key-is q k e) ∙ among-last js g s free)
        | inr apart ↦ grind (arith, told-before, apart, get-there, among-push, some, told-before q k told apart)
      ]) ∙ ap (λ xs. standing_among xs (group_at v q)) (sym is);
      others = λ q zero.
          let apart : q.0 ≡ k.0 → ⊥ = λ e. omega (arith, zero, times-push q told k, once-true (is_key q k) (is_key-same q k (sym e))) in
          ap (λ o. unwrap_or o standing.Out) (get-there t.standings k.0 s q.0 apart) ∙ h.others q (omega (arith, zero, told-before q k told apart));
      events = ap (λ es. events_next s (with_masks v.hardware (counted_members g)) es) h.events
          ∙ (sym (events-by v.hardware js g s (stands_on s) refl) ∙ ap (λ xs. events_of_on v.hardware (groups_on xs)) (sym is));
      exclusive = ap (first_or (stands_on s && is_exclusive_group g) (name_of g)) h.exclusive
          ∙ (sym (named-push is_exclusive_group js g s) ∙ ap (λ xs. first_named is_exclusive_group (groups_on xs)) (sym is));
      first = ap (first_or (stands_on s && not (is_wholly_software g)) (name_of g)) h.first
          ∙ (sym (named-push (λ x. not (is_wholly_software x)) js g s) ∙ ap (λ xs. first_named (λ x. not (is_wholly_software x)) (groups_on xs)) (sym is));
      refused = ap (first_or (stands_refused s) (name_of g)) h.refused ∙ sym (first-push (λ j. name_of j.group) (λ j. stands_refused j.standing) within (judged g s));
    }

-- one group, eligible or not
pub step : (v : World) (cpu : CpuNo) (start : FinMap nat_cmp Standing) (told : List Key) (before within : List Judged) (t : Tally) (k : Key) (b : Bool)
    → IsKept v.hardware v → AreLeading v told → leads (post_at v) k ≡ true → times k told ≡ 0 → Stands v cpu start told before within t → is_eligible v.hardware cpu (group_at v k) ≡ b
    → Stands v cpu start (told ++ k ∷ []) before (cond b (within ++ judged (group_at v k) (judge v.hardware before within (group_at v k)) ∷ []) within) (tell v.hardware cpu (group_at v) t k)
step v cpu start told before within t k true kept all lead none h is =
    subst (λ s. Stands v cpu start (told ++ k ∷ []) before (within ++ judged (group_at v k) (judge v.hardware before within (group_at v k)) ∷ []) (with_told v.hardware (group_at v k) k s t))
    (sym (told-in v cpu start told before within t (group_at v k) h is))
    (step-in v cpu start told before within t k (judge v.hardware before within (group_at v k)) kept all lead none h is)
step v cpu start told before within t k false kept all lead none h is =
    subst (λ s. Stands v cpu start (told ++ k ∷ []) before within (with_told v.hardware (group_at v k) k s t)) (sym (told-out v.hardware cpu (group_at v k) t is))
    (step-out v cpu start told before within t k kept all lead none h is)

pub judge-next : (v : World) (cpu : CpuNo) (before within : List Judged) (k : Key) (keys : List Key) (b : Bool) → is_eligible v.hardware cpu (group_at v k) ≡ b
    → judge_pass v.hardware before within (filter (is_eligible v.hardware cpu) (map (group_at v) (k ∷ keys)))
    ≡ judge_pass v.hardware before (cond b (within ++ judged (group_at v k) (judge v.hardware before within (group_at v k)) ∷ []) within) (filter (is_eligible v.hardware cpu) (map (group_at v) keys))
unfolding judge_pass
judge-next v cpu before within k keys true is = grind arith
judge-next v cpu before within k keys false is = grind arith

pub judge-none : (hw : Hardware) (before within : List Judged) → judge_pass hw before within [] ≡ within
unfolding judge_pass
judge-none hw before within = refl

-- the leaders of a list that begins with some and goes on with one
pub seam : (told : List Key) (k : Key) (keys : List Key) → told ++ (k ∷ keys) ≡ (told ++ k ∷ []) ++ keys
seam told k keys = sym (append_assoc told (k ∷ []) keys)

pub first-of_all : (told keys : List Key) (q : Key) → times q told ≤ times q (told ++ keys)
first-of_all told keys q = omega (arith, count-append (is_key q) told keys)

pub next-fresh : (told : List Key) (k : Key) (keys : List Key) → times k (told ++ (k ∷ keys)) ≤ 1 → times k told ≡ 0
next-fresh told k keys few =
    omega (arith, few, count-append (is_key k) told (k ∷ keys), count-cons (is_key k) k keys, once-true (is_key k k) (is_key-same k k refl))

pub next-some : (told : List Key) (k : Key) (keys : List Key) → 1 ≤ times k (told ++ (k ∷ keys))
next-some told k keys = omega (arith, count-append (is_key k) told (k ∷ keys), count-cons (is_key k) k keys, once-true (is_key k k) (is_key-same k k refl))

-- the groups of a pass
pub fold-told : (v : World) (cpu : CpuNo) (start : FinMap nat_cmp Standing) (keys told : List Key) (before within : List Judged) (t : Tally)
    → IsKept v.hardware v → AreLeading v (told ++ keys) → ((q : Key) → times q (told ++ keys) ≤ 1) → Stands v cpu start told before within t
    → Stands v cpu start (told ++ keys) before (judge_pass v.hardware before within (filter (is_eligible v.hardware cpu) (map (group_at v) keys))) (fold (tell v.hardware cpu (group_at v)) t keys)
fold-told v cpu start [] told before within t kept all once h =
    subst (λ js. Stands v cpu start (told ++ []) before js t) (sym (judge-none v.hardware before within)) (subst (λ ks. Stands v cpu start ks before within t) (sym (append-nil told)) h)
fold-told v cpu start (k ∷ keys) told before within t kept all once h =
    let b : Bool = is_eligible v.hardware cpu (group_at v k) in
    let now : List Judged = cond b (within ++ judged (group_at v k) (judge v.hardware before within (group_at v k)) ∷ []) within in
    let first : Stands v cpu start (told ++ k ∷ []) before now (tell v.hardware cpu (group_at v) t k) =
    step v cpu start told before within t k b kept (λ q some. all q (omega (arith, some, first-of_all told (k ∷ keys) q))) (all k (next-some told k keys)) (next-fresh told k keys (once k)) h refl in
    let rest : Stands v cpu start ((told ++ k ∷ []) ++ keys) before (judge_pass v.hardware before now (filter (is_eligible v.hardware cpu) (map (group_at v) keys)))
    (fold (tell v.hardware cpu (group_at v)) (tell v.hardware cpu (group_at v) t k) keys) =
    fold-told v cpu start keys (told ++ k ∷ []) before now (tell v.hardware cpu (group_at v) t k) kept
    (subst (AreLeading v) (seam told k keys) all) (subst (λ ks. (q : Key) → times q ks ≤ 1) (seam told k keys) once) first in
    grind (arith, seam, judge-next, b, rest)

-- the next pass
pub pass-over : (v : World) (cpu : CpuNo) (start : FinMap nat_cmp Standing) (told : List Key) (before within : List Judged) (t : Tally)
    → Stands v cpu start told before within t → Stands v cpu start told (before ++ within) [] (next_pass t)
pass-over v cpu start told before within t h =
    let same : before ++ within ≡ (before ++ within) ++ [] = sym (append-nil (before ++ within)) in
    grind (arith, append-nil, same)

pub judges-next : (hw : Hardware) (before : List Judged) (p : List Group) (ps : List (List Group)) → judge_passes hw before (p ∷ ps) ≡ judge_passes hw (before ++ judge_pass hw before [] p) ps
unfolding judge_passes
judges-next hw before p ps = refl

pub judges-none : (hw : Hardware) (before : List Judged) → judge_passes hw before [] ≡ before
unfolding judge_passes
judges-none hw before = refl

abbrev pub told_all : List (List Key) → List Key
told_all ps = flat_map (λ keys. keys) ps

-- all passes
pub passes-told : (v : World) (cpu : CpuNo) (start : FinMap nat_cmp Standing) (ps : List (List Key)) (told : List Key) (before : List Judged) (t : Tally)
    → IsKept v.hardware v → AreLeading v (told ++ told_all ps) → ((q : Key) → times q (told ++ told_all ps) ≤ 1) → Stands v cpu start told before [] t
    → Stands v cpu start (told ++ told_all ps) (judge_passes v.hardware before (map (filter (is_eligible v.hardware cpu)) (map (map (group_at v)) ps))) [] (fold (tell_pass v.hardware cpu (group_at v)) t ps)
passes-told v cpu start [] told before t kept all once h =
    subst (λ js. Stands v cpu start (told ++ []) js [] t) (sym (judges-none v.hardware before)) (subst (λ ks. Stands v cpu start ks before [] t) (sym (append-nil told)) h)
passes-told v cpu start (p ∷ ps) told before t kept all once h =
    let groups : List Group = filter (is_eligible v.hardware cpu) (map (group_at v) p) in
    let along : told ++ (p ++ told_all ps) ≡ (told ++ p) ++ told_all ps = sym (append_assoc told p (told_all ps)) in
    let all_now : AreLeading v ((told ++ p) ++ told_all ps) = subst (AreLeading v) along all in
    let once_now : (q : Key) → times q ((told ++ p) ++ told_all ps) ≤ 1 = subst (λ ks. (q : Key) → times q ks ≤ 1) along once in
    let first : Stands v cpu start (told ++ p) before (judge_pass v.hardware before [] groups) (fold (tell v.hardware cpu (group_at v)) t p) =
    fold-told v cpu start p told before [] t kept (λ q some. all_now q (omega (arith, some, first-of_all (told ++ p) (told_all ps) q)))
    (λ q. omega (arith, once_now q, first-of_all (told ++ p) (told_all ps) q)) h in
    let rest : Stands v cpu start ((told ++ p) ++ told_all ps) (judge_passes v.hardware (before ++ judge_pass v.hardware before [] groups) (map (filter (is_eligible v.hardware cpu)) (map (map (group_at v)) ps))) []
    (fold (tell_pass v.hardware cpu (group_at v)) (tell_pass v.hardware cpu (group_at v) t p) ps) =
    passes-told v cpu start ps (told ++ p) (before ++ judge_pass v.hardware before [] groups) (tell_pass v.hardware cpu (group_at v) t p) kept all_now once_now
    (pass-over v cpu start (told ++ p) before (judge_pass v.hardware before [] groups) (fold (tell v.hardware cpu (group_at v)) t p) first) in
    grind (arith, along, judges-next, groups, rest)
