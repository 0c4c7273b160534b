-- Judging briefs in place of groups.
use Rattle.std.specs.Prelude.{◌≡◌, ℕ, ◌&&◌, Bool, true, false, not, cond, List, [], ◌∷◌, ◌++◌, map, filter, flat_map, Option, Some, None, take}
use Rattle.std.{specs.List.{list_all, list_any}, proofs.{Common.{refl, sym, ap, ◌∙◌}, lemmas.List.{map-append, Elements.{filter-append}}}}
use Rattle.std.proofs.{lemmas.Simd.{map-map}, Math.ListN.{get_or-map}}
use Rattle.perf_base.specs.declared.{numbers.{CpuNo.{CpuNo}, EventNo.{EventNo}, TaskNo.{TaskNo}}, standing.{Context.{Context}, Standing.{Standing}}}
use Rattle.perf_base.specs.Standings.{stands_on, stands_refused}
use Rattle.perf_base.specs.declared.standing.Context.TheVariants as context
use Rattle.stage_spec.specs.{declared.instance.Instance.{Instance}, Flags.{is_exclusive}, Hardware.{Hardware, is_software, is_counted_on, mask_of}}
use Rattle.stage_spec.specs.Places.{may_count_on}
use Rattle.stage_spec.specs.Stage.{Stage, Group, members_of, lists_of, no_groups, place_of, task_on, change_group, change_lists, change_each}
use Rattle.stage_spec.specs.{Effective.{is_ready, is_hardware, is_wholly_software, is_exclusive_group, counted_members}, Rules.{ruling_of}}
use Rattle.stage_spec.specs.Verdict.{Judged, is_eligible, groups_on, first_named, first_refused, with_masks, by_ruling, judge, judge_pass, judge_passes, passes, task_lists, verdicts}
use Rattle.stage_spec.specs.Settle.{pinned_verdicts}
use Rattle.stage_laws.specs.Briefs.{GroupBrief, JudgedBrief, briefs_on, first_slot, first_brief_refused, judge_brief, judge_briefs, judge_brief_passes, standings_by, seated_by}
use Rattle.stage_laws.specs.Standings.{brief_of, briefs, BriefsLaw, JudgedBriefsLaw, SeatedBriefsLaw, KeepsBrief}
use Rattle.stage_laws.proofs.Images.{map-same, filter-map, find-image}

abbrev summed : Hardware → Judged → JudgedBrief ℕ
summed hw j = record { brief = brief_of hw j.group; standing = j.standing }

-- judging groups is judging their briefs
on-summed : (hw : Hardware) (js : List Judged) → briefs_on (map (summed hw) js) ≡ map (brief_of hw) (groups_on js)
on-summed hw js = ap (map (λ j. j.brief)) (filter-map (λ j. stands_on j.standing) (λ j. stands_on j.standing) (summed hw) (λ j. refl) js)
    ∙ (map-map (λ j. j.brief) (summed hw) (filter (λ j. stands_on j.standing) js) ∙ sym (map-map (brief_of hw) (λ j. j.group) (filter (λ j. stands_on j.standing) js)))

map-before : {X Y : Type 0} (f : X → Y) (xs ys zs : List X) (rest : List Y) → rest ++ map f zs ≡ map f (ys ++ zs) → (map f xs ++ rest) ++ map f zs ≡ map f ((xs ++ ys) ++ zs)
map-before f [] ys zs rest h = h
map-before f (x ∷ xs) ys zs rest h = ap (λ ws. f x ∷ ws) (map-before f xs ys zs rest h)

counted-summed : (hw : Hardware) (gs : List Group) (g : Group)
    → flat_map (λ c. c.counted) (map (brief_of hw) gs) ++ with_masks hw (counted_members g) ≡ with_masks hw (flat_map counted_members gs ++ counted_members g)
counted-summed hw [] g = refl
counted-summed hw (h ∷ gs) g = map-before (λ i. (i.event, mask_of hw i.attr.kind)) (counted_members h) (flat_map counted_members gs) (counted_members g)
    (flat_map (λ c. c.counted) (map (brief_of hw) gs)) (counted-summed hw gs g)

judge-summed : (hw : Hardware) (before within : List Judged) (g : Group) → judge_brief (map (summed hw) before) (map (summed hw) within) (brief_of hw g) ≡ judge hw before within g
unfolding judge judge_brief
judge-summed hw before within g =
    let on : briefs_on (map (summed hw) before ++ map (summed hw) within) ≡ map (brief_of hw) (groups_on (before ++ within)) =
    ap briefs_on (sym (map-append (summed hw) before within)) ∙ on-summed hw (before ++ within) in
    let gs : List Group = groups_on (before ++ within) in
    let exclusive : first_slot (λ c. c.exclusive) (map (brief_of hw) gs) ≡ first_named is_exclusive_group gs =
    find-image (λ c. c.exclusive) is_exclusive_group (brief_of hw) (λ b. b.slot) (λ g. refl) gs in
    let first : first_slot (λ c. not c.software) (map (brief_of hw) gs) ≡ first_named (λ h. not (is_wholly_software h)) gs =
    find-image (λ c. not c.software) (λ h. not (is_wholly_software h)) (brief_of hw) (λ b. b.slot) (λ g. refl) gs in
    let refused : first_brief_refused (map (summed hw) within) ≡ first_refused within =
    find-image (λ j. stands_refused j.standing) (λ j. stands_refused j.standing) (summed hw) (λ j. j.brief.slot) (λ j. refl) within in
    let by : List (GroupBrief ℕ) → Option EventNo → Standing = λ bs r. by_ruling (ruling_of (is_wholly_software g) (is_exclusive_group g) (first_slot (λ c. c.exclusive) bs)
    (first_slot (λ c. not c.software) bs) r) (flat_map (λ c. c.counted) bs ++ with_masks hw (counted_members g)) in
    ap (λ bs. by bs (first_brief_refused (map (summed hw) within))) on ∙ (ap (by (map (brief_of hw) gs)) refused
    ∙ (rw (exclusive, first, counted-summed hw gs g) refl))

judge_pass-summed : (hw : Hardware) (before within : List Judged) (groups : List Group)
    → judge_briefs (map (summed hw) before) (map (summed hw) within) (map (brief_of hw) groups) ≡ map (summed hw) (judge_pass hw before within groups)
unfolding judge_pass judge_briefs
judge_pass-summed hw before within [] = refl
judge_pass-summed hw before within (g ∷ groups) =
    let v : Standing = judge hw before within g in
    ap (λ u. judge_briefs (map (summed hw) before) (map (summed hw) within ++ record { brief = brief_of hw g; standing = u } ∷ []) (map (brief_of hw) groups)) (judge-summed hw before within g)
    ∙ (ap (λ js. judge_briefs (map (summed hw) before) js (map (brief_of hw) groups)) (sym (map-append (summed hw) within (record { group = g; standing = v } ∷ [])))
    ∙ judge_pass-summed hw before (within ++ record { group = g; standing = v } ∷ []) groups)

judge_passes-summed : (hw : Hardware) (before : List Judged) (ps : List (List Group))
    → judge_brief_passes (map (summed hw) before) (map (map (brief_of hw)) ps) ≡ map (summed hw) (judge_passes hw before ps)
unfolding judge_passes judge_brief_passes
judge_passes-summed hw before [] = refl
judge_passes-summed hw before (p ∷ ps) =
    ap (λ js. judge_brief_passes (map (summed hw) before ++ js) (map (map (brief_of hw)) ps)) (judge_pass-summed hw before [] p)
    ∙ (ap (λ js. judge_brief_passes js (map (map (brief_of hw)) ps)) (sym (map-append (summed hw) before (judge_pass hw before [] p)))
    ∙ judge_passes-summed hw (before ++ judge_pass hw before [] p) ps)

pub standings-are : JudgedBriefsLaw
unfolding verdicts
standings-are hw s cpu =
    sym (ap standings_by (judge_passes-summed hw [] (map (filter (is_eligible hw cpu)) (passes s cpu)))
    ∙ map-map (λ j. (j.brief.leader, j.standing)) (summed hw) (judge_passes hw [] (map (filter (is_eligible hw cpu)) (passes s cpu))))

-- the hardware instances that are on are the members that need counters of the groups that are on
pub filter-one : (b : Bool) (p q : Instance → Bool) (x : Instance) (xs : List Instance) → p x ≡ b → filter q (filter p xs) ≡ filter (λ y. p y && q y) xs
    → filter q (filter p (x ∷ xs)) ≡ filter (λ y. p y && q y) (x ∷ xs)
filter-one true p q x xs e rest =
    ap (λ b. filter q (cond b (x ∷ filter p xs) (filter p xs))) e
    ∙ (ap (λ ys. cond (q x) (x ∷ ys) ys) rest ∙ ap (λ b. cond (b && q x) (x ∷ filter (λ y. p y && q y) xs) (filter (λ y. p y && q y) xs)) (sym e))
filter-one false p q x xs e rest =
    ap (λ b. filter q (cond b (x ∷ filter p xs) (filter p xs))) e
    ∙ (rest ∙ ap (λ b. cond (b && q x) (x ∷ filter (λ y. p y && q y) xs) (filter (λ y. p y && q y) xs)) (sym e))

pub filter-both : (p q : Instance → Bool) (xs : List Instance) → filter q (filter p xs) ≡ filter (λ x. p x && q x) xs
filter-both p q [] = refl
filter-both p q (x ∷ xs) = filter-one (p x) p q x xs refl (filter-both p q xs)

pub counted-on : (gs : List Group) → flat_map counted_members gs ≡ filter is_hardware (flat_map (λ g. filter (λ i. is_ready i.own) (members_of g)) gs)
counted-on [] = refl
counted-on (g ∷ gs) =
    let ready : List Instance = filter (λ i. is_ready i.own) (members_of g) in
    let rest : List Instance = flat_map (λ x. filter (λ i. is_ready i.own) (members_of x)) gs in
    (λ i. sym (filter-both (λ x. is_ready x.own) is_hardware (members_of g)) i ++ counted-on gs i) ∙ sym (filter-append is_hardware ready rest)

masks-of-briefs : (hw : Hardware) (gs : List Group) → with_masks hw (flat_map counted_members gs) ≡ flat_map (λ b. b.counted) (map (brief_of hw) gs)
masks-of-briefs hw [] = refl
masks-of-briefs hw (g ∷ gs) =
    map-append (λ i. (i.event, mask_of hw i.attr.kind)) (counted_members g) (flat_map counted_members gs) ∙ ap (λ es. with_masks hw (counted_members g) ++ es) (masks-of-briefs hw gs)

pub seated-are : SeatedBriefsLaw
unfolding verdicts
seated-are hw s cpu =
    let js : List Judged = judge_passes hw [] (map (filter (is_eligible hw cpu)) (passes s cpu)) in
    ap (with_masks hw) (sym (counted-on (groups_on js)))
    ∙ (masks-of-briefs hw (groups_on js)
    ∙ (ap (flat_map (λ b. b.counted)) (sym (on-summed hw js))
    ∙ ap seated_by (sym (judge_passes-summed hw [] (map (filter (is_eligible hw cpu)) (passes s cpu))))))

pub by_briefs : BriefsLaw
by_briefs hw cpu s t same = standings-are hw s cpu ∙ (ap (λ bs. standings_by (judge_brief_passes [] bs)) same ∙ sym (standings-are hw t cpu))

-- whether a group of the first two passes is refused goes by briefs too
any-summed : (hw : Hardware) (js : List Judged) → list_any (λ j. stands_refused j.standing) (map (summed hw) js) ≡ list_any (λ j. stands_refused j.standing) js
any-summed hw [] = refl
any-summed hw (j ∷ js) = rw (any-summed hw js) refl

refused-are : (hw : Hardware) (s : Stage) (cpu : CpuNo)
    → list_any (λ j. stands_refused j.standing) (pinned_verdicts hw s cpu) ≡ list_any (λ j. stands_refused j.standing) (judge_brief_passes [] (take 2 (briefs hw s cpu)))
refused-are hw s cpu =
    sym (ap (list_any (λ j. stands_refused j.standing)) (judge_passes-summed hw [] (map (filter (is_eligible hw cpu)) (take 2 (passes s cpu))))
    ∙ any-summed hw (pinned_verdicts hw s cpu))

pub refused_by_briefs : (hw : Hardware) (cpu : CpuNo) (s t : Stage) → briefs hw s cpu ≡ briefs hw t cpu
    → list_any (λ j. stands_refused j.standing) (pinned_verdicts hw s cpu) ≡ list_any (λ j. stands_refused j.standing) (pinned_verdicts hw t cpu)
refused_by_briefs hw cpu s t same =
    refused-are hw s cpu ∙ (ap (λ bs. list_any (λ j. stands_refused j.standing) (judge_brief_passes [] (take 2 bs))) same ∙ sym (refused-are hw t cpu))

-- a change that keeps what a brief needs
all-map : {X : Type 0} (p : X → Bool) (f : X → X) → ((x : X) → p (f x) ≡ p x) → (xs : List X) → list_all p (map f xs) ≡ list_all p xs
all-map p f same [] = refl
all-map p f same (x ∷ xs) = rw (same x, all-map p f same xs) refl

eligible-kept : (hw : Hardware) (cpu : CpuNo) (f : Instance → Instance) → KeepsBrief f → (g : Group) → is_eligible hw cpu (change_group f g) ≡ is_eligible hw cpu g
eligible-kept hw cpu f k g =
    let counted : list_all (λ i. is_counted_on hw cpu i.attr.kind) (map f (members_of g)) ≡ list_all (λ i. is_counted_on hw cpu i.attr.kind) (members_of g) =
    all-map (λ i. is_counted_on hw cpu i.attr.kind) f (λ i. ap (is_counted_on hw cpu) (k.kind i)) (members_of g) in
    ap (λ b. is_ready (f g.leader).own && may_count_on cpu (f g.leader).attr.cpu && b) counted
    ∙ (rw (k.own g.leader, k.cpu g.leader) refl)

-- an event with its counters
abbrev pub slot_mask : Hardware → Instance → (EventNo × ℕ)
slot_mask hw i = (i.event, mask_of hw i.attr.kind)

slot_mask-kept : (hw : Hardware) (f : Instance → Instance) → KeepsBrief f → (i : Instance) → slot_mask hw (f i) ≡ slot_mask hw i
slot_mask-kept hw f k i = rw (k.event i, k.kind i) refl

needed-kept : (f : Instance → Instance) → KeepsBrief f → (i : Instance) → (is_ready (f i).own && is_hardware (f i)) ≡ (is_ready i.own && is_hardware i)
needed-kept f k i = rw (k.own i, k.kind i) refl

brief-kept : (hw : Hardware) (f : Instance → Instance) → KeepsBrief f → (g : Group) → brief_of hw (change_group f g) ≡ brief_of hw g
brief-kept hw f k g =
    let software : list_all (λ i. is_software i.attr.kind) (map f (members_of g)) ≡ list_all (λ i. is_software i.attr.kind) (members_of g) =
    all-map (λ i. is_software i.attr.kind) f (λ i. ap is_software (k.kind i)) (members_of g) in
    let needs : Instance → Bool = λ i. is_ready i.own && is_hardware i in
    let those : filter needs (map f (members_of g)) ≡ map f (filter needs (members_of g)) =
    filter-map needs needs f (needed-kept f k) (members_of g) in
    let counted : with_masks hw (filter needs (map f (members_of g))) ≡ with_masks hw (filter needs (members_of g)) =
    ap (with_masks hw) those ∙ (map-map (slot_mask hw) f (filter needs (members_of g))
    ∙ map-same (λ i. slot_mask hw (f i)) (slot_mask hw) (slot_mask-kept hw f k) (filter needs (members_of g))) in
    let made : ℕ → EventNo → Bool → Bool → List (EventNo × ℕ) → GroupBrief ℕ = λ id slot soft flag events.
    record { leader = id; slot = slot; software = soft; exclusive = flag && not soft; counted = events } in
    let l : Instance = f g.leader in
    let now : Bool = list_all (λ i. is_software i.attr.kind) (map f (members_of g)) in
    ap (made l.id l.event now (is_exclusive l.attr)) counted
    ∙ (ap (λ b. made l.id l.event b (is_exclusive l.attr) (with_masks hw (counted_members g))) software
    ∙ (rw (k.id g.leader, k.event g.leader, k.exclusive g.leader) refl))

-- the groups of a context, of a task and of the passes, after a change of each instance
pub lists_of-each : (f : Instance → Instance) (s : Stage) (c : Context) → lists_of (change_each f s) c ≡ change_lists f (lists_of s c)
lists_of-each f s c = get_or-map (change_lists f) s.contexts (place_of c) no_groups

task_lists-each : (f : Instance → Instance) (s : Stage) (to : Option TaskNo) → task_lists (change_each f s) to ≡ change_lists f (task_lists s to)
task_lists-each f s None = refl
task_lists-each f s (Some task) = lists_of-each f s (context.Task task)

pub passes-each : (f : Instance → Instance) (s : Stage) (cpu : CpuNo) → passes (change_each f s) cpu ≡ map (map (change_group f)) (passes s cpu)
passes-each f s cpu = rw (lists_of-each f s (context.Processor cpu), task_lists-each f s (task_on s cpu)) refl

pub same_briefs : (hw : Hardware) (cpu : CpuNo) (s : Stage) (f : Instance → Instance) → KeepsBrief f → briefs hw (change_each f s) cpu ≡ briefs hw s cpu
same_briefs hw cpu s f k =
    let one : (gs : List Group) → map (brief_of hw) (filter (is_eligible hw cpu) (map (change_group f) gs)) ≡ map (brief_of hw) (filter (is_eligible hw cpu) gs) =
    λ gs. ap (map (brief_of hw)) (filter-map (is_eligible hw cpu) (is_eligible hw cpu) (change_group f) (eligible-kept hw cpu f k) gs)
    ∙ (map-map (brief_of hw) (change_group f) (filter (is_eligible hw cpu) gs) ∙ map-same (λ g. brief_of hw (change_group f g)) (brief_of hw) (brief-kept hw f k) (filter (is_eligible hw cpu) gs)) in
    ap (map (λ gs. map (brief_of hw) (filter (is_eligible hw cpu) gs))) (passes-each f s cpu)
    ∙ (map-map (λ gs. map (brief_of hw) (filter (is_eligible hw cpu) gs)) (map (change_group f)) (passes s cpu)
    ∙ map-same (λ gs. map (brief_of hw) (filter (is_eligible hw cpu) (map (change_group f) gs))) (λ gs. map (brief_of hw) (filter (is_eligible hw cpu) gs)) one (passes s cpu))
