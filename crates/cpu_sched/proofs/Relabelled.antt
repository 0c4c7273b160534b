-- Verdicts do not go by how leaders are named. So the verdicts of the present brief, which names them by their keys,
-- are the stage's.
use Rattle.std.{specs.Prelude.{◌≡◌, ℕ, not, List, [], ◌∷◌, ◌++◌, map, filter, flat_map, Option}, proofs.Common.{refl, sym, ap, ◌∙◌, append_assoc}}
use Rattle.std.proofs.lemmas.{List.{append-nil, map-append, map-id, Elements.{filter-append}}, Simd.{map-map}}
use Rattle.perf_base.specs.declared.{numbers.{CpuNo.{CpuNo}, EventNo.{EventNo}, Key.{Key}}, standing.Standing.{Standing}}
use Rattle.perf_base.specs.Standings.{stands_on, stands_refused}
use Rattle.stage_spec.specs.{Replies.{seated}, Rules.{ruling_of}, Stage.{Group}, Verdict.{is_eligible, by_ruling, with_masks}}
use Rattle.stage_laws.specs.Briefs.{GroupBrief, JudgedBrief, briefs_on, first_slot, first_brief_refused, judge_brief, judge_briefs, judge_brief_passes, standings_by, seated_by}
use Rattle.stage_laws.{specs.Standings.{brief_of, briefs, standings}, proofs.Briefs.{standings-are, seated-are}}
use Rattle.stage_laws.proofs.Images.{map-same, filter-map, find-image}
use Rattle.world_spec.specs.{Listings.{pass_leaders}, StageOf.{group_at, stage_of}, Value.{World, instance_at}}
use Rattle.world_spec.proofs.Listings.{passes-are, reached_leaders}
use Rattle.cpu_sched.specs.{Briefs.{brief_at, briefs_at, present_brief}, Plans.{judged_groups}}

abbrev pub relabel : (Key → ℕ) → GroupBrief Key → GroupBrief ℕ
relabel f b = record { leader = f b.leader; slot = b.slot; software = b.software; exclusive = b.exclusive; counted = b.counted }

abbrev relabelled : (Key → ℕ) → JudgedBrief Key → JudgedBrief ℕ
relabelled f j = record { brief = relabel f j.brief; standing = j.standing }

on-relabelled : (f : Key → ℕ) (js : List (JudgedBrief Key)) → briefs_on (map (relabelled f) js) ≡ map (relabel f) (briefs_on js)
on-relabelled f js = ap (map (λ j. j.brief)) (filter-map (λ j. stands_on j.standing) (λ j. stands_on j.standing) (relabelled f) (λ j. refl) js)
    ∙ (map-map (λ j. j.brief) (relabelled f) (filter (λ j. stands_on j.standing) js) ∙ sym (map-map (relabel f) (λ j. j.brief) (filter (λ j. stands_on j.standing) js)))

counted-relabelled : (f : Key → ℕ) (bs : List (GroupBrief Key)) → flat_map (λ c. c.counted) (map (relabel f) bs) ≡ flat_map (λ c. c.counted) bs
counted-relabelled f [] = refl
counted-relabelled f (b ∷ bs) = ap (λ es. b.counted ++ es) (counted-relabelled f bs)

judge-relabelled : (f : Key → ℕ) (before within : List (JudgedBrief Key)) (b : GroupBrief Key)
    → judge_brief (map (relabelled f) before) (map (relabelled f) within) (relabel f b) ≡ judge_brief before within b
unfolding judge_brief
judge-relabelled f before within b =
    let bs : List (GroupBrief Key) = briefs_on (before ++ within) in
    let on : briefs_on (map (relabelled f) before ++ map (relabelled f) within) ≡ map (relabel f) bs =
    ap briefs_on (sym (map-append (relabelled f) before within)) ∙ on-relabelled f (before ++ within) in
    let exclusive : first_slot (λ c. c.exclusive) (map (relabel f) bs) ≡ first_slot (λ c. c.exclusive) bs =
    find-image (λ c. c.exclusive) (λ c. c.exclusive) (relabel f) (λ c. c.slot) (λ c. refl) bs in
    let first : first_slot (λ c. not c.software) (map (relabel f) bs) ≡ first_slot (λ c. not c.software) bs =
    find-image (λ c. not c.software) (λ c. not c.software) (relabel f) (λ c. c.slot) (λ c. refl) bs in
    let refused : first_brief_refused (map (relabelled f) within) ≡ first_brief_refused within =
    find-image (λ j. stands_refused j.standing) (λ j. stands_refused j.standing) (relabelled f) (λ j. j.brief.slot) (λ j. refl) within in
    let by : List (GroupBrief ℕ) → Option EventNo → Standing = λ cs r. by_ruling (ruling_of b.software b.exclusive (first_slot (λ c. c.exclusive) cs)
    (first_slot (λ c. not c.software) cs) r) (flat_map (λ c. c.counted) cs ++ b.counted) in
    ap (λ cs. by cs (first_brief_refused (map (relabelled f) within))) on
    ∙ (λ i. by_ruling (ruling_of b.software b.exclusive (exclusive i) (first i) (refused i)) (counted-relabelled f bs i ++ b.counted))

pass-relabelled : (f : Key → ℕ) (before within : List (JudgedBrief Key)) (bs : List (GroupBrief Key))
    → judge_briefs (map (relabelled f) before) (map (relabelled f) within) (map (relabel f) bs) ≡ map (relabelled f) (judge_briefs before within bs)
unfolding judge_briefs
pass-relabelled f before within [] = refl
pass-relabelled f before within (b ∷ bs) =
    let s : Standing = judge_brief before within b in
    ap (λ u. judge_briefs (map (relabelled f) before) (map (relabelled f) within ++ record { brief = relabel f b; standing = u } ∷ []) (map (relabel f) bs)) (judge-relabelled f before within b)
    ∙ (ap (λ js. judge_briefs (map (relabelled f) before) js (map (relabel f) bs)) (sym (map-append (relabelled f) within (record { brief = b; standing = s } ∷ [])))
    ∙ pass-relabelled f before (within ++ record { brief = b; standing = s } ∷ []) bs)

passes-relabelled : (f : Key → ℕ) (before : List (JudgedBrief Key)) (ps : List (List (GroupBrief Key)))
    → judge_brief_passes (map (relabelled f) before) (map (map (relabel f)) ps) ≡ map (relabelled f) (judge_brief_passes before ps)
unfolding judge_brief_passes
passes-relabelled f before [] = refl
passes-relabelled f before (p ∷ ps) =
    ap (λ js. judge_brief_passes (map (relabelled f) before ++ js) (map (map (relabel f)) ps)) (pass-relabelled f before [] p)
    ∙ (ap (λ js. judge_brief_passes js (map (map (relabel f)) ps)) (sym (map-append (relabelled f) before (judge_briefs before [] p)))
    ∙ passes-relabelled f (before ++ judge_briefs before [] p) ps)

-- the id of a leader
abbrev pub id_at : World → Key → ℕ
id_at w k = (instance_at w k).id

pub one-pass : (w : World) (cpu : CpuNo) (keys : List Key)
    → map (relabel (id_at w)) (briefs_at w cpu keys) ≡ map (brief_of w.hardware) (filter (is_eligible w.hardware cpu) (map (group_at w) keys))
one-pass w cpu keys =
    let those : List Key = filter (λ k. is_eligible w.hardware cpu (group_at w k)) keys in
    map-map (relabel (id_at w)) (brief_at w) those
    ∙ (sym (map-map (brief_of w.hardware) (group_at w) those)
    ∙ ap (map (brief_of w.hardware)) (sym (filter-map (is_eligible w.hardware cpu) (λ k. is_eligible w.hardware cpu (group_at w k)) (group_at w) (λ k. refl) keys)))

pub briefs-relabelled : (w : World) (cpu : CpuNo) → map (map (relabel (id_at w))) (present_brief w cpu).passes ≡ briefs w.hardware (stage_of w) cpu
briefs-relabelled w cpu =
    let of_pass : List Group → List (GroupBrief ℕ) = λ pass. map (brief_of w.hardware) (filter (is_eligible w.hardware cpu) pass) in
    map-map (map (relabel (id_at w))) (briefs_at w cpu) (pass_leaders w cpu)
    ∙ (map-same (λ keys. map (relabel (id_at w)) (briefs_at w cpu keys)) (λ keys. of_pass (map (group_at w) keys)) (one-pass w cpu) (pass_leaders w cpu)
    ∙ (sym (map-map of_pass (map (group_at w)) (pass_leaders w cpu)) ∙ ap (map of_pass) (sym (passes-are w cpu))))

verdicts-relabelled : (w : World) (cpu : CpuNo) → judge_brief_passes [] (briefs w.hardware (stage_of w) cpu) ≡ map (relabelled (id_at w)) (judged_groups (present_brief w cpu))
verdicts-relabelled w cpu = ap (judge_brief_passes []) (sym (briefs-relabelled w cpu)) ∙ passes-relabelled (id_at w) [] (present_brief w cpu).passes

-- The standings of the stage are those of the present brief, and so are the events that are seated.
pub present-standings : (w : World) (cpu : CpuNo) → standings w.hardware (stage_of w) cpu ≡ map (λ x. (id_at w x.0, x.1)) (standings_by (judged_groups (present_brief w cpu)))
present-standings w cpu =
    let js : List (JudgedBrief Key) = judged_groups (present_brief w cpu) in
    standings-are w.hardware (stage_of w) cpu
    ∙ (ap standings_by (verdicts-relabelled w cpu)
    ∙ (map-map (λ j. (j.brief.leader, j.standing)) (relabelled (id_at w)) js ∙ sym (map-map (λ x. (id_at w x.0, x.1)) (λ j. (j.brief.leader, j.standing)) js)))

pub present-seated : (w : World) (cpu : CpuNo) → with_masks w.hardware (seated w.hardware (stage_of w) cpu) ≡ seated_by (judged_groups (present_brief w cpu))
present-seated w cpu =
    let js : List (JudgedBrief Key) = judged_groups (present_brief w cpu) in
    seated-are w.hardware (stage_of w) cpu
    ∙ (ap seated_by (verdicts-relabelled w cpu) ∙ (ap (flat_map (λ c. c.counted)) (on-relabelled (id_at w) js) ∙ counted-relabelled (id_at w) (briefs_on js)))

-- the groups that are judged are those of the brief, in their order
pass-groups : (before within : List (JudgedBrief Key)) (bs : List (GroupBrief Key)) → map (λ j. j.brief) (judge_briefs before within bs) ≡ map (λ j. j.brief) within ++ bs
unfolding judge_briefs
pass-groups before within [] = sym (append-nil (map (λ j. j.brief) within))
pass-groups before within (b ∷ bs) =
    let here : JudgedBrief Key = record { brief = b; standing = judge_brief before within b } in
    pass-groups before (within ++ here ∷ []) bs
    ∙ (ap (λ cs. cs ++ bs) (map-append (λ j. j.brief) within (here ∷ [])) ∙ append_assoc (map (λ j. j.brief) within) (b ∷ []) bs)

passes-groups : (before : List (JudgedBrief Key)) (ps : List (List (GroupBrief Key))) → map (λ j. j.brief) (judge_brief_passes before ps) ≡ map (λ j. j.brief) before ++ flat_map (λ p. p) ps
unfolding judge_brief_passes
passes-groups before [] = sym (append-nil (map (λ j. j.brief) before))
passes-groups before (p ∷ ps) =
    passes-groups (before ++ judge_briefs before [] p) ps
    ∙ (ap (λ cs. cs ++ flat_map (λ q. q) ps) (map-append (λ j. j.brief) before (judge_briefs before [] p) ∙ ap (λ cs. map (λ j. j.brief) before ++ cs) (pass-groups before [] p))
    ∙ append_assoc (map (λ j. j.brief) before) p (flat_map (λ q. q) ps))

-- their leaders
abbrev pub eligible_leaders : World → CpuNo → List Key → List Key
eligible_leaders w cpu keys = filter (λ k. is_eligible w.hardware cpu (group_at w k)) keys

flat-leaders : (w : World) (cpu : CpuNo) (ps : List (List Key)) → map (λ b. b.leader) (flat_map (λ p. p) (map (briefs_at w cpu) ps)) ≡ eligible_leaders w cpu (flat_map (λ keys. keys) ps)
flat-leaders w cpu [] = refl
flat-leaders w cpu (p ∷ ps) =
    let own : map (λ b. b.leader) (briefs_at w cpu p) ≡ eligible_leaders w cpu p =
    map-map (λ b. b.leader) (brief_at w) (eligible_leaders w cpu p) ∙ map-id (eligible_leaders w cpu p) in
    map-append (λ b. b.leader) (briefs_at w cpu p) (flat_map (λ q. q) (map (briefs_at w cpu) ps))
    ∙ ((λ i. own i ++ flat-leaders w cpu ps i) ∙ sym (filter-append (λ k. is_eligible w.hardware cpu (group_at w k)) p (flat_map (λ keys. keys) ps)))

pub present-leaders : (w : World) (cpu : CpuNo) → map (λ x. x.0) (standings_by (judged_groups (present_brief w cpu))) ≡ eligible_leaders w cpu (reached_leaders w cpu)
present-leaders w cpu =
    let js : List (JudgedBrief Key) = judged_groups (present_brief w cpu) in
    map-map (λ x. x.0) (λ j. (j.brief.leader, j.standing)) js
    ∙ (sym (map-map (λ b. b.leader) (λ j. j.brief) js)
    ∙ (ap (map (λ b. b.leader)) (passes-groups [] (present_brief w cpu).passes) ∙ flat-leaders w cpu (pass_leaders w cpu)))
