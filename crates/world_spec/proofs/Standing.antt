-- What a processor's seats answer, and that it is untouched where what verdicts need of its groups stays.
use Rattle.std.specs.Prelude.{◌≡◌, ℕ, ◌<◌, ◌==◌, Bool, true, false, cond, List, [], ◌∷◌, ◌++◌, length, map, filter, flat_map, if◌then◌else◌}
use Rattle.std.proofs.{Common.{refl, sym, ap, subst, ◌∙◌, append_assoc}, lemmas.List.{append-nil, length-map, map-append, Elements.{filter-append}}}
use Rattle.std.proofs.lemmas.{Simd.{map-map}, Slice.Zip.{firsts-zip, seconds-zip}}
use Rattle.perf_base.specs.{declared.{numbers.{CpuNo.{CpuNo}, EventNo.{EventNo}}, standing.Standing.{Standing}}, Standings.{stands_on}}
use Rattle.perf_base.specs.declared.standing.Standing.TheVariants as standing
use Rattle.stage_spec.specs.{declared.instance.Instance.{Instance}, Effective.{is_ready, is_hardware, counted_members}, Fits.{IsAssignment}}
use Rattle.stage_spec.specs.{Hardware.{Hardware, mask_of}, Replies.{seated}, Stage.{Stage, Group, members_of}, Tight.{masks_of}}
use Rattle.stage_spec.specs.Verdict.{Judged, is_eligible, passes, judge, judge_pass, judge_passes, verdicts, groups_on, with_masks, standing_among}
use Rattle.stage_laws.{specs.{Briefs.{GroupBrief}, Standings.{brief_of, briefs, standings}}, proofs.Briefs.{by_briefs, filter-both}}
use Rattle.stage_laws.proofs.ByStandings.{settled_by_briefs}
use Rattle.counter_match.specs.Seating.{Seated, slots_of}
use Rattle.world_spec.specs.{StageOf.{group_at, stage_of}, Value.{World, seats_at}, Rescheduled.{IsLeft, IsRescheduled, SeatsAnswerLaw, LeftLaw}}

-- the seats as slots and counters
pub seats-answer : SeatsAnswerLaw
seats-answer hw w cpu h =
    let s : Seated = seats_at w cpu in
    let on : List Instance = seated hw (stage_of w) cpu in
    let size : length s.seats ≡ length (slots_of s.events) =
    h.judged.served.assigned.one_each ∙ (length-map s.events (λ event. event.1) ∙ sym (length-map s.events (λ event. event.0))) in
    let masks : masks_of s.events ≡ map (λ i. mask_of hw i.attr.kind) on = ap masks_of h.judged.served.events ∙ map-map (λ event. event.1) (λ i. (i.event, mask_of hw i.attr.kind)) on in
    record {
      events = firsts-zip (slots_of s.events) s.seats size ∙ (ap slots_of h.judged.served.events ∙ map-map (λ event. event.0) (λ i. (i.event, mask_of hw i.attr.kind)) on);
      counters = subst (λ counters. IsAssignment (map (λ i. mask_of hw i.attr.kind) on) counters) (sym (seconds-zip (slots_of s.events) s.seats size))
          (subst (λ ms. IsAssignment ms s.seats) masks h.judged.served.assigned);
    }

-- the groups that are judged, in their order
pass-groups : (hw : Hardware) (before within : List Judged) (groups : List Group) → map (λ j. j.group) (judge_pass hw before within groups) ≡ map (λ j. j.group) within ++ groups
unfolding judge_pass
pass-groups hw before within [] = sym (append-nil (map (λ j. j.group) within))
pass-groups hw before within (g ∷ groups) =
    let here : Judged = record { group = g; standing = judge hw before within g } in
    pass-groups hw before (within ++ here ∷ []) groups
    ∙ (ap (λ gs. gs ++ groups) (map-append (λ j. j.group) within (here ∷ [])) ∙ append_assoc (map (λ j. j.group) within) (g ∷ []) groups)

pub passes-groups : (hw : Hardware) (before : List Judged) (ps : List (List Group)) → map (λ j. j.group) (judge_passes hw before ps) ≡ map (λ j. j.group) before ++ flat_map (λ p. p) ps
unfolding judge_passes
passes-groups hw before [] = sym (append-nil (map (λ j. j.group) before))
passes-groups hw before (p ∷ ps) =
    passes-groups hw (before ++ judge_pass hw before [] p) ps
    ∙ (ap (λ gs. gs ++ flat_map (λ q. q) ps) (map-append (λ j. j.group) before (judge_pass hw before [] p) ∙ ap (λ gs. map (λ j. j.group) before ++ gs) (pass-groups hw before [] p))
    ∙ append_assoc (map (λ j. j.group) before) p (flat_map (λ q. q) ps))

-- what is served, by briefs and standings
abbrev served_one : GroupBrief ℕ → Standing → List (EventNo × ℕ)
served_one b x = if stands_on x then b.counted else []

served_by : List (GroupBrief ℕ) → List (ℕ × Standing) → List (EventNo × ℕ)
served_by [] xs = []
served_by (b ∷ bs) [] = []
served_by (b ∷ bs) (x ∷ xs) = served_one b x.1 ++ served_by bs xs

abbrev events_on : Hardware → List Judged → List (EventNo × ℕ)
events_on hw js = with_masks hw (filter is_hardware (flat_map (λ g. filter (λ i. is_ready i.own) (members_of g)) (groups_on js)))

pub with_masks-parts : (hw : Hardware) (xs ys : List Instance) → with_masks hw (xs ++ ys) ≡ with_masks hw xs ++ with_masks hw ys
with_masks-parts hw xs ys = map-append (λ i. (i.event, mask_of hw i.attr.kind)) xs ys

abbrev events_on_by : Hardware → Bool → Judged → List Judged → List (EventNo × ℕ)
events_on_by hw b j js = with_masks hw (filter is_hardware (flat_map (λ g. filter (λ i. is_ready i.own) (members_of g)) (map (λ x. x.group) (cond b (j ∷ filter (λ x. stands_on x.standing) js) (filter (λ x. stands_on x.standing) js)))))

served-one : (hw : Hardware) (b : Bool) (j : Judged) (js : List Judged) → stands_on j.standing ≡ b
    → events_on hw (j ∷ js) ≡ served_one (brief_of hw j.group) j.standing ++ events_on hw js
served-one hw true j js e =
    let rest : List Instance = flat_map (λ g. filter (λ i. is_ready i.own) (members_of g)) (groups_on js) in
    let mine : List Instance = filter (λ i. is_ready i.own) (members_of j.group) in
    ap {B = List (EventNo × ℕ)} (λ b. events_on_by hw b j js) e
    ∙ (ap (with_masks hw) (filter-append is_hardware mine rest)
    ∙ (with_masks-parts hw (filter is_hardware mine) (filter is_hardware rest)
    ∙ (ap (λ is. with_masks hw is ++ with_masks hw (filter is_hardware rest)) (filter-both (λ i. is_ready i.own) is_hardware (members_of j.group))
    ∙ ap {B = List (EventNo × ℕ)} (λ b. (if b then with_masks hw (counted_members j.group) else []) ++ with_masks hw (filter is_hardware rest)) (sym e))))
served-one hw false j js e =
    ap {B = List (EventNo × ℕ)} (λ b. events_on_by hw b j js) e
    ∙ ap {B = List (EventNo × ℕ)} (λ b. (if b then with_masks hw (counted_members j.group) else []) ++ events_on hw js) (sym e)

served-all : (hw : Hardware) (js : List Judged) → events_on hw js ≡ served_by (map (brief_of hw) (map (λ j. j.group) js)) (map (λ j. (j.group.leader.id, j.standing)) js)
unfolding served_by
served-all hw [] = refl
served-all hw (j ∷ js) = served-one hw (stands_on j.standing) j js refl ∙ ap (λ es. served_one (brief_of hw j.group) j.standing ++ es) (served-all hw js)

-- the briefs of all passes one after the other
pub briefs-joined : (hw : Hardware) (p : Group → Bool) (ps : List (List Group)) → map (brief_of hw) (flat_map (λ q. q) (map (filter p) ps)) ≡ flat_map (λ q. q) (map (λ q. map (brief_of hw) (filter p q)) ps)
briefs-joined hw p [] = refl
briefs-joined hw p (q ∷ ps) = map-append (brief_of hw) (filter p q) (flat_map (λ x. x) (map (filter p) ps)) ∙ ap (λ bs. map (brief_of hw) (filter p q) ++ bs) (briefs-joined hw p ps)

served-is : (hw : Hardware) (s : Stage) (cpu : CpuNo) → with_masks hw (seated hw s cpu) ≡ served_by (flat_map (λ q. q) (briefs hw s cpu)) (standings hw s cpu)
unfolding verdicts
served-is hw s cpu =
    let ps : List (List Group) = map (filter (is_eligible hw cpu)) (passes s cpu) in
    served-all hw (verdicts hw s cpu)
    ∙ ap (λ bs. served_by bs (standings hw s cpu)) (ap (map (brief_of hw)) (passes-groups hw [] ps) ∙ briefs-joined hw (is_eligible hw cpu) (passes s cpu))

-- a standing by a leader's id
pub standing_by : List (ℕ × Standing) → ℕ → Standing
standing_by [] id = standing.Out
standing_by (x ∷ xs) id = elim (x.0 == id) [ true ↦ x.1 | false ↦ standing_by xs id ]

pub standing-is : (js : List Judged) (g : Group) → standing_among js g ≡ standing_by (map (λ j. (j.group.leader.id, j.standing)) js) g.leader.id
unfolding standing_by
standing-is [] g = refl
standing-is (j ∷ js) g = ap {B = Standing} (λ x. elim (j.group.leader.id == g.leader.id) as (λ b. Standing) [ true ↦ j.standing | false ↦ x ]) (standing-is js g)

left-rescheduled : (hw : Hardware) (w after : World) (cpu : CpuNo) → cpu.0 < 8 → IsLeft hw w after cpu → IsRescheduled hw w cpu → IsRescheduled hw after cpu
left-rescheduled hw w after cpu low left h =
    let same : standings hw (stage_of after) cpu ≡ standings hw (stage_of w) cpu = by_briefs hw cpu (stage_of after) (stage_of w) left.briefs in
    let events : with_masks hw (seated hw (stage_of after) cpu) ≡ with_masks hw (seated hw (stage_of w) cpu) =
    served-is hw (stage_of after) cpu ∙ ((λ i. served_by (flat_map (λ q. q) (left.briefs i)) (same i)) ∙ sym (served-is hw (stage_of w) cpu)) in
    record {
      settled = settled_by_briefs hw cpu (stage_of w) (stage_of after) low left.briefs h.settled;
      judged = record {
        standings = λ k lead there.
            let was : _ = left.groups k lead there in
            was.3 ∙ (h.judged.standings k was.0 was.1
            ∙ (standing-is (verdicts hw (stage_of w) cpu) (group_at w k)
            ∙ ((λ i. standing_by (sym same i) (sym was.2 i)) ∙ sym (standing-is (verdicts hw (stage_of after) cpu) (group_at after k)))));
        served = record {
          events = ap (λ s. s.events) left.seats ∙ (h.judged.served.events ∙ sym events);
          assigned = subst (λ s. IsAssignment (masks_of s.events) s.seats) (sym left.seats) h.judged.served.assigned;
        };
      };
    }

pub left-untouched : LeftLaw
left-untouched hw w after cpu low left = record {
  briefs = left.briefs;
  verdicts = by_briefs hw cpu (stage_of after) (stage_of w) left.briefs;
  seats = left.seats;
  rescheduled = left-rescheduled hw w after cpu low left;
}
