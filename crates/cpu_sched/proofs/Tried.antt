-- For how many events counters are tried, group by group, and so by the definitions' verdicts.
use Rattle.std.specs.Prelude.{◌≡◌, ℕ, suc, ◌+◌, ◌<◌, ◌≤◌, Bool, true, false, cond, List, [], ◌∷◌, ◌++◌, length, map, filter, take, slice_index_or}
use Rattle.std.{specs.{FinMap.{FinMap}, List.{fold, sum_by}, Ordering.{nat_cmp}}, proofs.Common.{arith, refl, sym, ap, subst, ◌∙◌, append_assoc}}
use Rattle.std.proofs.{Math.Seq.{take-suc}, lemmas.List.{append-nil, length-map, Sums.{sum_by_push}}}
use Rattle.perf_base.specs.declared.{numbers.{CpuNo.{CpuNo}, EventNo.{EventNo}, Key.{Key}}, standing.Standing.{Standing}}
use Rattle.stage_spec.specs.{declared.instance.Instance.{Instance}, Hardware.{Hardware, mask_of}, Stage.{Group}}
use Rattle.stage_spec.{specs.Verdict.{Judged, is_eligible, judge, judge_pass, judge_passes, with_masks}, proofs.Settling.{judged}}
use Rattle.world_spec.specs.{Kept.{IsKept}, Listings.{pass_leaders}, StageOf.{group_at, stage_of}, Value.{World, times}}
use Rattle.world_spec.proofs.{GoneStage.{AreLeading}, Listings.{reached-once, reached-leading}}
use Rattle.cpu_sched.specs.Judging.{Tally, told_of, tell, tell_pass, tried_in, tried_passes, tally_none, restood}
use Rattle.cpu_sched.{specs.Tried.{tries, tried}, proofs.Judged.{all-verdicts, none-told}}
use Rattle.cpu_sched.proofs.Telling.{Stands, told-out, told-in, step, judge-next, judge-none, judges-next, judges-none, seam, first-of_all, next-fresh, next-some, fold-told, pass-over, told_all}

pub masks-length : (hw : Hardware) (is : List Instance) → length (with_masks hw is) ≡ length is
masks-length hw is = length-map {B = EventNo × ℕ} is (λ i. (i.event, mask_of hw i.attr.kind))

-- one more key of a pass, and one more pass
pub tried-push : (hw : Hardware) (cpu : CpuNo) (group : Key → Group) (t : Tally) (keys : List Key) (k : Key)
    → tried_in hw cpu group t (keys ++ k ∷ []) ≡ tried_in hw cpu group t keys + tries (told_of hw cpu (group k) (fold (tell hw cpu group) t keys)) (group k)
tried-push hw cpu group t [] k = omega arith
tried-push hw cpu group t (q ∷ keys) k = omega (arith, tried-push hw cpu group (tell hw cpu group t q) keys k)

passes-push : (hw : Hardware) (cpu : CpuNo) (group : Key → Group) (t : Tally) (ps : List (List Key)) (p : List Key)
    → tried_passes hw cpu group t (ps ++ p ∷ []) ≡ tried_passes hw cpu group t ps + tried_in hw cpu group (fold (tell_pass hw cpu group) t ps) p
passes-push hw cpu group t [] p = omega arith
passes-push hw cpu group t (q ∷ ps) p = omega (arith, passes-push hw cpu group (tell_pass hw cpu group t q) ps p)

-- so by the groups of the world before
pub tried-then : (cpu : CpuNo) (v w : World) (start t : Tally) (done : List Key) (k : Key) → w ≡ restood v w → t ≡ fold (tell v.hardware cpu (group_at v)) start done
    → tried_in v.hardware cpu (group_at v) start done + tries (told_of w.hardware cpu (group_at w k) t) (group_at w k)
    ≡ tried_in v.hardware cpu (group_at v) start (done ++ k ∷ [])
tried-then cpu v w start t done k same before =
    ap (λ n. tried_in v.hardware cpu (group_at v) start done + n)
    (ap (λ (y : World). tries (told_of y.hardware cpu (group_at y k) t) (group_at y k)) same
    ∙ ap (λ u. tries (told_of v.hardware cpu (group_at v k) u) (group_at v k)) before)
    ∙ sym (tried-push v.hardware cpu (group_at v) start done k)

pub passes-then : (cpu : CpuNo) (v w : World) (start t : Tally) (pass : ℕ) → pass < 4 → w ≡ restood v w
    → t ≡ fold (tell_pass v.hardware cpu (group_at v)) start (take pass (pass_leaders v cpu))
    → tried_passes v.hardware cpu (group_at v) start (take pass (pass_leaders v cpu)) + tried_in w.hardware cpu (group_at w) t (slice_index_or (pass_leaders w cpu) pass [])
    ≡ tried_passes v.hardware cpu (group_at v) start (take (pass + 1) (pass_leaders v cpu))
passes-then cpu v w start t pass low same before =
    let one : pass + 1 ≡ suc pass = omega arith in
    ap (λ n. tried_passes v.hardware cpu (group_at v) start (take pass (pass_leaders v cpu)) + n)
    (ap (λ (y : World). tried_in y.hardware cpu (group_at y) t (slice_index_or (pass_leaders y cpu) pass [])) same
    ∙ ap (λ u. tried_in v.hardware cpu (group_at v) u (slice_index_or (pass_leaders v cpu) pass [])) before)
    ∙ (sym (passes-push v.hardware cpu (group_at v) start (take pass (pass_leaders v cpu)) (slice_index_or (pass_leaders v cpu) pass []))
    ∙ sym (ap (tried_passes v.hardware cpu (group_at v) start) (ap (λ n. take n (pass_leaders v cpu)) one ∙ take-suc (pass_leaders v cpu) pass [] low)))

-- of some verdicts
abbrev tried_among : List Judged → ℕ
tried_among js = sum_by (λ j. tries j.standing j.group) js

-- one group, eligible or not
one-tried : (v : World) (cpu : CpuNo) (start : FinMap nat_cmp Standing) (told : List Key) (before within : List Judged) (t : Tally) (k : Key) (b : Bool)
    → Stands v cpu start told before within t → is_eligible v.hardware cpu (group_at v k) ≡ b
    → tried_among (before ++ cond b (within ++ judged (group_at v k) (judge v.hardware before within (group_at v k)) ∷ []) within)
    ≡ tried_among (before ++ within) + tries (told_of v.hardware cpu (group_at v k) t) (group_at v k)
one-tried v cpu start told before within t k true h is =
    let g : Group = group_at v k in
    let j : Judged = judged g (judge v.hardware before within g) in
    ap tried_among (sym (append_assoc before within (j ∷ [])))
    ∙ (sum_by_push (λ x. tries x.standing x.group) (before ++ within) j
    ∙ ap (λ s. tried_among (before ++ within) + tries s g) (sym (told-in v cpu start told before within t g h is)))
one-tried v cpu start told before within t k false h is = grind (arith, told-out)

-- the groups of a pass
pass-tried : (v : World) (cpu : CpuNo) (start : FinMap nat_cmp Standing) (keys told : List Key) (before within : List Judged) (t : Tally)
    → IsKept v.hardware v → AreLeading v (told ++ keys) → ((q : Key) → times q (told ++ keys) ≤ 1) → Stands v cpu start told before within t
    → tried_among (before ++ judge_pass v.hardware before within (filter (is_eligible v.hardware cpu) (map (group_at v) keys)))
    ≡ tried_among (before ++ within) + tried_in v.hardware cpu (group_at v) t keys
pass-tried v cpu start [] told before within t kept all once h = omega (arith, ap (λ js. tried_among (before ++ js)) (judge-none v.hardware before within))
pass-tried v cpu start (k ∷ keys) told before within t kept all once h =
    let b : Bool = is_eligible v.hardware cpu (group_at v k) in
    let now : List Judged = cond b (within ++ judged (group_at v k) (judge v.hardware before within (group_at v k)) ∷ []) within in
    let first : Stands v cpu start (told ++ k ∷ []) before now (tell v.hardware cpu (group_at v) t k) =
    step v cpu start told before within t k b kept (λ q some. all q (omega (arith, some, first-of_all told (k ∷ keys) q))) (all k (next-some told k keys)) (next-fresh told k keys (once k)) h refl in
    let one : tried_among (before ++ now) ≡ tried_among (before ++ within) + tries (told_of v.hardware cpu (group_at v k) t) (group_at v k) =
    one-tried v cpu start told before within t k b h refl in
    let rest : tried_among (before ++ judge_pass v.hardware before now (filter (is_eligible v.hardware cpu) (map (group_at v) keys)))
    ≡ tried_among (before ++ now) + tried_in v.hardware cpu (group_at v) (tell v.hardware cpu (group_at v) t k) keys =
    pass-tried v cpu start keys (told ++ k ∷ []) before now (tell v.hardware cpu (group_at v) t k) kept
    (subst (AreLeading v) (seam told k keys) all) (subst (λ ks. (q : Key) → times q ks ≤ 1) (seam told k keys) once) first in
    omega (arith, ap (λ js. tried_among (before ++ js)) (judge-next v cpu before within k keys b refl), rest, one)

-- all passes
passes-tried : (v : World) (cpu : CpuNo) (start : FinMap nat_cmp Standing) (ps : List (List Key)) (told : List Key) (before : List Judged) (t : Tally)
    → IsKept v.hardware v → AreLeading v (told ++ told_all ps) → ((q : Key) → times q (told ++ told_all ps) ≤ 1) → Stands v cpu start told before [] t
    → tried_among (judge_passes v.hardware before (map (filter (is_eligible v.hardware cpu)) (map (map (group_at v)) ps)))
    ≡ tried_among before + tried_passes v.hardware cpu (group_at v) t ps
passes-tried v cpu start [] told before t kept all once h = omega (arith, ap tried_among (judges-none v.hardware before))
passes-tried v cpu start (p ∷ ps) told before t kept all once h =
    let groups : List Group = filter (is_eligible v.hardware cpu) (map (group_at v) p) in
    let along : told ++ (p ++ told_all ps) ≡ (told ++ p) ++ told_all ps = sym (append_assoc told p (told_all ps)) in
    let all_now : AreLeading v ((told ++ p) ++ told_all ps) = subst (AreLeading v) along all in
    let once_now : (q : Key) → times q ((told ++ p) ++ told_all ps) ≤ 1 = subst (λ ks. (q : Key) → times q ks ≤ 1) along once in
    let all_told : AreLeading v (told ++ p) = λ q some. all_now q (omega (arith, some, first-of_all (told ++ p) (told_all ps) q)) in
    let once_told : (q : Key) → times q (told ++ p) ≤ 1 = λ q. omega (arith, once_now q, first-of_all (told ++ p) (told_all ps) q) in
    let first : Stands v cpu start (told ++ p) before (judge_pass v.hardware before [] groups) (fold (tell v.hardware cpu (group_at v)) t p) =
    fold-told v cpu start p told before [] t kept all_told once_told h in
    let one : tried_among (before ++ judge_pass v.hardware before [] groups) ≡ tried_among (before ++ []) + tried_in v.hardware cpu (group_at v) t p =
    pass-tried v cpu start p told before [] t kept all_told once_told h in
    let rest : tried_among (judge_passes v.hardware (before ++ judge_pass v.hardware before [] groups) (map (filter (is_eligible v.hardware cpu)) (map (map (group_at v)) ps)))
    ≡ tried_among (before ++ judge_pass v.hardware before [] groups) + tried_passes v.hardware cpu (group_at v) (tell_pass v.hardware cpu (group_at v) t p) ps =
    passes-tried v cpu start ps (told ++ p) (before ++ judge_pass v.hardware before [] groups) (tell_pass v.hardware cpu (group_at v) t p) kept all_now once_now
    (pass-over v cpu start (told ++ p) before (judge_pass v.hardware before [] groups) (fold (tell v.hardware cpu (group_at v)) t p) first) in
    grind (arith, judges-next, groups, rest, one, append-nil)

-- all groups of a processor on which no group was told yet
pub all-tried : (v : World) (cpu : CpuNo) → IsKept v.hardware v → tried_passes v.hardware cpu (group_at v) (tally_none v) (pass_leaders v cpu) ≡ tried v.hardware (stage_of v) cpu
all-tried v cpu kept = omega (
  arith,
  passes-tried v cpu v.standings (pass_leaders v cpu) [] [] (tally_none v) kept (reached-leading v.hardware v kept cpu) (reached-once v.hardware v kept cpu) (none-told v cpu),
  ap tried_among (all-verdicts v cpu),
)
