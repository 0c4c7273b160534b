-- A processor that takes over the plan of its present brief is judged.
use Rattle.std.specs.Prelude.{◌≡◌, ℕ, ◌<◌, ◌≤◌, ◌==◌, Bool, true, false, cond, All, List, [], ◌∷◌, ◌++◌, length, map, slice_index_or}
use Rattle.std.{specs.{FinMap.{FinMap}, Ordering.{nat_cmp}}, proofs.Common.{arith, refl, sym, ap, subst, ◌∙◌, inl, inr, append_assoc}}
use Rattle.std.proofs.lemmas.{Bool.{cases_Bool, false≢true}, List.{append-nil, length-set, length-map, get_or-map, get_or-set_same, map-id}}
use Rattle.std.proofs.lemmas.Simd.{map-map}
use Rattle.perf_base.specs.declared.{numbers.{CpuNo.{CpuNo}, Key.{Key}}, standing.Standing.{Standing}}
use Rattle.perf_base.specs.declared.standing.Standing.TheVariants as standing
use Rattle.stage_spec.specs.{Fits.{IsAssignment}, Tight.{masks_of}, Verdict.{Judged, verdicts, standing_among}}
use Rattle.stage_laws.{specs.{Narrowing.{has_context}, Standings.{standings}}, proofs.Counts.{count-filter}}
use Rattle.counter_match.specs.Seating.{empty_seating}
use Rattle.world_spec.specs.{Changes.{with_seats}, Kept.{leads, post_at, IsKept}, Listings.{pass_leaders}, Rescheduled.{IsJudged}}
use Rattle.world_spec.specs.{StageOf.{group_at, stage_of}, Value.{World, entry_at, is_live, standing_at, seats_at, is_key, times}}
use Rattle.world_spec.proofs.{Copies.{times-at}, GoneStage.{AreLeading}, Keys.{key-is, is_key-true, is_key-false, times-cons, once-true}}
use Rattle.world_spec.proofs.{Listings.{reached_leaders, reached-once, reached-context, reached-leading}, Moving.{leads-parts}}
use Rattle.world_spec.proofs.{Rescheduling.{same-id, among-none, among-cons}, Standing.{standing_by, standing-is}}
use Rattle.cpu_sched.specs.{Adopting.{with_standings, told_standings, out_standings}, Briefs.{present_brief}, Judging.{retold}}
use Rattle.cpu_sched.{specs.Plans.{Planned, IsPlanOf}, proofs.Judged.{reached-there}}
use Rattle.cpu_sched.proofs.{Relabelled.{id_at, eligible_leaders, present-leaders, present-seated, present-standings}, Telling.{stand_at}}
use Rattle.cpu_sched.proofs.Told.{last_told, last-none, last-out, out-append, told-at}
use Rattle.world_spec.proofs.Tables.{same_number}

-- the keys of a plan are leaders that the processor reaches, each once
abbrev keys_of_plan : Planned → List Key
keys_of_plan p = map (λ x. x.0) p.standings

plan-keys : (w : World) (cpu : CpuNo) (p : Planned) → IsPlanOf (present_brief w cpu) p → keys_of_plan p ≡ eligible_leaders w cpu (reached_leaders w cpu)
plan-keys w cpu p is = ap (map (λ x. x.0)) is.standings ∙ present-leaders w cpu

few-keys : (w : World) (cpu : CpuNo) (p : Planned) → IsPlanOf (present_brief w cpu) p → (q : Key) → times q (keys_of_plan p) ≤ times q (reached_leaders w cpu)
few-keys w cpu p is q = grind (arith, plan-keys, count-filter, reached_leaders, ap (times q) (plan-keys w cpu p is))

-- so each group that is planned is there
pub planned-live : (w : World) (cpu : CpuNo) (p : Planned) → IsKept w.hardware w → IsPlanOf (present_brief w cpu) p → All (λ told. is_live w told.0 ≡ true) p.standings
planned-live w cpu p kept is i d low =
    let k : Key = (slice_index_or p.standings i d).0 in
    let at : slice_index_or (keys_of_plan p) i d.0 ≡ k = get_or-map (λ x. x.0) p.standings i d d.0 low in
    let there : 1 ≤ times k (reached_leaders w cpu) =
    omega (
      arith,
      few-keys w cpu p is k,
      ap (λ q. times q (keys_of_plan p)) at,
      times-at (keys_of_plan p) i d.0 (omega (arith, low, length-map p.standings (λ x. x.0))),
    ) in
    (leads-parts (is_live w k) (is_key k (entry_at w k).leader) (reached-leading w.hardware w kept cpu k there)).0

-- the groups of some leaders with where they stand
abbrev judged_one : World → Key × Standing → Judged
judged_one w x = record { group = group_at w x.0; standing = x.1 }

abbrev judged_at : World → List (Key × Standing) → List Judged
judged_at w xs = map (judged_one w) xs

apart-ids : (w : World) → IsKept w.hardware w → (q k : Key) → leads (post_at w) q ≡ true → leads (post_at w) k ≡ true → is_key k q ≡ false → (id_at w q == id_at w k) ≡ false
apart-ids w kept q k lead_q lead_k off = grind (arith, id_at, is_key-false, same-id)

last-next : (x : Key × Standing) (xs : List (Key × Standing)) (k : Key) (s : Standing) (b : Bool) → is_key k x.0 ≡ b → last_told (x ∷ xs) k s ≡ last_told xs k (cond b x.1 s)
unfolding last_told
last-next x xs k s b e = ap (λ c. last_told xs k (cond c x.1 s)) e

last-empty : (k : Key) (s : Standing) → last_told [] k s ≡ s
unfolding last_told
last-empty k s = refl

told-by-id : (w : World) → IsKept w.hardware w → (xs : List (Key × Standing)) → AreLeading w (map (λ x. x.0) xs) → ((q : Key) → times q (map (λ x. x.0) xs) ≤ 1)
    → (k : Key) → leads (post_at w) k ≡ true → last_told xs k standing.Out ≡ standing_among (judged_at w xs) (group_at w k)
told-by-id w kept [] all once k lead = last-empty k standing.Out ∙ sym (among-none [] (group_at w k) refl)
told-by-id w kept (x ∷ xs) all once k lead =
    let keys : List Key = map (λ y. y.0) xs in
    let own : is_key x.0 x.0 ≡ true = same_number x.0.0 x.0.0 refl in
    let lead_x : leads (post_at w) x.0 ≡ true = all x.0 (omega (arith, times-cons x.0 x.0 keys, once-true (is_key x.0 x.0) own)) in
    elim (cases_Bool (is_key k x.0)) [
      | inl e ↦
          let same : x.0 ≡ k = key-is x.0 k (is_key-true k x.0 e) in
          let ids : (id_at w x.0 == id_at w k) ≡ true = same_number (id_at w x.0) (id_at w k) (ap (id_at w) same) in
          last-next x xs k standing.Out true e
          ∙ (last-none xs k x.1 (omega (arith, once k, times-cons k x.0 keys, once-true (is_key k x.0) e)) ∙ sym (among-cons (judged_one w x) (judged_at w xs) (group_at w k) true ids))
      | inr e ↦
          last-next x xs k standing.Out false e
          ∙ (told-by-id w kept xs (λ q some. all q (omega (arith, some, times-cons q x.0 keys))) (λ q. omega (arith, once q, times-cons q x.0 keys)) k lead
          ∙ sym (among-cons (judged_one w x) (judged_at w xs) (group_at w k) false (apart-ids w kept x.0 k lead_x lead e)))
    ]

-- What is known of a world that took over a plan.
pub record TookOver (w x : World) (cpu : CpuNo) (p : Planned) : Type 0 where
  pub kept : IsKept w.hardware w
  pub kept_now : IsKept w.hardware x
  pub low : cpu.0 < length w.quiet.seats
  pub plan : IsPlanOf (present_brief w cpu) p
  pub world : x ≡ retold cpu w x
  pub standings : x.standings ≡ told_standings p.standings (out_standings (reached_leaders w cpu) w.standings)
  pub seats : seats_at x cpu ≡ p.seats

told-last : (w x : World) (cpu : CpuNo) (p : Planned) → TookOver w x cpu p → (q : Key)
    → standing_at x q ≡ last_told p.standings q (last_told (map (λ k. (k, standing.Out)) (reached_leaders w cpu)) q (standing_at w q))
told-last w x cpu p h q = grind (arith, stand_at, told-at, reached_leaders, last_told)

stands-by-plan : (w x : World) (cpu : CpuNo) (p : Planned) → TookOver w x cpu p → (q : Key) → leads (post_at w) q ≡ true → has_context (stage_of w) cpu (entry_at w q).context ≡ true
    → standing_at x q ≡ standing_among (verdicts w.hardware (stage_of w) cpu) (group_at w q)
stands-by-plan w x cpu p h q lead has =
    let there : 1 ≤ times q (reached_leaders w cpu) = reached-there w.hardware w cpu h.kept q lead has in
    let same : map (λ j. (j.group.leader.id, j.standing)) (judged_at w p.standings) ≡ standings w.hardware (stage_of w) cpu =
    map-map (λ (j : Judged). (j.group.leader.id, j.standing)) (judged_one w) p.standings
    ∙ (ap (map (λ y. (id_at w y.0, y.1))) h.plan.standings ∙ sym (present-standings w cpu)) in
    told-last w x cpu p h q
    ∙ (ap (last_told p.standings q) (last-out (reached_leaders w cpu) q (standing_at w q) there)
    ∙ (told-by-id w h.kept p.standings (λ k some. reached-leading w.hardware w h.kept cpu k (omega (arith, some, few-keys w cpu p h.plan k)))
    (λ k. omega (arith, few-keys w cpu p h.plan k, reached-once w.hardware w h.kept cpu k)) q lead
    ∙ (standing-is (judged_at w p.standings) (group_at w q)
    ∙ (ap (λ xs. standing_by xs (id_at w q)) same ∙ sym (standing-is (verdicts w.hardware (stage_of w) cpu) (group_at w q))))))

pub adopted-judged : (w x : World) (cpu : CpuNo) (p : Planned) → TookOver w x cpu p → IsJudged w.hardware x cpu
adopted-judged w x cpu p h =
    let here : seats_at (retold cpu w x) cpu ≡ seats_at x cpu = get_or-set_same w.quiet.seats cpu.0 (seats_at x cpu) (empty_seating 0) h.low in
    let within : cpu.0 < length x.quiet.seats = omega (arith, h.low, ap (λ (y : World). length y.quiet.seats) h.world, length-set w.quiet.seats cpu.0 (seats_at x cpu)) in
    let judged_now : IsJudged w.hardware (retold cpu w x) cpu =
    record {
      standings = stands-by-plan w x cpu p h;
      served = record {
        events = ap (λ s. s.events) here ∙ (ap (λ s. s.events) h.seats ∙ (h.plan.events ∙ sym (present-seated w cpu)));
        assigned = subst (λ s. IsAssignment (masks_of s.events) s.seats) (sym here) (h.kept_now.seated.sound cpu within).assigned;
      };
    } in
    subst (λ y. IsJudged w.hardware y cpu) (sym h.world) judged_now

-- standings of groups elsewhere stay
outs-keys : (keys : List Key) → map (λ (x : Key × Standing). x.0) (map (λ k. (k, standing.Out)) keys) ≡ keys
outs-keys keys = map-map (λ (x : Key × Standing). x.0) (λ k. (k, standing.Out)) keys ∙ map-id keys

pub adopted-others : (w x : World) (cpu : CpuNo) (p : Planned) → TookOver w x cpu p → (q : Key) → has_context (stage_of w) cpu (entry_at w q).context ≡ false → standing_at x q ≡ standing_at w q
adopted-others w x cpu p h q away =
    let none : times q (reached_leaders w cpu) ≡ 0 = grind (arith, reached_leaders, false≢true, reached-context) in
    told-last w x cpu p h q
    ∙ (last-none p.standings q (last_told (map (λ k. (k, standing.Out)) (reached_leaders w cpu)) q (standing_at w q)) (omega (arith, none, few-keys w cpu p h.plan q))
    ∙ last-none (map (λ k. (k, standing.Out)) (reached_leaders w cpu)) q (standing_at w q) (ap (times q) (outs-keys (reached_leaders w cpu)) ∙ none))

-- the passes stand out one after the other
pub out-then : (v w x : World) (cpu : CpuNo) (pass : ℕ) (done : List Key) → w ≡ with_standings (out_standings done v.standings) v
    → x ≡ with_standings (out_standings (slice_index_or (pass_leaders w cpu) pass []) w.standings) w
    → x ≡ with_standings (out_standings (done ++ slice_index_or (pass_leaders v cpu) pass []) v.standings) v
out-then v w x cpu pass done before now = grind (arith, out-append)

abbrev pub leaders_at : World → CpuNo → ℕ → List Key
leaders_at w cpu pass = slice_index_or (pass_leaders w cpu) pass []

pub four-passes : (w : World) (cpu : CpuNo) → ((leaders_at w cpu 0 ++ leaders_at w cpu 1) ++ leaders_at w cpu 2) ++ leaders_at w cpu 3 ≡ reached_leaders w cpu
four-passes w cpu = grind (arith, append_assoc, append-nil)

-- all that stood out, and then were told their standings and got their seats
pub took-over : (v o t x : World) (cpu : CpuNo) (p : Planned) → IsKept v.hardware v → IsKept x.hardware x → cpu.0 < length v.quiet.running → IsPlanOf (present_brief v cpu) p
    → o ≡ with_standings (out_standings (reached_leaders v cpu) v.standings) v → t ≡ with_standings (told_standings p.standings o.standings) o → x ≡ with_seats cpu p.seats t → TookOver v x cpu p
took-over v o t x cpu p kept kept_now low plan outs told seated =
    let out : FinMap nat_cmp Standing = out_standings (reached_leaders v cpu) v.standings in
    let standing : t ≡ with_standings (told_standings p.standings out) v = told ∙ (λ i. with_standings (told_standings p.standings (outs i).standings) (outs i)) in
    let all : x ≡ with_seats cpu p.seats (with_standings (told_standings p.standings out) v) = seated ∙ ap (with_seats cpu p.seats) standing in
    let within : cpu.0 < length v.quiet.seats = omega (arith, low, kept.tables.seats) in
    let seats : seats_at x cpu ≡ p.seats = ap (λ (w : World). seats_at w cpu) all ∙ get_or-set_same v.quiet.seats cpu.0 p.seats (empty_seating 0) within in
    grind (arith, all, within, seats)
