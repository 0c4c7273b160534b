-- A world that differs in standings, and then in the seats of one processor: what it shares, and how such changes
-- follow each other.
use Rattle.std.specs.{Prelude.{◌≡◌, ℕ, suc, ◌+◌, ◌<◌, List, [], ◌∷◌, ◌++◌, length, take, slice_index_or}, List.{fold}}
use Rattle.std.proofs.{Common.{arith, sym, ap, subst, ◌∙◌}, Math.Seq.{take-suc}, lemmas.Grind.{flat_map-append}}
use Rattle.std.proofs.lemmas.List.{append-nil, get_or-set_same, Sums.{fold-append}}
use Rattle.perf_base.specs.declared.numbers.{CpuNo.{CpuNo}, EventNo.{EventNo}, Key.{Key}}
use Rattle.counter_match.specs.Seating.{Seated, empty_seating}
use Rattle.world_spec.specs.{Changes.{with_seats}, Listings.{pass_leaders}, StageOf.{group_at}, Value.{World, seats_at}}
use Rattle.cpu_sched.specs.{Judging.{Tally, tell, told_of, tell_pass, restood, retold}, Passes.{AreOfTold, told_before}}
use Rattle.cpu_sched.proofs.{Served.{told-push}, Telling.{told_all}}

-- a second change takes the place of the first
pub restood-twice : (v w x : World) → w ≡ restood v w → x ≡ restood w x → x ≡ restood v x
restood-twice v w x first second = second ∙ ap (λ y. restood y x) first

-- one group is told by the groups of the world before
pub told-then : (cpu : CpuNo) (v w : World) (start t now : Tally) (done : List Key) (k : Key) → w ≡ restood v w
    → t ≡ fold (tell v.hardware cpu (group_at v)) start done → now ≡ tell w.hardware cpu (group_at w) t k
    → now ≡ fold (tell v.hardware cpu (group_at v)) start (done ++ k ∷ [])
told-then cpu v w start t now done k same before told =
    told
    ∙ (ap (λ (y : World). tell y.hardware cpu (group_at y) t k) same
    ∙ (ap (λ u. tell v.hardware cpu (group_at v) u k) before ∙ sym (fold-append (tell v.hardware cpu (group_at v)) start done (k ∷ []))))

pub events-then : (cpu : CpuNo) (v w : World) (t now : Tally) (told : List Key) (k : Key) → w ≡ restood v w
    → AreOfTold v told t.events → now ≡ tell w.hardware cpu (group_at w) t k → AreOfTold v (told ++ k ∷ []) now.events
events-then cpu v w t now told k same before is =
    subst (λ events. AreOfTold v (told ++ k ∷ []) events)
    (sym (ap (λ u. u.events) is ∙ ap (λ (y : World). (tell y.hardware cpu (group_at y) t k).events) same))
    (told-push v.hardware v told k (told_of v.hardware cpu (group_at v k) t) t.events before)

-- the lists of a pass, and those before the next one
pub restood-list : (cpu : CpuNo) (v w : World) (pass : ℕ) (keys : List Key) → w ≡ restood v w → keys ≡ slice_index_or (pass_leaders w cpu) pass [] → keys ≡ slice_index_or (pass_leaders v cpu) pass []
restood-list cpu v w pass keys same is = is ∙ ap (λ (y : World). slice_index_or (pass_leaders y cpu) pass []) same

pub told-next : (w : World) (cpu : CpuNo) (pass : ℕ) → pass < 4 → told_before w cpu (pass + 1) ≡ told_before w cpu pass ++ slice_index_or (pass_leaders w cpu) pass []
told-next w cpu pass low =
    let one : pass + 1 ≡ suc pass = omega arith in
    ap (λ n. told_all (take n (pass_leaders w cpu))) one
    ∙ (ap told_all (take-suc (pass_leaders w cpu) pass [] low)
    ∙ (flat_map-append (λ keys. keys) (take pass (pass_leaders w cpu)) (slice_index_or (pass_leaders w cpu) pass [] ∷ [])
    ∙ ap (λ ks. told_before w cpu pass ++ ks) (append-nil (slice_index_or (pass_leaders w cpu) pass []))))

pub restood-told : (cpu : CpuNo) (v w : World) (n : ℕ) (events : List (EventNo × ℕ)) → w ≡ restood v w → AreOfTold v (told_before v cpu n) events → AreOfTold w (told_before w cpu n) events
restood-told cpu v w n events same h = subst (λ y. AreOfTold y (told_before y cpu n) events) (sym same) h

-- a pass is told by the groups of the world before
pub pass-then : (cpu : CpuNo) (v w : World) (start t now : Tally) (pass : ℕ) → pass < 4 → w ≡ restood v w
    → t ≡ fold (tell_pass v.hardware cpu (group_at v)) start (take pass (pass_leaders v cpu))
    → now ≡ tell_pass w.hardware cpu (group_at w) t (slice_index_or (pass_leaders w cpu) pass [])
    → now ≡ fold (tell_pass v.hardware cpu (group_at v)) start (take (pass + 1) (pass_leaders v cpu))
pass-then cpu v w start t now pass low same before told =
    let one : pass + 1 ≡ suc pass = omega arith in
    told
    ∙ (ap (λ (y : World). tell_pass y.hardware cpu (group_at y) t (slice_index_or (pass_leaders y cpu) pass [])) same
    ∙ (ap (λ u. tell_pass v.hardware cpu (group_at v) u (slice_index_or (pass_leaders v cpu) pass [])) before
    ∙ sym (ap (fold (tell_pass v.hardware cpu (group_at v)) start) (ap (λ n. take n (pass_leaders v cpu)) one ∙ take-suc (pass_leaders v cpu) pass [] low)
    ∙ fold-append (tell_pass v.hardware cpu (group_at v)) start (take pass (pass_leaders v cpu)) (slice_index_or (pass_leaders v cpu) pass [] ∷ []))))

-- the seats are put on the processor
pub seated-at : (cpu : CpuNo) (v w x : World) (s : Seated) → cpu.0 < length v.quiet.seats → w ≡ restood v w → x ≡ with_seats cpu s w → seats_at x cpu ≡ s
seated-at cpu v w x s low same is =
    ap (λ (y : World). seats_at y cpu) (is ∙ ap (with_seats cpu s) same) ∙ get_or-set_same v.quiet.seats cpu.0 s (empty_seating 0) low

pub seated-then : (cpu : CpuNo) (v w x : World) (s : Seated) → cpu.0 < length v.quiet.seats → w ≡ restood v w → x ≡ with_seats cpu s w → x ≡ retold cpu v x
seated-then cpu v w x s low same is =
    is ∙ (ap (with_seats cpu s) same ∙ sym (λ i. record (with_seats cpu (seated-at cpu v w x s low same is i) v) { standings = ap (λ (y : World). y.standings) is i }))
