-- A draft with one group more, and the events of the groups that were taken.
use Rattle.std.specs.{Prelude.{◌≡◌, ℕ, zero, suc, ◌+◌, ◌<◌, ◌≤◌, ◌==◌, All, List, [], ◌∷◌, ◌++◌, length, map, take, slice_index_or}, List.{fold}}
use Rattle.std.proofs.{Common.{arith, refl, sym, ap, subst, ◌∙◌}, Math.Seq.{take-suc}, lemmas.Grind.{flat_map-append}}
use Rattle.std.proofs.lemmas.List.{get_or-map, length-map, map-append, Sums.{fold-append}}
use Rattle.perf_base.specs.declared.{numbers.{EventNo.{EventNo}, Key.{Key}}, standing.Standing.{Standing}}
use Rattle.perf_base.specs.declared.standing.Standing.TheVariants as standing
use Rattle.stage_laws.{specs.Briefs.{GroupBrief}, proofs.Counts.{count-append}}
use Rattle.counter_match.specs.Seating.{AreDistinct}
use Rattle.cpu_sched.specs.{declared.{group_brief.GroupBrief.{GroupBrief as Stored}, judging.SoFar.{SoFar}}, Briefs.{seen, events_in, IsGroupBrief}}
use Rattle.cpu_sched.specs.{Judging.{events_next}, Plans.{Draft, draft_of, plan_one, planned_of}, Tried.{tries_for}}
use Rattle.cpu_sched.proofs.Served.{slots, distinct-once}

-- a draft is told by its three parts
pub record IsDraft (d : Draft) (standings : List (Key × Standing)) (events : List (EventNo × ℕ)) (so_far : SoFar) : Type 0 where
  pub standings_are : standings ≡ d.standings
  pub events_are : events ≡ d.events
  pub so_far_is : so_far ≡ d.so_far

next-group : (groups : List Stored) (i : ℕ) (x : Stored) → i < length groups → take (i + 1) groups ≡ take i groups ++ slice_index_or groups i x ∷ []
next-group groups i x low = grind (arith, take-suc)

fold-next : (start : Draft) (groups : List Stored) (i : ℕ) (x : Stored) → i < length groups
    → fold plan_one start (map seen (take (i + 1) groups)) ≡ plan_one (fold plan_one start (map seen (take i groups))) (seen (slice_index_or groups i x))
fold-next start groups i x low =
    ap (λ gs. fold plan_one start (map seen gs)) (next-group groups i x low)
    ∙ (ap (fold plan_one start) (map-append seen (take i groups) (slice_index_or groups i x ∷ []))
    ∙ fold-append plan_one start (map seen (take i groups)) (seen (slice_index_or groups i x) ∷ []))

pub draft-next : (start : Draft) (groups : List Stored) (i : ℕ) (x : Stored) (standings standings_now : List (Key × Standing)) (events events_now : List (EventNo × ℕ)) (so_far so_far_now : SoFar) → i < length groups
    → IsDraft (fold plan_one start (map seen (take i groups))) standings events so_far
    → standings_now ≡ (plan_one (draft_of standings events so_far) (seen (slice_index_or groups i x))).standings
    → events_now ≡ (plan_one (draft_of standings events so_far) (seen (slice_index_or groups i x))).events
    → so_far_now ≡ (plan_one (draft_of standings events so_far) (seen (slice_index_or groups i x))).so_far
    → IsDraft (fold plan_one start (map seen (take (i + 1) groups))) standings_now events_now so_far_now
draft-next start groups i x standings standings_now events events_now so_far so_far_now low h e1 e2 e3 = grind (arith, fold-next)

pub tried-next : (start : Draft) (groups : List Stored) (i : ℕ) (x : Stored) (standings : List (Key × Standing)) (events : List (EventNo × ℕ)) (so_far : SoFar) → i < length groups
    → IsDraft (fold plan_one start (map seen (take i groups))) standings events so_far
    → (fold plan_one start (map seen (take i groups))).tried + (plan_one (draft_of standings events so_far) (seen (slice_index_or groups i x))).tried
    ≡ (fold plan_one start (map seen (take (i + 1) groups))).tried
tried-next start groups i x standings events so_far low h =
    let d : Draft = fold plan_one start (map seen (take i groups)) in
    let g : GroupBrief Key = seen (slice_index_or groups i x) in
    let t : ℕ = tries_for (planned_of d g) (length g.counted) in
    let own : (plan_one (draft_of standings events so_far) g).tried ≡ 0 + tries_for (planned_of (draft_of standings events so_far) g) (length g.counted) = refl in
    let all : (plan_one d g).tried ≡ d.tried + t = refl in
    let same : tries_for (planned_of (draft_of standings events so_far) g) (length g.counted) ≡ t = grind arith in
    omega (arith, own, all, same, ap (λ e. e.tried) (fold-next start groups i x low))

-- events that groups add
pub next-once : (e : EventNo) (s : Standing) (group events : List (EventNo × ℕ)) → slots e (events_next s group events) ≤ slots e events + slots e group
next-once e standing.Out group events = omega arith
next-once e standing.On group events = omega (arith, count-append (λ event. event.0.0 == e.0) events group)
next-once e (standing.Refused cause) group events = omega arith

pub taken-next : (e : EventNo) (groups : List Stored) (i : ℕ) (x : Stored) → i < length groups
    → slots e (events_in (map seen (take (i + 1) groups))) ≡ slots e (events_in (map seen (take i groups))) + slots e (slice_index_or groups i x).events
taken-next e groups i x low =
    let g : Stored = slice_index_or groups i x in
    omega (
      arith,
      ap (λ gs. slots e (events_in (map seen gs))) (next-group groups i x low),
      ap (λ gs. slots e (events_in gs)) (map-append seen (take i groups) (g ∷ [])),
      ap (slots e) (flat_map-append (λ b. b.counted) (map seen (take i groups)) (seen g ∷ [])),
      count-append (λ event. event.0.0 == e.0) (events_in (map seen (take i groups))) (events_in (seen g ∷ [])),
      count-append (λ event. event.0.0 == e.0) g.events [],
    )

pub taken-few : (e : EventNo) (groups : List Stored) (i : ℕ) → slots e (events_in (map seen (take i groups))) ≤ slots e (events_in (map seen groups))
taken-few e [] zero = omega arith
taken-few e [] (suc i) = omega arith
taken-few e (g ∷ groups) zero = omega arith
taken-few e (g ∷ groups) (suc i) = grind (arith, count-append, taken-few e groups i)

-- The next group can be put beside those that were planned.
pub group-distinct : (groups : List Stored) (i : ℕ) (x : Stored) (before events : List (EventNo × ℕ)) → i < length groups
    → ((e : EventNo) → slots e before + slots e (events_in (map seen groups)) ≤ 1)
    → ((e : EventNo) → slots e events ≤ slots e before + slots e (events_in (map seen (take i groups))))
    → AreDistinct (events ++ (slice_index_or groups i x).events)
group-distinct groups i x before events low once told =
    distinct-once (events ++ (slice_index_or groups i x).events) (λ e.
    omega (
      arith,
      once e,
      told e,
      count-append (λ event. event.0.0 == e.0) events (slice_index_or groups i x).events,
      taken-next e groups i x low,
      taken-few e groups (i + 1),
    ))

pub group-sound : (counters n : ℕ) (groups : List Stored) (i : ℕ) (x : Stored) → i < length groups → All (IsGroupBrief counters) (map seen groups) → n ≡ counters
    → IsGroupBrief n (seen (slice_index_or groups i x))
group-sound counters n groups i x low all same =
    subst (λ m. IsGroupBrief m (seen (slice_index_or groups i x))) (sym same)
    (subst (IsGroupBrief counters) (get_or-map seen groups i x (seen x) low) (all i (seen x) (omega (arith, low, length-map groups seen))))
