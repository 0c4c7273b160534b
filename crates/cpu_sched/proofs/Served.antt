-- The events of the groups that were told are each there once, so that the next group can be put beside them.
use Rattle.std.specs.Prelude.{◌≡◌, ◌≢◌, ℕ, zero, suc, ◌+◌, ◌<◌, ◌≤◌, ◌==◌, Bool, true, ◌&&◌, cond, List, [], ◌∷◌, ◌++◌, length, map, filter, flat_map, count_by, take, slice_index_or}
use Rattle.std.proofs.{Common.{arith, sym, ap, subst, ◌∙◌, inl, inr}, lemmas.{Bool.{cases_Bool, Decides.{nat_tests}}, Grind.{flat_map-append}}}
use Rattle.std.proofs.lemmas.List.{append-nil, map-append, Kept.{AllPairs-cons}}
use Rattle.perf_base.specs.declared.{numbers.{CpuNo.{CpuNo}, EventNo.{EventNo}, Key.{Key}}, standing.Standing.{Standing}}
use Rattle.perf_base.specs.declared.standing.Standing.TheVariants as standing
use Rattle.stage_spec.specs.{declared.instance.Instance.{Instance}, Effective.{is_ready, is_hardware, counted_members}, Hardware.{Hardware}}
use Rattle.stage_spec.specs.{Stage.{members_of, members, is_of_family}, Verdict.{with_masks}}
use Rattle.stage_laws.proofs.Counts.{count-cons, count-append}
use Rattle.counter_match.specs.Seating.{AreDistinct}
use Rattle.world_spec.{specs.{Kept.{IsKept}, Listings.{pass_leaders}, StageOf.{group_at}, Value.{World}}, proofs.Keys.{once-true}}
use Rattle.world_spec.proofs.Listings.{passes-are, reached_leaders, flat-mapped, one-on_processor}
use Rattle.cpu_sched.{specs.{Judging.{events_next}, Passes.{AreOfTold, told_before}}, proofs.Telling.{told_all}}

-- how often an event stands in a list, and how many instances of it groups have
abbrev pub slots : EventNo → List (EventNo × ℕ) → ℕ
slots e events = count_by (λ event. event.0.0 == e.0) events

abbrev pub held : World → EventNo → List Key → ℕ
held w e keys = count_by (is_of_family e) (members (map (group_at w) keys))

pub held-parts : (w : World) (e : EventNo) (xs ys : List Key) → held w e (xs ++ ys) ≡ held w e xs + held w e ys
held-parts w e xs ys = grind (arith, nat_tests, map-append, flat_map-append, count-append)

pub held-one : (w : World) (e : EventNo) (k : Key) → held w e (k ∷ []) ≡ count_by (is_of_family e) (members_of (group_at w k))
held-one w e k = ap (count_by (is_of_family e)) (append-nil (members_of (group_at w k)))

held-pass : (w : World) (e : EventNo) (ps : List (List Key)) (pass : ℕ) → held w e (told_all (take pass ps)) + held w e (slice_index_or ps pass []) ≤ held w e (told_all ps)
held-pass w e [] zero = omega arith
held-pass w e [] (suc pass) = omega arith
held-pass w e (p ∷ ps) zero = omega (arith, held-parts w e p (told_all ps))
held-pass w e (p ∷ ps) (suc pass) = omega (arith, held-parts w e p (told_all ps), held-parts w e p (told_all (take pass ps)), held-pass w e ps pass)

held-front : (w : World) (e : EventNo) (n : ℕ) (keys : List Key) → held w e (take n keys) ≤ held w e keys
held-front w e zero keys = omega arith
held-front w e (suc n) [] = omega arith
held-front w e (suc n) (k ∷ keys) = omega (arith, held-parts w e (k ∷ []) keys, held-parts w e (k ∷ []) (take n keys), held-front w e n keys)

-- the members of a group that need counters
pub slots-of : (hw : Hardware) (e : EventNo) (p : Instance → Bool) (is : List Instance) → slots e (with_masks hw (filter p is)) ≤ count_by (is_of_family e) is
slots-of hw e p [] = omega arith
slots-of hw e p (i ∷ is) = elim (cases_Bool (p i)) [
  | inl on ↦
      omega (
        arith,
        ap (λ b. slots e (with_masks hw (cond b (i ∷ filter p is) (filter p is)))) on,
        count-cons (λ event. event.0.0 == e.0) (i.event, 0) (with_masks hw (filter p is)),
        count-cons (is_of_family e) i is,
        slots-of hw e p is,
      )
  | inr off ↦
      omega (
        arith,
        ap (λ b. slots e (with_masks hw (cond b (i ∷ filter p is) (filter p is)))) off,
        count-cons (is_of_family e) i is,
        slots-of hw e p is,
      )
]

-- one group more
pub told-push : (hw : Hardware) (w : World) (told : List Key) (k : Key) (s : Standing) (events : List (EventNo × ℕ)) → AreOfTold w told events
    → AreOfTold w (told ++ k ∷ []) (events_next s (with_masks hw (counted_members (group_at w k))) events)
told-push hw w told k standing.Out events h e = omega (arith, h e, held-parts w e told (k ∷ []))
told-push hw w told k standing.On events h e =
    omega (
      arith,
      h e,
      held-parts w e told (k ∷ []),
      held-one w e k,
      count-append (λ event. event.0.0 == e.0) events (with_masks hw (counted_members (group_at w k))),
      slots-of hw e (λ i. is_ready i.own && is_hardware i) (members_of (group_at w k)),
    )
told-push hw w told k (standing.Refused cause) events h e = omega (arith, h e, held-parts w e told (k ∷ []))

-- what a processor reaches, by its leaders
pub held-reached : (hw : Hardware) (w : World) (cpu : CpuNo) (e : EventNo) → IsKept hw w → held w e (reached_leaders w cpu) ≤ 1
held-reached hw w cpu e h =
    subst (λ gs. count_by (is_of_family e) (members gs) ≤ 1) (ap (flat_map (λ p. p)) (passes-are w cpu) ∙ flat-mapped (group_at w) (pass_leaders w cpu)) (one-on_processor hw w cpu e h)

-- where each event stands once at most, no two are the same
counted-at : {X : Type 0} (p : X → Bool) (xs : List X) (i : ℕ) (d : X) → i < length xs → p (slice_index_or xs i d) ≡ true → 1 ≤ count_by p xs
counted-at p [] i d low h = absurd (omega (arith, low))
counted-at p (x ∷ xs) zero d low h = omega (arith, count-cons p x xs, once-true (p x) h)
counted-at p (x ∷ xs) (suc i) d low h = omega (arith, count-cons p x xs, counted-at p xs i d (omega (arith, low)) h)

pub distinct-once : (xs : List (EventNo × ℕ)) → ((e : EventNo) → slots e xs ≤ 1) → AreDistinct xs
distinct-once [] once = λ i j d low high. absurd (omega (arith, low, high))
distinct-once (x ∷ xs) once =
    let own : (x.0.0 == x.0.0) ≡ true = grind (arith, nat_tests) in
    AllPairs-cons (λ one other. one.0 ≢ other.0) x xs
    (λ i d low same. omega (
      arith,
      once x.0,
      count-cons (λ event. event.0.0 == x.0.0) x xs,
      once-true (x.0.0 == x.0.0) own,
      counted-at (λ event. event.0.0 == x.0.0) xs i d low (ap (λ (e : EventNo). e.0 == x.0.0) (sym same) ∙ own),
    ))
    (distinct-once xs (λ e. omega (arith, once e, count-cons (λ event. event.0.0 == e.0) x xs)))

-- The next group of a pass can be put beside those that were told.
pub next-distinct : (hw : Hardware) (w : World) (cpu : CpuNo) (pass place : ℕ) (k : Key) (events : List (EventNo × ℕ)) → IsKept hw w
    → take (place + 1) (slice_index_or (pass_leaders w cpu) pass []) ≡ take place (slice_index_or (pass_leaders w cpu) pass []) ++ k ∷ []
    → AreOfTold w (told_before w cpu pass ++ take place (slice_index_or (pass_leaders w cpu) pass [])) events
    → AreDistinct (events ++ with_masks hw (counted_members (group_at w k)))
next-distinct hw w cpu pass place k events h next told =
    let keys : List Key = slice_index_or (pass_leaders w cpu) pass [] in
    distinct-once (events ++ with_masks hw (counted_members (group_at w k))) (λ e.
    omega (
      arith,
      told e,
      count-append (λ event. event.0.0 == e.0) events (with_masks hw (counted_members (group_at w k))),
      slots-of hw e (λ i. is_ready i.own && is_hardware i) (members_of (group_at w k)),
      held-one w e k,
      held-parts w e (take place keys) (k ∷ []),
      ap (held w e) next,
      held-parts w e (told_before w cpu pass) (take place keys),
      held-front w e (place + 1) keys,
      held-pass w e (pass_leaders w cpu) pass,
      held-reached hw w cpu e h,
    ))
