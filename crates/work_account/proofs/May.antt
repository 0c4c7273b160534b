-- What a processor's instances that take work, or an occurrence, may be hit by.
use Rattle.std.specs.Prelude.{◌≡◌, ℕ, zero, suc, ◌+◌, ◌^◌, ◌<◌, ◌≤◌, ◌==◌, Bool, true, false, not, ◌&&◌, List, [], ◌∷◌, length, map, filter, count_by, slice_index_or, if◌then◌else◌}
use Rattle.std.proofs.{Common.{arith, refl, sym, ap, subst, ◌∙◌, inl, inr}, lemmas.Bool.{and_parts, cases_Bool, false≢true}}
use Rattle.perf_base.specs.declared.{attr.Kind.{Kind}, lines.Work.{Work}, numbers.{CpuNo.{CpuNo}, Key.{Key}}, reply.Sums.{Sums}}
use Rattle.perf_base.specs.declared.attr.Kind.TheVariants as kind
use Rattle.perf_base.specs.declared.lines.CpuLine.TheVariants as cpu_line
use Rattle.stage_spec.specs.{declared.instance.Instance.{Instance}, Families.{plus}, Shares.{no_sums, work_hits}}
use Rattle.stage_laws.{specs.{Bounds.{most_of_line}, Narrowing.{has_context}}, proofs.Counts.{count-cons, count-filter}}
use Rattle.world_spec.specs.{Value.{World, no_family, is_live, entry_at, instance_at, account_at, times}, StageOf.{stage_of}}
use Rattle.world_spec.specs.{Kept.{keys_of, plus_keys, family_sums, IsKept}, Metering.{IsWorked, work_given, is_metered, goes_along}}
use Rattle.world_spec.specs.{Shares.{HaveRoom, soft_hits, one_hit}, Ways.{is_ready_at, is_on_at}, Working.{is_on, keys_by_pass}}
use Rattle.world_spec.proofs.{Accounts.{IsSum, counts_are_sums}, Along.{keys-live, reached-keys, chosen-some, chosen-passes}, Keys.{times-cons, once-false}}
use Rattle.world_spec.proofs.{Metering.{none-unready, family-key}, Moving.{leads-parts}, Reaching.{one-reached}}
use Rattle.work_account.specs.declared.{happening.Happening.{Happening}, overflowing.Hit.{Hit}}
use Rattle.work_account.specs.Visits.{occurs, samples, is_hit_by, takes, hit_at, hits_among, is_of, MayHit, MayHitAll}
use Rattle.work_account.proofs.{Growing.{soft-small}, Reached.{is_in, one-each, stands-first}}
use Rattle.work_account.specs.declared.happening.Happening.TheVariants as happening
use Rattle.stage_laws.proofs.BoundsStep.{counted-le}

-- none of those that take it goes along totals
last-off : (a b : Bool) → not b ≡ true → (a && b) ≡ false
last-off true true h = absurd (false≢true h)
last-off true false h = refl
last-off false b h = refl

soft-apart : (occurring : Kind) (i : Instance) (k : Kind) → i.attr.kind ≡ k → not (soft_hits occurring i == 0) ≡ true → is_metered k ≡ false
soft-apart occurring i kind.ContextSwitches is h = refl
soft-apart occurring i kind.CpuMigrations is h = refl
soft-apart occurring i kind.Dummy is h = refl
soft-apart (kind.Hard m) i (kind.Hard n) is h = absurd (false≢true h)
soft-apart kind.TaskClock i (kind.Hard n) is h = absurd (false≢true h)
soft-apart kind.Dummy i (kind.Hard n) is h = absurd (false≢true h)
soft-apart kind.ContextSwitches i (kind.Hard n) is h = absurd (let none : soft_hits kind.ContextSwitches i ≡ 0 = rw is refl in false≢true (sym (ap (λ m. not (m == 0)) none) ∙ h))
soft-apart kind.CpuMigrations i (kind.Hard n) is h = absurd (let none : soft_hits kind.CpuMigrations i ≡ 0 = rw is refl in false≢true (sym (ap (λ m. not (m == 0)) none) ∙ h))
soft-apart (kind.Hard m) i kind.TaskClock is h = absurd (false≢true h)
soft-apart kind.TaskClock i kind.TaskClock is h = absurd (false≢true h)
soft-apart kind.Dummy i kind.TaskClock is h = absurd (false≢true h)
soft-apart kind.ContextSwitches i kind.TaskClock is h = absurd (let none : soft_hits kind.ContextSwitches i ≡ 0 = rw is refl in false≢true (sym (ap (λ m. not (m == 0)) none) ∙ h))
soft-apart kind.CpuMigrations i kind.TaskClock is h = absurd (let none : soft_hits kind.CpuMigrations i ≡ 0 = rw is refl in false≢true (sym (ap (λ m. not (m == 0)) none) ∙ h))

hit-apart : (x : Happening) (i : Instance) → is_hit_by x i ≡ true → goes_along i.attr ≡ false
hit-apart (happening.Work work) i h = last-off (is_metered i.attr.kind) (i.attr.period == 0) h
hit-apart (happening.Soft occurring) i h = ap (λ b. b && i.attr.period == 0) (soft-apart occurring i i.attr.kind refl h)

-- a hit among those that take it is of a key among them
hit-of : (x : Happening) (w : World) (keys : List Key) (place : ℕ) (none : Hit) → place < length (hits_among x w keys)
    → (k : Key) × (1 ≤ times k (filter (takes x w) keys)) × (slice_index_or (hits_among x w keys) place none ≡ hit_at x w k)
hit-of x w keys place none low = at (filter (takes x w) keys) place low
  where
    at : (ks : List Key) (place : ℕ) → place < length (map (hit_at x w) ks) → (k : Key) × (1 ≤ times k ks) × (slice_index_or (map (hit_at x w) ks) place none ≡ hit_at x w k)
    at [] place low = absurd (omega (arith, low))
    at (q ∷ ks) zero low = (q, stands-first q ks, refl)
    at (q ∷ ks) (suc place) low =
        let found = at ks place (omega (arith, low)) in
        (found.0, omega (arith, found.1, times-cons found.0 q ks), found.2)

counted-hits : (x : Happening) (w : World) (slot : ℕ) (keys : List Key) → count_by (is_of w slot) (map (hit_at x w) keys) ≡ count_by (is_in w slot) keys
counted-hits x w slot [] = refl
counted-hits x w slot (k ∷ keys) = search (count-cons, is_in, counted-hits x w slot keys)

module _ (x : Happening) (w : World) (cpu : CpuNo) (h : IsKept w.hardware w) where
  pub may-hit : ((k : Key) → is_live w k ≡ true → is_on_at w cpu k ≡ true → is_hit_by x (instance_at w k) ≡ true
      → (family_sums w (instance_at w k).event.0).count + occurs x (instance_at w k) < 2 ^ 63) → MayHitAll w (hits_among x w (keys_by_pass w cpu))
  may-hit room = record {
    each = λ place none low.
        (let found = hit-of x w (keys_by_pass w cpu) place none low in
        let k : Key = found.0 in
        let among : 1 ≤ times k (keys_by_pass w cpu) = chosen-some (takes x w) (keys_by_pass w cpu) k found.1 in
        let live : is_live w k ≡ true = keys-live w.hardware w cpu h k among in
        let both = and_parts (is_hit_by x (instance_at w k)) (is_on w k) (chosen-passes (takes x w) (keys_by_pass w cpu) k found.1) in
        subst (MayHit w) (sym found.2) (record {
          live = live;
          alone = λ other on. hit-apart x (instance_at w k) both.0;
          counts = room k live (on-there k live among both.1) both.0;
        }));
    one_each = λ slot.
        omega (
          arith,
          one-each w.hardware w cpu h slot,
          count-filter (is_in w slot) (takes x w) (keys_by_pass w cpu),
          counted-hits x w slot (filter (takes x w) (keys_by_pass w cpu)),
        );
    linked = h.linked;
  }
    where
      here : (k : Key) → is_live w k ≡ true → 1 ≤ times k (keys_by_pass w cpu) → has_context (stage_of w) cpu (entry_at w k).context ≡ true
      here k live some = elim (cases_Bool (has_context (stage_of w) cpu (entry_at w k).context)) [
        | inl on ↦ on
        | inr off ↦ absurd (omega (arith, some, reached-keys w.hardware w cpu k h live, once-false (has_context (stage_of w) cpu (entry_at w k).context) off))
      ]

      regroup : (e c s : Bool) → (e && s) ≡ true → c ≡ true → ((e && c) && s) ≡ true
      regroup true true true on there = refl
      regroup true true false on there = absurd (false≢true on)
      regroup true false s on there = absurd (false≢true there)
      regroup false c s on there = absurd (false≢true on)

      on-there : (k : Key) → is_live w k ≡ true → 1 ≤ times k (keys_by_pass w cpu) → is_on w k ≡ true → is_on_at w cpu k ≡ true
      on-there k live some on = regroup _ _ _ on (here k live some)

-- one occurrence
pub soft-may : (w : World) (cpu : CpuNo) (occurring : Kind) → IsKept w.hardware w → HaveRoom w one_hit → MayHitAll w (hits_among (happening.Soft occurring) w (keys_by_pass w cpu))
soft-may w cpu occurring h room =
    may-hit (happening.Soft occurring) w cpu h (λ k live on hit. omega (arith, room.counts k live, soft-small occurring (instance_at w k)))

-- A family has counted nothing along a processor where its instance there samples.
module _ (p : Sums → ℕ) (is : IsSum p) where
  same-sums : (s t : Key → Sums) (keys : List Key) → ((q : Key) → 1 ≤ times q keys → p (s q) ≡ p (t q)) → p (plus_keys s keys) ≡ p (plus_keys t keys)
  same-sums s t [] same = refl
  same-sums s t (q ∷ keys) same =
      omega (
        arith,
        same q (stands-first q keys),
        same-sums s t keys (λ j some. same j (omega (arith, some, times-cons j q keys))),
        is.both (s q) (plus_keys s keys),
        is.both (t q) (plus_keys t keys),
      )

samples-none : (on none : Bool) (n : ℕ) → not none ≡ true → (if on && none then n else 0) ≡ 0
samples-none true true n h = absurd (false≢true h)
samples-none true false n h = refl
samples-none false none n h = refl

module _ (w v : World) (cpu : CpuNo) (work : Work) (h : IsKept w.hardware w) (worked : IsWorked w v cpu work) where
  same-count : (k : Key) → is_live w k ≡ true → is_on_at w cpu k ≡ true → samples (instance_at w k) ≡ true
      → (family_sums v (instance_at w k).event.0).count ≡ (family_sums w (instance_at w k).event.0).count
  same-count k live on sampling =
      let slot : ℕ = (instance_at w k).event.0 in
      let keys : List Key = keys_of (slice_index_or w.families slot no_family) in
      let none : (q : Key) → 1 ≤ times q keys → (account_at v q).sums.count ≡ (account_at w q).sums.count = λ q some.
      (let its = family-key w.hardware w h slot q some in
      omega (arith, ap (λ a. a.sums.count) (worked.accounts q its.0), given-none q its.0 its.1)) in
      ap (λ s. s.count)
      (λ i. plus (plus_keys (λ q. (account_at v q).sums) (keys_of (slice_index_or (worked.rest i).families slot no_family))) (slice_index_or (worked.rest i).folded slot no_sums))
      ∙ ap (λ n. n + (slice_index_or w.folded slot no_sums).count) (same-sums (λ s. s.count) counts_are_sums (λ q. (account_at v q).sums) (λ q. (account_at w q).sums) keys none)
    where
      given-none : (q : Key) → is_live w q ≡ true → (instance_at w q).event.0 ≡ (instance_at w k).event.0 → (work_given w cpu work q).count ≡ 0
      given-none q there same = elim (cases_Bool (is_ready_at w cpu q)) [
        | inr off ↦ ap (λ s. s.count) (none-unready w cpu work q off)
        | inl ready ↦
            let is : q ≡ k = one-reached w.hardware w cpu q k h there live same (leads-parts _ _ ready).1 (leads-parts _ _ (leads-parts _ _ on).0).1 in
            samples-none (is_on_at w cpu q) ((instance_at w q).attr.period == 0) (work_hits work (instance_at w q)) (ap (λ x. samples (instance_at w x)) is ∙ sampling)
      ]

  pub work-may : HaveRoom w (most_of_line (cpu_line.Work work)) → IsKept v.hardware v → MayHitAll v (hits_among (happening.Work work) v (keys_by_pass v cpu))
  work-may room kept =
      may-hit (happening.Work work) v cpu kept (λ k live on hit.
      (let was : is_live w k ≡ true = ap (λ (x : World). is_live x k) (sym worked.rest) ∙ live in
      let on_was : is_on_at w cpu k ≡ true = ap (λ (x : World). is_on_at x cpu k) (sym worked.rest) ∙ on in
      let same : instance_at v k ≡ instance_at w k = ap (λ (x : World). instance_at x k) worked.rest in
      let sampling : samples (instance_at w k) ≡ true = ap samples (sym same) ∙ hit in
      subst (λ (i : Instance). (family_sums v i.event.0).count + work_hits work i < 2 ^ 63) (sym same)
      (omega (
        arith,
        room.counts k was,
        same-count k was on_was sampling,
        counted-le work (instance_at w k).attr (instance_at w k).attr.kind,
      ))))
