-- A family grows by no more than one instance is given, since a processor reaches one of it at most.
use Rattle.std.{specs.Prelude.{◌≡◌, ℕ, ◌≤◌, max, true, false, List, slice_index_or, if◌then◌else◌}, proofs.Common.{arith, sym, ap, ◌∙◌, inl, inr}}
use Rattle.std.proofs.lemmas.Bool.{cases_Bool}
use Rattle.perf_base.specs.declared.{attr.Kind.{Kind}, lines.Work.{Work}, numbers.{CpuNo.{CpuNo}, Key.{Key}}, reply.Sums.{Sums}}
use Rattle.perf_base.specs.declared.attr.Kind.TheVariants as kind
use Rattle.perf_base.specs.declared.lines.CpuLine.TheVariants as cpu_line
use Rattle.stage_spec.specs.{declared.instance.Instance.{Instance}, Families.{plus}, Shares.{no_sums, work_hits}}
use Rattle.stage_laws.specs.Bounds.{most_of_line, greatest, AreAtMost}
use Rattle.world_spec.specs.{Value.{World, no_family, is_live, instance_at, account_at}, Kept.{keys_of, plus_keys, family_sums, IsKept}}
use Rattle.world_spec.specs.{Metering.{work_given}, Rescheduled.{IsJudged}, Shares.{work_shares, soft_hits, soft_shares, one_hit, HaveShares}}
use Rattle.world_spec.{specs.Ways.{is_ready_at, is_on_at}, proofs.Accounts.{IsSum, counts_are_sums, times_are_sums, family-once}}
use Rattle.world_spec.proofs.{Along.{on-share, share-is}, Folding.{run_times_are_sums}}
use Rattle.world_spec.proofs.Metering.{where-most, none-unready, given-most, one-given, family-key, plus-same}
use Rattle.world_spec.proofs.{Moving.{leads-parts}, Reaching.{one-reached}}
use Rattle.stage_laws.proofs.BoundsStep.{counted-le}
use Rattle.world_spec.proofs.ComingLinks.{none_of_two}

module _ (w new : World) (cpu : CpuNo) (given : ℕ → Sums) (most : Sums) (h : IsKept w.hardware w) (shared : HaveShares w new given)
    (families : new.families ≡ w.families) (folded : new.folded ≡ w.folded)
    (none : (k : Key) → is_live w k ≡ true → is_ready_at w cpu k ≡ false → given (instance_at w k).id ≡ no_sums)
    (few : (k : Key) → is_live w k ≡ true → AreAtMost (given (instance_at w k).id) most) where
  abbrev old : Key → Sums
  old q = (account_at w q).sums

  abbrev mine : Key → Sums
  mine q = if is_live w q then given (instance_at w q).id else no_sums

  mine-live : (q : Key) → is_live w q ≡ true → mine q ≡ given (instance_at w q).id
  mine-live q live = ap {B = Sums} (λ b. if b then given (instance_at w q).id else no_sums) live

  mine-dead : (q : Key) → is_live w q ≡ false → mine q ≡ no_sums
  mine-dead q dead = ap {B = Sums} (λ b. if b then given (instance_at w q).id else no_sums) dead

  mine-none : (q : Key) → is_ready_at w cpu q ≡ false → mine q ≡ no_sums
  mine-none q off = elim (cases_Bool (is_live w q)) [
    | inl live ↦ mine-live q live ∙ none q live off
    | inr dead ↦ mine-dead q dead
  ]

  sums-are : (slot : ℕ) → family_sums new slot ≡ plus (plus_keys (λ q. plus (old q) (mine q)) (keys_of (slice_index_or w.families slot no_family))) (slice_index_or w.folded slot no_sums)
  sums-are slot =
      let keys : List Key = keys_of (slice_index_or w.families slot no_family) in
      (λ i. plus (plus_keys (λ q. (account_at new q).sums) (keys_of (slice_index_or (families i) slot no_family))) (slice_index_or (folded i) slot no_sums))
      ∙ ap (λ x. plus x (slice_index_or w.folded slot no_sums))
      (plus-same (λ q. plus (old q) (mine q)) (λ q. (account_at new q).sums) keys
      (λ q some.
      let live : is_live w q ≡ true = (family-key w.hardware w h slot q some).0 in
      ap (λ a. a.sums) (shared.accounts q live) ∙ ap (plus (old q)) (sym (mine-live q live))))

  module _ (p : Sums → ℕ) (is : IsSum p) (lower : (s t : Sums) → AreAtMost s t → p s ≤ p t) where
    mine-most : (q : Key) → p (mine q) ≤ p most
    mine-most q = elim (cases_Bool (is_live w q)) [
      | inl live ↦ omega (arith, ap p (mine-live q live), lower (given (instance_at w q).id) most (few q live))
      | inr dead ↦ omega (arith, ap p (mine-dead q dead), is.none)
    ]

    grows-by : (slot : ℕ) → p (family_sums new slot) ≤ p (plus (family_sums w slot) most)
    grows-by slot =
        let keys : List Key = keys_of (slice_index_or w.families slot no_family) in
        let away : Sums = slice_index_or w.folded slot no_sums in
        let all : Sums = plus_keys (λ q. plus (old q) (mine q)) keys in
        omega (
          arith,
          ap p (sums-are slot),
          is.both all away,
          is.both (plus_keys old keys) away,
          is.both (family_sums w slot) most,
          one-given p is old mine (is_ready_at w cpu) (p most) mine-none mine-most keys (λ q. family-once w h.linked q slot)
              (λ j k some_j some_k on_j on_k.
              let its_j : (is_live w j ≡ true) × ((instance_at w j).event.0 ≡ slot) = family-key w.hardware w h slot j some_j in
              let its_k : (is_live w k ≡ true) × ((instance_at w k).event.0 ≡ slot) = family-key w.hardware w h slot k some_k in
              ap (λ x. x.0) (one-reached w.hardware w cpu j k h its_j.0 its_k.0 (its_j.1 ∙ sym its_k.1) (leads-parts _ _ on_j).1 (leads-parts _ _ on_k).1)),
        )

  pub shares-grow : (slot : ℕ) → AreAtMost (family_sums new slot) (plus (family_sums w slot) most)
  shares-grow slot = record {
    count = grows-by (λ s. s.count) counts_are_sums (λ s t a. a.count) slot;
    enabled = grows-by (λ s. s.enabled) times_are_sums (λ s t a. a.enabled) slot;
    running = grows-by (λ s. s.running) run_times_are_sums (λ s t a. a.running) slot;
  }

-- a stretch of work
module _ (w : World) (cpu : CpuNo) (work : Work) (h : IsKept w.hardware w) (judged : IsJudged w.hardware w cpu) where
  work-none : (k : Key) → is_live w k ≡ true → is_ready_at w cpu k ≡ false → work_shares w cpu work (instance_at w k).id ≡ no_sums
  work-none k live off =
      let g : work_given w cpu work k ≡ no_sums = none-unready w cpu work k off in
      let count : (if is_on_at w cpu k then work_hits work (instance_at w k) else 0) ≡ 0 = ap {B = ℕ} (λ b. if b then work_hits work (instance_at w k) else 0) (none_of_two (is_ready_at w cpu k) _ off) in
      share-is w cpu work k h judged live ∙ (λ i. record (g i) { count = count i })

  work-few : (k : Key) → is_live w k ≡ true → AreAtMost (work_shares w cpu work (instance_at w k).id) (most_of_line (cpu_line.Work work))
  work-few k live =
      let m = given-most w cpu work k in
      let is = share-is w cpu work k h judged live in
      let i : Instance = instance_at w k in
      record {
        count = omega (arith, ap (λ s. s.count) is, where-most (is_on_at w cpu k) (work_hits work i) (max work.length (greatest work.hits)) (counted-le work i.attr i.attr.kind));
        enabled = omega (arith, ap (λ s. s.enabled) is, m.enabled);
        running = omega (arith, ap (λ s. s.running) is, m.running);
      }

  pub work-grows : (new : World) → HaveShares w new (work_shares w cpu work) → new.families ≡ w.families → new.folded ≡ w.folded
      → (slot : ℕ) → AreAtMost (family_sums new slot) (plus (family_sums w slot) (most_of_line (cpu_line.Work work)))
  work-grows new shared families folded = shares-grow w new cpu (work_shares w cpu work) (most_of_line (cpu_line.Work work)) h shared families folded work-none work-few

-- one occurrence
pub soft-small : (occurring : Kind) (i : Instance) → soft_hits occurring i ≤ 1
soft-small (kind.Hard n) i = omega arith
soft-small kind.ContextSwitches i = where-most _ 1 1 (omega arith)
soft-small kind.CpuMigrations i = where-most _ 1 1 (omega arith)
soft-small kind.TaskClock i = omega arith
soft-small kind.Dummy i = omega arith

module _ (w : World) (cpu : CpuNo) (occurring : Kind) (h : IsKept w.hardware w) (judged : IsJudged w.hardware w cpu) where
  soft-none : (k : Key) → is_live w k ≡ true → is_ready_at w cpu k ≡ false → soft_shares w cpu occurring (instance_at w k).id ≡ no_sums
  soft-none k live off =
      let count : (soft_shares w cpu occurring (instance_at w k).id).count ≡ 0 =
      on-share w cpu h judged (soft_hits occurring) k live ∙ ap {B = ℕ} (λ b. if b then soft_hits occurring (instance_at w k) else 0) (none_of_two (is_ready_at w cpu k) _ off) in
      λ i. record no_sums { count = count i }

  soft-few : (k : Key) → is_live w k ≡ true → AreAtMost (soft_shares w cpu occurring (instance_at w k).id) one_hit
  soft-few k live = record {
    count = omega (
      arith,
      on-share w cpu h judged (soft_hits occurring) k live,
      where-most (is_on_at w cpu k) (soft_hits occurring (instance_at w k)) 1 (soft-small occurring (instance_at w k)),
    );
    enabled = omega arith;
    running = omega arith;
  }

  pub soft-grows : (new : World) → HaveShares w new (soft_shares w cpu occurring) → new.families ≡ w.families → new.folded ≡ w.folded
      → (slot : ℕ) → AreAtMost (family_sums new slot) (plus (family_sums w slot) one_hit)
  soft-grows new shared families folded = shares-grow w new cpu (soft_shares w cpu occurring) one_hit h shared families folded soft-none soft-few
