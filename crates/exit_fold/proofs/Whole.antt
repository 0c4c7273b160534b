-- Where no copy is left in a task's context, all have gone that go with it, and the stage is without them.
use Rattle.std.specs.Prelude.{◌≡◌, ℕ, ◌+◌, ◌<◌, ◌≤◌, ◌==◌, Bool, true, false, not, ◌&&◌, cond, List, map, filter, count_by, Some, slice_index_or}
use Rattle.std.proofs.{Common.{arith, refl, sym, ap, ◌∙◌}, lemmas.Bool.{false≢true, Decides.{nat_tests}}}
use Rattle.perf_base.specs.declared.{numbers.{EventNo.{EventNo}, Key.{Key}, TaskNo.{TaskNo}}, standing.Context.{Context}}
use Rattle.perf_base.specs.declared.standing.Context.TheVariants as context
use Rattle.stage_spec.specs.{Families.{plus}, Hardware.{Hardware}, Shares.{no_sums}, Stage.{is_copy}, Verdict.{instances_in}}
use Rattle.stage_laws.{specs.{OneByOne.{AreIdsOf}, Sound.{IsGrouped, has_id}}, proofs.{Images.{filter-map}, OneByOneDrops.{exited_one_by_one}}}
use Rattle.stage_laws.proofs.Totals.{one_if, as_number, total-map, total-same, count_by-is-total}
use Rattle.world_spec.specs.{Value.{World, is_live, entry_at, instance_at, account_at, standing_at, family_of, times}, StageOf.{stage_of}}
use Rattle.world_spec.specs.{Kept.{post_at, once_if, plus_keys, IsKept}, Listings.{keys_in}}
use Rattle.world_spec.proofs.{Counting.{times-filter, AreSameKeys, same-total}, Listings.{context-is, is-numbered, keys-at}, Moving.{leads-parts}}
use Rattle.exit_fold.{specs.Leaving.{is_of_task, leaves, HaveGone, IsFolded}, proofs.Contexts.{by-place}}
use Rattle.exit_fold.proofs.{Copies.{copy-there}, Walked.{AreFolding}}
use Rattle.world_spec.proofs.Working.{filter-same}
use Rattle.stage_laws.proofs.OneByOne.{eq-turn}

-- no copy of the task is there
abbrev pub AreNone : TaskNo → World → Type 0
AreNone task w = (k : Key) → is_live w k ≡ true → is_of_task task (entry_at w k).context ≡ true → (instance_at w k).copy ≡ false

-- so those are there that do not go
stays : (hw : Hardware) (task : TaskNo) (v w : World) (k : Key) → AreFolding hw task v w → AreNone task w → is_live w k ≡ true → leaves v (Some task) k ≡ false
stays hw task v w k f none live = grind (arith, nat_tests, leads-parts, false≢true)

is-left : (hw : Hardware) (task : TaskNo) (v w : World) (k : Key) → AreFolding hw task v w → AreNone task w → is_live v k ≡ true → is_live w k ≡ not (leaves v (Some task) k)
is-left hw task v w k f none there = grind (arith, nat_tests, stays)

live-left : (hw : Hardware) (task : TaskNo) (v w : World) (k : Key) → AreFolding hw task v w → AreNone task w → is_live w k ≡ (is_live v k && not (leaves v (Some task) k))
live-left hw task v w k f none = grind (arith, nat_tests, is-left, false≢true)

not-not : (b : Bool) → not (not b) ≡ b
not-not true = refl
not-not false = refl

-- what stays is in the group that it was in, which stands where it stood
group-stays : (hw : Hardware) (task : TaskNo) (v w : World) (k : Key) → AreFolding hw task v w → AreNone task w → is_live w k ≡ true → (post_at w k ≡ post_at v k) × (standing_at w k ≡ standing_at v k)
group-stays hw task v w k f none live = grind (arith, nat_tests)

have-gone : (hw : Hardware) (task : TaskNo) (v w : World) → IsKept hw v → AreFolding hw task v w → AreNone task w → HaveGone v w (Some task)
have-gone hw task v w h f none =
    let left : (e : EventNo) (k : Key) → 1 ≤ times k (family_of v e).copies → is_live w k ≡ not (leaves v (Some task) k) = λ e k some.
    is-left hw task v w k f none (copy-there hw v k e h some).0 in
    record {
      live = λ k. live-left hw task v w k f none;
      instances = f.instances;
      contexts = f.contexts;
      accounts = f.accounts;
      groups = λ k live. (group-stays hw task v w k f none live).0;
      standings = λ k live. (group-stays hw task v w k f none live).1;
      families = λ e.
          let same : filter (is_live w) (family_of v e).copies ≡ filter (λ k. not (leaves v (Some task) k)) (family_of v e).copies =
          filter-same (is_live w) (λ k. not (leaves v (Some task) k)) (family_of v e).copies (left e) in
          f.families e ∙ (λ i. record (family_of v e) { copies = same i });
      folded = λ e.
          let same : filter (λ k. not (is_live w k)) (family_of v e).copies ≡ filter (leaves v (Some task)) (family_of v e).copies =
          filter-same (λ k. not (is_live w k)) (leaves v (Some task)) (family_of v e).copies (λ k some. ap not (left e k some) ∙ not-not (leaves v (Some task) k)) in
          f.folded e ∙ ap (λ ks. plus (slice_index_or v.folded e.0 no_sums) (plus_keys (λ k. (account_at v k).sums) ks)) same;
      lost = f.lost;
      hardware = f.hardware;
    }

-- the keys that went are those of the context's copies
same-one : (live copy of : Bool) → once_if (live && not (live && not (copy && of))) ≡ cond copy (once_if (live && of)) 0
same-one true true true = refl
same-one true true false = refl
same-one true false of = refl
same-one false true of = refl
same-one false false of = refl

same-keys : (hw : Hardware) (task : TaskNo) (v w : World) → IsKept hw v → task.0 < 64 → (f : AreFolding hw task v w) → AreNone task w
    → AreSameKeys f.taken (filter (λ k. (instance_at v k).copy) (keys_in v (context.Task task)))
same-keys hw task v w h low f none k =
    let copy : Bool = (instance_at v k).copy in
    let c : Context = (entry_at v k).context in
    f.taken_times k
    ∙ (ap (λ b. once_if (is_live v k && not b)) (live-left hw task v w k f none)
    ∙ (same-one (is_live v k) copy (is_of_task task c)
    ∙ (ap (λ b. cond copy (once_if (is_live v k && b)) 0) (by-place task c low)
    ∙ (ap (λ n. cond copy n 0) (sym (keys-at hw v h k (8 + task.0)))
    ∙ sym (times-filter k (λ q. (instance_at v q).copy) (keys_in v (context.Task task)))))))

ids-gone : (hw : Hardware) (task : TaskNo) (v w : World) → IsKept hw v → task.0 < 64 → (f : AreFolding hw task v w) → AreNone task w
    → AreIdsOf (filter is_copy (instances_in (stage_of v) (context.Task task))) (map (λ k. (instance_at v k).id) f.taken)
ids-gone hw task v w h low f none n =
    let id : Key → ℕ = λ k. (instance_at v k).id in
    let keys : List Key = f.taken in
    let found : List Key = filter (λ k. (instance_at v k).copy) (keys_in v (context.Task task)) in
    let instances : filter is_copy (instances_in (stage_of v) (context.Task task)) ≡ map (instance_at v) found =
    ap (filter is_copy) (context-is hw v (context.Task task) h) ∙ filter-map is_copy (λ k. (instance_at v k).copy) (instance_at v) (λ k. refl) (keys_in v (context.Task task)) in
    count_by-is-total (λ number. n == number) (map id keys)
    ∙ (total-map (one_if (λ number. n == number)) id keys
    ∙ (total-same (λ k. as_number (n == id k)) (λ k. as_number (id k == n)) (λ k. eq-turn n (id k)) keys
    ∙ (same-total (λ k. as_number (id k == n)) keys found (same-keys hw task v w h low f none)
    ∙ (sym (total-map (one_if (has_id n)) (instance_at v) found)
    ∙ (sym (count_by-is-total (has_id n) (map (instance_at v) found)) ∙ ap (count_by (has_id n)) (sym instances))))))

pub whole-folded : (hw : Hardware) (task : TaskNo) (v w : World) → IsKept hw v → IsGrouped hw (stage_of v) → task.0 < 64 → AreFolding hw task v w → AreNone task w → IsFolded task v w
whole-folded hw task v w h grouped low f none = record {
  gone = have-gone hw task v w h f none;
  stage = f.stage ∙ exited_one_by_one hw task (stage_of v) (map (λ k. (instance_at v k).id) f.taken) (is-numbered hw v h) grouped (ids-gone hw task v w h low f none);
  sums = f.sums;
  away = f.away;
  leaders = f.leaders;
  quiet = f.quiet;
}
