-- What is kept of a world, and what follows from it for its tables.
use Rattle.std.specs.Prelude.{◌≡◌, ℕ, ◌+◌, ◌<◌, ◌≤◌, ◌==◌, true, false, List, [], ◌∷◌, length, Option, Some, None, IfSome, slice_index_or, slice_set}
use Rattle.std.proofs.{Common.{arith, refl, ap, subst, ◌∙◌, inl, inr}, lemmas.Bool.{cases_Bool, cases_lt, Decides.{nat_tests}}}
use Rattle.std.proofs.lemmas.List.{get_or_past}
use Rattle.perf_base.specs.declared.{numbers.{CpuNo.{CpuNo}, EventNo.{EventNo}, Key.{Key}, RingNo.{RingNo}, TaskNo.{TaskNo}}, reply.Sums.{Sums}}
use Rattle.stage_spec.specs.{Hardware.{Hardware}, declared.instance.TaskStatus.{TaskStatus}, Stage.{place_of, unknown_task}}
use Rattle.stage_spec.specs.declared.instance.TaskState.TheVariants as task_state
use Rattle.stage_laws.proofs.Counts.{count-append}
use Rattle.world_spec.specs.Value.{World, Family, Leaders, no_family, is_live, entry_at, instance_at, account_at, leaders_of, is_key, times}
use Rattle.world_spec.specs.Kept.{leads, post_at, in_option, keys_of, plus_keys, family_sums, is_original_in, IsKept}
use Rattle.world_spec.proofs.{Accounts.{IsSum, counts_are_sums, times_are_sums}, Keys.{times-cons, once-true, once-false, is_key-true, key-is}}
use Rattle.world_spec.specs.Changes as change
use Rattle.world_tables.specs.{Columns.{Columns}, Places.{picked, Slots, Places}}
use Rattle.perf_world.specs.Seen.{seen, noted, IsWorld}

-- what is kept goes along equations
pub kept-now : (w now : World) → w ≡ now → IsWorld w → IsWorld now
kept-now w now e h = subst IsWorld e h

-- a key that stands in a list gives its part of the sum
pub part-of-sum : (p : Sums → ℕ) → IsSum p → (s : Key → Sums) (k : Key) (keys : List Key) → 1 ≤ times k keys → p (s k) ≤ p (plus_keys s keys)
part-of-sum p is s k [] h = absurd (omega arith)
part-of-sum p is s k (q ∷ keys) h = elim (cases_Bool (is_key k q)) [
  | inl e ↦ omega (arith, is.both (s q) (plus_keys s keys), ap (λ x. p (s x)) (key-is q k (is_key-true k q e)))
  | inr e ↦ omega (arith, is.both (s q) (plus_keys s keys), part-of-sum p is s k keys (omega (arith, h, times-cons k q keys, once-false (is_key k q) e)))
]

-- an instance stands in its family
pub in-family : (hw : Hardware) (w : World) (k : Key) → IsKept hw w → is_live w k ≡ true
    → 1 ≤ times k (keys_of (slice_index_or w.families (instance_at w k).event.0 no_family))
in-family hw w k h live =
    let slot : ℕ = (instance_at w k).event.0 in
    let f : Family = slice_index_or w.families slot no_family in
    let same : (slot == slot) ≡ true = grind (arith, nat_tests) in
    let split : times k (keys_of f) ≡ times k (in_option f.original) + times k f.copies = count-append (is_key k) (in_option f.original) f.copies in
    grind (arith, nat_tests, slot, same, split, once-true)

pub own-count : (hw : Hardware) (w : World) (k : Key) → IsKept hw w → is_live w k ≡ true
    → (account_at w k).sums.count ≤ (family_sums w (instance_at w k).event.0).count
own-count hw w k h live = omega (arith, part-of-sum (λ s. s.count) counts_are_sums (λ q. (account_at w q).sums) k (keys_of (slice_index_or w.families (instance_at w k).event.0 no_family)) (in-family hw w k h live))

pub own-time : (hw : Hardware) (w : World) (k : Key) → IsKept hw w → is_live w k ≡ true
    → (account_at w k).sums.enabled ≤ (family_sums w (instance_at w k).event.0).enabled
own-time hw w k h live = omega (arith, part-of-sum (λ s. s.enabled) times_are_sums (λ q. (account_at w q).sums) k (keys_of (slice_index_or w.families (instance_at w k).event.0 no_family)) (in-family hw w k h live))

pub listed-once : (hw : Hardware) (w : World) (k : Key) → IsKept hw w → leads (post_at w) k ≡ true
    → times k (picked (entry_at w k).pinned (leaders_of w (entry_at w k).context)) ≡ 1
listed-once hw w k h lead =
    let place : ℕ = place_of (entry_at w k).context in
    let same : (place == place) ≡ true = grind (arith, nat_tests) in
    grind (arith, nat_tests, place, same, once-true)

-- an original that a slot has is live
pub original-live : (hw : Hardware) (w : World) (slot : ℕ) (k : Key) → IsKept hw w → (slice_index_or w.families slot no_family).original ≡ Some k → is_live w k ≡ true
original-live hw w slot k h is =
    let one : times k (in_option (slice_index_or w.families slot no_family).original) ≡ 1 = ap (λ o. times k (in_option o)) is ∙ omega (arith, times-cons k k [], once-true (is_key k k) (let same : is_key k k ≡ true = grind (arith, nat_tests) in same)) in
    elim (cases_Bool (is_live w k)) [
      | inl e ↦ e
      | inr e ↦
          let no : is_original_in (post_at w) slot k ≡ false = cc e in
          absurd (omega (arith, one, h.linked.originals k slot, once-false (is_original_in (post_at w) slot k) no))
    ]

pub if-some : {X : Type 0} (o : Option X) (P : X → Type 0) → ((x : X) → o ≡ Some x → P x) → IfSome o P
if-some None P h = tt
if-some (Some x) P h = h x refl

-- a task that is there has a place among the statuses
pub task-there : (tasks : List TaskStatus) (n : ℕ) → (slice_index_or tasks n unknown_task).state ≡ task_state.Live → n < length tasks
task-there tasks n live = grind (arith, nat_tests, cases_lt, get_or_past)

-- a task that comes onto a processor, in the tables
pub placed : (hw : Hardware) (events : Columns) (contexts : List Leaders) (families : Slots) (processors : Places) (tasks : List TaskStatus) (used : List EventNo) (mapped : List RingNo) (next : ℕ)
    (cpu : CpuNo) (to : Option TaskNo)
    → seen hw events contexts families (record processors { running = slice_set processors.running cpu.0 to }) (noted cpu to tasks) used mapped next
    ≡ change.place cpu to (seen hw events contexts families processors tasks used mapped next)
placed hw events contexts families processors tasks used mapped next cpu None = refl
placed hw events contexts families processors tasks used mapped next cpu (Some task) = refl

pub placed-kept : (cpu : CpuNo) (to : Option TaskNo) (w : World) → IsKept w.hardware (change.place cpu to w) → IsWorld (change.place cpu to w)
placed-kept cpu None w h = h
placed-kept cpu (Some task) w h = h

-- each instance has an original in its slot
in_option-once : (o : Option Key) (k : Key) → 1 ≤ times k (in_option o) → o ≡ Some k
in_option-once None k h = absurd (omega arith)
in_option-once (Some q) k h = grind (arith, nat_tests, key-is, is_key-true, times-cons, once-false)

pub original-there : (hw : Hardware) (w : World) (k : Key) → IsKept hw w → is_live w k ≡ true
    → (j : Key) × ((slice_index_or w.families (instance_at w k).event.0 no_family).original ≡ Some j)
original-there hw w k h live =
    let slot : ℕ = (instance_at w k).event.0 in
    let o : Option Key = (slice_index_or w.families slot no_family).original in
    elim (cases_Bool (instance_at w k).copy) [
      | inl copy ↦
          let first = h.apart.original k live copy in
          (first.0, in_option-once o first.0 (omega (arith, h.linked.originals first.0 slot, once-true (is_original_in (post_at w) slot first.0) first.1)))
      | inr original ↦
          let same : (slot == slot) ≡ true = grind (arith, nat_tests) in
          let it : is_original_in (post_at w) slot k ≡ true = cc (live, same, original) in
          (k, in_option-once o k (omega (arith, h.linked.originals k slot, once-true (is_original_in (post_at w) slot k) it)))
    ]
