-- Seats after a group was put on counters, and the tasks of the first world.
use Rattle.std.specs.Prelude.{◌≡◌, ℕ, ◌<◌, ◌==◌, Bool, true, false, ◌||◌, All, List, [], ◌∷◌, ◌++◌, length, map, Result, Ok, Err, OnOk, OnErr, slice_index_or, slice_set, if◌then◌else◌}
use Rattle.std.{specs.List.{list_any}, proofs.{Common.{arith, refl, sym, ap, subst, ◌∙◌, inl, inr, zero, suc}, lemmas.Bool.{cases_eq}}}
use Rattle.std.proofs.lemmas.Bool.Decides.{nat_tests}
use Rattle.std.proofs.lemmas.List.{map-append, length-map, ext_get_or, get_or-map, get_or-set_same, get_or-set_other}
use Rattle.std.proofs.{lemmas.List.{Elements.{All-append}, Folds.{list_any-append}}, Math.{ListN.{get_or-append}, Seq.{get_or-append_seam}}}
use Rattle.perf_base.specs.{Masks.{IsMask}, declared.numbers.{EventNo.{EventNo}, TaskNo.{TaskNo}}}
use Rattle.stage_spec.specs.{declared.instance.TaskStatus.{TaskStatus}, Fits.{IsAssignment}, Numbers.{numbers_below}}
use Rattle.stage_spec.specs.{Stage.{fresh_task, unknown_task, first_stage}, Tight.{masks_of}}
use Rattle.counter_match.specs.Seating.{Seated, AreDistinct, IsSound}
use Rattle.stage_spec.proofs.Machines.{length-below}

seats-more : (old new : Seated) (group : List (EventNo × ℕ)) → IsSound old → new.counters ≡ old.counters → new.events ≡ old.events ++ group
    → IsAssignment (masks_of new.events) new.seats → AreDistinct (old.events ++ group) → All (IsMask old.counters) (masks_of group) → IsSound new
seats-more old new group h same added assigned distinct masks =
    let both : masks_of (old.events ++ group) ≡ masks_of old.events ++ masks_of group = map-append (λ e. e.1) old.events group in
    let all : All (IsMask old.counters) (masks_of (old.events ++ group)) = subst (All (IsMask old.counters)) (sym both) (All-append (IsMask old.counters) (masks_of old.events) (masks_of group) h.masks masks) in
    grind (arith, nat_tests, all)

-- a group that was put on, or not
pub seats-sound : {A B : Type 0} (r : Result A B) (old new : Seated) (group : List (EventNo × ℕ)) → IsSound old → new.counters ≡ old.counters
    → OnOk r (new.events ≡ old.events ++ group) → OnOk r (IsAssignment (masks_of new.events) new.seats) → OnErr r (new ≡ old)
    → AreDistinct (old.events ++ group) → All (IsMask old.counters) (masks_of group) → IsSound new
seats-sound (Ok x) old new group h same added assigned kept distinct masks = seats-more old new group h same added assigned distinct masks
seats-sound (Err e) old new group h same added assigned kept distinct masks = subst IsSound (sym kept) h

or-true : (b : Bool) → (b || (true || false)) ≡ true
or-true true = refl
or-true false = refl

or-false : (b : Bool) → (b || (false || false)) ≡ b
or-false true = refl
or-false false = refl

-- a task more that is there
abbrev pub status_by : List TaskNo → ℕ → TaskStatus
status_by declared n = if list_any (λ task. task.0 == n) declared then fresh_task else unknown_task

number-at : (n i d : ℕ) → i < n → slice_index_or (numbers_below n) i d ≡ i
number-at zero i d low = absurd (omega arith)
number-at (suc n) i d low = elim (cases_eq i n) [
  | inl e ↦ ap (λ k. slice_index_or (numbers_below n ++ n ∷ []) k d) (e ∙ sym (length-below n)) ∙ (get_or-append_seam (numbers_below n) n [] d ∙ sym e)
  | inr off ↦ get_or-append (numbers_below n) (n ∷ []) d i (omega (arith, low, off, length-below n)) ∙ number-at n i d (omega (arith, low, off))
]

pub statuses-are : (declared : List TaskNo) (tasks : List TaskStatus) → length tasks ≡ 64 → ((n : ℕ) → n < 64 → slice_index_or tasks n unknown_task ≡ status_by declared n)
    → tasks ≡ map (status_by declared) (numbers_below 64)
statuses-are declared tasks size h =
    ext_get_or unknown_task tasks (map (status_by declared) (numbers_below 64)) (omega (arith, size, length-map (numbers_below 64) (status_by declared), length-below 64)) (λ i low.
    h i (omega (arith, low, size))
    ∙ sym (get_or-map (status_by declared) (numbers_below 64) i 0 unknown_task (omega (arith, low, size, length-below 64)) ∙ ap (status_by declared) (number-at 64 i 0 (omega (arith, low, size)))))

pub status-more : (declared : List TaskNo) (tasks : List TaskStatus) (task : TaskNo) (n : ℕ) → task.0 < length tasks → slice_index_or tasks n unknown_task ≡ status_by declared n
    → slice_index_or (slice_set tasks task.0 fresh_task) n unknown_task ≡ status_by (declared ++ task ∷ []) n
status-more declared tasks task n low h = grind (arith, nat_tests, list_any-append, get_or-set_same, or-true, get_or-set_other, or-false)

-- what stays where nothing was put on
pub on-err : {A B P S : Type 0} (r : Result A B) (f : P → S) (new old : P) (was : S) → f old ≡ was → OnErr r (new ≡ old) → OnErr r (f new ≡ was)
on-err (Ok x) f new old was e h = tt
on-err (Err x) f new old was e h = ap f h ∙ e

pub first-tasks : (cpus : ℕ) (declared : List TaskNo) → map (status_by declared) (numbers_below 64) ≡ (first_stage cpus declared).tasks
unfolding first_stage
first-tasks cpus declared = refl
