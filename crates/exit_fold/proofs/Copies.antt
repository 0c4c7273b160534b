-- Copies by their families and contexts, and sums by keys.
use Rattle.std.specs.Prelude.{◌≡◌, ◌≤◌, ◌==◌, Bool, true, false, ◌&&◌, cond, List, [], ◌∷◌, filter, Some}
use Rattle.std.proofs.{Common.{arith, refl, ap, ◌∙◌}, lemmas.Bool.{false≢true, Decides.{nat_tests}}}
use Rattle.perf_base.specs.declared.{numbers.{EventNo.{EventNo}, Key.{Key}, TaskNo.{TaskNo}}, reply.Sums.{Sums}, standing.Context.{Context}}
use Rattle.perf_base.specs.declared.standing.Context.TheVariants as context
use Rattle.stage_spec.specs.{Families.{plus}, Hardware.{Hardware}}
use Rattle.world_spec.specs.Value.{World, is_live, entry_at, instance_at, family_of, times}
use Rattle.world_spec.{specs.Kept.{once_if, IsKept}}
use Rattle.world_spec.proofs.{Counting.{times-filter}}
use Rattle.exit_fold.specs.Leaving.{is_of_task, leaves, leaving_copies}
use Rattle.world_spec.proofs.Along.{once-both, filter-no}
use Rattle.world_spec.proofs.Coming.{number_true}
use Rattle.perf_world.proofs.Room.{three-true}
use Rattle.world_spec.proofs.Working.{filter-same}

-- a key among the copies of an event
pub copy-there : (hw : Hardware) (w : World) (k : Key) (e : EventNo) → IsKept hw w → 1 ≤ times k (family_of w e).copies
    → (is_live w k ≡ true) × (((instance_at w k).event.0 == e.0) ≡ true) × ((instance_at w k).copy ≡ true)
copy-there hw w k e h some = grind (arith, nat_tests, three-true, once-both, some, h.linked.copies k e.0)

-- the context of a task
pub of-task-is : (task : TaskNo) (c : Context) → is_of_task task c ≡ true → c ≡ context.Task task
of-task-is task (context.Processor cpu) h = absurd (false≢true h)
of-task-is task (context.Task other) h = ap (λ n. context.Task (record { 0 = n })) (number_true other.0 task.0 h)

-- a copy that goes stands once among those of its event that do
one-leaving : (live same copy of : Bool) → cond (copy && of) (once_if (live && same && copy)) 0 ≡ once_if (live && ((copy && of) && same))
one-leaving true true true true = refl
one-leaving true true true false = refl
one-leaving true true false of = refl
one-leaving true false true true = refl
one-leaving true false true false = refl
one-leaving true false false of = refl
one-leaving false same true true = refl
one-leaving false same true false = refl
one-leaving false same false of = refl

pub leaving-times : (hw : Hardware) (v : World) (task : TaskNo) (e : EventNo) → IsKept hw v → (k : Key)
    → times k (leaving_copies v (Some task) e) ≡ once_if (is_live v k && (leaves v (Some task) k && (instance_at v k).event.0 == e.0))
leaving-times hw v task e h k =
    times-filter k (leaves v (Some task)) (family_of v e).copies
    ∙ (ap (λ n. cond (leaves v (Some task) k) n 0) (h.linked.copies k e.0)
    ∙ one-leaving (is_live v k) ((instance_at v k).event.0 == e.0) (instance_at v k).copy (is_of_task task (entry_at v k).context))

-- tests that agree at the keys of a list, that all of them pass, and that none does
every-one : (xs : List Key) → filter (λ k. true) xs ≡ xs
every-one [] = refl
every-one (x ∷ xs) = ap (λ ys. x ∷ ys) (every-one xs)

pub filter-all : (p : Key → Bool) (xs : List Key) → ((k : Key) → 1 ≤ times k xs → p k ≡ true) → filter p xs ≡ xs
filter-all p xs all = filter-same p (λ k. true) xs all ∙ every-one xs

pub filter-none : (p : Key → Bool) (xs : List Key) → ((k : Key) → 1 ≤ times k xs → p k ≡ false) → filter p xs ≡ []
filter-none p xs none = filter-same p (λ k. false) xs none ∙ filter-no xs

-- two tests one after the other
chosen : (a b : Bool) (x : Key) (xs : List Key) (r : Key → Bool) → r x ≡ b → filter r (cond a (x ∷ xs) xs) ≡ cond (a && b) (x ∷ filter r xs) (filter r xs)
chosen true b x xs r is = ap (λ c. cond c (x ∷ filter r xs) (filter r xs)) is
chosen false b x xs r is = refl

pub filter-twice : (p r : Key → Bool) (xs : List Key) → filter r (filter p xs) ≡ filter (λ k. p k && r k) xs
filter-twice p r [] = refl
filter-twice p r (x ∷ xs) = chosen (p x) (r x) x (filter p xs) r refl ∙ ap (λ ys. cond (p x && r x) (x ∷ ys) ys) (filter-twice p r xs)

-- sums by the keys
pub plus-turned : (a b : Sums) → plus a b ≡ plus b a
plus-turned a b = grind (arith, nat_tests)
