-- How often a key is among those of a context, and a task's context by its place.
use Rattle.std.specs.Prelude.{◌≡◌, ℕ, ◌+◌, ◌<◌, ◌==◌}
use Rattle.std.proofs.{Common.{arith}, lemmas.Bool.{Decides.{nat_tests}}}
use Rattle.perf_base.specs.declared.{numbers.{TaskNo.{TaskNo}}, standing.Context.{Context}}
use Rattle.perf_base.specs.declared.standing.Context.TheVariants as context
use Rattle.stage_spec.specs.{Stage.{place_of}}
use Rattle.stage_laws.proofs.{Others.{place-cases}}
use Rattle.exit_fold.specs.Leaving.{is_of_task}
use Rattle.world_spec.proofs.Tables.{other_number}

-- how often a key is among those of a context
-- a task's context by its place
shifted : (m n : ℕ) → (m == n) ≡ ((8 + m) == (8 + n))
shifted m n = grind (arith, nat_tests)

pub by-place : (task : TaskNo) (c : Context) → task.0 < 64 → is_of_task task c ≡ (place_of c == 8 + task.0)
by-place task (context.Processor cpu) low = grind (arith, nat_tests, other_number, place-cases)
by-place task (context.Task other) low = shifted other.0 task.0
