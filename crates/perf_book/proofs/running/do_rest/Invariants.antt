use Rattle.std.proofs.Common.{◌≡◌, ℕ, ◌<◌}
use Rattle.machine.specs.Leading.{HasLine}
use Rattle.perf_book.specs.{Book.{IsBooked}, Plans.{actor_at}, Sheets.{IsReady}}
use Rattle.perf_book.proofs.running.do_rest.Given as goal

abbrev pub invariant-loop-place : goal.invariant-loop-place
invariant-loop-place g l = record {
  script : l.book.script ≡ l.initial.book.script;
  none : (place : ℕ) → place < l.place → IsBooked l.book × (HasLine l.book.script l.book.machine (actor_at place) → ⊥);
  sheet : IsReady l.sheet;
}
