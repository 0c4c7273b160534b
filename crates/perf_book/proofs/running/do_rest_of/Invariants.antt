use Rattle.std.proofs.Common.{◌≡◌}
use mathlib.Core.List.{IsPrefix}
use Rattle.perf_book.{specs.Sheets.{IsReady}, proofs.Left.{lines_left}}
use Rattle.perf_book.proofs.running.do_rest_of.Given as goal

abbrev pub invariant-loop-actor : goal.invariant-loop-actor
invariant-loop-actor g l = record {
  script : l.book.script ≡ l.initial.book.script;
  grows : IsPrefix l.initial.book.order l.book.order;
  sheet : IsReady l.sheet;
}

abbrev pub decreases-loop-actor : goal.decreases-loop-actor
decreases-loop-actor g l = lines_left l.book.script l.book.order l.actor
