use Rattle.std.proofs.Common.{◌≡◌, ◌-◌, ◌++◌, All, map, reverse}
use Rattle.perf_book.specs.{Plans.{turn_in, workers_below, workers_of}, Sheets.{IsReady}}
use Rattle.perf_book.proofs.sheets.workers_of.Given as goal

abbrev pub invariant-loop-place : goal.invariant-loop-place
invariant-loop-place l = record {
  ready : All (λ w. IsReady w.sheet) l.workers.items;
  turns : workers_below l.script (12 - l.place) ++ reverse (map turn_in l.workers.items) ≡ workers_of l.script;
}
