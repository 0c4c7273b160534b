use Rattle.std.specs.Prelude.{◌≡◌, ◌<◌, ◌≤◌, ◌^◌, All, List, map, vec_capacity, vec_len}
use Rattle.perf_base.specs.declared.acts.Act.{Act}
use Rattle.machine.specs.Leading.{LeadTo}
use Rattle.stat_rows.specs.Rows.{open_below, row_of}
use Rattle.stat_rows.proofs.rows.fill_rows.Given as goal

abbrev pub invariant-loop-slot : goal.invariant-loop-slot
invariant-loop-slot l = record {
  rows : (acts : List Act) → LeadTo l.script acts l.machine → l.rows.items ≡ map (row_of l.script acts) (open_below l.slot l.script acts);
  small : All (λ row. row.sums.running < 2 ^ 44) l.rows.items;
  filled : vec_len l.rows ≤ l.slot;
  room : vec_capacity l.rows ≡ vec_capacity l.fn.rows;
}
