use Rattle.std.{proofs.Common.{◌≡◌, ℕ, ◌<◌, get_or, length, take}, specs.Prelude.{count_by}}
use Rattle.stage_spec.specs.Order.{is_of_cpu, is_of_tool}
use Rattle.script_read.proofs.order.lines_done.Given as goal

abbrev pub invariant-loop-act : goal.invariant-loop-act
invariant-loop-act l = record {
  eight : length l.cpus ≡ 8;
  four : length l.tools ≡ 4;
  cpus : (m : ℕ) → m < 8 → get_or l.cpus m 0 ≡ count_by (is_of_cpu (record { 0 = m })) (take l.act-index l.order);
  tools : (m : ℕ) → m < 4 → get_or l.tools m 0 ≡ count_by (is_of_tool (record { 0 = m })) (take l.act-index l.order);
}
