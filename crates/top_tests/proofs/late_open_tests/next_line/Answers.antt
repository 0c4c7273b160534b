use Rattle.std.{specs.Prelude.{◌≤◌}, proofs.Common.{subst, sym}}
use Rattle.perf_base.specs.{Scripts.{IsCovered, Scripted}, Weight.{weight}}
use Rattle.top_tests.proofs.LateOpens.{covered, light}
use Rattle.top_tests.proofs.late_open_tests.next_line.Goals as goal

pub line-requires-clause-covered : goal.line-requires-clause-covered
line-requires-clause-covered g c = subst IsCovered (sym c.requires.script) covered

pub line-requires-clause-light : goal.line-requires-clause-light
line-requires-clause-light g c = subst (λ (s : Scripted). weight s ≤ 65536) (sym c.requires.script) light
