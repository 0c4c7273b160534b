use Rattle.std.proofs.Common.{ap, ◌∙◌}
use Rattle.perf_base.specs.Scripts.{Scripted}
use Rattle.stat_rows.specs.Rows.{rows_of}
use Rattle.perf_top.proofs.job.table_of.Goals as goal

pub returns-clause-rows : goal.returns-clause-rows
returns-clause-rows c = c.tabulate.ensures.rows ∙ ap (λ (s : Scripted). rows_of s s.order) c.replayed.view_is
