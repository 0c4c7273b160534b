use Rattle.std.proofs.{Common.{sym, ap, ◌∙◌, length, map}, lemmas.Simd.{map-map}}
use Rattle.perf_base.proofs.script.Script.lines_of_cpus.Goals as goal

pub returns-clause-counts : goal.returns-clause-counts
returns-clause-counts c = c.lengths.ensures ∙ (sym (map-map length _ c.self.inside.cpu_lines) ∙ ap (λ s. map length s.cpu_lines) c.self.view_is)
