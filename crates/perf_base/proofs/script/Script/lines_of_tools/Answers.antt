use Rattle.std.proofs.{Common.{sym, ap, ◌∙◌, length, map}, lemmas.Simd.{map-map}}
use Rattle.perf_base.proofs.script.Script.lines_of_tools.Goals as goal

pub returns-clause-counts : goal.returns-clause-counts
returns-clause-counts c = c.lengths.ensures ∙ (sym (map-map length _ c.self.inside.tool_lines) ∙ ap (λ s. map length s.tool_lines) c.self.view_is)
