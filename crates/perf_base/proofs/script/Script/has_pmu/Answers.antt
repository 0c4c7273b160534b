use Rattle.std.{proofs.Common.{◌≡◌, List, ap, ◌∙◌, subst}, specs.Prelude.{Any, IsTrue, ◌↔◌}}
use Rattle.perf_base.specs.{declared.lines.PmuLine.{PmuLine}, Cpus.{HasCpu}}
use Rattle.perf_base.proofs.script.Script.has_pmu.Goals as goal

pub returns : goal.returns
returns c =
    let is : c.deref.result.now ≡ c.args.self.now.pmus = c.deref.ensures.value ∙ ap (λ s. s.pmus) c.self.view_is in
    subst (λ (lines : List PmuLine). IsTrue c.is_of_any.result ↔ Any (λ line. HasCpu line.cpus c.args.cpu) lines) is c.is_of_any.ensures
