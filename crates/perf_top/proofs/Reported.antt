-- What is written of a run that has ended is its report.
use Rattle.std.{specs.Prelude.{◌≡◌, List}, proofs.Common.{subst}}
use Rattle.perf_base.specs.{declared.acts.Act.{Act}, Scripts.{Scripted}}
use Rattle.run_end.specs.Ended.{Ran}
use Rattle.perf_book.specs.Ending.{IsEnd}
use Rattle.report.{proofs.Told.{told_whole}, specs.Told.{report_by, rings_of}}
use Rattle.report_spec.specs.Report.{rings_after}
use Rattle.perf_top.{specs.Outcome.{IsReported}, proofs.Told.{are-told}}

pub end-reported : (e : Ran) → IsEnd e → IsReported e.script e.order (report_by e)
end-reported e h = record {
  answers = e.answers;
  answered = h.answered;
  is = told_whole e.script e.order e.answers (rings_of e) (rings_after e.script e.order) (are-told e.script e.order e.ins e.ends h.script h.rings h.shown h.taken);
}

-- of a script and an order that are known
pub reported-as : (s : Scripted) (order : List Act) (e : Ran) → e.script ≡ s → e.order ≡ order → IsEnd e → IsReported s order (report_by e)
reported-as s order e script acts h =
    subst (λ (t : Scripted). IsReported t order (report_by e)) script (subst (λ o. IsReported e.script o (report_by e)) acts (end-reported e h))
