-- A line that is refused, and the answer of one that is not.
use Rattle.std.{specs.Prelude.{◌≡◌, List, [], ◌∷◌, flat_map, None, Some}, proofs.Common.{refl, sym, ap, subst, ◌∙◌}}
use Rattle.perf_base.specs.declared.{lines.{CpuLine.{CpuLine}, ToolLine.{ToolLine}}, numbers.CpuNo.{CpuNo}, reasons.Reason.{Reason}}
use Rattle.perf_base.specs.declared.reply.Reply.{Reply}
use Rattle.perf_base.specs.declared.lines.CpuLine.TheVariants as cpu_line
use Rattle.perf_base.specs.declared.reply.Reply.TheVariants as reply
use Rattle.stage_spec.specs.{Hardware.{Hardware}, History.{CpuStep, ToolStep, cpu_refusal, tool_refusal}, Replies.{IsToolReply, UnlessRefused}}
use Rattle.ring_spec.specs.Running.{Running, RingAccount, IsAnswerBy, family_by, losses_on, record_after}
use Rattle.world_spec.specs.{Agreement.{AgreesWith}, Kept.{IsKept}, StageOf.{stage_of}, Value.{World}, Stepping.{LosesNone}}
use Rattle.world_spec.proofs.{Quiet.{refused-steps}, Stepping.{stepped}}
use Rattle.machine.specs.Stepped as line
use Rattle.work_account.proofs.Accounts.{nothing-lost}

-- what no line changes stays where it is refused
pub stays-same : {X : Type 0} (x : X) (r : Reply) → line.StaysIfRefused x x r
stays-same x reply.Ok = tt
stays-same x (reply.Read words) = tt
stays-same x (reply.Why why) = tt
stays-same x (reply.Seats seats) = tt
stays-same x (reply.Refused reason) = refl

-- no line of a tool sends a record
none-sent : (l : ToolLine) (rings : List RingAccount) → flat_map (losses_on (ToolStep l) []) rings ≡ []
none-sent l [] = refl
none-sent l (a ∷ rings) = none-sent l rings

pub tools-lose_none : (hw : Hardware) (r : Running) (l : ToolLine) → LosesNone hw r (ToolStep l)
tools-lose_none hw r l = none-sent l r.rings

pub refused-line : (w after : World) (l : ToolLine) (r : Reason) → IsKept w.hardware w → after ≡ w → tool_refusal w.hardware (stage_of w) l ≡ Some r → line.IsDone (ToolStep l) w after (reply.Refused r)
refused-line w after l r h same refused by agrees = record {
  answer = subst (λ o. UnlessRefused o (reply.Refused r) (IsToolReply w.hardware by.stage (family_by by) by.lost l (reply.Refused r)))
      (sym (ap (λ s. tool_refusal w.hardware s l) agrees.stage ∙ refused)) refl;
  agrees = subst (λ (x : World). AgreesWith x (record_after w.hardware by (ToolStep l))) (sym same)
      (stepped w.hardware w w by (ToolStep l) h h agrees (refused-steps w.hardware w (ToolStep l) r h refused) (tools-lose_none w.hardware by l));
}

-- lines of processors, of which none but work sends records, and no work is refused
refused-lose_none : (w : World) (by : Running) (cpu : CpuNo) (l : CpuLine) (r : Reason) → cpu_refusal (stage_of w) cpu l ≡ Some r → LosesNone w.hardware by (CpuStep cpu l)
refused-lose_none w by cpu (cpu_line.Switch to) r refused = nothing-lost cpu (cpu_line.Switch to) by.rings
refused-lose_none w by cpu (cpu_line.Work work) r refused = absurd (cc)
refused-lose_none w by cpu cpu_line.Tick r refused = nothing-lost cpu cpu_line.Tick by.rings
refused-lose_none w by cpu (cpu_line.Fork child) r refused = nothing-lost cpu (cpu_line.Fork child) by.rings
refused-lose_none w by cpu cpu_line.Exit r refused = nothing-lost cpu cpu_line.Exit by.rings

pub refused-cpu : (w after : World) (cpu : CpuNo) (l : CpuLine) (r : Reason) → IsKept w.hardware w → after ≡ w → cpu_refusal (stage_of w) cpu l ≡ Some r
    → line.IsDone (CpuStep cpu l) w after (reply.Refused r)
refused-cpu w after cpu l r h same refused by agrees = record {
  answer = subst (λ o. UnlessRefused o (reply.Refused r) (reply.Refused r ≡ reply.Ok)) (sym (ap (λ s. cpu_refusal s cpu l) agrees.stage ∙ refused)) refl;
  agrees = subst (λ (x : World). AgreesWith x (record_after w.hardware by (CpuStep cpu l))) (sym same)
      (stepped w.hardware w w by (CpuStep cpu l) h h agrees (refused-steps w.hardware w (CpuStep cpu l) r h refused) (refused-lose_none w by cpu l r refused));
}

pub accepted-cpu : (w : World) (by : Running) (cpu : CpuNo) (l : CpuLine) → cpu_refusal (stage_of w) cpu l ≡ None → AgreesWith w by → IsAnswerBy w.hardware by (CpuStep cpu l) reply.Ok
accepted-cpu w by cpu l accepted agrees = subst (λ o. UnlessRefused o reply.Ok (reply.Ok ≡ reply.Ok)) (sym (ap (λ s. cpu_refusal s cpu l) agrees.stage ∙ accepted)) refl
