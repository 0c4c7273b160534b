-- The answer to a step by the record of those before it, with the test of seats.
use Rattle.std.specs.Prelude.{Option, Some, None}
use Rattle.perf_base.specs.declared.{lines.ToolLine.{ToolLine}, reasons.Reason.{Reason}, reply.Reply.{Reply}}
use Rattle.perf_base.specs.declared.lines.ToolLine.TheVariants as tool_line
use Rattle.stage_spec.specs.{Hardware.{Hardware}, History.{Step, CpuStep, ToolStep, SeenStep, tool_refusal}, Replies.{IsToolReply, UnlessRefused}}
use Rattle.ring_spec.specs.Running.{Running, family_by, IsAnswerBy}
use Rattle.worked_theorems.proofs.answers.Seats.{SeatsBy, seats_by}
use Rattle.ring_spec.proofs.Agreement.{unless-same}

abbrev DoneBy : Hardware → Running → ToolLine → Reply → Type 0
DoneBy hw r (tool_line.Seats cpu) a = SeatsBy hw r.stage cpu a
DoneBy hw r line a = IsToolReply hw r.stage (family_by r) r.lost line a

abbrev pub AnswerBy : Hardware → Running → Step → Reply → Type 0
AnswerBy hw r (ToolStep line) a = UnlessRefused (tool_refusal hw r.stage line) a (DoneBy hw r line a)
AnswerBy hw r x a = IsAnswerBy hw r x a

done_by : (hw : Hardware) (r : Running) (line : ToolLine) (a : Reply) → DoneBy hw r line a → IsToolReply hw r.stage (family_by r) r.lost line a
done_by hw r (tool_line.Seats cpu) a h = seats_by hw r.stage cpu a h
done_by hw r (tool_line.Open slot attr leader) a h = h
done_by hw r (tool_line.Enable event group) a h = h
done_by hw r (tool_line.Disable event group) a h = h
done_by hw r (tool_line.Reset event group) a h = h
done_by hw r (tool_line.Period event period) a h = h
done_by hw r (tool_line.Read event size) a h = h
done_by hw r (tool_line.Map event ring) a h = h
done_by hw r (tool_line.Output event target) a h = h
done_by hw r (tool_line.Close event) a h = h
done_by hw r (tool_line.Why event) a h = h

pub answer_by : (hw : Hardware) (r : Running) (x : Step) (a : Reply) → AnswerBy hw r x a → IsAnswerBy hw r x a
answer_by hw r (CpuStep cpu line) a h = h
answer_by hw r (ToolStep line) a h = unless-same (tool_refusal hw r.stage line) a (DoneBy hw r line a) (IsToolReply hw r.stage (family_by r) r.lost line a) (done_by hw r line a) h
answer_by hw r (SeenStep ring place) a h = h
