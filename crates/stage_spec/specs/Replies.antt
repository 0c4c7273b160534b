-- believed
-- The answer to a line. After perf_event_open(2); the order of reasons, and what WHY and SEATS answer, are this
-- project's own profile.
use Rattle.std.specs.{Prelude.{◌≡◌, ℕ, List, [], ◌∷◌, ◌++◌, map, filter, Option, Some, None}, List.{zip}}
use Rattle.perf_base.specs.FlatMaps.{flat_map_after}
use Rattle.perf_base.specs.declared.{numbers.{CpuNo.{CpuNo}, EventNo.{EventNo}}, lines.ToolLine.{ToolLine}, standing.{Context.{Context}, Own.{Own}}}
use Rattle.perf_base.specs.declared.{standing.{Standing.{Standing}, Why.{Why}}, reasons.Reason.{Reason}, reply.{Answer.{Answer}, Reply.{Reply}}}
use Rattle.perf_base.specs.{declared.{reply.Sums.{Sums}, acts.{Act.{Act}, Actor.{Actor}}}, Scripts.{Scripted}, Contexts.{context_of}}
use Rattle.perf_base.specs.declared.lines.ToolLine.TheVariants as tool_line
use Rattle.perf_base.specs.declared.standing.Context.TheVariants as context
use Rattle.perf_base.specs.declared.standing.Own.TheVariants as own
use Rattle.perf_base.specs.declared.standing.Standing.TheVariants as standing
use Rattle.perf_base.specs.declared.standing.Why.TheVariants as why
use Rattle.perf_base.specs.declared.reply.Reply.TheVariants as reply
use Rattle.perf_base.specs.declared.acts.Act.TheVariants as act
use Rattle.perf_base.specs.declared.acts.Actor.TheVariants as actor
use Rattle.stage_spec.specs.{declared.instance.Instance.{Instance}, Hardware.{Hardware, hardware_of, mask_of}}
use Rattle.stage_spec.specs.{Stage.{Stage, Group, original_of, group_of, cpu_of}, Effective.{is_hardware, state_in}}
use Rattle.stage_spec.specs.{Verdict.{on_instances, standing_of}, Fits.{IsAssignment}, Reading.{read_words}, Order.{done_by_cpu, done_by_tool}}
use Rattle.stage_spec.specs.History.{Step, CpuStep, ToolStep, SeenStep, cpu_refusal, tool_refusal, stage_after, history, opening_stage}
use Rattle.stage_spec.specs.Families.{family_sums}

-- the processor that a context is on, if it is on one
abbrev pub cpu_with : Stage → Context → Option CpuNo
cpu_with s (context.Processor cpu) = Some cpu
cpu_with s (context.Task task) = cpu_of s task

-- Why a ready event counts or does not, by where its group stands. It is away where its context is on no processor, and
-- where the group is not eligible there: its place is another processor, or it has a hardware member of another PMU.
abbrev pub why_standing : Standing → Why
why_standing standing.Out = why.Away
why_standing standing.On = why.On
why_standing (standing.Refused cause) = why.Refused cause

abbrev pub why_on : Hardware → Stage → Group → Option CpuNo → Why
why_on hw s g None = why.Away
why_on hw s g (Some cpu) = why_standing (standing_of hw s cpu g)

-- by its effective state first
abbrev pub why_by : Hardware → Stage → Group → Instance → Own → Why
why_by hw s g i own.Off = why.Off
why_by hw s g i (own.Error cause) = why.Failed cause
why_by hw s g i own.Ready = why_on hw s g (cpu_with s (context_of i.attr))

abbrev pub why_in : Hardware → Stage → Option Group → Option Instance → Why
why_in hw s (Some g) (Some i) = why_by hw s g i (state_in g i)
why_in hw s (Some g) None = why.Off
why_in hw s None i = why.Off

unfoldable pub why_of : Hardware → Stage → EventNo → Why
why_of hw s e = why_in hw s (group_of s e) (original_of s e)

-- Seats of a processor: its hardware events that are on, in pass order, each with a counter of its own that can count
-- it.
abbrev pub seated : Hardware → Stage → CpuNo → List Instance
seated hw s cpu = filter is_hardware (on_instances hw s cpu)

pub record IsSeats (hw : Hardware) (s : Stage) (cpu : CpuNo) (seats : List (EventNo × ℕ)) : Type 0 where
  pub events : map (λ seat. seat.0) seats ≡ map (λ i. i.event) (seated hw s cpu)
  pub counters : IsAssignment (map (λ i. mask_of hw i.attr.kind) (seated hw s cpu)) (map (λ seat. seat.1) seats)

-- The answer to a line that is not refused, given what each family has counted and lost. All but SEATS have one.
abbrev pub IsToolReply : Hardware → Stage → (EventNo → Sums) → (EventNo → ℕ) → ToolLine → Reply → Type 0
IsToolReply hw s sums lost (tool_line.Open slot attr leader) r = r ≡ reply.Ok
IsToolReply hw s sums lost (tool_line.Enable event group) r = r ≡ reply.Ok
IsToolReply hw s sums lost (tool_line.Disable event group) r = r ≡ reply.Ok
IsToolReply hw s sums lost (tool_line.Reset event group) r = r ≡ reply.Ok
IsToolReply hw s sums lost (tool_line.Period event period) r = r ≡ reply.Ok
IsToolReply hw s sums lost (tool_line.Read event size) r = r ≡ reply.Read (read_words sums lost s event)
IsToolReply hw s sums lost (tool_line.Map event ring) r = r ≡ reply.Ok
IsToolReply hw s sums lost (tool_line.Output event target) r = r ≡ reply.Ok
IsToolReply hw s sums lost (tool_line.Close event) r = r ≡ reply.Ok
IsToolReply hw s sums lost (tool_line.Why event) r = r ≡ reply.Why (why_of hw s event)
IsToolReply hw s sums lost (tool_line.Seats cpu) r = (seats : List (EventNo × ℕ)) × (r ≡ reply.Seats seats) × IsSeats hw s cpu seats

-- a refused line answers its reason
abbrev pub UnlessRefused : Option Reason → Reply → Type 0 → Type 0
UnlessRefused (Some reason) r Done = r ≡ reply.Refused reason
UnlessRefused None r Done = Done

-- The answer to a step at a stage, given what each family has counted and lost. A look at a tail has none.
abbrev pub IsAnswerAt : Hardware → Stage → (EventNo → Sums) → (EventNo → ℕ) → Step → Reply → Type 0
IsAnswerAt hw s sums lost (CpuStep cpu line) r = UnlessRefused (cpu_refusal s cpu line) r (r ≡ reply.Ok)
IsAnswerAt hw s sums lost (ToolStep line) r = UnlessRefused (tool_refusal hw s line) r (IsToolReply hw s sums lost line r)
IsAnswerAt hw s sums lost (SeenStep ring place) r = ⊥

-- the answer to a step after some steps, the first of them at a stage, given how many records of each family were lost
unfoldable pub IsReply : Hardware → Stage → List Step → (EventNo → ℕ) → Step → Reply → Type 0
IsReply hw s before lost x r = IsAnswerAt hw (stage_after hw s before) (family_sums hw s before) lost x r

-- The replies to steps, one to each line and none to a look; the first step comes after some steps. Given what was lost
-- after each.
unfoldable pub AreReplies : Hardware → Stage → (List Step → EventNo → ℕ) → (before steps : List Step) → List Reply → Type 0
AreReplies hw s lost before [] [] = Unit {0}
AreReplies hw s lost before [] (r ∷ replies) = ⊥
AreReplies hw s lost before (SeenStep ring place ∷ steps) replies = AreReplies hw s lost (before ++ SeenStep ring place ∷ []) steps replies
AreReplies hw s lost before (x ∷ steps) [] = ⊥
AreReplies hw s lost before (x ∷ steps) (r ∷ replies) = IsReply hw s before (lost before) x r × AreReplies hw s lost (before ++ x ∷ []) steps replies

-- whose line an act does, and the line's number, which is the count of that actor's earlier acts; a look does none
abbrev pub lines_of_act : (before : List Act) → Act → List (Actor × ℕ)
lines_of_act before (act.Processor cpu) = (actor.Processor cpu, done_by_cpu cpu before) ∷ []
lines_of_act before (act.Tool tool) = (actor.Tool tool, done_by_tool tool before) ∷ []
lines_of_act before (act.Seen ring place) = []

-- the lines that acts do, the first of them after some acts
abbrev pub lines_from : (before acts : List Act) → List (Actor × ℕ)
lines_from before acts = flat_map_after lines_of_act before acts

-- The answers to the acts of an order of a script: one to each line that is done, in their order.
pub record AnswerOrder (s : Scripted) (lost : List Step → EventNo → ℕ) (order : List Act) (answers : List Answer) : Type 0 where
  pub lines : map (λ a. (a.actor, a.number)) answers ≡ lines_from [] order
  pub replies : AreReplies (hardware_of s) (opening_stage s) lost [] (history s order) (map (λ a. a.reply) answers)

-- replies as answers to the lines that an order does
abbrev pub answers_to : (order : List Act) → List Reply → List Answer
answers_to order replies = map (λ a. record { actor = a.0.0; number = a.0.1; reply = a.1 }) (zip (lines_from [] order) replies)
