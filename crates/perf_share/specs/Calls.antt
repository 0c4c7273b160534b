-- believed
-- The calls of a shared machine: which may be made, and which histories of them are legal. This project's own profile,
-- after its limits on lines.
use Rattle.std.specs.Prelude.{List, [], map}
use Rattle.perf_base.specs.{declared.{lines.ToolLine.{ToolLine}, reply.Reply.{Reply}}, Scripts.{Scripted}}
use Rattle.perf_base.specs.declared.lines.ToolLine.TheVariants as tool_line
use Rattle.stage_spec.specs.{Hardware.{hardware_of}, History.{Step, CpuStep, ToolStep, opening_stage}, Limits.{Limits, IsWithin, limits_of}}
use Rattle.stage_spec.specs.Replies.{AreReplies}
use Rattle.ring_spec.specs.Rings.{lost_count}
use Rattle.perf_share.specs.declared.call.Call.{Call}
use Rattle.perf_share.specs.declared.call.Call.TheVariants as call

-- a call as a step of the definitions: a line of a tool, or of a processor
abbrev pub step_of : Call → Step
step_of (call.Tool line) = ToolStep line
step_of (call.Cpu cpu line) = CpuStep cpu line

-- a line that maps no ring
abbrev pub MapsNone : ToolLine → Type 0
MapsNone (tool_line.Map event ring) = ⊥
MapsNone _ = Unit {0}

abbrev pub IsNoMap : Call → Type 0
IsNoMap (call.Tool line) = MapsNone line
IsNoMap (call.Cpu cpu line) = Unit {0}

-- A call may be made: it maps no ring, its numbers keep the limits on lines, and its processors and kinds are the
-- script's.
abbrev pub FitsIn : Limits → Call → Type 0
FitsIn l c = IsNoMap c × IsWithin l (step_of c)

abbrev pub Fits : Scripted → Call → Type 0
Fits s c = FitsIn (limits_of s) c

-- the steps of some calls, and their replies
abbrev pub steps_in : List (Call × Reply) → List Step
steps_in calls = map (λ c. step_of c.0) calls

abbrev pub replies_in : List (Call × Reply) → List Reply
replies_in calls = map (λ c. c.1) calls

-- A history is legal: each reply is the definitions' reply to its call after the calls before it, from the stage on
-- that the script opens with.
abbrev pub AreLegal : Scripted → List (Call × Reply) → Type 0
AreLegal s calls = AreReplies (hardware_of s) (opening_stage s) (lost_count (hardware_of s) (opening_stage s) s.rings) [] (steps_in calls) (replies_in calls)

-- A history of no calls is legal.
pub none_legal : (s : Scripted) → AreLegal s []
unfolding AreReplies
none_legal s = tt
