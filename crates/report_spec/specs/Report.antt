-- believed
-- The text of a report. This project's own profile.
use Rattle.std.specs.Prelude.{ℕ, zero, suc, ◌+◌, ◌/◌, ◌%◌, nat_le, Bool, true, false, List, [], ◌∷◌, ◌++◌, map, length, codes, decimal, Option, Some, None, slice_get}
use Rattle.std.specs.{Fmt.{digit_glyph}, List.{flat_map}}
use Rattle.perf_base.specs.declared.{numbers.{EventNo.{EventNo}, RingNo.{RingNo}}, lines.{CpuLine.{CpuLine}, ToolLine.{ToolLine}}, acts.Act.{Act}}
use Rattle.perf_base.specs.declared.{acts.Actor.{Actor}, standing.{Cause.{Cause}, Why.{Why}}, reasons.Reason.{Reason}, reply.Reply.{Reply}}
use Rattle.perf_base.specs.{declared.reply.Answer.{Answer}, Reasons.{printed_of}, Scripts.{Scripted, lines_of_cpu, lines_of_tool}}
use Rattle.perf_base.specs.declared.lines.CpuLine.TheVariants as cpu_line
use Rattle.perf_base.specs.declared.lines.ToolLine.TheVariants as tool_line
use Rattle.perf_base.specs.declared.acts.Act.TheVariants as act
use Rattle.perf_base.specs.declared.acts.Actor.TheVariants as actor
use Rattle.perf_base.specs.declared.standing.Rule.TheVariants as rule
use Rattle.perf_base.specs.declared.standing.Cause.TheVariants as cause
use Rattle.perf_base.specs.declared.standing.Why.TheVariants as why
use Rattle.perf_base.specs.declared.reasons.Reason.TheVariants as reason
use Rattle.perf_base.specs.declared.reply.Reply.TheVariants as reply
use Rattle.ring_spec.specs.{Records.{Record, record_words, record_size}, Account.{Account, head_of}, Rings.{account_in}}
use Rattle.script_spec.specs.Acts.{act_text, acts_text}

-- numbers in decimal, a space before each
abbrev pub numbers_text : List ℕ → List ℕ
numbers_text words = flat_map (λ n. 32 ∷ decimal n) words

-- slots, a space before each
abbrev pub slots_text : List EventNo → List ℕ
slots_text slots = flat_map (λ e. 32 ∷ decimal e.0) slots

abbrev pub cause_text : Cause → List ℕ
cause_text (cause.Rule (rule.Exclusive e)) = codes "exclusive " ++ decimal e.0
cause_text (cause.Rule (rule.ExclusiveSelf e)) = codes "exclusive-self " ++ decimal e.0
cause_text (cause.Rule (rule.Earlier e)) = codes "earlier " ++ decimal e.0
cause_text (cause.Hall set) = codes "hall" ++ slots_text set

abbrev pub why_text : Why → List ℕ
why_text why.Off = codes "off"
why_text (why.Failed c) = codes "error " ++ cause_text c
why_text why.Away = codes "away"
why_text why.On = codes "on"
why_text (why.Refused c) = cause_text c

abbrev pub reason_text : Reason → List ℕ
reason_text (reason.NoAssignment set) = printed_of (reason.NoAssignment set) ++ slots_text set
reason_text r = printed_of r

-- an answer, a space before each of its words; a plain Ok has no text
abbrev pub answer_text : Reply → Option (List ℕ)
answer_text reply.Ok = None
answer_text (reply.Refused r) = Some (32 ∷ reason_text r)
answer_text (reply.Read words) = Some (numbers_text words)
answer_text (reply.Why w) = Some (32 ∷ why_text w)
answer_text (reply.Seats seats) = Some (flat_map (λ s. 32 ∷ decimal s.0.0 ++ codes "=" ++ decimal s.1) seats)

-- the first word of a line
abbrev pub cpu_word : Option CpuLine → List ℕ
cpu_word None = []
cpu_word (Some (cpu_line.Switch to)) = codes "switch"
cpu_word (Some (cpu_line.Work w)) = codes "work"
cpu_word (Some cpu_line.Tick) = codes "tick"
cpu_word (Some (cpu_line.Fork task)) = codes "fork"
cpu_word (Some cpu_line.Exit) = codes "exit"

abbrev pub tool_word : Option ToolLine → List ℕ
tool_word None = []
tool_word (Some (tool_line.Open slot attr leader)) = codes "open"
tool_word (Some (tool_line.Enable event group)) = codes "enable"
tool_word (Some (tool_line.Disable event group)) = codes "disable"
tool_word (Some (tool_line.Reset event group)) = codes "reset"
tool_word (Some (tool_line.Period event period)) = codes "period"
tool_word (Some (tool_line.Read event size)) = codes "read"
tool_word (Some (tool_line.Map event ring)) = codes "map"
tool_word (Some (tool_line.Output event target)) = codes "output"
tool_word (Some (tool_line.Close event)) = codes "close"
tool_word (Some (tool_line.Why event)) = codes "why"
tool_word (Some (tool_line.Seats cpu)) = codes "seats"

-- an actor's name, and the first word of its line of a number; readers and watchers have neither
abbrev pub actor_text : Actor → List ℕ
actor_text (actor.Processor cpu) = act_text (act.Processor cpu)
actor_text (actor.Tool tool) = act_text (act.Tool tool)
actor_text (actor.Reader ring) = []
actor_text actor.Watcher = []

abbrev pub line_word : Scripted → Actor → ℕ → List ℕ
line_word s (actor.Processor cpu) n = cpu_word (slice_get (lines_of_cpu s cpu) n)
line_word s (actor.Tool tool) n = tool_word (slice_get (lines_of_tool s tool) n)
line_word s (actor.Reader ring) n = []
line_word s actor.Watcher n = []

-- the line of an answer: the actor, a dot, the number of its line, that line's first word, the answer
abbrev pub answer_line : Scripted → Actor → ℕ → Option (List ℕ) → List ℕ
answer_line s who n None = []
answer_line s who n (Some text) = actor_text who ++ codes "." ++ decimal n ++ codes " " ++ line_word s who n ++ text ++ 10 ∷ []

-- the lines of the answers
abbrev pub answer_lines : Scripted → List Answer → List ℕ
answer_lines s answers = flat_map (λ a. answer_line s a.actor a.number (answer_text a.reply)) answers

-- a word as a given number of hexadecimal digits, in small letters
unfoldable pub hexadecimal_digits : (digits word : ℕ) → List ℕ
hexadecimal_digits zero word = []
hexadecimal_digits (suc n) word = hexadecimal_digits n (word / 16) ++ digit_glyph false (word % 16) ∷ []

-- a record, taken or left, with its words of sixteen digits each
abbrev pub fate_text : (taken : Bool) → List ℕ
fate_text true = codes "taken"
fate_text false = codes "left"

abbrev pub record_line : (taken : Bool) → Record → List ℕ
record_line taken r = fate_text taken ++ flat_map (λ word. 32 ∷ hexadecimal_digits 16 word) (record_words r) ++ 10 ∷ []

-- the records of a ring from a place on: one that ends at or before the tail was taken
unfoldable pub record_lines : (tail place : ℕ) → List Record → List ℕ
record_lines tail place [] = []
record_lines tail place (r ∷ records) = record_line (nat_le (place + record_size r) tail) r ++ record_lines tail (place + record_size r) records

-- what a ring came to, and the records written on it
abbrev pub ring_lines : RingNo × Account → List ℕ
ring_lines ring = codes "ring " ++ decimal ring.0.0 ++ codes " head=" ++ decimal (head_of ring.1) ++ codes " tail=" ++ decimal ring.1.tail
    ++ codes " lost=" ++ decimal (length ring.1.lost) ++ codes " pending=" ++ decimal ring.1.pending ++ 10 ∷ []
    ++ record_lines ring.1.tail 0 ring.1.written

-- the whole report: the order, the answers, the rings, the end
unfoldable pub report : Scripted → List Act → List Answer → List (RingNo × Account) → List ℕ
report s order answers rings = codes "order" ++ acts_text order ++ 10 ∷ [] ++ answer_lines s answers ++ flat_map ring_lines rings ++ codes "end" ++ 10 ∷ []

-- what each ring of a script comes to over an order
abbrev pub rings_after : Scripted → List Act → List (RingNo × Account)
rings_after s order = map (λ ring. (ring.0, account_in s order ring)) s.rings
