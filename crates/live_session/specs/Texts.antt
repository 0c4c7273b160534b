-- believed
-- What a session writes: the answer to each line, and the number and the note with which it ends. This project's own
-- profile.
use Rattle.std.specs.Prelude.{ℕ, List, [], ◌∷◌, ◌++◌, codes, decimal, unwrap_or}
use Rattle.perf_base.specs.{declared.reply.Reply.{Reply}, Reasons.{script_word}}
use Rattle.perf_base.specs.declared.reply.Reply.TheVariants as reply
use Rattle.report_spec.specs.Report.{answer_text}
use Rattle.live_session.specs.declared.{said.Said.{Said}, status.Status.{Status}}
use Rattle.live_session.specs.declared.said.Said.TheVariants as said
use Rattle.live_session.specs.declared.status.Status.TheVariants as status

-- whether a call was refused
abbrev pub first_word : Reply → List ℕ
first_word (reply.Refused r) = codes "refused"
first_word other = codes "ok"

-- The answer to a line: whether its call was refused, and the words that a report has of the reply, a space before
-- each; or the first reason for which it is no line that can be given; or that no more lines are taken.
abbrev pub said_text : Said → List ℕ
said_text (said.Replied r) = first_word r ++ unwrap_or (answer_text r) [] ++ codes "\n"
said_text (said.Bad r) = codes "bad " ++ script_word r ++ codes "\n"
said_text said.Full = codes "full\n"

-- the number with which the program ends
abbrev pub number_of : Status → ℕ
number_of status.Done = 0
number_of (status.BadHead line r) = 1
number_of status.TooLong = 1
number_of status.ReadFault = 2
number_of status.WriteFault = 3
number_of status.NoMemory = 4
number_of status.Usage = 5

-- the note, one line; there is none when all was done
abbrev pub note_of : Status → List ℕ
note_of status.Done = []
note_of (status.BadHead line r) = codes "perf_live: line " ++ decimal line ++ codes ": " ++ script_word r ++ codes "\n"
note_of status.TooLong = codes "perf_live: script longer than 4194304 bytes\n"
note_of status.ReadFault = codes "perf_live: read fault\n"
note_of status.WriteFault = codes "perf_live: write fault\n"
note_of status.NoMemory = codes "perf_live: no memory\n"
note_of status.Usage = codes "perf_live: usage: no words\n"
