-- believed
-- What each line of a session is answered, after the calls that were made before it. This project's own profile; the
-- replies are those of the definitions that a report's answers go by.
use Rattle.std.specs.Prelude.{◌≡◌, ℕ, ◌<◌, ◌≤◌, ◌⊎◌, List, [], ◌∷◌, ◌++◌, flat_map, length, map}
use Rattle.perf_base.specs.{declared.{reasons.SReason.{SReason}, reply.Reply.{Reply}}, Scripts.{Scripted}}
use Rattle.perf_base.specs.declared.reasons.SReason.TheVariants as reason
use Rattle.script_spec.specs.Forms.{Version}
use Rattle.line_input.specs.LineEnds.{HasNoLF}
use Rattle.perf_share.specs.{Calls.{AreLegal}, declared.call.Call.{Call}}
use Rattle.perf_share.specs.declared.call.Call.TheVariants as call
use Rattle.given_lines.specs.{Given.{IsBadLine, IsGivenLine}, declared.given.Given.{Given}}
use Rattle.given_lines.specs.declared.given.Given.TheVariants as given
use Rattle.live_session.specs.{declared.said.Said.{Said}, Texts.{said_text}}
use Rattle.live_session.specs.declared.said.Said.TheVariants as said

-- a given line as a call of a shared machine, where no call has a tool of its own
abbrev pub call_of : Given → Call
call_of (given.Tool tool line) = call.Tool line
call_of (given.Cpu cpu line) = call.Cpu cpu line

-- the calls that were made, each with its reply
abbrev pub calls_in : List (Given × Reply) → List (Call × Reply)
calls_in made = map (λ c. (call_of c.0, c.1)) made

-- A line was given and its call made: of all calls so far each reply is the definitions' one.
pub record IsReplied (s : Scripted) (version : Version) (made : List (Given × Reply)) (line : List ℕ) (says : Said) (now : List (Given × Reply)) : Type 0 where
  pub given : Given
  pub reply : Reply
  pub is_given : IsGivenLine s version line given
  pub few : length made < 16384
  pub legal : AreLegal s (calls_in now)
  pub added : now ≡ made ++ (given, reply) ∷ []
  pub said : says ≡ said.Replied reply

-- A line was given after 16,384 calls: nothing was done.
pub record IsFull (s : Scripted) (version : Version) (made : List (Given × Reply)) (line : List ℕ) (says : Said) (now : List (Given × Reply)) : Type 0 where
  pub given : Given
  pub is_given : IsGivenLine s version line given
  pub full : 16384 ≤ length made
  pub same : now ≡ made
  pub said : says ≡ said.Full

-- It was no line that can be given, for this first reason: nothing was done.
pub record IsBad (s : Scripted) (version : Version) (made : List (Given × Reply)) (line : List ℕ) (says : Said) (now : List (Given × Reply)) : Type 0 where
  pub reason : SReason
  pub bad : IsBadLine s version line reason
  pub same : now ≡ made
  pub said : says ≡ said.Bad reason

abbrev pub IsAnswered : Scripted → Version → List (Given × Reply) → List ℕ → Said → List (Given × Reply) → Type 0
IsAnswered s version made line says now = IsReplied s version made line says now ⊎ (IsFull s version made line says now ⊎ IsBad s version made line says now)

-- a line that came: ended by an LF, or the bytes behind the last one
pub data Came : Type 0 where
  Whole : (line : List ℕ) → Came
  Cut : (bytes : List ℕ) → Came

abbrev pub bytes_of : Came → List ℕ
bytes_of (Whole line) = line ++ 10 ∷ []
bytes_of (Cut bytes) = bytes

-- it is one line, and some byte is behind the last LF
abbrev pub IsOne : Came → Type 0
IsOne (Whole line) = HasNoLF line
IsOne (Cut bytes) = HasNoLF bytes × (0 < length bytes)

-- Nothing was done of a line, which is refused for this reason.
abbrev pub IsPassed : SReason → List (Given × Reply) → Said → List (Given × Reply) → Type 0
IsPassed r made says now = (now ≡ made) × (says ≡ said.Bad r)

-- What a line is answered, and the calls that were made then. One longer than 65,536 bytes has no form, and the one
-- without an LF lacks its end.
abbrev pub IsSaid : Scripted → Version → List (Given × Reply) → Came → Said → List (Given × Reply) → Type 0
IsSaid s version made (Whole line) says now = ((length line ≤ 65536) × IsAnswered s version made line says now) ⊎ ((65536 < length line) × IsPassed reason.Form made says now)
IsSaid s version made (Cut bytes) says now = IsPassed reason.End made says now

-- a line and its answer
pub record Turn : Type 0 where
  pub came : Came
  pub said : Said

-- Each line of these was answered after those before it, and led from the first calls to the last.
unfoldable pub AreTurns : Scripted → Version → List (Given × Reply) → List Turn → List (Given × Reply) → Type 0
AreTurns s version made [] now = now ≡ made
AreTurns s version made (t ∷ turns) now = (next : List (Given × Reply)) × IsOne t.came × IsSaid s version made t.came t.said next × AreTurns s version next turns now

-- what came, and what was written
abbrev pub came_text : List Turn → List ℕ
came_text turns = flat_map (λ t. bytes_of t.came) turns

abbrev pub answer_text : List Turn → List ℕ
answer_text turns = flat_map (λ t. said_text t.said) turns
