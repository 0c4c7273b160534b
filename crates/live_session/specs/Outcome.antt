-- believed
-- What a session does as a whole, and what is left of it: what came, what was written, and how it ended. This
-- project's own profile.
use Rattle.std.specs.Prelude.{◌≡◌, ℕ, ◌-◌, ◌<◌, ◌≤◌, ◌^◌, ◌⊎◌, List, [], ◌∷◌, ◌++◌, IfSome, length, take, Result}
use Rattle.perf_base.specs.{declared.reply.Reply.{Reply}, Scripts.{Scripted}}
use Rattle.perf_io.specs.{declared.outside.Failed.{Failed}, Counts.{count_after}, Outside.{Adds, IsAtEnd, Rose, SinkShows, SourceShows, Takes}, Wrote.{Wrote}}
use Rattle.script_spec.specs.{Forms.{Version}, Lines.{lines_of}, Texts.{version_of}}
use Rattle.line_input.specs.{Ahead.{ahead}, Heads.{HasNoEndLine, IsHeadText}, LineEnds.{HasNoLF}}
use Rattle.given_lines.specs.{Heads.{IsHead}, declared.given.Given.{Given}}
use Rattle.live_session.specs.{Sessions.{IsNoSession}, Texts.{note_of, said_text}, Turns.{AreTurns, Turn, answer_text, came_text}}
use Rattle.live_session.specs.declared.status.Status.{Status}
use Rattle.live_session.specs.declared.status.Status.TheVariants as status

-- What was taken of the source: a head, the lines of these turns, each answered after those before it, and some bytes
-- more. Bytes that wait were read and not taken.
pub record HasTaken {S : Type 0} (shows : SourceShows S) (before after : S) (waiting : List ℕ) (turns : List Turn) (more : List ℕ) : Type 0 where
  pub head : List ℕ
  pub script : Scripted
  pub made : List (Given × Reply)
  pub up_to_end : IsHeadText head ⊎ HasNoEndLine head
  pub declares : IsHead head script
  pub answered : AreTurns script (version_of (lines_of head)) [] turns made
  pub taken : Takes (shows.left before) (ahead shows waiting after) (head ++ came_text turns ++ more)

-- a count of flushes after one more for each turn
abbrev pub flushes_after : ℕ → List Turn → ℕ
flushes_after calls [] = calls
flushes_after calls (t ∷ turns) = flushes_after (count_after calls 1) turns

-- What was written: the answers of these turns, each flushed before the next line was looked at.
pub record HasWritten {K : Type 0} (shows : SinkShows K) (sink written : K) (turns : List Turn) : Type 0 where
  pub answers : Adds (shows.held sink) (shows.held written) (answer_text turns)
  pub flushes : (shows.flushed written).calls ≡ flushes_after (shows.flushed sink).calls turns
  pub flushed : 0 < length turns → IfSome (shows.held written) (λ bytes. (shows.flushed written).bytes ≡ length bytes)

-- No byte is left, also none that waits; or 2^64 - 1 lines were answered.
abbrev pub HasEnded : {S : Type 0} → SourceShows S → S → List ℕ → List Turn → Type 0
HasEnded shows after waiting turns = IsAtEnd (ahead shows waiting after) ⊎ (2 ^ 64 - 1 ≤ length turns)

-- The session of a head ended after these turns: with the source; at a fault of the source, within a line; or at a
-- fault of the sink, within an answer. It takes no memory.
abbrev pub HasTalked : {S K : Type 0} → SourceShows S → SinkShows K → Status → S → S → K → K → Type 0
HasTalked source_shows shows status.Done before after sink written =
    (turns : List Turn) × (waiting : List ℕ) × HasTaken source_shows before after waiting turns [] × HasWritten shows sink written turns × HasEnded source_shows after waiting turns
HasTalked source_shows shows status.ReadFault before after sink written =
    (turns : List Turn) × (waiting : List ℕ) × (part : List ℕ) × HasNoLF part × HasTaken source_shows before after waiting turns part × HasWritten shows sink written turns
    × Rose source_shows.last_fault (source_shows.faults before) (source_shows.faults after)
HasTalked source_shows shows status.WriteFault before after sink written =
    (turns : List Turn) × (last : Turn) × (waiting : List ℕ) × (n : ℕ) × HasTaken source_shows before after waiting (turns ++ last ∷ []) [] × (n ≤ length (said_text last.said))
    × Adds (shows.held sink) (shows.held written) (answer_text turns ++ take n (said_text last.said)) × Rose shows.last_fault (shows.faults sink) (shows.faults written)
HasTalked source_shows shows other before after sink written = ⊥

-- How a session ended: there was none, and nothing was written; or it was one of a head.
abbrev pub IsEnding : {S K : Type 0} → SourceShows S → SinkShows K → Status → S → S → K → K → Type 0
IsEnding source_shows shows answer before after sink written =
    (IsNoSession source_shows before after answer × (written ≡ sink)) ⊎ HasTalked source_shows shows answer before after sink written

-- The note of an answer other than Done was written, whether or not that failed.
abbrev pub IsNoted : {N : Type 0} → SinkShows N → Status → N → N → Type 0
IsNoted shows status.Done before after = after ≡ before
IsNoted shows answer before after = (wrote : Result (Unit {0}) Failed) × Wrote shows before after wrote (note_of answer)
