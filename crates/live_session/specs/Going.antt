-- inner
-- A session from its first line on. This project's own profile.
use Rattle.std.specs.Prelude.{◌≡◌, ℕ, ◌-◌, ◌<◌, ◌≤◌, ◌^◌, ◌⊎◌, List, [], ◌∷◌, ◌++◌, length, take}
use Rattle.perf_base.specs.declared.reply.Reply.{Reply}
use Rattle.perf_io.specs.{Outside.{Adds, IsAtEnd, Rose, SinkShows, SourceShows, Takes}}
use Rattle.line_forms.specs.Forms.{version_of as seen_version}
use Rattle.line_input.specs.LineEnds.{HasNoLF}
use Rattle.given_lines.specs.declared.given.Given.{Given}
use Rattle.live_session.specs.{Outcome.{HasWritten}, Sessions.{IsLiveAfter, IsOfSame, ahead_of}, Texts.{said_text}, Turns.{AreTurns, Turn, answer_text, came_text}}
use Rattle.live_session.specs.declared.{session.Session.{Session}, status.Status.{Status}}
use Rattle.live_session.specs.declared.status.Status.TheVariants as status

-- the lines of these turns were taken, each answered after those before it, and some bytes more
pub record HaveCome {S : Type 0} (shows : SourceShows S) (old new : Session) (before after : S) (turns : List Turn) (made : List (Given × Reply)) (more : List ℕ) : Type 0 where
  pub answered : AreTurns old.machine.script (seen_version old.machine.version) [] turns made
  pub taken : Takes (ahead_of shows old before) (ahead_of shows new after) (came_text turns ++ more)

-- and all were answered: the session goes on
pub record GoesOn {S K : Type 0} (source_shows : SourceShows S) (shows : SinkShows K) (old new : Session) (before after : S) (sink written : K) (turns : List Turn) (made : List (Given × Reply)) : Type 0 where
  pub come : HaveCome source_shows old new before after turns made []
  pub told : HasWritten shows sink written turns
  pub live : IsLiveAfter new.machine made
  pub same : IsOfSame old.machine new.machine
  pub source_count : source_shows.faults before ≤ source_shows.faults after
  pub sink_count : shows.faults sink ≤ shows.faults written

-- how it ended
abbrev pub HasGone : {S K : Type 0} → SourceShows S → SinkShows K → Status → Session → Session → S → S → K → K → Type 0
HasGone source_shows shows status.Done old new before after sink written =
    (turns : List Turn) × (made : List (Given × Reply)) × HaveCome source_shows old new before after turns made [] × HasWritten shows sink written turns
    × (IsAtEnd (ahead_of source_shows new after) ⊎ (2 ^ 64 - 1 ≤ length turns))
HasGone source_shows shows status.ReadFault old new before after sink written =
    (turns : List Turn) × (made : List (Given × Reply)) × (part : List ℕ) × HasNoLF part × HaveCome source_shows old new before after turns made part × HasWritten shows sink written turns
    × Rose source_shows.last_fault (source_shows.faults before) (source_shows.faults after)
HasGone source_shows shows status.WriteFault old new before after sink written =
    (turns : List Turn) × (last : Turn) × (made : List (Given × Reply)) × (n : ℕ) × HaveCome source_shows old new before after (turns ++ last ∷ []) made [] × (n ≤ length (said_text last.said))
    × Adds (shows.held sink) (shows.held written) (answer_text turns ++ take n (said_text last.said)) × Rose shows.last_fault (shows.faults sink) (shows.faults written)
HasGone source_shows shows other old new before after sink written = ⊥
