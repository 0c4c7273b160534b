-- believed
-- A session between two of its turns, and what one turn does. This project's own profile.
use Rattle.std.specs.Prelude.{◌≡◌, ℕ, ◌<◌, ◌≤◌, ◌⊎◌, List, [], ◌∷◌, ◌++◌, IfSome, length, take, Option, Some, None}
use Rattle.perf_base.specs.{declared.reply.Reply.{Reply}, Scripts.{Scripted}}
use Rattle.perf_io.specs.{Counts.{count_after}, Outside.{Adds, IsAtEnd, Rose, SinkShows, SourceShows, Takes}, Wrote.{WroteFront}}
use Rattle.script_spec.specs.{Lines.{lines_of}, Texts.{version_of}}
use Rattle.line_forms.specs.Forms.{version_of as seen_version}
use Rattle.line_input.specs.{Ahead.{ahead}, Heads.{HasHead, HasNoEndLine}, LineEnds.{HasNoLF}}
use Rattle.perf_share.specs.{Calls.{AreLegal}, Served.{IsAfter}}
use Rattle.given_lines.specs.{Heads.{IsHead, IsHeadRefused}, declared.given.Given.{Given}}
use Rattle.live_session.specs.{Texts.{said_text}, Turns.{calls_in, IsOne, IsSaid, Turn, bytes_of}}
use Rattle.live_session.specs.declared.{live_machine.LiveMachine.{LiveMachine}, said.Said.{Said}, session.{Session.{Session}, Turned.{Turned}}, status.Status.{Status}}
use Rattle.live_session.specs.declared.said.Said.TheVariants as said
use Rattle.live_session.specs.declared.status.Status.TheVariants as status
use Rattle.live_session.specs.declared.session.Turned.TheVariants as turned

-- The machine is as after these calls, and as many were counted.
pub record IsLiveAfter (m : LiveMachine) (made : List (Given × Reply)) : Type 0 where
  pub after : IsAfter m.script m.served (calls_in made)
  pub counted : m.given ≡ length made

-- it is that of a head, before its first call
pub record IsOpened (text : List ℕ) (m : LiveMachine) : Type 0 where
  pub head : IsHead text m.script
  pub version : seen_version m.version ≡ version_of (lines_of text)
  pub first : IsLiveAfter m []

-- why there is none
abbrev pub IsRefusedHead : List ℕ → Status → Type 0
IsRefusedHead text status.NoMemory = Unit {0}
IsRefusedHead text (status.BadHead line r) = IsHeadRefused text line r
IsRefusedHead text other = ⊥

-- a given line was made a call of, unless 16,384 were made
abbrev pub IsMade : Scripted → List (Given × Reply) → Given → Said → List (Given × Reply) → Type 0
IsMade s made line says now =
    ((length made < 16384) × ((reply : Reply) × AreLegal s (calls_in now) × (now ≡ made ++ (line, reply) ∷ []) × (says ≡ said.Replied reply)))
    ⊎ ((16384 ≤ length made) × (now ≡ made) × (says ≡ said.Full))

-- the same script and version
abbrev pub IsOfSame : LiveMachine → LiveMachine → Type 0
IsOfSame old new = (new.script ≡ old.script) × (new.version ≡ old.version)

-- One flush more, behind the last byte.
abbrev pub IsFlushed : {K : Type 0} → SinkShows K → K → K → Type 0
IsFlushed shows before after =
    ((shows.flushed after).calls ≡ count_after (shows.flushed before).calls 1) × IfSome (shows.held after) (λ bytes. (shows.flushed after).bytes ≡ length bytes)

-- what a source has ahead of a session
abbrev pub ahead_of : {S : Type 0} → SourceShows S → Session → S → Option (List ℕ)
ahead_of shows s source = ahead shows s.input source

-- a session has begun
pub record HasOpened {S : Type 0} (shows : SourceShows S) (before after : S) (s : Session) : Type 0 where
  pub text : List ℕ
  pub come : HasHead (shows.left before) (ahead shows s.input after) text
  pub opened : IsOpened text s.machine

-- Why none has. Where memory runs out, nothing was read, or a whole head.
abbrev pub IsNoSession : {S : Type 0} → SourceShows S → S → S → Status → Type 0
IsNoSession shows before after status.NoMemory = (after ≡ before) ⊎ ((waiting : List ℕ) × (text : List ℕ) × HasHead (shows.left before) (ahead shows waiting after) text)
IsNoSession shows before after status.ReadFault = Rose shows.last_fault (shows.faults before) (shows.faults after)
IsNoSession shows before after status.TooLong = IfSome (shows.left before) (λ bytes. (4194304 < length bytes) × HasNoEndLine (take 4194304 bytes))
IsNoSession shows before after (status.BadHead line r) = (waiting : List ℕ) × (text : List ℕ) × HasHead (shows.left before) (ahead shows waiting after) text × IsHeadRefused text line r
IsNoSession shows before after other = ⊥

-- A line came, after these calls, and this is what it is answered; the calls then are these.
pub record HasCome {S : Type 0} (shows : SourceShows S) (old new : Session) (before after : S) (made : List (Given × Reply)) (t : Turn) (now : List (Given × Reply)) : Type 0 where
  pub one : IsOne t.came
  pub taken : Takes (ahead_of shows old before) (ahead_of shows new after) (bytes_of t.came)
  pub is : IsSaid old.machine.script (seen_version old.machine.version) made t.came t.said now
  pub live : IsLiveAfter new.machine now
  pub same : IsOfSame old.machine new.machine

-- no byte was left
pub record HasNothing {S : Type 0} (shows : SourceShows S) (old new : Session) (before after : S) : Type 0 where
  pub taken : Takes (ahead_of shows old before) (ahead_of shows new after) []
  pub ended : IsAtEnd (ahead_of shows new after)

-- Some bytes of a line were taken that was not answered, before the source failed.
abbrev pub AreTaken : {S : Type 0} → SourceShows S → Session → Session → S → S → List ℕ → Type 0
AreTaken shows old new before after bytes = Takes (ahead_of shows old before) (ahead_of shows new after) bytes

abbrev pub IsUnheard : {S : Type 0} → SourceShows S → Session → Session → S → S → Status → Type 0
IsUnheard shows old new before after status.ReadFault = Rose shows.last_fault (shows.faults before) (shows.faults after) × ((bytes : List ℕ) × HasNoLF bytes × AreTaken shows old new before after bytes)
IsUnheard shows old new before after other = ⊥

-- what was found for a line, or that there was none
abbrev pub IsHeard : {S : Type 0} → SourceShows S → Session → Session → S → S → List (Given × Reply) → Option Said → Type 0
IsHeard shows old new before after made None = HasNothing shows old new before after
IsHeard shows old new before after made (Some says) = (t : Turn) × (now : List (Given × Reply)) × (t.said ≡ says) × HasCome shows old new before after made t now

-- what a turn did that went well
abbrev pub HasTurned : {S K : Type 0} → SourceShows S → SinkShows K → Session → Session → S → S → K → K → List (Given × Reply) → Turned → Type 0
HasTurned source_shows shows old new before after sink written made turned.Answered =
    (t : Turn) × (now : List (Given × Reply)) × HasCome source_shows old new before after made t now
    × Adds (shows.held sink) (shows.held written) (said_text t.said) × IsFlushed shows sink written
HasTurned source_shows shows old new before after sink written made turned.Ended = HasNothing source_shows old new before after × (written ≡ sink)

-- and one that stopped
abbrev pub HasStopped : {S K : Type 0} → SourceShows S → SinkShows K → Session → Session → S → S → K → K → List (Given × Reply) → Status → Type 0
HasStopped source_shows shows old new before after sink written made status.WriteFault =
    (t : Turn) × (now : List (Given × Reply)) × HasCome source_shows old new before after made t now × WroteFront shows sink written (said_text t.said)
HasStopped source_shows shows old new before after sink written made other = IsUnheard source_shows old new before after other × (written ≡ sink)
