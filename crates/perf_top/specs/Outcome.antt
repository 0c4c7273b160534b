-- believed
-- What a call of the program does and leaves. This project's own profile.
use Rattle.std.specs.Prelude.{◌≡◌, ◌⊎◌, ◌≤◌, ℕ, List, ◌++◌, length, take, IfSome, Option, Some, Result, slice_get}
use Rattle.perf_base.specs.{declared.{acts.Act.{Act}, numbers.RingNo.{RingNo}, reply.Answer.{Answer}}, Scripts.{Scripted}}
use Rattle.perf_base.specs.declared.acts.Act.TheVariants as act
use Rattle.perf_io.specs.{declared.outside.Failed.{Failed}, Counts.{count_after}}
use Rattle.perf_io.specs.{Outside.{Adds, Flushes, SinkShows, SourceShows}, Wrote.{Wrote, WroteFront}}
use Rattle.stage_spec.specs.Order.{IsComplete, IsLawfulSeen, last_seen}
use Rattle.ring_spec.specs.{Account.{head_of}, Rings.{IsLawfulOrder, account_in, bytes_of, sizes_in}}
use Rattle.script_spec.specs.{Printing.{printed}, Texts.{StandsFor}}
use Rattle.report_spec.specs.{Answers.{AreReadersParts, IsAnswered, IsRunShaped}, Published.{IsWatched}, Report.{report, rings_after}}
use Rattle.work_maker.specs.Rounds.{script_of_rounds}
use Rattle.report.specs.Summary.{summary_text, totals_of}
use Rattle.stat_rows.specs.Rows.{rows_of}
use Rattle.stat_table.specs.Table.{table_text}
use Rattle.perf_ask.specs.{Asking.{DoesOrder, ReadsScript, TakesMemory}, Notes.{note_of}, Reading.{Gave, IsRefusal}}
use Rattle.perf_ask.specs.declared.{asked.Asked.{Asked}, status.Status.{Status}}
use Rattle.perf_top.specs.Attributes.{IsLineOf}
use Rattle.perf_ask.specs.declared.asked.Asked.TheVariants as asked
use Rattle.perf_ask.specs.declared.status.Status.TheVariants as status

-- The script of what is asked, and what was read for it: the script that the text of the source stands for, whose own
-- order is complete where that is to be done; or a made one. An attribute has none.
abbrev pub IsGiven : {S : Type 0} → (S → Option (List ℕ)) → Asked → S → S → Scripted → Type 0
IsGiven left (asked.Make n) before after s = (after ≡ before) × (s ≡ script_of_rounds n)
IsGiven left (asked.MadeScript n) before after s = (after ≡ before) × (s ≡ script_of_rounds n)
IsGiven left (asked.Attr bytes) before after s = after ≡ before
IsGiven left a before after s =
    (text : List ℕ) × Gave (left before) (left after) text × StandsFor text s × (DoesOrder a → IsComplete s s.order)

-- These bytes are the report of an order of a script, with answers to it.
pub record IsReported (s : Scripted) (order : List Act) (out : List ℕ) : Type 0 where
  pub answers : List Answer
  pub answered : IsAnswered s order answers
  pub is : out ≡ report s order answers (rings_after s order)

-- A run may leave this order: it is complete, looks at rings stand before a processor's line or at the end, by rising
-- rings, each further than the last one, and each reader took no more records than its tries allow.
pub record IsRun (s : Scripted) (order : List Act) : Type 0 where
  pub complete : IsComplete s order
  pub shaped : IsRunShaped order
  pub parts : AreReadersParts s order

-- These bytes are the summary of a made script: of answers to its own order, and of what its rings came to over that.
pub record IsSummary (n : ℕ) (s : Scripted) (out : List ℕ) : Type 0 where
  pub answers : List Answer
  pub answered : IsAnswered s s.order answers
  pub is : out ≡ summary_text n (totals_of s answers (rings_after s s.order))

-- What is written of a script, or of the bytes of an attribute. Behind the report of a watched run stand the watcher's
-- last look and the last one published.
abbrev pub IsOutput : Asked → Scripted → List ℕ → Type 0
IsOutput asked.Replay s out = IsReported s s.order out
IsOutput asked.Run s out = (order : List Act) × IsRun s order × IsReported s order out
IsOutput asked.Stat s out = IsLawfulOrder s s.order × (out ≡ table_text (rows_of s s.order))
IsOutput (asked.Watch w) s out = (order : List Act) × (report_part : List ℕ) × (watch_part : List ℕ) × IsRun s order × IsReported s order report_part
    × IsWatched s order (record { 0 = w.0 }) watch_part × (out ≡ report_part ++ watch_part)
IsOutput (asked.Make n) s out = IsSummary n s out
IsOutput (asked.MadeScript n) s out = out ≡ printed s
IsOutput (asked.Attr bytes) s out = IsLineOf bytes out

-- The act of this number, from 0, is the first look of a script's own order that is not lawful: the acts before it
-- leave the ring's tail seen last at `last`, and its head at `head`, and there it can't be seen at the place given.
pub record HasBadLook (s : Scripted) (index : ℕ) (ring : RingNo) (last head given : ℕ) : Type 0 where
  pub look : slice_get s.order index ≡ Some (act.Seen ring given)
  pub before : IsLawfulOrder s (take index s.order)
  pub seen_last : last ≡ last_seen ring (take index s.order)
  pub headed : head ≡ head_of (account_in s (take index s.order) (ring, bytes_of s ring))
  pub unlawful : IsLawfulSeen (sizes_in s (take index s.order) ring) last given → ⊥

-- One flush more, behind the last byte.
abbrev pub IsFlushed : Option (List ℕ) → Flushes → Flushes → Type 0
IsFlushed held before after = (after.calls ≡ count_after before.calls 1) × IfSome held (λ bytes. after.bytes ≡ length bytes)

-- At most one flush more.
abbrev pub IsFlushedOnce : Flushes → Flushes → Type 0
IsFlushedOnce before after = (after.calls ≡ before.calls) ⊎ (after.calls ≡ count_after before.calls 1)

-- How what is asked of a script ended, by the answer and what the sink shows.
abbrev pub IsEnding : {K : Type 0} → SinkShows K → Asked → Scripted → Status → K → K → Type 0
IsEnding shows a s status.Done before after =
    (out : List ℕ) × IsOutput a s out × Adds (shows.held before) (shows.held after) out × IsFlushed (shows.held after) (shows.flushed before) (shows.flushed after)
IsEnding shows a s status.WriteFault before after =
    (out : List ℕ) × IsOutput a s out × WroteFront shows before after out × IsFlushedOnce (shows.flushed before) (shows.flushed after)
IsEnding shows a s (status.BadOrder index ring last head given) before after = DoesOrder a × HasBadLook s index ring last head given × (after ≡ before)
IsEnding shows a s other before after = ⊥

-- What is asked was answered so: it was refused, and the sink is as it was; or it was done of a script that was given.
abbrev pub IsAnswer : {S K : Type 0} → SourceShows S → SinkShows K → Asked → Status → S → S → K → K → Type 0
IsAnswer source_shows shows a answer source read sink written =
    (IsRefusal source_shows a answer source read × (written ≡ sink))
    ⊎ ((s : Scripted) × IsGiven source_shows.left a source read s × IsEnding shows a s answer sink written)

-- It can be done with the bytes that are left: a script is read only where they are one, whose own order is complete
-- and lawful where that is to be done.
abbrev pub CanBeDone : Asked → Option (List ℕ) → Type 0
CanBeDone a left = ReadsScript a → (text : List ℕ) × (s : Scripted) × (left ≡ Some text) × (length text ≤ 4194304) × StandsFor text s
    × (DoesOrder a → IsComplete s s.order × IsLawfulOrder s s.order)

-- It was done, or memory ran out.
abbrev pub IsDone : Asked → Status → Type 0
IsDone a answer = (answer ≡ status.Done) ⊎ (TakesMemory a × (answer ≡ status.NoMemory))

-- The note of an answer other than Done was written, whether or not that failed.
abbrev pub IsNoted : {N : Type 0} → SinkShows N → Status → N → N → Type 0
IsNoted shows status.Done before after = after ≡ before
IsNoted shows answer before after = (wrote : Result (Unit {0}) Failed) × Wrote shows before after wrote (note_of answer)
