-- believed
-- When an order and replies answer a script, which orders a run leaves, and what its readers took. This project's own
-- profile.
use Rattle.std.specs.Prelude.{◌≡◌, ℕ, ◌+◌, ◌*◌, ◌<◌, ◌≤◌, ◌==◌, nat_le, true, false, List, [], ◌∷◌, ◌++◌, length, find, All, Option, MatchOption}
use Rattle.perf_base.specs.declared.{numbers.{EventNo.{EventNo}, RingNo.{RingNo}}, lines.ReaderLine.{ReaderLine}, acts.Act.{Act}}
use Rattle.perf_base.specs.{declared.reply.Answer.{Answer}, Scripts.{Scripted}}
use Rattle.perf_base.specs.declared.acts.Act.TheVariants as act
use Rattle.stage_spec.specs.{Hardware.{hardware_of}, Order.{IsCounted, last_seen}, History.{Step, opening_stage}, Replies.{AnswerOrder}}
use Rattle.ring_spec.specs.{Records.{Record, record_size}, Account.{Account}, Rings.{IsLawfulOrder, account_in, lost_count}}

-- how many records of an event were lost after some steps of a script
abbrev pub lost_in : Scripted → List Step → EventNo → ℕ
lost_in s steps e = lost_count (hardware_of s) (opening_stage s) s.rings steps e

-- No actor has more acts than lines, each look at a tail is lawful, and there is one answer to each line that is done,
-- in their order.
pub record IsAnswered (s : Scripted) (order : List Act) (answers : List Answer) : Type 0 where
  pub counted : IsCounted s order
  pub lawful : IsLawfulOrder s order
  pub answered : AnswerOrder s (lost_in s) order answers

-- the looks at tails stand before a processor's act or at the end, by rising rings
abbrev pub StandsBefore : List Act → Type 0
StandsBefore [] = Unit {0}
StandsBefore (act.Processor cpu ∷ acts) = Unit {0}
StandsBefore (act.Tool tool ∷ acts) = ⊥
StandsBefore (act.Seen ring place ∷ acts) = StandsBefore acts

abbrev pub RisesTo : RingNo → List Act → Type 0
RisesTo ring [] = Unit {0}
RisesTo ring (act.Processor cpu ∷ acts) = Unit {0}
RisesTo ring (act.Tool tool ∷ acts) = Unit {0}
RisesTo ring (act.Seen other place ∷ acts) = ring.0 < other.0

-- such a look, between the acts before and after it, sees more than the last one of its ring
pub record IsRunLook (before after : List Act) (ring : RingNo) (place : ℕ) : Type 0 where
  pub stands : StandsBefore after
  pub rises : RisesTo ring after
  pub above : last_seen ring before < place

abbrev pub IsRunAct : (before after : List Act) → Act → Type 0
IsRunAct before after (act.Processor cpu) = Unit {0}
IsRunAct before after (act.Tool tool) = Unit {0}
IsRunAct before after (act.Seen ring place) = IsRunLook before after ring place

-- An order is run-shaped where each look at a tail in it is one that a run makes.
abbrev pub IsRunShaped : List Act → Type 0
IsRunShaped order = (before after : List Act) (a : Act) → order ≡ before ++ a ∷ after → IsRunAct before after a

-- the records of a list, from a place on, that end at or before the tail: those that the reader took
unfoldable pub taken_from : (tail place : ℕ) → List Record → List Record
taken_from tail place [] = []
taken_from tail place (r ∷ records) = elim (nat_le (place + record_size r) tail) [ true ↦ r ∷ taken_from tail (place + record_size r) records | false ↦ [] ]

abbrev pub taken_of : Account → List Record
taken_of a = taken_from a.tail 0 a.written

-- the line of a ring's reader among some lines, and the reader of a ring, if a script has one
abbrev pub line_for : List ReaderLine → RingNo → Option ReaderLine
line_for lines ring = find (λ line. line.ring.0 == ring.0) lines

abbrev pub reader_of : Scripted → RingNo → Option ReaderLine
reader_of s ring = line_for s.readers ring

abbrev pub IsNoLook : RingNo → Act → Type 0
IsNoLook ring (act.Processor cpu) = Unit {0}
IsNoLook ring (act.Tool tool) = Unit {0}
IsNoLook ring (act.Seen other place) = other.0 ≡ ring.0 → ⊥

-- A reader took at most as many records as its tries allow, and a ring without a reader was never looked at.
abbrev pub IsReadersPart : Scripted → List Act → RingNo × ℕ → Type 0
IsReadersPart s order ring = MatchOption (reader_of s ring.0) (All (IsNoLook ring.0) order)
    (λ line. length (taken_of (account_in s order ring)) ≤ line.tries * line.batch)

abbrev pub AreReadersParts : Scripted → List Act → Type 0
AreReadersParts s order = All (IsReadersPart s order) s.rings
