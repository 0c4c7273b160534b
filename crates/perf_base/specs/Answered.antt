-- inner
-- How the answers of a run lie in memory: an entry for each, and the reasons of refusals and what was told in lists of
-- their own. This project's own profile.
use Rattle.std.specs.Prelude.{ℕ, ◌<◌, ◌≤◌, ⊤, All, List, [], ◌∷◌, get_or, length}
use Rattle.perf_base.specs.declared.{answers.{Entry.{Entry}, Short.{Short}}, reasons.Reason.{Reason}, reply.{Answer.{Answer}, Reply.{Reply}}}
use Rattle.perf_base.specs.declared.answers.Short.TheVariants as short
use Rattle.perf_base.specs.declared.reasons.Reason.TheVariants as reason
use Rattle.perf_base.specs.declared.reply.Reply.TheVariants as reply

-- answers in their order, and for how many there is room
pub record Answered : Type 0 where
  pub items : List Answer
  pub room : ℕ

-- what an entry says, given the reasons and what was told
abbrev pub reply_of : List Reason → List Reply → Short → Reply
reply_of reasons told short.Ok = reply.Ok
reply_of reasons told (short.Refused place) = reply.Refused (get_or reasons place reason.BadPeriod)
reply_of reasons told (short.Told place) = get_or told place reply.Ok

abbrev pub answer_of : List Reason → List Reply → Entry → Answer
answer_of reasons told e = record { actor = e.actor; number = e.number; reply = reply_of reasons told e.short }

-- an entry's place is one of the lists'
abbrev pub IsShort : List Reason → List Reply → Short → Type 0
IsShort reasons told short.Ok = ⊤
IsShort reasons told (short.Refused place) = place < length reasons
IsShort reasons told (short.Told place) = place < length told

-- what a reply adds to the reasons, and to what was told
abbrev pub reasons_in : Reply → List Reason
reasons_in reply.Ok = []
reasons_in (reply.Refused reason) = reason ∷ []
reasons_in (reply.Read words) = []
reasons_in (reply.Why why) = []
reasons_in (reply.Seats seats) = []

abbrev pub told_in : Reply → List Reply
told_in reply.Ok = []
told_in (reply.Refused reason) = []
told_in (reply.Read words) = reply.Read words ∷ []
told_in (reply.Why why) = reply.Why why ∷ []
told_in (reply.Seats seats) = reply.Seats seats ∷ []

-- how the entry of a reply says it that comes next
abbrev pub short_of : List Reason → List Reply → Reply → Short
short_of reasons told reply.Ok = short.Ok
short_of reasons told (reply.Refused reason) = short.Refused (length reasons)
short_of reasons told (reply.Read words) = short.Told (length told)
short_of reasons told (reply.Why why) = short.Told (length told)
short_of reasons told (reply.Seats seats) = short.Told (length told)

-- each entry's place is there, and there are no more reasons and no more told than entries, for which there is room
pub record AreKept (reasons : List Reason) (told : List Reply) (entries : List Entry) (room : ℕ) : Type 0 where
  pub places : All (λ e. IsShort reasons told e.short) entries
  pub reasons_few : length reasons ≤ length entries
  pub told_few : length told ≤ length entries
  pub within : length entries ≤ room
