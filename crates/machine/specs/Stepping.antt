-- inner
-- What an act of a replay answers, and for what it is refused. This project's own profile.
use Rattle.std.specs.Prelude.{◌≡◌, ℕ, ⊤, List, Option, None}
use Rattle.perf_base.specs.{declared.{acts.Act.{Act}, numbers.RingNo.{RingNo}, reply.Reply.{Reply}}, Scripts.{Scripted, HasRing}}
use Rattle.perf_base.specs.declared.acts.Act.TheVariants as act
use Rattle.perf_base.specs.declared.acts.Actor.TheVariants as actor
use Rattle.perf_base.specs.declared.reply.Reply.TheVariants as reply
use Rattle.ring_spec.specs.{Account.{head_of}, Rings.{account_in, bytes_of, sizes_in}}
use Rattle.stage_spec.specs.History.{Step}
use Rattle.stage_spec.specs.Order.{IsLawfulSeen, last_seen}
use Rattle.sample_ring.specs.RingLists.{InList}
use Rattle.machine.specs.Leading.{Kept, HasLine, IsReplyTo, next_step}

-- a look names a ring of the script
abbrev pub NamesRing : Scripted → Act → Type 0
NamesRing s (act.Processor cpu) = ⊤
NamesRing s (act.Tool tool) = ⊤
NamesRing s (act.Seen ring place) = HasRing s.rings ring

-- a line leaves the readers as they were
abbrev pub LeavesReaders : Act → (before after : InList) → Type 0
LeavesReaders (act.Processor cpu) before after = after ≡ before
LeavesReaders (act.Tool tool) before after = after ≡ before
LeavesReaders (act.Seen ring place) before after = ⊤

-- the line that an act does, as a step; a look does none
abbrev pub step_by : Scripted → Kept → Act → Option Step
step_by s m (act.Processor cpu) = next_step s m (actor.Processor cpu)
step_by s m (act.Tool tool) = next_step s m (actor.Tool tool)
step_by s m (act.Seen ring place) = None

-- the act is of a processor or a tool that has done all its lines
abbrev pub HasNoLine : Scripted → Kept → Act → Type 0
HasNoLine s m (act.Processor cpu) = HasLine s m (actor.Processor cpu) → ⊥
HasNoLine s m (act.Tool tool) = HasLine s m (actor.Tool tool) → ⊥
HasNoLine s m (act.Seen ring place) = ⊥

-- A look at a place that is not lawful after some acts: there a ring's tail was seen last at `last`, and its head is
-- `head`.
pub record IsUnlawful (s : Scripted) (acts : List Act) (ring : RingNo) (last head given : ℕ) : Type 0 where
  pub seen_last : last ≡ last_seen ring acts
  pub headed : head ≡ head_of (account_in s acts (ring, bytes_of s ring))
  pub unlawful : IsLawfulSeen (sizes_in s acts ring) last given → ⊥

-- the reply to the line of an act, and Ok to a look
abbrev pub IsAnswerTo : Scripted → List Act → Act → Reply → Type 0
IsAnswerTo s acts (act.Processor cpu) r = IsReplyTo s acts (act.Processor cpu) r
IsAnswerTo s acts (act.Tool tool) r = IsReplyTo s acts (act.Tool tool) r
IsAnswerTo s acts (act.Seen ring place) r = r ≡ reply.Ok
