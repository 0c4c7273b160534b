-- inner
-- What a book keeps: a script, the acts that were done of it, in their order, with the answers to them, and the machine
-- that they lead to. This project's own profile.
use Rattle.std.specs.Prelude.{◌≡◌, ℕ, ◌+◌, ◌*◌, ◌<◌, ◌≤◌, ⊤, List, [], count_by, length, sum_by}
use Rattle.perf_base.specs.{declared.{acts.{Act.{Act}, Actor.{Actor}}, reply.Answer.{Answer}}, Scripts.{Scripted, IsCovered, IsScript, line_count}}
use Rattle.perf_base.specs.Weight.{weight}
use Rattle.perf_base.specs.declared.acts.Act.TheVariants as act
use Rattle.perf_base.specs.declared.acts.Actor.TheVariants as actor
use Rattle.machine.specs.Leading.{Kept, LeadTo}
use Rattle.report_spec.specs.Answers.{IsAnswered}
use Rattle.ring_laws.specs.Growing.{AreLooks, is_cpu_act, is_look}

-- the script, the machine, the order, and the answer to each line that was done, with its actor and its number among
-- that actor's lines, from 0
pub record Booked : Type 0 where
  pub script : Scripted
  pub machine : Kept
  pub order : List Act
  pub answers : List Answer

-- The script's processors are of PMUs, it is not too heavy, its order leads to the machine and has these answers, and
-- there are no more looks than the script's own order may have and 16 for each act of a processor.
pub record IsBooked (b : Booked) : Type 0 where
  pub script : IsScript b.script
  pub covered : IsCovered b.script
  pub light : weight b.script ≤ 65536
  pub led : LeadTo b.script b.order b.machine
  pub answered : IsAnswered b.script b.order b.answers
  pub looks : count_by is_look b.order ≤ length b.script.order + 16 * count_by is_cpu_act b.order

-- A look at a ring is one of at most as many as the script's own order has acts. A line asks nothing.
abbrev pub MayAct : Act → Booked → Type 0
MayAct (act.Processor cpu) b = ⊤
MayAct (act.Tool tool) b = ⊤
MayAct (act.Seen ring place) b = count_by is_look b.order < length b.script.order

-- the room that all acts of a script need: those of its own order, a line each and 16 looks for each line of a
-- processor, and 16 looks at the end
abbrev pub most_acts : Scripted → ℕ
most_acts s = length s.order + 16 * sum_by length s.cpu_lines + line_count s + 16

-- Lists have room for all acts of a script, for the answers to its lines and one more, and for what its rings come to.
pub record HasRoomFor (s : Scripted) (order_room answer_room end_room : ℕ) : Type 0 where
  pub order : most_acts s ≤ order_room
  pub answers : line_count s < answer_room
  pub ends : length s.rings ≤ end_room

-- The looks that an actor makes before its line: a processor sees the tails of rings, a tool sees none.
abbrev pub AreLooksOf : Actor → (before looks : List Act) → Type 0
AreLooksOf (actor.Processor cpu) before looks = AreLooks 0 before looks
AreLooksOf (actor.Tool tool) before looks = looks ≡ []
AreLooksOf (actor.Reader ring) before looks = looks ≡ []
AreLooksOf actor.Watcher before looks = looks ≡ []

-- how often an actor loads the tail of each ring before its line
abbrev pub loads_by : Actor → ℕ
loads_by (actor.Processor cpu) = 1
loads_by (actor.Tool tool) = 0
loads_by (actor.Reader ring) = 0
loads_by actor.Watcher = 0
