-- inner
-- What a machine keeps, which acts of a script lead to it, and what an act answers after them. This project's own
-- profile.
use Rattle.std.specs.Prelude.{◌≡◌, ℕ, ◌*◌, ◌<◌, List, [], ◌∷◌, length, option_map, Option, None, slice_get, slice_index_or}
use Rattle.perf_base.specs.declared.{acts.{Act.{Act}, Actor.{Actor}}, numbers.{CpuNo.{CpuNo}, ToolNo.{ToolNo}}, reply.Reply.{Reply}}
use Rattle.perf_base.specs.Scripts.{Scripted, lines_of_cpu, lines_of_tool}
use Rattle.perf_base.specs.declared.acts.Act.TheVariants as act
use Rattle.perf_base.specs.declared.acts.Actor.TheVariants as actor
use Rattle.stage_spec.specs.{Hardware.{hardware_of}, History.{Step, CpuStep, ToolStep, steps_of, history, opening_stage}}
use Rattle.stage_spec.specs.{Order.{IsCounted, done_by_cpu, done_by_tool}, Replies.{AreReplies}}
use Rattle.ring_spec.specs.{Rings.{IsLawfulOrder, lost_count}, Running.{Running, record_of}}
use Rattle.sample_ring.specs.RingLists.{OutList}
use Rattle.work_account.specs.Ends.{HaveAccounts}
use Rattle.world_spec.specs.{Agreement.{AgreesWith}, Value.{World, totals_at}}
use Rattle.machine.specs.{Stepped.{IsReady}, Totals.{AreUpTo}}

-- how many lines each processor and each tool has done, the events with what they have counted, and the ends of the
-- rings that send
pub record Kept : Type 0 where
  pub cpus : List ℕ
  pub tools : List ℕ
  pub world : World
  pub outs : OutList

-- It has a count for each of eight processors and four tools, and its world is ready for a line. No total of a
-- processor is above a thousand million for each line that the processor has done.
pub record IsWhole (m : Kept) : Type 0 where
  pub cpus : length m.cpus ≡ 8
  pub tools : length m.tools ≡ 4
  pub ready : IsReady m.world
  pub totals : (cpu : CpuNo) → AreUpTo (slice_index_or m.cpus cpu.0 0 * 1000000000) (totals_at m.world cpu)

-- the record of a script's acts: the stage that they leave, and what each event has counted
abbrev pub record_in : Scripted → List Act → Running
record_in s acts = record_of (hardware_of s) (opening_stage s) s.rings (history s acts)

-- These acts of a script lead to a machine: no actor did more lines than it has and each look at a ring is lawful, the
-- machine knows how many lines each did, its world agrees with their record, and its ends have the accounts of the
-- record's rings.
pub record LeadTo (s : Scripted) (acts : List Act) (m : Kept) : Type 0 where
  pub counted : IsCounted s acts
  pub lawful : IsLawfulOrder s acts
  pub cpus : (cpu : CpuNo) → slice_index_or m.cpus cpu.0 0 ≡ done_by_cpu cpu acts
  pub tools : (tool : ToolNo) → slice_index_or m.tools tool.0 0 ≡ done_by_tool tool acts
  pub hardware : m.world.hardware ≡ hardware_of s
  pub agrees : AgreesWith m.world (record_in s acts)
  pub ends : HaveAccounts m.outs (record_in s acts).rings

-- the machine was made for this script: some of its acts lead there
abbrev pub IsOf : Scripted → Kept → Type 0
IsOf s m = (acts : List Act) × LeadTo s acts m

-- how many lines an actor has done
abbrev pub done_by : Actor → Kept → ℕ
done_by (actor.Processor cpu) m = slice_index_or m.cpus cpu.0 0
done_by (actor.Tool tool) m = slice_index_or m.tools tool.0 0
done_by (actor.Reader ring) m = 0
done_by actor.Watcher m = 0

-- The actor is a processor or a tool that has done fewer lines than the script gives it.
abbrev pub HasLine : Scripted → Kept → Actor → Type 0
HasLine s m (actor.Processor cpu) = slice_index_or m.cpus cpu.0 0 < length (lines_of_cpu s cpu)
HasLine s m (actor.Tool tool) = slice_index_or m.tools tool.0 0 < length (lines_of_tool s tool)
HasLine s m (actor.Reader ring) = ⊥
HasLine s m actor.Watcher = ⊥

-- the line that an actor does next, as a step; readers and watchers do none
abbrev pub next_step : Scripted → Kept → Actor → Option Step
next_step s m (actor.Processor cpu) = option_map (CpuStep cpu) (slice_get (lines_of_cpu s cpu) (slice_index_or m.cpus cpu.0 0))
next_step s m (actor.Tool tool) = option_map ToolStep (slice_get (lines_of_tool s tool) (slice_index_or m.tools tool.0 0))
next_step s m (actor.Reader ring) = None
next_step s m actor.Watcher = None

-- the act that does an actor's next line; readers and watchers have no line, and what stands here for them does none
abbrev pub act_of : Actor → Act
act_of (actor.Processor cpu) = act.Processor cpu
act_of (actor.Tool tool) = act.Tool tool
act_of (actor.Reader ring) = act.Seen ring 0
act_of actor.Watcher = act.Seen (record { 0 = 0 }) 0

-- This is the reply to an act after the acts before it, by what a script's rings have lost until then.
abbrev pub IsReplyTo : Scripted → List Act → Act → Reply → Type 0
IsReplyTo s acts a reply =
    AreReplies (hardware_of s) (opening_stage s) (lost_count (hardware_of s) (opening_stage s) s.rings) (history s acts) (steps_of s acts a) (reply ∷ [])
