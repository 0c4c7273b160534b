-- inner
-- What a command does to the instances that it reaches, key by key. After perf_event_for_each and
-- perf_event_for_each_child of kernel/events/core.c; the tables are this project's own profile.
use Rattle.std.specs.{Prelude.{ℕ, ◌<◌, ◌≤◌, Bool, List, All, flat_map}, List.{fold}}
use Rattle.perf_base.specs.declared.{lines.ToolLine.{ToolLine}, numbers.{EventNo.{EventNo}, Key.{Key}}, standing.Own.{Own}}
use Rattle.perf_base.specs.declared.lines.ToolLine.TheVariants as tool_line
use Rattle.perf_base.specs.declared.standing.Own.TheVariants as own
use Rattle.stage_spec.specs.Commands.{disabled, enabled}
use Rattle.world_spec.specs.{Changes.{set_own, reset_count}, Kept.{keys_of}, Value.{World, family_of}}
use Rattle.event_commands.specs.declared.changing.{Command.{Command}, Switch.{Switch}}
use Rattle.event_commands.specs.declared.changing.Command.TheVariants as command
use Rattle.event_commands.specs.declared.changing.Switch.TheVariants as switch

-- eight slots at most, each below 256
pub record AreSlots (used : ℕ) (events : List EventNo) : Type 0 where
  pub few : used ≤ 8
  pub low : All (λ event. event.0 < 256) events

-- what a switch does to an own state, and the state that it then is
abbrev pub switched : Switch → Own → Own
switched switch.On = enabled
switched switch.Off = disabled

abbrev pub state_of : Switch → Own
state_of switch.On = own.Ready
state_of switch.Off = own.Off

-- the line of a tool that asks for it
abbrev pub line_of : Switch → EventNo → Bool → ToolLine
line_of switch.On event group = tool_line.Enable event group
line_of switch.Off event group = tool_line.Disable event group

-- one instance is switched, or counts from 0 on again; and so some, one after the other
abbrev pub change : Command → World → Key → World
change (command.Switch switch) w k = set_own k (state_of switch) w
change command.Reset w k = reset_count k w

unfoldable pub changed : Command → List Key → World → World
changed c keys w = fold (change c) w keys

-- the keys of a family, its original first, and those of some families
abbrev pub family_keys : World → EventNo → List Key
family_keys w e = keys_of (family_of w e)

abbrev pub keys_named : World → List EventNo → List Key
keys_named w events = flat_map (family_keys w) events
