-- inner
-- What the state of the reader says of the forms of the lines so far. This project's own profile.
use Rattle.std.specs.Prelude.{◌≡◌, ℕ, Bool, true, false, ◌<◌, ◌≤◌, bit_or, List, [], ◌∷◌, length, All, Any, Option, option_map, IfSome}
use Rattle.perf_base.specs.declared.{numbers.{CpuNo.{CpuNo}, ToolNo.{ToolNo}}, lines.PmuLine.{PmuLine}}
use Rattle.script_spec.specs.{Forms.{Form}, Meaning.{cpus_in, pmus_in, processors_in, tools_in, last_of, script_of}, Faults.{section}}
use Rattle.script_spec.specs.Forms as form
use Rattle.script_read.specs.declared.state.{Section.{Section}, State.{State}}
use Rattle.script_read.specs.declared.state.Section.TheVariants as part

-- the place of a section among all
abbrev pub rank_of : Section → ℕ
rank_of part.Perf = 0
rank_of part.Machine = 1
rank_of part.Pmus = 2
rank_of part.Kinds = 3
rank_of part.Tasks = 4
rank_of part.Rings = 5
rank_of part.Processors = 6
rank_of part.Tools = 7
rank_of part.Readers = 8
rank_of part.Order = 9
rank_of part.End = 10

abbrev pub is_end : Section → Bool
is_end part.End = true
is_end other = false

-- the section of a form
abbrev pub part_of : Form → Section
part_of (form.Perf version) = part.Perf
part_of (form.Machine cpus counters) = part.Machine
part_of (form.MachineOfPmus cpus) = part.Machine
part_of (form.Pmu number counters cpus) = part.Pmus
part_of (form.Kind name mask) = part.Kinds
part_of (form.KindOfPmu name pmu mask) = part.Kinds
part_of (form.Task number) = part.Tasks
part_of (form.Ring number bytes) = part.Rings
part_of (form.Processor number) = part.Processors
part_of (form.OnProcessor line) = part.Processors
part_of (form.Tool number) = part.Tools
part_of (form.OnTool line) = part.Tools
part_of (form.Reader ring tries batch) = part.Readers
part_of (form.Order acts) = part.Order
part_of form.End = part.End

abbrev pub cpu_number : Option CpuNo → Option ℕ
cpu_number cpu = option_map (λ p. p.0) cpu

abbrev pub tool_number : Option ToolNo → Option ℕ
tool_number tool = option_map (λ t. t.0) tool

-- the processors of all PMUs, by bits
abbrev pub union_of : List PmuLine → ℕ
union_of [] = 0
union_of (p ∷ pmus) = bit_or p.cpus.0 (union_of pmus)

-- the last number is the greatest
abbrev pub IsGreatest : List ℕ → Option ℕ → Type 0
IsGreatest ns last = IfSome last (λ n. All (λ m. m ≤ n) ns)

-- The state is that behind lines of these forms, from the machine on.
pub record Follows (forms : List Form) (s : State) : Type 0 where
  pub two : 2 ≤ length forms
  pub script : s.script ≡ script_of forms
  pub highest : All (λ g. section g ≤ rank_of s.section) forms
  pub reached : Any (λ g. section g ≡ rank_of s.section) forms
  pub cpu : cpu_number s.cpu ≡ last_of (processors_in forms)
  pub cpus_rise : IsGreatest (processors_in forms) (last_of (processors_in forms))
  pub cpu_within : IfSome (last_of (processors_in forms)) (λ n. n < cpus_in forms)
  pub tool : tool_number s.tool ≡ last_of (tools_in forms)
  pub tools_rise : IsGreatest (tools_in forms) (last_of (tools_in forms))
  pub tool_within : IfSome (last_of (tools_in forms)) (λ n. n < 4)
  pub named : s.named.0 ≡ union_of (pmus_in forms)
