-- believed
-- The script that the forms of a text say: each part is read off the whole list of forms. This project's own
-- profile.
use Rattle.std.specs.Prelude.{ℕ, ◌-◌, ◌^◌, ◌==◌, Bool, false, List, [], ◌∷◌, ◌++◌, length, map, filter_map, flat_map, position, replicate, slice_get, slice_index, Option, Some, None, option_map, unwrap_or, if◌then◌else◌}
use Rattle.std.specs.{Option.{option_or}, Str.{bytes_eq}}
use Rattle.perf_base.specs.FlatMaps.{flat_map_after}
use Rattle.perf_base.specs.declared.{numbers.{EventNo.{EventNo}, RingNo.{RingNo}, TaskNo.{TaskNo}}, attr.{Attr.{Attr}, Kind.{Kind}}}
use Rattle.perf_base.specs.declared.{attr.{TaskSel.{TaskSel}, CpuSel.{CpuSel}}, lines.{PmuLine.{PmuLine}, KindLine.{KindLine}, CpuLine.{CpuLine}}}
use Rattle.perf_base.specs.{declared.{lines.{ToolLine.{ToolLine}, ReaderLine.{ReaderLine}}, acts.Act.{Act}}, Scripts.{Scripted}}
use Rattle.perf_base.specs.Kinds.{software_kind}
use Rattle.perf_base.specs.declared.attr.Kind.TheVariants as kind
use Rattle.perf_base.specs.declared.attr.TaskSel.TheVariants as tasks
use Rattle.perf_base.specs.declared.attr.CpuSel.TheVariants as cpus
use Rattle.perf_base.specs.declared.lines.CpuLine.TheVariants as cpu_line
use Rattle.perf_base.specs.declared.lines.ToolLine.TheVariants as tool_line
use Rattle.attr_bytes.specs.{Layout.{type_in, config_in, sample_period_in, sample_type_in, read_format_in, flag_word_in}, Kinds.{kind_numbered}}
use Rattle.attr_bytes.specs.Flags.{flags_of_word}
use Rattle.script_spec.specs.Forms.{Hit, CpuForm, ToolForm, Opening, Form}
use Rattle.script_spec.specs.Forms as form

-- ---- what a single form declares

abbrev pub machine_cpus : Form → Option ℕ
machine_cpus (form.Machine cpus counters) = Some cpus
machine_cpus (form.MachineOfPmus cpus) = Some cpus
machine_cpus other = None

-- a machine without PMUs of its own has one, on all its processors
abbrev pub pmu_said : Form → Option PmuLine
pmu_said (form.Machine cpus counters) = Some (record { counters = counters; cpus = record { 0 = 2 ^ cpus - 1 } })
pmu_said (form.Pmu number counters cpus) = Some (record { counters = counters; cpus = record { 0 = cpus } })
pmu_said other = None

abbrev pub kind_said : Form → Option KindLine
kind_said (form.Kind name mask) = Some (record { name = name; pmu = 0; mask = mask })
kind_said (form.KindOfPmu name pmu mask) = Some (record { name = name; pmu = pmu; mask = mask })
kind_said other = None

abbrev pub task_said : Form → Option TaskNo
task_said (form.Task number) = Some (record { 0 = number })
task_said other = None

abbrev pub ring_said : Form → Option (RingNo × ℕ)
ring_said (form.Ring number bytes) = Some (record { 0 = number }, bytes)
ring_said other = None

abbrev pub processor_said : Form → Option ℕ
processor_said (form.Processor number) = Some number
processor_said other = None

abbrev pub tool_said : Form → Option ℕ
tool_said (form.Tool number) = Some number
tool_said other = None

abbrev pub reader_said : Form → Option ReaderLine
reader_said (form.Reader ring tries batch) = Some (record { ring = record { 0 = ring }; tries = tries; batch = batch })
reader_said other = None

abbrev pub acts_said : Form → List Act
acts_said (form.Order acts) = acts
acts_said other = []

-- ---- what the forms of a text declare, each in its order

-- the processors of the machine, and 0 where none is declared
abbrev pub cpus_in : List Form → ℕ
cpus_in forms = slice_index (filter_map machine_cpus forms) 0

abbrev pub pmus_in : List Form → List PmuLine
pmus_in forms = filter_map pmu_said forms

abbrev pub kinds_in : List Form → List KindLine
kinds_in forms = filter_map kind_said forms

abbrev pub tasks_in : List Form → List TaskNo
tasks_in forms = filter_map task_said forms

abbrev pub rings_in : List Form → List (RingNo × ℕ)
rings_in forms = filter_map ring_said forms

-- the numbers of the lines `processor` and of the lines `tool`
abbrev pub processors_in : List Form → List ℕ
processors_in forms = filter_map processor_said forms

abbrev pub tools_in : List Form → List ℕ
tools_in forms = filter_map tool_said forms

abbrev pub readers_in : List Form → List ReaderLine
readers_in forms = filter_map reader_said forms

abbrev pub acts_in : List Form → List Act
acts_in forms = flat_map acts_said forms

-- ---- kinds

-- the number of a declared kind
abbrev pub number_of : List KindLine → List ℕ → Option ℕ
number_of kinds name = position (λ k. bytes_eq k.name name) kinds

-- the kind that is called so, if one is
abbrev pub kind_named : List KindLine → List ℕ → Option Kind
kind_named kinds name = option_or (option_map kind.Hard (number_of kinds name)) (software_kind name)

-- the kind of an attribute's bytes
abbrev pub kind_of_bytes : List KindLine → List ℕ → Option Kind
kind_of_bytes kinds bytes = kind_numbered (length kinds) (type_in bytes) (config_in bytes)

-- ---- lines

-- how often the kind of this name occurs: 0 where it does not stand there
abbrev pub times_of : List Hit → List ℕ → ℕ
times_of [] name = 0
times_of (h ∷ hits) name = if bytes_eq h.name name then h.times else times_of hits name

-- the occurrences of all sixteen kinds that there can be, 0 for those that are not named or not declared
abbrev pub occurrences : List KindLine → List Hit → List ℕ
occurrences kinds hits = map (λ k. times_of hits k.name) kinds ++ replicate (16 - length kinds) 0

-- what is missing is 0
abbrev pub or_zero : Option ℕ → ℕ
or_zero n = unwrap_or n 0

abbrev pub cpu_line_of : List KindLine → CpuForm → CpuLine
cpu_line_of kinds (form.Switch task) = cpu_line.Switch (option_map (λ n. record { 0 = n }) task)
cpu_line_of kinds (form.Work w) = cpu_line.Work (record { length = w.length; mode = w.mode; ip = or_zero w.ip; hits = occurrences kinds w.hits })
cpu_line_of kinds form.Tick = cpu_line.Tick
cpu_line_of kinds (form.Fork task) = cpu_line.Fork (record { 0 = task })
cpu_line_of kinds form.Exit = cpu_line.Exit

abbrev pub slot : ℕ → EventNo
slot n = record { 0 = n }

abbrev pub task_sel : Option ℕ → TaskSel
task_sel None = tasks.All
task_sel (Some n) = tasks.One (record { 0 = n })

abbrev pub cpu_sel : Option ℕ → CpuSel
cpu_sel None = cpus.Any
cpu_sel (Some n) = cpus.One (record { 0 = n })

-- an open with the attribute that is opened so, of this kind
abbrev pub open_line : Opening → (Kind → Attr) → Kind → ToolLine
open_line p attr k = tool_line.Open (slot p.slot) (attr k) (option_map slot p.leader)

abbrev pub asked_attr : Opening → form.Asked → Kind → Attr
asked_attr p a k = record {
  kind = k;
  task = task_sel p.task;
  cpu = cpu_sel p.cpu;
  period = or_zero a.period;
  sample = or_zero a.sample;
  format = or_zero a.format;
  flags = record { 0 = or_zero a.flags };
}

-- the attribute that the bytes stand for
abbrev pub bytes_attr : Opening → List ℕ → Kind → Attr
bytes_attr p bytes k = record {
  kind = k;
  task = task_sel p.task;
  cpu = cpu_sel p.cpu;
  period = sample_period_in bytes;
  sample = sample_type_in bytes;
  format = read_format_in bytes;
  flags = record { 0 = flags_of_word (flag_word_in bytes) };
}

-- the line that a form under a tool says; none where an open's kind is not known
abbrev pub tool_line_of : List KindLine → ToolForm → Option ToolLine
tool_line_of kinds (form.OpenKind p name a) = option_map (open_line p (asked_attr p a)) (kind_named kinds name)
tool_line_of kinds (form.OpenAttr p bytes) = option_map (open_line p (bytes_attr p bytes)) (kind_of_bytes kinds bytes)
tool_line_of kinds (form.Enable event group) = Some (tool_line.Enable (slot event) group)
tool_line_of kinds (form.Disable event group) = Some (tool_line.Disable (slot event) group)
tool_line_of kinds (form.Reset event group) = Some (tool_line.Reset (slot event) group)
tool_line_of kinds (form.Period event period) = Some (tool_line.Period (slot event) period)
tool_line_of kinds (form.Read event size) = Some (tool_line.Read (slot event) size)
tool_line_of kinds (form.Map event ring) = Some (tool_line.Map (slot event) (record { 0 = ring }))
tool_line_of kinds (form.Output event target) = Some (tool_line.Output (slot event) (slot target))
tool_line_of kinds (form.Close event) = Some (tool_line.Close (slot event))
tool_line_of kinds (form.Why event) = Some (tool_line.Why (slot event))
tool_line_of kinds (form.Seats cpu) = Some (tool_line.Seats (record { 0 = cpu }))

-- the last number, if there is one
abbrev pub last_of : List ℕ → Option ℕ
last_of ns = slice_get ns (length ns - 1)

abbrev pub is_number : Option ℕ → ℕ → Bool
is_number None n = false
is_number (Some m) n = m == n

-- A form under a processor is a line of the one whose header is the last before it, and so for tools.
abbrev pub cpu_line_at : ℕ → List Form × Form → Option CpuLine
cpu_line_at cpu (before, form.OnProcessor line) = if is_number (last_of (processors_in before)) cpu then Some (cpu_line_of (kinds_in before) line) else None
cpu_line_at cpu (before, other) = None

abbrev pub tool_line_at : ℕ → List Form × Form → Option ToolLine
tool_line_at tool (before, form.OnTool line) = if is_number (last_of (tools_in before)) tool then tool_line_of (kinds_in before) line else None
tool_line_at tool (before, other) = None

-- each form beside those before it
abbrev pub each_behind : List Form → List Form → List (List Form × Form)
each_behind before forms = flat_map_after (λ earlier f. (earlier, f) ∷ []) before forms

abbrev pub cpu_lines_in : List Form → ℕ → List CpuLine
cpu_lines_in forms cpu = filter_map (cpu_line_at cpu) (each_behind [] forms)

abbrev pub tool_lines_in : List Form → ℕ → List ToolLine
tool_lines_in forms tool = filter_map (tool_line_at tool) (each_behind [] forms)

-- the script that the forms say
unfoldable pub script_of : List Form → Scripted
script_of forms = record {
  cpus = cpus_in forms;
  pmus = pmus_in forms;
  kinds = kinds_in forms;
  tasks = tasks_in forms;
  rings = rings_in forms;
  cpu_lines = map (cpu_lines_in forms) (0 ∷ 1 ∷ 2 ∷ 3 ∷ 4 ∷ 5 ∷ 6 ∷ 7 ∷ []);
  tool_lines = map (tool_lines_in forms) (0 ∷ 1 ∷ 2 ∷ 3 ∷ []);
  readers = readers_in forms;
  order = acts_in forms;
}
