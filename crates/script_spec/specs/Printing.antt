-- believed
-- The printed text of a script. This project's own profile: what is 0, kinds that do not occur and processors and
-- tools without lines are left out, the kinds of a work line stand in their declared order, and the order stands
-- on one line. A script with one PMU is printed in version one, every other one in version two.
use Rattle.std.specs.Prelude.{ℕ, ◌+◌, ◌≤◌, ◌==◌, List, [], ◌∷◌, ◌++◌, length, map, flat_map, slice_index_or, Option, Some, None, option_map, if◌then◌else◌}
use Rattle.std.specs.List.{join_with_byte}
use Rattle.perf_base.specs.declared.{numbers.{RingNo.{RingNo}, TaskNo.{TaskNo}}, attr.{Attr.{Attr}, Kind.{Kind}, TaskSel.{TaskSel}, CpuSel.{CpuSel}}}
use Rattle.perf_base.specs.declared.lines.{PmuLine.{PmuLine}, KindLine.{KindLine}, CpuLine.{CpuLine}, ToolLine.{ToolLine}, ReaderLine.{ReaderLine}}
use Rattle.perf_base.specs.{declared.acts.Act.{Act}, Kinds.{software_name}, Scripts.{Scripted, IsScript, IsCovered}, Weight.{weight}}
use Rattle.perf_base.specs.declared.attr.Kind.TheVariants as kind
use Rattle.perf_base.specs.declared.attr.TaskSel.TheVariants as tasks
use Rattle.perf_base.specs.declared.attr.CpuSel.TheVariants as cpus
use Rattle.perf_base.specs.declared.lines.CpuLine.TheVariants as cpu_line
use Rattle.perf_base.specs.declared.lines.ToolLine.TheVariants as tool_line
use Rattle.script_spec.specs.{Forms.{Hit, Asked, Form, form_words}, Texts.{StandsFor}}
use Rattle.script_spec.specs.Forms as form

-- 0 is the same as missing
abbrev pub some_of : ℕ → Option ℕ
some_of n = if n == 0 then None else Some n

-- ---- what is declared

-- the PMUs, numbered from n on
abbrev pub pmu_forms : ℕ → List PmuLine → List Form
pmu_forms n [] = []
pmu_forms n (p ∷ pmus) = form.Pmu n p.counters p.cpus.0 ∷ pmu_forms (n + 1) pmus

-- The version and the machine. The one PMU of version one is on all processors.
abbrev pub head_forms : ℕ → List PmuLine → List Form
head_forms n [] = form.Perf form.Two ∷ form.MachineOfPmus n ∷ []
head_forms n (p ∷ []) = form.Perf form.One ∷ form.Machine n p.counters ∷ []
head_forms n (p ∷ q ∷ pmus) = form.Perf form.Two ∷ form.MachineOfPmus n ∷ pmu_forms 0 (p ∷ q ∷ pmus)

-- a kind, in a script with a given number of PMUs
abbrev pub kind_form : ℕ → KindLine → Form
kind_form pmus k = if pmus == 1 then form.Kind k.name k.mask else form.KindOfPmu k.name k.pmu k.mask

abbrev pub task_form : TaskNo → Form
task_form t = form.Task t.0

abbrev pub ring_form : RingNo × ℕ → Form
ring_form r = form.Ring r.0.0 r.1

-- ---- lines of processors

-- the kinds that occur, in their declared order
abbrev pub hits_of : List KindLine → List ℕ → List Hit
hits_of [] ns = []
hits_of (k ∷ kinds) [] = []
hits_of (k ∷ kinds) (n ∷ ns) = if n == 0 then hits_of kinds ns else (record { name = k.name; times = n } ∷ hits_of kinds ns)

abbrev pub cpu_form : List KindLine → CpuLine → Form
cpu_form kinds (cpu_line.Switch to) = form.OnProcessor (form.Switch (option_map (λ t. t.0) to))
cpu_form kinds (cpu_line.Work w) = form.OnProcessor (form.Work (record { length = w.length; mode = w.mode; ip = some_of w.ip; hits = hits_of kinds w.hits }))
cpu_form kinds cpu_line.Tick = form.OnProcessor form.Tick
cpu_form kinds (cpu_line.Fork task) = form.OnProcessor (form.Fork task.0)
cpu_form kinds cpu_line.Exit = form.OnProcessor form.Exit

-- a processor with its lines; nothing where it has none
abbrev pub processor_forms : List KindLine → ℕ → List CpuLine → List Form
processor_forms kinds n [] = []
processor_forms kinds n (line ∷ lines) = form.Processor n ∷ map (cpu_form kinds) (line ∷ lines)

-- ---- lines of tools

-- a hardware kind has the name that it was declared with
abbrev pub kind_name : List KindLine → Kind → List ℕ
kind_name kinds (kind.Hard n) = slice_index_or (map (λ k. k.name) kinds) n []
kind_name kinds other = software_name other

abbrev pub task_number : TaskSel → Option ℕ
task_number tasks.All = None
task_number (tasks.One task) = Some task.0

abbrev pub cpu_number : CpuSel → Option ℕ
cpu_number cpus.Any = None
cpu_number (cpus.One cpu) = Some cpu.0

abbrev pub asked : Attr → Asked
asked a = record { period = some_of a.period; sample = some_of a.sample; format = some_of a.format; flags = some_of a.flags.0 }

-- A size and a leader are written wherever they are given, 0 too.
abbrev pub tool_form : List KindLine → ToolLine → Form
tool_form kinds (tool_line.Open slot attr leader) = form.OnTool (form.OpenKind (record { slot = slot.0; task = task_number attr.task; cpu = cpu_number attr.cpu; leader = option_map (λ e. e.0) leader }) (kind_name kinds attr.kind) (asked attr))
tool_form kinds (tool_line.Enable event group) = form.OnTool (form.Enable event.0 group)
tool_form kinds (tool_line.Disable event group) = form.OnTool (form.Disable event.0 group)
tool_form kinds (tool_line.Reset event group) = form.OnTool (form.Reset event.0 group)
tool_form kinds (tool_line.Period event period) = form.OnTool (form.Period event.0 period)
tool_form kinds (tool_line.Read event size) = form.OnTool (form.Read event.0 size)
tool_form kinds (tool_line.Map event ring) = form.OnTool (form.Map event.0 ring.0)
tool_form kinds (tool_line.Output event target) = form.OnTool (form.Output event.0 target.0)
tool_form kinds (tool_line.Close event) = form.OnTool (form.Close event.0)
tool_form kinds (tool_line.Why event) = form.OnTool (form.Why event.0)
tool_form kinds (tool_line.Seats cpu) = form.OnTool (form.Seats cpu.0)

-- a tool with its lines; nothing where it has none
abbrev pub tool_forms : List KindLine → ℕ → List ToolLine → List Form
tool_forms kinds n [] = []
tool_forms kinds n (line ∷ lines) = form.Tool n ∷ map (tool_form kinds) (line ∷ lines)

-- ---- readers, the order and the whole

abbrev pub reader_form : ReaderLine → Form
reader_form r = form.Reader r.ring.0 r.tries r.batch

abbrev pub order_forms : List Act → List Form
order_forms [] = []
order_forms (a ∷ acts) = form.Order (a ∷ acts) ∷ []

abbrev pub all_processor_forms : Scripted → List Form
all_processor_forms s = flat_map (λ p. processor_forms s.kinds p (slice_index_or s.cpu_lines p [])) (0 ∷ 1 ∷ 2 ∷ 3 ∷ 4 ∷ 5 ∷ 6 ∷ 7 ∷ [])

abbrev pub all_tool_forms : Scripted → List Form
all_tool_forms s = flat_map (λ t. tool_forms s.kinds t (slice_index_or s.tool_lines t [])) (0 ∷ 1 ∷ 2 ∷ 3 ∷ [])

-- the forms of the printed lines
unfoldable pub printed_forms : Scripted → List Form
printed_forms s =
    head_forms s.cpus s.pmus
    ++ (map (kind_form (length s.pmus)) s.kinds
    ++ (map task_form s.tasks
    ++ (map ring_form s.rings
    ++ (all_processor_forms s
    ++ (all_tool_forms s
    ++ (map reader_form s.readers
    ++ (order_forms s.order
    ++ (form.End ∷ []))))))))

-- a line: its words, one space between each two, and one LF at the end
abbrev pub line_text : Form → List ℕ
line_text f = join_with_byte 32 (form_words f) ++ 10 ∷ []

-- the printed text of a script
unfoldable pub printed : Scripted → List ℕ
printed s = flat_map line_text (printed_forms s)

-- ---- the law

-- The printed text of a script stands for that script: of each that can be built, whose processors are all of a
-- PMU, and that is not too heavy.
abbrev pub PrintingLaw : Type 0
PrintingLaw = (s : Scripted) → IsScript s → IsCovered s → weight s ≤ 65536 → StandsFor (printed s) s
