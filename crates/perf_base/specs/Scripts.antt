-- believed
-- What a script says, and which entries it may have. This project's own profile; the limits are its own.
use Rattle.std.specs.Prelude.{◌≡◌, ◌≢◌, ℕ, ◌+◌, ◌^◌, ◌<◌, ◌≤◌, ◌⊎◌, List, [], ◌∷◌, ◌++◌, length, drop, bit_and, codes, All, AllPairs, Any, IfSome, MatchOption, None, slice_get, slice_index_or, slice_set, sum_by, replicate}
use Rattle.perf_base.specs.declared.{numbers.{CpuNo.{CpuNo}, EventNo.{EventNo}, RingNo.{RingNo}, TaskNo.{TaskNo}, ToolNo.{ToolNo}}, attr.Attr.{Attr}}
use Rattle.perf_base.specs.declared.{attr.{Kind.{Kind}, TaskSel.{TaskSel}, CpuSel.{CpuSel}}, lines.{PmuLine.{PmuLine}, KindLine.{KindLine}}}
use Rattle.perf_base.specs.declared.{lines.{Work.{Work}, CpuLine.{CpuLine}, ToolLine.{ToolLine}, ReaderLine.{ReaderLine}}, acts.Act.{Act}}
use Rattle.perf_base.specs.{Cpus.{HasCpu}, Masks.{IsMask}, Kinds.{software_kind}}
use Rattle.perf_base.specs.declared.attr.Kind.TheVariants as kind
use Rattle.perf_base.specs.declared.attr.TaskSel.TheVariants as tasks
use Rattle.perf_base.specs.declared.attr.CpuSel.TheVariants as cpus
use Rattle.perf_base.specs.declared.lines.CpuLine.TheVariants as cpu_line
use Rattle.perf_base.specs.declared.lines.ToolLine.TheVariants as tool_line
use Rattle.perf_base.specs.declared.acts.Act.TheVariants as act

-- what a script says: its machine, its names, the lines of each processor and tool, its readers and its order
pub record Scripted : Type 0 where
  pub cpus : ℕ
  pub pmus : List PmuLine
  pub kinds : List KindLine
  pub tasks : List TaskNo
  pub rings : List (RingNo × ℕ)
  pub cpu_lines : List (List CpuLine)
  pub tool_lines : List (List ToolLine)
  pub readers : List ReaderLine
  pub order : List Act

-- a script that says how many processors there are, and nothing else
abbrev pub empty_script : ℕ → Scripted
empty_script n = record { cpus = n; pmus = []; kinds = []; tasks = []; rings = []; cpu_lines = replicate 8 []; tool_lines = replicate 4 []; readers = []; order = [] }

-- the lines of one processor, and of one tool
abbrev pub lines_of_cpu : Scripted → CpuNo → List CpuLine
lines_of_cpu s p = slice_index_or s.cpu_lines p.0 []

abbrev pub lines_of_tool : Scripted → ToolNo → List ToolLine
lines_of_tool s t = slice_index_or s.tool_lines t.0 []

-- how many lines there are under processors and tools
abbrev pub line_count : Scripted → ℕ
line_count s = sum_by length s.cpu_lines + sum_by length s.tool_lines

-- The script with one entry more at its end.
abbrev pub with_pmu : Scripted → PmuLine → Scripted
with_pmu s p = record s { pmus = s.pmus ++ p ∷ [] }

abbrev pub with_kind : Scripted → KindLine → Scripted
with_kind s k = record s { kinds = s.kinds ++ k ∷ [] }

abbrev pub with_task : Scripted → TaskNo → Scripted
with_task s t = record s { tasks = s.tasks ++ t ∷ [] }

abbrev pub with_ring : Scripted → RingNo × ℕ → Scripted
with_ring s r = record s { rings = s.rings ++ r ∷ [] }

abbrev pub with_cpu_line : Scripted → CpuNo → CpuLine → Scripted
with_cpu_line s p line = record s { cpu_lines = slice_set s.cpu_lines p.0 (lines_of_cpu s p ++ line ∷ []) }

abbrev pub with_tool_line : Scripted → ToolNo → ToolLine → Scripted
with_tool_line s t line = record s { tool_lines = slice_set s.tool_lines t.0 (lines_of_tool s t ++ line ∷ []) }

abbrev pub with_reader : Scripted → ReaderLine → Scripted
with_reader s r = record s { readers = s.readers ++ r ∷ [] }

abbrev pub with_act : Scripted → Act → Scripted
with_act s a = record s { order = s.order ++ a ∷ [] }

-- 1 to 16 counters, on some of the machine's processors
pub record IsPmuLine (n : ℕ) (p : PmuLine) : Type 0 where
  pub counters : (1 ≤ p.counters) × (p.counters ≤ 16)
  pub cpus : (0 < p.cpus.0) × (p.cpus.0 < 2 ^ n)

-- no processor is of both PMUs
abbrev pub AreApart : PmuLine → PmuLine → Type 0
AreApart p q = bit_and p.cpus.0 q.cpus.0 ≡ 0

-- a small letter, a digit or a dash
abbrev pub IsLetter : ℕ → Type 0
IsLetter b = (97 ≤ b) × (b ≤ 122)

abbrev pub IsNameByte : ℕ → Type 0
IsNameByte b = IsLetter b ⊎ (((48 ≤ b) × (b ≤ 57)) ⊎ (b ≡ 45))

-- a name begins with a small letter
abbrev pub IsName : List ℕ → Type 0
IsName [] = ⊥
IsName (b ∷ bs) = IsLetter b × All IsNameByte bs

-- no hardware kind is called so: the word of an instruction pointer, and the software kinds
pub record IsFreeName (name : List ℕ) : Type 0 where
  pub ip : name ≢ codes "ip"
  pub software : software_kind name ≡ None

-- a mask that names counters of a declared PMU
abbrev pub IsMaskOf : List PmuLine → ℕ → ℕ → Type 0
IsMaskOf pmus n mask = MatchOption (slice_get pmus n) ⊥ (λ p. IsMask p.counters mask)

pub record IsKindLine (pmus : List PmuLine) (k : KindLine) : Type 0 where
  pub name : IsName k.name
  pub length : length k.name ≤ 31
  pub free : IsFreeName k.name
  pub mask : IsMaskOf pmus k.pmu k.mask

-- a ring has a power of two from 64 to 65,536 as its bytes
abbrev pub IsRingSize : ℕ → Type 0
IsRingSize bytes = (e : ℕ) × (6 ≤ e) × (e ≤ 16) × (bytes ≡ 2 ^ e)

abbrev pub IsRingLine : RingNo × ℕ → Type 0
IsRingLine r = (r.0.0 < 16) × IsRingSize r.1

-- the ring is declared
abbrev pub HasRing : List (RingNo × ℕ) → RingNo → Type 0
HasRing rings ring = Any (λ r. r.0 ≡ ring) rings

-- lengths and occurrences are at most a thousand million, and only declared kinds occur
pub record IsWork (kinds : ℕ) (w : Work) : Type 0 where
  pub length : w.length ≤ 1000000000
  pub hits : All (λ n. n ≤ 1000000000) w.hits
  pub declared : All (λ n. n ≡ 0) (drop kinds w.hits)

abbrev pub IsCpuLine : ℕ → CpuLine → Type 0
IsCpuLine kinds (cpu_line.Switch to) = IfSome to (λ task. task.0 < 64)
IsCpuLine kinds (cpu_line.Work w) = IsWork kinds w
IsCpuLine kinds cpu_line.Tick = Unit {0}
IsCpuLine kinds (cpu_line.Fork task) = task.0 < 64
IsCpuLine kinds cpu_line.Exit = Unit {0}

abbrev pub IsKind : ℕ → Kind → Type 0
IsKind kinds (kind.Hard n) = n < kinds
IsKind kinds kind.ContextSwitches = Unit {0}
IsKind kinds kind.CpuMigrations = Unit {0}
IsKind kinds kind.TaskClock = Unit {0}
IsKind kinds kind.Dummy = Unit {0}

abbrev pub IsTaskSel : TaskSel → Type 0
IsTaskSel tasks.All = Unit {0}
IsTaskSel (tasks.One task) = task.0 < 64

abbrev pub IsCpuSel : ℕ → CpuSel → Type 0
IsCpuSel n cpus.Any = Unit {0}
IsCpuSel n (cpus.One cpu) = cpu.0 < n

-- any period and any bits may be asked for; an open may refuse them
pub record IsAttr (n kinds : ℕ) (a : Attr) : Type 0 where
  pub kind : IsKind kinds a.kind
  pub task : IsTaskSel a.task
  pub cpu : IsCpuSel n a.cpu
  pub flags : a.flags.0 < 128

abbrev pub IsSlot : EventNo → Type 0
IsSlot e = e.0 < 256

abbrev pub IsToolLine : ℕ → ℕ → List (RingNo × ℕ) → ToolLine → Type 0
IsToolLine n kinds rings (tool_line.Open slot attr leader) = IsSlot slot × IsAttr n kinds attr × IfSome leader IsSlot
IsToolLine n kinds rings (tool_line.Enable event group) = IsSlot event
IsToolLine n kinds rings (tool_line.Disable event group) = IsSlot event
IsToolLine n kinds rings (tool_line.Reset event group) = IsSlot event
IsToolLine n kinds rings (tool_line.Period event period) = IsSlot event
IsToolLine n kinds rings (tool_line.Read event size) = IsSlot event
IsToolLine n kinds rings (tool_line.Map event ring) = IsSlot event × HasRing rings ring
IsToolLine n kinds rings (tool_line.Output event target) = IsSlot event × IsSlot target
IsToolLine n kinds rings (tool_line.Close event) = IsSlot event
IsToolLine n kinds rings (tool_line.Why event) = IsSlot event
IsToolLine n kinds rings (tool_line.Seats cpu) = cpu.0 < n

pub record IsReaderLine (rings : List (RingNo × ℕ)) (r : ReaderLine) : Type 0 where
  pub ring : HasRing rings r.ring
  pub tries : (1 ≤ r.tries) × (r.tries ≤ 65536)
  pub batch : (1 ≤ r.batch) × (r.batch ≤ 1024)

-- What the types of a script's entries say: numbers have 64 bits, and a work line has sixteen occurrences.
abbrev pub IsWide : ℕ → Type 0
IsWide n = n < 2 ^ 64

abbrev pub IsStoredWork : CpuLine → Type 0
IsStoredWork (cpu_line.Switch to) = Unit {0}
IsStoredWork (cpu_line.Work w) = IsWide w.ip × (length w.hits ≡ 16)
IsStoredWork cpu_line.Tick = Unit {0}
IsStoredWork (cpu_line.Fork task) = Unit {0}
IsStoredWork cpu_line.Exit = Unit {0}

abbrev pub IsStoredToolLine : ToolLine → Type 0
IsStoredToolLine (tool_line.Open slot attr leader) = IsWide attr.period × IsWide attr.sample × IsWide attr.format
IsStoredToolLine (tool_line.Enable event group) = Unit {0}
IsStoredToolLine (tool_line.Disable event group) = Unit {0}
IsStoredToolLine (tool_line.Reset event group) = Unit {0}
IsStoredToolLine (tool_line.Period event period) = IsWide period
IsStoredToolLine (tool_line.Read event size) = IfSome size IsWide
IsStoredToolLine (tool_line.Map event ring) = Unit {0}
IsStoredToolLine (tool_line.Output event target) = Unit {0}
IsStoredToolLine (tool_line.Close event) = Unit {0}
IsStoredToolLine (tool_line.Why event) = Unit {0}
IsStoredToolLine (tool_line.Seats cpu) = Unit {0}

abbrev pub IsStoredAct : Act → Type 0
IsStoredAct (act.Processor cpu) = Unit {0}
IsStoredAct (act.Tool tool) = Unit {0}
IsStoredAct (act.Seen ring place) = IsWide place

pub record IsStored (s : Scripted) : Type 0 where
  pub cpu_lines : All (All IsStoredWork) s.cpu_lines
  pub tool_lines : All (All IsStoredToolLine) s.tool_lines
  pub order : All IsStoredAct s.order

-- an act is of a processor or tool that has lines, or names a declared ring
abbrev pub IsAct : Scripted → Act → Type 0
IsAct s (act.Processor cpu) = 0 < length (lines_of_cpu s cpu)
IsAct s (act.Tool tool) = 0 < length (lines_of_tool s tool)
IsAct s (act.Seen ring place) = HasRing s.rings ring

-- each entry in its ranges and of its type, each name declared once, each number that must rise above the one before
pub record IsScript (s : Scripted) : Type 0 where
  pub cpus : (1 ≤ s.cpus) × (s.cpus ≤ 8)
  pub pmus : All (IsPmuLine s.cpus) s.pmus
  pub pmus_apart : AllPairs AreApart s.pmus
  pub pmus_few : length s.pmus ≤ 4
  pub kinds : All (IsKindLine s.pmus) s.kinds
  pub kinds_once : AllPairs (λ j k. j.name ≢ k.name) s.kinds
  pub kinds_few : length s.kinds ≤ 16
  pub tasks : All (λ t. t.0 < 64) s.tasks
  pub tasks_rise : AllPairs (λ t u. t.0 < u.0) s.tasks
  pub rings : All IsRingLine s.rings
  pub rings_rise : AllPairs (λ q r. q.0.0 < r.0.0) s.rings
  pub processors : length s.cpu_lines ≡ 8
  pub cpu_lines : All (All (IsCpuLine (length s.kinds))) s.cpu_lines
  pub idle : All (λ lines. lines ≡ []) (drop s.cpus s.cpu_lines)
  pub tools : length s.tool_lines ≡ 4
  pub tool_lines : All (All (IsToolLine s.cpus (length s.kinds) s.rings)) s.tool_lines
  pub lines_few : line_count s ≤ 16384
  pub readers : All (IsReaderLine s.rings) s.readers
  pub readers_rise : AllPairs (λ q r. q.ring.0 < r.ring.0) s.readers
  pub order : All (IsAct s) s.order
  pub stored : IsStored s

-- each processor is of some PMU
abbrev pub IsCovered : Scripted → Type 0
IsCovered s = (cpu : CpuNo) → cpu.0 < s.cpus → Any (λ p. HasCpu p.cpus cpu) s.pmus
