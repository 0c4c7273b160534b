-- Short words for the terms of worked cases.
use Rattle.std.specs.Prelude.{ℕ, ◌-◌, List, [], ◌++◌, map, length, replicate}
use Rattle.perf_base.specs.declared.{numbers.{CpuNo.{CpuNo}, EventNo.{EventNo}, RingNo.{RingNo}, TaskNo.{TaskNo}}, attr.{Attr.{Attr}, Kind.{Kind}}}
use Rattle.perf_base.specs.declared.{attr.{TaskSel.{TaskSel}, CpuSel.{CpuSel}}, lines.{PmuLine.{PmuLine}, KindLine.{KindLine}, Mode.{Mode}}}
use Rattle.perf_base.specs.declared.{lines.{Work.{Work}, ReaderLine.{ReaderLine}}, acts.Act.{Act}}
use Rattle.perf_base.specs.declared.acts.Act.TheVariants as act

abbrev pub cpu : ℕ → CpuNo
cpu n = record { 0 = n }

abbrev pub task : ℕ → TaskNo
task n = record { 0 = n }

abbrev pub slot : ℕ → EventNo
slot n = record { 0 = n }

abbrev pub slots : List ℕ → List EventNo
slots numbers = map slot numbers

abbrev pub ring : ℕ → RingNo
ring n = record { 0 = n }

-- the acts of a processor, of a tool, and of a look at a ring
abbrev pub by_cpu : ℕ → Act
by_cpu n = act.Processor (cpu n)

abbrev pub by_tool : ℕ → Act
by_tool n = act.Tool (record { 0 = n })

abbrev pub seen : (number place : ℕ) → Act
seen number place = act.Seen (ring number) place

-- so many counters on the processors of a set
abbrev pub pmu : (counters cpus : ℕ) → PmuLine
pmu counters cpus = record { counters = counters; cpus = record { 0 = cpus } }

-- a hardware kind, its PMU, and the counters that can count it
abbrev pub kind_line : (name : List ℕ) → (number mask : ℕ) → KindLine
kind_line name number mask = record { name = name; pmu = number; mask = mask }

abbrev pub attr : Kind → TaskSel → CpuSel → (period sample format flags : ℕ) → Attr
attr kind task cpu period sample format flags =
    record { kind = kind; task = task; cpu = cpu; period = period; sample = sample; format = format; flags = record { 0 = flags } }

-- the list with entries like one behind it, so that there are so many
abbrev filled : {X : Type 0} → ℕ → X → List X → List X
filled room filling xs = xs ++ replicate (room - length xs) filling

abbrev pub eight : {X : Type 0} → List (List X) → List (List X)
eight lists = filled 8 [] lists

abbrev pub four : {X : Type 0} → List (List X) → List (List X)
four lists = filled 4 [] lists

-- so long a stretch of work with the occurrences of the first kinds; the other kinds have none
abbrev pub work : ℕ → Mode → ℕ → List ℕ → Work
work length mode ip hits = record { length = length; mode = mode; ip = ip; hits = filled 16 0 hits }

abbrev pub reader : (number tries batch : ℕ) → ReaderLine
reader number tries batch = record { ring = ring number; tries = tries; batch = batch }
