-- believed
-- The script of N rounds: on four processors four tasks take turns and work, while one tool counts and samples
-- them from before the first round to after the last. It is a load to measure by, and this project's own.
use Rattle.std.specs.{Prelude.{ℕ, ◌+◌, ◌*◌, ◌%◌, List, [], ◌∷◌, ◌++◌, map, flat_map, replicate, Some, None, codes}, List.{range_with_len}}
use Rattle.perf_base.specs.declared.{numbers.{RingNo.{RingNo}, TaskNo.{TaskNo}}, attr.Attr.{Attr}, lines.{PmuLine.{PmuLine}, KindLine.{KindLine}}}
use Rattle.perf_base.specs.{declared.{lines.{CpuLine.{CpuLine}, ToolLine.{ToolLine}, ReaderLine.{ReaderLine}}, acts.Act.{Act}}, Scripts.{Scripted}}
use Rattle.perf_base.specs.declared.attr.Kind.TheVariants as kind
use Rattle.perf_base.specs.declared.attr.TaskSel.TheVariants as tasks
use Rattle.perf_base.specs.declared.attr.CpuSel.TheVariants as cpus
use Rattle.perf_base.specs.declared.lines.Mode.TheVariants as mode
use Rattle.perf_base.specs.declared.lines.CpuLine.TheVariants as cpu_line
use Rattle.perf_base.specs.declared.lines.ToolLine.TheVariants as tool_line
use Rattle.perf_base.specs.declared.acts.Act.TheVariants as act

-- one PMU, with three counters on each of the processors 0 to 3
abbrev pub made_pmus : List PmuLine
made_pmus = record { counters = 3; cpus = record { 0 = 15 } } ∷ []

-- the kinds, and the counters that can count each: 0 to 2, 0 to 2, 0 and 1, 2
abbrev pub made_kinds : List KindLine
made_kinds =
    record { name = codes "cycles"; pmu = 0; mask = 7 } ∷
    record { name = codes "instructions"; pmu = 0; mask = 7 } ∷
    record { name = codes "branches"; pmu = 0; mask = 3 } ∷
    record { name = codes "misses"; pmu = 0; mask = 4 } ∷ []

-- what f gives for each number below a limit; and where it gives lists, these one after the other
abbrev pub for_each : {X : Type 0} → ℕ → (ℕ → X) → List X
for_each n f = map f (range_with_len 0 n)

abbrev pub for_each_all : {X : Type 0} → ℕ → (ℕ → List X) → List X
for_each_all n f = flat_map f (range_with_len 0 n)

-- a task, a ring of 4096 bytes with its number, and the reader of that ring
abbrev pub made_task : ℕ → TaskNo
made_task t = record { 0 = t }

abbrev pub made_ring : ℕ → RingNo × ℕ
made_ring r = (record { 0 = r }, 4096)

abbrev pub made_reader : ℕ → ReaderLine
made_reader r = record { ring = record { 0 = r }; tries = 64; batch = 16 }

-- how often each kind occurs while a processor works in a round: cycles, instructions, branches and misses
abbrev pub made_hits : ℕ → ℕ → List ℕ
made_hits p i = (2000 + 500 * ((p + i) % 8)) ∷ 3000 ∷ 700 ∷ 40 ∷ replicate 12 0

-- what a processor does in a round: one of the tasks works there, and then the processor is idle
abbrev pub round_lines : ℕ → ℕ → List CpuLine
round_lines p i =
    cpu_line.Switch (Some (record { 0 = (p + i) % 4 })) ∷
    cpu_line.Work (record { length = 1000; mode = mode.User; ip = 4096 + i; hits = made_hits p i }) ∷
    cpu_line.Tick ∷
    cpu_line.Switch None ∷ []

-- what a processor does in a number of rounds
abbrev pub processor_lines : ℕ → ℕ → List CpuLine
processor_lines n p = for_each_all n (round_lines p)

-- an event that samples the cycles of all tasks on one processor, with its ring: each sample has the ip, the task and
-- the time, and a read has the two times and the lost count
abbrev pub sampling_lines : ℕ → List ToolLine
sampling_lines p =
    tool_line.Open (record { 0 = p }) (record {
      kind = kind.Hard 0;
      task = tasks.All;
      cpu = cpus.One (record { 0 = p });
      period = 10000;
      sample = 7;
      format = 19;
      flags = record { 0 = 0 };
    }) None ∷
    tool_line.Map (record { 0 = p }) (record { 0 = p }) ∷ []

-- an event that counts a kind of one task on any processor, with its times
abbrev pub counted : ℕ → ℕ → Attr
counted k t = record { kind = kind.Hard k; task = tasks.One (record { 0 = t }); cpu = cpus.Any; period = 0; sample = 0; format = 3; flags = record { 0 = 0 } }

-- the events of one task: its instructions and branches in a group, and its misses
abbrev pub counting_lines : ℕ → List ToolLine
counting_lines t =
    tool_line.Open (record { 0 = 4 + t }) (counted 1 t) None ∷
    tool_line.Open (record { 0 = 8 + t }) (counted 2 t) (Some (record { 0 = 4 + t })) ∷
    tool_line.Open (record { 0 = 12 + t }) (counted 3 t) None ∷ []

-- a read of an event, whole
abbrev pub read_line : ℕ → ToolLine
read_line e = tool_line.Read (record { 0 = e }) None

-- what the tool does before the rounds, and after them
abbrev pub first_lines : List ToolLine
first_lines = for_each_all 4 sampling_lines ++ for_each_all 4 counting_lines

abbrev pub last_lines : List ToolLine
last_lines = for_each 16 read_line

-- the processors in turn, each with one line
abbrev pub all_processors : List Act
all_processors = for_each 4 (λ p. act.Processor (record { 0 = p }))

-- the tool opens its events, then the processors do their lines in turn, and the tool reads its events
abbrev pub made_order : ℕ → List Act
made_order n =
    replicate 20 (act.Tool (record { 0 = 0 })) ++
    for_each_all (4 * n) (λ line. all_processors) ++
    replicate 16 (act.Tool (record { 0 = 0 }))

-- the script of N rounds; what is proved of it stands in Laws
unfoldable pub script_of_rounds : ℕ → Scripted
script_of_rounds n = record {
  cpus = 4;
  pmus = made_pmus;
  kinds = made_kinds;
  tasks = for_each 4 made_task;
  rings = for_each 4 made_ring;
  cpu_lines = for_each 4 (processor_lines n) ++ replicate 4 [];
  tool_lines = (first_lines ++ last_lines) ∷ replicate 3 [];
  readers = for_each 4 made_reader;
  order = made_order n;
}
