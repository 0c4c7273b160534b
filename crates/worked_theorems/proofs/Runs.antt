-- Worked cases of what a run leaves: orders whose looks stand as a run makes them and whose readers took their parts,
-- and their neighbours, each of them lawful and wrong in one thing.
use Rattle.std.{specs.Prelude.{List, [], ◌∷◌, ◌++◌, take, drop, None, codes, false}, proofs.Common.{arith, refl}}
use Rattle.perf_base.specs.{declared.{lines.ReaderLine.{ReaderLine}, acts.Act.{Act}}, Scripts.{Scripted}}
use Rattle.perf_base.specs.declared.attr.Kind.TheVariants as kind
use Rattle.perf_base.specs.declared.attr.TaskSel.TheVariants as tasks
use Rattle.perf_base.specs.declared.attr.CpuSel.TheVariants as cpus
use Rattle.perf_base.specs.declared.lines.Mode.TheVariants as mode
use Rattle.perf_base.specs.declared.lines.CpuLine.TheVariants as cpu_line
use Rattle.perf_base.specs.declared.lines.ToolLine.TheVariants as tool_line
use Rattle.worked_theorems.proofs.answers.Words.{cpu, slot, ring, by_cpu, by_tool, seen, pmu, kind_line, attr, work, reader, eight, four}
use Rattle.worked_theorems.proofs.{reports.Looking.{Walked}, Shapes.{IsOfRun, HasStrayLook, HasNoReadersPart, of_run, stray_look, no_readers_part}}

-- Two events, each with a ring of its own. Each of three stretches of work sends a record of 16 bytes to each ring.
abbrev watched : List ReaderLine → List Act → Scripted
watched readers order = record {
  cpus = 1;
  pmus = pmu 2 1 ∷ [];
  kinds = kind_line (codes "a") 0 3 ∷ [];
  tasks = [];
  rings = (ring 0, 64) ∷ (ring 1, 64) ∷ [];
  cpu_lines = eight ((
      cpu_line.Work (work 10 mode.User 171 (100 ∷ [])) ∷
      cpu_line.Work (work 10 mode.User 172 (100 ∷ [])) ∷
      cpu_line.Work (work 10 mode.User 173 (100 ∷ [])) ∷
      []) ∷ []);
  tool_lines = four ((
      tool_line.Open (slot 0) (attr (kind.Hard 0) tasks.All (cpus.One (cpu 0)) 100 1 0 0) None ∷
      tool_line.Map (slot 0) (ring 0) ∷
      tool_line.Open (slot 1) (attr (kind.Hard 0) tasks.All (cpus.One (cpu 0)) 100 1 0 0) None ∷
      tool_line.Map (slot 1) (ring 1) ∷
      tool_line.Reset (slot 0) false ∷
      []) ∷ []);
  readers = readers;
  order = order;
}

-- the first ring's reader takes one record at each of its two tries, the second's two at its one; or the first ring
-- alone has one
abbrev both_read : List ReaderLine
both_read = reader 0 2 1 ∷ reader 1 1 2 ∷ []

abbrev first_read : List ReaderLine
first_read = reader 0 2 1 ∷ []

-- the tool's acts up to the second map
abbrev mapped : List Act
mapped = by_tool 0 ∷ by_tool 0 ∷ by_tool 0 ∷ by_tool 0 ∷ []

-- Looks stand directly before a processor's act, by rising rings, and after all line acts.
abbrev looks_of_a_run : Scripted
looks_of_a_run = watched both_read (mapped ++ by_cpu 0 ∷ seen 0 16 ∷ seen 1 16 ∷ by_cpu 0 ∷ by_tool 0 ∷ by_cpu 0 ∷ seen 0 32 ∷ [])

looks_of_a_run-of_run : IsOfRun looks_of_a_run
unfolding Walked
looks_of_a_run-of_run = of_run looks_of_a_run refl refl (refl, (refl, (refl, (refl, (refl, (refl, (refl, (refl, (refl, (refl, (refl, refl)))))))))))

-- One look sees what two tries took, one each, and another what one try took, both as much as may be.
abbrev as_much_as_may_be : Scripted
as_much_as_may_be = watched both_read (mapped ++ by_cpu 0 ∷ by_cpu 0 ∷ by_tool 0 ∷ by_cpu 0 ∷ seen 0 32 ∷ seen 1 32 ∷ [])

as_much_as_may_be-of_run : IsOfRun as_much_as_may_be
unfolding Walked
as_much_as_may_be-of_run = of_run as_much_as_may_be refl refl (refl, (refl, (refl, (refl, (refl, (refl, (refl, (refl, (refl, (refl, refl))))))))))

-- Readers need not take anything.
abbrev nothing_taken : Scripted
nothing_taken = watched both_read (mapped ++ by_cpu 0 ∷ by_cpu 0 ∷ by_cpu 0 ∷ by_tool 0 ∷ [])

nothing_taken-of_run : IsOfRun nothing_taken
unfolding Walked
nothing_taken-of_run = of_run nothing_taken refl refl (refl, (refl, (refl, (refl, (refl, (refl, (refl, (refl, refl))))))))

-- A ring without a reader is not looked at.
abbrev ring_without_a_reader : Scripted
ring_without_a_reader = watched first_read (mapped ++ by_cpu 0 ∷ by_cpu 0 ∷ by_cpu 0 ∷ by_tool 0 ∷ seen 0 16 ∷ [])

ring_without_a_reader-of_run : IsOfRun ring_without_a_reader
unfolding Walked
ring_without_a_reader-of_run = of_run ring_without_a_reader refl refl (refl, (refl, (refl, (refl, (refl, (refl, (refl, (refl, (refl, refl)))))))))

-- A look stands before a tool's act.
abbrev look_before_a_tool : Scripted
look_before_a_tool = watched both_read (mapped ++ by_cpu 0 ∷ seen 0 16 ∷ by_tool 0 ∷ by_cpu 0 ∷ by_cpu 0 ∷ [])

look_before_a_tool-stray_look : HasStrayLook look_before_a_tool
unfolding Walked
look_before_a_tool-stray_look = stray_look look_before_a_tool refl
    (λ h. (h (take 5 look_before_a_tool.order) (drop 6 look_before_a_tool.order) (seen 0 16) refl).stands)
    (refl, (refl, (refl, (refl, (refl, (refl, (refl, (refl, (refl, refl)))))))))

-- So does the first of two looks.
abbrev looks_before_a_tool : Scripted
looks_before_a_tool = watched both_read (mapped ++ by_cpu 0 ∷ seen 0 16 ∷ seen 1 16 ∷ by_tool 0 ∷ by_cpu 0 ∷ by_cpu 0 ∷ [])

looks_before_a_tool-stray_look : HasStrayLook looks_before_a_tool
unfolding Walked
looks_before_a_tool-stray_look = stray_look looks_before_a_tool refl
    (λ h. (h (take 5 looks_before_a_tool.order) (drop 6 looks_before_a_tool.order) (seen 0 16) refl).stands)
    (refl, (refl, (refl, (refl, (refl, (refl, (refl, (refl, (refl, (refl, refl))))))))))

-- Within a block the rings fall.
abbrev rings_fall : Scripted
rings_fall = watched both_read (mapped ++ by_cpu 0 ∷ seen 1 16 ∷ seen 0 16 ∷ by_cpu 0 ∷ by_cpu 0 ∷ by_tool 0 ∷ [])

rings_fall-stray_look : HasStrayLook rings_fall
unfolding Walked
rings_fall-stray_look = stray_look rings_fall refl
    (λ h. omega (arith, (h (take 5 rings_fall.order) (drop 6 rings_fall.order) (seen 1 16) refl).rises))
    (refl, (refl, (refl, (refl, (refl, (refl, (refl, (refl, (refl, (refl, refl))))))))))

-- Within a block a ring is looked at twice.
abbrev ring_twice_in_a_block : Scripted
ring_twice_in_a_block = watched both_read (mapped ++ by_cpu 0 ∷ by_cpu 0 ∷ seen 0 16 ∷ seen 0 32 ∷ by_cpu 0 ∷ by_tool 0 ∷ [])

ring_twice_in_a_block-stray_look : HasStrayLook ring_twice_in_a_block
unfolding Walked
ring_twice_in_a_block-stray_look = stray_look ring_twice_in_a_block refl
    (λ h. omega (arith, (h (take 6 ring_twice_in_a_block.order) (drop 7 ring_twice_in_a_block.order) (seen 0 16) refl).rises))
    (refl, (refl, (refl, (refl, (refl, (refl, (refl, (refl, (refl, (refl, refl))))))))))

-- A place is seen twice.
abbrev place_seen_twice : Scripted
place_seen_twice = watched both_read (mapped ++ by_cpu 0 ∷ seen 0 16 ∷ by_cpu 0 ∷ seen 0 16 ∷ by_cpu 0 ∷ by_tool 0 ∷ [])

place_seen_twice-stray_look : HasStrayLook place_seen_twice
unfolding Walked
place_seen_twice-stray_look = stray_look place_seen_twice refl
    (λ h. omega (arith, (h (take 7 place_seen_twice.order) (drop 8 place_seen_twice.order) (seen 0 16) refl).above))
    (refl, (refl, (refl, (refl, (refl, (refl, (refl, (refl, (refl, (refl, refl))))))))))

-- The first look at a ring sees place 0.
abbrev place_0_seen : Scripted
place_0_seen = watched both_read (mapped ++ by_cpu 0 ∷ seen 0 0 ∷ by_cpu 0 ∷ by_cpu 0 ∷ by_tool 0 ∷ [])

place_0_seen-stray_look : HasStrayLook place_0_seen
unfolding Walked
place_0_seen-stray_look = stray_look place_0_seen refl
    (λ h. omega (arith, (h (take 5 place_0_seen.order) (drop 6 place_0_seen.order) (seen 0 0) refl).above))
    (refl, (refl, (refl, (refl, (refl, (refl, (refl, (refl, (refl, refl)))))))))

-- Three records are taken where two tries take one each.
abbrev one_record_too_many : Scripted
one_record_too_many = watched both_read (mapped ++ by_cpu 0 ∷ by_cpu 0 ∷ by_cpu 0 ∷ by_tool 0 ∷ seen 0 48 ∷ [])

one_record_too_many-no_readers_part : HasNoReadersPart one_record_too_many
unfolding Walked
one_record_too_many-no_readers_part = no_readers_part one_record_too_many refl refl (refl, (refl, (refl, (refl, (refl, (refl, (refl, (refl, (refl, refl)))))))))

-- They are taken one at a time.
abbrev one_try_too_many : Scripted
one_try_too_many = watched both_read (mapped ++ by_tool 0 ∷ by_cpu 0 ∷ seen 0 16 ∷ by_cpu 0 ∷ seen 0 32 ∷ by_cpu 0 ∷ seen 0 48 ∷ [])

one_try_too_many-no_readers_part : HasNoReadersPart one_try_too_many
unfolding Walked
one_try_too_many-no_readers_part = no_readers_part one_try_too_many refl refl (refl, (refl, (refl, (refl, (refl, (refl, (refl, (refl, (refl, (refl, (refl, refl)))))))))))

-- A ring without a reader is looked at.
abbrev look_without_a_reader : Scripted
look_without_a_reader = watched first_read (mapped ++ by_cpu 0 ∷ seen 1 16 ∷ by_cpu 0 ∷ by_cpu 0 ∷ by_tool 0 ∷ [])

look_without_a_reader-no_readers_part : HasNoReadersPart look_without_a_reader
unfolding Walked
look_without_a_reader-no_readers_part = no_readers_part look_without_a_reader refl refl (refl, (refl, (refl, (refl, (refl, (refl, (refl, (refl, (refl, refl)))))))))
