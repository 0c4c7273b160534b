-- Worked cases, written by tools/maintain/script_terms.py from texts and their reports.
use Rattle.std.specs.Prelude.{true, false, [], ◌∷◌, Some, None, codes}
use Rattle.std.proofs.Common.{refl}
use Rattle.perf_base.specs.declared.attr.Kind.TheVariants as kind
use Rattle.perf_base.specs.declared.attr.TaskSel.TheVariants as tasks
use Rattle.perf_base.specs.declared.attr.CpuSel.TheVariants as cpus
use Rattle.perf_base.specs.declared.lines.Mode.TheVariants as mode
use Rattle.perf_base.specs.declared.lines.CpuLine.TheVariants as cpu_line
use Rattle.perf_base.specs.declared.lines.ToolLine.TheVariants as tool_line
use Rattle.perf_base.specs.Scripts.{Scripted}
use Rattle.worked_theorems.proofs.answers.Words.{cpu, task, slot, ring, by_cpu, by_tool, seen, pmu, kind_line, attr, work, reader, eight, four}
use Rattle.worked_theorems.proofs.Unlawful.{IsUnlawfulLook}
use Rattle.worked_theorems.proofs.reports.Looking.{Walked, looked}

unlawful_004 : Scripted
unlawful_004 = record {
  cpus = 1;
  pmus = pmu 16 1 ∷ [];
  kinds = kind_line (codes "kernel") 0 16384 ∷ kind_line (codes "a") 0 8126 ∷ [];
  tasks = task 0 ∷ [];
  rings = (ring 2, 128) ∷ (ring 4, 1024) ∷ (ring 13, 64) ∷ [];
  cpu_lines = eight ((
      cpu_line.Switch None ∷
      cpu_line.Work (work 11 mode.User 4197560 (0 ∷ 0 ∷ [])) ∷
      cpu_line.Tick ∷
      cpu_line.Tick ∷
      cpu_line.Tick ∷
      cpu_line.Tick ∷
      cpu_line.Tick ∷
      cpu_line.Switch (Some (task 0)) ∷
      cpu_line.Work (work 3449 mode.User 1826527427230113592 (3 ∷ 4 ∷ [])) ∷
      cpu_line.Tick ∷
      cpu_line.Work (work 12 mode.User 17462831810567100152 (3 ∷ 2 ∷ [])) ∷
      cpu_line.Work (work 0 mode.Kernel 2495982291973228790 (2 ∷ 0 ∷ [])) ∷
      cpu_line.Tick ∷
      cpu_line.Exit ∷
      cpu_line.Work (work 0 mode.Kernel 12 (3 ∷ 3 ∷ [])) ∷
      cpu_line.Switch (Some (task 0)) ∷
      []) ∷ []);
  tool_lines = four ((
      tool_line.Read (slot 1) None ∷
      tool_line.Why (slot 1) ∷
      tool_line.Seats (cpu 0) ∷
      []) ∷ (
      tool_line.Open (slot 0) (attr (kind.Hard 1) (tasks.One (task 0)) cpus.Any 3 1 20 0) None ∷
      tool_line.Map (slot 0) (ring 2) ∷
      tool_line.Read (slot 0) None ∷
      tool_line.Open (slot 1) (attr (kind.Hard 1) tasks.All (cpus.One (cpu 0)) 0 66307 28 6) None ∷
      tool_line.Open (slot 33) (attr kind.CpuMigrations (tasks.One (task 0)) cpus.Any 0 65856 0 0) (Some (slot 0)) ∷
      tool_line.Read (slot 33) None ∷
      []) ∷ []);
  readers = reader 13 10 1 ∷ [];
  order = by_cpu 0 ∷ by_tool 1 ∷ by_cpu 0 ∷ by_tool 1 ∷ by_cpu 0 ∷ by_cpu 0 ∷ by_cpu 0 ∷ by_cpu 0 ∷ by_cpu 0 ∷ by_tool 1 ∷ by_cpu 0 ∷ by_tool 1 ∷
      by_cpu 0 ∷ by_tool 1 ∷ seen 2 8 ∷ by_cpu 0 ∷ by_cpu 0 ∷ by_cpu 0 ∷ seen 2 560 ∷ by_cpu 0 ∷ by_cpu 0 ∷ by_cpu 0 ∷ by_cpu 0 ∷ by_tool 0 ∷
      by_tool 0 ∷ by_tool 1 ∷ by_tool 0 ∷ [];
}

unlawful_004-unlawful : IsUnlawfulLook unlawful_004 14 (ring 2) 0 16 8
unfolding Walked unlawful_004
unlawful_004-unlawful = looked unlawful_004 14 (ring 2) 0 16 8 refl (refl, (refl, (refl, (refl, (refl, (refl, (refl, (refl, (refl, (refl, (refl, (refl, (refl, (refl, (refl, refl, refl)))))))))))))))

unlawful_009 : Scripted
unlawful_009 = record {
  cpus = 3;
  pmus = pmu 4 7 ∷ [];
  kinds = kind_line (codes "mx") 0 15 ∷ [];
  tasks = task 0 ∷ task 1 ∷ task 2 ∷ task 3 ∷ [];
  rings = (ring 9, 256) ∷ [];
  cpu_lines = eight ((
      cpu_line.Switch (Some (task 0)) ∷
      cpu_line.Work (work 14 mode.User 4197648 (1 ∷ [])) ∷
      cpu_line.Tick ∷
      cpu_line.Tick ∷
      cpu_line.Tick ∷
      cpu_line.Work (work 13 mode.User 14138504142476131327 (1 ∷ [])) ∷
      cpu_line.Work (work 2333 mode.Kernel 4194471 (0 ∷ [])) ∷
      cpu_line.Tick ∷
      cpu_line.Tick ∷
      cpu_line.Work (work 1 mode.User 15 (0 ∷ [])) ∷
      cpu_line.Work (work 11 mode.User 4198350 (0 ∷ [])) ∷
      cpu_line.Tick ∷
      []) ∷ (
      cpu_line.Tick ∷
      cpu_line.Work (work 0 mode.User 4195077 (0 ∷ [])) ∷
      cpu_line.Tick ∷
      cpu_line.Switch (Some (task 3)) ∷
      cpu_line.Fork (task 4) ∷
      cpu_line.Work (work 1 mode.User 4197639 (0 ∷ [])) ∷
      cpu_line.Tick ∷
      cpu_line.Tick ∷
      cpu_line.Work (work 8 mode.User 6474344686467809285 (0 ∷ [])) ∷
      cpu_line.Work (work 12 mode.User 6 (1 ∷ [])) ∷
      cpu_line.Switch (Some (task 3)) ∷
      cpu_line.Switch (Some (task 27)) ∷
      cpu_line.Switch (Some (task 5)) ∷
      []) ∷ (
      cpu_line.Tick ∷
      cpu_line.Switch (Some (task 2)) ∷
      cpu_line.Tick ∷
      cpu_line.Work (work 0 mode.User 4194309 (1 ∷ [])) ∷
      cpu_line.Tick ∷
      cpu_line.Tick ∷
      cpu_line.Switch (Some (task 4)) ∷
      cpu_line.Fork (task 5) ∷
      cpu_line.Tick ∷
      cpu_line.Fork (task 27) ∷
      cpu_line.Tick ∷
      cpu_line.Work (work 1 mode.User 0 (0 ∷ [])) ∷
      cpu_line.Tick ∷
      cpu_line.Work (work 577158095 mode.User 0 (0 ∷ [])) ∷
      cpu_line.Tick ∷
      cpu_line.Switch (Some (task 3)) ∷
      []) ∷ []);
  tool_lines = four ((
      tool_line.Map (slot 0) (ring 9) ∷
      tool_line.Open (slot 1) (attr (kind.Hard 0) (tasks.One (task 2)) cpus.Any 0 642 18 0) (Some (slot 0)) ∷
      tool_line.Why (slot 0) ∷
      tool_line.Seats (cpu 1) ∷
      tool_line.Open (slot 3) (attr kind.ContextSwitches (tasks.One (task 0)) cpus.Any 0 65671 29 0) None ∷
      tool_line.Open (slot 4) (attr (kind.Hard 0) (tasks.One (task 2)) cpus.Any 1 0 29 2) None ∷
      tool_line.Open (slot 179) (attr (kind.Hard 0) (tasks.One (task 3)) (cpus.One (cpu 0)) 0 452 4 18) None ∷
      tool_line.Open (slot 5) (attr (kind.Hard 0) tasks.All (cpus.One (cpu 2)) 0 576 3 33) None ∷
      tool_line.Output (slot 4) (slot 0) ∷
      tool_line.Enable (slot 1) false ∷
      tool_line.Close (slot 0) ∷
      tool_line.Read (slot 2) None ∷
      tool_line.Open (slot 7) (attr (kind.Hard 0) (tasks.One (task 27)) cpus.Any 0 65537 4 2) None ∷
      tool_line.Open (slot 8) (attr (kind.Hard 0) tasks.All (cpus.One (cpu 0)) 0 71 11 18) None ∷
      tool_line.Open (slot 9) (attr kind.ContextSwitches (tasks.One (task 0)) (cpus.One (cpu 2)) 0 65540 3 34) None ∷
      tool_line.Why (slot 3) ∷
      tool_line.Read (slot 5) None ∷
      tool_line.Why (slot 9) ∷
      tool_line.Read (slot 120) None ∷
      tool_line.Why (slot 120) ∷
      tool_line.Seats (cpu 1) ∷
      tool_line.Seats (cpu 2) ∷
      []) ∷ (
      tool_line.Open (slot 0) (attr (kind.Hard 0) (tasks.One (task 2)) cpus.Any 1 66177 19 32) None ∷
      tool_line.Why (slot 1) ∷
      tool_line.Open (slot 120) (attr (kind.Hard 0) (tasks.One (task 3)) (cpus.One (cpu 2)) 3 65795 23 2) None ∷
      tool_line.Open (slot 2) (attr (kind.Hard 0) tasks.All (cpus.One (cpu 0)) 0 66245 22 34) None ∷
      tool_line.Open (slot 6) (attr (kind.Hard 0) tasks.All (cpus.One (cpu 2)) 4 260 3 16) (Some (slot 5)) ∷
      tool_line.Read (slot 1) None ∷
      tool_line.Open (slot 165) (attr (kind.Hard 0) (tasks.One (task 3)) (cpus.One (cpu 0)) 0 65536 24 2) (Some (slot 179)) ∷
      tool_line.Read (slot 1) None ∷
      tool_line.Read (slot 2) None ∷
      tool_line.Why (slot 2) ∷
      tool_line.Read (slot 3) None ∷
      tool_line.Why (slot 4) ∷
      tool_line.Read (slot 6) None ∷
      tool_line.Why (slot 7) ∷
      tool_line.Read (slot 8) None ∷
      tool_line.Why (slot 8) ∷
      tool_line.Read (slot 9) None ∷
      tool_line.Read (slot 179) None ∷
      tool_line.Seats (cpu 0) ∷
      []) ∷ []);
  readers = reader 9 30 3 ∷ [];
  order = by_cpu 0 ∷ by_tool 1 ∷ by_tool 0 ∷ by_tool 0 ∷ by_tool 1 ∷ by_tool 0 ∷ by_cpu 1 ∷ by_cpu 1 ∷ by_cpu 0 ∷ by_tool 0 ∷ by_cpu 1 ∷ by_cpu 2 ∷
      by_cpu 1 ∷ by_tool 1 ∷ by_cpu 2 ∷ by_tool 1 ∷ by_cpu 2 ∷ by_cpu 2 ∷ by_tool 0 ∷ by_tool 0 ∷ seen 9 48 ∷ by_cpu 2 ∷ by_cpu 2 ∷ by_cpu 1 ∷
      by_cpu 1 ∷ by_cpu 1 ∷ by_cpu 1 ∷ by_cpu 0 ∷ by_cpu 1 ∷ by_cpu 2 ∷ by_tool 0 ∷ by_cpu 2 ∷ by_cpu 1 ∷ by_tool 0 ∷ by_cpu 2 ∷ by_tool 1 ∷
      by_cpu 2 ∷ by_tool 0 ∷ by_cpu 0 ∷ by_cpu 0 ∷ by_cpu 2 ∷ by_cpu 1 ∷ by_cpu 0 ∷ by_cpu 0 ∷ by_tool 1 ∷ seen 9 40 ∷ by_cpu 1 ∷ by_cpu 0 ∷
      by_tool 0 ∷ by_tool 0 ∷ seen 9 40 ∷ by_cpu 2 ∷ by_cpu 1 ∷ by_cpu 2 ∷ by_cpu 2 ∷ by_cpu 0 ∷ by_cpu 0 ∷ by_tool 0 ∷ by_tool 0 ∷ by_cpu 2 ∷
      by_cpu 0 ∷ by_tool 0 ∷ by_tool 1 ∷ by_cpu 2 ∷ by_tool 0 ∷ by_cpu 0 ∷ by_tool 1 ∷ by_tool 1 ∷ by_tool 1 ∷ by_tool 1 ∷ by_tool 0 ∷ by_tool 1 ∷
      by_tool 0 ∷ by_tool 1 ∷ by_tool 1 ∷ by_tool 1 ∷ by_tool 1 ∷ by_tool 1 ∷ by_tool 0 ∷ by_tool 0 ∷ by_tool 0 ∷ by_tool 1 ∷ by_tool 1 ∷ by_tool 0 ∷
      by_tool 0 ∷ [];
}

unlawful_009-unlawful : IsUnlawfulLook unlawful_009 20 (ring 9) 0 40 48
unfolding Walked unlawful_009
unlawful_009-unlawful = looked unlawful_009 20 (ring 9) 0 40 48 refl (refl, (refl, (refl, (refl, (refl, (refl, (refl, (refl, (refl, (refl, (refl, (refl, (refl, (refl, (refl, (refl, (refl, (refl, (refl, (refl, (refl, refl, refl)))))))))))))))))))))

unlawful_016 : Scripted
unlawful_016 = record {
  cpus = 1;
  pmus = pmu 3 1 ∷ [];
  kinds = kind_line (codes "instructions") 0 2 ∷ kind_line (codes "fvc5nmerg") 0 2 ∷ kind_line (codes "idle") 0 4 ∷ kind_line (codes "ipc") 0 1 ∷
      kind_line (codes "a") 0 7 ∷ kind_line (codes "misses") 0 7 ∷ kind_line (codes "m0k5ot6xs26piuknyfbenfnleeanw7g") 0 1 ∷
      kind_line (codes "sb7qp") 0 4 ∷ kind_line (codes "l1dtiaykj") 0 6 ∷ kind_line (codes "branches") 0 7 ∷ kind_line (codes "vl0xjd3") 0 4 ∷
      kind_line (codes "kcv92-n0fq") 0 4 ∷ kind_line (codes "d1k") 0 3 ∷ kind_line (codes "order") 0 1 ∷ kind_line (codes "mkr1gs") 0 7 ∷
      kind_line (codes "dummy-2") 0 7 ∷ [];
  tasks = [];
  rings = (ring 8, 128) ∷ [];
  cpu_lines = eight ((
      cpu_line.Work (work 1 mode.User 4198062 (0 ∷ 0 ∷ 0 ∷ 1 ∷ 1 ∷ 1 ∷ 1 ∷ 0 ∷ 0 ∷ 0 ∷ 1 ∷ 0 ∷ 1 ∷ 0 ∷ 0 ∷ 0 ∷ [])) ∷
      cpu_line.Work (work 125081852 mode.User 13 (0 ∷ 0 ∷ 1 ∷ 0 ∷ 0 ∷ 0 ∷ 0 ∷ 1 ∷ 0 ∷ 1 ∷ 0 ∷ 0 ∷ 0 ∷ 0 ∷ 0 ∷ 0 ∷ [])) ∷
      cpu_line.Work (work 7 mode.User 4195798 (1 ∷ 0 ∷ 0 ∷ 0 ∷ 1 ∷ 0 ∷ 0 ∷ 1 ∷ 0 ∷ 0 ∷ 0 ∷ 0 ∷ 0 ∷ 0 ∷ 0 ∷ 0 ∷ [])) ∷
      cpu_line.Work (work 8 mode.Kernel 4196128 (0 ∷ 0 ∷ 0 ∷ 0 ∷ 1 ∷ 1 ∷ 0 ∷ 0 ∷ 0 ∷ 0 ∷ 0 ∷ 18 ∷ 0 ∷ 0 ∷ 1 ∷ 0 ∷ [])) ∷
      cpu_line.Work (work 0 mode.User 4195363 (0 ∷ 0 ∷ 0 ∷ 0 ∷ 1 ∷ 0 ∷ 0 ∷ 0 ∷ 0 ∷ 0 ∷ 1 ∷ 1 ∷ 0 ∷ 0 ∷ 0 ∷ 0 ∷ [])) ∷
      cpu_line.Work (work 243265872 mode.Kernel 0 (0 ∷ 0 ∷ 0 ∷ 0 ∷ 0 ∷ 0 ∷ 0 ∷ 0 ∷ 0 ∷ 0 ∷ 0 ∷ 0 ∷ 0 ∷ 0 ∷ 0 ∷ 0 ∷ [])) ∷
      cpu_line.Switch None ∷
      cpu_line.Work (work 1000000000 mode.User 5 (0 ∷ 0 ∷ 0 ∷ 0 ∷ 0 ∷ 0 ∷ 0 ∷ 0 ∷ 0 ∷ 0 ∷ 1 ∷ 0 ∷ 1 ∷ 1 ∷ 0 ∷ 1 ∷ [])) ∷
      cpu_line.Work (work 0 mode.User 16346848705803033939 (0 ∷ 0 ∷ 0 ∷ 1 ∷ 0 ∷ 0 ∷ 1 ∷ 1 ∷ 1 ∷ 0 ∷ 0 ∷ 0 ∷ 0 ∷ 0 ∷ 0 ∷ 0 ∷ [])) ∷
      cpu_line.Switch (Some (task 61)) ∷
      cpu_line.Work (work 1 mode.Kernel 4195283 (0 ∷ 0 ∷ 0 ∷ 1 ∷ 0 ∷ 0 ∷ 0 ∷ 1 ∷ 1 ∷ 0 ∷ 1 ∷ 0 ∷ 0 ∷ 0 ∷ 0 ∷ 0 ∷ [])) ∷
      cpu_line.Tick ∷
      cpu_line.Work (work 1 mode.User 4 (1 ∷ 1 ∷ 0 ∷ 0 ∷ 0 ∷ 1 ∷ 0 ∷ 1 ∷ 0 ∷ 0 ∷ 0 ∷ 0 ∷ 0 ∷ 0 ∷ 0 ∷ 0 ∷ [])) ∷
      cpu_line.Work (work 20279831 mode.Kernel 4196021 (1 ∷ 0 ∷ 0 ∷ 0 ∷ 0 ∷ 0 ∷ 1 ∷ 0 ∷ 1 ∷ 1 ∷ 0 ∷ 0 ∷ 0 ∷ 0 ∷ 0 ∷ 0 ∷ [])) ∷
      cpu_line.Work (work 2060 mode.User 6548783763306692539 (0 ∷ 0 ∷ 0 ∷ 0 ∷ 0 ∷ 0 ∷ 0 ∷ 1 ∷ 1 ∷ 0 ∷ 0 ∷ 0 ∷ 0 ∷ 0 ∷ 1 ∷ 0 ∷ [])) ∷
      cpu_line.Work (work 1 mode.Kernel 15 (0 ∷ 1 ∷ 0 ∷ 0 ∷ 0 ∷ 0 ∷ 0 ∷ 0 ∷ 0 ∷ 0 ∷ 1 ∷ 0 ∷ 1 ∷ 1 ∷ 0 ∷ 0 ∷ [])) ∷
      cpu_line.Work (work 201419280 mode.User 0 (0 ∷ 0 ∷ 0 ∷ 1 ∷ 0 ∷ 0 ∷ 1 ∷ 1 ∷ 0 ∷ 1 ∷ 0 ∷ 0 ∷ 0 ∷ 0 ∷ 0 ∷ 0 ∷ [])) ∷
      cpu_line.Switch None ∷
      cpu_line.Work (work 853651661 mode.User 8747042696227753723 (1 ∷ 0 ∷ 0 ∷ 0 ∷ 1 ∷ 1 ∷ 0 ∷ 1 ∷ 1 ∷ 0 ∷ 0 ∷ 0 ∷ 0 ∷ 0 ∷ 0 ∷ 0 ∷ [])) ∷
      cpu_line.Switch None ∷
      cpu_line.Work (work 1 mode.User 8394646588171188211 (0 ∷ 0 ∷ 1 ∷ 0 ∷ 0 ∷ 0 ∷ 1 ∷ 0 ∷ 8 ∷ 0 ∷ 0 ∷ 0 ∷ 0 ∷ 1 ∷ 0 ∷ 1 ∷ [])) ∷
      cpu_line.Work (work 1 mode.User 0 (1 ∷ 0 ∷ 1 ∷ 0 ∷ 0 ∷ 1 ∷ 0 ∷ 0 ∷ 5 ∷ 0 ∷ 1 ∷ 1 ∷ 0 ∷ 0 ∷ 1 ∷ 1 ∷ [])) ∷
      cpu_line.Switch None ∷
      cpu_line.Work (work 1 mode.User 4195966 (0 ∷ 0 ∷ 0 ∷ 0 ∷ 1 ∷ 0 ∷ 0 ∷ 0 ∷ 0 ∷ 1 ∷ 1 ∷ 3 ∷ 0 ∷ 0 ∷ 1 ∷ 0 ∷ [])) ∷
      cpu_line.Tick ∷
      cpu_line.Work (work 1 mode.User 6 (0 ∷ 1 ∷ 0 ∷ 0 ∷ 0 ∷ 0 ∷ 0 ∷ 0 ∷ 3 ∷ 0 ∷ 0 ∷ 0 ∷ 0 ∷ 1 ∷ 0 ∷ 0 ∷ [])) ∷
      cpu_line.Work (work 1 mode.Kernel 4926563019192508151 (0 ∷ 0 ∷ 1 ∷ 0 ∷ 0 ∷ 0 ∷ 0 ∷ 1 ∷ 0 ∷ 0 ∷ 0 ∷ 0 ∷ 0 ∷ 0 ∷ 0 ∷ 0 ∷ [])) ∷
      cpu_line.Work (work 1000000000 mode.Kernel 2 (0 ∷ 0 ∷ 0 ∷ 1 ∷ 0 ∷ 1 ∷ 0 ∷ 0 ∷ 0 ∷ 0 ∷ 0 ∷ 0 ∷ 0 ∷ 1 ∷ 0 ∷ 1 ∷ [])) ∷
      cpu_line.Tick ∷
      cpu_line.Work (work 3 mode.User 4197737 (1 ∷ 0 ∷ 1 ∷ 1 ∷ 0 ∷ 0 ∷ 0 ∷ 0 ∷ 0 ∷ 0 ∷ 1 ∷ 0 ∷ 0 ∷ 0 ∷ 1 ∷ 0 ∷ [])) ∷
      cpu_line.Work (work 1 mode.User 12856008445813959282 (0 ∷ 0 ∷ 0 ∷ 0 ∷ 0 ∷ 0 ∷ 0 ∷ 0 ∷ 1 ∷ 0 ∷ 0 ∷ 0 ∷ 0 ∷ 0 ∷ 0 ∷ 0 ∷ [])) ∷
      cpu_line.Work (work 20 mode.Kernel 11672684695899069383 (1 ∷ 0 ∷ 0 ∷ 0 ∷ 1 ∷ 0 ∷ 0 ∷ 0 ∷ 0 ∷ 0 ∷ 0 ∷ 0 ∷ 0 ∷ 0 ∷ 0 ∷ 0 ∷ [])) ∷
      cpu_line.Work (work 1 mode.User 4196187 (0 ∷ 0 ∷ 0 ∷ 0 ∷ 0 ∷ 0 ∷ 0 ∷ 0 ∷ 0 ∷ 0 ∷ 0 ∷ 0 ∷ 0 ∷ 0 ∷ 0 ∷ 0 ∷ [])) ∷
      cpu_line.Tick ∷
      cpu_line.Work (work 4 mode.Kernel 2 (0 ∷ 0 ∷ 0 ∷ 0 ∷ 0 ∷ 0 ∷ 0 ∷ 0 ∷ 0 ∷ 0 ∷ 0 ∷ 0 ∷ 0 ∷ 0 ∷ 0 ∷ 0 ∷ [])) ∷
      cpu_line.Work (work 1 mode.User 12 (0 ∷ 0 ∷ 0 ∷ 0 ∷ 0 ∷ 0 ∷ 0 ∷ 0 ∷ 0 ∷ 0 ∷ 0 ∷ 0 ∷ 0 ∷ 0 ∷ 0 ∷ 0 ∷ [])) ∷
      cpu_line.Work (work 1950 mode.Kernel 4195079 (0 ∷ 0 ∷ 0 ∷ 0 ∷ 0 ∷ 0 ∷ 0 ∷ 0 ∷ 0 ∷ 0 ∷ 0 ∷ 0 ∷ 0 ∷ 0 ∷ 0 ∷ 0 ∷ [])) ∷
      cpu_line.Work (work 4 mode.Kernel 0 (0 ∷ 0 ∷ 0 ∷ 0 ∷ 0 ∷ 0 ∷ 0 ∷ 0 ∷ 0 ∷ 0 ∷ 0 ∷ 0 ∷ 0 ∷ 0 ∷ 0 ∷ 0 ∷ [])) ∷
      cpu_line.Work (work 1000000000 mode.User 4197094 (0 ∷ 0 ∷ 0 ∷ 0 ∷ 0 ∷ 0 ∷ 0 ∷ 0 ∷ 0 ∷ 0 ∷ 0 ∷ 0 ∷ 0 ∷ 0 ∷ 0 ∷ 0 ∷ [])) ∷
      cpu_line.Work (work 106 mode.User 4197440 (0 ∷ 0 ∷ 0 ∷ 0 ∷ 0 ∷ 0 ∷ 0 ∷ 0 ∷ 0 ∷ 0 ∷ 0 ∷ 0 ∷ 0 ∷ 0 ∷ 0 ∷ 0 ∷ [])) ∷
      cpu_line.Tick ∷
      cpu_line.Work (work 1 mode.Kernel 13828433443602538907 (0 ∷ 0 ∷ 0 ∷ 0 ∷ 0 ∷ 0 ∷ 0 ∷ 0 ∷ 0 ∷ 0 ∷ 0 ∷ 0 ∷ 0 ∷ 0 ∷ 0 ∷ 0 ∷ [])) ∷
      cpu_line.Work (work 0 mode.User 14 (0 ∷ 0 ∷ 0 ∷ 0 ∷ 0 ∷ 0 ∷ 0 ∷ 0 ∷ 0 ∷ 0 ∷ 0 ∷ 0 ∷ 0 ∷ 0 ∷ 0 ∷ 0 ∷ [])) ∷
      cpu_line.Work (work 0 mode.User 1997880630876933774 (0 ∷ 0 ∷ 0 ∷ 0 ∷ 0 ∷ 0 ∷ 0 ∷ 0 ∷ 0 ∷ 0 ∷ 0 ∷ 0 ∷ 0 ∷ 0 ∷ 0 ∷ 0 ∷ [])) ∷
      cpu_line.Tick ∷
      cpu_line.Work (work 2 mode.Kernel 4194878 (0 ∷ 0 ∷ 0 ∷ 0 ∷ 0 ∷ 0 ∷ 0 ∷ 0 ∷ 0 ∷ 0 ∷ 0 ∷ 0 ∷ 0 ∷ 0 ∷ 0 ∷ 0 ∷ [])) ∷
      cpu_line.Work (work 432599332 mode.User 0 (0 ∷ 0 ∷ 0 ∷ 0 ∷ 0 ∷ 0 ∷ 0 ∷ 0 ∷ 0 ∷ 0 ∷ 0 ∷ 0 ∷ 0 ∷ 0 ∷ 0 ∷ 0 ∷ [])) ∷
      cpu_line.Tick ∷
      cpu_line.Tick ∷
      []) ∷ []);
  tool_lines = four ((
      tool_line.Open (slot 182) (attr (kind.Hard 13) tasks.All (cpus.One (cpu 0)) 0 257 20 6) None ∷
      tool_line.Output (slot 182) (slot 182) ∷
      tool_line.Open (slot 0) (attr (kind.Hard 11) tasks.All (cpus.One (cpu 0)) 1 64 7 2) (Some (slot 182)) ∷
      tool_line.Map (slot 0) (ring 8) ∷
      tool_line.Disable (slot 182) false ∷
      tool_line.Read (slot 182) (Some 76) ∷
      tool_line.Read (slot 0) None ∷
      tool_line.Open (slot 1) (attr (kind.Hard 8) tasks.All (cpus.One (cpu 0)) 1 704 10 2) (Some (slot 182)) ∷
      tool_line.Output (slot 182) (slot 0) ∷
      tool_line.Seats (cpu 0) ∷
      tool_line.Open (slot 2) (attr (kind.Hard 2) tasks.All (cpus.One (cpu 0)) 1 768 16 0) (Some (slot 182)) ∷
      tool_line.Output (slot 182) (slot 0) ∷
      tool_line.Enable (slot 0) true ∷
      tool_line.Seats (cpu 0) ∷
      tool_line.Seats (cpu 0) ∷
      tool_line.Output (slot 1) (slot 182) ∷
      tool_line.Reset (slot 1) true ∷
      tool_line.Why (slot 182) ∷
      tool_line.Period (slot 1) 2 ∷
      tool_line.Read (slot 1) None ∷
      tool_line.Open (slot 2) (attr (kind.Hard 15) tasks.All (cpus.One (cpu 0)) 6 128 24 3) None ∷
      tool_line.Output (slot 2) (slot 1) ∷
      tool_line.Open (slot 3) (attr (kind.Hard 5) tasks.All (cpus.One (cpu 0)) 0 514 8 2) (Some (slot 2)) ∷
      tool_line.Open (slot 4) (attr (kind.Hard 6) tasks.All (cpus.One (cpu 0)) 1 65541 14 6) None ∷
      tool_line.Output (slot 4) (slot 2) ∷
      tool_line.Open (slot 5) (attr (kind.Hard 0) tasks.All (cpus.One (cpu 0)) 0 452 14 2) (Some (slot 2)) ∷
      tool_line.Open (slot 46) (attr (kind.Hard 10) tasks.All (cpus.One (cpu 0)) 0 65604 3 2) None ∷
      tool_line.Open (slot 161) (attr (kind.Hard 3) tasks.All (cpus.One (cpu 0)) 0 512 27 2) None ∷
      tool_line.Open (slot 6) (attr (kind.Hard 10) tasks.All (cpus.One (cpu 0)) 9 256 2 2) (Some (slot 4)) ∷
      tool_line.Output (slot 3) (slot 4) ∷
      tool_line.Read (slot 0) None ∷
      tool_line.Why (slot 0) ∷
      tool_line.Read (slot 1) None ∷
      tool_line.Why (slot 1) ∷
      tool_line.Read (slot 2) None ∷
      tool_line.Why (slot 2) ∷
      tool_line.Read (slot 3) None ∷
      tool_line.Why (slot 4) ∷
      tool_line.Read (slot 46) None ∷
      tool_line.Read (slot 161) None ∷
      tool_line.Seats (cpu 0) ∷
      []) ∷ []);
  readers = reader 8 29 1 ∷ [];
  order = by_tool 0 ∷ by_tool 0 ∷ by_cpu 0 ∷ by_tool 0 ∷ by_cpu 0 ∷ by_cpu 0 ∷ by_tool 0 ∷ by_cpu 0 ∷ by_tool 0 ∷ seen 8 96 ∷ by_cpu 0 ∷ by_tool 0 ∷
      seen 8 112 ∷ by_cpu 0 ∷ by_cpu 0 ∷ by_cpu 0 ∷ by_tool 0 ∷ by_cpu 0 ∷ by_cpu 0 ∷ by_cpu 0 ∷ by_tool 0 ∷ by_tool 0 ∷ seen 8 0 ∷ by_tool 0 ∷
      by_tool 0 ∷ by_cpu 0 ∷ by_tool 0 ∷ by_cpu 0 ∷ by_cpu 0 ∷ by_cpu 0 ∷ by_cpu 0 ∷ by_cpu 0 ∷ by_cpu 0 ∷ by_cpu 0 ∷ by_tool 0 ∷ by_cpu 0 ∷
      by_tool 0 ∷ by_tool 0 ∷ by_tool 0 ∷ by_cpu 0 ∷ by_cpu 0 ∷ by_cpu 0 ∷ by_cpu 0 ∷ seen 8 232 ∷ by_cpu 0 ∷ by_cpu 0 ∷ by_tool 0 ∷ seen 8 256 ∷
      by_cpu 0 ∷ by_cpu 0 ∷ by_cpu 0 ∷ by_cpu 0 ∷ by_tool 0 ∷ by_tool 0 ∷ by_tool 0 ∷ by_tool 0 ∷ by_cpu 0 ∷ by_cpu 0 ∷ by_tool 0 ∷ seen 8 320 ∷
      by_cpu 0 ∷ seen 8 352 ∷ by_tool 0 ∷ by_tool 0 ∷ by_cpu 0 ∷ by_cpu 0 ∷ by_tool 0 ∷ by_tool 0 ∷ by_tool 0 ∷ by_cpu 0 ∷ by_tool 0 ∷ by_cpu 0 ∷
      by_cpu 0 ∷ by_cpu 0 ∷ by_cpu 0 ∷ by_cpu 0 ∷ by_cpu 0 ∷ by_cpu 0 ∷ by_cpu 0 ∷ by_tool 0 ∷ by_cpu 0 ∷ by_cpu 0 ∷ by_cpu 0 ∷ by_tool 0 ∷
      by_cpu 0 ∷ by_cpu 0 ∷ by_tool 0 ∷ by_tool 0 ∷ by_tool 0 ∷ by_tool 0 ∷ by_tool 0 ∷ by_tool 0 ∷ by_tool 0 ∷ by_tool 0 ∷ by_tool 0 ∷ by_tool 0 ∷
      by_tool 0 ∷ [];
}

unlawful_016-unlawful : IsUnlawfulLook unlawful_016 22 (ring 8) 112 112 0
unfolding Walked unlawful_016
unlawful_016-unlawful = looked unlawful_016 22 (ring 8) 112 112 0 refl (refl, (refl, (refl, (refl, (refl, (refl, (refl, (refl, (refl, (refl, (refl, (refl, (refl, (refl, (refl, (refl, (refl, (refl, (refl, (refl, (refl, (refl, (refl, refl, refl)))))))))))))))))))))))

look_inside_a_record : Scripted
look_inside_a_record = record {
  cpus = 1;
  pmus = pmu 1 1 ∷ [];
  kinds = kind_line (codes "a") 0 1 ∷ [];
  tasks = [];
  rings = (ring 0, 64) ∷ [];
  cpu_lines = eight ((
      cpu_line.Work (work 1 mode.User 5 (4 ∷ [])) ∷
      cpu_line.Work (work 1 mode.User 5 (1 ∷ [])) ∷
      cpu_line.Work (work 1 mode.User 5 (1 ∷ [])) ∷
      []) ∷ []);
  tool_lines = four ((
      tool_line.Open (slot 0) (attr (kind.Hard 0) tasks.All (cpus.One (cpu 0)) 1 1 0 0) None ∷
      tool_line.Map (slot 0) (ring 0) ∷
      []) ∷ []);
  readers = [];
  order = by_tool 0 ∷ by_tool 0 ∷ by_cpu 0 ∷ seen 0 8 ∷ by_cpu 0 ∷ seen 0 48 ∷ by_cpu 0 ∷ [];
}

look_inside_a_record-unlawful : IsUnlawfulLook look_inside_a_record 3 (ring 0) 0 48 8
unfolding Walked look_inside_a_record
look_inside_a_record-unlawful = looked look_inside_a_record 3 (ring 0) 0 48 8 refl (refl, (refl, (refl, (refl, refl, refl))))
