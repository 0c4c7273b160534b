-- A script with one entry more keeps its ranges, its names and its limits.
use Rattle.std.specs.Prelude.{◌≡◌, ◌≢◌, ℕ, ◌+◌, ◌<◌, ◌≤◌, List, [], ◌∷◌, ◌++◌, length, drop, All, AllPairs, sum_by, replicate}
use Rattle.std.proofs.Common.{get_or-set_same, get_or-set_other, zero, suc, arith, refl, ◌∙◌, get_or, set, length-set, ◌≢◌}
use Rattle.std.proofs.lemmas.List.{get_or_append_left, length_push, drop-set-lt, drop-drop}
use Rattle.std.proofs.lemmas.List.{Elements.{All-replicate, All-push, All-weaker, All-set, All-drop}, Quantifiers.{all_pairs_push}, Sums.{sum_by-set}}
use Rattle.perf_base.specs.declared.{numbers.{CpuNo.{CpuNo}, RingNo.{RingNo}, TaskNo.{TaskNo}, ToolNo.{ToolNo}}, attr.Kind.{Kind}}
use Rattle.perf_base.specs.declared.lines.{PmuLine.{PmuLine}, KindLine.{KindLine}, CpuLine.{CpuLine}, ToolLine.{ToolLine}, ReaderLine.{ReaderLine}}
use Rattle.perf_base.specs.declared.acts.Act.{Act}
use Rattle.perf_base.specs.Scripts.{Scripted, IsScript, empty_script, lines_of_cpu, lines_of_tool, line_count, with_pmu, with_kind, with_ring, with_cpu_line, with_tool_line, with_reader, IsPmuLine, AreApart, IsKindLine, IsMaskOf, IsRingLine, HasRing, IsKind, IsCpuLine, IsToolLine, IsReaderLine, IsAct, IsStoredWork, IsStoredToolLine, IsStoredAct}
use Rattle.perf_base.specs.declared.attr.Kind.TheVariants as kind
use Rattle.perf_base.specs.declared.lines.CpuLine.TheVariants as cpu_line
use Rattle.perf_base.specs.declared.lines.ToolLine.TheVariants as tool_line
use Rattle.perf_base.specs.declared.acts.Act.TheVariants as act

pub IsMaskOf-append : (pmus more : List PmuLine) (n mask : ℕ) → IsMaskOf pmus n mask → IsMaskOf (pmus ++ more) n mask
IsMaskOf-append [] more n mask h = absurd h
IsMaskOf-append (p ∷ pmus) more zero mask h = h
IsMaskOf-append (p ∷ pmus) more (suc n) mask h = IsMaskOf-append pmus more n mask h

pub HasRing-push : (rings : List (RingNo × ℕ)) (new : RingNo × ℕ) (ring : RingNo) → HasRing rings ring → HasRing (rings ++ new ∷ []) ring
HasRing-push rings new ring h = grind (arith, length_push, get_or_append_left)

pub All-drop_more : {X : Type 0} (P : X → Type 0) (n : ℕ) (xs : List X) → All P (drop n xs) → All P (drop (n + 1) xs)
All-drop_more P n xs h = rw (← drop-drop 1 n xs) (All-drop P 1 (drop n xs) h)

pub IsCpuLine-more : (kinds : ℕ) (line : CpuLine) → IsCpuLine kinds line → IsCpuLine (kinds + 1) line
IsCpuLine-more kinds (cpu_line.Switch to) h = h
IsCpuLine-more kinds (cpu_line.Work w) h = record { length = h.length; hits = h.hits; declared = All-drop_more (λ n. n ≡ 0) kinds w.hits h.declared }
IsCpuLine-more kinds cpu_line.Tick h = h
IsCpuLine-more kinds (cpu_line.Fork task) h = h
IsCpuLine-more kinds cpu_line.Exit h = h

pub IsKind-more : (kinds : ℕ) (k : Kind) → IsKind kinds k → IsKind (kinds + 1) k
IsKind-more kinds (kind.Hard n) h = omega arith
IsKind-more kinds kind.ContextSwitches h = h
IsKind-more kinds kind.CpuMigrations h = h
IsKind-more kinds kind.TaskClock h = h
IsKind-more kinds kind.Dummy h = h

pub IsToolLine-more : (n kinds : ℕ) (rings : List (RingNo × ℕ)) (line : ToolLine) → IsToolLine n kinds rings line → IsToolLine n (kinds + 1) rings line
IsToolLine-more n kinds rings (tool_line.Open slot attr leader) h = (h.0, record { kind = IsKind-more kinds attr.kind h.1.kind; task = h.1.task; cpu = h.1.cpu; flags = h.1.flags }, h.2)
IsToolLine-more n kinds rings (tool_line.Enable event group) h = h
IsToolLine-more n kinds rings (tool_line.Disable event group) h = h
IsToolLine-more n kinds rings (tool_line.Reset event group) h = h
IsToolLine-more n kinds rings (tool_line.Period event period) h = h
IsToolLine-more n kinds rings (tool_line.Read event size) h = h
IsToolLine-more n kinds rings (tool_line.Map event ring) h = h
IsToolLine-more n kinds rings (tool_line.Output event target) h = h
IsToolLine-more n kinds rings (tool_line.Close event) h = h
IsToolLine-more n kinds rings (tool_line.Why event) h = h
IsToolLine-more n kinds rings (tool_line.Seats cpu) h = h

pub IsToolLine-ring : (n kinds : ℕ) (rings : List (RingNo × ℕ)) (new : RingNo × ℕ) (line : ToolLine) → IsToolLine n kinds rings line → IsToolLine n kinds (rings ++ new ∷ []) line
IsToolLine-ring n kinds rings new (tool_line.Open slot attr leader) h = h
IsToolLine-ring n kinds rings new (tool_line.Enable event group) h = h
IsToolLine-ring n kinds rings new (tool_line.Disable event group) h = h
IsToolLine-ring n kinds rings new (tool_line.Reset event group) h = h
IsToolLine-ring n kinds rings new (tool_line.Period event period) h = h
IsToolLine-ring n kinds rings new (tool_line.Read event size) h = h
IsToolLine-ring n kinds rings new (tool_line.Map event ring) h = (h.0, HasRing-push rings new ring h.1)
IsToolLine-ring n kinds rings new (tool_line.Output event target) h = h
IsToolLine-ring n kinds rings new (tool_line.Close event) h = h
IsToolLine-ring n kinds rings new (tool_line.Why event) h = h
IsToolLine-ring n kinds rings new (tool_line.Seats cpu) h = h

pub All-none : {X : Type 0} (P : X → Type 0) → All P []
All-none P k d l = absurd (omega arith)

pub AllPairs-none : {X : Type 0} (R : X → X → Type 0) → AllPairs R []
AllPairs-none R i j d l m = absurd (omega arith)

pub IsScript-empty : (n : ℕ) → 1 ≤ n → n ≤ 8 → IsScript (empty_script n)
IsScript-empty n low high = record {
  cpus = (low, high);
  pmus = All-none (IsPmuLine n);
  pmus_apart = AllPairs-none AreApart;
  pmus_few = omega arith;
  kinds = All-none (IsKindLine []);
  kinds_once = AllPairs-none (λ (j k : KindLine). j.name ≢ k.name);
  kinds_few = omega arith;
  tasks = All-none (λ (t : TaskNo). t.0 < 64);
  tasks_rise = AllPairs-none (λ (t u : TaskNo). t.0 < u.0);
  rings = All-none IsRingLine;
  rings_rise = AllPairs-none (λ (q r : RingNo × ℕ). q.0.0 < r.0.0);
  processors = refl;
  cpu_lines = All-replicate (All (IsCpuLine 0)) 8 [] (All-none (IsCpuLine 0));
  idle = All-drop (λ lines. lines ≡ []) n (replicate 8 []) (All-replicate (λ (lines : List CpuLine). lines ≡ []) 8 [] refl);
  tools = refl;
  tool_lines = All-replicate (All (IsToolLine n 0 [])) 4 [] (All-none (IsToolLine n 0 []));
  lines_few = omega arith;
  readers = All-none (IsReaderLine []);
  readers_rise = AllPairs-none (λ (q r : ReaderLine). q.ring.0 < r.ring.0);
  order = All-none (IsAct (empty_script n));
  stored = record {
    cpu_lines = All-replicate (All IsStoredWork) 8 [] (All-none IsStoredWork);
    tool_lines = All-replicate (All IsStoredToolLine) 4 [] (All-none IsStoredToolLine);
    order = All-none IsStoredAct;
  };
}

pub IsScript-pmu : (s : Scripted) (p : PmuLine) → IsScript s → IsPmuLine s.cpus p → All (λ q. AreApart q p) s.pmus → length s.pmus < 4 → IsScript (with_pmu s p)
IsScript-pmu s p h line apart few = record {
  cpus = h.cpus;
  pmus = All-push (IsPmuLine s.cpus) s.pmus p h.pmus line;
  pmus_apart = all_pairs_push AreApart s.pmus p h.pmus_apart apart;
  pmus_few = omega (arith, length_push s.pmus p);
  kinds = All-weaker (IsKindLine s.pmus) (IsKindLine (s.pmus ++ p ∷ [])) (λ k g. record { name = g.name; length = g.length; free = g.free; mask = IsMaskOf-append s.pmus (p ∷ []) k.pmu k.mask g.mask }) s.kinds h.kinds;
  kinds_once = h.kinds_once;
  kinds_few = h.kinds_few;
  tasks = h.tasks;
  tasks_rise = h.tasks_rise;
  rings = h.rings;
  rings_rise = h.rings_rise;
  processors = h.processors;
  cpu_lines = h.cpu_lines;
  idle = h.idle;
  tools = h.tools;
  tool_lines = h.tool_lines;
  lines_few = h.lines_few;
  readers = h.readers;
  readers_rise = h.readers_rise;
  order = h.order;
  stored = record { cpu_lines = h.stored.cpu_lines; tool_lines = h.stored.tool_lines; order = h.stored.order };
}

pub IsScript-kind : (s : Scripted) (k : KindLine) → IsScript s → IsKindLine s.pmus k → All (λ j. j.name ≢ k.name) s.kinds → length s.kinds < 16 → IsScript (with_kind s k)
IsScript-kind s k h line once few =
    let n : length (s.kinds ++ k ∷ []) ≡ length s.kinds + 1 = length_push s.kinds k in
    record {
      cpus = h.cpus;
      pmus = h.pmus;
      pmus_apart = h.pmus_apart;
      pmus_few = h.pmus_few;
      kinds = All-push (IsKindLine s.pmus) s.kinds k h.kinds line;
      kinds_once = all_pairs_push (λ j k. j.name ≢ k.name) s.kinds k h.kinds_once once;
      kinds_few = omega arith;
      tasks = h.tasks;
      tasks_rise = h.tasks_rise;
      rings = h.rings;
      rings_rise = h.rings_rise;
      processors = h.processors;
      cpu_lines = rw n (All-weaker (All (IsCpuLine (length s.kinds))) (All (IsCpuLine (length s.kinds + 1))) (λ lines. All-weaker (IsCpuLine (length s.kinds)) (IsCpuLine (length s.kinds + 1)) (IsCpuLine-more (length s.kinds)) lines) s.cpu_lines h.cpu_lines);
      idle = h.idle;
      tools = h.tools;
      tool_lines = rw n (All-weaker (All (IsToolLine s.cpus (length s.kinds) s.rings)) (All (IsToolLine s.cpus (length s.kinds + 1) s.rings)) (λ lines. All-weaker (IsToolLine s.cpus (length s.kinds) s.rings) (IsToolLine s.cpus (length s.kinds + 1) s.rings) (IsToolLine-more s.cpus (length s.kinds) s.rings) lines) s.tool_lines h.tool_lines);
      lines_few = h.lines_few;
      readers = h.readers;
      readers_rise = h.readers_rise;
      order = h.order;
      stored = record { cpu_lines = h.stored.cpu_lines; tool_lines = h.stored.tool_lines; order = h.stored.order };
    }

IsAct-ring : (s : Scripted) (r : RingNo × ℕ) (a : Act) → IsAct s a → IsAct (with_ring s r) a
IsAct-ring s r (act.Processor cpu) h = h
IsAct-ring s r (act.Tool tool) h = h
IsAct-ring s r (act.Seen ring place) h = HasRing-push s.rings r ring h

pub IsScript-ring : (s : Scripted) (r : RingNo × ℕ) → IsScript s → IsRingLine r → All (λ q. q.0.0 < r.0.0) s.rings → IsScript (with_ring s r)
IsScript-ring s r h line rises = record {
  cpus = h.cpus;
  pmus = h.pmus;
  pmus_apart = h.pmus_apart;
  pmus_few = h.pmus_few;
  kinds = h.kinds;
  kinds_once = h.kinds_once;
  kinds_few = h.kinds_few;
  tasks = h.tasks;
  tasks_rise = h.tasks_rise;
  rings = All-push IsRingLine s.rings r h.rings line;
  rings_rise = all_pairs_push (λ q r. q.0.0 < r.0.0) s.rings r h.rings_rise rises;
  processors = h.processors;
  cpu_lines = h.cpu_lines;
  idle = h.idle;
  tools = h.tools;
  tool_lines = All-weaker (All (IsToolLine s.cpus (length s.kinds) s.rings)) (All (IsToolLine s.cpus (length s.kinds) (s.rings ++ r ∷ []))) (λ lines. All-weaker (IsToolLine s.cpus (length s.kinds) s.rings) (IsToolLine s.cpus (length s.kinds) (s.rings ++ r ∷ [])) (IsToolLine-ring s.cpus (length s.kinds) s.rings r) lines) s.tool_lines h.tool_lines;
  lines_few = h.lines_few;
  readers = All-weaker (IsReaderLine s.rings) (IsReaderLine (s.rings ++ r ∷ [])) (λ q g. record { ring = HasRing-push s.rings r q.ring g.ring; tries = g.tries; batch = g.batch }) s.readers h.readers;
  readers_rise = h.readers_rise;
  order = All-weaker (IsAct s) (IsAct (with_ring s r)) (IsAct-ring s r) s.order h.order;
  stored = record { cpu_lines = h.stored.cpu_lines; tool_lines = h.stored.tool_lines; order = h.stored.order };
}

-- a list in a list of lists is one entry longer
longer_at : {X : Type 0} (lists : List (List X)) (i j : ℕ) (x : X) → i < length lists → length (get_or lists j []) ≤ length (get_or (set lists i (get_or lists i [] ++ x ∷ [])) j [])
longer_at lists i j x l = grind (arith, get_or-set_same, get_or, length_push, get_or-set_other)

count_at : {X : Type 0} (lists : List (List X)) (i : ℕ) (x : X) → i < length lists → sum_by length (set lists i (get_or lists i [] ++ x ∷ [])) ≡ sum_by length lists + 1
count_at lists i x l = omega (arith, sum_by-set length lists i (get_or lists i [] ++ x ∷ []) [] l, length_push (get_or lists i []) x)

IsAct-cpu_line : (s : Scripted) (p : CpuNo) (line : CpuLine) → p.0 < length s.cpu_lines → (a : Act) → IsAct s a → IsAct (with_cpu_line s p line) a
IsAct-cpu_line s p line l (act.Processor cpu) h = omega (arith, longer_at s.cpu_lines p.0 cpu.0 line l)
IsAct-cpu_line s p line l (act.Tool tool) h = h
IsAct-cpu_line s p line l (act.Seen ring place) h = h

IsAct-tool_line : (s : Scripted) (t : ToolNo) (line : ToolLine) → t.0 < length s.tool_lines → (a : Act) → IsAct s a → IsAct (with_tool_line s t line) a
IsAct-tool_line s t line l (act.Processor cpu) h = h
IsAct-tool_line s t line l (act.Tool tool) h = omega (arith, longer_at s.tool_lines t.0 tool.0 line l)
IsAct-tool_line s t line l (act.Seen ring place) h = h

pub IsScript-cpu_line : (s : Scripted) (p : CpuNo) (line : CpuLine) → IsScript s → p.0 < s.cpus → IsCpuLine (length s.kinds) line → IsStoredWork line → line_count s < 16384 → IsScript (with_cpu_line s p line)
IsScript-cpu_line s p line h low fits stored few =
    let in_list : p.0 < length s.cpu_lines = omega (arith, h.cpus, h.processors) in
    let own : All (IsCpuLine (length s.kinds)) (lines_of_cpu s p) = h.cpu_lines p.0 [] in_list in
    record {
      cpus = h.cpus;
      pmus = h.pmus;
      pmus_apart = h.pmus_apart;
      pmus_few = h.pmus_few;
      kinds = h.kinds;
      kinds_once = h.kinds_once;
      kinds_few = h.kinds_few;
      tasks = h.tasks;
      tasks_rise = h.tasks_rise;
      rings = h.rings;
      rings_rise = h.rings_rise;
      processors = length-set s.cpu_lines p.0 (lines_of_cpu s p ++ line ∷ []) ∙ h.processors;
      cpu_lines = All-set (All (IsCpuLine (length s.kinds))) s.cpu_lines p.0 (lines_of_cpu s p ++ line ∷ []) (All-push (IsCpuLine (length s.kinds)) (lines_of_cpu s p) line own fits) h.cpu_lines;
      idle = rw (drop-set-lt s.cpus s.cpu_lines p.0 (lines_of_cpu s p ++ line ∷ []) low) h.idle;
      tools = h.tools;
      tool_lines = h.tool_lines;
      lines_few = omega (arith, count_at s.cpu_lines p.0 line in_list);
      readers = h.readers;
      readers_rise = h.readers_rise;
      order = All-weaker (IsAct s) (IsAct (with_cpu_line s p line)) (IsAct-cpu_line s p line in_list) s.order h.order;
      stored = record { cpu_lines = All-set (All IsStoredWork) s.cpu_lines p.0 (lines_of_cpu s p ++ line ∷ []) (All-push IsStoredWork (lines_of_cpu s p) line (h.stored.cpu_lines p.0 [] in_list) stored) h.stored.cpu_lines; tool_lines = h.stored.tool_lines; order = h.stored.order };
    }

pub IsScript-tool_line : (s : Scripted) (t : ToolNo) (line : ToolLine) → IsScript s → t.0 < 4 → IsToolLine s.cpus (length s.kinds) s.rings line → IsStoredToolLine line → line_count s < 16384 → IsScript (with_tool_line s t line)
IsScript-tool_line s t line h low fits stored few =
    let in_list : t.0 < length s.tool_lines = omega (arith, h.tools) in
    let own : All (IsToolLine s.cpus (length s.kinds) s.rings) (lines_of_tool s t) = h.tool_lines t.0 [] in_list in
    record {
      cpus = h.cpus;
      pmus = h.pmus;
      pmus_apart = h.pmus_apart;
      pmus_few = h.pmus_few;
      kinds = h.kinds;
      kinds_once = h.kinds_once;
      kinds_few = h.kinds_few;
      tasks = h.tasks;
      tasks_rise = h.tasks_rise;
      rings = h.rings;
      rings_rise = h.rings_rise;
      processors = h.processors;
      cpu_lines = h.cpu_lines;
      idle = h.idle;
      tools = length-set s.tool_lines t.0 (lines_of_tool s t ++ line ∷ []) ∙ h.tools;
      tool_lines = All-set (All (IsToolLine s.cpus (length s.kinds) s.rings)) s.tool_lines t.0 (lines_of_tool s t ++ line ∷ []) (All-push (IsToolLine s.cpus (length s.kinds) s.rings) (lines_of_tool s t) line own fits) h.tool_lines;
      lines_few = omega (arith, count_at s.tool_lines t.0 line in_list);
      readers = h.readers;
      readers_rise = h.readers_rise;
      order = All-weaker (IsAct s) (IsAct (with_tool_line s t line)) (IsAct-tool_line s t line in_list) s.order h.order;
      stored = record { cpu_lines = h.stored.cpu_lines; tool_lines = All-set (All IsStoredToolLine) s.tool_lines t.0 (lines_of_tool s t ++ line ∷ []) (All-push IsStoredToolLine (lines_of_tool s t) line (h.stored.tool_lines t.0 [] in_list) stored) h.stored.tool_lines; order = h.stored.order };
    }

pub IsScript-reader : (s : Scripted) (r : ReaderLine) → IsScript s → IsReaderLine s.rings r → All (λ q. q.ring.0 < r.ring.0) s.readers → IsScript (with_reader s r)
IsScript-reader s r h line rises = search (All-push, all_pairs_push)
