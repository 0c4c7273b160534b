-- The script of N rounds can be built, and its machine is covered.
use Rattle.std.proofs.Common.{◌≡◌, ℕ, zero, suc, ◌*◌, ◌<◌, ◌≤◌, List, [], ◌++◌, All, refl, arith}
use Rattle.std.{proofs.lemmas.List.Elements.{All-from_recursion, All-nil, All-cons, All-replicate, All-append}, specs.Prelude.{replicate}}
use Rattle.std.specs.Int.{bit_at}
use Rattle.perf_base.specs.declared.{numbers.{RingNo.{RingNo}, TaskNo.{TaskNo}}, lines.{CpuLine.{CpuLine}, ReaderLine.{ReaderLine}}}
use Rattle.perf_base.specs.Scripts.{IsPmuLine, IsCpuLine, IsToolLine, IsReaderLine, IsRingLine, IsAct, IsStoredWork, IsStoredToolLine, IsStoredAct}
use Rattle.perf_base.specs.declared.acts.Act.TheVariants as act
use Rattle.work_maker.specs.Rounds.{for_each, for_each_all, made_pmus, made_task, made_ring, made_reader, processor_lines, first_lines, last_lines, all_processors, script_of_rounds}
use Rattle.work_maker.{specs.Laws.{MadeIsScriptLaw, MadeIsCoveredLaw, MadeLinesLaw}, proofs.ForEach.{all_for_each, all_for_each_all, pairs_for_each}}
use Rattle.work_maker.proofs.Names.{kinds_fit, kinds_once}
use Rattle.work_maker.proofs.MadeLines.{processor_fits, processor_stored, processor_length, ring_fits, reader_fits, tool_fits, tool_stored}

pub line_law : MadeLinesLaw
unfolding script_of_rounds
line_law n = omega (arith, processor_length n 0, processor_length n 1, processor_length n 2, processor_length n 3)

-- each processor has lines
processors_act : (n : ℕ) → 1 ≤ n → All (IsAct (script_of_rounds n)) all_processors
unfolding script_of_rounds
processors_act n some = grind (arith, All-from_recursion, processor_length)

pub script_law : MadeIsScriptLaw
unfolding script_of_rounds
script_law n low high =
    let s = script_of_rounds n in
    record {
      cpus = (omega arith, omega arith);
      pmus = All-from_recursion (IsPmuLine 4) made_pmus (record { counters = (omega arith, omega arith); cpus = (omega arith, omega arith) }, tt);
      pmus_apart = λ i j d l m. absurd (omega arith);
      pmus_few = omega arith;
      kinds = kinds_fit;
      kinds_once = kinds_once;
      kinds_few = omega arith;
      tasks = all_for_each (λ (t : TaskNo). t.0 < 64) made_task 4 (λ k l. omega arith);
      tasks_rise = pairs_for_each (λ (t u : TaskNo). t.0 < u.0) made_task 4 (λ j k before l. before);
      rings = all_for_each IsRingLine made_ring 4 ring_fits;
      rings_rise = pairs_for_each (λ (q r : RingNo × ℕ). q.0.0 < r.0.0) made_ring 4 (λ j k before l. before);
      processors = refl;
      cpu_lines = All-append (All (IsCpuLine 4)) (for_each 4 (processor_lines n)) (replicate 4 []) (all_for_each (All (IsCpuLine 4)) (processor_lines n) 4 (λ p l. processor_fits n p)) (All-replicate (All (IsCpuLine 4)) 4 [] (All-nil (IsCpuLine 4)));
      idle = All-replicate (λ (lines : List CpuLine). lines ≡ []) 4 [] refl;
      tools = refl;
      tool_lines = All-cons (All (IsToolLine 4 4 (for_each 4 made_ring))) (first_lines ++ last_lines) (replicate 3 []) tool_fits (All-replicate (All (IsToolLine 4 4 (for_each 4 made_ring))) 3 [] (All-nil (IsToolLine 4 4 (for_each 4 made_ring))));
      lines_few = omega (arith, line_law n);
      readers = all_for_each (IsReaderLine (for_each 4 made_ring)) made_reader 4 (reader_fits 4);
      readers_rise = pairs_for_each (λ (q r : ReaderLine). q.ring.0 < r.ring.0) made_reader 4 (λ j k before l. before);
      order =
          All-append (IsAct s) (replicate 20 (act.Tool (record { 0 = 0 })) ++ for_each_all (4 * n) (λ line. all_processors)) (replicate 16 (act.Tool (record { 0 = 0 })))
          (All-append (IsAct s) (replicate 20 (act.Tool (record { 0 = 0 }))) (for_each_all (4 * n) (λ line. all_processors))
          (All-replicate (IsAct s) 20 (act.Tool (record { 0 = 0 })) (omega arith)) (all_for_each_all (IsAct s) (λ line. all_processors) (4 * n) (λ line l. processors_act n low)))
          (All-replicate (IsAct s) 16 (act.Tool (record { 0 = 0 })) (omega arith));
      stored = record {
        cpu_lines = All-append (All IsStoredWork) (for_each 4 (processor_lines n)) (replicate 4 []) (all_for_each (All IsStoredWork) (processor_lines n) 4 (λ p l. processor_stored n p high)) (All-replicate (All IsStoredWork) 4 [] (All-nil IsStoredWork));
        tool_lines = All-cons (All IsStoredToolLine) (first_lines ++ last_lines) (replicate 3 []) tool_stored (All-replicate (All IsStoredToolLine) 3 [] (All-nil IsStoredToolLine));
        order =
            All-append IsStoredAct (replicate 20 (act.Tool (record { 0 = 0 })) ++ for_each_all (4 * n) (λ line. all_processors)) (replicate 16 (act.Tool (record { 0 = 0 })))
            (All-append IsStoredAct (replicate 20 (act.Tool (record { 0 = 0 }))) (for_each_all (4 * n) (λ line. all_processors))
            (All-replicate IsStoredAct 20 (act.Tool (record { 0 = 0 })) tt) (all_for_each_all IsStoredAct (λ line. all_processors) (4 * n) (λ line l. All-from_recursion IsStoredAct all_processors (tt, (tt, (tt, (tt, tt)))))))
            (All-replicate IsStoredAct 16 (act.Tool (record { 0 = 0 })) tt);
      };
    }

in_mask : (p : ℕ) → p < 4 → bit_at 15 p ≡ 1
in_mask zero l = refl
in_mask (suc zero) l = refl
in_mask (suc (suc zero)) l = refl
in_mask (suc (suc (suc zero))) l = refl
in_mask (suc (suc (suc (suc p)))) l = absurd (omega arith)

pub covered_law : MadeIsCoveredLaw
unfolding script_of_rounds
covered_law n cpu l = (0, record { counters = 3; cpus = record { 0 = 15 } }, omega arith, refl, in_mask cpu.0 l)
