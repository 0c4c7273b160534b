-- The order of the script of N rounds is complete, and no act of it is a look.
use Rattle.std.specs.Prelude.{◌≡◌, ℕ, zero, suc, ◌+◌, ◌*◌, List, [], ◌++◌, All, flat_map, length, replicate, sum_by, cond, slice_index_or}
use Rattle.std.{specs.List.{range_with_len}, proofs.{Common.{◌<◌, ◌≤◌, arith, ap, refl, subst}, lemmas.Bool.{ne_eqb}}}
use Rattle.std.proofs.lemmas.List.{length-append, length-replicate, Elements.{All-append, All-from_recursion, All-get_or, All-replicate}}
use Rattle.std.proofs.lemmas.{List.{Folds.{sum_by-replicate}, Sums.{sum_by-append}}, Option.{get_or_from_slice_get, slice_get_within}}
use Rattle.perf_base.specs.{declared.{acts.Act.{Act}, lines.{CpuLine.{CpuLine}, ToolLine.{ToolLine}}}, Scripts.{lines_of_cpu, lines_of_tool}}
use Rattle.perf_base.specs.declared.acts.Act.TheVariants as act
use Rattle.stage_spec.specs.Order.{done_by_cpu, done_by_tool, is_of_cpu, is_of_tool}
use Rattle.work_maker.{specs.Rounds.{all_processors, for_each_all, made_order, script_of_rounds}, proofs.ForEach.{all_for_each_all, length_of_fours}}
use Rattle.work_maker.proofs.MadeLines.{processor_length}
use Rattle.report.specs.Laws.{MadeHasNoLookLaw, MadeIsCompleteLaw}

-- the act of the one tool
abbrev of_tool : Act
of_tool = act.Tool (record { 0 = 0 })

-- a list so often one after the other sums up to so many times its sum
sum-from : {X : Type 0} (g : X → ℕ) (xs : List X) (c : ℕ) → sum_by g xs ≡ c → (a n : ℕ) → sum_by g (flat_map (λ line. xs) (range_with_len a n)) ≡ n * c
sum-from g xs c is a zero = omega arith
sum-from g xs c is a (suc n) = omega (arith, sum_by-append g xs (flat_map (λ line. xs) (range_with_len (a + 1) n)), is, sum-from g xs c is (a + 1) n)

-- what an order sums up to, by what the tool's act and all processors do
order-sum : (g : Act → ℕ) (t c : ℕ) → g of_tool ≡ t → sum_by g all_processors ≡ c → (n : ℕ) → sum_by g (made_order n) ≡ 20 * t + 4 * n * c + 16 * t
order-sum g t c tool each n =
    let middle : List Act = for_each_all (4 * n) (λ line. all_processors) in
    omega (
      arith,
      sum_by-append g (replicate 20 of_tool ++ middle) (replicate 16 of_tool),
      sum_by-append g (replicate 20 of_tool) middle,
      sum_by-replicate g 20 of_tool,
      sum_by-replicate g 16 of_tool,
      tool,
      sum-from g all_processors c each 0 (4 * n),
    )

-- one for an act of this processor, and of this tool
abbrev by_cpu : ℕ → Act → ℕ
by_cpu p a = cond (is_of_cpu (record { 0 = p }) a) 1 0

abbrev by_tool : ℕ → Act → ℕ
by_tool t a = cond (is_of_tool (record { 0 = t }) a) 1 0

-- none for an act of another one
other-cpu : (p k : ℕ) → k < 4 → 4 ≤ p → by_cpu p (act.Processor (record { 0 = k })) ≡ 0
other-cpu p k low high = ap (λ b. cond b 1 0) (ne_eqb k p (λ e. omega (arith, e)))

other-cpus : (p : ℕ) → 4 ≤ p → sum_by (by_cpu p) all_processors ≡ 0
other-cpus p high = omega (arith, other-cpu p 0 (omega arith) high, other-cpu p 1 (omega arith) high, other-cpu p 2 (omega arith) high, other-cpu p 3 (omega arith) high)

other-tool : (t : ℕ) → by_tool (suc t) of_tool ≡ 0
other-tool t = ap (λ b. cond b 1 0) (ne_eqb 0 (suc t) (λ e. omega (arith, e)))

-- lists of nothing, and past them
abbrev none : (X : Type 0) → List X
none X = []

none-read : (X : Type 0) (k p : ℕ) → length (slice_index_or (replicate k (none X)) p (none X)) ≡ 0
none-read X zero p = refl
none-read X (suc k) zero = refl
none-read X (suc k) (suc p) = none-read X k p

-- the lines of the four processors, and of the other ones
cpu-lines : (n p : ℕ) → done_by_cpu (record { 0 = p }) (made_order n) ≡ length (lines_of_cpu (script_of_rounds n) (record { 0 = p }))
unfolding script_of_rounds
cpu-lines n zero = omega (arith, order-sum (by_cpu 0) 0 1 refl refl n, processor_length n 0)
cpu-lines n (suc zero) = omega (arith, order-sum (by_cpu 1) 0 1 refl refl n, processor_length n 1)
cpu-lines n (suc (suc zero)) = omega (arith, order-sum (by_cpu 2) 0 1 refl refl n, processor_length n 2)
cpu-lines n (suc (suc (suc zero))) = omega (arith, order-sum (by_cpu 3) 0 1 refl refl n, processor_length n 3)
cpu-lines n (suc (suc (suc (suc p)))) = omega (arith, order-sum (by_cpu (suc (suc (suc (suc p))))) 0 0 refl (other-cpus (suc (suc (suc (suc p)))) (omega arith)) n, none-read CpuLine 4 p)

-- the lines of the tool, and of the other ones
tool-lines : (n t : ℕ) → done_by_tool (record { 0 = t }) (made_order n) ≡ length (lines_of_tool (script_of_rounds n) (record { 0 = t }))
unfolding script_of_rounds
tool-lines n zero = omega (arith, order-sum (by_tool 0) 1 0 refl refl n)
tool-lines n (suc t) = omega (arith, order-sum (by_tool (suc t)) 0 0 (other-tool t) refl n, none-read ToolLine 3 t)

pub complete_law : MadeIsCompleteLaw
unfolding script_of_rounds
complete_law n = record { cpus = λ cpu. cpu-lines n cpu.0; tools = λ tool. tool-lines n tool.0 }

-- how many acts it has
pub order_length : (n : ℕ) → length (script_of_rounds n).order ≡ 16 * n + 36
unfolding script_of_rounds
order_length n = grind (arith, length-append, length-replicate, length_of_fours)

-- an act that is no look
abbrev IsLine : Act → Type 0
IsLine (act.Processor cpu) = Unit {0}
IsLine (act.Tool tool) = Unit {0}
IsLine (act.Seen ring place) = ⊥

lines-only : (n : ℕ) → All IsLine (made_order n)
lines-only n =
    let middle : List Act = for_each_all (4 * n) (λ line. all_processors) in
    All-append IsLine (replicate 20 of_tool ++ middle) (replicate 16 of_tool)
    (All-append IsLine (replicate 20 of_tool) middle (All-replicate IsLine 20 of_tool tt)
    (all_for_each_all IsLine (λ line. all_processors) (4 * n) (λ line l. All-from_recursion IsLine all_processors (tt, (tt, (tt, (tt, tt)))))))
    (All-replicate IsLine 16 of_tool tt)

pub no_look_law : MadeHasNoLookLaw
unfolding script_of_rounds
no_look_law n index ring given is =
    let look : Act = act.Seen ring given in
    subst IsLine (get_or_from_slice_get (made_order n) index look look is)
    (All-get_or IsLine (made_order n) index look (slice_get_within (made_order n) index look is) (lines-only n))
