-- What a script says while the script of N rounds is built.
use Rattle.std.proofs.Common.{◌≡◌, ℕ, zero, suc, ◌+◌, ◌*◌, ◌<◌, ◌≤◌, Bool, true, false, ltb, List, [], ◌∷◌, ◌++◌, length, get_or, set, sym, ap, arith, ◌∙◌}
use Rattle.std.proofs.lemmas.List.{append_assoc, append-nil, get_or-set_same, set-set, length-append, Concat.{length-flat_map}}
use Rattle.std.{proofs.lemmas.List.{FromFn.{length-range_with_len}, Sums.{sum_by-set, sum_by-le}}, specs.Prelude.{sum_by, replicate, if◌then◌else◌}}
use Rattle.std.specs.List.{range_with_len}
use Rattle.perf_base.specs.declared.{numbers.CpuNo.{CpuNo}, lines.{CpuLine.{CpuLine}, ToolLine.{ToolLine}}, acts.Act.{Act}}
use Rattle.perf_base.specs.Scripts.{Scripted, IsAct, line_count, with_task, with_ring, with_reader, with_cpu_line, with_tool_line}
use Rattle.perf_base.specs.declared.acts.Act.TheVariants as act
use Rattle.work_maker.specs.Rounds.{for_each, for_each_all, made_task, made_ring, made_reader, round_lines, processor_lines}
use Rattle.work_maker.proofs.{ForEach.{for_each-more, for_each_all-more}, MadeLines.{processor_length}}
use Rattle.work_maker.specs.Building.{with_cpu_lines, with_first_tool_lines, with_acts, declared, so_far, rounds_below}

more_at : {X : Type 0} (lists : List (List X)) (i : ℕ) (xs : List X) (x : X) → i < length lists
    → set (set lists i (get_or lists i [] ++ xs)) i (get_or (set lists i (get_or lists i [] ++ xs)) i [] ++ x ∷ []) ≡ set lists i (get_or lists i [] ++ (xs ++ x ∷ []))
more_at lists i xs x l =
    let was : get_or (set lists i (get_or lists i [] ++ xs)) i [] ≡ get_or lists i [] ++ xs = get_or-set_same lists i (get_or lists i [] ++ xs) [] l in
    set-set lists i (get_or lists i [] ++ xs) (get_or (set lists i (get_or lists i [] ++ xs)) i [] ++ x ∷ [])
    ∙ ap (set lists i) (ap (λ ys. ys ++ x ∷ []) was ∙ append_assoc (get_or lists i []) xs (x ∷ []))

count_at : {X : Type 0} (lists : List (List X)) (i : ℕ) (xs : List X) → i < length lists → sum_by length (set lists i (get_or lists i [] ++ xs)) ≡ sum_by length lists + length xs
count_at lists i xs l = omega (arith, sum_by-set length lists i (get_or lists i [] ++ xs) [] l, length-append (get_or lists i []) xs)

pub cpu_lines-more : (s : Scripted) (p : CpuNo) (lines : List CpuLine) (line : CpuLine) → p.0 < length s.cpu_lines → with_cpu_line (with_cpu_lines s p lines) p line ≡ with_cpu_lines s p (lines ++ line ∷ [])
cpu_lines-more s p lines line l = ap (λ lists. record s { cpu_lines = lists }) (more_at s.cpu_lines p.0 lines line l)

-- several acts
pub acts-none : (s : Scripted) → with_acts s [] ≡ s
acts-none s = ap (λ order. record s { order = order }) (append-nil s.order)

pub acts-more : (s : Scripted) (first more : List Act) → with_acts (with_acts s first) more ≡ with_acts s (first ++ more)
acts-more s first more = ap (λ order. record s { order = order }) (append_assoc s.order first more)

pub IsAct-acts : (s : Scripted) (acts : List Act) (a : Act) → IsAct s a → IsAct (with_acts s acts) a
IsAct-acts s acts (act.Processor cpu) h = h
IsAct-acts s acts (act.Tool tool) h = h
IsAct-acts s acts (act.Seen ring place) h = h

-- how many lines there are so far
pub so_far-count : (rounds : ℕ → ℕ) (lines : List ToolLine) (acts : List Act) → line_count (so_far rounds lines acts) ≡ 4 * (rounds 0 + rounds 1 + rounds 2 + rounds 3) + length lines
so_far-count rounds lines acts = omega (arith, processor_length (rounds 0) 0, processor_length (rounds 1) 1, processor_length (rounds 2) 2, processor_length (rounds 3) 3)

pub few_lines : {X : Type 0} (f : ℕ → List X) → ((k : ℕ) → length (f k) ≤ 4) → (n : ℕ) → length (for_each_all n f) ≤ 4 * n
few_lines f h n =
    omega (arith, length-flat_map f (range_with_len 0 n), sum_by-le (λ k. length (f k)) 4 (range_with_len 0 n) (λ i d l. h (get_or (range_with_len 0 n) i d)), length-range_with_len 0 n)

one_more : (b : Bool) (n : ℕ) → (if b then n + 1 else n) ≤ n + 1
one_more true n = omega arith
one_more false n = omega arith

pub rounds_few : (n below p : ℕ) → rounds_below n below p ≤ n + 1
rounds_few n below p = one_more (ltb p below) n

-- the four processors have these lines
abbrev four : List CpuLine → List CpuLine → List CpuLine → List CpuLine → List ToolLine → Scripted
four a b c d lines = record (declared 4) { cpu_lines = a ∷ b ∷ c ∷ d ∷ replicate 4 []; tool_lines = lines ∷ replicate 3 [] }

-- one processor more has its round
pub round_more : (n p : ℕ) (lines : List ToolLine) → p < 4 → with_cpu_lines (so_far (rounds_below n p) lines []) (record { 0 = p }) (round_lines p n) ≡ so_far (rounds_below n (p + 1)) lines []
round_more n zero lines l = ap (λ a. four a (processor_lines n 1) (processor_lines n 2) (processor_lines n 3) lines) (sym (for_each_all-more (round_lines 0) n))
round_more n (suc zero) lines l = ap (λ b. four (processor_lines (n + 1) 0) b (processor_lines n 2) (processor_lines n 3) lines) (sym (for_each_all-more (round_lines 1) n))
round_more n (suc (suc zero)) lines l = ap (λ c. four (processor_lines (n + 1) 0) (processor_lines (n + 1) 1) c (processor_lines n 3) lines) (sym (for_each_all-more (round_lines 2) n))
round_more n (suc (suc (suc zero))) lines l = ap (λ d. four (processor_lines (n + 1) 0) (processor_lines (n + 1) 1) (processor_lines (n + 1) 2) d lines) (sym (for_each_all-more (round_lines 3) n))
round_more n (suc (suc (suc (suc p)))) lines l = absurd (omega arith)

-- the task and the ring of one number more
pub two_added : (n : ℕ) (s t u : Scripted) → s ≡ declared n → t ≡ with_task s (made_task n) → u ≡ with_ring t (made_ring n) → u ≡ with_ring (with_task (declared n) (made_task n)) (made_ring n)
two_added n s t u at_s at_t at_u = at_u ∙ ap (λ s. with_ring s (made_ring n)) (at_t ∙ ap (λ s. with_task s (made_task n)) at_s)

-- and its reader
pub declared-more : (n : ℕ) → with_reader (with_ring (with_task (declared n) (made_task n)) (made_ring n)) (made_reader n) ≡ declared (n + 1)
declared-more n =
    ap (λ tasks. record (declared n) { tasks = tasks; rings = for_each n made_ring ++ made_ring n ∷ []; readers = for_each n made_reader ++ made_reader n ∷ [] }) (sym (for_each-more made_task n))
    ∙ ap (λ rings. record (declared n) { tasks = for_each (n + 1) made_task; rings = rings; readers = for_each n made_reader ++ made_reader n ∷ [] }) (sym (for_each-more made_ring n))
    ∙ ap (λ readers. record (declared n) { tasks = for_each (n + 1) made_task; rings = for_each (n + 1) made_ring; readers = readers }) (sym (for_each-more made_reader n))

-- the tool has the lines of one number more
pub tool_lists-more : (first : List ToolLine) (f : ℕ → List ToolLine) (n : ℕ) → with_first_tool_lines (so_far (λ p. 0) (first ++ for_each_all n f) []) (f n) ≡ so_far (λ p. 0) (first ++ for_each_all (n + 1) f) []
tool_lists-more first f n = ap (λ lines. so_far (λ p. 0) lines []) (append_assoc first (for_each_all n f) (f n) ∙ ap (λ lines. first ++ lines) (sym (for_each_all-more f n)))

pub tool_each-more : (first : List ToolLine) (f : ℕ → ToolLine) (n : ℕ) → with_tool_line (so_far (λ p. 0) (first ++ for_each n f) []) (record { 0 = 0 }) (f n) ≡ so_far (λ p. 0) (first ++ for_each (n + 1) f) []
tool_each-more first f n = ap (λ lines. so_far (λ p. 0) lines []) (append_assoc first (for_each n f) (f n ∷ []) ∙ ap (λ lines. first ++ lines) (sym (for_each-more f n)))
