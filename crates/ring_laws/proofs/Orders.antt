-- The lines that an order does are lines of the script, each once.
use Rattle.std.specs.Prelude.{◌≡◌, ℕ, zero, suc, ◌+◌, ◌*◌, ◌<◌, ◌≤◌, ◌⊎◌, ◌==◌, true, All, List, [], ◌∷◌, ◌++◌, length, drop, sum_by, count_by, Option, Some, None, slice_get, slice_index_or, unwrap_or, cond}
use Rattle.std.proofs.{Common.{arith, refl, sym, ap, subst, ◌∙◌, inl, inr}, Math.{Nat.{mul-le-mul, mul-le-mul_right}, Path.{fun_ext}}}
use Rattle.std.proofs.lemmas.{Bool.{cases_lt, Decides.{nat_tests}}, Option.{slice_get_within}}
use Rattle.std.proofs.lemmas.List.{Elements.{All-append, All-cons, All-head, All-nil, All-tail, All-weaker}, Sums.{sum_by-append, sum_by-cons}}
use Rattle.perf_base.specs.declared.{numbers.{CpuNo.{CpuNo}, ToolNo.{ToolNo}}, acts.Act.{Act}, lines.{CpuLine.{CpuLine}, ToolLine.{ToolLine}}}
use Rattle.perf_base.specs.Scripts.{Scripted, lines_of_cpu, IsScript, IsCpuLine, IsToolLine}
use Rattle.perf_base.specs.Weight.{period_of, opens_sampling, lesser, least_by, line_shares, least_period, sampling_opens, shares_of, weight}
use Rattle.perf_base.proofs.Weights.{no_opens}
use Rattle.perf_base.specs.declared.acts.Act.TheVariants as act
use Rattle.stage_spec.specs.{Hardware.{hardware_of}, Limits.{limits_of, IsMachine}}
use Rattle.stage_spec.specs.Order.{is_of_cpu, is_of_tool, done_by_cpu, done_by_tool, next_of_cpu, next_of_tool}
use Rattle.stage_spec.specs.History.{Step, CpuStep, ToolStep, SeenStep, cpu_steps, tool_steps, steps_of, steps_from, history, opening_stage}
use Rattle.stage_spec.proofs.Machines.{script_machine}
use Rattle.ring_spec.{specs.Sending.{sent_by_steps}, proofs.Sizes.{ring_words_law}}
use Rattle.stage_laws.specs.Bounds.{IsLineWithin}
use Rattle.ring_laws.{specs.Few.{period_by, opens_by, shares_by, IsLeast, FewOfScriptLaw, FewWordsLaw}, proofs.Few.{few_sent}}
use Rattle.stage_laws.proofs.Counts.{count-append}

-- what the lines of some lists that are left come to, where so many of each are done
pub left_in : {X : Type 0} → (X → ℕ) → (ℕ → ℕ) → List (List X) → ℕ
left_in g done [] = 0
left_in g done (lines ∷ lists) = sum_by g (drop (done 0) lines) + left_in g (λ i. done (suc i)) lists

drop-none : {X : Type 0} (n : ℕ) → drop {A = X} n [] ≡ []
drop-none zero = refl
drop-none (suc n) = refl

one_line : {X : Type 0} (g : X → ℕ) (lines : List X) (n : ℕ) (line : X) → slice_get lines n ≡ Some line → g line + sum_by g (drop (suc n) lines) ≤ sum_by g (drop n lines)
one_line g [] n line e = let l : n < 0 = slice_get_within [] n line e in absurd (omega arith)
one_line g (x ∷ lines) zero line e = grind (arith, nat_tests, sum_by-cons)
one_line g (x ∷ lines) (suc n) line e = one_line g lines n line e

fewer_lines : {X : Type 0} (g : X → ℕ) (lines : List X) (n m : ℕ) → n ≤ m → sum_by g (drop m lines) ≤ sum_by g (drop n lines)
fewer_lines g [] n m l = rw (drop-none n, drop-none m) (omega arith)
fewer_lines g (x ∷ lines) zero zero l = omega arith
fewer_lines g (x ∷ lines) zero (suc m) l = omega (arith, fewer_lines g lines 0 m (omega arith), sum_by-cons g x lines)
fewer_lines g (x ∷ lines) (suc n) zero l = absurd (omega arith)
fewer_lines g (x ∷ lines) (suc n) (suc m) l = fewer_lines g lines n m (omega arith)

fewer_left : {X : Type 0} (g : X → ℕ) (lists : List (List X)) (done later : ℕ → ℕ) → ((i : ℕ) → done i ≤ later i) → left_in g later lists ≤ left_in g done lists
unfolding left_in
fewer_left g [] done later h = omega arith
fewer_left g (lines ∷ lists) done later h = omega (arith, fewer_lines g lines (done 0) (later 0) (h 0), fewer_left g lists (λ i. done (suc i)) (λ i. later (suc i)) (λ i. h (suc i)))

-- one line more of one list
step_left : {X : Type 0} (g : X → ℕ) (lists : List (List X)) (n : ℕ) (done later : ℕ → ℕ) (line : X) → later n ≡ suc (done n) → ((i : ℕ) → done i ≤ later i)
    → slice_get (slice_index_or lists n []) (done n) ≡ Some line → g line + left_in g later lists ≤ left_in g done lists
unfolding left_in
step_left g [] n done later line now more e = let l : done n < 0 = slice_get_within [] (done n) line e in absurd (omega arith)
step_left g (lines ∷ lists) zero done later line now more e = grind (arith, nat_tests, one_line, fewer_left)
step_left g (lines ∷ lists) (suc n) done later line now more e =
    omega (arith, fewer_lines g lines (done 0) (later 0) (more 0), step_left g lists n (λ i. done (suc i)) (λ i. later (suc i)) line now (λ i. more (suc i)) e)

pub none_done : {X : Type 0} (g : X → ℕ) (lists : List (List X)) → left_in g (λ i. 0) lists ≡ sum_by (sum_by g) lists
unfolding left_in
none_done g [] = refl
none_done g (lines ∷ lists) = omega (arith, none_done g lists, sum_by-cons (sum_by g) lines lists)

-- what the tools' lines among steps come to, and what the processors' lines do
abbrev pub by_tools : (ToolLine → ℕ) → Step → ℕ
by_tools g (CpuStep cpu line) = 0
by_tools g (ToolStep line) = g line
by_tools g (SeenStep ring place) = 0

abbrev pub by_cpus : (CpuLine → ℕ) → Step → ℕ
by_cpus g (CpuStep cpu line) = g line
by_cpus g (ToolStep line) = 0
by_cpus g (SeenStep ring place) = 0

abbrev pub tools_done : List Act → ℕ → ℕ
tools_done before i = done_by_tool (record { 0 = i }) before

abbrev pub cpus_done : List Act → ℕ → ℕ
cpus_done before i = done_by_cpu (record { 0 = i }) before

tools_more : (before : List Act) (a : Act) (i : ℕ) → tools_done before i ≤ tools_done (before ++ a ∷ []) i
tools_more before a i = omega (arith, count-append (is_of_tool (record { 0 = i })) before (a ∷ []))

cpus_more : (before : List Act) (a : Act) (i : ℕ) → cpus_done before i ≤ cpus_done (before ++ a ∷ []) i
cpus_more before a i = omega (arith, count-append (is_of_cpu (record { 0 = i })) before (a ∷ []))

same_number : (n : ℕ) → (n == n) ≡ true
same_number n = grind (arith, nat_tests)

tools_now : (before : List Act) (tool : ToolNo) → tools_done (before ++ act.Tool tool ∷ []) tool.0 ≡ suc (tools_done before tool.0)
tools_now before tool = count-append (is_of_tool tool) before (act.Tool tool ∷ []) ∙ (rw (same_number tool.0) (omega arith))

cpus_now : (before : List Act) (cpu : CpuNo) → cpus_done (before ++ act.Processor cpu ∷ []) cpu.0 ≡ suc (cpus_done before cpu.0)
cpus_now before cpu = count-append (is_of_cpu cpu) before (act.Processor cpu ∷ []) ∙ (rw (same_number cpu.0) (omega arith))

tools_act : (s : Scripted) (g : ToolLine → ℕ) (before : List Act) (a : Act)
    → sum_by (by_tools g) (steps_of s before a) + left_in g (tools_done (before ++ a ∷ [])) s.tool_lines ≤ left_in g (tools_done before) s.tool_lines
tools_act s g before (act.Processor cpu) = one (next_of_cpu s before cpu)
  where
    one : (line : Option CpuLine) → sum_by (by_tools g) (cpu_steps cpu line) + left_in g (tools_done (before ++ act.Processor cpu ∷ [])) s.tool_lines ≤ left_in g (tools_done before) s.tool_lines
    one None = omega (arith, fewer_left g s.tool_lines (tools_done before) (tools_done (before ++ act.Processor cpu ∷ [])) (tools_more before (act.Processor cpu)))
    one (Some line) = omega (arith, fewer_left g s.tool_lines (tools_done before) (tools_done (before ++ act.Processor cpu ∷ [])) (tools_more before (act.Processor cpu)))
tools_act s g before (act.Tool tool) = one (next_of_tool s before tool) refl
  where
    one : (line : Option ToolLine) → next_of_tool s before tool ≡ line
        → sum_by (by_tools g) (tool_steps line) + left_in g (tools_done (before ++ act.Tool tool ∷ [])) s.tool_lines ≤ left_in g (tools_done before) s.tool_lines
    one None e = omega (arith, fewer_left g s.tool_lines (tools_done before) (tools_done (before ++ act.Tool tool ∷ [])) (tools_more before (act.Tool tool)))
    one (Some line) e =
        omega (arith, step_left g s.tool_lines tool.0 (tools_done before) (tools_done (before ++ act.Tool tool ∷ [])) line (tools_now before tool) (tools_more before (act.Tool tool)) e)
tools_act s g before (act.Seen ring place) = omega (arith, fewer_left g s.tool_lines (tools_done before) (tools_done (before ++ act.Seen ring place ∷ [])) (tools_more before (act.Seen ring place)))

pub tools_from : (s : Scripted) (g : ToolLine → ℕ) (before acts : List Act) → sum_by (by_tools g) (steps_from s before acts) ≤ left_in g (tools_done before) s.tool_lines
unfolding steps_from
tools_from s g before [] = omega arith
tools_from s g before (a ∷ acts) =
    omega (arith, tools_act s g before a, tools_from s g (before ++ a ∷ []) acts, sum_by-append (by_tools g) (steps_of s before a) (steps_from s (before ++ a ∷ []) acts))

cpus_act : (s : Scripted) (g : CpuLine → ℕ) (before : List Act) (a : Act)
    → sum_by (by_cpus g) (steps_of s before a) + left_in g (cpus_done (before ++ a ∷ [])) s.cpu_lines ≤ left_in g (cpus_done before) s.cpu_lines
cpus_act s g before (act.Tool tool) = one (next_of_tool s before tool)
  where
    one : (line : Option ToolLine) → sum_by (by_cpus g) (tool_steps line) + left_in g (cpus_done (before ++ act.Tool tool ∷ [])) s.cpu_lines ≤ left_in g (cpus_done before) s.cpu_lines
    one None = omega (arith, fewer_left g s.cpu_lines (cpus_done before) (cpus_done (before ++ act.Tool tool ∷ [])) (cpus_more before (act.Tool tool)))
    one (Some line) = omega (arith, fewer_left g s.cpu_lines (cpus_done before) (cpus_done (before ++ act.Tool tool ∷ [])) (cpus_more before (act.Tool tool)))
cpus_act s g before (act.Processor cpu) = one (next_of_cpu s before cpu) refl
  where
    one : (line : Option CpuLine) → next_of_cpu s before cpu ≡ line
        → sum_by (by_cpus g) (cpu_steps cpu line) + left_in g (cpus_done (before ++ act.Processor cpu ∷ [])) s.cpu_lines ≤ left_in g (cpus_done before) s.cpu_lines
    one None e = omega (arith, fewer_left g s.cpu_lines (cpus_done before) (cpus_done (before ++ act.Processor cpu ∷ [])) (cpus_more before (act.Processor cpu)))
    one (Some line) e =
        omega (arith, step_left g s.cpu_lines cpu.0 (cpus_done before) (cpus_done (before ++ act.Processor cpu ∷ [])) line (cpus_now before cpu) (cpus_more before (act.Processor cpu)) e)
cpus_act s g before (act.Seen ring place) = omega (arith, fewer_left g s.cpu_lines (cpus_done before) (cpus_done (before ++ act.Seen ring place ∷ [])) (cpus_more before (act.Seen ring place)))

pub cpus_from : (s : Scripted) (g : CpuLine → ℕ) (before acts : List Act) → sum_by (by_cpus g) (steps_from s before acts) ≤ left_in g (cpus_done before) s.cpu_lines
unfolding steps_from
cpus_from s g before [] = omega arith
cpus_from s g before (a ∷ acts) =
    omega (arith, cpus_act s g before a, cpus_from s g (before ++ a ∷ []) acts, sum_by-append (by_cpus g) (steps_of s before a) (steps_from s (before ++ a ∷ []) acts))

-- the opens with a period and the shares, over an order
opens_few : (s : Scripted) (order : List Act) → count_by opens_by (history s order) ≤ sampling_opens s
opens_few s order =
    let g : ToolLine → ℕ = λ line. cond (opens_sampling line) 1 0 in
    let same : (λ x. cond (opens_by x) 1 0) ≡ by_tools g = fun_ext (λ x. each g x) in
    omega (arith, ap (λ f. sum_by f (history s order)) same, tools_from s g [] order, none_done g s.tool_lines)
  where
    each : (g : ToolLine → ℕ) (x : Step) → cond (opens_by x) 1 0 ≡ by_tools (λ line. cond (opens_sampling line) 1 0) x
    each g (CpuStep cpu line) = refl
    each g (ToolStep line) = refl
    each g (SeenStep ring place) = refl

shares_few : (s : Scripted) (period : ℕ) (order : List Act) → sum_by (shares_by period) (history s order) ≤ shares_of s period
shares_few s period order =
    let same : shares_by period ≡ by_cpus (line_shares period) = fun_ext each in
    omega (arith, ap (λ f. sum_by f (history s order)) same, cpus_from s (line_shares period) [] order, none_done (line_shares period) s.cpu_lines)
  where
    each : (x : Step) → shares_by period x ≡ by_cpus (line_shares period) x
    each (CpuStep cpu line) = refl
    each (ToolStep line) = refl
    each (SeenStep ring place) = refl

-- each period is at least the least, unless it is none
abbrev IsAbove : ℕ → ℕ → Type 0
IsAbove least n = (n ≡ 0) ⊎ ((0 < least) × (least ≤ n))

first_least : (a b : ℕ) → IsAbove (lesser a b) a
first_least a b = grind (arith, nat_tests)

then_least : (a b n : ℕ) → IsAbove b n → IsAbove (lesser a b) n
then_least a b n (inl e) = inl e
then_least a b n (inr h) = inr (grind (arith, nat_tests, h.0), grind (arith, nat_tests, h.0, h.1))

above_both : (a b n : ℕ) → IsAbove a b → IsAbove b n → IsAbove a n
above_both a b n h (inl e) = inl e
above_both a b n (inl e) (inr k) = absurd (omega (arith, e, k.0))
above_both a b n (inr h) (inr k) = inr (h.0, omega (arith, h.1, k.1))

least_of : {X : Type 0} (f : X → ℕ) (xs : List X) (n : ℕ) (x : X) → slice_get xs n ≡ Some x → IsAbove (least_by f xs) (f x)
least_of f [] n x e = let l : n < 0 = slice_get_within [] n x e in absurd (omega arith)
least_of f (y ∷ xs) zero x e = subst (λ z. IsAbove (least_by f (y ∷ xs)) (f z)) (ap (λ o. unwrap_or o y) e) (first_least (f y) (least_by f xs))
least_of f (y ∷ xs) (suc n) x e = then_least (f y) (least_by f xs) (f x) (least_of f xs n x e)

least_in : (lists : List (List ToolLine)) (i n : ℕ) (line : ToolLine) → slice_get (slice_index_or lists i []) n ≡ Some line → IsAbove (least_by (least_by period_of) lists) (period_of line)
least_in [] i n line e = let l : n < 0 = slice_get_within [] n line e in absurd (omega arith)
least_in (lines ∷ lists) zero n line e = grind (arith, nat_tests, above_both, first_least, least_of)
least_in (lines ∷ lists) (suc i) n line e = then_least (least_by period_of lines) (least_by (least_by period_of) lists) (period_of line) (least_in lists i n line e)

abbrev AreAbove : ℕ → List Step → Type 0
AreAbove least steps = All (λ x. IsAbove least (period_by x)) steps

act-above : (s : Scripted) (before : List Act) (a : Act) → AreAbove (least_period s) (steps_of s before a)
act-above s before (act.Processor cpu) = one (next_of_cpu s before cpu)
  where
    one : (line : Option CpuLine) → AreAbove (least_period s) (cpu_steps cpu line)
    one None = All-nil (λ x. IsAbove (least_period s) (period_by x))
    one (Some line) = All-cons (λ x. IsAbove (least_period s) (period_by x)) (CpuStep cpu line) [] (inl refl) (All-nil (λ x. IsAbove (least_period s) (period_by x)))
act-above s before (act.Tool tool) = one (next_of_tool s before tool) refl
  where
    one : (line : Option ToolLine) → next_of_tool s before tool ≡ line → AreAbove (least_period s) (tool_steps line)
    one None e = All-nil (λ x. IsAbove (least_period s) (period_by x))
    one (Some line) e =
        All-cons (λ x. IsAbove (least_period s) (period_by x)) (ToolStep line) [] (least_in s.tool_lines tool.0 (done_by_tool tool before) line e) (All-nil (λ x. IsAbove (least_period s) (period_by x)))
act-above s before (act.Seen ring place) =
    All-cons (λ x. IsAbove (least_period s) (period_by x)) (SeenStep ring place) [] (inl refl) (All-nil (λ x. IsAbove (least_period s) (period_by x)))

above : (s : Scripted) (before acts : List Act) → AreAbove (least_period s) (steps_from s before acts)
unfolding steps_from
above s before [] = All-nil (λ x. IsAbove (least_period s) (period_by x))
above s before (a ∷ acts) =
    All-append (λ x. IsAbove (least_period s) (period_by x)) (steps_of s before a) (steps_from s (before ++ a ∷ []) acts) (act-above s before a) (above s (before ++ a ∷ []) acts)

-- the lines of a script are within its limits
in_list : {X : Type 0} (P : X → Type 0) (xs : List X) (n : ℕ) (x : X) → All P xs → slice_get xs n ≡ Some x → P x
in_list P [] n x h e = let l : n < 0 = slice_get_within [] n x e in absurd (omega arith)
in_list P (y ∷ xs) zero x h e = subst P (ap (λ o. unwrap_or o y) e) (All-head P y xs h)
in_list P (y ∷ xs) (suc n) x h e = in_list P xs n x (All-tail P y xs h) e

in_lists : {X : Type 0} (P : X → Type 0) (lists : List (List X)) (i n : ℕ) (x : X) → All (All P) lists → slice_get (slice_index_or lists i []) n ≡ Some x → P x
in_lists P [] i n x h e = let l : n < 0 = slice_get_within [] n x e in absurd (omega arith)
in_lists P (xs ∷ lists) zero n x h e = in_list P xs n x (All-head (All P) xs lists h) e
in_lists P (xs ∷ lists) (suc i) n x h e = in_lists P lists i n x (All-tail (All P) xs lists h) e

idle_lines : {X : Type 0} (lists : List (List X)) (c i : ℕ) → All (λ (xs : List X). xs ≡ []) (drop c lists) → c ≤ i → slice_index_or lists i [] ≡ []
idle_lines [] c i h l = refl
idle_lines {X = X} (xs ∷ lists) zero zero h l = All-head (λ (ys : List X). ys ≡ []) xs lists h
idle_lines {X = X} (xs ∷ lists) zero (suc i) h l = idle_lines lists 0 i (All-tail (λ (ys : List X). ys ≡ []) xs lists h) (omega arith)
idle_lines (xs ∷ lists) (suc c) zero h l = absurd (omega arith)
idle_lines (xs ∷ lists) (suc c) (suc i) h l = idle_lines lists c i h (omega arith)

there : (s : Scripted) (cpu : CpuNo) (n : ℕ) (line : CpuLine) → IsScript s → slice_get (lines_of_cpu s cpu) n ≡ Some line → cpu.0 < s.cpus
there s cpu n line h e = elim (cases_lt cpu.0 s.cpus) [
  | inl l ↦ l
  | inr l ↦
      let none : lines_of_cpu s cpu ≡ [] = idle_lines s.cpu_lines s.cpus cpu.0 h.idle l in
      let within : n < 0 = slice_get_within [] n line (ap (λ (xs : List CpuLine). slice_get xs n) (sym none) ∙ e) in
      absurd (omega arith)
]

act-within : (s : Scripted) (before : List Act) (a : Act) → IsScript s → All (IsLineWithin (limits_of s)) (steps_of s before a)
act-within s before (act.Processor cpu) h = one (next_of_cpu s before cpu) refl
  where
    one : (line : Option CpuLine) → next_of_cpu s before cpu ≡ line → All (IsLineWithin (limits_of s)) (cpu_steps cpu line)
    one None e = All-nil (IsLineWithin (limits_of s))
    one (Some line) e =
        All-cons (IsLineWithin (limits_of s)) (CpuStep cpu line) []
        (there s cpu (done_by_cpu cpu before) line h e, in_lists (IsCpuLine (length s.kinds)) s.cpu_lines cpu.0 (done_by_cpu cpu before) line h.cpu_lines e) (All-nil (IsLineWithin (limits_of s)))
act-within s before (act.Tool tool) h = one (next_of_tool s before tool) refl
  where
    one : (line : Option ToolLine) → next_of_tool s before tool ≡ line → All (IsLineWithin (limits_of s)) (tool_steps line)
    one None e = All-nil (IsLineWithin (limits_of s))
    one (Some line) e =
        All-cons (IsLineWithin (limits_of s)) (ToolStep line) []
        (in_lists (IsToolLine s.cpus (length s.kinds) s.rings) s.tool_lines tool.0 (done_by_tool tool before) line h.tool_lines e) (All-nil (IsLineWithin (limits_of s)))
act-within s before (act.Seen ring place) h = All-cons (IsLineWithin (limits_of s)) (SeenStep ring place) [] tt (All-nil (IsLineWithin (limits_of s)))

pub within : (s : Scripted) (before acts : List Act) → IsScript s → All (IsLineWithin (limits_of s)) (steps_from s before acts)
unfolding steps_from
within s before [] h = All-nil (IsLineWithin (limits_of s))
within s before (a ∷ acts) h =
    All-append (IsLineWithin (limits_of s)) (steps_of s before a) (steps_from s (before ++ a ∷ []) acts) (act-within s before a h) (within s (before ++ a ∷ []) acts h)

-- by the least period that a line gives, or, where none does, by any
at_least : (least n : ℕ) → IsAbove least n → (n ≡ 0) ⊎ (least ≤ n)
at_least least n (inl e) = inl e
at_least least n (inr h) = inr h.1

no_period : (n : ℕ) → IsAbove 0 n → (n ≡ 0) ⊎ (1 ≤ n)
no_period n (inl e) = inl e
no_period n (inr h) = absurd (omega (arith, h.0))

weigh : (sends opens all most shares_all : ℕ) → sends ≤ opens * all → opens ≤ most → all ≤ shares_all → sends ≤ most * shares_all
weigh sends opens all most shares_all h k l = let p : opens * all ≤ most * shares_all = mul-le-mul k l in omega (arith, h, p)

few_of_machine : (s : Scripted) (order : List Act) → IsScript s → IsMachine (limits_of s) (hardware_of s)
    → length (sent_by_steps (hardware_of s) (opening_stage s) (history s order)) ≤ weight s
few_of_machine s order h machine = by (least_period s) refl
  where
    steps : List Step
    steps = history s order

    by : (least : ℕ) → least_period s ≡ least → length (sent_by_steps (hardware_of s) (opening_stage s) steps) ≤ weight s
    by zero e =
        let periods : IsLeast 1 steps = All-weaker (λ x. IsAbove (least_period s) (period_by x)) (λ x. (period_by x ≡ 0) ⊎ (1 ≤ period_by x))
        (λ x g. no_period (period_by x) (subst (λ n. IsAbove n (period_by x)) e g)) steps (above s [] order) in
        let opens : count_by opens_by steps ≤ 0 = omega (arith, opens_few s order, no_opens s e) in
        let sends = few_sent (limits_of s) (hardware_of s) s.tasks steps 1 machine h.tasks (within s [] order h) (omega arith) periods in
        let none : count_by opens_by steps * sum_by (shares_by 1) steps ≤ 0 * sum_by (shares_by 1) steps = mul-le-mul_right (sum_by (shares_by 1) steps) opens in
        omega (arith, sends, none)
    by (suc n) e =
        let pos : 0 < least_period s = omega (arith, e) in
        let periods : IsLeast (least_period s) steps = All-weaker (λ x. IsAbove (least_period s) (period_by x)) (λ x. (period_by x ≡ 0) ⊎ (least_period s ≤ period_by x))
        (λ x g. at_least (least_period s) (period_by x) g) steps (above s [] order) in
        weigh (length (sent_by_steps (hardware_of s) (opening_stage s) steps)) (count_by opens_by steps) (sum_by (shares_by (least_period s)) steps) (sampling_opens s) (shares_of s (least_period s))
        (few_sent (limits_of s) (hardware_of s) s.tasks steps (least_period s) machine h.tasks (within s [] order h) pos periods) (opens_few s order) (shares_few s (least_period s) order)

pub few_of_script : FewOfScriptLaw
few_of_script s order h covered = few_of_machine s order h (script_machine s h covered)

pub few_words : FewWordsLaw
few_words s order ring h covered = omega (arith, ring_words_law (hardware_of s) (opening_stage s) (history s order) ring, few_of_script s order h covered)
