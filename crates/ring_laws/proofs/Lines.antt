-- How many lines an order does: looks do none, and no actor does more than it has.
use Rattle.std.specs.Prelude.{◌≡◌, ℕ, suc, ◌+◌, ◌-◌, ◌≤◌, ◌==◌, nat_le, Bool, true, false, List, [], ◌∷◌, ◌++◌, length, sum_by, count_by, slice_index_or, cond, Option, Some, None}
use Rattle.std.{specs.List.{filter_map, cons_option}, proofs.{Common.{arith, refl, ap, ◌∙◌}, lemmas.Bool.Decides.{nat_tests}}}
use Rattle.std.proofs.lemmas.List.Sums.{sum_by-cons}
use Rattle.perf_base.specs.{declared.{numbers.RingNo.{RingNo}, acts.Act.{Act}}, Scripts.{Scripted}}
use Rattle.perf_base.specs.declared.acts.Act.TheVariants as act
use Rattle.stage_spec.specs.{Order.{is_of_cpu, is_of_tool, IsCounted}, Replies.{lines_from}}
use Rattle.ring_laws.proofs.Reached.{count-one}
use Rattle.ring_laws.specs.Growing.{AreLooks, is_look, is_cpu_act, does_line, LooksDoNothingLaw, CompleteLooksLaw, NoLineLaw}
use Rattle.ring_laws.specs.Counted.{CountedCpusLaw, CountedLinesLaw, LengthsLaw}
use Rattle.stage_laws.proofs.Counts.{count-append}

-- looks pass no test that no look passes
none-pass : (p : Act → Bool) → ((ring : RingNo) (place : ℕ) → p (act.Seen ring place) ≡ false) → (from : ℕ) (before looks : List Act) → AreLooks from before looks
    → count_by p looks ≡ 0
none-pass p fails from before [] h = refl
none-pass p fails from before (act.Processor cpu ∷ looks) h = absurd h
none-pass p fails from before (act.Tool tool ∷ looks) h = absurd h
none-pass p fails from before (act.Seen ring place ∷ looks) h = grind (arith, nat_tests, count-one, none-pass p fails (ring.0 + 1) before looks h.2)

pub looks-do-nothing : LooksDoNothingLaw
looks-do-nothing from before looks h = (
  λ cpu. omega (arith, count-append (is_of_cpu cpu) before looks, none-pass (is_of_cpu cpu) (λ ring place. refl) from before looks h),
  λ tool. omega (arith, count-append (is_of_tool tool) before looks, none-pass (is_of_tool tool) (λ ring place. refl) from before looks h),
)

pub complete-looks : CompleteLooksLaw
complete-looks s from order looks complete h =
    let nothing = looks-do-nothing from order looks h in
    record { cpus = λ cpu. nothing.0 cpu ∙ complete.cpus cpu; tools = λ tool. nothing.1 tool ∙ complete.tools tool }

no_line_from : (done : List Act) (from : ℕ) (before looks : List Act) → AreLooks from before looks → lines_from done looks ≡ []
no_line_from done from before [] h = refl
no_line_from done from before (act.Processor cpu ∷ looks) h = absurd h
no_line_from done from before (act.Tool tool ∷ looks) h = absurd h
no_line_from done from before (act.Seen ring place ∷ looks) h = no_line_from (done ++ act.Seen ring place ∷ []) (ring.0 + 1) before looks h.2

pub looks-give-no-line : NoLineLaw
looks-give-no-line from before looks h = no_line_from before from before looks h

-- Numbers, of which each occurs at most as often as the list at its place is long, are at most as many as the lists
-- have entries.
above-none : (k : ℕ) (numbers : List ℕ) → ((i : ℕ) → count_by (λ n. n == k + i) numbers ≤ 0) → count_by (λ n. nat_le k n) numbers ≤ 0
above-none k [] h = omega arith
above-none k (n ∷ numbers) h =
    let rest : count_by (λ m. nat_le k m) numbers ≤ 0 =
    above-none k numbers (λ i. omega (arith, h i, count-one (λ (m : ℕ). m == k + i) n numbers)) in
    one (nat_le k n) refl rest
  where
    one : (b : Bool) → nat_le k n ≡ b → count_by (λ m. nat_le k m) numbers ≤ 0 → count_by (λ m. nat_le k m) (n ∷ numbers) ≤ 0
    one false e rest = rw (count-one (λ (m : ℕ). nat_le k m) n numbers, e) (omega (arith, rest))
    one true e rest =
        let here : (i : ℕ) → n ≡ k + i → (n == k + i) ≡ true = λ i same. grind (arith, nat_tests, same) in
        let own : n ≡ k + (n - k) = grind (arith, nat_tests, e) in
        let once : cond {A = ℕ} (n == k + (n - k)) 1 0 ≡ 1 = rw (here (n - k) own) refl in
        absurd (omega (arith, h (n - k), count-one (λ (m : ℕ). m == k + (n - k)) n numbers, once))

above-next : (k : ℕ) (numbers : List ℕ) → count_by (λ n. nat_le k n) numbers ≡ count_by (λ n. n == k) numbers + count_by (λ n. nat_le (suc k) n) numbers
above-next k [] = refl
above-next k (n ∷ numbers) =
    omega (
      arith,
      above-next k numbers,
      here,
      count-one (λ (m : ℕ). nat_le k m) n numbers,
      count-one (λ (m : ℕ). m == k) n numbers,
      count-one (λ (m : ℕ). nat_le (suc k) m) n numbers,
    )
  where
    here : cond (nat_le k n) 1 0 ≡ cond (n == k) 1 0 + cond (nat_le (suc k) n) 1 0
    here = grind (arith, nat_tests)

few-numbers : {X : Type 0} (k : ℕ) (numbers : List ℕ) (lists : List (List X)) → ((i : ℕ) → count_by (λ n. n == k + i) numbers ≤ length (slice_index_or lists i []))
    → count_by (λ n. nat_le k n) numbers ≤ sum_by length lists
few-numbers k numbers [] h = above-none k numbers h
few-numbers {X = X} k numbers (xs ∷ lists) h =
    let from : k ≡ k + 0 = omega arith in
    let first : count_by (λ n. n == k) numbers ≤ length xs = rw (ap (λ j. count_by (λ (n : ℕ). n == j) numbers) from) (h 0) in
    let rest : count_by (λ n. nat_le (suc k) n) numbers ≤ sum_by length lists =
    few-numbers (suc k) numbers lists (λ i. rw (ap (λ j. count_by (λ (n : ℕ). n == j) numbers) (one-more k i)) (h (suc i))) in
    omega (arith, above-next k numbers, first, rest, sum_by-cons (length {A = X}) xs lists)
  where
    one-more : (k i : ℕ) → suc k + i ≡ k + suc i
    one-more k i = omega arith

-- the numbers that some acts have, and whether one passes a test
abbrev passes : (ℕ → Bool) → Option ℕ → Bool
passes p None = false
passes p (Some n) = p n

count-numbers : (who : Act → Option ℕ) (p : ℕ → Bool) (by : Act → Bool) → ((a : Act) → by a ≡ passes p (who a)) → (acts : List Act)
    → count_by p (filter_map who acts) ≡ count_by by acts
count-numbers who p by same [] = refl
count-numbers who p by same (a ∷ acts) = one (who a) (same a) (count-numbers who p by same acts)
  where
    one : (o : Option ℕ) → by a ≡ passes p o → count_by p (filter_map who acts) ≡ count_by by acts → count_by p (cons_option o (filter_map who acts)) ≡ count_by by (a ∷ acts)
    one None e rest = rw (count-one by a acts, e) (omega (arith, rest))
    one (Some n) e rest = rw (count-one by a acts, e) (omega (arith, rest, count-one p n (filter_map who acts)))

-- So acts of actors with numbers are at most as many as the lines in all lists, where no actor has more acts than its
-- list has lines.
few-acts : {X : Type 0} (who : Act → Option ℕ) (every : Act → Bool) (of : ℕ → Act → Bool) (lists : List (List X)) (order : List Act)
    → ((a : Act) → every a ≡ passes (λ n. nat_le 0 n) (who a)) → ((i : ℕ) (a : Act) → of i a ≡ passes (λ n. n == i) (who a))
    → ((i : ℕ) → count_by (of i) order ≤ length (slice_index_or lists i [])) → count_by every order ≤ sum_by length lists
few-acts who every of lists order all each h =
    rw (← count-numbers who (λ n. nat_le 0 n) every all order)
    (few-numbers 0 (filter_map who order) lists (λ i. rw (from-none i, count-numbers who (λ n. n == i) (of i) (each i) order) (h i)))
  where
    from-none : (i : ℕ) → 0 + i ≡ i
    from-none i = omega arith

is-number : (n : ℕ) → true ≡ nat_le 0 n
is-number n = grind (arith, nat_tests)

-- the number of an act's processor, and of its tool
abbrev cpu_of : Act → Option ℕ
cpu_of (act.Processor cpu) = Some cpu.0
cpu_of (act.Tool tool) = None
cpu_of (act.Seen ring place) = None

abbrev tool_of : Act → Option ℕ
tool_of (act.Processor cpu) = None
tool_of (act.Tool tool) = Some tool.0
tool_of (act.Seen ring place) = None

abbrev is_tool_act : Act → Bool
is_tool_act (act.Processor cpu) = false
is_tool_act (act.Tool tool) = true
is_tool_act (act.Seen ring place) = false

pub counted-cpus : CountedCpusLaw
counted-cpus s order h = few-acts cpu_of is_cpu_act (λ i. is_of_cpu (record { 0 = i })) s.cpu_lines order all each (λ i. h.cpus (record { 0 = i }))
  where
    all : (a : Act) → is_cpu_act a ≡ passes (λ n. nat_le 0 n) (cpu_of a)
    all (act.Processor cpu) = is-number cpu.0
    all (act.Tool tool) = refl
    all (act.Seen ring place) = refl

    each : (i : ℕ) (a : Act) → is_of_cpu (record { 0 = i }) a ≡ passes (λ n. n == i) (cpu_of a)
    each i (act.Processor cpu) = refl
    each i (act.Tool tool) = refl
    each i (act.Seen ring place) = refl

counted-tools : (s : Scripted) (order : List Act) → IsCounted s order → count_by is_tool_act order ≤ sum_by length s.tool_lines
counted-tools s order h = few-acts tool_of is_tool_act (λ i. is_of_tool (record { 0 = i })) s.tool_lines order all each (λ i. h.tools (record { 0 = i }))
  where
    all : (a : Act) → is_tool_act a ≡ passes (λ n. nat_le 0 n) (tool_of a)
    all (act.Processor cpu) = refl
    all (act.Tool tool) = is-number tool.0
    all (act.Seen ring place) = refl

    each : (i : ℕ) (a : Act) → is_of_tool (record { 0 = i }) a ≡ passes (λ n. n == i) (tool_of a)
    each i (act.Processor cpu) = refl
    each i (act.Tool tool) = refl
    each i (act.Seen ring place) = refl

two-kinds : (acts : List Act) → count_by does_line acts ≡ count_by is_cpu_act acts + count_by is_tool_act acts
two-kinds [] = refl
two-kinds (a ∷ acts) = omega (arith, here a, two-kinds acts, count-one does_line a acts, count-one is_cpu_act a acts, count-one is_tool_act a acts)
  where
    here : (a : Act) → cond (does_line a) 1 0 ≡ cond (is_cpu_act a) 1 0 + cond (is_tool_act a) 1 0
    here (act.Processor cpu) = refl
    here (act.Tool tool) = refl
    here (act.Seen ring place) = refl

pub counted-lines : CountedLinesLaw
counted-lines s order h = omega (arith, two-kinds order, counted-cpus s order h, counted-tools s order h)

pub lengths : LengthsLaw
lengths [] = refl
lengths (a ∷ acts) = omega (arith, here a, lengths acts, count-one is_look a acts, count-one does_line a acts)
  where
    here : (a : Act) → 1 ≡ cond (is_look a) 1 0 + cond (does_line a) 1 0
    here (act.Processor cpu) = refl
    here (act.Tool tool) = refl
    here (act.Seen ring place) = refl
