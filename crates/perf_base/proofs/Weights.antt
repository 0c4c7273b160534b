-- Sums, counts and the least of a list, entry by entry, and how large they get.
use Rattle.std.proofs.Common.{◌≡◌, ℕ, ◌+◌, ◌*◌, ◌<◌, ◌≤◌, Bool, cond, ltb, List, [], ◌∷◌, ◌++◌, length, take, get_or, All, refl, sym, ap, ◌∙◌, arith}
use Rattle.std.proofs.{Math.Nat.{mul-le-mul_right}, lemmas.{Bool.Decides.{nat_tests}, List.{take_more, Elements.{All-weaker}}}}
use Rattle.std.proofs.lemmas.List.Sums.{sum_by-cons, sum_by-le, sum_by_more, sum_by_more_le, sum_by-le-sum_by, count_by-le-length, get_or-le-sum_by}
use Rattle.std.specs.Prelude.{sum_by, count_by}
use Rattle.perf_base.specs.{declared.lines.{CpuLine.{CpuLine}, ToolLine.{ToolLine}}, Scripts.{Scripted, IsScript, IsCpuLine}, Light.{IsLight}}
use Rattle.perf_base.specs.Weight.{period_of, opens_sampling, lesser, least_by, shares, least_period, sampling_opens, shares_of, weight}
use Rattle.perf_base.specs.declared.lines.CpuLine.TheVariants as cpu_line
use Rattle.perf_base.specs.declared.lines.ToolLine.TheVariants as tool_line

lesser_none : (a : ℕ) → lesser a 0 ≡ a
lesser_none a = grind (arith, nat_tests)

lesser_assoc : (a b c : ℕ) → lesser a (lesser b c) ≡ lesser (lesser a b) c
lesser_assoc a b c = grind (arith, nat_tests)

least_by-push : {X : Type 0} (f : X → ℕ) (xs : List X) (x : X) → least_by f (xs ++ x ∷ []) ≡ lesser (least_by f xs) (f x)
least_by-push f [] x = lesser_none (f x)
least_by-push f (y ∷ xs) x = ap (lesser (f y)) (least_by-push f xs x) ∙ lesser_assoc (f y) (least_by f xs) (f x)

pub least_by_more : {X : Type 0} (f : X → ℕ) (xs : List X) (i : ℕ) (d : X) → i < length xs → least_by f (take (i + 1) xs) ≡ lesser (least_by f (take i xs)) (f (get_or xs i d))
least_by_more f xs i d l = ap (least_by f) (take_more xs i d l) ∙ least_by-push f (take i xs) (get_or xs i d)

lesser_zero : (a b : ℕ) → lesser a b ≡ 0 → (a ≡ 0) × (b ≡ 0)
lesser_zero a b e = grind (arith, nat_tests)

abbrev counted : Bool → ℕ
counted b = cond b 1 0

closed : (period : ℕ) → period ≡ 0 → counted (ltb 0 period) ≡ 0
closed period e = grind (arith, nat_tests)

-- a line that gives no period opens nothing that samples
opens_none : (line : ToolLine) → period_of line ≡ 0 → counted (opens_sampling line) ≡ 0
opens_none (tool_line.Open slot attr leader) e = closed attr.period e
opens_none (tool_line.Enable event group) e = refl
opens_none (tool_line.Disable event group) e = refl
opens_none (tool_line.Reset event group) e = refl
opens_none (tool_line.Period event period) e = refl
opens_none (tool_line.Read event size) e = refl
opens_none (tool_line.Map event ring) e = refl
opens_none (tool_line.Output event target) e = refl
opens_none (tool_line.Close event) e = refl
opens_none (tool_line.Why event) e = refl
opens_none (tool_line.Seats cpu) e = refl

-- a sum of nothing, where no entry has a least
nothing : {X : Type 0} (f g : X → ℕ) (xs : List X) → ((x : X) → f x ≡ 0 → g x ≡ 0) → least_by f xs ≡ 0 → sum_by g xs ≡ 0
nothing f g [] h e = refl
nothing f g (x ∷ xs) h e =
    let z = lesser_zero (f x) (least_by f xs) e in
    let here : g x ≡ 0 = h x z.0 in
    let there : sum_by g xs ≡ 0 = nothing f g xs h z.1 in
    sum_by-cons g x xs ∙ omega (arith, here, there)

pub no_opens : (s : Scripted) → least_period s ≡ 0 → sampling_opens s ≡ 0
no_opens s e = grind (arith, nat_tests, nothing, opens_none)

-- no more opens than lines
pub opens_few : (s : Scripted) → IsScript s → sampling_opens s ≤ 16384
opens_few s h = omega (arith, sum_by-le-sum_by (count_by opens_sampling) length s.tool_lines (λ lines. count_by-le-length opens_sampling lines), h.lines_few)

pub shares_small : (period hits : ℕ) → 0 < period → hits ≤ 1000000000 → shares period hits ≤ 1000000000
shares_small period hits p h = grind arith

pub shares_few : (period : ℕ) (hits : List ℕ) → 0 < period → length hits ≤ 16 → All (λ n. n ≤ 1000000000) hits → sum_by (shares period) hits ≤ 16000000000
shares_few period hits p l h =
    let each : All (λ n. shares period n ≤ 1000000000) hits = All-weaker (λ n. n ≤ 1000000000) (λ n. shares period n ≤ 1000000000) (λ n g. shares_small period n p g) hits h in
    omega (arith, sum_by-le (shares period) 1000000000 hits each, mul-le-mul_right 1000000000 l)

pub light : (kinds : ℕ) (line : CpuLine) → IsCpuLine kinds line → IsLight line
light kinds (cpu_line.Switch to) h = tt
light kinds (cpu_line.Work w) h = h.hits
light kinds cpu_line.Tick h = tt
light kinds (cpu_line.Fork task) h = tt
light kinds cpu_line.Exit h = tt

pub lines_light : (kinds : ℕ) (lines : List CpuLine) → All (IsCpuLine kinds) lines → All IsLight lines
lines_light kinds lines h = All-weaker (IsCpuLine kinds) IsLight (light kinds) lines h

-- the sum so far and one list's sum, within the limit of lines
pub sum_few : (lists : List (List CpuLine)) (i sum more : ℕ) → i < length lists → sum_by length lists ≤ 16384
    → sum ≤ sum_by length (take i lists) * 16000000000 → more ≤ length (get_or lists i []) * 16000000000
    → (sum + more ≤ sum_by length (take (i + 1) lists) * 16000000000) × (sum + more ≤ 16384 * 16000000000)
sum_few lists i sum more l few h g = grind (arith, nat_tests, length, take, get_or, sum_by_more, sum_by_more_le)

pub no_weight : (s : Scripted) → least_period s ≡ 0 → 0 ≡ weight s
no_weight s e = sym (ap (λ n. n * shares_of s (least_period s)) (no_opens s e) ∙ omega arith)

-- the lines of one processor are within their limits
pub lines_few : (s : Scripted) (cpu : ℕ) → IsScript s → cpu < length s.cpu_lines → length (get_or s.cpu_lines cpu []) ≤ 16384
lines_few s cpu h l = omega (arith, get_or-le-sum_by length s.cpu_lines cpu [] l, h.lines_few)

-- the least of the lines read so far
pub least_read : (lines : List ToolLine) (i : ℕ) (d : ToolLine) (so_far n least : ℕ) → i < length lines → so_far ≡ least_by period_of (take i lines) → n ≡ period_of (get_or lines i d)
    → least ≡ lesser so_far n → least ≡ least_by period_of (take (i + 1) lines)
least_read lines i d so_far n least l e p h =
    let m = least_by_more period_of lines i d l in
    h ∙ (ap (λ k. lesser k n) e ∙ (ap (lesser (least_by period_of (take i lines))) p ∙ sym m))
