-- Settling several processors, one after the other: all of them are settled then, and only those that were not have to
-- be.
use Rattle.std.specs.{Prelude.{◌≡◌, ◌≢◌, ℕ, zero, suc, ◌<◌, ◌≤◌, ◌==◌, ◌||◌, Bool, true, false, List, [], ◌∷◌, map, filter, length}, List.{list_any}}
use Rattle.std.proofs.Common.{arith, refl, sym, ap, ◌∙◌, inl, inr}
use Rattle.std.proofs.lemmas.{Bool.{cases_Bool, cases_eq, cases_lt, false≢true, or_cases, or_right, or_left, Decides.{nat_tests}}, List.{map-append}}
use Rattle.std.proofs.lemmas.List.Folds.{list_any-append}
use Rattle.perf_base.specs.declared.numbers.CpuNo.{CpuNo}
use Rattle.stage_spec.specs.{Hardware.{Hardware}, Numbers.{numbers_below}, Stage.{Stage, all_cpus}, Verdict.{is_eligible, passes}}
use Rattle.stage_spec.{specs.Settle.{settle, settle_each, IsSettled}, proofs.{Each.{Each, append-Each}, Settling.{filter-yes, filter-no}}}
use Rattle.stage_spec.proofs.{Settled.{settles_once}, Shape.{settle-shape}}
use Rattle.stage_laws.{specs.{Sound.{AreRunning}, Standings.{briefs, brief_of}}, proofs.RunningTasks.{settle-keeps}}
use Rattle.stage_laws.proofs.{Tasks.{numbered, kept-AreRunning}, ByStandings.{settled_by_briefs}, Others.{settle-others}}

-- room for all contexts, and each running task in one place
pub record IsRoomy (s : Stage) : Type 0 where
  pub size : length s.contexts ≡ 72
  pub running : AreRunning s

settle-roomy : (hw : Hardware) (cpu : CpuNo) (s : Stage) → IsRoomy s → IsRoomy (settle hw cpu s)
settle-roomy hw cpu s h = record { size = (settle-shape hw cpu s).contexts ∙ h.size; running = kept-AreRunning s (settle hw cpu s) (settle-keeps hw cpu s) h.running }

-- equal passes give equal briefs
pub briefs-of_passes : (hw : Hardware) (cpu : CpuNo) (s t : Stage) → passes t cpu ≡ passes s cpu → briefs hw t cpu ≡ briefs hw s cpu
briefs-of_passes hw cpu s t same = ap (map (λ pass. map (brief_of hw) (filter (is_eligible hw cpu) pass))) same

-- one processor, by its number
abbrev pub is_cpu : CpuNo → CpuNo → Bool
is_cpu cpu other = other.0 == cpu.0

other-settled : (hw : Hardware) (cpu other : CpuNo) (s : Stage) → IsRoomy s → other.0 < 8 → other.0 ≢ cpu.0 → IsSettled hw other s → IsSettled hw other (settle hw cpu s)
other-settled hw cpu other s h low apart settled = search (nat_tests, settled_by_briefs, briefs-of_passes, settle-others)

-- what is settled stays so
pub stays-settled : (hw : Hardware) (cpus : List CpuNo) (cpu : CpuNo) (s : Stage) → IsRoomy s → cpu.0 < 8 → IsSettled hw cpu s → IsSettled hw cpu (settle_each hw cpus s)
unfolding settle_each
stays-settled hw [] cpu s h low settled = settled
stays-settled hw (c ∷ cpus) cpu s h low settled = elim (cases_eq cpu.0 c.0) [
  | inl same ↦ grind (arith, nat_tests, numbered, same, stays-settled hw cpus cpu s h low settled)
  | inr apart ↦ stays-settled hw cpus cpu (settle hw c s) (settle-roomy hw c s h) low (other-settled hw c cpu s h low apart settled)
]

-- each of those that were settled is
pub each-settled : (hw : Hardware) (cpus : List CpuNo) (cpu : CpuNo) (s : Stage) → IsRoomy s → cpu.0 < 8 → list_any (is_cpu cpu) cpus ≡ true → IsSettled hw cpu (settle_each hw cpus s)
unfolding settle_each
each-settled hw [] cpu s h low there = absurd (false≢true there)
each-settled hw (c ∷ cpus) cpu s h low there = elim (cases_eq c.0 cpu.0) [
  | inl same ↦ grind (arith, nat_tests, numbered, same, settles_once, stays-settled, settle-roomy)
  | inr apart ↦ elim (or_cases (c.0 == cpu.0) (list_any (is_cpu cpu) cpus) there) [
    | inl same ↦ absurd (apart (grind (arith, nat_tests, same)))
    | inr later ↦ each-settled hw cpus cpu (settle hw c s) (settle-roomy hw c s h) low later
  ]
]

-- two processors of which a test takes one are two
differ : (test : CpuNo → Bool) (cpu other : CpuNo) → test cpu ≡ true → test other ≡ false → other.0 ≢ cpu.0
differ test cpu other takes leaves same = false≢true (sym leaves ∙ (ap (λ n. test (numbered n)) same ∙ takes))

-- only those have to be settled that a test takes, where all others are settled
pub only-some : (hw : Hardware) (test : CpuNo → Bool) (n : ℕ) (cpus : List CpuNo) (s : Stage) → n ≤ 8 → IsRoomy s → Each (λ c. c.0 < n) cpus
    → ((c : CpuNo) → c.0 < n → test c ≡ false → IsSettled hw c s) → settle_each hw cpus s ≡ settle_each hw (filter test cpus) s
unfolding settle_each Each
only-some hw test n [] s small h within settled = refl
only-some hw test n (c ∷ cpus) s small h within settled = elim (cases_Bool (test c)) [
  | inl takes ↦
      only-some hw test n cpus (settle hw c s) small (settle-roomy hw c s h) within.1
      (λ other low leaves. other-settled hw c other s h (omega (arith, low, small)) (differ test c other takes leaves) (settled other low leaves))
      ∙ ap (λ cs. settle_each hw cs s) (sym (filter-yes test c cpus takes))
  | inr leaves ↦ grind (arith, nat_tests, leaves, filter-no, only-some hw test n cpus s small h within.1 settled)
]

-- and those that it does not take reach what they did
pub others-reach : (hw : Hardware) (test : CpuNo → Bool) (cpus : List CpuNo) (cpu : CpuNo) (s : Stage) → IsRoomy s → test cpu ≡ false → passes (settle_each hw (filter test cpus) s) cpu ≡ passes s cpu
unfolding settle_each
others-reach hw test [] cpu s h leaves = refl
others-reach hw test (c ∷ cpus) cpu s h leaves = elim (cases_Bool (test c)) [
  | inl takes ↦
      ap (λ cs. passes (settle_each hw cs s) cpu) (filter-yes test c cpus takes)
      ∙ (others-reach hw test cpus cpu (settle hw c s) (settle-roomy hw c s h) leaves ∙ settle-others hw s c cpu h.size h.running (differ test c cpu takes leaves))
  | inr away ↦ ap (λ cs. passes (settle_each hw cs s) cpu) (filter-no test c cpus away) ∙ others-reach hw test cpus cpu s h leaves
]

-- the processors that there are
cpus-within : (n m : ℕ) → n ≤ m → Each (λ c. c.0 < m) (map numbered (numbers_below n))
unfolding Each
cpus-within zero m h = tt
cpus-within (suc n) m h = rw (map-append) (append-Each (λ c. c.0 < m) (map numbered (numbers_below n)) (numbered n ∷ []) (cpus-within n m (omega (arith, h))) (omega (arith, h), tt))

pub all-within : (s : Stage) → Each (λ c. c.0 < length s.running) (all_cpus s)
all-within s = cpus-within (length s.running) (length s.running) (omega arith)

cpu-there : (n : ℕ) (cpu : CpuNo) → cpu.0 < n → list_any (is_cpu cpu) (map numbered (numbers_below n)) ≡ true
cpu-there zero cpu h = absurd (omega (arith, h))
cpu-there (suc n) cpu h =
    let split : list_any (is_cpu cpu) (map numbered (numbers_below (suc n))) ≡ (list_any (is_cpu cpu) (map numbered (numbers_below n)) || list_any (is_cpu cpu) (numbered n ∷ [])) =
    ap (list_any (is_cpu cpu)) (map-append numbered (numbers_below n) (n ∷ [])) ∙ list_any-append (is_cpu cpu) (map numbered (numbers_below n)) (numbered n ∷ []) in
    split ∙ elim (cases_lt cpu.0 n) [
      | inl low ↦ or_left (list_any (is_cpu cpu) (map numbered (numbers_below n))) (list_any (is_cpu cpu) (numbered n ∷ [])) (cpu-there n cpu low)
      | inr high ↦ grind (arith, nat_tests, high, or_right, numbered, or_left)
    ]

pub is-there : (s : Stage) (cpu : CpuNo) → cpu.0 < length s.running → list_any (is_cpu cpu) (all_cpus s) ≡ true
is-there s cpu h = cpu-there (length s.running) cpu h
