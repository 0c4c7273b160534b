-- What lines leave to the processors, and to the next line.
use Rattle.std.specs.Prelude.{◌≡◌, ℕ, zero, suc, ◌<◌, ◌≤◌, ◌↔◌, ◌==◌, Bool, true, false, cond, [], ◌∷◌, ◌++◌, length, filter}
use Rattle.std.proofs.{Common.{arith, refl, sym, ap, subst, ◌∙◌, inl, inr}, lemmas.Bool.{cases_eq, false≢true, Decides.{nat_tests}}}
use Rattle.std.proofs.lemmas.List.{append-nil, map-append, Elements.{filter-append}}
use Rattle.perf_base.specs.{Cpus.{HasCpu}, declared.{numbers.{CpuNo.{CpuNo}, CpuSet.{CpuSet}, EventNo.{EventNo}}}}
use Rattle.stage_spec.specs.{Families.{leaving}, Hardware.{Hardware}, History.{Step, stage_step}}
use Rattle.stage_spec.specs.{Limits.{Limits, IsMachine, IsWithin}, Numbers.{numbers_below}}
use Rattle.stage_laws.specs.{Narrowing.{AreSettled}, Sound.{IsSound}}
use Rattle.stage_laws.proofs.{Sound.{step_sound}}
use Rattle.ring_spec.specs.{Sending.{length_by}}
use Rattle.world_spec.specs.{Kept.{IsKept}, Lines.{AreAtHome}, Quiet.{is_quiet}, Rescheduled.{AreRescheduled, AreUntouchedBut, AreUntouchedOutside, IsRescheduled}, StageOf.{stage_of}, Stepping.{HasStepped}, Value.{World}}
use Rattle.world_spec.proofs.{Coming.{number_true}, Lines.{KeepsAll, all-shares, all-slots, slots-become}}
use Rattle.machine.{specs.{Settled.{is_in}, Stepped.{limits_in, IsReady}}, proofs.Settling.{cpus_below, is-in_set}}
use Rattle.world_spec.proofs.Tables.{same_number, other_number}

-- the world after a step is ready for the next line
pub ready-then : (l : Limits) (w x : World) (step : Step) → IsReady w → IsMachine l w.hardware → IsWithin l step → x.hardware ≡ w.hardware → length x.quiet.running ≡ length w.quiet.running
    → AreAtHome x → stage_of x ≡ stage_step w.hardware (stage_of w) step → AreRescheduled w.hardware x → IsReady x
ready-then l w x step ready machine within hardware running homes stage rescheduled = record {
  machine = subst (λ (n : ℕ). IsMachine (record { cpus = n; kinds = length x.hardware.kind_pmus; rings = [] }) x.hardware) (sym running)
      (subst (λ (hw : Hardware). IsMachine (record { cpus = length w.quiet.running; kinds = length hw.kind_pmus; rings = [] }) hw) (sym hardware) ready.machine);
  sound = subst (λ (hw : Hardware). IsSound hw (stage_of x)) (sym hardware)
      (subst (IsSound w.hardware) (sym stage) (step_sound l w.hardware (stage_of w) step machine within ready.sound));
  rescheduled = subst (λ (hw : Hardware). AreRescheduled hw x) (sym hardware) rescheduled;
  homes = homes;
}

pub kept-stepped : (w x : World) (step : Step) → IsKept w.hardware w → IsKept x.hardware x → KeepsAll w x → is_quiet step ≡ true → ((e : EventNo) → leaving (stage_of w) step e ≡ [])
    → ((cpu : CpuNo) → length_by cpu step ≡ 0) → stage_of x ≡ stage_step w.hardware (stage_of w) step → HasStepped w.hardware w x step
kept-stepped w x step h h_then keeps quiet = slots-become w x step h h_then (all-slots w x keeps) (λ k. all-shares w x step k h quiet keeps)

pub kept-ready : (w x : World) (step : Step) → IsReady w → IsWithin (limits_in w) step → KeepsAll w x → stage_of x ≡ stage_step w.hardware (stage_of w) step → AreRescheduled w.hardware x → IsReady x
kept-ready w x step ready within keeps =
    ready-then (limits_in w) w x step ready ready.machine within keeps.hardware keeps.running
    (λ k cpu live at. let low : cpu.0 < length w.quiet.running = ready.homes k cpu (sym (keeps.live k) ∙ live) (sym (keeps.contexts k) ∙ at) in omega (arith, low, keeps.running))

-- of the processors, one alone
none-below : (own : CpuNo) (n : ℕ) → n ≤ own.0 → filter (λ cpu. own.0 == cpu.0) (cpus_below n) ≡ []
none-below own zero low = refl
none-below own (suc n) low =
    let cpu : CpuNo = record { 0 = n } in
    let cpus : cpus_below (suc n) ≡ cpus_below n ++ cpu ∷ [] = map-append (λ k. record { 0 = k }) (numbers_below n) (n ∷ []) in
    ap (filter (λ c. own.0 == c.0)) cpus
    ∙ (filter-append (λ c. own.0 == c.0) (cpus_below n) (cpu ∷ [])
    ∙ (λ i. none-below own n (omega (arith, low)) i ++ cond (other_number own.0 n (λ e. omega (arith, e, low)) i) (cpu ∷ []) []))

pub one-below : (own : CpuNo) (n : ℕ) → own.0 < n → filter (λ cpu. own.0 == cpu.0) (cpus_below n) ≡ own ∷ []
one-below own zero low = absurd (omega (arith, low))
one-below own (suc n) low =
    let cpu : CpuNo = record { 0 = n } in
    let cpus : cpus_below (suc n) ≡ cpus_below n ++ cpu ∷ [] = map-append (λ k. record { 0 = k }) (numbers_below n) (n ∷ []) in
    ap (filter (λ c. own.0 == c.0)) cpus
    ∙ (filter-append (λ c. own.0 == c.0) (cpus_below n) (cpu ∷ [])
    ∙ elim (cases_eq own.0 n) [
      | inl e ↦ (λ i. none-below own n (omega (arith, e)) i ++ cond (same_number own.0 n e i) (cpu ∷ []) []) ∙ ap (λ k. record { 0 = k } ∷ []) (sym e)
      | inr apart ↦
          (λ i. one-below own n (omega (arith, low, apart)) i ++ cond (other_number own.0 n apart i) (cpu ∷ []) []) ∙ append-nil (own ∷ [])
    ])

-- the processors that are touched are those of the set
pub filter-below : (p q : CpuNo → Bool) (n : ℕ) → ((cpu : CpuNo) → cpu.0 < n → p cpu ≡ q cpu) → filter p (cpus_below n) ≡ filter q (cpus_below n)
filter-below p q zero same = refl
filter-below p q (suc n) same = grind (arith, cpus_below, map-append, filter-append, filter-below p q n (λ c low. same c (omega (arith, low))))

pub in-by : (set : CpuSet) (cpu : CpuNo) (b : Bool) → (HasCpu set cpu → b ≡ true) → (b ≡ true → HasCpu set cpu) → is_in set cpu ≡ b
in-by set cpu true there back = is-in_set set cpu (back refl)
in-by set cpu false there back = grind (arith, nat_tests, false≢true)

-- a set of one processor
pub is-alone : (own : CpuNo) (set : CpuSet) (other : CpuNo) → (HasCpu set other ↔ (other.0 ≡ own.0)) → is_in set other ≡ (own.0 == other.0)
is-alone own set other alone = grind (arith, nat_tests, in-by, same_number, number_true)

pub settled-all : (hw : Hardware) (w : World) → AreRescheduled hw w → AreSettled hw (stage_of w)
settled-all hw w h cpu low = (h cpu low).settled

-- all stand as rescheduling leaves them where one was rescheduled and the others were left
pub rescheduled-but : (w v x : World) (cpu : CpuNo) → v.hardware ≡ w.hardware → length v.quiet.running ≡ length w.quiet.running → length x.quiet.running ≡ length w.quiet.running
    → AreRescheduled w.hardware w → IsRescheduled v.hardware x cpu → AreUntouchedBut cpu w v → AreUntouchedBut cpu v x → AreRescheduled w.hardware x
rescheduled-but w v x cpu hardware there size before own left others other low = elim (cases_eq other.0 cpu.0) [
  | inl e ↦ subst (λ (hw : Hardware). IsRescheduled hw x other) hardware (subst (λ (n : ℕ). IsRescheduled v.hardware x (record { 0 = n })) (sym e) own)
  | inr apart ↦
      let within : other.0 < length w.quiet.running = omega (arith, low, size) in
      let still : IsRescheduled v.hardware v other = subst (λ (hw : Hardware). IsRescheduled hw v other) (sym hardware) ((left other within apart).rescheduled (before other within)) in
      subst (λ (hw : Hardware). IsRescheduled hw x other) hardware ((others other (omega (arith, within, there)) apart).rescheduled still)
]

-- a processor that is not in the set stands as it stood
pub left-rescheduled : (w v : World) (set : CpuSet) → v.hardware ≡ w.hardware → length v.quiet.running ≡ length w.quiet.running → AreRescheduled w.hardware w
    → AreUntouchedOutside set w v
    → (cpu : CpuNo) → cpu.0 < length v.quiet.running → (HasCpu set cpu → ⊥) → IsRescheduled v.hardware v cpu
left-rescheduled w v set hardware running before others cpu low out = grind (arith, nat_tests)
