-- A machine of two PMUs, and scripts that declare two, worked out by hand.
use Rattle.std.specs.Prelude.{◌≡◌, ℕ, zero, suc, ◌<◌, [], ◌∷◌, true, false, Some, None, Any, IfSome, slice_get, slice_index, length}
use Rattle.std.proofs.Common.{arith, refl, sym, subst}
use Rattle.perf_base.specs.{Cpus.{HasCpu}, Scripts.{Scripted, IsCovered, empty_script, with_pmu}}
use Rattle.perf_base.specs.declared.attr.Kind.TheVariants as kind
use Rattle.stage_spec.specs.Hardware.{Hardware, is_software, pmu_of_cpu, pmu_of_kind, mask_of}
use Rattle.pmu_model.specs.Pmus.{seen}
use Rattle.worked_theorems.proofs.answers.Words.{cpu, pmu}

-- One counter on the first processor and two on the second, each processor of a PMU of its own, and a kind of each PMU.
abbrev two_pmus : Hardware
two_pmus =
    seen 2 (0 ∷ 1 ∷ 0 ∷ 0 ∷ 0 ∷ 0 ∷ 0 ∷ 0 ∷ []) (1 ∷ 2 ∷ 0 ∷ 0 ∷ [])
    2 (0 ∷ 1 ∷ 0 ∷ 0 ∷ 0 ∷ 0 ∷ 0 ∷ 0 ∷ 0 ∷ 0 ∷ 0 ∷ 0 ∷ 0 ∷ 0 ∷ 0 ∷ 0 ∷ []) (1 ∷ 3 ∷ 0 ∷ 0 ∷ 0 ∷ 0 ∷ 0 ∷ 0 ∷ 0 ∷ 0 ∷ 0 ∷ 0 ∷ 0 ∷ 0 ∷ 0 ∷ 0 ∷ [])

-- two processors
pub two_processors : length two_pmus.cpu_pmus ≡ 2
two_processors = refl

-- the counters of each processor, and of the second PMU
pub one_counter_on_the_first : slice_index two_pmus.counters (pmu_of_cpu two_pmus (cpu 0)) ≡ 1
one_counter_on_the_first = refl

pub two_counters_on_the_second : slice_index two_pmus.counters (pmu_of_cpu two_pmus (cpu 1)) ≡ 2
two_counters_on_the_second = refl

pub two_counters_of_the_second_pmu : slice_index two_pmus.counters 1 ≡ 2
two_counters_of_the_second_pmu = refl

-- the PMU of the second processor
pub the_second_processor_is_of_the_second_pmu : pmu_of_cpu two_pmus (cpu 1) ≡ 1
the_second_processor_is_of_the_second_pmu = refl

-- The second kind is counted by two counters of the second PMU. A software kind has neither counters nor a PMU.
pub the_second_kind_has_two_counters : mask_of two_pmus (kind.Hard 1) ≡ 3
the_second_kind_has_two_counters = refl

pub a_software_kind_has_no_counter : mask_of two_pmus kind.Dummy ≡ 0
a_software_kind_has_no_counter = refl

pub the_second_kind_is_of_the_second_pmu : pmu_of_kind two_pmus (kind.Hard 1) ≡ Some 1
the_second_kind_is_of_the_second_pmu = refl

pub a_software_kind_is_of_no_pmu : pmu_of_kind two_pmus kind.TaskClock ≡ None
a_software_kind_is_of_no_pmu = refl

-- which kinds are counted in software
pub switches_are_software : is_software kind.ContextSwitches ≡ true
switches_are_software = refl

pub a_hardware_kind_is_not : is_software (kind.Hard 0) ≡ false
a_hardware_kind_is_not = refl

-- A script whose second processor is of its first PMU, and whose first one is of its second.
abbrev crossed : Scripted
crossed = with_pmu (with_pmu (empty_script 2) (pmu 1 2)) (pmu 3 1)

-- What says that it has a processor can only be that PMU's number.
pub the_first_is_of_the_second_pmu : (n : ℕ) → n < length crossed.pmus → IfSome (slice_get crossed.pmus n) (λ p. HasCpu p.cpus (cpu 0)) → n ≡ 1
the_first_is_of_the_second_pmu zero below has = absurd (cc)
the_first_is_of_the_second_pmu (suc zero) below has = refl
the_first_is_of_the_second_pmu (suc (suc n)) below has = absurd (omega (arith, below))

pub the_second_is_of_the_first_pmu : (n : ℕ) → n < length crossed.pmus → IfSome (slice_get crossed.pmus n) (λ p. HasCpu p.cpus (cpu 1)) → n ≡ 0
the_second_is_of_the_first_pmu zero below has = refl
the_second_is_of_the_first_pmu (suc zero) below has = absurd (cc)
the_second_is_of_the_first_pmu (suc (suc n)) below has = absurd (omega (arith, below))

-- Three processors are covered where each of them is of a PMU: by none of no PMU, not by one of the first and the
-- third, and by that one with one of the first two.
abbrev half_covered : Scripted
half_covered = with_pmu (empty_script 3) (pmu 1 5)

pub no_pmu_covers : ¬ IsCovered (empty_script 3)
no_pmu_covers covered = omega (arith, (covered (cpu 0) (omega (arith))).2)

pub one_pmu_leaves_the_second_out : ¬ IsCovered half_covered
one_pmu_leaves_the_second_out covered = left_out (covered (cpu 1) (omega (arith)))
  where
    left_out : ¬ Any (λ p. HasCpu p.cpus (cpu 1)) half_covered.pmus
    left_out (zero, x, below, same, has) = let h : HasCpu (pmu 1 5).cpus (cpu 1) = subst (λ p. HasCpu p.cpus (cpu 1)) (sym same) has in cc
    left_out (suc n, x, below, same, has) = omega (arith, below)

pub two_pmus_cover : IsCovered (with_pmu half_covered (pmu 3 2))
two_pmus_cover c below = covers c.0 below
  where
    covers : (n : ℕ) → n < 3 → Any (λ p. HasCpu p.cpus (cpu n)) (with_pmu half_covered (pmu 3 2)).pmus
    covers zero l = (0, pmu 1 5, omega (arith), refl, refl)
    covers (suc zero) l = (1, pmu 3 2, omega (arith), refl, refl)
    covers (suc (suc zero)) l = (0, pmu 1 5, omega (arith), refl, refl)
    covers (suc (suc (suc n))) l = absurd (omega (arith, l))

-- Both processors of the first script are covered too.
pub both_processors_are_covered : IsCovered crossed
both_processors_are_covered c below = covers c.0 below
  where
    covers : (n : ℕ) → n < 2 → Any (λ p. HasCpu p.cpus (cpu n)) crossed.pmus
    covers zero l = (1, pmu 3 1, omega (arith), refl, refl)
    covers (suc zero) l = (0, pmu 1 2, omega (arith), refl, refl)
    covers (suc (suc n)) l = absurd (omega (arith, l))
