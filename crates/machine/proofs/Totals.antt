-- Totals grow by work alone, and by little.
use Rattle.std.specs.Prelude.{◌≡◌, ℕ, zero, suc, ◌+◌, ◌*◌, ◌^◌, ◌<◌, ◌≤◌, All, List, [], ◌∷◌, length, slice_index, slice_index_or, slice_set}
use Rattle.std.proofs.{Common.{arith}, lemmas.Bool.{Decides.{nat_tests}}}
use Rattle.std.proofs.lemmas.List.{get_or-set_same, get_or-set_other, Elements.{All-head, All-tail}}
use Rattle.perf_base.specs.{declared.{lines.{Mode.{Mode}, Work.{Work}}, numbers.CpuNo.{CpuNo}}, Scripts.{IsCpuLine}}
use Rattle.perf_base.specs.declared.lines.CpuLine.TheVariants as line
use Rattle.perf_base.specs.declared.lines.Mode.TheVariants as mode
use Rattle.world_spec.specs.{Kept.{IsKept}, Metering.{HasMeterRoom, add_each, add_hits, metered}, Value.{World, Totals, totals_at}}
use Rattle.machine.{specs.{Leading.{Kept}, Room.{HasRoom}, Totals.{AreUpTo, HaveGrown}}, proofs.History.{cpu-is, raised}}

pub further : (few most : ℕ) (t : Totals) → few ≤ most → AreUpTo few t → AreUpTo most t
further few most t le h = record { user = λ number. omega (arith, le, h.user number); kernel = λ number. omega (arith, le, h.kernel number) }

-- occurrences within the limit add no more than it to each total
each-most : (most : ℕ) (numbers hits : List ℕ) (number : ℕ) → All (λ n. n ≤ most) hits → slice_index (add_each numbers hits) number ≤ slice_index numbers number + most
each-most most [] hits number all = omega arith
each-most most (n ∷ numbers) [] number all = omega arith
each-most most (n ∷ numbers) (m ∷ hits) zero all = grind (arith, nat_tests, All-head)
each-most most (n ∷ numbers) (m ∷ hits) (suc number) all = each-most most numbers hits number (All-tail (λ k. k ≤ most) m hits all)

hits-most : (by : Mode) (hits : List ℕ) (t : Totals) (few most : ℕ) → All (λ n. n ≤ most) hits → AreUpTo few t → AreUpTo (few + most) (add_hits by hits t)
hits-most mode.User hits t few most all h = record {
  user = λ number. omega (arith, each-most most t.user hits number all, h.user number);
  kernel = λ number. omega (arith, h.kernel number);
}
hits-most mode.Kernel hits t few most all h = record {
  user = λ number. omega (arith, h.user number);
  kernel = λ number. omega (arith, each-most most t.kernel hits number all, h.kernel number);
}

-- a stretch of work grows the totals of its processor so
pub work-grows : (kinds : ℕ) (w after : World) (cpu : CpuNo) (work : Work) → IsCpuLine kinds (line.Work work) → IsKept w.hardware w → cpu.0 < length w.quiet.running
    → after.quiet.totals ≡ (metered cpu work w.quiet).totals → HaveGrown cpu w after
work-grows kinds w after cpu work h kept low is = grind (arith, nat_tests, get_or-set_same, hits-most, get_or-set_other)

-- and a line that leaves the totals grows none
pub none-grow : (cpu : CpuNo) (w after : World) → after.quiet.totals ≡ w.quiet.totals → HaveGrown cpu w after
none-grow cpu w after same = grind (arith, nat_tests, further)

-- the clock and the totals have room for a stretch of work
pub meter-room : (w : World) (kinds : ℕ) (cpu : CpuNo) (work : Work) → HasRoom w → IsCpuLine kinds (line.Work work) → HasMeterRoom w cpu work
meter-room w kinds cpu work room h =
    let up : AreUpTo (2 ^ 62 + 1000000000) (add_hits work.mode work.hits (totals_at w cpu)) = hits-most work.mode work.hits (totals_at w cpu) (2 ^ 62) 1000000000 h.hits (room.totals cpu) in
    grind (arith, nat_tests)

-- After a line the totals of each processor are within the lines that it has done.
pub cpu-totals : (m : Kept) (cpu : CpuNo) (after : World) → cpu.0 < length m.cpus → HaveGrown cpu m.world after
    → ((own : CpuNo) → AreUpTo (slice_index_or m.cpus own.0 0 * 1000000000) (totals_at m.world own))
    → (own : CpuNo) → AreUpTo (slice_index_or (slice_set m.cpus cpu.0 (slice_index_or m.cpus cpu.0 0 + 1)) own.0 0 * 1000000000) (totals_at after own)
cpu-totals m cpu after low grown before own = grind (arith, nat_tests, raised, cpu-is, further)
