-- A line whose sheet was filled behind the processor's last line, and is planned, tests no counter.
use Rattle.std.{specs.Prelude.{◌≡◌, ℕ, option_map, Some, None, slice_get, slice_index_or}, proofs.Common.{sym, ap, ◌∙◌, inl, inr}}
use Rattle.std.proofs.lemmas.Option.{slice_get-get_or}
use Rattle.perf_base.specs.{Scripts.{Scripted, lines_of_cpu}, declared.{lines.CpuLine.{CpuLine}, numbers.CpuNo.{CpuNo}}}
use Rattle.perf_base.specs.declared.acts.Actor.TheVariants as actor
use Rattle.perf_base.specs.declared.lines.CpuLine.TheVariants as line
use Rattle.stage_spec.specs.History.{Step, CpuStep}
use Rattle.cpu_sched.specs.{After.{after_brief}, Briefs.{ProcessorBrief}, Sheets.{Held, IsPlannedFor}}
use Rattle.machine.specs.{Counted.{IsCountedBy}, Leading.{Kept, HasLine, next_step}, Prepared.{prepared}}
use Rattle.perf_book.specs.Sheets.{IsReady}

planned-by : (b : ProcessorBrief) (sheet : Held) → sheet.brief ≡ Some b → IsReady sheet → IsPlannedFor b sheet
planned-by b sheet brief (inl none) = absurd (let clash : None ≡ Some b = sym none ∙ brief in cc)
planned-by b sheet brief (inr planned) = record { planned = planned; brief = brief }

pub planned-free : (s : Scripted) (m n : Kept) (cpu : CpuNo) (before sheet : Held) (t u : ℕ) → HasLine s m (actor.Processor cpu) → before ≡ prepared s m cpu → sheet.brief ≡ before.brief → IsReady sheet
    → ((x : Step) → next_step s m (actor.Processor cpu) ≡ Some x → IsCountedBy (Some sheet) x m.world n.world t u) → u ≡ t
planned-free s m n cpu before sheet t u has filled same ready counted =
    let lines = lines_of_cpu s cpu in
    let done : ℕ = slice_index_or m.cpus cpu.0 0 in
    let l : CpuLine = slice_index_or lines done line.Tick in
    let is : slice_get lines done ≡ Some l = slice_get-get_or lines done line.Tick has in
    let next : next_step s m (actor.Processor cpu) ≡ Some (CpuStep cpu l) = ap (option_map (CpuStep cpu)) is in
    let brief : sheet.brief ≡ Some (after_brief m.world cpu l) = same ∙ (ap (λ h. h.brief) filled ∙ ap (option_map (after_brief m.world cpu)) is) in
    (counted (CpuStep cpu l) next).free (planned-by (after_brief m.world cpu l) sheet brief ready)
