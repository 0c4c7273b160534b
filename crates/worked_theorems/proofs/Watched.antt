-- A case of an event that is opened, counts and is closed, with a look at a ring in between: which looks at the event
-- its order publishes, and what `watch` may write of them.
use Rattle.std.{specs.{Prelude.{◌≡◌, ℕ, List, [], ◌∷◌, ◌++◌, Contains, None, codes}, Fmt.{digits}}, proofs.Common.{arith, refl, sym, ap, subst}}
use Rattle.perf_base.specs.Scripts.{Scripted}
use Rattle.perf_base.specs.declared.attr.Kind.TheVariants as kind
use Rattle.perf_base.specs.declared.attr.TaskSel.TheVariants as tasks
use Rattle.perf_base.specs.declared.attr.CpuSel.TheVariants as cpus
use Rattle.perf_base.specs.declared.lines.Mode.TheVariants as mode
use Rattle.perf_base.specs.declared.lines.CpuLine.TheVariants as cpu_line
use Rattle.perf_base.specs.declared.lines.ToolLine.TheVariants as tool_line
use Rattle.stage_spec.specs.{Stage.{first_stage}, Fits.{fits, fits_beside, fits_below}, Verdict.{judge, judge_pass, judge_passes, verdicts}}
use Rattle.stage_spec.specs.{Settle.{settle_pass, settle, settle_each, settle_all}, Opening.{open_refusal, opened}, Closing.{closed}}
use Rattle.stage_spec.specs.{History.{stage_step, stage_after, steps_from}, Shares.{share}}
use Rattle.stage_spec.specs.{Sums.{is_reset_by, count_of, enabled_of, running_of, sums_of}, Families.{folded_from, folded_of, family_sums}}
use Rattle.user_page.specs.{declared.look.Look.{Look}, Looks.{last_look}}
use Rattle.report_spec.specs.Published.{looks_from, published_looks, IsWatched}
use Rattle.worked_theorems.proofs.answers.Words.{cpu, slot, ring, by_cpu, by_tool, seen, pmu, kind_line, attr, work, eight, four}

-- An event on the first processor counts two stretches of work, with a look at a ring between them. It is closed before
-- the third.
pub opened_and_closed : Scripted
opened_and_closed = record {
  cpus = 1;
  pmus = pmu 1 1 ∷ [];
  kinds = kind_line (codes "cycles") 0 1 ∷ [];
  tasks = [];
  rings = (ring 0, 64) ∷ [];
  cpu_lines = eight ((
      cpu_line.Work (work 100 mode.User 1 (500 ∷ [])) ∷
      cpu_line.Work (work 10 mode.User 2 (20 ∷ [])) ∷
      cpu_line.Work (work 5 mode.User 3 (7 ∷ [])) ∷
      []) ∷ []);
  tool_lines = four ((
      tool_line.Open (slot 0) (attr (kind.Hard 0) tasks.All (cpus.One (cpu 0)) 0 0 0 0) None ∷
      tool_line.Close (slot 0) ∷
      []) ∷ []);
  readers = [];
  order = by_tool 0 ∷ by_cpu 0 ∷ seen 0 0 ∷ by_cpu 0 ∷ by_tool 0 ∷ by_cpu 0 ∷ [];
}

abbrev look : (at count enabled running : ℕ) → Look
look at count enabled running = record { at = at; count = count; enabled = enabled; running = running }

-- The open is the first act and the close is the fifth. The third act is the look at the ring: it publishes none, but
-- the second stretch of work is the fourth act by it.
pub four_looks_are_published : published_looks opened_and_closed opened_and_closed.order (slot 0) ≡ look 0 0 0 0 ∷ look 1 0 0 0 ∷ look 2 500 100 100 ∷ look 4 520 110 110 ∷ []
unfolding opened_and_closed first_stage fits fits_beside fits_below judge judge_pass judge_passes verdicts settle_pass settle settle_each settle_all open_refusal opened closed stage_step stage_after steps_from share is_reset_by count_of enabled_of running_of sums_of folded_from folded_of family_sums looks_from published_looks
four_looks_are_published = refl

-- The watcher may have seen the look after the first stretch of work last. The last look of all is that after the
-- second.
abbrev text : List ℕ
text = codes "watch 0 at=2 500 100 100\n" ++ codes "final 0 520 110 110\n"

pub an_older_look_and_the_last_are_written : IsWatched opened_and_closed opened_and_closed.order (slot 0) text
unfolding digits
an_older_look_and_the_last_are_written = record {
  seen = look 2 500 100 100;
  final = look 4 520 110 110;
  published = subst (λ looks. Contains looks (look 2 500 100 100)) (sym four_looks_are_published) (2, omega arith, refl);
  last = ap last_look four_looks_are_published;
  written = refl;
}
