-- The run of a made script, and its summary.
use Rattle.std.{specs.Prelude.{◌≡◌, ℕ, ◌≤◌, List, length, slice_get}, proofs.Common.{arith, ap, subst, sym, ◌∙◌}}
use Rattle.perf_base.specs.{declared.numbers.RingNo.{RingNo}, Scripts.{Scripted, IsCovered}, Weight.{weight}}
use Rattle.stage_spec.specs.Order.{IsComplete}
use Rattle.ring_spec.specs.Account.{Account}
use Rattle.report_spec.specs.{Answers.{IsAnswered}, Report.{rings_after}}
use Rattle.report.specs.{Told.{AreTold, rings_of}, Summary.{summary_text, totals_of}, declared.summary.Summary.{Summary}}
use Rattle.report.proofs.MadeOrder.{complete_law, no_look_law, order_length}
use Rattle.run_end.specs.Ended.{Ran}
use Rattle.perf_book.specs.Ending.{IsEnd}
use Rattle.work_maker.{specs.Rounds.{script_of_rounds}, proofs.{Sound.{covered_law}, Weights.{weight_law}}}
use Rattle.perf_top.{specs.Outcome.{HasBadLook, IsSummary}, proofs.Told.{are-told}}

-- what a run of a made script asks for
pub made-covered : (n : ℕ) (s : Scripted) → s ≡ script_of_rounds n → IsCovered s
made-covered n s e = subst IsCovered (sym e) (covered_law n)

pub made-light : (n : ℕ) (s : Scripted) → n ≤ 1000 → s ≡ script_of_rounds n → weight s ≤ 65536
made-light n s few e = omega (arith, few, ap weight e, weight_law n)

pub made-short : (n : ℕ) (s : Scripted) → n ≤ 1000 → s ≡ script_of_rounds n → length s.order ≤ 4194304
made-short n s few e = omega (arith, few, ap (λ t. length t.order) e, order_length n)

pub made-complete : (n : ℕ) (s : Scripted) → s ≡ script_of_rounds n → IsComplete s s.order
made-complete n s e = subst (λ t. IsComplete t t.order) (sym e) (complete_law n)

-- no look is bad where there is none
pub no-bad-look : (n index : ℕ) (s : Scripted) (ring : RingNo) (last head given : ℕ) → s ≡ script_of_rounds n → HasBadLook s index ring last head given → ⊥
no-bad-look n index s ring last head given e bad = no_look_law n index ring given (sym (ap (λ t. slice_get t.order index) e) ∙ bad.look)

-- what a finished run of it sums up to
pub summed-up : (n : ℕ) (e : Ran) (s : Summary) → IsEnd e → e.script ≡ script_of_rounds n → e.order ≡ (script_of_rounds n).order → s.rounds ≡ n
    → ((rings : List (RingNo × Account)) → AreTold (rings_of e) rings → s.totals ≡ totals_of e.script e.answers rings) → IsSummary n (script_of_rounds n) (summary_text s.rounds s.totals)
summed-up n e s end script order rounds totals =
    let told : s.totals ≡ totals_of e.script e.answers (rings_after e.script e.order) =
    totals (rings_after e.script e.order) (are-told e.script e.order e.ins e.ends end.script end.rings end.shown end.taken) in
    let made : s.totals ≡ totals_of (script_of_rounds n) e.answers (rings_after (script_of_rounds n) (script_of_rounds n).order) =
    told ∙ (λ i. totals_of (script i) e.answers (rings_after (script i) (order i))) in
    record {
      answers = e.answers;
      answered = subst (λ acts. IsAnswered (script_of_rounds n) acts e.answers) order (subst (λ t. IsAnswered t e.order e.answers) script end.answered);
      is = λ i. summary_text (rounds i) (made i);
    }
