-- No more records are sent than the steps weigh.
use Rattle.std.specs.Prelude.{◌≡◌, ℕ, ◌+◌, ◌*◌, ◌<◌, ◌≤◌, ◌⊎◌, All, List, [], ◌∷◌, ◌++◌, length, sum_by, count_by, cond}
use Rattle.std.proofs.{Common.{arith, refl, sym, ap, subst, append_assoc, append-nil}, Math.Nat.{mul-le-mul_right}, lemmas.List.{length-append}}
use Rattle.std.proofs.lemmas.List.{Elements.{All-head, All-tail}, Sums.{sum_by-cons}}
use Rattle.perf_base.specs.declared.{numbers.{CpuNo.{CpuNo}, EventNo.{EventNo}, TaskNo.{TaskNo}}, lines.{CpuLine.{CpuLine}, Work.{Work}}}
use Rattle.perf_base.specs.Weight.{shares, line_shares}
use Rattle.perf_base.specs.declared.lines.CpuLine.TheVariants as cpu_line
use Rattle.stage_spec.specs.{declared.instance.Instance.{Instance}, Hardware.{Hardware}, Stage.{Stage, is_of_family, original_of, first_stage}}
use Rattle.stage_spec.specs.{Commands.{is_reached}, Verdict.{on_instances}, History.{Step, CpuStep, ToolStep, SeenStep, stage_step, stage_after}}
use Rattle.stage_spec.{specs.{Limits.{Limits, IsMachine}, Remainders.{remainder_of}}, proofs.{Each.{Each, weaker-Each}, Present.{on_instances-in}}}
use Rattle.stage_spec.proofs.Recurrence.{stage_after-push}
use Rattle.stage_laws.{specs.{Sound.{IsSound}, Bounds.{IsLineWithin}}, proofs.{Sound.{first_sound}, BoundsWhole.{line_sound}}}
use Rattle.ring_spec.specs.Sending.{sent_by_family, overflows_by, sent_at, sent_by_line, sent_by_step, sent_after, sent_from, clock_of}
use Rattle.ring_spec.proofs.Overflowing.{family-few}
use Rattle.ring_laws.specs.Few.{period_by, opens_by, shares_by, IsLeast, FewSentLaw}
use Rattle.ring_laws.proofs.Reached.{IsOneReached, on-reached, one_each, length-most, count-one}
use Rattle.ring_laws.proofs.Sampling.{IsSampled, Sampled, Next, step-next, first-sampled}

-- of one step
work-few : (period : ℕ) (slots : List EventNo) (hw : Hardware) (s : Stage) (left : ℕ → ℕ) (clock : ℕ) (cpu : CpuNo) (w : Work) → 0 < period → Sampled period slots s → IsOneReached s
    → length (sent_at hw s left clock cpu w) ≤ length slots * sum_by (shares period) w.hits
work-few period slots hw s left clock cpu w pos h one =
    let n : ℕ = sum_by (shares period) w.hits in
    let on : List Instance = on_instances hw s cpu in
    let each : Each (λ i. length (sent_by_family (original_of s i.event) s cpu w clock (overflows_by w (left i.id) i) i) ≤ cond (is_reached slots i) n 0) on =
    weaker-Each (IsSampled period slots s) (λ i. length (sent_by_family (original_of s i.event) s cpu w clock (overflows_by w (left i.id) i) i) ≤ cond (is_reached slots i) n 0)
    (λ i k. family-few period (original_of s i.event) s cpu w clock (left i.id) i (is_reached slots i) pos k.sampling) on (on_instances-in (IsSampled period slots s) hw s cpu h.each) in
    let all : length (sent_at hw s left clock cpu w) ≤ count_by (is_reached slots) on * n = grind (arith, length-most) in
    let families : count_by (is_reached slots) on ≤ length slots = one_each slots on (λ e. omega (arith, on-reached (is_of_family e) hw s cpu, one cpu e)) in
    let most : count_by (is_reached slots) on * n ≤ length slots * n = mul-le-mul_right n families in
    omega (arith, all, most)

line-few : (period : ℕ) (slots : List EventNo) (hw : Hardware) (s : Stage) (left : ℕ → ℕ) (clock : ℕ) (cpu : CpuNo) (line : CpuLine) → 0 < period → Sampled period slots s → IsOneReached s
    → length (sent_by_line hw s left clock cpu line) ≤ length slots * line_shares period line
line-few period slots hw s left clock cpu (cpu_line.Switch to) pos h one = omega arith
line-few period slots hw s left clock cpu (cpu_line.Work w) pos h one = work-few period slots hw s left (clock + w.length) cpu w pos h one
line-few period slots hw s left clock cpu cpu_line.Tick pos h one = omega arith
line-few period slots hw s left clock cpu (cpu_line.Fork child) pos h one = omega arith
line-few period slots hw s left clock cpu cpu_line.Exit pos h one = omega arith

step-few : (period : ℕ) (slots : List EventNo) (hw : Hardware) (s : Stage) (left : ℕ → ℕ) (clock : CpuNo → ℕ) (x : Step) → 0 < period → Sampled period slots s → IsOneReached s
    → length (sent_by_step hw s left clock x) ≤ length slots * shares_by period x
step-few period slots hw s left clock (CpuStep cpu line) pos h one = line-few period slots hw s left (clock cpu) cpu line pos h one
step-few period slots hw s left clock (ToolStep line) pos h one = omega arith
step-few period slots hw s left clock (SeenStep ring place) pos h one = omega arith

-- added up
adds_up : (now rest slots later opens more here there : ℕ) → now ≤ slots * here → rest ≤ (later + more) * there → later + more ≤ slots + opens → now + rest ≤ (slots + opens) * (here + there)
adds_up now rest slots later opens more here there h k l =
    let a : slots * here ≤ (slots + opens) * here = mul-le-mul_right here (omega arith) in
    let b : (later + more) * there ≤ (slots + opens) * there = mul-le-mul_right there l in
    omega (arith, h, k, a, b)

few-from : (hw : Hardware) (first : Stage) (period : ℕ) (before steps : List Step) (slots : List EventNo) → 0 < period → IsLeast period steps
    → ((some after : List Step) → steps ≡ some ++ after → IsOneReached (stage_after hw first (before ++ some))) → Sampled period slots (stage_after hw first before)
    → length (sent_from hw first before steps) ≤ (length slots + count_by opens_by steps) * sum_by (shares_by period) steps
unfolding sent_from sent_after
few-from hw first period before [] slots pos least one h = omega arith
few-from hw first period before (x ∷ steps) slots pos least one h =
    let s : Stage = stage_after hw first before in
    let here : IsOneReached s = subst (λ b. IsOneReached (stage_after hw first b)) (append-nil before) (one [] (x ∷ steps) refl) in
    let now : length (sent_by_step hw s (remainder_of hw first before) (clock_of before) x) ≤ length slots * shares_by period x = search (step-few) in
    let next : Next period slots (opens_by x) (stage_step hw s x) = step-next period slots hw s x h (least 0 x (omega arith)) in
    let later : Sampled period next.slots_now (stage_after hw first (before ++ x ∷ [])) = subst (Sampled period next.slots_now) (sym (stage_after-push hw first before x)) next.sampled in
    let rest : length (sent_from hw first (before ++ x ∷ []) steps) ≤ (length next.slots_now + count_by opens_by steps) * sum_by (shares_by period) steps =
    few-from hw first period (before ++ x ∷ []) steps next.slots_now pos (All-tail (λ y. (period_by y ≡ 0) ⊎ (period ≤ period_by y)) x steps least)
    (λ some after e. subst (λ b. IsOneReached (stage_after hw first b)) (sym (append_assoc before (x ∷ []) some)) (one (x ∷ some) after (ap (λ ys. x ∷ ys) e))) later in
    let sends : length (sent_from hw first before (x ∷ steps)) ≡ length (sent_by_step hw s (remainder_of hw first before) (clock_of before) x) + length (sent_from hw first (before ++ x ∷ []) steps) =
    length-append (sent_by_step hw s (remainder_of hw first before) (clock_of before) x) (sent_from hw first (before ++ x ∷ []) steps) in
    let opens : length next.slots_now + count_by opens_by steps ≤ length slots + count_by opens_by (x ∷ steps) = omega (arith, next.few, count-one opens_by x steps) in
    rw (sends, sum_by-cons (shares_by period) x steps)
    (adds_up (length (sent_by_step hw s (remainder_of hw first before) (clock_of before) x)) (length (sent_from hw first (before ++ x ∷ []) steps)) (length slots) (length next.slots_now)
    (count_by opens_by (x ∷ steps)) (count_by opens_by steps) (shares_by period x) (sum_by (shares_by period) steps) now rest opens)

sampled-at-first : (hw : Hardware) (period cpus : ℕ) (declared : List TaskNo) → Sampled period [] (stage_after hw (first_stage cpus declared) [])
unfolding stage_after
sampled-at-first hw period cpus declared = first-sampled period cpus declared

-- the stage after each beginning is sound
after-sound : (l : Limits) (hw : Hardware) (s : Stage) (some after : List Step) → IsMachine l hw → All (IsLineWithin l) (some ++ after) → IsSound hw s → IsSound hw (stage_after hw s some)
unfolding stage_after
after-sound l hw s [] after machine within sound = sound
after-sound l hw s (x ∷ some) after machine within sound =
    after-sound l hw (stage_step hw s x) some after machine (All-tail (IsLineWithin l) x (some ++ after) within) (line_sound l hw s x machine (All-head (IsLineWithin l) x (some ++ after) within) sound)

pub few_sent : FewSentLaw
few_sent l hw declared steps period machine numbers within pos least =
    let first : Stage = first_stage l.cpus declared in
    let one : (some after : List Step) → steps ≡ some ++ after → IsOneReached (stage_after hw first some) = λ some after e.
    (after-sound l hw first some after machine (subst (All (IsLineWithin l)) e within) (first_sound l hw declared machine numbers)).placed.one_reached in
    let none : 0 + count_by opens_by steps ≡ count_by opens_by steps = omega arith in
    subst (λ n. length (sent_from hw first [] steps) ≤ n * sum_by (shares_by period) steps) none
    (few-from hw first period [] steps [] pos least one (sampled-at-first hw period l.cpus declared))
