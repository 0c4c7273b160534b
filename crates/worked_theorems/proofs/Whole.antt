-- A worked case, whole: the order and the replies answer the script, and the report is this text.
use Rattle.std.specs.Prelude.{◌≡◌, ℕ, zero, suc, ◌<◌, ◌≤◌, nat_le, nat_lt, ◌==◌, Bool, true, false, ◌&&◌, List, [], ◌∷◌, map, count_by, length}
use Rattle.std.{specs.List.{list_all, zip}, proofs.lemmas.{Slice.Zip.{firsts-zip, seconds-zip}, Bool.{and_parts, cases_lt, cases_eq, leb-true}}}
use Rattle.std.proofs.{lemmas.{Bool.Decides.{nat_tests}, List.Folds.{list_all-append}}, Common.{arith, refl, sym, ap, ◌∙◌, inl, inr}}
use Rattle.perf_base.specs.declared.{numbers.{CpuNo.{CpuNo}, EventNo.{EventNo}, RingNo.{RingNo}, ToolNo.{ToolNo}}, acts.{Act.{Act}, Actor.{Actor}}}
use Rattle.perf_base.specs.{declared.reply.{Reply.{Reply}, Answer.{Answer}}, Scripts.{Scripted, lines_of_cpu, lines_of_tool}}
use Rattle.perf_base.specs.declared.acts.Act.TheVariants as act
use Rattle.stage_spec.specs.{Hardware.{hardware_of}, Numbers.{numbers_below}, Order.{IsCounted, done_by_cpu, done_by_tool, is_of_cpu, is_of_tool}}
use Rattle.stage_spec.specs.{Replies.{AreReplies, AnswerOrder, lines_from, answers_to}, History.{Step, steps_from, history, opening_stage}}
use Rattle.ring_spec.specs.{Account.{Account}, Rings.{account_of}, Running.{RingAccount, Running, first_record}}
use Rattle.ring_spec.proofs.Running.{kept-first, map-map, in_account}
use Rattle.report_spec.specs.{Report.{report, rings_after}, Answers.{IsAnswered, lost_in}}
use Rattle.worked_theorems.proofs.Answered.{RunRings, Outcome, run_rings, lawful_acts}

abbrev pub cpu_at : ℕ → CpuNo
cpu_at n = record { 0 = n }

abbrev pub tool_at : ℕ → ToolNo
tool_at n = record { 0 = n }

-- no actor has more acts than lines
abbrev pub cpu_counted : Scripted → List Act → ℕ → Bool
cpu_counted s order n = nat_le (done_by_cpu (cpu_at n) order) (length (lines_of_cpu s (cpu_at n)))

abbrev pub tool_counted : Scripted → List Act → ℕ → Bool
tool_counted s order n = nat_le (done_by_tool (tool_at n) order) (length (lines_of_tool s (tool_at n)))

abbrev pub is_in_range : Act → Bool
is_in_range (act.Processor cpu) = nat_lt cpu.0 8
is_in_range (act.Tool tool) = nat_lt tool.0 4
is_in_range (act.Seen ring place) = true

abbrev pub is_counted : Scripted → List Act → Bool
is_counted s order = list_all is_in_range order && (list_all (cpu_counted s order) (numbers_below 8) && list_all (tool_counted s order) (numbers_below 4))

below_all : (p : ℕ → Bool) (n k : ℕ) → list_all p (numbers_below n) ≡ true → k < n → p k ≡ true
below_all p zero k h l = absurd (omega (arith, l))
below_all p (suc n) k h l =
    let parts : (list_all p (numbers_below n) && list_all p (n ∷ [])) ≡ true = sym (list_all-append p (numbers_below n) (n ∷ [])) ∙ h in
    elim (cases_eq k n) [
      | inl e ↦ rw e (and_parts (p n) true (and_parts (list_all p (numbers_below n)) (list_all p (n ∷ [])) parts).1).0
      | inr e ↦ below_all p n k (and_parts (list_all p (numbers_below n)) (list_all p (n ∷ [])) parts).0 (omega (arith, e, l))
    ]

none_of_cpu : (cpu : CpuNo) (a : Act) → 8 ≤ cpu.0 → is_in_range a ≡ true → is_of_cpu cpu a ≡ false
none_of_cpu cpu (act.Processor p) l h = grind (arith, nat_tests, h, l)
none_of_cpu cpu (act.Tool t) l h = refl
none_of_cpu cpu (act.Seen ring place) l h = refl

none_of_tool : (tool : ToolNo) (a : Act) → 4 ≤ tool.0 → is_in_range a ≡ true → is_of_tool tool a ≡ false
none_of_tool tool (act.Processor p) l h = refl
none_of_tool tool (act.Tool t) l h = grind (arith, nat_tests, h, l)
none_of_tool tool (act.Seen ring place) l h = refl

none_counted : (p : Act → Bool) → ((a : Act) → is_in_range a ≡ true → p a ≡ false) → (order : List Act) → list_all is_in_range order ≡ true → count_by p order ≡ 0
none_counted p k [] h = refl
none_counted p k (a ∷ order) h =
    let now : p a ≡ false = k a (and_parts (is_in_range a) (list_all is_in_range order) h).0 in
    rw now (none_counted p k order (and_parts (is_in_range a) (list_all is_in_range order) h).1)

pub counted_by : (s : Scripted) (order : List Act) → is_counted s order ≡ true → IsCounted s order
counted_by s order h =
    let all : list_all is_in_range order ≡ true = (and_parts (list_all is_in_range order) (list_all (cpu_counted s order) (numbers_below 8) && list_all (tool_counted s order) (numbers_below 4)) h).0 in
    let both : (list_all (cpu_counted s order) (numbers_below 8) && list_all (tool_counted s order) (numbers_below 4)) ≡ true =
    (and_parts (list_all is_in_range order) (list_all (cpu_counted s order) (numbers_below 8) && list_all (tool_counted s order) (numbers_below 4)) h).1 in
    record {
      cpus = λ cpu. elim (cases_lt cpu.0 8) [
        | inl l ↦ leb-true (done_by_cpu cpu order) (length (lines_of_cpu s cpu))
            (below_all (cpu_counted s order) 8 cpu.0 (and_parts (list_all (cpu_counted s order) (numbers_below 8)) (list_all (tool_counted s order) (numbers_below 4)) both).0 l)
        | inr l ↦ omega (arith, none_counted (is_of_cpu cpu) (λ a k. none_of_cpu cpu a l k) order all)
      ];
      tools = λ tool. elim (cases_lt tool.0 4) [
        | inl l ↦ leb-true (done_by_tool tool order) (length (lines_of_tool s tool))
            (below_all (tool_counted s order) 4 tool.0 (and_parts (list_all (cpu_counted s order) (numbers_below 8)) (list_all (tool_counted s order) (numbers_below 4)) both).1 l)
        | inr l ↦ omega (arith, none_counted (is_of_tool tool) (λ a k. none_of_tool tool a l k) order all)
      ];
    }

-- the replies answer the lines that an order does, one to each
pub answers_order : (s : Scripted) (lost : List Step → EventNo → ℕ) (order : List Act) (replies : List Reply) → length replies ≡ length (lines_from [] order)
    → AreReplies (hardware_of s) (opening_stage s) lost [] (history s order) replies → AnswerOrder s lost order (answers_to order replies)
answers_order s lost order replies same h =
    let pairs : List ((Actor × ℕ) × Reply) = zip (lines_from [] order) replies in
    let each : (Actor × ℕ) × Reply → Answer = λ a. record { actor = a.0.0; number = a.0.1; reply = a.1 } in
    record {
      lines = map-map each (λ a. (a.actor, a.number)) pairs ∙ firsts-zip (lines_from [] order) replies same;
      replies = rw (map-map each (λ a. a.reply) pairs ∙ seconds-zip (lines_from [] order) replies same) h;
    }

-- no actor has more acts than lines, and there are as many replies as lines are done
abbrev pub is_filled : Scripted → List Reply → Bool
is_filled s replies = is_counted s s.order && (length replies == length (lines_from [] s.order))

-- what each ring came to, as the report has it
abbrev pub rings_kept : List RingAccount → List (RingNo × Account)
rings_kept rings = map (λ a. (a.ring, a.account)) rings

abbrev pub EndsAs : Scripted → List Reply → List ℕ → Running → Type 0
EndsAs s replies text r = report s s.order (answers_to s.order replies) (rings_kept r.rings) ≡ text

-- the order and the replies answer the script, and this text is their report
pub record IsWorked (s : Scripted) (replies : List Reply) (text : List ℕ) : Type 0 where
  pub answered : IsAnswered s s.order (answers_to s.order replies)
  pub reported : report s s.order (answers_to s.order replies) (rings_after s s.order) ≡ text

pub worked : (s : Scripted) (replies : List Reply) (text : List ℕ) → is_filled s replies ≡ true
    → RunRings (hardware_of s) (EndsAs s replies text) (first_record (opening_stage s) s.rings) (history s s.order) replies → IsWorked s replies text
unfolding steps_from
worked s replies text filled g =
    let h : Outcome (hardware_of s) (opening_stage s) s.rings (EndsAs s replies text) [] (history s s.order) replies =
    run_rings (hardware_of s) (opening_stage s) s.rings (EndsAs s replies text) [] (first_record (opening_stage s) s.rings) (kept-first (hardware_of s) (opening_stage s) s.rings)
    (history s s.order) replies g in
    let each : length replies ≡ length (lines_from [] s.order) =
    grind (arith, nat_tests, (and_parts (is_counted s s.order) (length replies == length (lines_from [] s.order)) filled).1) in
    let ends : rings_kept h.last.rings ≡ rings_after s s.order =
    ap rings_kept h.keeps.rings ∙ map-map (in_account (account_of (hardware_of s) (opening_stage s) (history s s.order))) (λ a. (a.ring, a.account)) s.rings in
    record {
      answered = record {
        counted = counted_by s s.order (and_parts (is_counted s s.order) (length replies == length (lines_from [] s.order)) filled).0;
        lawful = λ before after a e. lawful_acts s [] s.order h.lawful before after a e;
        answered = answers_order s (lost_in s) s.order replies each h.answers;
      };
      reported = ap (report s s.order (answers_to s.order replies)) (sym ends) ∙ h.said;
    }
