-- The journal of a session is answered by the replies that the session gave.
use Rattle.std.specs.Prelude.{◌≡◌, ℕ, zero, suc, ◌+◌, ◌<◌, ◌≤◌, ◌==◌, All, List, [], ◌∷◌, ◌++◌, filter_map, length, map, Option, Some, None, slice_get, Bool, true, false}
use Rattle.std.proofs.Common.{arith, refl, sym, ap, subst, ◌∙◌, cond, get_or, inl, inr, append_assoc, append-nil, length-append}
use Rattle.std.proofs.lemmas.{Bool.{cases_eq, cases_lt}, Bool.Decides.{nat_tests}, List.{get_or-append-add, get_or_append_left, get_or-map, get_or_past, length-map, map-append, Elements.{filter_map-append}, Sums.{sum_by-cons}}}
use Rattle.std.specs.List.{cons_option}
use Rattle.perf_base.specs.{declared.{acts.Act.{Act}, numbers.{CpuNo.{CpuNo}, EventNo.{EventNo}, ToolNo.{ToolNo}}, reply.{Answer.{Answer}, Reply.{Reply}}}, Scripts.{Scripted, lines_of_cpu, lines_of_tool}}
use Rattle.perf_base.specs.declared.acts.Act.TheVariants as act
use Rattle.perf_base.specs.declared.acts.Actor.TheVariants as actor
use Rattle.perf_base.specs.declared.{acts.Actor.{Actor}, lines.{CpuLine.{CpuLine}, ToolLine.{ToolLine}}}
use Rattle.stage_spec.specs.{Hardware.{hardware_of}, History.{Step, CpuStep, ToolStep, history, opening_stage, steps_from, steps_of}, Numbers.{numbers_below}, Order.{IsComplete, IsCounted, IsLawfulAct, done_by_cpu, done_by_tool, is_of_cpu, is_of_tool}}
use Rattle.stage_spec.specs.Replies.{AnswerOrder, AreReplies, lines_of_act}
use Rattle.ring_spec.{specs.Rings.{IsLawfulOrder, lost_count, sizes_in}, proofs.Lawful.{lawful_law}}
use Rattle.report_spec.specs.Answers.{lost_in}
use Rattle.machine.proofs.{Answers.{answers-push, no-answers}, History.{history-push}}
use Rattle.perf_share.specs.Calls.{AreLegal, none_legal, replies_in, step_of, steps_in}
use Rattle.script_spec.specs.Forms.{Version, Form}
use Rattle.script_spec.specs.Forms as form
use Rattle.perf_base.specs.declared.reasons.SReason.TheVariants as reason
use Rattle.given_lines.specs.{Given.{IsGivenLine, IsInRangeFor, Says}, declared.given.Given.{Given}}
use Rattle.given_lines.specs.declared.given.Given.TheVariants as given
use Rattle.live_session.specs.Journal.{IsCertified, JournalLaw, act_by, cpu_line_by, cpu_lines_by, journal, tool_line_by, tool_lines_by}
use Rattle.live_session.specs.Turns.{AreTurns, Came, Cut, IsSaid, Turn, Whole, call_of, calls_in}
use Rattle.live_session.specs.Turns
use Rattle.live_session.specs.declared.said.Said.{Said}
use Rattle.stage_spec.proofs.Machines.{length-below}
use Rattle.machine.proofs.Declared.{at-below}

-- ---- lists

at-end : {X : Type 0} (xs : List X) (y : X) (ys : List X) → slice_get (xs ++ y ∷ ys) (length xs) ≡ Some y
at-end [] y ys = refl
at-end (x ∷ xs) y ys = at-end xs y ys

-- what a function of the numbers below a number gives at one of them
found : {X : Type 0} (f : ℕ → List X) (n i : ℕ) → i < n → get_or (map f (numbers_below n)) i [] ≡ f i
found f n i low = get_or-map f (numbers_below n) i 0 [] (omega (arith, low, length-below n)) ∙ ap f (at-below n i low)

not-found : {X : Type 0} (f : ℕ → List X) (n i : ℕ) → n ≤ i → get_or (map f (numbers_below n)) i [] ≡ []
not-found f n i high = get_or_past (map f (numbers_below n)) i [] (omega (arith, high, length-map (numbers_below n) f, length-below n))

-- ---- the lines of each actor

-- the actor of a call is one that there is
abbrev InRange : Given × Reply → Type 0
InRange (given.Cpu cpu line, reply) = cpu.0 < 8
InRange (given.Tool tool line, reply) = tool.0 < 4

abbrev AreInRange : List (Given × Reply) → Type 0
AreInRange [] = Unit {0}
AreInRange (c ∷ made) = InRange c × AreInRange made

in-range-push : (made : List (Given × Reply)) (c : Given × Reply) → AreInRange made → InRange c → AreInRange (made ++ c ∷ [])
in-range-push [] c h g = (g, tt)
in-range-push (d ∷ made) c h g = (h.0, in-range-push made c h.1 g)

-- an actor that there is not has none
no-cpu-line : (c : Given × Reply) (n : ℕ) → InRange c → 8 ≤ n → cpu_line_by n c ≡ None
no-cpu-line (given.Cpu cpu line, reply) n h high = grind (arith, nat_tests, h, high)
no-cpu-line (given.Tool tool line, reply) n h high = refl

no-cpu : (made : List (Given × Reply)) (n : ℕ) → AreInRange made → 8 ≤ n → cpu_lines_by made n ≡ []
no-cpu [] n h high = refl
no-cpu (c ∷ made) n h high = rw (no-cpu-line c n h.0 high) (no-cpu made n h.1 high)

no-tool-line : (c : Given × Reply) (n : ℕ) → InRange c → 4 ≤ n → tool_line_by n c ≡ None
no-tool-line (given.Cpu cpu line, reply) n h high = refl
no-tool-line (given.Tool tool line, reply) n h high = grind (arith, nat_tests, h, high)

no-tool : (made : List (Given × Reply)) (n : ℕ) → AreInRange made → 4 ≤ n → tool_lines_by made n ≡ []
no-tool [] n h high = refl
no-tool (c ∷ made) n h high = rw (no-tool-line c n h.0 high) (no-tool made n h.1 high)

-- the lines of an actor of a journal
lines-cpu : (s : Scripted) (made : List (Given × Reply)) (cpu : CpuNo) → AreInRange made → lines_of_cpu (journal s made) cpu ≡ cpu_lines_by made cpu.0
lines-cpu s made cpu h = elim (cases_lt cpu.0 8) [
  | inl low ↦ found (cpu_lines_by made) 8 cpu.0 low
  | inr high ↦ not-found (cpu_lines_by made) 8 cpu.0 high ∙ sym (no-cpu made cpu.0 h high)
]

lines-tool : (s : Scripted) (made : List (Given × Reply)) (tool : ToolNo) → AreInRange made → lines_of_tool (journal s made) tool ≡ tool_lines_by made tool.0
lines-tool s made tool h = elim (cases_lt tool.0 4) [
  | inl low ↦ found (tool_lines_by made) 4 tool.0 low
  | inr high ↦ not-found (tool_lines_by made) 4 tool.0 high ∙ sym (no-tool made tool.0 h high)
]

-- one line more, where it is of that actor
one-more : {X : Type 0} (b : Bool) (x : X) (xs : List X) (n : ℕ) → n ≡ length xs → cond b 1 0 + n ≡ length (cons_option (cond b (Some x) None) xs)
one-more true x xs n e = omega (arith, e)
one-more false x xs n e = omega (arith, e)

-- it has done as many as there are before
done-cpu : (front : List (Given × Reply)) (cpu : CpuNo) → done_by_cpu cpu (map act_by front) ≡ length (cpu_lines_by front cpu.0)
done-cpu [] cpu = refl
done-cpu ((given.Cpu own line, reply) ∷ front) cpu =
    sum_by-cons (λ a. cond (is_of_cpu cpu a) 1 0) (act.Processor own) (map act_by front) ∙ one-more (own.0 == cpu.0) line (cpu_lines_by front cpu.0) (done_by_cpu cpu (map act_by front)) (done-cpu front cpu)
done-cpu ((given.Tool own line, reply) ∷ front) cpu = sum_by-cons (λ a. cond (is_of_cpu cpu a) 1 0) (act.Tool own) (map act_by front) ∙ omega (arith, done-cpu front cpu)

done-tool : (front : List (Given × Reply)) (tool : ToolNo) → done_by_tool tool (map act_by front) ≡ length (tool_lines_by front tool.0)
done-tool [] tool = refl
done-tool ((given.Cpu own line, reply) ∷ front) tool = sum_by-cons (λ a. cond (is_of_tool tool a) 1 0) (act.Processor own) (map act_by front) ∙ omega (arith, done-tool front tool)
done-tool ((given.Tool own line, reply) ∷ front) tool =
    sum_by-cons (λ a. cond (is_of_tool tool a) 1 0) (act.Tool own) (map act_by front) ∙ one-more (own.0 == tool.0) line (tool_lines_by front tool.0) (done_by_tool tool (map act_by front)) (done-tool front tool)

-- ---- the step of each act

cpu-first : (cpu : CpuNo) (line : CpuLine) (reply : Reply) (rest : List (Given × Reply)) → cpu_lines_by ((given.Cpu cpu line, reply) ∷ rest) cpu.0 ≡ line ∷ cpu_lines_by rest cpu.0
cpu-first cpu line reply rest = grind (arith, nat_tests)

tool-first : (tool : ToolNo) (line : ToolLine) (reply : Reply) (rest : List (Given × Reply)) → tool_lines_by ((given.Tool tool line, reply) ∷ rest) tool.0 ≡ line ∷ tool_lines_by rest tool.0
tool-first tool line reply rest = grind (arith, nat_tests)

step-at : (s : Scripted) (front rest : List (Given × Reply)) (c : Given × Reply) → AreInRange (front ++ c ∷ rest)
    → steps_of (journal s (front ++ c ∷ rest)) (map act_by front) (act_by c) ≡ step_of (call_of c.0) ∷ []
step-at s front rest (given.Cpu cpu line, reply) h =
    let lines : lines_of_cpu (journal s (front ++ (given.Cpu cpu line, reply) ∷ rest)) cpu ≡ cpu_lines_by front cpu.0 ++ line ∷ cpu_lines_by rest cpu.0
    = lines-cpu s (front ++ (given.Cpu cpu line, reply) ∷ rest) cpu h ∙ (filter_map-append (cpu_line_by cpu.0) front ((given.Cpu cpu line, reply) ∷ rest)
    ∙ ap (λ ls. cpu_lines_by front cpu.0 ++ ls) (cpu-first cpu line reply rest)) in
    rw (lines, done-cpu front cpu, at-end (cpu_lines_by front cpu.0) line (cpu_lines_by rest cpu.0)) refl
step-at s front rest (given.Tool tool line, reply) h =
    let lines : lines_of_tool (journal s (front ++ (given.Tool tool line, reply) ∷ rest)) tool ≡ tool_lines_by front tool.0 ++ line ∷ tool_lines_by rest tool.0
    = lines-tool s (front ++ (given.Tool tool line, reply) ∷ rest) tool h ∙ (filter_map-append (tool_line_by tool.0) front ((given.Tool tool line, reply) ∷ rest)
    ∙ ap (λ ls. tool_lines_by front tool.0 ++ ls) (tool-first tool line reply rest)) in
    rw (lines, done-tool front tool, at-end (tool_lines_by front tool.0) line (tool_lines_by rest tool.0)) refl

-- ---- answers

actor_of : Given × Reply → Actor
actor_of (given.Cpu cpu line, reply) = actor.Processor cpu
actor_of (given.Tool tool line, reply) = actor.Tool tool

-- the answer to a call after those before it
abbrev answer_at : List (Given × Reply) → Given × Reply → Answer
answer_at front (given.Cpu cpu line, reply) = record { actor = actor.Processor cpu; number = done_by_cpu cpu (map act_by front); reply = reply }
answer_at front (given.Tool tool line, reply) = record { actor = actor.Tool tool; number = done_by_tool tool (map act_by front); reply = reply }

line-at : (front : List (Given × Reply)) (c : Given × Reply) → lines_of_act (map act_by front) (act_by c) ≡ ((answer_at front c).actor, (answer_at front c).number) ∷ []
line-at front (given.Cpu cpu line, reply) = refl
line-at front (given.Tool tool line, reply) = refl

reply-at : (front : List (Given × Reply)) (c : Given × Reply) → (answer_at front c).reply ≡ c.1
reply-at front (given.Cpu cpu line, reply) = refl
reply-at front (given.Tool tool line, reply) = refl

steps-push : (front : List (Given × Reply)) (c : Given × Reply) → steps_in (calls_in (front ++ c ∷ [])) ≡ steps_in (calls_in front) ++ step_of (call_of c.0) ∷ []
steps-push [] c = refl
steps-push (d ∷ front) c = ap (λ xs. step_of (call_of d.0) ∷ xs) (steps-push front c)

-- the calls of the front are answered
record IsFront (s : Scripted) (made front : List (Given × Reply)) : Type 0 where
  answers : List Answer
  answered : AnswerOrder (journal s made) (lost_in (journal s made)) (map act_by front) answers
  replies : map (λ a. a.reply) answers ≡ map (λ c. c.1) front
  steps : history (journal s made) (map act_by front) ≡ steps_in (calls_in front)
  lawful : IsLawfulOrder (journal s made) (map act_by front)

no-history : (s : Scripted) → history s [] ≡ []
unfolding steps_from
no-history s = refl

no-place : {P : Type 0} (before after : List Act) (a : Act) → [] ≡ before ++ a ∷ after → P
no-place before after a e = absurd (omega (arith, ap length e, length-append before (a ∷ after)))

no-front : (s : Scripted) (made : List (Given × Reply)) → IsFront s made []
no-front s made = record {
  answers = [];
  answered = no-answers (journal s made) (lost_in (journal s made));
  replies = refl;
  steps = no-history (journal s made);
  lawful = λ before after a e. no-place before after a e;
}

lawful-act : (s : Scripted) (order : List Act) (c : Given × Reply) → IsLawfulAct (sizes_in s order) order (act_by c)
lawful-act s order (given.Cpu cpu line, reply) = tt
lawful-act s order (given.Tool tool line, reply) = tt

-- the first of some replies
first-reply : (s : Scripted) (before : List Step) (c : Given × Reply) (rest : List (Given × Reply))
    → AreReplies (hardware_of s) (opening_stage s) (lost_count (hardware_of s) (opening_stage s) s.rings) before (steps_in (calls_in (c ∷ rest))) (replies_in (calls_in (c ∷ rest)))
    → AreReplies (hardware_of s) (opening_stage s) (lost_count (hardware_of s) (opening_stage s) s.rings) before (step_of (call_of c.0) ∷ []) (c.1 ∷ [])
    × AreReplies (hardware_of s) (opening_stage s) (lost_count (hardware_of s) (opening_stage s) s.rings) (before ++ step_of (call_of c.0) ∷ []) (steps_in (calls_in rest)) (replies_in (calls_in rest))
unfolding AreReplies
first-reply s before (given.Cpu cpu line, reply) rest h = ((h.0, tt), h.1)
first-reply s before (given.Tool tool line, reply) rest h = ((h.0, tt), h.1)

-- and one call more
front-push : (s : Scripted) (front rest : List (Given × Reply)) (c : Given × Reply) → AreInRange (front ++ c ∷ rest) → IsFront s (front ++ c ∷ rest) front
    → AreReplies (hardware_of s) (opening_stage s) (lost_count (hardware_of s) (opening_stage s) s.rings) (steps_in (calls_in front)) (step_of (call_of c.0) ∷ []) (c.1 ∷ [])
    → IsFront s (front ++ c ∷ rest) (front ++ c ∷ [])
front-push s front rest c range h reply =
    let j = journal s (front ++ c ∷ rest) in
    let acts = map act_by front in
    let step : steps_of j acts (act_by c) ≡ step_of (call_of c.0) ∷ [] = step-at s front rest c range in
    let more : map act_by (front ++ c ∷ []) ≡ acts ++ act_by c ∷ [] = map-append act_by front (c ∷ []) in
    let said : AreReplies (hardware_of j) (opening_stage j) (lost_in j) (history j acts) (steps_of j acts (act_by c)) ((answer_at front c).reply ∷ []) = rw (h.steps, step, reply-at front c) reply in
    record {
      answers = h.answers ++ answer_at front c ∷ [];
      answered = rw more (answers-push j (lost_in j) acts (act_by c) h.answers (answer_at front c) h.answered (line-at front c) said);
      replies = map-append (λ (a : Answer). a.reply) h.answers (answer_at front c ∷ []) ∙ (ap (λ rs. rs ++ (answer_at front c).reply ∷ []) h.replies
          ∙ (ap (λ r. map (λ (d : Given × Reply). d.1) front ++ r ∷ []) (reply-at front c) ∙ sym (map-append (λ (d : Given × Reply). d.1) front (c ∷ []))));
      steps = ap (history j) more ∙ (history-push j acts (act_by c) (step_of (call_of c.0)) step ∙ (ap (λ xs. xs ++ step_of (call_of c.0) ∷ []) h.steps ∙ sym (steps-push front c)));
      lawful = rw more (lawful_law j acts (act_by c) h.lawful (lawful-act j acts c));
    }

-- all of them
whole : (s : Scripted) (front rest : List (Given × Reply)) → AreInRange (front ++ rest) → IsFront s (front ++ rest) front
    → AreReplies (hardware_of s) (opening_stage s) (lost_count (hardware_of s) (opening_stage s) s.rings) (steps_in (calls_in front)) (steps_in (calls_in rest)) (replies_in (calls_in rest))
    → IsFront s (front ++ rest) (front ++ rest)
whole s front [] range h legal = subst (λ (xs : List (Given × Reply)). IsFront s (front ++ []) xs) (sym (append-nil front)) h
whole s front (c ∷ rest) range h legal =
    let first = first-reply s (steps_in (calls_in front)) c rest legal in
    let assoc : (front ++ c ∷ []) ++ rest ≡ front ++ c ∷ rest = append_assoc front (c ∷ []) rest in
    let next : IsFront s ((front ++ c ∷ []) ++ rest) (front ++ c ∷ []) = subst (λ (xs : List (Given × Reply)). IsFront s xs (front ++ c ∷ [])) (sym assoc) (front-push s front rest c range h first.0) in
    subst (λ (xs : List (Given × Reply)). IsFront s xs xs) assoc
    (whole s (front ++ c ∷ []) rest (subst AreInRange (sym assoc) range) next (rw (steps-push front c) first.1))

certified : (s : Scripted) (made : List (Given × Reply)) → AreInRange made → AreLegal s (calls_in made) → IsCertified s made
certified s made range legal =
    let front = whole s [] made range (no-front s made) legal in
    let complete : IsComplete (journal s made) (map act_by made) = record {
      cpus = λ cpu. done-cpu made cpu ∙ ap length (sym (lines-cpu s made cpu range));
      tools = λ tool. done-tool made tool ∙ ap length (sym (lines-tool s made tool range));
    } in
    record {
      complete = complete;
      answers = front.answers;
      answered = record {
        counted = record { cpus = λ cpu. omega (arith, complete.cpus cpu); tools = λ tool. omega (arith, complete.tools tool) };
        lawful = front.lawful;
        answered = front.answered;
      };
      replies = front.replies;
    }

-- ---- the calls of turns

says-range : (s : Scripted) (a : Act) (f : Form) (g : Given) (reply : Reply) → s.cpus ≤ 8 → IsInRangeFor s a f → Says s a f g → InRange (g, reply)
says-range s (act.Processor cpu) (form.OnProcessor line) g reply few range says = subst (λ (h : Given). InRange (h, reply)) (sym says) (omega (arith, range.0, few))
says-range s (act.Tool tool) (form.OnTool line) g reply few range says = subst (λ (h : Given). InRange (h, reply)) (sym says.2) range.0
says-range s a f g reply few range says = absurd says

given-range : (s : Scripted) (version : Version) (line : List ℕ) (g : Given) (reply : Reply) → s.cpus ≤ 8 → IsGivenLine s version line g → InRange (g, reply)
given-range s version line g reply few h = says-range s h.actor h.form g reply few (h.keeps reason.Range h.actor h.form h.is) h.says

-- what is known of the calls so far
record IsLegal (s : Scripted) (made : List (Given × Reply)) : Type 0 where
  range : AreInRange made
  legal : AreLegal s (calls_in made)

stays : (s : Scripted) (made now : List (Given × Reply)) → IsLegal s made → now ≡ made → IsLegal s now
stays s made now h e = subst (IsLegal s) (sym e) h

answered-legal : (s : Scripted) (version : Version) (made now : List (Given × Reply)) (line : List ℕ) (says : Said) → s.cpus ≤ 8 → IsLegal s made → Turns.IsAnswered s version made line says now
    → IsLegal s now
answered-legal s version made now line says few h (inl r) =
    record { range = subst AreInRange (sym r.added) (in-range-push made (r.given, r.reply) h.range (given-range s version line r.given r.reply few r.is_given)); legal = r.legal }
answered-legal s version made now line says few h (inr (inl full)) = stays s made now h full.same
answered-legal s version made now line says few h (inr (inr bad)) = stays s made now h bad.same

said-legal : (s : Scripted) (version : Version) (made now : List (Given × Reply)) (came : Came) (says : Said) → s.cpus ≤ 8 → IsLegal s made → IsSaid s version made came says now → IsLegal s now
said-legal s version made now (Whole line) says few h (inl a) = answered-legal s version made now line says few h a.1
said-legal s version made now (Whole line) says few h (inr long) = stays s made now h long.1.0
said-legal s version made now (Cut bytes) says few h passed = stays s made now h passed.0

turns-legal : (s : Scripted) (version : Version) (made now : List (Given × Reply)) (turns : List Turn) → s.cpus ≤ 8 → IsLegal s made → AreTurns s version made turns now → IsLegal s now
unfolding AreTurns
turns-legal s version made now [] few h e = stays s made now h e
turns-legal s version made now (t ∷ turns) few h g = turns-legal s version g.0 now turns few (said-legal s version made g.0 t.came t.said few h g.2) g.3

pub journal-law : JournalLaw
journal-law s version turns made few h =
    let l = turns-legal s version [] made turns few (record { range = tt; legal = none_legal s }) h in
    certified s made l.range l.legal
