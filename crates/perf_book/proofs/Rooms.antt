-- Lists that have room for all acts of a script have room for the next ones.
use Rattle.std.specs.Prelude.{◌≡◌, ℕ, ◌+◌, ◌*◌, ◌<◌, ◌≤◌, ◌==◌, Bool, true, false, List, [], ◌∷◌, ◌++◌, count_by, length, option_map, slice_get}
use Rattle.std.proofs.{Common.{arith, refl, sym, ap, subst, ◌∙◌, append_assoc, append-nil, cond, inl, inr}, lemmas.Bool.{cases_eq}}
use Rattle.std.proofs.lemmas.{Bool.Decides.{nat_tests}, List.{length-map, Sums.{sum_by-cons, sum_by_push}}}
use Rattle.perf_base.specs.declared.{acts.{Act.{Act}, Actor.{Actor}}, numbers.{CpuNo.{CpuNo}, ToolNo.{ToolNo}}, reply.Answer.{Answer}}
use Rattle.perf_base.specs.{Weight.{weight}, Scripts.{Scripted, IsCovered, IsScript, line_count, lines_of_cpu, lines_of_tool}}
use Rattle.perf_base.specs.declared.acts.Act.TheVariants as act
use Rattle.perf_base.specs.declared.acts.Actor.TheVariants as actor
use Rattle.stage_spec.specs.{Order.{IsCounted, done_by_cpu, done_by_tool, is_of_cpu, is_of_tool}, Replies.{AnswerOrder, lines_from}}
use Rattle.stage_spec.specs.History.{CpuStep, ToolStep}
use Rattle.machine.{specs.Leading.{Kept, HasLine, LeadTo, act_of, done_by, next_step}, proofs.Answers.{answers-look, no-answers}}
use Rattle.report_spec.specs.Answers.{lost_in}
use Rattle.ring_laws.{specs.Growing.{AreLooks, does_line, is_cpu_act, is_look}, proofs.Lines.{counted-cpus, counted-lines, lengths, looks-do-nothing}}
use Rattle.ring_laws.proofs.Rings.{few-rings}
use Rattle.perf_book.specs.Book.{AreLooksOf, Booked, IsBooked, HasRoomFor, MayAct, loads_by}
use Rattle.stage_laws.proofs.Counts.{count-append}

count-push : {X : Type 0} (p : X → Bool) (xs : List X) (x : X) → count_by p (xs ++ x ∷ []) ≡ count_by p xs + cond (p x) 1 0
count-push p xs x = sum_by_push (λ y. cond (p y) 1 0) xs x

cond-least : (b : Bool) → cond {A = ℕ} b 1 0 ≤ 1
cond-least true = omega arith
cond-least false = omega arith

cond-off : (m n : ℕ) → (m ≡ n → ⊥) → cond {A = ℕ} (m == n) 1 0 ≡ 0
cond-off m n off = grind (arith, nat_tests, off)

-- an order is still counted with the next line of an actor that has one
pub counted-next : (s : Scripted) (acts : List Act) (m : Kept) (who : Actor) → LeadTo s acts m → HasLine s m who → IsCounted s (acts ++ act_of who ∷ [])
counted-next s acts m (actor.Processor cpu) led has = record { cpus = cpus; tools = tools }
  where
    cpus : (other : CpuNo) → done_by_cpu other (acts ++ act.Processor cpu ∷ []) ≤ length (lines_of_cpu s other)
    cpus other = elim (cases_eq cpu.0 other.0) [
      | inl e ↦
          let less : done_by_cpu other acts < length (lines_of_cpu s other) =
          subst (λ n. done_by_cpu (record { 0 = n }) acts < length (lines_of_cpu s (record { 0 = n }))) e (omega (arith, has, led.cpus cpu)) in
          omega (arith, count-push (is_of_cpu other) acts (act.Processor cpu), cond-least (is_of_cpu other (act.Processor cpu)), less)
      | inr off ↦ omega (arith, count-push (is_of_cpu other) acts (act.Processor cpu), led.counted.cpus other, cond-off cpu.0 other.0 off)
    ]

    tools : (tool : ToolNo) → done_by_tool tool (acts ++ act.Processor cpu ∷ []) ≤ length (lines_of_tool s tool)
    tools tool = omega (arith, count-push (is_of_tool tool) acts (act.Processor cpu), led.counted.tools tool)
counted-next s acts m (actor.Tool tool) led has = record { cpus = cpus; tools = tools }
  where
    cpus : (cpu : CpuNo) → done_by_cpu cpu (acts ++ act.Tool tool ∷ []) ≤ length (lines_of_cpu s cpu)
    cpus cpu = omega (arith, count-push (is_of_cpu cpu) acts (act.Tool tool), led.counted.cpus cpu)

    tools : (other : ToolNo) → done_by_tool other (acts ++ act.Tool tool ∷ []) ≤ length (lines_of_tool s other)
    tools other = elim (cases_eq tool.0 other.0) [
      | inl e ↦
          let less : done_by_tool other acts < length (lines_of_tool s other) =
          subst (λ n. done_by_tool (record { 0 = n }) acts < length (lines_of_tool s (record { 0 = n }))) e (omega (arith, has, led.tools tool)) in
          omega (arith, count-push (is_of_tool other) acts (act.Tool tool), cond-least (is_of_tool other (act.Tool tool)), less)
      | inr off ↦ omega (arith, count-push (is_of_tool other) acts (act.Tool tool), led.counted.tools other, cond-off tool.0 other.0 off)
    ]
counted-next s acts m (actor.Reader ring) led has = absurd has
counted-next s acts m actor.Watcher led has = absurd has

-- an order with a line left does fewer lines than the script has
pub line-left : (s : Scripted) (acts : List Act) (m : Kept) (who : Actor) → LeadTo s acts m → HasLine s m who → count_by does_line acts < line_count s
line-left s acts m (actor.Processor cpu) led has =
    omega (arith, count-push does_line acts (act.Processor cpu), counted-lines s (acts ++ act.Processor cpu ∷ []) (counted-next s acts m (actor.Processor cpu) led has))
line-left s acts m (actor.Tool tool) led has =
    omega (arith, count-push does_line acts (act.Tool tool), counted-lines s (acts ++ act.Tool tool ∷ []) (counted-next s acts m (actor.Tool tool) led has))
line-left s acts m (actor.Reader ring) led has = absurd has
line-left s acts m actor.Watcher led has = absurd has

-- there are as many answers as lines
lines-count : (before acts : List Act) → length (lines_from before acts) ≡ count_by does_line acts
lines-count before [] = refl
lines-count before (act.Processor cpu ∷ acts) = omega (arith, lines-count (before ++ act.Processor cpu ∷ []) acts, sum_by-cons (λ a. cond (does_line a) 1 0) (act.Processor cpu) acts)
lines-count before (act.Tool tool ∷ acts) = omega (arith, lines-count (before ++ act.Tool tool ∷ []) acts, sum_by-cons (λ a. cond (does_line a) 1 0) (act.Tool tool) acts)
lines-count before (act.Seen ring place ∷ acts) = grind (arith, nat_tests, sum_by-cons, cond, lines-count (before ++ act.Seen ring place ∷ []) acts)

pub answers-count : (s : Scripted) (acts : List Act) (answers : List Answer) → AnswerOrder s (lost_in s) acts answers → length answers ≡ count_by does_line acts
answers-count s acts answers h = grind (arith, nat_tests, length-map, lines-count)

-- looks have no answers
seen-answers : (s : Scripted) (from : ℕ) (before acts looks : List Act) (answers : List Answer) → AreLooks from before looks → AnswerOrder s (lost_in s) acts answers
    → AnswerOrder s (lost_in s) (acts ++ looks) answers
seen-answers s from before acts [] answers are h = subst (λ o. AnswerOrder s (lost_in s) o answers) (sym (append-nil acts)) h
seen-answers s from before acts (act.Processor cpu ∷ looks) answers are h = absurd are
seen-answers s from before acts (act.Tool tool ∷ looks) answers are h = absurd are
seen-answers s from before acts (act.Seen ring place ∷ looks) answers are h =
    subst (λ o. AnswerOrder s (lost_in s) o answers) (append_assoc acts (act.Seen ring place ∷ []) looks)
    (seen-answers s (ring.0 + 1) before (acts ++ act.Seen ring place ∷ []) looks answers are.2 (answers-look s (lost_in s) acts ring place answers h))

pub looks-answered : (s : Scripted) (acts looks : List Act) (answers : List Answer) → AreLooks 0 acts looks → AnswerOrder s (lost_in s) acts answers → AnswerOrder s (lost_in s) (acts ++ looks) answers
looks-answered s acts looks answers are h = seen-answers s 0 acts acts looks answers are h

-- room for 16 acts, whatever was done; for one act behind 16 looks, and one answer, where an actor has a line left
pub room-before : (b : Booked) (order_room answer_room end_room : ℕ) → IsBooked b → HasRoomFor b.script order_room answer_room end_room → length b.order + length b.script.rings ≤ order_room
room-before b order_room answer_room end_room h room = grind (arith, nat_tests, lengths, counted-cpus, counted-lines, few-rings)

pub room-for-line : (b : Booked) (who : Actor) (more order_room answer_room end_room : ℕ) → IsBooked b → HasRoomFor b.script order_room answer_room end_room → HasLine b.script b.machine who
    → more ≤ length b.script.rings → length b.order + more < order_room
room-for-line b who more order_room answer_room end_room h room has few = grind (arith, nat_tests, lengths, counted-cpus, line-left, few-rings)

pub room-for-answer : (b : Booked) (who : Actor) (order_room answer_room end_room : ℕ) → IsBooked b → HasRoomFor b.script order_room answer_room end_room → HasLine b.script b.machine who
    → length b.answers < answer_room
room-for-answer b who order_room answer_room end_room h room has = grind (arith, nat_tests, answers-count, line-left)

-- looks are looks
looks-are : (from : ℕ) (before looks : List Act) → AreLooks from before looks → (count_by is_look looks ≡ length looks) × (count_by is_cpu_act looks ≡ 0)
looks-are from before [] h = (refl, refl)
looks-are from before (act.Processor cpu ∷ looks) h = absurd h
looks-are from before (act.Tool tool ∷ looks) h = absurd h
looks-are from before (act.Seen ring place ∷ looks) h =
    let rest = looks-are (ring.0 + 1) before looks h.2 in (
      omega (arith, rest.0, sum_by-cons (λ a. cond (is_look a) 1 0) (act.Seen ring place) looks),
      omega (arith, rest.1, sum_by-cons (λ a. cond (is_cpu_act a) 1 0) (act.Seen ring place) looks),
    )

-- the looks stay few
pub few-looks : (s : Scripted) (acts looks then : List Act) (who : Actor) (m : Kept) → IsScript s → HasLine s m who → AreLooksOf who acts looks → length looks ≤ loads_by who * length s.rings
    → count_by is_look acts ≤ length s.order + 16 * count_by is_cpu_act acts → then ≡ (acts ++ looks) ++ act_of who ∷ []
    → count_by is_look then ≤ length s.order + 16 * count_by is_cpu_act then
few-looks s acts looks then (actor.Processor cpu) m script has are few h e = grind (arith, nat_tests, looks-are, count-push, count-append, few-rings)
few-looks s acts looks then (actor.Tool tool) m script has are few h e = grind (arith, nat_tests, append-nil, count-push)
few-looks s acts looks then (actor.Reader ring) m script has are few h e = absurd has
few-looks s acts looks then actor.Watcher m script has are few h e = absurd has

-- looks leave the answers, and who has a line
pub answered-looks : (s : Scripted) (acts looks then : List Act) (who : Actor) (answers : List Answer) → AreLooksOf who acts looks → then ≡ acts ++ looks → AnswerOrder s (lost_in s) acts answers
    → AnswerOrder s (lost_in s) then answers
answered-looks s acts looks then (actor.Processor cpu) answers are e h = subst (λ o. AnswerOrder s (lost_in s) o answers) (sym e) (seen-answers s 0 acts acts looks answers are h)
answered-looks s acts looks then (actor.Tool tool) answers are e h = subst (λ o. AnswerOrder s (lost_in s) o answers) (sym (e ∙ (ap (λ ls. acts ++ ls) are ∙ append-nil acts))) h
answered-looks s acts looks then (actor.Reader ring) answers are e h = subst (λ o. AnswerOrder s (lost_in s) o answers) (sym (e ∙ (ap (λ ls. acts ++ ls) are ∙ append-nil acts))) h
answered-looks s acts looks then actor.Watcher answers are e h = subst (λ o. AnswerOrder s (lost_in s) o answers) (sym (e ∙ (ap (λ ls. acts ++ ls) are ∙ append-nil acts))) h

pub line-after : (s : Scripted) (acts looks then : List Act) (m n : Kept) (who : Actor) → LeadTo s acts m → LeadTo s then n → AreLooksOf who acts looks → then ≡ acts ++ looks → HasLine s m who
    → HasLine s n who
line-after s acts looks then m n (actor.Processor cpu) before after are e has =
    omega (arith, has, before.cpus cpu, after.cpus cpu, ap (done_by_cpu cpu) e, (looks-do-nothing 0 acts looks are).0 cpu)
line-after s acts looks then m n (actor.Tool tool) before after are e has = grind (arith, nat_tests, append-nil)
line-after s acts looks then m n (actor.Reader ring) before after are e has = absurd has
line-after s acts looks then m n actor.Watcher before after are e has = absurd has

-- and they are few
pub looks-length : (s : Scripted) (who : Actor) (looks : List Act) → length looks ≤ loads_by who * length s.rings → length looks ≤ length s.rings
looks-length s (actor.Processor cpu) looks few = omega (arith, few)
looks-length s (actor.Tool tool) looks few = omega (arith, few)
looks-length s (actor.Reader ring) looks few = omega (arith, few)
looks-length s actor.Watcher looks few = omega (arith, few)

-- a book with one line more
pub booked-then : (b : Booked) (who : Actor) (looks then : List Act) (m : Kept) (answers : List Answer) → IsBooked b → HasLine b.script b.machine who → AreLooksOf who b.order looks
    → length looks ≤ loads_by who * length b.script.rings → then ≡ (b.order ++ looks) ++ act_of who ∷ [] → LeadTo b.script then m → AnswerOrder b.script (lost_in b.script) then answers
    → IsBooked (record { script = b.script; machine = m; order = then; answers = answers })
booked-then b who looks then m answers h has are few e led all = search (nat_tests, few-looks)

pub done-after : (s : Scripted) (acts looks then : List Act) (m n : Kept) (who : Actor) → LeadTo s acts m → LeadTo s then n → AreLooksOf who acts looks → then ≡ acts ++ looks
    → done_by who n ≡ done_by who m
done-after s acts looks then m n (actor.Processor cpu) before after are e =
    after.cpus cpu ∙ (ap (done_by_cpu cpu) e ∙ ((looks-do-nothing 0 acts looks are).0 cpu ∙ sym (before.cpus cpu)))
done-after s acts looks then m n (actor.Tool tool) before after are e = grind (arith, nat_tests, append-nil)
done-after s acts looks then m n (actor.Reader ring) before after are e = refl
done-after s acts looks then m n actor.Watcher before after are e = refl

-- an act of an order
pub room-for-act : (b : Booked) (order_room answer_room end_room : ℕ) → IsBooked b → HasRoomFor b.script order_room answer_room end_room
    → (length b.order < order_room) × (length b.answers < answer_room)
room-for-act b order_room answer_room end_room h room = grind (arith, nat_tests, lengths, counted-cpus, counted-lines, answers-count)

looks-then : (b : Booked) (a : Act) → IsBooked b → MayAct a b → count_by is_look (b.order ++ a ∷ []) ≤ length b.script.order + 16 * count_by is_cpu_act (b.order ++ a ∷ [])
looks-then b (act.Processor cpu) h may = omega (arith, h.looks, count-push is_look b.order (act.Processor cpu), count-push is_cpu_act b.order (act.Processor cpu))
looks-then b (act.Tool tool) h may = omega (arith, h.looks, count-push is_look b.order (act.Tool tool), count-push is_cpu_act b.order (act.Tool tool))
looks-then b (act.Seen ring place) h may = omega (arith, may, count-push is_look b.order (act.Seen ring place))

pub booked-act : (b : Booked) (a : Act) (then : List Act) (m : Kept) (answers : List Answer) → IsBooked b → MayAct a b → then ≡ b.order ++ a ∷ []
    → LeadTo b.script then m → AnswerOrder b.script (lost_in b.script) then answers → IsBooked (record { script = b.script; machine = m; order = then; answers = answers })
booked-act b a then m answers h may e led all = grind (arith, nat_tests, looks-then)

-- a book of which nothing was done
pub booked-none : (s : Scripted) (m : Kept) → IsScript s → IsCovered s → weight s ≤ 65536 → LeadTo s [] m → IsBooked (record { script = s; machine = m; order = []; answers = [] })
booked-none s m script covered light led = record {
  script = script;
  covered = covered;
  light = light;
  led = led;
  answered = record { counted = led.counted; lawful = led.lawful; answered = no-answers s (lost_in s) };
  looks = omega arith;
}

-- looks leave what an actor does next
pub step-after : (s : Scripted) (m n : Kept) (who : Actor) → done_by who n ≡ done_by who m → next_step s n who ≡ next_step s m who
step-after s m n (actor.Processor cpu) same = ap (λ k. option_map (CpuStep cpu) (slice_get (lines_of_cpu s cpu) k)) same
step-after s m n (actor.Tool tool) same = ap (λ k. option_map ToolStep (slice_get (lines_of_tool s tool) k)) same
step-after s m n (actor.Reader ring) same = refl
step-after s m n actor.Watcher same = refl
