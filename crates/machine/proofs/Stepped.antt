-- One line done leads from the acts before it to those acts and one more.
use Rattle.std.specs.Prelude.{◌≡◌, ◌+◌, ◌<◌, ◌≤◌, List, [], ◌∷◌, ◌++◌, fold, length, map, Some, slice_get, slice_index_or, slice_set}
use Rattle.std.proofs.Common.{refl, sym, ap, subst, ◌∙◌, cond, ◌==◌}
use Rattle.perf_base.specs.declared.{acts.Act.{Act}, lines.{CpuLine.{CpuLine}, ToolLine.{ToolLine}}, numbers.{CpuNo.{CpuNo}, ToolNo.{ToolNo}}}
use Rattle.perf_base.specs.{declared.{numbers.RingNo.{RingNo}, reply.Reply.{Reply}}, Scripts.{Scripted, lines_of_cpu, lines_of_tool}}
use Rattle.perf_base.specs.declared.acts.Act.TheVariants as act
use Rattle.stage_spec.specs.Hardware.{Hardware, hardware_of}
use Rattle.stage_spec.specs.History.{Step, CpuStep, ToolStep, cpu_steps, tool_steps, steps_of, history, opening_stage}
use Rattle.stage_spec.specs.{Order.{done_by_cpu, done_by_tool}, Replies.{AreReplies}}
use Rattle.sample_ring.specs.RingLists.{OutList}
use Rattle.work_account.specs.Ends.{HaveAccounts}
use Rattle.ring_spec.specs.{Account.{ring_step}, Rings.{looks_at, lost_count}}
use Rattle.ring_spec.specs.{Running.{Running, RingAccount, IsAnswerBy, AreRepliesBy, record_after, ring_after}, Sending.{sent_by_step}}
use Rattle.ring_spec.proofs.{Lawful.{lawful_law}, Running.{replies_law}}
use Rattle.world_spec.specs.{Agreement.{AgreesWith}, Value.{World}}
use Rattle.machine.specs.{Stepped.{IsDone, IsDoneSending, IsDoneWith}, Leading.{Kept, LeadTo, IsReplyTo, record_in}}
use Rattle.machine.proofs.History.{record-push, raised, cpu-push, cpu-other, tool-push, tool-other, counted-push, cpu-is, tool-is}

-- what is told of a line by a world that acts lead to
done-by : (s : Scripted) (m : Kept) (acts : List Act) (x : Step) (after : World) (sent : OutList) (reply : Reply) → LeadTo s acts m → IsDoneWith x m.world after m.outs sent reply
    → IsDoneSending x m.world after sent reply (record_in s acts)
done-by s m acts x after sent reply led done = done (record_in s acts) led.agrees led.ends

record-then : (s : Scripted) (m : Kept) (acts : List Act) (a : Act) (x : Step) → LeadTo s acts m → steps_of s acts a ≡ x ∷ []
    → record_after m.world.hardware (record_in s acts) x ≡ record_in s (acts ++ a ∷ [])
record-then s m acts a x led next = ap (λ hw. record_after hw (record_in s acts) x) led.hardware ∙ sym (record-push s acts a x next)

-- the world then agrees with the record of the acts and the one more, and the ends have the accounts of its rings
agrees-then : (s : Scripted) (m : Kept) (acts : List Act) (a : Act) (x : Step) (after : World) (sent : OutList) (reply : Reply) → LeadTo s acts m → steps_of s acts a ≡ x ∷ []
    → IsDoneWith x m.world after m.outs sent reply → AgreesWith after (record_in s (acts ++ a ∷ []))
agrees-then s m acts a x after sent reply led next done =
    subst (AgreesWith after) (record-then s m acts a x led next) (done-by s m acts x after sent reply led done).done.agrees

ends-then : (s : Scripted) (m : Kept) (acts : List Act) (a : Act) (x : Step) (after : World) (sent : OutList) (reply : Reply) → LeadTo s acts m → steps_of s acts a ≡ x ∷ []
    → IsDoneWith x m.world after m.outs sent reply → HaveAccounts sent (record_in s (acts ++ a ∷ [])).rings
ends-then s m acts a x after sent reply led next done =
    subst (λ r. HaveAccounts sent r.rings) (record-then s m acts a x led next) (done-by s m acts x after sent reply led done).ends

-- a line that sends nothing leaves the accounts
still-account : (x : Step) (a : RingAccount) → ((ring : RingNo) → looks_at ring x ≡ []) → ring_after x [] a ≡ a
still-account x a none = ap (λ looks. record a { account = fold (ring_step a.bytes) a.account (looks ++ []) }) (none a.ring)

still-accounts : (x : Step) (rings : List RingAccount) → ((ring : RingNo) → looks_at ring x ≡ []) → map (ring_after x []) rings ≡ rings
still-accounts x [] none = refl
still-accounts x (a ∷ rings) none = λ i. still-account x a none i ∷ still-accounts x rings none i

pub sends-none : (x : Step) (w after : World) (outs : OutList) (reply : Reply) → ((r : Running) → sent_by_step w.hardware r.stage r.left r.clock x ≡ [])
    → ((ring : RingNo) → looks_at ring x ≡ []) → IsDone x w after reply → IsDoneWith x w after outs outs reply
sends-none x w after outs reply none still done r agrees ends = record {
  done = done r agrees;
  ends = subst (HaveAccounts outs) (sym (ap (λ sents. map (ring_after x sents) r.rings) (none r) ∙ still-accounts x r.rings still)) ends;
}

pub tool-sends : (w after : World) (l : ToolLine) (outs : OutList) (reply : Reply) → IsDone (ToolStep l) w after reply → IsDoneWith (ToolStep l) w after outs outs reply
tool-sends w after l outs reply = sends-none (ToolStep l) w after outs reply (λ r. refl) (λ ring. refl)

-- one reply by the record is the reply
pub one-cpu : (hw : Hardware) (r : Running) (cpu : CpuNo) (line : CpuLine) (reply : Reply) → IsAnswerBy hw r (CpuStep cpu line) reply → AreRepliesBy hw r (CpuStep cpu line ∷ []) (reply ∷ [])
unfolding AreRepliesBy
one-cpu hw r cpu line reply h = (h, tt)

pub one-tool : (hw : Hardware) (r : Running) (line : ToolLine) (reply : Reply) → IsAnswerBy hw r (ToolStep line) reply → AreRepliesBy hw r (ToolStep line ∷ []) (reply ∷ [])
unfolding AreRepliesBy
one-tool hw r line reply h = (h, tt)

answer-then : (s : Scripted) (m : Kept) (acts : List Act) (x : Step) (after : World) (sent : OutList) (reply : Reply) → LeadTo s acts m → IsDoneWith x m.world after m.outs sent reply
    → IsAnswerBy (hardware_of s) (record_in s acts) x reply
answer-then s m acts x after sent reply led done = subst (λ hw. IsAnswerBy hw (record_in s acts) x reply) led.hardware (done-by s m acts x after sent reply led done).done.answer

replied : (s : Scripted) (acts : List Act) (a : Act) (x : Step) (reply : Reply) → steps_of s acts a ≡ x ∷ []
    → AreRepliesBy (hardware_of s) (record_in s acts) (x ∷ []) (reply ∷ []) → IsReplyTo s acts a reply
replied s acts a x reply next by =
    subst (λ xs. AreReplies (hardware_of s) (opening_stage s) (lost_count (hardware_of s) (opening_stage s) s.rings) (history s acts) xs (reply ∷ [])) (sym next)
    ((replies_law (hardware_of s) (opening_stage s) s.rings (history s acts) (x ∷ []) (reply ∷ [])).0 by)

-- a processor's line
pub next-cpu : (s : Scripted) (m : Kept) (acts : List Act) (cpu : CpuNo) (line : CpuLine) → LeadTo s acts m → slice_get (lines_of_cpu s cpu) (slice_index_or m.cpus cpu.0 0) ≡ Some line
    → steps_of s acts (act.Processor cpu) ≡ CpuStep cpu line ∷ []
next-cpu s m acts cpu line led is = ap (λ n. cpu_steps cpu (slice_get (lines_of_cpu s cpu) n)) (sym (led.cpus cpu)) ∙ ap (cpu_steps cpu) is

pub cpu-reply : (s : Scripted) (m : Kept) (cpu : CpuNo) (line : CpuLine) (after : World) (sent : OutList) (reply : Reply)
    → slice_get (lines_of_cpu s cpu) (slice_index_or m.cpus cpu.0 0) ≡ Some line → IsDoneWith (CpuStep cpu line) m.world after m.outs sent reply
    → (acts : List Act) → LeadTo s acts m → IsReplyTo s acts (act.Processor cpu) reply
cpu-reply s m cpu line after sent reply is done acts led =
    replied s acts (act.Processor cpu) (CpuStep cpu line) reply (next-cpu s m acts cpu line led is)
    (one-cpu (hardware_of s) (record_in s acts) cpu line reply (answer-then s m acts (CpuStep cpu line) after sent reply led done))

cpu-more : (s : Scripted) (m : Kept) (acts : List Act) (cpu own : CpuNo) → LeadTo s acts m → slice_index_or m.cpus cpu.0 0 < length (lines_of_cpu s cpu)
    → done_by_cpu own (acts ++ act.Processor cpu ∷ []) ≤ length (lines_of_cpu s own)
cpu-more s m acts cpu own led has =
    let done : done_by_cpu cpu acts < length (lines_of_cpu s cpu) = subst (λ n. n < length (lines_of_cpu s cpu)) (led.cpus cpu) has in
    subst (λ n. n ≤ length (lines_of_cpu s own)) (sym (cpu-push acts cpu own))
    (counted-push (done_by_cpu own acts) (length (lines_of_cpu s own)) cpu.0 own.0 (λ e. subst (λ c. done_by_cpu c acts < length (lines_of_cpu s c)) (cpu-is cpu own e) done) (led.counted.cpus own))

pub cpu-led : (s : Scripted) (m : Kept) (cpu : CpuNo) (line : CpuLine) (after : World) (sent : OutList) (reply : Reply)
    → cpu.0 < length m.cpus → slice_index_or m.cpus cpu.0 0 < length (lines_of_cpu s cpu)
    → slice_get (lines_of_cpu s cpu) (slice_index_or m.cpus cpu.0 0) ≡ Some line → after.hardware ≡ m.world.hardware → IsDoneWith (CpuStep cpu line) m.world after m.outs sent reply
    → (acts : List Act) → LeadTo s acts m
    → LeadTo s (acts ++ act.Processor cpu ∷ []) (record { cpus = slice_set m.cpus cpu.0 (slice_index_or m.cpus cpu.0 0 + 1); tools = m.tools; world = after; outs = sent })
cpu-led s m cpu line after sent reply low has is same done acts led = record {
  counted = record {
    cpus = λ own. cpu-more s m acts cpu own led has;
    tools = λ tool. subst (λ n. n ≤ length (lines_of_tool s tool)) (sym (tool-other acts cpu tool)) (led.counted.tools tool);
  };
  cpus = λ own. raised m.cpus cpu.0 own.0 low ∙ (ap (λ n. n + cond (cpu.0 == own.0) 1 0) (led.cpus own) ∙ sym (cpu-push acts cpu own));
  tools = λ tool. led.tools tool ∙ sym (tool-other acts cpu tool);
  hardware = same ∙ led.hardware;
  lawful = lawful_law s acts (act.Processor cpu) led.lawful tt;
  agrees = agrees-then s m acts (act.Processor cpu) (CpuStep cpu line) after sent reply led (next-cpu s m acts cpu line led is) done;
  ends = ends-then s m acts (act.Processor cpu) (CpuStep cpu line) after sent reply led (next-cpu s m acts cpu line led is) done;
}

-- a tool's line
next-tool : (s : Scripted) (m : Kept) (acts : List Act) (tool : ToolNo) (line : ToolLine) → LeadTo s acts m → slice_get (lines_of_tool s tool) (slice_index_or m.tools tool.0 0) ≡ Some line
    → steps_of s acts (act.Tool tool) ≡ ToolStep line ∷ []
next-tool s m acts tool line led is = ap (λ n. tool_steps (slice_get (lines_of_tool s tool) n)) (sym (led.tools tool)) ∙ ap tool_steps is

pub tool-reply : (s : Scripted) (m : Kept) (tool : ToolNo) (line : ToolLine) (after : World) (reply : Reply)
    → slice_get (lines_of_tool s tool) (slice_index_or m.tools tool.0 0) ≡ Some line → IsDone (ToolStep line) m.world after reply
    → (acts : List Act) → LeadTo s acts m → IsReplyTo s acts (act.Tool tool) reply
tool-reply s m tool line after reply is done acts led =
    replied s acts (act.Tool tool) (ToolStep line) reply (next-tool s m acts tool line led is)
    (one-tool (hardware_of s) (record_in s acts) line reply (answer-then s m acts (ToolStep line) after m.outs reply led (tool-sends m.world after line m.outs reply done)))

tool-more : (s : Scripted) (m : Kept) (acts : List Act) (tool own : ToolNo) → LeadTo s acts m → slice_index_or m.tools tool.0 0 < length (lines_of_tool s tool)
    → done_by_tool own (acts ++ act.Tool tool ∷ []) ≤ length (lines_of_tool s own)
tool-more s m acts tool own led has =
    let done : done_by_tool tool acts < length (lines_of_tool s tool) = subst (λ n. n < length (lines_of_tool s tool)) (led.tools tool) has in
    subst (λ n. n ≤ length (lines_of_tool s own)) (sym (tool-push acts tool own))
    (counted-push (done_by_tool own acts) (length (lines_of_tool s own)) tool.0 own.0 (λ e. subst (λ t. done_by_tool t acts < length (lines_of_tool s t)) (tool-is tool own e) done) (led.counted.tools own))

pub tool-led : (s : Scripted) (m : Kept) (tool : ToolNo) (line : ToolLine) (after : World) (reply : Reply)
    → tool.0 < length m.tools → slice_index_or m.tools tool.0 0 < length (lines_of_tool s tool)
    → slice_get (lines_of_tool s tool) (slice_index_or m.tools tool.0 0) ≡ Some line → after.hardware ≡ m.world.hardware → IsDone (ToolStep line) m.world after reply
    → (acts : List Act) → LeadTo s acts m
    → LeadTo s (acts ++ act.Tool tool ∷ []) (record { cpus = m.cpus; tools = slice_set m.tools tool.0 (slice_index_or m.tools tool.0 0 + 1); world = after; outs = m.outs })
tool-led s m tool line after reply low has is same done acts led = record {
  counted = record {
    cpus = λ cpu. subst (λ n. n ≤ length (lines_of_cpu s cpu)) (sym (cpu-other acts tool cpu)) (led.counted.cpus cpu);
    tools = λ own. tool-more s m acts tool own led has;
  };
  cpus = λ cpu. led.cpus cpu ∙ sym (cpu-other acts tool cpu);
  tools = λ own. raised m.tools tool.0 own.0 low ∙ (ap (λ n. n + cond (tool.0 == own.0) 1 0) (led.tools own) ∙ sym (tool-push acts tool own));
  hardware = same ∙ led.hardware;
  lawful = lawful_law s acts (act.Tool tool) led.lawful tt;
  agrees = agrees-then s m acts (act.Tool tool) (ToolStep line) after m.outs reply led (next-tool s m acts tool line led is) (tool-sends m.world after line m.outs reply done);
  ends = ends-then s m acts (act.Tool tool) (ToolStep line) after m.outs reply led (next-tool s m acts tool line led is) (tool-sends m.world after line m.outs reply done);
}

-- a line of a processor that is no work sends nothing
pub cpu-sends : (w after : World) (cpu : CpuNo) (l : CpuLine) (outs : OutList) (reply : Reply) → ((r : Running) → sent_by_step w.hardware r.stage r.left r.clock (CpuStep cpu l) ≡ [])
    → IsDone (CpuStep cpu l) w after reply → IsDoneWith (CpuStep cpu l) w after outs outs reply
cpu-sends w after cpu l outs reply none = sends-none (CpuStep cpu l) w after outs reply none (λ ring. refl)
