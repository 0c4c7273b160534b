-- One given line leads from the steps before it to those steps and one more.
use Rattle.std.specs.Prelude.{◌≡◌, ℕ, ◌+◌, ◌<◌, cond, List, [], ◌∷◌, ◌++◌, length, slice_index_or, slice_set}
use Rattle.std.proofs.{Common.{arith, sym, ap, subst, ◌∙◌}, lemmas.List.Elements.{All-push}}
use Rattle.perf_base.specs.declared.{lines.{CpuLine.{CpuLine}, ToolLine.{ToolLine}}, numbers.CpuNo.{CpuNo}, reply.Reply.{Reply}}
use Rattle.perf_base.specs.Scripts.{Scripted, IsCovered, IsCpuLine, IsScript}
use Rattle.stage_spec.specs.{Hardware.{hardware_of}, History.{Step, CpuStep, ToolStep, opening_stage}, Limits.{limits_of}}
use Rattle.stage_laws.specs.Bounds.{IsLineWithin, is_line}
use Rattle.ring_laws.proofs.Reached.{count-one}
use Rattle.ring_spec.{specs.Running.{Running, AreRepliesBy, IsAnswerBy, record_after}, proofs.Running.{replies_law}}
use Rattle.sample_ring.specs.RingLists.{OutList}
use Rattle.work_account.specs.Ends.{HaveAccounts}
use Rattle.world_spec.specs.{Agreement.{AgreesWith}, Value.{World}}
use Rattle.machine.specs.{Given.{IsLedBy, IsNext, IsReplyAfter, Takes, is_line_of, record_by}, Leading.{Kept}, Room.{IsLineFor}}
use Rattle.machine.{specs.Stepped.{IsDone, IsDoneSending, IsDoneWith, IsReady}, proofs.History.{raised, record-more}}
use Rattle.machine.proofs.{Lines.{as-many-cpus, as-many-kinds}, Roomy.{lines-of-one}, Stepped.{one-cpu, one-tool, tool-sends}}
use Rattle.stage_laws.proofs.Counts.{count-append}
use Rattle.ring_laws.proofs.Losses.{if_some}

-- The line keeps the limits of the machine's world too.
pub given-tool : (s : Scripted) (steps : List Step) (m : Kept) (line : ToolLine) → IsScript s → IsCovered s → IsReady m.world → IsNext s steps m (ToolStep line) → IsLineFor m.world line
given-tool s steps m line h covered ready next = grind (arith, as-many-kinds, as-many-cpus)

pub given-there : (s : Scripted) (steps : List Step) (m : Kept) (cpu : CpuNo) (line : CpuLine) → IsScript s → IsCovered s → IsReady m.world → IsNext s steps m (CpuStep cpu line)
    → cpu.0 < length m.world.quiet.running
given-there s steps m cpu line h covered ready next = grind (arith, as-many-cpus)

pub given-low : (m : Kept) (cpu : CpuNo) (line : CpuLine) → Takes m (CpuStep cpu line) → cpu.0 < 8
given-low m cpu line takes = grind arith

pub given-cpu : (s : Scripted) (steps : List Step) (m : Kept) (cpu : CpuNo) (line : CpuLine) → IsScript s → IsCovered s → IsNext s steps m (CpuStep cpu line)
    → IsCpuLine (length m.world.hardware.kind_pmus) line
given-cpu s steps m cpu line h covered next = subst (λ n. IsCpuLine n line) (sym (as-many-kinds s m.world h covered next.led.hardware)) next.within.1

-- a processor has done few lines
pub given-few : (s : Scripted) (steps : List Step) (m : Kept) (cpu : CpuNo) (x : Step) → IsNext s steps m x → slice_index_or m.cpus cpu.0 0 < 16384
given-few s steps m cpu x next = omega (arith, next.led.cpus cpu, lines-of-one cpu steps, next.few)

-- what is told of a line by a world that given lines lead to
given-done : (s : Scripted) (steps : List Step) (m : Kept) (x : Step) (after : World) (sent : OutList) (reply : Reply) → IsLedBy s steps m → IsDoneWith x m.world after m.outs sent reply
    → IsDoneSending x m.world after sent reply (record_by s steps)
given-done s steps m x after sent reply led done = done (record_by s steps) led.agrees led.ends

given-record : (s : Scripted) (steps : List Step) (m : Kept) (x : Step) → IsLedBy s steps m → record_after m.world.hardware (record_by s steps) x ≡ record_by s (steps ++ x ∷ [])
given-record s steps m x led = ap (λ hw. record_after hw (record_by s steps) x) led.hardware ∙ sym (record-more s steps x)

given-answer : (s : Scripted) (steps : List Step) (m : Kept) (x : Step) (after : World) (sent : OutList) (reply : Reply) → IsLedBy s steps m → IsDoneWith x m.world after m.outs sent reply
    → IsAnswerBy (hardware_of s) (record_by s steps) x reply
given-answer s steps m x after sent reply led done = grind (arith, given-done)

given-reply : (s : Scripted) (steps : List Step) (x : Step) (reply : Reply) → AreRepliesBy (hardware_of s) (record_by s steps) (x ∷ []) (reply ∷ []) → IsReplyAfter s steps x reply
given-reply s steps x reply by = (replies_law (hardware_of s) (opening_stage s) s.rings steps (x ∷ []) (reply ∷ [])).0 by

pub cpu-given-reply : (s : Scripted) (steps : List Step) (m : Kept) (cpu : CpuNo) (line : CpuLine) (after : World) (sent : OutList) (reply : Reply)
    → IsDoneWith (CpuStep cpu line) m.world after m.outs sent reply → IsLedBy s steps m → IsReplyAfter s steps (CpuStep cpu line) reply
cpu-given-reply s steps m cpu line after sent reply done led = search (given-reply, one-cpu, given-answer)

pub tool-given-reply : (s : Scripted) (steps : List Step) (m : Kept) (line : ToolLine) (after : World) (reply : Reply)
    → IsDone (ToolStep line) m.world after reply → IsLedBy s steps m → IsReplyAfter s steps (ToolStep line) reply
tool-given-reply s steps m line after reply done led =
    given-reply s steps (ToolStep line) reply
    (one-tool (hardware_of s) (record_by s steps) line reply
    (given-answer s steps m (ToolStep line) after m.outs reply led (tool-sends m.world after line m.outs reply done)))

-- the steps with the line lead to the machine then
led-more : (s : Scripted) (steps : List Step) (m : Kept) (x : Step) (counts : List ℕ) (after : World) (sent : OutList) (reply : Reply) → IsNext s steps m x
    → after.hardware ≡ m.world.hardware → IsDoneWith x m.world after m.outs sent reply
    → ((own : CpuNo) → slice_index_or counts own.0 0 ≡ slice_index_or m.cpus own.0 0 + cond (is_line_of own x) 1 0)
    → IsLedBy s (steps ++ x ∷ []) (record { cpus = counts; tools = m.tools; world = after; outs = sent })
led-more s steps m x counts after sent reply next same done counted = record {
  within = All-push (IsLineWithin (limits_of s)) steps x next.led.within next.within;
  few = omega (arith, next.few, if_some (is_line x), count-append is_line steps (x ∷ []), count-one is_line x []);
  cpus = λ own. omega (arith, counted own, next.led.cpus own, count-append (is_line_of own) steps (x ∷ []), count-one (is_line_of own) x []);
  hardware = same ∙ next.led.hardware;
  agrees = subst (AgreesWith after) (given-record s steps m x next.led) (given-done s steps m x after sent reply next.led done).done.agrees;
  ends = subst (λ (r : Running). HaveAccounts sent r.rings) (given-record s steps m x next.led) (given-done s steps m x after sent reply next.led done).ends;
}

pub cpu-given : (s : Scripted) (steps : List Step) (m : Kept) (cpu : CpuNo) (line : CpuLine) (after : World) (sent : OutList) (reply : Reply) → cpu.0 < length m.cpus
    → after.hardware ≡ m.world.hardware → IsDoneWith (CpuStep cpu line) m.world after m.outs sent reply → IsNext s steps m (CpuStep cpu line)
    → IsLedBy s (steps ++ CpuStep cpu line ∷ []) (record { cpus = slice_set m.cpus cpu.0 (slice_index_or m.cpus cpu.0 0 + 1); tools = m.tools; world = after; outs = sent })
cpu-given s steps m cpu line after sent reply low same done next = search (led-more, raised)

pub tool-given : (s : Scripted) (steps : List Step) (m : Kept) (line : ToolLine) (after : World) (reply : Reply) → after.hardware ≡ m.world.hardware
    → IsDone (ToolStep line) m.world after reply → IsNext s steps m (ToolStep line)
    → IsLedBy s (steps ++ ToolStep line ∷ []) (record { cpus = m.cpus; tools = m.tools; world = after; outs = m.outs })
tool-given s steps m line after reply same done next =
    led-more s steps m (ToolStep line) m.cpus after m.outs reply next same (tool-sends m.world after line m.outs reply done) (λ own. omega arith)
