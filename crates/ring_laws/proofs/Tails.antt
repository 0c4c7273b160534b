-- Where a ring's tail was seen last.
use Rattle.std.specs.Prelude.{◌≡◌, ℕ, ◌==◌, Bool, true, false, List, [], ◌∷◌, ◌++◌, map, filter, fold, Option, Some, None, nat_le, if◌then◌else◌}
use Rattle.std.proofs.{Common.{refl, ap, ◌∙◌}, lemmas.List.Sums.{fold-append}}
use Rattle.perf_base.specs.{declared.{numbers.RingNo.{RingNo}, lines.{CpuLine.{CpuLine}, ToolLine.{ToolLine}}, acts.Act.{Act}}, Scripts.{Scripted}}
use Rattle.perf_base.specs.declared.acts.Act.TheVariants as act
use Rattle.stage_spec.specs.{Hardware.{Hardware, hardware_of}, Stage.{Stage}, Order.{seen_at, next_of_cpu, next_of_tool}}
use Rattle.stage_spec.specs.History.{Step, CpuStep, ToolStep, SeenStep, steps_of, steps_from, cpu_steps, tool_steps, history, opening_stage}
use Rattle.ring_spec.specs.Sending.{SentSample, sent_after}
use Rattle.ring_spec.specs.Account.{Sends, Looks, Account, account, empty_account, send, ring_step, written_to, lost_to, need_of, room_of}
use Rattle.ring_spec.specs.Rings.{looks_at, sends_to, is_to, events_after, events_from, events_of, account_of}
use Rattle.ring_laws.specs.Tails.{TailLaw}

-- where the tail was seen last, by steps
abbrev tail_by : RingNo → ℕ → Step → ℕ
tail_by ring last (CpuStep cpu line) = last
tail_by ring last (ToolStep line) = last
tail_by ring last (SeenStep other place) = if other.0 == ring.0 then place else last

sends-tail : (bytes : ℕ) (a : Account) (sents : List (RingNo × SentSample)) → (fold (ring_step bytes) a (map (λ sent. Sends sent.1) sents)).tail ≡ a.tail
sends-tail bytes a [] = refl
sends-tail bytes a (sent ∷ sents) = sends-tail bytes (send bytes a sent.1) sents ∙ one (nat_le (need_of a sent.1) (room_of bytes a))
  where
    one : (b : Bool) → (elim b as (λ x. Account) [ true ↦ written_to a sent.1 | false ↦ lost_to a sent.1 ]).tail ≡ a.tail
    one true = refl
    one false = refl

looks-tail : (bytes : ℕ) (ring : RingNo) (a : Account) (x : Step) → (fold (ring_step bytes) a (looks_at ring x)).tail ≡ tail_by ring a.tail x
looks-tail bytes ring a (CpuStep cpu line) = refl
looks-tail bytes ring a (ToolStep line) = refl
looks-tail bytes ring a (SeenStep other place) = one (other.0 == ring.0)
  where
    one : (b : Bool) → (fold (ring_step bytes) a (if b then Looks place ∷ [] else [])).tail ≡ (if b then place else a.tail)
    one true = refl
    one false = refl

events-tail : (bytes : ℕ) (hw : Hardware) (s : Stage) (ring : RingNo) (a : Account) (before : List Step) (x : Step)
    → (fold (ring_step bytes) a (events_after hw s ring before x)).tail ≡ tail_by ring a.tail x
events-tail bytes hw s ring a before x =
    let sents : List (RingNo × SentSample) = filter (is_to ring) (sent_after hw s before x) in
    ap (λ b. b.tail) (fold-append (ring_step bytes) a (looks_at ring x) (sends_to ring (sent_after hw s before x)))
    ∙ (sends-tail bytes (fold (ring_step bytes) a (looks_at ring x)) sents ∙ looks-tail bytes ring a x)

from-tail : (bytes : ℕ) (hw : Hardware) (s : Stage) (ring : RingNo) (a : Account) (before steps : List Step)
    → (fold (ring_step bytes) a (events_from hw s ring before steps)).tail ≡ fold (tail_by ring) a.tail steps
unfolding events_from
from-tail bytes hw s ring a before [] = refl
from-tail bytes hw s ring a before (x ∷ steps) =
    let now : Account = fold (ring_step bytes) a (events_after hw s ring before x) in
    ap (λ b. b.tail) (fold-append (ring_step bytes) a (events_after hw s ring before x) (events_from hw s ring (before ++ x ∷ []) steps))
    ∙ (from-tail bytes hw s ring now (before ++ x ∷ []) steps ∙ ap (λ last. fold (tail_by ring) last steps) (events-tail bytes hw s ring a before x))

account-tail : (hw : Hardware) (s : Stage) (steps : List Step) (ring : RingNo) (bytes : ℕ) → (account_of hw s steps (ring, bytes)).tail ≡ fold (tail_by ring) 0 steps
unfolding account_of account events_of
account-tail hw s steps ring bytes = from-tail bytes hw s ring empty_account [] steps

-- and by acts
act-tail : (s : Scripted) (ring : RingNo) (last : ℕ) (before : List Act) (a : Act) → fold (tail_by ring) last (steps_of s before a) ≡ seen_at ring last a
act-tail s ring last before (act.Processor cpu) = one (next_of_cpu s before cpu)
  where
    one : (line : Option CpuLine) → fold (tail_by ring) last (cpu_steps cpu line) ≡ last
    one None = refl
    one (Some line) = refl
act-tail s ring last before (act.Tool tool) = one (next_of_tool s before tool)
  where
    one : (line : Option ToolLine) → fold (tail_by ring) last (tool_steps line) ≡ last
    one None = refl
    one (Some line) = refl
act-tail s ring last before (act.Seen other place) = refl

acts-tail : (s : Scripted) (ring : RingNo) (last : ℕ) (before acts : List Act) → fold (tail_by ring) last (steps_from s before acts) ≡ fold (seen_at ring) last acts
unfolding steps_from
acts-tail s ring last before [] = refl
acts-tail s ring last before (a ∷ acts) =
    fold-append (tail_by ring) last (steps_of s before a) (steps_from s (before ++ a ∷ []) acts)
    ∙ (acts-tail s ring (fold (tail_by ring) last (steps_of s before a)) (before ++ a ∷ []) acts
    ∙ ap (λ l. fold (seen_at ring) l acts) (act-tail s ring last before a))

pub seen_tail : TailLaw
seen_tail s acts ring bytes = account-tail (hardware_of s) (opening_stage s) (history s acts) ring bytes ∙ acts-tail s ring 0 [] acts
