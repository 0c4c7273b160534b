-- inner
-- How the order that a run leaves grows, by one act and the looks at tails that stand before it. This project's own
-- profile.
use Rattle.std.specs.Prelude.{◌≡◌, ℕ, ◌+◌, ◌<◌, ◌≤◌, Bool, true, false, List, [], ◌∷◌, ◌++◌}
use Rattle.perf_base.specs.{declared.{numbers.{CpuNo.{CpuNo}, RingNo.{RingNo}, ToolNo.{ToolNo}}, acts.Act.{Act}}, Scripts.{Scripted}}
use Rattle.perf_base.specs.declared.acts.Act.TheVariants as act
use Rattle.stage_spec.specs.{Order.{last_seen, done_by_cpu, done_by_tool, IsComplete}, Replies.{lines_from}}
use Rattle.report_spec.specs.Answers.{IsRunShaped}

-- Looks at tails that one act of a run makes after some acts: by rising rings from a number on, each at a place above
-- the last one seen of its ring.
abbrev pub AreLooks : (from : ℕ) → (before : List Act) → List Act → Type 0
AreLooks from before [] = Unit {0}
AreLooks from before (act.Processor cpu ∷ looks) = ⊥
AreLooks from before (act.Tool tool ∷ looks) = ⊥
AreLooks from before (act.Seen ring place ∷ looks) = (from ≤ ring.0) × (last_seen ring before < place) × AreLooks (ring.0 + 1) before looks

-- each of these acts is a look at a ring below a number
abbrev pub AreBelow : ℕ → List Act → Type 0
AreBelow n [] = Unit {0}
AreBelow n (act.Processor cpu ∷ looks) = ⊥
AreBelow n (act.Tool tool ∷ looks) = ⊥
AreBelow n (act.Seen ring place ∷ looks) = (ring.0 < n) × AreBelow n looks

-- the last act, if there is one, is no look
abbrev pub EndsWithLine : List Act → Type 0
EndsWithLine order = (before : List Act) (ring : RingNo) (place : ℕ) → order ≡ before ++ act.Seen ring place ∷ [] → ⊥

-- whether an act is a look, a line of a processor, or any line
abbrev pub is_look : Act → Bool
is_look (act.Processor cpu) = false
is_look (act.Tool tool) = false
is_look (act.Seen ring place) = true

abbrev pub is_cpu_act : Act → Bool
is_cpu_act (act.Processor cpu) = true
is_cpu_act (act.Tool tool) = false
is_cpu_act (act.Seen ring place) = false

abbrev pub does_line : Act → Bool
does_line (act.Processor cpu) = true
does_line (act.Tool tool) = true
does_line (act.Seen ring place) = false

-- A run-shaped order that ends with a line stays so by looks, by a processor's act with looks before it, and by a
-- tool's act without. The last two end with a line again, and the order of no act is the first such one.
abbrev pub ShapedNoneLaw : Type 0
ShapedNoneLaw = IsRunShaped [] × EndsWithLine []

abbrev pub ShapedLooksLaw : Type 0
ShapedLooksLaw = (order looks : List Act) → IsRunShaped order → EndsWithLine order → AreLooks 0 order looks → IsRunShaped (order ++ looks)

abbrev pub ShapedCpuLaw : Type 0
ShapedCpuLaw = (order looks : List Act) (cpu : CpuNo) → IsRunShaped order → EndsWithLine order → AreLooks 0 order looks
    → IsRunShaped (order ++ (looks ++ act.Processor cpu ∷ [])) × EndsWithLine (order ++ (looks ++ act.Processor cpu ∷ []))

abbrev pub ShapedToolLaw : Type 0
ShapedToolLaw = (order : List Act) (tool : ToolNo) → IsRunShaped order → EndsWithLine order
    → IsRunShaped (order ++ act.Tool tool ∷ []) × EndsWithLine (order ++ act.Tool tool ∷ [])

-- Looks grow by a look at a ring above theirs, which they have not seen.
abbrev pub LooksMoreLaw : Type 0
LooksMoreLaw = (from : ℕ) (before looks : List Act) (ring : RingNo) (place : ℕ) → AreLooks from before looks → AreBelow ring.0 looks → from ≤ ring.0
    → last_seen ring before < place → AreLooks from before (looks ++ act.Seen ring place ∷ [])

abbrev pub BelowMoreLaw : Type 0
BelowMoreLaw = (n m : ℕ) (looks : List Act) (ring : RingNo) (place : ℕ) → AreBelow n looks → n ≤ m → ring.0 < m → AreBelow m (looks ++ act.Seen ring place ∷ [])

abbrev pub UnseenLooksLaw : Type 0
UnseenLooksLaw = (before looks : List Act) (ring : RingNo) → AreBelow ring.0 looks → last_seen ring (before ++ looks) ≡ last_seen ring before

-- Looks do no line of a processor or of a tool, so they leave an order complete, and they have no answers.
abbrev pub LooksDoNothingLaw : Type 0
LooksDoNothingLaw = (from : ℕ) (before looks : List Act) → AreLooks from before looks
    → ((cpu : CpuNo) → done_by_cpu cpu (before ++ looks) ≡ done_by_cpu cpu before) × ((tool : ToolNo) → done_by_tool tool (before ++ looks) ≡ done_by_tool tool before)

abbrev pub CompleteLooksLaw : Type 0
CompleteLooksLaw = (s : Scripted) (from : ℕ) (order looks : List Act) → IsComplete s order → AreLooks from order looks → IsComplete s (order ++ looks)

abbrev pub NoLineLaw : Type 0
NoLineLaw = (from : ℕ) (before looks : List Act) → AreLooks from before looks → lines_from before looks ≡ []
