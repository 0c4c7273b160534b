-- believed
-- What a call of the program reads, and why nothing is done of it. This project's own profile.
use Rattle.std.specs.Prelude.{◌≡◌, ◌⊎◌, ◌<◌, ◌≤◌, ℕ, List, length, IfSome, Option}
use Rattle.perf_base.specs.{declared.reasons.SReason.{SReason}, Scripts.{Scripted}}
use Rattle.perf_base.specs.declared.reasons.SReason.TheVariants as s_reason
use Rattle.perf_io.specs.Outside.{IsAtEnd, Rose, SourceShows, Takes}
use Rattle.stage_spec.specs.Order.{IsComplete}
use Rattle.script_spec.specs.{Lines.{lines_of}, Texts.{IsRefused, StandsFor}}
use Rattle.perf_ask.specs.{Asking.{DoesOrder, ReadsScript, TakesMemory}, declared.{asked.Asked.{Asked}, status.Status.{Status}}}
use Rattle.perf_ask.specs.declared.status.Status.TheVariants as status

-- The source was read to its end, and this is all that it gave.
pub record Gave (before after : Option (List ℕ)) (text : List ℕ) : Type 0 where
  pub short : length text ≤ 4194304
  pub taken : Takes before after text
  pub ended : IsAtEnd after

-- The text stands for a script whose order is not complete. The line is that of its `end`.
pub record HasOpenOrder (text : List ℕ) (line : ℕ) (reason : SReason) : Type 0 where
  pub script : Scripted
  pub stands : StandsFor text script
  pub incomplete : IsComplete script script.order → ⊥
  pub at_end : line ≡ length (lines_of text)
  pub is_order : reason ≡ s_reason.Order

-- Why nothing is done, by the answer and what the source shows.
abbrev pub IsRefusal : {S : Type 0} → SourceShows S → Asked → Status → S → S → Type 0
IsRefusal shows a status.NoMemory before after =
    TakesMemory a × ((after ≡ before) ⊎ (ReadsScript a × ((text : List ℕ) × Gave (shows.left before) (shows.left after) text)))
IsRefusal shows a status.ReadFault before after = ReadsScript a × Rose shows.last_fault (shows.faults before) (shows.faults after)
IsRefusal shows a status.TooLong before after = ReadsScript a × IfSome (shows.left before) (λ bytes. 4194304 < length bytes)
IsRefusal shows a (status.BadScript line reason) before after = ReadsScript a
    × ((text : List ℕ) × Gave (shows.left before) (shows.left after) text × (IsRefused text line reason ⊎ (DoesOrder a × HasOpenOrder text line reason)))
IsRefusal shows a other before after = ⊥
