-- inner
-- How what is asked ends beside a source that has a text, by the answer and what was written. This project's own
-- profile.
use Rattle.std.specs.Prelude.{◌≡◌, ◌⊎◌, ◌<◌, ◌≤◌, ⊤, ℕ, List, [], length, Option, Some}
use Rattle.perf_base.specs.{declared.{numbers.RingNo.{RingNo}, reasons.SReason.{SReason}}, Scripts.{Scripted}}
use Rattle.script_spec.specs.Texts.{IsRefused, StandsFor}
use Rattle.stage_spec.specs.Order.{IsComplete}
use Rattle.perf_ask.specs.{Asking.{AreKnown, Asks, DoesOrder, ReadsScript}, Reading.{HasOpenOrder}}
use Rattle.perf_ask.specs.declared.{asked.Asked.{Asked}, status.Status.{Status}}
use Rattle.perf_top.specs.Outcome.{HasBadLook, IsGiven, IsOutput}
use Rattle.perf_ask.specs.declared.status.Status.TheVariants as status

-- An answer has its cause in the words and the text: neither memory nor room ran out.
abbrev pub IsCaused : Status → Type 0
IsCaused status.NoMemory = ⊥
IsCaused status.ReadFault = ⊥
IsCaused status.WriteFault = ⊥
IsCaused other = ⊤

-- what is asked has written this
abbrev pub IsWritten : Asked → List ℕ → List ℕ → Type 0
IsWritten a text out = (left : Option (List ℕ)) × (s : Scripted) × IsGiven (λ bytes. bytes) a (Some text) left s × IsOutput a s out

-- the text is no script, or one whose own order is to be done and is not complete
abbrev pub IsBadScript : Asked → List ℕ → ℕ → SReason → Type 0
IsBadScript a text line reason = ReadsScript a × (length text ≤ 4194304) × (IsRefused text line reason ⊎ (DoesOrder a × HasOpenOrder text line reason))

-- the text is a script whose own order is to be done, is complete and has such a look
abbrev pub IsBadOrder : Asked → List ℕ → ℕ → RingNo → ℕ → ℕ → ℕ → Type 0
IsBadOrder a text index ring last head given =
    DoesOrder a × (length text ≤ 4194304) × ((s : Scripted) × StandsFor text s × IsComplete s s.order × HasBadLook s index ring last head given)

-- What is asked was answered so, and wrote this. Under each answer but Done nothing is written.
abbrev pub IsOutcome : Asked → List ℕ → Status → List ℕ → Type 0
IsOutcome a text status.Done out = IsWritten a text out
IsOutcome a text (status.BadScript line reason) out = IsBadScript a text line reason × (out ≡ [])
IsOutcome a text (status.BadOrder index ring last head given) out = IsBadOrder a text index ring last head given × (out ≡ [])
IsOutcome a text status.TooLong out = ReadsScript a × (4194304 < length text) × (out ≡ [])
IsOutcome a text other out = ⊥

-- The words were answered so, and have written this.
abbrev pub HaveOutcome : List (List ℕ) → List ℕ → Status → List ℕ → Type 0
HaveOutcome words text status.Usage out = (AreKnown words → ⊥) × (out ≡ [])
HaveOutcome words text answer out = (a : Asked) × Asks words a × IsOutcome a text answer out
