-- How a call ended, beside what its source had.
use Rattle.std.{specs.Prelude.{◌⊎◌, ◌<◌, ◌≤◌, IfOk, IfSome, Result, Ok, Err}, proofs.Common.{◌≡◌, ◌↔◌, ℕ, List, [], ◌∷◌, Option, Some, inl, inr, length, codes, refl, sym, ap, subst, ◌∙◌}}
use Rattle.std.proofs.lemmas.Option.{same_Some}
use Rattle.perf_base.specs.{declared.{numbers.RingNo.{RingNo}, reasons.SReason.{SReason}}, Scripts.{Scripted}}
use Rattle.stage_spec.specs.Order.{IsComplete}
use Rattle.script_spec.specs.Texts.{IsRefused, StandsFor}
use Rattle.script_read.specs.declared.fault.ScriptFault.TheVariants as fault
use Rattle.perf_io.specs.{Counts.{last_count}, MemSink.{SinkState}, MemSource.{SourceState}, Outside.{Adds, SinkShows, SourceShows}}
use Rattle.perf_ask.specs.{declared.{status.Status.{Status}, asked.Asked.{Asked}}, Asking.{AreKnown, Asks, DoesOrder}}
use Rattle.perf_ask.{specs.Reading.{Gave, HasOpenOrder}, proofs.Asking.{for-asked}}
use Rattle.perf_top.{specs.Outcome.{HasBadLook, IsAnswer, IsGiven, IsOutput}, proofs.Whole.{gave-is}}
use Rattle.perf_ask.specs.declared.status.Status.TheVariants as status
use Rattle.perf_ask.specs.declared.asked.Asked.TheVariants as asked
use Rattle.case_verdicts.specs.{Written.{HaveOutcome, IsBadOrder, IsBadScript, IsCaused, IsOutcome, IsWritten}, declared.answer.Answer.{Answer}}

-- what is given over a source is given over its bytes
over-bytes : {S : Type 0} (left : S → Option (List ℕ)) (a : Asked) (before after : S) (s : Scripted) → IsGiven left a before after s → IsGiven (λ bytes. bytes) a (left before) (left after) s
over-bytes left asked.Replay before after s g = g
over-bytes left asked.Run before after s g = g
over-bytes left asked.Stat before after s g = g
over-bytes left (asked.Watch w) before after s g = g
over-bytes left (asked.Make n) before after s g = (ap left g.0, g.1)
over-bytes left (asked.MadeScript n) before after s g = (ap left g.0, g.1)
over-bytes left (asked.Attr bytes) before after s g = ap left g

-- a sink that was empty and is as it was holds nothing
nothing-in : {K : Type 0} (shows : SinkShows K) (now : List ℕ) (sink written : K) → shows.held sink ≡ Some [] → shows.held written ≡ Some now → written ≡ sink → now ≡ []
nothing-in shows now sink written empty full same = same_Some now [] (sym full ∙ (ap shows.held same ∙ empty))

-- the sink was empty, and holds what was written beside what the source had
written-by : {S K : Type 0} (source_shows : SourceShows S) (shows : SinkShows K)
    (had now : List ℕ) (a : Asked) (source read : S) (sink written : K)
    → IsAnswer source_shows shows a status.Done source read sink written → source_shows.left source ≡ Some had → shows.held sink ≡ Some [] → shows.held written ≡ Some now
    → IsWritten a had now
written-by source_shows shows had now a source read sink written (inl h) e empty full = absurd h.0
written-by source_shows shows had now a source read sink written (inr h) e empty full =
    let given : IsGiven (λ bytes. bytes) a (Some had) (source_shows.left read) h.0 = subst (λ b. IsGiven (λ bytes. bytes) a b (source_shows.left read) h.0) e (over-bytes source_shows.left a source read h.0 h.1) in
    let added : Adds (Some []) (Some now) h.2.0 = subst (λ b. Adds (Some []) b h.2.0) full (subst (λ b. Adds b (shows.held written) h.2.0) empty h.2.2) in
    (source_shows.left read, h.0, given, subst (IsOutput a h.0) (sym added) h.2.1)

-- a text that is no script, or whose order is not complete
refused-by : {S : Type 0} (source_shows : SourceShows S)
    (had : List ℕ) (line : ℕ) (reason : SReason) (a : Asked) (source read : S)
    → (text : List ℕ) × Gave (source_shows.left source) (source_shows.left read) text × (IsRefused text line reason ⊎ (DoesOrder a × HasOpenOrder text line reason))
    → source_shows.left source ≡ Some had → (length had ≤ 4194304) × (IsRefused had line reason ⊎ (DoesOrder a × HasOpenOrder had line reason))
refused-by source_shows had line reason a source read why e =
    let same : why.0 ≡ had = gave-is (source_shows.left source) (source_shows.left read) had why.0 e why.1 in
    subst (λ t. (length t ≤ 4194304) × (IsRefused t line reason ⊎ (DoesOrder a × HasOpenOrder t line reason))) same (why.1.short, why.2)

-- the script that was read, where its own order is done
ordered-by : {S : Type 0} (source_shows : SourceShows S)
    (had : List ℕ) (a : Asked) (source read : S) (s : Scripted) → DoesOrder a → IsGiven source_shows.left a source read s → source_shows.left source ≡ Some had
    → (length had ≤ 4194304) × StandsFor had s × IsComplete s s.order
ordered-by source_shows had asked.Replay source read s order g e =
    subst (λ t. (length t ≤ 4194304) × StandsFor t s × IsComplete s s.order) (gave-is (source_shows.left source) (source_shows.left read) had g.0 e g.1) (g.1.short, g.2, g.3 tt)
ordered-by source_shows had asked.Stat source read s order g e =
    subst (λ t. (length t ≤ 4194304) × StandsFor t s × IsComplete s s.order) (gave-is (source_shows.left source) (source_shows.left read) had g.0 e g.1) (g.1.short, g.2, g.3 tt)
ordered-by source_shows had a source read s order g e = absurd order

-- a text whose order has a look that is not lawful
bad-by : {S : Type 0} (source_shows : SourceShows S)
    (had : List ℕ) (index : ℕ) (ring : RingNo) (seen head given : ℕ) (a : Asked) (source read : S) (s : Scripted)
    → IsGiven source_shows.left a source read s → DoesOrder a → HasBadLook s index ring seen head given → source_shows.left source ≡ Some had
    → IsBadOrder a had index ring seen head given
bad-by source_shows had index ring seen head given a source read s g order bad e =
    let h = ordered-by source_shows had a source read s order g e in
    (order, h.0, (s, h.1, h.2, bad))

-- what is asked ended so, where neither memory nor room ran out
pub outcome-by : {S K : Type 0} (source_shows : SourceShows S) (shows : SinkShows K)
    (had now : List ℕ) (a : Asked) (answer : Status) (source read : S) (sink written : K)
    → IsAnswer source_shows shows a answer source read sink written → source_shows.left source ≡ Some had → shows.held sink ≡ Some [] → shows.held written ≡ Some now → IsCaused answer
    → IsOutcome a had answer now
outcome-by source_shows shows had now a status.Done source read sink written h e empty full caused = written-by source_shows shows had now a source read sink written h e empty full
outcome-by source_shows shows had now a (status.BadScript line reason) source read sink written (inl h) e empty full caused =
    let why = refused-by source_shows had line reason a source read h.0.1 e in
    ((h.0.0, why.0, why.1), nothing-in shows now sink written empty full h.1)
outcome-by source_shows shows had now a (status.BadOrder index ring seen head given) source read sink written (inr h) e empty full caused =
    (bad-by source_shows had index ring seen head given a source read h.0 h.1 h.2.0 h.2.1 e, nothing-in shows now sink written empty full h.2.2)
outcome-by source_shows shows had now a status.TooLong source read sink written (inl h) e empty full caused =
    (h.0.0, subst (λ b. IfSome b (λ bytes. 4194304 < length bytes)) e h.0.1, nothing-in shows now sink written empty full h.1)
outcome-by source_shows shows had now a status.NoMemory source read sink written h e empty full caused = absurd caused
outcome-by source_shows shows had now a status.ReadFault source read sink written h e empty full caused = absurd caused
outcome-by source_shows shows had now a status.WriteFault source read sink written h e empty full caused = absurd caused
outcome-by source_shows shows had now a other source read sink written (inl h) e empty full caused = absurd h.0
outcome-by source_shows shows had now a other source read sink written (inr h) e empty full caused = absurd h.2

-- and so did words
pub have-outcome : {S K : Type 0} (source_shows : SourceShows S) (shows : SinkShows K)
    (words : List (List ℕ)) (had now : List ℕ) (answer : Status) (source read : S) (sink written : K)
    → ((answer ≡ status.Usage → ⊥) → (a : Asked) × Asks words a × IsAnswer source_shows shows a answer source read sink written)
    → (answer ≡ status.Usage ↔ (AreKnown words → ⊥)) → (answer ≡ status.Usage → written ≡ sink)
    → source_shows.left source ≡ Some had → shows.held sink ≡ Some [] → shows.held written ≡ Some now → IsCaused answer
    → HaveOutcome words had answer now
have-outcome source_shows shows words had now status.Usage source read sink written answered usage unknown e empty full caused =
    (usage.0 refl, nothing-in shows now sink written empty full (unknown refl))
have-outcome source_shows shows words had now answer source read sink written answered usage unknown e empty full caused =
    let h = answered (λ same. cc) in
    (h.0, h.1, outcome-by source_shows shows had now h.0 answer source read sink written h.2 e empty full caused)

-- and so did the word for a replay, which asks for nothing else
pub replay-outcome : {S K : Type 0} (source_shows : SourceShows S) (shows : SinkShows K)
    (words : List (List ℕ)) (had now : List ℕ) (answer : Status) (source read : S) (sink written : K) → words ≡ codes "replay" ∷ []
    → ((answer ≡ status.Usage → ⊥) → (a : Asked) × Asks words a × IsAnswer source_shows shows a answer source read sink written)
    → (answer ≡ status.Usage → AreKnown words → ⊥)
    → source_shows.left source ≡ Some had → shows.held sink ≡ Some [] → shows.held written ≡ Some now → IsCaused answer
    → IsOutcome asked.Replay had answer now
replay-outcome source_shows shows words had now answer source read sink written is answered usage e empty full caused =
    let h = answered (λ u. usage u (asked.Replay, is)) in
    for-asked (λ a. IsOutcome a had answer now) words h.0 asked.Replay h.1
    (outcome-by source_shows shows had now h.0 answer source read sink written h.2 e empty full caused) is

-- what holds of a call holds of the answer that is made of it
pub of-answer : {E : Type 0} (P : Status → List ℕ → Type 0) (r : Result Answer E) (answer : Status) (out : SinkState)
    → IfOk r (λ a. (a.status ≡ answer) × (a.out ≡ out)) → IfOk r (λ a. IsCaused a.status) → (IsCaused answer → P answer out.held) → IfOk r (λ a. P a.status a.out.held)
of-answer P (Ok a) answer out parts caused h =
    subst (λ s. P s a.out.held) (sym parts.0) (subst (λ (o : SinkState). P answer o.held) (sym parts.1) (h (subst IsCaused parts.0 caused)))
of-answer P (Err e) answer out parts caused h = tt

-- what a source and a sink in memory show
abbrev pub source_in_memory : SourceShows SourceState
source_in_memory = record { left = λ s. Some s.left; faults = λ s. s.faults; last_fault = Some last_count }

abbrev pub sink_in_memory : SinkShows SinkState
sink_in_memory = record { held = λ s. Some s.held; flushed = λ s. s.flushed; faults = λ s. s.faults; last_fault = Some last_count }

-- a faulty line is no want of memory
pub not_memory : (line : ℕ) (reason : SReason) → fault.Bad line reason ≡ fault.NoMemory → ⊥
not_memory line reason e = cc
