-- How what is asked of a script ends.
use Rattle.std.{specs.Prelude.{◌≡◌, ◌⊎◌, ℕ, List}, proofs.Common.{inl, inr, subst, sym}}
use Rattle.perf_base.specs.Scripts.{Scripted}
use Rattle.perf_io.specs.{Outside.{Adds, SinkShows, SourceShows}, Wrote.{WroteFront}}
use Rattle.perf_top.specs.{Outcome.{IsAnswer, IsEnding, IsFlushed, IsFlushedOnce, IsGiven, IsOutput}}
use Rattle.perf_ask.specs.declared.{asked.Asked.{Asked}, status.Status.{Status}}
use Rattle.perf_ask.specs.declared.status.Status.TheVariants as status

-- a text was sent that is what is to be written
pub sent : {K : Type 0} (shows : SinkShows K) (a : Asked) (s : Scripted) (out : List ℕ) (answer : Status) (before after : K)
    → IsOutput a s out → (answer ≡ status.Done) ⊎ (answer ≡ status.WriteFault)
    → (answer ≡ status.Done → Adds (shows.held before) (shows.held after) out × IsFlushed (shows.held after) (shows.flushed before) (shows.flushed after))
    → (answer ≡ status.WriteFault → WroteFront shows before after out × IsFlushedOnce (shows.flushed before) (shows.flushed after)) → IsEnding shows a s answer before after
sent shows a s out answer before after is (inl e) done front =
    subst (λ (x : Status). IsEnding shows a s x before after) (sym e) (let d = done e in (out, is, d.0, d.1))
sent shows a s out answer before after is (inr e) done front =
    subst (λ (x : Status). IsEnding shows a s x before after) (sym e) (let f = front e in (out, is, f.0, f.1))

-- what is to be done was given, and done
pub answered : {S K : Type 0} (source_shows : SourceShows S) (shows : SinkShows K)
    (a : Asked) (job : Asked × Scripted) (answer : Status) (source read : S) (sink written : K) → job.0 ≡ a → IsGiven source_shows.left a source read job.1
    → IsEnding shows job.0 job.1 answer sink written → IsAnswer source_shows shows a answer source read sink written
answered source_shows shows a job answer source read sink written is given ending =
    inr (job.1, given, subst (λ (x : Asked). IsEnding shows x job.1 answer sink written) is ending)
