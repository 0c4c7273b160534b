use Rattle.std.{specs.Prelude.{◌≡◌, ℕ, List, None, Some}, proofs.Common.{subst, sym, ◌∙◌}}
use Rattle.perf_io.specs.{Outside.{SinkShows, SourceShows}, Streams.{CalmState, only_calls}}
use Rattle.perf_top.{specs.Outcome.{IsAnswer}, proofs.Whole.{rose-reading, rose-writing, stays}}
use Rattle.perf_ask.specs.declared.status.Status.{Status}
use Rattle.perf_ask.specs.declared.status.Status.TheVariants as status
use Rattle.perf_top.proofs.calm_main.Goals as goal

-- what such a source and such a sink show
abbrev source_shows : SourceShows (List ℕ)
source_shows = record { left = λ b. Some b; faults = λ b. 0; last_fault = None }

abbrev sink_shows : SinkShows CalmState
sink_shows = record { held = λ s. None; flushed = λ s. only_calls s.flushes; faults = λ s. 0; last_fault = None }

pub returns-clause-read : goal.returns-clause-read
returns-clause-read g c = λ e.
    let h = c.perf_main.ensures.answer (λ u. let both : status.ReadFault ≡ status.Usage = sym e ∙ u in cc) in
    stays 0 (rose-reading source_shows sink_shows h.0 c.args.source.now c.perf_main.new.source c.args.sink.now c.perf_main.new.sink
    (subst (λ (x : Status). IsAnswer source_shows sink_shows h.0 x c.args.source.now c.perf_main.new.source c.args.sink.now c.perf_main.new.sink) e h.2))

pub returns-clause-write : goal.returns-clause-write
returns-clause-write g c = λ e.
    let h = c.perf_main.ensures.answer (λ u. let both : status.WriteFault ≡ status.Usage = sym e ∙ u in cc) in
    stays 0 (rose-writing source_shows sink_shows h.0 c.args.source.now c.perf_main.new.source c.args.sink.now c.perf_main.new.sink
    (subst (λ (x : Status). IsAnswer source_shows sink_shows h.0 x c.args.source.now c.perf_main.new.source c.args.sink.now c.perf_main.new.sink) e h.2))

pub returns-clause-complete : goal.returns-clause-complete
returns-clause-complete g c = λ a asks can. c.perf_main.ensures.complete a asks can (stays 0) (stays 0)
