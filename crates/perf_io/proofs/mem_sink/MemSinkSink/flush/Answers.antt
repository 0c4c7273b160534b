use Rattle.std.proofs.Common.{refl, subst, List, ℕ, Contains}
use Rattle.perf_io.specs.MemSink.{SinkState}
use Rattle.perf_io.proofs.mem_sink.MemSinkSink.flush.Goals as goal

pub returns-then-fails-clause-fails : goal.returns-then-fails-clause-fails
returns-then-fails-clause-fails c = (
  λ _. subst (λ (s : SinkState). Contains s.fail s.calls) c.self.view_is
      (subst (λ (l : List ℕ). Contains l c.self.inside.calls) c.deref.ensures.value (c.is_listed-fails.ensures.0 c.if-fails.true)),
  λ _. refl,
)
