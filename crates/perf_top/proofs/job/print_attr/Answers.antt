use Rattle.std.proofs.Common.{subst}
use Rattle.perf_base.specs.Scripts.{empty_script}
use Rattle.perf_top.{specs.Attributes.{IsLineOf}, proofs.Ending.{sent}}
use Rattle.perf_ask.specs.declared.asked.Asked.TheVariants as asked
use Rattle.perf_top.proofs.job.print_attr.Goals as goal

pub returns-clause-ending : goal.returns-clause-ending
returns-clause-ending g c =
    sent g.K.Sink.shows (asked.Attr c.args.bytes) (empty_script 1) c.line_of.result.text c.send.result c.args.sink.now c.send.new.sink
    (subst (λ bytes. IsLineOf bytes c.line_of.result.text) c.as_bytes.ensures c.line_of.ensures) c.send.ensures.only c.send.ensures.done c.send.ensures.fault
