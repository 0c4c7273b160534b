use Rattle.std.proofs.Common.{ap}
use Rattle.perf_top.{specs.Attributes.{words_of_attr, line_of_words}, proofs.Rooms.{attr_fits, never_full}}
use Rattle.perf_top.proofs.attr.line_of_attr.Goals as goal

pub unreachable-requires : goal.unreachable-requires
unreachable-requires c =
    let h = rw c.in-Err.is at c.put_attr.ensures.written in
    never_full c.new-line.result c.put_attr.new.sink (line_of_words (words_of_attr c.args.raw)) (ap (λ l. l.text) c.new-line.ensures) (attr_fits c.args.raw) h
