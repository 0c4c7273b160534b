use Rattle.std.proofs.Common.{ap, ◌/◌, ◌∙◌}
use Rattle.report.proofs.Told.{first_cut_at}
use Rattle.report.proofs.rings.first_length.Goals as goal

pub returns-clause-cut : goal.returns-clause-cut
returns-clause-cut c =
    first_cut_at c.args.words.now c.from-size.result c.clamp.result c.requires (c.from-size.ensures ∙ ap (λ n. n / 8) c.header_of.ensures.size) c.clamp.ensures
