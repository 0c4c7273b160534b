use Rattle.std.proofs.Common.{◌∙◌}
use Rattle.sample_records.proofs.HeaderBytes.{header_bytes}
use Rattle.sample_records.proofs.header.header_word.Goals as goal

pub returns : goal.returns
returns c =
    c.read_u64.ensures
    ∙ header_bytes c.args.kind c.args.misc c.args.size _ _ _ c.ranges.kind.fits c.ranges.misc.fits c.ranges.size.fits
    c.write_u32.ensures c.write_u16.ensures c.write_u16-2.ensures
