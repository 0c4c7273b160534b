use Rattle.std.proofs.Common.{arith}
use Rattle.byteorder.specs.Endian.{little_bytes}
use Rattle.attr_bytes.proofs.Numbers.{puts_number, put_from}
use Rattle.attr_bytes.proofs.fields.put_u64.Goals as goal

pub returns : goal.returns
returns c =
    puts_number c.args.offset 8 c.args.number c.args.bytes.now _ c.requires (omega arith)
    (put_from c.args.offset 8 c.args.bytes.now _ (little_bytes 8 c.args.number) c.write_u64.ensures)
