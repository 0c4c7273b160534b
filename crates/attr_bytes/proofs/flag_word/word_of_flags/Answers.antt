use Rattle.std.proofs.Common.{refl, sym}
use Rattle.attr_bytes.proofs.Bits.{flags_are, word-AreFlagsOf, word-HasOnlyReadBits, word-bit_other}
use Rattle.attr_bytes.proofs.flag_word.word_of_flags.Goals as goal

pub returns-clause-flags : goal.returns-clause-flags
returns-clause-flags c = sym (flags_are _ c.args.flags.0 (word-AreFlagsOf c.args.flags.0 c.requires))

pub returns-clause-read_bits : goal.returns-clause-read_bits
returns-clause-read_bits c = word-HasOnlyReadBits c.args.flags.0 _

pub returns-clause-exclude_hv : goal.returns-clause-exclude_hv
returns-clause-exclude_hv c = word-bit_other c.args.flags.0 _ 6 refl refl

pub returns-clause-exclude_guest : goal.returns-clause-exclude_guest
returns-clause-exclude_guest c = word-bit_other c.args.flags.0 _ 20 refl refl
