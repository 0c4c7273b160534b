use Rattle.attr_bytes.proofs.Bits.{flags_are, AreFlagsOf-word}
use Rattle.attr_bytes.proofs.flag_word.flags_of_word.Goals as goal

pub returns : goal.returns
returns c = flags_are c.args.word _ (AreFlagsOf-word c.args.word)
