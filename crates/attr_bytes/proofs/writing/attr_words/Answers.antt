use Rattle.std.proofs.Common.{rules}
use Rattle.attr_bytes.proofs.{Laws.{IsWritten-StandsFor}, Numbers.{zero_end}}
use Rattle.attr_bytes.proofs.writing.attr_words.Goals as goal

pub returns-clause-stands : goal.returns-clause-stands
returns-clause-stands c = IsWritten-StandsFor _ c.args.raw.now (record {
  length = search rules;
  class = search rules;
  size = search rules;
  config = search rules;
  period = search rules;
  sample = search rules;
  format = search rules;
  read_bits = rw c.put_u64-5.ensures.put c.word_of_flags.ensures.read_bits;
  flags = rw c.put_u64-5.ensures.put c.word_of_flags.ensures.flags;
  bp_type = search (rules, zero_end.1);
  config1 = search (rules, zero_end.2);
}) c.requires.class

pub returns-clause-wakeup_events : goal.returns-clause-wakeup_events
returns-clause-wakeup_events c = search (rules, zero_end.0)
