use Rattle.std.proofs.Common.{◌∙◌, sym}
use Rattle.event_reads.proofs.Wording.{read-by, refuses-by, refuses-unopened}
use Rattle.event_reads.proofs.reading.read.Goals as goal

pub returns-in_default-clause-refused : goal.returns-in_default-clause-refused
returns-in_default-clause-refused c =
    refuses-unopened c.args.world.now.hardware c.args.world.now c.args.event c.args.size c.key_of.ensures.kept (sym c.key_of.ensures.key ∙ c.in_default.is)

pub returns-then-is_short-clause-refused : goal.returns-then-is_short-clause-refused
returns-then-is_short-clause-refused c =
    refuses-by c.args.world.now.hardware c.args.world.now c.args.event c.in-Some.key _ c.args.size _ _ _ c.key_of.ensures.kept (sym c.key_of.ensures.key ∙ c.in-Some.is)
    c.leader_of.ensures c.words_unless_error-words.ensures c.is_short.ensures c.if-is_short.true

pub returns-clause-accepted : goal.returns-clause-accepted
returns-clause-accepted c =
    refuses-by c.args.world.now.hardware c.args.world.now c.args.event c.in-Some.key _ c.args.size _ _ _ c.key_of.ensures.kept (sym c.key_of.ensures.key ∙ c.in-Some.is)
    c.leader_of.ensures c.words_unless_error-words.ensures c.is_short.ensures c.if-is_short.false

pub returns-clause-words : goal.returns-clause-words
returns-clause-words c =
    read-by c.args.world.now.hardware c.args.world.now c.args.event c.in-Some.key c.leader_of.result c.words_unless_error-words.result c.key_of.ensures.kept
    (sym c.key_of.ensures.key ∙ c.in-Some.is) c.leader_of.ensures c.words_unless_error-words.ensures
