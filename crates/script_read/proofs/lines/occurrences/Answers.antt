use Rattle.std.proofs.Common.{◌∷◌, [], sym, subst}
use Rattle.line_forms.specs.Forms.{hit_of}
use Rattle.script_read.proofs.Counting.{IsCounting, counting_none, counting_on, counting_more, too_large, all_counted, not_kinds}
use Rattle.script_read.proofs.lines.occurrences.Goals as goal

pub loop-hit-init : goal.loop-hit-init
loop-hit-init c = counting_none c.args.script.now.kinds c.args.hits c.requires.kinds_few

pub returns-in_default-amount-clause-bad : goal.returns-in_default-amount-clause-bad
returns-in_default-amount-clause-bad c =
    too_large c.args.script.now.kinds c.args.hits c.loop-hit.times c.loop-hit.named (hit_of c.in-Some.hit) c.in-Some.more c.loop-hit.are_kinds
    (subst (IsCounting c.args.script.now.kinds c.args.hits c.loop-hit.are_kinds c.loop-hit.times c.loop-hit.named) c.in-Some.ensures c.loop-hit.invariant) c.in_default-amount.ensures

pub loop-hit-preserved-then-are_kinds : goal.loop-hit-preserved-then-are_kinds
loop-hit-preserved-then-are_kinds c =
    counting_more c.args.script.now.kinds c.args.hits c.loop-hit.times c.loop-hit.named (hit_of c.in-Some.hit) c.in-Some.more
    (subst (λ b. IsCounting c.args.script.now.kinds c.args.hits b c.loop-hit.times c.loop-hit.named (hit_of c.in-Some.hit ∷ c.in-Some.more)) c.if-are_kinds.true
    (subst (IsCounting c.args.script.now.kinds c.args.hits c.loop-hit.are_kinds c.loop-hit.times c.loop-hit.named) c.in-Some.ensures c.loop-hit.invariant))
    c.in-Some-amount.ensures.0 c.count-are_kinds.result c.count-are_kinds.new.times c.count-are_kinds.new.named (λ front h. rw c.in-Some-amount.ensures.1 at (c.count-are_kinds.ensures front h))

pub loop-hit-preserved : goal.loop-hit-preserved
loop-hit-preserved c =
    subst (λ b. IsCounting c.args.script.now.kinds c.args.hits b c.loop-hit.times c.loop-hit.named c.in-Some.more) (sym c.if-are_kinds.false)
    (counting_on c.args.script.now.kinds c.args.hits c.loop-hit.times c.loop-hit.named (hit_of c.in-Some.hit) c.in-Some.more
    (subst (λ b. IsCounting c.args.script.now.kinds c.args.hits b c.loop-hit.times c.loop-hit.named (hit_of c.in-Some.hit ∷ c.in-Some.more)) c.if-are_kinds.false
    (subst (IsCounting c.args.script.now.kinds c.args.hits c.loop-hit.are_kinds c.loop-hit.times c.loop-hit.named) c.in-Some.ensures c.loop-hit.invariant))
    c.in-Some-amount.ensures.0 c.loop-hit.times c.loop-hit.named)

pub returns-then-are_kinds-2-clause-ok : goal.returns-then-are_kinds-2-clause-ok
returns-then-are_kinds-2-clause-ok c =
    all_counted c.args.script.now.kinds c.args.hits c.loop-hit.times c.loop-hit.named
    (subst (λ b. IsCounting c.args.script.now.kinds c.args.hits b c.loop-hit.times c.loop-hit.named []) c.if-are_kinds-2.true
    (subst (IsCounting c.args.script.now.kinds c.args.hits c.loop-hit.are_kinds c.loop-hit.times c.loop-hit.named) c.in_default.ensures c.loop-hit.invariant))

pub returns-else-are_kinds-2-clause-bad : goal.returns-else-are_kinds-2-clause-bad
returns-else-are_kinds-2-clause-bad c =
    not_kinds c.args.script.now.kinds c.args.hits c.loop-hit.times c.loop-hit.named
    (subst (λ b. IsCounting c.args.script.now.kinds c.args.hits b c.loop-hit.times c.loop-hit.named []) c.if-are_kinds-2.false
    (subst (IsCounting c.args.script.now.kinds c.args.hits c.loop-hit.are_kinds c.loop-hit.times c.loop-hit.named) c.in_default.ensures c.loop-hit.invariant))
