use Rattle.std.proofs.{Common.{◌<◌, ◌∙◌, arith, length, length-set}, lemmas.List.{take_more_set}}
use Rattle.line_forms.proofs.Loops.{pairs_step, pairs_count, pairs_end}
use Rattle.line_forms.proofs.lists.put_pairs.Goals as goal

pub loop-rest-preserved : goal.loop-rest-preserved
loop-rest-preserved c =
    let i = c.loop-rest.invariant in
    let below : c.loop-rest.count < length c.loop-rest.room = omega (arith, i.room, i.done, c.requires, c.in-len2-up.len_at_least) in
    record {
      pairs = rw (take_more_set c.loop-rest.room c.loop-rest.count c.pair.result below, c.pair.ensures) (pairs_step _ _ _ c.in-len2-up.len_at_least i.pairs);
      room = length-set c.loop-rest.room c.loop-rest.count c.pair.result ∙ i.room;
      done = pairs_count _ _ _ c.in-len2-up.len_at_least i.done;
    }

pub returns-clause-pairs : goal.returns-clause-pairs
returns-clause-pairs c = pairs_end _ _ _ c.in_default.len_below c.loop-rest.invariant.pairs
