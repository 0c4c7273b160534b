use Rattle.std.{proofs.Common.{◌≡◌, ◌∙◌, ap, sym, true, subst, List}, specs.Prelude.{All}}
use Rattle.perf_base.specs.declared.numbers.Key.{Key}
use Rattle.world_spec.{specs.Value.{entry_at, instance_at, is_live}, proofs.Along.{members-live}}
use Rattle.event_reads.{specs.Counted.{sums_in, words_of_key}, proofs.Wording.{group-words, joined-words}}
use Rattle.event_reads.proofs.words.group_words.Goals as goal

pub push_members-requires-clause-live : goal.push_members-requires-clause-live
push_members-requires-clause-live c =
    subst (λ (keys : List Key). All (λ k. is_live c.args.world.now k ≡ true) keys) (sym c.members-members.ensures.members)
    (members-live c.args.world.now.hardware c.args.world.now c.args.leader c.requires.kept)

pub returns : goal.returns
returns c =
    joined-words c.args.format (words_of_key c.args.format c.args.world.now) c.members-members.result.now (entry_at c.args.world.now c.args.leader).members c.family_sums.result
    (sums_in c.args.world.now (instance_at c.args.world.now c.args.leader).event) c.new-words.result c.push.new.self c.push_times.new.words c.push_members.new.words
    c.new-words.ensures c.push.ensures c.push_times.ensures c.push_members.ensures c.members-members.ensures.members
    (c.family_sums.ensures ∙ ap (sums_in c.args.world.now) c.event_of.ensures)
    ∙ group-words c.args.world.now.hardware c.args.world.now c.args.format c.args.leader c.requires.kept c.requires.leads
