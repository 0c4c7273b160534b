use Rattle.std.proofs.Common.{◌≡◌, ap, ◌∙◌, rules}
use Rattle.sample_ring.{specs.{OutEnds.{OutEnd}, InEnds.{InEnd}}, proofs.Readers.{Follows, follows_met, none_kept, all_taken}}
use Rattle.sample_ring.proofs.taking.take_all.Goals as goal

pub returns-clause-words : goal.returns-clause-words
returns-clause-words c =
    let published : c.meet.new.out.producer.published ≡ c.args.out.now.producer.published = ap (λ (o : OutEnd). o.producer.published) c.meet.ensures.out in
    let f : Follows c.rest.new.self c.meet.new.out.producer.published = follows_met c.meet.new.out c.meet-2.new.out c.rest.new.self _ _ c.rest.ensures.sound c.meet-2.ensures.sound.0 c.meet-2.ensures.out c.meet-2.ensures.prefix (search rules) in
    let all : c.rest.new.self.words ≡ c.meet.new.out.producer.published = all_taken c.rest.new.self c.meet.new.out.producer.published f c.rest.ensures.dry (search rules) in
    ap (λ (i : InEnd). i.words) c.meet-2.ensures.reader ∙ (all ∙ published)

pub returns-clause-kept : goal.returns-clause-kept
returns-clause-kept c =
    let f : Follows c.rest.new.self c.meet.new.out.producer.published = follows_met c.meet.new.out c.meet-2.new.out c.rest.new.self _ _ c.rest.ensures.sound c.meet-2.ensures.sound.0 c.meet-2.ensures.out c.meet-2.ensures.prefix (search rules) in
    ap (λ (i : InEnd). i.kept) c.meet-2.ensures.reader ∙ none_kept c.rest.new.self c.meet.new.out.producer.published f
