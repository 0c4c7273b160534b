use Rattle.std.proofs.Common.{rules}
use Rattle.std.proofs.{Common.{◌≡◌, ◌*◌, ◌+◌, ◌≤◌, None, length, ap, ◌∙◌, arith}, lemmas.List.{length_push}}
use Rattle.ring_spec.specs.Whole.{size_field}
use Rattle.ring_words.specs.Ends.{BeginsBlock}
use Rattle.sample_ring.{specs.{InEnds.{InEnd}, contracts.reader.In.{the_view}}, proofs.Takes.{holds_more, whole_taken}}
use Rattle.sample_ring.proofs.reader.In.take_record.Goals as goal

pub invariant_of-self-2 : goal.invariant_of-self-2
invariant_of-self-2 c =
    let kept : c.self.inside.kept ≡ None = ap (λ (i : InEnd). i.kept) c.self.view_is ∙ c.requires.kept in
    let sound = rw (c.take_words.ensures.end, c.take_word-first.ensures.end) at c.take_words.ensures.sound in
    let block : BeginsBlock c.take_word-first.result (8 * length c.self.inside.consumer.taken) c.self.inside.consumer.last_head = c.take_word-first.ensures.block (whole_taken (the_view c.self.inside) c.self.invariant.sound kept) in
    let words = rw c.push_reserved.ensures.items at c.take_words.ensures.words in
    let size : 8 * length c.take_words.new.words.items ≡ 8 * length c.self.inside.words.items + size_field c.take_word-first.result = omega (arith, block.some, block.of_words, c.take_words.ensures.length, ap length c.push_reserved.ensures.items, length_push c.self.inside.words.items c.take_word-first.result, c.from-count.ensures, c.header_of.ensures.size) in
    let within : length c.take_words.new.words.items ≤ c.self.inside.room = omega (arith, size, c.if-count-self.false, c.len.ensures, c.self.inside.words.ok.0, c.from-count.ensures, c.header_of.ensures.size, c.self.invariant.sound.within, block.of_words) in
    rw (c.take_words.ensures.end, c.take_word-first.ensures.end, c.take_words.ensures.capacity, c.push_reserved.ensures.capacity)
    (holds_more (the_view c.self.inside) _ c.self.inside.place c.take_word-first.result c.take_words.new.words.items c.self.invariant kept words size within sound)

pub returns-clause-sound : goal.returns-clause-sound
returns-clause-sound c = (invariant_of-self-2 c).sound

pub invariant_of-self : goal.invariant_of-self
invariant_of-self c = search rules
