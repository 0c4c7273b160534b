use Rattle.std.proofs.Common.{◌≡◌, ◌*◌, ◌≤◌, ◌<◌, length, ap, sym, subst, arith, rules}
use Rattle.sample_ring.{specs.{OutEnds.{OutEnd}, Taking.{IsUpTo, TakesOne}}, proofs.Readers.{one_within}}
use Rattle.sample_ring.proofs.taking.take_to.Goals as goal

pub loop-out-preserved : goal.loop-out-preserved
loop-out-preserved c =
    let takes : TakesOne c.loop-out.reader c.take_one.new.reader c.args.out.now.producer.published = subst (TakesOne c.loop-out.reader c.take_one.new.reader) (ap (λ (o : OutEnd). o.producer.published) c.loop-out.invariant.out) c.take_one.ensures.takes in
    let tail : c.take_one.new.out.producer.last_tail ≡ 8 * length c.take_one.new.reader.words = ap (λ (o : OutEnd). o.producer.last_tail) c.take_one.ensures.out in
    let more : 8 * length c.loop-out.reader.words < c.args.place = omega (arith, c.loop-out-test.true, c.place.ensures.place, c.loop-out.invariant.reader.released) in
    let within : 8 * length c.take_one.new.reader.words ≤ c.args.place = one_within c.loop-out.reader c.take_one.new.reader c.args.out.now.producer.published c.args.place c.loop-out.invariant.sound.1 c.take_one.ensures.sound.1 c.loop-out.invariant.words takes c.requires.stop more in
    record {
      out = search rules;
      reader = subst (IsUpTo c.take_one.new.reader) (sym tail) takes.reader;
      place = omega (arith, tail, within);
      words = takes.words;
      head = omega (arith, c.loop-out.invariant.head, c.take_one.ensures.head);
      same = search rules;
      sound = c.take_one.ensures.sound;
    }

pub loop-out-init : goal.loop-out-init
loop-out-init c = search rules

pub returns-clause-out : goal.returns-clause-out
returns-clause-out c = search rules
