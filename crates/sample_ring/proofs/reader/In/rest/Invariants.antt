use Rattle.std.proofs.Common.{◌≡◌, ◌-◌, ◌*◌, ◌≤◌, length, IsSome}
use Rattle.sample_ring.specs.{InEnds.{IsSoundIn, IsStill}, Ins.{Takes}}
use Rattle.sample_ring.proofs.reader.In.rest.Given as goal

abbrev pub invariant-loop-self : goal.invariant-loop-self
invariant-loop-self l = record {
  takes : Takes l.initial.self l.self;
  records : l.initial.self.records ≤ l.self.records;
  released : l.self.consumer.released ≡ l.initial.self.consumer.released;
  still : IsSome l.initial.self.kept → IsStill l.initial.self l.self;
  head : l.head ≡ l.self.consumer.last_head;
  sound : IsSoundIn l.self;
}

abbrev pub decreases-loop-self : goal.decreases-loop-self
decreases-loop-self l = l.head - 8 * length l.self.consumer.taken
