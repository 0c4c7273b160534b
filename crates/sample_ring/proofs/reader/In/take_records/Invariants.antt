use Rattle.std.proofs.Common.{◌≡◌, ◌+◌, None}
use Rattle.sample_ring.specs.{InEnds.{IsSoundIn}, Ins.{Takes}}
use Rattle.sample_ring.proofs.reader.In.take_records.Given as goal

abbrev pub invariant-loop-count : goal.invariant-loop-count
invariant-loop-count l = record {
  takes : Takes l.initial.self l.self;
  kept : l.self.kept ≡ None;
  records : l.self.records ≡ l.initial.self.records + l.count;
  sound : IsSoundIn l.self;
}
