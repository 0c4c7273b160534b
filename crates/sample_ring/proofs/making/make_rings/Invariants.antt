use Rattle.std.proofs.Common.{◌≡◌, map, take, Some}
use Rattle.sample_ring.specs.{OutEnds.{new_out}, InEnds.{new_in}}
use Rattle.sample_ring.proofs.making.make_rings.Given as goal

abbrev pub invariant-loop-bytes : goal.invariant-loop-bytes
invariant-loop-bytes l = record {
  bytes : map (λ t. t.bytes) l.tables.items ≡ map (λ s. s.1) (take l.bytes-index l.sizes);
  outs : l.outs.items ≡ map new_out l.tables.items;
  readers : l.readers.items ≡ map (λ t. Some (new_in t l.words)) l.tables.items;
}
