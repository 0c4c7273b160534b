-- An end shows its account.
use Rattle.sample_ring.proofs.Sending.{head_same}
use Rattle.machine.specs.Shown.{HeadLaw}

pub shown : HeadLaw
shown n o a h = record {
  head = head_same o a.account h.has h.put;
  tail = h.has.tail;
  lost = h.has.lost;
  pending = h.has.pending;
  words = h.has.written;
}
