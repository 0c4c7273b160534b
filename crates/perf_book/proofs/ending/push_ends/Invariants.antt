use Rattle.std.specs.Prelude.{◌≡◌, All, List, map, take, vec_capacity, vec_len}
use Rattle.perf_base.specs.declared.acts.Act.{Act}
use Rattle.ring_spec.specs.Rings.{account_in, bytes_of}
use Rattle.machine.specs.{Leading.{LeadTo}, Readers.{IsShown}}
use Rattle.perf_book.proofs.ending.push_ends.Given as goal

abbrev pub invariant-loop-ring : goal.invariant-loop-ring
invariant-loop-ring l = record {
  rings : map (λ e. e.ring) l.ends.items ≡ map (λ r. r.0) (take l.ring-index l.ring-items);
  shown : (acts : List Act) → LeadTo l.script acts l.machine → All (λ e. IsShown e.numbers (account_in l.script acts (e.ring, bytes_of l.script e.ring))) l.ends.items;
  filled : vec_len l.ends ≡ l.ring-index;
  room : vec_capacity l.ends ≡ vec_capacity l.fn.ends;
}
