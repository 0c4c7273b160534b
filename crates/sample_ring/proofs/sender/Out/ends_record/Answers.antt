use Rattle.std.proofs.Common.{◌≡◌, ◌↔◌, length, slice_index, subst}
use Rattle.ring_words.specs.Ends.{IsStop}
use Rattle.sample_ring.{specs.{Outs.{mark_of}, OutEnds.{OutEnd}}, proofs.{Cuts.{stops_are_ends}, Marks.{marked}}}
use Rattle.sample_ring.proofs.sender.Out.ends_record.Goals as goal

pub is_marked-requires : goal.is_marked-requires
is_marked-requires c = rw c.as_slice.ensures.value c.self.invariant.noted.some

pub returns-clause-stop : goal.returns-clause-stop
returns-clause-stop c =
    let P : OutEnd → Type 0 = λ o. (slice_index c.self.inside.marks.items (mark_of (length c.self.inside.marks.items) c.args.place) ≡ c.args.place) ↔ IsStop o.producer.published c.args.place in
    let low = rw (← c.self.view_is) at c.requires in
    let m = subst P c.self.view_is (marked c.self.inside.marks.items c.self.inside.producer.published c.self.inside.producer.last_tail c.args.place c.self.invariant.noted low) in
    let is = rw c.as_slice.ensures.value at c.is_marked.ensures in
    (λ e. m.0 (is.0 e), λ s. is.1 (m.1 s))

pub returns-clause-account : goal.returns-clause-account
returns-clause-account c = λ a h.
    let ends = stops_are_ends c.args.self.now a c.args.place h in
    let stop = returns-clause-stop c in
    (λ e. ends.0 (stop.0 e), λ e. stop.1 (ends.1 e))
