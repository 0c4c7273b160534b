use Rattle.std.proofs.{Common.{◌≡◌, ap, sym, subst, ◌∙◌}, lemmas.Option.{same_Some}}
use Rattle.ring_spec.{specs.Rings.{account_in, bytes_of}, proofs.Running.{in_account}}
use Rattle.sample_ring.specs.RingLists.{HasRing}
use Rattle.machine.{specs.{Shown.{ShowsAccount}, Leading.{Kept, LeadTo}, Readers.{IsShownBy, out_of}}, proofs.{Shown.{shown}, Seen.{end-account}}}
use Rattle.machine.proofs.machine.Machine.ring_end.Goals as goal

pub returns-clause-end : goal.returns-clause-end
returns-clause-end c = λ o out.
    let same : c.lent.result.now ≡ o =
    same_Some c.lent.result.now o (sym c.lent.ensures ∙ (ap (λ (m : Kept). out_of m.outs c.args.ring) c.self.view_is ∙ out)) in
    subst (IsShownBy c.numbers.result) same
    (record { head = c.numbers.ensures.head; tail = c.numbers.ensures.tail; lost = c.numbers.ensures.lost; pending = c.numbers.ensures.pending })

pub returns-clause-shown : goal.returns-clause-shown
returns-clause-shown c = λ s acts led.
    let m : Kept = record { cpus = c.self.inside.cpus; tools = c.self.inside.tools; world = c.self.inside.world; outs = c.self.inside.outs } in
    let there : HasRing m.outs.numbers c.args.ring = subst (λ k. HasRing k.outs.numbers c.args.ring) (sym c.self.view_is) c.requires in
    let shows : ShowsAccount c.lent.result.now (account_in s acts (c.args.ring, bytes_of s c.args.ring)) =
    shown c.args.ring c.lent.result.now (in_account (account_in s acts) (c.args.ring, bytes_of s c.args.ring))
    (end-account s acts m c.args.ring c.lent.result.now (subst (LeadTo s acts) (sym c.self.view_is) led) there c.lent.ensures) in
    record {
      head = c.numbers.ensures.head ∙ sym shows.head;
      tail = c.numbers.ensures.tail ∙ sym shows.tail;
      lost = c.numbers.ensures.lost ∙ sym shows.lost;
      pending = c.numbers.ensures.pending ∙ sym shows.pending;
    }
