use Rattle.std.{specs.Prelude.{◌+◌, ◌∷◌, [], ◌++◌, slice_index_or, slice_set}, proofs.Common.{sym, ap, ◌∙◌, subst}}
use Rattle.perf_base.specs.declared.acts.Act.TheVariants as act
use Rattle.sample_ring.specs.{Lending.{with_out}, OutEnds.{OutEnd}, RingLists.{HasRing, OutList, ring_index}}
use Rattle.work_account.specs.Ends.{AreTogether}
use Rattle.machine.{specs.{Leading.{Kept, LeadTo}, Readers.{loads_of}}, proofs.{Looks.{one-load}, Seen.{end-seen, lawful-stop, seen-led, still-led}}}
use Rattle.machine.proofs.Sight.{together-look}
use Rattle.machine.proofs.machine.Machine.look.Goals as goal

pub returns-clause-lawful : goal.returns-clause-lawful
returns-clause-lawful c = λ s acts led.
    let m : Kept = record { cpus = c.self.inside.cpus; tools = c.self.inside.tools; world = c.self.inside.world; outs = c.self.inside.outs } in
    lawful-stop s acts m c.args.ring c.look.result c.out.result.now (subst (LeadTo s acts) (sym c.self.view_is) led)
    (subst (λ k. HasRing k.outs.numbers c.args.ring) (sym c.self.view_is) c.requires.ring) c.out.ensures.value c.look.ensures.rises c.look.ensures.stop

pub returns-clause-seen : goal.returns-clause-seen
returns-clause-seen c = λ s acts led.
    let m : Kept = record { cpus = c.self.inside.cpus; tools = c.self.inside.tools; world = c.self.inside.world; outs = c.self.inside.outs } in
    let o : OutEnd = c.out.result.now in
    let before : LeadTo s acts m = subst (LeadTo s acts) (sym c.self.view_is) led in
    let there : HasRing m.outs.numbers c.args.ring = subst (λ k. HasRing k.outs.numbers c.args.ring) (sym c.self.view_is) c.requires.ring in
    subst (λ p. LeadTo s (acts ++ act.Seen c.args.ring c.look.result ∷ []) (record m { outs = with_out m.outs (ring_index m.outs.numbers c.args.ring) p })) (sym c.look.ensures.end)
    (seen-led s acts m c.args.ring c.look.result (o.producer.loads + 1) o c.use_invariant.ensures before there c.out.ensures.value
    (lawful-stop s acts m c.args.ring c.look.result o before there c.out.ensures.value c.look.ensures.rises c.look.ensures.stop))

pub returns-clause-same : goal.returns-clause-same
returns-clause-same c = λ s acts led last.
    let m : Kept = record { cpus = c.self.inside.cpus; tools = c.self.inside.tools; world = c.self.inside.world; outs = c.self.inside.outs } in
    let o : OutEnd = c.out.result.now in
    let before : LeadTo s acts m = subst (LeadTo s acts) (sym c.self.view_is) led in
    let there : HasRing m.outs.numbers c.args.ring = subst (λ k. HasRing k.outs.numbers c.args.ring) (sym c.self.view_is) c.requires.ring in
    subst (λ p. LeadTo s acts (record m { outs = with_out m.outs (ring_index m.outs.numbers c.args.ring) p })) (sym c.look.ensures.end)
    (still-led s acts m c.args.ring c.look.result (o.producer.loads + 1) o before c.out.ensures.value (end-seen s acts m c.args.ring o before there c.out.ensures.value ∙ sym last))

pub returns-clause-together : goal.returns-clause-together
returns-clause-together c =
    let o : OutEnd = c.out.result.now in
    together-look c.args.rings.now c.self.inside.outs c.args.ring o c.look.new.self c.look.result (o.producer.loads + 1)
    (subst (λ k. AreTogether c.args.rings.now k.outs) (sym c.self.view_is) c.requires.together) c.out.ensures.value c.look.ensures.end

pub returns-clause-loads : goal.returns-clause-loads
returns-clause-loads c =
    let outs : OutList = c.self.inside.outs in
    one-load outs (ring_index outs.numbers c.args.ring) c.out.result.now c.look.new.self c.out.ensures.value (ap (λ (p : OutEnd). p.producer.loads) c.look.ensures.end)
    ∙ ap (λ k. slice_set (loads_of k.outs) (ring_index k.outs.numbers c.args.ring) (slice_index_or (loads_of k.outs) (ring_index k.outs.numbers c.args.ring) 0 + 1)) c.self.view_is
