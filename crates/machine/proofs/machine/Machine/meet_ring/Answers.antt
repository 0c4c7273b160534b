use Rattle.std.{specs.Prelude.{◌≡◌, ℕ, ◌+◌, ◌*◌, [], ◌∷◌, ◌++◌, Some}, proofs.{Common.{refl, sym, ap, subst, ◌∙◌}, lemmas.Option.{same_Some}}}
use Rattle.perf_base.specs.declared.acts.Act.TheVariants as act
use Rattle.ring_spec.specs.Rings.{account_in, bytes_of, sizes_in}
use Rattle.sample_ring.specs.{InEnds.{InEnd}, Lending.{with_out}, OutEnds.{OutEnd}, RingLists.{HasRing, ring_index}}
use Rattle.stage_spec.specs.Order.{IsLawfulSeen, last_seen}
use Rattle.work_account.specs.Ends.{AreTogether}
use Rattle.machine.{specs.{Leading.{Kept, LeadTo}, Readers.{HasMet, out_of, released_in, released_of_slot}}, proofs.Looks.{met-lawful, met-words}}
use Rattle.machine.proofs.{Seen.{end-account, end-seen, seen-led, still-led}, Sight.{together-look}}
use Rattle.machine.proofs.machine.Machine.meet_ring.Goals as goal

pub returns-clause-lawful : goal.returns-clause-lawful
returns-clause-lawful c = λ s acts led.
    let m : Kept = record { cpus = c.self.inside.cpus; tools = c.self.inside.tools; world = c.self.inside.world; outs = c.self.inside.outs } in
    let there : HasRing m.outs.numbers c.args.ring = subst (λ (k : Kept). HasRing k.outs.numbers c.args.ring) (sym c.self.view_is) c.requires.ring in
    let released : released_in c.args.ins.now c.args.ring ≡ 8 * c.reader.result.now.consumer.released = ap released_of_slot c.reader.ensures.value in
    subst (IsLawfulSeen (sizes_in s acts c.args.ring) (last_seen c.args.ring acts)) (sym released)
    (met-lawful s acts m c.args.ring (8 * c.reader.result.now.consumer.released) (c.out.result.now.producer.loads + 1) c.out.result.now c.meet.new.out
    (subst (LeadTo s acts) (sym c.self.view_is) led) there c.out.ensures.value c.meet.ensures.out c.meet.ensures.rises.0 c.meet.ensures.sound.0)

pub returns-clause-seen : goal.returns-clause-seen
returns-clause-seen c = λ s acts led.
    let m : Kept = record { cpus = c.self.inside.cpus; tools = c.self.inside.tools; world = c.self.inside.world; outs = c.self.inside.outs } in
    let there : HasRing m.outs.numbers c.args.ring = subst (λ (k : Kept). HasRing k.outs.numbers c.args.ring) (sym c.self.view_is) c.requires.ring in
    let before : LeadTo s acts m = subst (LeadTo s acts) (sym c.self.view_is) led in
    let o : OutEnd = c.out.result.now in
    let place : ℕ = 8 * c.reader.result.now.consumer.released in
    let released : released_in c.args.ins.now c.args.ring ≡ place = ap released_of_slot c.reader.ensures.value in
    subst (λ n. LeadTo s (acts ++ act.Seen c.args.ring n ∷ []) (record m { outs = with_out m.outs (ring_index m.outs.numbers c.args.ring) c.meet.new.out })) (sym released)
    (subst (λ p. LeadTo s (acts ++ act.Seen c.args.ring place ∷ []) (record m { outs = with_out m.outs (ring_index m.outs.numbers c.args.ring) p })) (sym c.meet.ensures.out)
    (seen-led s acts m c.args.ring place (o.producer.loads + 1) o c.use_invariant.ensures before there c.out.ensures.value
    (met-lawful s acts m c.args.ring place (o.producer.loads + 1) o c.meet.new.out before there c.out.ensures.value c.meet.ensures.out c.meet.ensures.rises.0 c.meet.ensures.sound.0)))

pub returns-clause-same : goal.returns-clause-same
returns-clause-same c = λ s acts led last.
    let m : Kept = record { cpus = c.self.inside.cpus; tools = c.self.inside.tools; world = c.self.inside.world; outs = c.self.inside.outs } in
    let there : HasRing m.outs.numbers c.args.ring = subst (λ (k : Kept). HasRing k.outs.numbers c.args.ring) (sym c.self.view_is) c.requires.ring in
    let before : LeadTo s acts m = subst (LeadTo s acts) (sym c.self.view_is) led in
    let o : OutEnd = c.out.result.now in
    let place : ℕ = 8 * c.reader.result.now.consumer.released in
    let released : released_in c.args.ins.now c.args.ring ≡ place = ap released_of_slot c.reader.ensures.value in
    subst (λ p. LeadTo s acts (record m { outs = with_out m.outs (ring_index m.outs.numbers c.args.ring) p })) (sym c.meet.ensures.out)
    (still-led s acts m c.args.ring place (o.producer.loads + 1) o before c.out.ensures.value
    (end-seen s acts m c.args.ring o before there c.out.ensures.value ∙ (sym last ∙ released)))

pub returns-clause-together : goal.returns-clause-together
returns-clause-together c =
    let o : OutEnd = c.out.result.now in
    together-look c.args.rings.now c.self.inside.outs c.args.ring o c.meet.new.out (8 * c.reader.result.now.consumer.released) (o.producer.loads + 1)
    (subst (λ (k : Kept). AreTogether c.args.rings.now k.outs) (sym c.self.view_is) c.requires.together) c.out.ensures.value c.meet.ensures.out

pub returns-clause-reader : goal.returns-clause-reader
returns-clause-reader c = λ o i at slot.
    let found : out_of c.self.inside.outs c.args.ring ≡ Some o = subst (λ (k : Kept). out_of k.outs c.args.ring ≡ Some o) (sym c.self.view_is) at in
    let end : c.out.result.now ≡ o = same_Some c.out.result.now o (sym c.out.ensures.value ∙ found) in
    let reader : c.reader.result.now ≡ i = same_Some c.reader.result.now i (same_Some (Some c.reader.result.now) (Some i) (sym c.reader.ensures.value ∙ slot)) in
    let met : HasMet c.out.result.now c.reader.result.now c.meet.new.reader = record { reader = c.meet.ensures.reader; rises = c.meet.ensures.rises.1; head = c.meet.ensures.head } in
    (c.meet.new.reader, subst (λ (x : OutEnd). HasMet x i c.meet.new.reader) end (subst (λ (x : InEnd). HasMet c.out.result.now x c.meet.new.reader) reader met), refl)

pub returns-clause-words : goal.returns-clause-words
returns-clause-words c = λ s acts led.
    let m : Kept = record { cpus = c.self.inside.cpus; tools = c.self.inside.tools; world = c.self.inside.world; outs = c.self.inside.outs } in
    let there : HasRing m.outs.numbers c.args.ring = subst (λ (k : Kept). HasRing k.outs.numbers c.args.ring) (sym c.self.view_is) c.requires.ring in
    let has = (end-account s acts m c.args.ring c.out.result.now (subst (LeadTo s acts) (sym c.self.view_is) led) there c.out.ensures.value).has in
    met-words c.args.ins.now c.args.ring c.reader.result.now c.meet.new.reader (account_in s acts (c.args.ring, bytes_of s c.args.ring)).written c.reader.ensures.value
    (ap (λ (r : InEnd). r.words) c.meet.ensures.reader) (ap (λ (r : InEnd). r.records) c.meet.ensures.reader)
    (c.meet.ensures.records (account_in s acts (c.args.ring, bytes_of s c.args.ring)) has)
