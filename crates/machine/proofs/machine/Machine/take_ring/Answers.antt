use Rattle.std.{specs.Prelude.{◌*◌, Some}, proofs.Common.{sym, subst, ◌∙◌}}
use Rattle.sample_ring.specs.{Lending.{with_out}, OutEnds.{OutEnd}, RingLists.{HasRing, ring_index}}
use Rattle.work_account.specs.Ends.{AreTogether}
use Rattle.machine.{specs.{Leading.{Kept, LeadTo}, Readers.{AreTrailing, Trails}}, proofs.Pairs.{paired-at}}
use Rattle.machine.proofs.{Rest.{others-taken, ring-taken, trailing-rest, trails-rest}, Seen.{end-account, still-led}, Sight.{together-look}}
use Rattle.machine.proofs.machine.Machine.take_ring.Goals as goal

pub returns-clause-led : goal.returns-clause-led
returns-clause-led c = λ s acts led.
    let m : Kept = record { cpus = c.self.inside.cpus; tools = c.self.inside.tools; world = c.self.inside.world; outs = c.self.inside.outs } in
    let trailing : AreTrailing m.outs c.args.ins.now = subst (λ (k : Kept). AreTrailing k.outs c.args.ins.now) (sym c.self.view_is) c.requires.trailing in
    let trails : Trails c.out.result.now c.reader.result.now =
    paired-at Trails m.outs c.args.ins.now c.args.ring c.out.result.now c.reader.result.now trailing.numbers trailing.each c.out.ensures.value c.reader.ensures.value in
    subst (λ (p : OutEnd). LeadTo s acts (record m { outs = with_out m.outs (ring_index m.outs.numbers c.args.ring) p })) (sym c.take_all.ensures.out)
    (still-led s acts m c.args.ring (8 * c.reader.result.now.consumer.released) c.take_all.new.out.producer.loads c.out.result.now (subst (LeadTo s acts) (sym c.self.view_is) led)
    c.out.ensures.value (sym trails.released))

pub returns-clause-taken : goal.returns-clause-taken
returns-clause-taken c = λ s acts led.
    let m : Kept = record { cpus = c.self.inside.cpus; tools = c.self.inside.tools; world = c.self.inside.world; outs = c.self.inside.outs } in
    let there : HasRing m.outs.numbers c.args.ring = subst (λ (k : Kept). HasRing k.outs.numbers c.args.ring) (sym c.self.view_is) c.requires.ring in
    ring-taken s acts c.args.ins.now c.args.ring c.reader.result.now c.take_all.new.reader c.reader.ensures.value
    (c.take_all.ensures.words ∙ sym (end-account s acts m c.args.ring c.out.result.now (subst (LeadTo s acts) (sym c.self.view_is) led) there c.out.ensures.value).has.written)

pub returns-clause-others : goal.returns-clause-others
returns-clause-others c = λ s acts other led taken.
    others-taken s acts c.args.ins.now c.args.ring other (Some c.take_all.new.reader)
    (subst (λ numbers. HasRing numbers c.args.ring) (sym c.requires.trailing.numbers) c.requires.ring) (returns-clause-taken c s acts led) taken

pub returns-clause-together : goal.returns-clause-together
returns-clause-together c =
    together-look c.args.rings.now c.self.inside.outs c.args.ring c.out.result.now c.take_all.new.out (8 * c.reader.result.now.consumer.released) c.take_all.new.out.producer.loads
    (subst (λ (k : Kept). AreTogether c.args.rings.now k.outs) (sym c.self.view_is) c.requires.together) c.out.ensures.value c.take_all.ensures.out

pub returns-clause-trailing : goal.returns-clause-trailing
returns-clause-trailing c =
    let m : Kept = record { cpus = c.self.inside.cpus; tools = c.self.inside.tools; world = c.self.inside.world; outs = c.self.inside.outs } in
    let trailing : AreTrailing m.outs c.args.ins.now = subst (λ (k : Kept). AreTrailing k.outs c.args.ins.now) (sym c.self.view_is) c.requires.trailing in
    let trails : Trails c.out.result.now c.reader.result.now =
    paired-at Trails m.outs c.args.ins.now c.args.ring c.out.result.now c.reader.result.now trailing.numbers trailing.each c.out.ensures.value c.reader.ensures.value in
    trailing-rest m.outs c.args.ins.now c.args.ring c.out.result.now c.take_all.new.out c.reader.result.now c.take_all.new.reader trailing c.out.ensures.value c.reader.ensures.value
    (trails-rest c.out.result.now c.take_all.new.out c.reader.result.now c.take_all.new.reader c.take_all.new.out.producer.loads trails c.take_all.ensures.out c.take_all.ensures.released
    c.take_all.ensures.same)
