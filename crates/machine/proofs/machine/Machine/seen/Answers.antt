use Rattle.std.{specs.Prelude.{◌≡◌, ◌*◌, ◌≤◌, Some, slice_get, ℕ, [], ◌∷◌, ◌++◌}, proofs.{Common.{sym, ap, subst, ◌∙◌}, lemmas.Option.{same_Some}}}
use Rattle.perf_base.specs.Weight.{weight}
use Rattle.perf_base.specs.declared.acts.Act.TheVariants as act
use Rattle.ring_words.specs.Ends.{IsStop}
use Rattle.ring_words.specs.Ends as words
use Rattle.sample_ring.specs.{Lending.{with_out}, OutEnds.{OutEnd}, RingLists.{HasRing, ring_index, with_slot}}
use Rattle.work_account.specs.Ends.{AreTogether}
use Rattle.machine.{specs.{Leading.{Kept, IsOf, LeadTo}, Readers.{AreFollowing, Follows}}, proofs.Following.{following-look}}
use Rattle.machine.proofs.{Seen.{lawful-stop, seen-led}, Sight.{follower, follows-look, ring-of-end, room-there, together-look}}
use Rattle.machine.proofs.Unlawful.{refused-as, ring-there, unlawful-by}
use Rattle.machine.proofs.machine.Machine.seen.Goals as goal

pub lent-requires : goal.lent-requires
lent-requires c =
    let m : Kept = record { cpus = c.self.inside.cpus; tools = c.self.inside.tools; world = c.self.inside.world; outs = c.self.inside.outs } in
    let of : IsOf c.args.script.now m = subst (IsOf c.args.script.now) (sym c.self.view_is) c.requires.script in
    ring-there c.args.script.now m c.args.ring of c.requires.ring

pub out-requires : goal.out-requires
out-requires c =
    let m : Kept = record { cpus = c.self.inside.cpus; tools = c.self.inside.tools; world = c.self.inside.world; outs = c.self.inside.outs } in
    let of : IsOf c.args.script.now m = subst (IsOf c.args.script.now) (sym c.self.view_is) c.requires.script in
    ring-there c.args.script.now m c.args.ring of c.requires.ring

pub table-requires : goal.table-requires
table-requires c =
    let m : Kept = record { cpus = c.self.inside.cpus; tools = c.self.inside.tools; world = c.self.inside.world; outs = c.self.inside.outs } in
    let of : IsOf c.args.script.now m = subst (IsOf c.args.script.now) (sym c.self.view_is) c.requires.script in
    let together : AreTogether c.args.rings.now m.outs = subst (λ (k : Kept). AreTogether c.args.rings.now k.outs) (sym c.self.view_is) c.requires.together in
    subst (λ numbers. HasRing numbers c.args.ring) (sym together.numbers) (ring-there c.args.script.now m c.args.ring of c.requires.ring)

pub take_to-requires-clause-out : goal.take_to-requires-clause-out
take_to-requires-clause-out c =
    let m : Kept = record { cpus = c.self.inside.cpus; tools = c.self.inside.tools; world = c.self.inside.world; outs = c.self.inside.outs } in
    let together : AreTogether c.args.rings.now m.outs = subst (λ (k : Kept). AreTogether c.args.rings.now k.outs) (sym c.self.view_is) c.requires.together in
    ring-of-end c.args.rings.now m.outs c.args.ring c.out.result.now c.table.result.now together c.out.ensures.value c.table.ensures

pub take_to-requires-clause-reader : goal.take_to-requires-clause-reader
take_to-requires-clause-reader c =
    let m : Kept = record { cpus = c.self.inside.cpus; tools = c.self.inside.tools; world = c.self.inside.world; outs = c.self.inside.outs } in
    let together : AreTogether c.args.rings.now m.outs = subst (λ (k : Kept). AreTogether c.args.rings.now k.outs) (sym c.self.view_is) c.requires.together in
    let following : AreFollowing (9 * weight c.args.script.now) m.outs c.args.ins.now = subst (λ (k : Kept). AreFollowing (9 * weight c.args.script.now) k.outs c.args.ins.now) (sym c.self.view_is) c.requires.following in
    let follows : Follows (9 * weight c.args.script.now) c.out.result.now c.reader.result.now =
    follower (9 * weight c.args.script.now) m.outs c.args.ins.now c.args.ring c.out.result.now c.reader.result.now following c.out.ensures.value c.reader.ensures.value in
    follows.ring ∙ ring-of-end c.args.rings.now m.outs c.args.ring c.out.result.now c.table.result.now together c.out.ensures.value c.table.ensures

pub take_to-requires-clause-room : goal.take_to-requires-clause-room
take_to-requires-clause-room c =
    let m : Kept = record { cpus = c.self.inside.cpus; tools = c.self.inside.tools; world = c.self.inside.world; outs = c.self.inside.outs } in
    let of : IsOf c.args.script.now m = subst (IsOf c.args.script.now) (sym c.self.view_is) c.requires.script in
    let following : AreFollowing (9 * weight c.args.script.now) m.outs c.args.ins.now = subst (λ (k : Kept). AreFollowing (9 * weight c.args.script.now) k.outs c.args.ins.now) (sym c.self.view_is) c.requires.following in
    let follows : Follows (9 * weight c.args.script.now) c.out.result.now c.reader.result.now =
    follower (9 * weight c.args.script.now) m.outs c.args.ins.now c.args.ring c.out.result.now c.reader.result.now following c.out.ensures.value c.reader.ensures.value in
    let there : HasRing m.outs.numbers c.args.ring = ring-there c.args.script.now m c.args.ring of c.requires.ring in
    room-there c.args.script.now of.0 m c.args.ring c.out.result.now c.reader.result.now c.use_invariant.ensures c.requires.covered of.1 there c.out.ensures.value follows

pub returns-in-Err-clause-unlawful : goal.returns-in-Err-clause-unlawful
returns-in-Err-clause-unlawful c =
    let m : Kept = record { cpus = c.self.inside.cpus; tools = c.self.inside.tools; world = c.self.inside.world; outs = c.self.inside.outs } in
    let of : IsOf c.args.script.now m = subst (IsOf c.args.script.now) (sym c.self.view_is) c.requires.script in
    let there : HasRing m.outs.numbers c.args.ring = ring-there c.args.script.now m c.args.ring of c.requires.ring in
    λ other last head given is.
    refused-as c.args.script.now c.args.self.now c.args.ring other c.lent.result.now.producer.last_tail (words.head_place c.lent.result.now.producer) c.args.place last head given
    (sym c.in-Err.ensures.refused ∙ is)
    (λ acts led.
    unlawful-by c.args.script.now acts m c.args.ring c.lent.result.now c.args.place (subst (LeadTo c.args.script.now acts) (sym c.self.view_is) led) there c.lent.ensures
    c.in-Err.ensures.unlawful)

pub returns-in-Ok-clause-done : goal.returns-in-Ok-clause-done
returns-in-Ok-clause-done c =
    let m : Kept = record { cpus = c.self.inside.cpus; tools = c.self.inside.tools; world = c.self.inside.world; outs = c.self.inside.outs } in
    let of : IsOf c.args.script.now m = subst (IsOf c.args.script.now) (sym c.self.view_is) c.requires.script in
    let there : HasRing m.outs.numbers c.args.ring = ring-there c.args.script.now m c.args.ring of c.requires.ring in
    λ acts led.
    let led_m : LeadTo c.args.script.now acts m = subst (LeadTo c.args.script.now acts) (sym c.self.view_is) led in
    let same : c.lent.result.now ≡ c.out.result.now = same_Some c.lent.result.now c.out.result.now (sym c.lent.ensures ∙ c.out.ensures.value) in
    let stop : (c.out.result.now.producer.last_tail ≤ c.args.place) × IsStop c.out.result.now.producer.published c.args.place =
    subst (λ (o : OutEnd). (o.producer.last_tail ≤ c.args.place) × IsStop o.producer.published c.args.place) same c.in-Ok.ensures.accepted in
    subst (λ (o : OutEnd). LeadTo c.args.script.now (acts ++ act.Seen c.args.ring c.args.place ∷ []) (record m { outs = with_out m.outs (ring_index m.outs.numbers c.args.ring) o }))
    (sym c.take_to.ensures.out)
    (seen-led c.args.script.now acts m c.args.ring c.args.place c.take_to.new.out.producer.loads c.out.result.now c.use_invariant-2.ensures led_m there c.out.ensures.value
    (lawful-stop c.args.script.now acts m c.args.ring c.args.place c.out.result.now led_m there c.out.ensures.value stop.0 stop.1))

pub returns-in-Ok-clause-together : goal.returns-in-Ok-clause-together
returns-in-Ok-clause-together c =
    let m : Kept = record { cpus = c.self.inside.cpus; tools = c.self.inside.tools; world = c.self.inside.world; outs = c.self.inside.outs } in
    let together : AreTogether c.args.rings.now m.outs = subst (λ (k : Kept). AreTogether c.args.rings.now k.outs) (sym c.self.view_is) c.requires.together in
    together-look c.args.rings.now m.outs c.args.ring c.out.result.now c.take_to.new.out c.args.place c.take_to.new.out.producer.loads together c.out.ensures.value c.take_to.ensures.out

pub returns-in-Ok-clause-following : goal.returns-in-Ok-clause-following
returns-in-Ok-clause-following c =
    let m : Kept = record { cpus = c.self.inside.cpus; tools = c.self.inside.tools; world = c.self.inside.world; outs = c.self.inside.outs } in
    let following : AreFollowing (9 * weight c.args.script.now) m.outs c.args.ins.now = subst (λ (k : Kept). AreFollowing (9 * weight c.args.script.now) k.outs c.args.ins.now) (sym c.self.view_is) c.requires.following in
    let follows : Follows (9 * weight c.args.script.now) c.out.result.now c.reader.result.now =
    follower (9 * weight c.args.script.now) m.outs c.args.ins.now c.args.ring c.out.result.now c.reader.result.now following c.out.ensures.value c.reader.ensures.value in
    subst (λ (p : ℕ). AreFollowing (9 * weight c.args.script.now) (with_out m.outs (ring_index m.outs.numbers c.args.ring) c.take_to.new.out) (with_slot c.args.ins.now p (Some c.take_to.new.reader)))
    (ap (λ n. ring_index n c.args.ring) (sym following.numbers))
    (following-look (9 * weight c.args.script.now) m.outs c.args.ins.now (ring_index m.outs.numbers c.args.ring) c.out.result.now c.take_to.new.out c.reader.result.now c.take_to.new.reader following
    c.out.ensures.value (ap (λ n. slice_get c.args.ins.now.readers (ring_index n c.args.ring)) (sym following.numbers) ∙ c.reader.ensures.value)
    (follows-look (9 * weight c.args.script.now) c.out.result.now c.take_to.new.out c.reader.result.now c.take_to.new.reader c.args.place c.take_to.new.out.producer.loads follows c.take_to.ensures.out
    c.take_to.ensures.reader c.take_to.ensures.same))
