use Rattle.std.proofs.Common.{◌≡◌, ◌∙◌, true, ap, length, subst, sym}
use Rattle.world_spec.specs.Value.{World, is_live}
use Rattle.work_account.specs.{declared.overflowing.Overflow.{Overflow}, Ends.{HaveSpace, send_all}, Visits.{overflow_of}}
use Rattle.work_account.specs.Sampling.{HasInstance, HaveRings, ends_of, sents_of}
use Rattle.work_account.proofs.sending.hit_one.Goals as goal

pub send_overflow-requires : goal.send_overflow-requires
send_overflow-requires g c =
    let w : World = c.args.world.now in
    let line = c.args.stretch.now in
    let outs = c.args.outs.now in
    let o : Overflow = record { key = c.args.hit.key; count = c.hit-count.result } in
    let over : o ≡ overflow_of w c.args.hit = λ i. record { key = c.args.hit.key; count = c.hit-count.ensures.overflows i } in
    record {
      live = subst (λ (v : World). is_live v c.args.hit.key ≡ true) (sym c.hit-count.ensures.world) c.requires.may.live;
      together = c.requires.together;
      rings = subst (λ (v : World). HaveRings v outs.numbers) (sym c.hit-count.ensures.world) c.requires.rings;
      space = subst (λ (v : World). HaveSpace (HasInstance v) (length (sents_of v line o)) (ends_of outs v)) (sym c.hit-count.ensures.world)
          (subst (λ (x : Overflow). HaveSpace (HasInstance w) (length (sents_of w line x)) (ends_of outs w)) (sym over) c.requires.space);
    }

pub returns-clause-world : goal.returns-clause-world
returns-clause-world g c =
    c.send_overflow.ensures.rest ∙ ap {A = World} {B = World} (λ v. record v { lost = c.send_overflow.new.world.lost }) c.hit-count.ensures.world

pub returns-clause-ends : goal.returns-clause-ends
returns-clause-ends g c =
    let w : World = c.args.world.now in
    let line = c.args.stretch.now in
    let outs = c.args.outs.now in
    let o : Overflow = record { key = c.args.hit.key; count = c.hit-count.result } in
    let over : o ≡ overflow_of w c.args.hit = λ i. record { key = c.args.hit.key; count = c.hit-count.ensures.overflows i } in
    c.send_overflow.ensures.ends
    ∙ (ap (λ (v : World). send_all (ends_of outs v) (sents_of v line o)) c.hit-count.ensures.world
    ∙ ap (λ (x : Overflow). send_all (ends_of outs w) (sents_of w line x)) over)
