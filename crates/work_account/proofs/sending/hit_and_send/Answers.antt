use Rattle.std.proofs.Common.{◌≡◌, ◌<◌, ◌∷◌, [], subst, sym, length}
use Rattle.std.specs.Prelude.{Option}
use Rattle.world_spec.specs.{Value.{World}}
use Rattle.work_account.specs.declared.{overflowing.Hit.{Hit}, happening.Happening.{Happening}, walking.Walk.{Walk}}
use Rattle.work_account.specs.declared.happening.Happening.TheVariants as happening
use Rattle.work_account.specs.{Visits.{hits_among}, Walks.{Finds, keys_from}}
use Rattle.work_account.proofs.{Sent.{IsUnderWay, none-sent, next-space, next-rings, one-sent, all-hit, all-sent, all-steps}, Walked.{but-counts, found-may, fewer}}
use Rattle.work_account.proofs.sending.hit_and_send.Goals as goal

pub loop-hit-init : goal.loop-hit-init
loop-hit-init g c =
    subst (λ (k : Walk). IsUnderWay c.args.world.now c.args.stretch.now c.args.rings.now c.args.outs.now c.args.steps.now k c.args.world.now c.args.outs.now c.args.steps.now) (sym c.new-walk.ensures)
    (none-sent c.args.world.now c.args.stretch.now c.args.rings.now c.args.outs.now c.args.steps.now c.requires.together c.requires.space)

pub next-requires : goal.next-requires
next-requires g c =
    subst (λ (v : World). c.args.stretch.now.cpu.0 < length v.quiet.running)
    (sym (but-counts (happening.Work c.args.stretch.now.work) c.args.world.now c.args.stretch.now.cpu c.loop-hit.walk c.loop-hit.world c.loop-hit.invariant.struck)) c.requires.cpu

pub hit_one-requires : goal.hit_one-requires
hit_one-requires g c =
    let w : World = c.args.world.now in
    let now : World = c.loop-hit.world in
    let line = c.args.stretch.now in
    let x : Happening = happening.Work line.work in
    let u = c.loop-hit.invariant in
    let found : hits_among x now (keys_from now line.cpu c.loop-hit.walk) ≡ c.in-Some.hit ∷ hits_among x now (keys_from now line.cpu c.next.new.self) =
    subst (λ (r : Option Hit). Finds x now (keys_from now line.cpu c.loop-hit.walk) r (keys_from now line.cpu c.next.new.self)) c.in-Some.is c.next.ensures in
    record {
      may = found-may x w line.cpu c.loop-hit.walk now u.struck c.in-Some.hit c.next.new.self found c.requires.may;
      together = u.together;
      rings = next-rings w line c.args.rings.now c.args.outs.now c.args.steps.now c.loop-hit.walk now c.loop-hit.outs c.loop-hit.steps u c.requires.rings;
      space = next-space w line c.args.rings.now c.args.outs.now c.args.steps.now c.loop-hit.walk now c.loop-hit.outs c.loop-hit.steps u c.in-Some.hit c.next.new.self c.requires.may found;
    }

pub loop-hit-preserved : goal.loop-hit-preserved
loop-hit-preserved g c =
    let w : World = c.args.world.now in
    let now : World = c.loop-hit.world in
    let line = c.args.stretch.now in
    let x : Happening = happening.Work line.work in
    let u = c.loop-hit.invariant in
    let found : hits_among x now (keys_from now line.cpu c.loop-hit.walk) ≡ c.in-Some.hit ∷ hits_among x now (keys_from now line.cpu c.next.new.self) =
    subst (λ (r : Option Hit). Finds x now (keys_from now line.cpu c.loop-hit.walk) r (keys_from now line.cpu c.next.new.self)) c.in-Some.is c.next.ensures in
    subst (IsUnderWay w line c.args.rings.now c.args.outs.now c.args.steps.now c.next.new.self c.hit_one.new.world c.hit_one.new.outs) (sym c.hit_one.ensures.steps)
    (one-sent w line c.args.rings.now c.args.outs.now c.args.steps.now c.loop-hit.walk now c.loop-hit.outs c.loop-hit.steps u c.in-Some.hit c.next.new.self c.requires.may found
    c.hit_one.new.world c.hit_one.new.outs c.hit_one.ensures.world c.hit_one.ensures.ends)

pub loop-hit-smaller : goal.loop-hit-smaller
loop-hit-smaller g c =
    let now : World = c.loop-hit.world in
    let line = c.args.stretch.now in
    let x : Happening = happening.Work line.work in
    let found : hits_among x now (keys_from now line.cpu c.loop-hit.walk) ≡ c.in-Some.hit ∷ hits_among x now (keys_from now line.cpu c.next.new.self) =
    subst (λ (r : Option Hit). Finds x now (keys_from now line.cpu c.loop-hit.walk) r (keys_from now line.cpu c.next.new.self)) c.in-Some.is c.next.ensures in
    fewer x c.args.world.now line.cpu c.loop-hit.walk now c.loop-hit.invariant.struck c.in-Some.hit c.next.new.self found

pub returns : goal.returns
returns g c =
    let w : World = c.args.world.now in
    let now : World = c.loop-hit.world in
    let line = c.args.stretch.now in
    let x : Happening = happening.Work line.work in
    let u = c.loop-hit.invariant in
    let none : hits_among x now (keys_from now line.cpu c.loop-hit.walk) ≡ [] =
    subst (λ (r : Option Hit). Finds x now (keys_from now line.cpu c.loop-hit.walk) r (keys_from now line.cpu c.next.new.self)) c.in_default.is c.next.ensures in
    record {
      world = all-hit w line c.args.rings.now c.args.outs.now c.args.steps.now c.loop-hit.walk now c.loop-hit.outs c.loop-hit.steps u none;
      ends = all-sent w line c.args.rings.now c.args.outs.now c.args.steps.now c.loop-hit.walk now c.loop-hit.outs c.loop-hit.steps u none;
      steps = all-steps w line c.args.rings.now c.args.outs.now c.args.steps.now c.loop-hit.walk now c.loop-hit.outs c.loop-hit.steps u none;
    }
