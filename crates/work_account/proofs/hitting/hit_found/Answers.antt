use Rattle.std.proofs.Common.{◌≡◌, ◌<◌, ◌∷◌, ◌∙◌, [], ap, refl, subst, sym, length}
use Rattle.std.specs.Prelude.{Option}
use Rattle.world_spec.specs.{Value.{World}, Working.{keys_by_pass}}
use Rattle.work_account.specs.declared.{overflowing.Hit.{Hit}, walking.Walk.{Walk}}
use Rattle.work_account.specs.{Visits.{hits_among, hit_one, hit_all, MayHit}, Walks.{Finds, keys_from}}
use Rattle.work_account.proofs.{Struck.{but-all}, Walked.{IsStruck, struck-none, struck-next, but-counts, found-may, fewer, all-struck}}
use Rattle.work_account.proofs.hitting.hit_found.Goals as goal

pub loop-hit-init : goal.loop-hit-init
loop-hit-init g c = record {
  struck = subst (λ (k : Walk). IsStruck c.args.what.now c.args.world.now c.args.cpu k c.args.world.now) (sym c.new-walk.ensures) (struck-none c.args.what.now c.args.world.now c.args.cpu);
  lost = refl;
}

pub next-requires : goal.next-requires
next-requires g c =
    subst (λ (v : World). c.args.cpu.0 < length v.quiet.running) (sym (but-counts c.args.what.now c.args.world.now c.args.cpu c.loop-hit.walk c.loop-hit.world c.loop-hit.invariant.struck)) c.requires.cpu

pub hit-requires : goal.hit-requires
hit-requires g c =
    let now : World = c.loop-hit.world in
    let found : hits_among c.args.what.now now (keys_from now c.args.cpu c.loop-hit.walk) ≡ c.in-Some.hit ∷ hits_among c.args.what.now now (keys_from now c.args.cpu c.next.new.self) =
    subst (λ (r : Option Hit). Finds c.args.what.now now (keys_from now c.args.cpu c.loop-hit.walk) r (keys_from now c.args.cpu c.next.new.self)) c.in-Some.is c.next.ensures in
    let may : MayHit now c.in-Some.hit = found-may c.args.what.now c.args.world.now c.args.cpu c.loop-hit.walk now c.loop-hit.invariant.struck c.in-Some.hit c.next.new.self found c.requires.may in
    record { live = may.live; alone = may.alone; fits = may.counts }

pub loop-hit-preserved : goal.loop-hit-preserved
loop-hit-preserved g c =
    let now : World = c.loop-hit.world in
    let found : hits_among c.args.what.now now (keys_from now c.args.cpu c.loop-hit.walk) ≡ c.in-Some.hit ∷ hits_among c.args.what.now now (keys_from now c.args.cpu c.next.new.self) =
    subst (λ (r : Option Hit). Finds c.args.what.now now (keys_from now c.args.cpu c.loop-hit.walk) r (keys_from now c.args.cpu c.next.new.self)) c.in-Some.is c.next.ensures in
    record {
      struck = struck-next c.args.what.now c.args.world.now c.args.cpu c.loop-hit.walk now c.loop-hit.invariant.struck c.in-Some.hit c.next.new.self found c.hit.new.self
          (c.hit.ensures.world ∙ ap {A = World} {B = World} (λ v. record (hit_one now c.in-Some.hit) { lost = v.lost }) (sym c.hit.ensures.world));
      lost = ap (λ (v : World). v.lost) c.hit.ensures.world ∙ c.loop-hit.invariant.lost;
    }

pub loop-hit-smaller : goal.loop-hit-smaller
loop-hit-smaller g c =
    let now : World = c.loop-hit.world in
    let found : hits_among c.args.what.now now (keys_from now c.args.cpu c.loop-hit.walk) ≡ c.in-Some.hit ∷ hits_among c.args.what.now now (keys_from now c.args.cpu c.next.new.self) =
    subst (λ (r : Option Hit). Finds c.args.what.now now (keys_from now c.args.cpu c.loop-hit.walk) r (keys_from now c.args.cpu c.next.new.self)) c.in-Some.is c.next.ensures in
    fewer c.args.what.now c.args.world.now c.args.cpu c.loop-hit.walk now c.loop-hit.invariant.struck c.in-Some.hit c.next.new.self found

pub returns : goal.returns
returns g c =
    let now : World = c.loop-hit.world in
    let w : World = c.args.world.now in
    let none : hits_among c.args.what.now now (keys_from now c.args.cpu c.loop-hit.walk) ≡ [] =
    subst (λ (r : Option Hit). Finds c.args.what.now now (keys_from now c.args.cpu c.loop-hit.walk) r (keys_from now c.args.cpu c.next.new.self)) c.in_default.is c.next.ensures in
    let all = hits_among c.args.what.now w (keys_by_pass w c.args.cpu) in
    all-struck c.args.what.now w c.args.cpu c.loop-hit.walk now c.loop-hit.invariant.struck none
    ∙ (ap {B = World} (λ l. record (hit_all all w) { lost = l }) (c.loop-hit.invariant.lost ∙ sym (ap (λ (v : World). v.lost) (but-all all w (hit_all all w) refl))))
