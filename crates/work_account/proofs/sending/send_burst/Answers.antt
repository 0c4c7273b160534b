use Rattle.std.proofs.Common.{arith, ◌≡◌, ◌+◌, ◌-◌, ◌∙◌, suc, ap, subst, sym}
use Rattle.world_spec.specs.Value.{World, instance_at}
use Rattle.work_account.specs.{Ends.{Ends, AreTogether, HaveSpace, send_one}, Sampling.{HasInstance, asks, ends_of, send_times}}
use Rattle.work_account.proofs.Space.{space-less, space-next, together-next, burst-next}
use Rattle.work_account.proofs.sending.send_burst.Goals as goal

pub send_one-requires-clause-space : goal.send_one-requires-clause-space
send_one-requires-clause-space c =
    let inv = c.loop.invariant in
    let at = c.loop.counter in
    let was : Ends = ends_of c.loop.outs c.loop.world in
    let fewer : c.args.count - at ≡ 1 + (c.args.count - (at + 1)) = omega (arith, c.loop-test.true) in
    subst (λ (v : World). HaveSpace (HasInstance v) 1 was) (sym inv.rest)
    (space-less (HasInstance c.args.world.now) 1 (c.args.count - (at + 1)) was (subst (λ n. HaveSpace (HasInstance c.args.world.now) n was) fewer inv.space))

pub loop-preserved : goal.loop-preserved
loop-preserved c =
    let inv = c.loop.invariant in
    let s = c.args.sample.now in
    let e = (instance_at c.args.world.now s.origin).event in
    let was : Ends = ends_of c.loop.outs c.loop.world in
    let at = c.loop.counter in
    let fewer : c.args.count - at ≡ suc (c.args.count - (at + 1)) = omega (arith, c.loop-test.true) in
    let is : ends_of c.send_one.new.outs c.send_one.new.world ≡ send_one was e s.ring (asks s) =
    c.send_one.ensures.ends ∙ ap (λ (w : World). send_one was (instance_at w s.origin).event s.ring (asks s)) inv.rest in
    record {
      rest = c.send_one.ensures.rest ∙ ap {A = World} {B = World} (λ w. record w { lost = c.send_one.new.world.lost }) inv.rest;
      numbers = ap (λ (x : Ends). x.outs.numbers) is ∙ inv.numbers;
      together = subst (λ (x : Ends). AreTogether c.args.rings.now x.outs) (sym is) (together-next c.args.rings.now was e s.ring (asks s) inv.together);
      space = subst (HaveSpace (HasInstance c.args.world.now) (c.args.count - (at + 1))) (sym is)
          (space-next (HasInstance c.args.world.now) (c.args.count - (at + 1)) was e s.ring (asks s) (subst (λ n. HaveSpace (HasInstance c.args.world.now) n was) fewer inv.space));
      left = ap (send_times (c.args.count - (at + 1)) e s.ring (asks s)) is ∙ (burst-next e s.ring (asks s) c.args.count at was c.loop-test.true ∙ inv.left);
    }
