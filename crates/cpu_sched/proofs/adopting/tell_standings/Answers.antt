use Rattle.std.proofs.{Common.{arith, ◌≡◌, ◌∙◌, true, ap, sym, subst, slice_index_or}, lemmas.List.{get_or-map, length-map}}
use Rattle.perf_base.specs.declared.{numbers.Key.{Key}, standing.Standing.{Standing}}
use Rattle.world_spec.specs.{Changes.{set_standing}, Value.{World, is_live}}
use Rattle.cpu_sched.{specs.{Adopting.{with_standings}, declared.plan.Verdict.{Verdict}}, proofs.Told.{told-next}}
use Rattle.cpu_sched.proofs.adopting.tell_standings.Goals as goal

pub set_standing-requires : goal.set_standing-requires
set_standing-requires c =
    let x : Verdict = c.told-item.result in
    let pair : Verdict → Key × Standing = λ v. (v.leader, v.standing) in
    ap (λ (w : World). is_live w x.leader) c.loop-told.invariant
    ∙ (ap (λ (v : Verdict). is_live c.args.world.now v.leader) c.told-item.is
    ∙ subst (λ told. is_live c.args.world.now told.0 ≡ true) (get_or-map pair c.args.verdicts.now c.loop-told.told-index x (x.leader, x.standing) c.loop-told-test.true)
    (c.requires c.loop-told.told-index (x.leader, x.standing) (omega (arith, c.loop-told-test.true, length-map c.args.verdicts.now pair))))

pub loop-told-preserved : goal.loop-told-preserved
loop-told-preserved c =
    let x : Verdict = c.told-item.result in
    c.set_standing.ensures.world
    ∙ (ap (λ (v : Verdict). set_standing v.leader v.standing c.loop-told.world) c.told-item.is
    ∙ (ap (set_standing (slice_index_or c.args.verdicts.now c.loop-told.told-index x).leader (slice_index_or c.args.verdicts.now c.loop-told.told-index x).standing) c.loop-told.invariant
    ∙ ap (λ m. with_standings m c.args.world.now) (sym (told-next c.args.verdicts.now c.loop-told.told-index x c.args.world.now.standings c.loop-told-test.true))))
