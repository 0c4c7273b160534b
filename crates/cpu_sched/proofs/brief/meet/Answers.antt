use Rattle.std.proofs.{Common.{arith, ◌≡◌, ◌++◌, ◌∙◌, true, [], ◌∷◌, ap, sym, cond, map, take}, lemmas.Bool.{false≢true}}
use Rattle.perf_base.specs.declared.numbers.Key.{Key}
use Rattle.stage_spec.specs.Verdict.{is_eligible}
use Rattle.world_spec.specs.{StageOf.{group_at}, Value.{World}}
use Rattle.cpu_sched.{specs.Briefs.{seen, brief_at, briefs_at}, proofs.Same.{next-met}}
use Rattle.cpu_sched.proofs.brief.meet.Goals as goal

pub returns-then-not-same_group-clause-none : goal.returns-then-not-same_group-clause-none
returns-then-not-same_group-clause-none c =
    let w : World = c.args.world.now in
    let k : Key = c.args.leader in
    let own : seen c.brief_of.result ≡ brief_at w k = λ i. record {
      leader = c.brief_of.ensures.leader i;
      slot = c.brief_of.ensures.name i;
      software = c.brief_of.ensures.software i;
      exclusive = c.brief_of.ensures.exclusive i;
      counted = c.brief_of.ensures.events i;
    } in
    let eligible : is_eligible w.hardware c.args.cpu (group_at w k) ≡ true = sym c.eligible.ensures ∙ c.if-not-eligible.false in
    let one : briefs_at w c.args.cpu (k ∷ []) ≡ brief_at w k ∷ [] = ap (λ b. map (brief_at w) (cond b (k ∷ []) [])) eligible in
    λ rest e. false≢true (sym c.if-not-same_group.true ∙ c.same_group.ensures.1 (own
    ∙ (sym (next-met c.args.groups.now c.args.met c.index-groups-met.result (brief_at w k) rest (omega (arith, c.if-met-groups.false))
    (e ∙ ap (λ bs. map seen (take c.args.met c.args.groups.now) ++ (bs ++ rest)) one)) ∙ sym (ap seen c.index-groups-met.is))))
