use Rattle.std.proofs.Common.{◌≡◌, ◌∙◌, List, arith, ap, drop, false}
use Rattle.std.{specs.Prelude.{nat_lt}, proofs.lemmas.Bool.Decides.{nat_tests}}
use Rattle.perf_base.specs.declared.numbers.Key.{Key}
use Rattle.world_spec.specs.Value.{World, leaders_of}
use Rattle.world_tables.specs.Places.{picked}
use Rattle.work_account.{specs.{declared.walking.Walk.{Walk}, Visits.{hits_among}, Walks.{from_member}}, proofs.Walks.{pass-none}}
use Rattle.work_account.proofs.walking.Walk.next_in_pass.Goals as goal

pub returns-then-not-may_be_taken-clause-finds : goal.returns-then-not-may_be_taken-clause-finds
returns-then-not-may_be_taken-clause-finds c =
    let w : World = c.args.world.now in
    let walk : Walk = c.args.self.now in
    let off : c.may_be_taken.result ≡ false = grind (arith, nat_tests, c.if-not-may_be_taken.true) in
    ap (λ (l : List Key). hits_among c.args.what.now w (from_member w walk.member (drop walk.group l))) c.in_ok-context.ensures.some
    ∙ pass-none c.args.what.now w (picked (nat_lt walk.pass 2) (leaders_of w c.in_ok-context.context)) walk.group walk.member (c.may_be_taken.ensures off (nat_lt walk.pass 2))
