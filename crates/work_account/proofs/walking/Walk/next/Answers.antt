use Rattle.std.proofs.Common.{◌≡◌, ◌∷◌, ◌∙◌, [], ◌+◌, ℕ, ap, subst, sym, drop}
use Rattle.std.specs.Prelude.{Option}
use Rattle.world_spec.specs.Value.{World}
use Rattle.work_account.specs.declared.{overflowing.Hit.{Hit}, walking.Walk.{Walk}}
use Rattle.work_account.{specs.{Visits.{hits_among}, Walks.{Finds, from_member, keys_from, pass_list}}, proofs.Walks.{pass-found, pass-passed, passes-over}}
use Rattle.work_account.proofs.walking.Walk.next.Goals as goal

pub returns-in-Some : goal.returns-in-Some
returns-in-Some c =
    let w : World = c.args.world.now in
    let was : Walk = c.loop-self.self in
    let new : Walk = c.next_in_pass.new.self in
    let found : hits_among c.args.what.now w (from_member w was.member (drop was.group (pass_list w c.args.cpu was.pass)))
    ≡ c.in-Some.hit ∷ hits_among c.args.what.now w (from_member w new.member (drop new.group (pass_list w c.args.cpu was.pass))) =
    subst (λ (r : Option Hit). Finds c.args.what.now w (from_member w was.member (drop was.group (pass_list w c.args.cpu was.pass))) r
    (from_member w new.member (drop new.group (pass_list w c.args.cpu was.pass)))) c.in-Some.is c.next_in_pass.ensures.finds in
    c.loop-self.invariant
    ∙ (pass-found c.args.what.now w c.args.cpu was.pass was.group was.member new.group new.member c.in-Some.hit c.loop-self-test.true found
    ∙ ap (λ (p : ℕ). c.in-Some.hit ∷ hits_among c.args.what.now w (keys_from w c.args.cpu (record { pass = p; group = new.group; member = new.member }))) (sym c.next_in_pass.ensures.pass))

pub loop-self-preserved : goal.loop-self-preserved
loop-self-preserved c =
    let w : World = c.args.world.now in
    let was : Walk = c.loop-self.self in
    let new : Walk = c.next_in_pass.new.self in
    let miss : hits_among c.args.what.now w (from_member w was.member (drop was.group (pass_list w c.args.cpu was.pass))) ≡ [] =
    subst (λ (r : Option Hit). Finds c.args.what.now w (from_member w was.member (drop was.group (pass_list w c.args.cpu was.pass))) r
    (from_member w new.member (drop new.group (pass_list w c.args.cpu was.pass)))) c.in_default.is c.next_in_pass.ensures.finds in
    c.loop-self.invariant
    ∙ (pass-passed c.args.what.now w c.args.cpu was.pass was.group was.member c.loop-self-test.true miss
    ∙ ap (λ (p : ℕ). hits_among c.args.what.now w (keys_from w c.args.cpu (record { pass = p + 1; group = 0; member = 0 }))) (sym c.next_in_pass.ensures.pass))

pub returns : goal.returns
returns c =
    let was : Walk = c.loop-self.self in
    c.loop-self.invariant ∙ passes-over c.args.what.now c.args.world.now c.args.cpu was.pass was.group was.member c.loop-self-test.false
