use Rattle.std.proofs.Common.{◌≡◌, ◌≤◌, ◌∷◌, ◌∙◌, ◌+◌, [], List, ap, subst, drop, slice_index_or}
use Rattle.std.specs.Prelude.{Option}
use Rattle.perf_base.specs.declared.numbers.Key.{Key}
use Rattle.world_spec.{specs.Value.{World, times}, proofs.{Along.{member-of}, Copies.{times-at}}}
use Rattle.work_account.specs.declared.{overflowing.Hit.{Hit}, walking.Walk.{Walk}}
use Rattle.work_account.{specs.{Visits.{hits_among}, Walks.{Finds}}, proofs.Walks.{member-found, member-passed, members-over}}
use Rattle.work_account.proofs.walking.Walk.next_in_group.Goals as goal

abbrev none : Key
none = record { 0 = 0 }

pub hit_of-found-requires-clause-live : goal.hit_of-found-requires-clause-live
hit_of-found-requires-clause-live c =
    let items : List Key = c.members-members.result.now in
    (member-of c.args.world.now.hardware c.args.world.now c.members-members.ensures.kept c.args.leader (slice_index_or items c.loop-self.self.member none)
    (subst (λ (keys : List Key). 1 ≤ times (slice_index_or items c.loop-self.self.member none) keys) c.members-members.ensures.members
    (times-at items c.loop-self.self.member none c.loop-self-test.true))).0

pub loop-self-preserved : goal.loop-self-preserved
loop-self-preserved c =
    let w : World = c.args.world.now in
    let items : List Key = c.members-members.result.now in
    let at = c.loop-self.self.member in
    let miss : hits_among c.args.what.now w (slice_index_or items at none ∷ []) ≡ [] =
    subst (λ (r : Option Hit). Finds c.args.what.now w (slice_index_or items at none ∷ []) r []) c.in_default.is c.hit_of-found.ensures in
    record {
      left = c.loop-self.invariant.left ∙ member-passed c.args.what.now w items at none c.loop-self-test.true miss;
      rest = ap (λ (x : Walk). record x { member = at + 1 }) c.loop-self.invariant.rest;
    }

pub returns-in-Some-clause-finds : goal.returns-in-Some-clause-finds
returns-in-Some-clause-finds c =
    let w : World = c.args.world.now in
    let items : List Key = c.members-members.result.now in
    let was = c.args.self.now.member in
    let at = c.loop-self.self.member in
    let found : hits_among c.args.what.now w (slice_index_or items at none ∷ []) ≡ c.in-Some.hit ∷ [] =
    subst (λ (r : Option Hit). Finds c.args.what.now w (slice_index_or items at none ∷ []) r []) c.in-Some.is c.hit_of-found.ensures in
    subst (λ (keys : List Key). hits_among c.args.what.now w (drop was keys) ≡ c.in-Some.hit ∷ hits_among c.args.what.now w (drop (at + 1) keys)) c.members-members.ensures.members
    (c.loop-self.invariant.left ∙ member-found c.args.what.now w items at none c.in-Some.hit c.loop-self-test.true found)

pub returns-in-Some-clause-rest : goal.returns-in-Some-clause-rest
returns-in-Some-clause-rest c = ap (λ (x : Walk). record x { member = c.loop-self.self.member + 1 }) c.loop-self.invariant.rest

pub returns-clause-finds : goal.returns-clause-finds
returns-clause-finds c =
    let w : World = c.args.world.now in
    let items : List Key = c.members-members.result.now in
    subst (λ (keys : List Key). hits_among c.args.what.now w (drop c.args.self.now.member keys) ≡ []) c.members-members.ensures.members
    (c.loop-self.invariant.left ∙ members-over c.args.what.now w items c.loop-self.self.member c.loop-self-test.false)

pub returns-clause-rest : goal.returns-clause-rest
returns-clause-rest c = c.loop-self.invariant.rest
