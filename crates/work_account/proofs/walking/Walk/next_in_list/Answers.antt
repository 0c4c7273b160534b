use Rattle.std.proofs.Common.{◌≡◌, ◌≤◌, ◌∷◌, ◌∙◌, ◌+◌, [], ℕ, List, arith, ap, subst, sym, drop, slice_index_or}
use Rattle.std.specs.Prelude.{Option}
use Rattle.perf_base.specs.declared.numbers.Key.{Key}
use Rattle.world_spec.{specs.Value.{World, times}, proofs.Copies.{times-at}}
use Rattle.work_account.specs.declared.{overflowing.Hit.{Hit}, walking.Walk.{Walk}}
use Rattle.work_account.{specs.{Visits.{hits_among, members_at}, Walks.{Finds, from_member}}, proofs.{Reached.{listed-leads}, Walks.{group-found, group-passed, groups-over}}}
use Rattle.work_account.proofs.walking.Walk.next_in_list.Goals as goal

abbrev none : Key
none = record { 0 = 0 }

pub next_in_group-requires-clause-leads : goal.next_in_group-requires-clause-leads
next_in_group-requires-clause-leads c =
    let items : List Key = c.list-leaders.result.now in
    let at : ℕ = c.loop-self.self.group in
    listed-leads c.args.world.now.hardware c.args.world.now c.args.context c.args.pinned (slice_index_or items at none) c.list-leaders.ensures.kept
    (subst (λ (keys : List Key). 1 ≤ times (slice_index_or items at none) keys) c.list-leaders.ensures.list (times-at items at none c.loop-self-test.true))

pub returns-in-Some-clause-finds : goal.returns-in-Some-clause-finds
returns-in-Some-clause-finds c =
    let w : World = c.args.world.now in
    let items : List Key = c.list-leaders.result.now in
    let first : Walk = c.args.self.now in
    let was : Walk = c.loop-self.self in
    let new : Walk = c.next_in_group.new.self in
    let q : Key = slice_index_or items was.group none in
    let found : hits_among c.args.what.now w (drop was.member (members_at w q)) ≡ c.in-Some.hit ∷ hits_among c.args.what.now w (drop new.member (members_at w q)) =
    subst (λ (r : Option Hit). Finds c.args.what.now w (drop was.member (members_at w q)) r (drop new.member (members_at w q))) c.in-Some.is c.next_in_group.ensures.finds in
    let group : new.group ≡ was.group = ap (λ (x : Walk). x.group) c.next_in_group.ensures.rest in
    subst (λ (l : List Key). hits_among c.args.what.now w (from_member w first.member (drop first.group l)) ≡ c.in-Some.hit ∷ hits_among c.args.what.now w (from_member w new.member (drop new.group l)))
    c.list-leaders.ensures.list
    (c.loop-self.invariant.left
    ∙ (group-found c.args.what.now w items was.group was.member new.member none c.in-Some.hit c.loop-self-test.true found
    ∙ ap (λ (g : ℕ). c.in-Some.hit ∷ hits_among c.args.what.now w (from_member w new.member (drop g items))) (sym group)))

pub returns-in-Some-clause-pass : goal.returns-in-Some-clause-pass
returns-in-Some-clause-pass c = ap (λ (x : Walk). x.pass) c.next_in_group.ensures.rest ∙ c.loop-self.invariant.pass

pub loop-self-preserved : goal.loop-self-preserved
loop-self-preserved c =
    let w : World = c.args.world.now in
    let items : List Key = c.list-leaders.result.now in
    let was : Walk = c.loop-self.self in
    let new : Walk = c.next_in_group.new.self in
    let q : Key = slice_index_or items was.group none in
    let miss : hits_among c.args.what.now w (drop was.member (members_at w q)) ≡ [] =
    subst (λ (r : Option Hit). Finds c.args.what.now w (drop was.member (members_at w q)) r (drop new.member (members_at w q))) c.in_default.is c.next_in_group.ensures.finds in
    let group : new.group ≡ was.group = ap (λ (x : Walk). x.group) c.next_in_group.ensures.rest in
    record {
      left = c.loop-self.invariant.left
          ∙ (group-passed c.args.what.now w items was.group was.member none c.loop-self-test.true miss
          ∙ ap (λ (g : ℕ). hits_among c.args.what.now w (from_member w 0 (drop (g + 1) items))) (sym group));
      pass = ap (λ (x : Walk). x.pass) c.next_in_group.ensures.rest ∙ c.loop-self.invariant.pass;
    }

pub loop-self-smaller : goal.loop-self-smaller
loop-self-smaller c = omega (arith, c.loop-self-test.true, ap (λ (x : Walk). x.group) c.next_in_group.ensures.rest)

pub returns-clause-finds : goal.returns-clause-finds
returns-clause-finds c =
    let w : World = c.args.world.now in
    let items : List Key = c.list-leaders.result.now in
    let first : Walk = c.args.self.now in
    let was : Walk = c.loop-self.self in
    subst (λ (l : List Key). hits_among c.args.what.now w (from_member w first.member (drop first.group l)) ≡ []) c.list-leaders.ensures.list
    (c.loop-self.invariant.left ∙ groups-over c.args.what.now w items was.group was.member c.loop-self-test.false)
