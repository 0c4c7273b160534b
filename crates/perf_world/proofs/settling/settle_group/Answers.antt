use Rattle.std.proofs.{Common.{◌≡◌, ◌<◌, ◌∙◌, arith, List, [], ◌∷◌, ap, subst, take, length, slice_index_or}, lemmas.List.{take_all}}
use Rattle.perf_base.specs.declared.numbers.Key.{Key}
use Rattle.world_tables.specs.Columns.{Columns, is_there, entry_in}
use Rattle.perf_world.{specs.Settling.{group_keys, HasSettled}, proofs.Turning.{none-settled, next-settled, still-led}}
use Rattle.perf_world.proofs.settling.settle_group.Goals as goal
use Rattle.world_spec.proofs.Copies.{times-at}

pub loop-member-init : goal.loop-member-init
loop-member-init c = record {
  count = ap (λ (keys : List Key). length keys) c.members-member-end.ensures;
  settled = none-settled c.args.processors.now c.args.events.now;
}

pub members-requires : goal.members-requires
members-requires c = ap (λ (t : Columns). is_there t c.args.leader) c.loop-member.invariant.settled.same ∙ c.requires.there

pub bounds-members-member : goal.bounds-members-member
bounds-members-member c =
    omega (
      arith,
      c.loop-member-test.true,
      ap (λ (keys : List Key). length keys) c.members.ensures,
      ap (λ (t : Columns). length (entry_in t c.args.leader).members) c.loop-member.invariant.settled.same,
      ap (λ (keys : List Key). length keys) c.members-member-end.ensures,
    )

pub settle-requires-clause-there : goal.settle-requires-clause-there
settle-requires-clause-there c =
    let same : c.members.result.now ≡ group_keys c.args.events.now c.args.leader =
    c.members.ensures ∙ ap (λ (t : Columns). (entry_in t c.args.leader).members) c.loop-member.invariant.settled.same in
    let low : c.loop-member.member < length (group_keys c.args.events.now c.args.leader) =
    omega (arith, c.loop-member-test.true, ap (λ (keys : List Key). length keys) c.members-member-end.ensures) in
    ap (λ (keys : List Key). is_there c.loop-member.events (slice_index_or keys c.loop-member.member (record { 0 = 0 }))) same
    ∙ (still-led c.args.events.now c.loop-member.events (group_keys c.args.events.now c.args.leader) c.loop-member.invariant.settled.same c.requires.led _
    (times-at (group_keys c.args.events.now c.args.leader) c.loop-member.member (record { 0 = 0 }) low)).0

pub settle-requires-clause-leader : goal.settle-requires-clause-leader
settle-requires-clause-leader c =
    let same : c.members.result.now ≡ group_keys c.args.events.now c.args.leader =
    c.members.ensures ∙ ap (λ (t : Columns). (entry_in t c.args.leader).members) c.loop-member.invariant.settled.same in
    let low : c.loop-member.member < length (group_keys c.args.events.now c.args.leader) =
    omega (arith, c.loop-member-test.true, ap (λ (keys : List Key). length keys) c.members-member-end.ensures) in
    ap (λ (keys : List Key). is_there c.loop-member.events (entry_in c.loop-member.events (slice_index_or keys c.loop-member.member (record { 0 = 0 }))).leader) same
    ∙ (still-led c.args.events.now c.loop-member.events (group_keys c.args.events.now c.args.leader) c.loop-member.invariant.settled.same c.requires.led _
    (times-at (group_keys c.args.events.now c.args.leader) c.loop-member.member (record { 0 = 0 }) low)).1

pub loop-member-preserved : goal.loop-member-preserved
loop-member-preserved c =
    let keys : List Key = group_keys c.args.events.now c.args.leader in
    let same : c.members.result.now ≡ keys =
    c.members.ensures ∙ ap (λ (t : Columns). (entry_in t c.args.leader).members) c.loop-member.invariant.settled.same in
    let low : c.loop-member.member < length keys = omega (arith, c.loop-member-test.true, ap (λ (ks : List Key). length ks) c.members-member-end.ensures) in
    record {
      count = c.loop-member.invariant.count;
      settled = next-settled c.args.processors.now keys c.loop-member.member (record { 0 = 0 }) c.args.events.now c.loop-member.events c.settle.new.events low c.loop-member.invariant.settled
          (subst (λ (ks : List Key). HasSettled (slice_index_or ks c.loop-member.member (record { 0 = 0 }) ∷ []) c.args.processors.now c.loop-member.events c.settle.new.events) same c.settle.ensures);
    }

pub returns : goal.returns
returns c =
    let keys : List Key = group_keys c.args.events.now c.args.leader in
    let whole : take c.loop-member.member keys ≡ keys =
    take_all c.loop-member.member keys (omega (arith, c.loop-member-test.false, ap (λ (ks : List Key). length ks) c.members-member-end.ensures)) in
    subst (λ (ks : List Key). HasSettled ks c.args.processors.now c.args.events.now c.loop-member.events) whole c.loop-member.invariant.settled
