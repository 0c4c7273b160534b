use Rattle.std.proofs.{Common.{arith, ◌+◌, length, ap, sym, subst, take}, lemmas.List.{take_all}}
use Rattle.world_spec.specs.Value.{World, entry_at}
use Rattle.fork_inherit.{specs.Copies.{AreCopied}, proofs.Begun.{IsBegun, first-may, leader-at, still-leads, ends-are, sibling-here}}
use Rattle.fork_inherit.proofs.copying.inherit_group.Goals as goal

pub inherit-first-requires-clause-may : goal.inherit-first-requires-clause-may
inherit-first-requires-clause-may c = first-may c.args.child c.args.world.now c.args.leader c.use_invariant.ensures c.requires.may

pub loop-member-init : goal.loop-member-init
loop-member-init c = leader-at c.args.child c.args.world.now c.inherit-first.new.world c.args.leader c.inherit-first.result c.use_invariant.ensures c.requires.may c.inherit-first.ensures.fresh c.inherit-first.ensures.world

pub members-member-end-requires : goal.members-member-end-requires
members-member-end-requires c =
    still-leads c.args.child c.args.world.now c.inherit-first.new.world c.args.leader c.inherit-first.result (take 1 (entry_at c.args.world.now c.args.leader).members) c.requires.may
    (leader-at c.args.child c.args.world.now c.inherit-first.new.world c.args.leader c.inherit-first.result c.use_invariant.ensures c.requires.may c.inherit-first.ensures.fresh c.inherit-first.ensures.world)

pub bounds-members-member : goal.bounds-members-member
bounds-members-member c =
    (sibling-here c.args.child c.args.world.now c.loop-member.world c.args.leader c.inherit-first.result c.loop-member.member c.members-member-end.result.now c.members.result.now (record { 0 = 0 })
    c.use_invariant.ensures c.requires.may
    (ends-are c.args.child c.args.world.now c.inherit-first.new.world c.args.leader c.inherit-first.result c.members-member-end.result.now c.use_invariant.ensures c.requires.may c.inherit-first.ensures.fresh c.inherit-first.ensures.world c.members-member-end.ensures.members)
    c.loop-member-test.true c.loop-member.invariant c.members.ensures.members).low

pub inherit-requires-clause-live : goal.inherit-requires-clause-live
inherit-requires-clause-live c =
    (sibling-here c.args.child c.args.world.now c.loop-member.world c.args.leader c.inherit-first.result c.loop-member.member c.members-member-end.result.now c.members.result.now (record { 0 = 0 })
    c.use_invariant.ensures c.requires.may
    (ends-are c.args.child c.args.world.now c.inherit-first.new.world c.args.leader c.inherit-first.result c.members-member-end.result.now c.use_invariant.ensures c.requires.may c.inherit-first.ensures.fresh c.inherit-first.ensures.world c.members-member-end.ensures.members)
    c.loop-member-test.true c.loop-member.invariant c.members.ensures.members).at.live

pub inherit-requires-clause-may : goal.inherit-requires-clause-may
inherit-requires-clause-may c =
    (sibling-here c.args.child c.args.world.now c.loop-member.world c.args.leader c.inherit-first.result c.loop-member.member c.members-member-end.result.now c.members.result.now (record { 0 = 0 })
    c.use_invariant.ensures c.requires.may
    (ends-are c.args.child c.args.world.now c.inherit-first.new.world c.args.leader c.inherit-first.result c.members-member-end.result.now c.use_invariant.ensures c.requires.may c.inherit-first.ensures.fresh c.inherit-first.ensures.world c.members-member-end.ensures.members)
    c.loop-member-test.true c.loop-member.invariant c.members.ensures.members).at.adds

pub loop-member-preserved : goal.loop-member-preserved
loop-member-preserved c =
    subst (λ (w : World). IsBegun c.args.child c.args.world.now w c.args.leader c.inherit-first.result (take (c.loop-member.member + 1) (entry_at c.args.world.now c.args.leader).members)) (sym c.inherit.ensures.world)
    ((sibling-here c.args.child c.args.world.now c.loop-member.world c.args.leader c.inherit-first.result c.loop-member.member c.members-member-end.result.now c.members.result.now (record { 0 = 0 })
    c.use_invariant.ensures c.requires.may
    (ends-are c.args.child c.args.world.now c.inherit-first.new.world c.args.leader c.inherit-first.result c.members-member-end.result.now c.use_invariant.ensures c.requires.may c.inherit-first.ensures.fresh c.inherit-first.ensures.world c.members-member-end.ensures.members)
    c.loop-member-test.true c.loop-member.invariant c.members.ensures.members).at.next c.inherit.result c.inherit.ensures.fresh)

pub returns : goal.returns
returns c = record {
  copied = subst (AreCopied c.args.child c.args.world.now c.loop-member.world)
      (take_all c.loop-member.member (entry_at c.args.world.now c.args.leader).members (omega (arith, c.loop-member-test.false, ap length (ends-are c.args.child c.args.world.now c.inherit-first.new.world c.args.leader c.inherit-first.result c.members-member-end.result.now c.use_invariant.ensures c.requires.may c.inherit-first.ensures.fresh c.inherit-first.ensures.world c.members-member-end.ensures.members)))) c.loop-member.invariant.copied;
}
