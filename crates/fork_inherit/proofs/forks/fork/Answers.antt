use Rattle.std.proofs.Common.{arith, ap, length}
use Rattle.stage_spec.specs.Hardware.{Hardware}
use Rattle.fork_inherit.proofs.{Forked.{may-flexible, both-copied, fork-stage, has-forked, fork-others}, Starting.{is-free, may-pinned}}
use Rattle.fork_inherit.proofs.forks.fork.Goals as goal

pub inherit_list-requires : goal.inherit_list-requires
inherit_list-requires c = record {
  may = may-pinned c.args.world.now c.args.cpu c.args.child c.in_ok-parent.parent c.pmus.ensures.kept c.requires.sound c.requires.child c.requires.room
      (is-free c.args.world.now c.args.cpu c.args.child c.in_ok-parent.parent c.in_ok-parent.ensures.parent c.in_ok-parent.ensures.accepted);
}

pub inherit_list-requires-2 : goal.inherit_list-requires-2
inherit_list-requires-2 c = record {
  may = may-flexible c.args.world.now c.inherit_list.new.world c.args.cpu c.args.child c.in_ok-parent.parent c.pmus.ensures.kept c.requires.sound c.requires.child c.requires.room
      (is-free c.args.world.now c.args.cpu c.args.child c.in_ok-parent.parent c.in_ok-parent.ensures.parent c.in_ok-parent.ensures.accepted) c.inherit_list.ensures.copied;
}

pub returns-clause-stage : goal.returns-clause-stage
returns-clause-stage c =
    fork-stage c.args.world.now c.inherit_list-2.new.world c.add_task.new.self c.args.cpu c.args.child c.in_ok-parent.parent c.pmus.ensures.kept c.requires.sound
    (is-free c.args.world.now c.args.cpu c.args.child c.in_ok-parent.parent c.in_ok-parent.ensures.parent c.in_ok-parent.ensures.accepted)
    (both-copied c.args.world.now c.inherit_list.new.world c.inherit_list-2.new.world c.args.cpu c.args.child c.in_ok-parent.parent c.pmus.ensures.kept
    (is-free c.args.world.now c.args.cpu c.args.child c.in_ok-parent.parent c.in_ok-parent.ensures.parent c.in_ok-parent.ensures.accepted) c.inherit_list.ensures.copied c.inherit_list-2.ensures.copied) c.add_task.ensures.stage

pub returns-clause-stays : goal.returns-clause-stays
returns-clause-stays c =
    has-forked c.args.world.now c.inherit_list-2.new.world c.add_task.new.self c.args.child c.in_ok-parent.parent
    (both-copied c.args.world.now c.inherit_list.new.world c.inherit_list-2.new.world c.args.cpu c.args.child c.in_ok-parent.parent c.pmus.ensures.kept
    (is-free c.args.world.now c.args.cpu c.args.child c.in_ok-parent.parent c.in_ok-parent.ensures.parent c.in_ok-parent.ensures.accepted) c.inherit_list.ensures.copied c.inherit_list-2.ensures.copied) c.add_task.ensures.world

pub returns-clause-others : goal.returns-clause-others
returns-clause-others c =
    λ other low.
    fork-others c.args.world.now c.inherit_list-2.new.world c.add_task.new.self c.args.cpu other c.args.child c.in_ok-parent.parent c.pmus.ensures.kept
    (is-free c.args.world.now c.args.cpu c.args.child c.in_ok-parent.parent c.in_ok-parent.ensures.parent c.in_ok-parent.ensures.accepted)
    (both-copied c.args.world.now c.inherit_list.new.world c.inherit_list-2.new.world c.args.cpu c.args.child c.in_ok-parent.parent c.pmus.ensures.kept
    (is-free c.args.world.now c.args.cpu c.args.child c.in_ok-parent.parent c.in_ok-parent.ensures.parent c.in_ok-parent.ensures.accepted) c.inherit_list.ensures.copied c.inherit_list-2.ensures.copied) c.add_task.ensures.world
    (fork-stage c.args.world.now c.inherit_list-2.new.world c.add_task.new.self c.args.cpu c.args.child c.in_ok-parent.parent c.pmus.ensures.kept c.requires.sound
    (is-free c.args.world.now c.args.cpu c.args.child c.in_ok-parent.parent c.in_ok-parent.ensures.parent c.in_ok-parent.ensures.accepted)
    (both-copied c.args.world.now c.inherit_list.new.world c.inherit_list-2.new.world c.args.cpu c.args.child c.in_ok-parent.parent c.pmus.ensures.kept
    (is-free c.args.world.now c.args.cpu c.args.child c.in_ok-parent.parent c.in_ok-parent.ensures.parent c.in_ok-parent.ensures.accepted) c.inherit_list.ensures.copied c.inherit_list-2.ensures.copied) c.add_task.ensures.stage)
    (omega (arith, low, c.pmus.ensures.kept.shape.running, ap (λ (hw : Hardware). length hw.cpu_pmus) c.pmus.ensures.pmus, c.use_invariant.ensures.cpus.1))
