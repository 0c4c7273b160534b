use Rattle.std.proofs.Common.{sym, ◌∙◌}
use Rattle.exit_fold.proofs.{Leaders.{walked-none, walked-then, less-then, leader-live, none-left}, Whole.{whole-folded}}
use Rattle.exit_fold.proofs.folding.fold_copies.Goals as goal

pub loop-leader-init : goal.loop-leader-init
loop-leader-init c = walked-none c.args.world.now.hardware c.args.task c.args.world.now c.use_invariant.ensures c.requires.grouped

pub fold_or_pass-passed-requires-clause-live : goal.fold_or_pass-passed-requires-clause-live
fold_or_pass-passed-requires-clause-live c =
    leader-live c.args.world.now.hardware c.loop-leader.world c.args.task c.in-Some.leader c.loop-leader.passed c.loop-leader.invariant.folding.kept
    (sym c.leader_at.ensures.leader ∙ c.in-Some.is)

pub loop-leader-preserved : goal.loop-leader-preserved
loop-leader-preserved c =
    walked-then c.args.world.now.hardware c.args.task c.args.world.now c.loop-leader.world c.fold_or_pass-passed.new.world c.in-Some.leader c.loop-leader.passed c.fold_or_pass-passed.result
    c.use_invariant.ensures c.requires.task c.loop-leader.invariant (sym c.leader_at.ensures.leader ∙ c.in-Some.is) c.fold_or_pass-passed.ensures.world c.fold_or_pass-passed.ensures.passed

pub loop-leader-smaller : goal.loop-leader-smaller
loop-leader-smaller c =
    less-then c.args.world.now.hardware c.args.task c.loop-leader.world c.fold_or_pass-passed.new.world c.in-Some.leader c.loop-leader.passed c.fold_or_pass-passed.result
    c.loop-leader.invariant.folding.kept c.requires.task (sym c.leader_at.ensures.leader ∙ c.in-Some.is) c.fold_or_pass-passed.ensures.world c.fold_or_pass-passed.ensures.passed

pub returns : goal.returns
returns c = record {
  folded = whole-folded c.args.world.now.hardware c.args.task c.args.world.now c.loop-leader.world c.use_invariant.ensures c.requires.grouped c.requires.task
      c.loop-leader.invariant.folding
      (none-left c.args.world.now.hardware c.args.task c.args.world.now c.loop-leader.world c.loop-leader.passed c.requires.task c.loop-leader.invariant
      (sym c.leader_at.ensures.leader ∙ c.in_default.is));
}
