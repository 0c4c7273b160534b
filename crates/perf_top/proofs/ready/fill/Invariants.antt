use Rattle.std.specs.Prelude.{◌≡◌, ◌*◌, length, take}
use Rattle.perf_base.specs.Weight.{weight}
use Rattle.work_account.specs.Ends.{AreTogether}
use Rattle.machine.specs.Readers.{AreFollowing}
use Rattle.perf_top.proofs.ready.fill.Given as goal

abbrev pub invariant-loop-index : goal.invariant-loop-index
invariant-loop-index l = record {
  end : l.index-end ≡ length l.fn.book.script.order;
  script : l.book.script ≡ l.fn.book.script;
  order : l.book.order ≡ take l.index l.fn.book.script.order;
  together : AreTogether l.rings l.book.machine.outs;
  following : AreFollowing (9 * weight l.book.script) l.book.machine.outs l.ins;
}
