use Rattle.std.proofs.Common.{◌≡◌, ◌*◌, ◌≤◌, IfSome}
use Rattle.user_page.specs.Looks.{last_look}
use Rattle.ring_tests.proofs.pages.check_rows.Given as goal

abbrev pub invariant-loop-count : goal.invariant-loop-count
invariant-loop-count g l = record {
  writer : l.writer.page ≡ l.page;
  watcher : l.watcher.page ≡ l.page;
  last : IfSome (last_look l.writer.published) (λ last. last.at ≡ l.at);
  below : l.at ≤ 255 * l.count-index;
}
