use Rattle.std.proofs.Common.{◌≡◌, ◌+◌, IfSome}
use Rattle.user_page.specs.Looks.{last_look}
use Rattle.ring_tests.proofs.pages.publish_looks.Given as goal

abbrev pub invariant-loop-i : goal.invariant-loop-i
invariant-loop-i l = record {
  page : l.writer.page ≡ l.page;
  last : IfSome (last_look l.writer.published) (λ last. last.at ≡ l.at + l.i);
}
