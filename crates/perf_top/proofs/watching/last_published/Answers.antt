use Rattle.std.{specs.Prelude.{◌≡◌, List, Some}, proofs.Common.{subst}}
use mathlib.Core.List.{IsPrefix}
use Rattle.user_page.specs.{declared.look.Look.{Look}, Looks.{last_look}}
use Rattle.perf_top.proofs.Seeing.{same-prefix}
use Rattle.perf_top.proofs.watching.last_published.Goals as goal

pub returns : goal.returns
returns c =
    let seen : List Look = c.look-last.new.self.seen in
    subst (λ (looks : List Look). last_look looks ≡ Some c.look-last.result)
    (same-prefix seen c.args.writer.published c.meet.ensures.prefix (subst (λ (looks : List Look). IsPrefix looks seen) c.requires.all c.look-last.ensures.prefix)) c.look-last.ensures.last
