use Rattle.std.proofs.Common.{ap, sym, ◌∙◌}
use Rattle.world_spec.{specs.Kept.{copies_in}, proofs.Families.{copies-are}}
use Rattle.perf_world.{specs.Seen.{seen}, proofs.Kept.{kept-now}}
use Rattle.perf_world.proofs.world.World.copies.Goals as goal

pub returns-clause-copies : goal.returns-clause-copies
returns-clause-copies c =
    c.live_copies.ensures ∙ (ap (λ w. copies_in w.families) c.self.view_is
    ∙ sym (copies-are c.args.self.now.hardware c.args.self.now (kept-now (seen c.self.inside.pmus c.self.inside.events c.self.inside.contexts c.self.inside.families c.self.inside.processors c.self.inside.tasks c.self.inside.used c.self.inside.mapped c.self.inside.next_id) c.args.self.now c.self.view_is c.self.invariant.kept)))
