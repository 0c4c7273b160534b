use Rattle.std.{specs.{Prelude.{◌≡◌, [], ◌∷◌}, Option.{option_copied}}, proofs.Common.{ap, refl, rules, subst, sym, ◌∙◌}}
use Rattle.perf_base.specs.declared.lines.CpuLine.TheVariants as line
use Rattle.stage_spec.specs.Switching.{switched}
use Rattle.world_spec.specs.{StageOf.{stage_of}, Value.{World, seats_at}}
use Rattle.cpu_sched.specs.Briefs.{present_brief}
use Rattle.machine.{specs.Counted.{AreCountedUnless, IsServedBy, seats_of}, proofs.{Counting.{counted-by}, Foreseen.{switch-foreseen}}}
use Rattle.machine.proofs.TaskChange.{Course, End, hardware-then, room-then, switch-done, switch-ready, switch-rescheduled, placed-totals}
use Rattle.machine.proofs.switching.change_task.Goals as goal

pub migrate_if-requires-clause-room : goal.migrate_if-requires-clause-room
migrate_if-requires-clause-room g c =
    room-then c.args.world.now c.soft.new.world c.move_to-migrates.new.world c.resched_with.new.world c.args.cpu c.args.to c.move_to-migrates.result
    (record {
      kept = c.use_invariant.ensures;
      ready = c.requires.ready;
      low = c.requires.cpu;
      task = c.requires.task;
      accepted = c.requires.accepted;
      changes = c.requires.changes;
      first = c.soft.ensures.shares;
      first_rest = c.soft.ensures.rest;
      grown = c.soft.ensures.grown;
      migration = c.move_to-migrates.ensures.migration;
      moved = c.move_to-migrates.ensures.world;
      moved_stage = c.move_to-migrates.ensures.stage;
      settled = c.resched_with.ensures.stage;
      rest = c.resched_with.ensures.rest;
    }) c.requires.room

pub returns : goal.returns
returns g c =
    let w : World = c.args.world.now in
    let a : World = c.soft.new.world in
    let b : World = c.move_to-migrates.new.world in
    let x : World = c.resched_with.new.world in
    let d : World = c.migrate_if.new.world in
    let m = c.move_to-migrates.result in
    let here : Course w a b x c.args.cpu c.args.to m = record {
      kept = c.use_invariant.ensures;
      ready = c.requires.ready;
      low = c.requires.cpu;
      task = c.requires.task;
      accepted = c.requires.accepted;
      changes = c.requires.changes;
      first = c.soft.ensures.shares;
      first_rest = c.soft.ensures.rest;
      grown = c.soft.ensures.grown;
      migration = c.move_to-migrates.ensures.migration;
      moved = c.move_to-migrates.ensures.world;
      moved_stage = c.move_to-migrates.ensures.stage;
      settled = c.resched_with.ensures.stage;
      rest = c.resched_with.ensures.rest;
    } in
    let last : End w a b x d c.args.cpu c.args.to m = record {
      course = here;
      given = c.migrate_if.ensures.shares;
      stage = c.migrate_if.ensures.stage;
      rest = c.migrate_if.ensures.rest;
      kept_then = c.use_invariant-2.ensures;
    } in
    let hardware : b.hardware ≡ w.hardware = hardware-then w a b x c.args.cpu c.args.to m here in
    let moved : b.quiet.totals ≡ a.quiet.totals = ap (λ (y : World). y.quiet.totals) c.move_to-migrates.ensures.world ∙ placed-totals c.args.cpu c.args.to a in
    record {
      ready = switch-ready w a b x d c.args.cpu c.args.to m last
          (switch-rescheduled w a b x d c.args.cpu c.args.to m last c.resched_with.ensures.rescheduled
          c.soft.ensures.rescheduled c.move_to-migrates.ensures.others c.resched_with.ensures.others c.migrate_if.ensures.rescheduled);
      done = switch-done w a b x d c.args.cpu c.args.to m last;
      hardware = search rules;
      totals = ap (λ (y : World). y.quiet.totals) c.migrate_if.ensures.rest
          ∙ (ap (λ (y : World). y.quiet.totals) c.resched_with.ensures.rest.world ∙ (moved ∙ ap (λ (y : World). y.quiet.totals) c.soft.ensures.rest));
      counted = counted-by (option_copied c.args.sheet) w b d c.args.cpu (line.Switch c.args.to) c.args.tests.now c.resched_with.new.tests c.requires.cpu c.requires.accepted c.requires.changes
          (λ other. refl) hardware (c.move_to-migrates.ensures.stage ∙ ap (λ y. switched c.args.cpu c.args.to (stage_of y)) c.soft.ensures.rest)
          (switch-foreseen w a b c.args.cpu c.args.to c.requires.cpu c.soft.ensures.rest c.move_to-migrates.ensures.world)
          (subst (λ s. AreCountedUnless (IsServedBy (option_copied c.args.sheet) (present_brief b c.args.cpu)) (seats_of (option_copied c.args.sheet)) b.hardware (stage_of b) s (seats_at d) (c.args.cpu ∷ []) c.args.tests.now c.resched_with.new.tests)
          (sym c.migrate_if.ensures.stage)
          (subst (λ at. AreCountedUnless (IsServedBy (option_copied c.args.sheet) (present_brief b c.args.cpu)) (seats_of (option_copied c.args.sheet)) b.hardware (stage_of b) (stage_of x) at (c.args.cpu ∷ []) c.args.tests.now c.resched_with.new.tests)
          (sym (ap seats_at c.migrate_if.ensures.rest)) c.resched_with.ensures.counted));
    }
