use Rattle.std.proofs.Common.{arith, ◌≡◌, true, All, length, ap, sym, subst, slice_index_or}
use Rattle.stage_spec.specs.Hardware.{counters_of}
use Rattle.world_spec.{specs.{Copying.{leaders_in}, Kept.{leads, post_at}, Listings.{task_leaders}}, proofs.Copies.{times-at}}
use Rattle.cpu_sched.{specs.Briefs.{briefs_at, IsGroupBrief}, proofs.Lone.{task-few, task-leads}}
use Rattle.cpu_sched.proofs.brief.take_task.Goals as goal

pub take_keys-requires-clause-leads : goal.take_keys-requires-clause-leads
take_keys-requires-clause-leads c =
    subst (All (λ k. leads (post_at c.args.world.now) k ≡ true)) (sym c.leaders_of.ensures)
    (λ i d low. task-leads c.args.world.now c.args.cpu c.args.task c.args.pinned c.requires.kept c.requires.cpu c.requires.task
    (slice_index_or (leaders_in c.args.pinned (task_leaders c.args.world.now c.args.task)) i d) (times-at (leaders_in c.args.pinned (task_leaders c.args.world.now c.args.task)) i d low))

pub take_keys-requires-clause-few : goal.take_keys-requires-clause-few
take_keys-requires-clause-few c =
    omega (arith, ap length c.leaders_of.ensures, task-few c.args.world.now c.args.cpu c.args.task c.args.pinned c.requires.kept c.requires.cpu c.requires.task)

pub returns-clause-sound : goal.returns-clause-sound
returns-clause-sound c =
    subst (λ keys. All (IsGroupBrief (counters_of c.args.world.now.hardware c.args.cpu)) (briefs_at c.args.world.now c.args.cpu keys)) c.leaders_of.ensures c.take_keys.ensures.sound
