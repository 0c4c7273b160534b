use Rattle.std.proofs.Common.{◌≡◌, true, ap, subst, sym}
use Rattle.perf_base.specs.declared.numbers.Key.{Key}
use Rattle.perf_base.specs.declared.lines.CpuLine.TheVariants as cpu_line
use Rattle.stage_laws.specs.Bounds.{most_of_line}
use Rattle.world_spec.specs.{Metering.{HasMeterRoom, IsWorked}, Shares.{HaveRoom}, Value.{World, is_live, instance_at, account_at}}
use Rattle.world_spec.proofs.Metering.{work-stage, work-grows}
use Rattle.perf_world.{specs.Seen.{seen}, proofs.{Kept.{kept-now}, Turning.{stored-worked}, Worked.{room-for, was-worked}}}
use Rattle.perf_world.proofs.world.World.add_work.Goals as goal

pub add_work-requires-clause-room : goal.add_work-requires-clause-room
add_work-requires-clause-room g c =
    room-for c.self.inside.pmus c.self.inside.events c.self.inside.contexts c.self.inside.families c.self.inside.processors c.self.inside.tasks c.self.inside.used c.self.inside.mapped c.self.inside.next_id c.args.cpu c.args.work.now c.self.invariant.kept
    (subst (λ (w : World). HaveRoom w (most_of_line (cpu_line.Work c.args.work.now))) (sym c.self.view_is) c.requires.room)
    (subst (λ (w : World). HasMeterRoom w c.args.cpu c.args.work.now) (sym c.self.view_is) c.requires.meter)

pub returns-clause-worked : goal.returns-clause-worked
returns-clause-worked g c =
    subst (λ (w : World). IsWorked w (seen c.self.inside.pmus c.add_work.new.self c.self.inside.contexts c.self.inside.families c.self.inside.processors c.self.inside.tasks c.self.inside.used c.self.inside.mapped c.self.inside.next_id) c.args.cpu c.args.work.now) c.self.view_is
    (was-worked c.self.inside.pmus c.self.inside.events c.self.inside.contexts c.self.inside.families c.self.inside.processors c.self.inside.tasks c.self.inside.used c.self.inside.mapped c.self.inside.next_id c.args.cpu c.args.work.now c.add_work.new.self c.self.invariant.turned c.add_work.ensures.worked)

pub invariant_of-self : goal.invariant_of-self
invariant_of-self g c =
    let worked : IsWorked (seen c.self.inside.pmus c.self.inside.events c.self.inside.contexts c.self.inside.families c.self.inside.processors c.self.inside.tasks c.self.inside.used c.self.inside.mapped c.self.inside.next_id) (seen c.self.inside.pmus c.add_work.new.self c.self.inside.contexts c.self.inside.families c.self.inside.processors c.self.inside.tasks c.self.inside.used c.self.inside.mapped c.self.inside.next_id) c.args.cpu c.args.work.now =
    was-worked c.self.inside.pmus c.self.inside.events c.self.inside.contexts c.self.inside.families c.self.inside.processors c.self.inside.tasks c.self.inside.used c.self.inside.mapped c.self.inside.next_id c.args.cpu c.args.work.now c.add_work.new.self c.self.invariant.turned c.add_work.ensures.worked in
    stored-worked c.self.inside.events c.add_work.new.self (seen c.self.inside.pmus c.self.inside.events c.self.inside.contexts c.self.inside.families c.self.inside.processors c.self.inside.tasks c.self.inside.used c.self.inside.mapped c.self.inside.next_id) (seen c.self.inside.pmus c.add_work.new.self c.self.inside.contexts c.self.inside.families c.self.inside.processors c.self.inside.tasks c.self.inside.used c.self.inside.mapped c.self.inside.next_id) c.args.cpu c.args.work.now c.self.invariant worked
    (subst (λ (w : World). HaveRoom w (most_of_line (cpu_line.Work c.args.work.now))) (sym c.self.view_is) c.requires.room)
    (subst (λ (w : World). HasMeterRoom w c.args.cpu c.args.work.now) (sym c.self.view_is) c.requires.meter)
    (ap (λ t. t.ways) c.add_work.ensures.worked.rest)

pub returns-clause-stage : goal.returns-clause-stage
returns-clause-stage g c = work-stage c.args.self.now (seen c.self.inside.pmus c.add_work.new.self c.self.inside.contexts c.self.inside.families c.self.inside.processors c.self.inside.tasks c.self.inside.used c.self.inside.mapped c.self.inside.next_id) c.args.cpu c.args.work.now (returns-clause-worked g c)

pub returns-clause-grown : goal.returns-clause-grown
returns-clause-grown g c = λ slot.
    work-grows c.args.self.now.hardware c.args.self.now (seen c.self.inside.pmus c.add_work.new.self c.self.inside.contexts c.self.inside.families c.self.inside.processors c.self.inside.tasks c.self.inside.used c.self.inside.mapped c.self.inside.next_id) c.args.cpu c.args.work.now slot (kept-now (seen c.self.inside.pmus c.self.inside.events c.self.inside.contexts c.self.inside.families c.self.inside.processors c.self.inside.tasks c.self.inside.used c.self.inside.mapped c.self.inside.next_id) c.args.self.now c.self.view_is c.self.invariant.kept) (returns-clause-worked g c)

pub returns-clause-whole : goal.returns-clause-whole
returns-clause-whole g c = subst (λ (w : World). (k : Key) → is_live w k ≡ true → (instance_at w k).attr.period ≡ 0 → (account_at w k).left ≡ 0) c.self.view_is c.add_work.ensures.whole
