use Rattle.std.{specs.{FinMap.{get-empty}, Ordering.{nat_cmp}, Prelude.{is_some}}, proofs.{Common.{◌∙◌, ap, length, subst, sym}, lemmas.Bool.{false≢true}}}
use Rattle.world_spec.{specs.{StageOf.{stage_of}, First.{first_world}}, proofs.First.{first-kept, first-stage}}
use Rattle.perf_world.{specs.Seen.{seen}, proofs.Turning.{stored-after}}
use Rattle.perf_world.{specs.Settling.{AreClear}, proofs.Clear.{clear-first}}
use Rattle.perf_world.proofs.world.World.new.Goals as goal
use Rattle.world_tables.specs.Columns.{no_columns}

pub returns-clause-world : goal.returns-clause-world
returns-clause-world c = (λ i. seen c.args.pmus ((c.in_ok-events.ensures ∙ ap no_columns c.cpus.ensures.number) i) (c.in_ok-contexts.ensures i) (c.in_ok-families.ensures i) (c.in_ok-processors.ensures.idle i) (c.first_tasks.ensures (length c.args.pmus.cpu_pmus) i) (c.in_ok-used.ensures i) (c.in_ok-mapped.ensures i) 1)

pub returns-clause-stage : goal.returns-clause-stage
returns-clause-stage c = ap stage_of (λ i. seen c.args.pmus ((c.in_ok-events.ensures ∙ ap no_columns c.cpus.ensures.number) i) (c.in_ok-contexts.ensures i) (c.in_ok-families.ensures i) (c.in_ok-processors.ensures.idle i) (c.first_tasks.ensures (length c.args.pmus.cpu_pmus) i) (c.in_ok-used.ensures i) (c.in_ok-mapped.ensures i) 1) ∙ first-stage c.args.pmus c.args.tasks.now

pub invariant_of-result : goal.invariant_of-result
invariant_of-result c =
    stored-after _ _ (first_world c.args.pmus c.args.tasks.now) (λ i. seen c.args.pmus ((c.in_ok-events.ensures ∙ ap no_columns c.cpus.ensures.number) i) (c.in_ok-contexts.ensures i) (c.in_ok-families.ensures i) (c.in_ok-processors.ensures.idle i) (c.first_tasks.ensures (length c.args.pmus.cpu_pmus) i) (c.in_ok-used.ensures i) (c.in_ok-mapped.ensures i) 1)
    (first-kept c.args.pmus c.args.tasks.now c.new.ensures.sound)
    (λ k live. absurd (false≢true (sym (ap is_some (get-empty nat_cmp k.0)) ∙ live)))
    (subst AreClear (sym (λ i. seen c.args.pmus ((c.in_ok-events.ensures ∙ ap no_columns c.cpus.ensures.number) i) (c.in_ok-contexts.ensures i) (c.in_ok-families.ensures i) (c.in_ok-processors.ensures.idle i) (c.first_tasks.ensures (length c.args.pmus.cpu_pmus) i) (c.in_ok-used.ensures i) (c.in_ok-mapped.ensures i) 1)) (clear-first c.args.pmus c.args.tasks.now))
