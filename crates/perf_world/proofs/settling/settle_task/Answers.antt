use Rattle.std.proofs.Common.{◌≡◌, ◌++◌, ◌∙◌, arith, List, ap, sym, subst, slice_index_or}
use Rattle.perf_base.specs.declared.numbers.Key.{Key}
use Rattle.perf_base.specs.declared.standing.Context.TheVariants as context
use Rattle.stage_spec.specs.Stage.{place_of}
use Rattle.world_spec.specs.Value.{Leaders, no_leaders, times}
use Rattle.world_tables.specs.Columns.{Columns}
use Rattle.perf_world.{specs.Settling.{list_keys, task_keys, AreLed, HasSettled}, proofs.Turning.{more-settled, both-times}}
use Rattle.perf_world.proofs.settling.settle_task.Goals as goal

pub settle_groups-requires-in-Some-clause-led : goal.settle_groups-requires-in-Some-clause-led
settle_groups-requires-in-Some-clause-led c =
    let t : Columns = c.args.events.now in
    let l : Leaders = slice_index_or c.args.contexts.now (place_of (context.Task c.in-Some.task)) no_leaders in
    let flexible : c.list-in-Some.result.now ≡ l.flexible =
    c.list-in-Some.ensures ∙ ap (λ n. (slice_index_or c.args.contexts.now n no_leaders).flexible) c.place_of-at.ensures in
    subst (λ (x : Columns). AreLed x (list_keys x c.list-in-Some.result.now)) (sym c.settle_groups.ensures.same)
    (λ k some. c.requires.led k (omega (
      arith,
      some,
      ap (λ (keys : List Key). times k (list_keys t keys)) flexible,
      both-times k (list_keys t l.pinned) (list_keys t l.flexible),
      ap (λ o. times k (task_keys t c.args.contexts.now o)) c.in-Some.is,
    )))

pub returns-in-Some : goal.returns-in-Some
returns-in-Some c =
    let t : Columns = c.args.events.now in
    let mid : Columns = c.settle_groups.new.events in
    let l : Leaders = slice_index_or c.args.contexts.now (place_of (context.Task c.in-Some.task)) no_leaders in
    let pinned : c.list.result.now ≡ l.pinned = c.list.ensures ∙ ap (λ n. (slice_index_or c.args.contexts.now n no_leaders).pinned) c.place_of-at.ensures in
    let flexible : c.list-in-Some.result.now ≡ l.flexible =
    c.list-in-Some.ensures ∙ ap (λ n. (slice_index_or c.args.contexts.now n no_leaders).flexible) c.place_of-at.ensures in
    let keys : list_keys t c.list.result.now ++ list_keys mid c.list-in-Some.result.now ≡ task_keys t c.args.contexts.now c.args.task =
    (λ i. list_keys t (pinned i) ++ list_keys (c.settle_groups.ensures.same i) (flexible i)) ∙ ap (task_keys t c.args.contexts.now) (sym c.in-Some.is) in
    subst (λ (ks : List Key). HasSettled ks c.args.processors.now t c.settle_groups-in-Some.new.events) keys
    (more-settled c.args.processors.now (list_keys t c.list.result.now) (list_keys mid c.list-in-Some.result.now) t mid c.settle_groups-in-Some.new.events c.settle_groups.ensures c.settle_groups-in-Some.ensures)
