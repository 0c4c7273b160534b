use Rattle.std.proofs.Common.{◌≡◌, ◌<◌, ◌∙◌, List, ap, sym, subst, slice_index_or, slice_set, length}
use Rattle.stage_spec.specs.Stage.{place_of}
use Rattle.world_spec.specs.{Value.{Leaders, no_leaders}, StageOf.{after_first}, Changes.{in_list, all_but}}
use Rattle.world_tables.specs.Columns.{entry_in}
use Rattle.perf_world.{specs.Parts.{behind}, proofs.Tables.{dropped-behind}}
use Rattle.perf_world.proofs.going.disband.Goals as goal

pub returns-clause-contexts : goal.returns-clause-contexts
returns-clause-contexts c =
    let at = c.place_of-at.ensures ∙ ap place_of c.context.ensures in
    let keys : c.as_slice.result.now ≡ after_first (entry_in c.args.events.now c.args.leader).members = c.as_slice.ensures ∙ c.siblings-siblings.ensures in
    let l : Leaders = in_list c.pinned-pinned.result (all_but c.args.leader) (slice_index_or c.args.contexts.now c.place_of-at.result no_leaders) in
    c.free_siblings.ensures.contexts
    ∙ (ap (λ (x : List Leaders). slice_set x c.place_of-at.result (behind c.as_slice.result.now (slice_index_or x c.place_of-at.result no_leaders))) c.remove.ensures
    ∙ (dropped-behind c.args.contexts.now c.place_of-at.result l c.as_slice.result.now (subst (λ n. n < length c.args.contexts.now) (sym at) c.requires.place)
    ∙ (λ i. slice_set c.args.contexts.now (at i) (behind (keys i) (in_list (c.pinned-pinned.ensures i) (all_but c.args.leader) (slice_index_or c.args.contexts.now (at i) no_leaders))))))
