use Rattle.std.proofs.{Common.{◌≡◌, rules}, lemmas.Fn.{filter_same}}
use Rattle.world_spec.specs.Changes.{all_but}
use Rattle.world_tables.proofs.families.SlotRow.remove_copy.Goals as goal

pub returns : goal.returns
returns c =
    let kept : c.retain.new.self.items ≡ all_but c.args.copy c.self.inside.copies.items =
    filter_same _ _ _ (λ x b f' k. search rules) _ _ c.retain.ensures.filtered in
    rw (kept, ← c.self.view_is)
