use Rattle.std.proofs.Common.{◌≡◌, rules}
use Rattle.world_spec.specs.Changes.{all_but}
use Rattle.world_tables.proofs.Retained.{filter-retained}
use Rattle.world_tables.proofs.event.Event.remove_member.Goals as goal

pub returns : goal.returns
returns c =
    let kept : c.retain.new.self.items ≡ all_but c.args.member c.self.inside.members.items =
    filter-retained _ _ _ (λ x b g y k. search rules) _ _ c.retain.ensures.filtered in
    rw (kept, ← c.self.view_is)
