use Rattle.std.{proofs.Common.{◌≡◌, ◌∙◌, ◌<◌, ◌++◌, [], ◌∷◌, length, ap, sym, subst, is_some}, specs.Option.{unwrap_or}}
use Rattle.world_spec.specs.Value.{Entry, no_entry}
use Rattle.world_tables.specs.{Columns.{Columns, is_there, entry_in, put_entry, put_row}, Rows.{fresh_row, sibling_entry}}
use Rattle.perf_world.proofs.Tables.{apart, row-keeps, noted-member}
use Rattle.perf_world.proofs.coming.join_group.Goals as goal

pub push_member-requires-clause-there : goal.push_member-requires-clause-there
push_member-requires-clause-there c =
    ap (λ (t : Columns). is_there t c.args.leader) c.insert_sibling-key.ensures.added
    ∙ (ap is_some (row-keeps c.args.events.now c.insert_sibling-key.result (fresh_row (sibling_entry c.args.instance c.args.context c.args.leader c.pinned-pinned.result)) c.args.leader (apart c.args.events.now c.args.leader c.insert_sibling-key.result c.requires.there c.insert_sibling-key.ensures.fresh))
    ∙ c.requires.there)

pub push_member-requires-clause-room : goal.push_member-requires-clause-room
push_member-requires-clause-room c =
    let same : entry_in c.insert_sibling-key.new.self c.args.leader ≡ entry_in c.args.events.now c.args.leader =
    ap (λ (t : Columns). entry_in t c.args.leader) c.insert_sibling-key.ensures.added
    ∙ ap (λ o. unwrap_or o no_entry) (row-keeps c.args.events.now c.insert_sibling-key.result (fresh_row (sibling_entry c.args.instance c.args.context c.args.leader c.pinned-pinned.result)) c.args.leader (apart c.args.events.now c.args.leader c.insert_sibling-key.result c.requires.there c.insert_sibling-key.ensures.fresh)) in
    subst (λ (e : Entry). length e.members < 8) (sym same) c.requires.room

pub returns-clause-events : goal.returns-clause-events
returns-clause-events c =
    c.push_member.ensures
    ∙ (ap (λ (t : Columns). put_entry c.args.leader (record (entry_in t c.args.leader) { members = (entry_in t c.args.leader).members ++ c.insert_sibling-key.result ∷ [] }) t) c.insert_sibling-key.ensures.added
    ∙ (noted-member c.args.events.now c.insert_sibling-key.result (fresh_row (sibling_entry c.args.instance c.args.context c.args.leader c.pinned-pinned.result)) c.args.leader (λ e. record e { members = e.members ++ c.insert_sibling-key.result ∷ [] }) c.requires.there c.insert_sibling-key.ensures.fresh
    ∙ ap (λ p. put_row c.insert_sibling-key.result (fresh_row (sibling_entry c.args.instance c.args.context c.args.leader p)) (put_entry c.args.leader (record (entry_in c.args.events.now c.args.leader) { members = (entry_in c.args.events.now c.args.leader).members ++ c.insert_sibling-key.result ∷ [] }) c.args.events.now)) c.pinned-pinned.ensures))
