-- inner
-- How instances come and go in a world. After perf_install_in_context, perf_group_attach, perf_group_detach and
-- inherit_event of kernel/events/core.c; the tables are this project's own profile.
use Rattle.std.specs.Prelude.{◌+◌, Bool, true, false, [], ◌∷◌, ◌++◌, Option, Some, None, slice_index_or, slice_set, if◌then◌else◌}
use Rattle.std.specs.{FinMap.{FinMap, insert, remove}, List.{fold}, Ordering.{nat_cmp}}
use Rattle.perf_base.specs.declared.{attr.Attr.{Attr}, numbers.{EventNo.{EventNo}, Key.{Key}}, standing.Context.{Context}}
use Rattle.perf_base.specs.declared.standing.Standing.TheVariants as standing
use Rattle.stage_spec.specs.{declared.instance.Instance.{Instance}, Families.{plus}, Flags.{is_pinned}, Opening.{first_state}, Shares.{no_sums}}
use Rattle.world_spec.specs.{Value.{World, Entry, Family, entry_at, instance_at, account_at, family_of, is_key}, StageOf.{after_first}}
use Rattle.world_spec.specs.Changes.{all_but, in_list, with_leaders}

-- what a new instance is, whether it is a copy and where it is to stand
pub record Newcomer : Type 0 where
  pub event : EventNo
  pub attr : Attr
  pub copy : Bool
  pub context : Context
  pub leader : Option Key

-- the instance that it becomes; it draws the next id
abbrev pub new_instance : World → Newcomer → Instance
new_instance w n = record { event = n.event; copy = n.copy; id = w.quiet.next_id; attr = n.attr; own = first_state n.attr; ring = None; mapped = false }

-- its entry: of a group of its own, or of its leader's group
abbrev pub new_entry : World → Key → Newcomer → Option Key → Entry
new_entry w k n None = record { instance = new_instance w n; context = n.context; leader = k; members = k ∷ []; pinned = is_pinned n.attr }
new_entry w k n (Some leader) = record { instance = new_instance w n; context = n.context; leader = leader; members = []; pinned = (entry_at w leader).pinned }

-- it is the original in its slot, or the last of the copies
abbrev pub in_family : Bool → Key → Family → Family
in_family false k f = record f { original = Some k }
in_family true k f = record f { copies = f.copies ++ k ∷ [] }

-- a group of its own goes last in its list, and a sibling goes last in its group
abbrev pub join : Key → Newcomer → Option Key → World → World
join k n None w = with_leaders n.context (in_list (is_pinned n.attr) (λ keys. keys ++ k ∷ [])) w
join k n (Some leader) w = record w {
  entries = insert w.entries leader.0 (record (entry_at w leader) { members = (entry_at w leader).members ++ k ∷ [] });
}

abbrev pub settled_in : Key → Entry → World → World
settled_in k e w = record w {
  entries = insert w.entries k.0 e;
  accounts = insert w.accounts k.0 (record { sums = no_sums; left = e.instance.attr.period });
  standings = insert w.standings k.0 standing.Out;
  families = slice_set w.families e.instance.event.0 (in_family e.instance.copy k (family_of w e.instance.event));
}

-- An instance comes by a key that names none. It has counted nothing and stands Out. An original uses up its slot.
abbrev pub drawn : Newcomer → World → World
drawn n w = record w {
  quiet = record w.quiet {
    used = if n.copy then w.quiet.used else w.quiet.used ++ n.event ∷ [];
    next_id = w.quiet.next_id + 1;
  };
}

abbrev pub add : Key → Newcomer → World → World
add k n w = drawn n (settled_in k (new_entry w k n n.leader) (join k n n.leader w))

-- A sibling whose leader goes leads a group of its own, Out and among the flexible ones.
abbrev pub free_entry : FinMap nat_cmp Entry → Key → Entry → FinMap nat_cmp Entry
free_entry entries k e = insert entries k.0 (record e { leader = k; members = k ∷ []; pinned = false })

abbrev pub freed : World → Key → World
freed w k = record w { entries = free_entry w.entries k (entry_at w k); standings = insert w.standings k.0 standing.Out }

-- the group of a leader that goes, and the group of a sibling that goes
abbrev pub leave_group : Key → Bool → World → World
leave_group k true w = with_leaders (entry_at w k).context
    (λ l. record (in_list (entry_at w k).pinned (all_but k) l) {
      flexible = (in_list (entry_at w k).pinned (all_but k) l).flexible ++ after_first (entry_at w k).members;
    })
    (fold freed w (after_first (entry_at w k).members))
leave_group k false w = record w {
  entries = insert w.entries (entry_at w k).leader.0 (record (entry_at w (entry_at w k).leader) { members = all_but k (entry_at w (entry_at w k).leader).members });
}

abbrev pub out_of_family : Bool → Key → Family → Family
out_of_family false k f = record f { original = None }
out_of_family true k f = record f { copies = all_but k f.copies }

abbrev pub taken_out : Key → Instance → World → World
taken_out k i w = record w {
  entries = remove w.entries k.0;
  accounts = remove w.accounts k.0;
  standings = remove w.standings k.0;
  families = slice_set w.families i.event.0 (out_of_family i.copy k (family_of w i.event));
}

-- An instance goes. What it has counted is added to the folded sums of its event where it is folded.
abbrev pub drop_instance : Key → World → World
drop_instance k w = taken_out k (instance_at w k) (leave_group k (is_key k (entry_at w k).leader) w)

abbrev pub fold_sums : Key → World → World
fold_sums k w = record w {
  folded = slice_set w.folded (instance_at w k).event.0 (plus (slice_index_or w.folded (instance_at w k).event.0 no_sums) (account_at w k).sums);
}

abbrev pub folded_away : Key → World → World
folded_away k w = drop_instance k (fold_sums k w)
