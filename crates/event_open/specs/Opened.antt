-- inner
-- What an open that is not refused does to a world. After the system call perf_event_open, perf_install_in_context and
-- perf_group_attach of kernel/events/core.c; the tables are this project's own profile.
use Rattle.std.specs.Prelude.{◌≡◌, false, List, [], Option, Some, None}
use Rattle.perf_base.specs.{declared.{attr.Attr.{Attr}, numbers.{EventNo.{EventNo}, Key.{Key}}}, Contexts.{context_of}}
use Rattle.stage_spec.specs.{declared.instance.Instance.{Instance}, Opening.{group_led, group_with, new_original}, Stage.{Stage, Group, members_of}}
use Rattle.world_spec.specs.{Adding.{Newcomer, add}, Staying.{HasCome}, Value.{World, is_live, entry_at, family_of}}
use Rattle.perf_world.specs.Parts.{newcomer}

-- the original in a leader's slot, where a leader is given
abbrev pub leader_key : World → Option EventNo → Option Key
leader_key w None = None
leader_key w (Some leader) = (family_of w leader).original

-- the new original: it stands in the context that its attribute names, in the group of the leader that is given
abbrev pub opened_as : World → EventNo → Attr → Option EventNo → Newcomer
opened_as w e a leader = newcomer e a (leader_key w leader) None (context_of a)

-- the members of the group that the leader's key leads
abbrev pub keys_led : World → Option Key → List Key
keys_led w None = []
keys_led w (Some first) = (entry_at w first).members

-- the members of the group that is led, where one is, and those of the group with the new event
abbrev pub members_led : Option Group → List Instance
members_led None = []
members_led (Some g) = members_of g

abbrev pub members_with : Stage → EventNo → Attr → Option EventNo → List Instance
members_with s e a leader = members_of (group_with (group_led s leader) (new_original s e a))

-- A newcomer came by a key that named nothing, and all others stayed.
pub record IsOpenedAs (w after : World) (n : Newcomer) : Type 0 where
  pub key : Key
  pub fresh : is_live w key ≡ false
  pub world : after ≡ add key n w
  pub come : HasCome w after key n
