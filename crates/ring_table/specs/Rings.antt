-- inner
-- What a ring that an event is given leaves of a world. After perf_mmap and perf_event_set_output of
-- kernel/events/core.c; the tables are this project's own profile.
use Rattle.std.specs.Prelude.{◌≡◌, ◌≢◌, Bool, List, Option, Some}
use Rattle.perf_base.specs.declared.numbers.{EventNo.{EventNo}, Key.{Key}, RingNo.{RingNo}}
use Rattle.world_spec.specs.Value.{World, Entry, is_live, entry_at, family_of}

-- an entry whose instance has another ring, by a mapping of its own or by another's
abbrev pub with_ring : Option RingNo → Bool → Entry → Entry
with_ring ring owner e = record e { instance = record e.instance { ring = ring; mapped = owner } }

-- The original of an event has the ring, and these rings were mapped then. Keys and all other entries stay, and so does
-- all else.
pub record HasRing (e : EventNo) (ring : Option RingNo) (owner : Bool) (mapped : List RingNo) (w after : World) : Type 0 where
  pub original : Key
  pub named : (family_of w e).original ≡ Some original
  pub world : after ≡ record w { entries = after.entries; quiet = record w.quiet { mapped = mapped } }
  pub keys : (k : Key) → is_live after k ≡ is_live w k
  pub entry : entry_at after original ≡ with_ring ring owner (entry_at w original)
  pub others : (k : Key) → k.0 ≢ original.0 → entry_at after k ≡ entry_at w k
