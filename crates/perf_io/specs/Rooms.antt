-- inner
-- Bytes that wait in a room before a sink. This project's own profile of buffering.
use Rattle.std.specs.Prelude.{◌≡◌, ℕ, List, ◌++◌, length, take, Option, None, Some}

-- What a room and the sink behind it hold together. The sink shows its bytes or not from the start on; where it did not
-- show them then, nothing is claimed.
abbrev pub with_room : Option (List ℕ) → Option (List ℕ) → List ℕ → Option (List ℕ)
with_room None now room = None
with_room (Some start) None room = None
with_room (Some start) (Some held) room = Some (held ++ room)

-- The front of the bytes, as long as those of the start, where both are shown.
abbrev pub start_of : Option (List ℕ) → Option (List ℕ) → Option (List ℕ)
start_of None now = None
start_of (Some start) None = None
start_of (Some start) (Some held) = Some (take (length start) held)

-- Where bytes were shown at the start, those stand in front now.
abbrev pub Grew : Option (List ℕ) → Option (List ℕ) → Type 0
Grew start now = start_of start now ≡ start
