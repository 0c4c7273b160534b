-- inner
-- Where a ring's tail was seen last, by its account. This project's own profile.
use Rattle.std.specs.Prelude.{◌≡◌, ℕ, List}
use Rattle.perf_base.specs.{declared.{numbers.RingNo.{RingNo}, acts.Act.{Act}}, Scripts.{Scripted}}
use Rattle.stage_spec.specs.Order.{last_seen}
use Rattle.ring_spec.specs.Rings.{account_in}

-- A ring's account over an order has as its tail the place at which the order's last look saw it.
abbrev pub TailLaw : Type 0
TailLaw = (s : Scripted) (order : List Act) (ring : RingNo) (bytes : ℕ) → (account_in s order (ring, bytes)).tail ≡ last_seen ring order
