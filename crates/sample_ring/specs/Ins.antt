-- inner
-- What the fields of the end that takes records keep (this project's own profile).
use Rattle.std.specs.Prelude.{◌≡◌, ℕ, ◌-◌, ◌*◌, ◌<◌, ◌≤◌, length}
use mathlib.Core.List.{IsPrefix}
use Rattle.sample_ring.specs.InEnds.{InEnd, IsSoundIn, HasPassing}

pub record HoldsIn (i : InEnd) (capacity place : ℕ) : Type 0 where
  pub sound : IsSoundIn i
  pub fits : i.room ≤ capacity
  pub released : place ≡ 8 * i.consumer.released
  pub few : i.records ≤ length i.words

-- what the calls that take one record or more leave: of the ring's words only those taken and released change
pub record Takes (i j : InEnd) : Type 0 where
  pub ring : j.consumer.ring ≡ i.consumer.ring
  pub room : j.room ≡ i.room
  pub loads : j.consumer.loads ≡ i.consumer.loads
  pub head : j.consumer.last_head ≡ i.consumer.last_head
  pub words : IsPrefix i.words j.words

-- A record that passes the room leaves its first word kept, and the store as it was; it stands before the head.
pub record Keeps (i j : InEnd) : Type 0 where
  pub words : j.words ≡ i.words
  pub records : j.records ≡ i.records
  pub passing : HasPassing j
  pub near : 8 * (i.room - length i.words) < i.consumer.last_head - 8 * length i.words
