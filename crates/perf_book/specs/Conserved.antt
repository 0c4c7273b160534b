-- inner
-- No record is lost unseen. perf_event_open(2) and kernel/events/ring_buffer.c: a record that finds no room is counted,
-- and a LOST record states the count later.
use Rattle.std.specs.Prelude.{◌≡◌, ℕ, ◌+◌, List, count_by, length, sum_by}
use Rattle.perf_base.specs.{declared.{acts.Act.{Act}, numbers.RingNo.{RingNo}}, Scripts.{Scripted}}
use Rattle.ring_spec.specs.{Account.{is_sample, losses_in}, Rings.{account_in, is_to}, Sending.{sent_by_steps}}
use Rattle.stage_spec.specs.{Hardware.{hardware_of}, History.{history, opening_stage}}

-- Over an order of a script as many records are sent to a ring as samples are written on it and records lost; and of
-- those lost as many are stated by LOST records or pending.
pub record IsConserved (s : Scripted) (order : List Act) (ring : RingNo × ℕ) : Type 0 where
  pub sent : count_by (is_to ring.0) (sent_by_steps (hardware_of s) (opening_stage s) (history s order))
      ≡ count_by is_sample (account_in s order ring).written + length (account_in s order ring).lost
  pub told : length (account_in s order ring).lost ≡ sum_by losses_in (account_in s order ring).written + (account_in s order ring).pending

-- It holds of every script, order and ring.
abbrev pub ConservedLaw : Type 0
ConservedLaw = (s : Scripted) (order : List Act) (ring : RingNo × ℕ) → IsConserved s order ring
