-- inner
-- Room for one line more, whatever it is, within the limits on lines. This project's own profile.
use Rattle.std.specs.Prelude.{ℕ, ◌+◌, ◌^◌, ◌<◌, List, length, slice_index_or}
use Rattle.perf_base.specs.{Scripts.{IsToolLine}, declared.{lines.ToolLine.{ToolLine}, numbers.{CpuNo.{CpuNo}, RingNo.{RingNo}}, reply.Sums.{Sums}}}
use Rattle.world_spec.specs.{Shares.{HaveRoom}, Value.{World, totals_at}}
use Rattle.machine.specs.Totals.{AreUpTo}

-- the most that a line adds to an event and its copies
abbrev pub most_of_any : Sums
most_of_any = record { count = 1000000000; enabled = 1000000000; running = 1000000000 }

-- Sums and clocks have room for a thousand million, no total is above half of its bound, and ids have room for the
-- copies that one fork may make.
pub record HasRoom (w : World) : Type 0 where
  pub sums : HaveRoom w most_of_any
  pub clocks : (cpu : CpuNo) → slice_index_or w.quiet.clocks cpu.0 0 + 1000000000 < 2 ^ 63
  pub totals : (cpu : CpuNo) → AreUpTo (2 ^ 62) (totals_at w cpu)
  pub ids : w.quiet.next_id + 4097 < 2 ^ 63

-- A line of a tool whose numbers are in their ranges, and whose processor and kind the machine has. Which rings it may
-- name, a script says.
abbrev pub IsLineFor : World → ToolLine → Type 0
IsLineFor w line = (rings : List (RingNo × ℕ)) × IsToolLine (length w.quiet.running) (length w.hardware.kind_pmus) rings line
