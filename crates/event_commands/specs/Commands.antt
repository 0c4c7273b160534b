-- inner
-- What the commands of a tool leave of a world. After perf_event_enable, perf_event_disable, perf_event_reset,
-- perf_event_period and perf_release of kernel/events/core.c; the tables are this project's own profile.
use Rattle.std.specs.{Prelude.{◌≡◌, ◌≢◌, ◌<◌, ◌↔◌, ℕ, true, List, length, Some, if◌then◌else◌}, FinMap.{contains_key}}
use Rattle.perf_base.specs.{Cpus.{HasCpu}, declared.{numbers.{CpuNo.{CpuNo}, CpuSet.{CpuSet}, EventNo.{EventNo}, Key.{Key}}, standing.Own.{Own}}}
use Rattle.stage_spec.specs.{declared.instance.Instance.{Instance}, Commands.{is_reached}}
use Rattle.stage_laws.specs.Narrowing.{reaches}
use Rattle.world_spec.specs.{StageOf.{stage_of}, Value.{World, Account, is_live, entry_at, instance_at, account_at, family_of}, Changes.{set_period}}

-- The processors that reach an instance of some families: of the machine's processors just these are in a set, and none
-- that it does not have.
pub record AreReached (events : List EventNo) (w : World) (set : CpuSet) : Type 0 where
  pub reaching : (cpu : CpuNo) → cpu.0 < length w.quiet.running → (HasCpu set cpu ↔ (reaches (stage_of w) events cpu ≡ true))
  pub within : (cpu : CpuNo) → HasCpu set cpu → cpu.0 < length w.quiet.running

-- an instance whose own state a command changes where it reaches it
abbrev pub commanded : (Own → Own) → List EventNo → Instance → Instance
commanded f events i = if is_reached events i then record i { own = f i.own } else i

-- Own states of the instances of some families change. All else stays.
pub record HaveStates (f : Own → Own) (events : List EventNo) (w after : World) : Type 0 where
  pub world : after ≡ record w { entries = after.entries }
  pub live : (k : Key) → is_live after k ≡ is_live w k
  pub entries : (k : Key) → entry_at after k ≡ record (entry_at w k) { instance = commanded f events (instance_at w k) }

-- an account whose count is 0, with its times and what is left of its period
abbrev pub from_zero : Account → Account
from_zero a = record a { sums = record a.sums { count = 0 } }

-- The instances of some families count from 0 on. All other accounts stay, and so does all else.
pub record IsReset (events : List EventNo) (w after : World) : Type 0 where
  pub world : after ≡ record w { accounts = after.accounts }
  pub keys : (k : Key) → contains_key after.accounts k.0 ≡ contains_key w.accounts k.0
  pub accounts : (k : Key) → is_live w k ≡ true
      → account_at after k ≡ (if is_reached events (instance_at w k) then from_zero (account_at w k) else account_at w k)

-- The original has a new period, with a whole one left. It has counted what it had, all other accounts stay, and so
-- does all else.
pub record HasPeriod (e : EventNo) (period : ℕ) (w after : World) : Type 0 where
  pub original : Key
  pub named : (family_of w e).original ≡ Some original
  pub world : after ≡ set_period original period w
  pub account : account_at after original ≡ record (account_at w original) { left = period }
  pub accounts : (k : Key) → k.0 ≢ original.0 → account_at after k ≡ account_at w k
