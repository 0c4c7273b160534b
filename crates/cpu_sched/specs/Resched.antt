-- inner
-- What rescheduling a processor leaves as it was. After ctx_resched of kernel/events/core.c.
use Rattle.std.specs.Prelude.{◌≡◌, ◌≢◌, false}
use Rattle.perf_base.specs.declared.numbers.{CpuNo.{CpuNo}, Key.{Key}}
use Rattle.stage_laws.specs.Narrowing.{has_context}
use Rattle.world_spec.specs.{StageOf.{stage_of}, Value.{World, is_live, entry_at, instance_at, standing_at, seats_at}}

-- Own states and standings in the processor's two contexts may change, and its seats. All else stays.
pub record StaysBut (cpu : CpuNo) (w after : World) : Type 0 where
  pub world : after ≡ record w { entries = after.entries; standings = after.standings; quiet = record w.quiet { seats = after.quiet.seats } }
  pub live : (k : Key) → is_live after k ≡ is_live w k
  pub entries : (k : Key) → entry_at after k ≡ record (entry_at w k) { instance = record (instance_at w k) { own = (instance_at after k).own } }
  pub own : (k : Key) → has_context (stage_of w) cpu (entry_at w k).context ≡ false → (instance_at after k).own ≡ (instance_at w k).own
  pub standings : (k : Key) → has_context (stage_of w) cpu (entry_at w k).context ≡ false → standing_at after k ≡ standing_at w k
  pub seats : (other : CpuNo) → other.0 ≢ cpu.0 → seats_at after other ≡ seats_at w other
