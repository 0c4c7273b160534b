-- A line of work, in the tables of a world.
use Rattle.std.{specs.Prelude.{◌≡◌, ℕ, ◌==◌, Bool, true, false, ◌&&◌, List, if◌then◌else◌}, proofs.{Common.{arith, refl, sym, ap, ◌∙◌}, Math.Bool.{and-true, and-false}}}
use Rattle.perf_base.specs.declared.{attr.Attr.{Attr}, lines.Work.{Work}, numbers.{CpuNo.{CpuNo}, EventNo.{EventNo}, Key.{Key}, RingNo.{RingNo}}}
use Rattle.perf_base.specs.declared.reply.Sums.{Sums}
use Rattle.perf_base.specs.declared.lines.CpuLine.TheVariants as cpu_line
use Rattle.stage_spec.specs.{declared.instance.TaskStatus.{TaskStatus}, Families.{plus}, Hardware.{Hardware}, Shares.{counted_by, no_sums}}
use Rattle.stage_laws.specs.Bounds.{most_of_line}
use Rattle.world_spec.specs.{Value.{World, Leaders, is_live, instance_at, account_at}, Metering.{IsWorked, HasMeterRoom, work_given, goes_along}}
use Rattle.world_spec.{specs.{Shares.{HaveRoom}, Ways.{Way, is_ready_at, is_on_at, IsTurned}}, proofs.Along.{along-is}}
use Rattle.world_tables.specs.{Columns.{Columns, HasRoomForWork, way_in, given_in}, Meters.{given}, Places.{Slots, Places}}
use Rattle.world_tables.specs.Columns as tables
use Rattle.perf_world.{specs.{Seen.{seen, IsWorld}, Settling.{AreTurned}}, proofs.Kept.{own-count, own-time}}
use Rattle.stage_laws.proofs.BoundsStep.{counted-le}

-- what an account is given by its way is what its instance is given
module _ (work : Work) (cpu : CpuNo) (a : Attr) where
  by-tests : (ready on there ready_at on_at : Bool) (g : Sums) → (ready && there) ≡ ready_at → (on && there) ≡ on_at
      → g.count ≡ (if on_at && goes_along a then counted_by work a a.kind else 0) → g.enabled ≡ (if ready_at then work.length else 0) → g.running ≡ (if on_at then work.length else 0)
      → (if there then given work (record { cpu = cpu; ready = ready; on = on }) a else no_sums) ≡ g
  by-tests ready on true ready_at on_at g r o count enabled running =
      let is_ready : ready ≡ ready_at = sym (and-true ready) ∙ r in
      let is_on : on ≡ on_at = sym (and-true on) ∙ o in
      λ i. record {
        count = (ap (λ b. if b && goes_along a then counted_by work a a.kind else 0) is_on ∙ sym count) i;
        enabled = (ap (λ b. if b then work.length else 0) is_ready ∙ sym enabled) i;
        running = (ap (λ b. if b then work.length else 0) is_on ∙ sym running) i;
      }
  by-tests ready on false ready_at on_at g r o count enabled running =
      let not_ready : ready_at ≡ false = sym r ∙ and-false ready in
      let not_on : on_at ≡ false = sym o ∙ and-false on in
      λ i. record {
        count = sym (count ∙ ap (λ b. if b && goes_along a then counted_by work a a.kind else 0) not_on) i;
        enabled = sym (enabled ∙ ap (λ b. if b then work.length else 0) not_ready) i;
        running = sym (running ∙ ap (λ b. if b then work.length else 0) not_on) i;
      }

module _ (hw : Hardware) (t : Columns) (contexts : List Leaders) (families : Slots) (processors : Places) (tasks : List TaskStatus) (used : List EventNo) (mapped : List RingNo) (next : ℕ) where
  abbrev world : Columns → World
  world x = seen hw x contexts families processors tasks used mapped next

  module _ (cpu : CpuNo) (work : Work) where
    pub room-for : IsWorld (world t) → HaveRoom (world t) (most_of_line (cpu_line.Work work)) → HasMeterRoom (world t) cpu work → HasRoomForWork t cpu work
    room-for h room meter = record {
      clock = meter.clock;
      totals = meter.totals;
      enabled = λ k live here ready. omega (arith, room.times k live, own-time hw (world t) k h live);
      count = λ k live here goes.
          omega (
            arith,
            room.counts k live,
            own-count hw (world t) k h live,
            counted-le work (instance_at (world t) k).attr (instance_at (world t) k).attr.kind,
          );
    }

    given-is : AreTurned t (world t) → (k : Key) → is_live (world t) k ≡ true → given_in t cpu work k ≡ work_given (world t) cpu work k
    given-is turned k live =
        let u : Way = way_in t k in
        let turns : IsTurned (world t) u k = turned k live in
        by-tests work u.cpu (instance_at (world t) k).attr u.ready u.on (u.cpu.0 == cpu.0) (is_ready_at (world t) cpu k) (is_on_at (world t) cpu k) (work_given (world t) cpu work k)
        (turns.ready cpu) (turns.on cpu) (along-is (world t) cpu work k) refl refl

    pub was-worked : (after : Columns) → AreTurned t (world t) → tables.IsWorked t after cpu work → IsWorked (world t) (world after) cpu work
    was-worked after turned h = record {
      accounts = λ k live. h.accounts k live ∙ ap (λ (s : Sums). record (account_at (world t) k) { sums = plus (account_at (world t) k).sums s }) (given-is turned k live);
      keys = h.keys;
      rest = ap world h.rest;
    }
