use Rattle.std.{specs.Prelude.{◌≡◌, List, map}, proofs.Common.{arith, refl, subst, ◌∙◌}}
use Rattle.perf_base.specs.Scripts.{Scripted}
use Rattle.stage_spec.specs.{Stage.{is_open}, Tables.{stage_in}}
use Rattle.stat_table.specs.declared.row.StatRow.{StatRow}
use Rattle.stat_rows.{specs.Rows.{open_below, row_of}, proofs.Filling.{more-rows, slot}}
use Rattle.stat_rows.proofs.rows.fill_rows.Goals as goal

pub loop-slot-preserved : goal.loop-slot-preserved
loop-slot-preserved c =
    let s : Scripted = c.args.script.now in
    let items : List StatRow = c.loop-slot.rows.items in
    record {
      rows = λ acts led. c.add_row.ensures.rows acts led
          ∙ more-rows c.loop-slot.slot s acts (is_open (stage_in s acts) (slot c.loop-slot.slot)) items refl (c.loop-slot.invariant.rows acts led);
      small = c.add_row.ensures.small c.loop-slot.invariant.small;
      filled = omega (arith, c.add_row.ensures.filled, c.loop-slot.invariant.filled);
      room = c.add_row.ensures.capacity ∙ c.loop-slot.invariant.room;
    }

pub returns-clause-rows : goal.returns-clause-rows
returns-clause-rows c = λ acts led.
    let whole : c.loop-slot.slot ≡ 256 = omega (arith, c.loop-slot.auto.slot-end, c.loop-slot-test.false) in
    subst (λ n. c.loop-slot.rows.items ≡ map (row_of c.args.script.now acts) (open_below n c.args.script.now acts)) whole (c.loop-slot.invariant.rows acts led)
