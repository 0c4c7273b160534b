use Rattle.std.proofs.Common.{arith, ◌≡◌, List, length, ap, take}
use Rattle.perf_base.specs.declared.numbers.Key.{Key}
use Rattle.world_spec.specs.Value.{family_of}
use Rattle.event_commands.proofs.InTurn.{changed-none, copies-told, copy-live, next-copy, all-copies}
use Rattle.event_commands.proofs.changing.change_copies.Goals as goal

pub loop-place-init : goal.loop-place-init
loop-place-init c = changed-none c.args.command c.args.world.now

pub bounds-copies_of-place : goal.bounds-copies_of-place
bounds-copies_of-place c =
    let copies : List Key = (family_of c.args.world.now c.args.event).copies in
    omega (
      arith,
      c.loop-place-test.true,
      ap length c.copies_of-place-end.ensures.copies,
      ap length (copies-told c.args.command (take c.loop-place.place copies) c.args.world.now c.loop-place.world c.args.event c.copies_of.result.now c.loop-place.invariant c.copies_of.ensures.copies),
    )

pub change-requires : goal.change-requires
change-requires c =
    let copies : List Key = (family_of c.args.world.now c.args.event).copies in
    let told : c.copies_of.result.now ≡ copies =
    copies-told c.args.command (take c.loop-place.place copies) c.args.world.now c.loop-place.world c.args.event c.copies_of.result.now c.loop-place.invariant c.copies_of.ensures.copies in
    copy-live c.loop-place.world.hardware c.loop-place.world c.args.event c.copies_of.result.now c.loop-place.place (record { 0 = 0 }) c.copies_of.ensures.kept c.copies_of.ensures.copies
    (omega (arith, c.loop-place-test.true, ap length c.copies_of-place-end.ensures.copies, ap length told))

pub loop-place-preserved : goal.loop-place-preserved
loop-place-preserved c =
    let copies : List Key = (family_of c.args.world.now c.args.event).copies in
    let told : c.copies_of.result.now ≡ copies =
    copies-told c.args.command (take c.loop-place.place copies) c.args.world.now c.loop-place.world c.args.event c.copies_of.result.now c.loop-place.invariant c.copies_of.ensures.copies in
    next-copy c.args.command c.args.world.now c.loop-place.world c.change.new.world copies c.copies_of.result.now c.loop-place.place (record { 0 = 0 }) c.loop-place.invariant told
    (omega (arith, c.loop-place-test.true, ap length c.copies_of-place-end.ensures.copies)) c.change.ensures

pub returns : goal.returns
returns c =
    all-copies c.args.command c.args.world.now c.loop-place.world (family_of c.args.world.now c.args.event).copies c.loop-place.place c.loop-place.invariant
    (omega (arith, c.loop-place-test.false, ap length c.copies_of-place-end.ensures.copies))
