use Rattle.std.proofs.{Common.{◌≤◌, arith, ap, length, sym}, lemmas.List.{length-take-le}}
use Rattle.perf_book.proofs.Ready.{few-readers}
use Rattle.perf_book.proofs.running.Plan.of.Goals as goal

pub slice_bounds-readers-end : goal.slice_bounds-readers-end
slice_bounds-readers-end c = omega (arith, few-readers c.args.script.now c.readers-lines.ensures.sound, ap length c.readers-lines.ensures.readers)

pub slice_bounds-copy_from_slice-end : goal.slice_bounds-copy_from_slice-end
slice_bounds-copy_from_slice-end c =
    let few : length c.readers-lines.result.now ≤ 16 = omega (arith, few-readers c.args.script.now c.readers-lines.ensures.sound, ap length c.readers-lines.ensures.readers) in
    sym (length-take-le (length c.readers-lines.result.now) _ few)

pub copy_from_slice-requires : goal.copy_from_slice-requires
copy_from_slice-requires c =
    let few : length c.readers-lines.result.now ≤ 16 = omega (arith, few-readers c.args.script.now c.readers-lines.ensures.sound, ap length c.readers-lines.ensures.readers) in
    length-take-le (length c.readers-lines.result.now) _ few
