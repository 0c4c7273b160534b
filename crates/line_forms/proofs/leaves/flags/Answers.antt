use Rattle.std.proofs.Common.{◌∙◌, arith}
use Rattle.perf_base.specs.Flags.{flag_table}
use Rattle.line_forms.{specs.Words.{left}, proofs.Numbers.{flags_most, flag_kept, flags_done, flags_by, then_none, then_some}}
use Rattle.line_forms.proofs.leaves.flags.Goals as goal

pub overflow_add-bits : goal.overflow_add-bits
overflow_add-bits c =
    let kept = flag_kept _ c.table-flag-items.result.now flag_table c.loop-flag.flag-index _ c.as_bytes.result.now (left c.loop-flag.words) (left c.flag_if-bit.result.1) (left c.of-words.result) c.loop-flag.bits c.flag_if-bit.result.0
    c.table-flag-items.ensures c.loop-flag-test.true c.as_bytes.ensures.value c.flag_if-bit.ensures.bit c.loop-flag.invariant.bits c.loop-flag.invariant.words in
    omega (arith, kept.0, flags_most flag_table (left c.of-words.result))

pub loop-flag-preserved : goal.loop-flag-preserved
loop-flag-preserved c =
    let kept = flag_kept _ c.table-flag-items.result.now flag_table c.loop-flag.flag-index _ c.as_bytes.result.now (left c.loop-flag.words) (left c.flag_if-bit.result.1) (left c.of-words.result) c.loop-flag.bits c.flag_if-bit.result.0
    c.table-flag-items.ensures c.loop-flag-test.true c.as_bytes.ensures.value c.flag_if-bit.ensures.bit c.loop-flag.invariant.bits c.loop-flag.invariant.words in
    record { bits = kept.0; words = kept.1 }

pub returns-in_err-end : goal.returns-in_err-end
returns-in_err-end c =
    let all = flags_done _ c.table-flag-items.result.now flag_table c.loop-flag.flag-index (left c.loop-flag.words) (left c.of-words.result) c.loop-flag.bits c.table-flag-items.ensures c.loop-flag-test.false c.loop-flag.invariant.bits c.loop-flag.invariant.words in
    let whole = flags_by c.args.text.now (left c.of-words.result) (left c.loop-flag.words) c.loop-flag.bits c.of-words.ensures all.0 all.1 in
    c.from_residual.ensures ∙ then_none _ _ _ whole c.in_err-end.ensures

pub returns : goal.returns
returns c =
    let all = flags_done _ c.table-flag-items.result.now flag_table c.loop-flag.flag-index (left c.loop-flag.words) (left c.of-words.result) c.loop-flag.bits c.table-flag-items.ensures c.loop-flag-test.false c.loop-flag.invariant.bits c.loop-flag.invariant.words in
    let whole = flags_by c.args.text.now (left c.of-words.result) (left c.loop-flag.words) c.loop-flag.bits c.of-words.ensures all.0 all.1 in
    then_some _ _ _ _ whole c.in_ok-end.ensures
