use Rattle.std.proofs.{Common.{◌∙◌, ap, sym}, lemmas.Option.{none-some}}
use Rattle.attr_bytes.specs.Flags.{flags_of_word}
use Rattle.attr_bytes.proofs.Laws.{IsFramed-none, none-IsFramed, none-AreFieldsRead, StandsFor-IsFramed, stands_from_fields}
use Rattle.attr_bytes.proofs.reading.read_attr.Goals as goal

pub returns-in_err-check_frame-clause-every : goal.returns-in_err-check_frame-clause-every
returns-in_err-check_frame-clause-every c = λ raw stands. absurd (none-some _ (sym (IsFramed-none c.args.bytes.now (StandsFor-IsFramed c.args.bytes.now raw stands)) ∙ c.in_err-check_frame.ensures.fault))

pub returns-clause-ok : goal.returns-clause-ok
returns-clause-ok c =
    stands_from_fields c.args.bytes.now _ (none-IsFramed c.args.bytes.now c.in_ok-check_frame.ensures.fault) (none-AreFieldsRead c.args.bytes.now c.in_ok-check_fields.ensures)
    c.u32_at.ensures c.u64_at.ensures c.u64_at-2.ensures c.u64_at-3.ensures c.u64_at-4.ensures
    (c.flags_of_word.ensures ∙ ap flags_of_word c.u64_at-5.ensures)
