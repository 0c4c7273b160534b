use Rattle.std.proofs.Common.{◌≡◌, ◌∙◌, sym, length, arith}
use Rattle.sample_records.proofs.{Joining.{next_part, last_part}, Pads.{body_from_first}}
use Rattle.sample_records.proofs.asking.take_body.Goals as goal

pub returns-clause-words : goal.returns-clause-words
returns-clause-words c =
    let none : length c.take_field-period.result.1.now ≡ 0 =
    omega (
      arith,
      c.requires,
      c.take_field-identifier.ensures.rest,
      c.take_field-ip.ensures.rest,
      c.take_field-thread.ensures.rest,
      c.take_field-time.ensures.rest,
      c.take_field-id.ensures.rest,
      c.take_field-stream_id.ensures.rest,
      c.take_field-cpu.ensures.rest,
      c.take_field-period.ensures.rest,
    ) in
    next_part _ _ _ _ c.take_field-identifier.ensures.split
    (next_part _ _ _ _ c.take_field-ip.ensures.split
    (next_part _ _ _ _ c.take_field-thread.ensures.split
    (next_part _ _ _ _ c.take_field-time.ensures.split
    (next_part _ _ _ _ c.take_field-id.ensures.split
    (next_part _ _ _ _ c.take_field-stream_id.ensures.split
    (next_part _ _ _ _ c.take_field-cpu.ensures.split
    (last_part _ _ _ c.take_field-period.ensures.split none)))))))
    ∙ sym (body_from_first c.args.sample _)
