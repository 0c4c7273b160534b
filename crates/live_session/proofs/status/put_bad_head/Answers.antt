use Rattle.live_session.proofs.status.put_bad_head.Goals as goal

pub returns : goal.returns
returns g c = rw (c.as_bytes.ensures.value, c.printed.ensures) at c.put_worded.ensures
