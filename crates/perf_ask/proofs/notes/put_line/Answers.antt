use Rattle.perf_ask.proofs.notes.put_line.Goals as goal

pub returns : goal.returns
returns g c = rw (c.as_bytes.ensures.value, c.printed.ensures) at c.put_worded.ensures
