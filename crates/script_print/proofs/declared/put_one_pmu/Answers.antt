use Rattle.std.{proofs.Common.{sym, ap, drop}, specs.Prelude.{flat_map}}
use Rattle.script_spec.specs.Printing.{line_text, head_forms}
use Rattle.script_spec.specs.Forms as form
use Rattle.script_print.proofs.Whole.{head_one, head_one_front}
use Rattle.script_print.proofs.declared.put_one_pmu.Goals as goal
use Rattle.perf_io.proofs.Wrote.{wrote_then, wrote_exit, wrote_text}

pub returns-in_err-put_version-clause-wrote : goal.returns-in_err-put_version-clause-wrote
returns-in_err-put_version-clause-wrote g c =
    wrote_text (sym (head_one_front c.args.script.now.cpus c.args.script.now.pmus c.requires))
    (wrote_exit (flat_map line_text (drop 1 (head_forms c.args.script.now.cpus c.args.script.now.pmus))) c.from_residual.ensures.0 c.in_err-put_version.ensures.wrote)

pub returns-clause-wrote : goal.returns-clause-wrote
returns-clause-wrote g c =
    wrote_text (sym (head_one c.args.script.now.cpus c.counters.result c.args.script.now.pmus c.requires c.counters.ensures.number)) (wrote_then c.in_ok-put_version.ensures.wrote ((wrote_text (ap (λ n. line_text (form.Machine n c.counters.result)) c.cpus.ensures.number) c.put_machine.ensures.wrote)))
