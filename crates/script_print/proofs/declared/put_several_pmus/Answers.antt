use Rattle.std.{proofs.Common.{sym, ap, ◌++◌}, specs.Prelude.{flat_map}}
use Rattle.script_spec.specs.Printing.{line_text, pmu_forms}
use Rattle.script_spec.specs.Forms as form
use Rattle.script_print.proofs.Whole.{head_several}
use Rattle.script_print.proofs.declared.put_several_pmus.Goals as goal
use Rattle.perf_io.proofs.Wrote.{wrote_then, wrote_exit, wrote_text}

pub returns-in_err-put_version-clause-wrote : goal.returns-in_err-put_version-clause-wrote
returns-in_err-put_version-clause-wrote g c =
    wrote_text (sym (head_several c.args.script.now.cpus c.args.script.now.pmus c.requires.several)) (wrote_exit ((line_text (form.MachineOfPmus c.args.script.now.cpus)) ++ (flat_map line_text (pmu_forms 0 c.args.script.now.pmus))) c.from_residual.ensures.0 c.in_err-put_version.ensures.wrote)

pub returns-in_err-put_machine_of_pmus-clause-wrote : goal.returns-in_err-put_machine_of_pmus-clause-wrote
returns-in_err-put_machine_of_pmus-clause-wrote g c =
    wrote_text (sym (head_several c.args.script.now.cpus c.args.script.now.pmus c.requires.several)) (wrote_then c.in_ok-put_version.ensures.wrote (wrote_exit (flat_map line_text (pmu_forms 0 c.args.script.now.pmus)) c.from_residual-in_err-put_machine_of_pmus.ensures.0 (wrote_text (ap (λ n. line_text (form.MachineOfPmus n)) c.cpus.ensures.number) c.in_err-put_machine_of_pmus.ensures.wrote)))

pub returns-clause-wrote : goal.returns-clause-wrote
returns-clause-wrote g c =
    wrote_text (sym (head_several c.args.script.now.cpus c.args.script.now.pmus c.requires.several)) (wrote_then c.in_ok-put_version.ensures.wrote (wrote_then (wrote_text (ap (λ n. line_text (form.MachineOfPmus n)) c.cpus.ensures.number) c.in_ok-put_machine_of_pmus.ensures.wrote) (c.put_pmus.ensures.wrote)))
