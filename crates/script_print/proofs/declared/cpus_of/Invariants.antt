use Rattle.script_print.proofs.Masks.{IsGathered}
use Rattle.script_print.proofs.declared.cpus_of.Given as goal

abbrev pub invariant-loop-cpu : goal.invariant-loop-cpu
invariant-loop-cpu l = IsGathered l.script.pmus l.pmu l.cpu l.set.0
