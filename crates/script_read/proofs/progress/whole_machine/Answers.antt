use Rattle.std.proofs.Common.{refl}
use Rattle.script_read.proofs.Beginning.{follows_machine, all_of}
use Rattle.script_read.proofs.progress.whole_machine.Goals as goal

pub add_pmu-requires-clause-line : goal.add_pmu-requires-clause-line
add_pmu-requires-clause-line c = rw (c.new-script.ensures, c.all_cpus.ensures) (record { counters = c.requires.counters; cpus = all_of c.args.cpus c.requires.cpus.0 })

pub returns : goal.returns
returns c = λ v. follows_machine v c.args.cpus c.args.counters _ (rw (c.new-script.ensures, c.all_cpus.ensures) at c.in_ok-add_pmu.ensures.ok) refl refl refl c.all_cpus-2.ensures
