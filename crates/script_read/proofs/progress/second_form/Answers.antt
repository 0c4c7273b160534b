use Rattle.script_read.proofs.Beginning.{machine_taken, bare_taken}
use Rattle.script_read.proofs.progress.second_form.Goals as goal

pub returns-in_ok-whole_machine-in-Machine-clause-ok : goal.returns-in_ok-whole_machine-in-Machine-clause-ok
returns-in_ok-whole_machine-in-Machine-clause-ok c = λ v.
    let cpus = rw c.in_ok-cpus-in-Machine.ensures.ok_part at c.cpus.ensures in
    let own = rw c.in_ok-counters-in-Machine.ensures.ok_part at c.counters.ensures in
    let state = c.in_ok-whole_machine-in-Machine.ensures v in
    rw c.in-Machine.is (machine_taken v c.in-Machine.number c.in-Machine.own _ (cpus.0, own.0) (rw (cpus.1, own.1) at state))

pub returns-in_ok-cpus-in-MachineOfPmus-clause-ok : goal.returns-in_ok-cpus-in-MachineOfPmus-clause-ok
returns-in_ok-cpus-in-MachineOfPmus-clause-ok c = λ v.
    let cpus = rw c.in_ok-cpus-in-MachineOfPmus.ensures.ok_part at c.cpus-in-MachineOfPmus.ensures in
    let state = c.bare_machine.ensures v in
    rw c.in-MachineOfPmus.is (bare_taken v c.in-MachineOfPmus.number c.bare_machine.result cpus.0 (rw cpus.1 at state))
