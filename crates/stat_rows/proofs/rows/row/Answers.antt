use Rattle.std.proofs.Common.{rules}
use Rattle.std.{specs.Prelude.{◌<◌, ◌^◌}, proofs.Common.{subst, sym}}
use Rattle.perf_base.specs.declared.reply.Sums.{Sums}
use Rattle.ring_laws.proofs.Small.{sums_of_script}
use Rattle.stat_rows.proofs.rows.row.Goals as goal

pub returns-clause-small : goal.returns-clause-small
returns-clause-small c =
    let led = c.requires.script in
    subst (λ (sums : Sums). sums.running < 2 ^ 44) (sym (c.requires.sums c.args.script.now led.0 led.1))
    (sums_of_script c.args.script.now led.0 c.args.event c.use_invariant.ensures c.requires.covered).running

pub returns-clause-row : goal.returns-clause-row
returns-clause-row c = search rules
