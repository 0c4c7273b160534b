use Rattle.line_forms.specs.Forms.{version_of}
use Rattle.script_read.specs.declared.reading.Counted.{Counted}
use Rattle.script_read.proofs.Whole.{reading_more, line_blamed, finished}
use Rattle.script_read.proofs.reading.read.Goals as goal

pub loop-line-preserved : goal.loop-line-preserved
loop-line-preserved c =
    reading_more c.args.bytes.now (version_of c.version_of-version.result) c.loop-line.progress c.take_line.new.progress c.loop-line.lines c.loop-line.rest.now c.in-Some.line.now c.in-Some.more.now
    c.version_of-version.ensures c.loop-line.invariant c.in-Some.ensures.0 c.in-Ok.ensures.ok

pub returns-in-Err-clause-bad : goal.returns-in-Err-clause-bad
returns-in-Err-clause-bad c =
    rw c.blamed.ensures (line_blamed c.args.bytes.now (version_of c.version_of-version.result) c.loop-line.progress c.loop-line.lines c.loop-line.rest.now c.in-Some.line.now c.in-Some.more.now c.in-Err.fault
    c.version_of-version.ensures c.loop-line.invariant c.in-Some.ensures.0 c.in-Err.ensures.bad)

pub returns-clause-ok : goal.returns-clause-ok
returns-clause-ok c = finished (λ (x : Counted). x.script) (λ x. x.lines) c.args.bytes.now c.loop-line.progress c.loop-line.lines c.loop-line.rest.now c.finish.result c.loop-line.invariant c.in_default.ensures c.finish.ensures.ok
