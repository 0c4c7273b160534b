use Rattle.std.proofs.Common.{rules}
use Rattle.std.proofs.Common.{refl}
use Rattle.line_forms.specs.Forms.{opening_of}
use Rattle.script_read.proofs.Made.{kind_by_bytes, opened_by_bytes}
use Rattle.script_read.proofs.lines.open_attr.Goals as goal

pub returns-clause-ok : goal.returns-clause-ok
returns-clause-ok c =
    let place = rw (c.in_ok-place.ensures.ok_part, c.cpus.ensures.number) at c.opening_place.ensures in
    let raw = rw c.in_ok-raw.ensures.ok_part at c.raw_of.ensures in
    let numbered = rw c.in_ok-kind.ensures.ok_part at c.kind_of_raw.ensures in
    let kind = kind_by_bytes c.args.script.now.kinds c.args.bytes.now c.in_ok-raw.raw _ raw.0 numbered in
    (place.0, raw.1, rw (← kind) refl, opened_by_bytes (opening_of c.args.opening.now) c.args.bytes.now c.in_ok-raw.raw c.in_ok-kind.kind _ c.opened.result raw.0 kind (rw place.1 at c.opened.ensures))

pub returns-in_err-raw-clause-bad : goal.returns-in_err-raw-clause-bad
returns-in_err-raw-clause-bad c = search rules
