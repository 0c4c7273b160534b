use Rattle.std.proofs.Common.{◌≡◌}
use Rattle.script_spec.specs.Lines.{lines_of}
use Rattle.script_spec.specs.Texts as text
use Rattle.line_forms.specs.Forms.{version_of}
use Rattle.given_lines.specs.declared.heads.Head.{Head}
use Rattle.given_lines.proofs.Whole.{bare_result, only_head, only_refusal}
use Rattle.given_lines.proofs.heads.read_head.Goals as goal

pub returns-clause-bare : goal.returns-clause-bare
returns-clause-bare c = (bare_result (λ (h : Head). h.script) (λ (h : Head). version_of h.version ≡ text.version_of (lines_of c.args.text.now)) c.args.text.now c.read.result c.read.ensures.ok).1

pub returns-clause-every : goal.returns-clause-every
returns-clause-every c =
    let ok = (bare_result (λ (h : Head). h.script) (λ (h : Head). version_of h.version ≡ text.version_of (lines_of c.args.text.now)) c.args.text.now c.read.result c.read.ensures.ok).0 in
    only_head (λ (h : Head). h.script) c.args.text.now c.read.result ok c.read.ensures.bad

pub returns-clause-refused : goal.returns-clause-refused
returns-clause-refused c =
    let ok = (bare_result (λ (h : Head). h.script) (λ (h : Head). version_of h.version ≡ text.version_of (lines_of c.args.text.now)) c.args.text.now c.read.result c.read.ensures.ok).0 in
    only_refusal (λ (h : Head). h.script) c.args.text.now c.read.result ok c.read.ensures.bad
