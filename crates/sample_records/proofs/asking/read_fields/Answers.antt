use Rattle.std.proofs.Common.{◌≡◌, ◌∙◌, List, ℕ, ap, rules, length}
use Rattle.sample_records.specs.{Fields.{before_cpu_in_body, in_body, bits_in, has_pad}, FieldWords.{body_words}}
use Rattle.sample_records.proofs.Pads.{body_pad, fault_by_pad}
use Rattle.sample_records.proofs.asking.read_fields.Goals as goal

pub returns-in-Sample-clause-fault : goal.returns-in-Sample-clause-fault
returns-in-Sample-clause-fault c =
    let same : c.in-Sample.body ≡ body_words c.args.sample c.take_body.result = search rules in
    let number : length c.in-Sample.body ≡ bits_in c.args.sample in_body = search rules in
    let pad = ap (λ (x : List ℕ). has_pad c.args.sample before_cpu_in_body x) same
    ∙ body_pad c.args.sample c.take_body.result c.take_body.ensures.kept in
    rw c.in-Sample.is (fault_by_pad c.args.sample c.take_body.result.cpu before_cpu_in_body in_body c.in-Sample.body
    c.take_body.result c.fields_of.result number pad c.fields_of.ensures)
