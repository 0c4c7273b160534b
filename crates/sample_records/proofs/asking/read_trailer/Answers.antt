use Rattle.std.proofs.Common.{◌≡◌, ◌∙◌, List, ℕ, ap, rules, length}
use Rattle.sample_records.specs.{Fields.{before_cpu_in_trailer, in_trailer, bits_in, has_pad}, FieldWords.{trailer_words}}
use Rattle.sample_records.proofs.Pads.{trailer_pad, fault_by_pad}
use Rattle.sample_records.proofs.asking.read_trailer.Goals as goal

pub returns-in-Lost-clause-fault : goal.returns-in-Lost-clause-fault
returns-in-Lost-clause-fault c =
    let same : c.in-Lost.trailer ≡ trailer_words c.args.sample c.take_trailer.result = search rules in
    let number : length c.in-Lost.trailer ≡ bits_in c.args.sample in_trailer = search rules in
    let pad = ap (λ (x : List ℕ). has_pad c.args.sample before_cpu_in_trailer x) same
    ∙ trailer_pad c.args.sample c.take_trailer.result c.take_trailer.ensures.kept in
    rw c.in-Lost.is (fault_by_pad c.args.sample c.take_trailer.result.cpu before_cpu_in_trailer in_trailer c.in-Lost.trailer
    c.take_trailer.result c.fields_of.result number pad c.fields_of.ensures)
