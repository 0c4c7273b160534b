use Rattle.std.proofs.Common.{◌≤◌, ℕ, length, subst, sym, ◌∙◌}
use Rattle.attr_bytes.proofs.Laws.{IsFramed-none}
use Rattle.attr_bytes.proofs.reading.check_frame.Goals as goal

pub returns-clause-fault : goal.returns-clause-fault
returns-clause-fault c =
    let size = c.stated_size-size.ensures in
    IsFramed-none c.args.bytes.now (record {
      least = let P : ℕ → Type 0 = λ n. 64 ≤ n in subst P size c.if-size-lt-FIRST_SIZE.false;
      most = let P : ℕ → Type 0 = λ n. n ≤ 4096 in subst P size c.if-size-gt-LARGEST_SIZE.false;
      whole = let P : ℕ → Type 0 = λ n. n ≤ length c.args.bytes.now in subst P size c.if-bytes-size.false;
      unknown = sym c.has_unknown_part.ensures ∙ c.if-has_unknown_part.false;
    })
