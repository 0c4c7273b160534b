-- What is taken of a line, and how it ends.
use Rattle.std.proofs.Common.{◌≡◌, ℕ, ◌+◌, ◌<◌, ◌≤◌, ⊎_elim, List, [], ◌∷◌, ◌++◌, length, take, Option, arith, sym, ap, subst, ◌∙◌}
use Rattle.std.proofs.lemmas.{List.{length_push, take_all}, List.Elements.{Contains-push_cases}}
use Rattle.perf_io.specs.Outside.{Takes}
use Rattle.line_input.specs.LineEnds.{HasNoLF, HasLine}
use Rattle.line_input.specs.declared.lines.LineEnd.TheVariants as line_end
use Rattle.line_input.proofs.{Taking.{Takes-then}, Fronts.{front_more}}

-- So many bytes were taken, and the line has their front.
pub record HasTaken (before now : Option (List ℕ)) (line : List ℕ) (count : ℕ) (bytes : List ℕ) : Type 0 where
  pub taken : Takes before now bytes
  pub counted : length bytes ≡ count
  pub no_lf : HasNoLF bytes
  pub kept : line ≡ take 65536 bytes

module _ {before now : Option (List ℕ)} {line bytes : List ℕ} {count : ℕ} (t : HasTaken before now line count bytes) where
  -- a byte more
  pub taken_more : (then : Option (List ℕ)) (b : ℕ) (longer : List ℕ) → Takes now then (b ∷ []) → (b ≡ 10 → ⊥) → longer ≡ take 65536 (line ++ b ∷ [])
      → HasTaken before then longer (count + 1) (bytes ++ b ∷ [])
  taken_more then b longer p other is = record {
    taken = Takes-then before now then bytes (b ∷ []) t.taken p;
    counted = length_push bytes b ∙ ap (λ n. n + 1) t.counted;
    no_lf = λ h. ⊎_elim t.no_lf other (Contains-push_cases bytes b 10 h);
    kept = is ∙ (ap (λ l. take 65536 (l ++ b ∷ [])) t.kept ∙ front_more 65536 b bytes);
  }

  -- the LF comes
  pub taken_ended : (then : Option (List ℕ)) → Takes now then (10 ∷ []) → count ≤ 65536 → HasLine before then line line_end.Ended
  taken_ended then p few =
      let whole : line ≡ bytes = t.kept ∙ take_all 65536 bytes (omega (arith, few, t.counted)) in
      subst (λ l. HasLine before then l line_end.Ended) (sym whole) (Takes-then before now then bytes (10 ∷ []) t.taken p, omega (arith, few, t.counted), t.no_lf)

  pub taken_long : (then : Option (List ℕ)) → Takes now then (10 ∷ []) → 65536 < count → HasLine before then line line_end.Long
  taken_long then p many = (bytes, Takes-then before now then bytes (10 ∷ []) t.taken p, omega (arith, many, t.counted), t.no_lf)
