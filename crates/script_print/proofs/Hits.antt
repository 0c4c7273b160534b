-- The kinds of a work line, one after the other.
use Rattle.std.proofs.Common.{◌≡◌, ℕ, zero, suc, ◌<◌, eqb, List, [], ◌∷◌, ◌++◌, length, get_or, take, drop, map, refl, sym, ap, ◌∙◌, arith, append_assoc}
use Rattle.std.proofs.{lemmas.{Grind.{flat_map-append}, List.{append-nil, get_or-drop}}, Math.Numerals.{one-add}}
use Rattle.std.specs.{Prelude.{codes}, List.{join_with_byte}}
use Rattle.perf_base.specs.declared.lines.KindLine.{KindLine}
use Rattle.script_spec.specs.{Forms.{hit_text}, Printing.{hits_of}}
use Rattle.script_print.{specs.Words.{spaced, hit_piece}, proofs.Loops.{join_spaced, IsTextFrom, behind}}

-- the kinds of a work line, a space before each
abbrev pub hits_text : List KindLine → List ℕ → List ℕ
hits_text kinds ns = spaced (map hit_text (hits_of kinds ns))

hits_cons : (ns : List ℕ) (k : KindLine) (kinds : List KindLine) → hits_text (k ∷ kinds) ns ≡ hit_piece k.name (get_or ns 0 0) ++ hits_text kinds (drop 1 ns)
hits_cons [] k [] = refl
hits_cons [] k (j ∷ kinds) = refl
hits_cons (n ∷ ns) k kinds = grind (arith, eqb)

-- the occurrences behind a kind
abbrev pub behind_kind : List ℕ → KindLine → List ℕ
behind_kind ns k = drop 1 ns

pub hits_each : IsTextFrom behind_kind (λ ns kinds. hits_text kinds ns) (λ ns k. hit_piece k.name (get_or ns 0 0))
hits_each = record { nil = λ ns. refl; cons = hits_cons }

pub hit_at : (kinds : List KindLine) (ns : List ℕ) (i : ℕ) (k : KindLine) → i < length kinds → k ≡ get_or kinds i k → hit_piece k.name (get_or ns i 0) ≡ hit_piece (get_or kinds i k).name (get_or (behind behind_kind ns (take i kinds)) 0 0)
hit_at kinds ns i k l e = rw (sym e, front kinds ns i l) refl
  where
    front : (kinds : List KindLine) (ns : List ℕ) (i : ℕ) → i < length kinds → get_or (behind behind_kind ns (take i kinds)) 0 0 ≡ get_or ns i 0
    front [] ns i l = absurd (omega (arith, l))
    front (k ∷ kinds) ns zero l = refl
    front (k ∷ kinds) ns (suc i) l = front kinds (drop 1 ns) i (omega (arith, l)) ∙ (get_or-drop 1 ns i 0 ∙ ap (λ j. get_or ns j 0) (one-add i))

-- a line with more words behind its first
line_more : (w : List ℕ) (xs ys : List (List ℕ)) → join_with_byte 32 (w ∷ (xs ++ ys)) ++ 10 ∷ [] ≡ (w ++ spaced xs) ++ (spaced ys ++ 10 ∷ [])
line_more w xs ys = rw (join_spaced w (xs ++ ys), flat_map-append (λ v. 32 ∷ v) xs ys) (simp append_assoc)

-- a work line: its first words, its kinds and the end
pub work_line : (long mode : List ℕ) (ip hits : List (List ℕ))
    → join_with_byte 32 (codes "work" ∷ long ∷ mode ∷ (ip ++ hits)) ++ 10 ∷ [] ≡ (codes "work" ++ spaced (long ∷ mode ∷ (ip ++ []))) ++ (spaced hits ++ 10 ∷ [])
work_line long mode ip hits = rw (append-nil ip) (line_more (codes "work") (long ∷ mode ∷ ip) hits)
