-- Names of flags, parted by commas.
use Rattle.std.proofs.Common.{◌≡◌, ◌≢◌, ℕ, ◌+◌, ◌<◌, Bool, true, false, cond, eqb, List, [], ◌∷◌, ◌++◌, get_or, take, map, filter, inl, inr, refl, ap, ◌∙◌, add-one}
use Rattle.std.{proofs.lemmas.{Bool.{cases_Bool, eq-eqb, ne_eqb}, List.{append-nil}}, specs.{Int.{bit_at}, List.{join_with_byte}}}
use Rattle.script_spec.specs.Forms.{flag_name, flags_text}
use Rattle.script_print.proofs.{Lists.{number_at}, Loops.{IsTextFrom, behind, behind_more}}

-- the seven flags
abbrev pub all_flags : List ℕ
all_flags = 0 ∷ 1 ∷ 2 ∷ 3 ∷ 4 ∷ 5 ∷ 6 ∷ []

abbrev pub is_set : ℕ → ℕ → Bool
is_set flags n = eqb (bit_at flags n) 1

-- a comma behind some name
abbrev pub comma : Bool → List ℕ
comma some = cond some (44 ∷ []) []

-- whether there is some name behind a flag
abbrev pub some_name : ℕ → Bool → ℕ → Bool
some_name flags some n = cond (is_set flags n) true some

-- what a flag writes
abbrev pub name_piece : ℕ → Bool → ℕ → List ℕ
name_piece flags some n = cond (is_set flags n) (comma some ++ flag_name n) []

-- what flags write
unfoldable pub names_text : ℕ → Bool → List ℕ → List ℕ
names_text flags some [] = []
names_text flags some (n ∷ ns) = name_piece flags some n ++ names_text flags (some_name flags some n) ns

pub names_each : (flags : ℕ) → IsTextFrom (some_name flags) (names_text flags) (name_piece flags)
unfolding names_text
names_each flags = record { nil = λ some. refl; cons = λ some n ns. refl }

-- names with commas between them, and before the first if there is some name before it
abbrev commas : Bool → List (List ℕ) → List ℕ
commas false ws = join_with_byte 44 ws
commas true [] = []
commas true (w ∷ ws) = 44 ∷ join_with_byte 44 (w ∷ ws)

commas_cons : (some : Bool) (w : List ℕ) (ws : List (List ℕ)) → (comma some ++ w) ++ commas true ws ≡ commas some (w ∷ ws)
commas_cons true w [] = append-nil (44 ∷ w)
commas_cons false w [] = append-nil w
commas_cons true w (v ∷ ws) = refl
commas_cons false w (v ∷ ws) = refl

names_are : (flags : ℕ) (some : Bool) (ns : List ℕ) → names_text flags some ns ≡ commas some (map flag_name (filter (is_set flags) ns))
unfolding names_text
names_are flags true [] = refl
names_are flags false [] = refl
names_are flags some (n ∷ ns) = elim (cases_Bool (is_set flags n)) [
  | inl t ↦ rw (t, names_are flags true ns) (commas_cons some (flag_name n) (map flag_name (filter (is_set flags) ns)))
  | inr f ↦ rw f (names_are flags some ns)
]

-- the names of all flags that are set
pub all_names : (flags : ℕ) → names_text flags false all_flags ≡ flags_text flags
all_names flags = names_are flags false all_flags

-- ---- the flag at a place

piece_at : (flags : ℕ) (some : Bool) (i : ℕ) → i < 7 → name_piece flags some (get_or all_flags i i) ≡ name_piece flags some i
piece_at flags some i l = ap (name_piece flags some) (number_at 7 i i l)

some_at : (flags i : ℕ) → i < 7 → behind (some_name flags) false (take (i + 1) all_flags) ≡ some_name flags (behind (some_name flags) false (take i all_flags)) i
some_at flags i l = rw add-one (behind_more (some_name flags) false all_flags i i l ∙ ap (some_name flags (behind (some_name flags) false (take i all_flags))) (number_at 7 i i l))

-- a flag that is set
pub piece_set : (flags : ℕ) (some : Bool) (i : ℕ) (before name : List ℕ) → i < 7 → bit_at flags i ≡ 1 → before ≡ comma some → name ≡ flag_name i → before ++ name ≡ name_piece flags some (get_or all_flags i i)
piece_set flags some i before name l b p q = let t : is_set flags i ≡ true = eq-eqb _ _ b in rw (piece_at flags some i l, t, p, q) refl

pub some_set : (flags i : ℕ) → i < 7 → bit_at flags i ≡ 1 → behind (some_name flags) false (take (i + 1) all_flags) ≡ true
some_set flags i l b = let t : is_set flags i ≡ true = eq-eqb _ _ b in rw (some_at flags i l, t) refl

pub piece_unset : (flags : ℕ) (some : Bool) (i : ℕ) → i < 7 → bit_at flags i ≢ 1 → [] ≡ name_piece flags some (get_or all_flags i i)
piece_unset flags some i l b = let f : is_set flags i ≡ false = ne_eqb _ _ b in rw (piece_at flags some i l, f) refl

pub some_unset : (flags i : ℕ) → i < 7 → bit_at flags i ≢ 1 → behind (some_name flags) false (take (i + 1) all_flags) ≡ behind (some_name flags) false (take i all_flags)
some_unset flags i l b = let f : is_set flags i ≡ false = ne_eqb _ _ b in rw (some_at flags i l, f) refl
