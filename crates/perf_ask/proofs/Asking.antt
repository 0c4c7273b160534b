-- What words ask for.
use Rattle.std.specs.Prelude.{◌≡◌, ℕ, ◌+◌, ◌*◌, ◌<◌, ◌≤◌, List, [], ◌∷◌, codes, decimal, flat_map, length, Ok, Result}
use Rattle.std.{specs.Str.Parse.{ParsesUnsigned}, proofs.{Common.{arith, ap, refl, subst, sym, ◌∙◌}, lemmas.Fmt.{decimal_injective, parse-decimal}}}
use Rattle.std.proofs.lemmas.Option.{same_Some}
use Rattle.script_spec.specs.Forms.{AreBytes, byte_text}
use Rattle.line_forms.{specs.Lists.{bytes_in}, proofs.Sequences.{bytes-again}}
use Rattle.perf_ask.specs.{Asking.{AreKnown, Asks}, declared.asked.Asked.{Asked}}
use Rattle.perf_ask.specs.declared.asked.Asked.TheVariants as asked

-- the parts of words
abbrev pub head_word : List (List ℕ) → List ℕ
head_word [] = []
head_word (w ∷ ws) = w

abbrev pub second_word : List (List ℕ) → List ℕ
second_word [] = []
second_word (w ∷ ws) = head_word ws

abbrev pub third_word : List (List ℕ) → List ℕ
third_word [] = []
third_word (w ∷ ws) = second_word ws

abbrev first_byte : List ℕ → ℕ
first_byte [] = 0
first_byte (b ∷ bs) = b

-- a number of words by which those of the program are told apart: how many there are, and of the first word the length
-- and the first byte
abbrev mark : List (List ℕ) → ℕ
mark words = 100000 * length words + 1000 * length (head_word words) + first_byte (head_word words)

abbrev mark_of : Asked → ℕ
mark_of asked.Replay = 106114
mark_of asked.Run = 103114
mark_of asked.Stat = 104115
mark_of (asked.Make n) = 204109
mark_of (asked.MadeScript n) = 304109
mark_of (asked.Watch w) = 305119
mark_of (asked.Attr bytes) = 204097

marked : (words : List (List ℕ)) (a : Asked) → Asks words a → mark words ≡ mark_of a
marked words asked.Replay h = ap mark h
marked words asked.Run h = ap mark h
marked words asked.Stat h = ap mark h
marked words (asked.Make n) h = ap mark h.1
marked words (asked.MadeScript n) h = ap mark h.1
marked words (asked.Watch w) h = ap mark h.1
marked words (asked.Attr bytes) h = ap mark h.1

same-bytes : (bs cs : List ℕ) → AreBytes bs → AreBytes cs → flat_map byte_text bs ≡ flat_map byte_text cs → bs ≡ cs
same-bytes bs cs b c e = same_Some bs cs (sym (bytes-again bs b) ∙ (ap bytes_in e ∙ bytes-again cs c))

same : (words : List (List ℕ)) (a b : Asked) → Asks words a → Asks words b → mark_of a ≡ mark_of b → a ≡ b
same words asked.Replay asked.Replay h k e = refl
same words asked.Replay b h k e = absurd (omega (arith, e))
same words asked.Run asked.Run h k e = refl
same words asked.Run b h k e = absurd (omega (arith, e))
same words asked.Stat asked.Stat h k e = refl
same words asked.Stat b h k e = absurd (omega (arith, e))
same words (asked.Make m) (asked.Make n) h k e = ap asked.Make (decimal_injective m n (omega (arith, h.0.1)) (omega (arith, k.0.1)) (ap second_word (sym h.1 ∙ k.1)))
same words (asked.Make m) b h k e = absurd (omega (arith, e))
same words (asked.MadeScript m) (asked.MadeScript n) h k e = ap asked.MadeScript (decimal_injective m n (omega (arith, h.0.1)) (omega (arith, k.0.1)) (ap second_word (sym h.1 ∙ k.1)))
same words (asked.MadeScript m) b h k e = absurd (omega (arith, e))
same words (asked.Watch v) (asked.Watch w) h k e =
    let slot : v.0 ≡ w.0 = decimal_injective v.0 w.0 (omega (arith, h.0.0)) (omega (arith, k.0.0)) (ap second_word (sym h.1 ∙ k.1)) in
    let looks : v.1 ≡ w.1 = decimal_injective v.1 w.1 (omega (arith, h.0.2)) (omega (arith, k.0.2)) (ap third_word (sym h.1 ∙ k.1)) in
    λ i. asked.Watch (slot i, looks i)
same words (asked.Watch v) b h k e = absurd (omega (arith, e))
same words (asked.Attr bs) (asked.Attr cs) h k e = ap asked.Attr (same-bytes bs cs h.0 k.0 (ap second_word (sym h.1 ∙ k.1)))
same words (asked.Attr bs) b h k e = absurd (omega (arith, e))

-- words ask for at most one thing
pub one-asked : (words : List (List ℕ)) (a b : Asked) → Asks words a → Asks words b → a ≡ b
one-asked words a b h k = same words a b h k (sym (marked words a h) ∙ marked words b k)

-- so what holds of what they ask holds of what else they ask
pub for-asked : (P : Asked → Type 0) (words : List (List ℕ)) (a b : Asked) → Asks words a → P a → Asks words b → P b
for-asked P words a b h p k = subst P (one-asked words a b h k) p

-- a word that is a small number is read as that number
pub read-number : {E : Type 0} (n : ℕ) (word : List ℕ) (r : Result ℕ E) → n < 4294967296 → word ≡ decimal n → ParsesUnsigned 32 10 word r → r ≡ Ok n
read-number n word r few is parsed = parse-decimal 32 n word r (omega (arith, few)) (omega (arith, few)) is parsed

pub same-number : {E : Type 0} (m n : ℕ) (word : List ℕ) (r : Result ℕ E) → n < 4294967296 → word ≡ decimal n → ParsesUnsigned 32 10 word r → r ≡ Ok m → n ≡ m
same-number m n word r few is parsed e =
    let read : r ≡ Ok n = read-number n word r few is parsed in
    cc

-- `make` and a word that says no rounds, and `attr` and one that spells no bytes
pub none-make : (word : List ℕ) → ((n : ℕ) → 1 ≤ n → n ≤ 1000 → word ≡ decimal n → ⊥) → AreKnown (codes "make" ∷ word ∷ []) → ⊥
none-make word none (asked.Make n, h) = none n h.0.0 h.0.1 (ap second_word h.1)
none-make word none (asked.Replay, h) = let l : 2 ≡ 1 = ap length h in omega (arith, l)
none-make word none (asked.Run, h) = let l : 2 ≡ 1 = ap length h in omega (arith, l)
none-make word none (asked.Stat, h) = let l : 2 ≡ 1 = ap length h in omega (arith, l)
none-make word none (asked.MadeScript n, h) = let l : 2 ≡ 3 = ap length h.1 in omega (arith, l)
none-make word none (asked.Watch w, h) = let l : 2 ≡ 3 = ap length h.1 in omega (arith, l)
none-make word none (asked.Attr bytes, h) = let l : 109 ≡ 97 = ap (λ ws. first_byte (head_word ws)) h.1 in omega (arith, l)

pub none-script : (word : List ℕ) → ((n : ℕ) → 1 ≤ n → n ≤ 1000 → word ≡ decimal n → ⊥) → AreKnown (codes "make" ∷ word ∷ codes "script" ∷ []) → ⊥
none-script word none (asked.MadeScript n, h) = none n h.0.0 h.0.1 (ap second_word h.1)
none-script word none (asked.Replay, h) = let l : 3 ≡ 1 = ap length h in omega (arith, l)
none-script word none (asked.Run, h) = let l : 3 ≡ 1 = ap length h in omega (arith, l)
none-script word none (asked.Stat, h) = let l : 3 ≡ 1 = ap length h in omega (arith, l)
none-script word none (asked.Make n, h) = let l : 3 ≡ 2 = ap length h.1 in omega (arith, l)
none-script word none (asked.Watch w, h) = let l : 109 ≡ 119 = ap (λ ws. first_byte (head_word ws)) h.1 in omega (arith, l)
none-script word none (asked.Attr bytes, h) = let l : 3 ≡ 2 = ap length h.1 in omega (arith, l)
