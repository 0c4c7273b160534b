-- Words that may be missing: what is read is what is spelled so, and what is spelled so is read.
use Rattle.std.proofs.Common.{◌≡◌, ℕ, ◌+◌, ◌*◌, ◌^◌, ◌<◌, ◌≤◌, Bool, true, false, ◌&&◌, ◌||◌, eqb, List, [], ◌∷◌, ◌++◌, length, Option, Some, None, inl, inr, refl, sym, ap, subst, ◌∙◌, arith}
use Rattle.std.proofs.lemmas.{Option.{same_Some}, Bool.{cases_Bool, cases_lt, and_parts, agree_below_at, agree_below, ne_eqb, eqb-true}}
use Rattle.std.specs.{Prelude.{codes, IfSome}, List.{join_with_byte}, Str.{bytes_eq}, Fmt.{digits}}
use Rattle.script_spec.specs.Lines.{pieces, put_before}
use Rattle.script_spec.specs.Forms as form
use Rattle.line_forms.specs.Words.{◌>>=◌, pieces_behind, strip, next_of, end_of}
use Rattle.line_forms.specs.Leaves.{number_at, number_if, word_if, bit, flags, flags_in, flags_at, flags_if}
use Rattle.line_forms.proofs.Cuts.{pieces_cut}
use Rattle.line_forms.proofs.Singles.{bind_some, next_takes, end_takes, strip_takes, strip_again, bytes_eq-true, number_at-takes, number_at-again}

-- ---- numbers

-- the next word, if there is one, does not begin so
abbrev pub IsNotKeyed : List ℕ → List (List ℕ) → Type 0
IsNotKeyed key [] = Unit {0}
IsNotKeyed key (w ∷ ws) = strip key w ≡ None

pub number_at-none : (key : List ℕ) (b most : ℕ) (ws : List (List ℕ)) → IsNotKeyed key ws → number_at key b most ws ≡ None
unfolding number_at
number_at-none key b most [] h = refl
number_at-none key b most (w ∷ ws) h = rw h refl

-- words that may be missing, and others behind them, do not begin so
pub not_keyed_if : (key : List ℕ) (o : Option ℕ) (word : ℕ → List ℕ) (rest : List (List ℕ)) → ((n : ℕ) → strip key (word n) ≡ None) → IsNotKeyed key rest → IsNotKeyed key (form.word_if o word ++ rest)
not_keyed_if key None word rest h r = r
not_keyed_if key (Some n) word rest h r = h n

pub number_if-takes : (key : List ℕ) (b most : ℕ) (ws : List (List ℕ)) → 2 ≤ b → b ≤ 16 → most ≤ 64
    → IfSome (number_if key b most ws).0 (λ n. n < b ^ most) × (ws ≡ form.word_if (number_if key b most ws).0 (λ n. key ++ digits b false n) ++ (number_if key b most ws).1)
unfolding number_if
number_if-takes key b most ws low high few = go (number_at key b most ws) refl
  where
    go : (r : Option (ℕ × List (List ℕ))) → number_at key b most ws ≡ r
        → IfSome (elim r as (λ _. Option ℕ × List (List ℕ)) [ Some x ↦ (Some x.0, x.1) | None ↦ (None, ws) ]).0 (λ n. n < b ^ most)
        × (ws ≡ form.word_if (elim r as (λ _. Option ℕ × List (List ℕ)) [ Some x ↦ (Some x.0, x.1) | None ↦ (None, ws) ]).0 (λ n. key ++ digits b false n) ++ (elim r as (λ _. Option ℕ × List (List ℕ)) [ Some x ↦ (Some x.0, x.1) | None ↦ (None, ws) ]).1)
    go (Some x) e = number_at-takes key b most ws x low high few e
    go None e = (tt, refl)

pub number_if-none : (key : List ℕ) (b most : ℕ) (ws : List (List ℕ)) → (number_if key b most ws).0 ≡ None → number_at key b most (number_if key b most ws).1 ≡ None
unfolding number_if
number_if-none key b most ws = go (number_at key b most ws) refl
  where
    go : (r : Option (ℕ × List (List ℕ))) → number_at key b most ws ≡ r
        → (elim r as (λ _. Option ℕ × List (List ℕ)) [ Some x ↦ (Some x.0, x.1) | None ↦ (None, ws) ]).0 ≡ None
        → number_at key b most (elim r as (λ _. Option ℕ × List (List ℕ)) [ Some x ↦ (Some x.0, x.1) | None ↦ (None, ws) ]).1 ≡ None
    go (Some x) e n = absurd cc
    go None e n = e

pub number_if-again : (key : List ℕ) (b most : ℕ) (o : Option ℕ) (rest : List (List ℕ)) → 2 ≤ b → b ≤ 16 → 0 < most → most ≤ 64 → IfSome o (λ n. n < b ^ most) → (o ≡ None → number_at key b most rest ≡ None)
    → number_if key b most (form.word_if o (λ n. key ++ digits b false n) ++ rest) ≡ (o, rest)
unfolding number_if
number_if-again key b most None rest low high some few h none = rw (none refl, number_if) refl
number_if-again key b most (Some n) rest low high some few h none = rw (number_at-again key b most n rest low high some few h, number_if) refl

-- ---- a word

abbrev pub word_where : Bool → List ℕ → List (List ℕ)
word_where true word = word ∷ []
word_where false word = []

pub word_if-takes : (word : List ℕ) (ws : List (List ℕ)) → ws ≡ word_where (word_if word ws).0 word ++ (word_if word ws).1
unfolding word_if
word_if-takes word [] = refl
word_if-takes word (w ∷ ws) = elim (cases_Bool (bytes_eq w word)) [
  | inl t ↦ rw t (ap (λ (y : List ℕ). y ∷ ws) (bytes_eq-true w word t))
  | inr f ↦ rw f refl
]

-- ---- flags

-- the names of the flags that are set
abbrev names : Bool → Bool → Bool → Bool → Bool → Bool → Bool → List (List ℕ)
names a b c d e f g =
    word_where a (codes "disabled") ++ (word_where b (codes "inherit") ++ (word_where c (codes "pinned") ++ (word_where d (codes "exclusive")
    ++ (word_where e (codes "exclude_user") ++ (word_where f (codes "exclude_kernel") ++ (word_where g (codes "sample_id_all") ++ []))))))

abbrev numbered : Bool → Bool → Bool → Bool → Bool → Bool → Bool → ℕ
numbered a b c d e f g = 1 * bit a + (2 * bit b + (4 * bit c + (8 * bit d + (16 * bit e + (32 * bit f + (64 * bit g + 0))))))

-- a test at both values
abbrev at_both : (Bool → Bool) → Bool
at_both test = test true && test false

at_each : (test : Bool → Bool) → at_both test ≡ true → (b : Bool) → test b ≡ true
at_each test h true = (and_parts (test true) (test false) h).0
at_each test h false = (and_parts (test true) (test false) h).1

named_right : Bool → Bool → Bool → Bool → Bool → Bool → Bool → Bool
named_right a b c d e f g = bytes_eq (join_with_byte 44 (names a b c d e f g)) (form.flags_text (numbered a b c d e f g))

all_named_right : at_both (λ a. at_both (λ b. at_both (λ c. at_both (λ d. at_both (λ e. at_both (λ f. at_both (λ g. named_right a b c d e f g))))))) ≡ true
unfolding named_right
all_named_right = refl

all_names : (a b c d e f g : Bool) → join_with_byte 44 (names a b c d e f g) ≡ form.flags_text (numbered a b c d e f g)
unfolding named_right
all_names a b c d e f g =
    let h1 = at_each (λ a. at_both (λ b. at_both (λ c. at_both (λ d. at_both (λ e. at_both (λ f. at_both (λ g. named_right a b c d e f g))))))) all_named_right a in
    let h2 = at_each (λ b. at_both (λ c. at_both (λ d. at_both (λ e. at_both (λ f. at_both (λ g. named_right a b c d e f g)))))) h1 b in
    let h3 = at_each (λ c. at_both (λ d. at_both (λ e. at_both (λ f. at_both (λ g. named_right a b c d e f g))))) h2 c in
    let h4 = at_each (λ d. at_both (λ e. at_both (λ f. at_both (λ g. named_right a b c d e f g)))) h3 d in
    let h5 = at_each (λ e. at_both (λ f. at_both (λ g. named_right a b c d e f g))) h4 e in
    let h6 = at_each (λ f. at_both (λ g. named_right a b c d e f g)) h5 f in
    let h7 = at_each (λ g. named_right a b c d e f g) h6 g in
    bytes_eq-true _ _ h7

join_empty : (c : ℕ) (x : List ℕ) (xs ps : List (List ℕ)) → ps ≡ x ∷ xs → join_with_byte c ([] ∷ ps) ≡ c ∷ join_with_byte c ps
join_empty c x xs ps e = rw e refl

join_longer : (c b : ℕ) (p : List ℕ) (ps : List (List ℕ)) → join_with_byte c ((b ∷ p) ∷ ps) ≡ b ∷ join_with_byte c (p ∷ ps)
join_longer c b p [] = refl
join_longer c b p (q ∷ ps) = refl

join_put : (c b : ℕ) (x : List ℕ) (xs ps : List (List ℕ)) → ps ≡ x ∷ xs → join_with_byte c (put_before false b ps) ≡ b ∷ join_with_byte c ps
join_put c b x xs ps e = rw e (join_longer c b x xs)

-- the pieces of a text, and the bytes between them, are the text
pub join_pieces : (c : ℕ) (text : List ℕ) → join_with_byte c (pieces c text) ≡ text
unfolding pieces
join_pieces c [] = refl
join_pieces c (b ∷ bs) = elim (cases_Bool (eqb b c)) [
  | inl t ↦ grind (arith, eqb-true, t, join_empty, pieces_cut, join_pieces c bs)
  | inr f ↦ rw f (join_put c b _ _ (pieces c bs) (pieces_cut c bs) ∙ ap (λ (t : List ℕ). b ∷ t) (join_pieces c bs))
]

chain : (p w1 w2 w3 w4 w5 w6 w7 a b c d e f g : List (List ℕ)) → p ≡ a ++ w1 → w1 ≡ b ++ w2 → w2 ≡ c ++ w3 → w3 ≡ d ++ w4 → w4 ≡ e ++ w5 → w5 ≡ f ++ w6 → w6 ≡ g ++ w7 → w7 ≡ []
    → p ≡ a ++ (b ++ (c ++ (d ++ (e ++ (f ++ (g ++ []))))))
chain p w1 w2 w3 w4 w5 w6 w7 a b c d e f g h1 h2 h3 h4 h5 h6 h7 h8 = rw (h1, h2, h3, h4, h5, h6, h7, h8) refl

bit_le : (b : Bool) → bit b ≤ 1
bit_le true = omega arith
bit_le false = omega arith

bit_none : (b : Bool) → bit b ≡ 0 → b ≡ false
bit_none true e = absurd (omega (arith, e))
bit_none false e = refl

below_128 : (a b c d e f g : Bool) → numbered a b c d e f g < 2 ^ 7
below_128 a b c d e f g = omega (arith, bit_le a, bit_le b, bit_le c, bit_le d, bit_le e, bit_le f, bit_le g)

none_named : (a b c d e f g : Bool) → numbered a b c d e f g ≡ 0 → names a b c d e f g ≡ []
none_named a b c d e f g h = grind (arith, bit_none)

some_piece : (c : ℕ) (text : List ℕ) → pieces c text ≡ [] → ⊥
some_piece c text e = grind (arith, length, pieces_behind, pieces_cut)

named : (text : List ℕ) (a b c d e f g : Bool) → pieces 44 text ≡ names a b c d e f g → form.AreFlags (numbered a b c d e f g) × (text ≡ form.flags_text (numbered a b c d e f g))
named text a b c d e f g h =
    let some : 0 < numbered a b c d e f g = grind (arith, cases_lt, some_piece, none_named) in
    ((some, below_128 a b c d e f g), sym (join_pieces 44 text) ∙ (ap (join_with_byte 44) h ∙ all_names a b c d e f g))

pub flags_takes : (text : List ℕ) (n : ℕ) → flags text ≡ Some n → form.AreFlags n × (text ≡ form.flags_text n)
unfolding flags flags_in
flags_takes text n h =
    let a = word_if (codes "disabled") (pieces 44 text) in
    let b = word_if (codes "inherit") a.1 in
    let c = word_if (codes "pinned") b.1 in
    let d = word_if (codes "exclusive") c.1 in
    let e = word_if (codes "exclude_user") d.1 in
    let f = word_if (codes "exclude_kernel") e.1 in
    let g = word_if (codes "sample_id_all") f.1 in
    let last = bind_some (end_of g.1) (λ _. Some (numbered a.0 b.0 c.0 d.0 e.0 f.0 g.0)) n h in
    let is : numbered a.0 b.0 c.0 d.0 e.0 f.0 g.0 ≡ n = same_Some _ n last.2 in
    let all : pieces 44 text ≡ names a.0 b.0 c.0 d.0 e.0 f.0 g.0 = chain _ _ _ _ _ _ _ _ _ _ _ _ _ _ _ (word_if-takes (codes "disabled") (pieces 44 text)) (word_if-takes (codes "inherit") a.1) (word_if-takes (codes "pinned") b.1) (word_if-takes (codes "exclusive") c.1) (word_if-takes (codes "exclude_user") d.1) (word_if-takes (codes "exclude_kernel") e.1) (word_if-takes (codes "sample_id_all") f.1) (end_takes g.1 last.0 last.1) in
    subst (λ m. form.AreFlags m × (text ≡ form.flags_text m)) is (named text a.0 b.0 c.0 d.0 e.0 f.0 g.0 all)

-- all flags that there can be are read as they are written
is_some_of : Option ℕ → ℕ → Bool
is_some_of None n = false
is_some_of (Some m) n = eqb m n

reads_back : ℕ → Bool
reads_back n = eqb n 0 || is_some_of (flags (form.flags_text n)) n

all_read_back : agree_below reads_back (λ _. true) 128 ≡ true
unfolding reads_back is_some_of flags flags_in pieces word_if
all_read_back = refl

some_of : (o : Option ℕ) (n : ℕ) → is_some_of o n ≡ true → o ≡ Some n
unfolding is_some_of
some_of None n e = absurd cc
some_of (Some m) n e = ap Some (eqb-true m n e)

pub flags_again : (n : ℕ) → form.AreFlags n → flags (form.flags_text n) ≡ Some n
unfolding reads_back
flags_again n h =
    let t : reads_back n ≡ true = agree_below_at reads_back (λ _. true) 128 n all_read_back (omega (arith, h.1)) in
    let f : eqb n 0 ≡ false = ne_eqb n 0 (λ e. omega (arith, h.0, e)) in
    some_of _ n (sym (ap (λ b. b || is_some_of (flags (form.flags_text n)) n) f) ∙ t)

pub flags_at-takes : (ws : List (List ℕ)) (x : ℕ × List (List ℕ)) → flags_at ws ≡ Some x → form.AreFlags x.0 × (ws ≡ (codes "flags=" ++ form.flags_text x.0) ∷ x.1)
unfolding flags_at
flags_at-takes ws x e =
    let w = bind_some (next_of ws) (λ word. strip (codes "flags=") word.0 >>= λ text. flags text >>= λ n. Some (n, word.1)) x e in
    let t = bind_some (strip (codes "flags=") w.0.0) (λ text. flags text >>= λ n. Some (n, w.0.1)) x w.2 in
    let n = bind_some (flags t.0) (λ n. Some (n, w.0.1)) x t.2 in
    let is : (n.0, w.0.1) ≡ x = same_Some (n.0, w.0.1) x n.2 in
    let num = flags_takes t.0 n.0 n.1 in
    let word : w.0.0 ≡ codes "flags=" ++ form.flags_text n.0 = strip_takes (codes "flags=") w.0.0 t.0 t.1 ∙ ap (λ (y : List ℕ). codes "flags=" ++ y) num.1 in
    let words : ws ≡ (codes "flags=" ++ form.flags_text n.0) ∷ w.0.1 = next_takes ws w.0 w.1 ∙ ap (λ (y : List ℕ). y ∷ w.0.1) word in
    subst (λ (y : ℕ × List (List ℕ)). form.AreFlags y.0 × (ws ≡ (codes "flags=" ++ form.flags_text y.0) ∷ y.1)) {x = (n.0, w.0.1)} is (num.0, words)

flags_at-again : (n : ℕ) (ws : List (List ℕ)) → form.AreFlags n → flags_at ((codes "flags=" ++ form.flags_text n) ∷ ws) ≡ Some (n, ws)
unfolding flags_at
flags_at-again n ws h = rw (strip_again (codes "flags=") (form.flags_text n), flags_again n h) refl

flags_at-none : (ws : List (List ℕ)) → IsNotKeyed (codes "flags=") ws → flags_at ws ≡ None
unfolding flags_at
flags_at-none [] h = refl
flags_at-none (w ∷ ws) h = rw h refl

pub flags_if-takes : (ws : List (List ℕ)) → IfSome (flags_if ws).0 form.AreFlags × (ws ≡ form.word_if (flags_if ws).0 (λ n. codes "flags=" ++ form.flags_text n) ++ (flags_if ws).1)
unfolding flags_if
flags_if-takes ws = go (flags_at ws) refl
  where
    go : (r : Option (ℕ × List (List ℕ))) → flags_at ws ≡ r
        → IfSome (elim r as (λ _. Option ℕ × List (List ℕ)) [ Some x ↦ (Some x.0, x.1) | None ↦ (None, ws) ]).0 form.AreFlags
        × (ws ≡ form.word_if (elim r as (λ _. Option ℕ × List (List ℕ)) [ Some x ↦ (Some x.0, x.1) | None ↦ (None, ws) ]).0 (λ n. codes "flags=" ++ form.flags_text n) ++ (elim r as (λ _. Option ℕ × List (List ℕ)) [ Some x ↦ (Some x.0, x.1) | None ↦ (None, ws) ]).1)
    go (Some x) e = flags_at-takes ws x e
    go None e = (tt, refl)

pub flags_if-again : (o : Option ℕ) (rest : List (List ℕ)) → IfSome o form.AreFlags → IsNotKeyed (codes "flags=") rest
    → flags_if (form.word_if o (λ n. codes "flags=" ++ form.flags_text n) ++ rest) ≡ (o, rest)
unfolding flags_if
flags_if-again None rest h none = rw (flags_at-none rest none, flags_if) refl
flags_if-again (Some n) rest h none = rw (flags_at-again n rest h, flags_if) refl
