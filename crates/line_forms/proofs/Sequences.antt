-- Occurrences, acts and bytes: what is read is what is spelled so, and what is spelled so is read.
use Rattle.std.proofs.Common.{◌≡◌, ℕ, ◌*◌, ◌/◌, ◌%◌, ◌<◌, ◌≤◌, true, false, ◌&&◌, eqb, leb, ltb, List, [], ◌∷◌, ◌++◌, map, take, length, All, Option, Some, None, option_map, inl, inr, refl, sym, ap, subst, ◌∙◌, arith, append_assoc}
use Rattle.std.proofs.lemmas.Option.{same_Some, none-some}
use Rattle.std.proofs.lemmas.Bool.{cases_Bool, eqb-true, ltb-true, leb-true, lt-ltb, le-leb, eq-eqb, ne_eqb, and_parts, and_from}
use Rattle.std.proofs.{lemmas.{Nat.{div-mul-add, mod-mul-add, div-add-mod'}, List.Elements.{All-cons, All-head, All-tail}}, Math.Nat.{mod-eq_of_lt}}
use Rattle.std.specs.{Prelude.{decimal, IfSome}, List.{list_all, flat_map}, Fmt.{digit_glyph}}
use Rattle.perf_base.specs.{Scripts.{IsNameByte, IsName}, declared.acts.Act.{Act}}
use Rattle.perf_base.specs.declared.acts.Act.TheVariants as act
use Rattle.script_spec.specs.Acts.{act_text}
use Rattle.script_spec.specs.Forms as form
use Rattle.line_forms.specs.{Words.{◌>>=◌, cut}, Leaves.{digit_of, number, name}, Lists.{each_word, hit_in, is_bytes, pair_of, pairs_in, bytes_in}}
use Rattle.line_forms.{specs.Acts.{seen_in, act_in, processor_in, tool_in}, proofs.Cuts.{cut_here, cut_later, cut_nothing}}
use Rattle.line_forms.proofs.Spelling.{guard_some, number_takes, number_again, decimal_below, digit_of-glyph, glyph-digit_of}
use Rattle.line_forms.proofs.Singles.{bind_some, name_takes, name_again}
use Rattle.perf_base.proofs.Kept.{All-none}

-- ---- each word of a list

pub each-takes : {A : Type 0} (f : List ℕ → Option A) (P : A → Type 0) (spelled : A → List ℕ)
    → ((w : List ℕ) (a : A) → f w ≡ Some a → P a × (w ≡ spelled a))
    → (ws : List (List ℕ)) (xs : List A) → each_word f ws ≡ Some xs → All P xs × (ws ≡ map spelled xs)
unfolding each_word
each-takes f P spelled one [] xs e = subst (λ ys. All P ys × ([] ≡ map spelled ys)) (same_Some [] xs e) (All-none P, refl)
each-takes f P spelled one (w ∷ ws) xs e =
    let x = bind_some (f w) (λ x. each_word f ws >>= λ ys. Some (x ∷ ys)) xs e in
    let ys = bind_some (each_word f ws) (λ ys. Some (x.0 ∷ ys)) xs x.2 in
    let is : x.0 ∷ ys.0 ≡ xs = same_Some (x.0 ∷ ys.0) xs ys.2 in
    let first = one w x.0 x.1 in
    let others = each-takes f P spelled one ws ys.0 ys.1 in
    let words : w ∷ ws ≡ spelled x.0 ∷ map spelled ys.0 = ap (λ (v : List ℕ). v ∷ ws) first.1 ∙ ap (λ (vs : List (List ℕ)). spelled x.0 ∷ vs) others.1 in
    subst (λ zs. All P zs × (w ∷ ws ≡ map spelled zs)) is (All-cons P x.0 ys.0 first.0 others.0, words)

pub each-again : {A : Type 0} (f : List ℕ → Option A) (P : A → Type 0) (spelled : A → List ℕ)
    → ((a : A) → P a → f (spelled a) ≡ Some a)
    → (xs : List A) → All P xs → each_word f (map spelled xs) ≡ Some xs
unfolding each_word
each-again f P spelled one [] h = refl
each-again f P spelled one (x ∷ xs) h = rw (one x (All-head P x xs h), each-again f P spelled one xs (All-tail P x xs h)) refl

-- ---- a cut

pub cut-takes : (c : ℕ) (text back : List ℕ) → (cut c text).1 ≡ Some back → text ≡ (cut c text).0 ++ (c ∷ back)
cut-takes c [] back e = absurd (none-some back (sym (ap (λ (x : List ℕ × Option (List ℕ)). x.1) (cut_nothing c)) ∙ e))
cut-takes c (b ∷ bs) back e = elim (cases_Bool (eqb b c)) [
  | inl t ↦
      let h = cut_here c b bs t in
      let rest : bs ≡ back = same_Some bs back (sym (ap (λ (x : List ℕ × Option (List ℕ)). x.1) h) ∙ e) in
      rw (h, rest, eqb-true b c t) refl
  | inr f ↦
      let h = cut_later c b bs f in
      let rest : (cut c bs).1 ≡ Some back = sym (ap (λ (x : List ℕ × Option (List ℕ)). x.1) h) ∙ e in
      let ih : bs ≡ (cut c bs).0 ++ (c ∷ back) = cut-takes c bs back rest in
      rw h (ap (λ (t : List ℕ). b ∷ t) ih)
]

pub cut-again : (c : ℕ) (front back : List ℕ) → All (λ b. eqb b c ≡ false) front → cut c (front ++ (c ∷ back)) ≡ (front, Some back)
cut-again c [] back h = cut_here c c back (eq-eqb c c refl)
cut-again c (b ∷ bs) back h =
    let ih : cut c (bs ++ (c ∷ back)) ≡ (bs, Some back) = cut-again c bs back (All-tail (λ b. eqb b c ≡ false) b bs h) in
    cut_later c b (bs ++ (c ∷ back)) (All-head (λ b. eqb b c ≡ false) b bs h) ∙ ap (λ (x : List ℕ × Option (List ℕ)). (b ∷ x.0, x.1)) ih

-- no name and no number has an equals sign
name_byte : (b : ℕ) → IsNameByte b → eqb b 61 ≡ false
name_byte b (inl l) = ne_eqb b 61 (λ e. omega (arith, l.0, e))
name_byte b (inr (inl d)) = ne_eqb b 61 (λ e. omega (arith, d.1, e))
name_byte b (inr (inr s)) = ne_eqb b 61 (λ e. omega (arith, s, e))

name_bytes : (bs : List ℕ) → All IsNameByte bs → All (λ b. eqb b 61 ≡ false) bs
name_bytes [] h = All-none (λ b. eqb b 61 ≡ false)
name_bytes (b ∷ bs) h = All-cons (λ b. eqb b 61 ≡ false) b bs (name_byte b (All-head IsNameByte b bs h)) (name_bytes bs (All-tail IsNameByte b bs h))

no_sign_in_name : (name : List ℕ) → IsName name → All (λ b. eqb b 61 ≡ false) name
no_sign_in_name [] h = absurd h
no_sign_in_name (b ∷ bs) h = All-cons (λ b. eqb b 61 ≡ false) b bs (name_byte b (inl h.0)) (name_bytes bs h.1)

digit_no_sign : (c : ℕ) → digit_of c < 10 → eqb c 61 ≡ false
digit_no_sign c l = ne_eqb c 61 (λ e. let z : digit_of c ≡ 16 = ap digit_of e in omega (arith, l, z))

digits_no_sign : (text : List ℕ) → list_all (λ c. ltb (digit_of c) 10) text ≡ true → All (λ b. eqb b 61 ≡ false) text
digits_no_sign [] h = All-none (λ b. eqb b 61 ≡ false)
digits_no_sign (c ∷ cs) h =
    let p = and_parts (ltb (digit_of c) 10) (list_all (λ c. ltb (digit_of c) 10) cs) h in
    All-cons (λ b. eqb b 61 ≡ false) c cs (digit_no_sign c (ltb-true _ _ p.0)) (digits_no_sign cs p.1)

no_sign_in_number : (n : ℕ) → form.IsNumber n → All (λ b. eqb b 61 ≡ false) (decimal n)
no_sign_in_number n h = digits_no_sign (decimal n) (decimal_below n h)

-- ---- occurrences

hit_is : (h : form.Hit) → form.hit_text h ≡ h.name ++ (61 ∷ decimal h.times)
hit_is h = append_assoc h.name (61 ∷ []) (decimal h.times)

pub hit-takes : (word : List ℕ) (h : form.Hit) → hit_in word ≡ Some h → form.IsHit h × (word ≡ form.hit_text h)
unfolding hit_in
hit-takes word h e =
    let t = bind_some (cut 61 word).1 (λ text. name (cut 61 word).0 >>= λ n. number 10 20 text >>= λ times. Some (record { name = n; times = times })) h e in
    let n = bind_some (name (cut 61 word).0) (λ n. number 10 20 t.0 >>= λ times. Some (record { name = n; times = times })) h t.2 in
    let m = bind_some (number 10 20 t.0) (λ times. Some (record { name = n.0; times = times })) h n.2 in
    let made : form.Hit = record { name = n.0; times = m.0 } in
    let is : made ≡ h = same_Some made h m.2 in
    let named = name_takes (cut 61 word).0 n.0 n.1 in
    let num = number_takes 10 20 m.0 t.0 (omega arith) (omega arith) (omega arith) m.1 in
    let whole : word ≡ n.0 ++ (61 ∷ decimal m.0) = cut-takes 61 word t.0 t.1 ∙ (ap (λ (x : List ℕ). x ++ (61 ∷ t.0)) named.1 ∙ ap (λ (x : List ℕ). n.0 ++ (61 ∷ x)) num.1) in
    subst (λ g. form.IsHit g × (word ≡ form.hit_text g)) {x = made} is ((named.0, num.0), whole ∙ sym (hit_is made))

pub hit-again : (h : form.Hit) → form.IsHit h → hit_in (form.hit_text h) ≡ Some h
unfolding hit_in
hit-again h is = grind (arith, Some, cut-again, no_sign_in_name, hit_is, name_again, number_again)

-- ---- acts

seen-takes : (text : List ℕ) (a : Act) → seen_in text ≡ Some a → form.IsActSpelling a × (115 ∷ text ≡ act_text a)
unfolding seen_in
seen-takes text a e =
    let t = bind_some (cut 61 text).1 (λ back. number 10 20 (cut 61 text).0 >>= λ ring. number 10 20 back >>= λ place. Some (act.Seen (record { 0 = ring }) place)) a e in
    let r = bind_some (number 10 20 (cut 61 text).0) (λ ring. number 10 20 t.0 >>= λ place. Some (act.Seen (record { 0 = ring }) place)) a t.2 in
    let p = bind_some (number 10 20 t.0) (λ place. Some (act.Seen (record { 0 = r.0 }) place)) a r.2 in
    let made : Act = act.Seen (record { 0 = r.0 }) p.0 in
    let is : made ≡ a = same_Some made a p.2 in
    let ring = number_takes 10 20 r.0 (cut 61 text).0 (omega arith) (omega arith) (omega arith) r.1 in
    let place = number_takes 10 20 p.0 t.0 (omega arith) (omega arith) (omega arith) p.1 in
    let whole : text ≡ decimal r.0 ++ (61 ∷ decimal p.0) = cut-takes 61 text t.0 t.1 ∙ (ap (λ (x : List ℕ). x ++ (61 ∷ t.0)) ring.1 ∙ ap (λ (x : List ℕ). decimal r.0 ++ (61 ∷ x)) place.1) in
    let spelled : 115 ∷ (decimal r.0 ++ (61 ∷ decimal p.0)) ≡ act_text made = ap (λ (x : List ℕ). 115 ∷ x) (sym (append_assoc (decimal r.0) (61 ∷ []) (decimal p.0))) in
    subst (λ b. form.IsActSpelling b × (115 ∷ text ≡ act_text b)) {x = made} is ((ring.0, place.0), ap (λ (x : List ℕ). 115 ∷ x) whole ∙ spelled)

seen-again : (ring place : ℕ) → form.IsNumber ring → form.IsNumber place → seen_in (decimal ring ++ (61 ∷ decimal place)) ≡ Some (act.Seen (record { 0 = ring }) place)
unfolding seen_in
seen-again ring place r p = grind (arith, Some, cut-again, no_sign_in_number, number_again)

-- a number behind a letter
numbered-takes : (make : ℕ → Act) (text : List ℕ) (a : Act) → option_map make (number 10 20 text) ≡ Some a → (n : ℕ) × form.IsNumber n × (text ≡ decimal n) × (make n ≡ a)
numbered-takes make text a e = go (number 10 20 text) refl
  where
    go : (r : Option ℕ) → number 10 20 text ≡ r → (n : ℕ) × form.IsNumber n × (text ≡ decimal n) × (make n ≡ a)
    go (Some n) h =
        let num = number_takes 10 20 n text (omega arith) (omega arith) (omega arith) h in
        (n, num.0, num.1, same_Some (make n) a (sym (ap (option_map make) h) ∙ e))
    go None h = absurd (none-some a (sym (ap (option_map make) h) ∙ e))

processor-takes : (text : List ℕ) (a : Act) → processor_in text ≡ Some a → form.IsActSpelling a × (112 ∷ text ≡ act_text a)
processor-takes text a e =
    let n = numbered-takes (λ n. act.Processor (record { 0 = n })) text a e in
    subst (λ b. form.IsActSpelling b × (112 ∷ text ≡ act_text b)) n.3 (n.1, ap (λ (x : List ℕ). 112 ∷ x) n.2)

tool-takes : (text : List ℕ) (a : Act) → tool_in text ≡ Some a → form.IsActSpelling a × (116 ∷ text ≡ act_text a)
tool-takes text a e =
    let n = numbered-takes (λ n. act.Tool (record { 0 = n })) text a e in
    subst (λ b. form.IsActSpelling b × (116 ∷ text ≡ act_text b)) n.3 (n.1, ap (λ (x : List ℕ). 116 ∷ x) n.2)

lettered : (letter code : ℕ) (text : List ℕ) (a : Act) → letter ≡ code → form.IsActSpelling a × (code ∷ text ≡ act_text a) → form.IsActSpelling a × (letter ∷ text ≡ act_text a)
lettered letter code text a e h = rw e h

pub act-takes : (word : List ℕ) (a : Act) → act_in word ≡ Some a → form.IsActSpelling a × (word ≡ act_text a)
unfolding act_in
act-takes [] a e = absurd (none-some a e)
act-takes (letter ∷ text) a e = elim (cases_Bool (eqb letter 112)) [
  | inl p ↦ lettered letter 112 text a (eqb-true letter 112 p) (processor-takes text a (rw p at e))
  | inr np ↦ elim (cases_Bool (eqb letter 116)) [
    | inl t ↦ lettered letter 116 text a (eqb-true letter 116 t) (tool-takes text a (rw t at (rw np at e)))
    | inr nt ↦ elim (cases_Bool (eqb letter 115)) [
      | inl s ↦ lettered letter 115 text a (eqb-true letter 115 s) (seen-takes text a (rw s at (rw nt at (rw np at e))))
      | inr ns ↦ absurd (none-some a (rw ns at (rw nt at (rw np at e))))
    ]
  ]
]

pub act-again : (a : Act) → form.IsActSpelling a → act_in (act_text a) ≡ Some a
unfolding act_in
act-again (act.Processor cpu) h = rw (number_again 10 20 cpu.0 (omega arith) (omega arith) (omega arith) (omega arith) h) refl
act-again (act.Tool tool) h = rw (number_again 10 20 tool.0 (omega arith) (omega arith) (omega arith) (omega arith) h) refl
act-again (act.Seen ring place) h = rw (append_assoc (decimal ring.0) (61 ∷ []) (decimal place), seen-again ring.0 place h.0 h.1) refl

-- two bytes that are an act
abbrev pub IsShort : ℕ → ℕ → Option ℕ → Type 0
IsShort limit byte o = IfSome o (λ n. (n < limit) × (number 10 20 (byte ∷ []) ≡ Some n))

pub processor_short : (letter byte n : ℕ) (o : Option ℕ) → letter ≡ 112 → IsShort 8 byte o → o ≡ Some n
    → (act_in (letter ∷ byte ∷ []) ≡ Some (act.Processor (record { 0 = n }))) × (n < 8)
unfolding act_in
processor_short letter byte n o e h is = let d = subst (IsShort 8 byte) is h in (rw (e, d.1) refl, d.0)

pub tool_short : (letter byte n : ℕ) (o : Option ℕ) → letter ≡ 116 → IsShort 4 byte o → o ≡ Some n
    → (act_in (letter ∷ byte ∷ []) ≡ Some (act.Tool (record { 0 = n }))) × (n < 4)
unfolding act_in
tool_short letter byte n o e h is = let d = subst (IsShort 4 byte) is h in (rw (e, d.1) refl, d.0)

-- what is seen as what a word says is what the word is the text of
pub spelled_sound : {X : Type 0} (view : X → Act) (word : List ℕ) (r : Option X) → option_map view r ≡ act_in word → IfSome r (λ s. form.IsActSpelling (view s) × (word ≡ act_text (view s)))
spelled_sound view word (Some x) e = act-takes word (view x) (sym e)
spelled_sound view word None e = tt

pub spelled_exact : {X : Type 0} (view : X → Act) (word : List ℕ) (r : Option X) → option_map view r ≡ act_in word → (a : Act) → form.IsActSpelling a → word ≡ act_text a → option_map view r ≡ Some a
spelled_exact view word r e a h is = e ∙ (ap act_in is ∙ act-again a h)

-- ---- bytes

pair_is : (high low : ℕ) → digit_of high < 16 → digit_of low < 16 → (pair_of high low < 256) × (pair_of high low / 16 ≡ digit_of high) × (pair_of high low % 16 ≡ digit_of low)
pair_is high low h l = grind (arith, mod-eq_of_lt, div-mul-add, mod-mul-add)

record ArePairs (text : List ℕ) : Type 0 where
  is : text ≡ flat_map form.byte_text (pairs_in text)
  twice : length text ≡ 2 * length (pairs_in text)
  bytes : All (λ b. b < 256) (pairs_in text)

byte_glyphs : (high low : ℕ) → digit_of high < 16 → digit_of low < 16 → form.byte_text (pair_of high low) ≡ high ∷ low ∷ []
byte_glyphs high low h l =
    let p = pair_is high low h l in
    let x : digit_glyph false (pair_of high low / 16) ≡ high = ap (digit_glyph false) p.1 ∙ glyph-digit_of high h in
    let y : digit_glyph false (pair_of high low % 16) ≡ low = ap (digit_glyph false) p.2 ∙ glyph-digit_of low l in
    ap (λ (d : ℕ). d ∷ digit_glyph false (pair_of high low % 16) ∷ []) x ∙ ap (λ (d : ℕ). high ∷ d ∷ []) y

pairs-takes : (text : List ℕ) → length text % 2 ≡ 0 → list_all (λ b. ltb (digit_of b) 16) text ≡ true → ArePairs text
unfolding pairs_in
pairs-takes [] e h = record { is = refl; twice = refl; bytes = All-none (λ b. b < 256) }
pairs-takes (x ∷ []) e h = let one : 1 % 2 ≡ 1 = refl in absurd (omega (arith, e, one))
pairs-takes (high ∷ low ∷ rest) e h =
    let p = and_parts (ltb (digit_of high) 16) (list_all (λ b. ltb (digit_of b) 16) (low ∷ rest)) h in
    let q = and_parts (ltb (digit_of low) 16) (list_all (λ b. ltb (digit_of b) 16) rest) p.1 in
    let even : length rest % 2 ≡ 0 = omega (arith, e) in
    let ih = pairs-takes rest even q.1 in
    let a = ltb-true _ _ p.0 in
    let b = ltb-true _ _ q.0 in
    record {
      is = sym (ap (λ (t : List ℕ). t ++ flat_map form.byte_text (pairs_in rest)) (byte_glyphs high low a b) ∙ ap (λ (t : List ℕ). high ∷ low ∷ t) (sym ih.is));
      twice = omega (arith, ih.twice);
      bytes = All-cons (λ b. b < 256) (pair_of high low) (pairs_in rest) (pair_is high low a b).0 ih.bytes;
    }

pub bytes-takes : (text bytes : List ℕ) → bytes_in text ≡ Some bytes → form.AreBytes bytes × (text ≡ flat_map form.byte_text bytes)
unfolding bytes_in
bytes-takes text bytes e =
    let g = guard_some (is_bytes text) (pairs_in text) bytes e in
    let p = and_parts (ltb 0 (length text)) (leb (length text) 8192 && (eqb (length text % 2) 0 && list_all (λ b. ltb (digit_of b) 16) text)) g.0 in
    let q = and_parts (leb (length text) 8192) (eqb (length text % 2) 0 && list_all (λ b. ltb (digit_of b) 16) text) p.1 in
    let r = and_parts (eqb (length text % 2) 0) (list_all (λ b. ltb (digit_of b) 16) text) q.1 in
    let t = pairs-takes text (eqb-true _ _ r.0) r.1 in
    let some : 0 < length (pairs_in text) = omega (arith, t.twice, ltb-true _ _ p.0) in
    let few : length (pairs_in text) ≤ 4096 = omega (arith, t.twice, leb-true _ _ q.0) in
    subst (λ bs. form.AreBytes bs × (text ≡ flat_map form.byte_text bs)) g.1 (record { some = some; few = few; each = t.bytes }, t.is)

record AreWritten (bytes : List ℕ) : Type 0 where
  pairs : pairs_in (flat_map form.byte_text bytes) ≡ bytes
  twice : length (flat_map form.byte_text bytes) ≡ 2 * length bytes
  below : list_all (λ b. ltb (digit_of b) 16) (flat_map form.byte_text bytes) ≡ true

byte_read : (b : ℕ) → b < 256 → pair_of (digit_glyph false (b / 16)) (digit_glyph false (b % 16)) ≡ b
byte_read b l = grind (arith, false, digit_of-glyph, div-add-mod')

written_bytes : (bytes : List ℕ) → All (λ b. b < 256) bytes → AreWritten bytes
unfolding pairs_in
written_bytes [] h = record { pairs = refl; twice = refl; below = refl }
written_bytes (b ∷ bs) h =
    let l : b < 256 = All-head (λ b. b < 256) b bs h in
    let ih = written_bytes bs (All-tail (λ b. b < 256) b bs h) in
    let x : ltb (digit_of (digit_glyph false (b / 16))) 16 ≡ true = let e : digit_of (digit_glyph false (b / 16)) ≡ b / 16 = digit_of-glyph (b / 16) (omega arith) in lt-ltb _ _ (omega (arith, e)) in
    let y : ltb (digit_of (digit_glyph false (b % 16))) 16 ≡ true = let e : digit_of (digit_glyph false (b % 16)) ≡ b % 16 = digit_of-glyph (b % 16) (omega arith) in lt-ltb _ _ (omega (arith, e)) in
    record {
      pairs = ap (λ (n : ℕ). n ∷ pairs_in (flat_map form.byte_text bs)) (byte_read b l) ∙ ap (λ (ns : List ℕ). b ∷ ns) ih.pairs;
      twice = omega (arith, ih.twice);
      below = and_from _ _ x (and_from _ _ y ih.below);
    }

pub bytes-again : (bytes : List ℕ) → form.AreBytes bytes → bytes_in (flat_map form.byte_text bytes) ≡ Some bytes
unfolding bytes_in
bytes-again bytes h = grind (arith, written_bytes, ltb, length, true, lt-ltb, leb, le-leb, eqb, eq-eqb, Some)

-- what was put into the front of a room is what the text says
pub bytes_in_room : (count : Option ℕ) (room text : List ℕ) → option_map (λ n. take n room) count ≡ bytes_in text
    → IfSome count (λ n. form.AreBytes (take n room) × (text ≡ flat_map form.byte_text (take n room)))
bytes_in_room None room text e = tt
bytes_in_room (Some n) room text e = bytes-takes text (take n room) (sym e)
