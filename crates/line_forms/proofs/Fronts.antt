-- Occurrences: a name, an equals sign and a number at the front of a text.
use Rattle.std.proofs.Common.{◌≡◌, ℕ, suc, cond, Bool, true, false, eqb, List, [], ◌∷◌, ◌++◌, Option, Some, None, ◌+◌, ◌-◌, ◌<◌, length, get_or, take, drop, refl, sym, ap, subst, ◌∙◌, arith, length-drop}
use Rattle.std.{proofs.{Math.{Numerals.{one-add}, Seq.{take-length}}, lemmas.{Option.{same_Some, none-some}, Bool.{eqb-true, and_parts}, List.{take-append-drop, drop_more}}}, specs.List.{list_all, prefix_len}}
use Rattle.script_spec.specs.{Lines.{pieces}, Forms.{Hit}}
use Rattle.line_forms.specs.{declared.words.Words.{Words}, Words.{◌>>=◌, cut, left, pieces_behind, next_of, end_of}, Leaves.{number, is_name_byte, is_name, name}}
use Rattle.line_forms.specs.Lists.{each_word, all_in, hit_in, next_hit, IsNamed, IsFront}
use Rattle.line_forms.proofs.{Cuts.{cut_here, cut_later, pieces_cut}, Singles.{bind_some}, Loops.{with_front, each_fail, each_end, none_given, first_given}}

-- ---- a name, an equals sign and a number at the front of a text

differs_by : (b c : ℕ) (same : Bool) → eqb b c ≡ same → is_name_byte b ≡ true → is_name_byte c ≡ false → same ≡ false
differs_by b c false e is not_it = refl
differs_by b c true e is not_it = let it : is_name_byte c ≡ true = subst (λ x. is_name_byte x ≡ true) (eqb-true b c e) is in absurd cc

front_cut : (name behind : List ℕ) → list_all is_name_byte name ≡ true → cut 32 (name ++ 61 ∷ behind) ≡ (name ++ 61 ∷ (cut 32 behind).0, (cut 32 behind).1)
front_cut [] behind h = cut_later 32 61 behind refl
front_cut (b ∷ bs) behind h =
    let p = and_parts (is_name_byte b) (list_all is_name_byte bs) h in
    cut_later 32 b (bs ++ 61 ∷ behind) (differs_by b 32 _ refl p.0 refl) ∙ rw (front_cut bs behind p.1) refl

equals_cut : (name word : List ℕ) → list_all is_name_byte name ≡ true → cut 61 (name ++ 61 ∷ word) ≡ (name, Some word)
equals_cut [] word h = cut_here 61 61 word refl
equals_cut (b ∷ bs) word h =
    let p = and_parts (is_name_byte b) (list_all is_name_byte bs) h in
    cut_later 61 b (bs ++ 61 ∷ word) (differs_by b 61 _ refl p.0 refl) ∙ rw (equals_cut bs word p.1) refl

-- the bytes of a name that a text begins with
front_step : (b : ℕ) (bs : List ℕ) (is : Bool) → is_name_byte b ≡ is → list_all is_name_byte (take (prefix_len is_name_byte bs) bs) ≡ true
    → list_all is_name_byte (take (cond is (1 + prefix_len is_name_byte bs) 0) (b ∷ bs)) ≡ true
front_step b bs true e h = grind (arith, suc, one-add, true, e, h)
front_step b bs false e h = refl

pub bytes_in_front : (text : List ℕ) → list_all is_name_byte (take (prefix_len is_name_byte text) text) ≡ true
bytes_in_front [] = refl
bytes_in_front (b ∷ bs) = front_step b bs (is_name_byte b) refl (bytes_in_front bs)

pub name_in_front : (text : List ℕ) (n : ℕ) → n ≡ prefix_len is_name_byte text → n < length text → get_or text n 0 ≡ 61 → is_name (take n text) ≡ true
    → IsNamed text (take n text) (take (length text - (n + 1)) (drop (n + 1) text))
unfolding name
name_in_front text n e l equals named =
    let behind : take (length text - (n + 1)) (drop (n + 1) text) ≡ drop (n + 1) text = rw (sym (length-drop (n + 1) text)) (take-length (drop (n + 1) text)) in
    record {
      parts = rw behind (sym (take-append-drop n text) ∙ ap (λ (x : List ℕ). take n text ++ x) (drop_more text n 0 l ∙ ap (λ (x : ℕ). x ∷ drop (n + 1) text) equals));
      bytes = subst (λ (k : ℕ). list_all is_name_byte (take k text) ≡ true) (sym e) (bytes_in_front text);
      named = rw named refl;
    }

pub front_is : (text front behind word : List ℕ) (rest : Option (List ℕ)) (times : ℕ) → text ≡ front ++ 61 ∷ behind → list_all is_name_byte front ≡ true → name front ≡ Some front
    → (word, rest) ≡ cut 32 behind → number 10 20 word ≡ Some times → IsFront text (record { name = front; times = times }) rest
unfolding hit_in
front_is text front behind word rest times e h n c t =
    let all : cut 32 text ≡ (front ++ 61 ∷ word, rest) = ap (cut 32) e ∙ (front_cut front behind h ∙ ap (λ (x : List ℕ × Option (List ℕ)). (front ++ 61 ∷ x.0, x.1)) (sym c)) in
    record { says = rw (all, equals_cut front word h, n, t) refl; leaves = sym (ap (λ x. x.1) all) }

pub front_next : (w : Words) (text : List ℕ) (hit : Hit) (rest : Option (List ℕ)) (words : List (List ℕ)) → left w ≡ pieces 32 text → IsFront text hit rest → words ≡ pieces_behind 32 rest → Some (hit, words) ≡ next_hit (left w)
front_next w text hit rest words e f is =
    let all : left w ≡ (cut 32 text).0 ∷ pieces_behind 32 (cut 32 text).1 = e ∙ pieces_cut 32 text in
    let words_are : words ≡ pieces_behind 32 (cut 32 text).1 = is ∙ ap (pieces_behind 32) f.leaves in
    rw (all, f.says, words_are) refl

-- the next word, where it says an occurrence
pub hit_parts : (words : List (List ℕ)) (hit : Hit) (others : List (List ℕ)) → Some (hit, others) ≡ next_hit words → (word : List ℕ) × (Some (word, others) ≡ next_of words) × (hit_in word ≡ Some hit)
hit_parts [] hit others e = absurd cc
hit_parts (word ∷ words) hit others e =
    let h = bind_some (hit_in word) (λ h. Some (h, words)) (hit, others) (sym e) in
    let same = same_Some (h.0, words) (hit, others) h.2 in
    (word, ap (λ (x : Hit × List (List ℕ)). Some (word, x.1)) (sym same), h.1 ∙ ap (λ (x : Hit × List (List ℕ)). Some x.0) same)

-- no occurrence
abbrev none_hit : Option (Hit × List (List ℕ))
none_hit = None

none_from : (found : Option Hit) (words : List (List ℕ)) → (found >>= λ hit. Some (hit, words)) ≡ none_hit → found ≡ None
none_from None words e = refl
none_from (Some hit) words e = absurd cc

-- where no occurrence comes next, all words are read, or one says none
pub hits_stuck : (front : List Hit) (words : List (List ℕ)) (whole : Option (List Hit)) → None ≡ next_hit words → None ≡ end_of words
    → with_front front (each_word hit_in words) ≡ whole → None ≡ whole
hits_stuck front [] whole n e h = absurd cc
hits_stuck front (word ∷ words) whole n e h = each_fail hit_in front word words (word ∷ words) whole refl (none_from (hit_in word) words (sym n)) h

pub hits_end : (front : List Hit) (words : List (List ℕ)) (whole : Option (List Hit)) → Some tt ≡ end_of words
    → with_front front (each_word hit_in words) ≡ whole → whole ≡ Some front
hits_end front [] whole e h = each_end hit_in front [] whole refl h
hits_end front (word ∷ words) whole e h = absurd cc

pub hits_over : (words : List (List ℕ)) → None ≡ next_hit words → each_word hit_in words ≡ Some (all_in hit_in words) → all_in hit_in words ≡ []
hits_over [] n e = none_given hit_in [] refl
hits_over (word ∷ words) n e =
    let first = first_given hit_in word words (word ∷ words) refl e in
    absurd (none-some first.first (sym (none_from (hit_in word) words (sym n)) ∙ first.gives))
