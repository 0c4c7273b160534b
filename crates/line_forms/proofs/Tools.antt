-- The forms under a tool, one by one: what is read is of the form, and what is of the form is read.
use Rattle.std.proofs.Common.{◌≡◌, ℕ, Bool, true, false, List, [], ◌∷◌, ◌++◌, Option, Some, None, refl, sym, ap, subst, ◌∙◌, arith}
use Rattle.std.{proofs.lemmas.{Option.{same_Some}, List.{append-nil}}, specs.{Prelude.{codes, decimal, IfSome}, List.{flat_map}}}
use Rattle.script_spec.specs.Forms.{Opening, Asked, ToolForm}
use Rattle.script_spec.specs.Forms as form
use Rattle.line_forms.specs.{Words.{strip}, Leaves.{name_at, number_at, number_if, word_if, flags_if}, Shapes.{slot_and_group}, Lists.{bytes_in}}
use Rattle.line_forms.specs.ToolForms.{place_at, asked_at, open_kind_at, attr_place_at, open_attr_at, first_or, open_at, read_at}
use Rattle.line_forms.proofs.Singles.{bind_some, strip_takes, strip_again, name_at-again, decimal_or-again}
use Rattle.line_forms.proofs.Optionals.{IsNotKeyed, number_at-none, not_keyed_if, number_if-takes, number_if-again, word_where, word_if-takes, flags_if-takes, flags_if-again}
use Rattle.line_forms.proofs.{Sequences.{bytes-takes, bytes-again}, Grammar.{no_number_all, no_number_any}}
use Rattle.line_forms.proofs.Steps.{decimal_then, name_then, other_then, end_then, next_then, more, decimal-again}

abbrev pub IsToolSpelled : List ℕ → List (List ℕ) → ToolForm → Type 0
IsToolSpelled word ws f = form.IsToolSpelling f × (word ∷ ws ≡ form.tool_words f)

-- ---- where an event is opened

record IsPlace (slot : ℕ) (ws : List (List ℕ)) (x : Opening × List (List ℕ)) : Type 0 where
  slot_is : x.0.slot ≡ slot
  task : IfSome x.0.task form.IsNumber
  cpu : IfSome x.0.cpu form.IsNumber
  leader : IfSome x.0.leader form.IsNumber
  words : ws ≡ form.place_words x.0 x.1

place-takes : (slot : ℕ) (ws : List (List ℕ)) (x : Opening × List (List ℕ)) → place_at slot ws ≡ Some x → IsPlace slot ws x
unfolding place_at
place-takes slot ws x e =
    let a = other_then (codes "task=") (codes "all") ws _ x e in
    let b = other_then (codes "cpu=") (codes "any") a.rest _ x a.then in
    let l = number_if (codes "leader=") 10 20 b.rest in
    let t = number_if-takes (codes "leader=") 10 20 b.rest (omega arith) (omega arith) (omega arith) in
    let made : Opening = record { slot = slot; task = a.n; cpu = b.n; leader = l.0 } in
    let words : ws ≡ form.place_words made l.1 = a.words ∙ more _ a.rest _ (b.words ∙ more _ b.rest _ t.1) in
    subst (IsPlace slot ws) {x = (made, l.1)} (same_Some (made, l.1) x b.then) (record { slot_is = refl; task = a.fits; cpu = b.fits; leader = t.0; words = words })

place-again : (p : Opening) (others : List (List ℕ)) → form.IsOpening p → (p.leader ≡ None → number_at (codes "leader=") 10 20 others ≡ None) → place_at p.slot (form.place_words p others) ≡ Some (p, others)
unfolding place_at
place-again p others h none =
    rw (
      decimal_or-again (codes "task=") (codes "all") p.task ((codes "cpu=" ++ form.number_or (codes "any") p.cpu) ∷ (form.word_if p.leader (λ n. codes "leader=" ++ decimal n) ++ others)) no_number_all h.task,
      decimal_or-again (codes "cpu=") (codes "any") p.cpu (form.word_if p.leader (λ n. codes "leader=" ++ decimal n) ++ others) no_number_any h.cpu,
      number_if-again (codes "leader=") 10 20 p.leader others (omega arith) (omega arith) (omega arith) (omega arith) h.leader none,
    ) refl

-- ---- what is asked of it

asked-takes : (ws : List (List ℕ)) (a : Asked) → asked_at ws ≡ Some a → form.IsAsked a × (ws ≡ form.asked_words a)
unfolding asked_at
asked-takes ws a e =
    let p = number_if (codes "period=") 10 20 ws in
    let s = number_if (codes "sample=") 16 16 p.1 in
    let f = number_if (codes "format=") 16 16 s.1 in
    let g = flags_if f.1 in
    let z = end_then g.1 _ a e in
    let made : Asked = record { period = p.0; sample = s.0; format = f.0; flags = g.0 } in
    let tp = number_if-takes (codes "period=") 10 20 ws (omega arith) (omega arith) (omega arith) in
    let ts = number_if-takes (codes "sample=") 16 16 p.1 (omega arith) (omega arith) (omega arith) in
    let tf = number_if-takes (codes "format=") 16 16 s.1 (omega arith) (omega arith) (omega arith) in
    let tg = flags_if-takes f.1 in
    let last : f.1 ≡ form.word_if g.0 (λ n. codes "flags=" ++ form.flags_text n) = tg.1 ∙ (ap (λ (r : List (List ℕ)). form.word_if g.0 (λ n. codes "flags=" ++ form.flags_text n) ++ r) z.words ∙ append-nil _) in
    let words : ws ≡ form.asked_words made =
    tp.1 ∙ ap (λ (r : List (List ℕ)). form.word_if p.0 (λ n. codes "period=" ++ decimal n) ++ r) (ts.1 ∙ ap (λ (r : List (List ℕ)). form.word_if s.0 (λ n. codes "sample=" ++ form.hexadecimal n) ++ r) (tf.1 ∙ ap (λ (r : List (List ℕ)). form.word_if f.0 (λ n. codes "format=" ++ form.hexadecimal n) ++ r) last)) in
    subst (λ b. form.IsAsked b × (ws ≡ form.asked_words b)) {x = made} (same_Some made a z.then) (record { period = tp.0; sample = ts.0; format = tf.0; flags = tg.0 }, words)

not_keyed_last : (key : List ℕ) (o : Option ℕ) (word : ℕ → List ℕ) → ((n : ℕ) → strip key (word n) ≡ None) → IsNotKeyed key (form.word_if o word)
not_keyed_last key None word h = tt
not_keyed_last key (Some n) word h = h n

no_format : (a : Asked) → number_at (codes "format=") 16 16 (form.word_if a.flags (λ n. codes "flags=" ++ form.flags_text n)) ≡ None
unfolding strip
no_format a = number_at-none (codes "format=") 16 16 _ (not_keyed_last (codes "format=") a.flags (λ n. codes "flags=" ++ form.flags_text n) (λ n. refl))

no_sample : (a : Asked) → number_at (codes "sample=") 16 16 (form.word_if a.format (λ n. codes "format=" ++ form.hexadecimal n) ++ form.word_if a.flags (λ n. codes "flags=" ++ form.flags_text n)) ≡ None
unfolding strip
no_sample a = grind (arith, number_at-none, not_keyed_if, not_keyed_last)

no_period : (a : Asked) → number_at (codes "period=") 10 20 (form.word_if a.sample (λ n. codes "sample=" ++ form.hexadecimal n) ++ (form.word_if a.format (λ n. codes "format=" ++ form.hexadecimal n) ++ form.word_if a.flags (λ n. codes "flags=" ++ form.flags_text n))) ≡ None
unfolding strip
no_period a = grind (arith, number_at-none, not_keyed_if, not_keyed_last)

no_leader : (a : Asked) → number_at (codes "leader=") 10 20 (form.asked_words a) ≡ None
unfolding strip
no_leader a = grind (arith, number_at-none, not_keyed_if, not_keyed_last)

flags_last : (o : Option ℕ) → IfSome o form.AreFlags → flags_if (form.word_if o (λ n. codes "flags=" ++ form.flags_text n)) ≡ (o, [])
flags_last o h = ap flags_if (sym (append-nil (form.word_if o (λ n. codes "flags=" ++ form.flags_text n)))) ∙ flags_if-again o [] h tt

asked-again : (a : Asked) → form.IsAsked a → asked_at (form.asked_words a) ≡ Some a
unfolding asked_at
asked-again a h =
    rw (
      number_if-again (codes "period=") 10 20 a.period (form.word_if a.sample (λ n. codes "sample=" ++ form.hexadecimal n) ++ (form.word_if a.format (λ n. codes "format=" ++ form.hexadecimal n) ++ form.word_if a.flags (λ n. codes "flags=" ++ form.flags_text n))) (omega arith) (omega arith) (omega arith) (omega arith) h.period (λ _. no_period a),
      number_if-again (codes "sample=") 16 16 a.sample (form.word_if a.format (λ n. codes "format=" ++ form.hexadecimal n) ++ form.word_if a.flags (λ n. codes "flags=" ++ form.flags_text n)) (omega arith) (omega arith) (omega arith) (omega arith) h.sample (λ _. no_sample a),
      number_if-again (codes "format=") 16 16 a.format (form.word_if a.flags (λ n. codes "flags=" ++ form.flags_text n)) (omega arith) (omega arith) (omega arith) (omega arith) h.format (λ _. no_format a),
      flags_last a.flags h.flags,
    ) refl

-- ---- opens

opening_is : (p : Opening) (slot : ℕ) → p.slot ≡ slot → form.IsNumber slot → IfSome p.task form.IsNumber → IfSome p.cpu form.IsNumber → IfSome p.leader form.IsNumber → form.IsOpening p
opening_is p slot e s t c l = record { slot = rw e s; task = t; cpu = c; leader = l }

open_kind-takes : (ws : List (List ℕ)) (f : ToolForm) → open_kind_at ws ≡ Some f → IsToolSpelled (codes "open") ws f
unfolding open_kind_at
open_kind-takes ws f e =
    let s = decimal_then [] ws _ f e in
    let n = name_then (codes "kind=") s.rest _ f s.then in
    let p = bind_some (place_at s.n n.rest) _ f n.then in
    let a = bind_some (asked_at p.0.1) _ f p.2 in
    let tp = place-takes s.n n.rest p.0 p.1 in
    let ta = asked-takes p.0.1 a.0 a.1 in
    let words : ws ≡ decimal p.0.0.slot ∷ (codes "kind=" ++ n.n) ∷ form.place_words p.0.0 (form.asked_words a.0) = grind (arith, ℕ, more) in
    subst (IsToolSpelled (codes "open") ws) (same_Some (form.OpenKind p.0.0 n.n a.0) f a.2) ((opening_is p.0.0 s.n tp.slot_is s.fits tp.task tp.cpu tp.leader, n.fits, ta.0), more (codes "open") ws _ words)

open_kind-again : (p : Opening) (n : List ℕ) (a : Asked) → form.IsOpening p → form.IsWord n → form.IsAsked a
    → open_kind_at (decimal p.slot ∷ (codes "kind=" ++ n) ∷ form.place_words p (form.asked_words a)) ≡ Some (form.OpenKind p n a)
unfolding open_kind_at
open_kind-again p n a h k l =
    rw (
      decimal-again [] p.slot ((codes "kind=" ++ n) ∷ form.place_words p (form.asked_words a)) h.slot,
      name_at-again (codes "kind=") n (form.place_words p (form.asked_words a)) k,
      place-again p (form.asked_words a) h (λ _. no_leader a),
      asked-again a l,
    ) refl

open_attr-takes : (ws : List (List ℕ)) (f : ToolForm) → open_attr_at ws ≡ Some f → IsToolSpelled (codes "open") ws f
unfolding open_attr_at attr_place_at
open_attr-takes ws f e =
    let x = bind_some (attr_place_at ws) _ f e in
    let b = bind_some (bytes_in x.0.1) _ f x.2 in
    let s = decimal_then [] ws _ x.0 x.1 in
    let w = next_then s.rest _ x.0 s.then in
    let t = bind_some (strip (codes "attr=") w.n) _ x.0 w.then in
    let p = bind_some (place_at s.n w.rest) _ x.0 t.2 in
    let z = end_then p.0.1 _ x.0 p.2 in
    let tp = place-takes s.n w.rest p.0 p.1 in
    let pair : (p.0.0, t.0) ≡ x.0 = same_Some (p.0.0, t.0) x.0 z.then in
    let tb = bytes-takes x.0.1 b.0 b.1 in
    let text : t.0 ≡ flat_map form.byte_text b.0 = ap (λ (y : Opening × List ℕ). y.1) pair ∙ tb.1 in
    let place : p.0.0 ≡ x.0.0 = ap (λ (y : Opening × List ℕ). y.0) pair in
    let word : w.n ≡ codes "attr=" ++ flat_map form.byte_text b.0 = strip_takes (codes "attr=") w.n t.0 t.1 ∙ ap (λ (y : List ℕ). codes "attr=" ++ y) text in
    let words : ws ≡ decimal p.0.0.slot ∷ (codes "attr=" ++ flat_map form.byte_text b.0) ∷ form.place_words p.0.0 [] =
    s.words ∙ (ap (λ (k : ℕ). decimal k ∷ s.rest) (sym tp.slot_is) ∙ more _ s.rest _ (w.words ∙ (ap (λ (v : List ℕ). v ∷ w.rest) word ∙ more _ w.rest _ (tp.words ∙ ap (form.place_words p.0.0) z.words)))) in
    let made : IsToolSpelled (codes "open") ws (form.OpenAttr p.0.0 b.0) = ((opening_is p.0.0 s.n tp.slot_is s.fits tp.task tp.cpu tp.leader, tb.0), more (codes "open") ws _ words) in
    subst (IsToolSpelled (codes "open") ws) (ap (λ (q : Opening). form.OpenAttr q b.0) place ∙ same_Some (form.OpenAttr x.0.0 b.0) f b.2) made

open_attr-again : (p : Opening) (bytes : List ℕ) → form.IsOpening p → form.AreBytes bytes
    → open_attr_at (decimal p.slot ∷ (codes "attr=" ++ flat_map form.byte_text bytes) ∷ form.place_words p []) ≡ Some (form.OpenAttr p bytes)
unfolding open_attr_at attr_place_at
open_attr-again p bytes h k =
    rw (
      decimal-again [] p.slot ((codes "attr=" ++ flat_map form.byte_text bytes) ∷ form.place_words p []) h.slot,
      strip_again (codes "attr=") (flat_map form.byte_text bytes),
      place-again p [] h (λ _. number_at-none (codes "leader=") 10 20 [] tt),
      bytes-again bytes k,
    ) refl

no_open_kind : (p : Opening) (bytes : List ℕ) → form.IsOpening p → open_kind_at (decimal p.slot ∷ (codes "attr=" ++ flat_map form.byte_text bytes) ∷ form.place_words p []) ≡ None
unfolding open_kind_at name_at strip
no_open_kind p bytes h = rw (decimal-again [] p.slot ((codes "attr=" ++ flat_map form.byte_text bytes) ∷ form.place_words p []) h.slot) refl

either : {A : Type 0} (a b : Option A) (x : A) (P : Type 0) → first_or a b ≡ Some x → (a ≡ Some x → P) → (b ≡ Some x → P) → P
either (Some y) b x P e f g = f e
either None b x P e f g = g e

pub open-takes : (ws : List (List ℕ)) (f : ToolForm) → open_at ws ≡ Some f → IsToolSpelled (codes "open") ws f
open-takes ws f e = either (open_kind_at ws) (open_attr_at ws) f _ e (open_kind-takes ws f) (open_attr-takes ws f)

pub open-again_kind : (p : Opening) (n : List ℕ) (a : Asked) → form.IsOpening p → form.IsWord n → form.IsAsked a
    → open_at (decimal p.slot ∷ (codes "kind=" ++ n) ∷ form.place_words p (form.asked_words a)) ≡ Some (form.OpenKind p n a)
open-again_kind p n a h k l = rw (open_kind-again p n a h k l) refl

pub open-again_attr : (p : Opening) (bytes : List ℕ) → form.IsOpening p → form.AreBytes bytes
    → open_at (decimal p.slot ∷ (codes "attr=" ++ flat_map form.byte_text bytes) ∷ form.place_words p []) ≡ Some (form.OpenAttr p bytes)
open-again_attr p bytes h k = rw (no_open_kind p bytes h, open_attr-again p bytes h k) refl

-- ---- commands and reads

group_is : (b : Bool) → word_where b (codes "group") ≡ form.group_words b
group_is true = refl
group_is false = refl

pub slot_and_group-takes : (ws : List (List ℕ)) (x : ℕ × Bool) → slot_and_group ws ≡ Some x → form.IsNumber x.0 × (ws ≡ decimal x.0 ∷ form.group_words x.1)
unfolding slot_and_group
slot_and_group-takes ws x e =
    let s = decimal_then [] ws _ x e in
    let g = word_if (codes "group") s.rest in
    let z = end_then g.1 _ x s.then in
    let t : s.rest ≡ form.group_words g.0 = word_if-takes (codes "group") s.rest ∙ (ap (λ (r : List (List ℕ)). word_where g.0 (codes "group") ++ r) z.words ∙ (append-nil _ ∙ group_is g.0)) in
    subst (λ (y : ℕ × Bool). form.IsNumber y.0 × (ws ≡ decimal y.0 ∷ form.group_words y.1)) {x = (s.n, g.0)} (same_Some (s.n, g.0) x z.then) (s.fits, s.words ∙ more _ s.rest _ t)

group-again : (b : Bool) → word_if (codes "group") (form.group_words b) ≡ (b, [])
unfolding word_if
group-again true = refl
group-again false = refl

pub slot_and_group-again : (slot : ℕ) (group : Bool) → form.IsNumber slot → slot_and_group (decimal slot ∷ form.group_words group) ≡ Some (slot, group)
unfolding slot_and_group
slot_and_group-again slot group h = rw (decimal-again [] slot (form.group_words group) h, group-again group) refl

pub read-takes : (ws : List (List ℕ)) (f : ToolForm) → read_at ws ≡ Some f → IsToolSpelled (codes "read") ws f
unfolding read_at
read-takes ws f e =
    let s = decimal_then [] ws _ f e in
    let n = number_if (codes "size=") 10 20 s.rest in
    let t = number_if-takes (codes "size=") 10 20 s.rest (omega arith) (omega arith) (omega arith) in
    let z = end_then n.1 _ f s.then in
    let words : ws ≡ decimal s.n ∷ form.word_if n.0 (λ m. codes "size=" ++ decimal m) = s.words ∙ more _ s.rest _ (t.1 ∙ (ap (λ (r : List (List ℕ)). form.word_if n.0 (λ m. codes "size=" ++ decimal m) ++ r) z.words ∙ append-nil _)) in
    subst (IsToolSpelled (codes "read") ws) (same_Some (form.Read s.n n.0) f z.then) ((s.fits, t.0), more (codes "read") ws _ words)

size_last : (o : Option ℕ) → IfSome o form.IsNumber → number_if (codes "size=") 10 20 (form.word_if o (λ n. codes "size=" ++ decimal n)) ≡ (o, [])
size_last o h =
    ap (number_if (codes "size=") 10 20) (sym (append-nil (form.word_if o (λ n. codes "size=" ++ decimal n))))
    ∙ number_if-again (codes "size=") 10 20 o [] (omega arith) (omega arith) (omega arith) (omega arith) h (λ _. number_at-none (codes "size=") 10 20 [] tt)

pub read-again : (slot : ℕ) (size : Option ℕ) → form.IsNumber slot → IfSome size form.IsNumber → read_at (decimal slot ∷ form.word_if size (λ n. codes "size=" ++ decimal n)) ≡ Some (form.Read slot size)
unfolding read_at
read-again slot size h k = rw (decimal-again [] slot (form.word_if size (λ n. codes "size=" ++ decimal n)) h, size_last size k) refl
