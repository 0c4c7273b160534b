-- The script that forms say, with one form more.
use Rattle.std.proofs.Common.{◌≡◌, ◌≢◌, ℕ, zero, suc, ◌+◌, ◌-◌, ◌<◌, List, [], ◌∷◌, ◌++◌, length, map, get_or, set, Option, Some, refl, sym, ap, subst, ◌∙◌, arith, append_assoc}
use Rattle.std.{proofs.lemmas.{List.{append-nil, length_push, Elements.{filter_map-append}}, Grind.{flat_map-append}}, specs.Prelude.{filter_map, slice_get}}
use Rattle.std.specs.List.{cons_option}
use Rattle.perf_base.proofs.FlatMaps.{flat_map_after-push}
use Rattle.script_spec.specs.{Forms.{Form}, Meaning.{acts_said, acts_in, cpu_line_at, tool_line_at, each_behind, cpu_lines_in, tool_lines_in, last_of}}

pub pushed : {Y : Type 0} (h : Form → Option Y) (forms : List Form) (f : Form) → filter_map h (forms ++ f ∷ []) ≡ filter_map h forms ++ cons_option (h f) []
pushed h forms f = filter_map-append h forms (f ∷ [])

behind_more : (before forms : List Form) (f : Form) → each_behind before (forms ++ f ∷ []) ≡ each_behind before forms ++ (before ++ forms, f) ∷ []
behind_more before forms f = flat_map_after-push (λ earlier g. (earlier, g) ∷ []) before forms f

pub cpu_lines_more : (forms : List Form) (f : Form) (p : ℕ) → cpu_lines_in (forms ++ f ∷ []) p ≡ cpu_lines_in forms p ++ cons_option (cpu_line_at p (forms, f)) []
cpu_lines_more forms f p = ap (filter_map (cpu_line_at p)) (behind_more [] forms f) ∙ filter_map-append (cpu_line_at p) (each_behind [] forms) ((forms, f) ∷ [])

pub tool_lines_more : (forms : List Form) (f : Form) (t : ℕ) → tool_lines_in (forms ++ f ∷ []) t ≡ tool_lines_in forms t ++ cons_option (tool_line_at t (forms, f)) []
tool_lines_more forms f t = ap (filter_map (tool_line_at t)) (behind_more [] forms f) ∙ filter_map-append (tool_line_at t) (each_behind [] forms) ((forms, f) ∷ [])

pub acts_more : (forms : List Form) (f : Form) → acts_in (forms ++ f ∷ []) ≡ acts_in forms ++ acts_said f
acts_more forms f = flat_map-append acts_said forms (f ∷ []) ∙ ap (λ (a : List _). acts_in forms ++ a) (append-nil (acts_said f))

-- the last number
pub last_push : (ns : List ℕ) (n : ℕ) → last_of (ns ++ n ∷ []) ≡ Some n
last_push ns n = ap (slice_get (ns ++ n ∷ [])) (let e : length (ns ++ n ∷ []) - 1 ≡ length ns = omega (arith, length_push ns n) in e) ∙ at_end ns
  where
    at_end : (ns : List ℕ) → slice_get (ns ++ n ∷ []) (length ns) ≡ Some n
    at_end [] = refl
    at_end (m ∷ ns) = at_end ns

-- numbers from one on
abbrev pub from : ℕ → ℕ → List ℕ
from a zero = []
from a (suc n) = a ∷ from (suc a) n

pub map_same : {X : Type 0} (f g : ℕ → X) → ((p : ℕ) → f p ≡ g p) → (ns : List ℕ) → map f ns ≡ map g ns
map_same f g h [] = refl
map_same f g h (n ∷ ns) = ap (λ x. x ∷ map f ns) (h n) ∙ ap (λ xs. g n ∷ xs) (map_same f g h ns)

-- one list among those from a number on is longer
pub one_longer : {X : Type 0} (f g : ℕ → List X) (x : X) (a c n : ℕ) → c < n → g (a + c) ≡ f (a + c) ++ x ∷ [] → ((p : ℕ) → p ≢ a + c → g p ≡ f p)
    → map g (from a n) ≡ set (map f (from a n)) c (get_or (map f (from a n)) c [] ++ x ∷ [])
one_longer f g x a c zero l at other = absurd (omega (arith, l))
one_longer f g x a zero (suc n) l at other =
    let z : a + 0 ≡ a = omega arith in
    let head : g a ≡ f a ++ x ∷ [] = subst (λ k. g k ≡ f k ++ x ∷ []) z at in
    ap (λ y. y ∷ map g (from (suc a) n)) head ∙ ap (λ ys. (f a ++ x ∷ []) ∷ ys) (beyond f g a (suc a) n (omega arith) (λ p ne. other p (λ e. ne (e ∙ z))))
  where
    beyond : {X : Type 0} (f g : ℕ → List X) (a b n : ℕ) → a < b → ((p : ℕ) → p ≢ a → g p ≡ f p) → map g (from b n) ≡ map f (from b n)
    beyond f g a b zero l h = refl
    beyond f g a b (suc n) l h = ap (λ y. y ∷ map g (from (suc b) n)) (h b (λ e. omega (arith, l, e))) ∙ ap (λ ys. f b ∷ ys) (beyond f g a (suc b) n (omega arith) h)
one_longer f g x a (suc c) (suc n) l at other =
    let s : a + suc c ≡ suc a + c = omega arith in
    let head : g a ≡ f a = other a (λ e. omega (arith, e)) in
    ap (λ y. y ∷ map g (from (suc a) n)) head
    ∙ ap (λ ys. f a ∷ ys) (one_longer f g x (suc a) c n (omega arith) (subst (λ k. g k ≡ f k ++ x ∷ []) s at) (λ p ne. other p (λ e. ne (e ∙ s))))
