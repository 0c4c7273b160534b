-- The acts of a complete order of a script, one after the other: each has its line, and its answer.
use Rattle.std.specs.Prelude.{◌≡◌, ℕ, ◌+◌, ◌<◌, ◌≤◌, Bool, true, List, [], ◌∷◌, ◌++◌, count_by, length, take, Some}
use Rattle.std.proofs.{Common.{arith, refl, sym, ap, subst, ◌∙◌, cond, eqb, eq-eqb, get_or}, lemmas.List.{get_or_default, take_more}}
use Rattle.std.proofs.lemmas.{List.Sums.{sum_by-take-le, sum_by_push}, Option.{slice_get-get_or}}
use Rattle.perf_base.specs.{declared.{acts.Act.{Act}, numbers.RingNo.{RingNo}}, Scripts.{Scripted}}
use Rattle.perf_base.specs.declared.acts.Act.TheVariants as act
use Rattle.stage_spec.specs.Order.{is_of_cpu, is_of_tool, done_by_cpu, done_by_tool, IsComplete}
use Rattle.machine.specs.{Leading.{Kept, LeadTo}, Stepping.{HasNoLine, IsUnlawful}}
use Rattle.perf_top.specs.Outcome.{HasBadLook}

-- fewer are counted before an element that counts than in all
counts_before : {X : Type 0} (p : X → Bool) (xs : List X) (i : ℕ) (x : X) → i < length xs → get_or xs i x ≡ x → p x ≡ true → count_by p (take i xs) < count_by p xs
counts_before p xs i x l e t =
    let more : count_by p (take (i + 1) xs) ≡ count_by p (take i xs) + cond (p x) 1 0 = ap (count_by p) (take_more xs i x l ∙ ap (λ y. take i xs ++ y ∷ []) e) ∙ sum_by_push (λ y. cond (p y) 1 0) (take i xs) x in
    let one : cond (p x) 1 0 ≡ 1 = rw t refl in
    let part : count_by p (take (i + 1) xs) ≤ count_by p xs = sum_by-take-le (λ y. cond (p y) 1 0) xs (i + 1) in
    let grows : count_by p (take (i + 1) xs) ≡ count_by p (take i xs) + 1 = more ∙ ap (λ n. count_by p (take i xs) + n) one in
    omega (arith, part, grows)

-- each act of a complete order has its line where its turn comes
pub has-line : (s : Scripted) (m : Kept) (i : ℕ) (a : Act) → i < length s.order → get_or s.order i a ≡ a → LeadTo s (take i s.order) m → IsComplete s s.order → HasNoLine s m a → ⊥
has-line s m i (act.Processor cpu) l e led c none =
    let t : eqb cpu.0 cpu.0 ≡ true = eq-eqb cpu.0 cpu.0 refl in
    let n : done_by_cpu cpu (take i s.order) < done_by_cpu cpu s.order = counts_before (is_of_cpu cpu) s.order i (act.Processor cpu) l e t in
    none (omega (arith, n, led.cpus cpu, c.cpus cpu))
has-line s m i (act.Tool tool) l e led c none =
    let t : eqb tool.0 tool.0 ≡ true = eq-eqb tool.0 tool.0 refl in
    let n : done_by_tool tool (take i s.order) < done_by_tool tool s.order = counts_before (is_of_tool tool) s.order i (act.Tool tool) l e t in
    none (omega (arith, n, led.tools tool, c.tools tool))
has-line s m i (act.Seen ring place) l e led c none = none

-- the first look that is not lawful
pub bad-look : (s : Scripted) (m : Kept) (i : ℕ) (a : Act) (ring : RingNo) (last head given : ℕ) → i < length s.order → get_or s.order i a ≡ a → LeadTo s (take i s.order) m
    → a ≡ act.Seen ring given → IsUnlawful s (take i s.order) ring last head given → HasBadLook s i ring last head given
bad-look s m i a ring last head given l e led is u = record {
  look = slice_get-get_or s.order i a l ∙ ap (λ b. Some b) (e ∙ is);
  before = led.lawful;
  seen_last = u.seen_last;
  headed = u.headed;
  unlawful = u.unlawful;
}

-- The same of the act that stands at a place of a list that is the script's order.
pub has-line-at : (s : Scripted) (order : List Act) (m : Kept) (i : ℕ) (d : Act) → order ≡ s.order → i < length order → LeadTo s (take i order) m → IsComplete s s.order
    → HasNoLine s m (get_or order i d) → ⊥
has-line-at s order m i d e =
    subst (λ (o : List Act). i < length o → LeadTo s (take i o) m → IsComplete s s.order → HasNoLine s m (get_or o i d) → ⊥) (sym e)
    (λ low led complete none. has-line s m i (get_or s.order i d) low (get_or_default s.order i (get_or s.order i d) d low) led complete none)

pub bad-look-at : (s : Scripted) (order : List Act) (m : Kept) (i : ℕ) (d : Act) (ring : RingNo) (last head given : ℕ) → order ≡ s.order → i < length order → LeadTo s (take i order) m
    → get_or order i d ≡ act.Seen ring given → IsUnlawful s (take i s.order) ring last head given → HasBadLook s i ring last head given
bad-look-at s order m i d ring last head given e =
    subst (λ (o : List Act). i < length o → LeadTo s (take i o) m → get_or o i d ≡ act.Seen ring given → IsUnlawful s (take i s.order) ring last head given
    → HasBadLook s i ring last head given) (sym e)
    (λ low led is u.
    bad-look s m i (get_or s.order i d) ring last head given low (get_or_default s.order i (get_or s.order i d) d low) led is u)
