-- Keys that are changed one after the other: what they leave, and that lists of keys and families stay while they are
-- gone over.
use Rattle.std.specs.Prelude.{◌≡◌, ℕ, ◌+◌, ◌<◌, ◌≤◌, suc, Bool, true, List, [], ◌∷◌, ◌++◌, length, take, Option, Some, None, slice_index_or}
use Rattle.std.proofs.{Common.{arith, refl, sym, ap, ◌∙◌, inl, inr, take_all}, Math.Seq.{take-suc}, lemmas.{Bool.{cases_eq}, Grind.{flat_map-append}}}
use Rattle.std.proofs.lemmas.List.{append-nil, Sums.{fold-append}}
use Rattle.perf_base.specs.declared.numbers.{EventNo.{EventNo}, Key.{Key}}
use Rattle.stage_spec.specs.Hardware.{Hardware}
use Rattle.stage_laws.proofs.Counts.{count-append}
use Rattle.world_spec.{specs.{Value.{World, is_live, family_of, is_key, times}, Kept.{in_option, IsKept}}, proofs.Copies.{times-at}}
use Rattle.world_spec.proofs.Keys.{key-is, is_key-same, is_key-other, times-cons, once-true, once-false}
use Rattle.event_commands.{specs.{declared.changing.Command.{Command}, Changing.{change, changed, family_keys, keys_named}}, proofs.Named.{in-family}}
use Rattle.event_commands.specs.declared.changing.Command.TheVariants as command

-- entries and accounts alone change
one-shape : (c : Command) (w : World) (k : Key) → change c w k ≡ record w { entries = (change c w k).entries; accounts = (change c w k).accounts }
one-shape (command.Switch switch) w k = refl
one-shape command.Reset w k = refl

pub changed-shape : (c : Command) (keys : List Key) (w : World) → changed c keys w ≡ record w { entries = (changed c keys w).entries; accounts = (changed c keys w).accounts }
unfolding changed
changed-shape c [] w = refl
changed-shape c (k ∷ keys) w = grind (arith, one-shape, changed-shape c keys (change c w k))

pub changed-family : (c : Command) (keys : List Key) (w : World) (e : EventNo) → family_of (changed c keys w) e ≡ family_of w e
changed-family c keys w e = ap (λ (y : World). family_of y e) (changed-shape c keys w)

-- none, one, and some after others
pub changed-none : (c : Command) (w : World) → w ≡ changed c [] w
unfolding changed
changed-none c w = refl

pub changed-one : (c : Command) (w : World) (k : Key) → change c w k ≡ changed c (k ∷ []) w
unfolding changed
changed-one c w k = refl

pub changed-append : (c : Command) (xs ys : List Key) (w : World) → changed c (xs ++ ys) w ≡ changed c ys (changed c xs w)
unfolding changed
changed-append c xs ys w = fold-append (change c) w xs ys

-- the original in a slot
pub no-original : (c : Command) (w : World) (o : Option Key) → o ≡ None → w ≡ changed c (in_option o) w
no-original c w o none = changed-none c w ∙ ap (λ x. changed c (in_option x) w) (sym none)

pub one-original : (c : Command) (w : World) (o : Option Key) (k : Key) → o ≡ Some k → change c w k ≡ changed c (in_option o) w
one-original c w o k some = changed-one c w k ∙ ap (λ x. changed c (in_option x) w) (sym some)

-- the copies of an original, as they are told while some were changed
pub copies-told : (c : Command) (done : List Key) (first now : World) (e : EventNo) (keys : List Key) → now ≡ changed c done first → keys ≡ (family_of now e).copies → keys ≡ (family_of first e).copies
copies-told c done first now e keys is told = told ∙ (ap (λ (w : World). (family_of w e).copies) is ∙ ap (λ f. f.copies) (changed-family c done first e))

pub copy-live : (hw : Hardware) (w : World) (e : EventNo) (keys : List Key) (place : ℕ) (d : Key) → IsKept hw w → keys ≡ (family_of w e).copies → place < length keys
    → is_live w (slice_index_or keys place d) ≡ true
copy-live hw w e keys place d h told low =
    let k : Key = slice_index_or keys place d in
    (in-family hw w e k h (omega (arith, ap (times k) told, times-at keys place d low, count-append (is_key k) (in_option (family_of w e).original) (family_of w e).copies))).0

pub next-copy : (c : Command) (first now new : World) (copies keys : List Key) (place : ℕ) (d : Key) → now ≡ changed c (take place copies) first → keys ≡ copies → place < length copies
    → new ≡ change c now (slice_index_or keys place d) → new ≡ changed c (take (place + 1) copies) first
next-copy c first now new copies keys place d before told low is =
    let one : place + 1 ≡ suc place = omega arith in
    let k : Key = slice_index_or copies place d in
    is
    ∙ ((λ i. change c (before i) (slice_index_or (told i) place d))
    ∙ (changed-one c (changed c (take place copies) first) k
    ∙ (sym (changed-append c (take place copies) (k ∷ []) first)
    ∙ sym (ap (λ n. changed c (take n copies) first) one ∙ ap (λ keys. changed c keys first) (take-suc copies place d low)))))

pub all-copies : (c : Command) (first now : World) (copies : List Key) (place : ℕ) → now ≡ changed c (take place copies) first → length copies ≤ place → now ≡ changed c copies first
all-copies c first now copies place before past = before ∙ ap (λ keys. changed c keys first) (take_all place copies past)

-- a family, and so families
pub whole-family : (c : Command) (w mid new : World) (e : EventNo) → mid ≡ changed c (in_option (family_of w e).original) w → new ≡ changed c (family_of mid e).copies mid
    → new ≡ changed c (family_keys w e) w
whole-family c w mid new e first second = grind (arith, changed-family, changed-append)

pub next-family : (c : Command) (first now new : World) (events : List EventNo) (place : ℕ) (d : EventNo) → now ≡ changed c (keys_named first (take place events)) first → place < length events
    → new ≡ changed c (family_keys now (slice_index_or events place d)) now → new ≡ changed c (keys_named first (take (place + 1) events)) first
next-family c first now new events place d before low is =
    let one : place + 1 ≡ suc place = omega arith in
    let e : EventNo = slice_index_or events place d in
    let done : List Key = keys_named first (take place events) in
    is
    ∙ ((λ i. changed c (family_keys (before i) e) (before i))
    ∙ (ap (λ f. changed c (in_option f.original ++ f.copies) (changed c done first)) (changed-family c done first e)
    ∙ (sym (changed-append c done (family_keys first e) first)
    ∙ sym (ap (λ n. changed c (keys_named first (take n events)) first) one
    ∙ (ap (λ es. changed c (keys_named first es) first) (take-suc events place d low)
    ∙ ap (λ keys. changed c keys first) (flat_map-append (family_keys first) (take place events) (e ∷ []) ∙ ap (λ keys. done ++ keys) (append-nil (family_keys first e))))))))

pub all-families : (c : Command) (first now : World) (events : List EventNo) (place : ℕ) → now ≡ changed c (keys_named first (take place events)) first → length events ≤ place
    → now ≡ changed c (keys_named first events) first
all-families c first now events place before past = before ∙ ap (λ es. changed c (keys_named first es) first) (take_all place events past)

-- What a command makes of what is read at a key: of the key that is changed, and of no other; a second time it makes
-- the same.
pub record Updates (X : Type 0) (c : Command) (at : World → Key → X) (u : X → X) : Type 0 where
  pub own : (w : World) (k : Key) → at (change c w k) k ≡ u (at w k)
  pub other : (w : World) (k q : Key) → (q.0 ≡ k.0 → ⊥) → at (change c w k) q ≡ at w q
  pub twice : (x : X) → u (u x) ≡ u x

pub updates-out : {X : Type 0} (c : Command) (at : World → Key → X) (u : X → X) → Updates X c at u → (q : Key) (keys : List Key) (w : World) → times q keys ≡ 0
    → at (changed c keys w) q ≡ at w q
unfolding changed
updates-out c at u h q [] w none = refl
updates-out c at u h q (k ∷ keys) w none = elim (cases_eq q.0 k.0) [
  | inl same ↦ absurd (omega (arith, none, times-cons q k keys, once-true (is_key q k) (is_key-same q k (sym same))))
  | inr apart ↦ updates-out c at u h q keys (change c w k) (omega (arith, none, times-cons q k keys)) ∙ h.other w k q apart
]

pub updates-in : {X : Type 0} (c : Command) (at : World → Key → X) (u : X → X) → Updates X c at u → (q : Key) (keys : List Key) (w : World) → 1 ≤ times q keys
    → at (changed c keys w) q ≡ u (at w q)
unfolding changed
updates-in c at u h q [] w some = absurd (omega (arith, some))
updates-in c at u h q (k ∷ keys) w some = elim (cases_eq q.0 k.0) [
  | inl same ↦
      let here : at (change c w k) q ≡ u (at w q) = ap (λ j. at (change c w j) q) (key-is k q (sym same)) ∙ h.own w q in
      elim (cases_eq (times q keys) 0) [
        | inl none ↦ updates-out c at u h q keys (change c w k) none ∙ here
        | inr more ↦ updates-in c at u h q keys (change c w k) (omega (arith, more)) ∙ (ap u here ∙ h.twice (at w q))
      ]
  | inr apart ↦
      updates-in c at u h q keys (change c w k) (omega (arith, some, times-cons q k keys, once-false (is_key q k) (is_key-other q k (λ e. apart (sym e)))))
      ∙ ap u (h.other w k q apart)
]

-- the keys of a table stay where those that are changed are there
pub keys-stay : (c : Command) (has : World → Key → Bool) → ((w : World) (k : Key) → has w k ≡ true → (q : Key) → has (change c w k) q ≡ has w q) → (keys : List Key) (w : World)
    → ((q : Key) → 1 ≤ times q keys → has w q ≡ true) → (k : Key) → has (changed c keys w) k ≡ has w k
unfolding changed
keys-stay c has one [] w there k = refl
keys-stay c has one (q ∷ keys) w there k =
    let here : (j : Key) → has (change c w q) j ≡ has w j = one w q (there q (omega (arith, times-cons q q keys, once-true (is_key q q) (is_key-same q q refl)))) in
    keys-stay c has one keys (change c w q) (λ j some. here j ∙ there j (omega (arith, some, times-cons j q keys))) k ∙ here k
