-- Each event that is open after acts of a script has its row.
use Rattle.std.specs.Prelude.{◌≡◌, ℕ, zero, suc, ◌<◌, ◌==◌, Bool, true, false, not, Contains, List, [], ◌∷◌, ◌++◌, cond, filter, map}
use Rattle.std.proofs.{Common.{ap, arith, inl, inr, subst, sym, ◌∙◌}, lemmas.{Bool.{and_parts, cases_lt, eqb-true}, List.{get_or-map, length-map}}}
use Rattle.std.proofs.lemmas.List.Elements.{Contains-append_left, Contains-append_right, Contains-push}
use Rattle.perf_base.specs.{declared.{acts.Act.{Act}, numbers.EventNo.{EventNo}}, Scripts.{Scripted}}
use Rattle.stage_spec.specs.{declared.instance.Instance.{Instance}, Hardware.{hardware_of}, Stage.{all_instances, is_open, is_original}}
use Rattle.stage_spec.{specs.Tables.{stage_in}, proofs.Present.{Found, any-found, each_at}}
use Rattle.stage_laws.specs.Sound.{IsSound}
use Rattle.stat_rows.{specs.{Laws.{EachLaw}, Rows.{open_below, row_of, slots_below}}, proofs.{Filling.{slot, slots-more}, Sound.{acts-sound}}}

has-slot : (n : ℕ) (e : EventNo) → e.0 < n → Contains (slots_below n) e
has-slot zero e low = absurd (omega (arith, low))
has-slot (suc n) e low = subst (λ slots. Contains slots e) (sym (slots-more n)) (elim (cases_lt e.0 n) [
  | inl below ↦ Contains-append_left (slots_below n) (slot n ∷ []) e (has-slot n e below)
  | inr off ↦
      let last : e.0 ≡ n = omega (arith, off, low) in
      subst (λ k. Contains (slots_below n ++ slot k ∷ []) e) last (Contains-push (slots_below n) e)
])

-- what passes stays, and what a function makes of an entry is there
kept : {X : Type 0} (p : X → Bool) (xs : List X) (x : X) → Contains xs x → p x ≡ true → Contains (filter p xs) x
kept p [] x (k, low, same) is = absurd (omega (arith, low))
kept p (y ∷ ys) x (zero, low, same) is = subst (λ b. Contains (cond b (y ∷ filter p ys) (filter p ys)) x) (sym (ap p same ∙ is)) (0, omega arith, same)
kept p (y ∷ ys) x (suc k, low, same) is = one (p y) (kept p ys x (k, omega (arith, low), same) is)
  where
    one : (b : Bool) → Contains (filter p ys) x → Contains (cond b (y ∷ filter p ys) (filter p ys)) x
    one true rest = Contains-append_right (y ∷ []) (filter p ys) x rest
    one false rest = rest

mapped : {X Y : Type 0} (f : X → Y) (xs : List X) (x : X) → Contains xs x → Contains (map f xs) (f x)
mapped f xs x (k, low, same) = (k, subst (λ n. k < n) (sym (length-map xs f)) low, get_or-map f xs k x (f x) low ∙ ap f same)

-- an open slot is one of the 256
small : (e : EventNo) (i : Instance) → i.event.0 < 256 → is_original e i ≡ true → e.0 < 256
small e i low is = subst (λ n. n < 256) (eqb-true i.event.0 e.0 (and_parts (i.event.0 == e.0) (not i.copy) is).0) low

open-small : (s : Scripted) (acts : List Act) (e : EventNo) → IsSound (hardware_of s) (stage_in s acts) → is_open (stage_in s acts) e ≡ true → e.0 < 256
open-small s acts e sound is =
    let all : List Instance = all_instances (stage_in s acts) in
    let found : Found (λ i. i.event.0 < 256) (is_original e) = any-found (λ i. i.event.0 < 256) (is_original e) all (each_at (λ i. i.event.0 < 256) all sound.numbered.slots) is in
    small e found.it found.holds found.passes

has-row : (n : ℕ) (s : Scripted) (acts : List Act) (e : EventNo) → e.0 < n → is_open (stage_in s acts) e ≡ true
    → Contains (map (row_of s acts) (open_below n s acts)) (row_of s acts e)
has-row n s acts e low is = mapped (row_of s acts) (open_below n s acts) e (kept (is_open (stage_in s acts)) (slots_below n) e (has-slot n e low) is)

pub there : EachLaw
there s acts e h covered is = has-row 256 s acts e (open-small s acts e (acts-sound s acts h covered) is) is
