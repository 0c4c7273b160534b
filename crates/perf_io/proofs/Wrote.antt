-- One text behind another.
use Rattle.std.proofs.Common.{◌≡◌, ℕ, zero, suc, ◌+◌, ◌≤◌, inl, inr, List, [], ◌∷◌, ◌++◌, length, take, Option, Some, None, Result, Ok, Err, arith, refl, sym, ap, subst, ◌∙◌, append_assoc, length-append}
use Rattle.std.proofs.{lemmas.{Bool.{false≢true}, Grind.{common_steps}, List.{append-nil, take-append-le}}, Math.Seq.{take-append-add}}
use Rattle.std.specs.Result.{IsErr}
use Rattle.perf_io.specs.{Outside.{Adds, Rose, SinkShows}, Wrote.{Wrote}, declared.outside.Failed.{Failed}}

pub Adds-then : (a b c : Option (List ℕ)) (x y : List ℕ) → Adds a b x → Adds b c y → Adds a c (x ++ y)
Adds-then None b c x y p q = tt
Adds-then (Some a) None c x y p q = absurd p
Adds-then (Some a) (Some b) None x y p q = absurd q
Adds-then (Some a) (Some b) (Some c) x y p q = q ∙ (ap (λ t. t ++ y) p ∙ append_assoc a x y)

pub Adds-nothing : (a : Option (List ℕ)) → Adds a a []
Adds-nothing None = tt
Adds-nothing (Some bytes) = sym (append-nil bytes)

pub Rose-before : (last : Option ℕ) (f g h : ℕ) → f ≤ g → Rose last g h → Rose last f h
Rose-before last f g h l (inl more) = inl (omega arith)
Rose-before last f g h l (inr end) = inr end

module _ {K : Type 0} {shows : SinkShows K} where
  -- a text was written, and then another, or its front
  pub wrote_then : {a b c : K} {r : Result (Unit {0}) Failed} {x y : List ℕ}
      → Wrote shows a b (Ok tt) x → Wrote shows b c r y → Wrote shows a c r (x ++ y)
  wrote_then {a = a} {b = b} {c = c} {r = Ok u} {x = x} {y = y} p q =
      record { count = omega (arith, p.count, q.count); written = Adds-then (shows.held a) (shows.held b) (shows.held c) x y p.written q.written }
  wrote_then {a = a} {b = b} {c = c} {r = Err e} {x = x} {y = y} p q = record {
    count = omega (arith, p.count, q.count);
    written = (
      Rose-before shows.last_fault (shows.faults a) (shows.faults b) (shows.faults c) p.count q.written.0,
      (
        length x + q.written.1.0,
        omega (arith, length-append x y, q.written.1.1),
        rw take-append-add (Adds-then (shows.held a) (shows.held b) (shows.held c) x (take q.written.1.0 y) p.written q.written.1.2),
      ),
    );
  }

  -- a fault within a text is one within a longer text
  pub wrote_exit : {a b : K} {e : Failed} {r : Result (Unit {0}) Failed} {x : List ℕ} (y : List ℕ)
      → IsErr r → Wrote shows a b (Err e) x → Wrote shows a b r (x ++ y)
  wrote_exit {r = Ok u} y q p = absurd (false≢true q)
  wrote_exit {r = Err d} {x = x} y q p =
      let l = p.written.1.1 in
      record { count = p.count; written = (p.written.0, (p.written.1.0, omega (arith, length-append x y, l), rw (take-append-le p.written.1.0 x y l) p.written.1.2)) }

  -- the same where a single byte comes first
  pub wrote_byte_then : {a b c : K} {r : Result (Unit {0}) Failed} {n : ℕ} {y : List ℕ}
      → Wrote shows a b (Ok tt) (n ∷ []) → Wrote shows b c r y → Wrote shows a c r (n ∷ y)
  wrote_byte_then p q = wrote_then p q

  -- the same text
  pub wrote_text : {a b : K} {r : Result (Unit {0}) Failed} {x y : List ℕ} → x ≡ y → Wrote shows a b r x → Wrote shows a b r y
  wrote_text {a = a} {b = b} {r = r} e p = subst (Wrote shows a b r) e p

  -- nothing was written
  pub wrote_nothing : {a : K} → Wrote shows a a (Ok tt) []
  wrote_nothing {a = a} = record { count = omega arith; written = Adds-nothing (shows.held a) }

-- a front of at most a single byte
pub take_byte : (n c : ℕ) (y : List ℕ) → n ≤ 1 → take n (c ∷ y) ≡ take n (c ∷ [])
take_byte zero c y l = refl
take_byte (suc zero) c y l = refl
take_byte (suc (suc n)) c y l = absurd (omega (arith, l))

-- texts in a row
pub ruleset writes = (common_steps, wrote_then, wrote_byte_then, take_byte)
