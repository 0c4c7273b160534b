-- What a room and the sink behind it hold together, as bytes are sent and added.
use Rattle.std.proofs.Common.{◌≡◌, ℕ, ◌≤◌, List, [], ◌++◌, length, take, drop, Option, Some, None, arith, refl, sym, ap, subst, ◌∙◌, append_assoc, length-append}
use Rattle.std.proofs.lemmas.List.{append-nil, take-append-le, take-append-drop, length-take-le, take-take, append_cancel_left, length-take}
use Rattle.std.proofs.Math.Seq.{take-append_seam}
use Rattle.perf_io.specs.Outside.{Adds}
use Rattle.perf_io.specs.Rooms.{with_room, Grew}

Some-injective : (x y : List ℕ) → Some x ≡ Some y → x ≡ y
Some-injective x y e = grind (arith, e)

-- a front stays a front where bytes are added
pub Grew-more : (start a b : Option (List ℕ)) (x : List ℕ) → Grew start a → Adds a b x → Grew start b
Grew-more None a b x g p = refl
Grew-more (Some s) None b x g p = absurd (grind (arith, g))
Grew-more (Some s) (Some h) None x g p = absurd p
Grew-more (Some s) (Some h) (Some l) x g p =
    let e : take (length s) h ≡ s = Some-injective _ _ g in
    ap Some (rw p (take-append-le (length s) h x (omega (arith, ap length e, length-take (length s) h)) ∙ e))

-- with an empty room at both ends, what was added to both together was added to the sink
pub added_behind : (start a : Option (List ℕ)) (text : List ℕ) → Adds (with_room start start []) (with_room start a []) text → Grew start a → Adds start a text
added_behind None a text p g = tt
added_behind (Some s) None text p g = absurd p
added_behind (Some s) (Some h) text p g = sym (append-nil h) ∙ (p ∙ ap (λ t. t ++ text) (append-nil s))

-- where bytes still wait, a front was added to the sink
pub front_behind : (start a : Option (List ℕ)) (room text : List ℕ) → Adds (with_room start start []) (with_room start a room) text → Grew start a
    → (n : ℕ) × (n ≤ length text) × Adds start a (take n text)
front_behind None a room text p g = (0, omega arith, tt)
front_behind (Some s) None room text p g = absurd p
front_behind (Some s) (Some h) room text p g =
    let rest = drop (length s) h in
    let whole : h ≡ s ++ rest = sym (take-append-drop (length s) h) ∙ ap (λ t. t ++ rest) (Some-injective _ _ g) in
    let both : s ++ (rest ++ room) ≡ s ++ text = sym (append_assoc s rest room) ∙ (ap (λ t. t ++ room) (sym whole) ∙ (p ∙ ap (λ t. t ++ text) (append-nil s))) in
    let parts : rest ++ room ≡ text = append_cancel_left s (rest ++ room) text both in
    let front : take (length rest) text ≡ rest = ap (take (length rest)) (sym parts) ∙ take-append_seam rest room in
    (length rest, omega (arith, ap length parts, length-append rest room), whole ∙ ap (λ t. s ++ t) (sym front))

-- the same where a front of a text was added to both together
pub front_of_front : (start a : Option (List ℕ)) (room text : List ℕ) (n : ℕ) → Adds (with_room start start []) (with_room start a room) (take n text) → Grew start a → n ≤ length text
    → (m : ℕ) × (m ≤ length text) × Adds start a (take m text)
front_of_front start a room text n p g l =
    let f = front_behind start a room (take n text) p g in
    let short : f.0 ≤ n = omega (arith, f.1, length-take-le n text l) in
    (f.0, omega (arith, short, l), subst (Adds start a) (take-take f.0 n text short) f.2)
