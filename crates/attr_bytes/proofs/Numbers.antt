-- Numbers at an offset.
use Rattle.std.proofs.Common.{◌≡◌, ◌<◌, ◌≤◌, ◌^◌, ℕ, ◌+◌, ◌-◌, List, [], ◌++◌, length, take, drop, replicate, refl, sym, ap, ◌∙◌, arith, length-append, length-drop, length-take}
use Rattle.std.proofs.lemmas.List.{take-append-drop, drop-append-le, drop-drop, drop_at, drop_all, take_rest, append-nil}
use borrow.Rule.Slice.PartMut.{put_mid}
use Rattle.byteorder.specs.{Endian.{little_number, little_bytes}, Numbers.{little_from-append, little_number-reads_back, length-bytes_low_first}}
use Rattle.attr_bytes.specs.Layout.{number_at, PutsNumber}

-- a number at an offset is that at the front of what is left from there
pub number_at-drop : (offset width : ℕ) (bytes rest : List ℕ) → rest ≡ drop offset bytes → little_number width rest ≡ number_at offset width bytes
unfolding number_at
number_at-drop offset width bytes rest e = ap (λ (x : List ℕ). little_number width x) e

-- bytes that follow change no number
pub number_at-append : (offset width : ℕ) (bytes more : List ℕ) → offset + width ≤ length bytes → number_at offset width (bytes ++ more) ≡ number_at offset width bytes
unfolding number_at
number_at-append offset width bytes more h =
    ap (λ (x : List ℕ). little_number width x) (drop-append-le offset bytes more (omega arith))
    ∙ little_from-append width (drop offset bytes) more (omega (arith, length-drop offset bytes))

-- what stands past a number that was put
past_put : (front number rest : List ℕ) (offset width from : ℕ) → length front ≡ offset → length number ≡ width → offset + width ≤ from → drop from (front ++ (number ++ rest)) ≡ drop (from - (offset + width)) rest
past_put front number rest offset width from f n h =
    let beyond : ℕ = from - (offset + width) in
    let split : from ≡ offset + (width + beyond) = omega arith in
    ap (λ (x : ℕ). drop x (front ++ (number ++ rest))) split
    ∙ sym (drop-drop (width + beyond) offset (front ++ (number ++ rest)))
    ∙ ap (λ (x : List ℕ). drop (width + beyond) x) (drop_at front (number ++ rest) offset f)
    ∙ sym (drop-drop beyond width (number ++ rest))
    ∙ ap (λ (x : List ℕ). drop beyond x) (drop_at number rest width n)

-- what is left in three steps
drop_thrice : (bytes : List ℕ) (offset width from : ℕ) → offset + width ≤ from → drop (from - (offset + width)) (drop width (drop offset bytes)) ≡ drop from bytes
drop_thrice bytes offset width from h = grind (arith, drop-drop, drop, ℕ)

-- a number put between the front of the bytes and what follows it
pub puts_number : (offset width number : ℕ) (old new : List ℕ) → offset + width ≤ length old → number < 256 ^ width → new ≡ take offset old ++ (little_bytes width number ++ drop width (drop offset old)) → PutsNumber offset width number old new
unfolding number_at
puts_number offset width number old new fits small e =
    let front : List ℕ = take offset old in
    let rest : List ℕ = drop width (drop offset old) in
    let taken : length front ≡ offset = omega (arith, length-take offset old) in
    let put : length (little_bytes width number) ≡ width = length-bytes_low_first 0 width number in
    record {
      length = ap length e ∙ omega (arith, length-append front (little_bytes width number ++ rest), length-append (little_bytes width number) rest, length-drop width (drop offset old), length-drop offset old);
      put = ap (λ (x : List ℕ). little_number width (drop offset x)) e
          ∙ ap (λ (x : List ℕ). little_number width x) (drop_at front (little_bytes width number ++ rest) offset taken)
          ∙ little_number-reads_back width number rest small;
      before = λ from many h.
          ap (number_at from many) e
          ∙ number_at-append from many front (little_bytes width number ++ rest) (omega arith)
          ∙ sym (number_at-append from many front (drop offset old) (omega arith))
          ∙ ap (number_at from many) (take-append-drop offset old);
      after = λ from many h.
          ap (λ (x : List ℕ). little_number many x)
          (ap (λ (x : List ℕ). drop from x) e
          ∙ past_put front (little_bytes width number) rest offset width from taken put h
          ∙ drop_thrice old offset width from h);
    }

-- what `&mut bytes[offset..]` leaves of the bytes, once so many bytes of it were written
pub put_from : (offset width : ℕ) (old part bytes : List ℕ) → part ≡ bytes ++ drop width (take (length old - offset) (drop offset old)) → put_mid offset (length old - offset) old part ≡ take offset old ++ (bytes ++ drop width (drop offset old))
put_from offset width old part bytes e =
    let none : drop (length old - offset) (drop offset old) ≡ [] = drop_all (length old - offset) (drop offset old) (omega (arith, length-drop offset old)) in
    ap (λ (x : List ℕ). take offset old ++ (part ++ x)) none
    ∙ ap (λ (x : List ℕ). take offset old ++ x) (append-nil part ∙ e ∙ ap (λ (x : List ℕ). bytes ++ drop width x) (take_rest old offset))

-- the last 16 of 64 bytes that are 0
pub zero_end : (number_at 48 4 (replicate 64 0) ≡ 0) × (number_at 52 4 (replicate 64 0) ≡ 0) × (number_at 56 8 (replicate 64 0) ≡ 0)
unfolding number_at
zero_end = (refl, refl, refl)
