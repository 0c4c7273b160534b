-- A lawful order grows by lawful acts.
use Rattle.std.{specs.Prelude.{◌≡◌, List, [], ◌∷◌, ◌++◌, length, drop}, proofs.Common.{arith, refl, sym, ap, ◌∙◌, get_or}}
use Rattle.std.proofs.lemmas.List.{length-append}
use Rattle.perf_base.specs.declared.acts.Act.{Act}
use Rattle.ring_spec.specs.Rings.{LawfulLaw}

-- an act of a list with one more at its end is the last one, or stands in the list
data Place (order before after : List Act) (a b : Act) : Type 0 where
  Last : (whole : before ≡ order) (same : b ≡ a) → Place order before after a b
  Within : (rest : List Act) (is : order ≡ before ++ b ∷ rest) → Place order before after a b

place : (order before after : List Act) (a b : Act) → order ++ a ∷ [] ≡ before ++ b ∷ after → Place order before after a b
place [] [] after a b e = Last refl (ap (λ l. get_or l 0 a) (sym e))
place [] (c ∷ cs) after a b e =
    let none : [] ≡ cs ++ b ∷ after = ap (drop 1) e in
    absurd (omega (arith, ap length none, length-append cs (b ∷ after)))
place (o ∷ os) [] after a b e = Within os (ap (λ x. x ∷ os) (ap (λ l. get_or l 0 a) e))
place (o ∷ os) (c ∷ cs) after a b e =
    let heads : o ≡ c = ap (λ l. get_or l 0 a) e in
    elim (place os cs after a b (ap (drop 1) e)) [
      | Last whole same ↦ Last (ap (λ x. x ∷ cs) (sym heads) ∙ ap (λ xs. o ∷ xs) whole) same
      | Within rest is ↦ Within rest (ap (λ x. x ∷ os) heads ∙ ap (λ xs. c ∷ xs) is)
    ]

pub lawful_law : LawfulLaw
lawful_law s order a h now before after b e = elim (place order before after a b e) [
  | Last whole same ↦ rw (whole, same) now
  | Within rest is ↦ h before rest b is
]
