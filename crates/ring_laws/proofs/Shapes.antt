-- A run-shaped order grows by looks and by lines.
use Rattle.std.specs.Prelude.{◌≡◌, ℕ, ◌+◌, ◌<◌, ◌≤◌, List, [], ◌∷◌, ◌++◌, length, drop, fold}
use Rattle.std.proofs.{Common.{arith, refl, sym, ap, subst, ◌∙◌, append_assoc, append-nil, get_or}, lemmas.Bool.Decides.{nat_tests}}
use Rattle.std.proofs.lemmas.List.{length-append, Sums.{fold-append}}
use Rattle.perf_base.specs.declared.{numbers.{CpuNo.{CpuNo}, RingNo.{RingNo}}, acts.Act.{Act}}
use Rattle.perf_base.specs.declared.acts.Act.TheVariants as act
use Rattle.stage_spec.specs.Order.{seen_at, last_seen}
use Rattle.report_spec.specs.Answers.{StandsBefore, RisesTo, IsRunLook, IsRunAct, IsRunShaped}
use Rattle.ring_laws.specs.Growing.{AreLooks, AreBelow, EndsWithLine, ShapedNoneLaw, ShapedLooksLaw, ShapedCpuLaw, ShapedToolLaw, LooksMoreLaw, BelowMoreLaw, UnseenLooksLaw}

-- looks at lower rings leave where a ring's tail was seen last
below-unseen : (last : ℕ) (ring : RingNo) (looks : List Act) → AreBelow ring.0 looks → fold (seen_at ring) last looks ≡ last
below-unseen last ring [] h = refl
below-unseen last ring (act.Processor cpu ∷ looks) h = absurd h
below-unseen last ring (act.Tool tool ∷ looks) h = absurd h
below-unseen last ring (act.Seen other place ∷ looks) h = grind (arith, nat_tests, below-unseen last ring looks h.1)

pub unseen-looks : UnseenLooksLaw
unseen-looks before looks ring h = fold-append (seen_at ring) 0 before looks ∙ below-unseen (last_seen ring before) ring looks h

pub below-more : BelowMoreLaw
below-more n m [] ring place h l k = (k, tt)
below-more n m (act.Processor cpu ∷ looks) ring place h l k = h
below-more n m (act.Tool tool ∷ looks) ring place h l k = h
below-more n m (act.Seen other seen ∷ looks) ring place h l k = (omega (arith, h.0), below-more n m looks ring place h.1 l k)

pub looks-more : LooksMoreLaw
looks-more from before [] ring place h below l above = (l, above, tt)
looks-more from before (act.Processor cpu ∷ looks) ring place h below l above = h
looks-more from before (act.Tool tool ∷ looks) ring place h below l above = h
looks-more from before (act.Seen other seen ∷ looks) ring place h below l above =
    (h.0, h.1, looks-more (other.0 + 1) before looks ring place h.2 below.1 (omega (arith, below.0)) above)

-- An act of two lists, one after the other, stands in the first or in the second.
data Split (order more before after : List Act) (a : Act) : Type 0 where
  First : (rest : List Act) (is : order ≡ before ++ a ∷ rest) (behind : after ≡ rest ++ more) → Split order more before after a
  Second : (some : List Act) (is : before ≡ order ++ some) (behind : more ≡ some ++ a ∷ after) → Split order more before after a

split : (order more before after : List Act) (a : Act) → order ++ more ≡ before ++ a ∷ after → Split order more before after a
split [] more before after a e = Second before refl e
split (o ∷ os) more [] after a e = First os (ap (λ x. x ∷ os) (ap (λ l. get_or l 0 a) e)) (sym (ap (drop 1) e))
split (o ∷ os) more (c ∷ cs) after a e =
    let heads : o ≡ c = ap (λ l. get_or l 0 o) e in
    elim (split os more cs after a (ap (drop 1) e)) [
      | First rest is behind ↦ First rest (ap (λ x. x ∷ os) heads ∙ ap (λ xs. c ∷ xs) is) behind
      | Second some is behind ↦ Second some (ap (λ x. x ∷ cs) (sym heads) ∙ ap (λ xs. o ∷ xs) is) behind
    ]

-- What a look of the order finds behind it stays so by more acts, since a line stands between.
stands-more : (before rest more : List Act) (ring : RingNo) (place : ℕ) → EndsWithLine (before ++ act.Seen ring place ∷ rest) → StandsBefore rest → StandsBefore (rest ++ more)
stands-more before [] more ring place ends h = absurd (ends before ring place refl)
stands-more before (act.Processor cpu ∷ rest) more ring place ends h = tt
stands-more before (act.Tool tool ∷ rest) more ring place ends h = h
stands-more before (act.Seen other seen ∷ rest) more ring place ends h =
    stands-more (before ++ act.Seen ring place ∷ []) rest more other seen
    (subst EndsWithLine (sym (append_assoc before (act.Seen ring place ∷ []) (act.Seen other seen ∷ rest))) ends) h

rises-more : (before rest more : List Act) (ring : RingNo) (place : ℕ) → EndsWithLine (before ++ act.Seen ring place ∷ rest) → RisesTo ring rest → RisesTo ring (rest ++ more)
rises-more before [] more ring place ends h = absurd (ends before ring place refl)
rises-more before (act.Processor cpu ∷ rest) more ring place ends h = tt
rises-more before (act.Tool tool ∷ rest) more ring place ends h = tt
rises-more before (act.Seen other seen ∷ rest) more ring place ends h = h

kept : (order more before rest : List Act) (a : Act) → IsRunShaped order → EndsWithLine order → order ≡ before ++ a ∷ rest → IsRunAct before (rest ++ more) a
kept order more before rest (act.Processor cpu) shaped ends e = tt
kept order more before rest (act.Tool tool) shaped ends e = tt
kept order more before rest (act.Seen ring place) shaped ends e =
    let look : IsRunLook before rest ring place = shaped before rest (act.Seen ring place) e in
    let whole : EndsWithLine (before ++ act.Seen ring place ∷ rest) = subst EndsWithLine e ends in
    record { stands = stands-more before rest more ring place whole look.stands; rises = rises-more before rest more ring place whole look.rises; above = look.above }

-- what a look among such looks comes to
record IsLookIn (from : ℕ) (order some after : List Act) (ring : RingNo) (place : ℕ) : Type 0 where
  pub here : from ≤ ring.0
  pub below : AreBelow ring.0 some
  pub above : last_seen ring order < place
  pub later : AreLooks (ring.0 + 1) order after

look-in : (from : ℕ) (order some after : List Act) (ring : RingNo) (place : ℕ) → AreLooks from order (some ++ act.Seen ring place ∷ after)
    → IsLookIn from order some after ring place
look-in from order [] after ring place h = record { here = h.0; below = tt; above = h.1; later = h.2 }
look-in from order (act.Processor cpu ∷ some) after ring place h = absurd h
look-in from order (act.Tool tool ∷ some) after ring place h = absurd h
look-in from order (act.Seen other seen ∷ some) after ring place h = grind (arith, nat_tests, look-in (other.0 + 1) order some after ring place h.2)

-- acts that may come behind looks: none, or one of a processor
record AreBehind (more : List Act) : Type 0 where
  pub stands : StandsBefore more
  pub rises : (ring : RingNo) → RisesTo ring more
  pub acts : (before some after : List Act) (a : Act) → more ≡ some ++ a ∷ after → IsRunAct before after a

looks-stand : (from : ℕ) (order looks more : List Act) → AreLooks from order looks → AreBehind more → StandsBefore (looks ++ more)
looks-stand from order [] more h behind = behind.stands
looks-stand from order (act.Processor cpu ∷ looks) more h behind = tt
looks-stand from order (act.Tool tool ∷ looks) more h behind = h
looks-stand from order (act.Seen ring place ∷ looks) more h behind = looks-stand (ring.0 + 1) order looks more h.2 behind

looks-rise : (ring : RingNo) (order looks more : List Act) → AreLooks (ring.0 + 1) order looks → AreBehind more → RisesTo ring (looks ++ more)
looks-rise ring order [] more h behind = behind.rises ring
looks-rise ring order (act.Processor cpu ∷ looks) more h behind = tt
looks-rise ring order (act.Tool tool ∷ looks) more h behind = tt
looks-rise ring order (act.Seen other place ∷ looks) more h behind = omega (arith, h.0)

new-look : (order looks more some rest : List Act) (a : Act) → AreLooks 0 order looks → AreBehind more → looks ≡ some ++ a ∷ rest → IsRunAct (order ++ some) (rest ++ more) a
new-look order looks more some rest (act.Processor cpu) h behind e = tt
new-look order looks more some rest (act.Tool tool) h behind e = tt
new-look order looks more some rest (act.Seen ring place) h behind e = grind (arith, nat_tests, look-in, looks-stand, looks-rise, unseen-looks)

grown : (order looks more : List Act) → IsRunShaped order → EndsWithLine order → AreLooks 0 order looks → AreBehind more → IsRunShaped (order ++ (looks ++ more))
grown order looks more shaped ends h behind before after a e = grind (arith, nat_tests, split, kept, new-look)

-- one act behind an order
one-act : (P : Act → Type 0) (some after : List Act) (a b : Act) → P b → b ∷ [] ≡ some ++ a ∷ after → P a
one-act P [] after a b h e = subst P (ap (λ l. get_or l 0 a) e) h
one-act P (c ∷ some) after a b h e =
    let none : [] ≡ some ++ a ∷ after = ap (drop 1) e in
    absurd (omega (arith, ap length none, length-append some (a ∷ after)))

last-act : (xs ys : List Act) (a b : Act) → xs ++ a ∷ [] ≡ ys ++ b ∷ [] → a ≡ b
last-act [] ys a b e = one-act (λ c. a ≡ c) ys [] b a refl e
last-act (x ∷ xs) [] a b e =
    let none : xs ++ a ∷ [] ≡ [] = ap (drop 1) e in
    absurd (omega (arith, ap length none, length-append xs (a ∷ [])))
last-act (x ∷ xs) (y ∷ ys) a b e = last-act xs ys a b (ap (drop 1) e)

ends-cpu : (order : List Act) (cpu : CpuNo) → EndsWithLine (order ++ act.Processor cpu ∷ [])
ends-cpu order cpu before ring place e =
    let same : act.Processor cpu ≡ act.Seen ring place = last-act order before (act.Processor cpu) (act.Seen ring place) e in
    cc

none-behind : AreBehind []
none-behind = record {
  stands = tt;
  rises = λ ring. tt;
  acts = λ before some after a e. absurd (omega (arith, ap length e, length-append some (a ∷ after)));
}

cpu-behind : (cpu : CpuNo) → AreBehind (act.Processor cpu ∷ [])
cpu-behind cpu = record {
  stands = tt;
  rises = λ ring. tt;
  acts = λ before some after a e. one-act (IsRunAct before after) some after a (act.Processor cpu) tt e;
}

pub shaped-none : ShapedNoneLaw
shaped-none = (
  λ before after a e. none-behind.acts before before after a e,
  λ before ring place e. absurd (omega (arith, ap length e, length-append before (act.Seen ring place ∷ []))),
)

pub shaped-looks : ShapedLooksLaw
shaped-looks order looks shaped ends h =
    let whole : IsRunShaped (order ++ (looks ++ [])) = grown order looks [] shaped ends h none-behind in
    subst (λ l. IsRunShaped (order ++ l)) (append-nil looks) whole

pub shaped-cpu : ShapedCpuLaw
shaped-cpu order looks cpu shaped ends h = (
  grown order looks (act.Processor cpu ∷ []) shaped ends h (cpu-behind cpu),
  subst EndsWithLine (append_assoc order looks (act.Processor cpu ∷ [])) (ends-cpu (order ++ looks) cpu),
)

pub shaped-tool : ShapedToolLaw
shaped-tool order tool shaped ends = (tool-shaped, tool-ends)
  where
    tool-shaped : IsRunShaped (order ++ act.Tool tool ∷ [])
    tool-shaped before after a e = elim (split order (act.Tool tool ∷ []) before after a e) [
      | First rest is after_is ↦ subst (λ l. IsRunAct before l a) (sym after_is) (kept order (act.Tool tool ∷ []) before rest a shaped ends is)
      | Second some is more_is ↦ one-act (IsRunAct before after) some after a (act.Tool tool) tt more_is
    ]

    tool-ends : EndsWithLine (order ++ act.Tool tool ∷ [])
    tool-ends before ring place e =
        let same : act.Tool tool ≡ act.Seen ring place = last-act order before (act.Tool tool) (act.Seen ring place) e in
        cc
