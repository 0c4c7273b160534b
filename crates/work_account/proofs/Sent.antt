-- Instances that sample are hit, and the records of each one's overflows are sent before the next one is hit.
use Rattle.std.specs.Prelude.{◌≡◌, ℕ, ◌+◌, List, [], ◌∷◌, length, map, drop, slice_get, Some}
use Rattle.std.proofs.Common.{arith, refl, sym, ap, subst, ◌∙◌}
use Rattle.sample_ring.specs.RingLists.{RingList, OutList}
use Rattle.world_spec.specs.{Value.{World}}
use Rattle.work_account.specs.declared.{overflowing.{Hit.{Hit}, Overflow.{Overflow}}, samples.Stretch.{Stretch}, walking.Walk.{Walk}}
use Rattle.work_account.specs.declared.happening.Happening.TheVariants as happening
use Rattle.work_account.specs.{Ends.{Ends, AreTogether, HaveSpace, send_all}, Visits.{hits_among, hits_by, overflows_of, hit_one, hit_all, overflow_of, MayHitAll}}
use Rattle.work_account.specs.{Sampling.{HasInstance, HaveRings, ends_of, sents_of, sents_all}, Walks.{keys_from}}
use Rattle.work_account.proofs.Sequences.{numbers-after, together-after, front-space, rest-space, rest-sends, send_all-none}
use Rattle.work_account.proofs.Walked.{IsStruck, struck-none, struck-next, but-counts, found-at, found-over, all-struck, all-counted, none-left, first-got, drop-mapped}

pub record IsUnderWay (w : World) (line : Stretch) (rings : RingList) (before : OutList) (start : ℕ) (walk : Walk) (now : World) (outs : OutList) (taken : ℕ) : Type 0 where
  pub struck : IsStruck (happening.Work line.work) w line.cpu walk now
  pub numbers : outs.numbers ≡ before.numbers
  pub together : AreTogether rings outs
  pub space : HaveSpace (HasInstance w) (length (sents_all w line (drop struck.at (overflows_of w line)))) (ends_of outs now)
  pub left : send_all (ends_of outs now) (sents_all w line (drop struck.at (overflows_of w line))) ≡ send_all (ends_of before w) (sents_all w line (overflows_of w line))
  pub steps : taken ≡ start + struck.at

pub none-sent : (w : World) (line : Stretch) (rings : RingList) (before : OutList) (start : ℕ) → AreTogether rings before
    → HaveSpace (HasInstance w) (length (sents_all w line (overflows_of w line))) (ends_of before w)
    → IsUnderWay w line rings before start (record { pass = 0; group = 0; member = 0 }) w before start
none-sent w line rings before start together space = record {
  struck = struck-none (happening.Work line.work) w line.cpu;
  numbers = refl;
  together = together;
  space = space;
  left = refl;
  steps = omega arith;
}

module _ (w : World) (line : Stretch) (rings : RingList) (before : OutList) (start : ℕ) (walk : Walk) (now : World) (outs : OutList) (taken : ℕ)
    (u : IsUnderWay w line rings before start walk now outs taken) where
  pub next-rings : HaveRings w before.numbers → HaveRings now outs.numbers
  next-rings rings_there =
      subst (λ (v : World). HaveRings v outs.numbers) (sym (but-counts (happening.Work line.work) w line.cpu walk now u.struck))
      (subst (HaveRings w) (sym u.numbers) rings_there)

  -- what is found, and the space that its records need
  module _ (h : Hit) (further : Walk) (may : MayHitAll w (hits_by w line))
      (found : hits_among (happening.Work line.work) now (keys_from now line.cpu walk) ≡ h ∷ hits_among (happening.Work line.work) now (keys_from now line.cpu further)) where
    over-at : slice_get (overflows_of w line) u.struck.at ≡ Some (overflow_of w h)
    over-at =
        first-got Overflow (overflows_of w line) (map (overflow_of w) (drop (u.struck.at + 1) (hits_by w line))) u.struck.at (overflow_of w h)
        (drop-mapped w (hits_by w line) u.struck.at ∙ ap (map (overflow_of w)) (found-at (happening.Work line.work) w line.cpu walk now u.struck h further found))

    over-same : overflow_of now h ≡ overflow_of w h
    over-same = found-over (happening.Work line.work) w line.cpu walk now u.struck h further found may

    sends-same : sents_of now line (overflow_of now h) ≡ sents_of w line (overflow_of w h)
    sends-same =
        ap (sents_of now line) over-same
        ∙ ap (λ (v : World). sents_of v line (overflow_of w h)) (but-counts (happening.Work line.work) w line.cpu walk now u.struck)

    pub next-space : HaveSpace (HasInstance now) (length (sents_of now line (overflow_of now h))) (ends_of outs now)
    next-space =
        subst (λ (l : List _). HaveSpace (HasInstance now) (length l) (ends_of outs now)) (sym sends-same)
        (subst (λ (v : World). HaveSpace (HasInstance v) (length (sents_of w line (overflow_of w h))) (ends_of outs now)) (sym (but-counts (happening.Work line.work) w line.cpu walk now u.struck))
        (front-space w line (overflows_of w line) u.struck.at (overflow_of w h) over-at (HasInstance w) (ends_of outs now) u.space))

    module _ (new : World) (after : OutList) (world : new ≡ record (hit_one now h) { lost = new.lost })
        (ends : ends_of after new ≡ send_all (ends_of outs now) (sents_of now line (overflow_of now h))) where
      is : ends_of after new ≡ send_all (ends_of outs now) (sents_of w line (overflow_of w h))
      is = ends ∙ ap (send_all (ends_of outs now)) sends-same

      pub one-sent : IsUnderWay w line rings before start further new after (taken + 1)
      one-sent = record {
        struck = struck-next (happening.Work line.work) w line.cpu walk now u.struck h further found new world;
        numbers = ap (λ (y : Ends). y.outs.numbers) is ∙ (numbers-after (sents_of w line (overflow_of w h)) (ends_of outs now) ∙ u.numbers);
        together = subst (λ (y : Ends). AreTogether rings y.outs) (sym is) (together-after rings (sents_of w line (overflow_of w h)) (ends_of outs now) u.together);
        space = rest-space w line (overflows_of w line) u.struck.at (overflow_of w h) over-at (HasInstance w) (ends_of outs now) (ends_of after new) is u.space;
        left = rest-sends w line (overflows_of w line) u.struck.at (overflow_of w h) over-at (ends_of outs now) (ends_of after new) is ∙ u.left;
        steps = omega (arith, u.steps);
      }

  -- once the walk is over
  module _ (none : hits_among (happening.Work line.work) now (keys_from now line.cpu walk) ≡ []) where
    pub all-hit : now ≡ record (hit_all (hits_by w line) w) { lost = now.lost }
    all-hit = all-struck (happening.Work line.work) w line.cpu walk now u.struck none

    pub all-sent : ends_of outs now ≡ send_all (ends_of before w) (sents_all w line (overflows_of w line))
    all-sent =
        sym (send_all-none (ends_of outs now))
        ∙ (ap (λ (l : List Overflow). send_all (ends_of outs now) (sents_all w line l))
        (sym (drop-mapped w (hits_by w line) u.struck.at ∙ ap (map (overflow_of w)) (none-left (happening.Work line.work) w line.cpu walk now u.struck none)))
        ∙ u.left)

    pub all-steps : taken ≡ start + length (hits_by w line)
    all-steps = omega (arith, u.steps, all-counted (happening.Work line.work) w line.cpu walk now u.struck none)
