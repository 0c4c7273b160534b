-- That answers by a world are answers by its record, and that a settled stage stays under a line that asks.
use Rattle.std.specs.Prelude.{◌≡◌, true, is_some, All, slice_index_or}
use Rattle.std.proofs.{Common.{arith, refl, sym, ap, subst, ◌∙◌}, lemmas.{List.Elements.{All-map}}}
use Rattle.perf_base.specs.declared.{numbers.{EventNo.{EventNo}, Key.{Key}}}
use Rattle.stage_spec.specs.{Hardware.{Hardware}, Shares.{no_sums}, Stage.{is_open}}
use Rattle.ring_spec.specs.{Agreement.{IsCurrentSlot, Agree, AreFamiliesOpen}, Running.{Running, family_by, IsAnswerBy}}
use Rattle.ring_spec.proofs.{Agreement.{answer_agrees}, Running.{same_answer}}
use Rattle.world_spec.specs.{Agreement.{AgreesWith}, Kept.{IsKept, family_sums}, StageOf.{stage_of}, Staying.{IsOriginalOf}}
use Rattle.world_spec.specs.{Value.{World, instance_at}, Asking.{AnswerLaw}}
use Rattle.world_spec.proofs.{Copies.{times-at}}
use Rattle.world_spec.proofs.Families.{all_keys, instances-are, key-lives, family-sums, open-is}
use Rattle.world_spec.proofs.{Staying.{origin-is}}
use Rattle.world_spec.proofs.Agreement.{sums-within, family-lives}

-- the record with the world's own folded sums and lost counts
abbrev as_world : World → Running → Running
as_world w r = record r { stage = stage_of w; folded = λ e. slice_index_or w.folded e.0 no_sums; lost = λ e. slice_index_or w.lost e.0 0 }

as-agrees : (w : World) (r : Running) → AgreesWith w r → Agree r (as_world w r)
as-agrees w r a = record {
  stage = a.stage;
  sums = λ id current. refl;
  left = λ id there. refl;
  folded = λ e current. a.folded e (subst (λ s. IsCurrentSlot s e) a.stage current);
  lost = λ e current. a.lost e (subst (λ s. IsCurrentSlot s e) a.stage current);
  clock = λ cpu. refl;
  rings = refl;
}

-- the keys of a family are live
family-is : (hw : Hardware) (w : World) (r : Running) (e : EventNo) → IsKept hw w → AgreesWith w r → family_by (as_world w r) e ≡ family_sums w e.0
family-is hw w r e h a = grind (arith, family-sums, sums-within, family-lives)

families-open : (hw : Hardware) (w : World) → IsKept hw w → AreFamiliesOpen (stage_of w)
families-open hw w h =
    subst (All (λ i. is_open (stage_of w) i.event ≡ true)) (sym (instances-are hw w h))
    (All-map (λ i. is_open (stage_of w) i.event ≡ true) (instance_at w) (all_keys w) (λ n d low.
    let k : Key = slice_index_or (all_keys w) n d in
    let o : (original : Key) × IsOriginalOf w k original = origin-is hw w k h (key-lives hw w h k (times-at (all_keys w) n d low)) in
    open-is hw w (instance_at w k).event h ∙ ap is_some o.1.named))

pub answers-by : AnswerLaw
answers-by hw w r x a h agrees answer =
    let q : Running = as_world w r in
    let by_q : IsAnswerBy hw q x a = grind (arith, same_answer, family-is) in
    (answer_agrees hw r q x a (subst AreFamiliesOpen (sym agrees.stage) (families-open hw w h)) (as-agrees w r agrees)).1 by_q
