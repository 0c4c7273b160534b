use Rattle.std.proofs.{Common.{arith, ◌≡◌, ◌<◌, ◌≤◌, ◌∙◌, true, [], ◌∷◌, All, refl, sym, subst, cond, map, length}, lemmas.List.Elements.{All-cons}}
use Rattle.perf_base.specs.declared.numbers.{CpuNo.{CpuNo}, Key.{Key}}
use Rattle.stage_spec.specs.{Effective.{counted_members}, Hardware.{counters_of}, Tight.{masks_of}, Verdict.{is_eligible, with_masks}}
use Rattle.stage_laws.specs.Briefs.{GroupBrief}
use Rattle.world_spec.specs.{StageOf.{group_at}, Value.{World}}
use Rattle.cpu_sched.{specs.Briefs.{brief_at, IsGroupBrief}, proofs.Briefs.{software-uncounted, group-fits}}
use Rattle.cpu_sched.proofs.brief.add_eligible.Goals as goal

pub returns-clause-sound : goal.returns-clause-sound
returns-clause-sound c =
    let w : World = c.args.world.now in
    let cpu : CpuNo = c.args.cpu in
    let k : Key = c.args.leader in
    let P : GroupBrief Key → Type 0 = IsGroupBrief (counters_of w.hardware cpu) in
    let eligible : is_eligible w.hardware cpu (group_at w k) ≡ true = sym c.eligible.ensures ∙ c.if-not-eligible.false in
    let own : P (brief_at w k) = record {
      few = subst (λ es. length es ≤ 8) c.brief_of.ensures.events c.brief_of.ensures.few;
      software = software-uncounted w.hardware (group_at w k);
      masks = group-fits w.hardware cpu (group_at w k) (with_masks w.hardware (counted_members (group_at w k))) (counters_of w.hardware cpu) c.requires.hardware eligible refl
          (subst (λ es. All (λ mask. 0 < mask) (masks_of es)) c.brief_of.ensures.events c.brief_of.ensures.some) refl;
    } in
    subst (λ b. All P (map (brief_at w) (cond b (k ∷ []) []))) (sym eligible) (All-cons P (brief_at w k) [] own (λ i d low. absurd (omega (arith, low))))
