-- A plan that grows group by group has the verdicts of the brief.
use Rattle.std.specs.{Prelude.{◌≡◌, ℕ, suc, ◌+◌, ◌<◌, ◌≤◌, Bool, not, ◌&&◌, List, [], ◌∷◌, ◌++◌, length, flat_map, None, take, slice_index_or}, List.{fold}}
use Rattle.std.proofs.{Common.{arith, refl, sym, ap, subst, ◌∙◌, append_assoc}, Math.Seq.{take-suc}, lemmas.{Grind.{flat_map-append}, List.{append-nil, map-append, take_all}}}
use Rattle.std.proofs.lemmas.List.{Elements.{filter-append}, Sums.{sum_by-append}}
use Rattle.perf_base.specs.{declared.{numbers.{EventNo.{EventNo}, Key.{Key}}, standing.Standing.{Standing}}, Standings.{stands_on}}
use Rattle.perf_base.specs.declared.standing.Standing.TheVariants as standing
use Rattle.stage_spec.specs.{Rules.{ruling_of}, Verdict.{by_ruling}}
use Rattle.stage_laws.specs.Briefs.{GroupBrief, JudgedBrief, briefs_on, first_slot, first_brief_refused, judge_brief, judge_briefs, judge_brief_passes, standings_by, seated_by}
use Rattle.cpu_sched.specs.{declared.judging.SoFar.{SoFar}, Judging.{first_or, events_next}, Briefs.{ProcessorBrief}}
use Rattle.cpu_sched.specs.Plans.{Draft, IsPlanOf, judged_groups, planned_of, with_planned, plan_one, plan_pass_of, draft_of, tried_by}
use Rattle.cpu_sched.{specs.Tried.{tries_for}, proofs.Telling.{first-stays, first-push}}
use Rattle.counter_match.specs.Seating.{Seated}

abbrev judged : GroupBrief Key → Standing → JudgedBrief Key
judged b s = record { brief = b; standing = s }

-- the groups that are on, with one more that was judged
on-append : (js ks : List (JudgedBrief Key)) → briefs_on (js ++ ks) ≡ briefs_on js ++ briefs_on ks
on-append js ks = grind (arith, filter-append, map-append)

off-push : (js : List (JudgedBrief Key)) (k : JudgedBrief Key) → briefs_on (k ∷ []) ≡ [] → briefs_on (js ++ k ∷ []) ≡ briefs_on js
off-push js k off = on-append js (k ∷ []) ∙ (ap (λ bs. briefs_on js ++ bs) off ∙ append-nil (briefs_on js))

slot-push : (test : GroupBrief Key → Bool) (js : List (JudgedBrief Key)) (b : GroupBrief Key) (s : Standing)
    → first_slot test (briefs_on (js ++ judged b s ∷ [])) ≡ first_or (stands_on s && test b) b.slot (first_slot test (briefs_on js))
slot-push test js b standing.Out = ap (first_slot test) (off-push js (judged b standing.Out) refl) ∙ sym (first-stays b.slot (first_slot test (briefs_on js)))
slot-push test js b standing.On = ap (first_slot test) (on-append js (judged b standing.On ∷ [])) ∙ first-push (λ c. c.slot) test (briefs_on js) b
slot-push test js b (standing.Refused cause) = ap (first_slot test) (off-push js (judged b (standing.Refused cause)) refl) ∙ sym (first-stays b.slot (first_slot test (briefs_on js)))

seated-push : (js : List (JudgedBrief Key)) (b : GroupBrief Key) (s : Standing) → seated_by (js ++ judged b s ∷ []) ≡ events_next s b.counted (seated_by js)
seated-push js b standing.Out = ap (flat_map (λ c. c.counted)) (off-push js (judged b standing.Out) refl)
seated-push js b standing.On = grind (arith, on-append, flat_map-append, append-nil)
seated-push js b (standing.Refused cause) = ap (flat_map (λ c. c.counted)) (off-push js (judged b (standing.Refused cause)) refl)

pub tried-parts : (js ks : List (JudgedBrief Key)) → tried_by (js ++ ks) ≡ tried_by js + tried_by ks
tried-parts js ks = sum_by-append (λ j. tries_for j.standing (length j.brief.counted)) js ks

tried-push : (js : List (JudgedBrief Key)) (b : GroupBrief Key) (s : Standing) → tried_by (js ++ judged b s ∷ []) ≡ tried_by js + tries_for s (length b.counted)
tried-push js b s = omega (arith, tried-parts js (judged b s ∷ []))

-- What a draft is after some groups were judged, those of earlier passes and those within this one; for some events
-- counters were tried before it began.
pub record Drafts (n : ℕ) (before within : List (JudgedBrief Key)) (d : Draft) : Type 0 where
  pub standings : d.standings ≡ standings_by (before ++ within)
  pub events : d.events ≡ seated_by (before ++ within)
  pub exclusive : d.so_far.exclusive_on ≡ first_slot (λ c. c.exclusive) (briefs_on (before ++ within))
  pub first : d.so_far.first_on ≡ first_slot (λ c. not c.software) (briefs_on (before ++ within))
  pub refused : d.so_far.refused ≡ first_brief_refused within
  pub tried : n + d.tried ≡ tried_by (before ++ within)

-- the standing that is planned is the verdict
planned-is : (n : ℕ) (before within : List (JudgedBrief Key)) (d : Draft) (b : GroupBrief Key) → Drafts n before within d → planned_of d b ≡ judge_brief before within b
unfolding judge_brief
planned-is n before within d b h = λ i. by_ruling (ruling_of b.software b.exclusive (h.exclusive i) (h.first i) (h.refused i)) (h.events i ++ b.counted)

one-more : (n : ℕ) (before within : List (JudgedBrief Key)) (d : Draft) (b : GroupBrief Key) (s : Standing) → Drafts n before within d → Drafts n before (within ++ judged b s ∷ []) (with_planned b s d)
one-more n before within d b s h =
    let along : (before ++ within) ++ judged b s ∷ [] ≡ before ++ (within ++ judged b s ∷ []) = append_assoc before within (judged b s ∷ []) in
    grind (arith, map-append, along, seated-push, slot-push, first-push, tried-push)

next : (n : ℕ) (before within : List (JudgedBrief Key)) (d : Draft) (b : GroupBrief Key) → Drafts n before within d
    → Drafts n before (within ++ judged b (judge_brief before within b) ∷ []) (plan_one d b)
next n before within d b h =
    subst (λ s. Drafts n before (within ++ judged b s ∷ []) (plan_one d b)) (planned-is n before within d b h) (one-more n before within d b (planned_of d b) h)

fold-planned : (n : ℕ) (bs : List (GroupBrief Key)) (before within : List (JudgedBrief Key)) (d : Draft) → Drafts n before within d → Drafts n before (judge_briefs before within bs) (fold plan_one d bs)
unfolding judge_briefs
fold-planned n [] before within d h = h
fold-planned n (b ∷ bs) before within d h = fold-planned n bs before (within ++ judged b (judge_brief before within b) ∷ []) (plan_one d b) (next n before within d b h)

pass-over : (n : ℕ) (before within : List (JudgedBrief Key)) (d : Draft) → Drafts n before within d → Drafts n (before ++ within) [] (record d { so_far = record d.so_far { refused = None } })
pass-over n before within d h =
    let same : before ++ within ≡ (before ++ within) ++ [] = sym (append-nil (before ++ within)) in
    grind (arith, same)

-- a pass, with the counting of tries begun anew
abbrev pub after_pass : List (JudgedBrief Key) → List (GroupBrief Key) → List (JudgedBrief Key)
after_pass before bs = before ++ judge_briefs before [] bs

abbrev pub Begins : List (JudgedBrief Key) → List (Key × Standing) → List (EventNo × ℕ) → SoFar → Type 0
Begins before standings events so_far = Drafts (tried_by before) before [] (draft_of standings events so_far)

whole-pass : (before : List (JudgedBrief Key)) (standings : List (Key × Standing)) (events : List (EventNo × ℕ)) (so_far : SoFar) (bs : List (GroupBrief Key)) → Begins before standings events so_far
    → Drafts (tried_by before) (after_pass before bs) [] (plan_pass_of (draft_of standings events so_far) bs)
whole-pass before standings events so_far bs h =
    pass-over (tried_by before) before (judge_briefs before [] bs) (fold plan_one (draft_of standings events so_far) bs)
    (fold-planned (tried_by before) bs before [] (draft_of standings events so_far) h)

pub pass-planned : (before : List (JudgedBrief Key)) (standings standings_now : List (Key × Standing)) (events events_now : List (EventNo × ℕ)) (so_far so_far_now : SoFar) (bs : List (GroupBrief Key))
    → Begins before standings events so_far
    → standings_now ≡ (plan_pass_of (draft_of standings events so_far) bs).standings
    → events_now ≡ (plan_pass_of (draft_of standings events so_far) bs).events
    → so_far_now ≡ (plan_pass_of (draft_of standings events so_far) bs).so_far
    → Begins (after_pass before bs) standings_now events_now so_far_now
pass-planned before standings standings_now events events_now so_far so_far_now bs h e1 e2 e3 =
    let p : Drafts (tried_by before) (after_pass before bs) [] (plan_pass_of (draft_of standings events so_far) bs) = whole-pass before standings events so_far bs h in
    grind (arith, append-nil)

pub pass-tried : (before : List (JudgedBrief Key)) (standings : List (Key × Standing)) (events : List (EventNo × ℕ)) (so_far : SoFar) (bs : List (GroupBrief Key)) → Begins before standings events so_far
    → tried_by before + (plan_pass_of (draft_of standings events so_far) bs).tried ≡ tried_by (after_pass before bs)
pass-tried before standings events so_far bs h =
    (whole-pass before standings events so_far bs h).tried ∙ ap tried_by (append-nil (after_pass before bs))

pub begins : (standings : List (Key × Standing)) (events : List (EventNo × ℕ)) (so_far : SoFar) → standings ≡ [] → events ≡ []
    → so_far ≡ record { exclusive_on = None; first_on = None; refused = None } → Begins [] standings events so_far
begins standings events so_far e1 e2 e3 = record {
  standings = e1;
  events = e2;
  exclusive = ap (λ f. f.exclusive_on) e3;
  first = ap (λ f. f.first_on) e3;
  refused = ap (λ f. f.refused) e3;
  tried = refl;
}

-- the verdicts of some passes, and of one more
passes-push : (before : List (JudgedBrief Key)) (ps : List (List (GroupBrief Key))) (p : List (GroupBrief Key))
    → judge_brief_passes before (ps ++ p ∷ []) ≡ after_pass (judge_brief_passes before ps) p
unfolding judge_brief_passes
passes-push before [] p = refl
passes-push before (q ∷ ps) p = passes-push (after_pass before q) ps p

abbrev pub first_judged : ProcessorBrief → ℕ → List (JudgedBrief Key)
first_judged b passes = judge_brief_passes [] (take passes b.passes)

pub judged-next : (b : ProcessorBrief) (pass : ℕ) → pass < length b.passes → first_judged b (pass + 1) ≡ after_pass (first_judged b pass) (slice_index_or b.passes pass [])
judged-next b pass low =
    let one : pass + 1 ≡ suc pass = omega arith in
    ap (judge_brief_passes []) (ap (λ n. take n b.passes) one ∙ take-suc b.passes pass [] low) ∙ passes-push [] (take pass b.passes) (slice_index_or b.passes pass [])

pub judged-none : (b : ProcessorBrief) → first_judged b 0 ≡ []
unfolding judge_brief_passes
judged-none b = refl

-- all passes are the whole
pub judged-all : (b : ProcessorBrief) (passes : ℕ) → length b.passes ≤ passes → first_judged b passes ≡ judged_groups b
judged-all b passes past = ap (judge_brief_passes []) (take_all passes b.passes past)

pub plan-is : (b : ProcessorBrief) (passes : ℕ) (standings : List (Key × Standing)) (seats : Seated) (so_far : SoFar) → length b.passes ≤ passes
    → Begins (first_judged b passes) standings seats.events so_far → seats.counters ≡ b.counters → IsPlanOf b (record { standings = standings; seats = seats })
plan-is b passes standings seats so_far past h counters = grind (arith, append-nil, judged-all)
