-- That a world that a step leads to agrees with the record after the step.
use Rattle.std.specs.Prelude.{◌≡◌, ℕ, ◌+◌, ◌<◌, ◌≤◌, ◌==◌, Bool, true, false, ◌&&◌, List, [], ◌∷◌, map, find, count_by, Option, Some, None, slice_index_or}
use Rattle.std.{specs.List.{list_any}, proofs.{Common.{arith, refl, sym, ap, subst, ◌∙◌, inl, inr}, lemmas.Bool.{cases_Bool, cases_lt, eq-eqb, false≢true}}}
use Rattle.std.proofs.lemmas.{Bool.Decides.{nat_tests}, List.{get_or_past}}
use Rattle.perf_base.specs.declared.{lines.ToolLine.{ToolLine}, numbers.{EventNo.{EventNo}, Key.{Key}}, reasons.Reason.{Reason}}
use Rattle.perf_base.specs.declared.lines.ToolLine.TheVariants as tool_line
use Rattle.stage_spec.specs.{declared.instance.Instance.{Instance}, Families.{plus, plus_each, leaving}}
use Rattle.stage_spec.specs.{Hardware.{Hardware}, History.{Step, CpuStep, ToolStep, SeenStep, stage_step}}
use Rattle.stage_spec.specs.Remainders.{instance_of, period_unless, line_period, new_period, left_by}
use Rattle.stage_spec.{specs.{Shares.{no_sums}, Stage.{Stage, all_instances}}, proofs.Births.{share-none, reset-none}}
use Rattle.stage_spec.proofs.{Each.{Each, head-Each, tail-Each}, Ids.{IdBelow, AllBelow}, Inside.{InStage-from_all}, Present.{each_at}}
use Rattle.stage_laws.{proofs.Leaders.{find-later}}
use Rattle.ring_spec.specs.{Account.{is_event}, Agreement.{IsCurrentSlot}, Running.{Running, record_after}, Sending.{length_by}}
use Rattle.world_spec.specs.{Agreement.{AgreesWith}, Kept.{IsKept, plus_keys}, StageOf.{stage_of}}
use Rattle.world_spec.specs.Value.{World, is_live, instance_at, account_at, is_key, times}
use Rattle.world_spec.specs.Stepping.{HasFolded, HasStepped, LosingLaw, SteppedLaw, losses_by}
use Rattle.world_spec.proofs.Families.{all_keys, times-keys, instances-are, key-lives}
use Rattle.world_spec.proofs.{Keys.{key-is, is_key-same, is_key-other, times-cons, once-true, once-false}, Listings.{is-numbered}, Slots.{past-none}}

-- no instance has an id that was not drawn
each-below : (hw : Hardware) (w : World) (id : ℕ) → IsKept hw w → w.quiet.next_id ≤ id → Each (IdBelow id) (all_instances (stage_of w))
each-below hw w id h past = grind (arith, nat_tests, is-numbered, each_at, IdBelow)

all-below : (hw : Hardware) (w : World) (id : ℕ) → IsKept hw w → w.quiet.next_id ≤ id → AllBelow id (stage_of w)
all-below hw w id h past = InStage-from_all (IdBelow id) (stage_of w) (each-below hw w id h past)

other-number : (m n : ℕ) → m < n → (m == n) ≡ false
other-number m n h = grind (arith, nat_tests, h)

no-such : (id : ℕ) (q : Instance → Bool) (xs : List Instance) → Each (IdBelow id) xs → list_any (λ i. i.id == id && q i) xs ≡ false
no-such id q [] h = refl
no-such id q (i ∷ xs) h = grind (arith, nat_tests, other-number, head-Each, IdBelow, tail-Each, no-such id q xs (tail-Each (IdBelow id) i xs h))

none-found : (id : ℕ) (xs : List Instance) → Each (IdBelow id) xs → find (λ i. i.id == id) xs ≡ None
none-found id [] h = refl
none-found id (i ∷ xs) h = grind (arith, find-later, other-number, head-Each, IdBelow, tail-Each, none-found id xs (tail-Each (IdBelow id) i xs h))

-- the instance of an id is that of its key
found-key : (w : World) (k : Key) (keys : List Key) → ((q : Key) → 1 ≤ times q keys → (instance_at w q).id ≡ (instance_at w k).id → q ≡ k) → 1 ≤ times k keys
    → find (λ i. i.id == (instance_at w k).id) (map (instance_at w) keys) ≡ Some (instance_at w k)
found-key w k [] only there = absurd (omega (arith, there))
found-key w k (q ∷ keys) only there = elim (cases_Bool ((instance_at w q).id == (instance_at w k).id)) [
  | inl same ↦ grind (arith, times-cons q q keys, once-true (is_key q q) (is_key-same q q refl))
  | inr other ↦
      let apart : q.0 ≡ k.0 → ⊥ = λ e. false≢true (sym other ∙ (ap (λ j. (instance_at w j).id == (instance_at w k).id) (key-is q k e) ∙ eq-eqb (instance_at w k).id (instance_at w k).id refl)) in
      let later : 1 ≤ times k keys = omega (arith, there, times-cons k q keys, once-false (is_key k q) (is_key-other k q apart)) in
      find-later (λ i. i.id == (instance_at w k).id) (instance_at w q) (map (instance_at w) keys) other
      ∙ found-key w k keys (λ j some e. only j (omega (arith, some, times-cons j q keys)) e) later
]

pub instance-found : (hw : Hardware) (w : World) (k : Key) → IsKept hw w → is_live w k ≡ true → instance_of (stage_of w) (instance_at w k).id ≡ Some (instance_at w k)
instance-found hw w k h live =
    ap (find (λ i. i.id == (instance_at w k).id)) (instances-are hw w h)
    ∙ found-key w k (all_keys w) (λ q some e. h.numbered.once q k (key-lives hw w h q some) live e)
    (omega (arith, times-keys hw w h k, once-true (is_live w k) live))

pub instance-none : (hw : Hardware) (w : World) (id : ℕ) → IsKept hw w → w.quiet.next_id ≤ id → instance_of (stage_of w) id ≡ None
instance-none hw w id h past = none-found id (all_instances (stage_of w)) (each-below hw w id h past)

-- a step adds nothing to an id that was not drawn, and sets it no period
fresh-sums : (hw : Hardware) (w : World) (r : Running) (x : Step) (id : ℕ) → IsKept hw w → AgreesWith w r → w.quiet.next_id ≤ id → (record_after hw r x).sums id ≡ no_sums
fresh-sums hw w r x id h a past = grind (arith, nat_tests, share-none, all-below, reset-none)

none-reached : (o : Option Reason) (b : Bool) (period : ℕ) → b ≡ false → period_unless o b period ≡ None
none-reached (Some reason) b period h = refl
none-reached None b period h = ap {B = Option ℕ} (λ x. elim x as (λ y. Option ℕ) [ true ↦ Some period | false ↦ None ]) h

call-period : (s : Stage) (line : ToolLine) (id : ℕ) → Each (IdBelow id) (all_instances s) → line_period s line id ≡ None
call-period s (tool_line.Open slot attr leader) id h = refl
call-period s (tool_line.Enable event group) id h = refl
call-period s (tool_line.Disable event group) id h = refl
call-period s (tool_line.Reset event group) id h = refl
call-period s (tool_line.Period event period) id h = search (nat_tests, none-reached, no-such)
call-period s (tool_line.Read event size) id h = refl
call-period s (tool_line.Map event ring) id h = refl
call-period s (tool_line.Output event target) id h = refl
call-period s (tool_line.Close event) id h = refl
call-period s (tool_line.Why event) id h = refl
call-period s (tool_line.Seats cpu) id h = refl

no-period : (s : Stage) (x : Step) (id : ℕ) → Each (IdBelow id) (all_instances s) → new_period s x id ≡ None
no-period s (CpuStep cpu line) id h = refl
no-period s (ToolStep line) id h = call-period s line id h
no-period s (SeenStep ring place) id h = refl

born-left : (hw : Hardware) (w after : World) (x : Step) (k : Key) (left : ℕ) → IsKept hw w → IsKept hw after → stage_of after ≡ stage_step hw (stage_of w) x → is_live after k ≡ true
    → w.quiet.next_id ≤ (instance_at after k).id → left_by hw (stage_of w) x (instance_at after k).id left ≡ (instance_at after k).attr.period
born-left hw w after x k left h h_after stage live past = grind (arith, nat_tests, no-period, each-below, instance-none, instance-found)

-- the sums of copies that go
gone-sums : (w : World) (r : Running) (gone : List Key) → AgreesWith w r → ((k : Key) → 1 ≤ times k gone → is_live w k ≡ true)
    → plus_each (λ i. r.sums i.id) (map (instance_at w) gone) ≡ plus_keys (λ k. (account_at w k).sums) gone
gone-sums w r [] a live = refl
gone-sums w r (k ∷ gone) a live =
    let first : r.sums (instance_at w k).id ≡ (account_at w k).sums = a.sums k (live k (omega (arith, times-cons k k gone, once-true (is_key k k) (is_key-same k k refl)))) in
    let rest : plus_each (λ i. r.sums i.id) (map (instance_at w) gone) ≡ plus_keys (λ q. (account_at w q).sums) gone = gone-sums w r gone a (λ q some. live q (omega (arith, some, times-cons q k gone))) in
    λ i. plus (first i) (rest i)

zero-more : (n : ℕ) → n + 0 ≡ n
zero-more n = omega arith

-- what holds of all but the counts of records lost
agrees-with : (hw : Hardware) (w after : World) (r : Running) (x : Step) → IsKept hw w → IsKept hw after → AgreesWith w r → HasStepped hw w (record after { lost = w.lost }) x
    → ((e : EventNo) → IsCurrentSlot (stage_of after) e → (record_after hw r x).lost e ≡ slice_index_or after.lost e.0 0) → AgreesWith after (record_after hw r x)
agrees-with hw w after r x h h_after a y lost = record {
  stage = ap (λ s. stage_step hw s x) a.stage ∙ sym y.stage;
  sums = λ k live. elim (cases_lt (instance_at after k).id w.quiet.next_id) [
    | inl before ↦ grind (arith, nat_tests, before)
    | inr past ↦ fresh-sums hw w r x (instance_at after k).id h a past ∙ sym (y.new k live past).sums
  ];
  fresh = λ id past. fresh-sums hw w r x id h a (omega (arith, past, y.drawn));
  left = λ k live. elim (cases_lt (instance_at after k).id w.quiet.next_id) [
    | inl before ↦ grind (arith, nat_tests, before)
    | inr past ↦ grind (arith, nat_tests, born-left, past)
  ];
  folded = λ e current.
      let g : (gone : List Key) × HasFolded w (record after { lost = w.lost }) x e gone = y.folded e current in
      (λ i. plus (a.folded e (y.slots e current) i) (plus_each (λ j. r.sums j.id) (leaving (a.stage i) x e)))
      ∙ (ap (λ js. plus (slice_index_or w.folded e.0 no_sums) (plus_each (λ j. r.sums j.id) js)) g.1.leaving
      ∙ (ap (plus (slice_index_or w.folded e.0 no_sums)) (gone-sums w r g.0 a g.1.live) ∙ sym g.1.sums));
  lost = lost;
  clock = λ cpu. ap (λ n. n + length_by cpu x) (a.clock cpu) ∙ sym (y.clock cpu);
}

-- a step that loses none, but for the counts of records lost
unlost : (hw : Hardware) (w after : World) (x : Step) → HasStepped hw w after x → HasStepped hw w (record after { lost = w.lost }) x
unlost hw w after x y = grind (arith, nat_tests)

pub stepped : SteppedLaw
stepped hw w after r x h h_after a y none =
    agrees-with hw w after r x h h_after a (unlost hw w after x y)
    (λ e current. ap (λ losses. r.lost e + count_by (is_event e) losses) none ∙ (zero-more (r.lost e) ∙ (a.lost e (y.slots e current) ∙ sym (y.lost e))))

pub stepped-losing : LosingLaw
stepped-losing hw w after r x h h_after a y =
    agrees-with hw w after r x h h_after a y.stepped (λ e current. elim (cases_lt e.0 256) [
      | inl low ↦ ap (λ n. n + count_by (is_event e) (losses_by hw r x)) (a.lost e (y.stepped.slots e current)) ∙ sym (y.lost e low)
      | inr past ↦
          let before : r.lost e ≡ 0 = a.lost e (y.stepped.slots e current) ∙ get_or_past w.lost e.0 0 (omega (arith, past, h.tables.lost)) in
          let slots : Each (λ i. i.event.0 < 256) (all_instances r.stage) = subst (λ s. Each (λ i. i.event.0 < 256) (all_instances s)) (sym a.stage) (each_at (λ i. i.event.0 < 256) (all_instances (stage_of w)) (is-numbered hw w h).slots) in
          omega (arith, before, past-none hw r x e slots past, get_or_past after.lost e.0 0 (omega (arith, past, h_after.tables.lost)))
    ])
