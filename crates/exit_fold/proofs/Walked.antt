-- A world while the copies of a task are folded one by one, each of which leads a group when it goes.
use Rattle.std.specs.Prelude.{◌≡◌, ◌≢◌, ℕ, ◌<◌, ◌≤◌, ◌==◌, Bool, true, false, not, ◌&&◌, cond, List, [], ◌∷◌, ◌++◌, map, filter, Some, slice_index_or}
use Rattle.std.proofs.{Common.{arith, refl, sym, ap, subst, ◌∙◌, inl, inr}, lemmas.Bool.{cases_eq, cases_Bool, eq-eqb, false≢true, Decides.{nat_tests}}, Math.Bool.{and-true, and-false}}
use Rattle.std.proofs.lemmas.List.{map-append, get_or-set_other, Sums.{fold-append}}
use Rattle.perf_base.specs.declared.{numbers.{CpuNo.{CpuNo}, EventNo.{EventNo}, Key.{Key}, TaskNo.{TaskNo}}, reply.Sums.{Sums}}
use Rattle.perf_base.specs.declared.standing.Context.{Context}
use Rattle.perf_base.specs.declared.standing.Context.TheVariants as context
use Rattle.stage_spec.{specs.{Families.{plus}, Hardware.{Hardware}, Shares.{no_sums}, Stage.{place_of}}, proofs.Recurrence.{plus-assoc, plus-none}}
use Rattle.stage_laws.{specs.OneByOne.{drop_one, drop_ones}, proofs.Others.{cpu-task_apart}}
use Rattle.world_spec.specs.Value.{World, is_live, entry_at, instance_at, account_at, standing_at, leaders_of, family_of, is_key, times}
use Rattle.world_spec.specs.{StageOf.{stage_of}, Kept.{post_at, leads, once_if, is_member_of, plus_keys, family_sums, IsKept}}
use Rattle.world_spec.{specs.{Adding.{drop_instance, folded_away}, Changes.{all_but}, Staying.{HasGone}}, proofs.Counting.{times-filter, AreSameKeys}}
use Rattle.world_spec.proofs.{Disbanding.{Disbands}, Folding.{fold-stage, fold-sums, fold-kept, folded-is}}
use Rattle.world_spec.proofs.GoneLeader.{entries_freed, standings_freed, dropped-leader, tables-freed, led-disbands}
use Rattle.world_spec.proofs.Keys.{key-is, is_key-same, is_key-other, is_key-true, all_but-none, times-cons, times-push, once-true, once-false}
use Rattle.world_spec.proofs.{Moving.{leads-parts}, Staying.{fold-stays}}
use Rattle.exit_fold.specs.Leaving.{is_of_task, leaves}
use Rattle.exit_fold.proofs.Copies.{copy-there, filter-all, filter-none, filter-twice, plus-turned}
use Rattle.exit_fold.proofs.Going.{folded-apart, folded-untouched, own-family, own-folded, same-hardware}
use Rattle.world_spec.proofs.Coming.{number_true}
use Rattle.world_spec.proofs.Working.{filter-same}
use Rattle.world_spec.proofs.Families.{same-sums}

-- what the copies of an event that went had counted
abbrev pub sums_gone : World → World → EventNo → Sums
sums_gone v w e = plus_keys (λ k. (account_at v k).sums) (filter (λ k. not (is_live w k)) (family_of v e).copies)

pub record AreFolding (hw : Hardware) (task : TaskNo) (v w : World) : Type 0 where
  pub kept : IsKept hw w
  pub live : (k : Key) → is_live w k ≡ true → is_live v k ≡ true
  pub gone : (k : Key) → is_live v k ≡ true → is_live w k ≡ false → leaves v (Some task) k ≡ true
  pub instances : (k : Key) → is_live w k ≡ true → instance_at w k ≡ instance_at v k
  pub contexts : (k : Key) → is_live w k ≡ true → (entry_at w k).context ≡ (entry_at v k).context
  pub accounts : (k : Key) → is_live w k ≡ true → account_at w k ≡ account_at v k
  pub alike : (k : Key) → is_live w k ≡ true → is_of_task task (entry_at w k).context ≡ true → (instance_at w (entry_at w k).leader).copy ≡ (instance_at w k).copy
  pub away : (k : Key) → is_of_task task (entry_at v k).context ≡ false → (post_at w k ≡ post_at v k) × (standing_at w k ≡ standing_at v k)
  pub originals : (k : Key) → is_live w k ≡ true → (instance_at w k).copy ≡ false → (post_at w k ≡ post_at v k) × (standing_at w k ≡ standing_at v k)
  pub families : (e : EventNo) → family_of w e ≡ record (family_of v e) { copies = filter (is_live w) (family_of v e).copies }
  pub folded : (e : EventNo) → slice_index_or w.folded e.0 no_sums ≡ plus (slice_index_or v.folded e.0 no_sums) (sums_gone v w e)
  pub taken : List Key
  pub taken_times : (k : Key) → times k taken ≡ once_if (is_live v k && not (is_live w k))
  pub stage : stage_of w ≡ drop_ones (map (λ k. (instance_at v k).id) taken) (stage_of v)
  pub sums : (slot : ℕ) → family_sums w slot ≡ family_sums v slot
  pub lost : w.lost ≡ v.lost
  pub hardware : w.hardware ≡ v.hardware
  pub leaders : (cpu : CpuNo) → leaders_of w (context.Processor cpu) ≡ leaders_of v (context.Processor cpu)
  pub quiet : w.quiet ≡ v.quiet

-- at first
never-both : (b : Bool) → ◌≡◌ {A = ℕ} 0 (once_if (b && not b))
never-both true = refl
never-both false = refl

pub folding-none : (hw : Hardware) (task : TaskNo) (v : World) → IsKept hw v
    → ((k : Key) → is_live v k ≡ true → is_of_task task (entry_at v k).context ≡ true → (instance_at v (entry_at v k).leader).copy ≡ (instance_at v k).copy) → AreFolding hw task v v
folding-none hw task v h alike = record {
  kept = h;
  live = λ k live. live;
  gone = λ k live dead. absurd (false≢true (sym dead ∙ live));
  instances = λ k live. refl;
  contexts = λ k live. refl;
  accounts = λ k live. refl;
  alike = alike;
  away = λ k off. (refl, refl);
  originals = λ k live original. (refl, refl);
  families = λ e.
      let all : filter (is_live v) (family_of v e).copies ≡ (family_of v e).copies = filter-all (is_live v) (family_of v e).copies (λ k some. (copy-there hw v k e h some).0) in
      λ i. record (family_of v e) { copies = sym all i };
  folded = λ e.
      let none : filter (λ k. not (is_live v k)) (family_of v e).copies ≡ [] =
      filter-none (λ k. not (is_live v k)) (family_of v e).copies (λ k some. ap not (copy-there hw v k e h some).0) in
      sym (ap (λ ks. plus (slice_index_or v.folded e.0 no_sums) (plus_keys (λ k. (account_at v k).sums) ks)) none ∙ plus-none (slice_index_or v.folded e.0 no_sums));
  taken = [];
  taken_times = λ k. never-both (is_live v k);
  stage = refl;
  sums = λ slot. refl;
  lost = refl;
  hardware = refl;
  leaders = λ cpu. refl;
  quiet = refl;
}

-- a copy that leads a group in the task's context
pub record IsNext (w : World) (task : TaskNo) (q : Key) : Type 0 where
  pub lead : leads (post_at w) q ≡ true
  pub copy : (instance_at w q).copy ≡ true
  pub there : is_of_task task (entry_at w q).context ≡ true

pub next-live : (w : World) (task : TaskNo) (q : Key) → IsNext w task q → is_live w q ≡ true
next-live w task q x = (leads-parts (is_live w q) (is_key q (entry_at w q).leader) x.lead).0

pub next-gone : (hw : Hardware) (w : World) (task : TaskNo) (q : Key) → IsKept hw w → IsNext w task q → HasGone w (folded_away q w) q
next-gone hw w task q h x = fold-stays hw w q h (next-live w task q x) x.copy

-- which keys are there then
live-then : (w t : World) (q k : Key) → HasGone w t q → is_live t k ≡ (is_live w k && not (is_key q k))
live-then w t q k g = grind (arith, nat_tests, key-is, is_key-same, and-false, is_key-other, and-true)

live-but : (w t : World) (q : Key) (keys : List Key) → HasGone w t q → filter (is_live t) keys ≡ all_but q (filter (is_live w) keys)
live-but w t q keys g = filter-same (is_live t) (λ k. is_live w k && not (is_key q k)) keys (λ k some. live-then w t q k g) ∙ sym (filter-twice (is_live w) (λ k. not (is_key q k)) keys)

-- it is a copy of its own event alone, once
absent : (hw : Hardware) (v : World) (q : Key) (e : EventNo) → IsKept hw v → (e.0 ≡ (instance_at v q).event.0 → ⊥) → times q (family_of v e).copies ≡ 0
absent hw v q e h off = elim (cases_eq (times q (family_of v e).copies) 0) [
  | inl none ↦ none
  | inr some ↦ absurd (off (sym (number_true (instance_at v q).event.0 e.0 (copy-there hw v q e h (omega (arith, some))).1)))
]

only-copy : (live same copy : Bool) → live ≡ true → same ≡ true → copy ≡ true → once_if (live && same && copy) ≡ 1
only-copy live same copy a b c = λ i. once_if (a i && b i && c i)

present : (hw : Hardware) (v : World) (q : Key) → IsKept hw v → is_live v q ≡ true → (instance_at v q).copy ≡ true → times q (family_of v (instance_at v q).event).copies ≡ 1
present hw v q h live copy =
    let slot : ℕ = (instance_at v q).event.0 in
    h.linked.copies q slot ∙ only-copy (is_live v q) (slot == slot) (instance_at v q).copy live (eq-eqb slot slot refl) copy

-- the copies of an event that went
gone-sums : (hw : Hardware) (v w t : World) (q : Key) (slot : EventNo) → is_live w q ≡ true → HasGone w t q → times q (family_of v slot).copies ≡ 1
    → plus (sums_gone v w slot) (account_at v q).sums ≡ sums_gone v t slot
gone-sums hw v w t q slot live g one =
    let sums : Key → Sums = λ k. (account_at v k).sums in
    let keys : List Key = (family_of v slot).copies in
    let before : Key → Bool = λ k. not (is_live w k) in
    let after : Key → Bool = λ k. not (is_live t k) in
    let same : AreSameKeys (q ∷ filter before keys) (filter after keys) = λ k. elim (cases_eq k.0 q.0) [
      | inl is ↦
          let none : times q (filter before keys) ≡ 0 = times-filter q before keys ∙ ap (λ b. cond (not b) (times q keys) 0) live in
          let all : times q (filter after keys) ≡ times q keys = times-filter q after keys ∙ ap (λ b. cond (not b) (times q keys) 0) g.dead in
          subst (λ j. times j (q ∷ filter before keys) ≡ times j (filter after keys)) (sym (key-is k q is))
          (omega (arith, times-cons q q (filter before keys), once-true (is_key q q) (is_key-same q q refl), none, all, one))
      | inr off ↦
          let other : times k (filter before keys) ≡ times k (filter after keys) =
          times-filter k before keys ∙ (ap (λ b. cond (not b) (times k keys) 0) (sym (g.others.live k off)) ∙ sym (times-filter k after keys)) in
          omega (arith, times-cons k q (filter before keys), once-false (is_key k q) (is_key-other k q (λ e. off (sym e))), other)
    ] in
    plus-turned (plus_keys sums (filter before keys)) (sums q) ∙ same-sums sums (q ∷ filter before keys) (filter after keys) same

-- what is left of an event's family, and its folded sums
families-then : (hw : Hardware) (task : TaskNo) (v w : World) (q : Key) (e : EventNo) → IsKept hw v → AreFolding hw task v w → IsNext w task q
    → family_of (folded_away q w) e ≡ record (family_of v e) { copies = filter (is_live (folded_away q w)) (family_of v e).copies }
families-then hw task v w q e h f x =
    let t : World = folded_away q w in
    let g : HasGone w t q = next-gone hw w task q f.kept x in
    let live : is_live w q ≡ true = next-live w task q x in
    let slot : EventNo = (instance_at w q).event in
    let left : filter (is_live t) (family_of v e).copies ≡ all_but q (filter (is_live w) (family_of v e).copies) = live-but w t q (family_of v e).copies g in
    elim (cases_eq e.0 slot.0) [
      | inl is ↦
          let event : slot ≡ e = (let number : slot.0 ≡ e.0 = sym is in λ i. record { 0 = number i }) in
          subst (λ y. family_of t y ≡ record (family_of w y) { copies = all_but q (family_of w y).copies }) event (own-family hw w q f.kept live x.copy)
          ∙ ((λ i. record (f.families e i) { copies = all_but q (f.families e i).copies }) ∙ (λ i. record (family_of v e) { copies = sym left i }))
      | inr off ↦
          let none : times q (filter (is_live w) (family_of v e).copies) ≡ 0 =
          times-filter q (is_live w) (family_of v e).copies ∙ (ap (λ b. cond b (times q (family_of v e).copies) 0) live
          ∙ absent hw v q e h (λ same. off (same ∙ sym (ap (λ i. i.event.0) (f.instances q live))))) in
          g.families e off ∙ (f.families e ∙ (λ i. record (family_of v e) { copies = sym (left ∙ all_but-none q (filter (is_live w) (family_of v e).copies) none) i }))
    ]

folded-then : (hw : Hardware) (task : TaskNo) (v w : World) (q : Key) (e : EventNo) → IsKept hw v → AreFolding hw task v w → IsNext w task q
    → slice_index_or (folded_away q w).folded e.0 no_sums ≡ plus (slice_index_or v.folded e.0 no_sums) (sums_gone v (folded_away q w) e)
folded-then hw task v w q e h f x =
    let t : World = folded_away q w in
    let g : HasGone w t q = next-gone hw w task q f.kept x in
    let live : is_live w q ≡ true = next-live w task q x in
    let slot : EventNo = (instance_at w q).event in
    let before : Sums = slice_index_or v.folded e.0 no_sums in
    let same : (instance_at w q).event ≡ (instance_at v q).event = ap (λ i. i.event) (f.instances q live) in
    elim (cases_eq e.0 slot.0) [
      | inl is ↦
          let event : slot ≡ e = (let number : slot.0 ≡ e.0 = sym is in λ i. record { 0 = number i }) in
          let one : times q (family_of v e).copies ≡ 1 =
          subst (λ y. times q (family_of v y).copies ≡ 1) (sym same ∙ event) (present hw v q h (f.live q live) (ap (λ i. i.copy) (sym (f.instances q live)) ∙ x.copy)) in
          subst (λ y. slice_index_or t.folded y.0 no_sums ≡ plus (slice_index_or w.folded y.0 no_sums) (account_at w q).sums) event (own-folded hw w q f.kept live)
          ∙ ((λ i. plus (f.folded e i) (f.accounts q live i).sums)
          ∙ (plus-assoc before (sums_gone v w e) (account_at v q).sums ∙ ap (plus before) (gone-sums hw v w t q e live g one)))
      | inr off ↦
          let none : times q (family_of v e).copies ≡ 0 = absent hw v q e h (λ is. off (is ∙ sym (ap (λ y. y.0) same))) in
          let apart : (k : Key) → 1 ≤ times k (family_of v e).copies → k.0 ≡ q.0 → ⊥ = grind (arith, nat_tests, key-is) in
          g.folded e.0 off ∙ (f.folded e
          ∙ ap (λ ks. plus before (plus_keys (λ k. (account_at v k).sums) ks))
          (filter-same (λ k. not (is_live w k)) (λ k. not (is_live t k)) (family_of v e).copies (λ k some. ap not (sym (g.others.live k (apart k some))))))
    ]

-- members of a group stay alike
disbands : (hw : Hardware) (w : World) (task : TaskNo) (q : Key) → IsKept hw w → IsNext w task q → Disbands (post_at w) (post_at (folded_away q w)) q
disbands hw w task q h x =
    let own : is_key q (entry_at w q).leader ≡ true = (leads-parts (is_live w q) (is_key q (entry_at w q).leader) x.lead).1 in
    let dropped : Disbands (post_at w) (post_at (drop_instance q w)) q =
    search (nat_tests, Disbands, dropped-leader, led-disbands, entries_freed, standings_freed, tables-freed) in
    grind (arith, nat_tests, Disbands, folded-is, own)

alike-then : (hw : Hardware) (task : TaskNo) (v w : World) (q j : Key) → AreFolding hw task v w → IsNext w task q → is_live (folded_away q w) j ≡ true
    → is_of_task task (entry_at (folded_away q w) j).context ≡ true → (j.0 ≡ q.0 → ⊥)
    → (instance_at (folded_away q w) (entry_at (folded_away q w) j).leader).copy ≡ (instance_at (folded_away q w) j).copy
alike-then hw task v w q j f x live there apart =
    let t : World = folded_away q w in
    let g : HasGone w t q = next-gone hw w task q f.kept x in
    let d : Disbands (post_at w) (post_at t) q = disbands hw w task q f.kept x in
    let was : is_live w j ≡ true = sym (g.others.live j apart) ∙ live in
    elim (cases_Bool (is_member_of (post_at w) q j)) [
      | inl is ↦ ap (λ p. (instance_at t p.leader).copy) (d.freed j apart is)
      | inr off ↦
          let m : Key = (entry_at w j).leader in
          let other : m.0 ≡ q.0 → ⊥ = λ same. false≢true (sym off ∙ (ap (λ b. b && is_key q m) was ∙ is_key-same q m same)) in
          ap (λ p. (instance_at t p.leader).copy) (d.others j apart off)
          ∙ (ap (λ i. i.copy) (g.others.instances m other)
          ∙ (f.alike j was (ap (is_of_task task) (sym (g.others.contexts j apart)) ∙ there) ∙ ap (λ i. i.copy) (sym (g.others.instances j apart))))
    ]

-- an original is in no copy's group
original-apart : (hw : Hardware) (task : TaskNo) (v w : World) (q j : Key) → AreFolding hw task v w → IsNext w task q → (instance_at w j).copy ≡ false → is_member_of (post_at w) q j ≡ false
original-apart hw task v w q j f x original = elim (cases_Bool (is_member_of (post_at w) q j)) [
  | inl is ↦
      let parts : (is_live w j ≡ true) × (is_key q (entry_at w j).leader ≡ true) = leads-parts (is_live w j) (is_key q (entry_at w j).leader) is in
      let leader : (entry_at w j).leader ≡ q = key-is (entry_at w j).leader q (is_key-true q (entry_at w j).leader parts.1) in
      let on : is_of_task task (entry_at w j).context ≡ true = grind (arith, nat_tests) in
      absurd (false≢true (sym original ∙ (sym (f.alike j parts.0 on) ∙ (ap (λ m. (instance_at w m).copy) leader ∙ x.copy))))
  | inr off ↦ off
]

-- the keys that went
taken-then : (v w t : World) (q k : Key) (taken : List Key) → is_live v q ≡ true → is_live w q ≡ true → HasGone w t q → ((j : Key) → times j taken ≡ once_if (is_live v j && not (is_live w j)))
    → times k (taken ++ q ∷ []) ≡ once_if (is_live v k && not (is_live t k))
taken-then v w t q k taken there live g before = elim (cases_eq k.0 q.0) [
  | inl is ↦
      let none : once_if (is_live v q && not (is_live w q)) ≡ 0 = λ i. once_if (there i && not (live i)) in
      let one : once_if (is_live v q && not (is_live t q)) ≡ 1 = λ i. once_if (there i && not (g.dead i)) in
      subst (λ j. times j (taken ++ q ∷ []) ≡ once_if (is_live v j && not (is_live t j))) (sym (key-is k q is))
      (omega (arith, times-push q taken q, before q, none, one, once-true (is_key q q) (is_key-same q q refl)))
  | inr off ↦
      let same : once_if (is_live v k && not (is_live w k)) ≡ once_if (is_live v k && not (is_live t k)) = ap (λ b. once_if (is_live v k && not b)) (sym (g.others.live k off)) in
      omega (arith, times-push k taken q, before k, same, once-false (is_key k q) (is_key-other k q (λ e. off (sym e))))
]

-- the lists of processors' own contexts stay
task-apart : (cpu : CpuNo) (task : TaskNo) (c : Context) → is_of_task task c ≡ true → place_of c < 72 → place_of (context.Processor cpu) ≢ place_of c
task-apart cpu task (context.Processor other) there low = absurd (false≢true there)
task-apart cpu task (context.Task other) there low = λ same. omega (arith, low, same, cpu-task_apart cpu other same)

own-lists : (hw : Hardware) (w : World) (task : TaskNo) (q : Key) (cpu : CpuNo) → IsKept hw w → IsNext w task q
    → leaders_of (folded_away q w) (context.Processor cpu) ≡ leaders_of w (context.Processor cpu)
own-lists hw w task q cpu h x = grind (arith, nat_tests, leads-parts, folded-is, dropped-leader, get_or-set_other, task-apart, next-live)

-- one copy more
pub folding-more : (hw : Hardware) (task : TaskNo) (v w : World) (q : Key) → IsKept hw v → AreFolding hw task v w → IsNext w task q → AreFolding hw task v (folded_away q w)
folding-more hw task v w q h f x =
    let t : World = folded_away q w in
    let g : HasGone w t q = next-gone hw w task q f.kept x in
    let there : is_live w q ≡ true = next-live w task q x in
    let apart : (k : Key) → is_live t k ≡ true → k.0 ≡ q.0 → ⊥ = λ k live is. false≢true (sym g.dead ∙ (ap (is_live t) (sym (key-is k q is)) ∙ live)) in
    let was : (k : Key) → is_live t k ≡ true → is_live w k ≡ true = λ k live. sym (g.others.live k (apart k live)) ∙ live in
    record {
      kept = fold-kept hw w q there x.copy f.kept;
      live = λ k live. f.live k (was k live);
      gone = λ k live dead. elim (cases_eq k.0 q.0) [
        | inl is ↦
            subst (λ j. leaves v (Some task) j ≡ true) (sym (key-is k q is))
            (λ i. (ap (λ y. y.copy) (sym (f.instances q there)) ∙ x.copy) i && (ap (is_of_task task) (sym (f.contexts q there)) ∙ x.there) i)
        | inr off ↦ f.gone k live (sym (g.others.live k off) ∙ dead)
      ];
      instances = λ k live. g.others.instances k (apart k live) ∙ f.instances k (was k live);
      contexts = λ k live. g.others.contexts k (apart k live) ∙ f.contexts k (was k live);
      accounts = λ k live. g.others.accounts k (apart k live) ∙ f.accounts k (was k live);
      alike = λ k live on. alike-then hw task v w q k f x live on (apart k live);
      away = λ k off.
          let differ : (entry_at w k).context ≡ (entry_at w q).context → ⊥ = λ same.
          false≢true (sym (ap (λ p. is_of_task task p.context) (f.away k off).0 ∙ off) ∙ (ap (is_of_task task) same ∙ x.there)) in
          let u : (post_at t k ≡ post_at w k) × (standing_at t k ≡ standing_at w k) = folded-untouched hw w q k f.kept there x.copy differ in
          (u.0 ∙ (f.away k off).0, u.1 ∙ (f.away k off).1);
      originals = λ k live original.
          let before : (instance_at w k).copy ≡ false = ap (λ i. i.copy) (sym (g.others.instances k (apart k live))) ∙ original in
          let u : (post_at t k ≡ post_at w k) × (standing_at t k ≡ standing_at w k) =
          folded-apart hw w q k f.kept x.lead (apart k live) (original-apart hw task v w q k f x before) in
          let first : (post_at w k ≡ post_at v k) × (standing_at w k ≡ standing_at v k) = f.originals k (was k live) before in
          (u.0 ∙ first.0, u.1 ∙ first.1);
      families = λ e. families-then hw task v w q e h f x;
      folded = λ e. folded-then hw task v w q e h f x;
      taken = f.taken ++ q ∷ [];
      taken_times = λ k. taken-then v w t q k f.taken (f.live q there) there g f.taken_times;
      stage =
          let id : Key → ℕ = λ k. (instance_at v k).id in
          fold-stage hw w q f.kept there x.copy
          ∙ ((λ i. drop_one (f.instances q there i).id (f.stage i))
          ∙ (sym (fold-append (λ s number. drop_one number s) (stage_of v) (map id f.taken) (id q ∷ []))
          ∙ ap (λ ids. drop_ones ids (stage_of v)) (sym (map-append id f.taken (q ∷ [])))));
      sums = λ number. fold-sums hw w q f.kept there x.copy number ∙ f.sums number;
      lost = g.others.lost ∙ f.lost;
      hardware = same-hardware w q ∙ f.hardware;
      leaders = λ cpu. own-lists hw w task q cpu f.kept x ∙ f.leaders cpu;
      quiet = g.quiet ∙ f.quiet;
    }
