-- What the tables have after some groups that were refused went to error, and that the world is kept.
use Rattle.std.specs.{Prelude.{◌≡◌, ◌≤◌, true, List, [], ◌∷◌}, FinMap.{get}, Option.{unwrap_or}}
use Rattle.std.proofs.{Common.{arith, refl, sym, ap, ◌∙◌, inl, inr}, lemmas.Bool.{cases_eq}}
use Rattle.perf_base.specs.declared.{numbers.Key.{Key}, standing.Standing.{Standing}}
use Rattle.perf_base.specs.declared.standing.Own.TheVariants as own
use Rattle.perf_base.specs.declared.standing.Standing.TheVariants as standing
use Rattle.stage_spec.specs.{declared.instance.Instance.{Instance}, Hardware.{Hardware}}
use Rattle.world_spec.specs.{Value.{World, is_live, entry_at, instance_at, standing_at, is_key, times}, Kept.{post_at, leads, IsKept}}
use Rattle.world_spec.specs.{Changes.{set_own}, Rescheduled.{fail_by, fail_group, fail_groups}}
use Rattle.world_spec.proofs.{Tables.{get-here, get-there, posts-same, entry-here, entry-there, entry-numbered}, Keeping.{own-kept, standing-kept}}
use Rattle.world_spec.proofs.{Keys.{is_key-same, is_key-other, times-cons, once-true, once-false}, Moving.{leads-parts}}

-- what becomes of an instance and of a standing
abbrev pub failed_instance : Standing → Instance → Instance
failed_instance standing.Out i = i
failed_instance standing.On i = i
failed_instance (standing.Refused cause) i = record i { own = own.Error cause }

abbrev pub calmed : Standing → Standing
calmed standing.Out = standing.Out
calmed standing.On = standing.On
calmed (standing.Refused cause) = standing.Out

calm-fails_none : (s : Standing) (i : Instance) → failed_instance (calmed s) i ≡ i
calm-fails_none standing.Out i = refl
calm-fails_none standing.On i = refl
calm-fails_none (standing.Refused cause) i = refl

calm-stays : (s : Standing) → calmed (calmed s) ≡ calmed s
calm-stays standing.Out = refl
calm-stays standing.On = refl
calm-stays (standing.Refused cause) = refl

-- one group
instance-here : (s : Standing) (w : World) (k q : Key) → q.0 ≡ k.0 → instance_at (fail_by s k w) q ≡ failed_instance s (instance_at w q)
instance-here standing.Out w k q e = refl
instance-here standing.On w k q e = refl
instance-here (standing.Refused cause) w k q e = grind (arith, entry-here, entry-numbered)

instance-there : (s : Standing) (w : World) (k q : Key) → (q.0 ≡ k.0 → ⊥) → instance_at (fail_by s k w) q ≡ instance_at w q
instance-there standing.Out w k q apart = refl
instance-there standing.On w k q apart = refl
instance-there (standing.Refused cause) w k q apart = grind (arith, entry-there)

standing-numbered : (w : World) (k q : Key) → q.0 ≡ k.0 → standing_at w q ≡ standing_at w k
standing-numbered w k q e = ap (λ n. unwrap_or (get w.standings n) standing.Out) e

standing-here : (s : Standing) (w : World) (k q : Key) → standing_at w k ≡ s → q.0 ≡ k.0 → standing_at (fail_by s k w) q ≡ calmed s
standing-here standing.Out w k q is e = standing-numbered w k q e ∙ is
standing-here standing.On w k q is e = standing-numbered w k q e ∙ is
standing-here (standing.Refused cause) w k q is e = ap (λ o. unwrap_or o standing.Out) (get-here w.standings k.0 standing.Out q.0 e)

standing-there : (s : Standing) (w : World) (k q : Key) → (q.0 ≡ k.0 → ⊥) → standing_at (fail_by s k w) q ≡ standing_at w q
standing-there standing.Out w k q apart = refl
standing-there standing.On w k q apart = refl
standing-there (standing.Refused cause) w k q apart = ap (λ o. unwrap_or o standing.Out) (get-there w.standings k.0 standing.Out q.0 apart)

-- some groups
pub record AreFailed (w t : World) (keys : List Key) : Type 0 where
  pub instances : (q : Key) → 1 ≤ times q keys → instance_at t q ≡ failed_instance (standing_at w q) (instance_at w q)
  pub standings : (q : Key) → 1 ≤ times q keys → standing_at t q ≡ calmed (standing_at w q)
  pub other_instances : (q : Key) → times q keys ≡ 0 → instance_at t q ≡ instance_at w q
  pub other_standings : (q : Key) → times q keys ≡ 0 → standing_at t q ≡ standing_at w q

pub are-failed : (keys : List Key) (w : World) → AreFailed w (fail_groups keys w) keys
are-failed [] w = grind arith
are-failed (k ∷ keys) w =
    let s : Standing = standing_at w k in
    let v : World = fail_group w k in
    let t : World = fail_groups keys v in
    let rest : AreFailed v t keys = are-failed keys v in
    let was : (q : Key) → q.0 ≡ k.0 → s ≡ standing_at w q = λ q e. sym (standing-numbered w k q e) in
    let here_instance : (q : Key) → q.0 ≡ k.0 → instance_at v q ≡ failed_instance (standing_at w q) (instance_at w q) =
    λ q e. instance-here s w k q e ∙ ap (λ x. failed_instance x (instance_at w q)) (was q e) in
    let here_standing : (q : Key) → q.0 ≡ k.0 → standing_at v q ≡ calmed (standing_at w q) = λ q e. standing-here s w k q refl e ∙ ap calmed (was q e) in
    let apart : (q : Key) → times q (k ∷ keys) ≡ 0 → q.0 ≡ k.0 → ⊥ = λ q none e.
    omega (arith, none, times-cons q k keys, once-true (is_key q k) (is_key-same q k (sym e))) in
    let first : (q : Key) → 1 ≤ times q (k ∷ keys) → times q keys ≡ 0 → q.0 ≡ k.0 = grind (arith, times-cons, once-false, is_key-other) in
    record {
      instances = λ q some. elim (cases_eq (times q keys) 0) [
        | inl none ↦ rest.other_instances q none ∙ here_instance q (first q some none)
        | inr more ↦ rest.instances q (omega (arith, more)) ∙ elim (cases_eq q.0 k.0) [
          | inl e ↦ grind (arith, e, calm-fails_none)
          | inr off ↦ (λ i. failed_instance (standing-there s w k q off i) (instance-there s w k q off i))
        ]
      ];
      standings = λ q some. elim (cases_eq (times q keys) 0) [
        | inl none ↦ rest.other_standings q none ∙ here_standing q (first q some none)
        | inr more ↦ rest.standings q (omega (arith, more)) ∙ elim (cases_eq q.0 k.0) [
          | inl e ↦ ap calmed (here_standing q e) ∙ calm-stays (standing_at w q)
          | inr off ↦ ap calmed (standing-there s w k q off)
        ]
      ];
      other_instances = λ q none. rest.other_instances q (omega (arith, none, times-cons q k keys)) ∙ instance-there s w k q (apart q none);
      other_standings = λ q none. rest.other_standings q (omega (arith, none, times-cons q k keys)) ∙ standing-there s w k q (apart q none);
    }

-- posts, contexts and what is quiet stay, and so does what is kept
one-posts : (s : Standing) (w : World) (k : Key) → is_live w k ≡ true → post_at (fail_by s k w) ≡ post_at w
one-posts standing.Out w k live = refl
one-posts standing.On w k live = refl
one-posts (standing.Refused cause) w k live = posts-same (λ i. record i { own = own.Error cause }) (λ b e. refl) w k live

one-rest : (s : Standing) (w : World) (k : Key) → ((fail_by s k w).contexts ≡ w.contexts) × ((fail_by s k w).quiet ≡ w.quiet)
one-rest standing.Out w k = (refl, refl)
one-rest standing.On w k = (refl, refl)
one-rest (standing.Refused cause) w k = (refl, refl)

pub failed-rest : (keys : List Key) (w : World) → ((fail_groups keys w).contexts ≡ w.contexts) × ((fail_groups keys w).quiet ≡ w.quiet)
failed-rest [] w = (refl, refl)
failed-rest (k ∷ keys) w = grind (arith, one-rest, failed-rest keys (fail_group w k))

abbrev pub AllLead : World → List Key → Type 0
AllLead w keys = (q : Key) → 1 ≤ times q keys → leads (post_at w) q ≡ true

rest-lead : (w : World) (k : Key) (keys : List Key) → AllLead w (k ∷ keys) → AllLead (fail_group w k) keys
rest-lead w k keys h q some =
    let mine : leads (post_at w) k ≡ true = h k (omega (arith, times-cons k k keys, once-true (is_key k k) (is_key-same k k refl))) in
    ap (λ at. leads at q) (one-posts (standing_at w k) w k (leads-parts (is_live w k) (is_key k (entry_at w k).leader) mine).0) ∙ h q (omega (arith, some, times-cons q k keys))

first-leads : (w : World) (k : Key) (keys : List Key) → AllLead w (k ∷ keys) → (is_live w k ≡ true) × (is_key k (entry_at w k).leader ≡ true)
first-leads w k keys h = grind (arith, times-cons k k keys, once-true (is_key k k) (is_key-same k k refl))

pub failed-posts : (keys : List Key) (w : World) → AllLead w keys → post_at (fail_groups keys w) ≡ post_at w
failed-posts [] w h = refl
failed-posts (k ∷ keys) w h = failed-posts keys (fail_group w k) (rest-lead w k keys h) ∙ one-posts (standing_at w k) w k (first-leads w k keys h).0

one-kept : (hw : Hardware) (s : Standing) (w : World) (k : Key) → is_live w k ≡ true → is_key k (entry_at w k).leader ≡ true → IsKept hw w → IsKept hw (fail_by s k w)
one-kept hw standing.Out w k live mine h = h
one-kept hw standing.On w k live mine h = h
one-kept hw (standing.Refused cause) w k live mine h =
    let t : World = set_own k (own.Error cause) w in
    let there : is_live t k ≡ true = ap (λ at. (at k).live) (one-posts (standing.Refused cause) w k live) ∙ live in
    standing-kept hw t k standing.Out there (own-kept hw w k (own.Error cause) live (λ error. mine) h)

pub failed-kept : (hw : Hardware) (keys : List Key) (w : World) → AllLead w keys → IsKept hw w → IsKept hw (fail_groups keys w)
failed-kept hw [] w lead h = h
failed-kept hw (k ∷ keys) w lead h =
    let mine : (is_live w k ≡ true) × (is_key k (entry_at w k).leader ≡ true) = first-leads w k keys lead in
    failed-kept hw keys (fail_group w k) (rest-lead w k keys lead) (one-kept hw (standing_at w k) w k mine.0 mine.1 h)
