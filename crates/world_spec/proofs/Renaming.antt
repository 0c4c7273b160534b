-- A change of the instance at a key is the stage's change of the instance of its id.
use Rattle.std.specs.{Prelude.{◌≡◌, ℕ, true, false, List, map, is_some, Option, Some, None, if◌then◌else◌}, FinMap.{get}, Option.{unwrap_or}}
use Rattle.std.proofs.{Common.{arith, refl, sym, ap, ◌∙◌, inl, inr}, lemmas.Bool.{cases_Bool, false≢true, Decides.{nat_tests}}}
use Rattle.std.proofs.lemmas.Simd.{map-map}
use Rattle.perf_base.specs.declared.numbers.Key.{Key}
use Rattle.stage_spec.specs.{declared.instance.Instance.{Instance}, Stage.{change_group, change_lists}}
use Rattle.stage_laws.{specs.{Sound.{has_id}, OneByOne.{change_one}}, proofs.Images.{map-same}}
use Rattle.world_spec.specs.Value.{World, Leaders, is_live, entry_at, instance_at, no_entry}
use Rattle.world_spec.specs.{StageOf.{group_at, lists_at, stage_of}, Kept.{AreNumbered, post_at}, Changes.{with_instance}}
use Rattle.world_spec.proofs.Tables.{KeepsPost, posts-same, entry-here, entry-there, entry-numbered}

-- what is at a key that names nothing
none-there : {X : Type 0} (o : Option X) (d : X) → is_some o ≡ false → unwrap_or o d ≡ d
none-there None d h = refl
none-there (Some x) d h = absurd (false≢true (sym h))

pub dead-entry : (w : World) (q : Key) → is_live w q ≡ false → entry_at w q ≡ no_entry
dead-entry w q dead = none-there (get w.entries q.0) no_entry dead

-- an id names one key
same_ids : (i j : Instance) → i.id ≡ j.id → has_id j.id i ≡ true
same_ids i j e = grind (arith, nat_tests)

other_ids : (i : Instance) (n : ℕ) → (i.id ≡ n → ⊥) → has_id n i ≡ false
other_ids i n apart = grind (arith, nat_tests)

pub id-apart : (w : World) (k q : Key) → AreNumbered (post_at w) w.quiet.next_id → is_live w k ≡ true → (q.0 ≡ k.0 → ⊥) → has_id (instance_at w k).id (instance_at w q) ≡ false
id-apart w k q numbered there apart = other_ids (instance_at w q) (instance_at w k).id (λ same. elim (cases_Bool (is_live w q)) [
  | inl live ↦ apart (ap (λ j. j.0) (numbered.once q k live there same))
  | inr dead ↦ grind (arith, nat_tests, dead-entry, dead)
])

-- a change of the instance at a key, seen at each key
abbrev pub one_changed : (Instance → Instance) → ℕ → Instance → Instance
one_changed f id i = if has_id id i then f i else i

pub instance-changed : (f : Instance → Instance) (w : World) (k : Key) → AreNumbered (post_at w) w.quiet.next_id → is_live w k ≡ true
    → (q : Key) → instance_at (with_instance f k w) q ≡ one_changed f (instance_at w k).id (instance_at w q)
instance-changed f w k numbered there q = grind (arith, nat_tests, entry-numbered, entry-here, same_ids, entry-there, id-apart)

-- groups, lists and all contexts, where each instance is changed alike and members stay
pub renamed-all : (g : Instance → Instance) (w t : World) → ((q : Key) → instance_at t q ≡ g (instance_at w q)) → ((q : Key) → (entry_at t q).members ≡ (entry_at w q).members)
    → (ls : List Leaders) → map (lists_at t) ls ≡ map (change_lists g) (map (lists_at w) ls)
renamed-all g w t here members ls =
    let instances : (keys : List Key) → map (instance_at t) keys ≡ map g (map (instance_at w) keys)
    = λ keys. map-same (instance_at t) (λ q. g (instance_at w q)) here keys ∙ sym (map-map g (instance_at w) keys) in
    let group : (q : Key) → group_at t q ≡ change_group g (group_at w q) = grind (arith, nat_tests) in
    let groups : (keys : List Key) → map (group_at t) keys ≡ map (change_group g) (map (group_at w) keys)
    = λ keys. map-same (group_at t) (λ q. change_group g (group_at w q)) group keys ∙ sym (map-map (change_group g) (group_at w) keys) in
    let lists : (l : Leaders) → lists_at t l ≡ change_lists g (lists_at w l) = λ l i. record { pinned = groups l.pinned i; flexible = groups l.flexible i } in
    map-same (lists_at t) (λ l. change_lists g (lists_at w l)) lists ls ∙ sym (map-map (change_lists g) (lists_at w) ls)

pub instance-stage : (f : Instance → Instance) → KeepsPost f → (w : World) (k : Key) → AreNumbered (post_at w) w.quiet.next_id → is_live w k ≡ true
    → stage_of (with_instance f k w) ≡ change_one f (instance_at w k).id (stage_of w)
instance-stage f keeps w k numbered there =
    ap (λ cs. record (stage_of w) { contexts = cs }) (renamed-all (one_changed f (instance_at w k).id) w (with_instance f k w)
    (instance-changed f w k numbered there) (λ q. ap (λ at. (at q).members) (posts-same f keeps w k there)) w.contexts)
