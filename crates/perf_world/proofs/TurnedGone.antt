-- The ways of accounts where an instance comes or goes.
use Rattle.std.specs.{Prelude.{◌≡◌, Bool, true, false, is_some, List, [], ◌∷◌, Option, Some, None}, List.{fold}}
use Rattle.std.{specs.{Option.{unwrap_or}}, proofs.{Common.{arith, refl, ap}, lemmas.Bool.{false≢true}}}
use Rattle.std.proofs.lemmas.Bool.Decides.{nat_tests}
use Rattle.perf_base.specs.declared.{numbers.Key.{Key}, standing.Context.{Context}}
use Rattle.stage_spec.specs.{declared.instance.Instance.{Instance}, Hardware.{Hardware}}
use Rattle.world_spec.specs.{Value.{World, is_live, entry_at, times}, StageOf.{after_first}, Kept.{IsKept}}
use Rattle.world_spec.proofs.{Gone.{get-left, get-removed}, Keys.{key-is, is_key-other, times-cons, once-false}, Tables.{get-here, get-there}}
use Rattle.world_spec.proofs.Ways.{outside-group}
use Rattle.world_tables.specs.{Columns.{Columns, is_there, entry_in, way_in, taken}, Meters.{no_way}}
use Rattle.perf_world.specs.Parts.{joined_events, free_one, left_events}

-- an event that comes
pub joined-there : (k : Key) (i : Instance) (c : Context) (leader : Option Key) (t : Columns) → is_there (joined_events k i c leader t) k ≡ true
joined-there k i c None t = ap is_some (get-here t.entries k.0 _ k.0 refl)
joined-there k i c (Some first) t = ap is_some (get-here _ k.0 _ k.0 refl)

pub joined-ways : (k : Key) (i : Instance) (c : Context) (leader : Option Key) (t : Columns) (j : Key) → (j.0 ≡ k.0 → ⊥) → way_in (joined_events k i c leader t) j ≡ way_in t j
joined-ways k i c None t j apart = ap (λ o. unwrap_or o no_way) (get-there t.ways k.0 no_way j.0 apart)
joined-ways k i c (Some first) t j apart = ap (λ o. unwrap_or o no_way) (get-there t.ways k.0 no_way j.0 apart)

-- an event that goes
freed-ways : (keys : List Key) (t : Columns) → (fold free_one t keys).ways ≡ t.ways
freed-ways [] t = refl
freed-ways (k ∷ keys) t = freed-ways keys (free_one t k)

left-ways : (leading : Bool) (k : Key) (t : Columns) → (left_events leading k t).ways ≡ t.ways
left-ways true k t = freed-ways (after_first (entry_in t k).members) t
left-ways false k t = refl

pub gone-ways : (leading : Bool) (k : Key) (t : Columns) (j : Key) → (j.0 ≡ k.0 → ⊥) → way_in (taken k (left_events leading k t)) j ≡ way_in t j
gone-ways leading k t j apart = grind (arith, nat_tests, get-left, left-ways)

pub gone-there : (k : Key) (t : Columns) (j : Key) → (j.0 ≡ k.0 → ⊥) → is_there (taken k t) j ≡ is_there t j
gone-there k t j apart = ap is_some (get-left t.entries k.0 j.0 apart)

pub gone-self : (k : Key) (t : Columns) (j : Key) → is_there (taken k t) j ≡ true → j.0 ≡ k.0 → ⊥
gone-self k t j live same = grind (arith, nat_tests, false≢true, get-removed)

-- a key whose leader is not the one that goes
pub not-led : (hw : Hardware) (w : World) (key k : Key) → IsKept hw w → is_live w k ≡ true → (k.0 ≡ key.0 → ⊥) → times k (after_first (entry_at w key).members) ≡ 0
    → (entry_at w k).leader.0 ≡ key.0 → ⊥
not-led hw w key k h live apart none e = grind (arith, nat_tests, key-is, outside-group, times-cons, once-false, is_key-other)
