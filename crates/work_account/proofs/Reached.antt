-- The keys that a processor reaches: no two are of one family.
use Rattle.std.specs.Prelude.{◌≡◌, ℕ, ◌≤◌, ◌==◌, Bool, true, false, List, ◌∷◌, map, flat_map, count_by, if◌then◌else◌}
use Rattle.std.proofs.{Common.{arith, refl, ap, ◌∙◌}}
use Rattle.perf_base.specs.declared.{numbers.{CpuNo.{CpuNo}, EventNo.{EventNo}, Key.{Key}}, standing.Context.{Context}}
use Rattle.stage_spec.specs.{Hardware.{Hardware}}
use Rattle.stage_spec.specs.{Stage.{members, is_of_family, place_of}, Verdict.{reached}}
use Rattle.world_spec.specs.{Value.{World, entry_at, instance_at, leaders_of, is_key, times}, StageOf.{group_at, stage_of}}
use Rattle.world_spec.specs.{Kept.{post_at, leads, IsKept}, Listings.{pass_leaders}, Working.{keys_by_pass, leaders_by_pass}}
use Rattle.world_spec.proofs.{Families.{members-are}}
use Rattle.world_spec.proofs.Keys.{is_key-same, times-cons, once-true}
use Rattle.world_spec.proofs.Listings.{passes-are, flat-mapped, reached-leading, one-on_processor, count-mapped}
use Rattle.world_tables.specs.Places.{picked}
use Rattle.world_spec.proofs.Along.{once-three}

-- whether an instance is of the family of a slot
abbrev pub is_in : World → ℕ → Key → Bool
is_in w slot k = (instance_at w k).event.0 == slot

pub one-each : (hw : Hardware) (w : World) (cpu : CpuNo) → IsKept hw w → (slot : ℕ) → count_by (is_in w slot) (keys_by_pass w cpu) ≤ 1
one-each hw w cpu h slot =
    let e : EventNo = record { 0 = slot } in
    let leaders : List Key = leaders_by_pass w cpu in
    let are : reached (stage_of w) cpu ≡ map (instance_at w) (keys_by_pass w cpu) =
    ap (λ ps. members (flat_map (λ p. p) ps)) (passes-are w cpu) ∙ (ap members (flat-mapped (group_at w) (pass_leaders w cpu)) ∙ members-are hw w h leaders (reached-leading hw w h cpu)) in
    omega (arith, one-on_processor hw w cpu e h, ap (count_by (is_of_family e)) are, count-mapped w (is_of_family e) (keys_by_pass w cpu))

pub stands-first : (k : Key) (keys : List Key) → 1 ≤ times k (k ∷ keys)
stands-first k keys = omega (arith, times-cons k k keys, once-true (is_key k k) (is_key-same k k refl))

-- who stands in a list of a context leads
pub listed-leads : (hw : Hardware) (w : World) (c : Context) (pinned : Bool) (q : Key) → IsKept hw w → 1 ≤ times q (picked pinned (leaders_of w c)) → leads (post_at w) q ≡ true
listed-leads hw w c true q h some =
    (once-three (leads (post_at w) q) (place_of (entry_at w q).context == place_of c) (if (entry_at w q).pinned then true else false) (omega (arith, some, h.linked.pinned q (place_of c)))).0
listed-leads hw w c false q h some =
    (once-three (leads (post_at w) q) (place_of (entry_at w q).context == place_of c) (if (entry_at w q).pinned then false else true) (omega (arith, some, h.linked.flexible q (place_of c)))).0
