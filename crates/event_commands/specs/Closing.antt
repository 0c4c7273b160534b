-- inner
-- What is left of a world when instances went, key by key. After perf_release, perf_event_release_kernel and
-- perf_group_detach of kernel/events/core.c; the tables are this project's own profile.
use Rattle.std.specs.Prelude.{◌≡◌, ◌≢◌, ◌≤◌, true, false, List, map, if◌then◌else◌}
use Rattle.perf_base.specs.declared.{numbers.{EventNo.{EventNo}, Key.{Key}}, standing.Standing.{Standing}}
use Rattle.perf_base.specs.declared.standing.Standing.TheVariants as standing
use Rattle.stage_spec.specs.Stage.{is_of_family}
use Rattle.stage_laws.specs.OneByOne.{drop_ones}
use Rattle.world_spec.specs.{Kept.{leads, post_at}, StageOf.{stage_of}}
use Rattle.world_spec.specs.Value.{World, no_family, is_live, entry_at, instance_at, account_at, standing_at, family_of, times}

-- Keys, groups and families alone change: not the machine, what copies that exited had counted, lost counts, clocks,
-- seats, tasks, slots, rings and ids.
abbrev pub IsThinned : World → World → Type 0
IsThinned w after = after ≡ record w {
  entries = after.entries;
  accounts = after.accounts;
  standings = after.standings;
  contexts = after.contexts;
  families = after.families;
}

-- where a group stands when some instances went: where it stood, and Out where it is that of a sibling whose leader
-- went
abbrev pub stood : World → Key → Standing
stood w q = if leads (post_at w) q then standing_at w q else standing.Out

-- Some instances of a family went. All others stay, in their contexts and with their accounts; and so do other
-- families. A group in a context that none of them was in stands where it stood.
pub record HaveGone (e : EventNo) (done : List Key) (w after : World) : Type 0 where
  pub world : IsThinned w after
  pub stage : stage_of after ≡ drop_ones (map (λ k. (instance_at w k).id) done) (stage_of w)
  pub dead : (k : Key) → 1 ≤ times k done → is_live after k ≡ false
  pub live : (k : Key) → times k done ≡ 0 → is_live after k ≡ is_live w k
  pub instances : (k : Key) → times k done ≡ 0 → instance_at after k ≡ instance_at w k
  pub contexts : (k : Key) → times k done ≡ 0 → (entry_at after k).context ≡ (entry_at w k).context
  pub accounts : (k : Key) → times k done ≡ 0 → account_at after k ≡ account_at w k
  pub families : (other : EventNo) → other.0 ≢ e.0 → family_of after other ≡ family_of w other
  pub groups : (q : Key) → leads (post_at after) q ≡ true → ((k : Key) → 1 ≤ times k done → (entry_at after q).context ≡ (entry_at w k).context → ⊥)
      → (leads (post_at w) q ≡ true) × (standing_at after q ≡ standing_at w q)
  pub leading : (q : Key) → leads (post_at w) q ≡ true → times q done ≡ 0 → leads (post_at after) q ≡ true
  pub standings : (q : Key) → leads (post_at after) q ≡ true → standing_at after q ≡ stood w q

-- An event is closed: its original and its copies went, and all others stay. Each group stands where it stood, and Out
-- where it is new.
pub record IsClosed (e : EventNo) (w after : World) : Type 0 where
  pub world : IsThinned w after
  pub gone : (k : Key) → is_live w k ≡ true → is_of_family e (instance_at w k) ≡ true → is_live after k ≡ false
  pub live : (k : Key) → is_of_family e (instance_at w k) ≡ false → is_live after k ≡ is_live w k
  pub instances : (k : Key) → is_of_family e (instance_at w k) ≡ false → instance_at after k ≡ instance_at w k
  pub contexts : (k : Key) → is_of_family e (instance_at w k) ≡ false → (entry_at after k).context ≡ (entry_at w k).context
  pub accounts : (k : Key) → is_of_family e (instance_at w k) ≡ false → account_at after k ≡ account_at w k
  pub standings : (q : Key) → leads (post_at after) q ≡ true → standing_at after q ≡ stood w q
  pub family : family_of after e ≡ no_family
  pub families : (other : EventNo) → other.0 ≢ e.0 → family_of after other ≡ family_of w other
