-- An instance that goes: a sibling or a leader.
use Rattle.std.{specs.Prelude.{◌≡◌, true, false, ◌&&◌}, proofs.{Common.{sym, ap, subst, ◌∙◌, inl, inr}, lemmas.Bool.{cases_Bool}}}
use Rattle.perf_base.specs.declared.numbers.Key.{Key}
use Rattle.stage_spec.specs.Stage.{Stage}
use Rattle.world_spec.specs.{Value.{World, entry_at, instance_at, is_key}, StageOf.{stage_of}, Kept.{post_at, leads, IsKept}}
use Rattle.world_spec.{specs.{Adding.{leave_group, taken_out}, Goings.{MayGo, GoLaw, GoKeptLaw}}, proofs.Gone.{SiblingMayGo, left-kept}}
use Rattle.world_spec.proofs.{GoneStage.{left-stage}, GoneLeader.{entries_freed, standings_freed, dropped-leader, tables-freed, led-kept}}
use Rattle.world_spec.proofs.GoneLeaderStage.{led-stage}

pub it-leads : (w : World) (k : Key) → MayGo w k → is_key k (entry_at w k).leader ≡ true → leads (post_at w) k ≡ true
it-leads w k may own = ap (λ b. b && is_key k (entry_at w k).leader) may.live ∙ own

it-follows : (w : World) (k : Key) → MayGo w k → is_key k (entry_at w k).leader ≡ false → SiblingMayGo w k
it-follows w k may sibling = record { live = may.live; sibling = sibling; last = may.last }

pub go-kept : GoKeptLaw
go-kept hw w k may h = elim (cases_Bool (is_key k (entry_at w k).leader)) [
  | inl own ↦
      let lead : leads (post_at w) k ≡ true = it-leads w k may own in
      subst (IsKept hw) (sym (dropped-leader w k own)) (led-kept hw w k (entries_freed w k) (standings_freed w k) lead (tables-freed hw w k h lead) may h)
  | inr sibling ↦ subst (λ b. IsKept hw (taken_out k (instance_at w k) (leave_group k b w))) (sym sibling) (left-kept hw w k (it-follows w k may sibling) h)
]

pub go-stage : GoLaw
go-stage hw w k h may = elim (cases_Bool (is_key k (entry_at w k).leader)) [
  | inl own ↦
      let lead : leads (post_at w) k ≡ true = it-leads w k may own in
      ap stage_of (dropped-leader w k own) ∙ led-stage hw w k (entries_freed w k) (standings_freed w k) lead (tables-freed hw w k h lead) h
  | inr sibling ↦ ap {B = Stage} (λ b. stage_of (taken_out k (instance_at w k) (leave_group k b w))) sibling ∙ left-stage hw w k h (it-follows w k may sibling)
]
