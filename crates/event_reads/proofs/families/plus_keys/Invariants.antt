use Rattle.std.proofs.Common.{◌≡◌, drop}
use Rattle.stage_spec.specs.Families.{plus}
use Rattle.world_spec.specs.{Kept.{plus_keys}, Value.{account_at}}
use Rattle.event_reads.proofs.families.plus_keys.Given as goal

abbrev pub invariant-loop-key : goal.invariant-loop-key
invariant-loop-key l =
    plus (plus_keys (λ k. (account_at l.world k).sums) (drop l.key-index l.keys)) l.sums
    ≡ plus (plus_keys (λ k. (account_at l.world k).sums) l.keys) l.initial.sums
