use Rattle.std.{proofs.Common.{◌≡◌, ◌<◌, ℕ, false}, specs.{Prelude.{slice_get, IfSome}, Str.{bytes_eq}}}
use Rattle.script_read.proofs.names.number_of.Given as goal

abbrev pub invariant-loop-kind : goal.invariant-loop-kind
invariant-loop-kind l = (k : ℕ) → k < l.kind → IfSome (slice_get l.script.kinds k) (λ x. bytes_eq x.name l.name ≡ false)
