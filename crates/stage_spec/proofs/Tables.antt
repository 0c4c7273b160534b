-- What a slot's event has counted is there where the slot is open, and nowhere else.
use Rattle.std.specs.Prelude.{◌≡◌, Bool, true, false, List, Option, Some, None, if◌then◌else◌}
use Rattle.std.proofs.{Common.{refl, sym}, lemmas.Option.{none-some, same_Some}}
use Rattle.perf_base.specs.{declared.{acts.Act.{Act}, numbers.EventNo.{EventNo}, reply.Sums.{Sums}}, Scripts.{Scripted}}
use Rattle.stage_spec.specs.{Stage.{is_open}, Tables.{stage_in, family_in, family_if_open}}

some-by : (b : Bool) (x y : Sums) → Some x ≡ (if b then Some y else None) → (b ≡ true) × (x ≡ y)
some-by true x y is = (refl, same_Some x y is)
some-by false x y is = absurd (none-some x (sym is))

none-by : (b : Bool) (y : Sums) → None ≡ (if b then Some y else None) → b ≡ false
none-by true y is = absurd (none-some y is)
none-by false y is = refl

pub some-open : (s : Scripted) (acts : List Act) (e : EventNo) (x : Sums) → Some x ≡ family_if_open s acts e → (is_open (stage_in s acts) e ≡ true) × (x ≡ family_in s acts e)
some-open s acts e x is = some-by (is_open (stage_in s acts) e) x (family_in s acts e) is

pub none-open : (s : Scripted) (acts : List Act) (e : EventNo) → None ≡ family_if_open s acts e → is_open (stage_in s acts) e ≡ false
none-open s acts e is = none-by (is_open (stage_in s acts) e) (family_in s acts e) is
