-- Rescheduling processors one after the other.
use Rattle.std.specs.Prelude.{◌≡◌, ℕ, ◌+◌, ◌<◌, Bool, true, false, List, [], ◌∷◌, ◌++◌, map, filter, cond, if◌then◌else◌}
use Rattle.std.proofs.{Common.{arith, refl, ap, ◌∙◌}, lemmas.{Bool.{Decides.{nat_tests}}, List.{map-append}}}
use Rattle.std.proofs.lemmas.List.Elements.{filter-append}
use Rattle.perf_base.specs.{Cpus.{HasCpu}, declared.numbers.{CpuNo.{CpuNo}, CpuSet.{CpuSet}}}
use Rattle.stage_spec.specs.{Hardware.{Hardware}, Numbers.{numbers_below}, Settle.{settle, settle_each}, Stage.{Stage}}
use Rattle.world_spec.specs.{Rescheduled.{IsRescheduled}, Value.{World, Entry, instance_at}}
use Rattle.machine.specs.Settled.{OnlyRescheduled, is_in}

pub none-only : (w : World) → OnlyRescheduled w w
none-only w = record { world = refl; live = λ k. refl; entries = λ k. refl }

-- one and then others
pub only-then : (v w x : World) → OnlyRescheduled v w → OnlyRescheduled w x → OnlyRescheduled v x
only-then v w x first second = record {
  world = second.world ∙ ap {A = World} {B = World} (λ y. record y { entries = x.entries; standings = x.standings; quiet = record y.quiet { seats = x.quiet.seats } }) first.world;
  live = λ k. second.live k ∙ first.live k;
  entries = λ k. second.entries k ∙ ap {A = Entry} {B = Entry} (λ e. record e { instance = record e.instance { own = (instance_at x k).own } }) (first.entries k);
}

-- the processors below a number
abbrev pub cpus_below : ℕ → List CpuNo
cpus_below n = map (λ k. record { 0 = k }) (numbers_below n)

pub one-settled : (hw : Hardware) (cpu : CpuNo) (s : Stage) → settle_each hw (cpu ∷ []) s ≡ settle hw cpu s
unfolding settle_each
one-settled hw cpu s = refl

pub settle-parts : (hw : Hardware) (xs ys : List CpuNo) (s : Stage) → settle_each hw (xs ++ ys) s ≡ settle_each hw ys (settle_each hw xs s)
unfolding settle_each
settle-parts hw [] ys s = refl
settle-parts hw (x ∷ xs) ys s = settle-parts hw xs ys (settle hw x s)

settle-one : (hw : Hardware) (set : CpuSet) (cpu : CpuNo) (s : Stage) (b : Bool) → is_in set cpu ≡ b → settle_each hw (filter (is_in set) (cpu ∷ [])) s ≡ (if b then settle hw cpu s else s)
unfolding settle_each
settle-one hw set cpu s true h = ap (λ b. settle_each hw (cond b (cpu ∷ []) []) s) h
settle-one hw set cpu s false h = ap (λ b. settle_each hw (cond b (cpu ∷ []) []) s) h

pub settle-next : (hw : Hardware) (set : CpuSet) (n : ℕ) (s t x : Stage) (b : Bool) → t ≡ settle_each hw (filter (is_in set) (cpus_below n)) s → is_in set (record { 0 = n }) ≡ b
    → x ≡ (if b then settle hw (record { 0 = n }) t else t) → x ≡ settle_each hw (filter (is_in set) (cpus_below (n + 1))) s
settle-next hw set n s t x b before is after = grind (arith, nat_tests, map-append, settle-one, settle-parts, filter-append)

pub is-in_set : (set : CpuSet) (cpu : CpuNo) → HasCpu set cpu → is_in set cpu ≡ true
is-in_set set cpu h = grind (arith, nat_tests, h)

pub none-settled : (hw : Hardware) (s : Stage) → s ≡ settle_each hw [] s
unfolding settle_each
none-settled hw s = refl

-- one processor more
pub next-done : (hw : Hardware) (x : World) (n : ℕ) → ((cpu : CpuNo) → cpu.0 < n → IsRescheduled hw x cpu) → IsRescheduled hw x (record { 0 = n }) → (cpu : CpuNo) → cpu.0 < n + 1 → IsRescheduled hw x cpu
next-done hw x n before now cpu low = grind (arith, nat_tests)
