-- The accounts after work and after one occurrence are those of the definitions' shares.
use Rattle.std.specs.Prelude.{◌≡◌, ℕ, zero, suc, ◌+◌, ◌≤◌, ◌==◌, Bool, true, false, not, ◌&&◌, cond, List, map, filter, if◌then◌else◌}
use Rattle.std.{specs.FinMap.{contains_key}, proofs.{Common.{arith, refl, sym, ap, ◌∙◌}, lemmas.Bool.Decides.{nat_tests}}}
use Rattle.perf_base.specs.declared.{attr.Kind.{Kind}, lines.Work.{Work}, numbers.{CpuNo.{CpuNo}, Key.{Key}}, reply.Sums.{Sums}}
use Rattle.perf_base.specs.Standings.{stands_on}
use Rattle.stage_spec.specs.{declared.instance.Instance.{Instance}, Occurrences.{left_after}, Shares.{work_hits}}
use Rattle.stage_laws.specs.Narrowing.{has_context}
use Rattle.world_spec.specs.{Value.{World, Account, is_live, entry_at, instance_at, account_at, standing_at, times}, StageOf.{stage_of}}
use Rattle.world_spec.specs.{Kept.{once_if, IsKept}, Metering.{IsWorked, work_given}, Rescheduled.{IsJudged}}
use Rattle.world_spec.specs.{Shares.{work_shares, soft_hits, soft_shares, HaveShares}, Ways.{is_on_at}, Working.{is_effective, keys_by_pass}}
use Rattle.world_spec.proofs.{Along.{keys-live, on-share, reached-keys, share-is}, Counting.{times-filter}}
use Rattle.work_account.specs.{declared.happening.Happening.{Happening}, Visits.{occurs, samples, is_hit_by, takes, hit_at, hits_among, hit_all}}
use Rattle.work_account.proofs.Struck.{after_hits, hit-out, hit-in, hit-keys}
use Rattle.work_account.specs.declared.happening.Happening.TheVariants as happening
use Rattle.world_spec.proofs.Quiet.{none-after}

-- tests that stand together
regrouped : (i e c s : Bool) → (i && ((e && c) && s)) ≡ ((i && (e && s)) && c)
regrouped false e c s = refl
regrouped true false c s = refl
regrouped true true true true = refl
regrouped true true true false = refl
regrouped true true false true = refl
regrouped true true false false = refl

none-left : (n : ℕ) → left_after n 0 0 ≡ 0
unfolding left_after
none-left zero = refl
none-left (suc n) = none-left n

-- an account that nothing was hit of
no-hits : (period : ℕ) (a : Account) → a ≡ after_hits 0 period a
no-hits period a = grind (arith, nat_tests, none-after)

-- the account of an instance after those on a processor that take it were hit
module _ (x : Happening) (w : World) (cpu : CpuNo) (h : IsKept w.hardware w) (v : World) where
  abbrev keys : List Key
  keys = filter (takes x w) (keys_by_pass w cpu)

  abbrev given : Key → ℕ
  given k = if is_hit_by x (instance_at w k) && is_on_at w cpu k then occurs x (instance_at w k) else 0

  times-hit : (k : Key) → is_live w k ≡ true → times k keys ≡ cond (takes x w k) (once_if (has_context (stage_of w) cpu (entry_at w k).context)) 0
  times-hit k live = times-filter k (takes x w) (keys_by_pass w cpu) ∙ ap (λ n. cond (takes x w k) n 0) (reached-keys w.hardware w cpu k h live)

  given-is : (k : Key) → given k ≡ (if takes x w k && has_context (stage_of w) cpu (entry_at w k).context then occurs x (instance_at w k) else 0)
  given-is k =
      ap (λ b. if b then occurs x (instance_at w k) else 0)
      (regrouped (is_hit_by x (instance_at w k)) (is_effective w k) (has_context (stage_of w) cpu (entry_at w k).context) (stands_on (standing_at w (entry_at w k).leader)))

  by-tests : (k : Key) (takes_it there : Bool) → times k keys ≡ cond takes_it (once_if there) 0
      → account_at (hit_all (map (hit_at x w) keys) v) k ≡ after_hits (if takes_it && there then occurs x (instance_at w k) else 0) (instance_at v k).attr.period (account_at v k)
  by-tests k true true one = hit-in x w keys v k one
  by-tests k true false none = hit-out x w keys v k none ∙ no-hits (instance_at v k).attr.period (account_at v k)
  by-tests k false there none = hit-out x w keys v k none ∙ no-hits (instance_at v k).attr.period (account_at v k)

  pub account-hit : (k : Key) → is_live w k ≡ true → account_at (hit_all (hits_among x w (keys_by_pass w cpu)) v) k ≡ after_hits (given k) (instance_at v k).attr.period (account_at v k)
  account-hit k live =
      by-tests k (takes x w k) (has_context (stage_of w) cpu (entry_at w k).context) (times-hit k live)
      ∙ ap (λ n. after_hits n (instance_at v k).attr.period (account_at v k)) (sym (given-is k))

  pub keys-hit : ((q : Key) → contains_key v.accounts q.0 ≡ contains_key w.accounts q.0)
      → (k : Key) → contains_key (hit_all (hits_among x w (keys_by_pass w cpu)) v).accounts k.0 ≡ contains_key w.accounts k.0
  keys-hit same k =
      hit-keys x w keys v (λ q some. same q ∙ (h.tables.accounts q ∙ keys-live w.hardware w cpu h q (chosen q (takes x w q) (omega (arith, some, times-filter q (takes x w) (keys_by_pass w cpu)))))) k
      ∙ same k
    where
      chosen : (q : Key) (b : Bool) → 1 ≤ cond b (times q (keys_by_pass w cpu)) 0 → 1 ≤ times q (keys_by_pass w cpu)
      chosen q true some = some
      chosen q false some = absurd (omega (arith, some))

-- one occurrence
pub is-zero : (n : ℕ) → (n == 0) ≡ true → n ≡ 0
is-zero n h = grind (arith, nat_tests, h)

soft-by : (m : ℕ) (zero on : Bool) → (m == 0) ≡ zero → (if not zero && on then m else 0) ≡ (if on then m else 0)
soft-by m true true is = sym (is-zero m is)
soft-by m true false is = refl
soft-by m false true is = refl
soft-by m false false is = refl

soft-given : (m : ℕ) (on : Bool) → (if not (m == 0) && on then m else 0) ≡ (if on then m else 0)
soft-given m on = soft-by m (m == 0) on refl

pub soft-shared : (w : World) (cpu : CpuNo) (occurring : Kind) → IsKept w.hardware w → IsJudged w.hardware w cpu
    → HaveShares w (hit_all (hits_among (happening.Soft occurring) w (keys_by_pass w cpu)) w) (soft_shares w cpu occurring)
soft-shared w cpu occurring h judged = record {
  accounts = λ k live.
      (let i : Instance = instance_at w k in
      let a : Account = account_at w k in
      let n : ℕ = if not (soft_hits occurring i == 0) && is_on_at w cpu k then soft_hits occurring i else 0 in
      let m : ℕ = (soft_shares w cpu occurring i.id).count in
      let same : n ≡ m = soft-given (soft_hits occurring i) (is_on_at w cpu k) ∙ sym (on-share w cpu h judged (soft_hits occurring) k live) in
      let enabled : a.sums.enabled ≡ a.sums.enabled + 0 = omega arith in
      let running : a.sums.running ≡ a.sums.running + 0 = omega arith in
      account-hit (happening.Soft occurring) w cpu h w k live
      ∙ (λ j. record { sums = record { count = a.sums.count + same j; enabled = enabled j; running = running j }; left = left_after (same j) i.attr.period a.left }));
  keys = keys-hit (happening.Soft occurring) w cpu h w (λ q. refl);
}

-- a stretch of work: what goes along the totals, and what is hit, come to the share
both-given : (on zero : Bool) (m : ℕ) → (if on && zero then m else 0) + (if not zero && on then m else 0) ≡ (if on then m else 0)
both-given true true m = omega arith
both-given true false m = omega arith
both-given false true m = omega arith
both-given false false m = omega arith

both-left : (on zero : Bool) (m period left : ℕ) → (zero ≡ true → period ≡ 0) → (period ≡ 0 → left ≡ 0)
    → left_after (if not zero && on then m else 0) period left ≡ left_after (if on then m else 0) period left
both-left on false m period left is whole = refl
both-left on true m period left is whole = grind (arith, nat_tests, none-left)

-- a world that was worked on has the same keys to hit
pub same-hits : (x : Happening) (w v : World) (cpu : CpuNo) (work : Work) → IsWorked w v cpu work → hits_among x v (keys_by_pass v cpu) ≡ hits_among x w (keys_by_pass w cpu)
same-hits x w v cpu work worked = ap (λ (u : World). hits_among x u (keys_by_pass u cpu)) worked.rest

pub work-shared : (w v : World) (cpu : CpuNo) (work : Work) → IsKept w.hardware w → IsJudged w.hardware w cpu → IsWorked w v cpu work
    → ((k : Key) → is_live w k ≡ true → (instance_at w k).attr.period ≡ 0 → (account_at w k).left ≡ 0)
    → HaveShares w (hit_all (hits_among (happening.Work work) w (keys_by_pass w cpu)) v) (work_shares w cpu work)
work-shared w v cpu work h judged worked whole = record {
  accounts = λ k live.
      (let i : Instance = instance_at w k in
      let a : Account = account_at w k in
      let g : Sums = work_given w cpu work k in
      let on : Bool = is_on_at w cpu k in
      let m : ℕ = work_hits work i in
      let n : ℕ = if samples i && on then m else 0 in
      let s : Sums = work_shares w cpu work i.id in
      let is : s ≡ record g { count = if on then m else 0 } = share-is w cpu work k h judged live in
      let period : (instance_at v k).attr.period ≡ i.attr.period = ap (λ (u : World). (instance_at u k).attr.period) worked.rest in
      let count : (a.sums.count + g.count) + n ≡ a.sums.count + s.count = omega (arith, both-given on (i.attr.period == 0) m, ap (λ (t : Sums). t.count) is) in
      let enabled : a.sums.enabled + g.enabled ≡ a.sums.enabled + s.enabled = ap (λ (t : Sums). a.sums.enabled + t.enabled) (sym is) in
      let running : a.sums.running + g.running ≡ a.sums.running + s.running = ap (λ (t : Sums). a.sums.running + t.running) (sym is) in
      let left : left_after n i.attr.period a.left ≡ left_after s.count i.attr.period a.left = grind (arith, nat_tests, both-left, is-zero) in
      account-hit (happening.Work work) w cpu h v k live
      ∙ ((λ j. after_hits n (period j) (worked.accounts k live j))
      ∙ (λ j. record { sums = record { count = count j; enabled = enabled j; running = running j }; left = left j })));
  keys = keys-hit (happening.Work work) w cpu h v worked.keys;
}
