-- Where a group stands after standings were told one after the other.
use Rattle.std.specs.Prelude.{◌≡◌, ℕ, suc, ◌+◌, ◌<◌, ◌≤◌, Bool, true, false, cond, List, [], ◌∷◌, ◌++◌, length, map, take, slice_index_or}
use Rattle.std.{specs.{FinMap.{FinMap, insert}, Option.{unwrap_or}, Ordering.{nat_cmp}}, proofs.Common.{arith, refl, sym, ap, ◌∙◌, inl, inr}}
use Rattle.std.proofs.{Math.Seq.{take-suc}, lemmas.{Bool.{cases_Bool}, List.{map-append, Sums.{fold-append}}}}
use Rattle.perf_base.specs.declared.{numbers.Key.{Key}, standing.Standing.{Standing}}
use Rattle.perf_base.specs.declared.standing.Standing.TheVariants as standing
use Rattle.world_spec.{specs.Value.{is_key, times}, proofs.Keys.{is_key-true, is_key-false, times-cons, once-true, once-false}}
use Rattle.world_spec.proofs.Tables.{get-here, get-there}
use Rattle.cpu_sched.specs.{Adopting.{told_standings, out_standings}, Plans.{told_by}, declared.plan.Verdict.{Verdict}}
use Rattle.cpu_sched.proofs.Telling.{stand_at}
use Rattle.perf_world.proofs.Turning.{take-next}

-- the last that a key was told, or what it was before
unfoldable pub last_told : List (Key × Standing) → Key → Standing → Standing
last_told [] q s = s
last_told (x ∷ xs) q s = last_told xs q (cond (is_key q x.0) x.1 s)

told-by : (t : FinMap nat_cmp Standing) (k : Key) (s : Standing) (q : Key) (b : Bool) → is_key q k ≡ b → stand_at (insert t k.0 s) q ≡ cond b s (stand_at t q)
told-by t k s q true e = ap (λ o. unwrap_or o standing.Out) (get-here t k.0 s q.0 (sym (is_key-true q k e)))
told-by t k s q false e = ap (λ o. unwrap_or o standing.Out) (get-there t k.0 s q.0 (λ same. is_key-false q k e (sym same)))

pub told-at : (xs : List (Key × Standing)) (t : FinMap nat_cmp Standing) (q : Key) → stand_at (told_standings xs t) q ≡ last_told xs q (stand_at t q)
unfolding last_told
told-at [] t q = refl
told-at (x ∷ xs) t q = told-at xs (insert t x.0.0 x.1) q ∙ ap (last_told xs q) (told-by t x.0 x.1 q (is_key q x.0) refl)

pub last-none : (xs : List (Key × Standing)) (q : Key) (s : Standing) → times q (map (λ x. x.0) xs) ≡ 0 → last_told xs q s ≡ s
unfolding last_told
last-none [] q s none = refl
last-none (x ∷ xs) q s none = elim (cases_Bool (is_key q x.0)) [
  | inl e ↦ absurd (omega (arith, none, times-cons q x.0 (map (λ y. y.0) xs), once-true (is_key q x.0) e))
  | inr e ↦ ap (λ b. last_told xs q (cond b x.1 s)) e ∙ last-none xs q s (omega (arith, none, times-cons q x.0 (map (λ y. y.0) xs)))
]

same-both : (b : Bool) (s : Standing) → cond b s s ≡ s
same-both true s = refl
same-both false s = refl

-- groups that were told to stand out do so
out-stays : (keys : List Key) (q : Key) → last_told (map (λ k. (k, standing.Out)) keys) q standing.Out ≡ standing.Out
unfolding last_told
out-stays [] q = refl
out-stays (k ∷ keys) q = ap (last_told (map (λ j. (j, standing.Out)) keys) q) (same-both (is_key q k) standing.Out) ∙ out-stays keys q

pub last-out : (keys : List Key) (q : Key) (s : Standing) → 1 ≤ times q keys → last_told (map (λ k. (k, standing.Out)) keys) q s ≡ standing.Out
unfolding last_told
last-out [] q s some = absurd (omega (arith, some))
last-out (k ∷ keys) q s some = elim (cases_Bool (is_key q k)) [
  | inl e ↦ ap (λ b. last_told (map (λ j. (j, standing.Out)) keys) q (cond b standing.Out s)) e ∙ out-stays keys q
  | inr e ↦ grind (arith, e, times-cons, once-false, last-out keys q s (omega (arith, some, times-cons q k keys, once-false (is_key q k) e)))
]

-- some leaders are told to stand out, and then others
pub out-append : (xs ys : List Key) (t : FinMap nat_cmp Standing) → out_standings (xs ++ ys) t ≡ out_standings ys (out_standings xs t)
out-append xs ys t = grind (arith, map-append, fold-append)

pub out-next : (keys : List Key) (place : ℕ) (d : Key) (t : FinMap nat_cmp Standing) → place < length keys
    → out_standings (take (place + 1) keys) t ≡ insert (out_standings (take place keys) t) (slice_index_or keys place d).0 standing.Out
out-next keys place d t low = ap (λ ks. out_standings ks t) (take-next keys place d low) ∙ out-append (take place keys) (slice_index_or keys place d ∷ []) t

next-told : (xs : List Verdict) (place : ℕ) (d : Verdict) → place < length xs
    → told_by (take (place + 1) xs) ≡ told_by (take place xs) ++ ((slice_index_or xs place d).leader, (slice_index_or xs place d).standing) ∷ []
next-told xs place d low =
    let one : place + 1 ≡ suc place = omega arith in
    ap told_by (ap (λ n. take n xs) one ∙ take-suc xs place d low) ∙ map-append (λ v. (v.leader, v.standing)) (take place xs) (slice_index_or xs place d ∷ [])

pub told-next : (xs : List Verdict) (place : ℕ) (d : Verdict) (t : FinMap nat_cmp Standing) → place < length xs
    → told_standings (told_by (take (place + 1) xs)) t
    ≡ insert (told_standings (told_by (take place xs)) t) (slice_index_or xs place d).leader.0 (slice_index_or xs place d).standing
told-next xs place d t low =
    ap (λ l. told_standings l t) (next-told xs place d low)
    ∙ fold-append (λ table x. insert table x.0.0 x.1) t (told_by (take place xs)) (((slice_index_or xs place d).leader, (slice_index_or xs place d).standing) ∷ [])
