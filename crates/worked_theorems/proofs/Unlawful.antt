-- The first look at a tail that is not lawful, and what the note of such an order says of it.
use Rattle.std.specs.Prelude.{◌≡◌, ℕ, ◌+◌, ◌==◌, nat_le, Bool, true, false, ◌||◌, List, [], ◌∷◌, ◌++◌, map, find, take, sum, zero, suc, slice_get, Option, Some, None, option_map}
use Rattle.std.proofs.{Common.{arith, refl, sym, ap, ◌∙◌, append_assoc, append-nil}, lemmas.Bool.{or_right, false≢true, Decides.{nat_tests}}}
use Rattle.perf_base.specs.{declared.{numbers.RingNo.{RingNo}, acts.Act.{Act}}, Scripts.{Scripted}}
use Rattle.perf_base.specs.declared.acts.Act.TheVariants as act
use Rattle.stage_spec.specs.{Hardware.{Hardware, hardware_of}, Stage.{Stage}, Order.{IsLawfulAct, IsLawfulSeen, last_seen}}
use Rattle.stage_spec.specs.History.{Step, steps_from, history, opening_stage}
use Rattle.ring_spec.specs.{Records.{record_size}, Account.{Account, head_of}}
use Rattle.ring_spec.specs.Rings.{account_of, account_in, bytes_of, bytes_in, sizes_in, IsLawfulOrder}
use Rattle.ring_spec.{specs.Running.{RingAccount, Running, first_record, record_after}, proofs.Running.{IsKept, kept-first, kept-step, in_account}}
use Rattle.ring_laws.proofs.Tails.{seen_tail}
use Rattle.worked_theorems.proofs.Answered.{is_behind, looks_lawful, is_ring, look_ok, declared, LawfulFrom, sum-cons, lawful_acts, lawful_by, find-passes, found_ring}

-- The act of this number is a look at this ring's tail at the place given. The acts before it are lawful, and it is
-- not: the ring's tail was seen last at `last`, and its head is `head`.
pub record IsUnlawfulLook (s : Scripted) (number : ℕ) (ring : RingNo) (last head given : ℕ) : Type 0 where
  pub look : slice_get s.order number ≡ Some (act.Seen ring given)
  pub lawful_before : IsLawfulOrder s (take number s.order)
  pub seen_last : last_seen ring (take number s.order) ≡ last
  pub headed : head_of (account_in s (take number s.order) (ring, bytes_of s ring)) ≡ head
  pub unlawful : IsLawfulAct (sizes_in s (take number s.order)) (take number s.order) (act.Seen ring given) → ⊥

-- The test of a look is exact: each lawful look passes it.
behind_passes : (at place : ℕ) (sizes : List ℕ) (n : ℕ) → place ≡ at + sum (take n sizes) → is_behind at place sizes ≡ true
behind_passes at place [] zero e = grind (arith, nat_tests, e)
behind_passes at place [] (suc n) e = grind (arith, nat_tests, e)
behind_passes at place (x ∷ sizes) zero e =
    let here : (at == place) ≡ true = grind (arith, nat_tests, e) in
    rw here refl
behind_passes at place (x ∷ sizes) (suc n) e =
    or_right (at == place) (is_behind (at + x) place sizes) (behind_passes (at + x) place sizes n (omega (arith, e, sum-cons x (take n sizes))))

pub lawful_passes : (sizes : List ℕ) (last place : ℕ) → IsLawfulSeen sizes last place → looks_lawful sizes last place ≡ true
lawful_passes sizes last place h =
    let above : nat_le last place ≡ true = grind (arith, nat_tests, h.above) in
    rw above (behind_passes 0 place sizes h.behind.0 (omega (arith, h.behind.1)))

pub unlawful_seen : (sizes : List ℕ) (last place : ℕ) → looks_lawful sizes last place ≡ false → IsLawfulSeen sizes last place → ⊥
unlawful_seen sizes last place fails h = false≢true (sym fails ∙ lawful_passes sizes last place h)

-- each look among steps lawful, and something said of the end
unfoldable pub RunLooks : Hardware → (Running → Type 0) → Running → List Step → Type 0
RunLooks hw End k [] = End k
RunLooks hw End k (x ∷ steps) = (look_ok k.rings x ≡ true) × RunLooks hw End (record_after hw k x) steps

pub record AllLooks (hw : Hardware) (s : Stage) (rings : List (RingNo × ℕ)) (End : Running → Type 0) (before steps : List Step) : Type 0 where
  pub lawful : LawfulFrom hw s rings before steps
  pub last : Running
  pub keeps : IsKept hw s rings (before ++ steps) last
  pub said : End last

pub run_looks : (hw : Hardware) (s : Stage) (rings : List (RingNo × ℕ)) (End : Running → Type 0) (before : List Step) (k : Running) → IsKept hw s rings before k
    → (steps : List Step) → RunLooks hw End k steps → AllLooks hw s rings End before steps
unfolding RunLooks LawfulFrom
run_looks hw s rings End before k h [] g = record { lawful = tt; last = k; keeps = rw append-nil h; said = g }
run_looks hw s rings End before k h (x ∷ steps) g =
    let rest : AllLooks hw s rings End (before ++ x ∷ []) steps = run_looks hw s rings End (before ++ x ∷ []) (record_after hw k x) (kept-step hw s rings before k x h) steps g.1 in
    let regrouped : (before ++ x ∷ []) ++ steps ≡ before ++ x ∷ steps = append_assoc before (x ∷ []) steps in
    record { lawful = (lawful_by hw s rings before k x h g.0, rest.lawful); last = rest.last; keeps = rw (← regrouped) rest.keeps; said = rest.said }

-- so the order is lawful
pub lawful_looks : (s : Scripted) (acts : List Act) → LawfulFrom (hardware_of s) (opening_stage s) s.rings [] (history s acts) → IsLawfulOrder s acts
unfolding steps_from
lawful_looks s acts h = λ some after a e. lawful_acts s [] acts h some after a e

-- what the note says of a ring's account
pub record FailsAt (a : Account) (last head given : ℕ) : Type 0 where
  pub seen : a.tail ≡ last
  pub headed : head_of a ≡ head
  pub fails : IsLawfulSeen (map record_size a.written) a.tail given → ⊥

abbrev pub FailsBy : Option RingAccount → (last head given : ℕ) → Type 0
FailsBy None last head given = ⊥
FailsBy (Some a) last head given = (a.account.tail ≡ last) × (head_of a.account ≡ head) × (looks_lawful (map record_size a.account.written) a.account.tail given ≡ false)

abbrev pub EndsUnlawful : RingNo → (last head given : ℕ) → Running → Type 0
EndsUnlawful ring last head given k = FailsBy (find (is_ring ring) k.rings) last head given

found_fails : (hw : Hardware) (s : Stage) (rings : List (RingNo × ℕ)) (steps : List Step) (ring : RingNo) (last head given : ℕ) (o : Option (RingNo × ℕ))
    → find (λ r. r.0.0 == ring.0) rings ≡ o → FailsBy (option_map (in_account (account_of hw s steps)) o) last head given
    → FailsAt (account_of hw s steps (ring, bytes_in o)) last head given
found_fails hw s rings steps ring last head given None e h = absurd h
found_fails hw s rings steps ring last head given (Some r) e h =
    let same : r.0 ≡ ring = found_ring ring rings r e in
    let there : Account = account_of hw s steps r in
    rw (← same) (record { seen = h.0; headed = h.1; fails = unlawful_seen (map record_size there.written) there.tail given h.2 })

kept_fails : (hw : Hardware) (s : Stage) (rings : List (RingNo × ℕ)) (steps : List Step) (k : Running) (ring : RingNo) (last head given : ℕ)
    → IsKept hw s rings steps k → EndsUnlawful ring last head given k → FailsAt (account_of hw s steps (declared rings ring)) last head given
kept_fails hw s rings steps k ring last head given h ends =
    let f : RingNo × ℕ → RingAccount = in_account (account_of hw s steps) in
    let found : find (is_ring ring) k.rings ≡ option_map f (find (λ r. r.0.0 == ring.0) rings) =
    ap (find (is_ring ring)) h.rings ∙ find-passes (λ r. r.0.0 == ring.0) f (is_ring ring) (λ r. refl) rings in
    found_fails hw s rings steps ring last head given (find (λ r. r.0.0 == ring.0) rings) refl (rw (← found) ends)

pub unlawful_look : (s : Scripted) (number : ℕ) (ring : RingNo) (last head given : ℕ) → slice_get s.order number ≡ Some (act.Seen ring given)
    → RunLooks (hardware_of s) (EndsUnlawful ring last head given) (first_record (opening_stage s) s.rings) (history s (take number s.order))
    → IsUnlawfulLook s number ring last head given
unfolding steps_from
unlawful_look s number ring last head given look g =
    let before : List Act = take number s.order in
    let h : AllLooks (hardware_of s) (opening_stage s) s.rings (EndsUnlawful ring last head given) [] (history s before) =
    run_looks (hardware_of s) (opening_stage s) s.rings (EndsUnlawful ring last head given) [] (first_record (opening_stage s) s.rings)
    (kept-first (hardware_of s) (opening_stage s) s.rings) (history s before) g in
    let fails : FailsAt (account_in s before (ring, bytes_of s ring)) last head given =
    kept_fails (hardware_of s) (opening_stage s) s.rings (history s before) h.last ring last head given h.keeps h.said in
    let seen : (account_in s before (ring, bytes_of s ring)).tail ≡ last_seen ring before = seen_tail s before ring (bytes_of s ring) in
    record {
      look = look;
      lawful_before = lawful_looks s before h.lawful;
      seen_last = sym seen ∙ fails.seen;
      headed = fails.headed;
      unlawful = λ l. fails.fails (rw seen l);
    }
