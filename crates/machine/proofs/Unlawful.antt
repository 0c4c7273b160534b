-- The end of a declared ring, its account after some acts, and places at which its tail can't be seen.
use Rattle.std.{specs.Prelude.{◌≡◌, ℕ, ◌≤◌, Err, List, Result, Some, slice_get}, proofs.Common.{arith, sym, subst, ◌∙◌}}
use Rattle.std.proofs.lemmas.Bool.Decides.{nat_tests}
use Rattle.perf_base.specs.{declared.{acts.Act.{Act}, numbers.RingNo.{RingNo}}, Scripts.{Scripted}}
use Rattle.perf_base.specs.Scripts as scripts
use Rattle.ring_spec.{specs.Rings.{account_in, bytes_of}, proofs.Running.{in_account}}
use Rattle.ring_laws.proofs.Tails.{seen_tail}
use Rattle.ring_words.specs.Ends.{IsStop}
use Rattle.ring_words.specs.Ends as words
use Rattle.sample_ring.{specs.{OutEnds.{OutEnd}, RingLists.{HasRing, ring_index}}, proofs.Cuts.{stops_are_ends}}
use Rattle.work_account.specs.Ends.{IsAccountOf}
use Rattle.machine.specs.{Shown.{ShowsAccount}, declared.stepping.OrderFault.{OrderFault}, Leading.{Kept, IsOf, LeadTo}, Stepping.{IsUnlawful}}
use Rattle.machine.proofs.{RingsThere.{declared-there, script-numbers}, Shown.{shown}, Seen.{end-account}, Spacious.{is-left}}
use Rattle.machine.specs.declared.stepping.OrderFault.TheVariants as fault

-- a declared ring is one of the machine's
pub ring-there : (s : Scripted) (m : Kept) (ring : RingNo) → IsOf s m → scripts.HasRing s.rings ring → HasRing m.outs.numbers ring
ring-there s m ring of h =
    subst (λ numbers. HasRing numbers ring) (sym (script-numbers s of.0 m.world m.outs (is-left s of.0 m of.1))) (declared-there s.rings ring ring h (grind (arith, nat_tests)))

-- what an end says of a place at which it can't be seen
pub unlawful-by : (s : Scripted) (acts : List Act) (m : Kept) (ring : RingNo) (o : OutEnd) (given : ℕ) → LeadTo s acts m → HasRing m.outs.numbers ring
    → slice_get m.outs.outs (ring_index m.outs.numbers ring) ≡ Some o → ((o.producer.last_tail ≤ given) × IsStop o.producer.published given → ⊥)
    → IsUnlawful s acts ring o.producer.last_tail (words.head_place o.producer) given
unlawful-by s acts m ring o given led there at refused =
    let a : IsAccountOf ring o (in_account (account_in s acts) (ring, bytes_of s ring)) = end-account s acts m ring o led there at in
    let shows : ShowsAccount o (account_in s acts (ring, bytes_of s ring)) = shown ring o (in_account (account_in s acts) (ring, bytes_of s ring)) a in
    record {
      seen_last = sym shows.tail ∙ seen_tail s acts ring (bytes_of s ring);
      headed = sym shows.head;
      unlawful = λ lawful. refused (lawful.above, (stops_are_ends o (account_in s acts (ring, bytes_of s ring)) given a.has).1 lawful.behind);
    }

-- the fault says just this
said-ring : (ring other : RingNo) (l h g last head given : ℕ) → ◌≡◌ {A = Result (Unit {0}) OrderFault} (Err (fault.BadSeen ring l h g)) (Err (fault.BadSeen other last head given)) → other ≡ ring
said-ring ring other l h g last head given e = cc

said-last : (ring other : RingNo) (l h g last head given : ℕ) → ◌≡◌ {A = Result (Unit {0}) OrderFault} (Err (fault.BadSeen ring l h g)) (Err (fault.BadSeen other last head given)) → l ≡ last
said-last ring other l h g last head given e = cc

said-head : (ring other : RingNo) (l h g last head given : ℕ) → ◌≡◌ {A = Result (Unit {0}) OrderFault} (Err (fault.BadSeen ring l h g)) (Err (fault.BadSeen other last head given)) → h ≡ head
said-head ring other l h g last head given e = cc

said-given : (ring other : RingNo) (l h g last head given : ℕ) → ◌≡◌ {A = Result (Unit {0}) OrderFault} (Err (fault.BadSeen ring l h g)) (Err (fault.BadSeen other last head given)) → given ≡ g
said-given ring other l h g last head given e = cc

pub refused-as : (s : Scripted) (m : Kept) (ring other : RingNo) (l h g last head given : ℕ)
    → ◌≡◌ {A = Result (Unit {0}) OrderFault} (Err (fault.BadSeen ring l h g)) (Err (fault.BadSeen other last head given))
    → ((acts : List Act) → LeadTo s acts m → IsUnlawful s acts ring l h g)
    → (other ≡ ring) × (given ≡ g) × ((acts : List Act) → LeadTo s acts m → IsUnlawful s acts ring last head given)
refused-as s m ring other l h g last head given e fails = grind (arith, nat_tests, said-ring, said-given, said-head, said-last)
