-- A look at the tail of a ring leads from the acts before it to those acts and one more; and where the tail is seen
-- again at the place that was seen last, the acts that led there still do.
use Rattle.std.specs.Prelude.{◌≡◌, ℕ, zero, suc, ◌≤◌, ◌==◌, Bool, true, false, cond, List, [], ◌∷◌, ◌++◌, length, flat_map, Some, slice_get, slice_set, if◌then◌else◌}
use Rattle.std.proofs.{Common.{arith, refl, sym, ap, subst, ◌∙◌}, lemmas.{List.Sums.{sum_by_push}, Option.{same_Some}}}
use Rattle.perf_base.specs.declared.{acts.Act.{Act}, numbers.{CpuNo.{CpuNo}, RingNo.{RingNo}, ToolNo.{ToolNo}}}
use Rattle.perf_base.specs.Scripts.{Scripted, lines_of_cpu, lines_of_tool}
use Rattle.perf_base.specs.declared.acts.Act.TheVariants as act
use Rattle.stage_spec.specs.{Hardware.{hardware_of}, History.{SeenStep, stage_step, history, opening_stage}}
use Rattle.stage_spec.specs.Order.{IsLawfulSeen, is_of_cpu, is_of_tool, done_by_cpu, done_by_tool, last_seen}
use Rattle.ring_spec.specs.{Account.{Looks, lost_among}, Rings.{account_in, bytes_of, sizes_in}}
use Rattle.ring_spec.{specs.Running.{Running, RingAccount, losses_on, record_after}, proofs.{Lawful.{lawful_law}, Running.{in_account, record_law}}}
use Rattle.ring_laws.proofs.Tails.{seen_tail}
use Rattle.ring_words.specs.Ends.{IsStop}
use Rattle.sample_ring.specs.{Taking.{with_tail as with_last_tail}, Lending.{with_out}, OutEnds.{OutEnd, HasAccount}, RingLists.{HasRing, ring_index}}
use Rattle.sample_ring.proofs.Cuts.{stops_are_ends}
use Rattle.world_spec.{specs.{Agreement.{AgreesWith}, Kept.{IsKept}, Value.{World}, Stepping.{HasStepped}}, proofs.{Lines.{KeepsAll}, Stepping.{stepped}}}
use Rattle.work_account.specs.Ends.{IsAccountOf, AreAccounts}
use Rattle.machine.proofs.{Keeping.{kept-stepped}, History.{record-push}, Places.{account-there, seen-among, with_tail}}
use Rattle.machine.specs.Leading.{Kept, LeadTo, record_in}

-- a look loses no record
none-lost-on : (ring : RingNo) (place : ℕ) (a : RingAccount) → losses_on (SeenStep ring place) [] a ≡ []
none-lost-on ring place a = one (ring.0 == a.ring.0)
  where
    one : (b : Bool) → lost_among a.bytes a.account ((if b then Looks place ∷ [] else []) ++ []) ≡ []
    one true = refl
    one false = refl

none-lost : (ring : RingNo) (place : ℕ) (rings : List RingAccount) → flat_map (losses_on (SeenStep ring place) []) rings ≡ []
none-lost ring place [] = refl
none-lost ring place (a ∷ rings) = (λ i. none-lost-on ring place a i ++ none-lost ring place rings i)

-- and leaves the world
look-stepped : (w : World) (ring : RingNo) (place : ℕ) → IsKept w.hardware w → HasStepped w.hardware w w (SeenStep ring place)
unfolding stage_step
look-stepped w ring place h = search (KeepsAll, kept-stepped)

look-agrees : (w : World) (r : Running) (ring : RingNo) (place : ℕ) → IsKept w.hardware w → AgreesWith w r → AgreesWith w (record_after w.hardware r (SeenStep ring place))
look-agrees w r ring place h a = stepped w.hardware w w r (SeenStep ring place) h h a (look-stepped w ring place h) (none-lost ring place r.rings)

-- the end has its account with the tail seen
looked : (place loads : ℕ) (o : OutEnd) (n : RingNo) (a : RingAccount) → IsAccountOf n o a → IsAccountOf n (with_last_tail o place loads) (with_tail place a)
looked place loads o n a h = grind arith

-- no line is done
cpu-still : (acts : List Act) (ring : RingNo) (place : ℕ) (cpu : CpuNo) → done_by_cpu cpu (acts ++ act.Seen ring place ∷ []) ≡ done_by_cpu cpu acts
cpu-still acts ring place cpu = sum_by_push (λ a. cond (is_of_cpu cpu a) 1 0) acts (act.Seen ring place) ∙ omega arith

tool-still : (acts : List Act) (ring : RingNo) (place : ℕ) (tool : ToolNo) → done_by_tool tool (acts ++ act.Seen ring place ∷ []) ≡ done_by_tool tool acts
tool-still acts ring place tool = sum_by_push (λ a. cond (is_of_tool tool a) 1 0) acts (act.Seen ring place) ∙ omega arith

-- the machine with the end of a ring that has seen the tail at a place, by so many loads in all
abbrev pub seen-by : Kept → RingNo → (place loads : ℕ) → OutEnd → Kept
seen-by m ring place loads o = record m { outs = with_out m.outs (ring_index m.outs.numbers ring) (with_last_tail o place loads) }

pub seen-led : (s : Scripted) (acts : List Act) (m : Kept) (ring : RingNo) (place loads : ℕ) (o : OutEnd) → IsKept m.world.hardware m.world → LeadTo s acts m → HasRing m.outs.numbers ring
    → slice_get m.outs.outs (ring_index m.outs.numbers ring) ≡ Some o → IsLawfulSeen (sizes_in s acts ring) (last_seen ring acts) place
    → LeadTo s (acts ++ act.Seen ring place ∷ []) (seen-by m ring place loads o)
seen-led s acts m ring place loads o kept led there at lawful =
    let after : record_after m.world.hardware (record_in s acts) (SeenStep ring place) ≡ record_in s (acts ++ act.Seen ring place ∷ []) =
    ap (λ hw. record_after hw (record_in s acts) (SeenStep ring place)) led.hardware ∙ sym (record-push s acts (act.Seen ring place) (SeenStep ring place) refl) in
    record {
      counted = record {
        cpus = λ cpu. subst (λ n. n ≤ length (lines_of_cpu s cpu)) (sym (cpu-still acts ring place cpu)) (led.counted.cpus cpu);
        tools = λ tool. subst (λ n. n ≤ length (lines_of_tool s tool)) (sym (tool-still acts ring place tool)) (led.counted.tools tool);
      };
      lawful = lawful_law s acts (act.Seen ring place) led.lawful lawful;
      cpus = λ cpu. led.cpus cpu ∙ sym (cpu-still acts ring place cpu);
      tools = λ tool. led.tools tool ∙ sym (tool-still acts ring place tool);
      hardware = led.hardware;
      agrees = subst (AgreesWith m.world) after (look-agrees m.world (record_in s acts) ring place kept led.agrees);
      ends = record {
        apart = led.ends.apart;
        each = subst (λ r. AreAccounts m.outs.numbers (slice_set m.outs.outs (ring_index m.outs.numbers ring) (with_last_tail o place loads)) r.rings) after
            (seen-among m.outs.numbers m.outs.outs (record_in s acts).rings ring place o (with_last_tail o place loads) led.ends.apart led.ends.each there at (looked place loads o));
      };
    }

-- The end of a ring has the account that the acts give that ring.
pub end-account : (s : Scripted) (acts : List Act) (m : Kept) (ring : RingNo) (o : OutEnd) → LeadTo s acts m → HasRing m.outs.numbers ring
    → slice_get m.outs.outs (ring_index m.outs.numbers ring) ≡ Some o → IsAccountOf ring o (in_account (account_in s acts) (ring, bytes_of s ring))
end-account s acts m ring o led there at =
    account-there (account_in s acts) m.outs.numbers m.outs.outs s.rings ring o
    (subst (AreAccounts m.outs.numbers m.outs.outs) (record_law (hardware_of s) (opening_stage s) s.rings (history s acts)).rings led.ends.each) there at

-- It has seen the tail last where the acts did.
pub end-seen : (s : Scripted) (acts : List Act) (m : Kept) (ring : RingNo) (o : OutEnd) → LeadTo s acts m → HasRing m.outs.numbers ring
    → slice_get m.outs.outs (ring_index m.outs.numbers ring) ≡ Some o → o.producer.last_tail ≡ last_seen ring acts
end-seen s acts m ring o led there at = sym (end-account s acts m ring o led there at).has.tail ∙ seen_tail s acts ring (bytes_of s ring)

-- A stop of its words that is not before the last tail may be seen.
pub lawful-stop : (s : Scripted) (acts : List Act) (m : Kept) (ring : RingNo) (place : ℕ) (o : OutEnd) → LeadTo s acts m → HasRing m.outs.numbers ring
    → slice_get m.outs.outs (ring_index m.outs.numbers ring) ≡ Some o → o.producer.last_tail ≤ place → IsStop o.producer.published place
    → IsLawfulSeen (sizes_in s acts ring) (last_seen ring acts) place
lawful-stop s acts m ring place o led there at above stop =
    let has : HasAccount o (account_in s acts (ring, bytes_of s ring)) = (end-account s acts m ring o led there at).has in
    grind (arith, end-seen, stops_are_ends, has)

-- A look at the place that was seen last leaves the accounts.
still-looked : (place loads : ℕ) (o : OutEnd) (n : RingNo) (a : RingAccount) → o.producer.last_tail ≡ place → IsAccountOf n o a → IsAccountOf n (with_last_tail o place loads) a
still-looked place loads o n a same h = grind arith

still-among : (numbers : List RingNo) (outs : List OutEnd) (accounts : List RingAccount) (i : ℕ) (o p : OutEnd) → AreAccounts numbers outs accounts → slice_get outs i ≡ Some o
    → ((n : RingNo) (a : RingAccount) → IsAccountOf n o a → IsAccountOf n p a) → AreAccounts numbers (slice_set outs i p) accounts
still-among [] [] accounts i o p h at same = h
still-among [] (q ∷ outs) accounts i o p h at same = absurd h
still-among (n ∷ numbers) [] accounts i o p h at same = absurd h
still-among (n ∷ numbers) (q ∷ outs) [] i o p h at same = absurd h
still-among (n ∷ numbers) (q ∷ outs) (a ∷ accounts) zero o p h at same = (same n a (subst (λ x. IsAccountOf n x a) (same_Some q o at) h.0), h.1)
still-among (n ∷ numbers) (q ∷ outs) (a ∷ accounts) (suc i) o p h at same = (h.0, still-among numbers outs accounts i o p h.1 at same)

pub still-led : (s : Scripted) (acts : List Act) (m : Kept) (ring : RingNo) (place loads : ℕ) (o : OutEnd) → LeadTo s acts m
    → slice_get m.outs.outs (ring_index m.outs.numbers ring) ≡ Some o → o.producer.last_tail ≡ place → LeadTo s acts (seen-by m ring place loads o)
still-led s acts m ring place loads o led at same = record {
  counted = led.counted;
  lawful = led.lawful;
  cpus = led.cpus;
  tools = led.tools;
  hardware = led.hardware;
  agrees = led.agrees;
  ends = record {
    apart = led.ends.apart;
    each = still-among m.outs.numbers m.outs.outs (record_in s acts).rings (ring_index m.outs.numbers ring) o (with_last_tail o place loads) led.ends.each at
        (λ n a h. still-looked place loads o n a same h);
  };
}
