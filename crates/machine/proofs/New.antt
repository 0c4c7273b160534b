-- Rings that were just made, their ends and readers.
use Rattle.std.specs.Prelude.{◌≡◌, ◌≢◌, ℕ, ◌<◌, ◌≤◌, AllPairs, List, [], ◌∷◌, length, map, option_map, Option, Some, None, slice_get, slice_index_or}
use Rattle.std.proofs.{Common.{arith, refl, sym, ap, ◌∙◌}, lemmas.List.{get_or-map, length-map, Elements.{All-nil}}}
use Rattle.std.proofs.lemmas.Option.{none-some, same_Some, slice_get-map}
use Rattle.perf_base.specs.{declared.numbers.RingNo.{RingNo}, Scripts.{Scripted, IsScript}}
use Rattle.ring_spec.specs.{Running.{empty_ring}}
use Rattle.ring_words.specs.Ends.{Ring}
use Rattle.sample_ring.specs.{InEnds.{InEnd, new_in}, OutEnds.{OutEnd, new_out}, RingLists.{AreNew, InList, OutList, RingList}}
use Rattle.work_account.specs.Ends.{AreAccounts, AreTogether, HaveAccounts, IsAccountOf}
use Rattle.machine.specs.Readers.{AreFollowing, Follows}

-- a new end has an empty account
new-account : (n : RingNo) (bytes : ℕ) (t : Ring) → t.bytes ≡ bytes → IsAccountOf n (new_out t) (empty_ring (n, bytes))
new-account n bytes t e = grind (arith, All-nil)

head-is : (m n : ℕ) (ms ns : List ℕ) → ◌≡◌ {A = List ℕ} (m ∷ ms) (n ∷ ns) → m ≡ n
head-is m n ms ns e = cc

tail-is : (m n : ℕ) (ms ns : List ℕ) → ◌≡◌ {A = List ℕ} (m ∷ ms) (n ∷ ns) → ms ≡ ns
tail-is m n ms ns e = cc

new-each : (sizes : List (RingNo × ℕ)) (tables : List Ring) → map (λ (t : Ring). t.bytes) tables ≡ map (λ (s : RingNo × ℕ). s.1) sizes
    → AreAccounts (map (λ (s : RingNo × ℕ). s.0) sizes) (map new_out tables) (map empty_ring sizes)
new-each [] [] e = tt
new-each [] (t ∷ tables) e = absurd (omega (arith, ap length e))
new-each (s ∷ sizes) [] e = absurd (omega (arith, ap length e))
new-each (s ∷ sizes) (t ∷ tables) e = (
  new-account s.0 s.1 t (head-is t.bytes s.1 (map (λ (q : Ring). q.bytes) tables) (map (λ (q : RingNo × ℕ). q.1) sizes) e),
  new-each sizes tables (tail-is t.bytes s.1 (map (λ (q : Ring). q.bytes) tables) (map (λ (q : RingNo × ℕ). q.1) sizes) e),
)

-- rings of a script have different numbers
rising-apart : (rings : List (RingNo × ℕ)) → AllPairs (λ (q r : RingNo × ℕ). q.0.0 < r.0.0) rings → AllPairs (λ (m n : RingNo). m.0 ≢ n.0) (map (λ (r : RingNo × ℕ). r.0) rings)
rising-apart rings h i j d below inside same =
    let number : RingNo × ℕ → RingNo = λ r. r.0 in
    let few : j < length rings = omega (arith, inside, length-map rings number) in
    let q : RingNo × ℕ = (d, 0) in
    let less : (slice_index_or rings i q).0.0 < (slice_index_or rings j q).0.0 = h i j q below few in
    grind (arith, less, get_or-map, number, q, few)

pub new-accounts : (s : Scripted) (words : ℕ) (rings : RingList) (outs : OutList) (ins : InList) → IsScript s → AreNew s.rings words rings outs ins
    → HaveAccounts outs (map empty_ring s.rings)
new-accounts s words rings outs ins h new = grind (arith, rising-apart, new-each)

same-rings : (tables : List Ring) → map (λ (o : OutEnd). o.producer.ring) (map new_out tables) ≡ tables
same-rings [] = refl
same-rings (t ∷ tables) = ap (λ l. t ∷ l) (same-rings tables)

pub new-together : (s : Scripted) (words : ℕ) (rings : RingList) (outs : OutList) (ins : InList) → AreNew s.rings words rings outs ins → AreTogether rings outs
new-together s words rings outs ins new = grind (arith, same-rings)

new-follows : (tables : List Ring) (words room : ℕ) (place : ℕ) (o : OutEnd) → words ≤ room → slice_get (map new_out tables) place ≡ Some o
    → (i : InEnd) × (slice_get (map (λ (t : Ring). Some (new_in t room)) tables) place ≡ Some (Some i)) × Follows words o i
new-follows tables words room place o enough at = one (slice_get tables place) refl (sym (slice_get-map new_out tables place) ∙ at)
  where
    one : (found : Option Ring) → slice_get tables place ≡ found → option_map new_out found ≡ Some o
        → (i : InEnd) × (slice_get (map (λ (t : Ring). Some (new_in t room)) tables) place ≡ Some (Some i)) × Follows words o i
    one None there is = absurd (none-some o is)
    one (Some t) there is =
        let same : new_out t ≡ o = same_Some (new_out t) o is in (
          new_in t room,
          slice_get-map (λ (q : Ring). Some (new_in q room)) tables place ∙ ap (option_map (λ (q : Ring). Some (new_in q room))) there,
          record {
            ring = ap (λ (q : OutEnd). q.producer.ring) same;
            up_to = record { kept = refl; words = ap (λ (q : OutEnd). q.producer.last_tail) same; released = refl };
            room = enough;
          },
        )

pub new-following : (s : Scripted) (words room : ℕ) (rings : RingList) (outs : OutList) (ins : InList) → words ≤ room → AreNew s.rings room rings outs ins → AreFollowing words outs ins
new-following s words room rings outs ins enough new = record {
  numbers = new.in_numbers ∙ sym new.out_numbers;
  each = λ place o at.
      let there = new-follows rings.tables words room place o enough (ap (λ l. slice_get l place) (sym new.new_outs) ∙ at) in
      (there.0, ap (λ l. slice_get l place) new.new_readers ∙ there.1, there.2);
}
