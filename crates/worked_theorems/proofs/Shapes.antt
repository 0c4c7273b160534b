-- Orders that a run leaves, and that none leaves: how a case shows which, by tests that are exact.
use Rattle.std.specs.Prelude.{◌≡◌, ◌≤◌, ◌*◌, ◌==◌, ℕ, nat_le, nat_lt, Bool, true, false, not, ◌&&◌, List, [], ◌∷◌, ◌++◌, length, drop, All, Option, Some, None, MatchOption}
use Rattle.std.{specs.List.{list_all}, proofs.Common.{arith, refl, sym, ap, ◌∙◌, append_assoc, append-nil, get_or}}
use Rattle.std.proofs.lemmas.{Bool.{false≢true, and_parts, not-true, ltb-true, leb-true, le-leb, eq-eqb, Decides.{nat_tests}}, List.{length-append}}
use Rattle.std.proofs.lemmas.List.{Sums.{AllPass-from_list_all, list_all-from_AllPass}, Folds.{list_all-map}}
use Rattle.perf_base.specs.{declared.{numbers.RingNo.{RingNo}, lines.ReaderLine.{ReaderLine}, acts.Act.{Act}}, Scripts.{Scripted}}
use Rattle.perf_base.specs.declared.acts.Act.TheVariants as act
use Rattle.stage_spec.specs.{Hardware.{hardware_of}, Order.{IsCounted, last_seen}, History.{history, opening_stage}}
use Rattle.ring_spec.{specs.{Rings.{IsLawfulOrder, account_of}, Running.{RingAccount, Running}}, proofs.Running.{IsKept, in_account}}
use Rattle.report_spec.specs.Answers.{StandsBefore, RisesTo, IsRunAct, IsRunShaped, taken_of, reader_of, IsNoLook, AreReadersParts}
use Rattle.worked_theorems.proofs.{Whole.{is_counted, counted_by}, Unlawful.{AllLooks, lawful_looks}, reports.Looking.{Walked, walked}}

-- whether a look stands as a run makes it, and whether all looks of an order do
abbrev stands_before : List Act → Bool
stands_before [] = true
stands_before (act.Processor cpu ∷ acts) = true
stands_before (act.Tool tool ∷ acts) = false
stands_before (act.Seen ring place ∷ acts) = stands_before acts

abbrev rises_to : RingNo → List Act → Bool
rises_to ring [] = true
rises_to ring (act.Processor cpu ∷ acts) = true
rises_to ring (act.Tool tool ∷ acts) = true
rises_to ring (act.Seen other place ∷ acts) = nat_lt ring.0 other.0

abbrev is_run_act : (before after : List Act) → Act → Bool
is_run_act before after (act.Processor cpu) = true
is_run_act before after (act.Tool tool) = true
is_run_act before after (act.Seen ring place) = stands_before after && (rises_to ring after && nat_lt (last_seen ring before) place)

abbrev pub is_shaped : (before acts : List Act) → Bool
is_shaped before [] = true
is_shaped before (a ∷ acts) = is_run_act before acts a && is_shaped (before ++ a ∷ []) acts

stands : (acts : List Act) → stands_before acts ≡ true → StandsBefore acts
stands [] h = tt
stands (act.Processor cpu ∷ acts) h = tt
stands (act.Tool tool ∷ acts) h = false≢true h
stands (act.Seen ring place ∷ acts) h = stands acts h

rises : (ring : RingNo) (acts : List Act) → rises_to ring acts ≡ true → RisesTo ring acts
rises ring [] h = tt
rises ring (act.Processor cpu ∷ acts) h = tt
rises ring (act.Tool tool ∷ acts) h = tt
rises ring (act.Seen other place ∷ acts) h = ltb-true ring.0 other.0 h

run_act : (before after : List Act) (a : Act) → is_run_act before after a ≡ true → IsRunAct before after a
run_act before after (act.Processor cpu) h = tt
run_act before after (act.Tool tool) h = tt
run_act before after (act.Seen ring place) h =
    let first = and_parts (stands_before after) (rises_to ring after && nat_lt (last_seen ring before) place) h in
    let rest = and_parts (rises_to ring after) (nat_lt (last_seen ring before) place) first.1 in
    record { stands = stands after first.0; rises = rises ring after rest.0; above = ltb-true (last_seen ring before) place rest.1 }

shaped_from : (before acts : List Act) → is_shaped before acts ≡ true → (some after : List Act) (a : Act) → acts ≡ some ++ a ∷ after → IsRunAct (before ++ some) after a
shaped_from before [] h some after a e = absurd (omega (arith, ap length e, length-append some (a ∷ after)))
shaped_from before (c ∷ acts) h [] after a e =
    let same : c ≡ a = ap (λ l. get_or l 0 a) e in
    let rest : acts ≡ after = ap (drop 1) e in
    rw (append-nil before, ← same, ← rest) (run_act before acts c (and_parts (is_run_act before acts c) (is_shaped (before ++ c ∷ []) acts) h).0)
shaped_from before (c ∷ acts) h (d ∷ some) after a e =
    let same : c ≡ d = ap (λ l. get_or l 0 a) e in
    let rest : acts ≡ some ++ a ∷ after = ap (drop 1) e in
    let regrouped : (before ++ c ∷ []) ++ some ≡ before ++ c ∷ some = append_assoc before (c ∷ []) some in
    let later = shaped_from (before ++ c ∷ []) acts (and_parts (is_run_act before acts c) (is_shaped (before ++ c ∷ []) acts) h).1 some after a rest in
    rw (← same, ← regrouped) later

pub shaped : (order : List Act) → is_shaped [] order ≡ true → IsRunShaped order
shaped order h = shaped_from [] order h

-- whether a ring's reader took its part, and whether all did
abbrev is_no_look : RingNo → Act → Bool
is_no_look ring (act.Processor cpu) = true
is_no_look ring (act.Tool tool) = true
is_no_look ring (act.Seen other place) = not (other.0 == ring.0)

abbrev PartBy : Option ReaderLine → List Act → RingAccount → Type 0
PartBy line order a = MatchOption line (All (IsNoLook a.ring) order) (λ line. length (taken_of a.account) ≤ line.tries * line.batch)

abbrev is_part_by : Option ReaderLine → List Act → RingAccount → Bool
is_part_by None order a = list_all (is_no_look a.ring) order
is_part_by (Some line) order a = nat_le (length (taken_of a.account)) (line.tries * line.batch)

abbrev pub is_part : Scripted → RingAccount → Bool
is_part s a = is_part_by (reader_of s a.ring) s.order a

no_look : (ring : RingNo) (a : Act) → is_no_look ring a ≡ true → IsNoLook ring a
no_look ring (act.Processor cpu) h = tt
no_look ring (act.Tool tool) h = tt
no_look ring (act.Seen other place) h = λ e. false≢true (sym (not-true (other.0 == ring.0) h) ∙ eq-eqb other.0 ring.0 e)

no_look_passes : (ring : RingNo) (a : Act) → IsNoLook ring a → is_no_look ring a ≡ true
no_look_passes ring (act.Processor cpu) h = refl
no_look_passes ring (act.Tool tool) h = refl
no_look_passes ring (act.Seen other place) h = grind (arith, nat_tests, h)

part_by : (line : Option ReaderLine) (order : List Act) (a : RingAccount) → is_part_by line order a ≡ true → PartBy line order a
part_by None order a h = λ i d l. no_look a.ring (get_or order i d) (AllPass-from_list_all (is_no_look a.ring) order h i d l)
part_by (Some line) order a h = leb-true (length (taken_of a.account)) (line.tries * line.batch) h

part_passes : (line : Option ReaderLine) (order : List Act) (a : RingAccount) → PartBy line order a → is_part_by line order a ≡ true
part_passes None order a h = list_all-from_AllPass (is_no_look a.ring) order (λ i d l. no_look_passes a.ring (get_or order i d) (h i d l))
part_passes (Some line) order a h = le-leb (length (taken_of a.account)) (line.tries * line.batch) h

abbrev pub PartsTell : Scripted → Bool → Running → Type 0
PartsTell s taken k = list_all (is_part s) k.rings ≡ taken

-- the tests of the accounts that are kept are those of the accounts by the definition
abbrev ring_of : Scripted → RingNo × ℕ → RingAccount
ring_of s ring = in_account (account_of (hardware_of s) (opening_stage s) (history s s.order)) ring

parts_of : (s : Scripted) (k : Running) (taken : Bool) → IsKept (hardware_of s) (opening_stage s) s.rings (history s s.order) k → PartsTell s taken k
    → list_all (λ ring. is_part s (ring_of s ring)) s.rings ≡ taken
parts_of s k taken h e = sym (list_all-map (is_part s) (ring_of s) s.rings) ∙ (ap (list_all (is_part s)) (sym h.rings) ∙ e)

parts_taken : (s : Scripted) → list_all (λ ring. is_part s (ring_of s ring)) s.rings ≡ true → AreReadersParts s s.order
parts_taken s e =
    λ i d l. part_by (reader_of s (get_or s.rings i d).0) s.order (ring_of s (get_or s.rings i d)) (AllPass-from_list_all (λ ring. is_part s (ring_of s ring)) s.rings e i d l)

parts_pass : (s : Scripted) → AreReadersParts s s.order → list_all (λ ring. is_part s (ring_of s ring)) s.rings ≡ true
parts_pass s h = list_all-from_AllPass (λ ring. is_part s (ring_of s ring)) s.rings
    (λ i d l. part_passes (reader_of s (get_or s.rings i d).0) s.order (ring_of s (get_or s.rings i d)) (h i d l))

-- No actor has more acts than lines, each look is lawful, and this holds of the shape and of the readers' parts.
pub record IsOrder (s : Scripted) (Shape Parts : Type 0) : Type 0 where
  pub counted : IsCounted s s.order
  pub lawful : IsLawfulOrder s s.order
  pub shape : Shape
  pub parts : Parts

-- A run may leave the script's order.
abbrev pub IsOfRun : Scripted → Type 0
IsOfRun s = IsOrder s (IsRunShaped s.order) (AreReadersParts s s.order)

-- No run leaves it, for a look in it alone.
abbrev pub HasStrayLook : Scripted → Type 0
HasStrayLook s = IsOrder s (IsRunShaped s.order → ⊥) (AreReadersParts s s.order)

-- No run leaves it, for what a reader took alone.
abbrev pub HasNoReadersPart : Scripted → Type 0
HasNoReadersPart s = IsOrder s (IsRunShaped s.order) (AreReadersParts s s.order → ⊥)

order_with : (s : Scripted) (Shape Parts : Type 0) (taken : Bool) → is_counted s s.order ≡ true → Shape → (list_all (λ ring. is_part s (ring_of s ring)) s.rings ≡ taken → Parts)
    → Walked s (PartsTell s taken) s.order → IsOrder s Shape Parts
order_with s Shape Parts taken counted shape parts g =
    let h : AllLooks (hardware_of s) (opening_stage s) s.rings (PartsTell s taken) [] (history s s.order) = walked s (PartsTell s taken) s.order g in
    record {
      counted = counted_by s s.order counted;
      lawful = lawful_looks s s.order h.lawful;
      shape = shape;
      parts = parts (parts_of s h.last taken h.keeps h.said);
    }

pub of_run : (s : Scripted) → is_counted s s.order ≡ true → is_shaped [] s.order ≡ true → Walked s (PartsTell s true) s.order → IsOfRun s
of_run s counted shape g = order_with s (IsRunShaped s.order) (AreReadersParts s s.order) true counted (shaped s.order shape) (parts_taken s) g

pub stray_look : (s : Scripted) → is_counted s s.order ≡ true → (IsRunShaped s.order → ⊥) → Walked s (PartsTell s true) s.order → HasStrayLook s
stray_look s counted shape g = order_with s (IsRunShaped s.order → ⊥) (AreReadersParts s s.order) true counted shape (parts_taken s) g

pub no_readers_part : (s : Scripted) → is_counted s s.order ≡ true → is_shaped [] s.order ≡ true → Walked s (PartsTell s false) s.order → HasNoReadersPart s
no_readers_part s counted shape g =
    order_with s (IsRunShaped s.order) (AreReadersParts s s.order → ⊥) false counted (shaped s.order shape) (λ e h. false≢true (sym e ∙ parts_pass s h)) g
