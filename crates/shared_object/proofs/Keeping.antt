-- How the rule goes from one state to the next, where one seat's view changes.
use Rattle.std.proofs.Common.{◌≡◌, ◌≢◌, ℕ, ◌<◌, ◌≤◌, ◌⊎◌, true, false, List, Some, None, [], ◌++◌, length, set, slice_index, Contains, refl, sym, ap, ◌∙◌, subst, inl, inr, ⊎_elim, true≢false, length-append, arith}
use mathlib.Core.Option.{Option, some}
use lib.ListN.{get_elem?}
use Rattle.atomic_table.{specs.Table.{State}, proofs.Lists.{at_set, set_else}}
use Rattle.shared_object.specs.{declared.view.View.{View}, Histories.{most_calls}, Views.{Slot, spent}, Rule.{holders, IsFree, IsHeld, Knows, IsKept}}
use Rattle.perf_base.proofs.{Alone.{it_stays, it_goes, others_stay, none_passes}, Prefixes.{prefix_more}}
use Rattle.shared_object.proofs.Names.{IsLater, named_still}

-- the table after a step of the seat
abbrev pub changed : {O K C R : Type 0} → State (Slot O C R) (View K C R) → List ℕ → List (Option (Slot O C R)) → ℕ → View K C R → State (Slot O C R) (View K C R)
changed s words homes id w = record { words = words; homes = homes; views = set s.views id w }

module _ {O K C R : Type 0} (after : K → O → List (C × R) → Type 0) (legal : K → List (C × R) → Type 0) (key : K) (s : State (Slot O C R) (View K C R)) (k : IsKept after legal key s) where
  -- own places are below the count
  pub below : (i : ℕ) (u : View K C R) → get_elem? s.views i ≡ some u → (place : ℕ) → Contains u.own place → place < length k.log
  below i u there place has =
      ⊎_elim (λ (e : u ≡ spent). let none : Contains [] place = subst (λ (z : View K C R). Contains z.own place) e has in absurd (omega (arith, none.1)))
      (λ (x : Knows legal key k.log u). x.own place has) (k.views i u there)

  -- what a view without the turn knows is so of a longer history
  grown : (more : List (C × R)) (u : View K C R) → u.holds ≡ false → (u ≡ spent) ⊎ Knows legal key k.log u → (u ≡ spent) ⊎ Knows legal key (k.log ++ more) u
  grown more u rests so =
      ⊎_elim (λ (e : u ≡ spent). inl e)
      (λ (x : Knows legal key k.log u).
      inr record {
        key_is = x.key_is;
        seen = prefix_more u.seen k.log more x.seen;
        legal_seen = x.legal_seen;
        note = prefix_more u.note k.log more x.note;
        legal_note = x.legal_note;
        turn_of_pass = x.turn_of_pass;
        own = λ place has. let low : place < length k.log = x.own place has in omega (arith, low, length-append k.log more);
        whole_note = λ holds. absurd (true≢false (sym holds ∙ rests));
        whole_seen = λ holds loaded. absurd (true≢false (sym holds ∙ rests));
      }) so

  module _ (id : ℕ) (v : View K C R) (at : get_elem? s.views id ≡ some v) where
    pub knows : v.key ≡ Some key → Knows legal key k.log v
    knows live =
        ⊎_elim (λ (e : v ≡ spent). let bad : Some key ≡ None = sym live ∙ ap (λ (z : View K C R). z.key) e in absurd cc) (λ (x : Knows legal key k.log v). x) (k.views id v at)

    -- places that are new to the seat are not below the count
    abbrev pub AddsOwn : View K C R → Type 0
    AddsOwn w = (place : ℕ) → Contains w.own place → Contains v.own place ⊎ (length k.log ≤ place)

    clash : (w : View K C R) → AddsOwn w → (j : ℕ) (b : View K C R) → j ≢ id → get_elem? s.views j ≡ some b → (place : ℕ) → Contains w.own place → Contains b.own place → ⊥
    clash w own j b apart there place here has =
        ⊎_elim (λ (old : Contains v.own place). k.apart id j v b (λ e. apart (sym e)) at there place old has)
        (λ (high : length k.log ≤ place). let low : place < length k.log = below j b there place has in omega (arith, high, low)) (own place here)

    pub still_apart : (w : View K C R) → AddsOwn w → (i j : ℕ) (a b : View K C R) → i ≢ j → get_elem? (set s.views id w) i ≡ some a → get_elem? (set s.views id w) j ≡ some b
        → (place : ℕ) → Contains a.own place → Contains b.own place → ⊥
    still_apart w own i j a b apart here there place one other =
        ⊎_elim
        (λ (t : (i ≡ id) × (w ≡ a)).
        ⊎_elim (λ (u : (j ≡ id) × (w ≡ b)). apart (t.0 ∙ sym u.0))
        (λ (u : (j ≢ id) × (get_elem? s.views j ≡ some b)). clash w own j b u.0 u.1 place (subst (λ (z : View K C R). Contains z.own place) (sym t.1) one) other) (at_set s.views id j w b there))
        (λ (t : (i ≢ id) × (get_elem? s.views i ≡ some a)).
        ⊎_elim (λ (u : (j ≡ id) × (w ≡ b)). clash w own i a t.0 t.1 place (subst (λ (z : View K C R). Contains z.own place) (sym u.1) other) one)
        (λ (u : (j ≢ id) × (get_elem? s.views j ≡ some b)). k.apart i j a b apart t.1 u.1 place one other) (at_set s.views id j w b there)) (at_set s.views id i w a here)

    -- a step after which the history is as before
    pub same_history : (words : List ℕ) (homes : List (Option (Slot O C R))) (w : View K C R) → length words ≡ 2 → slice_index words 1 ≡ length k.log
        → IsFree after key k.log (changed s words homes id w) ⊎ IsHeld (changed s words homes id w) → (w ≡ spent) ⊎ Knows legal key k.log w → AddsOwn w → IsLater v w
        → IsKept after legal key (changed s words homes id w)
    same_history words homes w long count turn so own later = record {
      log = k.log;
      legal_log = k.legal_log;
      room = k.room;
      words = long;
      count = count;
      turn = turn;
      views = λ seat u there.
          ⊎_elim (λ (t : (seat ≡ id) × (w ≡ u)). subst (λ (z : View K C R). (z ≡ spent) ⊎ Knows legal key k.log z) t.1 so)
          (λ (t : (seat ≢ id) × (get_elem? s.views seat ≡ some u)). k.views seat u t.1) (at_set s.views id seat w u there);
      names = named_still s.views id v w at later (length k.log) (length k.log) (λ place few. inl few) k.names;
      apart = still_apart w own;
    }

    -- the turn stays as it is where the seat does not hold it
    pub turn_rests : (words : List ℕ) (w : View K C R) → slice_index words 0 ≡ slice_index s.words 0 → v.holds ≡ false → w.holds ≡ false
        → IsFree after key k.log (changed s words s.homes id w) ⊎ IsHeld (changed s words s.homes id w)
    turn_rests words w same rests still =
        let others : holders (set s.views id w) ≡ holders s.views = others_stay (λ u. u.holds) s.views id v at w rests still in
        ⊎_elim (λ (f : IsFree after key k.log s). inl record { turn = same ∙ f.turn; none_holds = others ∙ f.none_holds; value = f.value; at_home = f.at_home; stores = f.stores })
        (λ (h : IsHeld s). inr record { turn = same ∙ h.turn; holder = h.holder; one_holds = others ∙ h.one_holds; away = h.away }) k.turn

    module _ (holds : v.holds ≡ true) where
      pub held : IsHeld s
      held =
          ⊎_elim (λ (f : IsFree after key k.log s). absurd (true≢false (sym holds ∙ none_passes (λ u. u.holds) s.views id v at f.none_holds))) (λ (h : IsHeld s). h) k.turn

      pub turn_stays : (words : List ℕ) (w : View K C R) → slice_index words 0 ≡ slice_index s.words 0 → w.holds ≡ true → IsHeld (changed s words s.homes id w)
      turn_stays words w same still = record {
        turn = same ∙ held.turn;
        holder = w;
        one_holds = it_stays (λ u. u.holds) s.views id v at held.holder w holds still held.one_holds;
        away = held.away;
      }

      pub others_rest : (seat : ℕ) (u : View K C R) → seat ≢ id → get_elem? s.views seat ≡ some u → u.holds ≡ false
      others_rest seat u apart there =
          none_passes (λ z. z.holds) (set s.views id spent) seat u (set_else s.views id seat spent apart ∙ there) (it_goes (λ z. z.holds) s.views id v at held.holder spent holds refl held.one_holds)

      -- a step of the seat with the turn, after which the history is longer
      pub longer_history : (words : List ℕ) (w : View K C R) (more : List (C × R)) → length words ≡ 2 → slice_index words 0 ≡ slice_index s.words 0 → w.holds ≡ true
          → slice_index words 1 ≡ length (k.log ++ more) → length (k.log ++ more) ≤ most_calls → legal key (k.log ++ more) → Knows legal key (k.log ++ more) w → AddsOwn w → IsLater v w
          → ((place : ℕ) → place < length (k.log ++ more) → (place < length k.log) ⊎ (Contains w.own place × (w.is_pass ≡ true)))
          → IsKept after legal key (changed s words s.homes id w)
      longer_history words w more long same still count room fits so own later all = record {
        log = k.log ++ more;
        legal_log = fits;
        room = room;
        words = long;
        count = count;
        turn = inr (turn_stays words w same still);
        views = λ seat u there.
            ⊎_elim (λ (t : (seat ≡ id) × (w ≡ u)). inr (subst (λ (z : View K C R). Knows legal key (k.log ++ more) z) t.1 so))
            (λ (t : (seat ≢ id) × (get_elem? s.views seat ≡ some u)). grown more u (others_rest seat u t.0 t.1) (k.views seat u t.1)) (at_set s.views id seat w u there);
        names = named_still s.views id v w at later (length k.log) (length (k.log ++ more)) all k.names;
        apart = still_apart w own;
      }
