-- A view that is parted, and one that is joined to another, keep the rule. So does the start.
use Rattle.std.proofs.Common.{◌≡◌, ◌≢◌, ℕ, Bool, true, false, cond, List, Some, [], ◌∷◌, ◌++◌, length, set, Contains, refl, sym, ap, ◌∙◌, subst, inl, inr, ⊎_elim, true≢false, append-nil, arith}
use Rattle.std.proofs.lemmas.List.Elements.{filter-append}
use mathlib.Core.Option.{some}
use lib.ListN.{get_elem?}
use Rattle.atomic_table.{specs.Table.{State, Splits, Joins}, proofs.Lists.{at_snoc, set_again, set_else}}
use Rattle.shared_object.specs.{declared.view.View.{View}, Views.{Slot, spent, parting, part, note_of, noted}, Rule.{holders, IsFree, IsHeld, Knows, IsPartIn, IsKept}}
use Rattle.shared_object.proofs.Names.{IsLater, same_pass, put, fresh, fresh_still, named_more}
use Rattle.shared_object.proofs.Keeping.{changed, knows, same_history, turn_rests}

module _ {O K C R : Type 0} (after : K → O → List (C × R) → Type 0) (legal : K → List (C × R) → Type 0) (key : K) where
  -- the table with one more seat
  abbrev with_seat : State (Slot O C R) (View K C R) → View K C R → State (Slot O C R) (View K C R)
  with_seat s n = record { words = s.words; homes = s.homes; views = s.views ++ n ∷ [] }

  module _ (s : State (Slot O C R) (View K C R)) (k : IsKept after legal key s) (n : View K C R) (rests : n.holds ≡ false) (bare : n.own ≡ [])
      (new : n.is_pass ≡ true → ((j : ℕ) (u : View K C R) → get_elem? s.views j ≡ some u → u.is_pass ≡ true → u.name ≢ n.name) × IsPartIn s.views n) where
    same_holders : holders (s.views ++ n ∷ []) ≡ holders s.views
    same_holders =
        filter-append (λ u. u.holds) s.views (n ∷ []) ∙ ap (λ (b : Bool). holders s.views ++ cond b (n ∷ []) []) rests ∙ append-nil (holders s.views)

    no_own : (u : View K C R) → n ≡ u → (place : ℕ) → Contains u.own place → ⊥
    no_own u e place has =
        let none : Contains [] place = subst (λ (l : List ℕ). Contains l place) bare (subst (λ (z : View K C R). Contains z.own place) (sym e) has) in omega (arith, none.1)

    adds_seat : Knows legal key k.log n → IsKept after legal key (with_seat s n)
    adds_seat so = record {
      log = k.log;
      legal_log = k.legal_log;
      room = k.room;
      words = k.words;
      count = k.count;
      turn =
          ⊎_elim (λ (f : IsFree after key k.log s). inl record { turn = f.turn; none_holds = same_holders ∙ f.none_holds; value = f.value; at_home = f.at_home; stores = f.stores })
          (λ (h : IsHeld s). inr record { turn = h.turn; holder = h.holder; one_holds = same_holders ∙ h.one_holds; away = h.away }) k.turn;
      views = λ seat u there.
          ⊎_elim (λ (was : get_elem? s.views seat ≡ some u). k.views seat u was) (λ (e : n ≡ u). inr (subst (λ (z : View K C R). Knows legal key k.log z) e so)) (at_snoc s.views n u seat there);
      names = named_more s.views (length k.log) n new k.names;
      apart = λ i j a b apart here there place one other.
          ⊎_elim
          (λ (t : get_elem? s.views i ≡ some a).
          ⊎_elim (λ (u : get_elem? s.views j ≡ some b). k.apart i j a b apart t u place one other) (λ (e : n ≡ b). no_own b e place other) (at_snoc s.views n b j there))
          (λ (e : n ≡ a). no_own a e place one) (at_snoc s.views n a i here);
    }

  module _ (id : ℕ) (v : View K C R) (live : v.key ≡ Some key) where
    pub may_note_down : Splits (IsKept after legal key) id v v (note_of v)
    may_note_down s k at =
        let x : Knows legal key k.log v = knows after legal key s k id v at live in
        let so : Knows legal key k.log (note_of v) = record {
          key_is = live;
          seen = x.seen;
          legal_seen = x.legal_seen;
          note = x.seen;
          legal_note = x.legal_seen;
          turn_of_pass = λ holds. absurd (true≢false (sym holds));
          own = λ place has. absurd (omega (arith, has.1));
          whole_note = λ holds. absurd (true≢false (sym holds));
          whole_seen = λ holds loaded. absurd (true≢false (sym holds));
        } in
        subst (λ (l : List (View K C R)). IsKept after legal key (record { words = s.words; homes = s.homes; views = l ++ note_of v ∷ [] })) (sym (set_again s.views id v at))
        (adds_seat s k (note_of v) refl refl (λ one. absurd (true≢false (sym one))) so)

    pub may_part : v.is_pass ≡ true → v.holds ≡ false → Splits (IsKept after legal key) id v (parting v) (part v)
    may_part of_pass rests s k at =
        let x : Knows legal key k.log v = knows after legal key s k id v at live in
        let left : View K C R = parting v in
        let left_so : Knows legal key k.log left = record {
          key_is = x.key_is;
          seen = x.seen;
          legal_seen = x.legal_seen;
          note = x.note;
          legal_note = x.legal_note;
          turn_of_pass = x.turn_of_pass;
          own = x.own;
          whole_note = x.whole_note;
          whole_seen = x.whole_seen;
        } in
        let later : IsLater v left = record { is_pass = refl; name = refl; parted = omega arith; own = λ place has. has } in
        let one : IsKept after legal key (changed s s.words s.homes id left) =
        same_history after legal key s k id v at s.words s.homes left k.words k.count (turn_rests after legal key s k id v at s.words left refl rests rests) (inr left_so) (λ place has. inl has) later in
        let y : Knows legal key one.log left = knows after legal key (changed s s.words s.homes id left) one id left (put s.views id v left at) live in
        let so : Knows legal key one.log (part v) = record {
          key_is = live;
          seen = y.seen;
          legal_seen = y.legal_seen;
          note = y.seen;
          legal_note = y.legal_seen;
          turn_of_pass = λ _. refl;
          own = λ place has. absurd (omega (arith, has.1));
          whole_note = λ holds. absurd (true≢false (sym holds));
          whole_seen = λ holds loaded. absurd (true≢false (sym holds));
        } in
        let is_part : IsPartIn (set s.views id left) (part v) =
        record { seat = id; parent = left; at = put s.views id v left at; of_pass = of_pass; number = v.parted; before = omega arith; name = refl } in
        adds_seat (changed s s.words s.homes id left) one (part v) refl refl
        (λ _. (fresh_still s.views id v left at later (v.name ++ v.parted ∷ []) (fresh s.views (length k.log) id v at of_pass k.names), is_part)) so

    pub may_note : v.holds ≡ false → (other : ℕ) (w : View K C R) → w.key ≡ Some key → w ≡ note_of w → Joins (IsKept after legal key) id v other w (noted v w) spent
    may_note rests other w alive a_note s k at apart there =
        let still : w.holds ≡ false = ap (λ (z : View K C R). z.holds) a_note in
        let gone : IsLater w spent = record {
          is_pass = sym (ap (λ (z : View K C R). z.is_pass) a_note);
          name = sym (ap (λ (z : View K C R). z.name) a_note);
          parted = omega (arith, ap (λ (z : View K C R). z.parted) a_note);
          own = λ place has. subst (λ (l : List ℕ). Contains l place) (ap (λ (z : View K C R). z.own) a_note) has;
        } in
        let both : View K C R = noted v w in
        let was : get_elem? s.views other ≡ some w = sym (set_else s.views id other both apart) ∙ there in
        let x : Knows legal key k.log v = knows after legal key s k id v at live in
        let y : Knows legal key k.log w = knows after legal key s k other w was alive in
        let so : Knows legal key k.log both = record {
          key_is = x.key_is;
          seen = x.seen;
          legal_seen = x.legal_seen;
          note = y.seen;
          legal_note = y.legal_seen;
          turn_of_pass = x.turn_of_pass;
          own = x.own;
          whole_note = λ holds. absurd (true≢false (sym holds ∙ rests));
          whole_seen = x.whole_seen;
        } in
        let one : IsKept after legal key (changed s s.words s.homes id both) =
        same_history after legal key s k id v at s.words s.homes both k.words k.count (turn_rests after legal key s k id v at s.words both refl rests rests) (inr so) (λ place has. inl has) (same_pass v both refl refl refl refl) in
        same_history after legal key (changed s s.words s.homes id both) one other w there s.words s.homes spent one.words one.count
        (turn_rests after legal key (changed s s.words s.homes id both) one other w there s.words spent refl still refl) (inl refl) (λ place has. absurd (omega (arith, has.1))) gone
