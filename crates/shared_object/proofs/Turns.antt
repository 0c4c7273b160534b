-- The steps on the turn keep the rule.
use Rattle.std.proofs.Common.{◌≡◌, ◌≢◌, ℕ, ◌⊎◌, true, false, List, Some, [], ◌∷◌, set, slice_index, refl, sym, ap, ◌∙◌, subst, inl, inr, ⊎_elim, true≢false, length-set, get_or-set_same, get_or-set_other, arith}
use Rattle.std.proofs.lemmas.List.{set-get_or}
use mathlib.Core.Option.{Option, some, none}
use prog.Atomic.{either}
use lib.ListN.{get_elem?}
use Rattle.atomic_table.{specs.Table.{State, Act, keeps, takes, gives, Valid, Allows, stepped, carried_after, put_back}, proofs.Lists.{exchanged}}
use Rattle.shared_object.specs.{declared.view.View.{View}, Views.{Slot, Holder, finding, with_turn, at_rest}}
use Rattle.shared_object.specs.{Rule.{Stores, IsFree, IsHeld, Knows, IsKept}, Steps.{TakesTurn, StoresTurn}}
use Rattle.perf_base.proofs.{Alone.{it_comes, it_goes}, Prefixes.{prefix_self}}
use Rattle.shared_object.proofs.{Names.{same_pass}, Keeping.{knows, same_history, turn_rests, held}}

module _ {O K C R : Type 0} (after : K → O → List (C × R) → Type 0) (legal : K → List (C × R) → Type 0) (key : K) (slots id : ℕ) (m : Holder O K C R) (live : m.0.key ≡ Some key) where
  -- a view that found the turn held knows what it knew
  knows_still : (log : List (C × R)) (word : ℕ) → Knows legal key log m.0 → Knows legal key log (finding m.0 word)
  knows_still log word x = record {
    key_is = x.key_is;
    seen = x.seen;
    legal_seen = x.legal_seen;
    note = x.note;
    legal_note = x.legal_note;
    turn_of_pass = x.turn_of_pass;
    own = x.own;
    whole_note = x.whole_note;
    whole_seen = x.whole_seen;
  }

  knows_all : m.0.is_pass ≡ true → (log : List (C × R)) → legal key log → Knows legal key log m.0 → Knows legal key log (with_turn m.0 log)
  knows_all of_pass log fits x = record {
    key_is = x.key_is;
    seen = x.seen;
    legal_seen = x.legal_seen;
    note = prefix_self log;
    legal_note = fits;
    turn_of_pass = λ _. of_pass;
    own = x.own;
    whole_note = λ _. refl;
    whole_seen = λ _ loaded. absurd (true≢false (sym loaded));
  }

  module _ (rests : m.0.holds ≡ false) (of_pass : m.0.is_pass ≡ true) (s : State (Slot O C R) (View K C R)) (k : IsKept after legal key s) (at : get_elem? s.views id ≡ some m.0) where
    abbrev found : ℕ
    found = slice_index s.words 0

    -- the step is allowed where the turn becomes this word
    abbrev Takes : ℕ → Type 0
    Takes word =
        (w : View K C R) × (a : Act (Slot O C R)) × Valid s.homes m.1 a × IsKept after legal key (stepped s 0 word id m.1 w a) × TakesTurn after legal 0 m found (w, carried_after m.1 a)

    wins : found ≡ 0 → Takes 1
    wins zero_found =
        ⊎_elim
        (λ (f : IsFree after key k.log s).
        let v : View K C R = m.0 in
        let x : Knows legal key k.log v = knows after legal key s k id v at live in
        let w : View K C R = with_turn v k.log in
        let turn : IsHeld (stepped s 0 1 id m.1 w (takes 0 f.value)) = record {
          turn = get_or-set_same s.words 0 1 0 (omega (arith, k.words));
          holder = w;
          one_holds = it_comes (λ u. u.holds) s.views id v at w rests refl f.none_holds;
          away = ap (λ (h : List (Option (Slot O C R))). set h 0 none) f.at_home;
        } in (
          w,
          takes 0 f.value,
          ap (λ (h : List (Option (Slot O C R))). get_elem? h 0) f.at_home,
          same_history after legal key s k id v at (set s.words 0 1) (set s.homes 0 none) w (length-set s.words 0 1 ∙ k.words)
              (get_or-set_other s.words 0 1 1 0 (λ e. omega arith) ∙ k.count) (inr turn) (inr (knows_all of_pass k.log k.legal_log x)) (λ place has. inl has) (same_pass v w refl refl refl refl),
          record {
            on = refl;
            held = λ other. absurd (other zero_found);
            free = λ _. record {
              log = k.log;
              value = f.value;
              view = refl;
              room = k.room;
              prefix = x.seen;
              legal_log = λ key' is. let same : key ≡ key' = let e : Some key ≡ Some key' = sym live ∙ is in cc in subst (λ (z : K). legal z k.log) same k.legal_log;
              stores = λ key' is. let same : key ≡ key' = let e : Some key ≡ Some key' = sym live ∙ is in cc in subst (λ (z : K). Stores after z k.log f.value) same f.stores;
            };
          },
        ))
        (λ (h : IsHeld s). absurd (omega (arith, zero_found, h.turn))) k.turn

    loses : found ≢ 0 → Takes found
    loses other =
        let v : View K C R = m.0 in
        let x : Knows legal key k.log v = knows after legal key s k id v at live in
        let w : View K C R = finding v found in
        let same : set s.words 0 found ≡ s.words = set-get_or s.words 0 0 in (
          w,
          keeps,
          tt,
          same_history after legal key s k id v at (set s.words 0 found) s.homes w (length-set s.words 0 found ∙ k.words) (ap (λ (l : List ℕ). slice_index l 1) same ∙ k.count)
              (turn_rests after legal key s k id v at (set s.words 0 found) w (ap (λ (l : List ℕ). slice_index l 0) same) rests rests) (inr (knows_still k.log found x)) (λ place has. inl has) (same_pass v w refl refl refl refl),
          record { on = refl; held = λ _. refl; free = λ zero_found. absurd (other zero_found) },
        )

  pub may_take : m.0.holds ≡ false → m.0.is_pass ≡ true → Allows (IsKept after legal key) slots id m 0 (λ n. either (Rattle.std.proofs.Common.eqb n 0) 1 n) (TakesTurn after legal 0 m)
  may_take rests of_pass s k _ at _ = exchanged (slice_index s.words 0) 0 1 (Takes rests of_pass s k at) (wins rests of_pass s k at) (loses rests of_pass s k at)

  pub may_store_turn : m.0.holds ≡ true → (value : Slot O C R) → m.1 ≡ (0, value) ∷ [] → Stores after key m.0.note value
      → Allows (IsKept after legal key) slots id m 0 (λ _. 0) (λ _. StoresTurn 0 m 0)
  may_store_turn holds value carried stores s k _ at _ =
      let v : View K C R = m.0 in
      let x : Knows legal key k.log v = knows after legal key s k id v at live in
      let h : IsHeld s = held after legal key s k id v at holds in
      let w : View K C R = at_rest v in
      let back : put_back s.homes m.1 ≡ some value ∷ [] =
      ap (put_back s.homes) carried ∙ ap (λ (l : List (Option (Slot O C R))). set l 0 (some value)) h.away in
      let turn : IsFree after key k.log (stepped s 0 0 id m.1 w gives) = record {
        turn = get_or-set_same s.words 0 0 0 (omega (arith, k.words));
        none_holds = it_goes (λ u. u.holds) s.views id v at h.holder w holds refl h.one_holds;
        value = value;
        at_home = back;
        stores = subst (λ (l : List (C × R)). Stores after key l value) (x.whole_note holds) stores;
      } in
      let so : Knows legal key k.log w = record {
        key_is = x.key_is;
        seen = x.seen;
        legal_seen = x.legal_seen;
        note = x.note;
        legal_note = x.legal_note;
        turn_of_pass = λ still. absurd (true≢false (sym still));
        own = x.own;
        whole_note = λ still. absurd (true≢false (sym still));
        whole_seen = λ still loaded. absurd (true≢false (sym still));
      } in (
        w,
        gives,
        tt,
        same_history after legal key s k id v at (set s.words 0 0) (put_back s.homes m.1) w (length-set s.words 0 0 ∙ k.words) (get_or-set_other s.words 0 1 0 0 (λ e. omega arith) ∙ k.count) (inl turn) (inr so) (λ place has. inl has) (same_pass v w refl refl refl refl),
        record { on = refl; view = refl },
      )
