-- The steps on the count keep the rule.
use Rattle.std.proofs.Common.{◌≡◌, ℕ, ◌+◌, ◌<◌, ◌≤◌, ◌⊎◌, Bool, true, false, List, Option, Some, [], ◌∷◌, ◌++◌, length, set, slice_index, Contains, refl, sym, ap, ◌∙◌, subst, inl, inr, ⊎_elim, true≢false, length-set, length-append, get_or-set_same, get_or-set_other, arith}
use Rattle.std.proofs.lemmas.List.{set-get_or, Elements.{Contains-push, Contains-push_cases, Contains-append_left}}
use mathlib.Core.{Option.{some}, List.{IsPrefix}}
use lib.ListN.{get_elem?}
use Rattle.atomic_table.specs.Table.{State, keeps, Allows}
use Rattle.shared_object.specs.{declared.view.View.{View}, Histories.{most_calls}, Views.{Slot, Holder, all_seen, told, with_own}}
use Rattle.shared_object.specs.{Rule.{IsFree, IsHeld, Knows, IsKept}, Steps.{LoadsCount, ComparesCount, StoresCount}}
use Rattle.perf_base.proofs.Prefixes.{prefix_self}
use Rattle.shared_object.proofs.{Prefixes.{longer_so, one_begins}, Names.{IsLater, same_pass, below_or_at}}
use Rattle.shared_object.proofs.Keeping.{changed, knows, same_history, turn_rests, turn_stays, longer_history}

module _ {O K C R : Type 0} (after : K → O → List (C × R) → Type 0) (legal : K → List (C × R) → Type 0) (key : K) (slots id : ℕ) (m : Holder O K C R) (live : m.0.key ≡ Some key) where
  -- the turn stays as it is, whether or not the seat holds it
  turn_as_before : (s : State (Slot O C R) (View K C R)) (k : IsKept after legal key s) → get_elem? s.views id ≡ some m.0 → (words : List ℕ) (w : View K C R) → slice_index words 0 ≡ slice_index s.words 0
      → (b : Bool) → m.0.holds ≡ b → w.holds ≡ m.0.holds → IsFree after key k.log (changed s words s.homes id w) ⊎ IsHeld (changed s words s.homes id w)
  turn_as_before s k at words w same true is still = inr (turn_stays after legal key s k id m.0 at is words w same (still ∙ is))
  turn_as_before s k at words w same false is still = turn_rests after legal key s k id m.0 at words w same is (still ∙ is)

  pub may_load_count : Allows (IsKept after legal key) slots id m 1 (λ n. n) (LoadsCount after legal 1 m)
  may_load_count s k _ at _ =
      let v : View K C R = m.0 in
      let x : Knows legal key k.log v = knows after legal key s k id v at live in
      let w : View K C R = all_seen v k.log in
      let count : ℕ = slice_index s.words 1 in
      let same : set s.words 1 count ≡ s.words = set-get_or s.words 1 0 in
      let so : Knows legal key k.log w = record {
        key_is = x.key_is;
        seen = prefix_self k.log;
        legal_seen = k.legal_log;
        note = x.note;
        legal_note = x.legal_note;
        turn_of_pass = x.turn_of_pass;
        own = x.own;
        whole_note = x.whole_note;
        whole_seen = λ _ _. refl;
      } in (
        w,
        keeps,
        tt,
        same_history after legal key s k id v at (set s.words 1 count) s.homes w (length-set s.words 1 count ∙ k.words) (ap (λ (l : List ℕ). slice_index l 1) same ∙ k.count)
            (turn_as_before s k at (set s.words 1 count) w (ap (λ (l : List ℕ). slice_index l 0) same) v.holds refl refl) (inr so) (λ place has. inl has) (same_pass v w refl refl refl refl),
        record {
          on = refl;
          log = k.log;
          view = refl;
          length_is = k.count;
          room = k.room;
          prefix = x.seen;
          whole = λ holds. sym (x.whole_note holds);
          legal_log = λ key' is. let same_key : key ≡ key' = let e : Some key ≡ Some key' = sym live ∙ is in cc in subst (λ (z : K). legal z k.log) same_key k.legal_log;
        },
      )

  pub may_compare_count : m.0.holds ≡ false → Allows (IsKept after legal key) slots id m 1 (λ n. n) (ComparesCount 1 m)
  may_compare_count rests s k _ at _ =
      let v : View K C R = m.0 in
      let x : Knows legal key k.log v = knows after legal key s k id v at live in
      let w : View K C R = told v in
      let count : ℕ = slice_index s.words 1 in
      let same : set s.words 1 count ≡ s.words = set-get_or s.words 1 0 in
      let so : Knows legal key k.log w = record {
        key_is = x.key_is;
        seen = longer_so v.seen v.note (λ (l : List (C × R)). IsPrefix l k.log) x.seen x.note;
        legal_seen = longer_so v.seen v.note (legal key) x.legal_seen x.legal_note;
        note = x.note;
        legal_note = x.legal_note;
        turn_of_pass = x.turn_of_pass;
        own = x.own;
        whole_note = x.whole_note;
        whole_seen = λ holds loaded. absurd (true≢false (sym holds ∙ rests));
      } in (
        w,
        keeps,
        tt,
        same_history after legal key s k id v at (set s.words 1 count) s.homes w (length-set s.words 1 count ∙ k.words) (ap (λ (l : List ℕ). slice_index l 1) same ∙ k.count)
            (turn_rests after legal key s k id v at (set s.words 1 count) w (ap (λ (l : List ℕ). slice_index l 0) same) rests rests) (inr so) (λ place has. inl has) (same_pass v w refl refl refl refl),
        record { on = refl; view = refl; one = one_begins v.seen v.note k.log x.seen x.note },
      )

  pub may_store_count : m.0.holds ≡ true → m.0.loaded ≡ true → (entry : Option (C × R)) (added : C × R) → entry ≡ Some added → (count : ℕ) → count ≡ length m.0.seen + 1 → length m.0.seen < most_calls
      → legal key (m.0.seen ++ added ∷ []) → Allows (IsKept after legal key) slots id m 1 (λ _. count) (λ _. StoresCount entry 1 m count)
  may_store_count holds loaded entry added is count one_more room fits s k _ at _ =
      let v : View K C R = m.0 in
      let x : Knows legal key k.log v = knows after legal key s k id v at live in
      let w : View K C R = with_own v added in
      let all : v.seen ≡ k.log = x.whole_seen holds loaded in
      let more : List (C × R) = added ∷ [] in
      let joined : v.seen ++ more ≡ k.log ++ more = ap (λ (l : List (C × R)). l ++ more) all in
      let long : length (k.log ++ more) ≡ length v.seen + 1 = ap length (sym joined) ∙ length-append v.seen more in
      let so : Knows legal key (k.log ++ more) w = record {
        key_is = x.key_is;
        seen = subst (IsPrefix (v.seen ++ more)) joined (prefix_self (v.seen ++ more));
        legal_seen = fits;
        note = subst (IsPrefix (v.seen ++ more)) joined (prefix_self (v.seen ++ more));
        legal_note = fits;
        turn_of_pass = x.turn_of_pass;
        own = λ place has.
            ⊎_elim (λ (old : Contains v.own place). let low : place < length k.log = x.own place old in omega (arith, low, length-append k.log more))
            (λ (e : length v.seen ≡ place). omega (arith, e, long)) (Contains-push_cases v.own (length v.seen) place has);
        whole_note = λ _. joined;
        whole_seen = λ _ _. joined;
      } in
      let later : IsLater v w = record { is_pass = refl; name = refl; parted = omega arith; own = λ place has. Contains-append_left v.own (length v.seen ∷ []) place has } in
      let all_owned : (place : ℕ) → place < length (k.log ++ more) → (place < length k.log) ⊎ (Contains w.own place × (w.is_pass ≡ true)) =
      λ place few.
      ⊎_elim (λ (old : place < length k.log). inl old)
      (λ (new : place ≡ length k.log). inr (subst (Contains w.own) (ap length all ∙ sym new) (Contains-push v.own (length v.seen)), x.turn_of_pass holds))
      (below_or_at place (length k.log) (omega (arith, few, length-append k.log more))) in
      let own : (place : ℕ) → Contains w.own place → Contains v.own place ⊎ (length k.log ≤ place) =
      λ place has.
      ⊎_elim (λ (old : Contains v.own place). inl old) (λ (e : length v.seen ≡ place). inr (omega (arith, e, ap length all))) (Contains-push_cases v.own (length v.seen) place has) in (
        w,
        keeps,
        tt,
        longer_history after legal key s k id v at holds (set s.words 1 count) w more (length-set s.words 1 count ∙ k.words) (get_or-set_other s.words 1 0 count 0 (λ e. omega arith)) holds
            (get_or-set_same s.words 1 count 0 (omega (arith, k.words)) ∙ one_more ∙ sym long) (omega (arith, long, room)) (subst (legal key) joined fits) so own later all_owned,
        record { on = refl; added = added; is = is; view = refl },
      )
