-- The steps of the two ends keep the rule.
use Rattle.std.proofs.Common.{◌≡◌, ◌≢◌, ℕ, ◌+◌, ◌*◌, ◌/◌, ◌%◌, ◌<◌, true, false, List, [], ◌∷◌, length, set, slice_index, refl, sym, ap, ◌∙◌, subst, length-set, arith}
use Rattle.std.proofs.lemmas.List.{set-get_or}
use mathlib.Core.{Option.{Option, none, some}, List.{IsPrefix}}
use lib.ListN.{get_elem?}
use Rattle.atomic_table.{specs.Table.{keeps, takes, gives, chain, Allows}, proofs.Lists.{set_here, set_else}}
use Rattle.crossbeam_utils.specs.Padded.{padded_value}
use Rattle.user_page.specs.{declared.view.View.{View}, Looks.{last_look, MayFollow, NeverFalls}}
use Rattle.user_page.specs.Views.{Place, Holder, IsWriter, IsWatcher, WriterSits, WatcherSits, IsUnplacedWriter, IsUnplacedWatcher, held_look, published, looked, checked}
use Rattle.user_page.specs.{Rule.{IsHome, Laid, Begins, Kept}, Steps.{PlacesWriter, PlacesWatcher, Publishes, TakesNewest, ChecksNote}}
use Rattle.perf_base.proofs.Prefixes.{prefix_self, prefix_more}
use Rattle.user_page.proofs.{Lists.{last_added, rises_more}, Only.{clash}}
use Rattle.user_page.proofs.Keeping.{is_writer, laid_writer, laid_watcher, writer_keeps, watcher_keeps}

-- the places at home, after one is given back and another taken
abbrev swapped : List (Option Place) → ℕ → Place → ℕ → List (Option Place)
swapped homes own x middle = set (set homes own (some x)) middle none

home_else : (homes : List (Option Place)) (own : ℕ) (x : Place) (middle place : ℕ) → place ≢ own → place ≢ middle → IsHome homes place → IsHome (swapped homes own x middle) place
home_else homes own x middle place n m home = (home.0, set_else (set homes own (some x)) middle place none m ∙ set_else homes own place (some x) n ∙ home.1)

-- the place given back is at home
home_given : (homes : List (Option Place)) (own : ℕ) (x : Place) (middle : ℕ) → own ≢ middle → own < length homes → get_elem? (swapped homes own x middle) own ≡ some (some x)
home_given homes own x middle n within = set_else (set homes own (some x)) middle own none n ∙ set_here homes own (some x) within

count_same : (homes : List (Option Place)) (own : ℕ) (x : Place) (middle : ℕ) → length (swapped homes own x middle) ≡ length homes
count_same homes own x middle = length-set (set homes own (some x)) middle none ∙ length-set homes own (some x)

module _ (words : List ℕ) (homes : List (Option Place)) (w r : View) (t : Laid words homes w r) where
  pub found_is : slice_index words 0 ≡ 2 * t.middle + t.fresh
  found_is = ap (λ (l : List ℕ). slice_index l 0) t.word

  pub found_place : slice_index words 0 / 2 ≡ t.middle
  found_place = let e = found_is in omega (arith, e, t.flag)

  pub found_flag : slice_index words 0 % 2 ≡ t.fresh
  found_flag = let e = found_is in omega (arith, e, t.flag)

  -- the writer's look is in the middle, and new
  lays_new : (x : Place) → w.placed ≡ true → MayFollow w.looks (padded_value x)
      → Laid (set words 0 (2 * w.writer_place + 1)) (swapped homes w.writer_place x t.middle) (published w (padded_value x) t.middle) r
  lays_new x placed may =
      let own : ℕ = w.writer_place in record {
        middle = own;
        fresh = 1;
        word = ap (λ (l : List ℕ). set l 0 (2 * own + 1)) t.word;
        flag = omega arith;
        count = count_same homes own x t.middle ∙ t.count;
        within = (t.within.1, t.within.0, t.within.2);
        apart = (t.apart.2, λ e. t.apart.1 (sym e), t.apart.0);
        home = (x, home_given homes own x t.middle (λ e. t.apart.1 (sym e)) (omega (arith, t.count, t.within.1)));
        writer_home = λ not. clash w.placed placed not;
        watcher_home = λ not. home_else homes own x t.middle r.watcher_place (λ e. t.apart.0 (sym e)) (λ e. t.apart.2 (sym e)) (t.watcher_home not);
        newest = λ _. last_added w.looks (padded_value x);
        all_seen = λ e. absurd (omega (arith, e));
        rises = rises_more w.looks (padded_value x) t.rises may;
      }

  -- the watcher's look is in the middle, and old
  lays_old : (x : Place) → r.placed ≡ true → Laid (set words 0 (2 * r.watcher_place)) (swapped homes r.watcher_place x t.middle) w (looked r w.looks t.middle)
  lays_old x placed =
      let own : ℕ = r.watcher_place in record {
        middle = own;
        fresh = 0;
        word = ap (λ (l : List ℕ). set l 0 (2 * own)) t.word ∙ ap (λ (n : ℕ). n ∷ []) (omega arith);
        flag = omega arith;
        count = count_same homes own x t.middle ∙ t.count;
        within = (t.within.2, t.within.1, t.within.0);
        apart = (λ e. t.apart.1 (sym e), λ e. t.apart.0 (sym e), λ e. t.apart.2 (sym e));
        home = (x, home_given homes own x t.middle (λ e. t.apart.2 (sym e)) (omega (arith, t.count, t.within.2)));
        writer_home = λ not. home_else homes own x t.middle w.writer_place t.apart.0 (λ e. t.apart.1 (sym e)) (t.writer_home not);
        watcher_home = λ not. clash r.placed placed not;
        newest = λ e. absurd (omega (arith, e));
        all_seen = λ _. refl;
        rises = t.rises;
      }

module _ (slots id : ℕ) (v : View) (x : Place) where
  abbrev seated : ℕ → Holder
  seated place = (v, (place, x) ∷ [])

  pub may_publish : (place : ℕ) → WriterSits (seated place) place → MayFollow v.looks (padded_value x)
      → Allows Kept slots id (seated place) 0 (λ _. 2 * place + 1) (Publishes (seated place))
  may_publish place sits may s k _ at _ =
      let t : Laid s.words s.homes v k.watcher = laid_writer s k id v at sits.role.0 in
      let w : View = published v (padded_value x) t.middle in
      let found : slice_index s.words 0 / 2 ≡ t.middle = found_place s.words s.homes v k.watcher t in
      let laid : Laid (set s.words 0 (2 * place + 1)) (swapped s.homes place x t.middle) w k.watcher =
      let P : ℕ → Type 0 = λ n. Laid (set s.words 0 (2 * n + 1)) (swapped s.homes n x t.middle) w k.watcher in subst P sits.place_is (lays_new s.words s.homes v k.watcher t x sits.placed may) in
      let apart : t.middle ≢ place = λ e. t.apart.1 (e ∙ sym sits.place_is) in
      let b : Begins k.writer.looks v = k.begins id v at in
      let known : IsPrefix v.note v.looks = subst (λ (u : View). IsPrefix v.note u.looks) (sym (is_writer s k id v at sits.role.0)) b.1 in (
        w,
        chain gives (takes t.middle t.home.0),
        (tt, set_else s.homes place t.middle (some x) apart ∙ t.home.1),
        writer_keeps s k id v at (set s.words 0 (2 * place + 1)) (swapped s.homes place x t.middle) w sits.role sits.role laid (prefix_more v.looks v.looks (padded_value x ∷ []) (prefix_self v.looks)) (prefix_more v.note v.looks (padded_value x ∷ []) known),
        record {
          view = ap (λ (n : ℕ). published v (padded_value x) n) (sym found);
          held = (t.home.0, ap (λ (n : ℕ). (n, t.home.0) ∷ []) (sym found));
          within = omega (arith, found, t.within.0);
        },
      )

  pub may_take : (place : ℕ) → WatcherSits (seated place) place → Allows Kept slots id (seated place) 0 (λ _. 2 * place) (TakesNewest (seated place))
  may_take place sits s k _ at _ =
      let t : Laid s.words s.homes k.writer v = laid_watcher s k id v at sits.role.0 in
      let w : View = looked v k.writer.looks t.middle in
      let found : slice_index s.words 0 / 2 ≡ t.middle = found_place s.words s.homes k.writer v t in
      let flag : slice_index s.words 0 % 2 ≡ t.fresh = found_flag s.words s.homes k.writer v t in
      let laid : Laid (set s.words 0 (2 * place)) (swapped s.homes place x t.middle) k.writer w =
      let P : ℕ → Type 0 = λ n. Laid (set s.words 0 (2 * n)) (swapped s.homes n x t.middle) k.writer w in subst P sits.place_is (lays_old s.words s.homes k.writer v t x sits.placed) in
      let apart : t.middle ≢ place = λ e. t.apart.2 (e ∙ sym sits.place_is) in
      let b : Begins k.writer.looks v = k.begins id v at in (
        w,
        chain gives (takes t.middle t.home.0),
        (tt, set_else s.homes place t.middle (some x) apart ∙ t.home.1),
        watcher_keeps s k id v at (set s.words 0 (2 * place)) (swapped s.homes place x t.middle) w sits.role sits.role laid (prefix_self k.writer.looks, b.1),
        record {
          view = ap (λ (n : ℕ). looked v k.writer.looks n) (sym found);
          held = (t.home.0, ap (λ (n : ℕ). (n, t.home.0) ∷ []) (sym found));
          within = omega (arith, found, t.within.0);
          prefix = b.0;
          note = b.1;
          rises = t.rises;
          same = λ e. sym (t.all_seen (sym flag ∙ e));
          last = λ e. t.newest (sym flag ∙ e);
        },
      )

module _ (words : List ℕ) (homes : List (Option Place)) (w r : View) (t : Laid words homes w r) where
  -- what ties the word and the places looks at no other part of the two views
  pub laid_so : (homes' : List (Option Place)) (w' r' : View) → w.looks ≡ w'.looks → r.looks ≡ r'.looks → w.writer_place ≡ w'.writer_place → r.watcher_place ≡ r'.watcher_place
      → length homes' ≡ length homes → get_elem? homes' t.middle ≡ some (some t.home.0)
      → (w'.placed ≡ false → IsHome homes' w.writer_place) → (r'.placed ≡ false → IsHome homes' r.watcher_place) → Laid words homes' w' r'
  laid_so homes' w' r' looks seen own other long home own_home other_home = record {
    middle = t.middle;
    fresh = t.fresh;
    word = t.word;
    flag = t.flag;
    count = long ∙ t.count;
    within = (t.within.0, omega (arith, own, t.within.1), omega (arith, other, t.within.2));
    apart = (λ e. t.apart.0 (own ∙ e ∙ sym other), λ e. t.apart.1 (e ∙ sym own), λ e. t.apart.2 (e ∙ sym other));
    home = (t.home.0, home);
    writer_home = λ not. subst (IsHome homes') own (own_home not);
    watcher_home = λ not. subst (IsHome homes') other (other_home not);
    newest = λ e. ap last_look (sym looks) ∙ t.newest e;
    all_seen = λ e. sym seen ∙ t.all_seen e ∙ looks;
    rises = subst NeverFalls looks t.rises;
  }

  -- the same places
  pub laid_as : (w' r' : View) → w.looks ≡ w'.looks → r.looks ≡ r'.looks → w.writer_place ≡ w'.writer_place → r.watcher_place ≡ r'.watcher_place → w.placed ≡ w'.placed → r.placed ≡ r'.placed
      → Laid words homes w' r'
  laid_as w' r' looks seen own other is is' = laid_so homes w' r' looks seen own other refl t.home.1 (λ not. t.writer_home (is ∙ not)) (λ not. t.watcher_home (is' ∙ not))

  -- the words as they were found
  pub word_again : Laid (set words 0 (slice_index words 0)) homes w r
  word_again = subst (λ (l : List ℕ). Laid l homes w r) (sym (set-get_or words 0 0)) t

  home_after : (place other : ℕ) → other ≢ place → IsHome homes other → IsHome (set homes place none) other
  home_after place other n home = (home.0, set_else homes place other none n ∙ home.1)

  lays_writer : Laid words (set homes w.writer_place none) (record w { placed = true }) r
  lays_writer = laid_so (set homes w.writer_place none) (record w { placed = true }) r refl refl refl refl (length-set homes w.writer_place none)
      (set_else homes w.writer_place t.middle none t.apart.1 ∙ t.home.1) (λ not. clash true refl not) (λ not. home_after w.writer_place r.watcher_place (λ e. t.apart.0 (sym e)) (t.watcher_home not))

  lays_watcher : Laid words (set homes r.watcher_place none) w (record r { placed = true })
  lays_watcher = laid_so (set homes r.watcher_place none) w (record r { placed = true }) refl refl refl refl (length-set homes r.watcher_place none)
      (set_else homes r.watcher_place t.middle none t.apart.2 ∙ t.home.1) (λ not. home_after r.watcher_place w.writer_place t.apart.0 (t.writer_home not)) (λ not. clash true refl not)

module _ (slots id : ℕ) (v : View) where
  pub may_check : (held : List (ℕ × Place)) → IsWriter v → Allows Kept slots id (v, held) 0 (λ n. n) (ChecksNote (v, held))
  may_check held role s k _ at _ =
      let t : Laid s.words s.homes v k.watcher = laid_writer s k id v at role.0 in
      let b : Begins k.writer.looks v = k.begins id v at in
      let known : IsPrefix v.note v.looks = subst (λ (u : View). IsPrefix v.note u.looks) (sym (is_writer s k id v at role.0)) b.1 in
      let same : Laid (set s.words 0 (slice_index s.words 0)) s.homes v k.watcher = word_again s.words s.homes v k.watcher t in
      let laid : Laid (set s.words 0 (slice_index s.words 0)) s.homes (checked v) k.watcher =
      laid_as (set s.words 0 (slice_index s.words 0)) s.homes v k.watcher same (checked v) k.watcher refl refl refl refl refl refl in (
        checked v,
        keeps,
        tt,
        writer_keeps s k id v at (set s.words 0 (slice_index s.words 0)) s.homes (checked v) role role laid (prefix_self v.looks) known,
        record { view = refl; note = known },
      )

  pub may_place_writer : IsUnplacedWriter (v, []) → Allows Kept slots id (v, []) 0 (λ n. n) (PlacesWriter (v, []))
  may_place_writer un s k _ at _ =
      let role : IsWriter v = un.0 in
      let w : View = record v { placed = true } in
      let t : Laid s.words s.homes v k.watcher = laid_writer s k id v at role.0 in
      let home : IsHome s.homes v.writer_place = t.writer_home un.1 in
      let b : Begins k.writer.looks v = k.begins id v at in
      let known : IsPrefix v.note v.looks = subst (λ (u : View). IsPrefix v.note u.looks) (sym (is_writer s k id v at role.0)) b.1 in
      let same : Laid (set s.words 0 (slice_index s.words 0)) s.homes v k.watcher = word_again s.words s.homes v k.watcher t in (
        w,
        takes v.writer_place home.0,
        home.1,
        writer_keeps s k id v at (set s.words 0 (slice_index s.words 0)) (set s.homes v.writer_place none) w role role
            (lays_writer (set s.words 0 (slice_index s.words 0)) s.homes v k.watcher same) (prefix_self v.looks) known,
        record { view = refl; held = (home.0, refl) },
      )

  pub may_place_watcher : IsUnplacedWatcher (v, []) → Allows Kept slots id (v, []) 0 (λ n. n) (PlacesWatcher (v, []))
  may_place_watcher un s k _ at _ =
      let role : IsWatcher v = un.0 in
      let w : View = record v { placed = true } in
      let t : Laid s.words s.homes k.writer v = laid_watcher s k id v at role.0 in
      let home : IsHome s.homes v.watcher_place = t.watcher_home un.1 in
      let same : Laid (set s.words 0 (slice_index s.words 0)) s.homes k.writer v = word_again s.words s.homes k.writer v t in (
        w,
        takes v.watcher_place home.0,
        home.1,
        watcher_keeps s k id v at (set s.words 0 (slice_index s.words 0)) (set s.homes v.watcher_place none) w role role
            (lays_watcher (set s.words 0 (slice_index s.words 0)) s.homes k.writer v same) (k.begins id v at),
        record { view = refl; held = (home.0, refl) },
      )

-- the same for a seat that is known by what it holds
module _ (slots id : ℕ) (m : Holder) where
  pub publishes_so : (place : ℕ) → WriterSits m place → MayFollow m.0.looks (held_look m.1) → Allows Kept slots id m 0 (λ _. 2 * place + 1) (Publishes m)
  publishes_so place sits may =
      let P : Holder → Type 0 = λ h. WriterSits h place → MayFollow h.0.looks (held_look h.1) → Allows Kept slots id h 0 (λ _. 2 * place + 1) (Publishes h) in
      subst P (ap (λ (l : List (ℕ × Place)). (m.0, l)) (sym sits.held.1)) (may_publish slots id m.0 sits.held.0 place) sits may

  pub takes_so : (place : ℕ) → WatcherSits m place → Allows Kept slots id m 0 (λ _. 2 * place) (TakesNewest m)
  takes_so place sits =
      let P : Holder → Type 0 = λ h. WatcherSits h place → Allows Kept slots id h 0 (λ _. 2 * place) (TakesNewest h) in
      subst P (ap (λ (l : List (ℕ × Place)). (m.0, l)) (sym sits.held.1)) (may_take slots id m.0 sits.held.0 place) sits

  pub places_writer_so : IsUnplacedWriter m → Allows Kept slots id m 0 (λ n. n) (PlacesWriter m)
  places_writer_so un =
      let P : Holder → Type 0 = λ h. IsUnplacedWriter h → Allows Kept slots id h 0 (λ n. n) (PlacesWriter h) in
      subst P (ap (λ (l : List (ℕ × Place)). (m.0, l)) (sym un.2)) (may_place_writer slots id m.0) un

  pub places_watcher_so : IsUnplacedWatcher m → Allows Kept slots id m 0 (λ n. n) (PlacesWatcher m)
  places_watcher_so un =
      let P : Holder → Type 0 = λ h. IsUnplacedWatcher h → Allows Kept slots id h 0 (λ n. n) (PlacesWatcher h) in
      subst P (ap (λ (l : List (ℕ × Place)). (m.0, l)) (sym un.2)) (may_place_watcher slots id m.0) un
