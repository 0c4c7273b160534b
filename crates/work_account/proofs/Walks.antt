-- What a walk finds at its place, and where it stands then.
use Rattle.std.specs.Prelude.{◌≡◌, ℕ, suc, ◌+◌, ◌<◌, ◌≤◌, List, [], ◌∷◌, ◌++◌, length, drop, take, flat_map, slice_index_or}
use Rattle.std.proofs.{Common.{arith, refl, sym, ap, ◌∙◌, append_assoc}, lemmas.{Grind.{flat_map-append}, List.{drop_all, take-append-drop}}, Math.Seq.{drop-cons}}
use Rattle.perf_base.specs.declared.numbers.{CpuNo.{CpuNo}, Key.{Key}}
use Rattle.world_spec.specs.{Value.{World}, Listings.{pass_leaders}, Working.{keys_by_pass}}
use Rattle.work_account.specs.declared.{happening.Happening.{Happening}, overflowing.Hit.{Hit}}
use Rattle.work_account.specs.{Visits.{hits_among, members_at, all_members}, Walks.{from_member, from_group, pass_list, keys_from}}
use Rattle.work_account.proofs.Among.{hits-append}

-- one further
pub drop-next : (A : Type 0) (xs : List A) (i : ℕ) (d : A) → i < length xs → drop i xs ≡ slice_index_or xs i d ∷ drop (i + 1) xs
drop-next A xs i d low = drop-cons xs i d low ∙ ap (λ n. slice_index_or xs i d ∷ drop n xs) (let e : suc i ≡ i + 1 = omega arith in e)

none-after : (a b : List Hit) → a ++ b ≡ [] → b ≡ []
none-after [] b h = h
none-after (x ∷ a) b h = absurd (cc)

module _ (x : Happening) (w : World) where
  -- what is found in front is found in the whole, and where nothing is found there it is found behind
  pub found-front : (a rest behind : List Key) (h : Hit) → hits_among x w a ≡ h ∷ hits_among x w rest → hits_among x w (a ++ behind) ≡ h ∷ hits_among x w (rest ++ behind)
  found-front a rest behind h found =
      hits-append x w a behind
      ∙ (ap (λ (l : List Hit). l ++ hits_among x w behind) found
      ∙ ap (λ (l : List Hit). h ∷ l) (sym (hits-append x w rest behind)))

  pub none-front : (a behind : List Key) → hits_among x w a ≡ [] → hits_among x w (a ++ behind) ≡ hits_among x w behind
  none-front a behind none = hits-append x w a behind ∙ ap (λ (l : List Hit). l ++ hits_among x w behind) none

  none-behind : (a behind : List Key) → hits_among x w (a ++ behind) ≡ [] → hits_among x w behind ≡ []
  none-behind a behind none = none-after (hits_among x w a) (hits_among x w behind) (sym (hits-append x w a behind) ∙ none)

  -- among the members of a group
  pub member-found : (keys : List Key) (i : ℕ) (d : Key) (h : Hit) → i < length keys → hits_among x w (slice_index_or keys i d ∷ []) ≡ h ∷ []
      → hits_among x w (drop i keys) ≡ h ∷ hits_among x w (drop (i + 1) keys)
  member-found keys i d h low found =
      ap (hits_among x w) (drop-next Key keys i d low) ∙ found-front (slice_index_or keys i d ∷ []) [] (drop (i + 1) keys) h found

  pub member-passed : (keys : List Key) (i : ℕ) (d : Key) → i < length keys → hits_among x w (slice_index_or keys i d ∷ []) ≡ []
      → hits_among x w (drop i keys) ≡ hits_among x w (drop (i + 1) keys)
  member-passed keys i d low none =
      ap (hits_among x w) (drop-next Key keys i d low) ∙ none-front (slice_index_or keys i d ∷ []) (drop (i + 1) keys) none

  pub members-over : (keys : List Key) (i : ℕ) → length keys ≤ i → hits_among x w (drop i keys) ≡ []
  members-over keys i past = ap (hits_among x w) (drop_all i keys past)

  -- among groups
  from-first : (leaders : List Key) → from_member w 0 leaders ≡ all_members w leaders
  from-first [] = refl
  from-first (q ∷ leaders) = refl

  pub group-found : (leaders : List Key) (i m n : ℕ) (d : Key) (h : Hit) → i < length leaders
      → hits_among x w (drop m (members_at w (slice_index_or leaders i d))) ≡ h ∷ hits_among x w (drop n (members_at w (slice_index_or leaders i d)))
      → hits_among x w (from_member w m (drop i leaders)) ≡ h ∷ hits_among x w (from_member w n (drop i leaders))
  group-found leaders i m n d h low found =
      let q : Key = slice_index_or leaders i d in
      ap (λ (l : List Key). hits_among x w (from_member w m l)) (drop-next Key leaders i d low)
      ∙ (found-front (drop m (members_at w q)) (drop n (members_at w q)) (all_members w (drop (i + 1) leaders)) h found
      ∙ sym (ap (λ (l : List Key). h ∷ hits_among x w (from_member w n l)) (drop-next Key leaders i d low)))

  pub group-passed : (leaders : List Key) (i m : ℕ) (d : Key) → i < length leaders → hits_among x w (drop m (members_at w (slice_index_or leaders i d))) ≡ []
      → hits_among x w (from_member w m (drop i leaders)) ≡ hits_among x w (from_member w 0 (drop (i + 1) leaders))
  group-passed leaders i m d low none =
      let q : Key = slice_index_or leaders i d in
      ap (λ (l : List Key). hits_among x w (from_member w m l)) (drop-next Key leaders i d low)
      ∙ (none-front (drop m (members_at w q)) (all_members w (drop (i + 1) leaders)) none
      ∙ ap (hits_among x w) (sym (from-first (drop (i + 1) leaders))))

  pub groups-over : (leaders : List Key) (i m : ℕ) → length leaders ≤ i → hits_among x w (from_member w m (drop i leaders)) ≡ []
  groups-over leaders i m past = ap (λ (l : List Key). hits_among x w (from_member w m l)) (drop_all i leaders past)

  -- in a pass where nobody takes it nothing is found
  rest-none : (leaders : List Key) (m : ℕ) → hits_among x w (all_members w leaders) ≡ [] → hits_among x w (from_member w m leaders) ≡ []
  rest-none [] m none = none
  rest-none (q ∷ leaders) m none =
      none-behind (take m (members_at w q)) (drop m (members_at w q) ++ all_members w leaders)
      (ap (hits_among x w) (sym (append_assoc (take m (members_at w q)) (drop m (members_at w q)) (all_members w leaders))
      ∙ ap (λ (l : List Key). l ++ all_members w leaders) (take-append-drop m (members_at w q)))
      ∙ none)

  pub pass-none : (leaders : List Key) (i m : ℕ) → hits_among x w (all_members w leaders) ≡ [] → hits_among x w (from_member w m (drop i leaders)) ≡ []
  pass-none leaders i m none =
      rest-none (drop i leaders) m (none-behind (all_members w (take i leaders)) (all_members w (drop i leaders))
      (ap (hits_among x w) (sym (flat_map-append (members_at w) (take i leaders) (drop i leaders)) ∙ ap (all_members w) (take-append-drop i leaders)) ∙ none))

-- among the passes
lists-first : (w : World) (lists : List (List Key)) → from_group w 0 0 lists ≡ all_members w (flat_map (λ l. l) lists)
lists-first w [] = refl
lists-first w ([] ∷ lists) = refl
lists-first w ((q ∷ leaders) ∷ lists) =
    append_assoc (members_at w q) (all_members w leaders) (all_members w (flat_map (λ l. l) lists))
    ∙ ap (λ (l : List Key). members_at w q ++ l) (sym (flat_map-append (members_at w) leaders (flat_map (λ l. l) lists)))

pub walk-starts : (w : World) (cpu : CpuNo) → keys_from w cpu (record { pass = 0; group = 0; member = 0 }) ≡ keys_by_pass w cpu
walk-starts w cpu = lists-first w (pass_leaders w cpu)

module _ (x : Happening) (w : World) (cpu : CpuNo) where
  abbrev behind : ℕ → List Key
  behind pass = all_members w (flat_map (λ l. l) (drop (pass + 1) (pass_leaders w cpu)))

  split : (pass group member : ℕ) → pass < 4
      → keys_from w cpu (record { pass = pass; group = group; member = member }) ≡ from_member w member (drop group (pass_list w cpu pass)) ++ behind pass
  split pass group member low = ap (from_group w group member) (drop-next (List Key) (pass_leaders w cpu) pass [] low)

  pub pass-found : (pass g m i n : ℕ) (h : Hit) → pass < 4
      → hits_among x w (from_member w m (drop g (pass_list w cpu pass))) ≡ h ∷ hits_among x w (from_member w n (drop i (pass_list w cpu pass)))
      → hits_among x w (keys_from w cpu (record { pass = pass; group = g; member = m })) ≡ h ∷ hits_among x w (keys_from w cpu (record { pass = pass; group = i; member = n }))
  pass-found pass g m i n h low found =
      ap (hits_among x w) (split pass g m low)
      ∙ (found-front x w (from_member w m (drop g (pass_list w cpu pass))) (from_member w n (drop i (pass_list w cpu pass))) (behind pass) h found
      ∙ sym (ap (λ (l : List Key). h ∷ hits_among x w l) (split pass i n low)))

  pub pass-passed : (pass g m : ℕ) → pass < 4 → hits_among x w (from_member w m (drop g (pass_list w cpu pass))) ≡ []
      → hits_among x w (keys_from w cpu (record { pass = pass; group = g; member = m })) ≡ hits_among x w (keys_from w cpu (record { pass = pass + 1; group = 0; member = 0 }))
  pass-passed pass g m low none =
      ap (hits_among x w) (split pass g m low)
      ∙ (none-front x w (from_member w m (drop g (pass_list w cpu pass))) (behind pass) none
      ∙ ap (hits_among x w) (sym (lists-first w (drop (pass + 1) (pass_leaders w cpu)))))

  pub passes-over : (pass g m : ℕ) → 4 ≤ pass → hits_among x w (keys_from w cpu (record { pass = pass; group = g; member = m })) ≡ []
  passes-over pass g m past = ap (λ (l : List (List Key)). hits_among x w (from_group w g m l)) (drop_all pass (pass_leaders w cpu) past)
