-- The columns of a slab after what it keeps at a key was written, came or went.
use Rattle.std.specs.Prelude.{◌≡◌, ◌↔◌, ℕ, ◌+◌, ◌<◌, Bool, true, false, cond, List, [], ◌∷◌, map, count_by, Option, Some, None, is_some, slice_index_or}
use Rattle.std.specs.Cmp.{unsigned_tied}
use Rattle.std.specs.FinMap.{FinMap, get, contains_key, insert, remove, find, len, from_entries, len-empty, len-insert, get-insert, get-remove, get-from_entries, same_map, nat_cmp-IsAntisymmetric}
use Rattle.std.{specs.{Option.{unwrap_or}, Ordering.{nat_cmp, eq_by_cmp}}, proofs.Common.{arith, refl, sym, ap, ◌∙◌, inl, inr, zero, suc}}
use Rattle.std.proofs.lemmas.{Bool.{cases_eq, Decides.{nat_tests}}, Cmp.{nat_cmp_total}}
use Rattle.slab.{specs.Slab.{Slab, slab_len, entries_from, ContainsKey, Updates, with_value, get as slab_get}, proofs.SlabLemmas.{Updates-with_value}}
use Rattle.perf_base.specs.declared.{numbers.Key.{Key}, standing.Standing.{Standing}}
use Rattle.perf_base.specs.declared.standing.Standing.TheVariants as standing
use Rattle.stage_laws.proofs.Counts.{count-cons}
use Rattle.world_spec.specs.Value.{Entry, Account, no_entry, no_account}
use Rattle.world_tables.specs.{Meters.{Metered, Tallied, no_way, way_of}, Rows.{Kept, account_by, row_by, meter_at}}
use Rattle.world_tables.specs.Columns.{Columns, column, columns, is_there, entry_in, account_in, row_in, put_entry, put_account, put_standing, put_way, put_row, taken}

-- one part of what is kept, where there is something
abbrev pub part : {X : Type 0} → (Kept → X) → Option Kept → Option X
part f None = None
part f (Some r) = Some (f r)

tied-same : (q k : ℕ) → q ≡ k → eq_by_cmp nat_cmp q k ≡ true
tied-same q k e = unsigned_tied q k ∙ grind (arith, nat_tests, e)

tied-other : (q k : ℕ) → (q ≡ k → ⊥) → eq_by_cmp nat_cmp q k ≡ false
tied-other q k apart = unsigned_tied q k ∙ grind (arith, nat_tests, apart)

module _ {X : Type 0} (f : Kept → X) where
  abbrev listed : ℕ → List (Option Kept) → List (ℕ × X)
  listed key slots = map (λ e. (e.0, f e.1)) (entries_from key slots)

  found-below : (slots : List (Option Kept)) (key q : ℕ) → q < key → find nat_cmp q (listed key slots) ≡ None
  found-below [] key q low = refl
  found-below (None ∷ slots) key q low = found-below slots (key + 1) q (omega arith)
  found-below (Some r ∷ slots) key q low =
      ap (λ b. cond b (Some (f r)) (find nat_cmp q (listed (key + 1) slots))) (tied-other q key (λ e. absurd (omega arith)))
      ∙ found-below slots (key + 1) q (omega arith)

  found : (slots : List (Option Kept)) (key i : ℕ) → find nat_cmp (key + i) (listed key slots) ≡ part f (slice_index_or slots i None)
  found [] key i = refl
  found (None ∷ slots) key zero = found-below slots (key + 1) (key + 0) (omega arith)
  found (Some r ∷ slots) key zero =
      ap (λ b. cond b (Some (f r)) (find nat_cmp (key + 0) (listed (key + 1) slots))) (tied-same (key + 0) key (omega arith))
  found (None ∷ slots) key (suc i) =
      ap (λ q. find nat_cmp q (listed (key + 1) slots)) (let e : key + suc i ≡ key + 1 + i = omega arith in e) ∙ found slots (key + 1) i
  found (Some r ∷ slots) key (suc i) =
      ap (λ b. cond b (Some (f r)) (find nat_cmp (key + suc i) (listed (key + 1) slots))) (tied-other (key + suc i) key (λ e. absurd (omega arith)))
      ∙ (ap (λ q. find nat_cmp q (listed (key + 1) slots)) (let e : key + suc i ≡ key + 1 + i = omega arith in e) ∙ found slots (key + 1) i)

  -- a column has as many keys as there are rows
  len-listed : (slots : List (Option Kept)) (key : ℕ) → len (from_entries {R = nat_cmp} (listed key slots)) ≡ count_by is_some slots
  len-listed [] key = len-empty nat_cmp X
  len-listed (None ∷ slots) key = len-listed slots (key + 1)
  len-listed (Some r ∷ slots) key =
      let rest : FinMap nat_cmp X = from_entries (listed (key + 1) slots) in
      let new : get rest key ≡ None = get-from_entries nat_cmp_total (listed (key + 1) slots) key ∙ found-below slots (key + 1) key (omega arith) in
      len-insert nat_cmp_total rest key (f r)
      ∙ (ap (λ o. cond (is_some o) (len rest) (len rest + 1)) new
      ∙ omega (arith, len-listed slots (key + 1), count-cons is_some (Some r) slots))

  pub len-column : (s : Slab Kept) → len (column f s) ≡ slab_len s
  len-column s = len-listed s.slots 0

  -- what a column has at a key is the part of the row there
  pub get-column : (s : Slab Kept) (q : ℕ) → get (column f s) q ≡ part f (slab_get s q)
  get-column s q = get-from_entries nat_cmp_total (listed 0 s.slots) q ∙ (ap (λ n. find nat_cmp n (listed 0 s.slots)) (let e : q ≡ 0 + q = omega arith in e) ∙ found s.slots 0 q)

  at-row : (s : Slab Kept) (q : ℕ) (o : Option Kept) → slab_get s q ≡ o → get (column f s) q ≡ part f o
  at-row s q o e = get-column s q ∙ ap (part f) e

  -- a row comes or is written
  pub column-put : (old new : Slab Kept) (k : ℕ) (r : Kept) → Updates old new k (Some r) → column f new ≡ insert (column f old) k (f r)
  column-put old new k r up = same_map nat_cmp_total nat_cmp-IsAntisymmetric (column f new) (insert (column f old) k (f r)) (λ q.
      elim (cases_eq q k) [
        | inl e ↦
            (at-row new q (Some r) (ap (slab_get new) e ∙ up.changed))
            ∙ sym (get-insert nat_cmp_total (column f old) k (f r) q ∙ ap (λ b. cond b (Some (f r)) (get (column f old) q)) (tied-same q k e))
        | inr apart ↦
            (at-row new q (slab_get old q) (up.others q apart) ∙ sym (get-column old q))
            ∙ sym (get-insert nat_cmp_total (column f old) k (f r) q ∙ ap (λ b. cond b (Some (f r)) (get (column f old) q)) (tied-other q k apart))
      ])

  -- a row goes
  pub column-taken : (old new : Slab Kept) (k : ℕ) → Updates old new k None → column f new ≡ remove (column f old) k
  column-taken old new k up = same_map nat_cmp_total nat_cmp-IsAntisymmetric (column f new) (remove (column f old) k) (λ q.
      elim (cases_eq q k) [
        | inl e ↦
            (at-row new q None (ap (slab_get new) e ∙ up.changed))
            ∙ sym (get-remove nat_cmp_total (column f old) k q ∙ ap (λ b. cond b None (get (column f old) q)) (tied-same q k e))
        | inr apart ↦
            (at-row new q (slab_get old q) (up.others q apart) ∙ sym (get-column old q))
            ∙ sym (get-remove nat_cmp_total (column f old) k q ∙ ap (λ b. cond b None (get (column f old) q)) (tied-other q k apart))
      ])

  -- a row that is written with this part as it was
  pub column-same : (old new : Slab Kept) (k : ℕ) (r s : Kept) → slab_get old k ≡ Some r → Updates old new k (Some s) → f s ≡ f r → column f new ≡ column f old
  column-same old new k r s there up same = same_map nat_cmp_total nat_cmp-IsAntisymmetric (column f new) (column f old) (λ q.
      elim (cases_eq q k) [
        | inl e ↦
            at-row new q (Some s) (ap (slab_get new) e ∙ up.changed) ∙ (ap (λ x. Some x) same ∙ sym (at-row old q (Some r) (ap (slab_get old) e ∙ there)))
        | inr apart ↦ at-row new q (slab_get old q) (up.others q apart) ∙ sym (get-column old q)
      ])

-- what the tables show of an account that is kept
abbrev pub shown : List Metered → Kept → Account
shown ms e = account_by (meter_at ms e.tally.cpu) e

-- a key that names an event has something kept
same-some : {X : Type 0} (f : Kept → X) (o : Option Kept) → is_some (part f o) ≡ is_some o
same-some f None = refl
same-some f (Some r) = refl

pub there-is : (ms : List Metered) (s : Slab Kept) (t : Columns) (k : Key) → columns ms s ≡ t → is_there t k ≡ is_some (slab_get s k.0)
there-is ms s t k view = ap (λ x. is_there x k) (sym view) ∙ (ap is_some (get-column (λ r. r.entry) s k.0) ∙ same-some (λ r. r.entry) (slab_get s k.0))

pub account-is_there : (ms : List Metered) (s : Slab Kept) (q : ℕ) → contains_key (columns ms s).accounts q ≡ is_some (slab_get s q)
account-is_there ms s q = ap is_some (get-column (shown ms) s q) ∙ same-some (shown ms) (slab_get s q)

pub both-tests : (a b : Bool) → ((a ≡ true) ↔ (b ≡ true)) → a ≡ b
both-tests true b h = sym (h.0 refl)
both-tests false true h = h.1 refl
both-tests false false h = refl

pub there-row : (ms : List Metered) (s : Slab Kept) (t : Columns) (k : Key) → columns ms s ≡ t → is_there t k ≡ true → ContainsKey s k.0
there-row ms s t k view there =
    sym (there-is ms s t k view) ∙ there

-- and what the tables have at a key is what they show of it
pub row-is : (ms : List Metered) (s : Slab Kept) (t : Columns) (k : Key) (r : Kept) → columns ms s ≡ t → slab_get s k.0 ≡ Some r
    → row_in t k ≡ row_by (meter_at ms r.tally.cpu) r
row-is ms s t k r view at =
    ap (λ x. row_in x k) (sym view) ∙ (λ i. record {
      entry = unwrap_or (at-row (λ r. r.entry) s k.0 (Some r) at i) no_entry;
      account = unwrap_or (at-row (shown ms) s k.0 (Some r) at i) no_account;
      standing = unwrap_or (at-row (λ r. r.standing) s k.0 (Some r) at i) standing.Out;
      way = unwrap_or (at-row (λ r. way_of r.tally) s k.0 (Some r) at i) no_way;
    })

module _ (ms : List Metered) (s : Slab Kept) (t : Columns) (k : Key) (r : Kept) (view : columns ms s ≡ t) (at : slab_get s k.0 ≡ Some r) where
  up : (new : Kept) → Updates s (with_value s k.0 new) k.0 (Some new)
  up new = Updates-with_value s k.0 new (ap is_some at)

  put : (new : Kept) → columns ms (with_value s k.0 new) ≡ put_row k (row_by (meter_at ms new.tally.cpu) new) (columns ms s)
  put new = λ i. record {
    entries = column-put (λ x. x.entry) s (with_value s k.0 new) k.0 new (up new) i;
    accounts = column-put (shown ms) s (with_value s k.0 new) k.0 new (up new) i;
    standings = column-put (λ x. x.standing) s (with_value s k.0 new) k.0 new (up new) i;
    ways = column-put (λ x. way_of x.tally) s (with_value s k.0 new) k.0 new (up new) i;
    clocks = (columns ms s).clocks;
    totals = (columns ms s).totals;
  }

  same-entry : (new : Kept) → new.entry ≡ r.entry → (columns ms (with_value s k.0 new)).entries ≡ (columns ms s).entries
  same-entry new e = column-same (λ x. x.entry) s (with_value s k.0 new) k.0 r new at (up new) e

  same-account : (new : Kept) → shown ms new ≡ shown ms r → (columns ms (with_value s k.0 new)).accounts ≡ (columns ms s).accounts
  same-account new e = column-same (shown ms) s (with_value s k.0 new) k.0 r new at (up new) e

  same-standing : (new : Kept) → new.standing ≡ r.standing → (columns ms (with_value s k.0 new)).standings ≡ (columns ms s).standings
  same-standing new e = column-same (λ x. x.standing) s (with_value s k.0 new) k.0 r new at (up new) e

  same-way : (new : Kept) → way_of new.tally ≡ way_of r.tally → (columns ms (with_value s k.0 new)).ways ≡ (columns ms s).ways
  same-way new e = column-same (λ x. way_of x.tally) s (with_value s k.0 new) k.0 r new at (up new) e

  here : row_in t k ≡ row_by (meter_at ms r.tally.cpu) r
  here = row-is ms s t k r view at

  -- an entry alone is written, its attribute as it was
  pub written-entry : (f : Entry → Entry) → shown ms (record r { entry = f r.entry }) ≡ shown ms r
      → columns ms (with_value s k.0 (record r { entry = f r.entry })) ≡ put_entry k (f (entry_in t k)) t
  written-entry f same =
      let new : Kept = record r { entry = f r.entry } in
      (λ i. record (put new i) { accounts = same-account new same i; standings = same-standing new refl i; ways = same-way new refl i })
      ∙ (λ i. put_entry k (f (sym here i).entry) (view i))

  -- an account alone
  pub written-account : (u : Tallied) (g : Account → Account) → way_of u ≡ way_of r.tally → shown ms (record r { tally = u }) ≡ g (shown ms r)
      → columns ms (with_value s k.0 (record r { tally = u })) ≡ put_account k (g (account_in t k)) t
  written-account u g same by =
      let new : Kept = record r { tally = u } in
      (λ i. record (put new i) { entries = same-entry new refl i; standings = same-standing new refl i; ways = same-way new same i })
      ∙ (ap (λ x. put_account k x (columns ms s)) by
      ∙ (λ i. put_account k (g (sym here i).account) (view i)))

  -- a standing alone
  pub written-standing : (x : Standing) → columns ms (with_value s k.0 (record r { standing = x })) ≡ put_standing k x t
  written-standing x =
      let new : Kept = record r { standing = x } in
      (λ i. record (put new i) { entries = same-entry new refl i; accounts = same-account new refl i; ways = same-way new refl i })
      ∙ (λ i. put_standing k x (view i))

  -- a way alone
  pub written-way : (u : Tallied) → shown ms (record r { tally = u }) ≡ shown ms r → columns ms (with_value s k.0 (record r { tally = u })) ≡ put_way k (way_of u) t
  written-way u same =
      let new : Kept = record r { tally = u } in
      (λ i. record (put new i) { entries = same-entry new refl i; accounts = same-account new same i; standings = same-standing new refl i })
      ∙ (λ i. put_way k (way_of u) (view i))

  -- an entry and an account
  pub written-counted : (f : Entry → Entry) (u : Tallied) (g : Account → Account) → way_of u ≡ way_of r.tally
      → shown ms (record r { entry = f r.entry; tally = u }) ≡ g (shown ms r)
      → columns ms (with_value s k.0 (record r { entry = f r.entry; tally = u })) ≡ put_account k (g (account_in t k)) (put_entry k (f (entry_in t k)) t)
  written-counted f u g same by =
      let new : Kept = record r { entry = f r.entry; tally = u } in
      (λ i. record (put new i) { standings = same-standing new refl i; ways = same-way new same i })
      ∙ (ap (λ x. put_account k x (put_entry k (f r.entry) (columns ms s))) by
      ∙ (λ i. put_account k (g (sym here i).account) (put_entry k (f (sym here i).entry) (view i))))

  -- an entry and a standing
  pub written-stood : (f : Entry → Entry) (x : Standing) → shown ms (record r { entry = f r.entry; standing = x }) ≡ shown ms r
      → columns ms (with_value s k.0 (record r { entry = f r.entry; standing = x })) ≡ put_standing k x (put_entry k (f (entry_in t k)) t)
  written-stood f x same =
      let new : Kept = record r { entry = f r.entry; standing = x } in
      (λ i. record (put new i) { accounts = same-account new same i; ways = same-way new refl i })
      ∙ (λ i. put_standing k x (put_entry k (f (sym here i).entry) (view i)))

-- an event comes, and goes
pub row-comes : (ms : List Metered) (s after : Slab Kept) (t : Columns) (k : Key) (r : Kept) → columns ms s ≡ t → Updates s after k.0 (Some r)
    → columns ms after ≡ put_row k (row_by (meter_at ms r.tally.cpu) r) t
row-comes ms s after t k r view up = (λ i. record {
  entries = column-put (λ x. x.entry) s after k.0 r up i;
  accounts = column-put (shown ms) s after k.0 r up i;
  standings = column-put (λ x. x.standing) s after k.0 r up i;
  ways = column-put (λ x. way_of x.tally) s after k.0 r up i;
  clocks = (columns ms s).clocks;
  totals = (columns ms s).totals;
}) ∙ (λ i. put_row k (row_by (meter_at ms r.tally.cpu) r) (view i))

pub row-goes : (ms : List Metered) (s after : Slab Kept) (t : Columns) (k : Key) → columns ms s ≡ t → Updates s after k.0 None
    → columns ms after ≡ taken k t
row-goes ms s after t k view up = (λ i. record {
  entries = column-taken (λ x. x.entry) s after k.0 up i;
  accounts = column-taken (shown ms) s after k.0 up i;
  standings = column-taken (λ x. x.standing) s after k.0 up i;
  ways = column-taken (λ x. way_of x.tally) s after k.0 up i;
  clocks = (columns ms s).clocks;
  totals = (columns ms s).totals;
}) ∙ (λ i. taken k (view i))

pub no-row : (ms : List Metered) (s : Slab Kept) (t : Columns) (k : Key) → columns ms s ≡ t → slab_get s k.0 ≡ None → is_there t k ≡ false
no-row ms s t k view none = ap (λ x. is_there x k) (sym view) ∙ ap is_some (at-row (λ r. r.entry) s k.0 None none)

-- how many events there are
pub len-entries : (ms : List Metered) (s : Slab Kept) (t : Columns) → columns ms s ≡ t → len t.entries ≡ slab_len s
len-entries ms s t view = ap (λ x. len x.entries) (sym view) ∙ len-column (λ r. r.entry) s
