-- The table after what it keeps at a key changed, and after a line of work on a processor.
use Rattle.std.specs.Prelude.{◌≡◌, ◌≢◌, ◌↔◌, ℕ, ◌+◌, ◌^◌, ◌<◌, ◌≤◌, true, List, [], ◌∷◌, length, map, replicate, slice_index_or, slice_set, Option, Some, None, is_some}
use Rattle.std.{specs.FinMap.{contains_key}, proofs.{Common.{arith, refl, sym, ap, subst, ◌∙◌, inl, inr, zero, suc}, lemmas.Bool.{cases_eq}}}
use Rattle.std.proofs.lemmas.{Bool.Decides.{nat_tests}, List.{get_or_default, get_or-set_same, get_or-set_other, length-map}}
use Rattle.slab.{specs.Slab.{Slab, Updates, with_value, get as slab_get}, proofs.SlabLemmas.{Updates-with_value}}
use Rattle.perf_base.specs.declared.{attr.Attr.{Attr}, lines.Work.{Work}, numbers.{CpuNo.{CpuNo}, Key.{Key}}, standing.Context.{Context}}
use Rattle.stage_spec.specs.{Families.{plus}, Stage.{place_of}, Shares.{counted_by, no_sums}}
use Rattle.event_counts.specs.Counts.{restarted}
use Rattle.world_spec.specs.{Value.{Totals, no_totals}, Metering.{add_hits}, Ways.{Way}}
use Rattle.world_tables.specs.Meters.{Metered, Tallied, IsTally, no_meter, metered, total_of, given, given_on, goes_along, way_of, sums_at, tally_to}
use Rattle.world_tables.specs.{Samplers.{samples_at, AreCounted}, Rows.{Kept, account_by, row_by, meter_at, without_count}}
use Rattle.world_tables.specs.Columns.{entry_in, Columns, IsTable, SomeSamples, IsWorked, HasRoomForWork, columns, is_there, account_in, row_in, given_in, totals_in, no_columns}
use Rattle.world_tables.proofs.Parts.{part-put, part-at}
use Rattle.world_tables.proofs.Sampling.{counted-written, counted-none, count-some, count-there, sampler-kept, sampler-at}
use Rattle.world_tables.proofs.Tallies.{sums-worked, tally-worked, sums-moved, left-kept, tally-moved, sums-reset, tally-reset, plus-none}
use Rattle.world_tables.proofs.Written.{there-is, there-row, row-is, account-is_there, shown}

-- something comes or is written
pub table-put : (ms : List Metered) (idle : Metered) (counts now : List ℕ) (s after : Slab Kept) (k : ℕ) (new : Kept) → IsTable ms idle counts s → Updates s after k (Some new)
    → after.capacity ≡ s.capacity → IsTally (meter_at ms new.tally.cpu) new.entry.instance.attr new.tally → AreCounted now after → IsTable ms idle now after
table-put ms idle counts now s after k new table up room tally counted = record {
  samplers = counted;
  room = omega (arith, table.room, room);
  keys = omega (arith, table.keys, room);
  idle = table.idle;
  tallies = λ q e at.
      elim (cases_eq q k) [
        | inl same ↦ grind (arith, nat_tests, same)
        | inr apart ↦ table.tallies q e (sym (up.others q apart) ∙ at)
      ];
}

pub table-written : (ms : List Metered) (idle : Metered) (counts : List ℕ) (s : Slab Kept) (k : ℕ) (r new : Kept) → IsTable ms idle counts s → slab_get s k ≡ Some r
    → IsTally (meter_at ms new.tally.cpu) new.entry.instance.attr new.tally → ((place : ℕ) → samples_at place (Some new) ≡ samples_at place (Some r))
    → IsTable ms idle counts (with_value s k new)
table-written ms idle counts s k r new table at tally same =
    let up : Updates s (with_value s k new) k (Some new) = Updates-with_value s k new (ap is_some at) in
    table-put ms idle counts counts s (with_value s k new) k new table up refl tally (counted-written counts s (with_value s k new) k new table.samplers r at up same)

pub table-wrote : (ms : List Metered) (idle : Metered) (counts : List ℕ) (s : Slab Kept) (k : ℕ) (r new by : Kept) → new ≡ by → IsTable ms idle counts s → slab_get s k ≡ Some r
    → IsTally (meter_at ms by.tally.cpu) by.entry.instance.attr by.tally → ((place : ℕ) → samples_at place (Some by) ≡ samples_at place (Some r))
    → IsTable ms idle counts (with_value s k new)
table-wrote ms idle counts s k r new by is table at tally same =
    table-written ms idle counts s k r new table at (subst (λ x. IsTally (meter_at ms x.tally.cpu) x.entry.instance.attr x.tally) (sym is) tally)
    (λ place. ap (λ x. samples_at place (Some x)) is ∙ same place)

-- something goes
pub table-taken : (ms : List Metered) (idle : Metered) (counts now : List ℕ) (s after : Slab Kept) (k : ℕ) → IsTable ms idle counts s → Updates s after k None → after.capacity ≡ s.capacity
    → AreCounted now after → IsTable ms idle now after
table-taken ms idle counts now s after k table up room counted = record {
  samplers = counted;
  room = omega (arith, table.room, room);
  keys = omega (arith, table.keys, room);
  idle = table.idle;
  tallies = λ q e at.
      elim (cases_eq q k) [
        | inl same ↦ absurd (let bad : None ≡ Some e = sym up.changed ∙ (ap (slab_get after) (sym same) ∙ at) in cc)
        | inr apart ↦ table.tallies q e (sym (up.others q apart) ∙ at)
      ];
}

-- nothing is kept at first
pub table-new : (ms : List Metered) (idle : Metered) (counts : List ℕ) (s : Slab Kept) → idle ≡ no_meter → counts ≡ replicate 72 0 → s.slots ≡ [] → 4352 ≤ s.capacity → s.capacity ≤ 2 ^ 16
    → IsTable ms idle counts s
table-new ms idle counts s none nobody empty room keys = record {
  samplers = counted-none counts s nobody empty;
  room = room;
  keys = keys;
  idle = none;
  tallies = λ q e at. absurd (let bad : None ≡ Some e = ap (λ (l : List (Option Kept)). slice_index_or l q None) (sym empty) ∙ at in cc);
}

pub tally-at : (ms : List Metered) (idle : Metered) (counts : List ℕ) (s : Slab Kept) (k : ℕ) (r : Kept) → IsTable ms idle counts s → slab_get s k ≡ Some r
    → IsTally (meter_at ms r.tally.cpu) r.entry.instance.attr r.tally
tally-at ms idle counts s k r table at = table.tallies k r at

some-of : (o : Option Kept) → is_some o ≡ true → (e : Kept) × (o ≡ Some e)
some-of None bad = absurd (cc)
some-of (Some e) some = (e, refl)

given-here : (cpu : CpuNo) (w : Work) (u : Way) (a : Attr) → u.cpu.0 ≡ cpu.0 → given w u a ≡ given_on cpu w u a
given-here cpu w u a same = grind (arith, nat_tests)

given-elsewhere : (cpu : CpuNo) (w : Work) (u : Way) (a : Attr) → u.cpu.0 ≢ cpu.0 → no_sums ≡ given_on cpu w u a
given-elsewhere cpu w u a other = grind (arith, nat_tests)

-- what the tables have of a processor is its meter
pub clock-is : (ms : List Metered) (s : Slab Kept) (t : Columns) (cpu : ℕ) (m : Metered) → columns ms s ≡ t → m ≡ slice_index_or ms cpu m → cpu < length t.clocks
    → slice_index_or t.clocks cpu 0 ≡ m.clock
clock-is ms s t cpu m view at low = grind (arith, nat_tests, part-at, length-map)

pub totals-are : (ms : List Metered) (s : Slab Kept) (t : Columns) (cpu : ℕ) (m : Metered) → columns ms s ≡ t → m ≡ slice_index_or ms cpu m → cpu < length t.clocks
    → slice_index_or t.totals cpu no_totals ≡ m.totals
totals-are ms s t cpu m view at low = grind (arith, nat_tests, part-at, length-map)

-- an account that was turned shows what it did, and one that was reset no count
module _ (ms : List Metered) (r : Kept) (from to : Metered) (w : Way) (from_is : from ≡ meter_at ms r.tally.cpu)
    (h : IsTally (meter_at ms r.tally.cpu) r.entry.instance.attr r.tally) where
  by-from : IsTally from r.entry.instance.attr r.tally
  by-from = subst (λ x. IsTally x r.entry.instance.attr r.tally) (sym from_is) h

  pub shown-turned : to ≡ meter_at ms w.cpu → shown ms (record r { tally = tally_to from to r.entry.instance.attr w r.tally }) ≡ shown ms r
  shown-turned to_is =
      let a : Attr = r.entry.instance.attr in
      let sums : sums_at (meter_at ms w.cpu) a (tally_to from to a w r.tally) ≡ sums_at (meter_at ms r.tally.cpu) a r.tally =
      ap (λ x. sums_at x a (tally_to from to a w r.tally)) (sym to_is) ∙ (sums-moved from to a w r.tally by-from ∙ ap (λ x. sums_at x a r.tally) from_is) in
      λ i. record { sums = sums i; left = left-kept from to a w r.tally by-from i }

  pub tally-turned : to ≡ meter_at ms w.cpu → (w.on ≡ true → w.ready ≡ true)
      → IsTally (meter_at ms w.cpu) r.entry.instance.attr (tally_to from to r.entry.instance.attr w r.tally)
  tally-turned to_is on_is_ready =
      subst (λ x. IsTally x r.entry.instance.attr (tally_to from to r.entry.instance.attr w r.tally)) to_is (tally-moved from to r.entry.instance.attr w r.tally by-from on_is_ready)

module _ (ms : List Metered) (r : Kept) (m : Metered) (m_is : m ≡ meter_at ms r.tally.cpu)
    (h : IsTally (meter_at ms r.tally.cpu) r.entry.instance.attr r.tally) where
  abbrev reset-tally : Metered → Tallied
  reset-tally x = record r.tally { counts = restarted (total_of x.clock x.totals r.entry.instance.attr) r.tally.counts }

  pub shown-reset : shown ms (record r { tally = reset-tally m }) ≡ without_count (shown ms r)
  shown-reset =
      ap (λ x. shown ms (record r { tally = reset-tally x })) m_is
      ∙ (λ i. record (shown ms r) { sums = sums-reset (meter_at ms r.tally.cpu) r.entry.instance.attr r.tally h i })

  pub tally-cleared : IsTally (meter_at ms r.tally.cpu) r.entry.instance.attr (reset-tally m)
  tally-cleared =
      subst (λ x. IsTally (meter_at ms r.tally.cpu) r.entry.instance.attr (reset-tally x)) (sym m_is) (tally-reset (meter_at ms r.tally.cpu) r.entry.instance.attr r.tally h)

-- the meter that is found for a processor
pub meter-found : (ms seen : List Metered) (idle m : Metered) (found cpu : CpuNo) → seen ≡ ms → idle ≡ no_meter → m ≡ slice_index_or seen found.0 idle
    → found ≡ cpu → m ≡ meter_at ms cpu
meter-found ms seen idle m found cpu all none is same = grind (arith, nat_tests)

-- no events, and processors that never worked
clocks-none : (n : ℕ) → map (λ (m : Metered). m.clock) (replicate n no_meter) ≡ replicate n 0
clocks-none zero = refl
clocks-none (suc n) = ap (λ (l : List ℕ). 0 ∷ l) (clocks-none n)

totals-none : (n : ℕ) → map (λ (m : Metered). m.totals) (replicate n no_meter) ≡ replicate n no_totals
totals-none zero = refl
totals-none (suc n) = ap (λ (l : List Totals). no_totals ∷ l) (totals-none n)

pub columns-none : (ms : List Metered) (s : Slab Kept) (n : ℕ) → ms ≡ replicate n no_meter → s.slots ≡ [] → columns ms s ≡ no_columns n
columns-none ms s n none empty = grind (arith, nat_tests, clocks-none, totals-none)

module _ (ms : List Metered) (idle : Metered) (counts : List ℕ) (s : Slab Kept) (t : Columns) (cpu : CpuNo) (w : Work) (m : Metered) (view : columns ms s ≡ t) (table : IsTable ms idle counts s)
    (at : m ≡ slice_index_or ms cpu.0 m) (low : cpu.0 < length t.clocks)
    (gains : (a : Attr) → total_of (metered w m).clock (metered w m).totals a ≡ total_of m.clock m.totals a + counted_by w a a.kind) where
  abbrev after : List Metered
  after = slice_set ms cpu.0 (metered w m)

  within : cpu.0 < length ms
  within = omega (arith, low, ap (λ x. length x.clocks) view, length-map ms (λ x. x.clock))

  old-here : (c : CpuNo) → c.0 ≡ cpu.0 → meter_at ms c ≡ m
  old-here c same = ap (λ (n : ℕ). slice_index_or ms n no_meter) same ∙ (get_or_default ms cpu.0 no_meter m within ∙ sym at)

  new-here : (c : CpuNo) → c.0 ≡ cpu.0 → meter_at after c ≡ metered w m
  new-here c same = ap (λ (n : ℕ). slice_index_or after n no_meter) same ∙ get_or-set_same ms cpu.0 (metered w m) no_meter within

  elsewhere : (c : CpuNo) → c.0 ≢ cpu.0 → meter_at after c ≡ meter_at ms c
  elsewhere c other = get_or-set_other ms cpu.0 c.0 (metered w m) no_meter other

  -- what each account is given
  account-given : (k : ℕ) (e : Kept) → slab_get s k ≡ Some e → account_by (meter_at after e.tally.cpu) e
      ≡ record (account_by (meter_at ms e.tally.cpu) e) { sums = plus (account_by (meter_at ms e.tally.cpu) e).sums (given_on cpu w (way_of e.tally) e.entry.instance.attr) }
  account-given k e kept =
      let a : Attr = e.entry.instance.attr in
      elim (cases_eq e.tally.cpu.0 cpu.0) [
        | inl same ↦
            let old : meter_at ms e.tally.cpu ≡ m = old-here e.tally.cpu same in
            let tally : IsTally m a e.tally = subst (λ x. IsTally x a e.tally) old (table.tallies k e kept) in
            ap (λ x. account_by x e) (new-here e.tally.cpu same)
            ∙ ((λ i. record (account_by m e) { sums = sums-worked m (metered w m) a e.tally w tally refl (gains a) i })
            ∙ ((λ i. record (account_by m e) { sums = plus (sums_at m a e.tally) (given-here cpu w (way_of e.tally) a same i) })
            ∙ ap (λ x. record (account_by x e) { sums = plus (sums_at x a e.tally) (given_on cpu w (way_of e.tally) a) }) (sym old)))
        | inr other ↦
            ap (λ x. account_by x e) (elsewhere e.tally.cpu other)
            ∙ ((λ i. record (account_by (meter_at ms e.tally.cpu) e) { sums = plus-none (sums_at (meter_at ms e.tally.cpu) a e.tally) i })
            ∙ (λ i. record (account_by (meter_at ms e.tally.cpu) e) { sums = plus (sums_at (meter_at ms e.tally.cpu) a e.tally) (given-elsewhere cpu w (way_of e.tally) a other i) }))
      ]

  account-after : (k : Key) → is_there t k ≡ true
      → account_in (columns after s) k ≡ record (account_in t k) { sums = plus (account_in t k).sums (given_in t cpu w k) }
  account-after k there =
      let found = some-of (slab_get s k.0) (there-row ms s t k view there) in
      let e : Kept = found.0 in
      let here : row_in t k ≡ row_by (meter_at ms e.tally.cpu) e = row-is ms s t k e view found.1 in
      ap (λ x. x.account) (row-is after s (columns after s) k e refl found.1)
      ∙ (account-given k.0 e found.1
      ∙ ap (λ x. record x.account { sums = plus x.account.sums (given_on cpu w x.way x.entry.instance.attr) }) (sym here))

  pub is-worked : IsWorked t (columns after s) cpu w
  is-worked = record {
    accounts = account-after;
    keys = λ k. account-is_there after s k.0 ∙ (sym (account-is_there ms s k.0) ∙ ap (λ x. contains_key x.accounts k.0) view);
    rest =
        let clock : slice_index_or t.clocks cpu.0 0 ≡ m.clock = clock-is ms s t cpu.0 m view at low in
        let total : totals_in t cpu ≡ m.totals = totals-are ms s t cpu.0 m view at low in
        λ i. record {
          entries = (view i).entries;
          accounts = (columns after s).accounts;
          standings = (view i).standings;
          ways = (view i).ways;
          clocks =
              (part-put (λ x. x.clock) ms cpu.0 (metered w m) t.clocks (ap (λ x. x.clocks) view)
              ∙ ap (λ (c : ℕ). slice_set t.clocks cpu.0 (c + w.length)) (sym clock)) i;
          totals =
              (part-put (λ x. x.totals) ms cpu.0 (metered w m) t.totals (ap (λ x. x.totals) view)
              ∙ ap (λ (x : Totals). slice_set t.totals cpu.0 (add_hits w.mode w.hits x)) (sym total)) i;
        };
  }

  pub are-whole : (k : Key) → is_there t k ≡ true → (entry_in t k).instance.attr.period ≡ 0 → (account_in t k).left ≡ 0
  are-whole k there none =
      let found = some-of (slab_get s k.0) (there-row ms s t k view there) in
      let e : Kept = found.0 in
      let here : row_in t k ≡ row_by (meter_at ms e.tally.cpu) e = row-is ms s t k e view found.1 in
      ap (λ x. x.account.left) here ∙ (table.tallies k.0 e found.1).whole (ap (λ x. x.entry.instance.attr.period) (sym here) ∙ none)

  module _ (room : HasRoomForWork t cpu w) where
    tally-after : (k : ℕ) (e : Kept) → slab_get s k ≡ Some e → IsTally (meter_at after e.tally.cpu) e.entry.instance.attr e.tally
    tally-after k e kept =
        let a : Attr = e.entry.instance.attr in
        elim (cases_eq e.tally.cpu.0 cpu.0) [
          | inl same ↦
              let old : meter_at ms e.tally.cpu ≡ m = old-here e.tally.cpu same in
              let tally : IsTally m a e.tally = subst (λ x. IsTally x a e.tally) old (table.tallies k e kept) in
              let key : Key = record { 0 = k } in
              let here : row_in t key ≡ row_by m e = row-is ms s t key e view kept ∙ ap (λ x. row_by x e) old in
              let there : is_there t key ≡ true = there-is ms s t key view ∙ ap is_some kept in
              subst (λ x. IsTally x a e.tally) (sym (new-here e.tally.cpu same))
              (tally-worked m (metered w m) a e.tally w tally refl (gains a)
              (subst (λ x. x.way.cpu.0 ≡ cpu.0 → x.way.ready ≡ true → x.account.sums.enabled + w.length < 2 ^ 63) here (room.enabled key there) same)
              (subst (λ x. x.way.cpu.0 ≡ cpu.0 → goes_along x.entry.instance.attr x.way.on ≡ true
              → x.account.sums.count + counted_by w x.entry.instance.attr x.entry.instance.attr.kind < 2 ^ 63) here (room.count key there) same))
          | inr other ↦ subst (λ x. IsTally x a e.tally) (sym (elsewhere e.tally.cpu other)) (table.tallies k e kept)
        ]

    pub table-worked : IsTable after idle counts s
    table-worked = record { room = table.room; keys = table.keys; idle = table.idle; tallies = tally-after; samplers = table.samplers }

-- a context has events that sample where their number is not 0
pub samplers-are : (ms : List Metered) (idle : Metered) (counts : List ℕ) (s : Slab Kept) (t : Columns) (c : Context) → columns ms s ≡ t → IsTable ms idle counts s → place_of c < 72
    → (1 ≤ slice_index_or counts (place_of c) 0) ↔ SomeSamples t c
samplers-are ms idle counts s t c view table low = (
  λ some.
      let found = count-some (samples_at (place_of c)) s.slots (omega (arith, some, table.samplers.each (place_of c) low)) in
      let kept = sampler-kept (place_of c) (slab_get s found.0) found.1 in
      let k : Key = record { 0 = found.0 } in
      let here : row_in t k ≡ row_by (meter_at ms kept.0.tally.cpu) kept.0 = row-is ms s t k kept.0 view kept.1 in (
        k,
        there-is ms s t k view ∙ ap is_some kept.1,
        ap (λ x. place_of x.entry.context) here ∙ kept.2,
        subst (λ x. x.entry.instance.attr.period ≢ 0) (sym here) kept.3,
      ),
  λ some.
      let k : Key = some.0 in
      let found = some-of (slab_get s k.0) (there-row ms s t k view some.1) in
      let here : row_in t k ≡ row_by (meter_at ms found.0.tally.cpu) found.0 = row-is ms s t k found.0 view found.1 in
      let is : samples_at (place_of c) (slab_get s k.0) ≡ true = grind (arith, nat_tests, sampler-at) in
      omega (arith, table.samplers.each (place_of c) low, count-there (samples_at (place_of c)) refl s.slots k.0 is),
)
