-- Accounts along meters: what turns, work, hits, resets and new periods leave of them.
use Rattle.std.proofs.Common.{◌≡◌, ℕ, ◌+◌, ◌-◌, ◌^◌, ◌<◌, ◌≤◌, ◌==◌, Bool, true, false, ◌&&◌, if◌then◌else◌, List, [], ◌∷◌, length, slice_index, refl, sym, ap, subst, ◌∙◌, zero, suc, arith}
use Rattle.std.proofs.lemmas.{Bool.Decides.{nat_tests}, List.{ext_get_or}}
use Rattle.perf_base.specs.declared.{attr.{Attr.{Attr}, Kind.{Kind}}, lines.{Mode.{Mode}, Work.{Work}}, reply.Sums.{Sums}}
use Rattle.perf_base.specs.declared.attr.Kind.TheVariants as kind
use Rattle.perf_base.specs.declared.lines.Mode.TheVariants as mode
use Rattle.stage_spec.specs.{Families.{plus}, Flags.{excludes_user, excludes_kernel}, Occurrences.{left_after}}
use Rattle.stage_spec.specs.Shares.{excludes, counted_by, no_sums}
use Rattle.event_times.specs.Times.{enabled_at, running_at}
use Rattle.event_counts.{proofs.OneByOne.{left_after-no_period}, specs.Counts.{Counts, count_at, followed, restarted, counts_after}}
use Rattle.world_spec.specs.{Value.{Totals}, Kept.{AreSmallTotals}, Metering.{add_each, add_hits}, Ways.{Way}}
use Rattle.world_tables.specs.Meters.{Metered, Tallied, IsTally, metered, total_by, total_of, is_metered, goes_along, given, fresh_tally, way_of, sums_at, tally_to}
use Rattle.world_spec.proofs.Metering.{length-each}

-- lists that are added place by place
pub add_each-at : (xs ys : List ℕ) → length ys ≡ length xs → (n : ℕ) → slice_index (add_each xs ys) n ≡ slice_index xs n + slice_index ys n
add_each-at [] [] same n = refl
add_each-at [] (y ∷ ys) same n = absurd (omega arith)
add_each-at (x ∷ xs) [] same n = absurd (omega arith)
add_each-at (x ∷ xs) (y ∷ ys) same zero = refl
add_each-at (x ∷ xs) (y ∷ ys) same (suc n) = add_each-at xs ys (omega arith) n

-- what was added at all places
module _ (before now hits : List ℕ) where
  pub all-added : (n : ℕ) → length hits ≡ length before → length now ≡ length before → length before ≤ n
      → ((k : ℕ) → k < n → slice_index now k ≡ slice_index before k + slice_index hits k) → now ≡ add_each before hits
  all-added n same kept whole done =
      ext_get_or 0 now (add_each before hits) (kept ∙ sym (length-each before hits))
      (λ k low. done k (omega (arith, low, kept, whole)) ∙ sym (add_each-at before hits same k))

-- the total of an event gains what the event counts of a line of work
unless-user : (x y : Bool) (u k h : ℕ) → (if x then 0 else u + h) + (if y then 0 else k) ≡ (if x then 0 else u) + (if y then 0 else k) + (if x then 0 else h)
unless-user true true u k h = refl
unless-user true false u k h = omega arith
unless-user false true u k h = omega arith
unless-user false false u k h = omega arith

unless-kernel : (x y : Bool) (u k h : ℕ) → (if x then 0 else u) + (if y then 0 else k + h) ≡ (if x then 0 else u) + (if y then 0 else k) + (if y then 0 else h)
unless-kernel true true u k h = refl
unless-kernel true false u k h = omega arith
unless-kernel false true u k h = omega arith
unless-kernel false false u k h = omega arith

hard-gains : (m : Mode) (t : Totals) (hits : List ℕ) (a : Attr) (n : ℕ) → length t.user ≡ 16 → length t.kernel ≡ 16 → length hits ≡ 16
    → (if excludes_user a then 0 else slice_index (add_hits m hits t).user n) + (if excludes_kernel a then 0 else slice_index (add_hits m hits t).kernel n)
    ≡ (if excludes_user a then 0 else slice_index t.user n) + (if excludes_kernel a then 0 else slice_index t.kernel n) + (if excludes m a then 0 else slice_index hits n)
hard-gains mode.User t hits a n user kernel kinds = grind (arith, nat_tests, ℕ, slice_index, add_each-at, unless-user)
hard-gains mode.Kernel t hits a n user kernel kinds = grind (arith, nat_tests, ℕ, slice_index, add_each-at, unless-kernel)

kind-gains : (k : Kind) (clock : ℕ) (t : Totals) (w : Work) (a : Attr) → length t.user ≡ 16 → length t.kernel ≡ 16 → length w.hits ≡ 16
    → total_by (clock + w.length) (add_hits w.mode w.hits t) a k ≡ total_by clock t a k + counted_by w a k
kind-gains (kind.Hard n) clock t w a user kernel kinds = hard-gains w.mode t w.hits a n user kernel kinds
kind-gains kind.ContextSwitches clock t w a user kernel kinds = refl
kind-gains kind.CpuMigrations clock t w a user kernel kinds = refl
kind-gains kind.TaskClock clock t w a user kernel kinds = refl
kind-gains kind.Dummy clock t w a user kernel kinds = refl

pub total-gains : (m : Metered) (w : Work) (a : Attr) → length m.totals.user ≡ 16 → length m.totals.kernel ≡ 16 → length w.hits ≡ 16
    → total_of (metered w m).clock (metered w m).totals a ≡ total_of m.clock m.totals a + counted_by w a a.kind
total-gains m w a user kernel kinds = kind-gains a.kind m.clock m.totals w a user kernel kinds

-- a meter after a line of work in one mode, and that each total has room for it
module _ (m : Metered) (w : Work) (clock : ℕ) (clock_is : clock ≡ m.clock + w.length) where
  pub user-worked : (user : List ℕ) → w.mode ≡ mode.User → user ≡ add_each m.totals.user w.hits
      → (let after : Metered = record { clock = clock; totals = record { user = user; kernel = m.totals.kernel } } in after) ≡ metered w m
  user-worked user is same =
      (λ i. record { clock = clock_is i; totals = record { user = same i; kernel = m.totals.kernel } })
      ∙ ap (λ x. record { clock = m.clock + w.length; totals = add_hits x w.hits m.totals }) (sym is)

  pub kernel-worked : (kernel : List ℕ) → w.mode ≡ mode.Kernel → kernel ≡ add_each m.totals.kernel w.hits
      → (let after : Metered = record { clock = clock; totals = record { user = m.totals.user; kernel = kernel } } in after) ≡ metered w m
  kernel-worked kernel is same =
      (λ i. record { clock = clock_is i; totals = record { user = m.totals.user; kernel = same i } })
      ∙ ap (λ x. record { clock = m.clock + w.length; totals = add_hits x w.hits m.totals }) (sym is)

module _ (m : Mode) (t : Totals) (hits : List ℕ) (small : AreSmallTotals (add_hits m hits t)) where
  pub user-fits : m ≡ mode.User → length hits ≡ length t.user → (n : ℕ) → slice_index t.user n + slice_index hits n < 2 ^ 63
  user-fits is same n =
      let s : AreSmallTotals (add_hits mode.User hits t) = subst (λ x. AreSmallTotals (add_hits x hits t)) is small in
      omega (arith, s.user n, add_each-at t.user hits same n)

  pub kernel-fits : m ≡ mode.Kernel → length hits ≡ length t.kernel → (n : ℕ) → slice_index t.kernel n + slice_index hits n < 2 ^ 63
  kernel-fits is same n =
      let s : AreSmallTotals (add_hits mode.Kernel hits t) = subst (λ x. AreSmallTotals (add_hits x hits t)) is small in
      omega (arith, s.kernel n, add_each-at t.kernel hits same n)

-- a number since a stamp, where more comes; and what was just stamped
since-more : (b : Bool) (base stamp now more : ℕ) → (b ≡ true → stamp ≤ now)
    → base + (if b then now + more - stamp else 0) ≡ base + (if b then now - stamp else 0) + (if b then more else 0)
since-more true base stamp now more low = let h : stamp ≤ now = low refl in omega arith
since-more false base stamp now more low = omega arith

stays-below : (b : Bool) (old new more most : ℕ) → new ≡ old + (if b then more else 0) → old < most → (b ≡ true → old + more < most) → new < most
stays-below true old new more most same low fits = let h : old + more < most = fits refl in omega arith
stays-below false old new more most same low fits = omega arith

just-stamped : (b : Bool) (base now : ℕ) → base + 0 + (if b then now - now else 0) ≡ base
just-stamped true base now = omega arith
just-stamped false base now = omega arith

-- a line of work
module _ (m after : Metered) (a : Attr) (t : Tallied) (w : Work) (h : IsTally m a t) (clock : after.clock ≡ m.clock + w.length)
    (total : total_of after.clock after.totals a ≡ total_of m.clock m.totals a + counted_by w a a.kind) where
  count-worked : count_at (total_of after.clock after.totals a) t.counts
      ≡ count_at (total_of m.clock m.totals a) t.counts + (if goes_along a t.times.on then counted_by w a a.kind else 0)
  count-worked =
      ap (λ (n : ℕ). count_at n t.counts) total
      ∙ (since-more t.counts.along t.counts.count t.counts.stamp (total_of m.clock m.totals a) (counted_by w a a.kind) h.followed
      ∙ ap (λ (b : Bool). count_at (total_of m.clock m.totals a) t.counts + (if b then counted_by w a a.kind else 0)) h.along)

  enabled-worked : enabled_at after.clock t.times ≡ enabled_at m.clock t.times + (if t.times.ready then w.length else 0)
  enabled-worked =
      ap (λ (n : ℕ). enabled_at n t.times) clock ∙ since-more t.times.ready t.times.enabled t.times.stamp m.clock w.length h.begun

  running-worked : running_at after.clock t.times ≡ running_at m.clock t.times + (if t.times.on then w.length else 0)
  running-worked =
      ap (λ (n : ℕ). running_at n t.times) clock
      ∙ since-more t.times.on t.times.running t.times.stamp m.clock w.length (λ e. h.begun (h.on_is_ready e))

  pub sums-worked : sums_at after a t ≡ plus (sums_at m a t) (given w (way_of t) a)
  sums-worked = λ i. record { count = count-worked i; enabled = enabled-worked i; running = running-worked i }

  pub tally-worked : (t.times.ready ≡ true → enabled_at m.clock t.times + w.length < 2 ^ 63)
      → (goes_along a t.times.on ≡ true → count_at (total_of m.clock m.totals a) t.counts + counted_by w a a.kind < 2 ^ 63) → IsTally after a t
  tally-worked enabled count = record {
    begun = λ e. omega (arith, h.begun e, clock);
    enabled = stays-below t.times.ready (enabled_at m.clock t.times) (enabled_at after.clock t.times) w.length (2 ^ 63) enabled-worked h.enabled enabled;
    on_is_ready = h.on_is_ready;
    period = h.period;
    along = h.along;
    followed = λ e. omega (arith, h.followed e, total);
    counted =
        stays-below (goes_along a t.times.on) (count_at (total_of m.clock m.totals a) t.counts) (count_at (total_of after.clock after.totals a) t.counts)
        (counted_by w a a.kind) (2 ^ 63) count-worked h.counted count;
    whole = h.whole;
  }

-- a turn from one meter to another
module _ (from to : ℕ) (along : Bool) (c : Counts) where
  count-moved : (b : Bool) → (b ≡ false → c.along ≡ false) → count_at to (if b then followed to along (followed from false c) else c) ≡ count_at from c
  count-moved true apart = just-stamped along (count_at from c) to
  count-moved false apart =
      ap (λ (b : Bool). c.count + (if b then to - c.stamp else 0)) (apart refl) ∙ sym (ap (λ (b : Bool). c.count + (if b then from - c.stamp else 0)) (apart refl))

  period-moved : (b : Bool) → (if b then followed to along (followed from false c) else c).period ≡ c.period
  period-moved true = refl
  period-moved false = refl

  left-moved : (b : Bool) → (if b then followed to along (followed from false c) else c).left ≡ c.left
  left-moved true = refl
  left-moved false = refl

  followed-moved : (b : Bool) → (b ≡ false → c.along ≡ false) → (if b then followed to along (followed from false c) else c).along ≡ true
      → (if b then followed to along (followed from false c) else c).stamp ≤ to
  followed-moved true apart e = omega arith
  followed-moved false apart e = absurd (let bad : true ≡ false = sym e ∙ apart refl in cc)

along-moved : (b on given : Bool) (from to : ℕ) (c : Counts) → (b ≡ false → c.along ≡ false)
    → (if b then followed to (on && given) (followed from false c) else c).along ≡ on && (given && b)
along-moved true true true from to c apart = refl
along-moved true true false from to c apart = refl
along-moved true false given from to c apart = refl
along-moved false true true from to c apart = apart refl
along-moved false true false from to c apart = apart refl
along-moved false false given from to c apart = apart refl

never : (on given : Bool) → (on && (given && false)) ≡ false
never true true = refl
never true false = refl
never false given = refl

module _ (from to : Metered) (a : Attr) (w : Way) (t : Tallied) (h : IsTally from a t) where
  plain : (t.counts.period == 0) ≡ (a.period == 0)
  plain = ap (λ (n : ℕ). n == 0) h.period

  apart : (t.counts.period == 0) ≡ false → t.counts.along ≡ false
  apart e =
      h.along ∙ (ap (λ (b : Bool). t.times.on && (is_metered a.kind && b)) (sym plain ∙ e) ∙ never t.times.on (is_metered a.kind))

  count-kept : count_at (total_of to.clock to.totals a) (tally_to from to a w t).counts ≡ count_at (total_of from.clock from.totals a) t.counts
  count-kept = count-moved (total_of from.clock from.totals a) (total_of to.clock to.totals a) (w.on && is_metered a.kind) t.counts (t.counts.period == 0) apart

  pub sums-moved : sums_at to a (tally_to from to a w t) ≡ sums_at from a t
  sums-moved = λ i. record {
    count = count-kept i;
    enabled = just-stamped w.ready (enabled_at from.clock t.times) to.clock i;
    running = just-stamped w.on (running_at from.clock t.times) to.clock i;
  }

  pub left-kept : (tally_to from to a w t).counts.left ≡ t.counts.left
  left-kept = left-moved (total_of from.clock from.totals a) (total_of to.clock to.totals a) (w.on && is_metered a.kind) t.counts (t.counts.period == 0)

  pub tally-moved : (w.on ≡ true → w.ready ≡ true) → IsTally to a (tally_to from to a w t)
  tally-moved on_is_ready = record {
    begun = λ e. omega arith;
    enabled = omega (arith, just-stamped w.ready (enabled_at from.clock t.times) to.clock, h.enabled);
    on_is_ready = on_is_ready;
    period = period-moved (total_of from.clock from.totals a) (total_of to.clock to.totals a) (w.on && is_metered a.kind) t.counts (t.counts.period == 0) ∙ h.period;
    along =
        along-moved (t.counts.period == 0) w.on (is_metered a.kind) (total_of from.clock from.totals a) (total_of to.clock to.totals a) t.counts apart
        ∙ ap (λ (b : Bool). w.on && (is_metered a.kind && b)) plain;
    followed = followed-moved (total_of from.clock from.totals a) (total_of to.clock to.totals a) (w.on && is_metered a.kind) t.counts (t.counts.period == 0) apart;
    counted = omega (arith, count-kept, h.counted);
    whole = λ e. left-kept ∙ h.whole e;
  }

-- occurrences that are counted one by one
count-hit : (total n : ℕ) (c : Counts) → count_at total (counts_after c n) ≡ count_at total c + n
count-hit total n c = omega arith

pub count-apart : (total : ℕ) (c : Counts) → c.count ≤ count_at total c
count-apart total c = omega arith

module _ (m : Metered) (a : Attr) (t : Tallied) (n : ℕ) (h : IsTally m a t) where
  pub sums-hit : sums_at m a (record t { counts = counts_after t.counts n }) ≡ record (sums_at m a t) { count = (sums_at m a t).count + n }
  sums-hit = λ i. record (sums_at m a t) { count = count-hit (total_of m.clock m.totals a) n t.counts i }

  pub left-hit : left_after n t.counts.period t.counts.left ≡ left_after n a.period t.counts.left
  left-hit = ap (λ (p : ℕ). left_after n p t.counts.left) h.period

  pub tally-hit : (sums_at m a t).count + n < 2 ^ 63 → IsTally m a (record t { counts = counts_after t.counts n })
  tally-hit fits = record {
    begun = h.begun;
    enabled = h.enabled;
    on_is_ready = h.on_is_ready;
    period = h.period;
    along = h.along;
    followed = h.followed;
    counted = omega (arith, count-hit (total_of m.clock m.totals a) n t.counts, fits);
    whole = λ e. left-hit ∙ (ap (λ (p : ℕ). left_after n p t.counts.left) e ∙ (ap (λ (l : ℕ). left_after n 0 l) (h.whole e) ∙ left_after-no_period n 0 (omega arith)));
  }

-- a count from 0 on again
count-reset : (along : Bool) (total : ℕ) → 0 + (if along then total - total else 0) ≡ 0
count-reset true total = omega arith
count-reset false total = refl

module _ (m : Metered) (a : Attr) (t : Tallied) (h : IsTally m a t) where
  pub sums-reset : sums_at m a (record t { counts = restarted (total_of m.clock m.totals a) t.counts }) ≡ record (sums_at m a t) { count = 0 }
  sums-reset = λ i. record (sums_at m a t) { count = count-reset t.counts.along (total_of m.clock m.totals a) i }

  pub tally-reset : IsTally m a (record t { counts = restarted (total_of m.clock m.totals a) t.counts })
  tally-reset = record {
    begun = h.begun;
    enabled = h.enabled;
    on_is_ready = h.on_is_ready;
    period = h.period;
    along = h.along;
    followed = λ e. omega arith;
    counted = omega (arith, count-reset t.counts.along (total_of m.clock m.totals a));
    whole = h.whole;
  }

-- another period of one that samples
kind-period : (k : Kind) (clock : ℕ) (t : Totals) (a : Attr) (p : ℕ) → total_by clock t (record a { period = p }) k ≡ total_by clock t a k
kind-period (kind.Hard n) clock t a p = refl
kind-period kind.ContextSwitches clock t a p = refl
kind-period kind.CpuMigrations clock t a p = refl
kind-period kind.TaskClock clock t a p = refl
kind-period kind.Dummy clock t a p = refl

some-period : (p : ℕ) → (p ≡ 0 → ⊥) → (p == 0) ≡ false
some-period p some = grind (arith, nat_tests)

module _ (m : Metered) (a : Attr) (t : Tallied) (p : ℕ) (h : IsTally m a t) (samples : a.period ≡ 0 → ⊥) (still : p ≡ 0 → ⊥) where
  same-total : total_of m.clock m.totals (record a { period = p }) ≡ total_of m.clock m.totals a
  same-total = kind-period a.kind m.clock m.totals a p

  pub sums-period : sums_at m (record a { period = p }) (record t { counts = record t.counts { period = p; left = p } }) ≡ sums_at m a t
  sums-period = λ i. record (sums_at m a t) { count = count_at (same-total i) t.counts }

  apart-by : t.counts.along ≡ false
  apart-by =
      h.along ∙ (ap (λ (b : Bool). t.times.on && (is_metered a.kind && b)) (some-period a.period samples) ∙ never t.times.on (is_metered a.kind))

  pub tally-period : IsTally m (record a { period = p }) (record t { counts = record t.counts { period = p; left = p } })
  tally-period = record {
    begun = h.begun;
    enabled = h.enabled;
    on_is_ready = h.on_is_ready;
    period = refl;
    along =
        apart-by
        ∙ sym (ap (λ (b : Bool). t.times.on && (is_metered a.kind && b)) (some-period p still) ∙ never t.times.on (is_metered a.kind));
    followed = λ e. omega (arith, h.followed e, same-total);
    counted = omega (arith, h.counted, ap (λ (n : ℕ). count_at n t.counts) same-total);
    whole = λ e. absurd (still e);
  }

-- an instance that is just born
pub tally-fresh : (m : Metered) (a : Attr) → IsTally m a (fresh_tally a.period)
tally-fresh m a = grind (arith, nat_tests)

-- more of a sum than of nothing
pub plus-none : (s : Sums) → s ≡ plus s no_sums
plus-none s = grind (arith, nat_tests)
