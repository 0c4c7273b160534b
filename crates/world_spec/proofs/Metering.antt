-- A line of work keeps a world, and lets no family grow by more than one instance may.
use Rattle.std.specs.Prelude.{◌≡◌, ℕ, ◌+◌, ◌^◌, ◌<◌, ◌≤◌, ◌==◌, max, Bool, true, false, not, ◌&&◌, List, [], ◌∷◌, length, ◌⊎◌, is_some, Option, Some, None, slice_index_or, slice_set, if◌then◌else◌}
use Rattle.std.specs.{FinMap.{get}, Option.{unwrap_or}}
use Rattle.std.proofs.{Common.{arith, refl, sym, ap, subst, ◌∙◌, inl, inr, get_or-set_other, get_or-set_same}}
use Rattle.std.proofs.{Math.Seq.{set_out}, lemmas.{Bool.{cases_eq, cases_lt, cases_Bool, false≢true}, List.{length-set}}}
use Rattle.perf_base.specs.declared.{lines.{Mode.{Mode}, Work.{Work}}, numbers.{CpuNo.{CpuNo}, Key.{Key}}}
use Rattle.perf_base.specs.{declared.reply.Sums.{Sums}, Standings.{stands_on}}
use Rattle.perf_base.specs.declared.lines.CpuLine.TheVariants as cpu_line
use Rattle.perf_base.specs.declared.lines.Mode.TheVariants as mode
use Rattle.stage_spec.specs.{Families.{plus}, Hardware.{Hardware}, Shares.{no_sums, work_hits}}
use Rattle.stage_laws.specs.{Narrowing.{has_context}, Bounds.{greatest, most_of_line, AreAtMost}}
use Rattle.world_spec.specs.Value.{World, Account, Totals, no_totals, no_account, no_family, is_live, entry_at, instance_at, account_at, standing_at, is_key, times}
use Rattle.world_spec.specs.{StageOf.{stage_of}, Kept.{once_if, keys_of, plus_keys, family_sums, HaveTotals, AreSmallTotals, IsKept}}
use Rattle.world_spec.specs.{Shares.{HaveRoom}, Ways.{is_ready_at, is_on_at}, Working.{is_effective}}
use Rattle.world_spec.specs.Metering.{add_each, add_hits, metered, work_given, IsWorked, HasMeterRoom, WorkStageLaw, WorkWaysLaw, WorkKeptLaw, WorkGrowsLaw}
use Rattle.world_spec.proofs.{Accounts.{IsSum, counts_are_sums, times_are_sums, family-times, family-once}, Coming.{number_true}}
use Rattle.world_spec.proofs.{Folding.{run_times_are_sums}, Keeping.{bounded-set}, Keys.{is_key-same, times-cons, once-true}, Moving.{leads-parts}}
use Rattle.world_spec.proofs.{Reaching.{one-reached}, Ways.{other-ways}}
use Rattle.stage_laws.proofs.BoundsStep.{counted-le}
use Rattle.world_spec.proofs.ComingLinks.{none_of_two}

-- what one instance is given is at most the most of a line
pub where-most : (b : Bool) (n m : ℕ) → n ≤ m → (if b then n else 0) ≤ m
where-most true n m h = h
where-most false n m h = omega arith

-- what is given to some is given where the processor reaches them
not-given : (b : Bool) (n : ℕ) → b ≡ false → (if b then n else 0) ≡ 0
not-given b n h = ap {B = ℕ} (λ c. if c then n else 0) h

module _ (w : World) (cpu : CpuNo) (work : Work) where
  pub none-unready : (k : Key) → is_ready_at w cpu k ≡ false → work_given w cpu work k ≡ no_sums
  none-unready k off =
      let not_on : is_on_at w cpu k ≡ false = none_of_two (is_ready_at w cpu k) (stands_on (standing_at w (entry_at w k).leader)) off in
      let count : (work_given w cpu work k).count ≡ 0 = not-given (is_on_at w cpu k && (instance_at w k).attr.period == 0) (work_hits work (instance_at w k))
      (none_of_two (is_on_at w cpu k) ((instance_at w k).attr.period == 0) not_on) in
      let enabled : (work_given w cpu work k).enabled ≡ 0 = not-given (is_ready_at w cpu k) work.length off in
      let running : (work_given w cpu work k).running ≡ 0 = not-given (is_on_at w cpu k) work.length not_on in
      λ i. record { count = count i; enabled = enabled i; running = running i }

  pub given-most : (k : Key) → AreAtMost (work_given w cpu work k) (most_of_line (cpu_line.Work work))
  given-most k = record {
    count = where-most (is_on_at w cpu k && (instance_at w k).attr.period == 0) (work_hits work (instance_at w k)) (max work.length (greatest work.hits))
        (counted-le work (instance_at w k).attr (instance_at w k).attr.kind);
    enabled = where-most (is_ready_at w cpu k) work.length work.length (omega arith);
    running = where-most (is_on_at w cpu k) work.length work.length (omega arith);
  }

  given-ran : (k : Key) → (work_given w cpu work k).running ≤ (work_given w cpu work k).enabled
  given-ran k = no-longer (is_ready_at w cpu k) (stands_on (standing_at w (entry_at w k).leader))
    where
      no-longer : (ready stands : Bool) → (if ready && stands then work.length else 0) ≤ (if ready then work.length else 0)
      no-longer true true = omega arith
      no-longer true false = omega arith
      no-longer false stands = omega arith

-- sums of keys of which one at most is given something
all-none : (p : Sums → ℕ) → IsSum p → (s g : Key → Sums) (given : Key → Bool) → ((q : Key) → given q ≡ false → g q ≡ no_sums)
    → (keys : List Key) → ((q : Key) → 1 ≤ times q keys → given q ≡ false) → p (plus_keys (λ q. plus (s q) (g q)) keys) ≡ p (plus_keys s keys)
all-none p is s g given none [] off = refl
all-none p is s g given none (q ∷ keys) off =
    let nothing : p (g q) ≡ 0 = ap p (none q (off q (omega (arith, times-cons q q keys, once-true (is_key q q) (is_key-same q q refl))))) ∙ is.none in
    omega (arith, nothing, times-cons, all-none p is s g given none keys (λ j some. off j (omega (arith, some, times-cons j q keys))))

pub one-given : (p : Sums → ℕ) → IsSum p → (s g : Key → Sums) (given : Key → Bool) (m : ℕ) → ((q : Key) → given q ≡ false → g q ≡ no_sums) → ((q : Key) → p (g q) ≤ m)
    → (keys : List Key) → ((q : Key) → times q keys ≤ 1) → ((j k : Key) → 1 ≤ times j keys → 1 ≤ times k keys → given j ≡ true → given k ≡ true → j.0 ≡ k.0)
    → p (plus_keys (λ q. plus (s q) (g q)) keys) ≤ p (plus_keys s keys) + m
one-given p is s g given m none most [] once alone = omega arith
one-given p is s g given m none most (q ∷ keys) once alone =
    let t : Key → Sums = λ x. plus (s x) (g x) in
    let here : 1 ≤ times q (q ∷ keys) = omega (arith, times-cons q q keys, once-true (is_key q q) (is_key-same q q refl)) in
    let later : (j : Key) → 1 ≤ times j keys → 1 ≤ times j (q ∷ keys) = λ j some. omega (arith, some, times-cons j q keys) in
    elim (cases_Bool (given q)) [
      | inl on ↦
          let off : (j : Key) → 1 ≤ times j keys → given j ≡ false = λ j some. (elim (cases_Bool (given j)) [
            | inr lacks ↦ lacks
            | inl too ↦
                let same : is_key j q ≡ true = is_key-same j q (alone q j here (later j some) on too) in
                absurd (omega (arith, some, once j, times-cons j q keys, once-true (is_key j q) same))
          ]) in
          omega (arith, most q, is.both (s q) (g q), is.both (s q) (plus_keys s keys), is.both (t q) (plus_keys t keys), all-none p is s g given none keys off)
      | inr off ↦
          let nothing : p (g q) ≡ 0 = ap p (none q off) ∙ is.none in
          omega (
            arith,
            nothing,
            is.both (s q) (g q),
            is.both (s q) (plus_keys s keys),
            is.both (t q) (plus_keys t keys),
            one-given p is s g given m none most keys (λ j. omega (arith, once j, times-cons j q keys)) (λ j k some_j some_k. alone j k (later j some_j) (later k some_k)),
          )
    ]

-- the keys of a family are live, and of its slot
pub family-key : (hw : Hardware) (w : World) → IsKept hw w → (slot : ℕ) (k : Key) → 1 ≤ times k (keys_of (slice_index_or w.families slot no_family)) → (is_live w k ≡ true) × ((instance_at w k).event.0 ≡ slot)
family-key hw w h slot k some =
    let parts : (is_live w k ≡ true) × (((instance_at w k).event.0 == slot) ≡ true) = stands (is_live w k) ((instance_at w k).event.0 == slot) (instance_at w k).copy
    (omega (arith, some, family-times w h.linked k slot)) in
    (parts.0, number_true (instance_at w k).event.0 slot parts.1)
  where
    stands : (a b c : Bool) → 1 ≤ once_if (a && b && not c) + once_if (a && b && c) → (a ≡ true) × (b ≡ true)
    stands true true c some = (refl, refl)
    stands true false c some = absurd (omega (arith, some))
    stands false b c some = absurd (omega (arith, some))

pub plus-same : (s t : Key → Sums) (keys : List Key) → ((q : Key) → 1 ≤ times q keys → t q ≡ s q) → plus_keys t keys ≡ plus_keys s keys
plus-same s t [] same = refl
plus-same s t (q ∷ keys) same =
    let first : t q ≡ s q = same q (omega (arith, times-cons q q keys, once-true (is_key q q) (is_key-same q q refl))) in
    let rest : plus_keys t keys ≡ plus_keys s keys = plus-same s t keys (λ j some. same j (omega (arith, some, times-cons j q keys))) in
    λ i. plus (first i) (rest i)

none_or_first : (keys : List Key) → (keys ≡ []) ⊎ ((q : Key) × (1 ≤ times q keys))
none_or_first [] = inl refl
none_or_first (q ∷ keys) = inr (q, omega (arith, times-cons q q keys, once-true (is_key q q) (is_key-same q q refl)))

module _ (hw : Hardware) (w : World) (h : IsKept hw w) (after : World) (cpu : CpuNo) (work : Work) (worked : IsWorked w after cpu work) where
  abbrev old : Key → Sums
  old q = (account_at w q).sums

  abbrev given : Key → Sums
  given q = work_given w cpu work q

  has-it : (k : Key) → is_ready_at w cpu k ≡ true → has_context (stage_of w) cpu (entry_at w k).context ≡ true
  has-it k on = (leads-parts (is_effective w k) (has_context (stage_of w) cpu (entry_at w k).context) on).1

  sums-are : (slot : ℕ) → family_sums after slot ≡ plus (plus_keys (λ q. plus (old q) (given q)) (keys_of (slice_index_or w.families slot no_family))) (slice_index_or w.folded slot no_sums)
  sums-are slot =
      let keys : List Key = keys_of (slice_index_or w.families slot no_family) in
      (λ i. plus (plus_keys (λ q. (account_at after q).sums) (keys_of (slice_index_or (worked.rest i).families slot no_family))) (slice_index_or (worked.rest i).folded slot no_sums))
      ∙ ap (λ x. plus x (slice_index_or w.folded slot no_sums))
      (plus-same (λ q. plus (old q) (given q)) (λ q. (account_at after q).sums) keys (λ q some. ap (λ a. a.sums) (worked.accounts q (family-key hw w h slot q some).0)))

  grows-by : (p : Sums → ℕ) → IsSum p → ((q : Key) → p (given q) ≤ p (most_of_line (cpu_line.Work work))) → (slot : ℕ)
      → p (family_sums after slot) ≤ p (plus (family_sums w slot) (most_of_line (cpu_line.Work work)))
  grows-by p is most slot =
      let keys : List Key = keys_of (slice_index_or w.families slot no_family) in
      let away : Sums = slice_index_or w.folded slot no_sums in
      let all : Sums = plus_keys (λ q. plus (old q) (given q)) keys in
      omega (
        arith,
        ap p (sums-are slot),
        is.both all away,
        is.both (plus_keys old keys) away,
        is.both (family_sums w slot) (most_of_line (cpu_line.Work work)),
        one-given p is old given (is_ready_at w cpu) (p (most_of_line (cpu_line.Work work))) (none-unready w cpu work) most keys (λ q. family-once w h.linked q slot)
            (λ j k some_j some_k on_j on_k.
            let its_j : (is_live w j ≡ true) × ((instance_at w j).event.0 ≡ slot) = family-key hw w h slot j some_j in
            let its_k : (is_live w k ≡ true) × ((instance_at w k).event.0 ≡ slot) = family-key hw w h slot k some_k in
            ap (λ x. x.0) (one-reached hw w cpu j k h its_j.0 its_k.0 (its_j.1 ∙ sym its_k.1) (has-it j on_j) (has-it k on_k))),
      )

  pub grows : (slot : ℕ) → AreAtMost (family_sums after slot) (plus (family_sums w slot) (most_of_line (cpu_line.Work work)))
  grows slot = record {
    count = grows-by (λ s. s.count) counts_are_sums (λ q. (given-most w cpu work q).count) slot;
    enabled = grows-by (λ s. s.enabled) times_are_sums (λ q. (given-most w cpu work q).enabled) slot;
    running = grows-by (λ s. s.running) run_times_are_sums (λ q. (given-most w cpu work q).running) slot;
  }

  -- a family with no key stays
  stays-empty : (slot : ℕ) → keys_of (slice_index_or w.families slot no_family) ≡ [] → family_sums after slot ≡ family_sums w slot
  stays-empty slot none =
      sums-are slot ∙ (ap (λ keys. plus (plus_keys (λ q. plus (old q) (given q)) keys) (slice_index_or w.folded slot no_sums)) none
      ∙ ap (λ keys. plus (plus_keys old keys) (slice_index_or w.folded slot no_sums)) (sym none))

  bounded-by : (p : Sums → ℕ) → IsSum p → ((q : Key) → p (given q) ≤ p (most_of_line (cpu_line.Work work))) → (bound : ℕ) → ((slot : ℕ) → p (family_sums w slot) < bound)
      → ((k : Key) → is_live w k ≡ true → p (family_sums w (instance_at w k).event.0) + p (most_of_line (cpu_line.Work work)) < bound) → (slot : ℕ) → p (family_sums after slot) < bound
  bounded-by p is most bound low room slot = elim (none_or_first (keys_of (slice_index_or w.families slot no_family))) [
    | inl none ↦ subst (λ s. p s < bound) (sym (stays-empty slot none)) (low slot)
    | inr some ↦
        let its : (is_live w some.0 ≡ true) × ((instance_at w some.0).event.0 ≡ slot) = family-key hw w h slot some.0 some.1 in
        omega (
          arith,
          grows-by p is most slot,
          is.both (family_sums w slot) (most_of_line (cpu_line.Work work)),
          room some.0 its.0,
          ap (λ n. p (family_sums w n)) its.1,
        )
  ]

  ran : (k : Key) → (account_at after k).sums.running ≤ (account_at after k).sums.enabled
  ran k = elim (cases_Bool (is_live w k)) [
    | inl live ↦
        subst (λ a. a.sums.running ≤ a.sums.enabled) (sym (worked.accounts k live)) (omega (arith, h.small.ran k, given-ran w cpu work k))
    | inr dead ↦
        subst (λ a. a.sums.running ≤ a.sums.enabled) (sym (no-account (get after.accounts k.0) (worked.keys k ∙ (h.tables.accounts k ∙ dead)))) (omega arith)
  ]
    where
      no-account : (o : Option Account) → is_some o ≡ false → unwrap_or o no_account ≡ no_account
      no-account None none = refl
      no-account (Some a) none = absurd (false≢true (sym none))

-- clocks and totals
pub length-each : (numbers more : List ℕ) → length (add_each numbers more) ≡ length numbers
length-each [] more = refl
length-each (n ∷ numbers) [] = refl
length-each (n ∷ numbers) (m ∷ more) = omega (arith, length-each numbers more)

user-many : (m : Mode) (hits : List ℕ) (t : Totals) → length (add_hits m hits t).user ≡ length t.user
user-many mode.User hits t = length-each t.user hits
user-many mode.Kernel hits t = refl

kernel-many : (m : Mode) (hits : List ℕ) (t : Totals) → length (add_hits m hits t).kernel ≡ length t.kernel
kernel-many mode.User hits t = refl
kernel-many mode.Kernel hits t = length-each t.kernel hits

-- what holds at each place of totals, after those of one processor were written
by-cpu : (P : Totals → Type 0) (totals : List Totals) (i : ℕ) (v : Totals) → P v → ((k : ℕ) → P (slice_index_or totals k no_totals)) → (k : ℕ) → P (slice_index_or (slice_set totals i v) k no_totals)
by-cpu P totals i v here there k = elim (cases_eq k i) [
  | inr apart ↦ subst P (sym (get_or-set_other totals i k v no_totals apart)) (there k)
  | inl e ↦ elim (cases_lt i (length totals)) [
    | inl within ↦ subst P (sym (ap (λ n. slice_index_or (slice_set totals i v) n no_totals) e ∙ get_or-set_same totals i v no_totals within)) here
    | inr past ↦ subst (λ ts. P (slice_index_or ts k no_totals)) (sym (set_out totals i v past)) (there k)
  ]
]

still-totals : (cpus : ℕ) (totals : List Totals) (i : ℕ) (m : Mode) (hits : List ℕ) → HaveTotals cpus totals
    → HaveTotals cpus (slice_set totals i (add_hits m hits (slice_index_or totals i no_totals)))
still-totals cpus totals i m hits h =
    let t : Totals = slice_index_or totals i no_totals in
    record {
      size = length-set totals i (add_hits m hits t) ∙ h.size;
      user = by-cpu (λ x. length x.user ≡ 16) totals i (add_hits m hits t) (user-many m hits t ∙ h.user i) h.user;
      kernel = by-cpu (λ x. length x.kernel ≡ 16) totals i (add_hits m hits t) (kernel-many m hits t ∙ h.kernel i) h.kernel;
    }

-- accounts that have the same keys, and sums that stay small
pub work-stage : WorkStageLaw
work-stage w after cpu work worked = ap stage_of worked.rest

pub work-ways : WorkWaysLaw
work-ways w after cpu work k worked =
    other-ways w after k (ap (λ (x : World). x.entries) worked.rest) (ap (λ (x : World). x.standings) worked.rest) (ap (λ (x : World). x.quiet.running) worked.rest)

pub work-grows : WorkGrowsLaw
work-grows hw w after cpu work slot h worked = grows hw w h after cpu work worked slot

worked-world : (hw : Hardware) (w after : World) (cpu : CpuNo) (work : Work) → IsKept hw w → IsWorked w after cpu work → HaveRoom w (most_of_line (cpu_line.Work work)) → HasMeterRoom w cpu work
    → IsKept hw (record w { accounts = after.accounts; quiet = metered cpu work w.quiet })
worked-world hw w after cpu work h worked room meter =
    let t : World = record w { accounts = after.accounts; quiet = metered cpu work w.quiet } in
    let now : ℕ = slice_index_or w.quiet.clocks cpu.0 0 + work.length in
    let totals : Totals = add_hits work.mode work.hits (slice_index_or w.quiet.totals cpu.0 no_totals) in
    let same : (slot : ℕ) → family_sums t slot ≡ family_sums after slot = grind arith in
    record {
      tables = record {
        accounts = λ k. worked.keys k ∙ h.tables.accounts k;
        standings = h.tables.standings;
        families = h.tables.families;
        folded = h.tables.folded;
        lost = h.tables.lost;
        clocks = length-set w.quiet.clocks cpu.0 now ∙ h.tables.clocks;
        totals = still-totals (length w.quiet.running) w.quiet.totals cpu.0 work.mode work.hits h.tables.totals;
        seats = h.tables.seats;
      };
      shape = record { running = h.shape.running; tasks = h.shape.tasks; contexts = h.shape.contexts };
      running = record { live = h.running.live; once = h.running.once };
      linked = h.linked;
      copies = h.copies;
      grouped = h.grouped;
      numbered = h.numbered;
      apart = h.apart;
      fitting = h.fitting;
      lawful = record { errors = h.lawful.errors; samples = h.lawful.samples; kinds = h.lawful.kinds; used = h.lawful.used; placed = h.lawful.placed };
      seated = h.seated;
      small = record {
        counts = λ slot. subst (λ s. s.count < 2 ^ 63) (sym (same slot))
            (bounded-by hw w h after cpu work worked (λ s. s.count) counts_are_sums (λ q. (given-most w cpu work q).count) (2 ^ 63) h.small.counts room.counts slot);
        times = λ slot. subst (λ s. s.enabled < 2 ^ 63) (sym (same slot))
            (bounded-by hw w h after cpu work worked (λ s. s.enabled) times_are_sums (λ q. (given-most w cpu work q).enabled) (2 ^ 63) h.small.times room.times slot);
        ran = ran hw w h after cpu work worked;
        folded_ran = h.small.folded_ran;
        clocks = bounded-set w.quiet.clocks cpu.0 now (2 ^ 63) h.small.clocks meter.clock;
        totals = by-cpu AreSmallTotals w.quiet.totals cpu.0 totals meter.totals h.small.totals;
        lost = h.small.lost;
        ids = h.small.ids;
      };
    }

pub work-kept : WorkKeptLaw
work-kept hw w after cpu work h worked room meter = subst (IsKept hw) (sym worked.rest) (worked-world hw w after cpu work h worked room meter)
