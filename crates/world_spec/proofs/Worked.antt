-- A worked case: of two events on a processor with one counter the first is on, and the second is refused by the tight
-- set of both.
use Rattle.std.specs.Prelude.{◌≡◌, ℕ, ◌+◌, false, ◌&&◌, IsTrue, [], ◌∷◌, map, is_some, None, slice_index, replicate}
use Rattle.std.specs.{FinMap.{insert, empty, get-empty}, Option.{unwrap_or}, Ordering.{nat_cmp}}
use Rattle.std.proofs.{Common.{arith, refl, sym, ap, subst, ◌∙◌, inl, inr}, lemmas.Bool.{cases_eq, false≢true}}
use Rattle.perf_base.specs.declared.{numbers.{CpuNo.{CpuNo}, EventNo.{EventNo}, Key.{Key}}, standing.Standing.{Standing}}
use Rattle.perf_base.specs.declared.attr.CpuSel.TheVariants as cpus
use Rattle.perf_base.specs.declared.attr.Kind.TheVariants as kind
use Rattle.perf_base.specs.declared.standing.Cause.TheVariants as cause
use Rattle.perf_base.specs.declared.standing.Context.TheVariants as context
use Rattle.perf_base.specs.declared.standing.Own.TheVariants as own
use Rattle.perf_base.specs.declared.standing.Standing.TheVariants as standing
use Rattle.stage_spec.specs.{declared.instance.Instance.{Instance}, Fits.{IsAssignment, can_count, fits, fits_beside, fits_below}}
use Rattle.stage_spec.specs.{Hardware.{Hardware}, Replies.{seated}, Settle.{IsSettled, settle, settle_pass}}
use Rattle.stage_spec.specs.Stage.{Stage, Group, no_groups, alone, unknown_task}
use Rattle.stage_spec.specs.Tight.{masks_of, tight_set, tight_after, shortest_unfit, unfit_after}
use Rattle.stage_spec.specs.Verdict.{verdicts, judge_passes, judge_pass, judge, standing_of, with_masks}
use Rattle.counter_match.specs.Seating.{Seated}
use Rattle.world_spec.specs.Value.{World, Entry, no_attr, no_entry, no_leaders, no_totals, is_live, entry_at, instance_at, standing_at, seats_at, is_key}
use Rattle.world_spec.{specs.{StageOf.{after_first, group_at, stage_of}, Rescheduled.{IsRescheduled}}, proofs.Keys.{key-is}}
use Rattle.world_spec.proofs.Tables.{get-here, get-there}

-- one processor with one counter, and a kind that it counts
machine : Hardware
machine = record { cpu_pmus = 0 ∷ []; counters = 1 ∷ 0 ∷ 0 ∷ 0 ∷ []; kind_pmus = 0 ∷ []; masks = 1 ∷ [] }

key : ℕ → Key
key n = record { 0 = n }

event : ℕ → EventNo
event n = record { 0 = n }

processor : CpuNo
processor = record { 0 = 0 }

-- two events of that kind, each a group of its own
instance : ℕ → Instance
instance n = record {
  event = event n;
  copy = false;
  id = n + 1;
  attr = record no_attr { kind = kind.Hard 0; cpu = cpus.One processor };
  own = own.Ready;
  ring = None;
  mapped = false;
}

entry : ℕ → Entry
entry n = record { instance = instance n; context = context.Processor processor; leader = key n; members = key n ∷ []; pinned = false }

-- the standings by rescheduling: the first on, the second refused
both_blamed : Standing
both_blamed = standing.Refused (cause.Hall (event 0 ∷ event 1 ∷ []))

world : World
world = record {
  hardware = machine;
  entries = insert (insert empty 0 (entry 0)) 1 (entry 1);
  accounts = empty;
  standings = insert (insert empty 0 standing.On) 1 both_blamed;
  contexts = record { pinned = []; flexible = key 0 ∷ key 1 ∷ [] } ∷ replicate 71 no_leaders;
  families = [];
  folded = [];
  lost = [];
  quiet = record {
    tasks = replicate 64 unknown_task;
    running = None ∷ [];
    clocks = 0 ∷ [];
    totals = no_totals ∷ [];
    seats = record { counters = 1; events = (event 0, 1) ∷ []; seats = 0 ∷ [] } ∷ [];
    used = event 0 ∷ event 1 ∷ [];
    mapped = [];
    next_id = 3;
  };
}

-- what the tables have
first-entry : entry_at world (key 0) ≡ entry 0
unfolding world key
first-entry =
    ap (λ o. unwrap_or o no_entry) (get-there (insert empty 0 (entry 0)) 1 (entry 1) 0 (λ e. omega (arith, e)) ∙ get-here empty 0 (entry 0) 0 refl)

second-entry : entry_at world (key 1) ≡ entry 1
unfolding world key
second-entry = ap (λ o. unwrap_or o no_entry) (get-here (insert empty 0 (entry 0)) 1 (entry 1) 1 refl)

no-other : (q : Key) → (q.0 ≡ 0 → ⊥) → (q.0 ≡ 1 → ⊥) → is_live world q ≡ false
unfolding world
no-other q not_first not_second =
    ap is_some (get-there (insert empty 0 (entry 0)) 1 (entry 1) q.0 not_second ∙ (get-there empty 0 (entry 0) q.0 not_first ∙ get-empty nat_cmp q.0))

-- its stage
stage : Stage
stage = record {
  running = None ∷ [];
  tasks = replicate 64 unknown_task;
  contexts = record { pinned = []; flexible = alone (instance 0) ∷ alone (instance 1) ∷ [] } ∷ replicate 71 no_groups;
  used = event 0 ∷ event 1 ∷ [];
  mapped = [];
  next_id = 3;
}

is-stage : stage_of world ≡ stage
unfolding world stage entry key
is-stage i = record {
  running = None ∷ [];
  tasks = replicate 64 unknown_task;
  contexts = record {
    pinned = [];
    flexible = record { leader = (first-entry i).instance; siblings = map (instance_at world) (after_first (first-entry i).members) }
        ∷ record { leader = (second-entry i).instance; siblings = map (instance_at world) (after_first (second-entry i).members) } ∷ [];
  } ∷ replicate 71 no_groups;
  used = event 0 ∷ event 1 ∷ [];
  mapped = [];
  next_id = 3;
}

settled : IsSettled machine processor stage
unfolding machine key event processor instance stage settle settle_pass judge_pass judge fits fits_beside fits_below tight_set tight_after shortest_unfit unfit_after
settled = refl

first-on : standing_of machine stage processor (alone (instance 0)) ≡ standing.On
unfolding machine key event processor instance stage verdicts judge_passes judge_pass judge fits fits_beside fits_below tight_set tight_after shortest_unfit unfit_after
first-on = refl

second-refused : standing_of machine stage processor (alone (instance 1)) ≡ both_blamed
unfolding machine key event processor instance stage both_blamed verdicts judge_passes judge_pass judge fits fits_beside fits_below tight_set tight_after shortest_unfit unfit_after
second-refused = refl

one-seated : with_masks machine (seated machine stage processor) ≡ (event 0, 1) ∷ []
unfolding machine key event processor instance stage verdicts judge_passes judge_pass judge fits fits_beside fits_below tight_set tight_after shortest_unfit unfit_after
one-seated = refl

one-counter : IsAssignment (1 ∷ []) (0 ∷ [])
one-counter = record {
  one_each = refl;
  allowed = λ i low. let first : 0 ≡ i = omega (arith, low) in subst (λ n. IsTrue (can_count (slice_index (1 ∷ []) n) (slice_index (0 ∷ []) n))) first refl;
  different = λ i j before low. absurd (omega (arith, before, low));
}

-- the groups of the two, and where they stand
first-group : group_at world (key 0) ≡ alone (instance 0)
unfolding key entry
first-group = ap {B = Group} (λ e. record { leader = e.instance; siblings = map (instance_at world) (after_first e.members) }) first-entry

second-group : group_at world (key 1) ≡ alone (instance 1)
unfolding key entry
second-group = ap {B = Group} (λ e. record { leader = e.instance; siblings = map (instance_at world) (after_first e.members) }) second-entry

first-stands : standing_at world (key 0) ≡ standing.On
unfolding world key
first-stands =
    ap (λ o. unwrap_or o standing.Out) (get-there (insert empty 0 standing.On) 1 both_blamed 0 (λ e. omega (arith, e)) ∙ get-here empty 0 standing.On 0 refl)

second-stands : standing_at world (key 1) ≡ both_blamed
unfolding world key
second-stands = ap (λ o. unwrap_or o standing.Out) (get-here (insert empty 0 standing.On) 1 both_blamed 1 refl)

its_seats : Seated
its_seats = record { counters = 1; events = (event 0, 1) ∷ []; seats = 0 ∷ [] }

seats-are : seats_at world processor ≡ its_seats
unfolding world processor its_seats
seats-are = refl

-- as rescheduling leaves it
stands-rescheduled : IsRescheduled machine world processor
unfolding key machine its_seats processor
stands-rescheduled = record {
  settled = subst (IsSettled machine processor) (sym is-stage) settled;
  judged = record {
    standings = λ k lead there. elim (cases_eq k.0 0) [
      | inl e ↦ grind (arith, world, machine, processor, key-is, key, e, first-stands, is-stage, first-group, first-on)
      | inr not_first ↦ elim (cases_eq k.0 1) [
        | inl e ↦ grind (arith, world, machine, processor, key-is, key, e, second-stands, is-stage, second-group, second-refused)
        | inr not_second ↦ absurd (false≢true (sym (ap (λ b. b && is_key k (entry_at world k).leader) (no-other k not_first not_second)) ∙ lead))
      ]
    ];
    served = record {
      events = ap (λ s. s.events) seats-are ∙ sym ((λ i. with_masks machine (seated machine (is-stage i) processor)) ∙ one-seated);
      assigned = subst (λ s. IsAssignment (masks_of s.events) s.seats) (sym seats-are) one-counter;
    };
  };
}
