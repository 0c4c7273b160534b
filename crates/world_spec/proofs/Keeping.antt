-- What a world keeps, through changes of one instance, of one account, of a standing and of the quiet fields.
use Rattle.std.specs.Prelude.{◌≡◌, ℕ, ◌+◌, ◌^◌, ◌<◌, ◌==◌, true, false, List, length, Some, slice_index_or, slice_set, if◌then◌else◌}
use Rattle.std.proofs.{Common.{arith, refl, sym, ap, subst, ◌∙◌, inl, inr, get_or-set_other, get_or-set_same}, lemmas.Bool.{cases_eq, cases_lt}}
use Rattle.std.proofs.{lemmas.List.{length-map, length-set}, Math.Seq.{set_out}}
use Rattle.perf_base.specs.{Scripts.{IsKind}, declared.numbers.{CpuNo.{CpuNo}, Key.{Key}}, Contexts.{context_of}}
use Rattle.stage_spec.specs.{declared.instance.Instance.{Instance}, Checks.{has_unknown_sample}, Hardware.{Hardware, counters_of}, Limits.{HasShape}}
use Rattle.stage_spec.specs.{Opening.{is_used}, Reading.{is_error}, Stage.{Stage}}
use Rattle.stage_laws.specs.Sound.{AreRunning}
use Rattle.counter_match.specs.Seating.{Seated, IsSound}
use Rattle.world_spec.specs.{Value.{World, Entry, Quiet, no_totals, is_live, entry_at, instance_at, is_key}, StageOf.{stage_of, lists_at}}
use Rattle.world_spec.specs.Kept.{post_at, AreLinked, HaveCopies, AreSeated, AreGrouped, AreNumbered, AreApart, AreFitting, kinds_in, HaveTotals, AreSmallTotals, AreLawful, IsKept}
use Rattle.world_spec.specs.Changes.{remember, with_instance}
use Rattle.world_spec.specs.Laws.{OwnLaw, OwnKeptLaw, RingLaw, RingKeptLaw, StandingLaw, StandingKeptLaw, SeatsLaw, SeatsKeptLaw, LostLaw, LostKeptLaw}
use Rattle.world_spec.proofs.Tables.{KeepsPost, posts-same, keys-written, live-written, with_entry, entry-here, entry-there}
use Rattle.world_spec.proofs.Renaming.{instance-stage}

-- what holds at each entry after one was written
pub by_entry : (P : Entry → Type 0) (w : World) (k : Key) (e : Entry) (q : Key) → (q.0 ≡ k.0 → P e) → ((q.0 ≡ k.0 → ⊥) → P (entry_at w q)) → P (entry_at (with_entry w k e) q)
by_entry P w k e q here there = elim (cases_eq q.0 k.0) [
  | inl same ↦ subst P (sym (entry-here w k e q same)) (here same)
  | inr apart ↦ subst P (sym (entry-there w k e q apart)) (there apart)
]

-- a change of an instance that keeps its post, known sample bits, the context that its attribute names, and error to
-- leaders
pub instance-lawful : (f : Instance → Instance) → KeepsPost f → (w : World) (k : Key) → is_live w k ≡ true
    → (is_error (f (instance_at w k)).own ≡ true → is_key k (entry_at w k).leader ≡ true)
    → has_unknown_sample (f (instance_at w k)).attr ≡ has_unknown_sample (instance_at w k).attr
    → context_of (f (instance_at w k)).attr ≡ context_of (instance_at w k).attr → AreLawful w → AreLawful (with_instance f k w)
instance-lawful f keeps w k there error sample named h =
    let e : Entry = record (entry_at w k) { instance = f (instance_at w k) } in
    let live : (q : Key) → is_live (with_instance f k w) q ≡ true → is_live w q ≡ true = λ q alive. sym (live-written w k e there q) ∙ alive in
    let posts : post_at (with_instance f k w) ≡ post_at w = posts-same f keeps w k there in
    record {
      errors = λ q alive. by_entry (λ x. is_error x.instance.own ≡ true → is_key q x.leader ≡ true) w k e q
          (λ same failed. ap (λ n. (entry_at w k).leader.0 == n) same ∙ error failed) (λ apart. h.errors q (live q alive));
      samples = λ q alive. by_entry (λ x. has_unknown_sample x.instance.attr ≡ false) w k e q
          (λ same. sample ∙ h.samples k there) (λ apart. h.samples q (live q alive));
      kinds = λ q alive. subst (λ at. IsKind (length w.hardware.kind_pmus) (at q).kind) (sym posts) (h.kinds q (live q alive));
      used = λ q alive first.
          ap (λ at. is_used (stage_of w) (at q).event) posts ∙ h.used q (live q alive) (sym (ap (λ at. (at q).copy) posts) ∙ first);
      placed = λ q alive. by_entry (λ x. x.instance.copy ≡ false → x.context ≡ context_of x.instance.attr) w k e q
          (λ same first. h.placed k there (sym (ap (λ p. p.copy) (keeps true (entry_at w k))) ∙ first) ∙ sym named) (λ apart. h.placed q (live q alive));
    }

pub instance-kept : (f : Instance → Instance) → KeepsPost f → (hw : Hardware) (w : World) (k : Key) → is_live w k ≡ true
    → (is_error (f (instance_at w k)).own ≡ true → is_key k (entry_at w k).leader ≡ true)
    → has_unknown_sample (f (instance_at w k)).attr ≡ has_unknown_sample (instance_at w k).attr
    → context_of (f (instance_at w k)).attr ≡ context_of (instance_at w k).attr → IsKept hw w → IsKept hw (with_instance f k w)
instance-kept f keeps hw w k there error sample named h =
    let e : Entry = record (entry_at w k) { instance = f (instance_at w k) } in
    let posts : post_at w ≡ post_at (with_instance f k w) = sym (posts-same f keeps w k there) in
    record {
      tables = record {
        accounts = λ q. h.tables.accounts q ∙ sym (live-written w k e there q);
        standings = λ q. h.tables.standings q ∙ sym (live-written w k e there q);
        families = h.tables.families;
        folded = h.tables.folded;
        lost = h.tables.lost;
        clocks = h.tables.clocks;
        totals = h.tables.totals;
        seats = h.tables.seats;
      };
      shape = record {
        running = h.shape.running;
        tasks = h.shape.tasks;
        contexts = length-map w.contexts (lists_at (with_instance f k w)) ∙ (sym (length-map w.contexts (lists_at w)) ∙ h.shape.contexts);
      };
      running = record { live = h.running.live; once = h.running.once };
      linked = subst (λ at. AreLinked at w.contexts w.families) posts h.linked;
      copies = subst (λ at. HaveCopies at w.families) posts h.copies;
      grouped = subst AreGrouped posts h.grouped;
      numbered = subst (λ at. AreNumbered at w.quiet.next_id) posts h.numbered;
      apart = subst AreApart posts h.apart;
      fitting = subst (λ at. (q : Key) → AreFitting hw (kinds_in at q)) posts h.fitting;
      lawful = instance-lawful f keeps w k there error sample named h.lawful;
      seated = h.seated;
      small = record { counts = h.small.counts; times = h.small.times; ran = h.small.ran; folded_ran = h.small.folded_ran; clocks = h.small.clocks; totals = h.small.totals; lost = h.small.lost; ids = h.small.ids };
    }

-- a change of the quiet fields that leaves the slots used and the next id
pub quiet-kept : (hw : Hardware) (w : World) (quiet : Quiet) → quiet.used ≡ w.quiet.used → quiet.next_id ≡ w.quiet.next_id
    → HasShape hw (stage_of (record w { quiet = quiet })) → AreRunning (stage_of (record w { quiet = quiet }))
    → ((cpu : ℕ) → slice_index_or quiet.clocks cpu 0 < 2 ^ 63) → length quiet.clocks ≡ length quiet.running → length quiet.seats ≡ length quiet.running → AreSeated hw quiet.seats
    → HaveTotals (length quiet.running) quiet.totals → ((cpu : ℕ) → AreSmallTotals (slice_index_or quiet.totals cpu no_totals))
    → IsKept hw w → IsKept hw (record w { quiet = quiet })
quiet-kept hw w quiet used next shape running clocks many_clocks many_seats seated totals small h = grind arith

-- a number below a bound at each place of a list, after one was written
pub bounded-set : (xs : List ℕ) (i v bound : ℕ) → ((k : ℕ) → slice_index_or xs k 0 < bound) → v < bound → (k : ℕ) → slice_index_or (slice_set xs i v) k 0 < bound
bounded-set xs i v bound each low k = grind (arith, get_or-set_other, cases_lt, get_or-set_same, set_out)

-- the seats of a processor after they were written
seated-set : (hw : Hardware) (seats : List Seated) (cpu : CpuNo) (seated : Seated) → IsSound seated → seated.counters ≡ counters_of hw cpu → AreSeated hw seats
    → AreSeated hw (slice_set seats cpu.0 seated)
seated-set hw seats cpu seated sound counters h = grind (arith, length-set, get_or-set_same, get_or-set_other)

-- the laws of one instance
pub own-stage : OwnLaw
own-stage hw w k o h there = instance-stage (λ i. record i { own = o }) (λ live e. refl) w k h.numbered there

pub own-kept : OwnKeptLaw
own-kept hw w k o there error h = instance-kept (λ i. record i { own = o }) (λ live e. refl) hw w k there error refl refl h

-- the laws of quiet fields, standings and lost counts
pub standing-stage : StandingLaw
standing-stage w k s = refl

pub standing-kept : StandingKeptLaw
standing-kept hw w k s there h = record {
  tables = record {
    accounts = h.tables.accounts;
    standings = λ q. keys-written w.standings k.0 s (h.tables.standings k ∙ there) q.0 ∙ h.tables.standings q;
    families = h.tables.families;
    folded = h.tables.folded;
    lost = h.tables.lost;
    clocks = h.tables.clocks;
    totals = h.tables.totals;
    seats = h.tables.seats;
  };
  shape = record { running = h.shape.running; tasks = h.shape.tasks; contexts = h.shape.contexts };
  running = record { live = h.running.live; once = h.running.once };
  linked = h.linked;
  copies = h.copies;
  grouped = h.grouped;
  numbered = h.numbered;
  apart = h.apart;
  fitting = h.fitting;
  lawful = record { errors = h.lawful.errors; samples = h.lawful.samples; kinds = h.lawful.kinds; used = h.lawful.used; placed = h.lawful.placed };
  seated = h.seated;
  small = record { counts = h.small.counts; times = h.small.times; ran = h.small.ran; folded_ran = h.small.folded_ran; clocks = h.small.clocks; totals = h.small.totals; lost = h.small.lost; ids = h.small.ids };
}

pub seats-stage : SeatsLaw
seats-stage w cpu seated = refl

pub seats-kept : SeatsKeptLaw
seats-kept hw w cpu seated sound counters h =
    quiet-kept hw w (record w.quiet { seats = slice_set w.quiet.seats cpu.0 seated }) refl refl h.shape h.running h.small.clocks
    h.tables.clocks (length-set w.quiet.seats cpu.0 seated ∙ h.tables.seats) (seated-set hw w.quiet.seats cpu seated sound counters h.seated)
    h.tables.totals h.small.totals h

pub lost-stage : LostLaw
lost-stage w k = refl

pub lost-kept : LostKeptLaw
lost-kept hw w k low h =
    let slot : ℕ = (instance_at w k).event.0 in
    let more : ℕ = slice_index_or w.lost slot 0 + 1 in
    grind (arith, length-set, slot, more, bounded-set)

pub ring-stage : RingLaw
ring-stage hw w k ring owner h there =
    ap {A = Stage} (λ s. record s { mapped = if owner then remember ring s.mapped else s.mapped })
    (instance-stage (λ i. record i { ring = Some ring; mapped = owner }) (λ live e. refl) w k h.numbered there)

pub ring-kept : RingKeptLaw
ring-kept hw w k ring owner there h =
    let f : Instance → Instance = λ i. record i { ring = Some ring; mapped = owner } in
    let t : World = with_instance f k w in
    let kept : IsKept hw t = instance-kept f (λ live e. refl) hw w k there (h.lawful.errors k there) refl refl h in
    grind (arith, quiet-kept, t, kept)
