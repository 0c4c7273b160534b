-- The first world is kept, and stands for the first stage.
use Rattle.std.specs.Prelude.{◌≡◌, ℕ, ◌^◌, ◌<◌, ◌≤◌, ◌==◌, true, false, not, List, length, map, is_some, Option, None, slice_index, slice_index_or, replicate}
use Rattle.std.specs.{FinMap.{get-empty}, List.{AllPairs}, Option.{unwrap_or}, Ordering.{nat_cmp}}
use Rattle.std.proofs.{Common.{arith, refl, sym, ap, subst, ◌∙◌}, lemmas.Bool.{cases_lt, false≢true}}
use Rattle.std.proofs.lemmas.List.{length-map, length-replicate, get_or-replicate, get_or-map, get_or_past, Elements.{All-get_or}}
use Rattle.std.proofs.lemmas.List.Folds.{sum_by-replicate}
use Rattle.perf_base.specs.declared.numbers.{CpuNo.{CpuNo}, Key.{Key}, TaskNo.{TaskNo}}
use Rattle.stage_spec.specs.{Families.{plus}, Hardware.{Hardware, IsHardware, IsPmu}, Shares.{no_sums}, Stage.{first_stage}}
use Rattle.stage_laws.proofs.RunningTasks.{running_first}
use Rattle.counter_match.specs.Seating.{Seated, empty_seating}
use Rattle.world_spec.specs.Value.{World, Totals, no_entry, no_account, no_family, no_leaders, no_totals, is_live, entry_at, instance_at, account_at, is_key, times}
use Rattle.world_spec.specs.StageOf.{lists_at}
use Rattle.world_spec.specs.Kept.{post_at, in_option, is_original_in, is_copy_in, is_member_of, leads_in, keys_of, plus_keys, family_sums, AreFitting, AreSeated, AreSmallTotals}
use Rattle.world_spec.{specs.First.{first_world, FirstStageLaw, FirstKeptLaw}, proofs.{Keys.{once-false}, Moving.{leads-parts}}}
use Rattle.world_spec.proofs.{ComingLinks.{none_of_two, none_of_three}, ComingGroups.{dead_leads}, Gone.{nothing-fits}}

pub first-stage : FirstStageLaw
unfolding first_stage
first-stage hw declared = refl

-- no key names anything
pub none-live : (hw : Hardware) (declared : List TaskNo) (k : Key) → is_live (first_world hw declared) k ≡ false
none-live hw declared k = ap is_some (get-empty nat_cmp k.0)

no-entry : (hw : Hardware) (declared : List TaskNo) (k : Key) → entry_at (first_world hw declared) k ≡ no_entry
no-entry hw declared k = ap (λ o. unwrap_or o no_entry) (get-empty nat_cmp k.0)

no-account : (hw : Hardware) (declared : List TaskNo) (k : Key) → account_at (first_world hw declared) k ≡ no_account
no-account hw declared k = ap (λ o. unwrap_or o no_account) (get-empty nat_cmp k.0)

-- what a list of one thing has at each place
pub replicated : {X : Type 0} (n p : ℕ) (x : X) → slice_index_or (replicate n x) p x ≡ x
replicated n p x = grind (arith, cases_lt, get_or-replicate, get_or_past, length-replicate)

-- the counters
seats-sound : (hw : Hardware) → IsHardware hw → AreSeated hw (map (λ pmu. empty_seating (slice_index hw.counters pmu)) hw.cpu_pmus)
seats-sound hw h =
    let f : ℕ → Seated = λ pmu. empty_seating (slice_index hw.counters pmu) in
    let size : length (map f hw.cpu_pmus) ≡ length hw.cpu_pmus = length-map hw.cpu_pmus f in
    let here : (cpu : CpuNo) → cpu.0 < length (map f hw.cpu_pmus) → slice_index_or (map f hw.cpu_pmus) cpu.0 (empty_seating 0) ≡ f (slice_index hw.cpu_pmus cpu.0) =
    λ cpu low. get_or-map f hw.cpu_pmus cpu.0 0 (empty_seating 0) (omega (arith, low, size)) in
    let pmu : (cpu : CpuNo) → cpu.0 < length (map f hw.cpu_pmus) → IsPmu hw.counters (slice_index hw.cpu_pmus cpu.0) = grind (arith, All-get_or) in
    grind (arith, here, pmu)

pub first-kept : FirstKeptLaw
unfolding first_stage
first-kept hw declared hardware =
    let w : World = first_world hw declared in
    let n : ℕ = length hw.cpu_pmus in
    let dead : (k : Key) → is_live w k ≡ false = none-live hw declared in
    let clash : (k : Key) → is_live w k ≡ true → ⊥ = λ k live. false≢true (sym (dead k) ∙ live) in
    let no_sum : (slot : ℕ) → family_sums w slot ≡ no_sums =
    λ slot i. plus (plus_keys (λ q. (account_at w q).sums) (keys_of (replicated 256 slot no_family i))) (replicated 256 slot no_sums i) in
    record {
      tables = record {
        accounts = λ k. ap is_some (get-empty nat_cmp k.0) ∙ sym (dead k);
        standings = λ k. ap is_some (get-empty nat_cmp k.0) ∙ sym (dead k);
        families = length-replicate 256 no_family;
        folded = length-replicate 256 no_sums;
        lost = length-replicate {A = ℕ} 256 0;
        clocks = length-replicate {A = ℕ} n 0 ∙ sym (length-replicate {A = Option TaskNo} n None);
        totals = record {
          size = length-replicate {A = Totals} n no_totals ∙ sym (length-replicate {A = Option TaskNo} n None);
          user = λ cpu. ap (λ t. length t.user) (replicated n cpu no_totals) ∙ length-replicate {A = ℕ} 16 0;
          kernel = λ cpu. ap (λ t. length t.kernel) (replicated n cpu no_totals) ∙ length-replicate {A = ℕ} 16 0;
        };
        seats = length-map hw.cpu_pmus (λ pmu. empty_seating (slice_index hw.counters pmu)) ∙ sym (length-replicate {A = Option TaskNo} n None);
      };
      shape = record { running = length-replicate {A = Option TaskNo} n None; tasks = refl; contexts = length-map w.contexts (lists_at w) ∙ length-replicate 72 no_leaders };
      running = record { live = (running_first n declared).live; once = (running_first n declared).once };
      linked = record {
        originals = λ k slot. ap (λ f. times k (in_option f.original)) (replicated 256 slot no_family)
            ∙ sym (once-false (is_original_in (post_at w) slot k) (none_of_three (is_live w k) ((instance_at w k).event.0 == slot) (not (instance_at w k).copy) (dead k)));
        copies = λ k slot. ap (λ f. times k f.copies) (replicated 256 slot no_family)
            ∙ sym (once-false (is_copy_in (post_at w) slot k) (none_of_three (is_live w k) ((instance_at w k).event.0 == slot) (instance_at w k).copy (dead k)));
        members = λ k leader. ap (λ e. times k e.members) (no-entry hw declared leader)
            ∙ sym (once-false (is_member_of (post_at w) leader k) (none_of_two (is_live w k) (is_key leader (entry_at w k).leader) (dead k)));
        pinned = λ k place. ap (λ l. times k l.pinned) (replicated 72 place no_leaders) ∙ sym (once-false (leads_in (post_at w) place true k) (dead_leads (post_at w) place true k (dead k)));
        flexible = λ k place. ap (λ l. times k l.flexible) (replicated 72 place no_leaders) ∙ sym (once-false (leads_in (post_at w) place false k) (dead_leads (post_at w) place false k (dead k)));
      };
      copies = record {
        rising = λ slot. subst (λ f. AllPairs (λ j k. (instance_at w j).id < (instance_at w k).id) f.copies) (sym (replicated 256 slot no_family)) (λ i j d before below. absurd (omega (arith, below)));
        few = omega (arith, sum_by-replicate (λ f. length f.copies) 256 no_family);
      };
      grouped = record {
        led = λ k live. absurd (clash k live);
        together = λ k live. absurd (clash k live);
        leader_first = λ k lead. absurd (clash k (leads-parts (is_live w k) (is_key k (entry_at w k).leader) lead).0);
        small = λ k. subst (λ e. length e.members ≤ 8) (sym (no-entry hw declared k)) (omega arith);
      };
      numbered = record {
        first = omega arith;
        drawn = λ k live. absurd (clash k live);
        once = λ j k live there same. absurd (clash j live);
        slots = λ k live. absurd (clash k live);
        places = λ k live. absurd (clash k live);
      };
      apart = record {
        one_each = λ j k live there slot place. absurd (clash j live);
        copies = λ k live copy. absurd (clash k live);
        original = λ k live copy. absurd (clash k live);
      };
      fitting = λ k. subst (λ e. AreFitting hw (map (λ q. (instance_at w q).attr.kind) e.members)) (sym (no-entry hw declared k)) (nothing-fits hw);
      lawful = record {
        errors = λ k live error. absurd (clash k live);
        samples = λ k live. absurd (clash k live);
        kinds = λ k live. absurd (clash k live);
        used = λ k live first. absurd (clash k live);
        placed = λ k live first. absurd (clash k live);
      };
      seated = seats-sound hw hardware;
      small = record {
        counts = λ slot. subst (λ s. s.count < 2 ^ 63) (sym (no_sum slot)) (omega arith);
        times = λ slot. subst (λ s. s.enabled < 2 ^ 63) (sym (no_sum slot)) (omega arith);
        ran = λ k. subst (λ a. a.sums.running ≤ a.sums.enabled) (sym (no-account hw declared k)) (omega arith);
        folded_ran = λ slot. subst (λ s. s.running ≤ s.enabled) (sym (replicated 256 slot no_sums)) (omega arith);
        clocks = λ cpu. subst (λ m. m < 2 ^ 63) (sym (replicated n cpu 0)) (omega arith);
        totals = λ cpu. subst AreSmallTotals (sym (replicated n cpu no_totals)) (record {
          user = λ number. subst (λ m. m < 2 ^ 63) (sym (replicated 16 number 0)) (omega arith);
          kernel = λ number. subst (λ m. m < 2 ^ 63) (sym (replicated 16 number 0)) (omega arith);
        });
        lost = λ slot. subst (λ m. m < 2 ^ 63) (sym (replicated 256 slot 0)) (omega arith);
        ids = omega arith;
      };
    }
