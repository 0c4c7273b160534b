-- The records of the overflows that a stretch of work gives are those of the definitions, and what is left once they
-- were sent.
use Rattle.std.specs.Prelude.{◌≡◌, ℕ, ◌+◌, ◌==◌, ◌&&◌, ◌<◌, ◌≤◌, Bool, true, false, cond, List, [], ◌∷◌, ◌++◌, length, map, filter, flat_map, slice_index_or, Option, Some, None}
use Rattle.std.proofs.{Common.{arith, refl, sym, ap, subst, ◌∙◌}, lemmas.{Bool.{not-false}, List.{get_or-set_same}}}
use Rattle.perf_base.specs.declared.{lines.Work.{Work}, numbers.{CpuNo.{CpuNo}, EventNo.{EventNo}, Key.{Key}, RingNo.{RingNo}}}
use Rattle.perf_base.specs.declared.lines.CpuLine.TheVariants as cpu_line
use Rattle.stage_spec.specs.{declared.instance.Instance.{Instance}, History.{CpuStep}, Occurrences.{overflows}, Shares.{work_hits}}
use Rattle.stage_spec.specs.{Stage.{original_of}, Verdict.{on_instances}}
use Rattle.ring_spec.specs.{Running.{RingAccount, ring_after, losses_on, more_lost}, Sending.{SentSample, to_ring, sent_by_family, overflows_by}}
use Rattle.sample_ring.specs.RingLists.{RingList, OutList}
use Rattle.world_spec.specs.{Value.{World, is_live, instance_at, account_at, is_key, times}, StageOf.{stage_of}, Kept.{IsKept}, Metering.{IsWorked}}
use Rattle.world_spec.{specs.{Rescheduled.{IsJudged}, Working.{is_on, keys_by_pass}}, proofs.{Along.{keys-live, on-keys, chosen-some}}}
use Rattle.world_spec.proofs.Keys.{is_key-same, times-cons, once-true}
use Rattle.work_account.specs.declared.{overflowing.Overflow.{Overflow}, samples.Stretch.{Stretch}}
use Rattle.work_account.specs.Ends.{Ends, AreTogether, HaveAccounts, HaveSpace, send_all}
use Rattle.work_account.specs.Sampling.{AreLeft, HasInstance, HaveRings, HaveSpaceToSend, ends_of, sent_by, sents_of, sents_all}
use Rattle.work_account.{specs.Visits.{samples, takes, hit_at, hits_among, overflow_of}, proofs.Accounts.{accounts-after, lost-after}}
use Rattle.work_account.proofs.{Sequences.{together-after}, Shared.{is-zero}}
use Rattle.ring_spec.proofs.Sizes.{AreSized, work-sized}
use Rattle.work_account.specs.declared.happening.Happening.TheVariants as happening
use Rattle.ring_spec.proofs.Overflowing.{none_by}

-- without a period there is no overflow, and no overflow sends nothing
nothing-to : (o : Option RingNo) (sent : SentSample) → to_ring o 0 sent ≡ []
nothing-to None sent = refl
nothing-to (Some ring) sent = refl

period-zero : (i : Instance) → samples i ≡ false → i.attr.period ≡ 0
period-zero i off = is-zero i.attr.period (not-false (i.attr.period == 0) off)

module _ (w : World) (cpu : CpuNo) (work : Work) (clock : ℕ) (left : ℕ → ℕ) where
  abbrev line : Stretch
  line = record { cpu = cpu; work = work; clock = clock }

  abbrev sends : ℕ → Instance → List (RingNo × SentSample)
  sends n i = sent_by_family (original_of (stage_of w) i.event) (stage_of w) cpu work clock n i

  abbrev of_instance : Instance → List (RingNo × SentSample)
  of_instance i = sends (overflows_by work (left i.id) i) i

  -- the overflow of a key that is hit
  abbrev over : Key → Overflow
  over k = record { key = k; count = overflows (work_hits work (instance_at w k)) (instance_at w k).attr.period (account_at w k).left }

  nothing-sent : (o : Option Instance) (i : Instance) → sent_by_family o (stage_of w) cpu work clock 0 i ≡ []
  nothing-sent None i = refl
  nothing-sent (Some original) i = nothing-to original.ring _

  on-sends : (k : Key) → left (instance_at w k).id ≡ (account_at w k).left → sents_of w line (over k) ≡ of_instance (instance_at w k)
  on-sends k same =
      let i : Instance = instance_at w k in
      ap (λ (m : ℕ). sends (overflows (work_hits work i) i.attr.period m) i) (sym same)

  none-sends : (i : Instance) → samples i ≡ false → of_instance i ≡ []
  none-sends i off =
      ap (λ (n : ℕ). sends n i) (ap (λ (p : ℕ). overflows (work_hits work i) p (left i.id)) (period-zero i off) ∙ none_by (work_hits work i) (left i.id))
      ∙ nothing-sent (original_of (stage_of w) i.event) i

  all-sends : AreLeft w left → (keys : List Key) → ((k : Key) → 1 ≤ times k keys → is_live w k ≡ true)
      → sents_all w line (map over (filter (takes (happening.Work work) w) keys)) ≡ flat_map of_instance (map (instance_at w) (filter (is_on w) keys))
  all-sends are [] lives = refl
  all-sends are (k ∷ keys) lives =
      one (samples (instance_at w k)) (is_on w k) refl
      (are k (lives k (omega (arith, times-cons k k keys, once-true (is_key k k) (is_key-same k k refl)))))
      (all-sends are keys (λ j some. lives j (omega (arith, some, times-cons j k keys))))
    where
      one : (s on : Bool) → samples (instance_at w k) ≡ s → left (instance_at w k).id ≡ (account_at w k).left
          → sents_all w line (map over (filter (takes (happening.Work work) w) keys)) ≡ flat_map of_instance (map (instance_at w) (filter (is_on w) keys))
          → sents_all w line (map over (cond (s && on) (k ∷ filter (takes (happening.Work work) w) keys) (filter (takes (happening.Work work) w) keys)))
          ≡ flat_map of_instance (map (instance_at w) (cond on (k ∷ filter (is_on w) keys) (filter (is_on w) keys)))
      one true true is same rest =
          ap (λ (l : List (RingNo × SentSample)). sents_of w line (over k) ++ l) rest
          ∙ ap (λ (l : List (RingNo × SentSample)). l ++ flat_map of_instance (map (instance_at w) (filter (is_on w) keys))) (on-sends k same)
      one true false is same rest = rest
      one false true is same rest =
          rest ∙ ap (λ (l : List (RingNo × SentSample)). l ++ flat_map of_instance (map (instance_at w) (filter (is_on w) keys))) (sym (none-sends (instance_at w k) is))
      one false false is same rest = rest

-- A world that was worked on; the overflows that its instances then have; and the clock that was read then.
pub record Timed (w worked : World) (cpu : CpuNo) (work : Work) (found : List Overflow) (clock : ℕ) : Type 0 where
  pub kept : IsKept w.hardware w
  pub cpu_there : cpu.0 < length w.quiet.running
  pub work_done : IsWorked w worked cpu work
  pub overflows : found ≡ map (overflow_of worked) (hits_among (happening.Work work) w (keys_by_pass w cpu))
  pub read : clock ≡ slice_index_or worked.quiet.clocks cpu.0 0

module _ (w worked : World) (cpu : CpuNo) (work : Work) (found : List Overflow) (clock : ℕ) (t : Timed w worked cpu work found clock) where
  lives : (k : Key) → 1 ≤ times k (keys_by_pass w cpu) → is_live w k ≡ true
  lives = keys-live w.hardware w cpu t.kept

  abbrev taken : List Key
  taken = filter (takes (happening.Work work) w) (keys_by_pass w cpu)

  taken-live : (k : Key) → 1 ≤ times k taken → is_live w k ≡ true
  taken-live k some = lives k (chosen-some (takes (happening.Work work) w) (keys_by_pass w cpu) k some)

  overs : (n : ℕ) (left : ℕ → ℕ) (keys : List Key) → ((k : Key) → 1 ≤ times k keys → is_live w k ≡ true)
      → map (overflow_of worked) (map (hit_at (happening.Work work) w) keys) ≡ map (over w cpu work n left) keys
  overs n left [] lives = refl
  overs n left (k ∷ keys) lives =
      let i : Instance = instance_at w k in
      let live : is_live w k ≡ true = lives k (omega (arith, times-cons k k keys, once-true (is_key k k) (is_key-same k k refl))) in
      let period : (instance_at worked k).attr.period ≡ i.attr.period = ap (λ (v : World). (instance_at v k).attr.period) t.work_done.rest in
      let here : overflow_of worked (hit_at (happening.Work work) w k) ≡ over w cpu work n left k =
      (λ j. record { key = k; count = overflows (work_hits work i) (period j) (t.work_done.accounts k live j).left }) in
      let rest : map (overflow_of worked) (map (hit_at (happening.Work work) w) keys) ≡ map (over w cpu work n left) keys =
      overs n left keys (λ q some. lives q (omega (arith, some, times-cons q k keys))) in
      λ j. here j ∷ rest j

  found-are : (n : ℕ) (left : ℕ → ℕ) → found ≡ map (over w cpu work n left) taken
  found-are n left = t.overflows ∙ overs n left taken taken-live

  clock-is : clock ≡ slice_index_or w.quiet.clocks cpu.0 0 + work.length
  clock-is =
      t.read
      ∙ (ap (λ (v : World). slice_index_or v.quiet.clocks cpu.0 0) t.work_done.rest
      ∙ get_or-set_same w.quiet.clocks cpu.0 (slice_index_or w.quiet.clocks cpu.0 0 + work.length) 0 (omega (arith, t.cpu_there, t.kept.tables.clocks)))

  pub sents-are : IsJudged w.hardware w cpu → (left : ℕ → ℕ) → AreLeft w left
      → sents_all worked (record { cpu = cpu; work = work; clock = clock }) found ≡ sent_by w left cpu work
  sents-are judged left are =
      let n : ℕ = slice_index_or w.quiet.clocks cpu.0 0 + work.length in
      ap (λ (v : World). sents_all v (record { cpu = cpu; work = work; clock = clock }) found) t.work_done.rest
      ∙ (ap (λ (c : ℕ). sents_all w (record { cpu = cpu; work = work; clock = c }) found) clock-is
      ∙ (ap (sents_all w (record { cpu = cpu; work = work; clock = n })) (found-are n left)
      ∙ (all-sends w cpu work n left are (keys_by_pass w cpu) lives
      ∙ ap (flat_map (of_instance w cpu work n left)) (sym (on-keys w.hardware w cpu t.kept judged)))))

  pub ends-same : (outs : OutList) → ends_of outs worked ≡ ends_of outs w
  ends-same outs = ap (ends_of outs) t.work_done.rest

  pub rings-there : (numbers : List RingNo) → HaveRings w numbers → HaveRings worked numbers
  rings-there numbers h = subst (λ (v : World). HaveRings v numbers) (sym t.work_done.rest) h

  pub space-there : (outs : OutList) → IsJudged w.hardware w cpu → HaveSpaceToSend w (ends_of outs w) cpu work
      → HaveSpace (HasInstance worked) (length (sents_all worked (record { cpu = cpu; work = work; clock = clock }) found)) (ends_of outs worked)
  space-there outs judged h =
      subst (λ (v : World). HaveSpace (HasInstance v) (length (sents_all worked (record { cpu = cpu; work = work; clock = clock }) found)) (ends_of outs v)) (sym t.work_done.rest)
      (subst (λ (l : List (RingNo × SentSample)). HaveSpace (HasInstance w) (length l) (ends_of outs w)) (sym (sents-are judged h.left h.are_left)) h.space)

  pub ends-are : (before outs : OutList) (new : World) → IsJudged w.hardware w cpu → (left : ℕ → ℕ) → AreLeft w left
      → ends_of outs new ≡ send_all (ends_of before worked) (sents_all worked (record { cpu = cpu; work = work; clock = clock }) found)
      → ends_of outs new ≡ send_all (ends_of before w) (sent_by w left cpu work)
  ends-are before outs new judged left are is =
      is ∙ (ap (λ (x : Ends). send_all x (sents_all worked (record { cpu = cpu; work = work; clock = clock }) found)) (ends-same before)
      ∙ ap (send_all (ends_of before w)) (sents-are judged left are))

pub together-are : (rings : RingList) (w new : World) (cpu : CpuNo) (work : Work) (left : ℕ → ℕ) (before outs : OutList)
    → ends_of outs new ≡ send_all (ends_of before w) (sent_by w left cpu work) → AreTogether rings before → AreTogether rings outs
together-are rings w new cpu work left before outs is h =
    subst (λ (x : Ends). AreTogether rings x.outs) (sym is) (together-after rings (sent_by w left cpu work) (ends_of before w) h)

-- the accounts of the ends, and the counts, after that
sized : (w : World) (left : ℕ → ℕ) (cpu : CpuNo) (work : Work) → AreSized (sent_by w left cpu work)
sized w left cpu work = work-sized (stage_of w) left (slice_index_or w.quiet.clocks cpu.0 0 + work.length) cpu work (on_instances w.hardware (stage_of w) cpu)

module _ (w new : World) (cpu : CpuNo) (work : Work) (left : ℕ → ℕ) (before outs : OutList) (accounts : List RingAccount)
    (is : ends_of outs new ≡ send_all (ends_of before w) (sent_by w left cpu work)) (h : HaveAccounts before accounts) where
  pub accounts-are : HaveAccounts outs (map (ring_after (CpuStep cpu (cpu_line.Work work)) (sent_by w left cpu work)) accounts)
  accounts-are =
      subst (λ (x : Ends). HaveAccounts x.outs (map (ring_after (CpuStep cpu (cpu_line.Work work)) (sent_by w left cpu work)) accounts)) (sym is)
      (accounts-after cpu (cpu_line.Work work) (sent_by w left cpu work) (ends_of before w) accounts (sized w left cpu work) h)

  pub lost-are : IsKept w.hardware w → (e : EventNo) → e.0 < 256
      → slice_index_or new.lost e.0 0 ≡ more_lost (λ f. slice_index_or w.lost f.0 0) (flat_map (losses_on (CpuStep cpu (cpu_line.Work work)) (sent_by w left cpu work)) accounts) e
  lost-are kept e low =
      ap (λ (x : Ends). slice_index_or x.lost e.0 0) is
      ∙ lost-after cpu (cpu_line.Work work) (sent_by w left cpu work) (ends_of before w) accounts (sized w left cpu work) h e (omega (arith, low, kept.tables.lost))
