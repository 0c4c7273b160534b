-- A stretch of work.
use Rattle.std.specs.Prelude.{◌≡◌, ℕ, ◌+◌, ◌<◌, ◌==◌, Bool, true, false, List, [], ◌∷◌, flat_map, map, length, slice_index_or, slice_set, if◌then◌else◌}
use Rattle.std.proofs.{Common.{arith, refl, sym, ap, subst, ◌∙◌}, lemmas.Bool.{Decides.{nat_tests}}}
use Rattle.std.proofs.lemmas.List.{get_or-set_same, get_or-set_other}
use Rattle.perf_base.specs.declared.{lines.Work.{Work}, numbers.{CpuNo.{CpuNo}, EventNo.{EventNo}, Key.{Key}, RingNo.{RingNo}}}
use Rattle.perf_base.specs.declared.lines.CpuLine.TheVariants as line
use Rattle.perf_base.specs.declared.reply.Reply.TheVariants as reply
use Rattle.stage_spec.specs.{Hardware.{Hardware}, History.{Step, CpuStep, stage_step}}
use Rattle.stage_spec.{specs.{Settle.{settle_all}}, proofs.Recurrence.{plus-none}}
use Rattle.ring_spec.specs.{Running.{Running, RingAccount, losses_on, more_lost, ring_after}}
use Rattle.ring_spec.specs.Sending.{SentSample, sent_at, sent_by_step}
use Rattle.world_spec.specs.{Kept.{IsKept}, Metering.{metered}, Rescheduled.{IsRescheduled}, StageOf.{stage_of}}
use Rattle.world_spec.specs.{Value.{World, is_live}, Shares.{HaveShares, work_shares}}
use Rattle.world_spec.{specs.{Stepping.{HasStepped, HasItsShare}, Agreement.{AgreesWith}}, proofs.Stepping.{stepped-losing, instance-found}}
use Rattle.sample_ring.specs.{OutEnds.{OutEnd}, RingLists.{OutList}, Sends.{Request, fits, lost_to, request_of, sent_to, written_to}}
use Rattle.work_account.specs.{Ends.{Ends, HaveAccounts, send_all, send_next, sent_among}, Sampling.{AreLeft, ends_of, sent_by}}
use Rattle.machine.{specs.Stepped.{IsReady, IsDoneWith, seen_of}, proofs.Asking.{settled-below}}

-- What is told of a stretch of work, but for the records that it loses: the worlds before and after it.
pub record Course (w x : World) (cpu : CpuNo) (work : Work) : Type 0 where
  pub kept : IsKept w.hardware w
  pub ready : IsReady w
  pub low : cpu.0 < length w.quiet.running
  pub shares : HaveShares w x (work_shares w cpu work)
  pub stage : stage_of x ≡ stage_of w
  pub rest : x ≡ record w { accounts = x.accounts; quiet = metered cpu work w.quiet }

-- What is told of it with them: the ends before and after it, too.
pub record Sending (w x : World) (cpu : CpuNo) (work : Work) (outs sent : OutList) : Type 0 where
  pub kept : IsKept w.hardware w
  pub ready : IsReady w
  pub low : cpu.0 < length w.quiet.running
  pub shares : HaveShares w x (work_shares w cpu work)
  pub stage : stage_of x ≡ stage_of w
  pub rest : x ≡ record w { accounts = x.accounts; lost = x.lost; quiet = metered cpu work w.quiet }
  pub rescheduled : (other : CpuNo) → IsRescheduled w.hardware w other → IsRescheduled w.hardware x other
  pub kept_then : IsKept x.hardware x
  pub ends : (left : ℕ → ℕ) (accounts : List RingAccount) → AreLeft w left → HaveAccounts outs accounts
      → HaveAccounts sent (map (ring_after (CpuStep cpu (line.Work work)) (sent_by w left cpu work)) accounts)
  pub lost : (left : ℕ → ℕ) (accounts : List RingAccount) → AreLeft w left → HaveAccounts outs accounts → (e : EventNo) → e.0 < 256
      → slice_index_or x.lost e.0 0
      ≡ more_lost (λ f. slice_index_or w.lost f.0 0) (flat_map (losses_on (CpuStep cpu (line.Work work)) (sent_by w left cpu work)) accounts) e

work-stage : (w : World) (cpu : CpuNo) (work : Work) → IsReady w → stage_of w ≡ stage_step w.hardware (stage_of w) (CpuStep cpu (line.Work work))
unfolding stage_step settle_all
work-stage w cpu work h = sym (settled-below w.hardware (length w.quiet.running) (stage_of w) (λ own low. (h.rescheduled own low).settled))

clock-by : (clocks : List ℕ) (cpu other : CpuNo) (n : ℕ) → cpu.0 < length clocks
    → slice_index_or (slice_set clocks cpu.0 (slice_index_or clocks cpu.0 0 + n)) other.0 0 ≡ slice_index_or clocks other.0 0 + (if cpu.0 == other.0 then n else 0)
clock-by clocks cpu other n low = grind (arith, nat_tests, get_or-set_same, get_or-set_other)

work-share : (w x : World) (cpu : CpuNo) (work : Work) (k : Key) → Course w x cpu work → is_live x k ≡ true → HasItsShare w.hardware w x (CpuStep cpu (line.Work work)) k
work-share w x cpu work k c live_then = grind (arith, nat_tests, instance-found)

work-stepped : (w x : World) (cpu : CpuNo) (work : Work) → Course w x cpu work → HasStepped w.hardware w x (CpuStep cpu (line.Work work))
work-stepped w x cpu work c = grind (arith, nat_tests, work-stage, work-share, plus-none, clock-by)

-- the world but for the counts of records lost
but-lost : (w x : World) (cpu : CpuNo) (work : Work) (outs sent : OutList) → Sending w x cpu work outs sent → Course w (record x { lost = w.lost }) cpu work
but-lost w x cpu work outs sent c = record {
  kept = c.kept;
  ready = c.ready;
  low = c.low;
  shares = record { accounts = c.shares.accounts; keys = c.shares.keys };
  stage = c.stage;
  rest = ap {A = World} {B = World} (λ y. record y { lost = w.lost }) c.rest;
}

-- the records that the line sends are the definitions'
sents-are : (w : World) (by : Running) (cpu : CpuNo) (work : Work) → AgreesWith w by
    → sent_by w by.left cpu work ≡ sent_by_step w.hardware by.stage by.left by.clock (CpuStep cpu (line.Work work))
sents-are w by cpu work agrees = λ i. sent_at w.hardware (sym agrees.stage i) by.left (sym (agrees.clock cpu) i + work.length) cpu work

pub work-done : (w x : World) (cpu : CpuNo) (work : Work) (outs sent : OutList) → Sending w x cpu work outs sent
    → IsDoneWith (CpuStep cpu (line.Work work)) w x outs sent reply.Ok
work-done w x cpu work outs sent c by agrees accounts =
    let step : Step = CpuStep cpu (line.Work work) in
    let are : sent_by w by.left cpu work ≡ sent_by_step w.hardware by.stage by.left by.clock step = sents-are w by cpu work agrees in
    record {
      done = record {
        answer = refl;
        agrees = stepped-losing w.hardware w x by step c.kept (subst (λ (hw : Hardware). IsKept hw x) (ap (λ (y : World). y.hardware) c.rest) c.kept_then) agrees (record {
          stepped = work-stepped w (record x { lost = w.lost }) cpu work (but-lost w x cpu work outs sent c);
          lost = λ e low. c.lost by.left by.rings agrees.left accounts e low
              ∙ ap (λ sents. more_lost (λ f. slice_index_or w.lost f.0 0) (flat_map (losses_on step sents) by.rings) e) are;
        });
      };
      ends = subst (λ sents. HaveAccounts sent (map (ring_after step sents) by.rings)) are (c.ends by.left by.rings agrees.left accounts);
    }

pub work-ready : (w x : World) (cpu : CpuNo) (work : Work) (outs sent : OutList) → Sending w x cpu work outs sent → IsReady x
work-ready w x cpu work outs sent c = grind (arith, nat_tests)

-- no end that sends looks at its reader
abbrev knows : OutEnd → ℕ × ℕ
knows o = (o.producer.last_tail, o.producer.loads)

still-one : (o : OutEnd) (q : Request) (b : Bool) → knows (elim b as (λ _. OutEnd) [ true ↦ written_to o q | false ↦ lost_to o ]) ≡ knows o
still-one o q true = refl
still-one o q false = refl

still-among : (numbers : List RingNo) (outs : List OutEnd) (ring : RingNo) (q : Request) → map knows (sent_among numbers outs ring q) ≡ map knows outs
still-among [] outs ring q = refl
still-among (n ∷ numbers) [] ring q = refl
still-among (n ∷ numbers) (o ∷ outs) ring q = here (n.0 == ring.0) (still-among numbers outs ring q)
  where
    here : (b : Bool) → map knows (sent_among numbers outs ring q) ≡ map knows outs
        → map knows (if b then sent_to o q ∷ outs else o ∷ sent_among numbers outs ring q) ≡ knows o ∷ map knows outs
    here true rest = ap (λ k. k ∷ map knows outs) (still-one o q (fits o q))
    here false rest = ap (λ l. knows o ∷ l) rest

still-after : (sents : List (RingNo × SentSample)) (x : Ends) → seen_of (send_all x sents).outs ≡ seen_of x.outs
unfolding send_all
still-after [] x = refl
still-after (s ∷ sents) x = still-after sents (send_next x s) ∙ still-among x.outs.numbers x.outs.outs s.0 (request_of s.1)

pub work-seen : (w x : World) (cpu : CpuNo) (work : Work) (outs sent : OutList) (left : ℕ → ℕ)
    → ends_of sent x ≡ send_all (ends_of outs w) (sent_by w left cpu work) → seen_of sent ≡ seen_of outs
work-seen w x cpu work outs sent left is = ap (λ (e : Ends). seen_of e.outs) is ∙ still-after (sent_by w left cpu work) (ends_of outs w)
