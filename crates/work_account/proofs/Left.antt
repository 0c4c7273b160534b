-- What is left as it was where accounts, clocks, totals and counts of lost records alone change.
use Rattle.std.{specs.{Prelude.{◌≡◌, ℕ, List}, FinMap.{FinMap}, Ordering.{nat_cmp}}, proofs.Common.{sym, ap, subst, ◌∙◌}}
use Rattle.perf_base.specs.declared.{lines.Work.{Work}, numbers.CpuNo.{CpuNo}, reply.Sums.{Sums}}
use Rattle.stage_spec.specs.{Families.{plus}, Hardware.{Hardware}}
use Rattle.stage_laws.specs.Bounds.{AreAtMost}
use Rattle.world_spec.specs.{Value.{World, Account, Totals}, StageOf.{stage_of}, Kept.{family_sums}, Metering.{metered}, Rescheduled.{IsRescheduled}}
use Rattle.world_spec.specs.Shares.{HaveShares}

-- a world that is another one but for its accounts; but for these and what work adds to a meter; and but for the counts
-- of lost records too
abbrev pub IsButAccounts : World → World → Type 0
IsButAccounts w after = after ≡ record w { accounts = after.accounts }

abbrev pub IsMetered : World → World → CpuNo → Work → Type 0
IsMetered w after cpu work = after ≡ record w { accounts = after.accounts; quiet = metered cpu work w.quiet }

abbrev pub IsDone : World → World → CpuNo → Work → Type 0
IsDone w after cpu work = after ≡ record w { accounts = after.accounts; lost = after.lost; quiet = metered cpu work w.quiet }

stays : (hw : Hardware) (w : World) (accounts : FinMap nat_cmp Account) (lost clocks : List ℕ) (totals : List Totals) (other : CpuNo) → IsRescheduled hw w other
    → IsRescheduled hw (record w { accounts = accounts; lost = lost; quiet = record w.quiet { clocks = clocks; totals = totals } }) other
stays hw w accounts lost clocks totals other h = record {
  settled = h.settled;
  judged = record { standings = h.judged.standings; served = record { events = h.judged.served.events; assigned = h.judged.served.assigned } };
}

-- after accounts changed
pub soft-stage : (w new : World) → IsButAccounts w new → stage_of new ≡ stage_of w
soft-stage w new rest = ap stage_of rest

pub soft-stays : (hw : Hardware) (w new : World) (other : CpuNo) → IsButAccounts w new → IsRescheduled hw w other → IsRescheduled hw new other
soft-stays hw w new other rest h = subst (λ v. IsRescheduled hw v other) (sym rest) (stays hw w new.accounts w.lost w.quiet.clocks w.quiet.totals other h)

-- after work, and then further changes of accounts
pub metered-on : (w mid new : World) (cpu : CpuNo) (work : Work) → IsMetered w mid cpu work → IsButAccounts mid new → IsMetered w new cpu work
metered-on w mid new cpu work is rest =
    rest
    ∙ (ap {A = World} {B = World} (λ x. record x { accounts = new.accounts }) is)

-- and then of the counts of lost records
pub done-on : (w mid new : World) (cpu : CpuNo) (work : Work) → IsMetered w mid cpu work → new ≡ record mid { lost = new.lost } → IsDone w new cpu work
done-on w mid new cpu work is more =
    more
    ∙ (ap {A = World} {B = World} (λ x. record x { lost = new.lost }) is
    ∙ ap {B = World} (λ a. record w { accounts = a; lost = new.lost; quiet = metered cpu work w.quiet }) (sym (ap (λ (x : World). x.accounts) more)))

module _ (w new : World) (cpu : CpuNo) (work : Work) (done : IsDone w new cpu work) where
  pub work-stage : stage_of new ≡ stage_of w
  work-stage = ap stage_of done

  pub work-stays : (hw : Hardware) (other : CpuNo) → IsRescheduled hw w other → IsRescheduled hw new other
  work-stays hw other h =
      subst (λ v. IsRescheduled hw v other) (sym done)
      (stays hw w new.accounts new.lost (metered cpu work w.quiet).clocks (metered cpu work w.quiet).totals other h)

-- shares and sums where a count of lost records changed besides
module _ (w mid new : World) (more : new ≡ record mid { lost = new.lost }) where
  pub lost-shares : (given : ℕ → Sums) → HaveShares w mid given → HaveShares w new given
  lost-shares given h = subst (λ (v : World). HaveShares w v given) (sym more) (record { accounts = h.accounts; keys = h.keys })

  pub lost-grown : (slot : ℕ) (most : Sums) → AreAtMost (family_sums mid slot) (plus (family_sums w slot) most) → AreAtMost (family_sums new slot) (plus (family_sums w slot) most)
  lost-grown slot most h = subst (λ (v : World). AreAtMost (family_sums v slot) (plus (family_sums w slot) most)) (sym more) h
