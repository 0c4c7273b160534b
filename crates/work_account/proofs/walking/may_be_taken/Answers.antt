use Rattle.std.proofs.Common.{rules}
use Rattle.std.proofs.{Common.{sym, ◌∙◌}, lemmas.Bool.{false≢true}}
use Rattle.work_account.proofs.Skipped.{none-works}
use Rattle.work_account.proofs.walking.may_be_taken.Goals as goal

pub returns-in-Work : goal.returns-in-Work
returns-in-Work c =
    rw c.in-Work.is
    (λ off pinned. none-works c.args.world.now c.in-Work.field-0 c.args.context c.samples.ensures.kept
    (λ some. false≢true (sym off ∙ c.samples.ensures.samples.1 some)) pinned)

pub returns-in-Soft : goal.returns-in-Soft
returns-in-Soft c = search rules
