use Rattle.std.proofs.Common.{◌≡◌, ap, sym, subst, ◌∙◌, length, Some, ℕ, ◌++◌, [], ◌∷◌}
use Rattle.user_page.specs.{declared.look.Look.{Look}, Looks.{MayFollow}}
use Rattle.stage_spec.specs.Tables.{family_if_open}
use Rattle.report_spec.specs.Published.{look_of}
use Rattle.perf_book.proofs.Watching.{grown-closed, grown-open, look-follows}
use Rattle.perf_book.proofs.publishing.publish_on.Goals as goal

pub publish-requires-clause-rises : goal.publish-requires-clause-rises
publish-requires-clause-rises c =
    let open_then : Some c.in-Some.sums ≡ family_if_open c.args.book.now.script c.args.book.now.order c.args.publisher.now.event = c.in-Some.ensures.sums in
    let look : look_of (length c.args.book.now.order) c.in-Some.sums ≡ c.look_of-look.result = sym (c.look_of-look.ensures ∙ ap (λ (n : ℕ). look_of n c.in-Some.sums) c.act_count.ensures) in
    subst (MayFollow c.args.publisher.now.writer.published) look
    (look-follows c.looks_of_later_acts_may_follow.ensures c.args.book.now.script c.args.book.now.order c.args.publisher.now c.in-Some.sums c.requires.behind open_then)

pub returns-in-Some-clause-published : goal.returns-in-Some-clause-published
returns-in-Some-clause-published c =
    let open_then : Some c.in-Some.sums ≡ family_if_open c.args.book.now.script c.args.book.now.order c.args.publisher.now.event = c.in-Some.ensures.sums in
    let look : c.look_of-look.result ≡ look_of (length c.args.book.now.order) c.in-Some.sums = c.look_of-look.ensures ∙ ap (λ (n : ℕ). look_of n c.in-Some.sums) c.act_count.ensures in
    ap (λ w. w.published) c.publish.ensures.end ∙ (ap (λ (l : Look). c.args.publisher.now.writer.published ++ l ∷ []) look
    ∙ grown-open c.one_more_act_adds_its_look.ensures c.args.book.now.script c.args.book.now.order c.args.publisher.now c.in-Some.sums c.requires.behind open_then)

pub returns-in_default-clause-published : goal.returns-in_default-clause-published
returns-in_default-clause-published c =
    grown-closed c.one_more_act_adds_its_look.ensures c.args.book.now.script c.args.book.now.order c.args.publisher.now c.requires.behind (sym c.in_default.is ∙ c.family.ensures.sums)
