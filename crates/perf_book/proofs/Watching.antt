-- A run that is watched: each line publishes the look after it, and looks at rings none.
use Rattle.std.specs.Prelude.{◌≡◌, ℕ, ◌+◌, true, false, List, [], ◌∷◌, ◌++◌, length, IfSome, Option, Some, None}
use Rattle.std.proofs.{Common.{refl, sym, ap, subst, ◌∙◌, append_assoc, append-nil}, lemmas.{Bool.{false≢true}, Option.{none-some}}}
use Rattle.perf_base.specs.{declared.{acts.{Act.{Act}, Actor.{Actor}}, numbers.EventNo.{EventNo}, reply.Sums.{Sums}}, Scripts.{Scripted}}
use Rattle.perf_base.specs.declared.acts.Act.TheVariants as act
use Rattle.perf_base.specs.declared.acts.Actor.TheVariants as actor
use Rattle.user_page.specs.{declared.look.Look.{Look}, Looks.{MayFollow}}
use Rattle.machine.specs.Leading.{Kept, HasLine, act_of}
use Rattle.stage_spec.{specs.{Stage.{is_open}, Tables.{family_if_open, stage_in}}, proofs.Tables.{some-open, none-open}}
use Rattle.report_spec.specs.{Published.{look_after, look_of, looks_if, publishes, published_looks}, Laws.{FollowsLaw, OneMoreLaw, RingsLaw}}
use Rattle.ring_laws.specs.Growing.{AreLooks, does_line}
use Rattle.perf_book.specs.{Book.{AreLooksOf}, Watching.{HasPublished, IsBehind, page_of, watched_by}, declared.publishing.Publisher.{Publisher}}

-- a line publishes where the event is open after it
line-publishes : (s : Scripted) (front : List Act) (a : Act) (e : EventNo) → does_line a ≡ true → publishes s front a e ≡ is_open (stage_in s (front ++ a ∷ [])) e
line-publishes s front (act.Processor cpu) e line = refl
line-publishes s front (act.Tool tool) e line = refl
line-publishes s front (act.Seen ring place) e line = absurd (false≢true line)

-- so the list grows by the look after it, or by none
grown-by : OneMoreLaw → (s : Scripted) (order : List Act) (p : Publisher) → IsBehind s order p
    → published_looks s order p.event ≡ p.writer.published ++ looks_if (is_open (stage_in s order) p.event) (look_after s order p.event)
grown-by one-more s order p h =
    let e : EventNo = p.event in
    let whole : h.front ++ h.last ∷ [] ≡ order = sym h.order_is in
    let does : publishes s h.front h.last e ≡ is_open (stage_in s order) e = line-publishes s h.front h.last e h.line ∙ ap (λ o. is_open (stage_in s o) e) whole in
    ap (λ o. published_looks s o e) h.order_is ∙ (one-more s h.front h.last e ∙ (λ i. sym h.published i ++ looks_if (does i) (look_after s (whole i) e)))

pub grown-open : OneMoreLaw → (s : Scripted) (order : List Act) (p : Publisher) (sums : Sums) → IsBehind s order p → Some sums ≡ family_if_open s order p.event
    → p.writer.published ++ look_of (length order) sums ∷ [] ≡ published_looks s order p.event
grown-open one-more s order p sums h is =
    let there = some-open s order p.event sums is in
    (λ i. p.writer.published ++ looks_if (sym there.0 i) (look_of (length order) (there.1 i))) ∙ sym (grown-by one-more s order p h)

pub grown-closed : OneMoreLaw → (s : Scripted) (order : List Act) (p : Publisher) → IsBehind s order p → None ≡ family_if_open s order p.event → HasPublished s order p
grown-closed one-more s order p h is =
    let shut : is_open (stage_in s order) p.event ≡ false = none-open s order p.event is in
    sym (grown-by one-more s order p h ∙ (ap (λ b. p.writer.published ++ looks_if b (look_after s order p.event)) shut ∙ append-nil p.writer.published))

-- the look after a line may be published behind those before it
pub look-follows : FollowsLaw → (s : Scripted) (order : List Act) (p : Publisher) (sums : Sums) → IsBehind s order p → Some sums ≡ family_if_open s order p.event
    → MayFollow p.writer.published (look_of (length order) sums)
look-follows follows s order p sums h is =
    let there = some-open s order p.event sums is in
    let after : look_after s (h.front ++ h.last ∷ []) p.event ≡ look_of (length order) sums =
    ap (λ o. look_after s o p.event) (sym h.order_is) ∙ ap (look_of (length order)) (sym there.1) in
    subst (MayFollow p.writer.published) after
    (subst (λ (looks : List Look). MayFollow looks (look_after s (h.front ++ h.last ∷ []) p.event)) (sym h.published) (follows s h.front h.last p.event).1)

-- looks at rings add none
pub rings-add : RingsLaw → (s : Scripted) (order looks : List Act) (from : ℕ) (before : List Act) (e : EventNo) → AreLooks from before looks
    → published_looks s (order ++ looks) e ≡ published_looks s order e
rings-add add-none s order [] from before e h = ap (λ o. published_looks s o e) (append-nil order)
rings-add add-none s order (act.Processor cpu ∷ looks) from before e h = absurd h
rings-add add-none s order (act.Tool tool ∷ looks) from before e h = absurd h
rings-add add-none s order (act.Seen ring place ∷ looks) from before e h =
    ap (λ o. published_looks s o e) (sym (append_assoc order (act.Seen ring place ∷ []) looks))
    ∙ (rings-add add-none s (order ++ act.Seen ring place ∷ []) looks (ring.0 + 1) before e h.2 ∙ add-none s order ring place e)

looks-add : RingsLaw → (s : Scripted) (a : Actor) (order looks : List Act) (e : EventNo) → AreLooksOf a order looks → published_looks s (order ++ looks) e ≡ published_looks s order e
looks-add add-none s (actor.Processor cpu) order looks e h = rings-add add-none s order looks 0 order e h
looks-add add-none s (actor.Tool tool) order looks e h = ap (λ l. published_looks s (order ++ l) e) h ∙ ap (λ o. published_looks s o e) (append-nil order)
looks-add add-none s (actor.Reader ring) order looks e h = ap (λ l. published_looks s (order ++ l) e) h ∙ ap (λ o. published_looks s o e) (append-nil order)
looks-add add-none s actor.Watcher order looks e h = ap (λ l. published_looks s (order ++ l) e) h ∙ ap (λ o. published_looks s o e) (append-nil order)

act-does : (s : Scripted) (m : Kept) (a : Actor) → HasLine s m a → does_line (act_of a) ≡ true
act-does s m (actor.Processor cpu) line = refl
act-does s m (actor.Tool tool) line = refl
act-does s m (actor.Reader ring) line = absurd line
act-does s m actor.Watcher line = absurd line

-- behind an actor's line all but its look is published
left-behind : RingsLaw → (s t : Scripted) (m : Kept) (a : Actor) (order grown : List Act) (p : Publisher) → HasLine s m a → t ≡ s → HasPublished s order p
    → (looks : List Act) × AreLooksOf a order looks × (grown ≡ order ++ (looks ++ act_of a ∷ [])) → IsBehind t grown p
left-behind add-none s t m a order grown p line same before more = record {
  front = order ++ more.0;
  last = act_of a;
  line = act-does s m a line;
  order_is = more.2 ∙ sym (append_assoc order more.0 (act_of a ∷ []));
  published = before ∙ (sym (looks-add add-none s a order more.0 p.event more.1) ∙ ap (λ u. published_looks u (order ++ more.0) p.event) (sym same));
}

pub all-behind : RingsLaw → (s t : Scripted) (m : Kept) (a : Actor) (order grown : List Act) (p : Option Publisher) → HasLine s m a → t ≡ s → IfSome p (HasPublished s order)
    → (looks : List Act) × AreLooksOf a order looks × (grown ≡ order ++ (looks ++ act_of a ∷ [])) → IfSome p (IsBehind t grown)
all-behind add-none s t m a order grown None line same before more = before
all-behind add-none s t m a order grown (Some p) line same before more = left-behind add-none s t m a order grown p line same before more

-- where there is no page, nothing is published
pub none-published : (s : Scripted) (order : List Act) (p : Option Publisher) → None ≡ page_of (watched_by p) → IfSome p (IsBehind s order) → IfSome p (HasPublished s order)
none-published s order None gone h = h
none-published s order (Some p) gone h = absurd (none-some _ gone)
