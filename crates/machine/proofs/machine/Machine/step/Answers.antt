use Rattle.std.{specs.Prelude.{◌≡◌, ◌*◌, ◌∷◌, [], ◌++◌, List}, proofs.Common.{ap, refl, sym, subst, ◌∙◌}}
use Rattle.perf_base.specs.{declared.{acts.{Act.{Act}, Actor.{Actor}}, reply.Reply.{Reply}}, Scripts.{Scripted}, Weight.{weight}}
use Rattle.perf_base.specs.declared.acts.Act.TheVariants as act
use Rattle.perf_base.specs.declared.acts.Actor.TheVariants as actor
use Rattle.sample_ring.specs.RingLists.{InList}
use Rattle.machine.specs.{Leading.{Kept, HasLine, IsReplyTo, LeadTo, act_of, next_step}, Stepping.{HasNoLine, IsAnswerTo, LeavesReaders, step_by}}
use Rattle.machine.proofs.{Following.{following-still}, machine.Machine.step.Goals.{in-Processor, in-Tool}}
use Rattle.machine.proofs.machine.Machine.step.Goals as goal

-- the act does the actor's next line
abbrev IsOwn : Actor → Act → Type 0
IsOwn (actor.Processor cpu) a = a ≡ act.Processor cpu
IsOwn (actor.Tool tool) a = a ≡ act.Tool tool
IsOwn (actor.Reader ring) a = ⊥
IsOwn actor.Watcher a = ⊥

own-act : (who : Actor) (a : Act) → IsOwn who a → act_of who ≡ a
own-act (actor.Processor cpu) a own = sym own
own-act (actor.Tool tool) a own = sym own
own-act (actor.Reader ring) a own = absurd own
own-act actor.Watcher a own = absurd own

own-none : (s : Scripted) (m : Kept) (who : Actor) (a : Act) → IsOwn who a → (HasLine s m who → ⊥) → HasNoLine s m a
own-none s m (actor.Processor cpu) a own none = subst (HasNoLine s m) (sym own) none
own-none s m (actor.Tool tool) a own none = subst (HasNoLine s m) (sym own) none
own-none s m (actor.Reader ring) a own none = absurd own
own-none s m actor.Watcher a own none = absurd own

own-some : (s : Scripted) (m : Kept) (who : Actor) (a : Act) → IsOwn who a → HasLine s m who → HasNoLine s m a → ⊥
own-some s m (actor.Processor cpu) a own has none = (subst (HasNoLine s m) own none) has
own-some s m (actor.Tool tool) a own has none = (subst (HasNoLine s m) own none) has
own-some s m (actor.Reader ring) a own has none = absurd own
own-some s m actor.Watcher a own has none = absurd own

own-answer : (s : Scripted) (acts : List Act) (who : Actor) (a : Act) (r : Reply) → IsOwn who a → IsReplyTo s acts (act_of who) r → IsAnswerTo s acts a r
own-answer s acts (actor.Processor cpu) a r own is = subst (λ (x : Act). IsAnswerTo s acts x r) (sym own) is
own-answer s acts (actor.Tool tool) a r own is = subst (λ (x : Act). IsAnswerTo s acts x r) (sym own) is
own-answer s acts (actor.Reader ring) a r own is = absurd own
own-answer s acts actor.Watcher a r own is = absurd own

own-leaves : (who : Actor) (a : Act) (ins : InList) → IsOwn who a → LeavesReaders a ins ins
own-leaves (actor.Processor cpu) a ins own = subst (λ (x : Act). LeavesReaders x ins ins) (sym own) refl
own-leaves (actor.Tool tool) a ins own = subst (λ (x : Act). LeavesReaders x ins ins) (sym own) refl
own-leaves (actor.Reader ring) a ins own = absurd own
own-leaves actor.Watcher a ins own = absurd own

own-next : (s : Scripted) (m : Kept) (who : Actor) (a : Act) → IsOwn who a → next_step s m who ≡ step_by s m a
own-next s m (actor.Processor cpu) a own = ap (step_by s m) (sym own)
own-next s m (actor.Tool tool) a own = ap (step_by s m) (sym own)
own-next s m (actor.Reader ring) a own = absurd own
own-next s m actor.Watcher a own = absurd own

pub returns-then-not-has_line-clause-no_line : goal.returns-then-not-has_line-clause-no_line
returns-then-not-has_line-clause-no_line c =
    let own : IsOwn c.match-act.actor c.args.act = elim c.match-act.branch [ in-Processor w ↦ subst (λ (x : Actor). IsOwn x c.args.act) (sym w.actor-is) w.in-Processor.is | in-Tool w ↦ subst (λ (x : Actor). IsOwn x c.args.act) (sym w.actor-is) w.in-Tool.is ] in
    (λ is. own-none c.args.script.now c.args.self.now c.match-act.actor c.args.act own (λ has. let t = c.has_line.ensures.1 has in absurd cc), λ none. refl)

pub returns-then-not-has_line-clause-readers : goal.returns-then-not-has_line-clause-readers
returns-then-not-has_line-clause-readers c =
    let own : IsOwn c.match-act.actor c.args.act = elim c.match-act.branch [ in-Processor w ↦ subst (λ (x : Actor). IsOwn x c.args.act) (sym w.actor-is) w.in-Processor.is | in-Tool w ↦ subst (λ (x : Actor). IsOwn x c.args.act) (sym w.actor-is) w.in-Tool.is ] in
    own-leaves c.match-act.actor c.args.act c.args.ins.now own

pub returns-clause-no_line : goal.returns-clause-no_line
returns-clause-no_line c =
    let own : IsOwn c.match-act.actor c.args.act = elim c.match-act.branch [ in-Processor w ↦ subst (λ (x : Actor). IsOwn x c.args.act) (sym w.actor-is) w.in-Processor.is | in-Tool w ↦ subst (λ (x : Actor). IsOwn x c.args.act) (sym w.actor-is) w.in-Tool.is ] in
    (λ is. absurd cc, λ none. absurd (own-some c.args.script.now c.args.self.now c.match-act.actor c.args.act own (c.has_line.ensures.0 cc) none))

pub returns-clause-reply : goal.returns-clause-reply
returns-clause-reply c =
    let own : IsOwn c.match-act.actor c.args.act = elim c.match-act.branch [ in-Processor w ↦ subst (λ (x : Actor). IsOwn x c.args.act) (sym w.actor-is) w.in-Processor.is | in-Tool w ↦ subst (λ (x : Actor). IsOwn x c.args.act) (sym w.actor-is) w.in-Tool.is ] in
    λ acts led. own-answer c.args.script.now acts c.match-act.actor c.args.act c.line_alone.result own (c.line_alone.ensures.reply acts led)

pub returns-clause-done : goal.returns-clause-done
returns-clause-done c =
    let own : IsOwn c.match-act.actor c.args.act = elim c.match-act.branch [ in-Processor w ↦ subst (λ (x : Actor). IsOwn x c.args.act) (sym w.actor-is) w.in-Processor.is | in-Tool w ↦ subst (λ (x : Actor). IsOwn x c.args.act) (sym w.actor-is) w.in-Tool.is ] in
    λ acts led. subst (λ (a : Act). LeadTo c.args.script.now (acts ++ a ∷ []) c.line_alone.new.self) (own-act c.match-act.actor c.args.act own) (c.line_alone.ensures.done acts led)

pub returns-clause-readers : goal.returns-clause-readers
returns-clause-readers c =
    let own : IsOwn c.match-act.actor c.args.act = elim c.match-act.branch [ in-Processor w ↦ subst (λ (x : Actor). IsOwn x c.args.act) (sym w.actor-is) w.in-Processor.is | in-Tool w ↦ subst (λ (x : Actor). IsOwn x c.args.act) (sym w.actor-is) w.in-Tool.is ] in
    own-leaves c.match-act.actor c.args.act c.args.ins.now own

pub returns-clause-following : goal.returns-clause-following
returns-clause-following c =
    following-still (9 * weight c.args.script.now) c.args.rings.now c.args.self.now.outs c.line_alone.new.self.outs c.args.ins.now c.requires.following c.requires.together
    c.line_alone.ensures.together c.line_alone.ensures.seen

pub returns-clause-idle : goal.returns-clause-idle
returns-clause-idle c =
    let own : IsOwn c.match-act.actor c.args.act = elim c.match-act.branch [ in-Processor w ↦ subst (λ (x : Actor). IsOwn x c.args.act) (sym w.actor-is) w.in-Processor.is | in-Tool w ↦ subst (λ (x : Actor). IsOwn x c.args.act) (sym w.actor-is) w.in-Tool.is ] in
    λ x next. c.line_alone.ensures.idle x (own-next c.args.script.now c.args.self.now c.match-act.actor c.args.act own ∙ next)
