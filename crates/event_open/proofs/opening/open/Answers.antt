use Rattle.std.proofs.Common.{◌≡◌, rules, arith, None, refl, sym, subst, ◌∙◌, true, ap, length}
use Rattle.perf_base.specs.Contexts as contexts
use Rattle.stage_laws.specs.Narrowing.{has_context}
use Rattle.world_spec.{specs.{Adding.{add}, Value.{World}, Staying.{HasCome}, StageOf.{stage_of}}, proofs.Staying.{add-stays}}
use Rattle.perf_world.specs.Parts.{newcomer, MayAdd}
use Rattle.event_open.{specs.Opened.{IsOpenedAs, opened_as}, proofs.{Joining.{may-add}, Opens.{open-changed}, Others.{IsOpened, is-opened, not-among}}}
use Rattle.event_open.proofs.opening.open.Goals as goal
use Rattle.perf_world.proofs.Added.{may-come}

pub add-requires-clause-may : goal.add-requires-clause-may
add-requires-clause-may c =
    subst (λ n. MayAdd c.args.world.now n) (λ i. newcomer c.args.event c.args.attr.now (sym c.in_ok-first.ensures.key i) None (sym c.context-context.ensures i))
    (may-add c.args.world.now c.args.event c.args.attr.now c.args.leader c.cpus_with-cpus.ensures.kept c.requires.slot c.requires.attr c.cpus_with-cpus.ensures.few c.requires.room c.in_ok-first.ensures.ok)

pub returns : goal.returns
returns c =
    let w : World = c.args.world.now in
    let may : MayAdd w (opened_as w c.args.event c.args.attr.now c.args.leader) =
    may-add w c.args.event c.args.attr.now c.args.leader c.cpus_with-cpus.ensures.kept c.requires.slot c.requires.attr c.cpus_with-cpus.ensures.few c.requires.room c.in_ok-first.ensures.ok in
    let now : c.add.new.self ≡ add c.add.result (opened_as w c.args.event c.args.attr.now c.args.leader) w =
    c.add.ensures.world ∙ (λ i. add c.add.result (newcomer c.args.event c.args.attr.now (c.in_ok-first.ensures.key i) None (c.context-context.ensures i)) w) in
    let o : IsOpened w c.add.new.self c.args.event c.args.attr.now c.args.leader =
    is-opened w c.add.new.self c.args.event c.args.attr.now c.args.leader c.add.result c.cpus_with-cpus.ensures.kept may c.in_ok-first.ensures.ok c.add.ensures.fresh now in
    let came : IsOpenedAs w c.add.new.self (opened_as w c.args.event c.args.attr.now c.args.leader) = record {
      key = c.add.result;
      fresh = c.add.ensures.fresh;
      world = now;
      come = subst (λ (after : World). HasCome w after c.add.result (opened_as w c.args.event c.args.attr.now c.args.leader)) (sym now)
          (add-stays w.hardware w c.add.result (opened_as w c.args.event c.args.attr.now c.args.leader) c.cpus_with-cpus.ensures.kept
          (may-come w (opened_as w c.args.event c.args.attr.now c.args.leader) c.add.result may c.add.ensures.fresh) may.group);
    } in
    record {
      answer = open-changed w c.add.new.self c.args.event c.args.attr.now c.args.leader c.cpus_with-cpus.result c.cpus_with-cpus.ensures.kept c.use_invariant-2.ensures
          (omega (arith, c.use_invariant.ensures.cpus.0, c.cpus_with-cpus.ensures.kept.shape.running, ap (λ h. length h.cpu_pmus) c.pmus.ensures.pmus)) c.requires.attr.cpu c.in_ok-first.ensures.ok came o.stage
          (λ cpu low. (
            λ there. subst (λ k. has_context (stage_of w) cpu k ≡ true) c.context-context.ensures ((c.cpus_with-cpus.ensures.there cpu).0 there).1,
            λ has. (c.cpus_with-cpus.ensures.there cpu).1 (low, subst (λ k. has_context (stage_of w) cpu k ≡ true) (sym c.context-context.ensures) has),
          ))
          (λ cpu there. ((c.cpus_with-cpus.ensures.there cpu).0 there).0)
          (λ cpu low away. o.others cpu (omega (arith, low, c.cpus_with-cpus.ensures.few)) (not-among w cpu c.context-context.result (contexts.context_of c.args.attr.now) _ (c.cpus_with-cpus.ensures.there cpu) c.context-context.ensures low away));
      world = came;
      folded = c.add.ensures.folded refl;
      lost = c.add.ensures.lost refl;
      verdicts = λ cpu low away. o.verdicts cpu (not-among w cpu c.context-context.result (contexts.context_of c.args.attr.now) _ (c.cpus_with-cpus.ensures.there cpu) c.context-context.ensures low away);
    }
