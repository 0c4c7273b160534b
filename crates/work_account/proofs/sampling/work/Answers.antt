use Rattle.std.proofs.Common.{◌≡◌, ◌<◌, ℕ, arith, List, ap, refl, sym, subst, map, length}
use Rattle.world_spec.specs.{Metering.{IsWorked}, Shares.{HaveShares, work_shares}, Value.{World}, Working.{keys_by_pass}}
use Rattle.work_account.specs.{declared.{overflowing.{Hit.{Hit}}, samples.Stretch.{Stretch}}, Ends.{send_all}}
use Rattle.work_account.specs.{Sampling.{AreLeft, ends_of, sent_by}, Visits.{hits_among, hits_by, overflows_of, hit_all, overflow_of}}
use Rattle.work_account.proofs.{Growing.{work-grows}, Left.{IsMetered, IsDone, metered-on, done-on, work-stage, work-stays, lost-shares}, May.{work-may}}
use Rattle.work_account.proofs.Sampled.{Timed, rings-there, space-there, ends-are, together-are, accounts-are, lost-are}
use Rattle.work_account.proofs.{Shared.{same-hits, work-shared}, Steps.{hits-on}, Struck.{but-all}}
use Rattle.work_account.specs.declared.happening.Happening.TheVariants as happening
use Rattle.work_account.proofs.sampling.work.Goals as goal

pub clock-requires : goal.clock-requires
clock-requires g c =
    let worked : IsWorked c.args.world.now c.add_work.new.self c.args.cpu c.args.work.now = c.add_work.ensures.worked in
    subst (λ (y : World). c.args.cpu.0 < length y.quiet.running) (sym worked.rest) c.requires.cpu

pub hit_and_send-requires : goal.hit_and_send-requires
hit_and_send-requires g c =
    let w : World = c.args.world.now in
    let v : World = c.add_work.new.self in
    let worked : IsWorked w v c.args.cpu c.args.work.now = c.add_work.ensures.worked in
    let line : Stretch = record { cpu = c.args.cpu; work = c.args.work.now; clock = c.clock.result } in
    let timed : Timed w v c.args.cpu c.args.work.now (overflows_of v line) c.clock.result = record {
      kept = c.add_work.ensures.kept;
      cpu_there = c.requires.cpu;
      work_done = worked;
      overflows = ap (map (overflow_of v)) (same-hits (happening.Work c.args.work.now) w v c.args.cpu c.args.work.now worked);
      read = c.clock.ensures.clock;
    } in
    record {
      cpu = subst (λ (y : World). c.args.cpu.0 < length y.quiet.running) (sym worked.rest) c.requires.cpu;
      may = work-may w v c.args.cpu c.args.work.now c.add_work.ensures.kept worked c.requires.room c.use_invariant.ensures;
      together = c.requires.together;
      rings = rings-there w v c.args.cpu c.args.work.now (overflows_of v line) c.clock.result timed c.args.outs.now.numbers c.requires.rings;
      space = space-there w v c.args.cpu c.args.work.now (overflows_of v line) c.clock.result timed c.args.outs.now c.requires.judged c.requires.space;
    }

pub returns : goal.returns
returns g c =
    let w : World = c.args.world.now in
    let v : World = c.add_work.new.self in
    let new : World = c.hit_and_send.new.world in
    let worked : IsWorked w v c.args.cpu c.args.work.now = c.add_work.ensures.worked in
    let line : Stretch = record { cpu = c.args.cpu; work = c.args.work.now; clock = c.clock.result } in
    let u : World = hit_all (hits_by v line) v in
    let hits : hits_by v line ≡ hits_among (happening.Work c.args.work.now) w (keys_by_pass w c.args.cpu) = same-hits (happening.Work c.args.work.now) w v c.args.cpu c.args.work.now worked in
    let is : u ≡ hit_all (hits_among (happening.Work c.args.work.now) w (keys_by_pass w c.args.cpu)) v = ap (λ l. hit_all l v) hits in
    let metered : IsMetered w u c.args.cpu c.args.work.now = metered-on w v u c.args.cpu c.args.work.now worked.rest (but-all (hits_by v line) v u refl) in
    let timed : Timed w v c.args.cpu c.args.work.now (overflows_of v line) c.clock.result = record {
      kept = c.add_work.ensures.kept;
      cpu_there = c.requires.cpu;
      work_done = worked;
      overflows = ap (map (overflow_of v)) hits;
      read = c.clock.ensures.clock;
    } in
    let done : IsDone w new c.args.cpu c.args.work.now = done-on w u new c.args.cpu c.args.work.now metered c.hit_and_send.ensures.world in
    let shares : HaveShares w new (work_shares w c.args.cpu c.args.work.now) =
    lost-shares w u new c.hit_and_send.ensures.world _ (subst (λ (y : World). HaveShares w y (work_shares w c.args.cpu c.args.work.now)) (sym is)
    (work-shared w v c.args.cpu c.args.work.now c.add_work.ensures.kept c.requires.judged worked c.add_work.ensures.whole)) in
    let sents : (left : ℕ → ℕ) → AreLeft w left → ends_of c.hit_and_send.new.outs new ≡ send_all (ends_of c.args.outs.now w) (sent_by w left c.args.cpu c.args.work.now) = λ left are.
    ends-are w v c.args.cpu c.args.work.now (overflows_of v line) c.clock.result timed c.args.outs.now c.hit_and_send.new.outs new c.requires.judged left are c.hit_and_send.ensures.ends in
    record {
      stage = work-stage w new c.args.cpu c.args.work.now done;
      shares = shares;
      grown = work-grows w c.args.cpu c.args.work.now c.add_work.ensures.kept c.requires.judged new shares (ap (λ (y : World). y.families) done) (ap (λ (y : World). y.folded) done);
      rest = done;
      rescheduled = λ other h. work-stays w new c.args.cpu c.args.work.now done w.hardware other h;
      together = together-are c.args.rings.now w new c.args.cpu c.args.work.now c.requires.space.left c.args.outs.now c.hit_and_send.new.outs (sents c.requires.space.left c.requires.space.are_left) c.requires.together;
      steps = omega (
        arith,
        c.add_work.ensures.steps,
        c.hit_and_send.ensures.steps,
        ap (λ (l : List Hit). length l) hits,
        hits-on w c.args.cpu c.args.work.now c.add_work.ensures.kept c.requires.judged,
      );
      sent = sents;
      accounts = λ left accounts are h. accounts-are w new c.args.cpu c.args.work.now left c.args.outs.now c.hit_and_send.new.outs accounts (sents left are) h;
      lost = λ left accounts are h e low. lost-are w new c.args.cpu c.args.work.now left c.args.outs.now c.hit_and_send.new.outs accounts (sents left are) h c.add_work.ensures.kept e low;
    }
