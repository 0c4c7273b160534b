use Rattle.std.proofs.Common.{arith, ◌≡◌, ◌+◌, ◌<◌, ◌++◌, [], ◌∷◌, ◌∙◌, List, ap, sym, suc, length, take, slice_index_or}
use Rattle.std.proofs.{lemmas.List.{get_or-replicate, length-replicate, length-set, take_all}, Math.Seq.{take-suc}}
use Rattle.perf_base.specs.declared.numbers.TaskNo.{TaskNo}
use Rattle.stage_spec.specs.{declared.instance.TaskStatus.{TaskStatus}, Stage.{unknown_task, fresh_task}}
use Rattle.perf_world.proofs.Seats.{status_by, status-more, statuses-are, first-tasks}
use Rattle.perf_world.proofs.tasks.first_tasks.Goals as goal

pub loop-task-init : goal.loop-task-init
loop-task-init c = record {
  size = ap (λ (t : List TaskStatus). length t) c.no_tasks-tasks.ensures ∙ length-replicate 64 unknown_task;
  each = λ n low. ap (λ (t : List TaskStatus). slice_index_or t n unknown_task) c.no_tasks-tasks.ensures ∙ get_or-replicate 64 n unknown_task unknown_task low;
}

pub loop-task-preserved : goal.loop-task-preserved
loop-task-preserved c =
    let i = c.loop-task.invariant in
    let task : TaskNo = slice_index_or c.args.declared.now c.loop-task.task-index (record { 0 = 0 }) in
    let low : task.0 < 64 = c.requires c.loop-task.task-index (record { 0 = 0 }) c.loop-task-test.true in
    let more : take (c.loop-task.task-index + 1) c.args.declared.now ≡ take c.loop-task.task-index c.args.declared.now ++ task ∷ [] =
    ap (λ n. take n c.args.declared.now) (let e : c.loop-task.task-index + 1 ≡ suc c.loop-task.task-index = omega arith in e) ∙ take-suc c.args.declared.now c.loop-task.task-index (record { 0 = 0 }) c.loop-task-test.true in
    record {
      size = length-set c.loop-task.tasks task.0 fresh_task ∙ i.size;
      each = λ n below. status-more (take c.loop-task.task-index c.args.declared.now) c.loop-task.tasks task n (omega (arith, low, i.size)) (i.each n below)
          ∙ ap (λ (ts : List TaskNo). status_by ts n) (sym more);
    }

pub returns : goal.returns
returns c cpus =
    let whole : take c.loop-task.task-index c.args.declared.now ≡ c.args.declared.now = take_all c.loop-task.task-index c.args.declared.now (omega (arith, c.loop-task-test.false)) in
    statuses-are c.args.declared.now c.loop-task.tasks c.loop-task.invariant.size (λ n low. c.loop-task.invariant.each n low ∙ ap (λ (ts : List TaskNo). status_by ts n) whole)
    ∙ first-tasks cpus c.args.declared.now
