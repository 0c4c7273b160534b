-- What any change of one context keeps, settling and a tick keep.
use Rattle.std.specs.Prelude.{List, [], ◌∷◌, Option, Some, None}
use Rattle.perf_base.specs.declared.{numbers.{CpuNo.{CpuNo}, TaskNo.{TaskNo}}, standing.Context.{Context}}
use Rattle.perf_base.specs.declared.standing.Context.TheVariants as context
use Rattle.stage_spec.specs.{Hardware.{Hardware}, Stage.{Stage, Lists, change_context, task_on, all_cpus}, Verdict.{Judged, verdicts}}
use Rattle.stage_spec.specs.Settle.{settle_lists, settle_task, own_verdicts, settle, settle_each, settle_all}
use Rattle.stage_spec.specs.Rotation.{turn_lists, turn_task, rotated}

abbrev pub KeptByContexts : (Stage → Type 0) → Type 0
KeptByContexts P = (c : Context) (f : Lists → Lists) (s : Stage) → P s → P (change_context c f s)

settle_task-by : (P : Stage → Type 0) → KeptByContexts P → (hw : Hardware) (cpu : CpuNo) (before : List Judged) (to : Option TaskNo) (s : Stage) → P s → P (settle_task hw cpu before to s)
settle_task-by P k hw cpu before None s h = h
settle_task-by P k hw cpu before (Some task) s h = k (context.Task task) (settle_lists hw cpu before) s h

pub settle-by : (P : Stage → Type 0) → KeptByContexts P → (hw : Hardware) (cpu : CpuNo) (s : Stage) → P s → P (settle hw cpu s)
unfolding settle
settle-by P k hw cpu s h = settle_task-by P k hw cpu (own_verdicts hw s cpu) (task_on s cpu) (change_context (context.Processor cpu) (settle_lists hw cpu []) s)
    (k (context.Processor cpu) (settle_lists hw cpu []) s h)

pub settle_each-by : (P : Stage → Type 0) → KeptByContexts P → (hw : Hardware) (cpus : List CpuNo) (s : Stage) → P s → P (settle_each hw cpus s)
unfolding settle_each
settle_each-by P k hw [] s h = h
settle_each-by P k hw (cpu ∷ cpus) s h = settle_each-by P k hw cpus (settle hw cpu s) (settle-by P k hw cpu s h)

pub settle_all-by : (P : Stage → Type 0) → KeptByContexts P → (hw : Hardware) (s : Stage) → P s → P (settle_all hw s)
unfolding settle_all
settle_all-by P k hw s h = settle_each-by P k hw (all_cpus s) s h

turn_task-by : (P : Stage → Type 0) → KeptByContexts P → (hw : Hardware) (cpu : CpuNo) (js : List Judged) (to : Option TaskNo) (s : Stage) → P s → P (turn_task hw cpu js to s)
turn_task-by P k hw cpu js None s h = h
turn_task-by P k hw cpu js (Some task) s h = k (context.Task task) (turn_lists hw cpu js) s h

pub rotated-by : (P : Stage → Type 0) → KeptByContexts P → (hw : Hardware) (cpu : CpuNo) (s : Stage) → P s → P (rotated hw cpu s)
unfolding rotated
rotated-by P k hw cpu s h =
    let js : List Judged = verdicts hw s cpu in
    turn_task-by P k hw cpu js (task_on s cpu) (change_context (context.Processor cpu) (turn_lists hw cpu js) s) (k (context.Processor cpu) (turn_lists hw cpu js) s h)
