use Rattle.std.proofs.{Common.{subst, sym, ap, ◌<◌, length, arith}, lemmas.{List.{length-map}, Result.{err_from_is_err_and}}}
use Rattle.perf_base.{specs.Scripts.{IsScript, with_cpu_line}, proofs.{Kept.{IsScript-cpu_line}, ListsOfLists.{lists_push, lists_same}}}
use Rattle.perf_base.proofs.script.Script.add_cpu_line.Goals.{In_ok-push}
use Rattle.perf_base.proofs.script.Script.add_cpu_line.Goals as goal

within : (c : In_ok-push) → c.args.cpu.0 < length c.self.inside.cpu_lines
within c =
    let old = subst IsScript c.self.view_is c.self.invariant in
    omega (arith, length-map c.self.inside.cpu_lines (λ v. v.items), c.self.invariant, old.cpus, c.requires.cpu)

pub invariant_of-self : goal.invariant_of-self
invariant_of-self c = rw (lists_same (λ v. v.items) c.self.inside.cpu_lines c.args.cpu.0 c.index-self-cpu.result c.push.new.self c.in_err-push.ensures.items) c.self.invariant

pub returns-in_err-push-clause-err : goal.returns-in_err-push-clause-err
returns-in_err-push-clause-err c =
    let p = err_from_is_err_and c.from_residual.result c.from_residual.ensures.1 in
    rw (p.1, lists_same (λ v. v.items) c.self.inside.cpu_lines c.args.cpu.0 c.index-self-cpu.result c.push.new.self c.in_err-push.ensures.items) c.self.view_is

pub invariant_of-self-2 : goal.invariant_of-self-2
invariant_of-self-2 c =
    let old = subst IsScript c.self.view_is c.self.invariant in
    let new = IsScript-cpu_line c.args.self.now c.args.cpu c.args.line old c.requires.cpu c.requires.line c.read_cpu_line.ensures c.requires.few in
    rw (lists_push (λ v. v.items) c.self.inside.cpu_lines c.args.cpu.0 c.index-self-cpu.result c.push.new.self c.args.line (within c) c.in_ok-push.ensures.items)
    (subst (λ s. IsScript (with_cpu_line s c.args.cpu c.args.line)) (sym c.self.view_is) new)

pub returns-clause-ok : goal.returns-clause-ok
returns-clause-ok c =
    rw (lists_push (λ v. v.items) c.self.inside.cpu_lines c.args.cpu.0 c.index-self-cpu.result c.push.new.self c.args.line (within c) c.in_ok-push.ensures.items)
    (ap (λ s. with_cpu_line s c.args.cpu c.args.line) c.self.view_is)
