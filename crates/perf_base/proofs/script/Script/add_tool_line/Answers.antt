use Rattle.std.proofs.{Common.{subst, sym, ap, ◌<◌, length, arith}, lemmas.{List.{length-map}, Result.{err_from_is_err_and}}}
use Rattle.perf_base.{specs.Scripts.{IsScript, with_tool_line}, proofs.{Kept.{IsScript-tool_line}, ListsOfLists.{lists_push, lists_same}}}
use Rattle.perf_base.proofs.script.Script.add_tool_line.Goals.{In_ok-push}
use Rattle.perf_base.proofs.script.Script.add_tool_line.Goals as goal

within : (c : In_ok-push) → c.args.tool.0 < length c.self.inside.tool_lines
within c =
    let old = subst IsScript c.self.view_is c.self.invariant in
    omega (arith, length-map c.self.inside.tool_lines (λ v. v.items), c.self.invariant, old.cpus, c.requires.tool)

pub invariant_of-self : goal.invariant_of-self
invariant_of-self c = rw (lists_same (λ v. v.items) c.self.inside.tool_lines c.args.tool.0 c.index-self-tool.result c.push.new.self c.in_err-push.ensures.items) c.self.invariant

pub returns-in_err-push-clause-err : goal.returns-in_err-push-clause-err
returns-in_err-push-clause-err c =
    let p = err_from_is_err_and c.from_residual.result c.from_residual.ensures.1 in
    rw (p.1, lists_same (λ v. v.items) c.self.inside.tool_lines c.args.tool.0 c.index-self-tool.result c.push.new.self c.in_err-push.ensures.items) c.self.view_is

pub invariant_of-self-2 : goal.invariant_of-self-2
invariant_of-self-2 c =
    let old = subst IsScript c.self.view_is c.self.invariant in
    let new = IsScript-tool_line c.args.self.now c.args.tool c.args.line old c.requires.tool c.requires.line c.read_tool_line.ensures c.requires.few in
    rw (lists_push (λ v. v.items) c.self.inside.tool_lines c.args.tool.0 c.index-self-tool.result c.push.new.self c.args.line (within c) c.in_ok-push.ensures.items)
    (subst (λ s. IsScript (with_tool_line s c.args.tool c.args.line)) (sym c.self.view_is) new)

pub returns-clause-ok : goal.returns-clause-ok
returns-clause-ok c =
    rw (lists_push (λ v. v.items) c.self.inside.tool_lines c.args.tool.0 c.index-self-tool.result c.push.new.self c.args.line (within c) c.in_ok-push.ensures.items)
    (ap (λ s. with_tool_line s c.args.tool c.args.line) c.self.view_is)
