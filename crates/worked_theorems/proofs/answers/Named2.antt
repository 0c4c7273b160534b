-- Worked cases, written by tools/maintain/script_terms.py from texts and their reports.
use Rattle.std.specs.Prelude.{List, [], ◌∷◌, Some, None, codes}
use Rattle.std.proofs.Common.{refl}
use Rattle.perf_base.specs.declared.attr.Kind.TheVariants as kind
use Rattle.perf_base.specs.declared.attr.TaskSel.TheVariants as tasks
use Rattle.perf_base.specs.declared.attr.CpuSel.TheVariants as cpus
use Rattle.perf_base.specs.declared.lines.CpuLine.TheVariants as cpu_line
use Rattle.perf_base.specs.declared.lines.ToolLine.TheVariants as tool_line
use Rattle.perf_base.specs.declared.reasons.Reason.TheVariants as reason
use Rattle.perf_base.specs.declared.reply.Reply.{Reply}
use Rattle.perf_base.specs.declared.reply.Reply.TheVariants as reply
use Rattle.perf_base.specs.Scripts.{Scripted}
use Rattle.worked_theorems.proofs.answers.Words.{task, slot, by_cpu, by_tool, pmu, kind_line, attr, eight, four}
use Rattle.worked_theorems.proofs.answers.Answering.{Answers, Computed, computed}

copies_full : Scripted
copies_full = record {
  cpus = 1;
  pmus = pmu 1 1 ∷ [];
  kinds = kind_line (codes "a") 0 1 ∷ [];
  tasks = task 0 ∷ [];
  rings = [];
  cpu_lines = eight ((
      cpu_line.Switch (Some (task 0)) ∷
      cpu_line.Fork (task 1) ∷
      cpu_line.Fork (task 2) ∷
      cpu_line.Fork (task 3) ∷
      cpu_line.Fork (task 4) ∷
      cpu_line.Fork (task 5) ∷
      cpu_line.Fork (task 6) ∷
      cpu_line.Fork (task 7) ∷
      cpu_line.Fork (task 8) ∷
      cpu_line.Fork (task 9) ∷
      cpu_line.Fork (task 10) ∷
      cpu_line.Fork (task 11) ∷
      cpu_line.Fork (task 12) ∷
      cpu_line.Fork (task 13) ∷
      cpu_line.Fork (task 14) ∷
      cpu_line.Fork (task 15) ∷
      cpu_line.Fork (task 16) ∷
      cpu_line.Fork (task 17) ∷
      []) ∷ []);
  tool_lines = four ((
      tool_line.Open (slot 0) (attr (kind.Hard 0) (tasks.One (task 0)) cpus.Any 0 0 3 2) None ∷
      tool_line.Open (slot 1) (attr (kind.Hard 0) (tasks.One (task 0)) cpus.Any 0 0 3 2) None ∷
      tool_line.Open (slot 2) (attr (kind.Hard 0) (tasks.One (task 0)) cpus.Any 0 0 3 2) None ∷
      tool_line.Open (slot 3) (attr (kind.Hard 0) (tasks.One (task 0)) cpus.Any 0 0 3 2) None ∷
      tool_line.Open (slot 4) (attr (kind.Hard 0) (tasks.One (task 0)) cpus.Any 0 0 3 2) None ∷
      tool_line.Open (slot 5) (attr (kind.Hard 0) (tasks.One (task 0)) cpus.Any 0 0 3 2) None ∷
      tool_line.Open (slot 6) (attr (kind.Hard 0) (tasks.One (task 0)) cpus.Any 0 0 3 2) None ∷
      tool_line.Open (slot 7) (attr (kind.Hard 0) (tasks.One (task 0)) cpus.Any 0 0 3 2) None ∷
      tool_line.Open (slot 8) (attr (kind.Hard 0) (tasks.One (task 0)) cpus.Any 0 0 3 2) None ∷
      tool_line.Open (slot 9) (attr (kind.Hard 0) (tasks.One (task 0)) cpus.Any 0 0 3 2) None ∷
      tool_line.Open (slot 10) (attr (kind.Hard 0) (tasks.One (task 0)) cpus.Any 0 0 3 2) None ∷
      tool_line.Open (slot 11) (attr (kind.Hard 0) (tasks.One (task 0)) cpus.Any 0 0 3 2) None ∷
      tool_line.Open (slot 12) (attr (kind.Hard 0) (tasks.One (task 0)) cpus.Any 0 0 3 2) None ∷
      tool_line.Open (slot 13) (attr (kind.Hard 0) (tasks.One (task 0)) cpus.Any 0 0 3 2) None ∷
      tool_line.Open (slot 14) (attr (kind.Hard 0) (tasks.One (task 0)) cpus.Any 0 0 3 2) None ∷
      tool_line.Open (slot 15) (attr (kind.Hard 0) (tasks.One (task 0)) cpus.Any 0 0 3 2) None ∷
      tool_line.Open (slot 16) (attr (kind.Hard 0) (tasks.One (task 0)) cpus.Any 0 0 3 2) None ∷
      tool_line.Open (slot 17) (attr (kind.Hard 0) (tasks.One (task 0)) cpus.Any 0 0 3 2) None ∷
      tool_line.Open (slot 18) (attr (kind.Hard 0) (tasks.One (task 0)) cpus.Any 0 0 3 2) None ∷
      tool_line.Open (slot 19) (attr (kind.Hard 0) (tasks.One (task 0)) cpus.Any 0 0 3 2) None ∷
      tool_line.Open (slot 20) (attr (kind.Hard 0) (tasks.One (task 0)) cpus.Any 0 0 3 2) None ∷
      tool_line.Open (slot 21) (attr (kind.Hard 0) (tasks.One (task 0)) cpus.Any 0 0 3 2) None ∷
      tool_line.Open (slot 22) (attr (kind.Hard 0) (tasks.One (task 0)) cpus.Any 0 0 3 2) None ∷
      tool_line.Open (slot 23) (attr (kind.Hard 0) (tasks.One (task 0)) cpus.Any 0 0 3 2) None ∷
      tool_line.Open (slot 24) (attr (kind.Hard 0) (tasks.One (task 0)) cpus.Any 0 0 3 2) None ∷
      tool_line.Open (slot 25) (attr (kind.Hard 0) (tasks.One (task 0)) cpus.Any 0 0 3 2) None ∷
      tool_line.Open (slot 26) (attr (kind.Hard 0) (tasks.One (task 0)) cpus.Any 0 0 3 2) None ∷
      tool_line.Open (slot 27) (attr (kind.Hard 0) (tasks.One (task 0)) cpus.Any 0 0 3 2) None ∷
      tool_line.Open (slot 28) (attr (kind.Hard 0) (tasks.One (task 0)) cpus.Any 0 0 3 2) None ∷
      tool_line.Open (slot 29) (attr (kind.Hard 0) (tasks.One (task 0)) cpus.Any 0 0 3 2) None ∷
      tool_line.Open (slot 30) (attr (kind.Hard 0) (tasks.One (task 0)) cpus.Any 0 0 3 2) None ∷
      tool_line.Open (slot 31) (attr (kind.Hard 0) (tasks.One (task 0)) cpus.Any 0 0 3 2) None ∷
      tool_line.Open (slot 32) (attr (kind.Hard 0) (tasks.One (task 0)) cpus.Any 0 0 3 2) None ∷
      tool_line.Open (slot 33) (attr (kind.Hard 0) (tasks.One (task 0)) cpus.Any 0 0 3 2) None ∷
      tool_line.Open (slot 34) (attr (kind.Hard 0) (tasks.One (task 0)) cpus.Any 0 0 3 2) None ∷
      tool_line.Open (slot 35) (attr (kind.Hard 0) (tasks.One (task 0)) cpus.Any 0 0 3 2) None ∷
      tool_line.Open (slot 36) (attr (kind.Hard 0) (tasks.One (task 0)) cpus.Any 0 0 3 2) None ∷
      tool_line.Open (slot 37) (attr (kind.Hard 0) (tasks.One (task 0)) cpus.Any 0 0 3 2) None ∷
      tool_line.Open (slot 38) (attr (kind.Hard 0) (tasks.One (task 0)) cpus.Any 0 0 3 2) None ∷
      tool_line.Open (slot 39) (attr (kind.Hard 0) (tasks.One (task 0)) cpus.Any 0 0 3 2) None ∷
      tool_line.Open (slot 40) (attr (kind.Hard 0) (tasks.One (task 0)) cpus.Any 0 0 3 2) None ∷
      tool_line.Open (slot 41) (attr (kind.Hard 0) (tasks.One (task 0)) cpus.Any 0 0 3 2) None ∷
      tool_line.Open (slot 42) (attr (kind.Hard 0) (tasks.One (task 0)) cpus.Any 0 0 3 2) None ∷
      tool_line.Open (slot 43) (attr (kind.Hard 0) (tasks.One (task 0)) cpus.Any 0 0 3 2) None ∷
      tool_line.Open (slot 44) (attr (kind.Hard 0) (tasks.One (task 0)) cpus.Any 0 0 3 2) None ∷
      tool_line.Open (slot 45) (attr (kind.Hard 0) (tasks.One (task 0)) cpus.Any 0 0 3 2) None ∷
      tool_line.Open (slot 46) (attr (kind.Hard 0) (tasks.One (task 0)) cpus.Any 0 0 3 2) None ∷
      tool_line.Open (slot 47) (attr (kind.Hard 0) (tasks.One (task 0)) cpus.Any 0 0 3 2) None ∷
      tool_line.Open (slot 48) (attr (kind.Hard 0) (tasks.One (task 0)) cpus.Any 0 0 3 2) None ∷
      tool_line.Open (slot 49) (attr (kind.Hard 0) (tasks.One (task 0)) cpus.Any 0 0 3 2) None ∷
      tool_line.Open (slot 50) (attr (kind.Hard 0) (tasks.One (task 0)) cpus.Any 0 0 3 2) None ∷
      tool_line.Open (slot 51) (attr (kind.Hard 0) (tasks.One (task 0)) cpus.Any 0 0 3 2) None ∷
      tool_line.Open (slot 52) (attr (kind.Hard 0) (tasks.One (task 0)) cpus.Any 0 0 3 2) None ∷
      tool_line.Open (slot 53) (attr (kind.Hard 0) (tasks.One (task 0)) cpus.Any 0 0 3 2) None ∷
      tool_line.Open (slot 54) (attr (kind.Hard 0) (tasks.One (task 0)) cpus.Any 0 0 3 2) None ∷
      tool_line.Open (slot 55) (attr (kind.Hard 0) (tasks.One (task 0)) cpus.Any 0 0 3 2) None ∷
      tool_line.Open (slot 56) (attr (kind.Hard 0) (tasks.One (task 0)) cpus.Any 0 0 3 2) None ∷
      tool_line.Open (slot 57) (attr (kind.Hard 0) (tasks.One (task 0)) cpus.Any 0 0 3 2) None ∷
      tool_line.Open (slot 58) (attr (kind.Hard 0) (tasks.One (task 0)) cpus.Any 0 0 3 2) None ∷
      tool_line.Open (slot 59) (attr (kind.Hard 0) (tasks.One (task 0)) cpus.Any 0 0 3 2) None ∷
      tool_line.Open (slot 60) (attr (kind.Hard 0) (tasks.One (task 0)) cpus.Any 0 0 3 2) None ∷
      tool_line.Open (slot 61) (attr (kind.Hard 0) (tasks.One (task 0)) cpus.Any 0 0 3 2) None ∷
      tool_line.Open (slot 62) (attr (kind.Hard 0) (tasks.One (task 0)) cpus.Any 0 0 3 2) None ∷
      tool_line.Open (slot 63) (attr (kind.Hard 0) (tasks.One (task 0)) cpus.Any 0 0 3 2) None ∷
      tool_line.Open (slot 64) (attr (kind.Hard 0) (tasks.One (task 0)) cpus.Any 0 0 3 2) None ∷
      tool_line.Open (slot 65) (attr (kind.Hard 0) (tasks.One (task 0)) cpus.Any 0 0 3 2) None ∷
      tool_line.Open (slot 66) (attr (kind.Hard 0) (tasks.One (task 0)) cpus.Any 0 0 3 2) None ∷
      tool_line.Open (slot 67) (attr (kind.Hard 0) (tasks.One (task 0)) cpus.Any 0 0 3 2) None ∷
      tool_line.Open (slot 68) (attr (kind.Hard 0) (tasks.One (task 0)) cpus.Any 0 0 3 2) None ∷
      tool_line.Open (slot 69) (attr (kind.Hard 0) (tasks.One (task 0)) cpus.Any 0 0 3 2) None ∷
      tool_line.Open (slot 70) (attr (kind.Hard 0) (tasks.One (task 0)) cpus.Any 0 0 3 2) None ∷
      tool_line.Open (slot 71) (attr (kind.Hard 0) (tasks.One (task 0)) cpus.Any 0 0 3 2) None ∷
      tool_line.Open (slot 72) (attr (kind.Hard 0) (tasks.One (task 0)) cpus.Any 0 0 3 2) None ∷
      tool_line.Open (slot 73) (attr (kind.Hard 0) (tasks.One (task 0)) cpus.Any 0 0 3 2) None ∷
      tool_line.Open (slot 74) (attr (kind.Hard 0) (tasks.One (task 0)) cpus.Any 0 0 3 2) None ∷
      tool_line.Open (slot 75) (attr (kind.Hard 0) (tasks.One (task 0)) cpus.Any 0 0 3 2) None ∷
      tool_line.Open (slot 76) (attr (kind.Hard 0) (tasks.One (task 0)) cpus.Any 0 0 3 2) None ∷
      tool_line.Open (slot 77) (attr (kind.Hard 0) (tasks.One (task 0)) cpus.Any 0 0 3 2) None ∷
      tool_line.Open (slot 78) (attr (kind.Hard 0) (tasks.One (task 0)) cpus.Any 0 0 3 2) None ∷
      tool_line.Open (slot 79) (attr (kind.Hard 0) (tasks.One (task 0)) cpus.Any 0 0 3 2) None ∷
      tool_line.Open (slot 80) (attr (kind.Hard 0) (tasks.One (task 0)) cpus.Any 0 0 3 2) None ∷
      tool_line.Open (slot 81) (attr (kind.Hard 0) (tasks.One (task 0)) cpus.Any 0 0 3 2) None ∷
      tool_line.Open (slot 82) (attr (kind.Hard 0) (tasks.One (task 0)) cpus.Any 0 0 3 2) None ∷
      tool_line.Open (slot 83) (attr (kind.Hard 0) (tasks.One (task 0)) cpus.Any 0 0 3 2) None ∷
      tool_line.Open (slot 84) (attr (kind.Hard 0) (tasks.One (task 0)) cpus.Any 0 0 3 2) None ∷
      tool_line.Open (slot 85) (attr (kind.Hard 0) (tasks.One (task 0)) cpus.Any 0 0 3 2) None ∷
      tool_line.Open (slot 86) (attr (kind.Hard 0) (tasks.One (task 0)) cpus.Any 0 0 3 2) None ∷
      tool_line.Open (slot 87) (attr (kind.Hard 0) (tasks.One (task 0)) cpus.Any 0 0 3 2) None ∷
      tool_line.Open (slot 88) (attr (kind.Hard 0) (tasks.One (task 0)) cpus.Any 0 0 3 2) None ∷
      tool_line.Open (slot 89) (attr (kind.Hard 0) (tasks.One (task 0)) cpus.Any 0 0 3 2) None ∷
      tool_line.Open (slot 90) (attr (kind.Hard 0) (tasks.One (task 0)) cpus.Any 0 0 3 2) None ∷
      tool_line.Open (slot 91) (attr (kind.Hard 0) (tasks.One (task 0)) cpus.Any 0 0 3 2) None ∷
      tool_line.Open (slot 92) (attr (kind.Hard 0) (tasks.One (task 0)) cpus.Any 0 0 3 2) None ∷
      tool_line.Open (slot 93) (attr (kind.Hard 0) (tasks.One (task 0)) cpus.Any 0 0 3 2) None ∷
      tool_line.Open (slot 94) (attr (kind.Hard 0) (tasks.One (task 0)) cpus.Any 0 0 3 2) None ∷
      tool_line.Open (slot 95) (attr (kind.Hard 0) (tasks.One (task 0)) cpus.Any 0 0 3 2) None ∷
      tool_line.Open (slot 96) (attr (kind.Hard 0) (tasks.One (task 0)) cpus.Any 0 0 3 2) None ∷
      tool_line.Open (slot 97) (attr (kind.Hard 0) (tasks.One (task 0)) cpus.Any 0 0 3 2) None ∷
      tool_line.Open (slot 98) (attr (kind.Hard 0) (tasks.One (task 0)) cpus.Any 0 0 3 2) None ∷
      tool_line.Open (slot 99) (attr (kind.Hard 0) (tasks.One (task 0)) cpus.Any 0 0 3 2) None ∷
      tool_line.Open (slot 100) (attr (kind.Hard 0) (tasks.One (task 0)) cpus.Any 0 0 3 2) None ∷
      tool_line.Open (slot 101) (attr (kind.Hard 0) (tasks.One (task 0)) cpus.Any 0 0 3 2) None ∷
      tool_line.Open (slot 102) (attr (kind.Hard 0) (tasks.One (task 0)) cpus.Any 0 0 3 2) None ∷
      tool_line.Open (slot 103) (attr (kind.Hard 0) (tasks.One (task 0)) cpus.Any 0 0 3 2) None ∷
      tool_line.Open (slot 104) (attr (kind.Hard 0) (tasks.One (task 0)) cpus.Any 0 0 3 2) None ∷
      tool_line.Open (slot 105) (attr (kind.Hard 0) (tasks.One (task 0)) cpus.Any 0 0 3 2) None ∷
      tool_line.Open (slot 106) (attr (kind.Hard 0) (tasks.One (task 0)) cpus.Any 0 0 3 2) None ∷
      tool_line.Open (slot 107) (attr (kind.Hard 0) (tasks.One (task 0)) cpus.Any 0 0 3 2) None ∷
      tool_line.Open (slot 108) (attr (kind.Hard 0) (tasks.One (task 0)) cpus.Any 0 0 3 2) None ∷
      tool_line.Open (slot 109) (attr (kind.Hard 0) (tasks.One (task 0)) cpus.Any 0 0 3 2) None ∷
      tool_line.Open (slot 110) (attr (kind.Hard 0) (tasks.One (task 0)) cpus.Any 0 0 3 2) None ∷
      tool_line.Open (slot 111) (attr (kind.Hard 0) (tasks.One (task 0)) cpus.Any 0 0 3 2) None ∷
      tool_line.Open (slot 112) (attr (kind.Hard 0) (tasks.One (task 0)) cpus.Any 0 0 3 2) None ∷
      tool_line.Open (slot 113) (attr (kind.Hard 0) (tasks.One (task 0)) cpus.Any 0 0 3 2) None ∷
      tool_line.Open (slot 114) (attr (kind.Hard 0) (tasks.One (task 0)) cpus.Any 0 0 3 2) None ∷
      tool_line.Open (slot 115) (attr (kind.Hard 0) (tasks.One (task 0)) cpus.Any 0 0 3 2) None ∷
      tool_line.Open (slot 116) (attr (kind.Hard 0) (tasks.One (task 0)) cpus.Any 0 0 3 2) None ∷
      tool_line.Open (slot 117) (attr (kind.Hard 0) (tasks.One (task 0)) cpus.Any 0 0 3 2) None ∷
      tool_line.Open (slot 118) (attr (kind.Hard 0) (tasks.One (task 0)) cpus.Any 0 0 3 2) None ∷
      tool_line.Open (slot 119) (attr (kind.Hard 0) (tasks.One (task 0)) cpus.Any 0 0 3 2) None ∷
      tool_line.Open (slot 120) (attr (kind.Hard 0) (tasks.One (task 0)) cpus.Any 0 0 3 2) None ∷
      tool_line.Open (slot 121) (attr (kind.Hard 0) (tasks.One (task 0)) cpus.Any 0 0 3 2) None ∷
      tool_line.Open (slot 122) (attr (kind.Hard 0) (tasks.One (task 0)) cpus.Any 0 0 3 2) None ∷
      tool_line.Open (slot 123) (attr (kind.Hard 0) (tasks.One (task 0)) cpus.Any 0 0 3 2) None ∷
      tool_line.Open (slot 124) (attr (kind.Hard 0) (tasks.One (task 0)) cpus.Any 0 0 3 2) None ∷
      tool_line.Open (slot 125) (attr (kind.Hard 0) (tasks.One (task 0)) cpus.Any 0 0 3 2) None ∷
      tool_line.Open (slot 126) (attr (kind.Hard 0) (tasks.One (task 0)) cpus.Any 0 0 3 2) None ∷
      tool_line.Open (slot 127) (attr (kind.Hard 0) (tasks.One (task 0)) cpus.Any 0 0 3 2) None ∷
      tool_line.Open (slot 128) (attr (kind.Hard 0) (tasks.One (task 0)) cpus.Any 0 0 3 2) None ∷
      tool_line.Open (slot 129) (attr (kind.Hard 0) (tasks.One (task 0)) cpus.Any 0 0 3 2) None ∷
      tool_line.Open (slot 130) (attr (kind.Hard 0) (tasks.One (task 0)) cpus.Any 0 0 3 2) None ∷
      tool_line.Open (slot 131) (attr (kind.Hard 0) (tasks.One (task 0)) cpus.Any 0 0 3 2) None ∷
      tool_line.Open (slot 132) (attr (kind.Hard 0) (tasks.One (task 0)) cpus.Any 0 0 3 2) None ∷
      tool_line.Open (slot 133) (attr (kind.Hard 0) (tasks.One (task 0)) cpus.Any 0 0 3 2) None ∷
      tool_line.Open (slot 134) (attr (kind.Hard 0) (tasks.One (task 0)) cpus.Any 0 0 3 2) None ∷
      tool_line.Open (slot 135) (attr (kind.Hard 0) (tasks.One (task 0)) cpus.Any 0 0 3 2) None ∷
      tool_line.Open (slot 136) (attr (kind.Hard 0) (tasks.One (task 0)) cpus.Any 0 0 3 2) None ∷
      tool_line.Open (slot 137) (attr (kind.Hard 0) (tasks.One (task 0)) cpus.Any 0 0 3 2) None ∷
      tool_line.Open (slot 138) (attr (kind.Hard 0) (tasks.One (task 0)) cpus.Any 0 0 3 2) None ∷
      tool_line.Open (slot 139) (attr (kind.Hard 0) (tasks.One (task 0)) cpus.Any 0 0 3 2) None ∷
      tool_line.Open (slot 140) (attr (kind.Hard 0) (tasks.One (task 0)) cpus.Any 0 0 3 2) None ∷
      tool_line.Open (slot 141) (attr (kind.Hard 0) (tasks.One (task 0)) cpus.Any 0 0 3 2) None ∷
      tool_line.Open (slot 142) (attr (kind.Hard 0) (tasks.One (task 0)) cpus.Any 0 0 3 2) None ∷
      tool_line.Open (slot 143) (attr (kind.Hard 0) (tasks.One (task 0)) cpus.Any 0 0 3 2) None ∷
      tool_line.Open (slot 144) (attr (kind.Hard 0) (tasks.One (task 0)) cpus.Any 0 0 3 2) None ∷
      tool_line.Open (slot 145) (attr (kind.Hard 0) (tasks.One (task 0)) cpus.Any 0 0 3 2) None ∷
      tool_line.Open (slot 146) (attr (kind.Hard 0) (tasks.One (task 0)) cpus.Any 0 0 3 2) None ∷
      tool_line.Open (slot 147) (attr (kind.Hard 0) (tasks.One (task 0)) cpus.Any 0 0 3 2) None ∷
      tool_line.Open (slot 148) (attr (kind.Hard 0) (tasks.One (task 0)) cpus.Any 0 0 3 2) None ∷
      tool_line.Open (slot 149) (attr (kind.Hard 0) (tasks.One (task 0)) cpus.Any 0 0 3 2) None ∷
      tool_line.Open (slot 150) (attr (kind.Hard 0) (tasks.One (task 0)) cpus.Any 0 0 3 2) None ∷
      tool_line.Open (slot 151) (attr (kind.Hard 0) (tasks.One (task 0)) cpus.Any 0 0 3 2) None ∷
      tool_line.Open (slot 152) (attr (kind.Hard 0) (tasks.One (task 0)) cpus.Any 0 0 3 2) None ∷
      tool_line.Open (slot 153) (attr (kind.Hard 0) (tasks.One (task 0)) cpus.Any 0 0 3 2) None ∷
      tool_line.Open (slot 154) (attr (kind.Hard 0) (tasks.One (task 0)) cpus.Any 0 0 3 2) None ∷
      tool_line.Open (slot 155) (attr (kind.Hard 0) (tasks.One (task 0)) cpus.Any 0 0 3 2) None ∷
      tool_line.Open (slot 156) (attr (kind.Hard 0) (tasks.One (task 0)) cpus.Any 0 0 3 2) None ∷
      tool_line.Open (slot 157) (attr (kind.Hard 0) (tasks.One (task 0)) cpus.Any 0 0 3 2) None ∷
      tool_line.Open (slot 158) (attr (kind.Hard 0) (tasks.One (task 0)) cpus.Any 0 0 3 2) None ∷
      tool_line.Open (slot 159) (attr (kind.Hard 0) (tasks.One (task 0)) cpus.Any 0 0 3 2) None ∷
      tool_line.Open (slot 160) (attr (kind.Hard 0) (tasks.One (task 0)) cpus.Any 0 0 3 2) None ∷
      tool_line.Open (slot 161) (attr (kind.Hard 0) (tasks.One (task 0)) cpus.Any 0 0 3 2) None ∷
      tool_line.Open (slot 162) (attr (kind.Hard 0) (tasks.One (task 0)) cpus.Any 0 0 3 2) None ∷
      tool_line.Open (slot 163) (attr (kind.Hard 0) (tasks.One (task 0)) cpus.Any 0 0 3 2) None ∷
      tool_line.Open (slot 164) (attr (kind.Hard 0) (tasks.One (task 0)) cpus.Any 0 0 3 2) None ∷
      tool_line.Open (slot 165) (attr (kind.Hard 0) (tasks.One (task 0)) cpus.Any 0 0 3 2) None ∷
      tool_line.Open (slot 166) (attr (kind.Hard 0) (tasks.One (task 0)) cpus.Any 0 0 3 2) None ∷
      tool_line.Open (slot 167) (attr (kind.Hard 0) (tasks.One (task 0)) cpus.Any 0 0 3 2) None ∷
      tool_line.Open (slot 168) (attr (kind.Hard 0) (tasks.One (task 0)) cpus.Any 0 0 3 2) None ∷
      tool_line.Open (slot 169) (attr (kind.Hard 0) (tasks.One (task 0)) cpus.Any 0 0 3 2) None ∷
      tool_line.Open (slot 170) (attr (kind.Hard 0) (tasks.One (task 0)) cpus.Any 0 0 3 2) None ∷
      tool_line.Open (slot 171) (attr (kind.Hard 0) (tasks.One (task 0)) cpus.Any 0 0 3 2) None ∷
      tool_line.Open (slot 172) (attr (kind.Hard 0) (tasks.One (task 0)) cpus.Any 0 0 3 2) None ∷
      tool_line.Open (slot 173) (attr (kind.Hard 0) (tasks.One (task 0)) cpus.Any 0 0 3 2) None ∷
      tool_line.Open (slot 174) (attr (kind.Hard 0) (tasks.One (task 0)) cpus.Any 0 0 3 2) None ∷
      tool_line.Open (slot 175) (attr (kind.Hard 0) (tasks.One (task 0)) cpus.Any 0 0 3 2) None ∷
      tool_line.Open (slot 176) (attr (kind.Hard 0) (tasks.One (task 0)) cpus.Any 0 0 3 2) None ∷
      tool_line.Open (slot 177) (attr (kind.Hard 0) (tasks.One (task 0)) cpus.Any 0 0 3 2) None ∷
      tool_line.Open (slot 178) (attr (kind.Hard 0) (tasks.One (task 0)) cpus.Any 0 0 3 2) None ∷
      tool_line.Open (slot 179) (attr (kind.Hard 0) (tasks.One (task 0)) cpus.Any 0 0 3 2) None ∷
      tool_line.Open (slot 180) (attr (kind.Hard 0) (tasks.One (task 0)) cpus.Any 0 0 3 2) None ∷
      tool_line.Open (slot 181) (attr (kind.Hard 0) (tasks.One (task 0)) cpus.Any 0 0 3 2) None ∷
      tool_line.Open (slot 182) (attr (kind.Hard 0) (tasks.One (task 0)) cpus.Any 0 0 3 2) None ∷
      tool_line.Open (slot 183) (attr (kind.Hard 0) (tasks.One (task 0)) cpus.Any 0 0 3 2) None ∷
      tool_line.Open (slot 184) (attr (kind.Hard 0) (tasks.One (task 0)) cpus.Any 0 0 3 2) None ∷
      tool_line.Open (slot 185) (attr (kind.Hard 0) (tasks.One (task 0)) cpus.Any 0 0 3 2) None ∷
      tool_line.Open (slot 186) (attr (kind.Hard 0) (tasks.One (task 0)) cpus.Any 0 0 3 2) None ∷
      tool_line.Open (slot 187) (attr (kind.Hard 0) (tasks.One (task 0)) cpus.Any 0 0 3 2) None ∷
      tool_line.Open (slot 188) (attr (kind.Hard 0) (tasks.One (task 0)) cpus.Any 0 0 3 2) None ∷
      tool_line.Open (slot 189) (attr (kind.Hard 0) (tasks.One (task 0)) cpus.Any 0 0 3 2) None ∷
      tool_line.Open (slot 190) (attr (kind.Hard 0) (tasks.One (task 0)) cpus.Any 0 0 3 2) None ∷
      tool_line.Open (slot 191) (attr (kind.Hard 0) (tasks.One (task 0)) cpus.Any 0 0 3 2) None ∷
      tool_line.Open (slot 192) (attr (kind.Hard 0) (tasks.One (task 0)) cpus.Any 0 0 3 2) None ∷
      tool_line.Open (slot 193) (attr (kind.Hard 0) (tasks.One (task 0)) cpus.Any 0 0 3 2) None ∷
      tool_line.Open (slot 194) (attr (kind.Hard 0) (tasks.One (task 0)) cpus.Any 0 0 3 2) None ∷
      tool_line.Open (slot 195) (attr (kind.Hard 0) (tasks.One (task 0)) cpus.Any 0 0 3 2) None ∷
      tool_line.Open (slot 196) (attr (kind.Hard 0) (tasks.One (task 0)) cpus.Any 0 0 3 2) None ∷
      tool_line.Open (slot 197) (attr (kind.Hard 0) (tasks.One (task 0)) cpus.Any 0 0 3 2) None ∷
      tool_line.Open (slot 198) (attr (kind.Hard 0) (tasks.One (task 0)) cpus.Any 0 0 3 2) None ∷
      tool_line.Open (slot 199) (attr (kind.Hard 0) (tasks.One (task 0)) cpus.Any 0 0 3 2) None ∷
      tool_line.Open (slot 200) (attr (kind.Hard 0) (tasks.One (task 0)) cpus.Any 0 0 3 2) None ∷
      tool_line.Open (slot 201) (attr (kind.Hard 0) (tasks.One (task 0)) cpus.Any 0 0 3 2) None ∷
      tool_line.Open (slot 202) (attr (kind.Hard 0) (tasks.One (task 0)) cpus.Any 0 0 3 2) None ∷
      tool_line.Open (slot 203) (attr (kind.Hard 0) (tasks.One (task 0)) cpus.Any 0 0 3 2) None ∷
      tool_line.Open (slot 204) (attr (kind.Hard 0) (tasks.One (task 0)) cpus.Any 0 0 3 2) None ∷
      tool_line.Open (slot 205) (attr (kind.Hard 0) (tasks.One (task 0)) cpus.Any 0 0 3 2) None ∷
      tool_line.Open (slot 206) (attr (kind.Hard 0) (tasks.One (task 0)) cpus.Any 0 0 3 2) None ∷
      tool_line.Open (slot 207) (attr (kind.Hard 0) (tasks.One (task 0)) cpus.Any 0 0 3 2) None ∷
      tool_line.Open (slot 208) (attr (kind.Hard 0) (tasks.One (task 0)) cpus.Any 0 0 3 2) None ∷
      tool_line.Open (slot 209) (attr (kind.Hard 0) (tasks.One (task 0)) cpus.Any 0 0 3 2) None ∷
      tool_line.Open (slot 210) (attr (kind.Hard 0) (tasks.One (task 0)) cpus.Any 0 0 3 2) None ∷
      tool_line.Open (slot 211) (attr (kind.Hard 0) (tasks.One (task 0)) cpus.Any 0 0 3 2) None ∷
      tool_line.Open (slot 212) (attr (kind.Hard 0) (tasks.One (task 0)) cpus.Any 0 0 3 2) None ∷
      tool_line.Open (slot 213) (attr (kind.Hard 0) (tasks.One (task 0)) cpus.Any 0 0 3 2) None ∷
      tool_line.Open (slot 214) (attr (kind.Hard 0) (tasks.One (task 0)) cpus.Any 0 0 3 2) None ∷
      tool_line.Open (slot 215) (attr (kind.Hard 0) (tasks.One (task 0)) cpus.Any 0 0 3 2) None ∷
      tool_line.Open (slot 216) (attr (kind.Hard 0) (tasks.One (task 0)) cpus.Any 0 0 3 2) None ∷
      tool_line.Open (slot 217) (attr (kind.Hard 0) (tasks.One (task 0)) cpus.Any 0 0 3 2) None ∷
      tool_line.Open (slot 218) (attr (kind.Hard 0) (tasks.One (task 0)) cpus.Any 0 0 3 2) None ∷
      tool_line.Open (slot 219) (attr (kind.Hard 0) (tasks.One (task 0)) cpus.Any 0 0 3 2) None ∷
      tool_line.Open (slot 220) (attr (kind.Hard 0) (tasks.One (task 0)) cpus.Any 0 0 3 2) None ∷
      tool_line.Open (slot 221) (attr (kind.Hard 0) (tasks.One (task 0)) cpus.Any 0 0 3 2) None ∷
      tool_line.Open (slot 222) (attr (kind.Hard 0) (tasks.One (task 0)) cpus.Any 0 0 3 2) None ∷
      tool_line.Open (slot 223) (attr (kind.Hard 0) (tasks.One (task 0)) cpus.Any 0 0 3 2) None ∷
      tool_line.Open (slot 224) (attr (kind.Hard 0) (tasks.One (task 0)) cpus.Any 0 0 3 2) None ∷
      tool_line.Open (slot 225) (attr (kind.Hard 0) (tasks.One (task 0)) cpus.Any 0 0 3 2) None ∷
      tool_line.Open (slot 226) (attr (kind.Hard 0) (tasks.One (task 0)) cpus.Any 0 0 3 2) None ∷
      tool_line.Open (slot 227) (attr (kind.Hard 0) (tasks.One (task 0)) cpus.Any 0 0 3 2) None ∷
      tool_line.Open (slot 228) (attr (kind.Hard 0) (tasks.One (task 0)) cpus.Any 0 0 3 2) None ∷
      tool_line.Open (slot 229) (attr (kind.Hard 0) (tasks.One (task 0)) cpus.Any 0 0 3 2) None ∷
      tool_line.Open (slot 230) (attr (kind.Hard 0) (tasks.One (task 0)) cpus.Any 0 0 3 2) None ∷
      tool_line.Open (slot 231) (attr (kind.Hard 0) (tasks.One (task 0)) cpus.Any 0 0 3 2) None ∷
      tool_line.Open (slot 232) (attr (kind.Hard 0) (tasks.One (task 0)) cpus.Any 0 0 3 2) None ∷
      tool_line.Open (slot 233) (attr (kind.Hard 0) (tasks.One (task 0)) cpus.Any 0 0 3 2) None ∷
      tool_line.Open (slot 234) (attr (kind.Hard 0) (tasks.One (task 0)) cpus.Any 0 0 3 2) None ∷
      tool_line.Open (slot 235) (attr (kind.Hard 0) (tasks.One (task 0)) cpus.Any 0 0 3 2) None ∷
      tool_line.Open (slot 236) (attr (kind.Hard 0) (tasks.One (task 0)) cpus.Any 0 0 3 2) None ∷
      tool_line.Open (slot 237) (attr (kind.Hard 0) (tasks.One (task 0)) cpus.Any 0 0 3 2) None ∷
      tool_line.Open (slot 238) (attr (kind.Hard 0) (tasks.One (task 0)) cpus.Any 0 0 3 2) None ∷
      tool_line.Open (slot 239) (attr (kind.Hard 0) (tasks.One (task 0)) cpus.Any 0 0 3 2) None ∷
      tool_line.Open (slot 240) (attr (kind.Hard 0) (tasks.One (task 0)) cpus.Any 0 0 3 2) None ∷
      tool_line.Open (slot 241) (attr (kind.Hard 0) (tasks.One (task 0)) cpus.Any 0 0 3 2) None ∷
      tool_line.Open (slot 242) (attr (kind.Hard 0) (tasks.One (task 0)) cpus.Any 0 0 3 2) None ∷
      tool_line.Open (slot 243) (attr (kind.Hard 0) (tasks.One (task 0)) cpus.Any 0 0 3 2) None ∷
      tool_line.Open (slot 244) (attr (kind.Hard 0) (tasks.One (task 0)) cpus.Any 0 0 3 2) None ∷
      tool_line.Open (slot 245) (attr (kind.Hard 0) (tasks.One (task 0)) cpus.Any 0 0 3 2) None ∷
      tool_line.Open (slot 246) (attr (kind.Hard 0) (tasks.One (task 0)) cpus.Any 0 0 3 2) None ∷
      tool_line.Open (slot 247) (attr (kind.Hard 0) (tasks.One (task 0)) cpus.Any 0 0 3 2) None ∷
      tool_line.Open (slot 248) (attr (kind.Hard 0) (tasks.One (task 0)) cpus.Any 0 0 3 2) None ∷
      tool_line.Open (slot 249) (attr (kind.Hard 0) (tasks.One (task 0)) cpus.Any 0 0 3 2) None ∷
      tool_line.Open (slot 250) (attr (kind.Hard 0) (tasks.One (task 0)) cpus.Any 0 0 3 2) None ∷
      tool_line.Open (slot 251) (attr (kind.Hard 0) (tasks.One (task 0)) cpus.Any 0 0 3 2) None ∷
      tool_line.Open (slot 252) (attr (kind.Hard 0) (tasks.One (task 0)) cpus.Any 0 0 3 2) None ∷
      tool_line.Open (slot 253) (attr (kind.Hard 0) (tasks.One (task 0)) cpus.Any 0 0 3 2) None ∷
      tool_line.Open (slot 254) (attr (kind.Hard 0) (tasks.One (task 0)) cpus.Any 0 0 3 2) None ∷
      tool_line.Open (slot 255) (attr (kind.Hard 0) (tasks.One (task 0)) cpus.Any 0 0 3 2) None ∷
      []) ∷ []);
  readers = [];
  order = by_tool 0 ∷ by_tool 0 ∷ by_tool 0 ∷ by_tool 0 ∷ by_tool 0 ∷ by_tool 0 ∷ by_tool 0 ∷ by_tool 0 ∷ by_tool 0 ∷ by_tool 0 ∷ by_tool 0 ∷
      by_tool 0 ∷ by_tool 0 ∷ by_tool 0 ∷ by_tool 0 ∷ by_tool 0 ∷ by_tool 0 ∷ by_tool 0 ∷ by_tool 0 ∷ by_tool 0 ∷ by_tool 0 ∷ by_tool 0 ∷ by_tool 0 ∷
      by_tool 0 ∷ by_tool 0 ∷ by_tool 0 ∷ by_tool 0 ∷ by_tool 0 ∷ by_tool 0 ∷ by_tool 0 ∷ by_tool 0 ∷ by_tool 0 ∷ by_tool 0 ∷ by_tool 0 ∷ by_tool 0 ∷
      by_tool 0 ∷ by_tool 0 ∷ by_tool 0 ∷ by_tool 0 ∷ by_tool 0 ∷ by_tool 0 ∷ by_tool 0 ∷ by_tool 0 ∷ by_tool 0 ∷ by_tool 0 ∷ by_tool 0 ∷ by_tool 0 ∷
      by_tool 0 ∷ by_tool 0 ∷ by_tool 0 ∷ by_tool 0 ∷ by_tool 0 ∷ by_tool 0 ∷ by_tool 0 ∷ by_tool 0 ∷ by_tool 0 ∷ by_tool 0 ∷ by_tool 0 ∷ by_tool 0 ∷
      by_tool 0 ∷ by_tool 0 ∷ by_tool 0 ∷ by_tool 0 ∷ by_tool 0 ∷ by_tool 0 ∷ by_tool 0 ∷ by_tool 0 ∷ by_tool 0 ∷ by_tool 0 ∷ by_tool 0 ∷ by_tool 0 ∷
      by_tool 0 ∷ by_tool 0 ∷ by_tool 0 ∷ by_tool 0 ∷ by_tool 0 ∷ by_tool 0 ∷ by_tool 0 ∷ by_tool 0 ∷ by_tool 0 ∷ by_tool 0 ∷ by_tool 0 ∷ by_tool 0 ∷
      by_tool 0 ∷ by_tool 0 ∷ by_tool 0 ∷ by_tool 0 ∷ by_tool 0 ∷ by_tool 0 ∷ by_tool 0 ∷ by_tool 0 ∷ by_tool 0 ∷ by_tool 0 ∷ by_tool 0 ∷ by_tool 0 ∷
      by_tool 0 ∷ by_tool 0 ∷ by_tool 0 ∷ by_tool 0 ∷ by_tool 0 ∷ by_tool 0 ∷ by_tool 0 ∷ by_tool 0 ∷ by_tool 0 ∷ by_tool 0 ∷ by_tool 0 ∷ by_tool 0 ∷
      by_tool 0 ∷ by_tool 0 ∷ by_tool 0 ∷ by_tool 0 ∷ by_tool 0 ∷ by_tool 0 ∷ by_tool 0 ∷ by_tool 0 ∷ by_tool 0 ∷ by_tool 0 ∷ by_tool 0 ∷ by_tool 0 ∷
      by_tool 0 ∷ by_tool 0 ∷ by_tool 0 ∷ by_tool 0 ∷ by_tool 0 ∷ by_tool 0 ∷ by_tool 0 ∷ by_tool 0 ∷ by_tool 0 ∷ by_tool 0 ∷ by_tool 0 ∷ by_tool 0 ∷
      by_tool 0 ∷ by_tool 0 ∷ by_tool 0 ∷ by_tool 0 ∷ by_tool 0 ∷ by_tool 0 ∷ by_tool 0 ∷ by_tool 0 ∷ by_tool 0 ∷ by_tool 0 ∷ by_tool 0 ∷ by_tool 0 ∷
      by_tool 0 ∷ by_tool 0 ∷ by_tool 0 ∷ by_tool 0 ∷ by_tool 0 ∷ by_tool 0 ∷ by_tool 0 ∷ by_tool 0 ∷ by_tool 0 ∷ by_tool 0 ∷ by_tool 0 ∷ by_tool 0 ∷
      by_tool 0 ∷ by_tool 0 ∷ by_tool 0 ∷ by_tool 0 ∷ by_tool 0 ∷ by_tool 0 ∷ by_tool 0 ∷ by_tool 0 ∷ by_tool 0 ∷ by_tool 0 ∷ by_tool 0 ∷ by_tool 0 ∷
      by_tool 0 ∷ by_tool 0 ∷ by_tool 0 ∷ by_tool 0 ∷ by_tool 0 ∷ by_tool 0 ∷ by_tool 0 ∷ by_tool 0 ∷ by_tool 0 ∷ by_tool 0 ∷ by_tool 0 ∷ by_tool 0 ∷
      by_tool 0 ∷ by_tool 0 ∷ by_tool 0 ∷ by_tool 0 ∷ by_tool 0 ∷ by_tool 0 ∷ by_tool 0 ∷ by_tool 0 ∷ by_tool 0 ∷ by_tool 0 ∷ by_tool 0 ∷ by_tool 0 ∷
      by_tool 0 ∷ by_tool 0 ∷ by_tool 0 ∷ by_tool 0 ∷ by_tool 0 ∷ by_tool 0 ∷ by_tool 0 ∷ by_tool 0 ∷ by_tool 0 ∷ by_tool 0 ∷ by_tool 0 ∷ by_tool 0 ∷
      by_tool 0 ∷ by_tool 0 ∷ by_tool 0 ∷ by_tool 0 ∷ by_tool 0 ∷ by_tool 0 ∷ by_tool 0 ∷ by_tool 0 ∷ by_tool 0 ∷ by_tool 0 ∷ by_tool 0 ∷ by_tool 0 ∷
      by_tool 0 ∷ by_tool 0 ∷ by_tool 0 ∷ by_tool 0 ∷ by_tool 0 ∷ by_tool 0 ∷ by_tool 0 ∷ by_tool 0 ∷ by_tool 0 ∷ by_tool 0 ∷ by_tool 0 ∷ by_tool 0 ∷
      by_tool 0 ∷ by_tool 0 ∷ by_tool 0 ∷ by_tool 0 ∷ by_tool 0 ∷ by_tool 0 ∷ by_tool 0 ∷ by_tool 0 ∷ by_tool 0 ∷ by_tool 0 ∷ by_tool 0 ∷ by_tool 0 ∷
      by_tool 0 ∷ by_tool 0 ∷ by_tool 0 ∷ by_tool 0 ∷ by_tool 0 ∷ by_tool 0 ∷ by_tool 0 ∷ by_tool 0 ∷ by_tool 0 ∷ by_tool 0 ∷ by_tool 0 ∷ by_tool 0 ∷
      by_tool 0 ∷ by_tool 0 ∷ by_tool 0 ∷ by_tool 0 ∷ by_tool 0 ∷ by_cpu 0 ∷ by_cpu 0 ∷ by_cpu 0 ∷ by_cpu 0 ∷ by_cpu 0 ∷ by_cpu 0 ∷ by_cpu 0 ∷
      by_cpu 0 ∷ by_cpu 0 ∷ by_cpu 0 ∷ by_cpu 0 ∷ by_cpu 0 ∷ by_cpu 0 ∷ by_cpu 0 ∷ by_cpu 0 ∷ by_cpu 0 ∷ by_cpu 0 ∷ by_cpu 0 ∷ [];
}

copies_full_replies : List Reply
copies_full_replies = reply.Ok ∷ reply.Ok ∷ reply.Ok ∷ reply.Ok ∷ reply.Ok ∷ reply.Ok ∷ reply.Ok ∷ reply.Ok ∷ reply.Ok ∷ reply.Ok ∷ reply.Ok ∷
    reply.Ok ∷ reply.Ok ∷ reply.Ok ∷ reply.Ok ∷ reply.Ok ∷ reply.Ok ∷ reply.Ok ∷ reply.Ok ∷ reply.Ok ∷ reply.Ok ∷ reply.Ok ∷ reply.Ok ∷ reply.Ok ∷
    reply.Ok ∷ reply.Ok ∷ reply.Ok ∷ reply.Ok ∷ reply.Ok ∷ reply.Ok ∷ reply.Ok ∷ reply.Ok ∷ reply.Ok ∷ reply.Ok ∷ reply.Ok ∷ reply.Ok ∷ reply.Ok ∷
    reply.Ok ∷ reply.Ok ∷ reply.Ok ∷ reply.Ok ∷ reply.Ok ∷ reply.Ok ∷ reply.Ok ∷ reply.Ok ∷ reply.Ok ∷ reply.Ok ∷ reply.Ok ∷ reply.Ok ∷ reply.Ok ∷
    reply.Ok ∷ reply.Ok ∷ reply.Ok ∷ reply.Ok ∷ reply.Ok ∷ reply.Ok ∷ reply.Ok ∷ reply.Ok ∷ reply.Ok ∷ reply.Ok ∷ reply.Ok ∷ reply.Ok ∷ reply.Ok ∷
    reply.Ok ∷ reply.Ok ∷ reply.Ok ∷ reply.Ok ∷ reply.Ok ∷ reply.Ok ∷ reply.Ok ∷ reply.Ok ∷ reply.Ok ∷ reply.Ok ∷ reply.Ok ∷ reply.Ok ∷ reply.Ok ∷
    reply.Ok ∷ reply.Ok ∷ reply.Ok ∷ reply.Ok ∷ reply.Ok ∷ reply.Ok ∷ reply.Ok ∷ reply.Ok ∷ reply.Ok ∷ reply.Ok ∷ reply.Ok ∷ reply.Ok ∷ reply.Ok ∷
    reply.Ok ∷ reply.Ok ∷ reply.Ok ∷ reply.Ok ∷ reply.Ok ∷ reply.Ok ∷ reply.Ok ∷ reply.Ok ∷ reply.Ok ∷ reply.Ok ∷ reply.Ok ∷ reply.Ok ∷ reply.Ok ∷
    reply.Ok ∷ reply.Ok ∷ reply.Ok ∷ reply.Ok ∷ reply.Ok ∷ reply.Ok ∷ reply.Ok ∷ reply.Ok ∷ reply.Ok ∷ reply.Ok ∷ reply.Ok ∷ reply.Ok ∷ reply.Ok ∷
    reply.Ok ∷ reply.Ok ∷ reply.Ok ∷ reply.Ok ∷ reply.Ok ∷ reply.Ok ∷ reply.Ok ∷ reply.Ok ∷ reply.Ok ∷ reply.Ok ∷ reply.Ok ∷ reply.Ok ∷ reply.Ok ∷
    reply.Ok ∷ reply.Ok ∷ reply.Ok ∷ reply.Ok ∷ reply.Ok ∷ reply.Ok ∷ reply.Ok ∷ reply.Ok ∷ reply.Ok ∷ reply.Ok ∷ reply.Ok ∷ reply.Ok ∷ reply.Ok ∷
    reply.Ok ∷ reply.Ok ∷ reply.Ok ∷ reply.Ok ∷ reply.Ok ∷ reply.Ok ∷ reply.Ok ∷ reply.Ok ∷ reply.Ok ∷ reply.Ok ∷ reply.Ok ∷ reply.Ok ∷ reply.Ok ∷
    reply.Ok ∷ reply.Ok ∷ reply.Ok ∷ reply.Ok ∷ reply.Ok ∷ reply.Ok ∷ reply.Ok ∷ reply.Ok ∷ reply.Ok ∷ reply.Ok ∷ reply.Ok ∷ reply.Ok ∷ reply.Ok ∷
    reply.Ok ∷ reply.Ok ∷ reply.Ok ∷ reply.Ok ∷ reply.Ok ∷ reply.Ok ∷ reply.Ok ∷ reply.Ok ∷ reply.Ok ∷ reply.Ok ∷ reply.Ok ∷ reply.Ok ∷ reply.Ok ∷
    reply.Ok ∷ reply.Ok ∷ reply.Ok ∷ reply.Ok ∷ reply.Ok ∷ reply.Ok ∷ reply.Ok ∷ reply.Ok ∷ reply.Ok ∷ reply.Ok ∷ reply.Ok ∷ reply.Ok ∷ reply.Ok ∷
    reply.Ok ∷ reply.Ok ∷ reply.Ok ∷ reply.Ok ∷ reply.Ok ∷ reply.Ok ∷ reply.Ok ∷ reply.Ok ∷ reply.Ok ∷ reply.Ok ∷ reply.Ok ∷ reply.Ok ∷ reply.Ok ∷
    reply.Ok ∷ reply.Ok ∷ reply.Ok ∷ reply.Ok ∷ reply.Ok ∷ reply.Ok ∷ reply.Ok ∷ reply.Ok ∷ reply.Ok ∷ reply.Ok ∷ reply.Ok ∷ reply.Ok ∷ reply.Ok ∷
    reply.Ok ∷ reply.Ok ∷ reply.Ok ∷ reply.Ok ∷ reply.Ok ∷ reply.Ok ∷ reply.Ok ∷ reply.Ok ∷ reply.Ok ∷ reply.Ok ∷ reply.Ok ∷ reply.Ok ∷ reply.Ok ∷
    reply.Ok ∷ reply.Ok ∷ reply.Ok ∷ reply.Ok ∷ reply.Ok ∷ reply.Ok ∷ reply.Ok ∷ reply.Ok ∷ reply.Ok ∷ reply.Ok ∷ reply.Ok ∷ reply.Ok ∷ reply.Ok ∷
    reply.Ok ∷ reply.Ok ∷ reply.Ok ∷ reply.Ok ∷ reply.Ok ∷ reply.Ok ∷ reply.Ok ∷ reply.Ok ∷ reply.Ok ∷ reply.Ok ∷ reply.Ok ∷ reply.Ok ∷ reply.Ok ∷
    reply.Ok ∷ reply.Ok ∷ reply.Ok ∷ reply.Ok ∷ reply.Ok ∷ reply.Ok ∷ reply.Ok ∷ reply.Ok ∷ reply.Ok ∷ reply.Ok ∷ reply.Ok ∷ reply.Ok ∷ reply.Ok ∷
    reply.Ok ∷ reply.Ok ∷ reply.Refused reason.CopiesFull ∷ []

copies_full-answers : Answers copies_full copies_full_replies
unfolding Computed copies_full copies_full_replies
copies_full-answers = computed copies_full copies_full_replies (refl, (refl, (refl, (refl, (refl, (refl, (refl, (refl, (refl, (refl, (refl, (refl, (refl, (refl, (refl, (refl, (refl, (refl, (refl, (refl, (refl, (refl, (refl, (refl, (refl, (refl, (refl, (refl, (refl, (refl, (refl, (refl, (refl, (refl, (refl, (refl, (refl, (refl, (refl, (refl, (refl, (refl, (refl, (refl, (refl, (refl, (refl, (refl, (refl, (refl, (refl, (refl, (refl, (refl, (refl, (refl, (refl, (refl, (refl, (refl, (refl, (refl, (refl, (refl, (refl, (refl, (refl, (refl, (refl, (refl, (refl, (refl, (refl, (refl, (refl, (refl, (refl, (refl, (refl, (refl, (refl, (refl, (refl, (refl, (refl, (refl, (refl, (refl, (refl, (refl, (refl, (refl, (refl, (refl, (refl, (refl, (refl, (refl, (refl, (refl, (refl, (refl, (refl, (refl, (refl, (refl, (refl, (refl, (refl, (refl, (refl, (refl, (refl, (refl, (refl, (refl, (refl, (refl, (refl, (refl, (refl, (refl, (refl, (refl, (refl, (refl, (refl, (refl, (refl, (refl, (refl, (refl, (refl, (refl, (refl, (refl, (refl, (refl, (refl, (refl, (refl, (refl, (refl, (refl, (refl, (refl, (refl, (refl, (refl, (refl, (refl, (refl, (refl, (refl, (refl, (refl, (refl, (refl, (refl, (refl, (refl, (refl, (refl, (refl, (refl, (refl, (refl, (refl, (refl, (refl, (refl, (refl, (refl, (refl, (refl, (refl, (refl, (refl, (refl, (refl, (refl, (refl, (refl, (refl, (refl, (refl, (refl, (refl, (refl, (refl, (refl, (refl, (refl, (refl, (refl, (refl, (refl, (refl, (refl, (refl, (refl, (refl, (refl, (refl, (refl, (refl, (refl, (refl, (refl, (refl, (refl, (refl, (refl, (refl, (refl, (refl, (refl, (refl, (refl, (refl, (refl, (refl, (refl, (refl, (refl, (refl, (refl, (refl, (refl, (refl, (refl, (refl, (refl, (refl, (refl, (refl, (refl, (refl, (refl, (refl, (refl, (refl, (refl, (refl, (refl, (refl, (refl, (refl, (refl, (refl, (refl, (refl, (refl, (refl, (refl, (refl, (refl, (refl, (refl, (refl, (refl, (refl, (refl, (refl, (refl, (refl, (refl, (refl, (refl, (refl, (refl, (refl, (refl, (refl, tt))))))))))))))))))))))))))))))))))))))))))))))))))))))))))))))))))))))))))))))))))))))))))))))))))))))))))))))))))))))))))))))))))))))))))))))))))))))))))))))))))))))))))))))))))))))))))))))))))))))))))))))))))))))))))))))))))))))))))))))))))))))))))))))))))))))))))))))))))
