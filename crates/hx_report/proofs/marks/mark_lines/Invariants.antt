use Rattle.std.proofs.Common.{◌≡◌, map, take}
use Rattle.hx_audit.specs.Auditing.{choice_of}
use Rattle.hx_report.specs.Marks.{marked_by}
use Rattle.hx_report.proofs.marks.mark_lines.Given as goal

abbrev pub invariant-loop-line : goal.invariant-loop-line
invariant-loop-line l = l.marks.items ≡ map (marked_by (choice_of l.auditor.whose l.auditor.market)) (take l.line-index l.lines)
