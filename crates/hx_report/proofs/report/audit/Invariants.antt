use Rattle.std.proofs.Common.{◌≤◌, ◌-◌, List, length, take}
use Rattle.std.specs.List.{AllZip}
use Rattle.hx_tape_lines.specs.Text.{Entry}
use Rattle.hx_report.specs.Days.{IsDay}
use Rattle.hx_report.specs.Reports.{IsRow}
use Rattle.hx_report.proofs.report.audit.Given as goal

abbrev pub invariant-loop-progress : goal.invariant-loop-progress
invariant-loop-progress g l =
    record {
      few : length l.rows.items ≤ length l.members;
      rows : (es : List Entry) → IsDay l.day es → AllZip (IsRow l.day.setup es) (take (length l.rows.items) l.members) l.rows.items;
    }

abbrev pub decreases-loop-progress : goal.decreases-loop-progress
decreases-loop-progress g l = length l.members - length l.rows.items
