use Rattle.std.proofs.Common.{◌≡◌, ◌+◌, List, length, take}
use Rattle.std.specs.List.{AllZip}
use Rattle.hx_tape_lines.specs.Text.{Entry}
use Rattle.hx_report.specs.Days.{IsDay}
use Rattle.hx_report.specs.Reports.{IsRow}
use Rattle.hx_report.proofs.report.add_rows.Given as goal

abbrev pub invariant-loop-made : goal.invariant-loop-made
invariant-loop-made g l =
    record {
      size : length l.rows.items ≡ length l.fn.rows.items + l.made-index;
      rows : (es : List Entry) → IsDay l.day es → AllZip (IsRow l.day.setup es) (take (length l.fn.rows.items) l.members) l.fn.rows.items
          → AllZip (IsRow l.day.setup es) (take (length l.rows.items) l.members) l.rows.items;
    }
