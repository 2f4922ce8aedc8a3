-- What a report says of a day.
use Rattle.std.specs.Prelude.{◌≡◌, List, map}
use Rattle.std.specs.List.{AllZip}
use Rattle.hx_members.specs.Setups.{Setup}
use Rattle.hx_members.specs.Member.{Member}
use Rattle.hx_audit.specs.declared.auditor.Whose.TheVariants.{Of, OfAll}
use Rattle.hx_tape_lines.specs.Text.{Entry}
use Rattle.hx_tape_lines.specs.Events.{event_of}
use Rattle.hx_replay.specs.Run.{start, after_all, counts_of}
use Rattle.hx_report.specs.declared.looks.Look.TheVariants.{AllBut, Feed}
use Rattle.hx_report.specs.declared.rows.Row.{Row}
use Rattle.hx_report.specs.declared.report.Report.{Report}
use Rattle.hx_report.specs.Counts.{IsTally}
use Rattle.hx_report.specs.Days.{IsCheck}

-- a member's row: what is counted of its day, and what all others get of it without its quiet chains
pub record IsRow (setup : Setup) (es : List Entry) (member : Member) (row : Row) : Type 0 where
  pub member_is : row.member ≡ member.number
  pub tally : IsTally setup member.number (map event_of es) row.tally
  pub check : IsCheck setup es (Of member.number) (AllBut member.number) row.check

-- the report: what the day was, a row for each member of the setup, in its order, and the feed without the quiet chains
-- of all
pub record IsReport (setup : Setup) (es : List Entry) (report : Report) : Type 0 where
  pub counts : report.counts ≡ counts_of (after_all (start setup) es)
  pub rows : AllZip (IsRow setup es) setup.members report.rows.items
  pub all : IsCheck setup es OfAll Feed report.all
