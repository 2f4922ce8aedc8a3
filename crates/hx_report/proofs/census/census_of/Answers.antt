use Rattle.std.proofs.Common.{refl, map}
use Rattle.hx_tape_lines.specs.Events.{event_of}
use Rattle.hx_report.proofs.Noting.{census_noted}
use Rattle.hx_report.proofs.census.census_of.Goals as goal

pub returns : goal.returns
returns c es are text =
    census_noted c.args.setup.now (map event_of es) c.in_ok-market.field-0 _ c.deref.result.now (c.in_ok-market.ensures es are text) c.deref.ensures.value c.in_ok-chain_marks.ensures refl refl
