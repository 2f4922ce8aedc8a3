use Rattle.std.proofs.Common.{ap, ◌∙◌}
use Rattle.hx_market.specs.Markets.{opening}
use Rattle.hx_report.proofs.Noting.{nothing_noted}
use Rattle.hx_report.proofs.census.Notes.new.Goals as goal

pub returns : goal.returns
returns c =
    nothing_noted c.args.setup.now _ (c.in_ok-new.ensures.setup ∙ c.in_ok-copy.ensures.equal) (c.in_ok-new.ensures.market ∙ ap opening c.in_ok-copy.ensures.equal)
    c.new-5.ensures.items c.new-6.ensures.items c.new-7.ensures.items
