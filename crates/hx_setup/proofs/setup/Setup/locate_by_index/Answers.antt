use Rattle.std.proofs.Common.{ap, ◌∙◌}
use Rattle.std.specs.Map.{lookup}
use Rattle.hx_units.specs.Names.{is_symbol}
use Rattle.hx_setup.specs.Setups.{locate_of}
use Rattle.hx_setup.proofs.SetupLaws.{lookup-locates_of}
use Rattle.hx_setup.proofs.setup.Setup.locate_by_index.Goals as goal

pub returns : goal.returns
returns c =
    c.copied.ensures ∙ c.get.ensures.value ∙ ap (lookup (is_symbol c.args.symbol)) c.self.invariant.1
    ∙ lookup-locates_of 1 c.self.inside.stocks.items c.args.symbol ∙ ap (λ v. locate_of v c.args.symbol) c.self.view_is
