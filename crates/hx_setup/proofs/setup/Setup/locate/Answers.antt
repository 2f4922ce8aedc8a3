use Rattle.std.proofs.Common.{◌≡◌, true, sym, subst}
use Rattle.hx_setup.specs.Setups.{Setup, names_differ}
use Rattle.hx_setup.proofs.SetupLaws.{locate-at}
use Rattle.hx_setup.proofs.setup.Setup.locate.Goals as goal

pub returns-in-Some : goal.returns-in-Some
returns-in-Some c =
    let names = subst (λ (v : Setup). names_differ v.stocks ≡ true) c.self.view_is c.self.invariant.0.names in
    sym (locate-at c.args.self.now c.locate-guess.result c.in-Some.stock.now c.args.symbol names (sym c.in-Some.ensures) (sym c.if-is_same_symbol.ensures))
