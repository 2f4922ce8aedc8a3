use Rattle.std.proofs.Common.{◌≡◌, true, false, ap, ◌∙◌}
use Rattle.hx_market.specs.QuietChains.{is_quiet}
use Rattle.hx_audit.proofs.QuietTokens.{quiet_of_nobody}
use Rattle.hx_audit.proofs.selection.is_quiet_of_number.Goals as goal

pub returns-in-Some : goal.returns-in-Some
returns-in-Some c =
    let m = c.args.market.now in
    c.is_quiet.ensures ∙ ap (λ n. is_quiet m.market n c.args.token.now) c.in-Some.ensures.value

pub returns-in-None : goal.returns-in-None
returns-in-None c =
    quiet_of_nobody c.args.market.now.market c.args.member c.args.token.now c.requires.of_members (λ m. absurd (let z : false ≡ true = c.in-None.ensures.exists.1 m in cc))
