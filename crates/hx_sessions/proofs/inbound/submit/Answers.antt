use Rattle.std.proofs.Common.{◌≡◌, ◌<◌, [], false, ap, sym, ◌∙◌, length, arith}
use Rattle.std.proofs.lemmas.Bool.{eqb-false}
use Rattle.hx_sessions.proofs.Passes.{carries_may}
use Rattle.hx_sessions.proofs.inbound.submit.Goals as goal

pub returns-clause-pass : goal.returns-clause-pass
returns-clause-pass g c =
    let d = c.submit_all-done in
    let filled : c.args.events.len ≡ 0 → ⊥ = eqb-false c.args.events.len 0 (sym c.is_empty.ensures ∙ c.if-is_empty.false) in
    let some : 0 < length c.args.events.items = omega (arith, filled, c.args.events.ok) in
    carries_may c.args.trader.now.may_send c.args.sender.now.pass d.new.sender.pass (λ e. absurd (omega (arith, some, ap length (c.requires.silent e)))) d.ensures.pass
