use Rattle.std.proofs.Common.{sym, ◌∙◌, eq-eqb}
use Rattle.std.proofs.lemmas.Bool.{ne_eqb}
use Rattle.hx_audit.proofs.QuietTokens.{quiet_of_another, quiet_of_himself}
use Rattle.hx_audit.proofs.selection.is_quiet_of.Goals as goal

pub returns-then-member-get : goal.returns-then-member-get
returns-then-member-get c =
    let one = c.in-Of.one in
    rw c.in-Of.is
    (c.is_quiet.ensures
    ∙ quiet_of_himself one c.args.member c.args.market.now.market c.args.token.now (eq-eqb c.args.member one (c.if-member-get.true ∙ c.get.ensures.value)))

pub returns-else-member-get : goal.returns-else-member-get
returns-else-member-get c =
    let one = c.in-Of.one in
    rw c.in-Of.is
    (ne_eqb c.args.member c.get.result c.if-member-get.false
    ∙ sym (quiet_of_another one c.args.member c.args.market.now.market c.args.token.now (ne_eqb c.args.member one (λ e. c.if-member-get.false (e ∙ sym c.get.ensures.value)))))
