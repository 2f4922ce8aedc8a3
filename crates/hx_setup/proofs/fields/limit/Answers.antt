use Rattle.std.proofs.Common.{◌≡◌, sym, ◌∙◌, arith}
use Rattle.hx_setup.proofs.Words.{decimal-same}
use Rattle.hx_setup.proofs.fields.limit.Goals as goal

pub returns-then-limit-eq0-clause-none : goal.returns-then-limit-eq0-clause-none
returns-then-limit-eq0-clause-none c = λ n some lt e.
    let same : c.in_ok-limit.limit ≡ n = decimal-same c.in_ok-limit.limit n (omega arith) lt (sym c.in_ok-limit.ensures.some.1 ∙ e) in
    omega (arith, some, same, c.if-limit-eq0.true)
