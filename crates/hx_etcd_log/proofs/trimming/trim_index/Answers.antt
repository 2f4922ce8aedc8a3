use Rattle.std.proofs.Common.{◌≡◌, ◌+◌, ◌-◌, ◌≤◌, arith}
use Rattle.hx_etcd_log.proofs.Trims.{index_has, index_last}
use Rattle.hx_etcd_log.proofs.trimming.trim_index.Goals as goal

pub returns-in_err-least-clause-none : goal.returns-in_err-least-clause-none
returns-in_err-least-clause-none c = rw c.from_residual.ensures (λ n lt all. c.in_err-least.ensures.none n c.args.stay all)

pub returns-then-least-stay-clause-none : goal.returns-then-least-stay-clause-none
returns-then-least-stay-clause-none c = λ n lt all.
    let le = index_last c.args.counts.now c.in_ok-least.least c.args.stay n c.in_ok-least.ensures.some all in
    absurd (omega (arith, lt, le, c.if-least-stay.true))

pub returns-then-index-gt1-clause-some : goal.returns-then-index-gt1-clause-some
returns-then-index-gt1-clause-some c = (
  omega (arith, c.if-index-gt1.true),
  index_has c.args.counts.now c.in_ok-least.least c.args.stay (c.in_ok-least.least - c.args.stay) c.in_ok-least.ensures.some (omega (arith, c.if-least-stay.false)),
)

pub returns-then-index-gt1-clause-last : goal.returns-then-index-gt1-clause-last
returns-then-index-gt1-clause-last c = λ m all.
    let le = index_last c.args.counts.now c.in_ok-least.least c.args.stay m c.in_ok-least.ensures.some all in
    omega (arith, le)

pub returns-else-index-gt1-clause-none : goal.returns-else-index-gt1-clause-none
returns-else-index-gt1-clause-none c = λ n lt all.
    let le = index_last c.args.counts.now c.in_ok-least.least c.args.stay n c.in_ok-least.ensures.some all in
    absurd (omega (arith, lt, le, c.if-least-stay.false, c.if-index-gt1.false))
