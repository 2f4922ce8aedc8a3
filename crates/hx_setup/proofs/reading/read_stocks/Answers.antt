use Rattle.std.proofs.Common.{arith}
use Rattle.hx_setup.proofs.Growing.{stocks_step, stocks_end}
use Rattle.hx_setup.proofs.reading.read_stocks.Goals as goal

pub returns-then-not-branch : goal.returns-then-not-branch
returns-then-not-branch c =
    stocks_end c.args.text.now c.loop-symbols.rest.now c.in-Some.later.now c.loop-symbols.stocks.items c.in-Some.stock c.loop-symbols.symbols.keys c.in_ok-insert.field-0
    c.loop-symbols.invariant c.in-Some.ensures.some c.in_ok-insert.ensures.added c.if-not-branch.true

pub loop-symbols-preserved : goal.loop-symbols-preserved
loop-symbols-preserved c =
    stocks_step c.args.text.now c.loop-symbols.rest.now c.in-Some.later.now c.loop-symbols.stocks.items c.push.new.self.items c.in-Some.stock c.loop-symbols.symbols.keys c.insert.new.self.keys c.in_ok-insert.field-0
    c.loop-symbols.invariant c.in-Some.ensures.some (omega arith) c.in_ok-insert.ensures.added c.if-not-branch.false c.in_ok-insert.ensures.keys c.in_ok-push.ensures.items
