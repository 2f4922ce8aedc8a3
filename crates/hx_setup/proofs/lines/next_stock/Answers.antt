use Rattle.hx_setup.specs.SetupText.{stock_line, HasStockLine}
use Rattle.hx_setup.proofs.Spelling.{stock_feed, next_feed, next_line}
use Rattle.hx_setup.proofs.lines.next_stock.Goals as goal

pub returns-in_err-line-clause-none : goal.returns-in_err-line-clause-none
returns-in_err-line-clause-none c = rw c.from_residual.ensures (next_feed stock_line HasStockLine stock_feed c.args.text.now c.in_err-line.ensures.none)

pub returns-in_err-read_stock-clause-none : goal.returns-in_err-read_stock-clause-none
returns-in_err-read_stock-clause-none c = rw c.from_residual-in_err-read_stock.ensures (next_line stock_line HasStockLine stock_feed c.args.text.now c.in_ok-line.line.now c.in_ok-line.rest.now c.in_ok-line.ensures.some c.in_err-read_stock.ensures.none)
