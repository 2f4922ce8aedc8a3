use Rattle.std.proofs.Common.{◌-◌, length}
use Rattle.hx_setup.specs.declared.stock.Stock.{Stock}
use Rattle.hx_setup.specs.SetupText.{stock_line}
use Rattle.hx_setup.specs.Reading.{AreStocks}
use Rattle.hx_setup.proofs.Growing.{Keeps}
use Rattle.hx_setup.proofs.reading.read_stocks.Given as goal

abbrev pub invariant-loop-symbols : goal.invariant-loop-symbols
invariant-loop-symbols l = Keeps stock_line AreStocks (λ (s : Stock). s.symbol) l.fn.text l.rest l.stocks.items l.symbols.keys

abbrev pub decreases-loop-symbols : goal.decreases-loop-symbols
decreases-loop-symbols l = 1000 - length l.stocks.items
