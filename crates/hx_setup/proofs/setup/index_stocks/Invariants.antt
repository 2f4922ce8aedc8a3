use Rattle.std.proofs.Common.{◌≡◌, take}
use Rattle.hx_setup.specs.Setups.{locates_of}
use Rattle.hx_setup.proofs.setup.index_stocks.Given as goal

abbrev pub invariant-loop-stock : goal.invariant-loop-stock
invariant-loop-stock l = (l.locates.entries ≡ locates_of (take l.stock-index l.fn.stocks)) × (l.locate ≡ l.stock-index)
