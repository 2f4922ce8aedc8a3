use Rattle.std.proofs.Common.{◌≡◌, ◌++◌, take}
use Rattle.std.specs.List.{flat_map}
use Rattle.hx_market_view.specs.Texts.{trade_tokens}
use Rattle.hx_market_view.proofs.text.write_trades.Given as goal

abbrev pub invariant-loop-trade : goal.invariant-loop-trade
invariant-loop-trade l =
    (l.writer.before ≡ l.initial.writer.before)
    × (l.writer.tokens
    ≡ l.initial.writer.tokens ++ flat_map trade_tokens (take l.trade-index l.trades))
