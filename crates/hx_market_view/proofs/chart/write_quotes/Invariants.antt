use Rattle.std.proofs.Common.{◌≡◌, ◌++◌, take}
use Rattle.std.specs.List.{flat_map}
use Rattle.hx_market_view.specs.Texts.{quote_tokens}
use Rattle.hx_market_view.proofs.chart.write_quotes.Given as goal

abbrev pub invariant-loop-quote : goal.invariant-loop-quote
invariant-loop-quote l =
    (l.writer.before ≡ l.initial.writer.before)
    × (l.writer.tokens
    ≡ l.initial.writer.tokens ++ flat_map quote_tokens (take l.quote-index l.quotes))
