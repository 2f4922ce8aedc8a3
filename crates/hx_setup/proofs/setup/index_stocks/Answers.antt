use Rattle.std.proofs.Common.{◌≡◌, ◌+◌, suc, [], ap, ◌∙◌, take, get_or, arith}
use Rattle.std.proofs.lemmas.Option.{slice_get-get_or}
use Rattle.hx_units.specs.Names.{is_symbol}
use Rattle.hx_setup.specs.declared.stock.Stock.{Stock}
use Rattle.hx_setup.specs.Setups.{locates_of}
use Rattle.hx_setup.proofs.SetupLaws.{insert_entry-indices_by, apart-names}
use Rattle.indexmap.specs.IndexMap.{insert_entry}
use Rattle.hx_setup.proofs.setup.index_stocks.Goals as goal

pub loop-stock-preserved : goal.loop-stock-preserved
loop-stock-preserved c =
    let stocks = c.args.stocks.now in
    let i = c.loop-stock.stock-index in
    let none : Stock = record { symbol = record { 0 = [] }; tail = [] } in
    let here = slice_get-get_or stocks i none (omega (arith, c.loop-stock-test.true)) in
    let next : suc i ≡ i + 1 = omega arith in (
      c.in_ok-insert.ensures.entries
          ∙ ap (λ l. insert_entry is_symbol l (get_or stocks i none).symbol (c.loop-stock.locate + 1)) c.loop-stock.invariant.0
          ∙ insert_entry-indices_by is_symbol (λ (s : Stock). s.symbol) 1 stocks i (c.loop-stock.locate + 1) (get_or stocks i none) (apart-names stocks c.requires.names) here (omega (arith, c.loop-stock.invariant.1))
          ∙ ap (λ n. locates_of (take n stocks)) next,
      omega (arith, c.loop-stock.invariant.1),
    )
