-- A worked day of trading halts and broken trades: its messages, and the output of each, worked out by hand from the
-- rules of the market.
use Rattle.std.specs.Prelude.{ℕ, codes, List, [], ◌∷◌}
use Rattle.hx_refs.specs.Numbers.{private_reference}
use Rattle.hx_itch.specs.declared.message.Feed.{Feed}
use Rattle.hx_itch.specs.declared.message.Feed.TheVariants.{StockTradingAction, BrokenTrade}
use Rattle.hx_ouch.specs.declared.outbound.Outbound.TheVariants.{BrokenTrade as OutputBroken}
use Rattle.hx_units.specs.Letters.{letter}
use Rattle.hx_rules.specs.declared.event.Event.{Event}
use Rattle.hx_rules.specs.declared.event.Event.TheVariants.{Halt, Break}
use Rattle.hx_market.specs.Outputs.{Reply, EventOutput}
use Rattle.hx_market_tests.specs.Days.{buy, sell, immediate, day, shown, hidden, added_liquidity, hidden_liquidity, removed_liquidity, by_user, h1, s1, s2, t1, t2, abcd, enter_order, accepted, filled, canceled, rejected, replace_order, cancel_order, taken_off, added, executed, traded, tells}

-- Trading State (ITCH 5.0): `H` halted, `T` trading
abbrev pub halted : ℕ
halted = letter "H"

abbrev pub trading : ℕ
trading = letter "T"

-- Rejected, Reason (OUCH 4.2): `H`
abbrev pub for_the_halt : ℕ
for_the_halt = letter "H"

-- Broken Trade, Reason (OUCH 4.2): `S`
abbrev pub by_the_supervisor : ℕ
by_the_supervisor = letter "S"

-- why a stock is halted
abbrev pub news : List ℕ
news = codes "T1  "

abbrev pub stock_is : (time state : ℕ) → Event
stock_is time state = Halt time abcd state news

abbrev pub stock_output : (time state : ℕ) → Feed
stock_output time state =
    StockTradingAction (record {
      locate = 1;
      time = time;
      stock = abcd;
      trading_state = state;
      reason = news;
    })

abbrev pub broken : (time match_number : ℕ) → Feed
broken time match_number =
    BrokenTrade (record { locate = 1; time = time; match_number = match_number })

abbrev pub output_broken : (member time : ℕ) (token : List ℕ) (match_number : ℕ) → Reply
output_broken member time token match_number = (
  member,
  OutputBroken (record {
    time = time;
    token = record { 0 = token };
    match_number = match_number;
    reason = by_the_supervisor;
  }),
)

-- a halt, its end, and executions that are broken
abbrev pub halts_and_breaks : List Event
halts_and_breaks =
    enter_order 10 1 t1 buy 100 100000 day shown 0 ∷
    enter_order 20 2 h1 buy 50 100000 day hidden 0 ∷
    stock_is 30 halted ∷
    enter_order 40 2 s1 sell 50 100000 immediate hidden 0 ∷
    replace_order 50 1 t1 t2 200 100000 day shown 0 ∷
    cancel_order 60 1 t1 60 ∷
    stock_is 70 trading ∷
    enter_order 80 2 s2 sell 80 100000 immediate hidden 0 ∷
    Break 90 1 ∷
    Break 100 1 ∷
    Break 110 9 ∷
    Break 115 2 ∷
    enter_order 120 1 t2 buy 100 99900 day shown 0 ∷ []

abbrev pub halts_and_breaks_tells : List EventOutput
halts_and_breaks_tells =
    tells
    (added 10 1 buy 100 100000 ∷ [])
    (accepted 1 10 t1 buy 100 100000 day shown 1 0 ∷ []) ∷
    tells [] (accepted 2 20 h1 buy 50 100000 day hidden (private_reference 2 1) 0 ∷ []) ∷
    tells (stock_output 30 halted ∷ []) [] ∷
    tells [] (rejected 2 40 s1 for_the_halt ∷ []) ∷
    tells [] [] ∷
    tells (taken_off 60 1 40 ∷ []) (canceled 1 60 t1 40 by_user ∷ []) ∷
    tells (stock_output 70 trading ∷ []) [] ∷
    tells
    (executed 80 1 60 1 ∷
    traded 80 20 100000 2 ∷ [])
    (accepted 2 80 s2 sell 80 100000 immediate hidden (private_reference 2 2) 0 ∷
    filled 1 80 t1 60 100000 added_liquidity 1 ∷
    filled 2 80 s2 60 100000 removed_liquidity 1 ∷
    filled 2 80 h1 20 100000 hidden_liquidity 2 ∷
    filled 2 80 s2 20 100000 removed_liquidity 2 ∷ []) ∷
    tells
    (broken 90 1 ∷ [])
    (output_broken 1 90 t1 1 ∷
    output_broken 2 90 s2 1 ∷ []) ∷
    tells [] [] ∷
    tells [] [] ∷
    tells
    (broken 115 2 ∷ [])
    (output_broken 2 115 h1 2 ∷
    output_broken 2 115 s2 2 ∷ []) ∷
    tells
    (added 120 2 buy 100 99900 ∷ [])
    (accepted 1 120 t2 buy 100 99900 day shown 2 0 ∷ []) ∷ []

-- the same without the messages of the second member's quiet chains: its sell in the halt
abbrev pub halts_and_breaks_struck : List Event
halts_and_breaks_struck =
    enter_order 10 1 t1 buy 100 100000 day shown 0 ∷
    enter_order 20 2 h1 buy 50 100000 day hidden 0 ∷
    stock_is 30 halted ∷
    replace_order 50 1 t1 t2 200 100000 day shown 0 ∷
    cancel_order 60 1 t1 60 ∷
    stock_is 70 trading ∷
    enter_order 80 2 s2 sell 80 100000 immediate hidden 0 ∷
    Break 90 1 ∷
    Break 100 1 ∷
    Break 110 9 ∷
    Break 115 2 ∷
    enter_order 120 1 t2 buy 100 99900 day shown 0 ∷ []
