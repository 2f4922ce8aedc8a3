-- Trading halts (ITCH 5.0, Stock Trading Action Message). In a halt no order is accepted or
-- replaced (Enter, Replace); cancels, ticks and the hours go on. Nothing is matched as the stock
-- trades again.
use Rattle.std.specs.Prelude.{ℕ, Bool, true, false, ◌==◌, ◌||◌, List, [], ◌∷◌, Option, Some, None, slice_set}
use Rattle.hx_units.specs.declared.names.Symbol.{Symbol}
use Rattle.hx_members.specs.Setups.{Setup, locate_of}
use Rattle.hx_itch.specs.declared.message.Feed.{Feed}
use Rattle.hx_itch.specs.declared.message.Feed.TheVariants.{StockTradingAction}
use Rattle.hx_rules.specs.Letters.{halted_state, trading_state}
use Rattle.hx_rules.specs.Markets.{Market}
use Rattle.hx_rules.specs.Outputs.{Outcome, nothing}

-- whether the letter is a state of a stock: halted, or trading
abbrev pub is_trading_state : ℕ → Bool
is_trading_state state = state == halted_state || state == trading_state

-- in the feed: the state of the stock, and why
abbrev pub trading_action :
    (locate time : ℕ) → Symbol → (state : ℕ) (reason : List ℕ) → Feed
trading_action locate time stock state reason =
    StockTradingAction (record {
      locate = locate;
      time = time;
      stock = stock;
      trading_state = state;
      reason = reason;
    })

-- the stock is in this state, and the feed reports it, also if it was so before; nothing else changes
abbrev pub set_state :
    Market → (time locate : ℕ) → Symbol → (state : ℕ) (reason : List ℕ) → Outcome
set_state market time locate stock state reason =
    record {
      market = record market {
        halted = slice_set market.halted locate (state == halted_state);
      };
      output = record {
        feed = trading_action locate time stock state reason ∷ [];
        replies = [];
      };
    }

-- by the locate of the stock, and whether the letter is a state: a stock that the setup does not
-- have, or another letter, does nothing
abbrev pub halted_by :
    Market → (time : ℕ) → Symbol → (state : ℕ) (reason : List ℕ) → Option ℕ → (known : Bool)
    → Outcome
halted_by market time stock state reason None known = nothing market
halted_by market time stock state reason (Some locate) false = nothing market
halted_by market time stock state reason (Some locate) true =
    set_state market time locate stock state reason

-- the operator halts a stock, or lets it trade, at any hours
abbrev pub halt : Setup → Market → (time : ℕ) → Symbol → (state : ℕ) (reason : List ℕ) → Outcome
halt setup market time stock state reason =
    halted_by market time stock state reason
    (locate_of setup stock) (is_trading_state state)
