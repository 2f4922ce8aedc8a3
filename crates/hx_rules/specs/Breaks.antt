-- Broken trades (ITCH 5.0 and OUCH 4.2, Broken Trade Message). A break changes no shares, no chain and no book: it
-- marks the execution, and is reported.
use Rattle.std.specs.Prelude.{ℕ, zero, suc, Bool, true, false, List, [], ◌∷◌, Option, Some, None, slice_get, slice_set}
use Rattle.hx_itch.specs.declared.message.Feed.{Feed}
use Rattle.hx_itch.specs.declared.message.Feed.TheVariants.{BrokenTrade}
use Rattle.hx_ouch.specs.declared.outbound.Outbound.TheVariants.{BrokenTrade as OutputBroken}
use Rattle.hx_rules.specs.Letters.{supervisory}
use Rattle.hx_rules.specs.Orders.{Token}
use Rattle.hx_rules.specs.declared.matches.Match.{Match}
use Rattle.hx_rules.specs.Markets.{Market}
use Rattle.hx_rules.specs.Outputs.{Reply, Outcome, nothing}

-- the execution of a match number; they count from 1
abbrev pub execution_of : List Match → (number : ℕ) → Option Match
execution_of executions zero = None
execution_of executions (suc index) = slice_get executions index

-- the executions, with that of the number changed
abbrev pub with_execution : List Match → (number : ℕ) → Match → List Match
with_execution executions zero e = executions
with_execution executions (suc index) e = slice_set executions index e

-- in the feed: the execution is broken
abbrev pub broken_of : (time number : ℕ) → Match → Feed
broken_of time number e =
    BrokenTrade (record { locate = e.locate; time = time; match_number = number })

-- to a member: the execution of its order is broken
abbrev pub to_broken : (time member : ℕ) (token : Token) (number : ℕ) → Reply
to_broken time member token number = (
  member,
  OutputBroken (record {
    time = time;
    token = token;
    match_number = number;
    reason = supervisory;
  }),
)

-- it is broken: the feed reports it, then the member of the order that rested gets a reply, then that of the one that
-- came in
abbrev pub break_execution : Market → (time number : ℕ) → Match → Outcome
break_execution market time number e =
    record {
      market = record market {
        executions = with_execution market.executions number (record e { broken = true });
      };
      output = record {
        feed = broken_of time number e ∷ [];
        replies = to_broken time e.maker e.maker_token number
            ∷ to_broken time e.taker e.taker_token number
            ∷ [];
      };
    }

-- by whether it is broken already: once more does nothing
abbrev pub broken_if : Market → (time number : ℕ) → Match → (broken : Bool) → Outcome
broken_if market time number e true = nothing market
broken_if market time number e false = break_execution market time number e

-- by the execution of the number: one that was never drawn does nothing
abbrev pub broken_by : Market → (time number : ℕ) → Option Match → Outcome
broken_by market time number None = nothing market
broken_by market time number (Some e) = broken_if market time number e e.broken

-- the operator breaks the execution of a match number, at any hours
abbrev pub break_trade : Market → (time number : ℕ) → Outcome
break_trade market time number =
    broken_by market time number (execution_of market.executions number)
