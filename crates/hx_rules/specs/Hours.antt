-- What the operator does: time passes, and the hours go on (ITCH 5.0, System Event Message).
use Rattle.std.specs.Prelude.{ℕ, ◌+◌, Bool, true, false, if◌then◌else◌, ◌==◌, ◌&&◌, ◌||◌, not, nat_lt, nat_le, List, [], ◌∷◌, ◌++◌, map, slice_index}
use Rattle.std.specs.List.{filter}
use Rattle.hx_book.specs.declared.order.Life.{Life}
use Rattle.hx_book.specs.declared.order.Life.TheVariants.{Market as ToMarket, System as ToSystem, Until}
use Rattle.hx_members.specs.Setups.{Setup}
use Rattle.hx_members.specs.Stock.{Stock}
use Rattle.hx_members.specs.Member.{Member}
use Rattle.hx_itch.specs.declared.message.Feed.{Feed}
use Rattle.hx_itch.specs.declared.message.Feed.TheVariants.{SystemEvent, StockDirectory}
use Rattle.hx_ouch.specs.declared.outbound.Outbound.TheVariants.{SystemEvent as SystemReply}
use Rattle.hx_rules.specs.Letters.{timeout, start_of_messages, start_of_system_hours, start_of_market_hours, end_of_market_hours, end_of_system_hours, end_of_messages}
use Rattle.hx_rules.specs.Orders.{Order}
use Rattle.hx_rules.specs.Markets.{Market}
use Rattle.hx_rules.specs.Outputs.{Reply, EventOutput, Outcome, silent, nothing}
use Rattle.hx_rules.specs.Removal.{deleted, canceled}

-- ---- Orders that end

-- in the feed: each of these orders is gone, if it was shown
abbrev pub all_deleted : (time : ℕ) → List Order → List Feed
all_deleted time [] = []
all_deleted time (x ∷ orders) = deleted time x ++ all_deleted time orders

-- the orders that are due are cancelled, in the order of the list, with their output after the first
abbrev pub end_orders : (is_due : Order → Bool) (time : ℕ) → Market → (first : EventOutput) → Outcome
end_orders is_due time market first =
    let due = filter is_due market.live in
    record {
      market = record market { live = filter (λ x. not (is_due x)) market.live };
      output = record {
        feed = first.feed ++ all_deleted time due;
        replies = first.replies ++ map (λ x. canceled time x.member x.token x.shares timeout) due;
      };
    }

-- ---- Time passes

-- whether the time of an order in seconds has come (OUCH 4.2, Enter Order: Time in Force)
abbrev pub is_over : (time : ℕ) → Life → Bool
is_over time ToMarket = false
is_over time ToSystem = false
is_over time (Until expiry) = nat_le expiry time

-- a tick: the orders in seconds end whose time has come
abbrev pub tick : Market → (time : ℕ) → Outcome
tick market time = end_orders (λ x. is_over time x.life) time market silent

-- ---- The hours go on

-- the hours codes in their order: O, S, Q, M, E, C
abbrev pub hours_codes : List ℕ
hours_codes =
    start_of_messages
    ∷ start_of_system_hours
    ∷ start_of_market_hours
    ∷ end_of_market_hours
    ∷ end_of_system_hours
    ∷ end_of_messages
    ∷ []

-- each stock with its tail, numbered from n (ITCH 5.0, Stock Directory)
abbrev pub directory : (time n : ℕ) → List Stock → List Feed
directory time n [] = []
directory time n (s ∷ stocks) =
    StockDirectory (record { locate = n; time = time; stock = s.symbol; tail = s.tail })
    ∷ directory time (n + 1) stocks

-- to each member: the code (OUCH 4.2, System Event Message)
abbrev pub to_all : List Member → (time code : ℕ) → List Reply
to_all members time code =
    map (λ m. (m.number, SystemReply (record { time = time; event_code = code }))) members

-- the output of the code itself: to the feed the code, and after code O the stocks; to each member the codes S and E
abbrev pub output_by_code : Setup → (time code : ℕ) → EventOutput
output_by_code setup time code =
    record {
      feed = SystemEvent (record { locate = 0; time = time; event_code = code })
          ∷ (if code == start_of_messages then directory time 1 setup.stocks else []);
      replies = if code == start_of_system_hours || code == end_of_system_hours
          then to_all setup.members time code
          else [];
    }

-- whether an order is for the market hours
abbrev pub is_to_market : Life → Bool
is_to_market ToMarket = true
is_to_market ToSystem = false
is_to_market (Until expiry) = false

-- code M ends the orders for the market hours, code E all
abbrev pub ends_by_code : (code : ℕ) → Order → Bool
ends_by_code code x =
    (code == end_of_market_hours && is_to_market x.life) || code == end_of_system_hours

-- by whether the code is the next one: any other does nothing
abbrev pub hours_by : Setup → Market → (time code : ℕ) (next : Bool) → Outcome
hours_by setup market time code false = nothing market
hours_by setup market time code true =
    end_orders (ends_by_code code) time
    (record market { phase = market.phase + 1 }) (output_by_code setup time code)

-- whether the code is the next one when `phase` hours codes are past
abbrev pub is_next : (phase code : ℕ) → Bool
is_next phase code = nat_lt phase 6 && (slice_index hours_codes phase == code)

-- the operator's code
abbrev pub next_hours : Setup → Market → (time code : ℕ) → Outcome
next_hours setup market time code = hours_by setup market time code (is_next market.phase code)
