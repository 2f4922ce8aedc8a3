-- Worked days: the messages of each, and the output of each, worked out by hand from the rules of the market. All
-- orders are for the stock ABCD, with a blank firm, over the standard setup, except for the hours of a day.
use Rattle.std.specs.Prelude.{ℕ, codes, ◌==◌, if◌then◌else◌, List, [], ◌∷◌, false}
use Rattle.hx_members.specs.Setups.{Setup, stock_named, member_with}
use Rattle.hx_refs.specs.Numbers.{private_reference}
use Rattle.hx_itch.specs.declared.message.Feed.{Feed}
use Rattle.hx_itch.specs.declared.message.Feed.TheVariants.{AddOrder, AddOrderWithAttribution, OrderExecuted, OrderCancel, OrderDelete, OrderReplace, Trade, SystemEvent, StockDirectory}
use Rattle.hx_ouch.specs.declared.outbound.Outbound.TheVariants.{Accepted, Canceled, Executed, Rejected, Replaced, SystemEvent as SystemReply}
use Rattle.hx_ouch.specs.Inbound.{enter_bytes, replace_bytes, cancel_bytes}
use Rattle.hx_units.specs.Letters.{letter, space}
use Rattle.hx_units.specs.declared.names.Symbol.{Symbol}
use Rattle.hx_rules.specs.declared.event.Event.{Event}
use Rattle.hx_rules.specs.declared.event.Event.TheVariants.{Message, Tick, Hours}
use Rattle.hx_market.specs.Outputs.{Reply, EventOutput}

-- The letters and numbers of the messages, as the standards name them.

-- Buy/Sell Indicator (OUCH 4.2, ITCH 5.0)
abbrev pub buy : ℕ
buy = letter "B"

abbrev pub sell : ℕ
sell = letter "S"

-- Time in Force (OUCH 4.2): immediate or cancel, the market hours, the system hours
abbrev pub immediate : ℕ
immediate = 0

abbrev pub market_hours : ℕ
market_hours = 99998

abbrev pub day : ℕ
day = 99999

-- Display (OUCH 4.2): `Y`, `A`, `N`
abbrev pub shown : ℕ
shown = letter "Y"

abbrev pub attributed : ℕ
attributed = letter "A"

abbrev pub hidden : ℕ
hidden = letter "N"

-- Liquidity Flag (OUCH 4.2): `A` added, `J` added by an order that is not displayed, `R` removed
abbrev pub added_liquidity : ℕ
added_liquidity = letter "A"

abbrev pub hidden_liquidity : ℕ
hidden_liquidity = letter "J"

abbrev pub removed_liquidity : ℕ
removed_liquidity = letter "R"

-- Canceled, Reason (OUCH 4.2): `U`, `I`, `T`
abbrev pub by_user : ℕ
by_user = letter "U"

abbrev pub as_immediate : ℕ
as_immediate = letter "I"

abbrev pub by_timeout : ℕ
by_timeout = letter "T"

-- Rejected, Reason (OUCH 4.2): `C`, `Z`, `X`, `N`, `D`
abbrev pub for_the_hours : ℕ
for_the_hours = letter "C"

abbrev pub for_its_shares : ℕ
for_its_shares = letter "Z"

abbrev pub for_its_price : ℕ
for_its_price = letter "X"

abbrev pub for_its_minimum : ℕ
for_its_minimum = letter "N"

abbrev pub for_its_display : ℕ
for_its_display = letter "D"

-- System Event, Event Code (ITCH 5.0): `O`, `S`, `Q`, `M`, `E`, `C`
abbrev pub start_of_messages : ℕ
start_of_messages = letter "O"

abbrev pub start_of_system_hours : ℕ
start_of_system_hours = letter "S"

abbrev pub start_of_market_hours : ℕ
start_of_market_hours = letter "Q"

abbrev pub end_of_market_hours : ℕ
end_of_market_hours = letter "M"

abbrev pub end_of_system_hours : ℕ
end_of_system_hours = letter "E"

abbrev pub end_of_messages : ℕ
end_of_messages = letter "C"

-- Order tokens
abbrev pub a1 : List ℕ
a1 = codes "A1            "

abbrev pub a2 : List ℕ
a2 = codes "A2            "

abbrev pub a3 : List ℕ
a3 = codes "A3            "

abbrev pub a4 : List ℕ
a4 = codes "A4            "

abbrev pub a5 : List ℕ
a5 = codes "A5            "

abbrev pub a6 : List ℕ
a6 = codes "A6            "

abbrev pub a7 : List ℕ
a7 = codes "A7            "

abbrev pub a8 : List ℕ
a8 = codes "A8            "

abbrev pub b1 : List ℕ
b1 = codes "B1            "

abbrev pub b2 : List ℕ
b2 = codes "B2            "

abbrev pub g1 : List ℕ
g1 = codes "G1            "

abbrev pub h1 : List ℕ
h1 = codes "H1            "

abbrev pub h2 : List ℕ
h2 = codes "H2            "

abbrev pub h3 : List ℕ
h3 = codes "H3            "

abbrev pub h4 : List ℕ
h4 = codes "H4            "

abbrev pub h5 : List ℕ
h5 = codes "H5            "

abbrev pub i1 : List ℕ
i1 = codes "I1            "

abbrev pub s1 : List ℕ
s1 = codes "S1            "

abbrev pub s2 : List ℕ
s2 = codes "S2            "

abbrev pub t0 : List ℕ
t0 = codes "T0            "

abbrev pub t1 : List ℕ
t1 = codes "T1            "

abbrev pub t2 : List ℕ
t2 = codes "T2            "

abbrev pub t3 : List ℕ
t3 = codes "T3            "

abbrev pub t4 : List ℕ
t4 = codes "T4            "

abbrev pub t5 : List ℕ
t5 = codes "T5            "

abbrev pub t9 : List ℕ
t9 = codes "T9            "

-- The stock, and the members' firms.

abbrev pub abcd : Symbol
abcd = record { 0 = codes "ABCD    " }

-- the members' firms
abbrev pub firm_number : ℕ → List ℕ
firm_number member =
    if member == 1 then codes "FMA1" else (if member == 2 then codes "FMB2" else codes "FMC3")

-- an Enter Order message
abbrev pub enter_order :
    (time member : ℕ) (token : List ℕ) (side shares price time_in_force display minimum : ℕ) → Event
enter_order time member token side shares price time_in_force display minimum =
    Message member time
    (enter_bytes (record {
      token = record { 0 = token };
      side = side;
      shares = shares;
      stock = abcd;
      price = price;
      time_in_force = time_in_force;
      firm = record { 0 = codes "    " };
      display = display;
      capacity = letter "O";
      intermarket_sweep = letter "N";
      minimum_quantity = minimum;
      cross_type = letter "N";
      customer_type = letter "R";
    }))

abbrev pub accepted :
    (member time : ℕ) (token : List ℕ)
    → (side shares price time_in_force display reference minimum : ℕ)
    → Reply
accepted member time token side shares price time_in_force display reference minimum = (
  member,
  Accepted (record {
    time = time;
    token = record { 0 = token };
    side = side;
    shares = shares;
    stock = abcd;
    price = price;
    time_in_force = time_in_force;
    firm = record { 0 = firm_number member };
    display = display;
    reference = reference;
    capacity = letter "O";
    intermarket_sweep = letter "N";
    minimum_quantity = minimum;
    cross_type = letter "N";
    order_state = letter "L";
    bbo_weight = space;
  }),
)

abbrev pub filled :
    (member time : ℕ) (token : List ℕ) (shares price flag match_number : ℕ) → Reply
filled member time token shares price flag match_number = (
  member,
  Executed (record {
    time = time;
    token = record { 0 = token };
    shares = shares;
    price = price;
    liquidity_flag = flag;
    match_number = match_number;
  }),
)

abbrev pub canceled : (member time : ℕ) (token : List ℕ) (shares reason : ℕ) → Reply
canceled member time token shares reason = (
  member,
  Canceled (record { time = time; token = record { 0 = token }; shares = shares; reason = reason }),
)

abbrev pub rejected : (member time : ℕ) (token : List ℕ) (reason : ℕ) → Reply
rejected member time token reason =
    (member, Rejected (record { time = time; token = record { 0 = token }; reason = reason }))

-- a Replace Order message, and a Cancel Order message
abbrev pub replace_order :
    (time member : ℕ) (existing replacement : List ℕ)
    → (shares price time_in_force display minimum : ℕ)
    → Event
replace_order time member existing replacement shares price time_in_force display minimum =
    Message member time
    (replace_bytes (record {
      existing_token = record { 0 = existing };
      replacement_token = record { 0 = replacement };
      shares = shares;
      price = price;
      time_in_force = time_in_force;
      display = display;
      intermarket_sweep = letter "N";
      minimum_quantity = minimum;
    }))

abbrev pub cancel_order : (time member : ℕ) (token : List ℕ) (shares : ℕ) → Event
cancel_order time member token shares =
    Message member time (cancel_bytes (record { token = record { 0 = token }; shares = shares }))

abbrev pub replaced :
    (member time : ℕ) (token : List ℕ)
    → (side shares price time_in_force display reference minimum : ℕ)
    (previous : List ℕ) → Reply
replaced member time token side shares price time_in_force display reference minimum previous = (
  member,
  Replaced (record {
    time = time;
    replacement_token = record { 0 = token };
    side = side;
    shares = shares;
    stock = abcd;
    price = price;
    time_in_force = time_in_force;
    firm = record { 0 = firm_number member };
    display = display;
    reference = reference;
    capacity = letter "O";
    intermarket_sweep = letter "N";
    minimum_quantity = minimum;
    cross_type = letter "N";
    order_state = letter "L";
    previous_token = record { 0 = previous };
    bbo_weight = space;
  }),
)

abbrev pub taken_off : (time reference shares : ℕ) → Feed
taken_off time reference shares =
    OrderCancel (record { locate = 1; time = time; reference = reference; shares = shares })

abbrev pub deleted : (time reference : ℕ) → Feed
deleted time reference = OrderDelete (record { locate = 1; time = time; reference = reference })

abbrev pub renewed : (time original reference shares price : ℕ) → Feed
renewed time original reference shares price =
    OrderReplace (record {
      locate = 1;
      time = time;
      original_reference = original;
      reference = reference;
      shares = shares;
      price = price;
    })

abbrev pub added : (time reference side shares price : ℕ) → Feed
added time reference side shares price =
    AddOrder (record {
      locate = 1;
      time = time;
      reference = reference;
      side = side;
      shares = shares;
      stock = abcd;
      price = price;
    })

abbrev pub published_with_firm : (time reference side shares price : ℕ) (firm : List ℕ) → Feed
published_with_firm time reference side shares price firm =
    AddOrderWithAttribution (record {
      locate = 1;
      time = time;
      reference = reference;
      side = side;
      shares = shares;
      stock = abcd;
      price = price;
      attribution = record { 0 = firm };
    })

abbrev pub executed : (time reference shares match_number : ℕ) → Feed
executed time reference shares match_number =
    OrderExecuted (record {
      locate = 1;
      time = time;
      reference = reference;
      shares = shares;
      match_number = match_number;
    })

abbrev pub traded : (time shares price match_number : ℕ) → Feed
traded time shares price match_number =
    Trade (record {
      locate = 1;
      time = time;
      shares = shares;
      stock = abcd;
      price = price;
      match_number = match_number;
    })

abbrev pub tells : List Feed → List Reply → EventOutput
tells feed replies = record { feed = feed; replies = replies }

-- one displayed order
abbrev pub one_displayed_order : List Event
one_displayed_order =
    enter_order 1000 1 t1 buy 100 100000 day shown 0 ∷ []

abbrev pub one_displayed_order_tells : List EventOutput
one_displayed_order_tells =
    tells
    (added 1000 1 buy 100 100000 ∷ [])
    (accepted 1 1000 t1 buy 100 100000 day shown 1 0 ∷ []) ∷ []

-- a hidden order, then a displayed one
abbrev pub hidden_then_displayed : List Event
hidden_then_displayed =
    enter_order 10 1 h1 buy 100 100000 day hidden 0 ∷
    enter_order 20 2 t1 buy 200 100000 day shown 0 ∷ []

abbrev pub hidden_then_displayed_tells : List EventOutput
hidden_then_displayed_tells =
    tells [] (accepted 1 10 h1 buy 100 100000 day hidden (private_reference 1 1) 0 ∷ []) ∷
    tells (added 20 1 buy 200 100000 ∷ []) (accepted 2 20 t1 buy 200 100000 day shown 1 0 ∷ []) ∷ []

-- display beats time
abbrev pub display_beats_time : List Event
display_beats_time =
    enter_order 10 1 h1 buy 100 100000 day hidden 0 ∷
    enter_order 20 2 t1 buy 100 100000 day shown 0 ∷
    enter_order 30 3 s1 sell 100 100000 day shown 0 ∷ []

abbrev pub display_beats_time_tells : List EventOutput
display_beats_time_tells =
    tells [] (accepted 1 10 h1 buy 100 100000 day hidden (private_reference 1 1) 0 ∷ []) ∷
    tells (added 20 1 buy 100 100000 ∷ []) (accepted 2 20 t1 buy 100 100000 day shown 1 0 ∷ []) ∷
    tells
    (executed 30 1 100 1 ∷ [])
    (accepted 3 30 s1 sell 100 100000 day shown 2 0 ∷
    filled 2 30 t1 100 100000 added_liquidity 1 ∷
    filled 3 30 s1 100 100000 removed_liquidity 1 ∷ []) ∷ []

-- hidden executions on both sides
abbrev pub hidden_executions_on_both_sides : List Event
hidden_executions_on_both_sides =
    enter_order 10 1 h1 buy 100 100000 day hidden 0 ∷
    enter_order 20 2 s1 sell 60 99900 immediate hidden 0 ∷
    enter_order 30 1 h2 sell 50 100500 day hidden 0 ∷
    enter_order 40 2 b1 buy 50 100500 immediate hidden 0 ∷ []

abbrev pub hidden_executions_on_both_sides_tells : List EventOutput
hidden_executions_on_both_sides_tells =
    tells [] (accepted 1 10 h1 buy 100 100000 day hidden (private_reference 1 1) 0 ∷ []) ∷
    tells
    (traded 20 60 100000 1 ∷ [])
    (accepted 2 20 s1 sell 60 99900 immediate hidden (private_reference 2 1) 0 ∷
    filled 1 20 h1 60 100000 hidden_liquidity 1 ∷
    filled 2 20 s1 60 100000 removed_liquidity 1 ∷ []) ∷
    tells [] (accepted 1 30 h2 sell 50 100500 day hidden (private_reference 1 2) 0 ∷ []) ∷
    tells
    (traded 40 50 100500 2 ∷ [])
    (accepted 2 40 b1 buy 50 100500 immediate hidden (private_reference 2 2) 0 ∷
    filled 1 40 h2 50 100500 hidden_liquidity 2 ∷
    filled 2 40 b1 50 100500 removed_liquidity 2 ∷ []) ∷ []

-- an order is passed over for its minimum
abbrev pub minimum_passed_over : List Event
minimum_passed_over =
    enter_order 10 1 h1 buy 200 100000 day hidden 0 ∷
    enter_order 20 2 g1 buy 500 100000 day hidden 500 ∷
    enter_order 30 3 s1 sell 500 100000 day hidden 500 ∷ []

abbrev pub minimum_passed_over_tells : List EventOutput
minimum_passed_over_tells =
    tells [] (accepted 1 10 h1 buy 200 100000 day hidden (private_reference 1 1) 0 ∷ []) ∷
    tells [] (accepted 2 20 g1 buy 500 100000 day hidden (private_reference 2 1) 500 ∷ []) ∷
    tells
    (traded 30 500 100000 1 ∷ [])
    (accepted 3 30 s1 sell 500 100000 day hidden (private_reference 3 1) 500 ∷
    filled 2 30 g1 500 100000 hidden_liquidity 1 ∷
    filled 3 30 s1 500 100000 removed_liquidity 1 ∷ []) ∷ []

-- the minimum stays
abbrev pub minimum_stays : List Event
minimum_stays =
    enter_order 10 1 h1 buy 600 100000 day hidden 0 ∷
    enter_order 20 2 h2 buy 300 100000 day hidden 0 ∷
    enter_order 30 3 s1 sell 1000 100000 day hidden 500 ∷
    enter_order 40 1 b1 buy 300 100000 immediate hidden 0 ∷
    enter_order 50 1 b2 buy 400 100000 immediate hidden 0 ∷ []

abbrev pub minimum_stays_tells : List EventOutput
minimum_stays_tells =
    tells [] (accepted 1 10 h1 buy 600 100000 day hidden (private_reference 1 1) 0 ∷ []) ∷
    tells [] (accepted 2 20 h2 buy 300 100000 day hidden (private_reference 2 1) 0 ∷ []) ∷
    tells
    (traded 30 600 100000 1 ∷ [])
    (accepted 3 30 s1 sell 1000 100000 day hidden (private_reference 3 1) 500 ∷
    filled 1 30 h1 600 100000 hidden_liquidity 1 ∷
    filled 3 30 s1 600 100000 removed_liquidity 1 ∷ []) ∷
    tells []
    (accepted 1 40 b1 buy 300 100000 immediate hidden (private_reference 1 2) 0 ∷
    canceled 1 40 b1 300 as_immediate ∷ []) ∷
    tells
    (traded 50 400 100000 2 ∷ [])
    (accepted 1 50 b2 buy 400 100000 immediate hidden (private_reference 1 3) 0 ∷
    filled 3 50 s1 400 100000 hidden_liquidity 2 ∷
    filled 1 50 b2 400 100000 removed_liquidity 2 ∷ []) ∷ []

-- a displayed immediate order
abbrev pub displayed_immediate_or_cancel : List Event
displayed_immediate_or_cancel =
    enter_order 10 1 i1 buy 100 100000 immediate shown 0 ∷ []

abbrev pub displayed_immediate_or_cancel_tells : List EventOutput
displayed_immediate_or_cancel_tells =
    tells []
    (accepted 1 10 i1 buy 100 100000 immediate shown (private_reference 1 1) 0 ∷
    canceled 1 10 i1 100 as_immediate ∷ []) ∷ []

-- two levels are taken
abbrev pub two_levels_taken : List Event
two_levels_taken =
    enter_order 10 1 t1 buy 100 100000 day shown 0 ∷
    enter_order 20 2 t1 buy 200 100100 day attributed 0 ∷
    enter_order 30 3 s1 sell 350 100000 day shown 0 ∷
    enter_order 40 3 s1 buy 100 100000 day shown 0 ∷ []

abbrev pub two_levels_taken_tells : List EventOutput
two_levels_taken_tells =
    tells (added 10 1 buy 100 100000 ∷ []) (accepted 1 10 t1 buy 100 100000 day shown 1 0 ∷ []) ∷
    tells
    (published_with_firm 20 2 buy 200 100100 (codes "FMB2") ∷ [])
    (accepted 2 20 t1 buy 200 100100 day attributed 2 0 ∷ []) ∷
    tells
    (executed 30 2 200 1 ∷
    executed 30 1 100 2 ∷ added 30 3 sell 50 100000 ∷ [])
    (accepted 3 30 s1 sell 350 100000 day shown 3 0 ∷
    filled 2 30 t1 200 100100 added_liquidity 1 ∷
    filled 3 30 s1 200 100100 removed_liquidity 1 ∷
    filled 1 30 t1 100 100000 added_liquidity 2 ∷
    filled 3 30 s1 100 100000 removed_liquidity 2 ∷ []) ∷
    tells [] [] ∷ []

-- times go back
abbrev pub times_going_back : List Event
times_going_back =
    enter_order 500 1 t1 buy 100 100000 day shown 0 ∷
    enter_order 100 2 s1 sell 100 100000 immediate hidden 0 ∷ []

abbrev pub times_going_back_tells : List EventOutput
times_going_back_tells =
    tells (added 500 1 buy 100 100000 ∷ []) (accepted 1 500 t1 buy 100 100000 day shown 1 0 ∷ []) ∷
    tells
    (executed 100 1 100 1 ∷ [])
    (accepted 2 100 s1 sell 100 100000 immediate hidden (private_reference 2 1) 0 ∷
    filled 1 100 t1 100 100000 added_liquidity 1 ∷
    filled 2 100 s1 100 100000 removed_liquidity 1 ∷ []) ∷ []

-- the limits of fields
abbrev pub limits_of_fields : List Event
limits_of_fields =
    enter_order 10 1 a1 buy 999999 1999999900 day shown 0 ∷
    enter_order 20 1 a2 buy 1000000 100000 day shown 0 ∷
    enter_order 30 1 a3 buy 100 2000000000 day shown 0 ∷
    enter_order 40 1 a4 buy 100 10001 day shown 0 ∷
    enter_order 50 1 a5 buy 100 9999 day shown 0 ∷
    enter_order 60 1 a6 buy 100 100000 day shown 1 ∷
    enter_order 70 1 a7 buy 100 100000 day hidden 101 ∷
    enter_order 80 1 a8 buy 100 100000 day (letter "P") 0 ∷
    enter_order 90 1 a2 buy 100 100000 day shown 0 ∷ []

abbrev pub limits_of_fields_tells : List EventOutput
limits_of_fields_tells =
    tells
    (added 10 1 buy 999999 1999999900 ∷ [])
    (accepted 1 10 a1 buy 999999 1999999900 day shown 1 0 ∷ []) ∷
    tells [] (rejected 1 20 a2 for_its_shares ∷ []) ∷
    tells [] (rejected 1 30 a3 for_its_price ∷ []) ∷
    tells [] (rejected 1 40 a4 for_its_price ∷ []) ∷
    tells (added 50 2 buy 100 9999 ∷ []) (accepted 1 50 a5 buy 100 9999 day shown 2 0 ∷ []) ∷
    tells [] (rejected 1 60 a6 for_its_minimum ∷ []) ∷
    tells [] (rejected 1 70 a7 for_its_minimum ∷ []) ∷
    tells [] (rejected 1 80 a8 for_its_display ∷ []) ∷
    tells [] [] ∷ []

-- a Replace fails, and its token stays used
abbrev pub failed_replace : List Event
failed_replace =
    enter_order 10 1 t1 buy 100 100000 day shown 0 ∷
    replace_order 20 1 t1 t2 100 10001 day shown 0 ∷
    enter_order 30 1 t2 buy 100 100000 day shown 0 ∷ []

abbrev pub failed_replace_tells : List EventOutput
failed_replace_tells =
    tells (added 10 1 buy 100 100000 ∷ []) (accepted 1 10 t1 buy 100 100000 day shown 1 0 ∷ []) ∷
    tells (deleted 20 1 ∷ []) (canceled 1 20 t1 100 by_user ∷ []) ∷
    tells [] [] ∷ []

-- a chain of replaces that traded
abbrev pub chain_that_traded : List Event
chain_that_traded =
    enter_order 10 1 h1 buy 100 100000 day hidden 0 ∷
    replace_order 20 1 h1 h2 100 100100 day hidden 0 ∷
    replace_order 30 1 h2 h3 100 100200 day hidden 0 ∷
    replace_order 40 1 h3 h4 100 100300 day hidden 0 ∷
    enter_order 50 2 s1 sell 1 100300 immediate hidden 0 ∷
    replace_order 60 1 h4 h5 1 100300 day hidden 0 ∷ []

abbrev pub chain_that_traded_tells : List EventOutput
chain_that_traded_tells =
    tells [] (accepted 1 10 h1 buy 100 100000 day hidden (private_reference 1 1) 0 ∷ []) ∷
    tells [] (replaced 1 20 h2 buy 100 100100 day hidden (private_reference 1 2) 0 h1 ∷ []) ∷
    tells [] (replaced 1 30 h3 buy 100 100200 day hidden (private_reference 1 3) 0 h2 ∷ []) ∷
    tells [] (replaced 1 40 h4 buy 100 100300 day hidden (private_reference 1 4) 0 h3 ∷ []) ∷
    tells
    (traded 50 1 100300 1 ∷ [])
    (accepted 2 50 s1 sell 1 100300 immediate hidden (private_reference 2 1) 0 ∷
    filled 1 50 h4 1 100300 hidden_liquidity 1 ∷
    filled 2 50 s1 1 100300 removed_liquidity 1 ∷ []) ∷
    tells [] (canceled 1 60 h4 99 by_user ∷ []) ∷ []

-- replaces change the display
abbrev pub display_changes : List Event
display_changes =
    enter_order 10 1 t1 buy 100 100000 day shown 0 ∷
    replace_order 20 1 t1 t2 100 100000 day hidden 0 ∷
    replace_order 30 1 t2 t3 150 100000 day shown 0 ∷
    replace_order 40 1 t3 t4 150 100100 day shown 0 ∷
    replace_order 50 1 t4 t5 150 100100 day attributed 0 ∷ []

abbrev pub display_changes_tells : List EventOutput
display_changes_tells =
    tells (added 10 1 buy 100 100000 ∷ []) (accepted 1 10 t1 buy 100 100000 day shown 1 0 ∷ []) ∷
    tells
    (deleted 20 1 ∷ [])
    (replaced 1 20 t2 buy 100 100000 day hidden (private_reference 1 1) 0 t1 ∷ []) ∷
    tells (added 30 2 buy 150 100000 ∷ []) (replaced 1 30 t3 buy 150 100000 day shown 2 0 t2 ∷ []) ∷
    tells (renewed 40 2 3 150 100100 ∷ []) (replaced 1 40 t4 buy 150 100100 day shown 3 0 t3 ∷ []) ∷
    tells
    (deleted 50 3 ∷
    published_with_firm 50 4 buy 150 100100 (codes "FMA1") ∷ [])
    (replaced 1 50 t5 buy 150 100100 day attributed 4 0 t4 ∷ []) ∷ []

-- cancels take shares off, and the order out
abbrev pub cancels : List Event
cancels =
    enter_order 10 1 t1 buy 100 100000 day shown 0 ∷
    enter_order 20 2 s1 sell 30 100000 immediate hidden 0 ∷
    cancel_order 30 1 t1 100 ∷
    cancel_order 40 1 t1 99 ∷
    cancel_order 50 1 t1 0 ∷
    cancel_order 60 1 t1 0 ∷ []

abbrev pub cancels_tells : List EventOutput
cancels_tells =
    tells (added 10 1 buy 100 100000 ∷ []) (accepted 1 10 t1 buy 100 100000 day shown 1 0 ∷ []) ∷
    tells
    (executed 20 1 30 1 ∷ [])
    (accepted 2 20 s1 sell 30 100000 immediate hidden (private_reference 2 1) 0 ∷
    filled 1 20 t1 30 100000 added_liquidity 1 ∷
    filled 2 20 s1 30 100000 removed_liquidity 1 ∷ []) ∷
    tells [] [] ∷
    tells (taken_off 40 1 1 ∷ []) (canceled 1 40 t1 1 by_user ∷ []) ∷
    tells (deleted 50 1 ∷ []) (canceled 1 50 t1 69 by_user ∷ []) ∷
    tells [] [] ∷ []

-- replaces after executions, and replaces that trade
abbrev pub replaces_that_trade : List Event
replaces_that_trade =
    enter_order 10 1 t1 buy 100 100000 day shown 0 ∷
    enter_order 20 2 s1 sell 30 100000 immediate hidden 0 ∷
    replace_order 30 1 t1 t2 150 100100 day shown 0 ∷
    enter_order 40 2 s2 sell 200 100200 day shown 0 ∷
    replace_order 50 1 t2 t3 100 100200 day shown 0 ∷
    replace_order 60 1 t2 t4 100 100000 day shown 0 ∷
    replace_order 70 2 s2 s1 300 100200 day shown 0 ∷
    cancel_order 80 1 t2 0 ∷ []

abbrev pub replaces_that_trade_tells : List EventOutput
replaces_that_trade_tells =
    tells (added 10 1 buy 100 100000 ∷ []) (accepted 1 10 t1 buy 100 100000 day shown 1 0 ∷ []) ∷
    tells
    (executed 20 1 30 1 ∷ [])
    (accepted 2 20 s1 sell 30 100000 immediate hidden (private_reference 2 1) 0 ∷
    filled 1 20 t1 30 100000 added_liquidity 1 ∷
    filled 2 20 s1 30 100000 removed_liquidity 1 ∷ []) ∷
    tells (renewed 30 1 2 120 100100 ∷ []) (replaced 1 30 t2 buy 120 100100 day shown 2 0 t1 ∷ []) ∷
    tells (added 40 3 sell 200 100200 ∷ []) (accepted 2 40 s2 sell 200 100200 day shown 3 0 ∷ []) ∷
    tells
    (deleted 50 2 ∷
    executed 50 3 70 2 ∷ [])
    (replaced 1 50 t3 buy 70 100200 day shown 4 0 t2 ∷
    filled 2 50 s2 70 100200 added_liquidity 2 ∷
    filled 1 50 t3 70 100200 removed_liquidity 2 ∷ []) ∷
    tells [] [] ∷
    tells [] [] ∷
    tells [] [] ∷ []

-- seconds run out at ticks only
abbrev pub ticks : List Event
ticks =
    enter_order 1000 1 h1 buy 100 100000 1 hidden 0 ∷
    enter_order 2000 2 t1 buy 100 100000 1 shown 0 ∷
    cancel_order 1000001500 3 t9 0 ∷
    Tick 1000001999 ∷
    Tick 1000002000 ∷ []

abbrev pub ticks_tells : List EventOutput
ticks_tells =
    tells [] (accepted 1 1000 h1 buy 100 100000 1 hidden (private_reference 1 1) 0 ∷ []) ∷
    tells (added 2000 1 buy 100 100000 ∷ []) (accepted 2 2000 t1 buy 100 100000 1 shown 1 0 ∷ []) ∷
    tells [] [] ∷
    tells [] (canceled 1 1000001999 h1 100 by_timeout ∷ []) ∷
    tells (deleted 1000002000 1 ∷ []) (canceled 2 1000002000 t1 100 by_timeout ∷ []) ∷ []

-- a day that begins closed, with one stock and two members
abbrev pub closed : Setup
closed = record {
  session = codes "HX00000002";
  start_open = false;
  stocks = stock_named (codes "ABCD    ") ∷ [];
  members =
      member_with 1 (codes "FMA1") (codes "ALPHA ") (codes "PWALPHA   ") 1000
      ∷ member_with 2 (codes "FMB2") (codes "BRAVO ") (codes "PWBRAVO   ") 1000
      ∷ [];
}

abbrev pub system_event : (time code : ℕ) → Feed
system_event time code = SystemEvent (record { locate = 0; time = time; event_code = code })

abbrev pub output_event : (member time code : ℕ) → Reply
output_event member time code = (member, SystemReply (record { time = time; event_code = code }))

abbrev pub listed_stock : (time : ℕ) → Feed
listed_stock time =
    StockDirectory (record {
      locate = 1;
      time = time;
      stock = abcd;
      tail = (stock_named (codes "ABCD    ")).tail;
    })

-- the hours of a day
abbrev pub hours_of_a_day : List Event
hours_of_a_day =
    Hours 1 start_of_messages ∷
    enter_order 2 1 t0 buy 100 100000 day shown 0 ∷
    Hours 3 start_of_system_hours ∷
    enter_order 4 1 t1 buy 100 100000 market_hours shown 0 ∷
    enter_order 5 2 h1 buy 100 100000 day hidden 0 ∷
    Hours 6 end_of_market_hours ∷
    Hours 7 start_of_market_hours ∷
    Hours 8 end_of_market_hours ∷
    enter_order 9 1 t2 buy 100 100000 market_hours shown 0 ∷
    Hours 10 end_of_system_hours ∷
    Hours 11 end_of_messages ∷ []

abbrev pub hours_of_a_day_tells : List EventOutput
hours_of_a_day_tells =
    tells (system_event 1 start_of_messages ∷ listed_stock 1 ∷ []) [] ∷
    tells [] (rejected 1 2 t0 for_the_hours ∷ []) ∷
    tells
    (system_event 3 start_of_system_hours ∷ [])
    (output_event 1 3 start_of_system_hours ∷
    output_event 2 3 start_of_system_hours ∷ []) ∷
    tells
    (added 4 1 buy 100 100000 ∷ [])
    (accepted 1 4 t1 buy 100 100000 market_hours shown 1 0 ∷ []) ∷
    tells [] (accepted 2 5 h1 buy 100 100000 day hidden (private_reference 2 1) 0 ∷ []) ∷
    tells [] [] ∷
    tells (system_event 7 start_of_market_hours ∷ []) [] ∷
    tells
    (system_event 8 end_of_market_hours ∷
    deleted 8 1 ∷ [])
    (canceled 1 8 t1 100 by_timeout ∷ []) ∷
    tells [] (rejected 1 9 t2 for_the_hours ∷ []) ∷
    tells
    (system_event 10 end_of_system_hours ∷ [])
    (output_event 1 10 end_of_system_hours ∷
    output_event 2 10 end_of_system_hours ∷
    canceled 2 10 h1 100 by_timeout ∷ []) ∷
    tells (system_event 11 end_of_messages ∷ []) [] ∷ []
