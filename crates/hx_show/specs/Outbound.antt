-- Replies to a member, in words (OUCH 4.2, Outbound Messages).
use Rattle.std.specs.Prelude.{ℕ, List, [], ◌∷◌, codes}
use Rattle.hx_ouch.specs.declared.outbound.SystemEvent.{SystemEvent}
use Rattle.hx_ouch.specs.declared.outbound.Accepted.{Accepted}
use Rattle.hx_ouch.specs.declared.outbound.Replaced.{Replaced}
use Rattle.hx_ouch.specs.declared.outbound.Canceled.{Canceled}
use Rattle.hx_ouch.specs.declared.outbound.Executed.{Executed}
use Rattle.hx_ouch.specs.declared.outbound.Rejected.{Rejected}
use Rattle.hx_ouch.specs.declared.outbound.BrokenTrade.{BrokenTrade}
use Rattle.hx_ouch.specs.declared.outbound.Outbound.{Outbound}
use Rattle.hx_ouch.specs.declared.outbound.Outbound.TheVariants as variant
use Rattle.hx_show.specs.declared.label.Label.TheVariants as label
use Rattle.hx_show.specs.declared.part.Part.{Part}
use Rattle.hx_show.specs.declared.part.Part.TheVariants.{Token, Stock, Firm, Letter, Number, Shares, Counted, Price, Display, TimeInForce}
use Rattle.hx_show.specs.Parts.{message_words}

abbrev pub system_event_parts : SystemEvent → List Part
system_event_parts m = Letter label.DayEvent m.event_code ∷ []

-- all fields of an Accepted but its BBO weight
abbrev pub accepted_parts : Accepted → List Part
accepted_parts m =
    Token label.Token m.token ∷ Letter label.Side m.side ∷ Shares m.shares ∷ Stock m.stock
    ∷ Price m.price ∷ Display m.display m.time_in_force ∷ TimeInForce m.time_in_force
    ∷ Counted label.Minimum m.minimum_quantity ∷ Firm m.firm
    ∷ Number label.Reference m.reference ∷ Letter label.Capacity m.capacity
    ∷ Letter label.Sweep m.intermarket_sweep ∷ Letter label.CrossType m.cross_type
    ∷ Letter label.OrderState m.order_state ∷ []

-- all fields of a Replaced but its BBO weight
abbrev pub replaced_parts : Replaced → List Part
replaced_parts m =
    Token label.PreviousToken m.previous_token ∷ Token label.ReplacementToken m.replacement_token
    ∷ Letter label.Side m.side ∷ Shares m.shares ∷ Stock m.stock
    ∷ Price m.price ∷ Display m.display m.time_in_force ∷ TimeInForce m.time_in_force
    ∷ Counted label.Minimum m.minimum_quantity ∷ Firm m.firm
    ∷ Number label.Reference m.reference ∷ Letter label.Capacity m.capacity
    ∷ Letter label.Sweep m.intermarket_sweep ∷ Letter label.CrossType m.cross_type
    ∷ Letter label.OrderState m.order_state ∷ []

abbrev pub canceled_parts : Canceled → List Part
canceled_parts m =
    Token label.Token m.token ∷ Shares m.shares ∷ Letter label.CancelReason m.reason ∷ []

abbrev pub executed_parts : Executed → List Part
executed_parts m =
    Token label.Token m.token ∷ Shares m.shares ∷ Price m.price
    ∷ Letter label.Liquidity m.liquidity_flag ∷ Number label.MatchNumber m.match_number ∷ []

abbrev pub rejected_parts : Rejected → List Part
rejected_parts m = Token label.Token m.token ∷ Letter label.RejectReason m.reason ∷ []

abbrev pub broken_trade_parts : BrokenTrade → List Part
broken_trade_parts m =
    Token label.Token m.token ∷ Number label.MatchNumber m.match_number
    ∷ Letter label.BreakReason m.reason ∷ []

-- a reply, by its name in the standard
abbrev pub outbound_message : Outbound → List ℕ
outbound_message (variant.SystemEvent m) =
    message_words (codes "System Event") (system_event_parts m)
outbound_message (variant.Accepted m) = message_words (codes "Accepted") (accepted_parts m)
outbound_message (variant.Replaced m) = message_words (codes "Replaced") (replaced_parts m)
outbound_message (variant.Canceled m) = message_words (codes "Canceled") (canceled_parts m)
outbound_message (variant.Executed m) = message_words (codes "Executed") (executed_parts m)
outbound_message (variant.Rejected m) = message_words (codes "Rejected") (rejected_parts m)
outbound_message (variant.BrokenTrade m) =
    message_words (codes "Broken Trade") (broken_trade_parts m)

-- when it was sent, in nanoseconds since midnight
abbrev pub outbound_time : Outbound → ℕ
outbound_time (variant.SystemEvent m) = m.time
outbound_time (variant.Accepted m) = m.time
outbound_time (variant.Replaced m) = m.time
outbound_time (variant.Canceled m) = m.time
outbound_time (variant.Executed m) = m.time
outbound_time (variant.Rejected m) = m.time
outbound_time (variant.BrokenTrade m) = m.time
