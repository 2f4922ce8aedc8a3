-- Messages from a member, in words (OUCH 4.2, Inbound Messages).
use Rattle.std.specs.Prelude.{ℕ, List, [], ◌∷◌, codes}
use Rattle.hx_ouch.specs.declared.inbound.Enter.{Enter}
use Rattle.hx_ouch.specs.declared.inbound.Replace.{Replace}
use Rattle.hx_ouch.specs.declared.inbound.Cancel.{Cancel}
use Rattle.hx_ouch.specs.declared.inbound.Inbound.{Inbound}
use Rattle.hx_ouch.specs.declared.inbound.Inbound.TheVariants as variant
use Rattle.hx_show.specs.declared.label.Label.TheVariants as label
use Rattle.hx_show.specs.declared.part.Part.{Part}
use Rattle.hx_show.specs.declared.part.Part.TheVariants.{Token, Stock, Firm, Letter, Shares, Counted, Price, Display, TimeInForce}
use Rattle.hx_show.specs.Parts.{message_words}

-- the fields of an Enter Order
abbrev pub enter_parts : Enter → List Part
enter_parts m =
    Token label.Token m.token ∷ Letter label.Side m.side ∷ Shares m.shares ∷ Stock m.stock
    ∷ Price m.price ∷ Display m.display m.time_in_force ∷ TimeInForce m.time_in_force
    ∷ Counted label.Minimum m.minimum_quantity ∷ Firm m.firm ∷ Letter label.Capacity m.capacity
    ∷ Letter label.Sweep m.intermarket_sweep ∷ Letter label.CrossType m.cross_type
    ∷ Letter label.CustomerType m.customer_type ∷ []

-- the fields of a Replace Order; its shares are those of the whole chain
abbrev pub replace_parts : Replace → List Part
replace_parts m =
    Token label.ExistingToken m.existing_token ∷ Token label.ReplacementToken m.replacement_token
    ∷ Counted label.InAll m.shares ∷ Price m.price ∷ Display m.display m.time_in_force
    ∷ TimeInForce m.time_in_force ∷ Counted label.Minimum m.minimum_quantity
    ∷ Letter label.Sweep m.intermarket_sweep ∷ []

-- the fields of a Cancel Order; its shares are the new size of the whole chain
abbrev pub cancel_parts : Cancel → List Part
cancel_parts m = Token label.Token m.token ∷ Counted label.InAll m.shares ∷ []

-- a message
abbrev pub inbound_message : Inbound → List ℕ
inbound_message (variant.Enter m) = message_words (codes "Enter Order") (enter_parts m)
inbound_message (variant.Replace m) = message_words (codes "Replace Order") (replace_parts m)
inbound_message (variant.Cancel m) = message_words (codes "Cancel Order") (cancel_parts m)
