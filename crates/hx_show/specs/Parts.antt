-- The parts of a message in words: its fields, each with its label or its unit.
use Rattle.std.specs.Prelude.{ℕ, ◌==◌, nat_le, if◌then◌else◌, List, [], ◌∷◌, ◌++◌, length, codes}
use Rattle.std.specs.List.{flat_map}
use Rattle.std.specs.Fmt.{decimal}
use Rattle.hx_rules.specs.Letters.{attributable}
use Rattle.hx_rules.specs.Limits.{immediate, most_seconds, market_hours}
use Rattle.hx_rules.specs.Orders.{is_shown, is_display}
use Rattle.hx_show.specs.declared.label.Label.{Label}
use Rattle.hx_show.specs.declared.label.Label.TheVariants as label
use Rattle.hx_show.specs.declared.part.Part.{Part}
use Rattle.hx_show.specs.declared.part.Part.TheVariants as part
use Rattle.hx_show.specs.Columns.{column, name_width}
use Rattle.hx_show.specs.Units.{shares_words, dollars_words, name_words}
use Rattle.hx_show.specs.Meanings.{meaning}

-- what a field is called
abbrev pub label_words : Label → List ℕ
label_words label.Token = codes "token"
label_words label.ExistingToken = codes "existing token"
label_words label.ReplacementToken = codes "replacement token"
label_words label.PreviousToken = codes "previous token"
label_words label.Stock = codes "stock"
label_words label.Firm = codes "firm"
label_words label.Side = codes "side"
label_words label.Display = codes "display"
label_words label.Capacity = codes "capacity"
label_words label.Sweep = codes "intermarket sweep"
label_words label.CrossType = codes "cross type"
label_words label.CustomerType = codes "customer type"
label_words label.OrderState = codes "order state"
label_words label.Liquidity = codes "liquidity"
label_words label.CancelReason = codes "reason"
label_words label.RejectReason = codes "reason"
label_words label.BreakReason = codes "reason"
label_words label.HaltReason = codes "reason"
label_words label.DayEvent = codes "event"
label_words label.HoursEvent = codes "event"
label_words label.TradingState = codes "state"
label_words label.Locate = codes "locate"
label_words label.Reference = codes "reference"
label_words label.OriginalReference = codes "original reference"
label_words label.NewReference = codes "new reference"
label_words label.MatchNumber = codes "match number"
label_words label.InAll = codes "in all"
label_words label.Minimum = codes "minimum"

-- a label, a space and what it is the label of
abbrev pub labelled : Label → List ℕ → List ℕ
labelled l text = label_words l ++ (codes " " ++ text)

-- the first of two texts that is not empty
abbrev pub or_else : List ℕ → List ℕ → List ℕ
or_else first second = if length first == 0 then second else first

-- a letter by what it means, or by itself with its label
abbrev pub letter_words : Label → ℕ → List ℕ
letter_words l c = or_else (meaning l c) (labelled l (name_words (c ∷ [])))

-- how an order is displayed: it is hidden if it asks for that, and if it never rests
abbrev pub display_words : (display time_in_force : ℕ) → List ℕ
display_words display time_in_force =
    if is_shown display time_in_force
    then (if display == attributable then codes "displayed with its firm" else codes "displayed")
    else (if is_display display then codes "hidden"
    else labelled label.Display (name_words (display ∷ [])))

-- how long an order lives (OUCH 4.2, Enter Order: Time in Force)
abbrev pub time_in_force_words : ℕ → List ℕ
time_in_force_words n =
    if n == immediate then codes "immediate or cancel"
    else if nat_le n most_seconds then decimal n ++ codes " seconds"
    else if n == market_hours then codes "market hours"
    else codes "system hours"

-- a field in words
abbrev pub part_words : Part → List ℕ
part_words (part.Token l token) = labelled l (name_words token.0)
part_words (part.Stock stock) = labelled label.Stock (name_words stock.0)
part_words (part.Firm firm) = labelled label.Firm (name_words firm.0)
part_words (part.Reason reason) = labelled label.HaltReason (name_words reason)
part_words (part.Letter l c) = letter_words l c
part_words (part.Number l n) = labelled l (decimal n)
part_words (part.Shares n) = shares_words n
part_words (part.Counted l n) = labelled l (shares_words n)
part_words (part.Price n) = dollars_words n
part_words (part.Display display time_in_force) = display_words display time_in_force
part_words (part.TimeInForce n) = time_in_force_words n

-- a message in words: its name in its column, and its fields with commas between them
abbrev pub message_words : (name : List ℕ) → List Part → List ℕ
message_words name [] = name
message_words name (first ∷ others) =
    column name_width name
    ++ (part_words first ++ flat_map (λ p. codes ", " ++ part_words p) others)
