-- A line of a tape, or of the output of a replay, and its words.
use Rattle.std.specs.Prelude.{ℕ, ◌^◌, ◌==◌, ◌&&◌, ◌||◌, nat_lt, nat_le, Bool, true, false, if◌then◌else◌, List, [], ◌∷◌, ◌++◌, length, Option, Some, None, bytes_eq, codes}
use Rattle.std.specs.List.{list_all}
use Rattle.std.specs.Option.{option_map, option_and_then, option_map_or}
use Rattle.std.specs.Result.{result_ok}
use Rattle.std.specs.Fmt.{decimal}
use Rattle.std.specs.Str.Parse.{digits_value}
use Rattle.hex.specs.Hex.{decode_of}
use Rattle.hx_units.specs.Letters.{letter, space, line_feed}
use Rattle.hx_ouch.specs.Inbound.{inbound_of}
use Rattle.hx_ouch.specs.Outbound.{outbound_of}
use Rattle.hx_ouch.specs.declared.outbound.Outbound.{Outbound}
use Rattle.hx_itch.specs.Message.{feed_message_of, feed_time}
use Rattle.hx_itch.specs.declared.message.Feed.{Feed}
use Rattle.hx_rules.specs.OperatorMessages.{operator_event}
use Rattle.hx_show.specs.declared.choice.Choice.{Choice}
use Rattle.hx_show.specs.declared.choice.Choice.TheVariants as choice
use Rattle.hx_show.specs.declared.line.Head.{Head}
use Rattle.hx_show.specs.declared.line.Head.TheVariants as head
use Rattle.hx_show.specs.Columns.{column, time_width, who_width}
use Rattle.hx_show.specs.Units.{time_of_day}
use Rattle.hx_show.specs.Inbound.{inbound_message}
use Rattle.hx_show.specs.Outbound.{outbound_message, outbound_time}
use Rattle.hx_show.specs.Feeds.{feed_message}
use Rattle.hx_show.specs.Operators.{unreadable_message, event_message}

-- ---- What a line says

-- a text cut at the first such byte: what comes before it, and after it
abbrev pub cut : (byte : ℕ) → List ℕ → Option (List ℕ × List ℕ)
cut byte [] = None
cut byte (b ∷ text) =
    if b == byte then Some ([], text) else option_map (λ p. (b ∷ p.0, p.1)) (cut byte text)

-- the number below 10^14 that a text is in decimal, without noughts in front
abbrev pub number_of : List ℕ → Option ℕ
number_of text =
    let n = digits_value 10 text in
    if nat_lt n (10 ^ 14) && bytes_eq text (decimal n) then Some n else None

-- whether a letter is a hexadecimal digit in lower case
abbrev pub is_digit : ℕ → Bool
is_digit c =
    (nat_le (letter "0") c && nat_le c (letter "9"))
    || (nat_le (letter "a") c && nat_le c (letter "f"))

-- the 1 to 1,023 bytes that a text is in lower case hexadecimal
abbrev pub bytes_of : List ℕ → Option (List ℕ)
bytes_of digits =
    if nat_lt 0 (length digits) && nat_le (length digits) 2046 && list_all is_digit digits
    then result_ok (decode_of digits)
    else None

-- what a line is, and the digits of its message
pub record Parsed : Type 0 where
  pub head : Head
  pub digits : List ℕ

-- message n of the feed: the words `F`, n and its digits
abbrev pub feed_line : (number digits : List ℕ) → Option Parsed
feed_line number digits =
    option_map (λ n. record { head = head.OfFeed n; digits = digits }) (number_of number)

-- reply n to a member: the words `M`, the member, n and its digits
abbrev pub reply_line : (member number digits : List ℕ) → Option Parsed
reply_line member number digits =
    option_and_then (λ m. option_map
    (λ n. record { head = head.ToMember m n; digits = digits }) (number_of number))
    (number_of member)

-- a line of a tape: the words time, member and digits; a member has at most 4 digits
abbrev pub tape_line : (time member digits : List ℕ) → Option Parsed
tape_line time member digits =
    option_and_then (λ t. option_and_then (λ m.
    if nat_lt m (10 ^ 4) then Some (record { head = head.Sent t m; digits = digits }) else None)
    (number_of member))
    (number_of time)

-- a line of these three words, of which the last may be more
abbrev pub line_of_words : (first second others : List ℕ) → Option Parsed
line_of_words first second others =
    if bytes_eq first (codes "F") then feed_line second others
    else if bytes_eq first (codes "M")
    then option_and_then (λ p. reply_line second p.0 p.1) (cut space others)
    else tape_line first second others

-- what a line is, if it is one
abbrev pub line_of : List ℕ → Option Parsed
line_of line =
    option_and_then (λ p. option_and_then (λ q. line_of_words p.0 q.0 q.1) (cut space p.1))
    (cut space line)

-- ---- Its words

-- a line of words: time, sender or receiver, and message
abbrev pub row : (time who message : List ℕ) → List ℕ
row time who message = column time_width time ++ (column who_width who ++ message)

-- the words of a line that is none
abbrev pub unreadable_line : List ℕ
unreadable_line = codes "unreadable line"

-- the sender of an event
abbrev pub sender : ℕ → List ℕ
sender member =
    if member == 0 then codes "operator" else codes "member " ++ decimal member

-- what was sent
abbrev pub sent_message : (time member : ℕ) → List ℕ → List ℕ
sent_message time member bytes =
    if member == 0 then option_map_or event_message (operator_event time bytes) unreadable_message
    else option_map_or inbound_message (inbound_of bytes) unreadable_message

-- a message of the feed; it has its time in itself
abbrev pub feed_row : (who : List ℕ) → Option Feed → List ℕ
feed_row who (Some m) = row (time_of_day (feed_time m)) who (feed_message m)
feed_row who None = row [] who unreadable_message

-- a reply to a member; it has its time in itself
abbrev pub reply_row : (who : List ℕ) → Option Outbound → List ℕ
reply_row who (Some m) = row (time_of_day (outbound_time m)) who (outbound_message m)
reply_row who None = row [] who unreadable_message

-- the words of a line with these bytes
abbrev pub line_words : Head → List ℕ → List ℕ
line_words (head.Sent time member) bytes =
    row (time_of_day time) (sender member) (sent_message time member bytes)
line_words (head.OfFeed number) bytes =
    feed_row (codes "feed " ++ decimal number) (feed_message_of bytes)
line_words (head.ToMember member number) bytes =
    reply_row (codes "member " ++ (decimal member ++ (codes " reply " ++ decimal number)))
    (outbound_of bytes)

-- the words of a line with these digits
abbrev pub digits_words : Head → List ℕ → List ℕ
digits_words h digits = option_map_or (line_words h) (bytes_of digits) unreadable_line

-- ---- Which lines are shown

-- whether a line is chosen
abbrev pub is_chosen : Choice → Head → Bool
is_chosen choice.All h = true
is_chosen choice.Feed (head.OfFeed number) = true
is_chosen choice.Feed (head.Sent time member) = false
is_chosen choice.Feed (head.ToMember member number) = false
is_chosen (choice.Member m) (head.OfFeed number) = false
is_chosen (choice.Member m) (head.Sent time member) = member == m
is_chosen (choice.Member m) (head.ToMember member number) = member == m

-- what is written for a line that is one
abbrev pub shown_parsed : Choice → Parsed → List ℕ
shown_parsed c p =
    if is_chosen c p.head
    then digits_words p.head p.digits ++ line_feed ∷ []
    else []

-- what is written for a line that is none: it is neither of the feed nor of a member
abbrev pub shown_unreadable : Choice → List ℕ
shown_unreadable choice.All = unreadable_line ++ line_feed ∷ []
shown_unreadable choice.Feed = []
shown_unreadable (choice.Member m) = []

-- what is written for a line
abbrev pub shown_line : Choice → List ℕ → List ℕ
shown_line c line = option_map_or (shown_parsed c) (line_of line) (shown_unreadable c)
