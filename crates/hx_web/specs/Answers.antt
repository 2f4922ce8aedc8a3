-- The answers of the web page's server (RFC 9110).
use Rattle.std.specs.Prelude.{ℕ, ◌≡◌, List, [], ◌∷◌, ◌++◌, flat_map, codes, decimal, bytes_eq, if◌then◌else◌, Option, Some, None, ◌⊎◌}
use Rattle.std.specs.Bool.{MatchBool}
use Rattle.json.specs.Token.{Token, begin_object, end_object, begin_array, end_array, key}
use Rattle.json.specs.Print.{print}
use Rattle.http_server.specs.declared.response.Response.{Response}
use Rattle.http_server.specs.Response.{IsResponse}
use Rattle.http1.specs.Fields.{Header}
use Rattle.hx_web.specs.declared.asked.Asked.{Asked}
use Rattle.hx_web.specs.declared.asked.Asked.TheVariants as asked
use Rattle.hx_market_view.specs.declared.market_view.MarketView.{MarketView}
use Rattle.hx_market_view.specs.declared.market_view.Sheet.{Sheet}
use Rattle.hx_web.specs.declared.assets.document.TheConstants.{DOCUMENT}
use Rattle.hx_web.specs.declared.assets.style.TheConstants.{STYLE}
use Rattle.hx_web.specs.declared.assets.script.TheConstants.{SCRIPT}
use Rattle.hx_web.specs.declared.assets.chart.TheConstants.{CHART}
use Rattle.hx_market_view.specs.Texts.{string_member, number_member, trades_member, array_member, chart_tokens}
use Rattle.hx_web.specs.Handshakes.{Headers, Accepts, is_local}

-- ---- what is asked

-- what is read at a path
abbrev pub read_by : (path : List ℕ) → Asked
read_by path =
    if bytes_eq path (codes "/") then asked.Document
    else (if bytes_eq path (codes "/page.css") then asked.Style
    else (if bytes_eq path (codes "/page.js") then asked.Script
    else (if bytes_eq path (codes "/chart.js") then asked.ChartScript
    else (if bytes_eq path (codes "/live") then asked.Live
    else (if bytes_eq path (codes "/book.json") then asked.Book
    else (if bytes_eq path (codes "/trades.json") then asked.Trades
    else asked.Chart))))))

-- nothing is done here but to read (RFC 9110, section 9.3.1)
abbrev pub asked_by : (method path : List ℕ) → Asked
asked_by method path = if bytes_eq method (codes "GET") then read_by path else asked.OtherMethod

-- ---- what each answer has

-- nothing comes from elsewhere, the web page is in no frame, and nothing is stored or guessed (Content Security Policy
-- Level 3; RFC 7034; Fetch, section 3.7; Referrer Policy; RFC 9111)
abbrev pub policy : List ℕ
policy =
    codes "default-src 'none'; script-src 'self'; style-src 'self'; connect-src 'self'; "
    ++ codes "img-src data:; base-uri 'none'; form-action 'none'; frame-ancestors 'none'"

unfoldable pub closed : List Header
closed = (codes "content-security-policy", policy) ∷ (codes "x-frame-options", codes "DENY") ∷ []

unfoldable pub discreet : List Header
discreet =
    (codes "x-content-type-options", codes "nosniff")
    ∷ (codes "referrer-policy", codes "no-referrer") ∷ (codes "cache-control", codes "no-store")
    ∷ []

abbrev pub safe : List Header
safe = closed ++ discreet

-- 200 (OK)
abbrev pub Gives : (media content : List ℕ) → Response → Type 0
Gives media content response =
    IsResponse 200 ((codes "content-type", media) ∷ safe) content response

-- another status, with no body
abbrev pub Refuses : (status : ℕ) → (first : List Header) → Response → Type 0
Refuses status first response = IsResponse status (first ++ safe) [] response

abbrev pub html : List ℕ
html = codes "text/html; charset=utf-8"

abbrev pub css : List ℕ
css = codes "text/css; charset=utf-8"

abbrev pub javascript : List ℕ
javascript = codes "text/javascript; charset=utf-8"

abbrev pub json : List ℕ
json = codes "application/json"

-- ---- the texts for tools

abbrev pub after_comma : Sheet → List ℕ
after_comma sheet = codes "," ++ sheet.text

-- the texts of the stocks, with a comma between each two
abbrev pub joined : List Sheet → List ℕ
joined [] = []
joined (sheet ∷ sheets) = sheet.text ++ flat_map after_comma sheets

abbrev pub book_text : MarketView → List ℕ
book_text market_view =
    codes "{\"feed\":" ++ market_view.feed ++ codes ",\"stocks\":[" ++ joined market_view.sheets.items
    ++ codes "]}"

unfoldable pub sheet_tokens : Sheet → List Token
sheet_tokens sheet =
    begin_object
    ∷ (string_member (codes "stock") sheet.stock.0 ++ number_member (codes "locate") sheet.locate
    ++ trades_member (codes "trades") sheet.trades.items ++ end_object ∷ [])

abbrev pub trades_tokens : MarketView → List Token
trades_tokens market_view =
    begin_object
    ∷ (array_member (codes "stocks") sheet_tokens market_view.sheets.items ++ end_object ∷ [])

abbrev pub chart_path : Sheet → List ℕ
chart_path sheet = codes "/chart/" ++ decimal sheet.locate ++ codes ".json"

-- the stock whose chart a path is of
abbrev pub charted : (path : List ℕ) → List Sheet → Option Sheet
charted path [] = None
charted path (sheet ∷ sheets) =
    if bytes_eq (chart_path sheet) path then Some sheet else charted path sheets

-- ---- the answers

-- the chart, or 404 (Not Found, section 15.5.5)
abbrev pub GivesChart : Option Sheet → Response → Type 0
GivesChart None response = Refuses 404 [] response
GivesChart (Some sheet) response =
    Gives json (print (chart_tokens sheet.stock.0 sheet.locate sheet.trades.items
    sheet.quotes.items)) response

-- the two headers of a change of protocol (section 7.8)
abbrev pub upgrade : List Header
upgrade = (codes "upgrade", codes "websocket") ∷ (codes "connection", codes "upgrade") ∷ []

-- 101 (Switching Protocols) exactly if a WebSocket is asked for, else 426 (Upgrade Required)
abbrev pub GoesOver : Headers → Response → Type 0
GoesOver headers response =
    ((key : List ℕ) × Accepts headers key
    × IsResponse 101 (upgrade ++ (codes "sec-websocket-accept", key) ∷ []) [] response)
    ⊎ (((key : List ℕ) → ¬ (Accepts headers key)) × Refuses 426 upgrade response)

-- the answer to what is asked of a market view
abbrev pub Answers : MarketView → (path : List ℕ) → Headers → Asked → Response → Type 0
Answers market_view path headers asked.Document response = Gives html DOCUMENT.now response
Answers market_view path headers asked.Style response = Gives css STYLE.now response
Answers market_view path headers asked.Script response = Gives javascript SCRIPT.now response
Answers market_view path headers asked.ChartScript response = Gives javascript CHART.now response
Answers market_view path headers asked.Live response = GoesOver headers response
Answers market_view path headers asked.Book response = Gives json (book_text market_view) response
Answers market_view path headers asked.Trades response =
    Gives json (print (trades_tokens market_view)) response
Answers market_view path headers asked.Chart response =
    GivesChart (charted path market_view.sheets.items) response
Answers market_view path headers asked.OtherMethod response =
    Refuses 405 ((codes "allow", codes "GET") ∷ []) response

-- the answer to a request: 403 (Forbidden, section 15.5.4) if it is not for this machine by name
abbrev pub AnswersRequest : MarketView → (method path : List ℕ) → Headers → Response → Type 0
AnswersRequest market_view method path headers response =
    MatchBool (is_local headers) (Answers market_view path headers (asked_by method path) response)
    (Refuses 403 [] response)
