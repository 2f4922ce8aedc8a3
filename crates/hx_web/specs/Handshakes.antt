-- Who may read the web page, and who receives changes by a WebSocket (RFC 6455, section 4.2.1).
use Rattle.std.specs.Prelude.{ℕ, ◌≡◌, ◌||◌, ◌&&◌, ◌++◌, Bool, true, List, [], Option, Some, None, codes, bytes_eq, take, length}
use Rattle.http_header.specs.FieldValue.{FieldValue}
use Rattle.http_header.specs.HeaderMap.{Entries, get}
use Rattle.websocket.specs.Handshake.{accept_key_of, IsValidKey}

abbrev pub Headers : Type 0
Headers = Entries FieldValue

-- the bytes of a header's first value; none if it is not there
abbrev pub bytes_of : Option FieldValue → List ℕ
bytes_of (Some value) = value.bytes
bytes_of None = []

abbrev pub value_of : Headers → (name : List ℕ) → List ℕ
value_of headers name = bytes_of (get headers name)

unfoldable pub begins_with : (text beginning : List ℕ) → Bool
begins_with text beginning = bytes_eq beginning (take (length beginning) text)

-- the host that a request names is this machine, at whichever port
abbrev pub is_local_host : (host : List ℕ) → Bool
is_local_host host =
    bytes_eq host (codes "127.0.0.1") || bytes_eq host (codes "localhost")
    || begins_with host (codes "127.0.0.1:") || begins_with host (codes "localhost:")

abbrev pub is_local : Headers → Bool
is_local headers = is_local_host (value_of headers (codes "host"))

-- a request of a web page names the origin of that (RFC 6454, section 7): it is from here, or of no web page
abbrev pub is_same_origin : Headers → Bool
is_same_origin headers =
    bytes_eq (value_of headers (codes "origin")) []
    || bytes_eq (value_of headers (codes "origin"))
    (codes "http://" ++ value_of headers (codes "host"))

-- what browsers say to ask for another protocol
abbrev pub asks_upgrade : (connection : List ℕ) → Bool
asks_upgrade connection =
    bytes_eq connection (codes "Upgrade") || bytes_eq connection (codes "upgrade")
    || bytes_eq connection (codes "keep-alive, Upgrade")

-- a WebSocket of version 13 is asked for by a web page of this address
abbrev pub asks_websocket : Headers → Bool
asks_websocket headers =
    asks_upgrade (value_of headers (codes "connection"))
    && bytes_eq (value_of headers (codes "upgrade")) (codes "websocket")
    && bytes_eq (value_of headers (codes "sec-websocket-version")) (codes "13")
    && is_same_origin headers

-- the headers ask for a WebSocket by a valid key, which this answers
pub record Accepts (headers : Headers) (answer : List ℕ) : Type 0 where
  pub asks : asks_websocket headers ≡ true
  pub valid : IsValidKey (value_of headers (codes "sec-websocket-key"))
  pub answers : answer ≡ accept_key_of (value_of headers (codes "sec-websocket-key"))
