-- The addresses of a day.
use Rattle.std.specs.Prelude.{◌≡◌, ℕ, ◌≤◌, ◌≢◌, ◌^◌, ◌<◌, ◌⊎◌, List, [], ◌∷◌, length, All}
use Rattle.std.specs.Str.Parse.{IsNumeral, digits_value, without_leading_plus}
use Rattle.std.specs.Net.Addr.{MatchIp, IsV4And, IsLoopbackV4, IsLoopbackV6, ipv4_octets, is_ipv4}
use Rattle.std.specs.Net.Grammar.{IsSocketText}
use Rattle.std.specs.Net.Socket.{socket_ip, socket_port}
use Rattle.std.specs.declared.net.socket_addr.SocketAddr.{SocketAddr}

-- the most addresses that the feed goes to
abbrev pub most_feeds : ℕ
most_feeds = 16

-- 127.0.0.0/8 or ::1 (RFC 1122, 3.2.1.3; RFC 4291, 2.5.3): no other machine sees what goes there
abbrev pub IsLoopback : SocketAddr → Type 0
IsLoopback a = MatchIp (socket_ip a) IsLoopbackV4 IsLoopbackV6

-- no other machine sees anything of the day
abbrev pub AreLoopback : (listen : SocketAddr) (feeds : List SocketAddr)
    (requests : SocketAddr) → Type 0
AreLoopback listen feeds requests = IsLoopback listen × IsLoopback requests × All IsLoopback feeds

-- the feed may go there: it is a port, and not that of requests, which would take the feed for requests
abbrev pub IsFeed : (requests feed : SocketAddr) → Type 0
IsFeed requests feed = (1 ≤ socket_port feed) × (socket_port feed ≢ socket_port requests)

-- a day can have these addresses
abbrev pub AreAddresses : (listen : SocketAddr) (feeds : List SocketAddr)
    (requests : SocketAddr) → Type 0
AreAddresses listen feeds requests =
    (1 ≤ socket_port listen) × (1 ≤ socket_port requests)
    × (1 ≤ length feeds) × (length feeds ≤ most_feeds) × All (IsFeed requests) feeds

-- a datagram gets there from a socket at this address: both are of one family, and what is sent from loopback does not
-- leave the machine
abbrev pub Reaches : (from to : SocketAddr) → Type 0
Reaches from to = (is_ipv4 (socket_ip from) ≡ is_ipv4 (socket_ip to))
    × (IsLoopback from → IsLoopback to)

-- the digits of a port, before which a plus may stand
abbrev pub IsPortAlone : (word : List ℕ) (port : ℕ) → Type 0
IsPortAlone word port =
    IsNumeral 10 (without_leading_plus word) × (digits_value 10 (without_leading_plus word) ≡ port)
    × (port < 2 ^ 16)

-- the word is a port alone, which is one of 127.0.0.1, or an address and its port, as of RFC 3986, 3.2.2, and 3.2.3
abbrev pub Names : (word : List ℕ) (a : SocketAddr) → Type 0
Names word a =
    (IsPortAlone word (socket_port a)
    × IsV4And (socket_ip a) (λ ip. ipv4_octets ip ≡ 127 ∷ 0 ∷ 0 ∷ 1 ∷ []))
    ⊎ IsSocketText word a
