-- The types of packets that the exchange speaks of, as letters (SoupBinTCP 3.00, Logical Packets).
use Rattle.std.specs.Prelude.{ℕ}
use Rattle.hx_units.specs.Letters.{letter}

-- from the client

-- Login Request Packet: `L`
abbrev pub login_request : ℕ
login_request = letter "L"

-- Unsequenced Data Packet: `U`
abbrev pub unsequenced_data : ℕ
unsequenced_data = letter "U"

-- Client Heartbeat Packet: `R`
abbrev pub client_heartbeat : ℕ
client_heartbeat = letter "R"

-- Logout Request Packet: `O`
abbrev pub logout_request : ℕ
logout_request = letter "O"

-- Debug Packet: `+`
abbrev pub debug : ℕ
debug = letter "+"

-- from the server

-- Login Accepted Packet: `A`
abbrev pub login_accepted : ℕ
login_accepted = letter "A"

-- Login Rejected Packet: `J`
abbrev pub login_rejected : ℕ
login_rejected = letter "J"

-- Sequenced Data Packet: `S`
abbrev pub sequenced_data : ℕ
sequenced_data = letter "S"

-- Server Heartbeat Packet: `H`
abbrev pub server_heartbeat : ℕ
server_heartbeat = letter "H"

-- End of Session Packet: `Z`
abbrev pub end_of_session : ℕ
end_of_session = letter "Z"

-- why a login is rejected (SoupBinTCP 3.00, Login Rejected Packet: Reject Reason Code)

-- Not Authorized, for a user name or a password that nobody has: `A`
abbrev pub not_authorized : ℕ
not_authorized = letter "A"

-- Session not available, for another session than the present one: `S`
abbrev pub session_not_available : ℕ
session_not_available = letter "S"
