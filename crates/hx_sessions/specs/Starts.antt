-- The answer to a login (SoupBinTCP 3.00, Login Request Packet).
use Rattle.std.specs.Prelude.{ℕ, ◌+◌, ◌&&◌, ◌||◌, nat_lt, nat_le, Bool, true, false, if◌then◌else◌, List, [], bytes_eq, Option, Some, None, Result, Ok, Err}
use Rattle.hx_members.specs.Setups.{Setup, login_of}
use Rattle.hx_units.specs.Spaces.{trimmed}
use Rattle.hx_soup.specs.declared.login.LoginRequest.{LoginRequest}
use Rattle.hx_soup.specs.Kinds.{not_authorized, session_not_available}
use Rattle.hx_sessions.specs.declared.beginning.Start.{Start}

-- Whether a session that is asked for is the present one: if it is blank, or the same without the spaces on both sides.
abbrev pub is_present : (asked present : List ℕ) → Bool
is_present asked present =
    bytes_eq (trimmed asked) [] || bytes_eq (trimmed asked) (trimmed present)

-- The first reply that is sent: the one asked for, if it is there or is the next one; else the next one.
abbrev pub first_reply : (asked replies : ℕ) → ℕ
first_reply asked replies =
    if nat_lt 0 asked && nat_le asked (replies + 1) then asked else replies + 1

-- by the member that logs in so, whether the session is the present one, and the first reply (SoupBinTCP 3.00, Login
-- Rejected Packet and Login Accepted Packet)
abbrev pub started : (member : Option ℕ) → (present : Bool) → (first : ℕ) → Result Start ℕ
started None present first = Err not_authorized
started (Some member) false first = Err session_not_available
started (Some member) true first = Ok (record { member = member; first = first })

-- where a session begins, or the letter of its rejection
abbrev pub start_of : Setup → LoginRequest → (replies : ℕ) → Result Start ℕ
start_of setup login replies =
    started (login_of setup login.user login.password) (is_present login.session setup.session)
    (first_reply login.sequence replies)
