-- What a session does with its client's packets (SoupBinTCP 3.00, Logical Packets Sent by a SoupBinTCP Client).
use Rattle.std.specs.Prelude.{◌≡◌, ◌==◌, ◌||◌, length, if◌then◌else◌}
use Rattle.hx_soup.specs.Kinds.{login_request, unsequenced_data, client_heartbeat, debug, logout_request}
use Rattle.hx_soup.specs.Logins.{IsLogin}
use Rattle.hx_soup.specs.declared.packet.SoupPacket.{SoupPacket}
use Rattle.hx_soup.specs.declared.login.LoginRequest.{LoginRequest}
use Rattle.hx_sessions.specs.declared.intake.Intake.{Intake}
use Rattle.hx_sessions.specs.declared.intake.Intake.TheVariants as intake
use Rattle.hx_sessions.specs.declared.intake.Action.{Action}
use Rattle.hx_sessions.specs.declared.intake.Action.TheVariants as action

-- The first packet is a login that can be read, or a fault.
abbrev pub FirstMeans : SoupPacket → Action → Type 0
FirstMeans p (action.Login login) = (p.kind ≡ login_request) × IsLogin p.payload.items login
FirstMeans p action.Submit = ⊥
FirstMeans p action.Ignore = ⊥
FirstMeans p action.Logout = ⊥
FirstMeans p action.Fault =
    (login : LoginRequest) → p.kind ≡ login_request → IsLogin p.payload.items login → ⊥

-- what a packet after the login asks for
abbrev pub later_action : SoupPacket → Action
later_action p =
    if p.kind == unsequenced_data
    then (if length p.payload.items == 0 then action.Ignore else action.Submit)
    else if p.kind == client_heartbeat || p.kind == debug then action.Ignore
    else if p.kind == logout_request then action.Logout
    else action.Fault

-- what a packet asks for before the login, after it, and after a logout or a fault
abbrev pub Means : Intake → SoupPacket → Action → Type 0
Means intake.Waiting p asked = FirstMeans p asked
Means intake.Open p asked = asked ≡ later_action p
Means intake.Closed p asked = asked ≡ action.Ignore

-- the state of the session after that
abbrev pub after : Intake → Action → Intake
after old (action.Login login) = intake.Open
after old action.Submit = old
after old action.Ignore = old
after old action.Logout = intake.Closed
after old action.Fault = intake.Closed
