-- Logins and the answers to them (SoupBinTCP 3.00, Login Request Packet and Login Accepted Packet).
use Rattle.std.specs.Prelude.{ℕ, ◌≡◌, ◌-◌, ◌^◌, ◌<◌, List, ◌++◌, length, decimal}
use Rattle.std.specs.Str.Parse.{AllDigits, digits_value}
use Rattle.hx_units.specs.Spaces.{spaces}
use Rattle.hx_soup.specs.declared.login.LoginRequest.{LoginRequest}

-- A number as a client may write it: spaces, decimal digits, spaces. No digit at all is 0.
pub record SpellsNumber (text : List ℕ) (n : ℕ) : Type 0 where
  pub before : ℕ
  pub digits : List ℕ
  pub after : ℕ
  pub whole : text ≡ spaces before ++ (digits ++ spaces after)
  pub are_digits : AllDigits 10 digits
  pub value : n ≡ digits_value 10 digits
  pub fits : n < 2 ^ 64

-- The payload of a login: user name, password, session and sequence number, one after another.
pub record IsLogin (payload : List ℕ) (login : LoginRequest) : Type 0 where
  pub text : List ℕ
  pub whole : payload ≡ login.user ++ login.password ++ login.session ++ text
  pub user : length login.user ≡ 6
  pub password : length login.password ≡ 10
  pub session : length login.session ≡ 10
  pub text_len : length text ≡ 20
  pub sequence : SpellsNumber text login.sequence

-- A number as the server writes it: without leading zeros, with spaces before it up to 20 characters.
abbrev pub padded : ℕ → List ℕ
padded n = spaces (20 - length (decimal n)) ++ decimal n
