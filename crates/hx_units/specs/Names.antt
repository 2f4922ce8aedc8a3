-- Names, and when two are the same.
use Rattle.std.specs.Prelude.{bytes_eq, Bool}
use Rattle.hx_units.specs.declared.names.Token.{Token}
use Rattle.hx_units.specs.declared.names.Symbol.{Symbol}
use Rattle.hx_units.specs.declared.names.Firm.{Firm}

-- whether two tokens are the same
abbrev pub is_token : Token → Token → Bool
is_token t u = bytes_eq t.0 u.0

-- whether two names of stocks are the same
abbrev pub is_symbol : Symbol → Symbol → Bool
is_symbol s t = bytes_eq s.0 t.0

-- whether two names of firms are the same
abbrev pub is_firm : Firm → Firm → Bool
is_firm f g = bytes_eq f.0 g.0
