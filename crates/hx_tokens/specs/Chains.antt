-- Used tokens and chains. A chain is an entered token with the tokens that replaced it, and is named by its member and
-- its entered token.
use Rattle.std.specs.Prelude.{◌≡◌, ℕ, ◌+◌, ◌==◌, ◌&&◌, ◌||◌, nat_lt, Bool, false, if◌then◌else◌, List, [], ◌∷◌, Some, slice_get}
use Rattle.std.specs.List.{list_any}
use Rattle.std.specs.Option.{option_map_or}
use Rattle.hx_units.specs.Names.{is_token}
use Rattle.hx_units.specs.declared.names.Token.{Token}

-- a used token, with the entered token of its chain
pub record Used : Type 0 where
  pub member : ℕ
  pub token : Token
  pub entered : Token

-- a chain, by its entered token: the shares executed, whether one of its orders was displayed, and whether one traded
pub record Chain : Type 0 where
  pub member : ℕ
  pub entered : Token
  pub executed : ℕ
  pub displayed : Bool
  pub traded : Bool

-- whether the used token is the member's token
abbrev pub is_use : ℕ → Token → Used → Bool
is_use member token u = u.member == member && is_token u.token token

-- whether the member has used the token
abbrev pub is_used : List Used → ℕ → Token → Bool
is_used tokens member token = list_any (is_use member token) tokens

-- the entered token of a used token's chain
abbrev pub entered_of : List Used → ℕ → Token → Token
entered_of [] member token = token
entered_of (u ∷ tokens) member token =
    if is_use member token u then u.entered else entered_of tokens member token

-- the index of a used token
abbrev pub index_of : List Used → ℕ → Token → ℕ
index_of [] member token = 0
index_of (u ∷ tokens) member token =
    if is_use member token u then 0 else index_of tokens member token + 1

-- whether the chain is the member's of this entered token
abbrev pub is_chain : ℕ → Token → Chain → Bool
is_chain member entered c = c.member == member && is_token c.entered entered

-- whether there is such a chain
abbrev pub has_chain : List Chain → ℕ → Token → Bool
has_chain chains member entered = list_any (is_chain member entered) chains

-- whether it was displayed or has traded
abbrev pub is_loud : List Chain → ℕ → Token → Bool
is_loud chains member entered =
    list_any (λ c. is_chain member entered c && (c.displayed || c.traded)) chains

-- the shares that a chain has executed
abbrev pub executed_by : List Chain → ℕ → Token → ℕ
executed_by [] member entered = 0
executed_by (c ∷ chains) member entered =
    if is_chain member entered c then c.executed else executed_by chains member entered

-- a chain with `shares` more executed shares, which perhaps was displayed
abbrev pub noted : ℕ → Bool → Chain → Chain
noted shares displayed c =
    record c {
      executed = c.executed + shares;
      displayed = c.displayed || displayed;
      traded = c.traded || nat_lt 0 shares;
    }

-- the chains after a member's chain executed `shares` more shares, displayed or not
abbrev pub note : (member : ℕ) → (entered : Token) → (shares : ℕ) → (displayed : Bool)
    → List Chain → List Chain
note member entered shares displayed [] = []
note member entered shares displayed (c ∷ chains) =
    (if is_chain member entered c then noted shares displayed c else c)
    ∷ note member entered shares displayed chains

-- a token that is entered, in a chain of its own
abbrev pub entered_used : ℕ → Token → Used
entered_used member token = record { member = member; token = token; entered = token }

-- its chain, of which nothing is executed, displayed or traded yet
abbrev pub entered_chain : ℕ → Token → Chain
entered_chain member token =
    record { member = member; entered = token; executed = 0; displayed = false; traded = false }

-- a token that replaces, in the chain of an entered token
abbrev pub replacing_used : ℕ → Token → Token → Used
replacing_used member token entered = record { member = member; token = token; entered = entered }

-- the member's entered token is at this index of the used tokens
abbrev pub IsEnteredAt : List Used → ℕ → Token → ℕ → Type 0
IsEnteredAt tokens member entered index =
    slice_get tokens index ≡ Some (entered_used member entered)

-- some chain's entered token is at this index
abbrev pub IsChainAt : List Used → ℕ → Type 0
IsChainAt tokens index =
    (member : ℕ) × ((entered : Token) × IsEnteredAt tokens member entered index)

-- the entered token of the chain at an index, or the given one if no token is there
abbrev pub entered_at : List Used → ℕ → Token → Token
entered_at tokens index token = option_map_or (λ u. u.entered) (slice_get tokens index) token

-- the shares that the chain at an index has executed
abbrev pub executed_at : List Used → List Chain → (index : ℕ) → ℕ
executed_at tokens chains index =
    option_map_or (λ u. executed_by chains u.member u.entered) (slice_get tokens index) 0

-- the chains after the one at an index executed `shares` more shares, displayed or not
abbrev pub noted_at : List Used → (index shares : ℕ) → (displayed : Bool)
    → List Chain → List Chain
noted_at tokens index shares displayed chains =
    option_map_or (λ u. note u.member u.entered shares displayed chains) (slice_get tokens index)
    chains
