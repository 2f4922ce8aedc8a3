-- The rows of the used tokens, in order of use.
use Rattle.std.specs.Prelude.{◌≡◌, ℕ, ◌+◌, ◌==◌, ◌&&◌, ◌||◌, nat_lt, Bool, false, List, [], ◌∷◌, Option, Some, None, slice_get, slice_set, unwrap_or, is_some, suc, if◌then◌else◌}
use Rattle.std.specs.Option.{option_map, option_map_or}
use Rattle.hx_units.specs.Names.{is_token}
use Rattle.hx_units.specs.declared.names.Token.{Token}
use Rattle.hx_units.specs.declared.known.Known.{Known}
use Rattle.hx_tokens.specs.declared.name.Name.{Name}
use Rattle.hx_tokens.specs.declared.rows.UsedToken.{UsedToken}
use Rattle.hx_tokens.specs.declared.name.ChainFacts.{ChainFacts}
use Rattle.hx_tokens.specs.declared.name.TokenState.{TokenState}
use Rattle.hx_tokens.specs.Chains.{Used, Chain, is_used, IsEnteredAt}

-- a row: a member's token, and the data stored for it
abbrev pub Row : Type 0
Row = Name × UsedToken

-- the rows, and the name for which a slot is reserved
pub record RowList : Type 0 where
  pub rows : List Row
  pub reserved : Option Name

-- a member's token
abbrev pub name_of : ℕ → Token → Name
name_of member token = record { member = member; token = token }

-- whether two names are the same
abbrev pub is_name : Name → Name → Bool
is_name a b = a.member == b.member && is_token a.token b.token

-- the index of a name in the rows
abbrev pub row_index : Name → List Row → Option ℕ
row_index name [] = None
row_index name (row ∷ rows) =
    if is_name name row.0 then Some 0 else option_map suc (row_index name rows)

-- whether the row at an index has the name
abbrev pub is_at : List Row → Name → (index : ℕ) → Bool
is_at rows name index = option_map_or (λ row. is_name name row.0) (slice_get rows index) false

-- no row has the name
abbrev pub IsUnused : Name → List Row → Type 0
IsUnused name rows = row_index name rows ≡ None

-- what a chain has done that has done nothing
abbrev pub no_facts : ChainFacts
no_facts = record { executed = 0; displayed = false; traded = false }

-- the key of its live order
abbrev pub key_of : UsedToken → Option ℕ
key_of used = if used.has_key then Some used.key else None

-- what its chain has done, at an entered token
abbrev pub row_facts : UsedToken → ChainFacts
row_facts used =
    record { executed = used.executed; displayed = used.displayed; traded = used.traded }

-- a token that contracts alone know
abbrev pub known_of : Token → Known Token
known_of token = record { marker = record {}; value = token }

-- a token that is just used, in the chain of the entered token at an index
abbrev pub fresh : Token → ℕ → UsedToken
fresh entered chain =
    record {
      entered = known_of entered;
      chain = chain;
      key = 0;
      executed = 0;
      displayed = false;
      traded = false;
      has_key = false;
    }

-- a used token after its chain executed `shares` more shares, displayed or not
abbrev pub with_note : (shares : ℕ) → (displayed : Bool) → UsedToken → UsedToken
with_note shares displayed used =
    record used {
      executed = used.executed + shares;
      displayed = used.displayed || displayed;
      traded = used.traded || nat_lt 0 shares;
    }

-- a used token with another key of its live order
abbrev pub with_key : Option ℕ → UsedToken → UsedToken
with_key key used = record used { key = unwrap_or key 0; has_key = is_some key }

-- the rows with the used token at an index changed, if there is one
abbrev pub updated : (UsedToken → UsedToken) → ℕ → List Row → List Row
updated change index rows =
    option_map_or (λ row. slice_set rows index (row.0, change row.1)) (slice_get rows index) rows

-- the rows after the chain whose entered token is at the index executed `shares` more shares, displayed or not
abbrev pub noted_rows : (chain shares : ℕ) → (displayed : Bool) → List Row → List Row
noted_rows chain shares displayed rows = updated (with_note shares displayed) chain rows

-- the rows after the token at the index got this key
abbrev pub settled_rows : (index : ℕ) → (key : Option ℕ) → List Row → List Row
settled_rows index key rows = updated (with_key key) index rows

-- the state of a token, by its row and the row of its chain
abbrev pub output_of : List Row → Row → Option TokenState
output_of rows row =
    option_map (λ e. record { chain = row.1.chain; facts = row_facts e.1; key = key_of row.1 })
    (slice_get rows row.1.chain)

-- the state of a name
abbrev pub row_state : Name → List Row → Option TokenState
row_state name rows =
    option_map_or (λ index. option_map_or (output_of rows) (slice_get rows index) None)
    (row_index name rows) None

-- what the rows stand for: the used tokens, the indices of their chains, the keys of their live orders, and the chains
abbrev pub used_of : Row → Used
used_of row = record { member = row.0.member; token = row.0.token; entered = row.1.entered.value }

abbrev pub tokens_of : List Row → List Used
tokens_of [] = []
tokens_of (row ∷ rows) = used_of row ∷ tokens_of rows

abbrev pub indices_of : List Row → List ℕ
indices_of [] = []
indices_of (row ∷ rows) = row.1.chain ∷ indices_of rows

abbrev pub live_keys_of : List Row → List (Option ℕ)
live_keys_of [] = []
live_keys_of (row ∷ rows) = key_of row.1 ∷ live_keys_of rows

-- whether the row's token was entered, and replaced none
abbrev pub is_entered : Row → Bool
is_entered row = is_token row.0.token row.1.entered.value

-- the chain of an entered token
abbrev pub chain_of : Row → Chain
chain_of row =
    record {
      member = row.0.member;
      entered = row.0.token;
      executed = row.1.executed;
      displayed = row.1.displayed;
      traded = row.1.traded;
    }

abbrev pub chains_of : List Row → List Chain
chains_of [] = []
chains_of (row ∷ rows) = if is_entered row then chain_of row ∷ chains_of rows else chains_of rows

-- no token of a member is used twice
abbrev pub AreDistinct : List Used → Type 0
AreDistinct [] = Unit {0}
AreDistinct (u ∷ tokens) = (is_used tokens u.member u.token ≡ false) × AreDistinct tokens

-- each used token's chain is at the index of its entered token
abbrev pub AreChained : List Used → List ℕ → Type 0
AreChained tokens indices =
    (i : ℕ) (u : Used) (c : ℕ) → slice_get tokens i ≡ Some u → slice_get indices i ≡ Some c
    → IsEnteredAt tokens u.member u.entered c

-- no token is used twice, and each stands in its chain
pub record IsSound (rows : List Row) : Type 0 where
  pub distinct : AreDistinct (tokens_of rows)
  pub chained : AreChained (tokens_of rows) (indices_of rows)
