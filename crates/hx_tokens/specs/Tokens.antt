-- The used tokens of all members, their chains, and the keys of their live orders.
use Rattle.std.specs.Prelude.{ℕ, List, [], ◌∷◌, Option, Some, None, slice_get, if◌then◌else◌}
use Rattle.std.specs.Option.{option_map, option_map_or}
use Rattle.hx_units.specs.declared.names.Token.{Token}
use Rattle.hx_tokens.specs.declared.name.Name.{Name}
use Rattle.hx_tokens.specs.declared.name.ChainFacts.{ChainFacts}
use Rattle.hx_tokens.specs.declared.name.TokenState.{TokenState}
use Rattle.hx_tokens.specs.Chains.{Used, Chain, is_used, is_chain, index_of, entered_of}
use Rattle.hx_tokens.specs.Rows.{RowList, name_of, no_facts, tokens_of, chains_of, live_keys_of}

-- what contracts see of the tokens: the used tokens in order of use, the chains in order of their entered tokens' use,
-- the key of each used token's live order, and the token for which a slot is reserved
pub record TokenList : Type 0 where
  pub tokens : List Used
  pub chains : List Chain
  pub keys : List (Option ℕ)
  pub reserved : Option Name

-- what the rows stand for
abbrev pub list_of : RowList → TokenList
list_of retained =
    record {
      tokens = tokens_of retained.rows;
      chains = chains_of retained.rows;
      keys = live_keys_of retained.rows;
      reserved = retained.reserved;
    }

-- what a chain has done
abbrev pub facts_of : List Chain → ℕ → Token → ChainFacts
facts_of [] member entered = no_facts
facts_of (c ∷ chains) member entered =
    if is_chain member entered c
    then record { executed = c.executed; displayed = c.displayed; traded = c.traded }
    else facts_of chains member entered

-- the key at an index
abbrev pub key_at : List (Option ℕ) → ℕ → Option ℕ
key_at keys index = option_map_or (λ key. key) (slice_get keys index) None

-- the name of the used token at an index
abbrev pub name_at : List Used → ℕ → Option Name
name_at tokens index = option_map (λ u. name_of u.member u.token) (slice_get tokens index)

-- the state of a used token
abbrev pub state_of : List Used → List Chain → List (Option ℕ) → ℕ → Token → Option TokenState
state_of tokens chains keys member token =
    if is_used tokens member token
    then Some (record {
      chain = index_of tokens member (entered_of tokens member token);
      facts = facts_of chains member (entered_of tokens member token);
      key = key_at keys (index_of tokens member token);
    })
    else None
