-- The chains of a member. A chain is an entered token with all tokens that were used to replace it, also by a replace that failed.
use Rattle.std.specs.Prelude.{ℕ, ◌==◌, not, List, [], ◌∷◌, map}
use Rattle.std.specs.List.{filter}
use Rattle.hx_units.specs.Names.{is_token}
use Rattle.hx_units.specs.declared.names.Token.{Token}
use Rattle.hx_members.specs.Chains.{Used, Chain as ChainDone}
use Rattle.hx_members.specs.Tokens.{facts_of}
use Rattle.hx_market.specs.Markets.{Market}
use Rattle.hx_audit.specs.declared.chain.Chain.{Chain}

-- a use of a token: the token, and the entered token of its chain
abbrev pub Use : Type 0
Use = Token × Token

abbrev pub use_of : Token → Token → Use
use_of token entered = (token, entered)

-- the tokens that the member has used, in order of use
abbrev pub uses_of : List Used → ℕ → List Use
uses_of tokens member =
    map (λ u. use_of u.token u.entered) (filter (λ u. u.member == member) tokens)

-- the tokens of one chain, in order of use
abbrev pub tokens_in : List Use → Token → List Token
tokens_in uses entered = map (λ u. u.0) (filter (λ u. is_token u.1 entered) uses)

-- each token once, at its first index
abbrev pub each_once : List Token → List Token
each_once [] = []
each_once (t ∷ tokens) = t ∷ filter (λ u. not (is_token u t)) (each_once tokens)

-- the entered tokens of the chains, by first use
abbrev pub entered_in : List Use → List Token
entered_in uses = each_once (map (λ u. u.1) uses)

-- each chain's entered token, with its tokens
abbrev pub grouped : List Use → List (Token × List Token)
grouped uses = map (λ entered. (entered, tokens_in uses entered)) (entered_in uses)

-- a chain with what it has done
abbrev pub output_chain : List ChainDone → ℕ → Token × List Token → Chain
output_chain chains member group = record { tokens = group.1; facts = facts_of chains member group.0 }

-- the chains of a member, by first use
abbrev pub chains_of : Market → ℕ → List Chain
chains_of market member =
    map (output_chain market.chains member) (grouped (uses_of market.tokens member))
