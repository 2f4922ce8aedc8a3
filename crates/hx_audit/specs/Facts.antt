-- The facts of a chain.
use Rattle.std.specs.Prelude.{◌≡◌, ℕ, ◌||◌, Bool, true, List}
use Rattle.hx_units.specs.declared.names.Token.{Token}
use Rattle.hx_members.specs.ChainFacts.{ChainFacts}
use Rattle.hx_members.specs.Chains.{Chain, Used, is_loud, is_used}
use Rattle.hx_units.specs.Ranges.{IsMember}
use Rattle.hx_members.specs.Tokens.{facts_of}

-- the chain was displayed or has traded
abbrev pub are_loud : ChainFacts → Bool
are_loud facts = facts.displayed || facts.traded

-- the facts of each chain say whether it was displayed or has traded
abbrev pub FactsTell : List Chain → Type 0
FactsTell chains =
    (member : ℕ) (entered : Token)
    → is_loud chains member entered ≡ are_loud (facts_of chains member entered)

-- a number that has used a token is a member's, from 1 to 4,095
abbrev pub AreOfMembers : List Used → Type 0
AreOfMembers tokens =
    (member : ℕ) (token : Token) → is_used tokens member token ≡ true → IsMember member
