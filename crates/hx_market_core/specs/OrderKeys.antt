-- The keys of the live orders: at the indices of their tokens.
use Rattle.std.specs.Prelude.{◌≡◌, ℕ, ◌<◌, List, length, Option, Some}
use Rattle.std.specs.List.{AllByRecursion}
use Rattle.hx_book.specs.declared.order.Live.{Live}
use Rattle.hx_members.specs.Tokens.{key_at}
use Rattle.hx_members.specs.Chains.{Used, index_of}

-- the key of each live order stands at its token
pub record AreKeyed (tokens : List Used) (keys : List (Option ℕ))
    (orders : List Live) : Type 0 where
  pub as_many : length keys ≡ length tokens
  pub each :
      AllByRecursion (λ live. key_at keys (index_of tokens live.order.member live.order.token)
      ≡ Some live.key.0) orders

-- the tokens of these orders were used before the one at this index
abbrev pub AreBefore : List Used → ℕ → List Live → Type 0
AreBefore tokens index orders =
    AllByRecursion (λ live. index_of tokens live.order.member live.order.token < index) orders
