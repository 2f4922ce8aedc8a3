-- What holds of every market that a run reaches: its numbers, and the shares of each chain, fit.
use Rattle.std.specs.Prelude.{◌≡◌, ℕ, ◌+◌, ◌*◌, ◌-◌, ◌<◌, ◌≤◌, ◌^◌, Bool, true, false, if◌then◌else◌, ◌==◌, ◌&&◌, List, [], ◌∷◌, length, slice_index}
use Rattle.std.specs.List.{AllByRecursion, list_any}
use Rattle.hx_units.specs.Limits.{member_numbers, most_shares}
use Rattle.hx_rules.specs.Limits.{operator_limit}
use Rattle.hx_units.specs.Names.{is_token}
use Rattle.hx_units.specs.declared.names.Token.{Token}
use Rattle.hx_book.specs.declared.order.Order.{Order}
use Rattle.hx_match.specs.Matching.{Execution}
use Rattle.hx_rules.specs.Markets.{Market}
use Rattle.hx_rules.specs.Executions.{chains_after}
use Rattle.hx_refs.specs.Numbers.{Numbers}
use Rattle.hx_members.specs.Chains.{Used, Chain, is_used, entered_of, executed_by, executed_at, IsEnteredAt, IsChainAt, noted_at}

-- The chains as a plan's executions change them, each order's chain by its number.

-- an execution counts for the chains of both orders
abbrev pub noted_both : List Used → ℕ → Execution → List Chain → List Chain
noted_both tokens chain e chains =
    noted_at tokens chain e.shares false (noted_at tokens e.order.chain e.shares false chains)

abbrev pub chains_by : List Used → ℕ → List Execution → List Chain → List Chain
chains_by tokens chain [] chains = chains
chains_by tokens chain (e ∷ es) chains =
    chains_by tokens chain es (noted_both tokens chain e chains)

abbrev pub noted_if : Bool → List Used → ℕ → List Chain → List Chain
noted_if shown tokens chain chains = if shown then noted_at tokens chain 0 true chains else chains

-- a chain has this number, and can count `shares` shares more
pub record CanNote (tokens : List Used) (index shares : ℕ) (chains : List Chain) : Type 0 where
  pub there : IsChainAt tokens index
  pub room : executed_at tokens chains index + shares < 2 ^ 32

abbrev pub CanNoteAll : List Used → ℕ → List Execution → List Chain → Type 0
CanNoteAll tokens chain [] chains = Unit {0}
CanNoteAll tokens chain (e ∷ es) chains =
    CanNote tokens e.order.chain e.shares chains
    × CanNote tokens chain e.shares (noted_at tokens e.order.chain e.shares false chains)
    × CanNoteAll tokens chain es (noted_both tokens chain e chains)

-- The bounds on the shares.

-- the number if it counts, else none
abbrev pub own : (counts : Bool) (n : ℕ) → ℕ
own b n = if b then n else 0

abbrev pub is_name : ℕ → Token → ℕ → Token → Bool
is_name member entered i t = member == i && is_token entered t

-- the open shares of the live orders of a chain
abbrev pub open_in : List Used → ℕ → Token → List Order → ℕ
open_in tokens i t [] = 0
open_in tokens i t (x ∷ xs) =
    own (is_name x.member (entered_of tokens x.member x.token) i t) x.shares + open_in tokens i t xs

-- the order's token is used, and its chain's number is the index of its chain's entered token
pub record IsPlaced (tokens : List Used) (x : Order) : Type 0 where
  pub used : is_used tokens x.member x.token ≡ true
  pub at : IsEnteredAt tokens x.member (entered_of tokens x.member x.token) x.chain

abbrev pub ArePlaced : List Used → List Order → Type 0
ArePlaced tokens xs = AllByRecursion (IsPlaced tokens) xs

-- the order is of this chain
abbrev pub is_of_chain : List Used → ℕ → Token → Order → Bool
is_of_chain tokens i t x = is_name x.member (entered_of tokens x.member x.token) i t

-- each chain has one live order at most
abbrev pub AreLone : List Used → List Order → Type 0
AreLone tokens [] = Unit {0}
AreLone tokens (x ∷ xs) =
    (list_any (is_of_chain tokens x.member (entered_of tokens x.member x.token)) xs ≡ false)
    × AreLone tokens xs

-- the sum of the counts
abbrev pub total : (counts : List ℕ) → ℕ
total [] = 0
total (n ∷ counts) = n + total counts

-- What holds of every market that a run reaches: no count can overflow, and orders and chains are
-- those of used tokens.
pub record IsSound (m : Market) : Type 0 where
  -- each event draws one reference at most
  pub public : m.numbers.public ≤ total m.recorded
  pub private : (i : ℕ) → slice_index m.numbers.private i ≤ slice_index m.recorded i
  -- each event adds one order at most, and each of its executions but the last ends one
  pub matches : m.numbers.matches + length m.live ≤ 2 * total m.recorded
  -- the executed and the open shares of a chain are within those of one message
  pub within :
      (i : ℕ) (t : Token) → executed_by m.chains i t + open_in m.tokens i t m.live ≤ most_shares
  pub placed : ArePlaced m.tokens m.live
  pub lone : AreLone m.tokens m.live
  pub chained : AllByRecursion (λ c. is_used m.tokens c.member c.entered ≡ true) m.chains
  -- every number has a count, within its limit
  pub numbered : length m.recorded ≡ member_numbers
  pub limited : (i : ℕ) → slice_index m.recorded i ≤ operator_limit

-- the numbers have room for an order of the member with these executions, and so have the chains,
-- of which its own has this number; by their numbers the executions change the chains that the
-- definition changes by name
pub record CanAccept (tokens : List Used) (chains : List Chain) (numbers : Numbers) (member : ℕ)
    (token : Token) (index : ℕ) (executions : List Execution) : Type 0 where
  pub public : numbers.public < 2 ^ 62
  pub private : slice_index numbers.private member < 2 ^ 40 - 1
  pub matches : numbers.matches + length executions < 2 ^ 62
  pub notes : CanNoteAll tokens index executions chains
  pub own : CanNote tokens index 0 (chains_by tokens index executions chains)
  pub at : IsEnteredAt tokens member (entered_of tokens member token) index
  pub same :
      chains_by tokens index executions chains
      ≡ chains_after tokens member (entered_of tokens member token) executions chains
