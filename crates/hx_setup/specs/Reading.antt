-- The front of a text: one line, or the longest run of stock lines and member lines that may be there.
use Rattle.std.specs.Prelude.{◌≡◌, ◌≢◌, ℕ, ◌≤◌, true, List, [], ◌∷◌, ◌++◌, map, length}
use Rattle.std.specs.List.{AllByRecursion}
use Rattle.hx_units.specs.Letters.{space, line_feed}
use Rattle.hx_units.specs.Limits.{greatest_member}
use Rattle.hx_units.specs.Cuts.{Lacks}
use Rattle.hx_setup.specs.declared.stock.Stock.{Stock}
use Rattle.hx_setup.specs.declared.stock.Member.{Member}
use Rattle.hx_setup.specs.Setups.{most_stocks, is_session, names_differ, numbers_rise, users_differ}
use Rattle.hx_setup.specs.SetupText.{HasStockLine, HasMemberLine, member_fields, text_of}

-- 10 letters or digits
abbrev pub IsSession : List ℕ → Type 0
IsSession session = is_session session ≡ true

-- the line is a member's, of these fields: number, firm, user, password and limit
pub record AreFields (line n f u p l : List ℕ) : Type 0 where
  pub of_line : line ≡ member_fields n f u p l
  pub number : Lacks space n
  pub firm : Lacks space f
  pub user : Lacks space u
  pub password : Lacks space p

-- the text begins with the line of an item, and the rest follows
pub record IsNext {A : Type 0} (line : A → List ℕ) (Has : A → Type 0) (text : List ℕ)
    (item : A) (rest : List ℕ) : Type 0 where
  pub has : Has item
  pub of_text : text ≡ line item ++ line_feed ∷ rest

-- no more stocks than a setup may have, with different names
pub record AreStocks (stocks : List Stock) : Type 0 where
  pub each : AllByRecursion HasStockLine stocks
  pub names : names_differ stocks ≡ true
  pub few : length stocks ≤ most_stocks

-- no more members than a setup may have, with rising numbers and different users
pub record AreMembers (members : List Member) : Type 0 where
  pub each : AllByRecursion HasMemberLine members
  pub numbers : numbers_rise members ≡ true
  pub users : users_differ members ≡ true
  pub few : length members ≤ greatest_member

-- The lines of a longest list of items are at the front of the text, and the rest follows.
pub record IsLongest {A : Type 0} (line : A → List ℕ) (Are : List A → Type 0) (text : List ℕ)
    (items : List A) (rest : List ℕ) : Type 0 where
  pub of_text : text ≡ text_of (map line items) ++ rest
  pub are : Are items
  pub no_more : (item : A) (after : List ℕ) → Are (items ++ item ∷ [])
      → rest ≢ line item ++ line_feed ∷ after
