-- The setup of a day: its session, its stocks, its members, and how it begins.
use Rattle.std.specs.Prelude.{◌≡◌, ℕ, ◌+◌, ◌==◌, ◌&&◌, ◌||◌, ◌≤◌, not, nat_lt, nat_le, zero, suc, Bool, true, codes, if◌then◌else◌, List, [], ◌∷◌, ◌++◌, map, length, Option, Some, None, slice_get, replicate, bytes_eq}
use Rattle.std.specs.List.{find, list_any, list_all}
use Rattle.std.specs.Option.{option_map, option_map_or}
use Rattle.std.specs.Char.{to_ascii_lowercase, is_ascii_alphanumeric}
use Rattle.hx_units.specs.Spaces.{without_back}
use Rattle.hx_units.specs.Letters.{letter, space}
use Rattle.hx_units.specs.Limits.{greatest_member}
use Rattle.hx_units.specs.Names.{is_symbol}
use Rattle.hx_units.specs.declared.names.Symbol.{Symbol}
use Rattle.hx_units.specs.declared.names.Firm.{Firm}
use Rattle.hx_setup.specs.declared.stock.Stock.{Stock}
use Rattle.hx_setup.specs.declared.stock.Member.{Member}

-- what a setup says
pub record Setup : Type 0 where
  -- 10 letters or digits
  pub session : List ℕ
  -- whether the day begins open
  pub start_open : Bool
  -- a stock's index, from 1, is its locate
  pub stocks : List Stock
  pub members : List Member

-- the setup of these parts
abbrev pub setup_with : (session : List ℕ) → (start_open : Bool) → List Stock → List Member → Setup
setup_with session start_open stocks members =
    record { session = session; start_open = start_open; stocks = stocks; members = members }

-- the most stocks of a setup
abbrev pub most_stocks : ℕ
most_stocks = 1000

-- whether two users, or two passwords, are the same: without regard to case and to spaces on their right
abbrev pub is_login : (given retained : List ℕ) → Bool
is_login a b =
    bytes_eq (without_back (map to_ascii_lowercase a)) (without_back (map to_ascii_lowercase b))

-- the index of a stock, counted from n
abbrev pub locate_from : (n : ℕ) → List Stock → Symbol → Option ℕ
locate_from n [] symbol = None
locate_from n (s ∷ stocks) symbol =
    if is_symbol symbol s.symbol then Some n else locate_from (n + 1) stocks symbol

-- the index of a stock in the setup, from 1 (ITCH 5.0: Stock Locate)
abbrev pub locate_of : Setup → Symbol → Option ℕ
locate_of setup symbol = locate_from 1 setup.stocks symbol

-- the stock at an index, from 1
abbrev pub stock_at : Setup → (locate : ℕ) → Option Stock
stock_at setup zero = None
stock_at setup (suc index) = slice_get setup.stocks index

-- the name that nothing has
abbrev pub no_symbol : Symbol
no_symbol = record { 0 = replicate 8 space }

-- the firm that nobody has
abbrev pub no_firm : Firm
no_firm = record { 0 = replicate 4 space }

-- the name of the stock at an index, or spaces if there is none
abbrev pub symbol_of : Setup → (locate : ℕ) → Symbol
symbol_of setup locate = option_map_or (λ stock. stock.symbol) (stock_at setup locate) no_symbol

-- the member of this number
abbrev pub member_of : Setup → (number : ℕ) → Option Member
member_of setup number = find (λ m. number == m.number) setup.members

-- the member's firm, or spaces if there is no such member
abbrev pub firm_of : Setup → (number : ℕ) → Firm
firm_of setup number = option_map_or (λ m. m.firm) (member_of setup number) no_firm

-- the member that logs in by this user and this password (SoupBinTCP 3.00, Login Request Packet)
abbrev pub login_of : Setup → (user password : List ℕ) → Option ℕ
login_of setup user password =
    option_map (λ m. m.number)
    (find (λ m. is_login user m.user && is_login password m.password) setup.members)

-- what the setup text allows

-- whether a byte is a digit or a capital letter
abbrev pub is_capital_or_digit : ℕ → Bool
is_capital_or_digit b =
    (nat_le (letter "0") b && nat_le b (letter "9"))
    || (nat_le (letter "A") b && nat_le b (letter "Z"))

-- whether a byte is a character that is seen
abbrev pub is_visible : ℕ → Bool
is_visible b = nat_le (letter "!") b && nat_le b (letter "~")

-- a text that is filled with spaces on its right, not empty and of such characters only
abbrev pub is_filled : (ℕ → Bool) → List ℕ → Bool
is_filled test bytes = nat_lt 0 (length (without_back bytes)) && list_all test (without_back bytes)

-- a session of 10 letters or digits
abbrev pub is_session : List ℕ → Bool
is_session session = length session == 10 && list_all is_ascii_alphanumeric session

-- a name of 1 to 8 visible characters
abbrev pub is_stock : Stock → Bool
is_stock stock = is_filled is_visible stock.symbol.0

-- a firm of 4 capital letters or digits, a user of 1 to 6 and a password of 1 to 10 letters or digits, and a limit
abbrev pub is_member : Member → Bool
is_member m =
    list_all is_capital_or_digit m.firm.0
    && (is_filled is_ascii_alphanumeric m.user
    && (is_filled is_ascii_alphanumeric m.password && nat_lt 0 m.limit))

-- whether all stocks have different names
abbrev pub names_differ : List Stock → Bool
names_differ [] = true
names_differ (s ∷ stocks) =
    not (list_any (λ other. is_symbol s.symbol other.symbol) stocks) && names_differ stocks

-- whether the numbers rise from member to member
abbrev pub numbers_rise : List Member → Bool
numbers_rise [] = true
numbers_rise (m ∷ members) =
    list_all (λ other. nat_lt m.number other.number) members && numbers_rise members

-- whether all members have different users
abbrev pub users_differ : List Member → Bool
users_differ [] = true
users_differ (m ∷ members) =
    not (list_any (λ other. is_login m.user other.user) members) && users_differ members

-- 1 to 1,000 stocks of different names, and 1 to 4,095 members of rising numbers and different users
pub record IsSetup (setup : Setup) : Type 0 where
  pub session : is_session setup.session ≡ true
  pub some_stock : 1 ≤ length setup.stocks
  pub most_stocks : length setup.stocks ≤ most_stocks
  pub stocks : list_all is_stock setup.stocks ≡ true
  pub names : names_differ setup.stocks ≡ true
  pub some_member : 1 ≤ length setup.members
  pub most_members : length setup.members ≤ greatest_member
  pub members : list_all is_member setup.members ≡ true
  pub numbers : numbers_rise setup.members ≡ true
  pub users : users_differ setup.members ≡ true

-- an index: each key with its position, counted from n
abbrev pub indices_by : {A K : Type 0} → (key : A → K) → (n : ℕ) → List A → List (K × ℕ)
indices_by key n [] = []
indices_by key n (x ∷ xs) = (key x, n) ∷ indices_by key (n + 1) xs

-- the index of the stocks by name, with locates from 1
abbrev pub locates_of : List Stock → List (Symbol × ℕ)
locates_of stocks = indices_by (λ s. s.symbol) 1 stocks

-- the index of the members by number, with positions from 0
abbrev pub indices_of : List Member → List (ℕ × ℕ)
indices_of members = indices_by (λ m. m.number) 0 members

-- the standard setup

-- how the feed's stock directory message ends, after the name: market category and financial status, a round lot of
-- 100 shares, the letters of classification to exchange-traded products, no leverage, not inverse (ITCH 5.0, Stock
-- Directory)
abbrev pub standard_tail : List ℕ
standard_tail =
    codes "Q " ++ (0 ∷ 0 ∷ 0 ∷ 100 ∷ codes "NCZ P  1N") ++ (0 ∷ 0 ∷ 0 ∷ 0 ∷ codes "N")

-- a stock of this name
abbrev pub stock_named : List ℕ → Stock
stock_named symbol = record { symbol = record { 0 = symbol }; tail = standard_tail }

-- a member of these fields
abbrev pub member_with : (number : ℕ) → (firm user password : List ℕ) → (limit : ℕ) → Member
member_with number firm user password limit =
    record {
      number = number;
      firm = record { 0 = firm };
      user = user;
      password = password;
      limit = limit;
    }

-- a setup of two stocks and three members, for tests and examples
abbrev pub standard : Setup
standard =
    record {
      session = codes "HX00000001";
      start_open = true;
      stocks = stock_named (codes "ABCD    ") ∷ stock_named (codes "WXYZ    ") ∷ [];
      members =
          member_with 1 (codes "FMA1") (codes "ALPHA ") (codes "PWALPHA   ") 1000
          ∷ member_with 2 (codes "FMB2") (codes "BRAVO ") (codes "PWBRAVO   ") 1000
          ∷ member_with 3 (codes "FMC3") (codes "CHARLI") (codes "PWCHARLI  ") 1000
          ∷ [];
    }
