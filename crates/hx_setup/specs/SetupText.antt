-- The text of a setup: a line for its session, one for how the day begins, one a stock and one a member.
use Rattle.std.specs.Prelude.{◌≡◌, ◌≢◌, ℕ, ◌+◌, ◌^◌, ◌<◌, codes, Bool, true, if◌then◌else◌, List, [], ◌∷◌, ◌++◌, map, length}
use Rattle.std.specs.List.{flat_map, AllByRecursion}
use Rattle.std.specs.Fmt.{decimal}
use Rattle.hex.specs.Hex.{encode_lower, IsBytes}
use Rattle.hx_units.specs.Letters.{space, line_feed}
use Rattle.hx_units.specs.Ranges.{IsMember}
use Rattle.hx_setup.specs.declared.stock.Stock.{Stock}
use Rattle.hx_setup.specs.declared.stock.Member.{Member}
use Rattle.hx_setup.specs.declared.fault.SetupError.{SetupError}
use Rattle.hx_setup.specs.declared.fault.SetupError.TheVariants as fault
use Rattle.hx_units.specs.Spaces.{without_back}
use Rattle.hx_setup.specs.Setups.{Setup, IsSetup, is_stock, is_member}

-- ---- the lines, without their line feeds

-- the session's line
unfoldable pub session_line : List ℕ → List ℕ
session_line session = codes "session " ++ session

-- the line for how the day begins
unfoldable pub start_line : Bool → List ℕ
start_line is_open = if is_open then codes "start open" else codes "start closed"

-- a stock's line: the name without the spaces that fill it, and the tail in lower-case hexadecimal
unfoldable pub stock_line : Stock → List ℕ
stock_line s = codes "stock " ++ (without_back s.symbol.0 ++ space ∷ encode_lower s.tail)

-- the line of these fields: one space stands between two
unfoldable pub member_fields : (number firm user password limit : List ℕ) → List ℕ
member_fields number firm user password limit =
    codes "member "
    ++ (number ++ space ∷ (firm ++ space ∷ (user ++ space ∷ (password ++ space ∷ limit))))

-- a member's line: numbers in decimal, user and password without the spaces that fill them
unfoldable pub member_line : Member → List ℕ
member_line m =
    member_fields (decimal m.number) m.firm.0 (without_back m.user) (without_back m.password)
    (decimal m.limit)

-- ---- the text

-- the lines of a setup
abbrev pub setup_lines : Setup → List (List ℕ)
setup_lines setup =
    session_line setup.session ∷ start_line setup.start_open
    ∷ (map stock_line setup.stocks ++ map member_line setup.members)

-- the text of lines, each ended by a line feed
abbrev pub text_of : List (List ℕ) → List ℕ
text_of lines = flat_map (λ line. line ++ line_feed ∷ []) lines

-- the one text of a setup
abbrev pub setup_text : Setup → List ℕ
setup_text setup = text_of (setup_lines setup)

-- ---- what has a text

-- a name of 1 to 8 visible characters, and a tail of 20 bytes
pub record HasStockLine (s : Stock) : Type 0 where
  pub symbol_size : length s.symbol.0 ≡ 8
  pub tail_size : length s.tail ≡ 20
  pub tail_bytes : IsBytes s.tail
  pub name : is_stock s ≡ true

-- a number, a firm of 4, a user of 1 to 6 and a password of 1 to 10 letters or digits, and a limit above 0
pub record HasMemberLine (m : Member) : Type 0 where
  pub number : IsMember m.number
  pub firm_size : length m.firm.0 ≡ 4
  pub user_size : length m.user ≡ 6
  pub password_size : length m.password ≡ 10
  pub names : is_member m ≡ true
  pub limit : m.limit < 2 ^ 32

-- 1 to 1,000 stocks of different names and 1 to 4,095 members of rising numbers and different users
pub record HasText (setup : Setup) : Type 0 where
  pub is_setup : IsSetup setup
  pub stocks : AllByRecursion HasStockLine setup.stocks
  pub members : AllByRecursion HasMemberLine setup.members

-- ---- what has none

-- the first n lines of the text are the first lines of some setup's text
pub record Begins (n : ℕ) (text : List ℕ) : Type 0 where
  pub setup : Setup
  pub has_text : HasText setup
  pub lines : List (List ℕ)
  pub others : List (List ℕ)
  pub of_setup : setup_lines setup ≡ lines ++ others
  pub count : length lines ≡ n
  pub rest : List ℕ
  pub of_text : text ≡ text_of lines ++ rest

-- Line n is the first that does not fit: the lines before it begin a setup's text, and with it they do not, as if it
-- lacks its line feed, or is missing. A text to which nothing is missing has no such line.
pub record IsBadLine (n : ℕ) (text : List ℕ) : Type 0 where
  pub before : ℕ
  pub is_next : n ≡ before + 1
  pub begins : Begins before text
  pub goes_wrong : Begins n text → ⊥
  pub no_setup : (setup : Setup) → HasText setup → text ≢ setup_text setup

-- what is wrong with the text if a setup was not read from it
abbrev pub IsFault : List ℕ → SetupError → Type 0
IsFault text (fault.Bad line) = IsBadLine line text
IsFault text fault.NoMemory = Unit {0}
