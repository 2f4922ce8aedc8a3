-- The lines of a setup: they have no line feed in them, and give its stocks and its members.
use Rattle.std.proofs.Common.{◌≡◌, ℕ, ◌≤◌, Bool, List, [], ◌∷◌, ◌++◌, length, map, refl, sym, ap, ◌∙◌, inl, inr, ◌⊎◌, arith}
use Rattle.std.specs.List.{AllByRecursion}
use Rattle.std.proofs.lemmas.List.{append_assoc, append-nil}
use Rattle.std.proofs.lemmas.List.Concat.{flat_map-append}
use Rattle.hx_setup.specs.declared.stock.Stock.{Stock}
use Rattle.hx_setup.specs.declared.stock.Member.{Member}
use Rattle.hx_setup.specs.Setups.{Setup}
use Rattle.hx_setup.specs.SetupText.{text_of, session_line, start_line, stock_line, member_line, setup_lines, HasStockLine, HasMemberLine, HasText}
use Rattle.hx_setup.specs.Reading.{IsSession, IsNext}
use Rattle.hx_units.specs.Cuts.{Lacks}
use Rattle.hx_units.proofs.Splits.{same_split}
use Rattle.hx_setup.proofs.Spelling.{session_feed, start_feed, stock_feed, member_feed, stock_same, member_same, stock_not_member}
use Rattle.hx_units.proofs.Lists.{line_feed-not_nil}

-- ---- lines have no line feed in them

stock_feeds : (stocks : List Stock) → AllByRecursion HasStockLine stocks → AllByRecursion (Lacks 10) (map stock_line stocks)
stock_feeds [] h = tt
stock_feeds (s ∷ stocks) h = (stock_feed s h.0, stock_feeds stocks h.1)

member_feeds : (members : List Member) → AllByRecursion HasMemberLine members → AllByRecursion (Lacks 10) (map member_line members)
member_feeds [] h = tt
member_feeds (m ∷ members) h = (member_feed m h.0, member_feeds members h.1)

joined : (xs ys : List (List ℕ)) → AllByRecursion (Lacks 10) xs → AllByRecursion (Lacks 10) ys → AllByRecursion (Lacks 10) (xs ++ ys)
joined [] ys p q = q
joined (x ∷ xs) ys p q = (p.0, joined xs ys p.1 q)

-- the lines of what is read so far
abbrev pub lines_of : List ℕ → Bool → List Stock → List Member → List (List ℕ)
lines_of session start_open stocks members = session_line session ∷ start_line start_open ∷ (map stock_line stocks ++ map member_line members)

pub lines_feeds : (session : List ℕ) (start_open : Bool) (stocks : List Stock) (members : List Member) → IsSession session → AllByRecursion HasStockLine stocks → AllByRecursion HasMemberLine members
    → AllByRecursion (Lacks 10) (lines_of session start_open stocks members)
lines_feeds session start_open stocks members is p q = (
  session_feed session is,
  (start_feed start_open, joined (map stock_line stocks) (map member_line members) (stock_feeds stocks p) (member_feeds members q)),
)

pub setup_feeds : (setup : Setup) → HasText setup → AllByRecursion (Lacks 10) (setup_lines setup)
setup_feeds setup has = lines_feeds setup.session setup.start_open setup.stocks setup.members has.is_setup.session has.stocks has.members

-- ---- texts of lines that begin alike

pub first_line : (x : List ℕ) (xs : List (List ℕ)) (rest : List ℕ) → text_of (x ∷ xs) ++ rest ≡ x ++ 10 ∷ (text_of xs ++ rest)
first_line x xs rest = append_assoc (x ++ 10 ∷ []) (text_of xs) rest ∙ append_assoc x (10 ∷ []) (text_of xs ++ rest)

-- the second lines are the first ones and more, and the rest after the first has those more
pub record Goes (xs ys : List (List ℕ)) (rest after : List ℕ) : Type 0 where
  pub more : List (List ℕ)
  pub lines_are : ys ≡ xs ++ more
  pub rest_is : rest ≡ text_of more ++ after

goes_more : (x y : List ℕ) (xs ys : List (List ℕ)) (rest after : List ℕ) → x ≡ y → Goes xs ys rest after → Goes (x ∷ xs) (y ∷ ys) rest after
goes_more x y xs ys rest after e g = record { more = g.more; lines_are = λ i. sym e i ∷ g.lines_are i; rest_is = g.rest_is }

pub goes : (xs ys : List (List ℕ)) (rest after : List ℕ) → AllByRecursion (Lacks 10) xs → AllByRecursion (Lacks 10) ys → length xs ≤ length ys → text_of xs ++ rest ≡ text_of ys ++ after → Goes xs ys rest after
goes [] ys rest after p q fits e = record { more = ys; lines_are = refl; rest_is = e }
goes (x ∷ xs) [] rest after p q fits e = absurd (omega (arith, fits))
goes (x ∷ xs) (y ∷ ys) rest after p q fits e =
    let cut = same_split 10 x (text_of xs ++ rest) y (text_of ys ++ after) p.0 q.0 (sym (first_line x xs rest) ∙ e ∙ first_line y ys after) in
    goes_more x y xs ys rest after cut.0 (goes xs ys rest after p.1 q.1 (omega (arith, fits)) cut.1)

pub goes_whole : (xs ys : List (List ℕ)) (rest : List ℕ) → AllByRecursion (Lacks 10) xs → AllByRecursion (Lacks 10) ys → text_of xs ++ rest ≡ text_of ys → Goes xs ys rest []
goes_whole [] ys rest p q e = record { more = ys; lines_are = refl; rest_is = e ∙ sym (append-nil (text_of ys)) }
goes_whole (x ∷ xs) [] rest p q e = absurd (line_feed-not_nil x (text_of xs ++ rest) (sym (first_line x xs rest) ∙ e))
goes_whole (x ∷ xs) (y ∷ ys) rest p q e =
    let cut = same_split 10 x (text_of xs ++ rest) y (text_of ys) p.0 q.0 (sym (first_line x xs rest) ∙ e ∙ append_assoc y (10 ∷ []) (text_of ys)) in
    goes_more x y xs ys rest [] cut.0 (goes_whole xs ys rest p.1 q.1 cut.1)

-- ---- the first of some lines

pub same_head : (x y : List ℕ) (xs ys : List (List ℕ)) → x ∷ xs ≡ y ∷ ys → x ≡ y
same_head x y xs ys e = cc

pub same_tail : (x y : List ℕ) (xs ys : List (List ℕ)) → x ∷ xs ≡ y ∷ ys → xs ≡ ys
same_tail x y xs ys e = cc

pub no_lines : (x : List ℕ) (xs : List (List ℕ)) → x ∷ xs ≡ [] → ⊥
no_lines x xs e = absurd cc

-- ---- the lines of stocks and members

-- the line is that of one more stock, and none of a member comes before it
pub record NextStock (stocks whole : List Stock) (members : List Member) (line : List ℕ) : Type 0 where
  pub none : members ≡ []
  pub stock : Stock
  pub more : List Stock
  pub stocks_are : whole ≡ stocks ++ stock ∷ more
  pub line_is : line ≡ stock_line stock

-- the line is that of one more member, after all stocks
pub record NextMember (stocks all : List Stock) (members whole : List Member) (line : List ℕ) : Type 0 where
  pub stocks_are : all ≡ stocks
  pub member : Member
  pub more : List Member
  pub members_are : whole ≡ members ++ member ∷ more
  pub line_is : line ≡ member_line member

next_member : (members whole : List Member) (line : List ℕ) (others : List (List ℕ)) → AllByRecursion HasMemberLine members → AllByRecursion HasMemberLine whole
    → map member_line whole ≡ map member_line members ++ line ∷ others → NextMember [] [] members whole line
next_member [] [] line others p q e = absurd cc
next_member [] (n ∷ whole) line others p q e = record { stocks_are = refl; member = n; more = whole; members_are = refl; line_is = sym (same_head _ _ _ _ e) }
next_member (m ∷ members) [] line others p q e = absurd cc
next_member (m ∷ members) (n ∷ whole) line others p q e =
    let rest = next_member members whole line others p.1 q.1 (same_tail _ _ _ _ e) in
    let same = member_same n m q.0 p.0 (same_head _ _ _ _ e) in
    record { stocks_are = refl; member = rest.member; more = rest.more; members_are = λ i. same i ∷ rest.members_are i; line_is = rest.line_is }

pub next_line : (stocks all : List Stock) (members whole : List Member) (line : List ℕ) (others : List (List ℕ))
    → AllByRecursion HasStockLine stocks → AllByRecursion HasStockLine all → AllByRecursion HasMemberLine members → AllByRecursion HasMemberLine whole
    → map stock_line all ++ map member_line whole ≡ (map stock_line stocks ++ map member_line members) ++ line ∷ others → NextStock stocks all members line ⊎ NextMember stocks all members whole line
next_line [] [] members whole line others p q r s e = inr (next_member members whole line others r s e)
next_line [] (x ∷ all) [] whole line others p q r s e = inl (record { none = refl; stock = x; more = all; stocks_are = refl; line_is = sym (same_head _ _ _ _ e) })
next_line [] (x ∷ all) (m ∷ members) whole line others p q r s e = absurd (stock_not_member x m (same_head _ _ _ _ e))
next_line (y ∷ stocks) [] members [] line others p q r s e = absurd cc
next_line (y ∷ stocks) [] members (n ∷ whole) line others p q r s e = absurd (stock_not_member y n (sym (same_head _ _ _ _ e)))
next_line (y ∷ stocks) (x ∷ all) members whole line others p q r s e =
    at (next_line stocks all members whole line others p.1 q.1 r s (same_tail _ _ _ _ e))
  where
    same : x ≡ y
    same = stock_same x y q.0 p.0 (same_head _ _ _ _ e)

    at : NextStock stocks all members line ⊎ NextMember stocks all members whole line → NextStock (y ∷ stocks) (x ∷ all) members line ⊎ NextMember (y ∷ stocks) (x ∷ all) members whole line
    at (inl n) = inl (record { none = n.none; stock = n.stock; more = n.more; stocks_are = λ i. same i ∷ n.stocks_are i; line_is = n.line_is })
    at (inr n) = inr (record { stocks_are = λ i. same i ∷ n.stocks_are i; member = n.member; more = n.more; members_are = n.members_are; line_is = n.line_is })

same_members : (members whole : List Member) → AllByRecursion HasMemberLine members → AllByRecursion HasMemberLine whole → map member_line whole ≡ map member_line members → whole ≡ members
same_members [] [] p q e = refl
same_members [] (n ∷ whole) p q e = absurd cc
same_members (m ∷ members) [] p q e = absurd cc
same_members (m ∷ members) (n ∷ whole) p q e = λ i. member_same n m q.0 p.0 (same_head _ _ _ _ e) i ∷ same_members members whole p.1 q.1 (same_tail _ _ _ _ e) i

-- the same lines are those of the same stocks and members
pub same_lines : (stocks all : List Stock) (members whole : List Member) → AllByRecursion HasStockLine stocks → AllByRecursion HasStockLine all → AllByRecursion HasMemberLine members → AllByRecursion HasMemberLine whole
    → map stock_line all ++ map member_line whole ≡ map stock_line stocks ++ map member_line members → (all ≡ stocks) × (whole ≡ members)
same_lines [] [] members whole p q r s e = (refl, same_members members whole r s e)
same_lines [] (x ∷ all) [] whole p q r s e = absurd cc
same_lines [] (x ∷ all) (m ∷ members) whole p q r s e = absurd (stock_not_member x m (same_head _ _ _ _ e))
same_lines (y ∷ stocks) [] members [] p q r s e = absurd cc
same_lines (y ∷ stocks) [] members (n ∷ whole) p q r s e = absurd (stock_not_member y n (sym (same_head _ _ _ _ e)))
same_lines (y ∷ stocks) (x ∷ all) members whole p q r s e =
    let rest = same_lines stocks all members whole p.1 q.1 r s (same_tail _ _ _ _ e) in
    (λ i. stock_same x y q.0 p.0 (same_head _ _ _ _ e) i ∷ rest.0 i, rest.1)

-- ---- the text of what is read

pub read_text : (text r1 r2 r3 r4 session : List ℕ) (start_open : Bool) (stocks : List Stock) (members : List Member) → IsNext session_line IsSession text session r1 → IsNext start_line (λ _. Unit {0}) r1 start_open r2
    → r2 ≡ text_of (map stock_line stocks) ++ r3 → r3 ≡ text_of (map member_line members) ++ r4 → text ≡ text_of (lines_of session start_open stocks members) ++ r4
read_text text r1 r2 r3 r4 session start_open stocks members first second e f =
    first.of_text
    ∙ ap (λ (l : List ℕ). session_line session ++ 10 ∷ l)
    (second.of_text
    ∙ ap (λ (l : List ℕ). start_line start_open ++ 10 ∷ l)
    (e ∙ ap (λ (l : List ℕ). text_of (map stock_line stocks) ++ l) f ∙ sym (append_assoc (text_of (map stock_line stocks)) (text_of (map member_line members)) r4)
    ∙ ap (λ (l : List ℕ). l ++ r4) (sym (flat_map-append (λ (l : List ℕ). l ++ 10 ∷ []) (map stock_line stocks) (map member_line members))))
    ∙ sym (first_line (start_line start_open) (map stock_line stocks ++ map member_line members) r4))
    ∙ sym (first_line (session_line session) (start_line start_open ∷ (map stock_line stocks ++ map member_line members)) r4)
