-- The first line that does not fit: what is read up to it begins a setup's text, and no setup's text goes on with it.
use Rattle.std.proofs.Common.{◌≡◌, ℕ, ◌+◌, ◌<◌, ◌==◌, zero, suc, Bool, true, false, List, [], ◌∷◌, ◌++◌, length, map, refl, sym, ap, ◌∙◌, subst, inl, inr, ◌⊎◌, arith, length-append}
use Rattle.std.specs.Prelude.{◌≢◌}
use Rattle.std.proofs.lemmas.Bool.{true≢false, eqb-true}
use Rattle.std.specs.List.{AllByRecursion}
use Rattle.std.proofs.lemmas.List.{append_assoc, append-nil, length-map}
use Rattle.hx_setup.specs.declared.stock.Stock.{Stock}
use Rattle.hx_setup.specs.declared.stock.Member.{Member}
use Rattle.hx_setup.specs.Setups.{Setup}
use Rattle.hx_setup.specs.SetupText.{text_of, session_line, start_line, stock_line, member_line, setup_lines, setup_text, HasText, Begins, IsBadLine}
use Rattle.hx_setup.specs.Reading.{IsSession, IsNext, AreStocks, AreMembers, IsLongest}
use Rattle.hx_units.specs.Cuts.{Lacks}
use Rattle.hx_setup.proofs.Spelling.{session_feed}
use Rattle.hx_setup.proofs.Growing.{each_front}
use Rattle.hx_setup.proofs.WholeSetups.{has_text, stocks_front, members_front, a_stock, a_member, one_stock, one_member, a_session, is_session, no_members}
use Rattle.hx_setup.proofs.SetupLines.{lines_of, lines_feeds, setup_feeds, first_line, goes, goes_whole, same_head, same_tail, no_lines, NextStock, NextMember, next_line, same_lines, read_text}

-- a bad line after lines that fit

-- no setup's lines go on with the line that begins the rest
abbrev pub Stuck : List (List ℕ) → List ℕ → Type 0
Stuck lines rest = (setup : Setup) → HasText setup → (line : List ℕ) (others : List (List ℕ)) (after : List ℕ) → setup_lines setup ≡ lines ++ line ∷ others → rest ≡ line ++ 10 ∷ after → ⊥

-- if nothing is left, the lines are not all of a setup's
abbrev pub Incomplete : List (List ℕ) → List ℕ → Type 0
Incomplete lines rest = (setup : Setup) → HasText setup → setup_lines setup ≡ lines → rest ≡ [] → ⊥

stuck_wrong : (lines : List (List ℕ)) (rest text : List ℕ) → AllByRecursion (Lacks 10) lines → text ≡ text_of lines ++ rest → Stuck lines rest → Begins (length lines + 1) text → ⊥
stuck_wrong lines rest text feeds e stuck b =
    let front_feeds = each_front (Lacks 10) b.lines b.others (subst (AllByRecursion (Lacks 10)) b.of_setup (setup_feeds b.setup b.has_text)) in
    let g = goes lines b.lines rest b.rest feeds front_feeds (omega (arith, b.count)) (sym e ∙ b.of_text) in
    at g.more g.lines_are g.rest_is
  where
    at : (more : List (List ℕ)) → b.lines ≡ lines ++ more → rest ≡ text_of more ++ b.rest → ⊥
    at [] e r = omega (arith, b.count, ap length e, length-append lines [])
    at (z ∷ more) e r =
        stuck b.setup b.has_text z (more ++ b.others) (text_of more ++ b.rest) (b.of_setup ∙ ap (λ (l : List (List ℕ)). l ++ b.others) e ∙ append_assoc lines (z ∷ more) b.others) (r ∙ first_line z more b.rest)

no_setup : (lines : List (List ℕ)) (rest text : List ℕ) → AllByRecursion (Lacks 10) lines → text ≡ text_of lines ++ rest → Stuck lines rest → Incomplete lines rest
    → (setup : Setup) → HasText setup → text ≢ setup_text setup
no_setup lines rest text feeds e stuck incomplete setup has spelled =
    let g = goes_whole lines (setup_lines setup) rest feeds (setup_feeds setup has) (sym e ∙ spelled) in
    at g.more g.lines_are g.rest_is
  where
    at : (more : List (List ℕ)) → setup_lines setup ≡ lines ++ more → rest ≡ text_of more ++ [] → ⊥
    at [] e r = incomplete setup has (e ∙ append-nil lines) r
    at (z ∷ more) e r = stuck setup has z more (text_of more ++ []) e (r ∙ first_line z more [])

pub bad_at : (lines : List (List ℕ)) (text rest : List ℕ) → AllByRecursion (Lacks 10) lines → text ≡ text_of lines ++ rest → Begins (length lines) text → Stuck lines rest → Incomplete lines rest → IsBadLine (length lines + 1) text
bad_at lines text rest feeds e begins stuck incomplete = record {
  before = length lines;
  is_next = refl;
  begins = begins;
  goes_wrong = stuck_wrong lines rest text feeds e stuck;
  no_setup = no_setup lines rest text feeds e stuck incomplete;
}

-- ---- the first line
pub bad_first : (text : List ℕ) → ((s rest : List ℕ) → IsNext session_line IsSession text s rest → ⊥) → IsBadLine 1 text
bad_first text none =
    bad_at [] text text tt refl
    (record {
      setup = record { session = a_session; start_open = true; stocks = a_stock ∷ []; members = a_member ∷ [] };
      has_text = has_text a_session true (a_stock ∷ []) (a_member ∷ []) is_session one_stock one_member (omega arith) (omega arith);
      lines = [];
      others = _;
      of_setup = refl;
      count = refl;
      rest = text;
      of_text = refl;
    })
    (λ setup has line others after e next.
    none setup.session after (record { has = has.is_setup.session; of_text = next ∙ ap (λ (l : List ℕ). l ++ 10 ∷ after) (sym (same_head _ _ _ _ e)) }))
    (λ setup has e r. no_lines _ _ e)

-- ---- the second line

pub bad_second : (text rest session : List ℕ) → IsNext session_line IsSession text session rest → ((is_open : Bool) (after : List ℕ) → IsNext start_line (λ _. Unit {0}) rest is_open after → ⊥) → IsBadLine 2 text
bad_second text rest session first none =
    bad_at (session_line session ∷ []) text rest (session_feed session first.has, tt) (first.of_text ∙ sym (first_line (session_line session) [] rest))
    (record {
      setup = record { session = session; start_open = true; stocks = a_stock ∷ []; members = a_member ∷ [] };
      has_text = has_text session true (a_stock ∷ []) (a_member ∷ []) first.has one_stock one_member (omega arith) (omega arith);
      lines = session_line session ∷ [];
      others = _;
      of_setup = refl;
      count = refl;
      rest = rest;
      of_text = first.of_text ∙ sym (first_line (session_line session) [] rest);
    })
    (λ setup has line others after e next.
    none setup.start_open after (record { has = tt; of_text = next ∙ ap (λ (l : List ℕ). l ++ 10 ∷ after) (sym (same_head _ _ _ _ (same_tail _ _ _ _ e))) }))
    (λ setup has e r. no_lines _ _ (same_tail _ _ _ _ e))

-- ---- what is read so far begins a setup's text

begins_so : (session : List ℕ) (start_open : Bool) (stocks : List Stock) (members : List Member) (text rest : List ℕ) → IsSession session → AreStocks stocks → AreMembers members
    → (0 < length members → 0 < length stocks) → text ≡ text_of (lines_of session start_open stocks members) ++ rest → Begins (length (lines_of session start_open stocks members)) text
begins_so session start_open [] [] text rest is p q order e = record {
  setup = record { session = session; start_open = start_open; stocks = a_stock ∷ []; members = a_member ∷ [] };
  has_text = has_text session start_open (a_stock ∷ []) (a_member ∷ []) is one_stock one_member (omega arith) (omega arith);
  lines = lines_of session start_open [] [];
  others = _;
  of_setup = refl;
  count = refl;
  rest = rest;
  of_text = e;
}
begins_so session start_open [] (m ∷ members) text rest is p q order e = absurd (omega (arith, order (omega arith)))
begins_so session start_open (s ∷ stocks) [] text rest is p q order e = record {
  setup = record { session = session; start_open = start_open; stocks = s ∷ stocks; members = a_member ∷ [] };
  has_text = has_text session start_open (s ∷ stocks) (a_member ∷ []) is p one_member (omega arith) (omega arith);
  lines = lines_of session start_open (s ∷ stocks) [];
  others = member_line a_member ∷ [];
  of_setup = ap (λ (l : List (List ℕ)). session_line session ∷ start_line start_open ∷ (l ++ member_line a_member ∷ [])) (sym (append-nil (map stock_line (s ∷ stocks))));
  count = refl;
  rest = rest;
  of_text = e;
}
begins_so session start_open (s ∷ stocks) (m ∷ members) text rest is p q order e = record {
  setup = record { session = session; start_open = start_open; stocks = s ∷ stocks; members = m ∷ members };
  has_text = has_text session start_open (s ∷ stocks) (m ∷ members) is p q (omega arith) (omega arith);
  lines = lines_of session start_open (s ∷ stocks) (m ∷ members);
  others = [];
  of_setup = sym (append-nil (lines_of session start_open (s ∷ stocks) (m ∷ members)));
  count = refl;
  rest = rest;
  of_text = e;
}

-- a line after the first two

pub bad_later : (session : List ℕ) (start_open : Bool) (stocks : List Stock) (members : List Member) (text rest : List ℕ) → IsSession session → AreStocks stocks → AreMembers members
    → (0 < length members → 0 < length stocks) → text ≡ text_of (lines_of session start_open stocks members) ++ rest
    → (members ≡ [] → (s : Stock) (after : List ℕ) → AreStocks (stocks ++ s ∷ []) → rest ≢ stock_line s ++ 10 ∷ after)
    → (0 < length stocks → (m : Member) (after : List ℕ) → AreMembers (members ++ m ∷ []) → rest ≢ member_line m ++ 10 ∷ after)
    → (rest ≡ [] → 0 < length stocks → 0 < length members → ⊥)
    → IsBadLine (length (lines_of session start_open stocks members) + 1) text
bad_later session start_open stocks members text rest is p q order e no_stock no_member incomplete =
    bad_at (lines_of session start_open stocks members) text rest (lines_feeds session start_open stocks members is p.each q.each) e
    (begins_so session start_open stocks members text rest is p q order e) stuck (λ setup has same r. whole setup has r (same_lines stocks setup.stocks members setup.members p.each has.stocks q.each has.members (tails setup _ same)))
  where
    tails : (setup : Setup) (more : List (List ℕ)) → setup_lines setup ≡ session_line session ∷ start_line start_open ∷ more → map stock_line setup.stocks ++ map member_line setup.members ≡ more
    tails setup more same = same_tail _ _ _ _ (same_tail _ _ _ _ same)

    whole : (setup : Setup) → HasText setup → rest ≡ [] → (setup.stocks ≡ stocks) × (setup.members ≡ members) → ⊥
    whole setup has r same = incomplete r (omega (arith, ap length same.0, has.is_setup.some_stock)) (omega (arith, ap length same.1, has.is_setup.some_member))

    goes_on : (setup : Setup) → HasText setup → (line after : List ℕ) → rest ≡ line ++ 10 ∷ after → NextStock stocks setup.stocks members line ⊎ NextMember stocks setup.stocks members setup.members line → ⊥
    goes_on setup has line after next (inl n) =
        no_stock n.none n.stock after (stocks_front (stocks ++ n.stock ∷ []) n.more setup has (n.stocks_are ∙ sym (append_assoc stocks (n.stock ∷ []) n.more)))
        (next ∙ ap (λ (l : List ℕ). l ++ 10 ∷ after) n.line_is)
    goes_on setup has line after next (inr n) =
        no_member (omega (arith, ap length n.stocks_are, has.is_setup.some_stock)) n.member after
        (members_front (members ++ n.member ∷ []) n.more setup has (n.members_are ∙ sym (append_assoc members (n.member ∷ []) n.more)))
        (next ∙ ap (λ (l : List ℕ). l ++ 10 ∷ after) n.line_is)

    stuck : Stuck (lines_of session start_open stocks members) rest
    stuck setup has line others after same next =
        goes_on setup has line after next (next_line stocks setup.stocks members setup.members line others p.each has.stocks q.each has.members (tails setup _ same))

-- no stock
pub bad_third : (text r1 r2 r3 session : List ℕ) (start_open : Bool) (stocks : List Stock) → IsNext session_line IsSession text session r1 → IsNext start_line (λ _. Unit {0}) r1 start_open r2
    → IsLongest stock_line AreStocks r2 stocks r3 → length stocks ≡ 0 → IsBadLine 3 text
bad_third text r1 r2 r3 session start_open [] first second read none =
    bad_later session start_open [] [] text r3 first.has read.are no_members (λ h. absurd (omega (arith, h))) (read_text text r1 r2 r3 r3 session start_open [] [] first second read.of_text refl)
    (λ _. read.no_more) (λ h. absurd (omega (arith, h))) (λ r h k. absurd (omega (arith, h)))
bad_third text r1 r2 r3 session start_open (s ∷ stocks) first second read none = absurd (omega (arith, none))

-- no member, or a line that is no member's
pub bad_after : (text r1 r2 r3 r4 session : List ℕ) (start_open : Bool) (stocks : List Stock) (members : List Member) (n : ℕ) → IsNext session_line IsSession text session r1 → IsNext start_line (λ _. Unit {0}) r1 start_open r2
    → IsLongest stock_line AreStocks r2 stocks r3 → IsLongest member_line AreMembers r3 members r4 → 0 < length stocks → (r4 ≡ [] → 0 < length members → ⊥) → n ≡ 3 + length stocks + length members → IsBadLine n text
bad_after text r1 r2 r3 r4 session start_open stocks members n first second read more some incomplete count =
    subst (λ (k : ℕ). IsBadLine k text) (sym counted)
    (bad_later session start_open stocks members text r4 first.has read.are more.are (λ h. some) (read_text text r1 r2 r3 r4 session start_open stocks members first second read.of_text more.of_text)
    (λ none s after are e. read.no_more s after are (sole none ∙ e)) (λ h. more.no_more) (λ r h k. incomplete r k))
  where
    sole : members ≡ [] → r3 ≡ r4
    sole none = more.of_text ∙ ap (λ (l : List Member). text_of (map member_line l) ++ r4) none

    counted : n ≡ length (lines_of session start_open stocks members) + 1
    counted = omega (arith, count, length-append (map stock_line stocks) (map member_line members), length-map stocks stock_line, length-map members member_line)

-- what a test for emptiness says

pub none_there : (n : ℕ) → true ≡ (n == 0) → n ≡ 0
none_there n e = eqb-true n 0 (sym e)

pub some_there : (n : ℕ) → false ≡ (n == 0) → 0 < n
some_there zero e = absurd (true≢false (sym e))
some_there (suc n) e = omega arith

pub no_text : (xs : List ℕ) → true ≡ (length xs == 0) → xs ≡ []
no_text [] e = refl
no_text (x ∷ xs) e = absurd (omega (arith, none_there (length (x ∷ xs)) e))

pub some_text : (xs : List ℕ) → false ≡ (length xs == 0) → xs ≡ [] → ⊥
some_text xs e none = absurd (omega (arith, some_there (length xs) e, ap length none))
