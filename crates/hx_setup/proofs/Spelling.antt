-- What the lines of a setup's text are spelled of: no line has a line feed in it, and each is that of one item.
use Rattle.std.proofs.Common.{◌≡◌, ℕ, ◌<◌, ◌==◌, ◌&&◌, Bool, true, false, nat_lt, List, ◌∷◌, ◌++◌, length, refl, sym, ap, ◌∙◌, subst, arith, ltb-true, lt-ltb, not, eq-eqb, get_or}
use Rattle.std.specs.Prelude.{◌≢◌, codes}
use Rattle.std.specs.List.{list_all}
use Rattle.std.specs.Char.{is_ascii_alphanumeric}
use Rattle.std.specs.Fmt.{decimal}
use Rattle.std.proofs.lemmas.List.{append_cancel_left}
use Rattle.std.proofs.lemmas.List.Elements.{All-cons, All-append}
use Rattle.hex.specs.Hex.{encode_lower}
use Rattle.hx_setup.specs.declared.stock.Stock.{Stock}
use Rattle.hx_setup.specs.declared.stock.Member.{Member}
use Rattle.hx_units.specs.Spaces.{without_back}
use Rattle.hx_setup.specs.Setups.{is_filled, is_visible, is_capital_or_digit, is_member}
use Rattle.hx_setup.specs.SetupText.{session_line, start_line, stock_line, member_fields, member_line, HasStockLine, HasMemberLine}
use Rattle.hx_setup.specs.Reading.{IsSession, AreFields, IsNext}
use Rattle.hx_units.specs.Cuts.{Lacks}
use Rattle.std.proofs.lemmas.Bool.{and_from, and_parts}
use Rattle.hx_setup.proofs.SetupLaws.{without_back-same}
use Rattle.hx_setup.proofs.Words.{lacks, lacks-hex, hex-same, decimal-same}
use Rattle.hx_units.proofs.Splits.{same_split, none_split}
use Rattle.hx_units.proofs.Decimals.{lacks-decimal}

-- ---- what the fields of a line are

-- the parts of what `is_member` says
pub record MemberParts (m : Member) : Type 0 where
  pub firm : list_all is_capital_or_digit m.firm.0 ≡ true
  pub user : is_filled is_ascii_alphanumeric m.user ≡ true
  pub password : is_filled is_ascii_alphanumeric m.password ≡ true
  pub limit : 0 < m.limit

pub member_parts : (m : Member) → HasMemberLine m → MemberParts m
member_parts m has =
    let a = and_parts (list_all is_capital_or_digit m.firm.0) (is_filled is_ascii_alphanumeric m.user && (is_filled is_ascii_alphanumeric m.password && nat_lt 0 m.limit)) has.names in
    let b = and_parts (is_filled is_ascii_alphanumeric m.user) (is_filled is_ascii_alphanumeric m.password && nat_lt 0 m.limit) a.1 in
    let d = and_parts (is_filled is_ascii_alphanumeric m.password) (nat_lt 0 m.limit) b.1 in
    record { firm = a.0; user = b.0; password = d.0; limit = ltb-true 0 m.limit d.1 }

above : (n : ℕ) → 0 < n → nat_lt 0 n ≡ true
above n h = lt-ltb 0 n h

pub member_whole : (m : Member) → MemberParts m → is_member m ≡ true
member_whole m p =
    and_from (list_all is_capital_or_digit m.firm.0) (is_filled is_ascii_alphanumeric m.user && (is_filled is_ascii_alphanumeric m.password && nat_lt 0 m.limit)) p.firm
    (and_from (is_filled is_ascii_alphanumeric m.user) (is_filled is_ascii_alphanumeric m.password && nat_lt 0 m.limit) p.user
    (and_from (is_filled is_ascii_alphanumeric m.password) (nat_lt 0 m.limit) p.password (above m.limit p.limit)))

lacks-filled : (test : ℕ → Bool) (b : ℕ) → test b ≡ false → (bytes : List ℕ) → is_filled test bytes ≡ true → Lacks b (without_back bytes)
lacks-filled test b fails bytes h = lacks test b fails (without_back bytes) (and_parts (nat_lt 0 (length (without_back bytes))) (list_all test (without_back bytes)) h).1

-- a literal
lacks-test : (b : ℕ) (xs : List ℕ) → list_all (λ x. not (x == b)) xs ≡ true → Lacks b xs
lacks-test b xs h = lacks (λ x. not (x == b)) b (ap not (eq-eqb b b refl)) xs h

joined : (b : ℕ) (xs ys : List ℕ) → b < 32 → Lacks b xs → Lacks b ys → Lacks b (xs ++ 32 ∷ ys)
joined b xs ys low p q = All-append (λ x. x ≢ b) xs (32 ∷ ys) p (All-cons (λ x. x ≢ b) 32 ys (λ e. absurd (omega (arith, e, low))) q)

-- ---- no line feed

pub session_feed : (s : List ℕ) → IsSession s → Lacks 10 (session_line s)
unfolding session_line
session_feed s is =
    let parts = and_parts (length s == 10) (list_all is_ascii_alphanumeric s) is in
    All-append (λ x. x ≢ 10) (codes "session ") s (lacks-test 10 (codes "session ") refl) (lacks is_ascii_alphanumeric 10 refl s parts.1)

pub start_feed : (is_open : Bool) → Lacks 10 (start_line is_open)
unfolding start_line
start_feed true = lacks-test 10 (codes "start open") refl
start_feed false = lacks-test 10 (codes "start closed") refl

pub stock_feed : (s : Stock) → HasStockLine s → Lacks 10 (stock_line s)
unfolding stock_line
stock_feed s has =
    All-append (λ x. x ≢ 10) (codes "stock ") (without_back s.symbol.0 ++ 32 ∷ encode_lower s.tail) (lacks-test 10 (codes "stock ") refl)
    (joined 10 (without_back s.symbol.0) (encode_lower s.tail) (omega arith) (lacks-filled is_visible 10 refl s.symbol.0 has.name) (lacks-hex 10 s.tail refl has.tail_bytes))

pub member_feed : (m : Member) → HasMemberLine m → Lacks 10 (member_line m)
unfolding member_line member_fields
member_feed m has =
    let p = member_parts m has in
    All-append (λ x. x ≢ 10) (codes "member ") _ (lacks-test 10 (codes "member ") refl)
    (joined 10 (decimal m.number) _ (omega arith) (lacks-decimal 10 m.number (omega arith) (omega (arith, has.number.1)))
    (joined 10 m.firm.0 _ (omega arith) (lacks is_capital_or_digit 10 refl m.firm.0 p.firm)
    (joined 10 (without_back m.user) _ (omega arith) (lacks-filled is_ascii_alphanumeric 10 refl m.user p.user)
    (joined 10 (without_back m.password) (decimal m.limit) (omega arith) (lacks-filled is_ascii_alphanumeric 10 refl m.password p.password)
    (lacks-decimal 10 m.limit (omega arith) (omega (arith, has.limit)))))))

-- ---- one item a line

pub stock_name : (s : Stock) → HasStockLine s → Lacks 32 (without_back s.symbol.0)
stock_name s has = lacks-filled is_visible 32 refl s.symbol.0 has.name

pub stock_same : (s t : Stock) → HasStockLine s → HasStockLine t → stock_line s ≡ stock_line t → s ≡ t
unfolding stock_line
stock_same s t p q e =
    let cut : without_back s.symbol.0 ++ 32 ∷ encode_lower s.tail ≡ without_back t.symbol.0 ++ 32 ∷ encode_lower t.tail = append_cancel_left (codes "stock ") _ _ e in
    let parts = same_split 32 (without_back s.symbol.0) (encode_lower s.tail) (without_back t.symbol.0) (encode_lower t.tail) (stock_name s p) (stock_name t q) cut in
    let symbols = without_back-same s.symbol.0 t.symbol.0 (p.symbol_size ∙ sym q.symbol_size) parts.0 in
    let tails = hex-same s.tail t.tail p.tail_bytes q.tail_bytes parts.1 in
    let made : List ℕ → List ℕ → Stock = λ symbol tail. record { symbol = record { 0 = symbol }; tail = tail } in
    ap (λ (l : List ℕ). made l s.tail) symbols ∙ ap (λ (l : List ℕ). made t.symbol.0 l) tails

-- the fields of a member are those of its line
pub fields_of : (line : List ℕ) (m : Member) → HasMemberLine m → line ≡ member_line m → AreFields line (decimal m.number) m.firm.0 (without_back m.user) (without_back m.password) (decimal m.limit)
unfolding member_line
fields_of line m has e =
    let p = member_parts m has in
    record {
      of_line = e;
      number = lacks-decimal 32 m.number (omega arith) (omega (arith, has.number.1));
      firm = lacks is_capital_or_digit 32 refl m.firm.0 p.firm;
      user = lacks-filled is_ascii_alphanumeric 32 refl m.user p.user;
      password = lacks-filled is_ascii_alphanumeric 32 refl m.password p.password;
    }

-- the same fields
pub record SameFields (n f u p l m g v q k : List ℕ) : Type 0 where
  pub number : n ≡ m
  pub firm : f ≡ g
  pub user : u ≡ v
  pub password : p ≡ q
  pub limit : l ≡ k

pub fields_same : (line n f u p l m g v q k : List ℕ) → AreFields line n f u p l → AreFields line m g v q k → SameFields n f u p l m g v q k
unfolding member_fields
fields_same line n f u p l m g v q k a b =
    let whole : member_fields n f u p l ≡ member_fields m g v q k = sym a.of_line ∙ b.of_line in
    let e1 : n ++ 32 ∷ (f ++ 32 ∷ (u ++ 32 ∷ (p ++ 32 ∷ l))) ≡ m ++ 32 ∷ (g ++ 32 ∷ (v ++ 32 ∷ (q ++ 32 ∷ k))) = append_cancel_left (codes "member ") _ _ whole in
    let s1 = same_split 32 n (f ++ 32 ∷ (u ++ 32 ∷ (p ++ 32 ∷ l))) m (g ++ 32 ∷ (v ++ 32 ∷ (q ++ 32 ∷ k))) a.number b.number e1 in
    let s2 = same_split 32 f (u ++ 32 ∷ (p ++ 32 ∷ l)) g (v ++ 32 ∷ (q ++ 32 ∷ k)) a.firm b.firm s1.1 in
    let s3 = same_split 32 u (p ++ 32 ∷ l) v (q ++ 32 ∷ k) a.user b.user s2.1 in
    let s4 = same_split 32 p l q k a.password b.password s3.1 in
    record { number = s1.0; firm = s2.0; user = s3.0; password = s4.0; limit = s4.1 }

pub member_same : (m n : Member) → HasMemberLine m → HasMemberLine n → member_line m ≡ member_line n → m ≡ n
member_same m n p q e =
    let same = fields_same (member_line m) _ _ _ _ _ _ _ _ _ _ (fields_of (member_line m) m p refl) (fields_of (member_line m) n q e) in
    let numbers = decimal-same m.number n.number (omega (arith, p.number.1)) (omega (arith, q.number.1)) same.number in
    let users = without_back-same m.user n.user (p.user_size ∙ sym q.user_size) same.user in
    let passwords = without_back-same m.password n.password (p.password_size ∙ sym q.password_size) same.password in
    let limits = decimal-same m.limit n.limit p.limit q.limit same.limit in
    let made : ℕ → List ℕ → List ℕ → List ℕ → ℕ → Member = λ number firm user password limit. record { number = number; firm = record { 0 = firm }; user = user; password = password; limit = limit } in
    ap (λ (x : ℕ). made x m.firm.0 m.user m.password m.limit) numbers ∙ ap (λ (x : List ℕ). made n.number x m.user m.password m.limit) same.firm
    ∙ ap (λ (x : List ℕ). made n.number n.firm.0 x m.password m.limit) users ∙ ap (λ (x : List ℕ). made n.number n.firm.0 n.user x m.limit) passwords
    ∙ ap (λ (x : ℕ). made n.number n.firm.0 n.user n.password x) limits

pub stock_not_member : (s : Stock) (m : Member) → stock_line s ≢ member_line m
unfolding stock_line member_line member_fields
stock_not_member s m e = let heads : get_or (stock_line s) 0 0 ≡ get_or (member_line m) 0 0 = ap (λ (l : List ℕ). get_or l 0 0) e in omega (arith, heads)

-- ---- the line at the front of a text

module _ {A : Type 0} (line : A → List ℕ) (Has : A → Type 0) (feed : (x : A) → Has x → Lacks 10 (line x)) where
  -- if it has no line feed
  pub next_feed : (text : List ℕ) → Lacks 10 text → (x : A) (rest : List ℕ) → IsNext line Has text x rest → ⊥
  next_feed text none x rest next = none_split 10 (line x) rest (subst (Lacks 10) next.of_text none)

  -- if its first line is that of no item
  pub next_line : (text front later : List ℕ) → (text ≡ front ++ 10 ∷ later) × Lacks 10 front → ((x : A) → Has x → front ≢ line x) → (x : A) (rest : List ℕ) → IsNext line Has text x rest → ⊥
  next_line text front later cut none x rest next = none x next.has (same_split 10 front later (line x) rest cut.1 (feed x next.has) (sym cut.0 ∙ next.of_text)).0

  -- it is that of one item
  pub next_same : ((x y : A) → Has x → Has y → line x ≡ line y → x ≡ y) → (text : List ℕ) (x y : A) (rest after : List ℕ) → IsNext line Has text x rest → IsNext line Has text y after → (x ≡ y) × (rest ≡ after)
  next_same same text x y rest after p q =
      let cut = same_split 10 (line x) rest (line y) after (feed x p.has) (feed y q.has) (sym p.of_text ∙ q.of_text) in
      (same x y p.has q.has cut.0, cut.1)

-- ---- reading a line's fields

-- what follows a word, if the text is cut at its first space
pub cut_next : (rest a b w r : List ℕ) → rest ≡ w ++ 32 ∷ r → Lacks 32 w → (rest ≡ a ++ 32 ∷ b) × Lacks 32 a → (a ≡ w) × (b ≡ r)
cut_next rest a b w r e none cut = same_split 32 a b w r cut.1 none (sym cut.0 ∙ e)

-- a text in which a word ends has a space
pub cut_none : (rest w r : List ℕ) → rest ≡ w ++ 32 ∷ r → Lacks 32 rest → ⊥
cut_none rest w r e none = none_split 32 w r (subst (Lacks 32) e none)

pub stock_rest : (text rest : List ℕ) (s : Stock) → text ≡ codes "stock " ++ rest → text ≡ stock_line s → rest ≡ without_back s.symbol.0 ++ 32 ∷ encode_lower s.tail
unfolding stock_line
stock_rest text rest s cut e = append_cancel_left (codes "stock ") _ _ (sym cut ∙ e)

pub stock_made : (text rest a b symbol tail : List ℕ) → text ≡ codes "stock " ++ rest → rest ≡ a ++ 32 ∷ b → a ≡ without_back symbol → b ≡ encode_lower tail → text ≡ stock_line (record { symbol = record { 0 = symbol }; tail = tail })
unfolding stock_line
stock_made text rest a b symbol tail cut e p q = cut ∙ ap (λ (l : List ℕ). codes "stock " ++ l) (e ∙ ap (λ (l : List ℕ). l ++ 32 ∷ b) p ∙ ap (λ (l : List ℕ). without_back symbol ++ 32 ∷ l) q)

pub member_rest : (text rest n f u p l : List ℕ) → text ≡ codes "member " ++ rest → AreFields text n f u p l → rest ≡ n ++ 32 ∷ (f ++ 32 ∷ (u ++ 32 ∷ (p ++ 32 ∷ l)))
unfolding member_fields
member_rest text rest n f u p l cut are = append_cancel_left (codes "member ") _ _ (sym cut ∙ are.of_line)

pub member_made : (text r1 r2 r3 r4 n f u p l : List ℕ) → text ≡ codes "member " ++ r1 → (r1 ≡ n ++ 32 ∷ r2) × Lacks 32 n → (r2 ≡ f ++ 32 ∷ r3) × Lacks 32 f → (r3 ≡ u ++ 32 ∷ r4) × Lacks 32 u → (r4 ≡ p ++ 32 ∷ l) × Lacks 32 p → AreFields text n f u p l
unfolding member_fields
member_made text r1 r2 r3 r4 n f u p l e e1 e2 e3 e4 = record {
  of_line =
      e ∙ ap (λ (r : List ℕ). codes "member " ++ r)
      (e1.0 ∙ ap (λ (r : List ℕ). n ++ 32 ∷ r) (e2.0 ∙ ap (λ (r : List ℕ). f ++ 32 ∷ r) (e3.0 ∙ ap (λ (r : List ℕ). u ++ 32 ∷ r) e4.0)));
  number = e1.1;
  firm = e2.1;
  user = e3.1;
  password = e4.1;
}

pub member_spelled : (text n f u p l user password : List ℕ) (number limit : ℕ) (firm : List ℕ) → AreFields text n f u p l
    → n ≡ decimal number → f ≡ firm → u ≡ without_back user → p ≡ without_back password → l ≡ decimal limit
    → text ≡ member_line (record { number = number; firm = record { 0 = firm }; user = user; password = password; limit = limit })
unfolding member_line
member_spelled text n f u p l user password number limit firm are a b d e g =
    are.of_line ∙ ap (λ (x : List ℕ). member_fields x f u p l) a ∙ ap (λ (x : List ℕ). member_fields (decimal number) x u p l) b
    ∙ ap (λ (x : List ℕ). member_fields (decimal number) firm x p l) d ∙ ap (λ (x : List ℕ). member_fields (decimal number) firm (without_back user) x l) e
    ∙ ap (λ (x : List ℕ). member_fields (decimal number) firm (without_back user) (without_back password) x) g
