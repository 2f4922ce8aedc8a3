-- Lists of stocks and of members that one more line makes longer.
use Rattle.std.proofs.Common.{◌≡◌, ℕ, ◌+◌, ◌<◌, ◌&&◌, ◌||◌, zero, suc, Bool, true, false, not, cond, nat_lt, List, [], ◌∷◌, ◌++◌, length, map, refl, sym, ap, ◌∙◌, subst, arith, length-append, ltb-true, lt-ltb, le-ltb, get_or, inl, inr}
use Rattle.std.specs.Prelude.{◌≢◌, bytes_eq}
use Rattle.std.specs.List.{AllByRecursion, list_all, list_any}
use Rattle.std.specs.Char.{to_ascii_lowercase}
use Rattle.std.proofs.lemmas.Bool.{true≢false, cases_Bool, cases_lt}
use Rattle.std.proofs.lemmas.List.{append_assoc, append-nil, map-append, length-map}
use Rattle.std.proofs.lemmas.List.Concat.{flat_map-append}
use Rattle.std.proofs.lemmas.List.Folds.{list_all-append, list_all_at}
use Rattle.std.proofs.lemmas.Slice.Eq.{bytes_eq-Decides}
use Rattle.hx_units.specs.Names.{is_symbol}
use Rattle.hx_units.specs.declared.names.Symbol.{Symbol}
use Rattle.hx_setup.specs.declared.stock.Stock.{Stock}
use Rattle.hx_setup.specs.declared.stock.Member.{Member}
use Rattle.hx_setup.specs.Setups.{names_differ, numbers_rise, users_differ, is_login}
use Rattle.hx_setup.specs.SetupText.{text_of, stock_line, member_line, HasStockLine, HasMemberLine}
use Rattle.hx_setup.specs.Reading.{IsNext, AreStocks, AreMembers, IsLongest}
use Rattle.std.proofs.lemmas.Bool.{and_from, and_parts}
use Rattle.hx_units.proofs.Booleans.{same_bools}
use Rattle.hx_units.proofs.Lists.{all_pushed}
use Rattle.hx_setup.proofs.SetupLaws.{is_login-same, symbol-flip}
use Rattle.hx_setup.proofs.Spelling.{next_same, stock_feed, member_feed, stock_same, member_same}

-- ---- what holds of each item

pub each_front : {A : Type 0} (P : A → Type 0) (xs ys : List A) → AllByRecursion P (xs ++ ys) → AllByRecursion P xs
each_front P [] ys h = tt
each_front P (x ∷ xs) ys h = (h.0, each_front P xs ys h.1)

pub each_item : {A : Type 0} (P : A → Type 0) (xs : List A) (y : A) (ys : List A) → AllByRecursion P (xs ++ y ∷ ys) → P y
each_item P [] y ys h = h.0
each_item P (x ∷ xs) y ys h = each_item P xs y ys h.1

-- ---- what holds of each pair, in order

abbrev pub pairwise : {A : Type 0} → (A → A → Bool) → List A → Bool
pairwise R [] = true
pairwise R (x ∷ xs) = list_all (R x) xs && pairwise R xs

regroup : (a b c d : Bool) → ((a && (b && true)) && (c && d)) ≡ ((a && c) && (b && d))
regroup true true true d = refl
regroup true true false d = refl
regroup true false true d = refl
regroup true false false d = refl
regroup false b c d = refl

pub pairwise-more : {A : Type 0} (R : A → A → Bool) (xs : List A) (y : A) → pairwise R (xs ++ y ∷ []) ≡ (pairwise R xs && list_all (λ x. R x y) xs)
pairwise-more R [] y = refl
pairwise-more R (x ∷ xs) y =
    ap (λ b. b && pairwise R (xs ++ y ∷ [])) (list_all-append (R x) xs (y ∷ []))
    ∙ ap (λ b. (list_all (R x) xs && (R x y && true)) && b) (pairwise-more R xs y)
    ∙ regroup (list_all (R x) xs) (R x y) (pairwise R xs) (list_all (λ z. R z y) xs)

pub pairwise_front : {A : Type 0} (R : A → A → Bool) (xs ys : List A) → pairwise R (xs ++ ys) ≡ true → pairwise R xs ≡ true
pairwise_front R [] ys h = refl
pairwise_front R (x ∷ xs) ys h =
    let parts = and_parts (list_all (R x) (xs ++ ys)) (pairwise R (xs ++ ys)) h in
    let all = and_parts (list_all (R x) xs) (list_all (R x) ys) (sym (list_all-append (R x) xs ys) ∙ parts.0) in
    and_from (list_all (R x) xs) (pairwise R xs) all.0 (pairwise_front R xs ys parts.1)

none_is_all : {A : Type 0} (p : A → Bool) (xs : List A) → not (list_any p xs) ≡ list_all (λ x. not (p x)) xs
none_is_all p [] = refl
none_is_all p (x ∷ xs) = at (p x) (list_any p xs) ∙ ap (λ b. not (p x) && b) (none_is_all p xs)
  where
    at : (a b : Bool) → not (a || b) ≡ (not a && not b)
    at true b = refl
    at false b = refl

abbrev pub other_name : Stock → Stock → Bool
other_name s t = not (is_symbol s.symbol t.symbol)

abbrev pub other_user : Member → Member → Bool
other_user m n = not (is_login m.user n.user)

abbrev pub lower_number : Member → Member → Bool
lower_number m n = nat_lt m.number n.number

pub names_are : (stocks : List Stock) → names_differ stocks ≡ pairwise other_name stocks
names_are [] = refl
names_are (s ∷ stocks) =
    ap (λ b. b && names_differ stocks) (none_is_all (λ (o : Stock). is_symbol s.symbol o.symbol) stocks)
    ∙ ap (λ b. list_all (other_name s) stocks && b) (names_are stocks)

pub users_are : (members : List Member) → users_differ members ≡ pairwise other_user members
users_are [] = refl
users_are (m ∷ members) =
    ap (λ b. b && users_differ members) (none_is_all (λ (o : Member). is_login m.user o.user) members)
    ∙ ap (λ b. list_all (other_user m) members && b) (users_are members)

pub numbers_are : (members : List Member) → numbers_rise members ≡ pairwise lower_number members
numbers_are [] = refl
numbers_are (m ∷ members) = ap (λ b. list_all (lower_number m) members && b) (numbers_are members)

-- what the indexes of names and of users give

pub fresh_name : (stocks : List Stock) (symbol : Symbol) → not (list_any (is_symbol symbol) (map (λ (s : Stock). s.symbol) stocks)) ≡ list_all (λ (s : Stock). not (is_symbol s.symbol symbol)) stocks
fresh_name [] symbol = refl
fresh_name (s ∷ stocks) symbol =
    at (is_symbol symbol s.symbol) (list_any (is_symbol symbol) (map (λ (s : Stock). s.symbol) stocks))
    ∙ ap (λ b. not b && not (list_any (is_symbol symbol) (map (λ (s : Stock). s.symbol) stocks))) (symbol-flip symbol s.symbol)
    ∙ ap (λ b. not (is_symbol s.symbol symbol) && b) (fresh_name stocks symbol)
  where
    at : (a b : Bool) → not (a || b) ≡ (not a && not b)
    at true b = refl
    at false b = refl

-- a user in lower case
abbrev pub lower : List ℕ → List ℕ
lower user = map to_ascii_lowercase user

bytes-flip : (a b : List ℕ) → bytes_eq a b ≡ bytes_eq b a
bytes-flip a b = same_bools (bytes_eq a b) (bytes_eq b a) (λ h. (bytes_eq-Decides b a).1 (sym ((bytes_eq-Decides a b).0 h))) (λ h. (bytes_eq-Decides a b).1 (sym ((bytes_eq-Decides b a).0 h)))

same_user : (a b : List ℕ) → length a ≡ 6 → length b ≡ 6 → bytes_eq (lower b) (lower a) ≡ is_login a b
same_user a b p q = bytes-flip (lower b) (lower a) ∙ sym (is_login-same to_ascii_lowercase a b (length-map a to_ascii_lowercase ∙ p ∙ sym (length-map b to_ascii_lowercase ∙ q)))

pub fresh_user : (members : List Member) (user : List ℕ) → AllByRecursion HasMemberLine members → length user ≡ 6
    → not (list_any (bytes_eq (lower user)) (map (λ (m : Member). lower m.user) members)) ≡ list_all (λ (m : Member). not (is_login m.user user)) members
fresh_user [] user each six = refl
fresh_user (m ∷ members) user each six =
    at (bytes_eq (lower user) (lower m.user)) (list_any (bytes_eq (lower user)) (map (λ (m : Member). lower m.user) members))
    ∙ ap (λ b. not b && not (list_any (bytes_eq (lower user)) (map (λ (m : Member). lower m.user) members))) (same_user m.user user each.0.user_size six)
    ∙ ap (λ b. not (is_login m.user user) && b) (fresh_user members user each.1 six)
  where
    at : (a b : Bool) → not (a || b) ≡ (not a && not b)
    at true b = refl
    at false b = refl

-- ---- one line more

pub text_more : {A : Type 0} (line : A → List ℕ) (text rest after : List ℕ) (items : List A) (x : A) → text ≡ text_of (map line items) ++ rest → rest ≡ line x ++ 10 ∷ after
    → text ≡ text_of (map line (items ++ x ∷ [])) ++ after
text_more line text rest after items x e next =
    e ∙ ap (λ (l : List ℕ). text_of (map line items) ++ l) (next ∙ sym (append_assoc (line x) (10 ∷ []) after) ∙ ap (λ (l : List ℕ). l ++ after) (sym (append-nil (line x ++ 10 ∷ []))))
    ∙ sym (append_assoc (text_of (map line items)) (text_of (line x ∷ [])) after)
    ∙ ap (λ (l : List ℕ). l ++ after) (sym (flat_map-append (λ (l : List ℕ). l ++ 10 ∷ []) (map line items) (line x ∷ [])) ∙ ap text_of (sym (map-append line items (x ∷ []))))

pub stocks_more : (stocks : List Stock) (s : Stock) → AreStocks stocks → HasStockLine s → list_all (λ (t : Stock). not (is_symbol t.symbol s.symbol)) stocks ≡ true → length stocks < 1000 → AreStocks (stocks ++ s ∷ [])
stocks_more stocks s are has fresh few = record {
  each = all_pushed HasStockLine stocks s are.each has;
  names = names_are (stocks ++ s ∷ []) ∙ pairwise-more other_name stocks s
      ∙ and_from (pairwise other_name stocks) (list_all (λ t. other_name t s) stocks) (sym (names_are stocks) ∙ are.names) fresh;
  few = omega (arith, few, length-append stocks (s ∷ []));
}

pub members_more : (members : List Member) (m : Member) → AreMembers members → HasMemberLine m
    → list_all (λ (n : Member). nat_lt n.number m.number) members ≡ true → list_all (λ (n : Member). not (is_login n.user m.user)) members ≡ true
    → length members < 4095 → AreMembers (members ++ m ∷ [])
members_more members m are has above fresh few = record {
  each = all_pushed HasMemberLine members m are.each has;
  numbers = numbers_are (members ++ m ∷ []) ∙ pairwise-more lower_number members m
      ∙ and_from (pairwise lower_number members) (list_all (λ n. lower_number n m) members) (sym (numbers_are members) ∙ are.numbers) above;
  users = users_are (members ++ m ∷ []) ∙ pairwise-more other_user members m
      ∙ and_from (pairwise other_user members) (list_all (λ n. other_user n m) members) (sym (users_are members) ∙ are.users) fresh;
  few = omega (arith, few, length-append members (m ∷ []));
}

-- ---- why no line follows

-- the name is taken
pub name_taken : (stocks : List Stock) (s : Stock) (rest later : List ℕ) → IsNext stock_line HasStockLine rest s later → list_all (λ (t : Stock). not (is_symbol t.symbol s.symbol)) stocks ≡ false
    → (item : Stock) (after : List ℕ) → AreStocks (stocks ++ item ∷ []) → rest ≢ stock_line item ++ 10 ∷ after
name_taken stocks s rest later next taken item after are e =
    let same = next_same stock_line HasStockLine stock_feed stock_same rest item s after later (record { has = each_item HasStockLine stocks item [] are.each; of_text = e }) next in
    let parts = and_parts (pairwise other_name stocks) (list_all (λ t. other_name t item) stocks) (sym (pairwise-more other_name stocks item) ∙ sym (names_are (stocks ++ item ∷ [])) ∙ are.names) in
    true≢false (sym parts.1 ∙ ap (λ (i : Stock). list_all (λ (t : Stock). not (is_symbol t.symbol i.symbol)) stocks) same.0 ∙ taken)

-- the number does not rise, or the user is taken
pub member_refused : (members : List Member) (m : Member) (rest later : List ℕ) → IsNext member_line HasMemberLine rest m later
    → (list_all (λ (n : Member). nat_lt n.number m.number) members && list_all (λ (n : Member). not (is_login n.user m.user)) members) ≡ false
    → (item : Member) (after : List ℕ) → AreMembers (members ++ item ∷ []) → rest ≢ member_line item ++ 10 ∷ after
member_refused members m rest later next refused item after are e =
    let same = next_same member_line HasMemberLine member_feed member_same rest item m after later (record { has = each_item HasMemberLine members item [] are.each; of_text = e }) next in
    let numbers = and_parts (pairwise lower_number members) (list_all (λ n. lower_number n item) members) (sym (pairwise-more lower_number members item) ∙ sym (numbers_are (members ++ item ∷ [])) ∙ are.numbers) in
    let users = and_parts (pairwise other_user members) (list_all (λ n. other_user n item) members) (sym (pairwise-more other_user members item) ∙ sym (users_are (members ++ item ∷ [])) ∙ are.users) in
    true≢false (sym (and_from (list_all (λ n. lower_number n item) members) (list_all (λ n. other_user n item) members) numbers.1 users.1)
    ∙ ap (λ (i : Member). list_all (λ (n : Member). nat_lt n.number i.number) members && list_all (λ (n : Member). not (is_login n.user i.user)) members) same.0 ∙ refused)

-- ---- the last number is the greatest

passes_at : (p : Member → Bool) (members : List Member) (i : ℕ) (d : Member) → i < length members → list_all p members ≡ true → p (get_or members i d) ≡ true
passes_at p members i d lt all =
    elim (cases_Bool (p (get_or members i d))) [
      | inl h ↦ h
      | inr h ↦ absurd (true≢false (sym all ∙ list_all_at p members i d lt h))
    ]

pub below_last : (members : List Member) (i : ℕ) (d : Member) (number : ℕ) → i + 1 ≡ length members → numbers_rise members ≡ true
    → nat_lt (get_or members i d).number number ≡ list_all (λ (n : Member). nat_lt n.number number) members
below_last [] i d number last rise = absurd (omega arith)
below_last (x ∷ []) zero d number last rise = at (nat_lt x.number number)
  where
    at : (b : Bool) → b ≡ (b && true)
    at true = refl
    at false = refl
below_last (x ∷ []) (suc i) d number last rise = absurd (omega arith)
below_last (x ∷ y ∷ ys) zero d number last rise = absurd (omega arith)
below_last (x ∷ y ∷ ys) (suc i) d number last rise =
    let parts = and_parts (list_all (lower_number x) (y ∷ ys)) (numbers_rise (y ∷ ys)) rise in
    let less : x.number < (get_or (y ∷ ys) i d).number = ltb-true x.number (get_or (y ∷ ys) i d).number (passes_at (lower_number x) (y ∷ ys) i d (omega (arith, last)) parts.0) in
    at (get_or (y ∷ ys) i d).number less ∙ ap (λ b. nat_lt x.number number && b) (below_last (y ∷ ys) i d number (omega (arith, last)) parts.1)
  where
    at : (n : ℕ) → x.number < n → nat_lt n number ≡ (nat_lt x.number number && nat_lt n number)
    at n less =
        elim (cases_lt n number) [
          | inl below ↦ rw (lt-ltb n number below, lt-ltb x.number number (omega (arith, less, below))) refl
          | inr past ↦ rw (le-ltb n number past) (none (nat_lt x.number number))
        ]
      where
        none : (b : Bool) → false ≡ (b && false)
        none true = refl
        none false = refl

-- ---- a step of the readers' loops

-- the invariant of a loop: the items' lines come before the rest, and the index has their keys
pub record Keeps {A K : Type 0} (line : A → List ℕ) (Are : List A → Type 0) (key : A → K) (text rest : List ℕ) (items : List A) (keys : List K) : Type 0 where
  pub of_text : text ≡ text_of (map line items) ++ rest
  pub are : Are items
  pub keys_are : keys ≡ map key items

pub name_free : (stocks : List Stock) (symbol : Symbol) (keys : List Symbol) (added : Bool) → keys ≡ map (λ (s : Stock). s.symbol) stocks → added ≡ not (list_any (is_symbol symbol) keys)
    → added ≡ list_all (λ (t : Stock). not (is_symbol t.symbol symbol)) stocks
name_free stocks symbol keys added e is = is ∙ ap (λ (l : List Symbol). not (list_any (is_symbol symbol) l)) e ∙ fresh_name stocks symbol

pub user_free : (members : List Member) (user key : List ℕ) (keys : List (List ℕ)) (added : Bool) → AllByRecursion HasMemberLine members → length user ≡ 6 → key ≡ lower user
    → keys ≡ map (λ (m : Member). lower m.user) members → added ≡ not (list_any (bytes_eq key) keys) → added ≡ list_all (λ (m : Member). not (is_login m.user user)) members
user_free members user key keys added each six k e is =
    is ∙ ap (λ (l : List (List ℕ)). not (list_any (bytes_eq key) l)) e ∙ ap (λ (q : List ℕ). not (list_any (bytes_eq q) (map (λ (m : Member). lower m.user) members))) k ∙ fresh_user members user each six

-- the index after an insertion that added a key
pub key_added : {A K : Type 0} (eq : K → K → Bool) (key : A → K) (items : List A) (x : A) (keys more : List K) (added : Bool)
    → keys ≡ map key items → added ≡ not (list_any (eq (key x)) keys) → added ≡ true → more ≡ cond (list_any (eq (key x)) keys) keys (keys ++ key x ∷ []) → more ≡ map key (items ++ x ∷ [])
key_added eq key items x keys more added e is did inserted =
    inserted ∙ ap (λ b. cond b keys (keys ++ key x ∷ [])) (absent (list_any (eq (key x)) keys) (sym is ∙ did))
    ∙ ap (λ l. l ++ key x ∷ []) e ∙ sym (map-append key items (x ∷ []))
  where
    absent : (b : Bool) → not b ≡ true → b ≡ false
    absent true h = absurd (true≢false (sym h))
    absent false h = refl

pub stocks_step : (text rest later : List ℕ) (items new : List Stock) (s : Stock) (keys more : List Symbol) (added : Bool)
    → Keeps stock_line AreStocks (λ (s : Stock). s.symbol) text rest items keys → IsNext stock_line HasStockLine rest s later → length items < 1000
    → added ≡ not (list_any (is_symbol s.symbol) keys) → added ≡ true → more ≡ cond (list_any (is_symbol s.symbol) keys) keys (keys ++ s.symbol ∷ []) → new ≡ items ++ s ∷ []
    → Keeps stock_line AreStocks (λ (s : Stock). s.symbol) text later new more
stocks_step text rest later items new s keys more added retained next few is did inserted pushed = record {
  of_text = text_more stock_line text rest later items s retained.of_text next.of_text ∙ ap (λ (l : List Stock). text_of (map stock_line l) ++ later) (sym pushed);
  are = subst AreStocks (sym pushed) (stocks_more items s retained.are next.has (sym (name_free items s.symbol keys added retained.keys_are is) ∙ did) few);
  keys_are = key_added is_symbol (λ (s : Stock). s.symbol) items s keys more added retained.keys_are is did inserted ∙ ap (map (λ (s : Stock). s.symbol)) (sym pushed);
}

pub stocks_end : (text rest later : List ℕ) (items : List Stock) (s : Stock) (keys : List Symbol) (added : Bool)
    → Keeps stock_line AreStocks (λ (s : Stock). s.symbol) text rest items keys → IsNext stock_line HasStockLine rest s later → added ≡ not (list_any (is_symbol s.symbol) keys) → added ≡ false
    → IsLongest stock_line AreStocks text items rest
stocks_end text rest later items s keys added retained next is failed = record {
  of_text = retained.of_text;
  are = retained.are;
  no_more = name_taken items s rest later next (sym (name_free items s.symbol keys added retained.keys_are is) ∙ failed);
}

pub members_step : (text rest later : List ℕ) (items new : List Member) (m : Member) (key : List ℕ) (keys more : List (List ℕ)) (added : Bool)
    → Keeps member_line AreMembers (λ (m : Member). lower m.user) text rest items keys → IsNext member_line HasMemberLine rest m later → length items < 4095
    → list_all (λ (n : Member). nat_lt n.number m.number) items ≡ true → key ≡ lower m.user
    → added ≡ not (list_any (bytes_eq key) keys) → added ≡ true → more ≡ cond (list_any (bytes_eq key) keys) keys (keys ++ key ∷ []) → new ≡ items ++ m ∷ []
    → Keeps member_line AreMembers (λ (m : Member). lower m.user) text later new more
members_step text rest later items new m key keys more added retained next few above k is did inserted pushed =
    let here : added ≡ not (list_any (bytes_eq (lower m.user)) keys) = is ∙ ap (λ (q : List ℕ). not (list_any (bytes_eq q) keys)) k in
    let put : more ≡ cond (list_any (bytes_eq (lower m.user)) keys) keys (keys ++ lower m.user ∷ []) = inserted ∙ ap (λ (q : List ℕ). cond (list_any (bytes_eq q) keys) keys (keys ++ q ∷ [])) k in
    record {
      of_text = text_more member_line text rest later items m retained.of_text next.of_text ∙ ap (λ (l : List Member). text_of (map member_line l) ++ later) (sym pushed);
      are = subst AreMembers (sym pushed)
          (members_more items m retained.are next.has above (sym (user_free items m.user key keys added retained.are.each next.has.user_size k retained.keys_are is) ∙ did) few);
      keys_are = key_added bytes_eq (λ (m : Member). lower m.user) items m keys more added retained.keys_are here did put ∙ ap (map (λ (m : Member). lower m.user)) (sym pushed);
    }

pub members_end : (text rest later : List ℕ) (items : List Member) (m : Member) (keys : List (List ℕ))
    → Keeps member_line AreMembers (λ (m : Member). lower m.user) text rest items keys → IsNext member_line HasMemberLine rest m later
    → (list_all (λ (n : Member). nat_lt n.number m.number) items && list_all (λ (n : Member). not (is_login n.user m.user)) items) ≡ false
    → IsLongest member_line AreMembers text items rest
members_end text rest later items m keys retained next refused = record {
  of_text = retained.of_text;
  are = retained.are;
  no_more = member_refused items m rest later next refused;
}

pub first_no : (a b : Bool) → a ≡ false → (a && b) ≡ false
first_no a b e = rw e refl

pub second_no : (a b : Bool) → b ≡ false → (a && b) ≡ false
second_no true b e = e
second_no false b e = refl
