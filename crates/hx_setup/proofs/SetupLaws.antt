-- Indexes of lists with keys that differ, and logins.
use Rattle.std.proofs.Common.{◌≡◌, ℕ, ◌+◌, ◌<◌, ◌∷◌, [], List, Bool, true, false, cond, not, ◌==◌, ◌&&◌, ◌||◌, nat_lt, zero, suc, length, map, take, Option, Some, None, slice_get, refl, ap, sym, ◌∙◌, inl, inr, arith, ltb-true, ltb-false, get_or, Bor, is_some}
use Rattle.std.specs.List.{find, list_any, list_all}
use Rattle.std.specs.Map.{lookup}
use Rattle.std.specs.Option.{option_map, option_map_or, IfSome}
use Rattle.std.proofs.lemmas.Option.{same_Some, slice_get_past, slice_get-get_or}
use Rattle.std.specs.Prelude.{bytes_eq}
use Rattle.std.proofs.lemmas.Bool.{true≢false, cases_Bool, not-true}
use Rattle.std.proofs.lemmas.Bool.Decides.{Decides-eqb}
use Rattle.std.proofs.lemmas.Slice.Eq.{bytes_eq-Decides}
use Rattle.hx_units.specs.Names.{is_symbol}
use Rattle.hx_units.specs.declared.names.Symbol.{Symbol}
use Rattle.hx_setup.specs.declared.stock.Stock.{Stock}
use Rattle.hx_setup.specs.declared.stock.Member.{Member}
use Rattle.hx_units.specs.Spaces.{without_back}
use Rattle.hx_setup.specs.Setups.{Setup, indices_by, locate_from, locate_of, stock_at, names_differ, numbers_rise}
use Rattle.std.proofs.lemmas.Bool.{and_parts}
use Rattle.hx_units.proofs.Booleans.{same_bools}
use Rattle.indexmap.specs.IndexMap.{insert_entry}

-- no later item has the key of an earlier one
abbrev pub AreApart : {A K : Type 0} → (K → K → Bool) → (A → K) → List A → Type 0
AreApart eq key [] = Unit {0}
AreApart eq key (x ∷ xs) = ((i : ℕ) (y : _) → slice_get xs i ≡ Some y → eq (key y) (key x) ≡ false) × AreApart eq key xs

module _ {A K : Type 0} (eq : K → K → Bool) (key : A → K) where
  -- the index after the next item
  pub insert_entry-indices_by : (n : ℕ) (xs : List A) (i v : ℕ) (x : A) → AreApart eq key xs → slice_get xs i ≡ Some x → v ≡ n + i
      → insert_entry eq (indices_by key n (take i xs)) (key x) v ≡ indices_by key n (take (suc i) xs)
  insert_entry-indices_by n [] i v x a h e = absurd cc
  insert_entry-indices_by n (y ∷ ys) zero v x a h e = λ j. (key (sym (same_Some y x h) j), (let to : v ≡ n = omega (arith, e) in to) j) ∷ []
  insert_entry-indices_by n (y ∷ ys) (suc i) v x a h e =
      ap (λ b. cond b ((key y, v) ∷ indices_by key (n + 1) (take i ys)) ((key y, n) ∷ insert_entry eq (indices_by key (n + 1) (take i ys)) (key x) v)) (a.0 i x h)
      ∙ ap (λ l. (key y, n) ∷ l) (insert_entry-indices_by (n + 1) ys i v x a.1 h (omega (arith, e)))

  lookup-indices_by-suc : (test : K → Bool) (n : ℕ) (xs : List A) → lookup test (indices_by key (n + 1) xs) ≡ option_map suc (lookup test (indices_by key n xs))
  lookup-indices_by-suc test n [] = refl
  lookup-indices_by-suc test n (x ∷ xs) =
      ap (λ o. cond (test (key x)) (Some (n + 1)) o) (lookup-indices_by-suc test (n + 1) xs) ∙ at (test (key x)) (lookup test (indices_by key (n + 1) xs))
    where
      at : (b : Bool) (o : Option ℕ) → cond b (Some (n + 1)) (option_map suc o) ≡ option_map suc (cond b (Some n) o)
      at true o = ap Some (let one : n + 1 ≡ suc n = omega arith in one)
      at false o = refl

  -- the item at the position that the index gives is the first of its key
  pub find-indices_by : (test : K → Bool) (xs : List A) → option_map_or (λ p. slice_get xs p) (lookup test (indices_by key 0 xs)) None ≡ find (λ x. test (key x)) xs
  find-indices_by test [] = refl
  find-indices_by test (x ∷ xs) =
      ap (λ o. option_map_or (λ p. slice_get (x ∷ xs) p) (cond (test (key x)) (Some 0) o) None) (lookup-indices_by-suc test 0 xs)
      ∙ at (test (key x)) (lookup test (indices_by key 0 xs)) ∙ ap (λ o. cond (test (key x)) (Some x) o) (find-indices_by test xs)
    where
      at : (b : Bool) (o : Option ℕ) → option_map_or (λ p. slice_get (x ∷ xs) p) (cond b (Some 0) (option_map suc o)) None ≡ cond b (Some x) (option_map_or (λ p. slice_get xs p) o None)
      at true o = refl
      at false None = refl
      at false (Some p) = refl

pub lookup-locates_of : (n : ℕ) (stocks : List Stock) (symbol : Symbol) → lookup (is_symbol symbol) (indices_by (λ (s : Stock). s.symbol) n stocks) ≡ locate_from n stocks symbol
lookup-locates_of n [] symbol = refl
lookup-locates_of n (s ∷ stocks) symbol = ap (λ o. cond (is_symbol symbol s.symbol) (Some n) o) (lookup-locates_of (n + 1) stocks symbol)

-- what a list has passes no test that none passes, and each that all pass
any-at : {A : Type 0} (p : A → Bool) (xs : List A) (i : ℕ) (x : A) → slice_get xs i ≡ Some x → list_any p xs ≡ false → p x ≡ false
any-at p [] i x h n = absurd cc
any-at p (y ∷ ys) zero x h n = ap p (sym (same_Some y x h)) ∙ first (p y) n
  where
    first : (b : Bool) → (b || list_any p ys) ≡ false → b ≡ false
    first true k = absurd (true≢false k)
    first false k = refl
any-at p (y ∷ ys) (suc i) x h n = any-at p ys i x h (rest (p y) n)
  where
    rest : (b : Bool) → (b || list_any p ys) ≡ false → list_any p ys ≡ false
    rest true k = absurd (true≢false k)
    rest false k = k

all-at : {A : Type 0} (p : A → Bool) (xs : List A) (i : ℕ) (x : A) → slice_get xs i ≡ Some x → list_all p xs ≡ true → p x ≡ true
all-at p [] i x h n = absurd cc
all-at p (y ∷ ys) zero x h n = ap p (sym (same_Some y x h)) ∙ (and_parts (p y) (list_all p ys) n).0
all-at p (y ∷ ys) (suc i) x h n = all-at p ys i x h (and_parts (p y) (list_all p ys) n).1

pub symbol-flip : (s t : Symbol) → is_symbol s t ≡ is_symbol t s
symbol-flip s t = same_bools (is_symbol s t) (is_symbol t s) (λ h. (bytes_eq-Decides t.0 s.0).1 (sym ((bytes_eq-Decides s.0 t.0).0 h))) (λ h. (bytes_eq-Decides s.0 t.0).1 (sym ((bytes_eq-Decides t.0 s.0).0 h)))

pub apart-names : (stocks : List Stock) → names_differ stocks ≡ true → AreApart is_symbol (λ (s : Stock). s.symbol) stocks
apart-names [] h = tt
apart-names (s ∷ ss) h =
    let p = and_parts (not (list_any (λ (o : Stock). is_symbol s.symbol o.symbol) ss)) (names_differ ss) h in
    (λ i y g. symbol-flip y.symbol s.symbol ∙ any-at (λ (o : Stock). is_symbol s.symbol o.symbol) ss i y g (not-true (list_any (λ (o : Stock). is_symbol s.symbol o.symbol) ss) p.0), apart-names ss p.1)

pub apart-numbers : (members : List Member) → numbers_rise members ≡ true → AreApart (λ a b. a == b) (λ (m : Member). m.number) members
apart-numbers [] h = tt
apart-numbers (m ∷ ms) h =
    let p = and_parts (list_all (λ (o : Member). nat_lt m.number o.number) ms) (numbers_rise ms) h in
    (λ i y g. above y (all-at (λ (o : Member). nat_lt m.number o.number) ms i y g p.0), apart-numbers ms p.1)
  where
    above : (y : Member) → nat_lt m.number y.number ≡ true → (y.number == m.number) ≡ false
    above y h =
        elim (cases_Bool (y.number == m.number)) [
          | inl e ↦ absurd (let same : y.number ≡ m.number = (Decides-eqb y.number m.number).0 e in let less : m.number < y.number = ltb-true m.number y.number h in omega (arith, same, less))
          | inr n ↦ n
        ]

-- the member of a number is the one that stands somewhere and has it
pub member-at : (members : List Member) (i : ℕ) (m : Member) (number : ℕ) → AreApart (λ a b. a == b) (λ (x : Member). x.number) members → slice_get members i ≡ Some m → number ≡ m.number
    → find (λ (x : Member). number == x.number) members ≡ Some m
member-at [] i m number a h e = absurd cc
member-at (x ∷ xs) zero m number a h e =
    ap (λ b. cond b (Some x) (find (λ (y : Member). number == y.number) xs)) ((Decides-eqb number x.number).1 (e ∙ ap (λ (y : Member). y.number) (sym (same_Some x m h)))) ∙ h
member-at (x ∷ xs) (suc i) m number a h e =
    ap (λ b. cond b (Some x) (find (λ (y : Member). number == y.number) xs)) (ap (λ n. n == x.number) e ∙ a.0 i m h) ∙ member-at xs i m number a.1 h e

-- the locate of a name counts to the stock that stands somewhere and has it
locate_from-at : (n : ℕ) (stocks : List Stock) (i v : ℕ) (s : Stock) (symbol : Symbol) → AreApart is_symbol (λ (x : Stock). x.symbol) stocks → slice_get stocks i ≡ Some s → is_symbol s.symbol symbol ≡ true → v ≡ n + i
    → locate_from n stocks symbol ≡ Some v
locate_from-at n [] i v s symbol a h e is = absurd cc
locate_from-at n (x ∷ xs) zero v s symbol a h e is =
    ap (λ b. cond b (Some n) (locate_from (n + 1) xs symbol)) (ap (λ (y : Stock). is_symbol symbol y.symbol) (same_Some x s h) ∙ symbol-flip symbol s.symbol ∙ e)
    ∙ ap Some (let to : n ≡ v = omega (arith, is) in to)
locate_from-at n (x ∷ xs) (suc i) v s symbol a h e is =
    ap (λ b. cond b (Some n) (locate_from (n + 1) xs symbol)) (ap (λ l. bytes_eq l x.symbol.0) (sym ((bytes_eq-Decides s.symbol.0 symbol.0).0 e)) ∙ a.0 i s h)
    ∙ locate_from-at (n + 1) xs i v s symbol a.1 h e (omega (arith, is))

-- the locate of a name is the one whose stock has it
pub locate-at : (setup : Setup) (locate : ℕ) (s : Stock) (symbol : Symbol) → names_differ setup.stocks ≡ true → stock_at setup locate ≡ Some s → is_symbol s.symbol symbol ≡ true
    → locate_of setup symbol ≡ Some locate
locate-at setup zero s symbol d h e = absurd cc
locate-at setup (suc index) s symbol d h e = locate_from-at 1 setup.stocks index (suc index) s symbol (apart-names setup.stocks d) h e (omega arith)

-- texts of the same length are the same, if they are so without the spaces on their right
pub without_back-same : (a b : List ℕ) → length a ≡ length b → without_back a ≡ without_back b → a ≡ b
without_back-same [] [] l h = refl
without_back-same [] (y ∷ ys) l h = absurd (omega (arith, l))
without_back-same (x ∷ xs) [] l h = absurd (omega (arith, l))
without_back-same (x ∷ xs) (y ∷ ys) l h =
    at (x == 32) (bytes_eq (without_back xs) []) (y == 32) (bytes_eq (without_back ys) []) refl refl refl refl h (without_back-same xs ys (let k : length xs ≡ length ys = omega (arith, l) in k))
  where
    rest : (zs : List ℕ) → bytes_eq (without_back zs) [] ≡ true → without_back zs ≡ []
    rest zs e = (bytes_eq-Decides (without_back zs) []).0 e

    head : (n : ℕ) (ns : List ℕ) (m : ℕ) (ms : List ℕ) → n ∷ ns ≡ m ∷ ms → n ≡ m
    head n ns m ms e = ap (λ l. elim l as (λ _. ℕ) [ [] ↦ n | k ∷ ks ↦ k ]) e

    tail : (n : ℕ) (ns : List ℕ) (m : ℕ) (ms : List ℕ) → n ∷ ns ≡ m ∷ ms → ns ≡ ms
    tail n ns m ms e = ap (λ l. elim l as (λ _. List ℕ) [ [] ↦ ns | k ∷ ks ↦ ks ]) e

    both : x ∷ without_back xs ≡ y ∷ without_back ys → (without_back xs ≡ without_back ys → xs ≡ ys) → x ∷ xs ≡ y ∷ ys
    both e ih = λ j. head x (without_back xs) y (without_back ys) e j ∷ ih (tail x (without_back xs) y (without_back ys) e) j

    at : (p q r s : Bool) → (x == 32) ≡ p → bytes_eq (without_back xs) [] ≡ q → (y == 32) ≡ r → bytes_eq (without_back ys) [] ≡ s
        → cond (p && q) [] (x ∷ without_back xs) ≡ cond (r && s) [] (y ∷ without_back ys) → (without_back xs ≡ without_back ys → xs ≡ ys) → x ∷ xs ≡ y ∷ ys
    at true true true true e f g k h ih = λ j. ((Decides-eqb x 32).0 e ∙ sym ((Decides-eqb y 32).0 g)) j ∷ ih (rest xs f ∙ sym (rest ys k)) j
    at true true true false e f g k h ih = absurd cc
    at true true false s e f g k h ih = absurd cc
    at true false true true e f g k h ih = absurd cc
    at true false true false e f g k h ih = both h ih
    at true false false s e f g k h ih = both h ih
    at false q true true e f g k h ih = absurd cc
    at false q true false e f g k h ih = both h ih
    at false q false s e f g k h ih = both h ih

-- for texts of the same length the spaces do not matter
pub is_login-same : (f : ℕ → ℕ) (a b : List ℕ) → length (map f a) ≡ length (map f b) → bytes_eq (without_back (map f a)) (without_back (map f b)) ≡ bytes_eq (map f a) (map f b)
is_login-same f a b l =
    same_bools (bytes_eq (without_back (map f a)) (without_back (map f b))) (bytes_eq (map f a) (map f b))
    (λ h. (bytes_eq-Decides (map f a) (map f b)).1 (without_back-same (map f a) (map f b) l ((bytes_eq-Decides (without_back (map f a)) (without_back (map f b))).0 h)))
    (λ h. (bytes_eq-Decides (without_back (map f a)) (without_back (map f b))).1 (ap without_back ((bytes_eq-Decides (map f a) (map f b)).0 h)))

-- what `get` gives of a slice
pub read-item : {A : Type 0} (r : Option (Bor A)) (xs : List A) (k : ℕ) → is_some r ≡ nat_lt k (length xs) → IfSome r (λ x. x.now ≡ get_or xs k x.now) → option_map (λ x. x.now) r ≡ slice_get xs k
read-item None xs k s h = sym (slice_get_past xs k (ltb-false k (length xs) (sym s)))
read-item (Some x) xs k s h = ap Some h ∙ sym (slice_get-get_or xs k x.now (ltb-true k (length xs) (sym s)))
