-- Each chain has at most one live order.
use Rattle.std.proofs.Common.{◌≡◌, ℕ, zero, suc, Bool, true, false, cond, ltb, ◌||◌, not, min, ◌-◌, List, [], ◌∷◌, ◌++◌, Option, Some, None, refl, sym, ap, ◌∙◌, subst, arith}
use Rattle.std.specs.Option.{IfSome}
use Rattle.std.specs.List.{filter, find, list_any}
use Rattle.std.proofs.lemmas.Bool.{or_parts, cond_both}
use Rattle.hx_units.specs.declared.names.Token.{Token}
use Rattle.hx_book.specs.declared.order.Order.{Order}
use Rattle.hx_match.specs.declared.fills.Incoming.{Incoming}
use Rattle.hx_match.specs.Matching.{Position, matched_by, matched_entries, itself, with_shares}
use Rattle.hx_members.specs.Chains.{Used, is_used, entered_of, entered_used}
use Rattle.hx_members.proofs.ChainLaws.{is_used-at}
use Rattle.hx_rules.specs.Orders.{is_called}
use Rattle.hx_rules.specs.Removal.{others, less, lessened}
use Rattle.hx_day.specs.Bounds.{own, is_name, is_of_chain, open_in, ArePlaced, AreLone}
use Rattle.hx_day.proofs.ChainShares.{first, StandsIn, split}
use Rattle.hx_day.proofs.UsedTokens.{entered-append, same-name}
use Rattle.hx_day.proofs.ChainShares.{name-self}

-- the order is of the chain of another
abbrev is_with : List Used → Order → Order → Bool
is_with ts x y = is_of_chain ts x.member (entered_of ts x.member x.token) y

name_turned : (m i : ℕ) (e t : Token) → is_name m e i t ≡ is_name i t m e
name_turned m i e t = at (is_name m e i t) refl (is_name i t m e) refl
  where
    back : (m i : ℕ) (e t : Token) → is_name m e i t ≡ true → is_name i t m e ≡ true
    back m i e t h =
        let s = same-name m i e t h in
        subst (λ (z : Token). is_name i z m e ≡ true) s.1 (subst (λ k. is_name k e m e ≡ true) s.0 (name-self m e))

    at : (a : Bool) → is_name m e i t ≡ a → (b : Bool) → is_name i t m e ≡ b → a ≡ b
    at true h true k = refl
    at true h false k = absurd (let z : true ≡ false = sym (back m i e t h) ∙ k in cc)
    at false h true k = absurd (let z : true ≡ false = sym (back i m t e k) ∙ h in cc)
    at false h false k = refl

with_turned : (ts : List Used) (x y : Order) → is_with ts x y ≡ is_with ts y x
with_turned ts x y = name_turned y.member x.member (entered_of ts y.member y.token) (entered_of ts x.member x.token)

-- no order of the list is of this chain
abbrev pub NoneOf : List Used → ℕ → Token → List Order → Type 0
NoneOf ts i t xs = list_any (is_of_chain ts i t) xs ≡ false

none-join : (a b : Bool) → a ≡ false → b ≡ false → (a || b) ≡ false
none-join false b h k = k
none-join true b h k = h

pub none-append : (ts : List Used) (i : ℕ) (t : Token) (xs ys : List Order) → NoneOf ts i t xs → NoneOf ts i t ys → NoneOf ts i t (xs ++ ys)
none-append ts i t [] ys h k = k
none-append ts i t (x ∷ xs) ys h k =
    let p = or_parts (is_of_chain ts i t x) (list_any (is_of_chain ts i t) xs) h in
    none-join (is_of_chain ts i t x) (list_any (is_of_chain ts i t) (xs ++ ys)) p.0 (none-append ts i t xs ys p.1 k)

none-parts : (ts : List Used) (i : ℕ) (t : Token) (xs ys : List Order) → NoneOf ts i t (xs ++ ys) → NoneOf ts i t xs × NoneOf ts i t ys
none-parts ts i t [] ys h = (refl, h)
none-parts ts i t (x ∷ xs) ys h =
    let p = or_parts (is_of_chain ts i t x) (list_any (is_of_chain ts i t) (xs ++ ys)) h in
    let q = none-parts ts i t xs ys p.1 in
    (none-join (is_of_chain ts i t x) (list_any (is_of_chain ts i t) xs) p.0 q.0, q.1)

none-filter : (ts : List Used) (i : ℕ) (t : Token) (keep : Order → Bool) (xs : List Order) → NoneOf ts i t xs → NoneOf ts i t (filter keep xs)
none-filter ts i t keep [] h = refl
none-filter ts i t keep (x ∷ xs) h =
    let p = or_parts (is_of_chain ts i t x) (list_any (is_of_chain ts i t) xs) h in
    let q = none-filter ts i t keep xs p.1 in
    cond_both (keep x) (x ∷ filter keep xs) (filter keep xs) (NoneOf ts i t) (λ _. none-join (is_of_chain ts i t x) (list_any (is_of_chain ts i t) (filter keep xs)) p.0 q) (λ _. q)

-- none is open of a chain that has none
pub open-none : (ts : List Used) (i : ℕ) (t : Token) (xs : List Order) → NoneOf ts i t xs → open_in ts i t xs ≡ 0
open-none ts i t [] h = refl
open-none ts i t (x ∷ xs) h =
    let p = or_parts (is_of_chain ts i t x) (list_any (is_of_chain ts i t) xs) h in
    let a : own (is_of_chain ts i t x) x.shares ≡ 0 = ap (λ b. own b x.shares) p.0 in
    let b : open_in ts i t xs ≡ 0 = open-none ts i t xs p.1 in omega arith

pub none-more : (ts us : List Used) (i : ℕ) (t : Token) (xs : List Order) → ArePlaced ts xs → NoneOf ts i t xs → NoneOf (ts ++ us) i t xs
none-more ts us i t [] p h = refl
none-more ts us i t (x ∷ xs) p h =
    let q = or_parts (is_of_chain ts i t x) (list_any (is_of_chain ts i t) xs) h in
    none-join (is_of_chain (ts ++ us) i t x) (list_any (is_of_chain (ts ++ us) i t) xs)
    (ap (λ (e : Token). is_name x.member e i t) (entered-append ts us x.member x.token p.0.used) ∙ q.0) (none-more ts us i t xs p.1 q.1)

-- an unused token is no chain of a live order
pub none-unused : (ts : List Used) (i : ℕ) (t : Token) (xs : List Order) → is_used ts i t ≡ false → ArePlaced ts xs → NoneOf ts i t xs
none-unused ts i t [] u h = refl
none-unused ts i t (x ∷ xs) u h = none-join (is_of_chain ts i t x) (list_any (is_of_chain ts i t) xs) (not_it (is_of_chain ts i t x) refl) (none-unused ts i t xs u h.1)
  where
    not_it : (b : Bool) → is_of_chain ts i t x ≡ b → b ≡ false
    not_it true e =
        let s = same-name x.member i (entered_of ts x.member x.token) t e in
        let used : is_used ts x.member (entered_of ts x.member x.token) ≡ true = is_used-at ts x.chain (entered_used x.member (entered_of ts x.member x.token)) h.0.at in
        let at : is_used ts i t ≡ true = subst (λ k. is_used ts k t ≡ true) s.0 (subst (λ (z : Token). is_used ts x.member z ≡ true) s.1 used) in
        absurd (let z : true ≡ false = sym at ∙ u in cc)
    not_it false e = refl

pub lone-more : (ts us : List Used) (xs : List Order) → ArePlaced ts xs → AreLone ts xs → AreLone (ts ++ us) xs
lone-more ts us [] p h = tt
lone-more ts us (x ∷ xs) p h = (
  subst (λ (e : Token). NoneOf (ts ++ us) x.member e xs) (sym (entered-append ts us x.member x.token p.0.used)) (none-more ts us x.member (entered_of ts x.member x.token) xs p.1 h.0),
  lone-more ts us xs p.1 h.1,
)

pub lone-filter : (ts : List Used) (keep : Order → Bool) (xs : List Order) → AreLone ts xs → AreLone ts (filter keep xs)
lone-filter ts keep [] h = tt
lone-filter ts keep (x ∷ xs) h =
    cond_both (keep x) (x ∷ filter keep xs) (filter keep xs) (AreLone ts) (λ _. (none-filter ts x.member (entered_of ts x.member x.token) keep xs h.0, lone-filter ts keep xs h.1)) (λ _. lone-filter ts keep xs h.1)

-- an order of a chain that has none comes last
pub lone-append : (ts : List Used) (xs : List Order) (x : Order) → AreLone ts xs → NoneOf ts x.member (entered_of ts x.member x.token) xs → AreLone ts (xs ++ x ∷ [])
lone-append ts [] x h n = (refl, tt)
lone-append ts (y ∷ xs) x h n =
    let p = or_parts (is_with ts x y) (list_any (is_with ts x) xs) n in
    let alone : NoneOf ts y.member (entered_of ts y.member y.token) (x ∷ []) = none-join (is_with ts y x) false (with_turned ts y x ∙ p.0) refl in (
      none-append ts y.member (entered_of ts y.member y.token) xs (x ∷ []) h.0 alone,
      lone-append ts xs x h.1 p.1,
    )

-- the front, and the rest, with the middle cut or out

none-less : (ts : List Used) (i : ℕ) (t : Token) (x : Order) (f : ℕ) → is_of_chain ts i t x ≡ false → NoneOf ts i t (less x f)
none-less ts i t x f h = cond_both (ltb f x.shares) (with_shares x (x.shares - f) ∷ []) [] (NoneOf ts i t) (λ _. none-join (is_of_chain ts i t x) false h refl) (λ _. refl)

pub none-cut : (ts : List Used) (i : ℕ) (t : Token) (front : List Order) (x : Order) (back : List Order) (f : ℕ) → NoneOf ts i t (front ++ x ∷ back) → NoneOf ts i t (front ++ (less x f ++ back))
none-cut ts i t front x back f h =
    let p = none-parts ts i t front (x ∷ back) h in
    let q = or_parts (is_of_chain ts i t x) (list_any (is_of_chain ts i t) back) p.1 in
    none-append ts i t front (less x f ++ back) p.0 (none-append ts i t (less x f) back (none-less ts i t x f q.0) q.1)

pub lone-cut : (ts : List Used) (front : List Order) (x : Order) (back : List Order) (f : ℕ) → AreLone ts (front ++ x ∷ back) → AreLone ts (front ++ (less x f ++ back))
lone-cut ts [] x back f h = cond_both (ltb f x.shares) (with_shares x (x.shares - f) ∷ []) [] (λ l. AreLone ts (l ++ back)) (λ _. (h.0, h.1)) (λ _. h.1)
lone-cut ts (y ∷ front) x back f h = (none-cut ts y.member (entered_of ts y.member y.token) front x back f h.0, lone-cut ts front x back f h.1)

-- what is matched leaves chains lone, and those without an order without one
pub record StayLone (ts : List Used) (xs ys : List Order) : Type 0 where
  pub lone : AreLone ts ys
  pub none : (i : ℕ) (t : Token) → NoneOf ts i t xs → NoneOf ts i t ys

stay : (n : ℕ) (inc : Incoming) (r : ℕ) (ts : List Used) (xs : List Order) → AreLone ts xs → StayLone ts xs (matched_entries itself with_shares n inc r xs).rest
unfolding matched_entries
stay zero inc r ts xs h = record { lone = h; none = λ i t k. k }
stay (suc n) inc r ts xs h = at (first inc r xs) (split inc r xs) (λ s ys k. stay n inc s ts ys k)
  where
    at : (o : Option Position) → IfSome o (StandsIn xs) → ((s : ℕ) (ys : List Order) → AreLone ts ys → StayLone ts ys (matched_entries itself with_shares n inc s ys).rest)
        → StayLone ts xs (matched_by itself with_shares (matched_entries itself with_shares n inc) r xs o).rest
    at None z ih = record { lone = h; none = λ i t k. k }
    at (Some q) z ih =
        let f : ℕ = min r q.order.shares in
        let ys : List Order = q.front ++ (less q.order f ++ q.back) in
        let k = ih (r - f) ys (lone-cut ts q.front q.order q.back f (subst (AreLone ts) z h)) in
        record { lone = k.lone; none = λ i t w. k.none i t (none-cut ts i t q.front q.order q.back f (subst (NoneOf ts i t) z w)) }

pub stay_lone : (n : ℕ) (inc : Incoming) (r : ℕ) (ts : List Used) (xs : List Order) → AreLone ts xs → StayLone ts xs (matched_entries itself with_shares n inc r xs).rest
stay_lone n inc r ts xs h = stay n inc r ts xs h

-- an order that is gone leaves its chain without one
pub gone : (ts : List Used) (m : ℕ) (t : Token) (x : Order) (xs : List Order) → AreLone ts xs → find (is_called m t) xs ≡ Some x → is_called m t x ≡ true → NoneOf ts x.member (entered_of ts x.member x.token) (others m t xs)
gone ts m t x [] h e c = refl
gone ts m t x (y ∷ xs) h e c = at (is_called m t y) refl e (gone ts m t x xs h.1)
  where
    among : (ys : List Order) → NoneOf ts y.member (entered_of ts y.member y.token) ys → find (is_called m t) ys ≡ Some x → is_with ts y x ≡ false
    among [] n e = absurd (let z : None ≡ Some x = e in cc)
    among (v ∷ ys) n e = look (is_called m t v) e (or_parts (is_with ts y v) (list_any (is_with ts y) ys) n) (among ys)
      where
        look : (b : Bool) → cond b (Some v) (find (is_called m t) ys) ≡ Some x → (is_with ts y v ≡ false) × NoneOf ts y.member (entered_of ts y.member y.token) ys
            → (NoneOf ts y.member (entered_of ts y.member y.token) ys → find (is_called m t) ys ≡ Some x → is_with ts y x ≡ false) → is_with ts y x ≡ false
        look true e p ih = let same : v ≡ x = let z : Some v ≡ Some x = e in cc in subst (λ (o : Order). is_with ts y o ≡ false) same p.0
        look false e p ih = ih p.1 e

    at : (b : Bool) → is_called m t y ≡ b → cond b (Some y) (find (is_called m t) xs) ≡ Some x
        → (find (is_called m t) xs ≡ Some x → is_called m t x ≡ true → NoneOf ts x.member (entered_of ts x.member x.token) (others m t xs))
        → NoneOf ts x.member (entered_of ts x.member x.token) (cond (not (is_called m t y)) (y ∷ others m t xs) (others m t xs))
    at true f e ih =
        let same : y ≡ x = let z : Some y ≡ Some x = e in cc in
        let n : NoneOf ts x.member (entered_of ts x.member x.token) xs = subst (λ (o : Order). NoneOf ts o.member (entered_of ts o.member o.token) xs) same h.0 in
        subst (λ b. NoneOf ts x.member (entered_of ts x.member x.token) (cond (not b) (y ∷ others m t xs) (others m t xs))) (sym f) (none-filter ts x.member (entered_of ts x.member x.token) (λ z. not (is_called m t z)) xs n)
    at false f e ih =
        subst (λ b. NoneOf ts x.member (entered_of ts x.member x.token) (cond (not b) (y ∷ others m t xs) (others m t xs))) (sym f)
        (none-join (is_with ts x y) (list_any (is_with ts x) (others m t xs)) (with_turned ts x y ∙ among xs h.0 e) (ih e c))

-- fewer shares of one order

pub none-lessened : (ts : List Used) (i : ℕ) (t : Token) (m : ℕ) (u : Token) (by : ℕ) (xs : List Order) → NoneOf ts i t xs → NoneOf ts i t (lessened m u by xs)
none-lessened ts i t m u by [] h = refl
none-lessened ts i t m u by (x ∷ xs) h =
    let p = or_parts (is_of_chain ts i t x) (list_any (is_of_chain ts i t) xs) h in
    cond_both (is_called m u x) (less x by ++ xs) (x ∷ lessened m u by xs) (NoneOf ts i t)
    (λ _. none-append ts i t (less x by) xs (none-less ts i t x by p.0) p.1) (λ _. none-join (is_of_chain ts i t x) (list_any (is_of_chain ts i t) (lessened m u by xs)) p.0 (none-lessened ts i t m u by xs p.1))

pub lone-lessened : (ts : List Used) (m : ℕ) (u : Token) (by : ℕ) (xs : List Order) → AreLone ts xs → AreLone ts (lessened m u by xs)
lone-lessened ts m u by [] h = tt
lone-lessened ts m u by (x ∷ xs) h =
    cond_both (is_called m u x) (less x by ++ xs) (x ∷ lessened m u by xs) (AreLone ts)
    (λ _. lone-cut ts [] x xs by h) (λ _. (none-lessened ts x.member (entered_of ts x.member x.token) m u by xs h.0, lone-lessened ts m u by xs h.1))
