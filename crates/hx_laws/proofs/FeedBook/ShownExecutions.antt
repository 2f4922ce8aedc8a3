-- Executions, and an order that rests, in the book of the feed.
use Rattle.std.proofs.Common.{◌≡◌, ℕ, zero, suc, ◌+◌, ◌-◌, min, Bool, true, false, cond, ltb, eqb, eq-eqb, refl, ap, sym, ◌∙◌, ◌&&◌, not, List, [], ◌∷◌, ◌++◌, map, Some, None, Option}
use Rattle.std.specs.List.{AllByRecursion}
use Rattle.std.proofs.lemmas.List.{append-nil}
use Rattle.hx_units.specs.declared.names.Symbol.{Symbol}
use Rattle.hx_book.specs.Book.{crosses}
use Rattle.hx_book.proofs.Lists.{all_weaker}
use Rattle.hx_match.specs.declared.fills.Incoming.{Incoming}
use Rattle.hx_match.specs.Matching.{Position, Matched, terms, matched_by, matched_entries, matched, itself, with_shares, first_by_rank}
use Rattle.hx_match.specs.Rules.{IsRightChoice}
use Rattle.hx_match.proofs.First.{first_is_right}
use Rattle.hx_match.proofs.AnyShares.{IsOfAnyShares}
use Rattle.hx_members.specs.Setups.{Setup, symbol_of}
use Rattle.hx_itch.specs.declared.message.Feed.{Feed}
use Rattle.hx_itch.specs.declared.message.Feed.TheVariants.{OrderExecuted, Trade}
use Rattle.hx_rules.specs.Orders.{Order, is_called}
use Rattle.hx_rules.specs.Executions.{incoming_of, feed_of_execution, feed_of_executions, published, shown_of, resting_of, arrival_feed}
use Rattle.hx_rules.specs.Removal.{less}
use Rattle.hx_laws.specs.FeedBook.{ShownOrder, taken_from, book_after, book_from, shown_as, shown_orders}

-- the shown orders of a list, by recursion
abbrev pub shows : Setup → List Order → List ShownOrder
shows setup [] = []
shows setup (x ∷ xs) = cond x.shown (shown_as setup x ∷ shows setup xs) (shows setup xs)

pub shows_shown : (setup : Setup) (xs : List Order) → shows setup xs ≡ shown_orders setup xs
shows_shown setup [] = refl
shows_shown setup (x ∷ xs) = choose x.shown (shows_shown setup xs)
  where
    choose : (b : Bool) → shows setup xs ≡ shown_orders setup xs
        → cond b (shown_as setup x ∷ shows setup xs) (shows setup xs) ≡ map (shown_as setup) (cond b (x ∷ shown_of xs) (shown_of xs))
    choose true ih = ap (λ z. shown_as setup x ∷ z) ih
    choose false ih = ih

pub book_from-append : (b : List ShownOrder) (xs ys : List Feed) → book_from b (xs ++ ys) ≡ book_from (book_from b xs) ys
book_from-append b [] ys = refl
book_from-append b (x ∷ xs) ys = book_from-append (book_after b x) xs ys

pub shows-append : (setup : Setup) (xs ys : List Order) → shows setup (xs ++ ys) ≡ shows setup xs ++ shows setup ys
shows-append setup [] ys = refl
shows-append setup (x ∷ xs) ys = rw (shows-append setup xs ys) (choose x.shown)
  where
    choose : (b : Bool) → cond b (shown_as setup x ∷ (shows setup xs ++ shows setup ys)) (shows setup xs ++ shows setup ys) ≡ cond b (shown_as setup x ∷ shows setup xs) (shows setup xs) ++ shows setup ys
    choose true = refl
    choose false = refl

-- y has another name than x, and if both are shown another reference
pub record IsApart (x y : Order) : Type 0 where
  pub name : is_called x.member x.token y ≡ false
  pub reference : x.shown ≡ true → y.shown ≡ true → eqb x.reference y.reference ≡ false
  -- and they do not cross
  pub clear : x.shown ≡ true → y.shown ≡ true → crosses (terms (incoming_of y)) x ≡ false

abbrev pub AreApart : List Order → Type 0
AreApart [] = Unit {0}
AreApart (x ∷ xs) = AllByRecursion (IsApart x) xs × AreApart xs

-- the shown orders of the list have other references
abbrev pub Others : ℕ → List Order → Type 0
Others r xs = AllByRecursion (λ y. y.shown ≡ true → eqb y.reference r ≡ false) xs

pub others_front : (x : Order) → x.shown ≡ true → (front back : List Order) → AreApart (front ++ (x ∷ back)) → Others x.reference front
others_front x e [] back a = tt
others_front x e (y ∷ front) back a = ((λ h. (at front a.0).reference h e), others_front x e front back a.1)
  where
    at : (front : List Order) → AllByRecursion (IsApart y) (front ++ (x ∷ back)) → IsApart y x
    at [] k = k.0
    at (z ∷ front) k = at front k.1

pub shows-less : (setup : Setup) (x : Order) (n : ℕ) (back : List Order)
    → shows setup (less x n ++ back)
    ≡ cond (ltb n x.shares) (cond x.shown (record (shown_as setup x) { shares = x.shares - n } ∷ shows setup back) (shows setup back)) (shows setup back)
shows-less setup x n back = choose (ltb n x.shares)
  where
    choose : (c : Bool)
        → shows setup (cond c (with_shares x (x.shares - n) ∷ []) [] ++ back)
        ≡ cond c (cond x.shown (record (shown_as setup x) { shares = x.shares - n } ∷ shows setup back) (shows setup back)) (shows setup back)
    choose true = refl
    choose false = refl

-- shares are taken off the shown order at an index
taken_at : (setup : Setup) (x : Order) (n : ℕ) → x.shown ≡ true → (front back : List Order) → Others x.reference front
    → taken_from x.reference n (shows setup (front ++ (x ∷ back))) ≡ shows setup (front ++ (less x n ++ back))
taken_at setup x n e [] back o = sides x.shown e ∙ sym (shows-less setup x n back)
  where
    sides : (d : Bool) → d ≡ true
        → taken_from x.reference n (cond d (shown_as setup x ∷ shows setup back) (shows setup back))
        ≡ cond (ltb n x.shares) (cond d (record (shown_as setup x) { shares = x.shares - n } ∷ shows setup back) (shows setup back)) (shows setup back)
    sides false h = absurd (let z : false ≡ true = h in cc)
    sides true h = rw (eq-eqb x.reference x.reference refl) refl
taken_at setup x n e (y ∷ front) back o = choose y.shown refl (taken_at setup x n e front back o.1)
  where
    choose : (b : Bool) → y.shown ≡ b → taken_from x.reference n (shows setup (front ++ (x ∷ back))) ≡ shows setup (front ++ (less x n ++ back))
        → taken_from x.reference n (cond b (shown_as setup y ∷ shows setup (front ++ (x ∷ back))) (shows setup (front ++ (x ∷ back))))
        ≡ cond b (shown_as setup y ∷ shows setup (front ++ (less x n ++ back))) (shows setup (front ++ (less x n ++ back)))
    choose true f ih = rw (o.0 f, ih) refl
    choose false f ih = ih

hidden_at : (setup : Setup) (x : Order) (n : ℕ) → x.shown ≡ false → (front back : List Order) → shows setup (front ++ (x ∷ back)) ≡ shows setup (front ++ (less x n ++ back))
hidden_at setup x n e [] back = sides x.shown e (ltb n x.shares) ∙ sym (shows-less setup x n back)
  where
    sides : (d : Bool) → d ≡ false → (c : Bool)
        → cond d (shown_as setup x ∷ shows setup back) (shows setup back)
        ≡ cond c (cond d (record (shown_as setup x) { shares = x.shares - n } ∷ shows setup back) (shows setup back)) (shows setup back)
    sides true h c = absurd (let z : true ≡ false = h in cc)
    sides false h true = refl
    sides false h false = refl
hidden_at setup x n e (y ∷ front) back = rw (hidden_at setup x n e front back) refl

all_position : (P : Order → Type 0) → IsOfAnyShares P → (x : Order) (f : ℕ) (front back : List Order)
    → AllByRecursion P (front ++ (x ∷ back)) → AllByRecursion P (front ++ (less x f ++ back))
all_position P closed x f [] back a = choose (ltb f x.shares)
  where
    choose : (b : Bool) → AllByRecursion P (cond b (with_shares x (x.shares - f) ∷ []) [] ++ back)
    choose true = (closed x _ a.0, a.1)
    choose false = a.1
all_position P closed x f (y ∷ front) back a = (a.0, all_position P closed x f front back a.1)

pub apart_shares : (x : Order) → IsOfAnyShares (IsApart x)
apart_shares x z n a = record { name = a.name; reference = a.reference; clear = a.clear }

pub apart_position : (x : Order) (f : ℕ) (front back : List Order) → AreApart (front ++ (x ∷ back)) → AreApart (front ++ (less x f ++ back))
apart_position x f [] back a = choose (ltb f x.shares)
  where
    choose : (b : Bool) → AreApart (cond b (with_shares x (x.shares - f) ∷ []) [] ++ back)
    choose true = (all_weaker (IsApart x) _ (λ y k. record { name = k.name; reference = k.reference; clear = k.clear }) back a.0, a.1)
    choose false = a.1
apart_position x f (y ∷ front) back a = (all_position (IsApart y) (apart_shares y) x f front back a.0, apart_position x f front back a.1)

-- one execution in the book
pub book_execution : (setup : Setup) (time : ℕ) (stock : Symbol) (k : ℕ) (xs : List Order) (p : Position) (f : ℕ) → xs ≡ p.front ++ (p.order ∷ p.back) → AreApart xs
    → book_after (shows setup xs) (feed_of_execution time stock k (record { order = p.order; shares = f })) ≡ shows setup (p.front ++ (less p.order f ++ p.back))
book_execution setup time stock k xs p f e a = choose p.order.shown refl
  where
    x : Order
    x = p.order

    choose : (b : Bool) → p.order.shown ≡ b
        → book_after (shows setup xs)
        (cond b (OrderExecuted (record { locate = x.locate; time = time; reference = x.reference; shares = f; match_number = k }))
        (Trade (record { locate = x.locate; time = time; shares = f; stock = stock; price = x.price; match_number = k })))
        ≡ shows setup (p.front ++ (less p.order f ++ p.back))
    choose true h = ap (λ z. taken_from x.reference f (shows setup z)) e ∙ taken_at setup p.order f h p.front p.back (others_front p.order h p.front p.back (rw e at a))
    choose false h = ap (shows setup) e ∙ hidden_at setup p.order f h p.front p.back

-- the executions of an incoming order in the book
pub record InBook (setup : Setup) (time : ℕ) (stock : Symbol) (k : ℕ) (xs : List Order) (m : Matched) : Type 0 where
  pub book : book_from (shows setup xs) (feed_of_executions time stock k m.fills) ≡ shows setup m.rest
  pub apart : AreApart m.rest

book_within : (setup : Setup) (time : ℕ) (stock : Symbol) (n : ℕ) (inc : Incoming) (k r : ℕ) (xs : List Order) → AreApart xs
    → InBook setup time stock k xs (matched_entries itself with_shares n inc r xs)
unfolding matched_entries
book_within setup time stock zero inc k r xs a = record { book = refl; apart = a }
book_within setup time stock (suc n) inc k r xs a = choose (first_by_rank inc r xs) (λ l ys. book_within setup time stock n inc (k + 1) l ys) (first_is_right inc r xs)
  where
    choose : (o : Option Position) → ((l : ℕ) (ys : List Order) → AreApart ys → InBook setup time stock (k + 1) ys (matched_entries itself with_shares n inc l ys)) → IsRightChoice inc r xs o
        → InBook setup time stock k xs (matched_by itself with_shares (matched_entries itself with_shares n inc) r xs o)
    choose None ih c = record { book = refl; apart = a }
    choose (Some p) ih c =
        let f : ℕ = min r p.order.shares in
        let ys : List Order = p.front ++ (less p.order f ++ p.back) in
        let next = ih (r - f) ys (apart_position p.order f p.front p.back (rw c.0 at a)) in
        record {
          book = ap (λ b. book_from b (feed_of_executions time stock (k + 1) (matched_entries itself with_shares n inc (r - f) ys).fills)) (book_execution setup time stock (k + 1) xs p f c.0 a) ∙ next.book;
          apart = next.apart;
        }

pub executions_in_book : (setup : Setup) (time : ℕ) (stock : Symbol) (inc : Incoming) (k r : ℕ) (xs : List Order) → AreApart xs → InBook setup time stock k xs (matched inc r xs)
unfolding matched
executions_in_book setup time stock inc k r xs a = book_within setup time stock r inc k r xs a

-- what rests shown is added
book_resting : (setup : Setup) (time : ℕ) (stock : Symbol) (x : Order) (immediate : Bool) (left : ℕ) (b : List ShownOrder) → symbol_of setup x.locate ≡ stock
    → book_from b (map (published time stock) (shown_of (resting_of x immediate left))) ≡ b ++ shows setup (resting_of x immediate left)
book_resting setup time stock x immediate left b s = choose (ltb 0 left && not immediate) x.shown refl (eqb x.display 65) refl
  where
    choose : (c d : Bool) → x.shown ≡ d → (f : Bool) → eqb x.display 65 ≡ f
        → book_from b (map (published time stock) (shown_of (cond c (with_shares x left ∷ []) []))) ≡ b ++ shows setup (cond c (with_shares x left ∷ []) [])
    choose false d e f g = sym (append-nil b)
    choose true false e f g = rw e (sym (append-nil b))
    choose true true e true g = rw (e, g, s) refl
    choose true true e false g = rw (e, g, s) refl

pub arrival_book : (setup : Setup) (time : ℕ) (stock : Symbol) (k : ℕ) (inc : Incoming) (n : ℕ) (xs : List Order) (x : Order) (immediate : Bool) → symbol_of setup x.locate ≡ stock → AreApart xs
    → book_from (shows setup xs) (arrival_feed time stock k (matched inc n xs).fills (resting_of x immediate (matched inc n xs).left))
    ≡ shows setup ((matched inc n xs).rest ++ resting_of x immediate (matched inc n xs).left)
arrival_book setup time stock k inc n xs x immediate s a =
    let m = matched inc n xs in
    let f = executions_in_book setup time stock inc k n xs a in
    book_from-append (shows setup xs) (feed_of_executions time stock k m.fills) _
    ∙ (rw f.book (book_resting setup time stock x immediate m.left (shows setup m.rest) s) ∙ sym (shows-append setup m.rest (resting_of x immediate m.left)))
