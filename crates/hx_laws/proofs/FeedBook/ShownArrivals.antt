-- An order that arrives leaves the book of the feed equal to the shown live orders.
use Rattle.std.proofs.Common.{◌≡◌, ℕ, ◌+◌, Bool, true, false, cond, ltb, leb, eqb, refl, ◌∙◌, arith, ◌&&◌, not, List, [], ◌∷◌, ◌++◌}
use Rattle.std.specs.List.{AllByRecursion, filter}
use Rattle.std.proofs.lemmas.List.{append-nil}
use Rattle.std.proofs.lemmas.Bool.{and_parts, or_left}
use Rattle.std.proofs.lemmas.Bool.Decides.{nat_tests}
use Rattle.hx_units.specs.declared.names.Symbol.{Symbol}
use Rattle.hx_book.specs.Book.{crosses}
use Rattle.hx_book.proofs.Lists.{all_weaker, all_filtered}
use Rattle.hx_match.specs.Matching.{Matched, terms, with_shares, matched, passes}
use Rattle.hx_match.proofs.First.{all_append, none_is_left}
use Rattle.hx_match.proofs.AnyShares.{IsOfAnyShares, matched_of}
use Rattle.hx_members.specs.Setups.{Setup, symbol_of}
use Rattle.hx_members.specs.Chains.{Used, is_used}
use Rattle.hx_members.proofs.ChainLaws.{is_used-pushed, is_same-parts}
use Rattle.hx_refs.specs.Numbers.{Numbers}
use Rattle.hx_rules.specs.Orders.{Order, Token, is_called}
use Rattle.hx_rules.specs.Markets.{Market}
use Rattle.hx_rules.specs.Outputs.{Outcome, nothing}
use Rattle.hx_rules.specs.Executions.{incoming_of, arrive, arrival_feed}
use Rattle.hx_rules.specs.Enter.{next_reference, after_draw}
use Rattle.hx_laws.specs.FeedBook.{book_from}
use Rattle.hx_laws.proofs.Quiet.QuietBefore.{not_both}
use Rattle.hx_laws.proofs.FeedBook.ShownShares.{HasShares, HaveShares, some_rest, clear_of}
use Rattle.hx_laws.proofs.FeedBook.ShownExecutions.{shows, IsApart, AreApart, executions_in_book, arrival_book}

-- the order's token is used; and if it is shown, it has no minimum, and a reference up to n
pub record IsOld (n : ℕ) (ts : List Used) (y : Order) : Type 0 where
  pub below : y.shown ≡ true → leb y.reference n ≡ true
  pub minimum : y.shown ≡ true → y.minimum ≡ 0
  pub used : is_used ts y.member y.token ≡ true

-- what holds of every market, so that the book of the feed shows it
pub record IsBooked (a : Market) : Type 0 where
  pub apart : AreApart a.live
  pub old : AllByRecursion (IsOld a.numbers.public a.tokens) a.live
  pub some : HaveShares a.live

-- the output of an outcome brings the book up to date
pub record KeepsBook (setup : Setup) (a : Market) (o : Outcome) : Type 0 where
  pub book : book_from (shows setup a.live) o.output.feed ≡ shows setup o.market.live
  pub good : IsBooked o.market

pub idle_keeps : (setup : Setup) (a : Market) → IsBooked a → KeepsBook setup a (nothing a)
idle_keeps setup a g = record { book = refl; good = g }

pub old_shares : (n : ℕ) (ts : List Used) → IsOfAnyShares (IsOld n ts)
old_shares n ts x k o = record { below = o.below; minimum = o.minimum; used = o.used }

pub apart_filter : (p : Order → Bool) (xs : List Order) → AreApart xs → AreApart (filter p xs)
apart_filter p [] a = tt
apart_filter p (x ∷ xs) a = choose (p x) (apart_filter p xs a.1)
  where
    choose : (b : Bool) → AreApart (filter p xs) → AreApart (cond b (x ∷ filter p xs) (filter p xs))
    choose true ih = (all_filtered (IsApart x) p xs a.0, ih)
    choose false ih = ih

pub filter_good : (p : Order → Bool) (a : Market) → IsBooked a → IsBooked (record a { live = filter p a.live })
filter_good p a g = record { apart = apart_filter p a.live g.apart; old = all_filtered _ p a.live g.old; some = all_filtered _ p a.live g.some }

apart_push : (xs : List Order) (x : Order) → AreApart xs → AllByRecursion (λ y. IsApart y x) xs → AreApart (xs ++ (x ∷ []))
apart_push [] x a b = (tt, tt)
apart_push (y ∷ xs) x a b = (all_append (IsApart y) xs (x ∷ []) a.0 (b.0, tt), apart_push xs x a.1 b.1)

-- a new order is apart from old ones
new_apart : (n : ℕ) (ts : List Used) (x : Order) → is_used ts x.member x.token ≡ false → (x.shown ≡ true → x.reference ≡ n + 1) → (y : Order)
    → (y.shown ≡ true → x.shown ≡ true → crosses (terms (incoming_of x)) y ≡ false) → IsOld n ts y → IsApart y x
new_apart n ts x u r y c o = record { name = named (is_called y.member y.token x) refl; reference = λ h k. above y.reference x.reference n (o.below h) (r k); clear = c }
  where
    above : (i j n : ℕ) → leb i n ≡ true → j ≡ n + 1 → eqb i j ≡ false
    above i j n h e = grind (arith, nat_tests)

    named : (b : Bool) → is_called y.member y.token x ≡ b → b ≡ false
    named false e = refl
    named true e =
        let p = is_same-parts x.member x.token y.member y.token e in
        not_both (is_used ts y.member y.token) o.used (rw (← p.0, ← p.1) u)

-- used tokens stay used
abbrev pub StayUsed : List Used → List Used → Type 0
StayUsed ts us = (m : ℕ) (t : Token) → is_used ts m t ≡ true → is_used us m t ≡ true

pub used_more : (ts : List Used) (u : Used) → StayUsed ts (ts ++ u ∷ [])
used_more ts u m t h = is_used-pushed ts u m t ∙ or_left _ _ h

pub old_more : (n k : ℕ) (ts us : List Used) (y : Order) → leb n k ≡ true → StayUsed ts us → IsOld n ts y → IsOld k us y
old_more n k ts us y l u o = record { below = λ h. through y.reference n k (o.below h) l; minimum = o.minimum; used = u _ _ o.used }
  where
    through : (i n k : ℕ) → leb i n ≡ true → leb n k ≡ true → leb i k ≡ true
    through i n k h l = grind (arith, nat_tests)

pub not_less : (n : ℕ) → leb n n ≡ true
not_less n = grind (arith, nat_tests)

-- The order x, with a token of its own, comes into a market whose orders are old.
pub record IsNew (n : ℕ) (ts : List Used) (a : Market) (x : Order) : Type 0 where
  pub apart : AreApart a.live
  pub old : AllByRecursion (IsOld n ts) a.live
  pub some : HaveShares a.live
  pub unused : is_used ts x.member x.token ≡ false
  pub reference : x.shown ≡ true → x.reference ≡ n + 1
  pub below : x.shown ≡ true → leb x.reference a.numbers.public ≡ true
  pub minimum : x.shown ≡ true → x.minimum ≡ 0
  pub drawn : leb n a.numbers.public ≡ true
  pub stay : StayUsed ts a.tokens
  pub used : is_used a.tokens x.member x.token ≡ true

pub arrived_good : (setup : Setup) (n : ℕ) (ts : List Used) (time : ℕ) (immediate : Bool) (x : Order) (a : Market) → IsNew n ts a x → IsBooked (arrive time immediate x a).market
arrived_good setup n ts time immediate x a new = choose (ltb 0 m.left && not immediate) refl
  where
    m : Matched
    m = matched (incoming_of x) x.shares a.live

    y : Order
    y = with_shares x m.left

    rest : AreApart m.rest
    rest = (executions_in_book setup 0 (symbol_of setup 0) (incoming_of x) 0 x.shares a.live new.apart).apart

    olds : AllByRecursion (IsOld n ts) m.rest
    olds = (matched_of (IsOld n ts) (old_shares n ts) (incoming_of x) x.shares a.live new.old).1

    some : HaveShares m.rest
    some = some_rest (incoming_of x) x.shares a.live new.some

    now : AllByRecursion (IsOld a.numbers.public a.tokens) m.rest
    now = all_weaker _ _ (λ z. old_more n a.numbers.public ts a.tokens z new.drawn new.stay) m.rest olds

    apart_of : ltb 0 m.left ≡ true → (z : Order) → IsOld n ts z → HasShares z → passes (incoming_of x) m.left z ≡ false → IsApart z y
    apart_of l z o k e =
        let p = new_apart n ts x new.unused new.reference z (λ f g. clear_of (incoming_of x) m.left z (new.minimum g) (o.minimum f) k l e) o in
        record { name = p.name; reference = p.reference; clear = p.clear }

    all_apart : ltb 0 m.left ≡ true → (zs : List Order) → AllByRecursion (IsOld n ts) zs → HaveShares zs → AllByRecursion (λ z. passes (incoming_of x) m.left z ≡ false) zs → AllByRecursion (λ z. IsApart z y) zs
    all_apart l [] b c d = tt
    all_apart l (z ∷ zs) b c d = (apart_of l z b.0 c.0 d.0, all_apart l zs b.1 c.1 d.1)

    choose : (b : Bool) → (ltb 0 m.left && not immediate) ≡ b → IsBooked (record (arrive time immediate x a).market { live = m.rest ++ cond b (y ∷ []) [] })
    choose true e =
        let l : ltb 0 m.left ≡ true = (and_parts (ltb 0 m.left) (not immediate) e).0 in
        record {
          apart = apart_push m.rest y rest (all_apart l m.rest olds some (none_is_left (incoming_of x) x.shares a.live));
          old = all_append _ m.rest _ now (record { below = new.below; minimum = new.minimum; used = new.used }, tt);
          some = all_append _ m.rest _ some (l, tt);
        }
    choose false e = record { apart = rw (append-nil m.rest) rest; old = rw (append-nil m.rest) now; some = rw (append-nil m.rest) some }

-- what a draw gives
pub drawn_public : (numbers : Numbers) (m : ℕ) (d : Bool) → leb numbers.public (after_draw numbers m d).public ≡ true
drawn_public numbers m true = more numbers.public
  where
    more : (n : ℕ) → leb n (n + 1) ≡ true
    more n = grind (arith, nat_tests)
drawn_public numbers m false = not_less numbers.public

pub drawn_reference : (numbers : Numbers) (m : ℕ) (d : Bool) → d ≡ true → next_reference numbers m d ≡ numbers.public + 1
drawn_reference numbers m true e = refl
drawn_reference numbers m false e = absurd (let z : false ≡ true = e in cc)

pub drawn_below : (numbers : Numbers) (m : ℕ) (d : Bool) → d ≡ true → leb (next_reference numbers m d) (after_draw numbers m d).public ≡ true
drawn_below numbers m true e = not_less (numbers.public + 1)
drawn_below numbers m false e = absurd (let z : false ≡ true = e in cc)

-- the book after an arrival in a market with these live orders
pub arrive_book : (setup : Setup) (time : ℕ) (stock : Symbol) (k : ℕ) (immediate : Bool) (x : Order) (a : Market) → symbol_of setup x.locate ≡ stock → AreApart a.live
    → book_from (shows setup a.live) (arrival_feed time stock k (arrive time immediate x a).executions (arrive time immediate x a).resting) ≡ shows setup (arrive time immediate x a).market.live
arrive_book setup time stock k immediate x a s apart = arrival_book setup time stock k (incoming_of x) x.shares a.live x immediate s apart
