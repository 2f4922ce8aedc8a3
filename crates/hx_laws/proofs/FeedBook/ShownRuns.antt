-- The book of the feed of a whole history is the shown live orders, and they do not cross.
use Rattle.std.proofs.Common.{◌≡◌, ℕ, ◌<◌, Bool, true, false, cond, leb, eqb, refl, ap, sym, ◌∙◌, arith, ◌&&◌, not, List, [], ◌∷◌}
use Rattle.std.specs.Prelude.{if◌then◌else◌}
use Rattle.std.specs.List.{AllByRecursion}
use Rattle.std.proofs.lemmas.Bool.Decides.{nat_tests}
use Rattle.hx_units.specs.Side.{is_buy}
use Rattle.hx_book.specs.Book.{crosses}
use Rattle.hx_match.specs.Matching.{terms}
use Rattle.hx_members.specs.Setups.{Setup}
use Rattle.hx_rules.specs.declared.event.Event.{Event}
use Rattle.hx_rules.specs.Orders.{Order}
use Rattle.hx_rules.specs.Markets.{Market, opening}
use Rattle.hx_rules.specs.Executions.{incoming_of}
use Rattle.hx_rules.specs.Steps.{with_record, step, market_after, outputs_from, run, output, feed, feed_of}
use Rattle.hx_laws.specs.FeedBook.{ShownOrder, book_from, shown_book, shown_as, DoNotCross, IsUncrossed}
use Rattle.hx_laws.specs.Laws.{FeedIsBook, FeedIsUncrossed}
use Rattle.hx_laws.proofs.History.CoherentSteps.{Coherent, record_moves}
use Rattle.hx_laws.proofs.History.EventMoves.{step_moves, coherent_opening}
use Rattle.hx_laws.proofs.FeedBook.ShownExecutions.{shows, shows_shown, book_from-append, IsApart, AreApart}
use Rattle.hx_laws.proofs.FeedBook.ShownArrivals.{IsBooked, KeepsBook}
use Rattle.hx_laws.proofs.FeedBook.ShownSteps.{happens_keeps}

pub recorded_booked : (a : Market) (event : Event) → IsBooked a → IsBooked (with_record event a)
recorded_booked a event g = record { apart = g.apart; old = g.old; some = g.some }

pub step_keeps : (setup : Setup) (a : Market) (event : Event) → Coherent a → IsBooked a → KeepsBook setup a (step setup a event)
unfolding step
step_keeps setup a event s g =
    let k = happens_keeps setup (with_record event a) event ((record_moves a event).coherent s) (recorded_booked a event g) in
    record { book = k.book; good = k.good }

-- from any such market on
record RunsBook (setup : Setup) (events : List Event) (a : Market) : Type 0 where
  pub book : book_from (shows setup a.live) (feed_of (outputs_from setup a events)) ≡ shows setup (market_after setup a events).live
  pub good : IsBooked (market_after setup a events)

runs_book : (setup : Setup) (events : List Event) (a : Market) → Coherent a → IsBooked a → RunsBook setup events a
unfolding outputs_from market_after
runs_book setup [] a s g = record { book = refl; good = g }
runs_book setup (event ∷ events) a s g =
    let k = step_keeps setup a event s g in
    let b = (step setup a event).market in
    let next = runs_book setup events b ((step_moves setup a event s).coherent s) k.good in
    record {
      book = book_from-append (shows setup a.live) (step setup a event).output.feed _ ∙ ap (λ z. book_from z (feed_of (outputs_from setup b events))) k.book ∙ next.book;
      good = next.good;
    }

from_opening : (setup : Setup) (events : List Event) → RunsBook setup events (opening setup)
unfolding opening
from_opening setup events = runs_book setup events (opening setup) (coherent_opening setup) (record { apart = tt; old = tt; some = tt })

pub feed_is_book : FeedIsBook
unfolding shown_book feed output run opening
feed_is_book setup events = (from_opening setup events).book ∙ shows_shown setup (run setup events).live

-- Shown orders that are apart do not cross.

letter : Bool → ℕ
letter b = if b then 66 else 83

uncrossed : (bx by : Bool) (k l p q : ℕ) → (eqb k l && (if by then not bx else bx) && (if by then leb p q else leb q p)) ≡ false → k ≡ l
    → (letter bx ≡ 66 → letter by ≡ 83 → p < q) × (letter by ≡ 66 → letter bx ≡ 83 → q < p)
unfolding letter
uncrossed true true k l p q h e = (λ f g. absurd (omega arith), λ f g. absurd (omega arith))
uncrossed false false k l p q h e = (λ f g. absurd (omega arith), λ f g. absurd (omega arith))
uncrossed true false k l p q h e = (λ f g. over k l p q h e, λ f g. absurd (omega arith))
  where
    over : (k l p q : ℕ) → (eqb k l && true && leb q p) ≡ false → k ≡ l → p < q
    over k l p q h e = grind (arith, nat_tests)
uncrossed false true k l p q h e = (λ f g. absurd (omega arith), λ f g. under k l p q h e)
  where
    under : (k l p q : ℕ) → (eqb k l && true && leb p q) ≡ false → k ≡ l → q < p
    under k l p q h e = grind (arith, nat_tests)

-- two orders of the book cross neither way
abbrev Clear : ShownOrder → ShownOrder → Type 0
Clear x y = DoNotCross x y × DoNotCross y x

both_clear : (setup : Setup) (x y : Order) → crosses (terms (incoming_of y)) x ≡ false → Clear (shown_as setup x) (shown_as setup y)
unfolding letter
both_clear setup x y h = (
  (λ e f g. (uncrossed (is_buy x.side) (is_buy y.side) x.locate y.locate x.price y.price h e).0 f g),
  (λ e f g. (uncrossed (is_buy x.side) (is_buy y.side) x.locate y.locate x.price y.price h (sym e)).1 f g),
)

-- an order does not cross itself
self_clear : (x : ShownOrder) → DoNotCross x x
self_clear x e f g = absurd (omega arith)

abbrev AllPairs : List ShownOrder → Type 0
AllPairs [] = Unit {0}
AllPairs (x ∷ xs) = AllByRecursion (Clear x) xs × AllPairs xs

each_clear : (setup : Setup) (x : Order) → x.shown ≡ true → (ys : List Order) → AllByRecursion (IsApart x) ys → AllByRecursion (Clear (shown_as setup x)) (shows setup ys)
each_clear setup x e [] a = tt
each_clear setup x e (y ∷ ys) a = choose y.shown refl (each_clear setup x e ys a.1)
  where
    choose : (b : Bool) → y.shown ≡ b → AllByRecursion (Clear (shown_as setup x)) (shows setup ys) → AllByRecursion (Clear (shown_as setup x)) (cond b (shown_as setup y ∷ shows setup ys) (shows setup ys))
    choose true f ih = (both_clear setup x y (a.0.clear e f), ih)
    choose false f ih = ih

pairs_clear : (setup : Setup) (xs : List Order) → AreApart xs → AllPairs (shows setup xs)
pairs_clear setup [] a = tt
pairs_clear setup (x ∷ xs) a = choose x.shown refl (pairs_clear setup xs a.1)
  where
    choose : (b : Bool) → x.shown ≡ b → AllPairs (shows setup xs) → AllPairs (cond b (shown_as setup x ∷ shows setup xs) (shows setup xs))
    choose true e ih = (each_clear setup x e xs a.0, ih)
    choose false e ih = ih

firsts : (x : ShownOrder) (ys : List ShownOrder) → AllByRecursion (Clear x) ys → AllByRecursion (DoNotCross x) ys
firsts x [] a = tt
firsts x (y ∷ ys) a = (a.0.0, firsts x ys a.1)

with_first : (x : ShownOrder) (zs ys : List ShownOrder) → AllByRecursion (Clear x) zs → AllByRecursion (λ z. AllByRecursion (DoNotCross z) ys) zs → AllByRecursion (λ z. AllByRecursion (DoNotCross z) (x ∷ ys)) zs
with_first x [] ys a b = tt
with_first x (z ∷ zs) ys a b = ((a.0.1, b.0), with_first x zs ys a.1 b.1)

none_cross : (b : List ShownOrder) → AllPairs b → IsUncrossed b
none_cross [] a = tt
none_cross (x ∷ b) a = ((self_clear x, firsts x b a.0), with_first x b b a.0 (none_cross b a.1))

pub feed_is_uncrossed : FeedIsUncrossed
unfolding run
feed_is_uncrossed setup events =
    let g = (from_opening setup events).good in
    let e : shown_book (feed setup events) ≡ shows setup (run setup events).live = feed_is_book setup events ∙ sym (shows_shown setup (run setup events).live) in
    rw e (none_cross (shows setup (run setup events).live) (pairs_clear setup (run setup events).live g.apart))
