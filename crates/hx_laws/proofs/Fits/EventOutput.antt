-- The output for orders whose fields fit, fits its fields.
use Rattle.std.proofs.Common.{◌≡◌, ℕ, ◌+◌, ◌<◌, ◌≤◌, ◌^◌, Bool, true, false, cond, ltb, eqb, arith, ◌&&◌, not, List, [], ◌∷◌, ◌++◌, length, map, refl}
use Rattle.std.specs.Prelude.{◌==◌, nat_lt}
use Rattle.std.specs.List.{AllByRecursion}
use Rattle.std.proofs.lemmas.Bool.{cond_both, and_parts, ltb-true}
use Rattle.hx_units.specs.declared.names.Symbol.{Symbol}
use Rattle.hx_itch.specs.declared.message.Feed.{Feed}
use Rattle.hx_itch.specs.declared.message.Feed.TheVariants.{AddOrder, AddOrderWithAttribution}
use Rattle.hx_itch.specs.Message.{IsFeed}
use Rattle.hx_match.specs.Matching.{Execution, Matched, matched}
use Rattle.hx_match.proofs.First.{all_append}
use Rattle.hx_rules.specs.Orders.{Order, published_side}
use Rattle.hx_rules.specs.Markets.{Market}
use Rattle.hx_rules.specs.Executions.{feed_of_execution, feed_of_executions, published, shown_of, resting_of, incoming_of, arrive, arrival_feed}
use Rattle.hx_rules.specs.Removal.{deleted, taken_off, reduced}
use Rattle.hx_rules.specs.Hours.{all_deleted}
use Rattle.hx_rules.specs.Replace.{replace_feed, is_one_display}
use Rattle.hx_laws.proofs.Fits.Orders.{Sized, AreSized, IsFill, matched_within}

abbrev pub AreFeed : List Feed → Type 0
AreFeed fs = AllByRecursion IsFeed fs

pub both_feed : (xs ys : List Feed) → AreFeed xs → AreFeed ys → AreFeed (xs ++ ys)
both_feed xs ys a b = all_append IsFeed xs ys a b

pub deleted_fits : (public time : ℕ) (x : Order) → public < 2 ^ 64 → time < 2 ^ 48 → Sized public x → AreFeed (deleted time x)
deleted_fits public time x p t h =
    cond_both x.shown _ _ AreFeed
    (λ s. (record { locate = h.locate; time = t; reference = (let r = h.reference s in omega arith) }, tt))
    (λ _. tt)

pub all_deleted_fits : (public time : ℕ) (xs : List Order) → public < 2 ^ 64 → time < 2 ^ 48 → AreSized public xs → AreFeed (all_deleted time xs)
all_deleted_fits public time [] p t all = tt
all_deleted_fits public time (x ∷ xs) p t all = both_feed (deleted time x) (all_deleted time xs) (deleted_fits public time x p t all.0) (all_deleted_fits public time xs p t all.1)

pub taken_off_fits : (public time by : ℕ) (x : Order) → public < 2 ^ 64 → time < 2 ^ 48 → Sized public x → AreFeed (taken_off time by x)
taken_off_fits public time by x p t h =
    cond_both (ltb by x.shares) (reduced time by x) (deleted time x) AreFeed
    (λ l.
    let less : by < x.shares = ltb-true by x.shares l in
    let most = h.shares in
    let few : by < 2 ^ 32 = omega arith in
    cond_both x.shown _ _ AreFeed (λ s. (record { locate = h.locate; time = t; reference = (let r = h.reference s in omega arith); shares = few }, tt)) (λ _. tt))
    (λ _. deleted_fits public time x p t h)

execution_fits : (public r time : ℕ) (stock : Symbol) (number : ℕ) (e : Execution) → public < 2 ^ 64 → time < 2 ^ 48 → length stock.0 ≡ 8 → r < 2 ^ 32 → number < 2 ^ 64 → IsFill public r e → IsFeed (feed_of_execution time stock number e)
execution_fits public r time stock number e p t l few n h =
    let least = h.1 in
    let shares : e.shares < 2 ^ 32 = omega arith in
    cond_both e.order.shown _ _ IsFeed
    (λ s. record { locate = h.0.locate; time = t; reference = (let k = h.0.reference s in omega arith); shares = shares; match_number = n })
    (λ _. record { locate = h.0.locate; time = t; shares = shares; stock = l; price = h.0.price; match_number = n })

executions_fit : (public r time : ℕ) (stock : Symbol) (number : ℕ) (es : List Execution) → public < 2 ^ 64 → time < 2 ^ 48 → length stock.0 ≡ 8 → r < 2 ^ 32 → number + length es < 2 ^ 64 → AllByRecursion (IsFill public r) es
    → AreFeed (feed_of_executions time stock number es)
executions_fit public r time stock number [] p t l few n all = tt
executions_fit public r time stock number (e ∷ es) p t l few n all =
    (execution_fits public r time stock (number + 1) e p t l few (omega arith) all.0, executions_fit public r time stock (number + 1) es p t l few (omega arith) all.1)

published_fits : (public time : ℕ) (stock : Symbol) (x : Order) → public < 2 ^ 64 → time < 2 ^ 48 → length stock.0 ≡ 8 → Sized public x → x.shown ≡ true → IsFeed (published time stock x)
published_fits public time stock x p t l h s =
    let k = h.reference s in
    let low : x.reference < 2 ^ 64 = omega arith in
    cond_both (eqb x.display 65)
    (AddOrderWithAttribution (record { locate = x.locate; time = time; reference = x.reference; side = published_side x.side; shares = x.shares; stock = stock; price = x.price; attribution = x.firm }))
    (AddOrder (record { locate = x.locate; time = time; reference = x.reference; side = published_side x.side; shares = x.shares; stock = stock; price = x.price })) IsFeed
    (λ _. record { locate = h.locate; time = t; reference = low; shares = h.shares; stock = l; price = h.price; attribution = h.firm })
    (λ _. record { locate = h.locate; time = t; reference = low; shares = h.shares; stock = l; price = h.price })

all_published_fit : (public time : ℕ) (stock : Symbol) (xs : List Order) → public < 2 ^ 64 → time < 2 ^ 48 → length stock.0 ≡ 8 → AreSized public xs → AreFeed (map (published time stock) (shown_of xs))
all_published_fit public time stock [] p t l all = tt
all_published_fit public time stock (x ∷ xs) p t l all = choose x.shown refl (all_published_fit public time stock xs p t l all.1)
  where
    choose : (b : Bool) → x.shown ≡ b → AreFeed (map (published time stock) (shown_of xs)) → AreFeed (map (published time stock) (cond b (x ∷ shown_of xs) (shown_of xs)))
    choose true s ih = (published_fits public time stock x p t l all.0 s, ih)
    choose false s ih = ih

resting_sized : (public : ℕ) (x : Order) (immediate : Bool) (left : ℕ) → left ≤ x.shares → Sized public x → AreSized public (resting_of x immediate left)
resting_sized public x immediate left le h =
    let most = h.shares in
    cond_both (ltb 0 left && not immediate) (record x { shares = left } ∷ []) [] (AreSized public)
    (λ _. (record { locate = h.locate; price = h.price; shares = omega arith; firm = h.firm; reference = h.reference }, tt)) (λ _. tt)

-- the output of an order that arrives, and what it leaves
pub record ArrivesFit (public number time : ℕ) (stock : Symbol) (immediate : Bool) (x : Order) (a : Market) : Type 0 where
  pub feed : AreFeed (arrival_feed time stock number (arrive time immediate x a).executions (arrive time immediate x a).resting)
  pub live : AreSized public (arrive time immediate x a).market.live
  pub fills : AllByRecursion (IsFill public x.shares) (arrive time immediate x a).executions
  pub few : length (arrive time immediate x a).executions ≤ x.shares

pub arrives_fit : (public number time : ℕ) (stock : Symbol) (immediate : Bool) (x : Order) (a : Market) → public < 2 ^ 64 → time < 2 ^ 48 → length stock.0 ≡ 8 → AreSized public a.live → Sized public x
    → number + x.shares < 2 ^ 64 → ArrivesFit public number time stock immediate x a
arrives_fit public number time stock immediate x a p t l all own room =
    let m : Matched = matched (incoming_of x) x.shares a.live in
    let h = matched_within public (incoming_of x) x.shares a.live all in
    let few = h.few in
    let rests : AreSized public (resting_of x immediate m.left) = resting_sized public x immediate m.left h.left own in
    record {
      feed = both_feed (feed_of_executions time stock number m.fills) (map (published time stock) (shown_of (resting_of x immediate m.left)))
          (executions_fit public x.shares time stock number m.fills p t l own.shares (omega arith) h.fills)
          (all_published_fit public time stock (resting_of x immediate m.left) p t l rests);
      live = all_append (Sized public) m.rest (resting_of x immediate m.left) h.rest rests;
      fills = h.fills;
      few = h.few;
    }

pub replace_fits : (public time : ℕ) (stock : Symbol) (number : ℕ) (old x : Order) (es : List Execution) (resting : List Order) → public < 2 ^ 64 → time < 2 ^ 48 → Sized public old → Sized public x
    → AreFeed (arrival_feed time stock number es resting) → AreFeed (replace_feed time stock number old x es resting)
replace_fits public time stock number old x es resting p t before after h =
    cond_both (is_one_display old x && nat_lt (length es) 1) _ _ AreFeed
    (λ e.
    let one = and_parts (is_one_display old x) (nat_lt (length es) 1) e in
    let shown = and_parts old.shown (x.shown && (old.display == x.display)) one.0 in
    let new = and_parts x.shown (old.display == x.display) shown.1 in
    let i = before.reference shown.0 in
    let j = after.reference new.0 in
    (record { locate = after.locate; time = t; original_reference = omega arith; reference = omega arith; shares = after.shares; price = after.price }, tt))
    (λ _. both_feed (deleted time old) (arrival_feed time stock number es resting) (deleted_fits public time old p t before) h)
