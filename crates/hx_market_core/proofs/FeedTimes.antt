-- The output of an event carries its time.
use Rattle.std.proofs.Common.{ℕ, ◌+◌, ◌<◌, ◌^◌, Bool, ◌&&◌, nat_lt, List, [], ◌∷◌, ◌++◌, map, length, eqb, arith}
use Rattle.std.specs.List.{AllByRecursion}
use Rattle.std.proofs.lemmas.Bool.{cond_both}
use Rattle.hx_units.specs.declared.names.Symbol.{Symbol}
use Rattle.hx_itch.specs.declared.message.Feed.{Feed}
use Rattle.hx_itch.specs.Message.{feed_time}
use Rattle.hx_match.specs.Matching.{Execution}
use Rattle.hx_market_core.specs.declared.effect.Effect.{Effect}
use Rattle.hx_market_core.specs.declared.effect.Effect.TheVariants.{Nothing, Reject, Accept, Fail, Replace, Cancel, End, Halt, Break}
use Rattle.hx_rules.specs.Orders.{Order, is_immediate, is_shown}
use Rattle.hx_rules.specs.Markets.{Market}
use Rattle.hx_rules.specs.Executions.{feed_of_executions, published, arrival_feed, shown_of, arrive}
use Rattle.hx_rules.specs.Enter.{next_reference, drawn, consumed}
use Rattle.hx_market_core.specs.Effects.{IsInRange, order_of_enter, replacement_order, outcome_of}
use Rattle.hx_members.specs.Setups.{Setup}
use Rattle.hx_members.specs.Stock.{Stock}
use Rattle.hx_rules.specs.Removal.{deleted}
use Rattle.hx_rules.specs.Hours.{all_deleted, directory, output_by_code}
use Rattle.hx_rules.specs.Replace.{handed_over, is_one_display}

abbrev pub AreIn : List Feed → Type 0
AreIn fs = AllByRecursion (λ f. feed_time f < 2 ^ 48) fs

executions_in : (time : ℕ) (stock : Symbol) (number : ℕ) (es : List Execution) → time < 2 ^ 48 → AreIn (feed_of_executions time stock number es)
executions_in time stock number [] h = tt
executions_in time stock number (e ∷ es) h = (
  cond_both e.order.shown _ _ (λ f. feed_time f < 2 ^ 48) (λ _. h) (λ _. h),
  executions_in time stock (number + 1) es h,
)

published_in : (time : ℕ) (stock : Symbol) (xs : List Order) → time < 2 ^ 48 → AreIn (map (published time stock) xs)
published_in time stock [] h = tt
published_in time stock (x ∷ xs) h = (cond_both (eqb x.display 65) _ _ (λ f. feed_time f < 2 ^ 48) (λ _. h) (λ _. h), published_in time stock xs h)

pub both_in : (xs ys : List Feed) → AreIn xs → AreIn ys → AreIn (xs ++ ys)
both_in [] ys h k = k
both_in (x ∷ xs) ys h k = (h.0, both_in xs ys h.1 k)

arrival_in : (time : ℕ) (stock : Symbol) (matches : ℕ) (es : List Execution) (resting : List Order) → time < 2 ^ 48 → AreIn (arrival_feed time stock matches es resting)
arrival_in time stock matches es resting h =
    both_in (feed_of_executions time stock matches es) (map (published time stock) (shown_of resting)) (executions_in time stock matches es h) (published_in time stock (shown_of resting) h)

deleted_in : (time : ℕ) (x : Order) → time < 2 ^ 48 → AreIn (deleted time x)
deleted_in time x h = cond_both x.shown _ _ AreIn (λ _. (h, tt)) (λ _. tt)

-- the feed of an effect has times of the day, which six bytes hold
pub fits_feed : (m : Market) (effect : Effect) → IsInRange effect → AllByRecursion (λ f. feed_time f < 2 ^ 48) (outcome_of m effect).output.feed
fits_feed m Nothing h = tt
fits_feed m (Reject r) h = tt
fits_feed m (Accept a) h =
    let l : a.time < 2 ^ 48 = omega arith in
    let shown : Bool = is_shown a.enter.display a.enter.time_in_force in
    let x : Order = order_of_enter (length m.tokens) (next_reference m.numbers a.member shown) a in
    let r = arrive a.time (is_immediate a.enter.time_in_force) x (drawn (consumed m a.member a.enter.token) a.member shown) in
    arrival_in a.time a.enter.stock m.numbers.matches r.executions r.resting l
fits_feed m (Fail a) h = let l : a.time < 2 ^ 48 = omega arith in deleted_in a.time a.old.order l
fits_feed m (Replace a) h =
    let t = h.time in
    let l : a.time < 2 ^ 48 = omega arith in
    let shown : Bool = is_shown a.replace.display a.replace.time_in_force in
    let x : Order = replacement_order (next_reference m.numbers a.member shown) a in
    let r = arrive a.time (is_immediate a.replace.time_in_force) x (drawn (handed_over m a.member a.replace.existing_token a.replace.replacement_token) a.member shown) in
    cond_both (is_one_display a.old.order x && nat_lt (length r.executions) 1) _ _ AreIn (λ _. (l, tt))
    (λ _. both_in (deleted a.time a.old.order) (arrival_feed a.time a.stock m.numbers.matches r.executions r.resting) (deleted_in a.time a.old.order l) (arrival_in a.time a.stock m.numbers.matches r.executions r.resting l))
fits_feed m (Cancel a) h =
    let t = h.time in
    let l : a.time < 2 ^ 48 = omega arith in
    cond_both (nat_lt a.by a.old.order.shares) _ _ AreIn (λ _. cond_both a.old.order.shown _ _ AreIn (λ _. (l, tt)) (λ _. tt)) (λ _. deleted_in a.time a.old.order l)
fits_feed m (End e) h = h
fits_feed m (Halt e) h = let l : e.time < 2 ^ 48 = omega arith in (l, tt)
fits_feed m (Break e) h = let l : e.time < 2 ^ 48 = omega arith in (l, tt)

-- The output of orders that end, and that of the hours' codes.

pub all_deleted_in : (time : ℕ) (xs : List Order) → time < 2 ^ 48 → AreIn (all_deleted time xs)
all_deleted_in time [] h = tt
all_deleted_in time (x ∷ xs) h = both_in (deleted time x) (all_deleted time xs) (deleted_in time x h) (all_deleted_in time xs h)

directory_in : (time n : ℕ) (stocks : List Stock) → time < 2 ^ 48 → AreIn (directory time n stocks)
directory_in time n [] h = tt
directory_in time n (s ∷ stocks) h = (h, directory_in time (n + 1) stocks h)

pub code_in : (setup : Setup) (time code : ℕ) → time < 2 ^ 48 → AreIn (output_by_code setup time code).feed
code_in setup time code h = (h, cond_both (eqb code 79) (directory time 1 setup.stocks) [] AreIn (λ _. directory_in time 1 setup.stocks h) (λ _. tt))
