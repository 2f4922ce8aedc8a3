use Rattle.std.proofs.Common.{ℕ, append-nil, append_assoc, ◌≡◌, ◌+◌, ◌-◌, ◌<◌, ◌++◌, ◌∷◌, [], List, length, Option, Some, Result, Ok, Err, IfErr, sym, ap, ◌∙◌, subst, arith, Bor}
use Rattle.std.specs.Option.{option_copied, IfSome}
use Rattle.hx_book.specs.declared.order.Key.{Key}
use Rattle.hx_book.specs.declared.order.Order.{Order}
use Rattle.hx_book.specs.declared.order.Live.{Live}
use Rattle.hx_book.specs.Book.{ranked, rest_after, lives, order_of, KeysDiffer}
use Rattle.hx_book.proofs.Qualifying.{met, is_qualifying, is_some_of}
use Rattle.std.proofs.lemmas.List.{length-append}
use Rattle.hx_match.specs.declared.fills.Fill.{Fill}
use Rattle.hx_match.specs.declared.fills.Incoming.{Incoming}
use Rattle.hx_match.specs.Matching.{terms, matched_live}
use Rattle.hx_match.specs.Executing.{fills_of, AreGood, done_by, left_by}
use Rattle.hx_match.proofs.Steps.{shares_of, steps_of}
use Rattle.hx_match.proofs.OnePass.{pass, Executed, executed, pass-over, steps_of-pass}
use Rattle.hx_match.proofs.Carried.{Carried, carried, steps_of-fills, steps_of-left}
use Rattle.hx_match.proofs.pass.plan_into.Goals as goal

pub unwrap-order-requires : goal.unwrap-order-requires
unwrap-order-requires g c =
    let inc = c.args.incoming.now in
    let m = met (terms inc) c.walk.walk.after (is_qualifying c.walk.left inc.minimum) c.in-Some.key (g.B.Book.orders c.args.book.now) c.get.ensures.keys
    (sym c.in-Some.is ∙ c.next_qualifying.ensures.exact) in
    is_some_of (λ x. x.now) c.get.result m.live.order (c.get.ensures.exact ∙ m.order)

found : (r : Option (Bor Order)) (b : Bor Order) (o : Option Order) → r ≡ Some b → option_copied r ≡ o → o ≡ Some b.now
found r b o e h = sym h ∙ ap option_copied e

-- the step
abbrev StepAt : (inc : Incoming) (orders : List Live) (after : Option Key) (left : ℕ) (key : Key) (front : List Fill) (f : Fill) → Type 0
StepAt inc orders after left key front f = Executed inc after left key orders front (pass inc.minimum inc.shares (ranked (terms inc) orders)) f

pub walk-smaller : goal.walk-smaller
walk-smaller g c =
    let inc = c.args.incoming.now in
    let orders = g.B.Book.orders c.args.book.now in
    let step : StepAt inc orders c.walk.walk.after c.walk.left c.in-Some.key c.walk.fills.items c.execution-fill.result =
    executed inc c.walk.walk.after c.walk.left c.in-Some.key orders c.unwrap-order.result.now c.walk.fills.items (pass inc.minimum inc.shares (ranked (terms inc) orders)) c.execution-fill.result c.get.ensures.keys
    (sym c.in-Some.is ∙ c.next_qualifying.ensures.exact) (found c.get.result c.unwrap-order.result (order_of c.in-Some.key.0 orders) c.unwrap-order.ensures c.get.ensures.exact) c.execution-fill.ensures c.walk.invariant.output in
    let met : c.next_qualifying.new.walk.after ≡ Some c.in-Some.key = subst (λ o. IfSome o (λ key. c.next_qualifying.new.walk.after ≡ Some key)) c.in-Some.is c.next_qualifying.ensures.met in
    subst (λ o. length (rest_after o (ranked (terms inc) orders)) < length (rest_after c.walk.walk.after (ranked (terms inc) orders))) (sym met) step.shorter

pub walk-preserved : goal.walk-preserved
walk-preserved g c =
    let inc = c.args.incoming.now in
    let orders = g.B.Book.orders c.args.book.now in
    let step : StepAt inc orders c.walk.walk.after c.walk.left c.in-Some.key c.walk.fills.items c.execution-fill.result =
    executed inc c.walk.walk.after c.walk.left c.in-Some.key orders c.unwrap-order.result.now c.walk.fills.items (pass inc.minimum inc.shares (ranked (terms inc) orders)) c.execution-fill.result c.get.ensures.keys
    (sym c.in-Some.is ∙ c.next_qualifying.ensures.exact) (found c.get.result c.unwrap-order.result (order_of c.in-Some.key.0 orders) c.unwrap-order.ensures c.get.ensures.exact) c.execution-fill.ensures c.walk.invariant.output in
    let met : c.next_qualifying.new.walk.after ≡ Some c.in-Some.key = subst (λ o. IfSome o (λ key. c.next_qualifying.new.walk.after ≡ Some key)) c.in-Some.is c.next_qualifying.ensures.met in
    record {
      output = ap (λ o. c.push.new.self.items ++ pass inc.minimum (c.walk.left - c.execution-fill.result.shares) (rest_after o (ranked (terms inc) orders))) met
          ∙ ap (λ (v : List Fill). v ++ pass inc.minimum (c.walk.left - c.execution-fill.result.shares) (rest_after (Some c.in-Some.key) (ranked (terms inc) orders))) c.in_ok-push.ensures.items ∙ step.output;
      total = ap (λ (v : List Fill). c.walk.left - c.execution-fill.result.shares + shares_of v) c.in_ok-push.ensures.items ∙ step.total ∙ c.walk.invariant.total;
      walk = c.next_qualifying.ensures.walk;
    }

-- these are the executions, and `left` shares are left
abbrev EventOutput : Incoming → List Live → List Fill → ℕ → Type 0
EventOutput incoming orders front left = (front ≡ fills_of incoming orders) × (left ≡ (matched_live incoming orders).left)

output_at_end : (incoming : Incoming) (orders : List Live) (left : ℕ) (front : List Fill) → KeysDiffer orders
    → front ≡ pass incoming.minimum incoming.shares (ranked (terms incoming) orders) → left + shares_of front ≡ incoming.shares
    → EventOutput incoming orders front left
output_at_end incoming orders left front d e t =
    let f : front ≡ steps_of incoming orders = e ∙ sym (steps_of-pass incoming orders d) in
    let s : shares_of front ≡ shares_of (steps_of incoming orders) = ap shares_of f in
    let l : left ≡ incoming.shares - shares_of (steps_of incoming orders) = omega arith in
    (f ∙ steps_of-fills incoming orders d, l ∙ steps_of-left incoming orders d)

-- no order is left that qualifies
none : (g : _) (c : goal.In_default g) → EventOutput c.args.incoming.now (g.B.Book.orders c.args.book.now) c.walk.fills.items c.walk.left
none g c =
    let inc = c.args.incoming.now in
    let orders = g.B.Book.orders c.args.book.now in
    let line = ranked (terms inc) orders in
    output_at_end inc orders c.walk.left c.walk.fills.items c.next_qualifying.ensures.keys
    (sym (append-nil c.walk.fills.items)
    ∙ ap (λ (l : List Fill). c.walk.fills.items ++ l) (sym (pass-over inc.minimum c.walk.left (rest_after c.walk.walk.after line) (sym c.in_default.is ∙ c.next_qualifying.ensures.exact)))
    ∙ c.walk.invariant.output)
    c.walk.invariant.total

pub returns-clause-fills : goal.returns-clause-fills
returns-clause-fills g c = (none g c).0

pub returns-clause-left : goal.returns-clause-left
returns-clause-left g c = (none g c).1

pub returns-clause-executions : goal.returns-clause-executions
returns-clause-executions g c =
    let orders = g.B.Book.orders c.args.book.now in
    let inc = c.args.incoming.now in
    let t : EventOutput inc orders c.walk.fills.items c.walk.left = none g c in
    let known : Carried inc orders = carried inc orders c.next_qualifying.ensures.keys in
    record {
      good = subst (λ l. AreGood l orders) (sym t.0) known.good;
      done = ap (λ l. done_by l orders) t.0 ∙ known.done;
      rest = ap (λ l. lives (left_by l orders)) t.0 ∙ known.rest;
      remains = t.1 ∙ known.left;
    }

some_among : (front more all : List Fill) (f : Fill) → front ++ f ∷ more ≡ all → 0 < length all
some_among front more all f e = omega (arith, length-append front (f ∷ more), ap length e)

if_err : {T E : Type 0} (P : Type 0) (r : Result T E) → P → IfErr r (λ _. P)
if_err P (Ok x) h = tt
if_err P (Err e) h = h

-- the execution for which there was no memory
abbrev unstored : (g : _) (c : goal.After-from_residual g) → Fill
unstored g c = c.execution-fill.result

-- the executions after it
abbrev later : (g : _) (c : goal.After-from_residual g) → List Fill
later g c =
    pass c.args.incoming.now.minimum (c.walk.left - (unstored g c).shares)
    (rest_after (Some c.in-Some.key) (ranked (terms c.args.incoming.now) (g.B.Book.orders c.args.book.now)))

-- those in the list, it, and those after it are all
all_output : (g : _) (c : goal.After-from_residual g) → c.walk.fills.items ++ unstored g c ∷ later g c ≡ fills_of c.args.incoming.now (g.B.Book.orders c.args.book.now)
all_output g c =
    let inc = c.args.incoming.now in
    let orders = g.B.Book.orders c.args.book.now in
    let step : StepAt inc orders c.walk.walk.after c.walk.left c.in-Some.key c.walk.fills.items c.execution-fill.result =
    executed inc c.walk.walk.after c.walk.left c.in-Some.key orders c.unwrap-order.result.now c.walk.fills.items (pass inc.minimum inc.shares (ranked (terms inc) orders)) c.execution-fill.result c.get.ensures.keys
    (sym c.in-Some.is ∙ c.next_qualifying.ensures.exact) (found c.get.result c.unwrap-order.result (order_of c.in-Some.key.0 orders) c.unwrap-order.ensures c.get.ensures.exact) c.execution-fill.ensures c.walk.invariant.output in
    sym (append_assoc c.walk.fills.items (unstored g c ∷ []) (later g c)) ∙ step.output ∙ sym (steps_of-pass inc orders c.get.ensures.keys) ∙ steps_of-fills inc orders c.get.ensures.keys

-- if the list of fills cannot grow there is a fill
pub returns-in_err-push-clause-memory : goal.returns-in_err-push-clause-memory
returns-in_err-push-clause-memory g c =
    let all = fills_of c.args.incoming.now (g.B.Book.orders c.args.book.now) in
    if_err (0 < length all) c.from_residual.result
    (some_among c.walk.fills.items (later g c) all (unstored g c) (all_output g c))

-- and those in the list are the first ones
pub returns-in_err-push-clause-front : goal.returns-in_err-push-clause-front
returns-in_err-push-clause-front g c =
    let all = fills_of c.args.incoming.now (g.B.Book.orders c.args.book.now) in
    let others = unstored g c ∷ later g c in
    if_err ((rest : List Fill) × (c.push.new.self.items ++ rest ≡ all)) c.from_residual.result
    (others, ap (λ (v : List Fill). v ++ others) c.in_err-push.ensures.items ∙ all_output g c)
