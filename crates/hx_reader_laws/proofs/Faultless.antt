-- That no message of the feed has a fault: leaving orders, and executions.
use Rattle.std.proofs.Common.{◌≡◌, ℕ, zero, suc, ◌+◌, ◌-◌, ◌≤◌, min, Bool, true, false, cond, ltb, leb, eqb, eq-eqb, refl, sym, ap, subst, ◌∙◌, arith, List, [], ◌∷◌, ◌++◌, Option, Some, None}
use Rattle.std.specs.Prelude.{is_some}
use Rattle.std.specs.List.{AllByRecursion, filter, find}
use Rattle.std.proofs.lemmas.Bool.{cond_both}
use Rattle.std.proofs.lemmas.Bool.Decides.{nat_tests}
use Rattle.hx_units.specs.declared.names.Symbol.{Symbol}
use Rattle.hx_match.specs.declared.fills.Incoming.{Incoming}
use Rattle.hx_match.specs.Matching.{Position, itself, with_shares, first_by_rank, matched_by, matched_entries, matched}
use Rattle.hx_match.specs.Rules.{IsRightChoice}
use Rattle.hx_match.proofs.First.{first_is_right}
use Rattle.hx_members.specs.Setups.{Setup}
use Rattle.hx_itch.specs.declared.message.Feed.{Feed}
use Rattle.hx_itch.specs.declared.message.Feed.TheVariants.{OrderDelete, OrderExecuted, Trade}
use Rattle.hx_rules.specs.Orders.{Order, Token, is_called}
use Rattle.hx_rules.specs.Removal.{less, deleted, taken_off}
use Rattle.hx_rules.specs.Hours.{all_deleted}
use Rattle.hx_rules.specs.Executions.{feed_of_execution, feed_of_executions}
use Rattle.hx_laws.specs.FeedBook.{ShownOrder, without, book_after, book_from, shown_as}
use Rattle.hx_laws.proofs.FeedBook.ShownExecutions.{shows, IsApart, AreApart, Others, others_front, apart_position, book_execution}
use Rattle.hx_laws.proofs.FeedBook.ShownLeaving.{NoneCalled, shows-cons, found_ind}
use Rattle.hx_laws.proofs.FeedBook.ShownEnding.{HaveOthers, ended_others}
use Rattle.hx_reader.specs.declared.fault.ApplyError.TheVariants as errors
use Rattle.hx_reader.specs.Faults.{order_of, has, if_short, if_unknown, fault_of, AreFaultless}

pub faultless_both : (b : List ShownOrder) (xs ys : List Feed) → AreFaultless b xs → AreFaultless (book_from b xs) ys → AreFaultless b (xs ++ ys)
faultless_both b [] ys h k = k
faultless_both b (x ∷ xs) ys h k = (h.0, faultless_both (book_after b x) xs ys h.1 k)

-- ---- an order that is shown is found by its reference

at_index : (setup : Setup) (x : Order) → x.shown ≡ true → (front back : List Order) → Others x.reference front → order_of x.reference (shows setup (front ++ (x ∷ back))) ≡ Some (shown_as setup x)
at_index setup x e [] back o = ap (order_of x.reference) (shows-cons setup x back true e) ∙ (rw (eq-eqb x.reference x.reference refl) refl)
at_index setup x e (y ∷ front) back o = choose y.shown refl (at_index setup x e front back o.1)
  where
    choose : (b : Bool) → y.shown ≡ b → order_of x.reference (shows setup (front ++ (x ∷ back))) ≡ Some (shown_as setup x) → order_of x.reference (shows setup (y ∷ (front ++ (x ∷ back)))) ≡ Some (shown_as setup x)
    choose true f ih = ap (order_of x.reference) (shows-cons setup y (front ++ (x ∷ back)) true f) ∙ (rw (o.0 f, ih) refl)
    choose false f ih = ap (order_of x.reference) (shows-cons setup y (front ++ (x ∷ back)) false f) ∙ ih

pub found_in : (setup : Setup) (m : ℕ) (t : Token) (x : Order) → x.shown ≡ true → (xs : List Order) → AreApart xs → find (is_called m t) xs ≡ Some x → order_of x.reference (shows setup xs) ≡ Some (shown_as setup x)
found_in setup m t x e = found_ind m t x (λ xs. order_of x.reference (shows setup xs) ≡ Some (shown_as setup x)) here there
  where
    here : (ys : List Order) → is_called m t x ≡ true → AllByRecursion (IsApart x) ys → NoneCalled m t ys → order_of x.reference (shows setup (x ∷ ys)) ≡ Some (shown_as setup x)
    here ys c a n = at_index setup x e [] ys tt

    there : (y : Order) (ys : List Order) → is_called m t y ≡ false → IsApart y x → order_of x.reference (shows setup ys) ≡ Some (shown_as setup x) → order_of x.reference (shows setup (y ∷ ys)) ≡ Some (shown_as setup x)
    there y ys c a ih = choose y.shown refl
      where
        choose : (b : Bool) → y.shown ≡ b → order_of x.reference (shows setup (y ∷ ys)) ≡ Some (shown_as setup x)
        choose true f = ap (order_of x.reference) (shows-cons setup y ys true f) ∙ (rw (a.reference f e, ih) refl)
        choose false f = ap (order_of x.reference) (shows-cons setup y ys false f) ∙ ih

-- a book without the references above a number
pub AreBelow-has : (setup : Setup) (n r : ℕ) (xs : List Order) → AllByRecursion (λ y. y.shown ≡ true → leb y.reference n ≡ true) xs → r ≡ n + 1 → has r (shows setup xs) ≡ false
AreBelow-has setup n r [] all e = refl
AreBelow-has setup n r (y ∷ ys) all e = choose y.shown refl (AreBelow-has setup n r ys all.1 e)
  where
    other : (i n r : ℕ) → leb i n ≡ true → r ≡ n + 1 → eqb i r ≡ false
    other i n r h e = grind (arith, nat_tests)

    choose : (b : Bool) → y.shown ≡ b → has r (shows setup ys) ≡ false → has r (shows setup (y ∷ ys)) ≡ false
    choose true f ih = ap (has r) (shows-cons setup y ys true f) ∙ ap (λ (b : Bool). is_some (cond b (Some (shown_as setup y)) (order_of r (shows setup ys)))) (other y.reference n r (all.0 f) e) ∙ ih
    choose false f ih = ap (has r) (shows-cons setup y ys false f) ∙ ih

known_none : (r : ℕ) (b : List ShownOrder) (x : ShownOrder) → order_of r b ≡ Some x → if_unknown r b ≡ None
known_none r b x e = rw e refl

enough : (n by : ℕ) → by ≤ n → ltb n by ≡ false
enough n by h = grind (arith, nat_tests)

short_none : (r by : ℕ) (b : List ShownOrder) (x : ShownOrder) → by ≤ x.shares → order_of r b ≡ Some x → if_short by (order_of r b) ≡ None
short_none r by b x le e = rw (e, enough x.shares by le) refl

-- ---- an order leaves, or has shares taken off

pub deleted_faultless : (setup : Setup) (time m : ℕ) (t : Token) (x : Order) (xs : List Order) → AreApart xs → find (is_called m t) xs ≡ Some x → AreFaultless (shows setup xs) (deleted time x)
deleted_faultless setup time m t x xs a h =
    cond_both x.shown _ _ (AreFaultless (shows setup xs)) (λ e. (known_none x.reference (shows setup xs) (shown_as setup x) (found_in setup m t x e xs a h), tt)) (λ _. tt)

pub taken_off_faultless : (setup : Setup) (time m : ℕ) (t : Token) (by : ℕ) (x : Order) (xs : List Order) → AreApart xs → find (is_called m t) xs ≡ Some x → AreFaultless (shows setup xs) (taken_off time by x)
taken_off_faultless setup time m t by x xs a h =
    cond_both (ltb by x.shares) _ (deleted time x) (AreFaultless (shows setup xs))
    (λ l. cond_both x.shown _ _ (AreFaultless (shows setup xs))
    (λ e. (short_none x.reference by (shows setup xs) (shown_as setup x) (least by x.shares l) (found_in setup m t x e xs a h), tt)) (λ _. tt))
    (λ _. deleted_faultless setup time m t x xs a h)
  where
    least : (n m : ℕ) → ltb n m ≡ true → n ≤ m
    least n m l = grind (arith, nat_tests)

-- ---- orders end together

-- an order before those of the book is not touched
before_others : (time : ℕ) (x : ShownOrder) (b : List ShownOrder) (zs : List Order) → HaveOthers x.reference zs → AreFaultless b (all_deleted time zs) → AreFaultless (x ∷ b) (all_deleted time zs)
before_others time x b [] o h = tt
before_others time x b (z ∷ zs) o h = choose z.shown o.0 (λ c. before_others time x c zs o.1) h
  where
    gone : Bool → List Feed
    gone d = cond d (OrderDelete (record { locate = z.locate; time = time; reference = z.reference }) ∷ []) [] ++ all_deleted time zs

    choose : (d : Bool) → (d ≡ true → eqb x.reference z.reference ≡ false) → ((c : List ShownOrder) → AreFaultless c (all_deleted time zs) → AreFaultless (x ∷ c) (all_deleted time zs)) → AreFaultless b (gone d) → AreFaultless (x ∷ b) (gone d)
    choose true f ih k = (
      ap (λ (c : Bool). cond (is_some (cond c (Some x) (order_of z.reference b))) None (Some errors.Unknown)) (f refl) ∙ k.0,
      subst (λ (c : Bool). AreFaultless (cond c b (x ∷ without z.reference b)) (all_deleted time zs)) (sym (f refl)) (ih (without z.reference b) k.1),
    )
    choose false f ih k = ih b k

pub ended_faultless : (setup : Setup) (due : Order → Bool) (time : ℕ) (xs : List Order) → AreApart xs → AreFaultless (shows setup xs) (all_deleted time (filter due xs))
ended_faultless setup due time [] a = tt
ended_faultless setup due time (y ∷ ys) a = choose (due y) y.shown refl (ended_faultless setup due time ys a.1)
  where
    ends : List Order
    ends = filter due ys

    gone : Bool → List Feed
    gone d = cond d (OrderDelete (record { locate = y.locate; time = time; reference = y.reference }) ∷ []) [] ++ all_deleted time ends

    first : (d : Bool) → AreFaultless (shows setup ys) (all_deleted time ends) → d ≡ true → AreFaultless (shown_as setup y ∷ shows setup ys) (gone d)
    first true ih h = (
      ap (λ (c : Bool). cond (is_some (cond c (Some (shown_as setup y)) (order_of y.reference (shows setup ys)))) None (Some errors.Unknown)) (eq-eqb y.reference y.reference refl),
      subst (λ (c : Bool). AreFaultless (cond c (shows setup ys) (shown_as setup y ∷ without y.reference (shows setup ys))) (all_deleted time ends)) (sym (eq-eqb y.reference y.reference refl)) ih,
    )
    first false ih h = absurd (let z : false ≡ true = h in cc)

    hidden : (d : Bool) → AreFaultless (shows setup ys) (all_deleted time ends) → d ≡ false → AreFaultless (shows setup ys) (gone d)
    hidden true ih h = absurd (let z : true ≡ false = h in cc)
    hidden false ih h = ih

    choose : (b d : Bool) → y.shown ≡ d → AreFaultless (shows setup ys) (all_deleted time ends) → AreFaultless (shows setup (y ∷ ys)) (all_deleted time (cond b (y ∷ ends) ends))
    choose true true e ih = subst (λ k. AreFaultless k (all_deleted time (y ∷ ends))) (sym (shows-cons setup y ys true e)) (first y.shown ih e)
    choose true false e ih = subst (λ k. AreFaultless k (all_deleted time (y ∷ ends))) (sym (shows-cons setup y ys false e)) (hidden y.shown ih e)
    choose false true e ih = subst (λ k. AreFaultless k (all_deleted time ends)) (sym (shows-cons setup y ys true e)) (before_others time (shown_as setup y) (shows setup ys) ends (ended_others due y e ys a.0) ih)
    choose false false e ih = subst (λ k. AreFaultless k (all_deleted time ends)) (sym (shows-cons setup y ys false e)) ih

-- ---- executions

execution_faultless : (setup : Setup) (time : ℕ) (stock : Symbol) (k : ℕ) (xs : List Order) (p : Position) (f : ℕ) → f ≤ p.order.shares → xs ≡ p.front ++ (p.order ∷ p.back) → AreApart xs
    → fault_of (shows setup xs) (feed_of_execution time stock k (record { order = p.order; shares = f })) ≡ None
execution_faultless setup time stock k xs p f le e a =
    cond_both p.order.shown
    (OrderExecuted (record { locate = p.order.locate; time = time; reference = p.order.reference; shares = f; match_number = k }))
    (Trade (record { locate = p.order.locate; time = time; shares = f; stock = stock; price = p.order.price; match_number = k }))
    (λ m. fault_of (shows setup xs) m ≡ None)
    (λ s. short_none p.order.reference f (shows setup xs) (shown_as setup p.order) le
    (ap (λ l. order_of p.order.reference (shows setup l)) e ∙ at_index setup p.order s p.front p.back (others_front p.order s p.front p.back (rw e at a))))
    (λ _. refl)

executed_within : (setup : Setup) (time : ℕ) (stock : Symbol) (n : ℕ) (inc : Incoming) (k r : ℕ) (xs : List Order) → AreApart xs
    → AreFaultless (shows setup xs) (feed_of_executions time stock k (matched_entries itself with_shares n inc r xs).fills)
unfolding matched_entries
executed_within setup time stock zero inc k r xs a = tt
executed_within setup time stock (suc n) inc k r xs a = choose (first_by_rank inc r xs) (λ l ys. executed_within setup time stock n inc (k + 1) l ys) (first_is_right inc r xs)
  where
    choose : (o : Option Position) → ((l : ℕ) (ys : List Order) → AreApart ys → AreFaultless (shows setup ys) (feed_of_executions time stock (k + 1) (matched_entries itself with_shares n inc l ys).fills)) → IsRightChoice inc r xs o
        → AreFaultless (shows setup xs) (feed_of_executions time stock k (matched_by itself with_shares (matched_entries itself with_shares n inc) r xs o).fills)
    choose None ih c = tt
    choose (Some p) ih c =
        let f : ℕ = min r p.order.shares in
        let ys : List Order = p.front ++ (less p.order f ++ p.back) in (
          execution_faultless setup time stock (k + 1) xs p f (omega arith) c.0 a,
          subst (λ b. AreFaultless b (feed_of_executions time stock (k + 1) (matched_entries itself with_shares n inc (r - f) ys).fills)) (sym (book_execution setup time stock (k + 1) xs p f c.0 a))
              (ih (r - f) ys (apart_position p.order f p.front p.back (rw c.0 at a))),
        )

pub executed_faultless : (setup : Setup) (time : ℕ) (stock : Symbol) (inc : Incoming) (k r : ℕ) (xs : List Order) → AreApart xs → AreFaultless (shows setup xs) (feed_of_executions time stock k (matched inc r xs).fills)
unfolding matched
executed_faultless setup time stock inc k r xs a = executed_within setup time stock r inc k r xs a
