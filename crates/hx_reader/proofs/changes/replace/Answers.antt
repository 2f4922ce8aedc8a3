use Rattle.std.proofs.Common.{ap, sym, subst, ◌∙◌, is_some, true, false, None, ◌≡◌, ◌++◌, ◌∷◌, [], refl}
use Rattle.hx_itch.specs.declared.message.Feed.TheVariants as variant
use Rattle.hx_itch.specs.Books.{without, book_after}
use Rattle.hx_reader.specs.Faults.{fault_of}
use Rattle.hx_reader.specs.Tables.{orders_in, book_in, IsFound}
use Rattle.hx_reader.proofs.Tables.{found_same, renewed_is}
use Rattle.hx_reader.proofs.Fits.{has_found, misplaced_as, cause_none, on_ok, on_ok_map}
use Rattle.hx_reader.proofs.changes.replace.Goals as goal

pub returns-in_default-clause-cause : goal.returns-in_default-clause-cause
returns-in_default-clause-cause c =
    let m = c.args.message.now in
    let es = c.args.table.now.orders.entries in
    misplaced_as m.reference m.original_reference (orders_in es) false _ (has_found m.original_reference es c.number_of.result c.number_of.ensures.found ∙ ap is_some c.in_default.is) refl

pub returns-then-is_taken-clause-cause : goal.returns-then-is_taken-clause-cause
returns-then-is_taken-clause-cause c =
    let m = c.args.message.now in
    let es = c.args.table.now.orders.entries in
    misplaced_as m.reference m.original_reference (orders_in es) true true (has_found m.original_reference es c.number_of.result c.number_of.ensures.found ∙ ap is_some c.in-Some.is) (sym c.is_taken.ensures.clash ∙ c.if-is_taken.true)

pub returns-clause-fits : goal.returns-clause-fits
returns-clause-fits c =
    let m = c.args.message.now in
    let es = c.args.table.now.orders.entries in
    on_ok c.exchange.result (fault_of (orders_in es) (variant.OrderReplace m) ≡ None)
    (misplaced_as m.reference m.original_reference (orders_in es) true false (has_found m.original_reference es c.number_of.result c.number_of.ensures.found ∙ ap is_some c.in-Some.is) (sym c.is_taken.ensures.clash ∙ c.if-is_taken.false))

pub returns-clause-cause : goal.returns-clause-cause
returns-clause-cause c =
    let m = c.args.message.now in
    let es = c.args.table.now.orders.entries in
    cause_none c.exchange.result (fault_of (orders_in es) (variant.OrderReplace m)) c.exchange.ensures.cause
    (misplaced_as m.reference m.original_reference (orders_in es) true false (has_found m.original_reference es c.number_of.result c.number_of.ensures.found ∙ ap is_some c.in-Some.is) (sym c.is_taken.ensures.clash ∙ c.if-is_taken.false))

pub returns-clause-ok : goal.returns-clause-ok
returns-clause-ok c =
    let m = c.args.message.now in
    let es = c.args.table.now.orders.entries in
    let k = m.original_reference in
    let x = c.unwrap-order.result.now in
    let found = subst (IsFound es k) c.in-Some.is c.number_of.ensures.found in
    let there = rw c.unwrap-order.ensures at c.get.ensures.value in
    let new = record x { reference = m.reference; shares = m.shares; price = m.price } in
    on_ok_map c.exchange.result (book_in c.exchange.new.table ≡ without k (orders_in es) ++ new ∷ []) (book_in c.exchange.new.table ≡ book_after (orders_in es) (variant.OrderReplace m))
    (λ h. h ∙ ap (λ l. without k (orders_in es) ++ l) (sym (renewed_is k m.reference m.shares m.price x (orders_in es) (found_same k c.in-Some.number es found.0 ∙ sym there))))
    c.exchange.ensures.ok
