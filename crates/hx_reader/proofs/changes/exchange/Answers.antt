use Rattle.std.proofs.Common.{ap, sym, subst, ◌∙◌, nat_eq, ◌<◌, ◌++◌, ◌∷◌, [], ◌≡◌, arith, Option, None, ℕ, Bool, true, false, cond, refl, inl, inr, is_some}
use Rattle.std.specs.Map.{lookup, remove_entry}
use Rattle.indexmap.specs.IndexMap.{get}
use Rattle.hx_reader.specs.Tables.{orders_in, is_number, order_at, AreBelow, IsFound}
use Rattle.hx_reader.proofs.Tables.{all_left, below_more, orders_last, removed_same, removed_more, none_front}
use Rattle.hx_reader.proofs.Found.{Finds, finds_less, finds_more, not_same, some_more}
use Rattle.hx_reader.proofs.changes.exchange.Goals as goal

cond_none : (b : Bool) (o : Option ℕ) → o ≡ None → cond b None o ≡ None
cond_none true o h = refl
cond_none false o h = h

pub take_out-requires-clause-there : goal.take_out-requires-clause-there
take_out-requires-clause-there c =
    let t = c.args.table.now in
    let es = t.orders.entries in
    let found = subst (IsFound es c.args.original) c.requires.slot (c.requires.table.found c.args.original) in
    ap (λ l. is_some (order_at c.args.number l)) c.in_ok-push.ensures.ok ∙ some_more c.args.number (t.next, c.args.order) es found.1

pub returns-clause-table : goal.returns-clause-table
returns-clause-table c =
    let t = c.args.table.now in
    let es = t.orders.entries in
    let x = c.args.order in
    let k = c.args.number in
    let r = c.args.original in
    let left = remove_entry (is_number k) es in
    let lt : t.next < c.in-Some.next = omega (arith, c.in-Some.ensures) in
    let slot = subst (IsFound es r) c.requires.slot (c.requires.table.found r) in
    let entries = c.take_out.ensures.entries ∙ ap (remove_entry (is_number k)) c.in_ok-push.ensures.ok ∙ removed_more k (t.next, x) es slot.1 in
    let gone = none_front k left ((t.next, x) ∷ []) (ap (order_at k) (sym entries) ∙ c.take_out.ensures.gone) in
    let same : (q : ℕ) → get nat_eq c.reserve.new.self q ≡ get nat_eq t.indices q = λ q. ap (lookup (nat_eq q)) c.reserve.ensures.entries in
    let out = finds_less (λ q. get nat_eq t.indices q) (λ q. get nat_eq c.swap_remove.new.self q) r k es c.requires.table.found c.requires.slot gone
    c.swap_remove.ensures.updates.1 (λ q h. c.swap_remove.ensures.updates.2 q (not_same r q (λ e. h (sym e))) ∙ same q) in
    let free : get nat_eq c.swap_remove.new.self x.reference ≡ None = elim c.requires.free [
      | inl e ↦ ap (λ q. get nat_eq c.swap_remove.new.self q) e ∙ c.swap_remove.ensures.updates.1
      | inr e ↦ c.swap_remove.ensures.updates.0 x.reference ∙ cond_none (nat_eq r x.reference) (get nat_eq c.reserve.new.self x.reference) (same x.reference ∙ e)
    ] in
    let below = all_left (λ e. e.0 < t.next) (is_number k) es c.requires.table.below in
    let all = finds_more (λ q. get nat_eq c.swap_remove.new.self q) (λ q. get nat_eq c.insert.new.self q) t.next x left out below (subst (IsFound left x.reference) free (out x.reference)) c.in-Ok.ensures.updates.1
    (λ q h. c.in-Ok.ensures.updates.2 q (not_same x.reference q (λ e. h (sym e)))) in
    record {
      below = subst (AreBelow c.in-Some.next) (sym entries) (below_more t.next c.in-Some.next x left lt below);
      found = subst (Finds (λ q. get nat_eq c.insert.new.self q)) (sym entries) all;
      levels = c.take_out.ensures.levels;
    }

pub returns-clause-ok : goal.returns-clause-ok
returns-clause-ok c =
    let t = c.args.table.now in
    let es = t.orders.entries in
    let k = c.args.number in
    let slot = subst (IsFound es c.args.original) c.requires.slot (c.requires.table.found c.args.original) in
    let entries = c.take_out.ensures.entries ∙ ap (remove_entry (is_number k)) c.in_ok-push.ensures.ok ∙ removed_more k (t.next, c.args.order) es slot.1 in
    ap orders_in entries ∙ orders_last t.next c.args.order (remove_entry (is_number k) es) ∙ ap (λ l. l ++ c.args.order ∷ []) (removed_same c.args.original k es slot.0)
