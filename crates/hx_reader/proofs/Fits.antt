-- The faults of messages, by what is found.
use Rattle.std.proofs.Common.{◌≡◌, ℕ, nat_lt, List, Bool, false, Option, Some, None, is_some, cond, ap, ◌∙◌, Ok, Err}
use Rattle.std.specs.declared.result.Result.{Result}
use Rattle.std.specs.Result.{OnOk, IfErr}
use Rattle.hx_itch.specs.declared.shown_order.ShownOrder.{ShownOrder}
use Rattle.hx_reader.specs.declared.fault.ApplyError.{ApplyError}
use Rattle.hx_reader.specs.declared.fault.ApplyError.TheVariants as errors
use Rattle.hx_reader.specs.Faults.{order_of, has, if_known, if_unknown, if_short, if_misplaced, is_clash, IsCause}
use Rattle.hx_reader.specs.Tables.{Entries, orders_in, order_at, IsFound}
use Rattle.hx_reader.proofs.Tables.{found_none, found_same}
use Rattle.hx_reader.proofs.Found.{not_same}

pub has_found : (q : ℕ) (es : Entries) (o : Option ℕ) → IsFound es q o → has q (orders_in es) ≡ is_some o
has_found q es None h = ap is_some (found_none q es h)
has_found q es (Some k) h = ap is_some (found_same q k es h.0) ∙ h.1

pub known_as : (q : ℕ) (es : Entries) (o : Option ℕ) (b : Bool) → IsFound es q o → is_some o ≡ b → if_known q (orders_in es) ≡ cond b (Some errors.Known) None
known_as q es o b h e = ap (λ c. cond c (Some errors.Known) None) (has_found q es o h ∙ e)

pub unknown_as : (q : ℕ) (es : Entries) (o : Option ℕ) (b : Bool) → IsFound es q o → is_some o ≡ b → if_unknown q (orders_in es) ≡ cond b None (Some errors.Unknown)
unknown_as q es o b h e = ap (λ c. cond c None (Some errors.Unknown)) (has_found q es o h ∙ e)

pub short_none : (q n : ℕ) (es : Entries) → IsFound es q None → if_short n (order_of q (orders_in es)) ≡ Some errors.Unknown
short_none q n es h = ap (if_short n) (found_none q es h)

pub short_as : (q k n : ℕ) (x : ShownOrder) (es : Entries) (b : Bool) → IsFound es q (Some k) → order_at k es ≡ Some x → nat_lt x.shares n ≡ b → if_short n (order_of q (orders_in es)) ≡ cond b (Some errors.TooMany) None
short_as q k n x es b h there e = ap (if_short n) (found_same q k es h.0 ∙ there) ∙ ap (λ c. cond c (Some errors.TooMany) None) e

pub misplaced_as : (r q : ℕ) (book : List ShownOrder) (b c : Bool) → has q book ≡ b → is_clash r q book ≡ c → if_misplaced r q book ≡ cond b (cond c (Some errors.Known) None) (Some errors.Unknown)
misplaced_as r q book b c h e =
    ap (λ d. cond d (cond (is_clash r q book) (Some errors.Known) None) (Some errors.Unknown)) h
    ∙ ap (λ d. cond b (cond d (Some errors.Known) None) (Some errors.Unknown)) e

pub clash_as : (r q : ℕ) (es : Entries) (o : Option ℕ) → (r ≡ q → ⊥) → IsFound es r o → is_clash r q (orders_in es) ≡ is_some o
clash_as r q es o ne h = ap (λ b. cond b false (has r (orders_in es))) (not_same r q ne) ∙ has_found r es o h

-- if the only error is want of memory
pub cause_none : (r : Result (Unit {0}) ApplyError) (fault : Option ApplyError) → IfErr r (λ e. e ≡ errors.NoMemory) → fault ≡ None → IfErr r (λ e. IsCause e fault)
cause_none (Ok v) fault h none = tt
cause_none (Err e) fault h none = rw h none

pub on_ok : (r : Result (Unit {0}) ApplyError) (P : Type 0) → P → OnOk r P
on_ok (Ok v) P p = p
on_ok (Err e) P p = tt

pub on_ok_map : (r : Result (Unit {0}) ApplyError) (P Q : Type 0) → (P → Q) → OnOk r P → OnOk r Q
on_ok_map (Ok v) P Q f p = f p
on_ok_map (Err e) P Q f p = tt
