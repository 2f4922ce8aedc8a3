-- A chain's executed shares and the open shares of its live orders stay within the shares of one message.
use Rattle.std.proofs.Common.{◌≡◌, ℕ, zero, suc, ◌+◌, ◌-◌, ◌≤◌, min, Bool, true, false, cond, eqb, ltb, ◌&&◌, List, [], ◌∷◌, ◌++◌, Option, Some, None, refl, sym, ap, ◌∙◌, subst, arith, eq-eqb, eqb-true}
use Rattle.std.specs.Option.{IfSome, option_map_or}
use Rattle.std.proofs.lemmas.Bool.{cond-true, cond-false, cond_both, and_parts}
use Rattle.std.proofs.lemmas.Bool.Decides.{nat_tests}
use Rattle.hx_units.specs.declared.names.Token.{Token}
use Rattle.hx_units.specs.Names.{is_token}
use Rattle.hx_book.specs.declared.order.Order.{Order}
use Rattle.hx_book.specs.Book.{outranks}
use Rattle.hx_match.specs.declared.fills.Incoming.{Incoming}
use Rattle.hx_match.specs.Matching.{Execution, Position, Matched, later, first_of_entries, passes, first_entry, less_of, matched_by, matched_entries, itself, with_shares}
use Rattle.hx_members.specs.Chains.{Used, Chain, is_chain, entered_of, executed_by, executed_at, note, noted, IsEnteredAt, noted_at}
use Rattle.hx_members.proofs.ChainLaws.{same_token, is_token-itself}
use Rattle.hx_day.specs.Bounds.{noted_both, chains_by, CanNote, CanNoteAll, own, is_name, open_in, IsPlaced, ArePlaced}
use Rattle.hx_rules.specs.Executions.{chains_after}

both : (a b : Bool) → a ≡ true → b ≡ true → (a && b) ≡ true
both true true h k = refl
both true false h k = k
both false b h k = h

pub name-self : (m : ℕ) (e : Token) → is_name m e m e ≡ true
name-self m e = both (eqb m m) (is_token e e) (eq-eqb m m refl) (is_token-itself e)

-- two names of one chain are one
name-joined : (m i k : ℕ) (e t u : Token) → is_name k u m e ≡ true → is_name k u i t ≡ true → is_name m e i t ≡ true
name-joined m i k e t u h j =
    let a = and_parts (eqb k m) (is_token u e) h in
    let b = and_parts (eqb k i) (is_token u t) j in
    let mi : m ≡ i = sym (eqb-true k m a.0) ∙ eqb-true k i b.0 in
    let et : e ≡ t = sym (same_token u e a.1) ∙ same_token u t b.1 in
    both (eqb m i) (is_token e t) (eq-eqb m i mi) (subst (λ (z : Token). is_token e z ≡ true) et (is_token-itself e))

pub own-true : (b : Bool) (n : ℕ) → b ≡ true → own b n ≡ n
own-true true n h = refl
own-true false n h = cc

pub own-le : (b : Bool) (n m : ℕ) → n ≤ m → own b n ≤ own b m
own-le true n m h = h
own-le false n m h = omega arith

own-minus : (b : Bool) (n f : ℕ) → f ≤ n → own b (n - f) + own b f ≡ own b n
own-minus true n f h = omega arith
own-minus false n f h = omega arith

-- a chain counts what is noted of it
pub executed-noted : (m : ℕ) (e : Token) (f : ℕ) (d : Bool) (cs : List Chain) (i : ℕ) (t : Token) → executed_by (note m e f d cs) i t ≤ executed_by cs i t + own (is_name m e i t) f
executed-noted m e f d [] i t = omega arith
executed-noted m e f d (c ∷ cs) i t = at (is_chain m e c) refl (is_chain i t c) refl (executed-noted m e f d cs i t)
  where
    at : (a : Bool) → is_chain m e c ≡ a → (b : Bool) → is_chain i t c ≡ b → executed_by (note m e f d cs) i t ≤ executed_by cs i t + own (is_name m e i t) f
        → executed_by ((cond a (noted f d c) c) ∷ note m e f d cs) i t ≤ executed_by (c ∷ cs) i t + own (is_name m e i t) f
    at true h true j ih =
        let p : executed_by (noted f d c ∷ note m e f d cs) i t ≡ c.executed + f = cond-true (is_chain i t c) (c.executed + f) (executed_by (note m e f d cs) i t) j in
        let q : executed_by (c ∷ cs) i t ≡ c.executed = cond-true (is_chain i t c) c.executed (executed_by cs i t) j in
        let o : own (is_name m e i t) f ≡ f = own-true (is_name m e i t) f (name-joined m i c.member e t c.entered h j) in omega arith
    at true h false j ih =
        let p : executed_by (noted f d c ∷ note m e f d cs) i t ≡ executed_by (note m e f d cs) i t = cond-false (is_chain i t c) (c.executed + f) (executed_by (note m e f d cs) i t) j in
        let q : executed_by (c ∷ cs) i t ≡ executed_by cs i t = cond-false (is_chain i t c) c.executed (executed_by cs i t) j in omega arith
    at false h true j ih =
        let p : executed_by (c ∷ note m e f d cs) i t ≡ c.executed = cond-true (is_chain i t c) c.executed (executed_by (note m e f d cs) i t) j in
        let q : executed_by (c ∷ cs) i t ≡ c.executed = cond-true (is_chain i t c) c.executed (executed_by cs i t) j in omega arith
    at false h false j ih =
        let p : executed_by (c ∷ note m e f d cs) i t ≡ executed_by (note m e f d cs) i t = cond-false (is_chain i t c) c.executed (executed_by (note m e f d cs) i t) j in
        let q : executed_by (c ∷ cs) i t ≡ executed_by cs i t = cond-false (is_chain i t c) c.executed (executed_by cs i t) j in omega arith

-- a chain by its number is the chain by its name
pub noted-index : (ts : List Used) (m : ℕ) (e : Token) (index f : ℕ) (d : Bool) (cs : List Chain) → IsEnteredAt ts m e index → noted_at ts index f d cs ≡ note m e f d cs
noted-index ts m e index f d cs h = ap (λ (o : Option Used). option_map_or (λ u. note u.member u.entered f d cs) o cs) h

executed-index : (ts : List Used) (m : ℕ) (e : Token) (index : ℕ) (cs : List Chain) → IsEnteredAt ts m e index → executed_at ts cs index ≡ executed_by cs m e
executed-index ts m e index cs h = ap (λ (o : Option Used). option_map_or (λ u. executed_by cs u.member u.entered) o 0) h

pub can : (ts : List Used) (m : ℕ) (e : Token) (index f : ℕ) (cs : List Chain) → IsEnteredAt ts m e index → executed_by cs m e + f ≤ 1999998 → CanNote ts index f cs
can ts m e index f cs h l =
    let p : executed_at ts cs index ≡ executed_by cs m e = executed-index ts m e index cs h in
    record { there = (m, (e, h)); room = omega arith }

-- The open shares.

pub open-append : (ts : List Used) (i : ℕ) (t : Token) (xs ys : List Order) → open_in ts i t (xs ++ ys) ≡ open_in ts i t xs + open_in ts i t ys
open-append ts i t [] ys = omega arith
open-append ts i t (x ∷ xs) ys = let h : open_in ts i t (xs ++ ys) ≡ open_in ts i t xs + open_in ts i t ys = open-append ts i t xs ys in omega arith

-- with r open shares of an incoming order of the chain
abbrev pub IsWithin : List Used → ℕ → Token → ℕ → List Chain → List Order → Type 0
IsWithin ts m e r cs xs = (i : ℕ) (t : Token) → executed_by cs i t + open_in ts i t xs + own (is_name m e i t) r ≤ 999999

abbrev pub first : Incoming → ℕ → List Order → Option Position
first inc r xs = first_entry itself inc r xs

abbrev pub StandsIn : List Order → Position → Type 0
StandsIn xs p = xs ≡ p.front ++ p.order ∷ p.back

pub split : (inc : Incoming) (r : ℕ) (xs : List Order) → IfSome (first inc r xs) (StandsIn xs)
split inc r [] = tt
split inc r (x ∷ xs) = at (passes inc r x) (first inc r xs) (split inc r xs)
  where
    at : (b : Bool) (p : Option Position) → IfSome p (StandsIn xs) → IfSome (first_of_entries itself inc x xs b p) (StandsIn (x ∷ xs))
    at false None h = tt
    at false (Some p) h = ap (λ l. x ∷ l) h
    at true None h = refl
    at true (Some p) h =
        cond_both (outranks inc.side p.order x) (Some (later x p)) (Some (record { front = []; order = x; back = xs }))
        (λ o. IfSome o (StandsIn (x ∷ xs))) (λ _. ap (λ l. x ∷ l) h) (λ _. refl)

pub placed-append : (ts : List Used) (xs ys : List Order) → ArePlaced ts xs → ArePlaced ts ys → ArePlaced ts (xs ++ ys)
placed-append ts [] ys h k = k
placed-append ts (x ∷ xs) ys h k = (h.0, placed-append ts xs ys h.1 k)

placed-parts : (ts : List Used) (front : List Order) (x : Order) (back : List Order) → ArePlaced ts (front ++ x ∷ back) → ArePlaced ts front × IsPlaced ts x × ArePlaced ts back
placed-parts ts [] x back h = (tt, h.0, h.1)
placed-parts ts (y ∷ ys) x back h = let k = placed-parts ts ys x back h.1 in ((h.0, k.0), k.1, k.2)

pub placed-shares : (ts : List Used) (x : Order) (n : ℕ) → IsPlaced ts x → IsPlaced ts (with_shares x n)
placed-shares ts x n h = record { used = h.used; at = h.at }

abbrev less : Order → ℕ → List Order
less x f = less_of itself with_shares x f

pub open-less : (ts : List Used) (i : ℕ) (t : Token) (f : ℕ) (x : Order) → f ≤ x.shares → let b = is_name x.member (entered_of ts x.member x.token) i t in open_in ts i t (less x f) + own b f ≡ own b x.shares
open-less ts i t f x l = at (ltb f x.shares) refl
  where
    same : (f s : ℕ) → ltb f s ≡ false → f ≤ s → f ≡ s
    same f s e l = grind (arith, nat_tests)

    at : (v : Bool) → ltb f x.shares ≡ v → let b = is_name x.member (entered_of ts x.member x.token) i t in open_in ts i t (cond v (with_shares x (x.shares - f) ∷ []) []) + own b f ≡ own b x.shares
    at true e = let m = own-minus (is_name x.member (entered_of ts x.member x.token) i t) x.shares f l in omega arith
    at false e = let z : f ≡ x.shares = same f x.shares e l in
        let q : own (is_name x.member (entered_of ts x.member x.token) i t) f ≡ own (is_name x.member (entered_of ts x.member x.token) i t) x.shares = ap (own (is_name x.member (entered_of ts x.member x.token) i t)) z in omega arith

-- the executions of an incoming order of a chain, with r open shares
pub record Counted (ts : List Used) (m : ℕ) (e : Token) (index : ℕ) (cs : List Chain) (k : Matched) : Type 0 where
  pub notes : CanNoteAll ts index k.fills cs
  pub same : chains_by ts index k.fills cs ≡ chains_after ts m e k.fills cs
  pub within : IsWithin ts m e k.left (chains_after ts m e k.fills cs) k.rest
  pub placed : ArePlaced ts k.rest

pub counted : (n : ℕ) (inc : Incoming) (r : ℕ) (ts : List Used) (m : ℕ) (e : Token) (index : ℕ) (cs : List Chain) (xs : List Order) → IsEnteredAt ts m e index → IsWithin ts m e r cs xs → ArePlaced ts xs
    → Counted ts m e index cs (matched_entries itself with_shares n inc r xs)
unfolding matched_entries
counted zero inc r ts m e index cs xs h w p = record { notes = tt; same = refl; within = w; placed = p }
counted (suc n) inc r ts m e index cs xs h w p = at (first inc r xs) (split inc r xs) (λ s more ys. counted n inc s ts m e index more ys h)
  where
    at : (o : Option Position) → IfSome o (StandsIn xs)
        → ((s : ℕ) (more : List Chain) (ys : List Order) → IsWithin ts m e s more ys → ArePlaced ts ys → Counted ts m e index more (matched_entries itself with_shares n inc s ys))
        → Counted ts m e index cs (matched_by itself with_shares (matched_entries itself with_shares n inc) r xs o)
    at None z ih = record { notes = tt; same = refl; within = w; placed = p }
    at (Some q) z ih =
        let x : Order = q.order in
        let f : ℕ = min r x.shares in
        let y : Execution = record { order = x; shares = f } in
        let en : Token = entered_of ts x.member x.token in
        let ys : List Order = q.front ++ (less x f ++ q.back) in
        let parts = placed-parts ts q.front x q.back (subst (ArePlaced ts) z p) in
        let one : List Chain = note x.member en f false cs in
        let two : List Chain = note m e f false one in
        let first_is : noted_at ts x.chain f false cs ≡ one = noted-index ts x.member en x.chain f false cs parts.1.at in
        let both_is : noted_both ts index y cs ≡ two = ap (noted_at ts index f false) first_is ∙ noted-index ts m e index f false one h in
        let all : (i : ℕ) (t : Token) → open_in ts i t xs ≡ open_in ts i t q.front + (own (is_name x.member en i t) x.shares + open_in ts i t q.back) = λ i t. ap (open_in ts i t) z ∙ open-append ts i t q.front (x ∷ q.back) in
        let fx : f ≤ x.shares = omega arith in
        let fr : f ≤ r = omega arith in
        let maker : CanNote ts x.chain f cs =
        can ts x.member en x.chain f cs parts.1.at (let a = all x.member en in let b = w x.member en in let o = own-true (is_name x.member en x.member en) x.shares (name-self x.member en) in omega arith) in
        let taker : CanNote ts index f one =
        can ts m e index f one h
        (let a = all m e in let b = w m e in let o = own-true (is_name m e m e) r (name-self m e) in let k = executed-noted x.member en f false cs m e in let l = own-le (is_name x.member en m e) f x.shares fx in omega arith) in
        let within : IsWithin ts m e (r - f) two ys = λ i t.
        (let a = all i t in let b = w i t in
        let m1 = executed-noted x.member en f false cs i t in let m2 = executed-noted m e f false one i t in
        let o1 = open-append ts i t q.front (less x f ++ q.back) in let o2 = open-append ts i t (less x f) q.back in
        let o3 = open-less ts i t f x fx in let o4 = own-minus (is_name m e i t) r f fr in omega arith) in
        let small : ArePlaced ts (less x f) = cond_both (ltb f x.shares) (with_shares x (x.shares - f) ∷ []) [] (ArePlaced ts) (λ _. (placed-shares ts x (x.shares - f) parts.1, tt)) (λ _. tt) in
        let placed : ArePlaced ts ys = placed-append ts q.front _ parts.0 (placed-append ts (less x f) q.back small parts.2) in
        let k : Counted ts m e index two (matched_entries itself with_shares n inc (r - f) ys) = ih (r - f) two ys within placed in
        record {
          notes = (maker, subst (CanNote ts index f) (sym first_is) taker, subst (CanNoteAll ts index (matched_entries itself with_shares n inc (r - f) ys).fills) (sym both_is) k.notes);
          same = ap (chains_by ts index (matched_entries itself with_shares n inc (r - f) ys).fills) both_is ∙ k.same;
          within = k.within;
          placed = k.placed;
        }
