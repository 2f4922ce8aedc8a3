-- Used tokens, when one more token is used.
use Rattle.std.proofs.Common.{◌≡◌, ℕ, zero, suc, Bool, true, false, cond, eqb, ◌||◌, List, [], ◌∷◌, ◌++◌, length, Some, None, refl, sym, ap, ◌∙◌, subst, arith, eqb-true, slice_get}
use Rattle.std.specs.List.{AllByRecursion}
use Rattle.std.proofs.lemmas.Bool.{cond-true, and_parts, or_left, or_right}
use Rattle.hx_units.specs.declared.names.Token.{Token}
use Rattle.hx_units.specs.Names.{is_token}
use Rattle.hx_book.specs.declared.order.Order.{Order}
use Rattle.hx_members.specs.Chains.{Used, Chain, is_use, is_used, is_chain, entered_of, executed_by, note, noted, IsEnteredAt, entered_used}
use Rattle.hx_members.proofs.ChainLaws.{same_token, is_used-at}
use Rattle.hx_day.specs.Bounds.{own, is_name, open_in, ArePlaced}
use Rattle.hx_day.proofs.ChainShares.{name-self}

pub used-append : (ts us : List Used) (m : ℕ) (t : Token) → is_used ts m t ≡ true → is_used (ts ++ us) m t ≡ true
used-append [] us m t h = absurd (let z : false ≡ true = h in cc)
used-append (u ∷ ts) us m t h = choose (is_use m t u) (used-append ts us m t) h
  where
    choose : (b : Bool) → (is_used ts m t ≡ true → is_used (ts ++ us) m t ≡ true) → (b || is_used ts m t) ≡ true → (b || is_used (ts ++ us) m t) ≡ true
    choose true ih h = refl
    choose false ih h = ih h

pub entered-append : (ts us : List Used) (m : ℕ) (t : Token) → is_used ts m t ≡ true → entered_of (ts ++ us) m t ≡ entered_of ts m t
entered-append [] us m t h = absurd (let z : false ≡ true = h in cc)
entered-append (u ∷ ts) us m t h = choose (is_use m t u) (entered-append ts us m t) h
  where
    choose : (b : Bool) → (is_used ts m t ≡ true → entered_of (ts ++ us) m t ≡ entered_of ts m t) → (b || is_used ts m t) ≡ true
        → cond b u.entered (entered_of (ts ++ us) m t) ≡ cond b u.entered (entered_of ts m t)
    choose true ih h = refl
    choose false ih h = ih h

-- a token that is used for the first time stands last
pub entered-last : (ts : List Used) (m : ℕ) (t e : Token) → is_used ts m t ≡ false → entered_of (ts ++ record { member = m; token = t; entered = e } ∷ []) m t ≡ e
entered-last [] m t e h = cond-true (is_name m t m t) e t (name-self m t)
entered-last (u ∷ ts) m t e h = choose (is_use m t u) (entered-last ts m t e) h
  where
    choose : (b : Bool) → (is_used ts m t ≡ false → entered_of (ts ++ record { member = m; token = t; entered = e } ∷ []) m t ≡ e) → (b || is_used ts m t) ≡ false
        → cond b u.entered (entered_of (ts ++ record { member = m; token = t; entered = e } ∷ []) m t) ≡ e
    choose true ih h = absurd (let z : true ≡ false = h in cc)
    choose false ih h = ih h

pub used-last : (ts : List Used) (m : ℕ) (t e : Token) → is_used (ts ++ record { member = m; token = t; entered = e } ∷ []) m t ≡ true
used-last [] m t e = or_left (is_name m t m t) false (name-self m t)
used-last (u ∷ ts) m t e = or_right (is_use m t u) (is_used (ts ++ record { member = m; token = t; entered = e } ∷ []) m t) (used-last ts m t e)

pub get-append : (ts us : List Used) (i : ℕ) (u : Used) → slice_get ts i ≡ Some u → slice_get (ts ++ us) i ≡ Some u
get-append [] us i u h = absurd (let z : None ≡ Some u = h in cc)
get-append (v ∷ ts) us zero u h = h
get-append (v ∷ ts) us (suc i) u h = get-append ts us i u h

pub get-last : (ts : List Used) (u : Used) → slice_get (ts ++ u ∷ []) (length ts) ≡ Some u
get-last [] u = refl
get-last (v ∷ ts) u = get-last ts u

-- Live orders stay placed, and the open shares of each chain the same.

pub placed-more : (ts us : List Used) (xs : List Order) → ArePlaced ts xs → ArePlaced (ts ++ us) xs
placed-more ts us [] h = tt
placed-more ts us (x ∷ xs) h =
    let e : entered_of (ts ++ us) x.member x.token ≡ entered_of ts x.member x.token = entered-append ts us x.member x.token h.0.used in (
      record {
        used = used-append ts us x.member x.token h.0.used;
        at = subst (λ (t : Token). IsEnteredAt (ts ++ us) x.member t x.chain) (sym e) (get-append ts us x.chain _ h.0.at);
      },
      placed-more ts us xs h.1,
    )

pub open-more : (ts us : List Used) (i : ℕ) (t : Token) (xs : List Order) → ArePlaced ts xs → open_in (ts ++ us) i t xs ≡ open_in ts i t xs
open-more ts us i t [] h = refl
open-more ts us i t (x ∷ xs) h =
    let e : entered_of (ts ++ us) x.member x.token ≡ entered_of ts x.member x.token = entered-append ts us x.member x.token h.0.used in
    let a : own (is_name x.member (entered_of (ts ++ us) x.member x.token) i t) x.shares ≡ own (is_name x.member (entered_of ts x.member x.token) i t) x.shares = ap (λ (z : Token). own (is_name x.member z i t) x.shares) e in
    let b : open_in (ts ++ us) i t xs ≡ open_in ts i t xs = open-more ts us i t xs h.1 in omega arith

pub same-name : (m i : ℕ) (e t : Token) → is_name m e i t ≡ true → (m ≡ i) × (e ≡ t)
same-name m i e t h = let a = and_parts (eqb m i) (is_token e t) h in (eqb-true m i a.0, same_token e t a.1)

-- an unused token's chain has no live order, and nothing executed
pub open-unused : (ts : List Used) (i : ℕ) (t : Token) (xs : List Order) → is_used ts i t ≡ false → ArePlaced ts xs → open_in ts i t xs ≡ 0
open-unused ts i t [] u h = refl
open-unused ts i t (x ∷ xs) u h =
    let a : own (is_name x.member (entered_of ts x.member x.token) i t) x.shares ≡ 0 = none (is_name x.member (entered_of ts x.member x.token) i t) refl in
    let b : open_in ts i t xs ≡ 0 = open-unused ts i t xs u h.1 in omega arith
  where
    none : (b : Bool) → is_name x.member (entered_of ts x.member x.token) i t ≡ b → cond b x.shares 0 ≡ 0
    none true e =
        let s = same-name x.member i (entered_of ts x.member x.token) t e in
        let used : is_used ts x.member (entered_of ts x.member x.token) ≡ true = is_used-at ts x.chain (entered_used x.member (entered_of ts x.member x.token)) h.0.at in
        let at : is_used ts i t ≡ true = subst (λ k. is_used ts k t ≡ true) s.0 (subst (λ (z : Token). is_used ts x.member z ≡ true) s.1 used) in
        absurd (let z : true ≡ false = sym at ∙ u in cc)
    none false e = refl

pub executed-unused : (ts : List Used) (i : ℕ) (t : Token) (cs : List Chain) → is_used ts i t ≡ false → AllByRecursion (λ c. is_used ts c.member c.entered ≡ true) cs → executed_by cs i t ≡ 0
executed-unused ts i t [] u h = refl
executed-unused ts i t (c ∷ cs) u h = at (executed-unused ts i t cs u h.1) (is_chain i t c) refl
  where
    at : executed_by cs i t ≡ 0 → (b : Bool) → is_chain i t c ≡ b → cond b c.executed (executed_by cs i t) ≡ 0
    at rest true e =
        let s = same-name c.member i c.entered t e in
        let used : is_used ts i t ≡ true = subst (λ k. is_used ts k t ≡ true) s.0 (subst (λ (z : Token). is_used ts c.member z ≡ true) s.1 h.0) in
        absurd (let z : true ≡ false = sym used ∙ u in cc)
    at rest false e = rest

-- a new chain adds nothing
pub executed-fresh : (cs : List Chain) (c : Chain) (i : ℕ) (t : Token) → c.executed ≡ 0 → executed_by (cs ++ c ∷ []) i t ≡ executed_by cs i t
executed-fresh [] c i t h = at (is_chain i t c)
  where
    at : (b : Bool) → cond b c.executed 0 ≡ 0
    at true = h
    at false = refl
executed-fresh (d ∷ cs) c i t h = ap (λ n. cond (is_chain i t d) d.executed n) (executed-fresh cs c i t h)

pub chained-more : (ts us : List Used) (cs : List Chain) → AllByRecursion (λ c. is_used ts c.member c.entered ≡ true) cs → AllByRecursion (λ c. is_used (ts ++ us) c.member c.entered ≡ true) cs
chained-more ts us [] h = tt
chained-more ts us (c ∷ cs) h = (used-append ts us c.member c.entered h.0, chained-more ts us cs h.1)

pub chained-append : (ts : List Used) (cs ds : List Chain) → AllByRecursion (λ c. is_used ts c.member c.entered ≡ true) cs → AllByRecursion (λ c. is_used ts c.member c.entered ≡ true) ds
    → AllByRecursion (λ c. is_used ts c.member c.entered ≡ true) (cs ++ ds)
chained-append ts [] ds h k = k
chained-append ts (c ∷ cs) ds h k = (h.0, chained-append ts cs ds h.1 k)

pub chained-noted : (ts : List Used) (m : ℕ) (e : Token) (n : ℕ) (d : Bool) (cs : List Chain) → AllByRecursion (λ c. is_used ts c.member c.entered ≡ true) cs
    → AllByRecursion (λ c. is_used ts c.member c.entered ≡ true) (note m e n d cs)
chained-noted ts m e n d [] h = tt
chained-noted ts m e n d (c ∷ cs) h = (at (is_chain m e c), chained-noted ts m e n d cs h.1)
  where
    at : (b : Bool) → is_used ts (cond b (noted n d c) c).member (cond b (noted n d c) c).entered ≡ true
    at true = h.0
    at false = h.0
