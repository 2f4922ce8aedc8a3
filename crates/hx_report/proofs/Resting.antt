-- The content of one more reply.
use Rattle.std.proofs.Common.{◌≡◌, ℕ, ◌+◌, ◌-◌, ◌<◌, Bool, true, false, cond, eqb, refl, sym, ap, ◌∙◌, List, [], ◌∷◌, ◌++◌, length, take, get_or, append-nil, append_assoc, sum_by, arith}
use Rattle.std.proofs.lemmas.List.{take_more}
use Rattle.std.proofs.lemmas.List.Sums.{sum_by_push}
use Rattle.hx_ouch.specs.declared.outbound.Outbound.{Outbound}
use Rattle.hx_market.specs.Outputs.{Reply}
use Rattle.hx_market.specs.Steps.{replies_among}
use Rattle.hx_report.specs.declared.rest.Hidden.{Hidden}
use Rattle.hx_report.specs.Counts.{is_execution, taken_off}
use Rattle.hx_report.specs.Noted.{traders_in}

among_push : (m : ℕ) (rs : List Reply) (r : Reply) → replies_among m (rs ++ r ∷ []) ≡ replies_among m rs ++ cond (eqb r.0 m) (r.1 ∷ []) []
among_push m [] r = at (eqb r.0 m)
  where
    at : (b : Bool) → cond b (r.1 ∷ []) [] ≡ cond b (r.1 ∷ []) []
    at b = refl
among_push m (x ∷ rs) r = at (eqb x.0 m) (among_push m rs r)
  where
    at : (b : Bool) → replies_among m (rs ++ r ∷ []) ≡ replies_among m rs ++ cond (eqb r.0 m) (r.1 ∷ []) []
        → cond b (x.1 ∷ replies_among m (rs ++ r ∷ [])) (replies_among m (rs ++ r ∷ [])) ≡ cond b (x.1 ∷ replies_among m rs) (replies_among m rs) ++ cond (eqb r.0 m) (r.1 ∷ []) []
    at true ih = ap (λ (l : List Outbound). x.1 ∷ l) ih
    at false ih = ih

-- a reply to the member takes its shares off
pub left_less : (m : ℕ) (h : Hidden) (rs : List Reply) (i : ℕ) (r : Reply) (left next : ℕ) → i < length rs → r ≡ get_or rs i r → eqb r.0 m ≡ true
    → left ≡ h.shares - sum_by (taken_off h.token) (replies_among m (take i rs)) → next ≡ left - taken_off h.token r.1
    → next ≡ h.shares - sum_by (taken_off h.token) (replies_among m (take (i + 1) rs))
left_less m h rs i r left next lt is his so_far less =
    let whole : replies_among m (take (i + 1) rs) ≡ replies_among m (take i rs) ++ r.1 ∷ [] =
    ap (replies_among m) (take_more rs i r lt) ∙ ap (λ (x : Reply). replies_among m (take i rs ++ x ∷ [])) (sym is)
    ∙ among_push m (take i rs) r ∙ ap (λ (b : Bool). replies_among m (take i rs) ++ cond b (r.1 ∷ []) []) his in
    let sums = ap (sum_by (taken_off h.token)) whole ∙ sum_by_push (taken_off h.token) (replies_among m (take i rs)) r.1 in
    omega (arith, sums, so_far, less)

-- one to another takes nothing
pub left_same : (m : ℕ) (h : Hidden) (rs : List Reply) (i : ℕ) (r : Reply) (left : ℕ) → i < length rs → r ≡ get_or rs i r → eqb r.0 m ≡ false
    → left ≡ h.shares - sum_by (taken_off h.token) (replies_among m (take i rs))
    → left ≡ h.shares - sum_by (taken_off h.token) (replies_among m (take (i + 1) rs))
left_same m h rs i r left lt is other so_far =
    so_far
    ∙ ap (λ (l : List Outbound). h.shares - sum_by (taken_off h.token) l)
    (sym
    (ap (replies_among m) (take_more rs i r lt) ∙ ap (λ (x : Reply). replies_among m (take i rs ++ x ∷ [])) (sym is) ∙ among_push m (take i rs) r
    ∙ ap (λ (b : Bool). replies_among m (take i rs) ++ cond b (r.1 ∷ []) []) other ∙ append-nil _))

traders_push : (rs : List Reply) (r : Reply) → traders_in (rs ++ r ∷ []) ≡ traders_in rs ++ cond (is_execution r.1) (r.0 ∷ []) []
traders_push [] r = refl
traders_push (x ∷ rs) r = at (is_execution x.1) (traders_push rs r)
  where
    at : (b : Bool) → traders_in (rs ++ r ∷ []) ≡ traders_in rs ++ cond (is_execution r.1) (r.0 ∷ []) []
        → cond b (x.0 ∷ traders_in (rs ++ r ∷ [])) (traders_in (rs ++ r ∷ [])) ≡ cond b (x.0 ∷ traders_in rs) (traders_in rs) ++ cond (is_execution r.1) (r.0 ∷ []) []
    at true ih = ap (λ (l : List ℕ). x.0 ∷ l) ih
    at false ih = ih

-- the traders so far, and of one reply more
pub traders_more : (rs : List Reply) (i : ℕ) (r : Reply) (b : Bool) (old now next : List ℕ) → i < length rs → r ≡ get_or rs i r → is_execution r.1 ≡ b
    → now ≡ old ++ traders_in (take i rs) → next ≡ now ++ cond b (r.0 ∷ []) [] → next ≡ old ++ traders_in (take (i + 1) rs)
traders_more rs i r b old now next lt is so so_far more =
    more ∙ ap (λ (l : List ℕ). l ++ cond b (r.0 ∷ []) []) so_far ∙ append_assoc old (traders_in (take i rs)) (cond b (r.0 ∷ []) [])
    ∙ ap (λ (l : List ℕ). old ++ l)
    (sym
    (ap traders_in (take_more rs i r lt) ∙ ap (λ (x : Reply). traders_in (take i rs ++ x ∷ [])) (sym is) ∙ traders_push (take i rs) r
    ∙ ap (λ (c : Bool). traders_in (take i rs) ++ cond c (r.0 ∷ []) []) so))
