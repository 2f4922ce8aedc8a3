-- Taking orders that are not chosen out of the list changes no choice.
use Rattle.std.proofs.Common.{◌≡◌, ℕ, zero, suc, ◌-◌, min, Bool, true, false, cond, refl, ap, sym, ◌∙◌, arith, ltb, ◌&&◌, not, List, [], ◌∷◌, ◌++◌, Some, None, Option}
use Rattle.std.specs.Option.{option_map}
use Rattle.hx_book.specs.Book.{outranks}
use Rattle.hx_match.specs.declared.fills.Incoming.{Incoming}
use Rattle.hx_match.specs.Matching.{Position, Execution, Matched, itself, with_shares, later, first_of_entries, first_by_rank, passes, after_fill, matched_by, matched_entries, matched}
use Rattle.hx_match.proofs.First.{turns, skips}
use Rattle.hx_rules.specs.Orders.{Order}
use Rattle.hx_rules.specs.Removal.{less}
use Rattle.hx_laws.specs.QuietChains.{Choice}
use Rattle.hx_laws.specs.Laws.{AreSpared, unchosen, NotChosen}
use Rattle.hx_laws.proofs.Quiet.RetainedViews.{blank, retained, retained_position, retained_matched, blank_executions}

-- x, which passes or not and which xs follow, against the first by rank of xs
abbrev first_of : Incoming → Order → List Order → Bool → Option Position → Option Position
first_of inc x xs t p = first_of_entries itself inc x xs t p

-- what x is not before, while x is before y, y is not before either
lifts : (inc : Incoming) (x y z : Order) → outranks inc.side x y ≡ true → outranks inc.side x z ≡ false → outranks inc.side y z ≡ false
lifts inc x y z e f = skips inc y x z (turns inc x y e) f

-- no order outranks x
abbrev NoBetter : Incoming → Order → Option Position → Type 0
NoBetter inc x None = Unit {0}
NoBetter inc x (Some p) = outranks inc.side p.order x ≡ false

-- nor does the first of a longer list, if none of its orders does
join_ok : (inc : Incoming) (x y : Order) (ys : List Order) (t : Bool) (o : Option Position) → (t ≡ true → outranks inc.side y x ≡ false) → NoBetter inc x o → NoBetter inc x (first_of inc y ys t o)
join_ok inc x y ys false None a b = tt
join_ok inc x y ys false (Some p) a b = b
join_ok inc x y ys true None a b = a refl
join_ok inc x y ys true (Some p) a b = choose (outranks inc.side p.order y)
  where
    choose : (c : Bool) → NoBetter inc x (cond c (Some (later y p)) (Some (record { front = []; order = y; back = ys })))
    choose true = b
    choose false = a refl

-- the first of the list is no worse than y, so that what it is not better than, y is not better than
below : (inc : Incoming) (x y : Order) (ys : List Order) (o o' : Option Position) (t : Bool)
    → ((z : Order) → NoBetter inc z o → NoBetter inc z o') → NoBetter inc x (first_of inc y ys t o) → (t ≡ true → outranks inc.side y x ≡ false) × NoBetter inc x o'
below inc x y ys None o' false ih h = (λ e. absurd (grind (arith, e)), ih x tt)
below inc x y ys (Some p) o' false ih h = (λ e. absurd (grind (arith, e)), ih x h)
below inc x y ys None o' true ih h = (λ e. h, ih x tt)
below inc x y ys (Some p) o' true ih h = choose (outranks inc.side p.order y) refl h
  where
    through : outranks inc.side p.order y ≡ false → outranks inc.side y x ≡ false → NoBetter inc x (Some p)
    through e g = skips inc p.order y x e g

    choose : (c : Bool) → outranks inc.side p.order y ≡ c → NoBetter inc x (cond c (Some (later y p)) (Some (record { front = []; order = y; back = ys })))
        → (true ≡ true → outranks inc.side y x ≡ false) × NoBetter inc x o'
    choose true e g = (λ _. lifts inc p.order y x e g, ih x g)
    choose false e g = (λ _. g, ih x (through e g))

first-cond : (inc : Incoming) (r : ℕ) (k : Bool) (xs : List Order) (y : Order) (ys : List Order)
    → first_by_rank inc r (cond k xs (y ∷ ys)) ≡ cond k (first_by_rank inc r xs) (first_by_rank inc r (y ∷ ys))
first-cond inc r true xs y ys = refl
first-cond inc r false xs y ys = refl

no_better_cond : (inc : Incoming) (x : Order) (k : Bool) (o o' : Option Position) → NoBetter inc x o → NoBetter inc x o' → NoBetter inc x (cond k o o')
no_better_cond inc x true o o' a b = a
no_better_cond inc x false o o' a b = b

-- what no order of the list outranks, none of the retained ones does
bound : (hide : Bool) (s : Choice) (inc : Incoming) (r : ℕ) (xs : List Order) (x : Order) → NoBetter inc x (first_by_rank inc r xs) → NoBetter inc x (first_by_rank inc r (retained hide s xs))
bound hide s inc r [] x h = tt
bound hide s inc r (y ∷ ys) x h =
    let b = below inc x y ys (first_by_rank inc r ys) (first_by_rank inc r (retained hide s ys)) (passes inc r y) (λ z. bound hide s inc r ys z) h in
    rw first-cond (no_better_cond inc x (s y.member y.token) _ _ b.1
    (join_ok inc x (blank hide y) (retained hide s ys) (passes inc r y) (first_by_rank inc r (retained hide s ys)) b.0 b.1))

-- the chosen order is not one of those that are struck
abbrev IsRetained : Choice → Option Position → Type 0
IsRetained s None = Unit {0}
IsRetained s (Some p) = s p.order.member p.order.token ≡ false

retained_after : (hide : Bool) (s : Choice) (y : Order) (q : Position) (k : Bool) → s y.member y.token ≡ k → cond k (Some (retained_position hide s q)) (Some (later (blank hide y) (retained_position hide s q))) ≡ Some (retained_position hide s (later y q))
retained_after hide s y q true e = rw e
retained_after hide s y q false e = rw e

here_retained : (hide : Bool) (s : Choice) (inc : Incoming) (y : Order) (ys : List Order) (o : Option Position) → NoBetter inc y o → first_of inc (blank hide y) (retained hide s ys) true o ≡ Some (record { front = []; order = blank hide y; back = retained hide s ys })
here_retained hide s inc y ys None h = refl
here_retained hide s inc y ys (Some p) h = choose (outranks inc.side p.order y) h
  where
    choose : (c : Bool) → c ≡ false → cond c (Some (later (blank hide y) p)) (Some (record { front = []; order = blank hide y; back = retained hide s ys })) ≡ Some (record { front = []; order = blank hide y; back = retained hide s ys })
    choose true e = absurd (grind (arith, e))
    choose false e = refl

-- the step of the induction: one more order, chosen or not, in front
first_step : (hide : Bool) (s : Choice) (inc : Incoming) (y : Order) (ys : List Order) (o o' : Option Position) (t k : Bool) → s y.member y.token ≡ k
    → (IsRetained s o → o' ≡ option_map (retained_position hide s) o) → (NoBetter inc y o → NoBetter inc y o') → IsRetained s (first_of inc y ys t o)
    → cond k o' (first_of inc (blank hide y) (retained hide s ys) t o') ≡ option_map (retained_position hide s) (first_of inc y ys t o)
first_step hide s inc y ys None o' false k e ih b h = rw (ih tt) (both k)
  where
    none : Option Position
    none = None

    both : (k : Bool) → cond k none none ≡ none
    both true = refl
    both false = refl
first_step hide s inc y ys (Some q) o' false k e ih b h = rw (ih h) (retained_after hide s y q k e)
first_step hide s inc y ys None o' true true e ih b h = absurd (grind (arith, e, h))
first_step hide s inc y ys None o' true false e ih b h = rw (ih tt) refl
first_step hide s inc y ys (Some q) o' true k e ih b h = choose (outranks inc.side q.order y) refl h
  where
    at_false : (k : Bool) → s y.member y.token ≡ k → s y.member y.token ≡ false → outranks inc.side q.order y ≡ false
        → cond k o' (first_of inc (blank hide y) (retained hide s ys) true o') ≡ Some (record { front = []; order = blank hide y; back = retained hide s ys })
    at_false true e g f = absurd (grind (arith, e, g))
    at_false false e g f = here_retained hide s inc y ys o' (b f)

    at_true : (k : Bool) → s y.member y.token ≡ k → outranks inc.side q.order y ≡ true
        → cond k (Some (retained_position hide s q)) (cond (outranks inc.side q.order y) (Some (later (blank hide y) (retained_position hide s q))) (Some (record { front = []; order = blank hide y; back = retained hide s ys }))) ≡ Some (retained_position hide s (later y q))
    at_true k e f = rw f (retained_after hide s y q k e)

    choose : (c : Bool) → outranks inc.side q.order y ≡ c → IsRetained s (cond c (Some (later y q)) (Some (record { front = []; order = y; back = ys })))
        → cond k o' (first_of inc (blank hide y) (retained hide s ys) true o') ≡ option_map (retained_position hide s) (cond c (Some (later y q)) (Some (record { front = []; order = y; back = ys })))
    choose true f g = rw (ih g) (at_true k e f)
    choose false f g = at_false k e g f

-- the first by rank is the first of the retained ones too, if it is retained
first_retained : (hide : Bool) (s : Choice) (inc : Incoming) (r : ℕ) (xs : List Order) → IsRetained s (first_by_rank inc r xs)
    → first_by_rank inc r (retained hide s xs) ≡ option_map (retained_position hide s) (first_by_rank inc r xs)
first_retained hide s inc r [] h = refl
first_retained hide s inc r (y ∷ ys) h =
    rw first-cond (first_step hide s inc y ys (first_by_rank inc r ys) (first_by_rank inc r (retained hide s ys)) (passes inc r y) (s y.member y.token) refl
    (first_retained hide s inc r ys) (bound hide s inc r ys y) h)

pub retained-append : (hide : Bool) (s : Choice) (xs ys : List Order) → retained hide s (xs ++ ys) ≡ retained hide s xs ++ retained hide s ys
retained-append hide s [] ys = refl
retained-append hide s (x ∷ xs) ys = rw (retained-append hide s xs ys) (choose (s x.member x.token))
  where
    choose : (k : Bool) → cond k (retained hide s xs ++ retained hide s ys) (blank hide x ∷ (retained hide s xs ++ retained hide s ys)) ≡ cond k (retained hide s xs) (blank hide x ∷ retained hide s xs) ++ retained hide s ys
    choose true = refl
    choose false = refl

pub retained-less : (hide : Bool) (s : Choice) (x : Order) (f : ℕ) → s x.member x.token ≡ false → retained hide s (less x f) ≡ less (blank hide x) f
retained-less hide s x f e = choose (ltb f x.shares)
  where
    choose : (c : Bool) → retained hide s (cond c (record x { shares = x.shares - f } ∷ []) []) ≡ cond c (record (blank hide x) { shares = x.shares - f } ∷ []) []
    choose true = rw e refl
    choose false = refl

retained-rest : (hide : Bool) (s : Choice) (p : Position) (f : ℕ) → s p.order.member p.order.token ≡ false
    → retained hide s (p.front ++ (less p.order f ++ p.back)) ≡ retained hide s p.front ++ (less (blank hide p.order) f ++ retained hide s p.back)
retained-rest hide s p f e = rw (retained-append hide s p.front (less p.order f ++ p.back), retained-append hide s (less p.order f) p.back, retained-less hide s p.order f e) refl

-- the executions within n steps
abbrev within : ℕ → Incoming → ℕ → List Order → Matched
within n inc r xs = matched_entries itself with_shares n inc r xs

-- so the retained orders are executed just as before, if no order that is executed is chosen
within-retained : (hide : Bool) (s : Choice) (n : ℕ) (inc : Incoming) (r : ℕ) (xs : List Order) → AreSpared s (within n inc r xs).fills
    → within n inc r (retained hide s xs) ≡ retained_matched hide s (within n inc r xs)
unfolding matched_entries
within-retained hide s zero inc r xs h = refl
within-retained hide s (suc n) inc r xs h = choose (first_by_rank inc r xs) (λ k ys. within-retained hide s n inc k ys) (first_retained hide s inc r xs) h
  where
    next : ℕ → List Order → Option Position → Matched
    next k ys o = matched_by itself with_shares (within n inc) k ys o

    choose : (o : Option Position) → ((k : ℕ) (ys : List Order) → AreSpared s (within n inc k ys).fills → within n inc k (retained hide s ys) ≡ retained_matched hide s (within n inc k ys))
        → (IsRetained s o → first_by_rank inc r (retained hide s xs) ≡ option_map (retained_position hide s) o) → AreSpared s (next r xs o).fills
        → next r (retained hide s xs) (first_by_rank inc r (retained hide s xs)) ≡ retained_matched hide s (next r xs o)
    choose None ih e h = ap (next r (retained hide s xs)) (e tt)
    choose (Some p) ih e h =
        let f : ℕ = min r p.order.shares in
        ap (next r (retained hide s xs)) (e h.0)
        ∙ ap (after_fill (record { order = blank hide p.order; shares = f })) (ap (within n inc (r - f)) (sym (retained-rest hide s p f h.0)) ∙ ih _ _ h.1)

pub matched-retained : (hide : Bool) (s : Choice) (inc : Incoming) (r : ℕ) (xs : List Order) → AreSpared s (matched inc r xs).fills
    → matched inc r (retained hide s xs) ≡ retained_matched hide s (matched inc r xs)
unfolding matched
matched-retained hide s inc r xs h = within-retained hide s r inc r xs h

-- Without blanks, the retained orders are those that are not chosen.

retained_unchosen : (s : Choice) (xs : List Order) → retained false s xs ≡ unchosen s xs
retained_unchosen s [] = refl
retained_unchosen s (x ∷ xs) = rw (retained_unchosen s xs) (choose (s x.member x.token))
  where
    choose : (b : Bool) → cond b (unchosen s xs) (blank false x ∷ unchosen s xs) ≡ cond (not b) (x ∷ unchosen s xs) (unchosen s xs)
    choose true = refl
    choose false = same x.shown
      where
        same : (b : Bool) → record x { chain = x.chain; reference = cond (not b && false) 0 x.reference } ∷ unchosen s xs ≡ x ∷ unchosen s xs
        same true = refl
        same false = refl

nothing_blanked : (es : List Execution) → blank_executions false es ≡ es
nothing_blanked [] = refl
nothing_blanked (e ∷ es) = rw (nothing_blanked es) (same e.order.shown)
  where
    same : (b : Bool) → record e { order = record e.order { chain = e.order.chain; reference = cond (not b && false) 0 e.order.reference } } ∷ es ≡ e ∷ es
    same true = refl
    same false = refl

-- taking orders that are not executed out of the list changes no execution
pub not_chosen : NotChosen
not_chosen s inc r xs h =
    ap (λ z. (matched inc r z).fills) (sym (retained_unchosen s xs)) ∙ ap (λ (z : Matched). z.fills) (matched-retained false s inc r xs h) ∙ nothing_blanked (matched inc r xs).fills
