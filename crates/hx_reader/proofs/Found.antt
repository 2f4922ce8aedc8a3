-- Each reference leads to its order, after each change.
use Rattle.std.proofs.Common.{◌≡◌, ℕ, ◌<◌, ◌==◌, [], ◌∷◌, ◌++◌, Bool, true, false, Option, Some, None, is_some, cond, refl, sym, ap, subst, ◌∙◌, inl, inr}
use Rattle.std.specs.Option.{IsSome}
use Rattle.std.specs.Map.{lookup, remove_entry, set_value}
use Rattle.std.proofs.lemmas.Bool.Decides.{Decides-eqb, eqb_tells}
use Rattle.hx_itch.specs.declared.shown_order.ShownOrder.{ShownOrder}
use Rattle.hx_reader.specs.Tables.{Entries, is_number, order_at, AreBelow, HasNone, AreSame, IsFound}
use Rattle.hx_reader.proofs.Tables.{is_itself, is_other, is_below, is_only, all_left, all_more, all_set, all_found}

-- every reference is found by this function
abbrev pub Finds : (ℕ → Option ℕ) → Entries → Type 0
Finds f es = (q : ℕ) → IsFound es q (f q)

pub not_same : (a b : ℕ) → (a ≡ b → ⊥) → (a == b) ≡ false
not_same a b h = elim (eqb_tells a b) [
  | inl p ↦ absurd (h p.1)
  | inr p ↦ p.0
]

pub same : (a b : ℕ) → a ≡ b → (a == b) ≡ true
same a b h = (Decides-eqb a b).1 h

-- an order that is found
pub the_order : (o : Option ShownOrder) → IsSome o → (x : ShownOrder) × (o ≡ Some x)
the_order None h = absurd (let e : false ≡ true = h in cc)
the_order (Some x) h = (x, refl)

-- an order comes last

at_last : (n : ℕ) (x : ShownOrder) (es : Entries) → HasNone x.reference es → AreBelow n es → AreSame x.reference n es
at_last n x [] h b = tt
at_last n x (e ∷ es) h b = (is_other n e.0 b.0 ∙ sym h.0, at_last n x es h.1 b.1)

pub some_more : (k : ℕ) (e : ℕ × ShownOrder) (es : Entries) → IsSome (order_at k es) → IsSome (order_at k (es ++ e ∷ []))
some_more k e [] h = absurd (let f : false ≡ true = h in cc)
some_more k e (y ∷ es) h = at (is_number k y.0) h (some_more k e es)
  where
    at : (b : Bool) → IsSome (cond b (Some y.1) (order_at k es)) → (IsSome (order_at k es) → IsSome (order_at k (es ++ e ∷ []))) → IsSome (cond b (Some y.1) (order_at k (es ++ e ∷ [])))
    at true z ih = refl
    at false z ih = ih z

some_last : (n : ℕ) (x : ShownOrder) (es : Entries) → IsSome (order_at n (es ++ (n, x) ∷ []))
some_last n x [] = ap (λ b. is_some (cond b (Some x) None)) (is_itself n)
some_last n x (y ∷ es) = at (is_number n y.0) (some_last n x es)
  where
    at : (b : Bool) → IsSome (order_at n (es ++ (n, x) ∷ [])) → IsSome (cond b (Some y.1) (order_at n (es ++ (n, x) ∷ [])))
    at true ih = refl
    at false ih = ih

pub finds_more : (f g : ℕ → Option ℕ) (n : ℕ) (x : ShownOrder) (es : Entries) → Finds f es → AreBelow n es → HasNone x.reference es
    → g x.reference ≡ Some n → ((q : ℕ) → (q ≡ x.reference → ⊥) → g q ≡ f q) → Finds g (es ++ (n, x) ∷ [])
finds_more f g n x es all below none here others q = elim (eqb_tells q x.reference) [
  | inl p ↦ subst (λ r. IsFound (es ++ (n, x) ∷ []) r (g r)) (sym p.1) (rw here found_here)
  | inr p ↦ rw (others q p.1) (other p.1 (f q) (all q))
]
  where
    found_here : IsFound (es ++ (n, x) ∷ []) x.reference (Some n)
    found_here = (all_more (λ e. is_number n e.0 ≡ (e.1.reference == x.reference)) (n, x) es (at_last n x es none below) (is_itself n ∙ sym (same x.reference x.reference refl)), some_last n x es)

    other : (q ≡ x.reference → ⊥) → (o : Option ℕ) → IsFound es q o → IsFound (es ++ (n, x) ∷ []) q o
    other ne None h = all_more (λ e. (e.1.reference == q) ≡ false) (n, x) es h (not_same x.reference q (λ e. ne (sym e)))
    other ne (Some k) h =
        let o = the_order (order_at k es) h.1 in
        (all_more (λ e. is_number k e.0 ≡ (e.1.reference == q)) (n, x) es h.0 (is_below k n (all_found (λ e. e.0 < n) k o.0 es o.1 below) ∙ sym (not_same x.reference q (λ e. ne (sym e)))), some_more k (n, x) es h.1)

-- an order leaves

none_left : (q k : ℕ) (es : Entries) → AreSame q k es → order_at k es ≡ None → HasNone q es
none_left q k [] h gone = tt
none_left q k (e ∷ es) h gone = at (is_number k e.0) refl gone (none_left q k es h.1)
  where
    at : (b : Bool) → is_number k e.0 ≡ b → cond b (Some e.1) (order_at k es) ≡ None → (order_at k es ≡ None → HasNone q es) → HasNone q (e ∷ es)
    at true t z ih = absurd (let f : Some e.1 ≡ None = z in cc)
    at false t z ih = (sym h.0 ∙ t, ih z)

some_left : (k m : ℕ) (es : Entries) → (k ≡ m → ⊥) → IsSome (order_at m es) → IsSome (order_at m (remove_entry (is_number k) es))
some_left k m [] ne h = h
some_left k m (e ∷ es) ne h = at (is_number k e.0) (is_number m e.0) refl refl h (some_left k m es ne)
  where
    at : (b c : Bool) → is_number k e.0 ≡ b → is_number m e.0 ≡ c → IsSome (cond c (Some e.1) (order_at m es))
        → (IsSome (order_at m es) → IsSome (order_at m (remove_entry (is_number k) es)))
        → IsSome (order_at m (cond b es (e ∷ remove_entry (is_number k) es)))
    at true true t s z ih = absurd (ne (is_only k e.0 t ∙ sym (is_only m e.0 s)))
    at true false t s z ih = z
    at false true t s z ih = ap (λ c. is_some (cond c (Some e.1) (order_at m (remove_entry (is_number k) es)))) s
    at false false t s z ih = ap (λ c. is_some (cond c (Some e.1) (order_at m (remove_entry (is_number k) es)))) s ∙ ih z

-- two references that lead to one number are one
one_reference : (q r k : ℕ) (es : Entries) → AreSame q k es → AreSame r k es → IsSome (order_at k es) → q ≡ r
one_reference q r k es h i there =
    let o = the_order (order_at k es) there in
    let a : (o.0.reference == q) ≡ true = sym (all_found (λ e. is_number k e.0 ≡ (e.1.reference == q)) k o.0 es o.1 h) ∙ is_itself k in
    let b : (o.0.reference == r) ≡ true = sym (all_found (λ e. is_number k e.0 ≡ (e.1.reference == r)) k o.0 es o.1 i) ∙ is_itself k in
    sym ((Decides-eqb o.0.reference q).0 a) ∙ (Decides-eqb o.0.reference r).0 b

pub finds_less : (f g : ℕ → Option ℕ) (r k : ℕ) (es : Entries) → Finds f es → f r ≡ Some k → order_at k (remove_entry (is_number k) es) ≡ None
    → g r ≡ None → ((q : ℕ) → (q ≡ r → ⊥) → g q ≡ f q) → Finds g (remove_entry (is_number k) es)
finds_less f g r k es all there gone here others q = elim (eqb_tells q r) [
  | inl p ↦ subst (λ s. IsFound left s (g s)) (sym p.1) (rw here (none_left r k left (all_left (λ e. is_number k e.0 ≡ (e.1.reference == r)) (is_number k) es found.0) gone))
  | inr p ↦ rw (others q p.1) (other p.1 (f q) (all q))
]
  where
    left : Entries
    left = remove_entry (is_number k) es

    found : IsFound es r (Some k)
    found = subst (IsFound es r) there (all r)

    other : (q ≡ r → ⊥) → (o : Option ℕ) → IsFound es q o → IsFound left q o
    other ne None h = all_left (λ e. (e.1.reference == q) ≡ false) (is_number k) es h
    other ne (Some m) h = (
      all_left (λ e. is_number m e.0 ≡ (e.1.reference == q)) (is_number k) es h.0,
      some_left k m es (λ e. ne (one_reference q r m es h.0 (subst (λ i. AreSame r i es) e found.0) h.1)) h.1,
    )

-- an order loses shares

some_set : (p : ℕ → Bool) (m : ℕ) (w : ShownOrder) (es : Entries) → IsSome (order_at m es) → IsSome (order_at m (set_value p es w))
some_set p m w [] h = h
some_set p m w (e ∷ es) h = at (p e.0) (is_number m e.0) refl h (some_set p m w es)
  where
    at : (b c : Bool) → is_number m e.0 ≡ c → IsSome (cond c (Some e.1) (order_at m es))
        → (IsSome (order_at m es) → IsSome (order_at m (set_value p es w)))
        → IsSome (order_at m (cond b ((e.0, w) ∷ es) (e ∷ set_value p es w)))
    at true true s z ih = ap (λ c. is_some (cond c (Some w) (order_at m es))) s
    at true false s z ih = ap (λ c. is_some (cond c (Some w) (order_at m es))) s ∙ z
    at false true s z ih = ap (λ c. is_some (cond c (Some e.1) (order_at m (set_value p es w)))) s
    at false false s z ih = ap (λ c. is_some (cond c (Some e.1) (order_at m (set_value p es w)))) s ∙ ih z

pub finds_set : (f : ℕ → Option ℕ) (p : ℕ → Bool) (n : ℕ) (x : ShownOrder) (es : Entries) → Finds f es → lookup p es ≡ Some x → Finds f (set_value p es (record x { shares = n }))
finds_set f p n x es all there q = at (f q) (all q)
  where
    at : (o : Option ℕ) → IsFound es q o → IsFound (set_value p es (record x { shares = n })) q o
    at None h = all_set (λ e. (e.1.reference == q) ≡ false) p n x es (λ k i. i) there h
    at (Some m) h = (all_set (λ e. is_number m e.0 ≡ (e.1.reference == q)) p n x es (λ k i. i) there h.0, some_set p m (record x { shares = n }) es h.1)
