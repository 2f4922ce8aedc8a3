-- Which keys a list of orders has, after each change.
use Rattle.std.proofs.Common.{◌≡◌, ℕ, Bool, true, false, ◌||◌, eqb, List, [], ◌∷◌, ◌++◌, refl, sym, ap, ◌∙◌, subst, eqb-true, eq-eqb, ne_eqb}
use Rattle.std.proofs.lemmas.Bool.{cond_both, true≢false, false_from_ne_true, or_from, or_parts}
use Rattle.hx_book.specs.declared.order.Live.{Live}
use Rattle.hx_book.specs.Lists.{drop_first}
use Rattle.hx_book.specs.Book.{is_under, has_key, KeysDiffer, reduced, with_less}

pub has_key-push : (key : ℕ) (xs : List Live) (x : Live) → has_key key (xs ++ x ∷ []) ≡ (has_key key xs || is_under key x)
has_key-push key [] x = or_false (is_under key x)
  where
    or_false : (b : Bool) → (b || false) ≡ b
    or_false true = refl
    or_false false = refl
has_key-push key (y ∷ ys) x = ap (λ b. is_under key y || b) (has_key-push key ys x) ∙ assoc (is_under key y) (has_key key ys) (is_under key x)
  where
    assoc : (a b c : Bool) → (a || (b || c)) ≡ ((a || b) || c)
    assoc true b c = refl
    assoc false b c = refl

pub differ-push : (xs : List Live) (x : Live) → KeysDiffer xs → has_key x.key.0 xs ≡ false → KeysDiffer (xs ++ x ∷ [])
differ-push [] x d n = (refl, tt)
differ-push (y ∷ ys) x d n =
    let p = or_parts (is_under x.key.0 y) (has_key x.key.0 ys) n in (
      (has_key-push y.key.0 ys x ∙ or_from (has_key y.key.0 ys) (is_under y.key.0 x) d.0
          (false_from_ne_true (is_under y.key.0 x) (λ t. true≢false (sym (eq-eqb y.key.0 x.key.0 (sym (eqb-true x.key.0 y.key.0 t))) ∙ p.0)))),
      differ-push ys x d.1 p.1,
    )

pub has_key-reduced : (key k by : ℕ) (xs : List Live) → has_key k (reduced key by xs) ≡ has_key k xs
has_key-reduced key k by [] = refl
has_key-reduced key k by (x ∷ xs) =
    cond_both (is_under key x) (record x { order = with_less by x.order } ∷ xs) (x ∷ reduced key by xs) (λ r. has_key k r ≡ has_key k (x ∷ xs))
    (λ _. refl) (λ _. ap (λ b. is_under k x || b) (has_key-reduced key k by xs))

pub differ-reduced : (key by : ℕ) (xs : List Live) → KeysDiffer xs → KeysDiffer (reduced key by xs)
differ-reduced key by [] d = tt
differ-reduced key by (x ∷ xs) d =
    cond_both (is_under key x) (record x { order = with_less by x.order } ∷ xs) (x ∷ reduced key by xs) KeysDiffer
    (λ _. (d.0, d.1)) (λ _. (has_key-reduced key x.key.0 by xs ∙ d.0, differ-reduced key by xs d.1))

pub has_key-other : (key k : ℕ) (xs : List Live) → eqb k key ≡ false → has_key k (drop_first (is_under key) xs) ≡ has_key k xs
has_key-other key k [] n = refl
has_key-other key k (x ∷ xs) n =
    cond_both (is_under key x) xs (x ∷ drop_first (is_under key) xs) (λ r. has_key k r ≡ has_key k (x ∷ xs))
    (λ t. ap (λ b. b || has_key k xs) (sym (other (eqb-true x.key.0 key t))))
    (λ _. ap (λ b. is_under k x || b) (has_key-other key k xs n))
  where
    other : x.key.0 ≡ key → is_under k x ≡ false
    other e = ne_eqb x.key.0 k (λ h. true≢false (sym (eq-eqb k key (sym h ∙ e)) ∙ n))

pub has_key-dropped : (key : ℕ) (xs : List Live) → KeysDiffer xs → has_key key (drop_first (is_under key) xs) ≡ false
has_key-dropped key [] d = refl
has_key-dropped key (x ∷ xs) d =
    cond_both (is_under key x) xs (x ∷ drop_first (is_under key) xs) (λ r. has_key key r ≡ false)
    (λ t. subst (λ n. has_key n xs ≡ false) (eqb-true x.key.0 key t) d.0)
    (λ f. or_from (is_under key x) (has_key key (drop_first (is_under key) xs)) f (has_key-dropped key xs d.1))

none_more : (key k : ℕ) (xs : List Live) → has_key k xs ≡ false → has_key k (drop_first (is_under key) xs) ≡ false
none_more key k [] h = refl
none_more key k (x ∷ xs) h =
    let p = or_parts (is_under k x) (has_key k xs) h in
    cond_both (is_under key x) xs (x ∷ drop_first (is_under key) xs) (λ r. has_key k r ≡ false)
    (λ _. p.1) (λ _. or_from (is_under k x) (has_key k (drop_first (is_under key) xs)) p.0 (none_more key k xs p.1))

pub differ-dropped : (key : ℕ) (xs : List Live) → KeysDiffer xs → KeysDiffer (drop_first (is_under key) xs)
differ-dropped key [] d = tt
differ-dropped key (x ∷ xs) d =
    cond_both (is_under key x) xs (x ∷ drop_first (is_under key) xs) KeysDiffer
    (λ _. d.1) (λ _. (none_more key x.key.0 xs d.0, differ-dropped key xs d.1))
