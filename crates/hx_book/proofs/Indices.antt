-- The index of the order with a key.
use Rattle.std.proofs.Common.{◌≡◌, ℕ, ◌<◌, suc, zero, true, false, List, [], ◌∷◌, length, get_or, refl, sym, ap, ◌∙◌, arith, add-one}
use Rattle.std.proofs.lemmas.Bool.{cond-true, cond-false, or_left, or_right, or_from}
use Rattle.hx_book.specs.declared.order.Live.{Live}
use Rattle.hx_book.specs.Book.{is_under, has_key, IsIndex}

at_head : (key : ℕ) (x : Live) (xs : List Live) → is_under key x ≡ true → IsIndex key (x ∷ xs) 0
at_head key x xs t = record {
  in_range = omega arith;
  has = or_left (is_under key x) (has_key key xs) t;
  found = sym (cond-true (is_under key x) _ _ t);
  later = sym (cond-true (is_under key x) _ _ t);
  without = sym (cond-true (is_under key x) _ _ t);
  reduced = λ d by. sym (cond-true (is_under key x) _ _ t);
}

at_tail : (key : ℕ) (x : Live) (xs : List Live) (i : ℕ) → is_under key x ≡ false → IsIndex key xs i → IsIndex key (x ∷ xs) (suc i)
at_tail key x xs i f p = record {
  in_range = let h = p.in_range in omega arith;
  has = or_right (is_under key x) (has_key key xs) p.has;
  found = p.found ∙ sym (cond-false (is_under key x) _ _ f);
  later = rw add-one (rw add-one at p.later) ∙ sym (cond-false (is_under key x) _ _ f);
  without = ap (λ r. x ∷ r) p.without ∙ sym (cond-false (is_under key x) _ _ f);
  reduced = λ d by. ap (λ r. x ∷ r) (p.reduced d by) ∙ sym (cond-false (is_under key x) _ _ f);
}

pub stands : (key : ℕ) (d : Live) (xs : List Live) (i : ℕ) → i < length xs → is_under key (get_or xs i d) ≡ true → ((k : ℕ) → k < i → is_under key (get_or xs k d) ≡ false) → IsIndex key xs i
stands key d [] i l t h = absurd (omega arith)
stands key d (x ∷ xs) zero l t h = at_head key x xs t
stands key d (x ∷ xs) (suc i) l t h = at_tail key x xs i (h 0 (omega arith)) (stands key d xs i (omega arith) t (λ k lt. h (suc k) (omega arith)))

pub none_stands : (key : ℕ) (xs : List Live) → ((k : ℕ) (d : Live) → k < length xs → is_under key (get_or xs k d) ≡ false) → has_key key xs ≡ false
none_stands key [] h = refl
none_stands key (x ∷ xs) h = or_from (is_under key x) (has_key key xs) (h 0 x (omega arith)) (none_stands key xs (λ k d lt. h (suc k) d (omega arith)))
