-- The ranked blocks hold the size of each level, after each change too.
use Rattle.std.proofs.Common.{◌≡◌, ℕ, ◌+◌, ◌*◌, ◌/◌, ◌%◌, ◌^◌, ◌<◌, ◌≤◌, Bool, true, false, not, cond, eqb, max, List, [], ◌∷◌, Option, Some, None, refl, sym, ap, ◌∙◌, subst, arith, eqb-true, eq-eqb, ne_eqb}
use Rattle.std.specs.List.{find}
use Rattle.std.specs.Option.{option_map, IsSome, IfSome}
use Rattle.std.proofs.lemmas.Bool.{cond-true, cond-false, eqb-false, true≢false}
use Rattle.std.proofs.lemmas.Bool.Decides.{nat_tests}
use Rattle.hx_levels.specs.declared.level_book.levels.Level.{Level}
use Rattle.hx_levels.specs.declared.level_book.linked_orders.Ends.{Ends}
use Rattle.hx_levels.specs.LevelKeys.{LevelKey, level_key_number, level_key_of_number}
use Rattle.hx_levels.specs.Levels.{LevelStore, level_at, with_ends, joined, with_most}
use Rattle.hx_levels.specs.Sizes.{size_of, size_in, AreSizes}
use Rattle.hx_levels.specs.LevelBook.{is_level_key}
use Rattle.hx_levels.proofs.Added.{same_level_key, self_level_key}
use Rattle.hx_ranked.specs.declared.entry.Entry.{Entry}
use Rattle.hx_ranked.specs.Ranked.{has_rank, IsFree, inserted, without, renewed, with_least}
use Rattle.hx_ranked.proofs.Found.{find-inserted, find-without, find-renewed}

-- a number is that of its level key
pub number_back : (n : ℕ) → level_key_number (level_key_of_number n) ≡ n
number_back n = at (eqb (n / 2 ^ 32 % 2) 1) refl
  where
    zero_left : (m : ℕ) → eqb (m % 2) 1 ≡ false → m % 2 ≡ 0
    zero_left m e = let h = eqb-false (m % 2) 1 e in omega (arith, h)

    at : (b : Bool) → eqb (n / 2 ^ 32 % 2) 1 ≡ b → (n / 2 ^ 33 * 2 + cond b 1 0) * 2 ^ 32 + n % 2 ^ 32 ≡ n
    at true e = let h = eqb-true (n / 2 ^ 32 % 2) 1 e in omega (arith, h)
    at false e = let h = zero_left (n / 2 ^ 32) e in omega (arith, h)

pub one_number : (n m : ℕ) → level_key_of_number n ≡ level_key_of_number m → n ≡ m
one_number n m h = sym (number_back n) ∙ ap level_key_number h ∙ number_back m

-- of levels with equal shares
size_same : (n : ℕ) (o p : Option Level) → option_map (λ (l : Level). l.most) p ≡ option_map (λ (l : Level). l.most) o → size_in n o ≡ size_in n p
size_same n None None h = refl
size_same n None (Some l) h = cc
size_same n (Some l) None h = cc
size_same n (Some l) (Some m) h = let e : l.most ≡ m.most = cc in ap (λ k. cond (eqb k 0) None (Some (record { rank = n; key = 0; least = 1; shares = k }))) e

-- a level that has had no shares has no size
pub size_none : (n : ℕ) (o : Option Level) → IfSome o (λ l. l.most ≡ 0) → size_in n o ≡ None
size_none n None h = refl
size_none n (Some l) h = cond-true (eqb l.most 0) None (Some (size_of n l)) (eq-eqb l.most 0 h)

size_some : (n : ℕ) (l : Level) → (l.most ≡ 0 → ⊥) → size_in n (Some l) ≡ Some (size_of n l)
size_some n l h = cond-false (eqb l.most 0) None (Some (size_of n l)) (ne_eqb l.most 0 h)

-- the sizes of all levels but one stay, and that one's stays, too
pub sizes_same : (levels levels' : LevelStore) (at : LevelKey) (entries : List Entry) → ((q : LevelKey) → (q ≡ at → ⊥) → level_at levels' q ≡ level_at levels q)
    → ((n : ℕ) → size_in n (level_at levels at) ≡ size_in n (level_at levels' at)) → AreSizes levels entries → AreSizes levels' entries
sizes_same levels levels' at entries others same sizes n = sizes n ∙ by (is_level_key (level_key_of_number n) at) refl
  where
    by : (b : Bool) → is_level_key (level_key_of_number n) at ≡ b → size_in n (level_at levels (level_key_of_number n)) ≡ size_in n (level_at levels' (level_key_of_number n))
    by true e = subst (λ v. size_in n (level_at levels v) ≡ size_in n (level_at levels' v)) (sym (same_level_key (level_key_of_number n) at e)) (same n)
    by false e = ap (size_in n) (sym (others (level_key_of_number n) (λ h. true≢false (sym (ap (λ v. is_level_key v at) h ∙ self_level_key at) ∙ e))))

pub size_left : (shown : Bool) (ends : Ends) (n : ℕ) (o : Option Level) → size_in n o ≡ size_in n (option_map (with_ends shown ends) o)
size_left shown ends n None = refl
size_left true ends n (Some l) = refl
size_left false ends n (Some l) = refl

joined_most : (shown : Bool) (ends : Ends) (shares : ℕ) (l : Level) → (joined shown ends shares l).most ≡ max l.most shares
joined_most true ends shares l = refl
joined_most false ends shares l = refl

-- an order joins that has no more shares than another
pub size_stays : (shown : Bool) (ends : Ends) (shares most n : ℕ) (o : Option Level) → IfSome o (λ l. most ≡ l.most) → shares ≤ most → size_in n o ≡ size_in n (option_map (joined shown ends shares) o)
size_stays shown ends shares most n None i n' = refl
size_stays shown ends shares most n (Some l) i le = size_same n (Some l) (Some (joined shown ends shares l)) (ap Some (joined_most shown ends shares l ∙ bound))
  where
    bound : max l.most shares ≡ l.most
    bound = grind (arith, nat_tests)

-- no entry has a rank that is free
pub without_free : (r : ℕ) (entries : List Entry) → IsFree r entries → without r entries ≡ entries
without_free r [] f = refl
without_free r (x ∷ xs) f = by (has_rank r x) f (without_free r xs)
  where
    by : (b : Bool) → cond b (Some x) (find (has_rank r) xs) ≡ None → (IsFree r xs → without r xs ≡ xs) → cond (not b) (x ∷ without r xs) (without r xs) ≡ x ∷ xs
    by true g ih = cc
    by false g ih = ap (λ l. x ∷ l) (ih g)

module _ (levels levels' : LevelStore) (at : LevelKey) (r : ℕ) (entries : List Entry) (level_key : level_key_of_number r ≡ at)
    (others : (q : LevelKey) → (q ≡ at → ⊥) → level_at levels' q ≡ level_at levels q) (sizes : AreSizes levels entries) where
  elsewhere : (n : ℕ) → eqb n r ≡ false → find (has_rank n) entries ≡ size_in n (level_at levels' (level_key_of_number n))
  elsewhere n e = sizes n ∙ ap (size_in n) (sym (others (level_key_of_number n) (λ h. eqb-false n r e (one_number n r (h ∙ sym level_key)))))

  here : (n : ℕ) (o : Option Level) → level_at levels' at ≡ o → eqb n r ≡ true → size_in n o ≡ size_in n (level_at levels' (level_key_of_number n))
  here n o l e = ap (size_in n) (sym (ap (λ m. level_at levels' (level_key_of_number m)) (eqb-true n r e) ∙ ap (level_at levels') level_key ∙ l))

  was_here : (n : ℕ) (o : Option Level) → level_at levels at ≡ o → eqb n r ≡ true → find (has_rank n) entries ≡ size_in n o
  was_here n o l e = sizes n ∙ ap (size_in n) (ap (λ m. level_at levels (level_key_of_number m)) (eqb-true n r e) ∙ ap (level_at levels) level_key ∙ l)

  pub free_rank : IfSome (level_at levels at) (λ l. l.most ≡ 0) → IsFree r entries
  free_rank none = was_here r (level_at levels at) refl (eq-eqb r r refl) ∙ size_none r (level_at levels at) none

  swapped : (n : ℕ) (b : Bool) → eqb n r ≡ b → eqb r n ≡ b
  swapped n true e = eq-eqb r n (sym (eqb-true n r e))
  swapped n false e = grind (arith, nat_tests)

  -- a level has another bound, if it has one
  pub sizes_lowered : (most : ℕ) → 0 < most → level_at levels' at ≡ option_map (with_most most) (level_at levels at) → AreSizes levels' (renewed r 1 most entries)
  sizes_lowered most some changed n = find-renewed n r 1 most entries ∙ by (eqb n r) refl
    where
      on : (l : Level) (z : Bool) → eqb n r ≡ true → eqb l.most 0 ≡ z → option_map (with_least r 1 most) (cond z None (Some (size_of n l))) ≡ size_in n (Some (cond z l (record l { most = most })))
      on l true e h = sym (size_none n (Some l) (eqb-true l.most 0 h))
      on l false e h =
          ap Some (cond-true (eqb n r) (record { rank = n; key = 0; least = 1; shares = most }) (size_of n l) e)
          ∙ sym (size_some n (record l { most = most }) (λ z. absurd (omega (arith, some, z))))

      own : (o : Option Level) → eqb n r ≡ true → option_map (with_least r 1 most) (size_in n o) ≡ size_in n (option_map (with_most most) o)
      own None e = refl
      own (Some l) e = on l (eqb l.most 0) e refl

      retained : (l : Level) (z : Bool) → eqb n r ≡ false → option_map (with_least r 1 most) (cond z None (Some (size_of n l))) ≡ cond z None (Some (size_of n l))
      retained l true e = refl
      retained l false e = ap Some (cond-false (eqb n r) (record { rank = n; key = 0; least = 1; shares = most }) (size_of n l) e)

      unmoved : (o : Option Level) → eqb n r ≡ false → option_map (with_least r 1 most) (size_in n o) ≡ size_in n o
      unmoved None e = refl
      unmoved (Some l) e = retained l (eqb l.most 0) e

      by : (b : Bool) → eqb n r ≡ b → option_map (with_least r 1 most) (find (has_rank n) entries) ≡ size_in n (level_at levels' (level_key_of_number n))
      by true e =
          ap (option_map (with_least r 1 most)) (was_here n (level_at levels at) refl e) ∙ own (level_at levels at) e ∙ ap (size_in n) (sym changed)
          ∙ here n (level_at levels' at) refl e
      by false e = ap (option_map (with_least r 1 most)) (elsewhere n e) ∙ unmoved (level_at levels' (level_key_of_number n)) e

  -- a level is taken out
  pub sizes_gone : level_at levels' at ≡ None → AreSizes levels' (without r entries)
  sizes_gone none n = find-without n r entries ∙ by (eqb n r) refl
    where
      by : (b : Bool) → eqb n r ≡ b → cond (eqb n r) None (find (has_rank n) entries) ≡ size_in n (level_at levels' (level_key_of_number n))
      by true e = cond-true (eqb n r) _ _ e ∙ here n None none e
      by false e = cond-false (eqb n r) _ _ e ∙ elsewhere n e

  -- an order joins that has more shares than all before
  module _ (shown : Bool) (ends : Ends) (shares : ℕ) (level : Level) (was : level_at levels at ≡ Some level) (more : level.most < shares)
      (is : level_at levels' at ≡ Some (joined shown ends shares level)) where
    size_is : (n : ℕ) → Some (record { rank = n; key = 0; least = 1; shares = shares }) ≡ size_in n (Some (joined shown ends shares level))
    size_is n =
        ap (λ k. Some (record { rank = n; key = 0; least = 1; shares = k })) (sym most)
        ∙ sym (size_some n (joined shown ends shares level) (λ z. absurd (omega (arith, most, z))))
      where
        bound : max level.most shares ≡ shares
        bound = grind (arith, nat_tests)

        most : (joined shown ends shares level).most ≡ shares
        most = joined_most shown ends shares level ∙ bound

    first_size : level.most ≡ 0 → AreSizes levels' (inserted (record { rank = r; key = 0; least = 1; shares = shares }) entries)
    first_size zero n = find-inserted n (record { rank = r; key = 0; least = 1; shares = shares }) entries (free_rank (subst (λ o. IfSome o (λ l. l.most ≡ 0)) (sym was) zero)) ∙ by (eqb n r) refl
      where
        by : (b : Bool) → eqb n r ≡ b → cond (eqb r n) (Some (record { rank = r; key = 0; least = 1; shares = shares })) (find (has_rank n) entries) ≡ size_in n (level_at levels' (level_key_of_number n))
        by true e =
            cond-true (eqb r n) _ _ (swapped n true e) ∙ ap (λ m. Some (record { rank = m; key = 0; least = 1; shares = shares })) (sym (eqb-true n r e)) ∙ size_is n
            ∙ here n (Some (joined shown ends shares level)) is e
        by false e = cond-false (eqb r n) _ _ (swapped n false e) ∙ elsewhere n e

    next_size : (level.most ≡ 0 → ⊥) → AreSizes levels' (renewed r 1 shares entries)
    next_size some n = find-renewed n r 1 shares entries ∙ by (eqb n r) refl
      where
        by : (b : Bool) → eqb n r ≡ b → option_map (with_least r 1 shares) (find (has_rank n) entries) ≡ size_in n (level_at levels' (level_key_of_number n))
        by true e =
            ap (option_map (with_least r 1 shares)) (was_here n (Some level) was e ∙ size_some n level some)
            ∙ ap Some (cond-true (eqb n r) (record { rank = n; key = 0; least = 1; shares = shares }) (size_of n level) e)
            ∙ size_is n ∙ here n (Some (joined shown ends shares level)) is e
        by false e =
            ap (option_map (with_least r 1 shares)) (elsewhere n e) ∙ unmoved (level_at levels' (level_key_of_number n))
          where
            retained : (k : ℕ) → with_least r 1 shares (record { rank = n; key = 0; least = 1; shares = k }) ≡ record { rank = n; key = 0; least = 1; shares = k }
            retained k = cond-false (eqb n r) (record { rank = n; key = 0; least = 1; shares = shares }) (record { rank = n; key = 0; least = 1; shares = k }) e

            unmoved : (o : Option Level) → option_map (with_least r 1 shares) (size_in n o) ≡ size_in n o
            unmoved None = refl
            unmoved (Some l) = on (eqb l.most 0)
              where
                on : (z : Bool) → option_map (with_least r 1 shares) (cond z None (Some (size_of n l))) ≡ cond z None (Some (size_of n l))
                on true = refl
                on false = ap Some (retained l.most)

  pub sizes_first : (shown : Bool) (ends : Ends) (shares most : ℕ) → IsSome (level_at levels at) → level_at levels' at ≡ option_map (joined shown ends shares) (level_at levels at)
      → IfSome (level_at levels at) (λ l. most ≡ l.most) → most < shares → most ≡ 0 → AreSizes levels' (inserted (record { rank = r; key = 0; least = 1; shares = shares }) entries)
  sizes_first shown ends shares most there changed is more zero = by (level_at levels at) refl there changed is
    where
      by : (o : Option Level) → level_at levels at ≡ o → IsSome o → level_at levels' at ≡ option_map (joined shown ends shares) o → IfSome o (λ l. most ≡ l.most)
          → AreSizes levels' (inserted (record { rank = r; key = 0; least = 1; shares = shares }) entries)
      by None e t c i = absurd (true≢false (sym t))
      by (Some l) e t c i = first_size shown ends shares l e (subst (λ m. m < shares) i more) c (sym i ∙ zero)

  pub sizes_next : (shown : Bool) (ends : Ends) (shares most : ℕ) → IsSome (level_at levels at) → level_at levels' at ≡ option_map (joined shown ends shares) (level_at levels at)
      → IfSome (level_at levels at) (λ l. most ≡ l.most) → most < shares → 0 < most → AreSizes levels' (renewed r 1 shares entries)
  sizes_next shown ends shares most there changed is more some = by (level_at levels at) refl there changed is
    where
      by : (o : Option Level) → level_at levels at ≡ o → IsSome o → level_at levels' at ≡ option_map (joined shown ends shares) o → IfSome o (λ l. most ≡ l.most) → AreSizes levels' (renewed r 1 shares entries)
      by None e t c i = absurd (true≢false (sym t))
      by (Some l) e t c i = next_size shown ends shares l e (subst (λ m. m < shares) i more) c (λ z. absurd (omega (arith, i, z, some)))
