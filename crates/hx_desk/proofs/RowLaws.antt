-- Laws of the rows of replies.
use Rattle.std.proofs.Common.{◌≡◌, ℕ, zero, suc, ◌+◌, ◌-◌, ◌<◌, ◌≤◌, ◌⊎◌, inl, inr, List, [], ◌∷◌, ◌++◌, map, length, get_or, set, slice_index, eqb, eqb-true, eq-eqb, Bool, true, false, cond, refl, ap, sym, ◌∙◌, subst, arith}
use Rattle.std.proofs.Common.{take, drop, min, length-drop}
use Rattle.std.specs.Global.{Vec}
use Rattle.std.specs.Vec.{vec_len, vec_capacity}
use Rattle.std.specs.List.{take-map}
use Rattle.std.proofs.lemmas.List.{map-append, map-set, length-map, get_or_read}
use Rattle.arrayvec.specs.ArrayVec.{ArrayVec}
use Rattle.hx_ouch.specs.declared.outbound.Outbound.{Outbound}
use Rattle.hx_ouch.specs.Outbound.{outbound_bytes}
use Rattle.hx_units.specs.Fields.{texts}
use Rattle.hx_desk.specs.Rows.{row_texts, row_spare, row_of, with_reply, times, HasRoomFor}

-- a list in which an element was replaced, as far as a function of the elements can tell
pub same_set : {A B : Type 0} (f : A → B) (xs : List A) (i : ℕ) (x y : A) → i < length xs → x ≡ get_or xs i x → f y ≡ f x → map f (set xs i y) ≡ map f xs
same_set f [] i x y in' is same = absurd (omega arith)
same_set f (z ∷ xs) zero x y in' is same = ap (λ v. v ∷ map f xs) (same ∙ ap f is)
same_set f (z ∷ xs) (suc i) x y in' is same = ap (λ v. f z ∷ v) (same_set f xs i x y (omega arith) is same)

-- what holds at an index of the list before holds afterwards, and at the replaced index if it holds of the new element
pub room_set : {A : Type 0} (g : A → ℕ) (xs : List A) (i : ℕ) (y : A) (n : ℕ → ℕ) (m : ℕ) → i < length xs → n i ≤ g y
    → (n m ≤ slice_index (map g xs) m) ⊎ (m ≡ i) → n m ≤ slice_index (map g (set xs i y)) m
room_set g [] i y n m in' here there = absurd (omega arith)
room_set g (z ∷ xs) zero y n zero in' here there = here
room_set g (z ∷ xs) zero y n (suc m) in' here there = elim there [ inl h ↦ h | inr e ↦ absurd (omega arith) ]
room_set g (z ∷ xs) (suc i) y n zero in' here there = elim there [ inl h ↦ h | inr e ↦ absurd (omega arith) ]
room_set g (z ∷ xs) (suc i) y n (suc m) in' here there = room_set g xs i y (λ k. n (suc k)) m (omega arith) here (elim there [ inl h ↦ inl h | inr e ↦ inr (omega arith) ])

-- the number of times that a member is among these and one more
pub next_time : (m : ℕ) (ms : List ℕ) (i : ℕ) → i < length ms → times m (take (i + 1) ms) ≡ times m (take i ms) + cond (eqb (slice_index ms i) m) 1 0
next_time m ms i in' = ap (λ (k : ℕ). times m (take k ms)) next ∙ one_more ms i in'
  where
    next : i + 1 ≡ suc i
    next = omega arith

    grouped : (a b c : ℕ) → a + (b + c) ≡ a + b + c
    grouped a b c = omega arith

    turned : (n : ℕ) → n + 0 ≡ 0 + n
    turned n = omega arith

    one_more : (ms : List ℕ) (i : ℕ) → i < length ms → times m (take (suc i) ms) ≡ times m (take i ms) + cond (eqb (slice_index ms i) m) 1 0
    one_more [] i in' = absurd (omega arith)
    one_more (x ∷ ms) zero in' = turned (cond (eqb x m) 1 0)
    one_more (x ∷ ms) (suc i) in' = ap (λ (n : ℕ). cond (eqb x m) 1 0 + n) (one_more ms i (omega arith)) ∙ grouped (cond (eqb x m) 1 0) (times m (take i ms)) (cond (eqb (slice_index ms i) m) 1 0)

-- it is at most the number of these
pub times_at_most : (m : ℕ) (ms : List ℕ) (i : ℕ) → times m (take i ms) ≤ i
times_at_most m ms zero = omega arith
times_at_most m [] (suc i) = omega arith
times_at_most m (x ∷ ms) (suc i) = one (eqb x m) (times_at_most m ms i)
  where
    one : {n k : ℕ} (b : Bool) → n ≤ k → cond b 1 0 + n ≤ suc k
    one true l = omega arith
    one false l = omega arith

-- a list of counts of which one was raised by 1
pub raised : (counts : List ℕ) (i j : ℕ) → i < length counts → slice_index (set counts i (slice_index counts i + 1)) j ≡ slice_index counts j + cond (eqb i j) 1 0
raised counts i j in' = at (eqb i j) refl
  where
    there : (xs : List ℕ) (i n : ℕ) → i < length xs → slice_index (set xs i n) i ≡ n
    there [] i n in' = absurd (omega arith)
    there (x ∷ xs) zero n in' = refl
    there (x ∷ xs) (suc i) n in' = there xs i n (omega arith)

    elsewhere : (xs : List ℕ) (i j n : ℕ) → (i ≡ j → ⊥) → slice_index (set xs i n) j ≡ slice_index xs j
    elsewhere [] i j n apart = refl
    elsewhere (x ∷ xs) zero zero n apart = absurd (apart refl)
    elsewhere (x ∷ xs) zero (suc j) n apart = refl
    elsewhere (x ∷ xs) (suc i) zero n apart = refl
    elsewhere (x ∷ xs) (suc i) (suc j) n apart = elsewhere xs i j n (λ e. apart (ap (λ k. suc k) e))

    still : (n : ℕ) → n ≡ n + 0
    still n = omega arith

    holds : Bool → Type 0
    holds true = Unit {0}
    holds false = ⊥

    differ : eqb i j ≡ false → i ≡ j → ⊥
    differ e is = subst holds (sym (eq-eqb i j is) ∙ e) tt

    at : (b : Bool) → eqb i j ≡ b → slice_index (set counts i (slice_index counts i + 1)) j ≡ slice_index counts j + cond b 1 0
    at true e = subst (λ k. slice_index (set counts i (slice_index counts i + 1)) k ≡ slice_index counts k + 1) (eqb-true i j e) (there counts i (slice_index counts i + 1) in')
    at false e = elsewhere counts i j (slice_index counts i + 1) (differ e) ∙ still (slice_index counts j)

-- there is room for one more of these, but for the row of that one
pub room_next : (spare ms : List ℕ) (i m : ℕ) → i < length ms → times m (take i ms) ≤ slice_index spare m
    → (times m (take (i + 1) ms) ≤ slice_index spare m) ⊎ (m ≡ slice_index ms i)
room_next spare ms i m in' room = at (eqb (slice_index ms i) m) refl (next_time m ms i in')
  where
    at : (b : Bool) → eqb (slice_index ms i) m ≡ b → times m (take (i + 1) ms) ≡ times m (take i ms) + cond b 1 0
        → (times m (take (i + 1) ms) ≤ slice_index spare m) ⊎ (m ≡ slice_index ms i)
    at true e next = inr (sym (eqb-true (slice_index ms i) m e))
    at false e next = inl (omega arith)

-- the rest of a list from an index on, if that is beyond the end
drop_min : {A : Type 0} (xs : List A) (n k : ℕ) → k ≡ min n (length xs) → drop k xs ≡ drop n xs
drop_min [] zero zero e = refl
drop_min [] zero (suc k) e = absurd (omega arith)
drop_min [] (suc n) zero e = refl
drop_min [] (suc n) (suc k) e = absurd (omega arith)
drop_min (x ∷ xs) zero zero e = refl
drop_min (x ∷ xs) zero (suc k) e = absurd (omega arith)
drop_min (x ∷ xs) (suc n) zero e = absurd (omega arith)
drop_min (x ∷ xs) (suc n) (suc k) e = drop_min xs n k (omega arith)

take_min : {A : Type 0} (xs : List A) (n k : ℕ) → k ≡ min n (length xs) → take k xs ≡ take n xs
take_min [] zero zero e = refl
take_min [] zero (suc k) e = absurd (omega arith)
take_min [] (suc n) zero e = refl
take_min [] (suc n) (suc k) e = absurd (omega arith)
take_min (x ∷ xs) zero zero e = refl
take_min (x ∷ xs) zero (suc k) e = absurd (omega arith)
take_min (x ∷ xs) (suc n) zero e = absurd (omega arith)
take_min (x ∷ xs) (suc n) (suc k) e = ap (λ z. x ∷ z) (take_min xs n k (omega arith))

-- the end of a list from an index on, which is at most its length
pub end_from : {A : Type 0} (xs : List A) (n k : ℕ) → k ≡ min n (length xs) → take (length xs - k) (drop k xs) ≡ drop n xs
end_from xs n k e = whole (drop k xs) (length xs - k) (length-drop k xs) ∙ drop_min xs n k e
  where
    whole : {A : Type 0} (ys : List A) (m : ℕ) → length ys ≡ m → take m ys ≡ ys
    whole [] zero h = refl
    whole [] (suc m) h = refl
    whole (y ∷ ys) zero h = absurd (omega arith)
    whole (y ∷ ys) (suc m) h = ap (λ z. y ∷ z) (whole ys m (omega arith))

-- at most `m` of the replies from an index on, cut at their end
pub page_end : (rows : List (List ℕ)) (end part : List (ArrayVec ℕ)) (n m c : ℕ) → texts end ≡ drop n rows → c ≡ min m (length end) → part ≡ take c end → texts part ≡ take m (drop n rows)
page_end rows end part n m c is count cut =
    ap texts cut
    ∙ sym (take-map (λ (x : ArrayVec ℕ). x.items) c end)
    ∙ take_min (texts end) m c (count ∙ ap (min m) (sym (length-map end (λ (x : ArrayVec ℕ). x.items))))
    ∙ ap (take m) is

-- the row of a member, if the list has it
pub row_at : (rows : List (Vec (ArrayVec ℕ))) (i : ℕ) (x : Vec (ArrayVec ℕ)) → i < length rows → x ≡ get_or rows i x → row_of (map row_texts rows) i ≡ row_texts x
row_at [] i x in' is = absurd (omega arith)
row_at (y ∷ rows) zero x in' is = sym (ap row_texts is)
row_at (y ∷ rows) (suc i) x in' is = row_at rows i x (omega arith) is

-- a reply was added to its row
pub added : (rows : List (Vec (ArrayVec ℕ))) (i : ℕ) (x y : Vec (ArrayVec ℕ)) (message : ArrayVec ℕ) (reply : Outbound) → i < length rows → x ≡ get_or rows i x
    → y.items ≡ x.items ++ message ∷ [] → message.items ≡ outbound_bytes reply → map row_texts (set rows i y) ≡ with_reply (map row_texts rows) (i, reply)
added rows i x y message reply in' is more bytes =
    map-set row_texts rows i y
    ∙ ap (set (map row_texts rows) i) (ap texts more ∙ map-append (λ m. m.items) x.items (message ∷ []) ∙ ap (λ (b : List ℕ). texts x.items ++ b ∷ []) bytes
    ∙ ap (λ (r : List (List ℕ)). r ++ outbound_bytes reply ∷ []) (sym (row_at rows i x in' is)))

-- a row with room for a reply
pub has_room : (rows : List (Vec (ArrayVec ℕ))) (i : ℕ) (x : Vec (ArrayVec ℕ)) (ms : List ℕ) → i < length rows → i < 4096 → x ≡ get_or rows i x → HasRoomFor (map row_spare rows) (i ∷ ms)
    → 1 + times i ms ≤ vec_capacity x - vec_len x
has_room rows i x ms in' small is room =
    let first : times i (i ∷ ms) ≡ 1 + times i ms = ap (λ (b : Bool). cond b 1 0 + times i ms) (eq-eqb i i refl) in
    omega (arith, first, room i small, spare_at rows i x in' is)
  where
    spare_at : (rows : List (Vec (ArrayVec ℕ))) (i : ℕ) (x : Vec (ArrayVec ℕ)) → i < length rows → x ≡ get_or rows i x → slice_index (map row_spare rows) i ≡ row_spare x
    spare_at [] i x in' is = absurd (omega arith)
    spare_at (y ∷ rows) zero x in' is = sym (ap row_spare is)
    spare_at (y ∷ rows) (suc i) x in' is = spare_at rows i x (omega arith) is

-- a row that had room for one reply more has less room then
pub room_left : (rows : List (Vec (ArrayVec ℕ))) (i : ℕ) (x y : Vec (ArrayVec ℕ)) (ms : List ℕ) → i < length rows → i < 4096 → x ≡ get_or rows i x
    → vec_len y ≡ vec_len x + 1 → vec_capacity y ≡ vec_capacity x → HasRoomFor (map row_spare rows) (i ∷ ms) → HasRoomFor (map row_spare (set rows i y)) ms
room_left rows i x y ms in' small is len capacity room m l =
    room_set row_spare rows i y (λ k. times k ms) m in' (omega (arith, has_room rows i x ms in' small is room)) (inl (omega (arith, room m l)))

-- the published replies of a row are its first ones
pub row_published : (rows : List (Vec (ArrayVec ℕ))) (counts : List ℕ) (m : ℕ) (row : Vec (ArrayVec ℕ)) (items : List (ArrayVec ℕ)) (n k : ℕ) → m < length rows → m < length counts
    → row ≡ get_or rows m row → items ≡ row.items → n ≡ get_or counts m n → k ≡ min n (length items)
    → texts (take k items) ≡ take (slice_index counts m) (row_of (map row_texts rows) m)
row_published rows counts m row items n k in_rows in_counts is same at least =
    ap texts (take_min items n k least)
    ∙ sym (take-map (λ (x : ArrayVec ℕ). x.items) n items)
    ∙ ap (λ (l : List (ArrayVec ℕ)). take n (texts l)) same
    ∙ ap (take n) (sym (row_at rows m row in_rows is))
    ∙ ap (λ j. take j (row_of (map row_texts rows) m)) (get_or_read counts m n in_counts at 0)

-- a member occurs among the first of these no more often than among all
pub times_of_first : (m : ℕ) (ms : List ℕ) (i : ℕ) → times m (take i ms) ≤ times m ms
times_of_first m ms zero = omega arith
times_of_first m [] (suc i) = omega arith
times_of_first m (x ∷ ms) (suc i) = at (cond (eqb x m) 1 0) (times m (take i ms)) (times m ms) (times_of_first m ms i)
  where
    at : (b n k : ℕ) → n ≤ k → b + n ≤ b + k
    at b n k l = omega arith

-- the reply to one more of these members is published
pub one_published : (counts old members : List ℕ) (rows : List (Vec (ArrayVec ℕ))) (row : Vec (ArrayVec ℕ)) (i index n : ℕ) → i < length members → index < length counts → index < length rows
    → index ≡ slice_index members i → n ≡ get_or counts index n → row ≡ get_or rows index row
    → slice_index counts index ≡ slice_index old index + times index (take i members)
    → slice_index old index + times index members ≤ length (row_of (map row_texts rows) index)
    → (n ≡ slice_index counts index) × (n < length row.items)
one_published counts old members rows row i index n within in_counts in_rows is at here all room =
    let read : n ≡ slice_index counts index = get_or_read counts index n in_counts at 0 in
    let once : ◌≡◌ {A = ℕ} (cond (eqb (slice_index members i) index) 1 0) 1 = ap (λ (b : Bool). cond b 1 0) (eq-eqb (slice_index members i) index (sym is)) in
    let row_is : length (row_of (map row_texts rows) index) ≡ length row.items = ap (λ (r : List (List ℕ)). length r) (row_at rows index row in_rows here) ∙ length-map row.items (λ (x : ArrayVec ℕ). x.items) in
    (read, omega (arith, read, once, all, room, row_is, next_time index members i within, times_of_first index members (i + 1)))
