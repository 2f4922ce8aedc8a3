-- What the rows stand for after a used token is changed in place.
use Rattle.std.proofs.Common.{◌≡◌, ℕ, ◌+◌, ◌∷◌, [], List, Bool, true, false, cond, ◌||◌, zero, suc, Option, Some, None, slice_get, slice_set, refl, ap, sym, ◌∙◌, subst, arith}
use Rattle.std.specs.Option.{option_map_or}
use Rattle.std.proofs.lemmas.Bool.{true≢false}
use Rattle.std.proofs.lemmas.Option.{same_Some}
use Rattle.hx_units.specs.declared.names.Token.{Token}
use Rattle.hx_tokens.specs.declared.rows.UsedToken.{UsedToken}
use Rattle.hx_tokens.specs.Chains.{Used, Chain, is_use, is_used, index_of, note, noted, noted_at, entered_used, IsEnteredAt}
use Rattle.hx_tokens.specs.Rows.{Row, updated, noted_rows, settled_rows, with_note, with_key, key_of, used_of, tokens_of, indices_of, live_keys_of, is_entered, chain_of, chains_of, AreDistinct, AreChained, IsSound}
use Rattle.hx_tokens.proofs.ChainLaws.{is_same-parts}
use Rattle.hx_tokens.proofs.TokenLaws.{ChainRow, entered-row}

-- a change further on leaves the first row
pub updated-next : (g : UsedToken → UsedToken) (x : Row) (xs : List Row) (n : ℕ) → updated g (suc n) (x ∷ xs) ≡ x ∷ updated g n xs
updated-next g x xs n = at (slice_get xs n)
  where
    at : (o : Option Row) → option_map_or (λ row. x ∷ slice_set xs n (row.0, g row.1)) o (x ∷ xs) ≡ x ∷ option_map_or (λ row. slice_set xs n (row.0, g row.1)) o xs
    at None = refl
    at (Some r) = refl

-- what does not see the change is as before
pub unseen : {X : Type 0} (f : Row → X) (all : List Row → List X) → ((r : Row) (rows : List Row) → all (r ∷ rows) ≡ f r ∷ all rows) → (g : UsedToken → UsedToken) → ((r : Row) → f (r.0, g r.1) ≡ f r)
    → (n : ℕ) (rows : List Row) → all (updated g n rows) ≡ all rows
unseen f all each g same n [] = refl
unseen f all each g same zero (x ∷ xs) = each (x.0, g x.1) xs ∙ ap (λ y. y ∷ all xs) (same x) ∙ sym (each x xs)
unseen f all each g same (suc n) (x ∷ xs) =
    ap all (updated-next g x xs n) ∙ each x (updated g n xs) ∙ ap (λ l. f x ∷ l) (unseen f all each g same n xs) ∙ sym (each x xs)

pub tokens_of-noted : (c n : ℕ) (d : Bool) (rows : List Row) → tokens_of (noted_rows c n d rows) ≡ tokens_of rows
tokens_of-noted c n d rows = unseen used_of tokens_of (λ r l. refl) (with_note n d) (λ r. refl) c rows

pub indices_of-noted : (c n : ℕ) (d : Bool) (rows : List Row) → indices_of (noted_rows c n d rows) ≡ indices_of rows
indices_of-noted c n d rows = unseen (λ r. r.1.chain) indices_of (λ r l. refl) (with_note n d) (λ r. refl) c rows

pub live_keys_of-noted : (c n : ℕ) (d : Bool) (rows : List Row) → live_keys_of (noted_rows c n d rows) ≡ live_keys_of rows
live_keys_of-noted c n d rows = unseen (λ r. key_of r.1) live_keys_of (λ r l. refl) (with_note n d) (λ r. refl) c rows

pub tokens_of-settled : (p : ℕ) (k : Option ℕ) (rows : List Row) → tokens_of (settled_rows p k rows) ≡ tokens_of rows
tokens_of-settled p k rows = unseen used_of tokens_of (λ r l. refl) (with_key k) (λ r. refl) p rows

pub indices_of-settled : (p : ℕ) (k : Option ℕ) (rows : List Row) → indices_of (settled_rows p k rows) ≡ indices_of rows
indices_of-settled p k rows = unseen (λ r. r.1.chain) indices_of (λ r l. refl) (with_key k) (λ r. refl) p rows

pub chains_of-settled : (p : ℕ) (k : Option ℕ) (rows : List Row) → chains_of (settled_rows p k rows) ≡ chains_of rows
chains_of-settled p k [] = refl
chains_of-settled zero k (x ∷ xs) = refl
chains_of-settled (suc p) k (x ∷ xs) = ap chains_of (updated-next (with_key k) x xs p) ∙ ap (λ l. cond (is_entered x) (chain_of x ∷ l) l) (chains_of-settled p k xs)

-- the key that was set is the key
key_of-with_key : (k : Option ℕ) (u : UsedToken) → key_of (with_key k u) ≡ k
key_of-with_key None u = refl
key_of-with_key (Some n) u = refl

pub live_keys_of-settled : (p : ℕ) (k : Option ℕ) (rows : List Row) → live_keys_of (settled_rows p k rows) ≡ slice_set (live_keys_of rows) p k
live_keys_of-settled p k [] = refl
live_keys_of-settled zero k (x ∷ xs) = ap (λ o. o ∷ live_keys_of xs) (key_of-with_key k x.1)
live_keys_of-settled (suc p) k (x ∷ xs) = ap live_keys_of (updated-next (with_key k) x xs p) ∙ ap (λ l. key_of x.1 ∷ l) (live_keys_of-settled p k xs)

sound-like : (old new : List Row) → tokens_of new ≡ tokens_of old → indices_of new ≡ indices_of old → IsSound old → IsSound new
sound-like old new t p s =
    record {
      distinct = subst AreDistinct (sym t) s.distinct;
      chained = subst (λ l. AreChained l (indices_of new)) (sym t) (subst (λ l. AreChained (tokens_of old) l) (sym p) s.chained);
    }

pub sound-noted : (c n : ℕ) (d : Bool) (rows : List Row) → IsSound rows → IsSound (noted_rows c n d rows)
sound-noted c n d rows s = sound-like rows (noted_rows c n d rows) (tokens_of-noted c n d rows) (indices_of-noted c n d rows) s

pub sound-settled : (p : ℕ) (k : Option ℕ) (rows : List Row) → IsSound rows → IsSound (settled_rows p k rows)
sound-settled p k rows s = sound-like rows (settled_rows p k rows) (tokens_of-settled p k rows) (indices_of-settled p k rows) s

-- a chain that no row has is noted nowhere
note-unused : (rows : List Row) (m : ℕ) (e : Token) (n : ℕ) (d : Bool) → is_used (tokens_of rows) m e ≡ false → note m e n d (chains_of rows) ≡ chains_of rows
note-unused [] m e n d h = refl
note-unused (x ∷ xs) m e n d h = at (is_use m e (used_of x)) refl h (note-unused xs m e n d)
  where
    skip : (b : Bool) → is_use m e (used_of x) ≡ false → note m e n d (chains_of xs) ≡ chains_of xs → note m e n d (cond b (chain_of x ∷ chains_of xs) (chains_of xs)) ≡ cond b (chain_of x ∷ chains_of xs) (chains_of xs)
    skip true f rest = (λ j. cond (f j) (noted n d (chain_of x)) (chain_of x) ∷ rest j)
    skip false f rest = rest

    at : (b : Bool) → is_use m e (used_of x) ≡ b → (b || is_used (tokens_of xs) m e) ≡ false → (is_used (tokens_of xs) m e ≡ false → note m e n d (chains_of xs) ≡ chains_of xs)
        → note m e n d (chains_of (x ∷ xs)) ≡ chains_of (x ∷ xs)
    at true f h rest = absurd (true≢false h)
    at false f h rest = skip (is_entered x) f (rest h)

noted-first : (rows : List Row) (m : ℕ) (e : Token) (n : ℕ) (d : Bool) (f : Row) → AreDistinct (tokens_of rows) → slice_get rows (index_of (tokens_of rows) m e) ≡ Some f → used_of f ≡ entered_used m e
    → chains_of (noted_rows (index_of (tokens_of rows) m e) n d rows) ≡ note m e n d (chains_of rows)
noted-first [] m e n d f dis h own = absurd cc
noted-first (x ∷ xs) m e n d f dis h own = at (is_use m e (used_of x)) refl h (λ k. noted-first xs m e n d f dis.1 k own)
  where
    p : ℕ
    p = index_of (tokens_of xs) m e

    skip : (b : Bool) → is_use m e (used_of x) ≡ false → (new : List Chain) → new ≡ note m e n d (chains_of xs)
        → cond b (chain_of x ∷ new) new ≡ note m e n d (cond b (chain_of x ∷ chains_of xs) (chains_of xs))
    skip true g new ih = (λ j. cond (sym g j) (noted n d (chain_of x)) (chain_of x) ∷ ih j)
    skip false g new ih = ih

    later : p + 1 ≡ suc p
    later = omega arith

    at : (b : Bool) → is_use m e (used_of x) ≡ b → slice_get (x ∷ xs) (cond b 0 (p + 1)) ≡ Some f
        → (slice_get xs p ≡ Some f → chains_of (noted_rows p n d xs) ≡ note m e n d (chains_of xs))
        → chains_of (noted_rows (cond b 0 (p + 1)) n d (x ∷ xs)) ≡ note m e n d (chains_of (x ∷ xs))
    at true g h ih =
        let same : x ≡ f = same_Some x f h in
        let entered : is_entered x ≡ true = entered-row x m e (ap used_of same ∙ own) in
        let q = is_same-parts x.0.member x.0.token m e g in
        let rest : note m e n d (chains_of xs) ≡ chains_of xs = note-unused xs m e n d ((λ j. is_used (tokens_of xs) (sym q.0 j) (sym q.1 j)) ∙ dis.0) in
        ap (λ b. cond b (noted n d (chain_of x) ∷ chains_of xs) (chains_of xs)) entered
        ∙ (λ j. cond (sym g j) (noted n d (chain_of x)) (chain_of x) ∷ sym rest j)
        ∙ sym (ap (λ b. note m e n d (cond b (chain_of x ∷ chains_of xs) (chains_of xs))) entered)
    at false g h ih =
        ap (λ k. chains_of (noted_rows k n d (x ∷ xs))) later ∙ ap chains_of (updated-next (with_note n d) x xs p)
        ∙ skip (is_entered x) g (chains_of (noted_rows p n d xs)) (ih (sym (ap (λ k. slice_get (x ∷ xs) k) later) ∙ h))

pub chains_of-noted : (rows : List Row) (m : ℕ) (e : Token) (c n : ℕ) (d : Bool) → AreDistinct (tokens_of rows) → IsEnteredAt (tokens_of rows) m e c → ChainRow rows m e c
    → chains_of (noted_rows c n d rows) ≡ noted_at (tokens_of rows) c n d (chains_of rows)
chains_of-noted rows m e c n d dis h r =
    ap (λ k. chains_of (noted_rows k n d rows)) (sym r.index-is)
    ∙ noted-first rows m e n d r.row dis (ap (λ k. slice_get rows k) r.index-is ∙ r.stands) r.own
    ∙ sym (ap (λ o. option_map_or (λ (u : Used). note u.member u.entered n d (chains_of rows)) o (chains_of rows)) h)
