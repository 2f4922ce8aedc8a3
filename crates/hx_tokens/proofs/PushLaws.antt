-- What the rows stand for after a token is used.
use Rattle.std.proofs.Common.{◌≡◌, ℕ, ◌++◌, ◌∷◌, [], List, Bool, true, false, cond, ◌||◌, zero, suc, length, Some, None, slice_get, refl, ap, sym, ◌∙◌, subst, inl, inr, ◌⊎◌}
use Rattle.std.proofs.lemmas.Bool.{true≢false, cases_Bool}
use Rattle.hx_units.specs.Names.{is_token}
use Rattle.hx_units.specs.declared.names.Token.{Token}
use Rattle.hx_tokens.specs.Chains.{Used, is_use, is_used, entered_used, entered_chain, IsEnteredAt}
use Rattle.hx_tokens.specs.Rows.{Row, name_of, fresh, key_of, used_of, tokens_of, indices_of, live_keys_of, is_entered, chain_of, chains_of, AreDistinct, AreChained, IsSound}
use Rattle.hx_tokens.proofs.ChainLaws.{is_same-flip, is_token-itself, same_token, slice_get-pushed, is_used-pushed, is_used-at}
use Rattle.hx_tokens.proofs.TokenLaws.{length-tokens_of}

pub tokens_of-pushed : (rows : List Row) (r : Row) → tokens_of (rows ++ r ∷ []) ≡ tokens_of rows ++ used_of r ∷ []
tokens_of-pushed [] r = refl
tokens_of-pushed (e ∷ es) r = ap (λ l. used_of e ∷ l) (tokens_of-pushed es r)

pub indices_of-pushed : (rows : List Row) (r : Row) → indices_of (rows ++ r ∷ []) ≡ indices_of rows ++ r.1.chain ∷ []
indices_of-pushed [] r = refl
indices_of-pushed (e ∷ es) r = ap (λ l. e.1.chain ∷ l) (indices_of-pushed es r)

pub live_keys_of-pushed : (rows : List Row) (r : Row) → live_keys_of (rows ++ r ∷ []) ≡ live_keys_of rows ++ key_of r.1 ∷ []
live_keys_of-pushed [] r = refl
live_keys_of-pushed (e ∷ es) r = ap (λ l. key_of e.1 ∷ l) (live_keys_of-pushed es r)

pub chains_of-entered : (rows : List Row) (r : Row) → is_entered r ≡ true → chains_of (rows ++ r ∷ []) ≡ chains_of rows ++ chain_of r ∷ []
chains_of-entered [] r h = ap (λ b. cond b (chain_of r ∷ []) []) h
chains_of-entered (e ∷ es) r h = at (is_entered e) (chains_of-entered es r h)
  where
    at : (b : Bool) → chains_of (es ++ r ∷ []) ≡ chains_of es ++ chain_of r ∷ [] → cond b (chain_of e ∷ chains_of (es ++ r ∷ [])) (chains_of (es ++ r ∷ [])) ≡ cond b (chain_of e ∷ chains_of es) (chains_of es) ++ chain_of r ∷ []
    at true ih = ap (λ l. chain_of e ∷ l) ih
    at false ih = ih

pub chains_of-joined : (rows : List Row) (r : Row) → is_entered r ≡ false → chains_of (rows ++ r ∷ []) ≡ chains_of rows
chains_of-joined [] r h = ap (λ b. cond b (chain_of r ∷ []) []) h
chains_of-joined (e ∷ es) r h = ap (λ l. cond (is_entered e) (chain_of e ∷ l) l) (chains_of-joined es r h)

distinct-pushed : (tokens : List Used) (u : Used) → AreDistinct tokens → is_used tokens u.member u.token ≡ false → AreDistinct (tokens ++ u ∷ [])
distinct-pushed [] u d n = (refl, tt)
distinct-pushed (v ∷ vs) u d n = at (is_use u.member u.token v) refl n (distinct-pushed vs u d.1)
  where
    at : (b : Bool) → is_use u.member u.token v ≡ b → (b || is_used vs u.member u.token) ≡ false → (is_used vs u.member u.token ≡ false → AreDistinct (vs ++ u ∷ []))
        → (is_used (vs ++ u ∷ []) v.member v.token ≡ false) × AreDistinct (vs ++ u ∷ [])
    at true e n ih = absurd (true≢false n)
    at false e n ih =
        (is_used-pushed vs u v.member v.token ∙ (λ j. d.0 j || is_use v.member v.token u) ∙ is_same-flip u.member u.token v.member v.token ∙ e, ih n)

-- what is at an index of the longer lists was there before, or is new
pushed-cases : (rows : List Row) (u : Used) (c i : ℕ) (v : Used) (d : ℕ) → slice_get (tokens_of rows ++ u ∷ []) i ≡ Some v → slice_get (indices_of rows ++ c ∷ []) i ≡ Some d
    → ((slice_get (tokens_of rows) i ≡ Some v) × (slice_get (indices_of rows) i ≡ Some d)) ⊎ ((u ≡ v) × (c ≡ d))
pushed-cases [] u c zero v d h k = inr (ap (λ o. elim o as (λ _. Used) [ Some w ↦ w | None ↦ u ]) h, ap (λ o. elim o as (λ _. ℕ) [ Some w ↦ w | None ↦ c ]) k)
pushed-cases [] u c (suc i) v d h k = absurd cc
pushed-cases (e ∷ es) u c zero v d h k = inl (h, k)
pushed-cases (e ∷ es) u c (suc i) v d h k = pushed-cases es u c i v d h k

chained-pushed : (rows : List Row) (u : Used) (c : ℕ) → AreChained (tokens_of rows) (indices_of rows) → IsEnteredAt (tokens_of rows ++ u ∷ []) u.member u.entered c
    → AreChained (tokens_of rows ++ u ∷ []) (indices_of rows ++ c ∷ [])
chained-pushed rows u c a new i v d h k =
    elim (pushed-cases rows u c i v d h k) [
      | inl old ↦ slice_get-pushed (tokens_of rows) u d (entered_used v.member v.entered) (a i v d old.0 old.1)
      | inr at ↦ (λ j. slice_get (tokens_of rows ++ u ∷ []) (sym at.1 j)) ∙ new ∙ (λ j. Some (entered_used ((at.0 j).member) ((at.0 j).entered)))
    ]

sound-pushed : (rows : List Row) (r : Row) → IsSound rows → is_used (tokens_of rows) r.0.member r.0.token ≡ false
    → IsEnteredAt (tokens_of rows ++ used_of r ∷ []) r.0.member r.1.entered.value r.1.chain → IsSound (rows ++ r ∷ [])
sound-pushed rows r s n e =
    record {
      distinct = subst AreDistinct (sym (tokens_of-pushed rows r)) (distinct-pushed (tokens_of rows) (used_of r) s.distinct n);
      chained =
          subst (λ l. AreChained l (indices_of (rows ++ r ∷ []))) (sym (tokens_of-pushed rows r))
          (subst (λ l. AreChained (tokens_of rows ++ used_of r ∷ []) l) (sym (indices_of-pushed rows r)) (chained-pushed rows (used_of r) r.1.chain s.chained e));
    }

pub slice_get-last : {X : Type 0} (xs : List X) (x : X) → slice_get (xs ++ x ∷ []) (length xs) ≡ Some x
slice_get-last [] x = refl
slice_get-last (y ∷ ys) x = slice_get-last ys x

-- the row of a token that is entered, or that joins a chain
abbrev pub entered_row : ℕ → Token → ℕ → Row
entered_row m t n = (name_of m t, fresh t n)

abbrev pub joined_row : ℕ → Token → Token → ℕ → Row
joined_row m t e c = (name_of m t, fresh e c)

pub sound-entered : (rows : List Row) (m : ℕ) (t : Token) → IsSound rows → is_used (tokens_of rows) m t ≡ false → IsSound (rows ++ entered_row m t (length rows) ∷ [])
sound-entered rows m t s n =
    sound-pushed rows (entered_row m t (length rows)) s n
    (ap (λ k. slice_get (tokens_of rows ++ entered_used m t ∷ []) k) (sym (length-tokens_of rows)) ∙ slice_get-last (tokens_of rows) (entered_used m t))

pub sound-joined : (rows : List Row) (m : ℕ) (t e : Token) (c : ℕ) → IsSound rows → is_used (tokens_of rows) m t ≡ false → IsEnteredAt (tokens_of rows) m e c → IsSound (rows ++ joined_row m t e c ∷ [])
sound-joined rows m t e c s n h =
    sound-pushed rows (joined_row m t e c) s n (slice_get-pushed (tokens_of rows) (used_of (joined_row m t e c)) c (entered_used m e) h)

pub chains-entered : (rows : List Row) (m : ℕ) (t : Token) → chains_of (rows ++ entered_row m t (length rows) ∷ []) ≡ chains_of rows ++ entered_chain m t ∷ []
chains-entered rows m t = chains_of-entered rows (entered_row m t (length rows)) (is_token-itself t)

pub chains-joined : (rows : List Row) (m : ℕ) (t e : Token) (c : ℕ) → is_used (tokens_of rows) m t ≡ false → IsEnteredAt (tokens_of rows) m e c → chains_of (rows ++ joined_row m t e c ∷ []) ≡ chains_of rows
chains-joined rows m t e c n h =
    elim (cases_Bool (is_token t e)) [
      | inl same ↦ absurd (true≢false (sym (is_used-at (tokens_of rows) c (entered_used m e) h) ∙ ap (λ x. is_used (tokens_of rows) m x) (sym (same_token t e same)) ∙ n))
      | inr other ↦ chains_of-joined rows (joined_row m t e c) other
    ]
