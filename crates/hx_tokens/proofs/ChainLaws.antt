-- Laws of used tokens and chains: what the words of `Chains` say after a token is used, a chain begins, or one is noted.
use Rattle.std.proofs.Common.{◌≡◌, ℕ, ◌+◌, ◌++◌, ◌∷◌, [], List, Bool, true, false, cond, ◌==◌, ◌&&◌, ◌||◌, nat_lt, zero, suc, Some, None, length, slice_get, if◌then◌else◌, refl, ap, sym, ◌∙◌, subst, arith}
use Rattle.std.proofs.lemmas.Bool.{true≢false, and_parts, and_from}
use Rattle.std.proofs.Math.Bool.{or-false, or_assoc}
use Rattle.hx_units.proofs.Booleans.{same_bools}
use Rattle.std.proofs.lemmas.Bool.Decides.{Decides-eqb}
use Rattle.std.proofs.lemmas.Slice.Eq.{bytes_eq-Decides}
use Rattle.hx_units.specs.Names.{is_token}
use Rattle.hx_units.specs.declared.names.Token.{Token}
use Rattle.hx_tokens.specs.Chains.{Used, Chain, is_use, is_used, entered_of, index_of, is_chain, has_chain, is_loud, note, replacing_used}

-- whether two names are the same
abbrev pub is_same : ℕ → Token → ℕ → Token → Bool
is_same a s b t = a == b && is_token s t

pub same_token : (s t : Token) → is_token s t ≡ true → s ≡ t
same_token s t h = let e : s.0 ≡ t.0 = (bytes_eq-Decides s.0 t.0).0 h in λ j. record { 0 = e j }

pub is_token-itself : (t : Token) → is_token t t ≡ true
is_token-itself t = (bytes_eq-Decides t.0 t.0).1 refl

pub is_same-parts : (a : ℕ) (s : Token) (b : ℕ) (t : Token) → is_same a s b t ≡ true → (a ≡ b) × (s ≡ t)
is_same-parts a s b t h = let p = and_parts (a == b) (is_token s t) h in ((Decides-eqb a b).0 p.0, same_token s t p.1)

pub is_same-itself : (a : ℕ) (s : Token) → is_same a s a s ≡ true
is_same-itself a s = and_from (a == a) (is_token s s) ((Decides-eqb a a).1 refl) (is_token-itself s)

pub is_same-from : (a : ℕ) (s : Token) (b : ℕ) (t : Token) → a ≡ b → s ≡ t → is_same a s b t ≡ true
is_same-from a s b t p q = (λ j. is_same a s (sym p j) (sym q j)) ∙ is_same-itself a s

pub is_same-flip : (a : ℕ) (s : Token) (b : ℕ) (t : Token) → is_same a s b t ≡ is_same b t a s
is_same-flip a s b t = same_bools (is_same a s b t) (is_same b t a s) (over a s b t) (over b t a s)
  where
    over : (c : ℕ) (u : Token) (d : ℕ) (v : Token) → is_same c u d v ≡ true → is_same d v c u ≡ true
    over c u d v h = let p = is_same-parts c u d v h in is_same-from d v c u (sym p.0) (sym p.1)

-- after a token is used

pub is_used-pushed : (tokens : List Used) (u : Used) (m : ℕ) (t : Token) → is_used (tokens ++ u ∷ []) m t ≡ (is_used tokens m t || is_use m t u)
is_used-pushed [] u m t = or-false (is_use m t u)
is_used-pushed (v ∷ vs) u m t = ap (λ b. is_use m t v || b) (is_used-pushed vs u m t) ∙ sym (or_assoc (is_use m t v) (is_used vs m t) (is_use m t u))

pub entered_of-pushed : (tokens : List Used) (u : Used) (m : ℕ) (t : Token) → is_used tokens m t ≡ true → entered_of (tokens ++ u ∷ []) m t ≡ entered_of tokens m t
entered_of-pushed [] u m t h = absurd (true≢false (sym h))
entered_of-pushed (v ∷ vs) u m t h = at (is_use m t v) (entered_of-pushed vs u m t) h
  where
    at : (b : Bool) → (is_used vs m t ≡ true → entered_of (vs ++ u ∷ []) m t ≡ entered_of vs m t) → (b || is_used vs m t) ≡ true
        → cond b v.entered (entered_of (vs ++ u ∷ []) m t) ≡ cond b v.entered (entered_of vs m t)
    at true ih h = refl
    at false ih h = ih h

pub entered_of-new : (tokens : List Used) (u : Used) → is_used tokens u.member u.token ≡ false → entered_of (tokens ++ u ∷ []) u.member u.token ≡ u.entered
entered_of-new [] u h = ap (λ b. if b then u.entered else u.token) (is_same-itself u.member u.token)
entered_of-new (v ∷ vs) u h = at (is_use u.member u.token v) (entered_of-new vs u) h
  where
    at : (b : Bool) → (is_used vs u.member u.token ≡ false → entered_of (vs ++ u ∷ []) u.member u.token ≡ u.entered) → (b || is_used vs u.member u.token) ≡ false → cond b v.entered (entered_of (vs ++ u ∷ []) u.member u.token) ≡ u.entered
    at true ih h = absurd (true≢false h)
    at false ih h = ih h

-- the entered token of an unused token is itself, also after another token is used
pub entered_of-unused : (tokens : List Used) (m : ℕ) (t : Token) → is_used tokens m t ≡ false → entered_of tokens m t ≡ t
entered_of-unused [] m t h = refl
entered_of-unused (v ∷ vs) m t h = at (is_use m t v) (entered_of-unused vs m t) h
  where
    at : (b : Bool) → (is_used vs m t ≡ false → entered_of vs m t ≡ t) → (b || is_used vs m t) ≡ false → cond b v.entered (entered_of vs m t) ≡ t
    at true ih h = absurd (true≢false h)
    at false ih h = ih h

pub index_of-pushed : (tokens : List Used) (u : Used) (m : ℕ) (t : Token) → is_used tokens m t ≡ true → index_of (tokens ++ u ∷ []) m t ≡ index_of tokens m t
index_of-pushed [] u m t h = absurd (true≢false (sym h))
index_of-pushed (v ∷ vs) u m t h = at (is_use m t v) (index_of-pushed vs u m t) h
  where
    at : (b : Bool) → (is_used vs m t ≡ true → index_of (vs ++ u ∷ []) m t ≡ index_of vs m t) → (b || is_used vs m t) ≡ true
        → cond b 0 (index_of (vs ++ u ∷ []) m t + 1) ≡ cond b 0 (index_of vs m t + 1)
    at true ih h = refl
    at false ih h = ap (λ n. n + 1) (ih h)

pub index_of-new : (tokens : List Used) (u : Used) → is_used tokens u.member u.token ≡ false → index_of (tokens ++ u ∷ []) u.member u.token ≡ length tokens
index_of-new [] u h = ap (λ b. cond b 0 1) (is_same-itself u.member u.token)
index_of-new (v ∷ vs) u h = at (is_use u.member u.token v) (index_of-new vs u) h
  where
    at : (b : Bool) → (is_used vs u.member u.token ≡ false → index_of (vs ++ u ∷ []) u.member u.token ≡ length vs) → (b || is_used vs u.member u.token) ≡ false → cond b 0 (index_of (vs ++ u ∷ []) u.member u.token + 1) ≡ suc (length vs)
    at true ih h = absurd (true≢false h)
    at false ih h = omega (arith, ih h)

-- that token is at the index of a used token
pub slice_get-index_of : (tokens : List Used) (m : ℕ) (t : Token) → is_used tokens m t ≡ true → slice_get tokens (index_of tokens m t) ≡ Some (replacing_used m t (entered_of tokens m t))
slice_get-index_of [] m t h = absurd (true≢false (sym h))
slice_get-index_of (v ∷ vs) m t h = at (is_use m t v) (slice_get-index_of vs m t) refl h
  where
    next : (n : ℕ) → slice_get (v ∷ vs) (n + 1) ≡ slice_get vs n
    next n = ap (λ k. slice_get (v ∷ vs) k) (let one : n + 1 ≡ suc n = omega arith in one)

    at : (b : Bool) → (is_used vs m t ≡ true → slice_get vs (index_of vs m t) ≡ Some (replacing_used m t (entered_of vs m t))) → is_use m t v ≡ b → (b || is_used vs m t) ≡ true
        → slice_get (v ∷ vs) (cond b 0 (index_of vs m t + 1)) ≡ Some (replacing_used m t (cond b v.entered (entered_of vs m t)))
    at true ih e h = let p = is_same-parts v.member v.token m t e in λ j. Some (replacing_used (p.0 j) (p.1 j) v.entered)
    at false ih e h = next (index_of vs m t) ∙ ih h

-- the token at an index is used
pub is_used-at : (tokens : List Used) (i : ℕ) (u : Used) → slice_get tokens i ≡ Some u → is_used tokens u.member u.token ≡ true
is_used-at [] i u h = absurd cc
is_used-at (v ∷ vs) zero u h =
    let same : v ≡ u = ap (λ o. elim o as (λ _. Used) [ Some w ↦ w | None ↦ v ]) h in
    ap (λ b. b || is_used vs u.member u.token) (subst (λ w. is_use w.member w.token v ≡ true) same (is_same-itself v.member v.token))
is_used-at (v ∷ vs) (suc i) u h = at (is_use u.member u.token v) (is_used-at vs i u h)
  where
    at : (b : Bool) → is_used vs u.member u.token ≡ true → (b || is_used vs u.member u.token) ≡ true
    at true h = refl
    at false h = h

-- the entries that are there stay
pub slice_get-pushed : {X : Type 0} (xs : List X) (y : X) (i : ℕ) (x : X) → slice_get xs i ≡ Some x → slice_get (xs ++ y ∷ []) i ≡ Some x
slice_get-pushed [] y i x h = absurd cc
slice_get-pushed (z ∷ zs) y zero x h = h
slice_get-pushed (z ∷ zs) y (suc i) x h = slice_get-pushed zs y i x h

-- after a chain begins

pub has_chain-pushed : (chains : List Chain) (c : Chain) (m : ℕ) (e : Token) → has_chain (chains ++ c ∷ []) m e ≡ (has_chain chains m e || is_chain m e c)
has_chain-pushed [] c m e = or-false (is_chain m e c)
has_chain-pushed (d ∷ ds) c m e = ap (λ b. is_chain m e d || b) (has_chain-pushed ds c m e) ∙ sym (or_assoc (is_chain m e d) (has_chain ds m e) (is_chain m e c))

-- after a chain is noted

pub has_chain-note : (m : ℕ) (e : Token) (n : ℕ) (d : Bool) (chains : List Chain) (k : ℕ) (f : Token) → has_chain (note m e n d chains) k f ≡ has_chain chains k f
has_chain-note m e n d [] k f = refl
has_chain-note m e n d (c ∷ cs) k f = at (is_chain m e c) ∙ ap (λ b. is_chain k f c || b) (has_chain-note m e n d cs k f)
  where
    at : (b : Bool) → (is_chain k f (cond b (record c { executed = c.executed + n; displayed = c.displayed || d; traded = c.traded || nat_lt 0 n }) c) || has_chain (note m e n d cs) k f)
        ≡ (is_chain k f c || has_chain (note m e n d cs) k f)
    at true = refl
    at false = refl

pub is_loud-note-other : (m : ℕ) (e : Token) (n : ℕ) (d : Bool) (chains : List Chain) (k : ℕ) (f : Token) → is_same m e k f ≡ false → is_loud (note m e n d chains) k f ≡ is_loud chains k f
is_loud-note-other m e n d [] k f o = refl
is_loud-note-other m e n d (c ∷ cs) k f o = at (is_chain m e c) (is_loud-note-other m e n d cs k f o) refl
  where
    other : is_chain m e c ≡ true → is_chain k f c ≡ false
    other p = let q = is_same-parts c.member c.entered m e p in (λ j. is_same (q.0 j) (q.1 j) k f) ∙ o

    at : (b : Bool) → is_loud (note m e n d cs) k f ≡ is_loud cs k f → is_chain m e c ≡ b
        → (let x = cond b (record c { executed = c.executed + n; displayed = c.displayed || d; traded = c.traded || nat_lt 0 n }) c in
        ((is_chain k f x && (x.displayed || x.traded)) || is_loud (note m e n d cs) k f)) ≡ ((is_chain k f c && (c.displayed || c.traded)) || is_loud cs k f)
    at true rest p = ap (λ b. (b && ((c.displayed || d) || (c.traded || nat_lt 0 n))) || is_loud (note m e n d cs) k f) (other p) ∙ rest ∙ sym (ap (λ b. (b && (c.displayed || c.traded)) || is_loud cs k f) (other p))
    at false rest p = ap (λ r. (is_chain k f c && (c.displayed || c.traded)) || r) rest

shuffle : (a b x y z : Bool) → (((a || x) || (b || y)) || (z || (x || y))) ≡ (((a || b) || z) || (x || y))
shuffle true b x y z = refl
shuffle false true true y z = refl
shuffle false true false y z = refl
shuffle false false true y true = refl
shuffle false false true y false = refl
shuffle false false false true true = refl
shuffle false false false true false = refl
shuffle false false false false z = refl

plain : (a b x y : Bool) → (((a || x) || (b || y)) || false) ≡ (((a || b) || false) || (x || y))
plain a b x y = same-or (((a || x) || (b || y))) (((a || b) || false) || (x || y)) (mixed a b x y)
  where
    same-or : (p q : Bool) → p ≡ q → (p || false) ≡ q
    same-or p q h = or-false p ∙ h

    mixed : (a b x y : Bool) → ((a || x) || (b || y)) ≡ (((a || b) || false) || (x || y))
    mixed true b x y = refl
    mixed false true true y = refl
    mixed false true false y = refl
    mixed false false true y = refl
    mixed false false false y = refl

-- a chain that is not there is not loud, also after a note
is_loud-none : (chains : List Chain) (m : ℕ) (e : Token) → has_chain chains m e ≡ false → is_loud chains m e ≡ false
is_loud-none [] m e h = refl
is_loud-none (c ∷ cs) m e h = at (is_chain m e c) h (is_loud-none cs m e)
  where
    at : (b : Bool) → (b || has_chain cs m e) ≡ false → (has_chain cs m e ≡ false → is_loud cs m e ≡ false) → ((b && (c.displayed || c.traded)) || is_loud cs m e) ≡ false
    at true h ih = absurd (true≢false h)
    at false h ih = ih h

-- a chain that is noted is loud if it was, is displayed now, or trades now
pub is_loud-note : (m : ℕ) (e : Token) (n : ℕ) (d : Bool) (chains : List Chain) → has_chain chains m e ≡ true → is_loud (note m e n d chains) m e ≡ (is_loud chains m e || (d || nat_lt 0 n))
is_loud-note m e n d [] h = absurd (true≢false (sym h))
is_loud-note m e n d (c ∷ cs) h =
    at (is_chain m e c) refl h (is_loud-note m e n d cs)
    (λ g. is_loud-none (note m e n d cs) m e (has_chain-note m e n d cs m e ∙ g)) (λ g. is_loud-none cs m e g)
  where
    new : Bool
    new = is_loud (note m e n d cs) m e

    both : (a b x y z : Bool) → (h : Bool) → has_chain cs m e ≡ h → (has_chain cs m e ≡ true → new ≡ (z || (x || y))) → (has_chain cs m e ≡ false → new ≡ false) → (has_chain cs m e ≡ false → z ≡ false)
        → (((a || x) || (b || y)) || new) ≡ (((a || b) || z) || (x || y))
    both a b x y z true g some none old = ap (λ w. ((a || x) || (b || y)) || w) (some g) ∙ shuffle a b x y z
    both a b x y z false g some none old = ap (λ w. ((a || x) || (b || y)) || w) (none g) ∙ plain a b x y ∙ sym (ap (λ w. ((a || b) || w) || (x || y)) (old g))

    at : (b : Bool) → is_chain m e c ≡ b → (b || has_chain cs m e) ≡ true → (has_chain cs m e ≡ true → new ≡ (is_loud cs m e || (d || nat_lt 0 n)))
        → (has_chain cs m e ≡ false → new ≡ false) → (has_chain cs m e ≡ false → is_loud cs m e ≡ false)
        → (let x = cond b (record c { executed = c.executed + n; displayed = c.displayed || d; traded = c.traded || nat_lt 0 n }) c in
        ((is_chain m e x && (x.displayed || x.traded)) || new)) ≡ (((b && (c.displayed || c.traded)) || is_loud cs m e) || (d || nat_lt 0 n))
    at true p h some none old =
        ap (λ b. (b && ((c.displayed || d) || (c.traded || nat_lt 0 n))) || new) p
        ∙ both c.displayed c.traded d (nat_lt 0 n) (is_loud cs m e) (has_chain cs m e) refl some none old
    at false p h some none old = ap (λ b. (b && (c.displayed || c.traded)) || new) p ∙ some h
