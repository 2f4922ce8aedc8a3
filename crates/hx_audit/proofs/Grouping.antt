-- Uses grouped by their chains, when one more comes.
use Rattle.std.proofs.Common.{◌≡◌, Bool, true, false, cond, not, ◌||◌, refl, sym, ap, ◌∙◌, subst, List, [], ◌∷◌, ◌++◌, map, append-nil, Some, None}
use Rattle.std.specs.List.{filter, list_any}
use Rattle.std.specs.Map.{lookup, set_value}
use Rattle.std.proofs.lemmas.Bool.{true≢false}
use Rattle.std.proofs.lemmas.List.{map-append}
use Rattle.indexmap.specs.IndexMap.{insert_entry}
use Rattle.hx_units.specs.Names.{is_token}
use Rattle.hx_units.specs.declared.names.Token.{Token}
use Rattle.hx_members.proofs.ChainLaws.{same_token, is_token-itself}
use Rattle.hx_units.proofs.Booleans.{same_bools}
use Rattle.hx_audit.specs.Listing.{Use, use_of, tokens_in, each_once, grouped}
use Rattle.hx_audit.specs.Finding.{with_use}

pub token_flip : (s t : Token) → is_token s t ≡ is_token t s
token_flip s t = same_bools (is_token s t) (is_token t s) (over s t) (over t s)
  where
    over : (a b : Token) → is_token a b ≡ true → is_token b a ≡ true
    over a b h = subst (λ (x : Token). is_token x a ≡ true) (same_token a b h) (is_token-itself a)

-- What each_once retains.

filter_push : (p : Token → Bool) (xs : List Token) (e : Token) → filter p (xs ++ e ∷ []) ≡ filter p xs ++ cond (p e) (e ∷ []) []
filter_push p [] e = refl
filter_push p (x ∷ xs) e = at (p x) (filter_push p xs e)
  where
    at : (b : Bool) → filter p (xs ++ e ∷ []) ≡ filter p xs ++ cond (p e) (e ∷ []) []
        → cond b (x ∷ filter p (xs ++ e ∷ [])) (filter p (xs ++ e ∷ [])) ≡ cond b (x ∷ filter p xs) (filter p xs) ++ cond (p e) (e ∷ []) []
    at true ih = ap (λ (l : List Token). x ∷ l) ih
    at false ih = ih

pub once_push : (ns : List Token) (e : Token) → each_once (ns ++ e ∷ []) ≡ each_once ns ++ cond (list_any (is_token e) ns) [] (e ∷ [])
once_push [] e = refl
once_push (x ∷ ns) e =
    ap (λ (l : List Token). x ∷ filter (λ u. not (is_token u x)) l) (once_push ns e) ∙ at (is_token e x) refl (list_any (is_token e) ns)
  where
    at : (b : Bool) → is_token e x ≡ b → (a : Bool)
        → x ∷ filter (λ u. not (is_token u x)) (each_once ns ++ cond a [] (e ∷ [])) ≡ (x ∷ filter (λ u. not (is_token u x)) (each_once ns)) ++ cond (b || a) [] (e ∷ [])
    at true h true = ap (λ (l : List Token). x ∷ filter (λ u. not (is_token u x)) l) (append-nil (each_once ns)) ∙ sym (append-nil _)
    at false h true = ap (λ (l : List Token). x ∷ filter (λ u. not (is_token u x)) l) (append-nil (each_once ns)) ∙ sym (append-nil _)
    at true h false =
        ap (λ (l : List Token). x ∷ l) (filter_push (λ u. not (is_token u x)) (each_once ns) e ∙ ap (λ (c : Bool). filter (λ u. not (is_token u x)) (each_once ns) ++ cond (not c) (e ∷ []) []) h)
    at false h false =
        ap (λ (l : List Token). x ∷ l) (filter_push (λ u. not (is_token u x)) (each_once ns) e ∙ ap (λ (c : Bool). filter (λ u. not (is_token u x)) (each_once ns) ++ cond (not c) (e ∷ []) []) h)

-- a token other than x is there with and without those that are x
pub any_filter : (e x : Token) → is_token e x ≡ false → (l : List Token) → list_any (is_token e) (filter (λ u. not (is_token u x)) l) ≡ list_any (is_token e) l
any_filter e x h [] = refl
any_filter e x h (y ∷ l) = at (is_token y x) refl (any_filter e x h l)
  where
    other : is_token y x ≡ true → is_token e y ≡ false
    other p = ap (λ (z : Token). is_token e z) (same_token y x p) ∙ h

    at : (b : Bool) → is_token y x ≡ b → list_any (is_token e) (filter (λ u. not (is_token u x)) l) ≡ list_any (is_token e) l
        → list_any (is_token e) (cond (not b) (y ∷ filter (λ u. not (is_token u x)) l) (filter (λ u. not (is_token u x)) l)) ≡ (is_token e y || list_any (is_token e) l)
    at true p ih = ih ∙ sym (ap (λ (c : Bool). c || list_any (is_token e) l) (other p))
    at false p ih = ap (λ (c : Bool). is_token e y || c) ih

pub any_once : (e : Token) (ns : List Token) → list_any (is_token e) (each_once ns) ≡ list_any (is_token e) ns
any_once e [] = refl
any_once e (x ∷ ns) = at (is_token e x) refl (any_once e ns)
  where
    at : (b : Bool) → is_token e x ≡ b → list_any (is_token e) (each_once ns) ≡ list_any (is_token e) ns
        → (b || list_any (is_token e) (filter (λ u. not (is_token u x)) (each_once ns))) ≡ (b || list_any (is_token e) ns)
    at true h ih = refl
    at false h ih = any_filter e x h (each_once ns) ∙ ih

-- no token stands twice
abbrev AreOnce : List Token → Type 0
AreOnce [] = Unit {0}
AreOnce (x ∷ xs) = (list_any (is_token x) xs ≡ false) × AreOnce xs

none_filtered : (p : Token → Bool) (e : Token) (l : List Token) → list_any (is_token e) l ≡ false → list_any (is_token e) (filter p l) ≡ false
none_filtered p e [] h = refl
none_filtered p e (y ∷ l) h = at (p y) (is_token e y) refl h (none_filtered p e l)
  where
    at : (b c : Bool) → is_token e y ≡ c → (c || list_any (is_token e) l) ≡ false → (list_any (is_token e) l ≡ false → list_any (is_token e) (filter p l) ≡ false)
        → list_any (is_token e) (cond b (y ∷ filter p l) (filter p l)) ≡ false
    at b true q h ih = absurd (true≢false h)
    at true false q h ih = ap (λ (d : Bool). d || list_any (is_token e) (filter p l)) q ∙ ih h
    at false false q h ih = ih h

once_filtered : (p : Token → Bool) (l : List Token) → AreOnce l → AreOnce (filter p l)
once_filtered p [] h = tt
once_filtered p (y ∷ l) h = at (p y) (once_filtered p l h.1)
  where
    at : (b : Bool) → AreOnce (filter p l) → AreOnce (cond b (y ∷ filter p l) (filter p l))
    at true ih = (none_filtered p y l h.0, ih)
    at false ih = ih

none_left : (x : Token) (l : List Token) → list_any (is_token x) (filter (λ u. not (is_token u x)) l) ≡ false
none_left x [] = refl
none_left x (y ∷ l) = at (is_token y x) refl (none_left x l)
  where
    at : (b : Bool) → is_token y x ≡ b → list_any (is_token x) (filter (λ u. not (is_token u x)) l) ≡ false
        → list_any (is_token x) (cond (not b) (y ∷ filter (λ u. not (is_token u x)) l) (filter (λ u. not (is_token u x)) l)) ≡ false
    at true h ih = ih
    at false h ih = ap (λ (c : Bool). c || list_any (is_token x) (filter (λ u. not (is_token u x)) l)) (token_flip x y ∙ h) ∙ ih

are_once : (ns : List Token) → AreOnce (each_once ns)
are_once [] = tt
are_once (x ∷ ns) = (none_left x (each_once ns), once_filtered _ (each_once ns) (are_once ns))

-- The tokens of a chain.

tokens_push : (us : List Use) (t e x : Token) → tokens_in (us ++ use_of t e ∷ []) x ≡ tokens_in us x ++ cond (is_token e x) (t ∷ []) []
tokens_push [] t e x = at (is_token e x)
  where
    at : (b : Bool) → map (λ (u : Use). u.0) (cond b (use_of t e ∷ []) []) ≡ cond b (t ∷ []) []
    at true = refl
    at false = refl
tokens_push (u ∷ us) t e x = at (is_token u.1 x) (tokens_push us t e x)
  where
    at : (b : Bool) → tokens_in (us ++ use_of t e ∷ []) x ≡ tokens_in us x ++ cond (is_token e x) (t ∷ []) []
        → map (λ (v : Use). v.0) (cond b (u ∷ filter (λ v. is_token v.1 x) (us ++ use_of t e ∷ [])) (filter (λ v. is_token v.1 x) (us ++ use_of t e ∷ [])))
        ≡ map (λ (v : Use). v.0) (cond b (u ∷ filter (λ v. is_token v.1 x) us) (filter (λ v. is_token v.1 x) us)) ++ cond (is_token e x) (t ∷ []) []
    at true ih = ap (λ (l : List Token). u.0 ∷ l) ih
    at false ih = ih

-- a chain without uses has no tokens
no_tokens : (us : List Use) (e : Token) → list_any (is_token e) (map (λ u. u.1) us) ≡ false → tokens_in us e ≡ []
no_tokens [] e h = refl
no_tokens (u ∷ us) e h = at (is_token e u.1) refl h (no_tokens us e)
  where
    at : (b : Bool) → is_token e u.1 ≡ b → (b || list_any (is_token e) (map (λ v. v.1) us)) ≡ false → (list_any (is_token e) (map (λ v. v.1) us) ≡ false → tokens_in us e ≡ [])
        → map (λ (v : Use). v.0) (cond (is_token u.1 e) (u ∷ filter (λ v. is_token v.1 e) us) (filter (λ v. is_token v.1 e) us)) ≡ []
    at true p h ih = absurd (true≢false h)
    at false p h ih = ap (λ (c : Bool). map (λ (v : Use). v.0) (cond c (u ∷ filter (λ v. is_token v.1 e) us) (filter (λ v. is_token v.1 e) us))) (token_flip u.1 e ∙ p) ∙ ih h

-- the groups by these names
abbrev by_names : List Use → List Token → List (Token × List Token)
by_names us ns = map (λ x. (x, tokens_in us x)) ns

other_group : (us : List Use) (t e x : Token) → is_token e x ≡ false → tokens_in (us ++ use_of t e ∷ []) x ≡ tokens_in us x
other_group us t e x h = tokens_push us t e x ∙ ap (λ (c : Bool). tokens_in us x ++ cond c (t ∷ []) []) h ∙ append-nil _

-- the groups of other chains stay
others_stay : (us : List Use) (t e : Token) (ns : List Token) → list_any (is_token e) ns ≡ false → by_names (us ++ use_of t e ∷ []) ns ≡ by_names us ns
others_stay us t e [] h = refl
others_stay us t e (x ∷ ns) h = at (is_token e x) refl h (others_stay us t e ns)
  where
    at : (b : Bool) → is_token e x ≡ b → (b || list_any (is_token e) ns) ≡ false → (list_any (is_token e) ns ≡ false → by_names (us ++ use_of t e ∷ []) ns ≡ by_names us ns)
        → (x, tokens_in (us ++ use_of t e ∷ []) x) ∷ by_names (us ++ use_of t e ∷ []) ns ≡ (x, tokens_in us x) ∷ by_names us ns
    at true p h ih = absurd (true≢false h)
    at false p h ih = (λ j. (x, other_group us t e x p j) ∷ ih h j)

-- a use of a known chain, and one that begins a chain
known : (us : List Use) (t e : Token) (ns : List Token) → AreOnce ns → list_any (is_token e) ns ≡ true → by_names (us ++ use_of t e ∷ []) ns ≡ with_use (by_names us ns) e t
known us t e [] once h = absurd (true≢false (sym h))
known us t e (x ∷ ns) once h = at (is_token e x) refl h (known us t e ns once.1)
  where
    at : (b : Bool) → is_token e x ≡ b → (b || list_any (is_token e) ns) ≡ true → (list_any (is_token e) ns ≡ true → by_names (us ++ use_of t e ∷ []) ns ≡ with_use (by_names us ns) e t)
        → (x, tokens_in (us ++ use_of t e ∷ []) x) ∷ by_names (us ++ use_of t e ∷ []) ns
        ≡ cond b ((x, tokens_in us x ++ t ∷ []) ∷ by_names us ns) ((x, tokens_in us x) ∷ with_use (by_names us ns) e t)
    at true p h ih =
        let none : list_any (is_token e) ns ≡ false = ap (λ (z : Token). list_any (is_token z) ns) (same_token e x p) ∙ once.0 in
        let more : tokens_in (us ++ use_of t e ∷ []) x ≡ tokens_in us x ++ t ∷ [] = tokens_push us t e x ∙ ap (λ (c : Bool). tokens_in us x ++ cond c (t ∷ []) []) p in
        (λ j. (x, more j) ∷ others_stay us t e ns none j)
    at false p h ih = (λ j. (x, other_group us t e x p j) ∷ ih h j)

begun : (us : List Use) (t e : Token) (ns : List Token) → list_any (is_token e) ns ≡ false → with_use (by_names us ns) e t ≡ by_names us ns ++ (e, t ∷ []) ∷ []
begun us t e [] h = refl
begun us t e (x ∷ ns) h = at (is_token e x) h (begun us t e ns)
  where
    at : (b : Bool) → (b || list_any (is_token e) ns) ≡ false → (list_any (is_token e) ns ≡ false → with_use (by_names us ns) e t ≡ by_names us ns ++ (e, t ∷ []) ∷ [])
        → cond b ((x, tokens_in us x ++ t ∷ []) ∷ by_names us ns) ((x, tokens_in us x) ∷ with_use (by_names us ns) e t) ≡ (x, tokens_in us x) ∷ (by_names us ns ++ (e, t ∷ []) ∷ [])
    at true h ih = absurd (true≢false h)
    at false h ih = ap (λ (l : List (Token × List Token)). (x, tokens_in us x) ∷ l) (ih h)

pub grouped_push : (us : List Use) (t e : Token) → grouped (us ++ use_of t e ∷ []) ≡ with_use (grouped us) e t
grouped_push us t e =
    ap (λ (l : List Token). by_names (us ++ use_of t e ∷ []) (each_once l)) (map-append (λ (u : Use). u.1) us (use_of t e ∷ []))
    ∙ ap (λ (l : List Token). by_names (us ++ use_of t e ∷ []) l) (once_push ns e)
    ∙ at (list_any (is_token e) ns) refl
  where
    ns : List Token
    ns = map (λ u. u.1) us

    own : tokens_in (us ++ use_of t e ∷ []) e ≡ tokens_in us e ++ t ∷ []
    own = tokens_push us t e e ∙ ap (λ (c : Bool). tokens_in us e ++ cond c (t ∷ []) []) (is_token-itself e)

    at : (b : Bool) → list_any (is_token e) ns ≡ b → by_names (us ++ use_of t e ∷ []) (each_once ns ++ cond b [] (e ∷ [])) ≡ with_use (by_names us (each_once ns)) e t
    at true h = ap (λ (l : List Token). by_names (us ++ use_of t e ∷ []) l) (append-nil (each_once ns)) ∙ known us t e (each_once ns) (are_once ns) (any_once e ns ∙ h)
    at false h =
        let none : list_any (is_token e) (each_once ns) ≡ false = any_once e ns ∙ h in
        let one : tokens_in (us ++ use_of t e ∷ []) e ≡ t ∷ [] = own ∙ ap (λ (l : List Token). l ++ t ∷ []) (no_tokens us e h) in
        map-append (λ x. (x, tokens_in (us ++ use_of t e ∷ []) x)) (each_once ns) (e ∷ [])
        ∙ (λ j. others_stay us t e (each_once ns) none j ++ (e, one j) ∷ [])
        ∙ sym (begun us t e (each_once ns) none)

-- What the map does is what a use does.

pub put_known : (gs : List (Token × List Token)) (e t : Token) (v : List Token) → lookup (is_token e) gs ≡ Some v → set_value (is_token e) gs (v ++ t ∷ []) ≡ with_use gs e t
put_known [] e t v h = absurd (let z : None ≡ Some v = h in cc)
put_known (g ∷ gs) e t v h = at (is_token e g.0) h (put_known gs e t v)
  where
    at : (b : Bool) → cond b (Some g.1) (lookup (is_token e) gs) ≡ Some v → (lookup (is_token e) gs ≡ Some v → set_value (is_token e) gs (v ++ t ∷ []) ≡ with_use gs e t)
        → cond b ((g.0, v ++ t ∷ []) ∷ gs) (g ∷ set_value (is_token e) gs (v ++ t ∷ [])) ≡ cond b ((g.0, g.1 ++ t ∷ []) ∷ gs) (g ∷ with_use gs e t)
    at true h ih = let same : g.1 ≡ v = cc in ap (λ (w : List Token). (g.0, w ++ t ∷ []) ∷ gs) (sym same)
    at false h ih = ap (λ (l : List (Token × List Token)). g ∷ l) (ih h)

pub put_new : (gs : List (Token × List Token)) (e t : Token) → lookup (is_token e) gs ≡ None → insert_entry is_token gs e (t ∷ []) ≡ with_use gs e t
put_new [] e t h = refl
put_new (g ∷ gs) e t h = at (is_token e g.0) h (put_new gs e t)
  where
    at : (b : Bool) → cond b (Some g.1) (lookup (is_token e) gs) ≡ None → (lookup (is_token e) gs ≡ None → insert_entry is_token gs e (t ∷ []) ≡ with_use gs e t)
        → cond b ((g.0, t ∷ []) ∷ gs) (g ∷ insert_entry is_token gs e (t ∷ [])) ≡ cond b ((g.0, g.1 ++ t ∷ []) ∷ gs) (g ∷ with_use gs e t)
    at true h ih = absurd (let z : Some g.1 ≡ None = h in cc)
    at false h ih = ap (λ (l : List (Token × List Token)). g ∷ l) (ih h)
