-- Tokens stay used in their chains, and a chain that was displayed or has traded stays so.
use Rattle.std.proofs.Common.{◌≡◌, ℕ, Bool, true, false, cond, refl, ◌∙◌, ltb, ◌||◌, ◌&&◌, List, [], ◌∷◌, ◌++◌}
use Rattle.std.specs.List.{list_any}
use Rattle.std.proofs.lemmas.Bool.{or_left, or_right}
use Rattle.hx_match.specs.Matching.{Execution}
use Rattle.hx_members.specs.Chains.{Used, Chain, is_used, entered_of, has_chain, is_chain, is_loud, noted, note}
use Rattle.hx_members.proofs.ChainLaws.{is_used-pushed, entered_of-pushed, has_chain-note, is_loud-note}
use Rattle.hx_rules.specs.Orders.{Token}
use Rattle.hx_rules.specs.Executions.{chains_after}

-- how used tokens and chains may go on
pub record Grows (ts : List Used) (cs : List Chain) (us : List Used) (ds : List Chain) : Type 0 where
  pub used : (m : ℕ) (t : Token) → is_used ts m t ≡ true → is_used us m t ≡ true
  pub entered : (m : ℕ) (t : Token) → is_used ts m t ≡ true → entered_of us m t ≡ entered_of ts m t
  pub has : (m : ℕ) (e : Token) → has_chain cs m e ≡ true → has_chain ds m e ≡ true
  pub loud : (m : ℕ) (e : Token) → is_loud cs m e ≡ true → is_loud ds m e ≡ true

pub Grows_refl : (ts : List Used) (cs : List Chain) → Grows ts cs ts cs
Grows_refl ts cs = record { used = λ m t h. h; entered = λ m t h. refl; has = λ m e h. h; loud = λ m e h. h }

pub Grows_trans : (ts : List Used) (cs : List Chain) (us : List Used) (ds : List Chain) (vs : List Used) (es : List Chain) → Grows ts cs us ds → Grows us ds vs es → Grows ts cs vs es
Grows_trans ts cs us ds vs es a b =
    record {
      used = λ m t h. b.used m t (a.used m t h);
      entered = λ m t h. b.entered m t (a.used m t h) ∙ a.entered m t h;
      has = λ m e h. b.has m e (a.has m e h);
      loud = λ m e h. b.loud m e (a.loud m e h);
    }

any_more : {X : Type 0} (p : X → Bool) (xs ys : List X) → list_any p xs ≡ true → list_any p (xs ++ ys) ≡ true
any_more p [] ys h = absurd (let z : false ≡ true = h in cc)
any_more p (x ∷ xs) ys h = choose (p x) (any_more p xs ys) h
  where
    choose : (b : Bool) → (list_any p xs ≡ true → list_any p (xs ++ ys) ≡ true) → (b || list_any p xs) ≡ true → (b || list_any p (xs ++ ys)) ≡ true
    choose true ih h = refl
    choose false ih h = ih h

-- one more used token
pub Grows_token : (ts : List Used) (u : Used) (cs : List Chain) → Grows ts cs (ts ++ u ∷ []) cs
Grows_token ts u cs =
    record {
      used = λ m t h. is_used-pushed ts u m t ∙ or_left _ _ h;
      entered = λ m t h. entered_of-pushed ts u m t h;
      has = λ m e h. h;
      loud = λ m e h. h;
    }

-- one more chain
pub Grows_chain : (ts : List Used) (cs : List Chain) (c : Chain) → Grows ts cs ts (cs ++ c ∷ [])
Grows_chain ts cs c =
    record {
      used = λ m t h. h;
      entered = λ m t h. refl;
      has = λ m e h. any_more (is_chain m e) cs (c ∷ []) h;
      loud = λ m e h. any_more (λ d. is_chain m e d && (d.displayed || d.traded)) cs (c ∷ []) h;
    }

-- a note changes neither the names of the chains, nor what was noted
is_chain-noted : (b : Bool) (m : ℕ) (e : Token) (n : ℕ) (d : Bool) (c : Chain) → is_chain m e (cond b (noted n d c) c) ≡ is_chain m e c
is_chain-noted true m e n d c = refl
is_chain-noted false m e n d c = refl

loud_noted : (b : Bool) (n : ℕ) (d : Bool) (c : Chain) → (c.displayed || c.traded) ≡ true → ((cond b (noted n d c) c).displayed || (cond b (noted n d c) c).traded) ≡ true
loud_noted true n d c h = keeps c.displayed c.traded d (ltb 0 n) h
  where
    keeps : (a b d l : Bool) → (a || b) ≡ true → ((a || d) || (b || l)) ≡ true
    keeps true b d l h = refl
    keeps false true true l h = refl
    keeps false true false l h = refl
    keeps false false d l h = absurd (let z : false ≡ true = h in cc)
loud_noted false n d c h = h

loud_note : (cs : List Chain) (m : ℕ) (e : Token) (n : ℕ) (d : Bool) (k : ℕ) (r : Token) → is_loud cs k r ≡ true → is_loud (note m e n d cs) k r ≡ true
loud_note [] m e n d k r h = h
loud_note (c ∷ cs) m e n d k r h =
    rw (is_chain-noted (is_chain m e c) k r n d c)
    (choose (is_chain k r c) (c.displayed || c.traded) _ (is_loud cs k r) _ (loud_noted (is_chain m e c) n d c) (loud_note cs m e n d k r) h)
  where
    choose : (k l l' r r' : Bool) → (l ≡ true → l' ≡ true) → (r ≡ true → r' ≡ true) → ((k && l) || r) ≡ true → ((k && l') || r') ≡ true
    choose true true l' r r' a b h = rw (a refl) refl
    choose true false l' r r' a b h = or_right _ _ (b h)
    choose false l l' r r' a b h = b h

pub Grows_note : (ts : List Used) (cs : List Chain) (m : ℕ) (e : Token) (n : ℕ) (d : Bool) → Grows ts cs ts (note m e n d cs)
Grows_note ts cs m e n d = record { used = λ k t h. h; entered = λ k t h. refl; has = λ k r h. has_chain-note m e n d cs k r ∙ h; loud = λ k r h. loud_note cs m e n d k r h }

-- a note of executed shares, or of a display, makes its chain loud
pub note_makes_loud : (cs : List Chain) (m : ℕ) (e : Token) (n : ℕ) (d : Bool) → (d || ltb 0 n) ≡ true → has_chain cs m e ≡ true → is_loud (note m e n d cs) m e ≡ true
note_makes_loud cs m e n d h k = is_loud-note m e n d cs k ∙ or_right _ _ h

pub Grows_executions : (es : List Execution) (ts : List Used) (cs : List Chain) (m : ℕ) (e : Token) → Grows ts cs ts (chains_after ts m e es cs)
Grows_executions [] ts cs m e = Grows_refl ts cs
Grows_executions (f ∷ es) ts cs m e =
    let r = entered_of ts f.order.member f.order.token in
    Grows_trans _ _ _ _ _ _ (Grows_note ts cs f.order.member r f.shares false)
    (Grows_trans _ _ _ _ _ _ (Grows_note ts (note f.order.member r f.shares false cs) m e f.shares false) (Grows_executions es ts _ m e))
