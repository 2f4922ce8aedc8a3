-- Of the chains of one name the first is loud if a later one is: so the facts of the name say whether the chain is
-- loud.
use Rattle.std.proofs.Common.{◌≡◌, ℕ, Bool, true, false, cond, refl, sym, ◌∙◌, ltb, ◌||◌, ◌&&◌, List, [], ◌∷◌, ◌++◌}
use Rattle.std.proofs.lemmas.Bool.{or_right}
use Rattle.hx_units.specs.declared.names.Token.{Token}
use Rattle.hx_match.specs.Matching.{Execution}
use Rattle.hx_members.specs.Chains.{Used, Chain, is_chain, is_loud, noted, note, entered_of, entered_chain}
use Rattle.hx_members.specs.Tokens.{facts_of}
use Rattle.hx_members.proofs.ChainLaws.{is_same-parts, is_same-flip, is_loud-note-other}
use Rattle.hx_market.specs.Executions.{chains_after}
use Rattle.hx_audit.specs.Facts.{are_loud, FactsTell}

-- each chain is loud if a later one of its name is
abbrev pub AreLed : List Chain → Type 0
AreLed [] = Unit {0}
AreLed (c ∷ chains) = (is_loud chains c.member c.entered ≡ true → (c.displayed || c.traded) ≡ true) × AreLed chains

or_absorb : (a b : Bool) → (b ≡ true → a ≡ true) → (a || b) ≡ a
or_absorb true b h = refl
or_absorb false true h = sym (h refl)
or_absorb false false h = refl

pub facts_tell : (chains : List Chain) → AreLed chains → FactsTell chains
facts_tell [] led m e = refl
facts_tell (c ∷ cs) led m e = at (is_chain m e c) refl (facts_tell cs led.1 m e)
  where
    at : (b : Bool) → is_chain m e c ≡ b → is_loud cs m e ≡ are_loud (facts_of cs m e)
        → ((b && (c.displayed || c.traded)) || is_loud cs m e)
        ≡ are_loud (cond b (record { executed = c.executed; displayed = c.displayed; traded = c.traded }) (facts_of cs m e))
    at true p rest = let q = is_same-parts c.member c.entered m e p in or_absorb _ _ (λ h. led.0 ((λ j. is_loud cs (q.0 j) (q.1 j)) ∙ h))
    at false p rest = rest

-- what is loud after a note was loud, or the note says so
loud_noted : (cs : List Chain) (m : ℕ) (e : Token) (n : ℕ) (d : Bool) (k : ℕ) (f : Token) → is_loud (note m e n d cs) k f ≡ true → (is_loud cs k f || (d || ltb 0 n)) ≡ true
loud_noted [] m e n d k f h = absurd (let z : false ≡ true = h in cc)
loud_noted (c ∷ cs) m e n d k f h = at (is_chain m e c) (loud_noted cs m e n d k f) h
  where
    by_note : (q a b d l s r : Bool) → (s ≡ true → (r || (d || l)) ≡ true) → ((q && ((a || d) || (b || l))) || s) ≡ true → (((q && (a || b)) || r) || (d || l)) ≡ true
    by_note q a b true l s r f h = or_right _ true refl
    by_note q a b false true s r f h = or_right _ true refl
    by_note true true b false false s r f h = refl
    by_note true false true false false s r f h = refl
    by_note true false false false false true r f h = f refl
    by_note true false false false false false r f h = absurd (let z : false ≡ true = h in cc)
    by_note false a b false false true r f h = f refl
    by_note false a b false false false r f h = absurd (let z : false ≡ true = h in cc)

    by_rest : (p s r x : Bool) → (s ≡ true → (r || x) ≡ true) → (p || s) ≡ true → ((p || r) || x) ≡ true
    by_rest true s r x f h = refl
    by_rest false s r x f h = f h

    at : (b : Bool) → (is_loud (note m e n d cs) k f ≡ true → (is_loud cs k f || (d || ltb 0 n)) ≡ true)
        → (let x : Chain = cond b (noted n d c) c in ((is_chain k f x && (x.displayed || x.traded)) || is_loud (note m e n d cs) k f)) ≡ true
        → (((is_chain k f c && (c.displayed || c.traded)) || is_loud cs k f) || (d || ltb 0 n)) ≡ true
    at true rest h = by_note (is_chain k f c) c.displayed c.traded d (ltb 0 n) _ _ rest h
    at false rest h = by_rest _ _ _ _ rest h

pub led_note : (cs : List Chain) (m : ℕ) (e : Token) (n : ℕ) (d : Bool) → AreLed cs → AreLed (note m e n d cs)
led_note [] m e n d led = tt
led_note (c ∷ cs) m e n d led = (at (is_chain m e c) refl, led_note cs m e n d led.1)
  where
    by_note : (a b d l s : Bool) → (s ≡ true → (a || b) ≡ true) → (s || (d || l)) ≡ true → ((a || d) || (b || l)) ≡ true
    by_note true b d l s f h = refl
    by_note false true true l s f h = refl
    by_note false true false l s f h = refl
    by_note false false true l s f h = refl
    by_note false false false true s f h = refl
    by_note false false false false true f h = f refl
    by_note false false false false false f h = h

    at : (b : Bool) → is_chain m e c ≡ b
        → (let x : Chain = cond b (noted n d c) c in is_loud (note m e n d cs) x.member x.entered ≡ true → (x.displayed || x.traded) ≡ true)
    at true p h = by_note c.displayed c.traded d (ltb 0 n) _ led.0 (loud_noted cs m e n d c.member c.entered h)
    at false p h = led.0 (sym (is_loud-note-other m e n d cs c.member c.entered (is_same-flip m e c.member c.entered ∙ p)) ∙ h)

-- a chain that begins is not loud
loud_pushed : (cs : List Chain) (m : ℕ) (t : Token) (k : ℕ) (f : Token) → is_loud (cs ++ entered_chain m t ∷ []) k f ≡ is_loud cs k f
loud_pushed [] m t k f = at (is_chain k f (entered_chain m t))
  where
    at : (b : Bool) → ((b && false) || false) ≡ false
    at true = refl
    at false = refl
loud_pushed (c ∷ cs) m t k f = (λ j. (is_chain k f c && (c.displayed || c.traded)) || loud_pushed cs m t k f j)

pub led_pushed : (cs : List Chain) (m : ℕ) (t : Token) → AreLed cs → AreLed (cs ++ entered_chain m t ∷ [])
led_pushed [] m t led = ((λ h. absurd (let z : false ≡ true = h in cc)), tt)
led_pushed (c ∷ cs) m t led = ((λ h. led.0 (sym (loud_pushed cs m t c.member c.entered) ∙ h)), led_pushed cs m t led.1)

pub led_executions : (es : List Execution) (ts : List Used) (cs : List Chain) (m : ℕ) (e : Token) → AreLed cs → AreLed (chains_after ts m e es cs)
led_executions [] ts cs m e led = led
led_executions (f ∷ es) ts cs m e led =
    led_executions es ts _ m e (led_note _ m e f.shares false (led_note cs f.order.member (entered_of ts f.order.member f.order.token) f.shares false led))

pub led_displayed : (b : Bool) (cs : List Chain) (m : ℕ) (e : Token) → AreLed cs → AreLed (cond b (note m e 0 true cs) cs)
led_displayed true cs m e led = led_note cs m e 0 true led
led_displayed false cs m e led = led
