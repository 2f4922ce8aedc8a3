-- What an event adds to the listed uses of a member.
use Rattle.std.proofs.Common.{◌≡◌, ℕ, Bool, true, false, cond, eqb, not, ◌&&◌, ◌||◌, refl, sym, ap, ◌∙◌, subst, inl, inr, ◌⊎◌, List, [], ◌∷◌, ◌++◌, map, append-nil, Option, Some, None, is_some, unwrap_or}
use Rattle.std.specs.List.{filter, find}
use Rattle.std.specs.Map.{lookup}
use Rattle.std.proofs.lemmas.Bool.{true≢false}
use Rattle.std.proofs.lemmas.Bool.Decides.{Decides-eqb}
use Rattle.hx_units.specs.Names.{is_token}
use Rattle.hx_units.specs.declared.names.Token.{Token}
use Rattle.hx_members.specs.Setups.{Setup}
use Rattle.hx_members.specs.Chains.{Used, Chain, is_used, entered_of, entered_used, replacing_used}
use Rattle.hx_members.specs.Tokens.{facts_of}
use Rattle.hx_members.proofs.ChainLaws.{entered_of-unused}
use Rattle.hx_ouch.specs.declared.inbound.Inbound.{Inbound}
use Rattle.hx_ouch.specs.declared.inbound.Inbound.TheVariants.{Enter, Replace, Cancel}
use Rattle.hx_ouch.specs.Inbound.{inbound_of}
use Rattle.hx_rules.specs.declared.event.Event.{Event}
use Rattle.hx_rules.specs.declared.event.Event.TheVariants.{Message, Tick, Hours, Halt, Break}
use Rattle.hx_market.specs.Orders.{Order, is_called}
use Rattle.hx_market.specs.Markets.{Market}
use Rattle.hx_market.specs.MarketModel.{chain_facts}
use Rattle.hx_market.specs.Steps.{step}
use Rattle.hx_laws.proofs.History.CoherentSteps.{used_last}
use Rattle.hx_market.specs.Replace.{is_order_halted}
use Rattle.hx_audit.specs.declared.listing.Naming.{Naming}
use Rattle.hx_audit.specs.Listing.{Use, use_of, uses_of}
use Rattle.hx_audit.specs.Finding.{named_by, named}
use Rattle.hx_audit.proofs.Goes.{joined_if, message_uses, step_goes}
use Rattle.hx_audit.proofs.Grouping.{token_flip}

uses_push : (ts us : List Used) (m : ℕ) → uses_of (ts ++ us) m ≡ uses_of ts m ++ uses_of us m
uses_push [] us m = refl
uses_push (u ∷ ts) us m = at (eqb u.member m) (uses_push ts us m)
  where
    at : (b : Bool) → uses_of (ts ++ us) m ≡ uses_of ts m ++ uses_of us m
        → map (λ (v : Used). use_of v.token v.entered) (cond b (u ∷ filter (λ v. eqb v.member m) (ts ++ us)) (filter (λ v. eqb v.member m) (ts ++ us)))
        ≡ map (λ (v : Used). use_of v.token v.entered) (cond b (u ∷ filter (λ v. eqb v.member m) ts) (filter (λ v. eqb v.member m) ts)) ++ uses_of us m
    at true ih = ap (λ (l : List Use). use_of u.token u.entered ∷ l) ih
    at false ih = ih

-- what the list says of a token
pub lookup_uses : (ts : List Used) (m : ℕ) (t : Token) → lookup (is_token t) (uses_of ts m) ≡ cond (is_used ts m t) (Some (entered_of ts m t)) None
lookup_uses [] m t = refl
lookup_uses (u ∷ ts) m t = at (eqb u.member m) (is_token u.token t) (token_flip t u.token) (lookup_uses ts m t)
  where
    at : (b c : Bool) → is_token t u.token ≡ c → lookup (is_token t) (uses_of ts m) ≡ cond (is_used ts m t) (Some (entered_of ts m t)) None
        → lookup (is_token t) (map (λ (v : Used). use_of v.token v.entered) (cond b (u ∷ filter (λ v. eqb v.member m) ts) (filter (λ v. eqb v.member m) ts)))
        ≡ cond ((b && c) || is_used ts m t) (Some (cond (b && c) u.entered (entered_of ts m t))) None
    at false c f ih = ih
    at true true f ih = ap (λ (d : Bool). cond d (Some u.entered) (lookup (is_token t) (uses_of ts m))) f
    at true false f ih = ap (λ (d : Bool). cond d (Some u.entered) (lookup (is_token t) (uses_of ts m))) f ∙ ih

pub has_used : (ts : List Used) (m : ℕ) (t : Token) → is_some (lookup (is_token t) (uses_of ts m)) ≡ is_used ts m t
has_used ts m t = ap is_some (lookup_uses ts m t) ∙ at (is_used ts m t)
  where
    at : (b : Bool) → is_some (cond b (Some (entered_of ts m t)) None) ≡ b
    at true = refl
    at false = refl

pub entered_listed : (ts : List Used) (m : ℕ) (t : Token) → unwrap_or (lookup (is_token t) (uses_of ts m)) t ≡ entered_of ts m t
entered_listed ts m t = ap (λ (o : Option Token). unwrap_or o t) (lookup_uses ts m t) ∙ at (is_used ts m t) refl
  where
    at : (b : Bool) → is_used ts m t ≡ b → unwrap_or (cond b (Some (entered_of ts m t)) None) t ≡ entered_of ts m t
    at true h = refl
    at false h = sym (entered_of-unused ts m t h)

pub some_output : (ts : List Used) (cs : List Chain) (m : ℕ) (t : Token) → is_some (chain_facts ts cs m t) ≡ is_used ts m t
some_output ts cs m t = at (is_used ts m t)
  where
    at : (b : Bool) → is_some (cond b (Some (facts_of cs m (entered_of ts m t))) None) ≡ b
    at true = refl
    at false = refl

-- What a message uses is what it names, or nothing.

abbrev UsesAs : Market → ℕ → Option Naming → List Used → Type 0
UsesAs a k None us = us ≡ []
UsesAs a k (Some n) us = (us ≡ []) ⊎ ((is_used a.tokens k n.token ≡ false) × (us ≡ replacing_used k n.token (entered_of a.tokens k n.existing) ∷ []))

uses_as : (a : Market) (k : ℕ) (x : Option Inbound) → UsesAs a k (named_by x) (message_uses a k x)
uses_as a k None = refl
uses_as a k (Some (Cancel c)) = refl
uses_as a k (Some (Enter e)) = at (is_used a.tokens k e.token) refl
  where
    at : (b : Bool) → is_used a.tokens k e.token ≡ b → UsesAs a k (Some (record { token = e.token; existing = e.token })) (cond b [] (entered_used k e.token ∷ []))
    at true h = inl refl
    at false h = inr (h, ap (λ (t : Token). replacing_used k e.token t ∷ []) (sym (entered_of-unused a.tokens k e.token h)))
uses_as a k (Some (Replace r)) =
    at (find (is_called k r.existing_token) a.live) (is_used a.tokens k r.replacement_token) refl (is_order_halted a.halted (find (is_called k r.existing_token) a.live))
  where
    at : (o : Option Order) (b : Bool) → is_used a.tokens k r.replacement_token ≡ b → (d : Bool) → UsesAs a k (Some (record { token = r.replacement_token; existing = r.existing_token })) (joined_if a k r o b d)
    at None b h d = inl refl
    at (Some x) true h d = inl refl
    at (Some x) false h true = inl refl
    at (Some x) false h false = inr (h, refl)

-- how the listed uses go on
abbrev pub Lists : Market → Market → ℕ → Option Naming → Type 0
Lists a b m None = uses_of b.tokens m ≡ uses_of a.tokens m
Lists a b m (Some n) =
    (is_used a.tokens m n.token ≡ true → uses_of b.tokens m ≡ uses_of a.tokens m)
    × (is_used b.tokens m n.token ≡ false → uses_of b.tokens m ≡ uses_of a.tokens m)
    × (is_used a.tokens m n.token ≡ false → is_used b.tokens m n.token ≡ true → uses_of b.tokens m ≡ uses_of a.tokens m ++ use_of n.token (entered_of a.tokens m n.existing) ∷ [])

no_uses : (a b : Market) (us : List Used) → b.tokens ≡ a.tokens ++ us → us ≡ [] → b.tokens ≡ a.tokens
no_uses a b us t e = t ∙ ap (λ (l : List Used). a.tokens ++ l) e ∙ append-nil a.tokens

lists_own : (a b : Market) (m : ℕ) (o : Option Naming) (us : List Used) → b.tokens ≡ a.tokens ++ us → UsesAs a m o us → Lists a b m o
lists_own a b m None us t e = ap (λ (l : List Used). uses_of l m) (no_uses a b us t e)
lists_own a b m (Some n) us t (inl e) =
    let same = no_uses a b us t e in
    let retained : uses_of b.tokens m ≡ uses_of a.tokens m = ap (λ (l : List Used). uses_of l m) same in
    ((λ _. retained), (λ _. retained), (λ f g. absurd (true≢false (sym g ∙ ap (λ (l : List Used). is_used l m n.token) same ∙ f))))
lists_own a b m (Some n) us t (inr p) =
    let u : Used = replacing_used m n.token (entered_of a.tokens m n.existing) in
    let more : b.tokens ≡ a.tokens ++ u ∷ [] = t ∙ ap (λ (l : List Used). a.tokens ++ l) p.1 in
    let own : eqb m m ≡ true = (Decides-eqb m m).1 refl in (
      (λ h. absurd (true≢false (sym h ∙ p.0))),
      (λ h. absurd (true≢false (sym (used_last a.tokens u) ∙ ap (λ (l : List Used). is_used l m n.token) (sym more) ∙ h))),
      (λ f g. ap (λ (l : List Used). uses_of l m) more ∙ uses_push a.tokens (u ∷ []) m
          ∙ ap (λ (c : Bool). uses_of a.tokens m ++ map (λ (v : Used). use_of v.token v.entered) (cond c (u ∷ []) [])) own),
    )

-- the uses of another member are not listed
lists_other : (a b : Market) (k m : ℕ) (o : Option Naming) (us : List Used) → eqb k m ≡ false → b.tokens ≡ a.tokens ++ us → UsesAs a k o us → uses_of b.tokens m ≡ uses_of a.tokens m
lists_other a b k m None us d t e = ap (λ (l : List Used). uses_of l m) (no_uses a b us t e)
lists_other a b k m (Some n) us d t (inl e) = ap (λ (l : List Used). uses_of l m) (no_uses a b us t e)
lists_other a b k m (Some n) us d t (inr p) =
    let u : Used = replacing_used k n.token (entered_of a.tokens k n.existing) in
    ap (λ (l : List Used). uses_of l m) (t ∙ ap (λ (l : List Used). a.tokens ++ l) p.1) ∙ uses_push a.tokens (u ∷ []) m
    ∙ ap (λ (c : Bool). uses_of a.tokens m ++ map (λ (v : Used). use_of v.token v.entered) (cond c (u ∷ []) [])) d ∙ append-nil _

pub step_lists : (setup : Setup) (a : Market) (event : Event) (m : ℕ) → Lists a (step setup a event).market m (named m event)
step_lists setup a (Message k time bytes) m = at (eqb k m) refl
  where
    b : Market
    b = (step setup a (Message k time bytes)).market

    us : List Used
    us = message_uses a k (inbound_of bytes)

    at : (c : Bool) → eqb k m ≡ c → Lists a b m (cond c (named_by (inbound_of bytes)) None)
    at true h =
        lists_own a b m (named_by (inbound_of bytes)) us (step_goes setup a (Message k time bytes)).tokens
        (subst (λ j. UsesAs a j (named_by (inbound_of bytes)) us) ((Decides-eqb k m).0 h) (uses_as a k (inbound_of bytes)))
    at false h = lists_other a b k m (named_by (inbound_of bytes)) us h (step_goes setup a (Message k time bytes)).tokens (uses_as a k (inbound_of bytes))
step_lists setup a (Tick time) m = lists_own a (step setup a (Tick time)).market m None [] (step_goes setup a (Tick time)).tokens refl
step_lists setup a (Hours time code) m = lists_own a (step setup a (Hours time code)).market m None [] (step_goes setup a (Hours time code)).tokens refl
step_lists setup a (Halt time stock state reason) m =
    lists_own a (step setup a (Halt time stock state reason)).market m None [] (step_goes setup a (Halt time stock state reason)).tokens refl
step_lists setup a (Break time number) m = lists_own a (step setup a (Break time number)).market m None [] (step_goes setup a (Break time number)).tokens refl

-- the list stays except for a new use, which it gets
pub stays_listed : (a b : Market) (m : ℕ) (n : Naming) → Lists a b m (Some n) → (is_used b.tokens m n.token && not (is_used a.tokens m n.token)) ≡ false → uses_of b.tokens m ≡ uses_of a.tokens m
stays_listed a b m n l h = choose (is_used b.tokens m n.token) refl (is_used a.tokens m n.token) refl h
  where
    choose : (c : Bool) → is_used b.tokens m n.token ≡ c → (d : Bool) → is_used a.tokens m n.token ≡ d → (c && not d) ≡ false → uses_of b.tokens m ≡ uses_of a.tokens m
    choose true p true q h = l.0 q
    choose true p false q h = absurd (true≢false h)
    choose false p d q h = l.1 p

pub gets_listed : (a b : Market) (m : ℕ) (n : Naming) → Lists a b m (Some n) → (is_used b.tokens m n.token && not (is_used a.tokens m n.token)) ≡ true
    → (is_used a.tokens m n.token ≡ false) × (uses_of b.tokens m ≡ uses_of a.tokens m ++ use_of n.token (entered_of a.tokens m n.existing) ∷ [])
gets_listed a b m n l h = choose (is_used b.tokens m n.token) refl (is_used a.tokens m n.token) refl h
  where
    choose : (c : Bool) → is_used b.tokens m n.token ≡ c → (d : Bool) → is_used a.tokens m n.token ≡ d → (c && not d) ≡ true
        → (is_used a.tokens m n.token ≡ false) × (uses_of b.tokens m ≡ uses_of a.tokens m ++ use_of n.token (entered_of a.tokens m n.existing) ∷ [])
    choose true p false q h = (q, l.2 q p)
    choose true p true q h = absurd (true≢false (sym h))
    choose false p d q h = absurd (true≢false (sym h))
