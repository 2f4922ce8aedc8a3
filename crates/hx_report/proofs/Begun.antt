-- The chains that a day begins are those that are listed of its market.
use Rattle.std.proofs.Common.{◌≡◌, ℕ, Bool, true, false, cond, eqb, ◌||◌, refl, sym, ap, ◌∙◌, subst, List, [], ◌∷◌, ◌++◌, map, append-nil, Option, Some, None, is_some}
use Rattle.std.specs.Prelude.{IfSome, IfNone}
use Rattle.std.specs.List.{find, list_any, cons_option, AllByRecursion}
use Rattle.std.specs.Map.{lookup}
use Rattle.std.proofs.lemmas.Bool.{true≢false}
use Rattle.std.proofs.lemmas.Bool.Decides.{Decides-eqb}
use Rattle.std.proofs.lemmas.List.{map-append}
use Rattle.hx_units.specs.Names.{is_token}
use Rattle.hx_units.specs.Ranges.{IsMember}
use Rattle.hx_units.specs.declared.names.Token.{Token}
use Rattle.hx_members.specs.Setups.{Setup}
use Rattle.hx_members.specs.Chains.{Used, is_used, entered_of, entered_used}
use Rattle.hx_members.specs.Tokens.{facts_of}
use Rattle.hx_members.proofs.ChainLaws.{same_token, entered_of-unused}
use Rattle.hx_ouch.specs.declared.inbound.Inbound.{Inbound}
use Rattle.hx_ouch.specs.declared.inbound.Inbound.TheVariants.{Enter, Replace, Cancel}
use Rattle.hx_ouch.specs.declared.inbound.Replace.{Replace as Change}
use Rattle.hx_ouch.specs.declared.inbound.Enter.{Enter as NewOrder}
use Rattle.hx_ouch.specs.Inbound.{inbound_of}
use Rattle.hx_rules.specs.declared.event.Event.{Event}
use Rattle.hx_rules.specs.declared.event.Event.TheVariants.{Message, Tick, Hours, Halt, Break}
use Rattle.hx_market.specs.Orders.{Order, is_called}
use Rattle.hx_market.specs.Markets.{Market}
use Rattle.hx_market.specs.MarketModel.{chain_facts}
use Rattle.hx_market.specs.Steps.{step, sender}
use Rattle.hx_market.specs.Replace.{is_order_halted}
use Rattle.hx_laws.proofs.History.CoherentSteps.{Coherent, used_last}
use Rattle.hx_laws.proofs.History.EventMoves.{called_used}
use Rattle.hx_audit.specs.Facts.{AreOfMembers}
use Rattle.hx_audit.specs.Finding.{named_by, AreOutput}
use Rattle.hx_audit.specs.Listing.{Use, use_of, uses_of, tokens_in, each_once, grouped}
use Rattle.hx_audit.proofs.Goes.{joined_if, event_uses, step_goes}
use Rattle.hx_audit.proofs.Uses.{Lists, step_lists, lookup_uses, some_output}
use Rattle.hx_audit.proofs.Grouping.{any_once, once_push}
use Rattle.hx_report.specs.declared.census.Begun.{Begun}
use Rattle.hx_report.specs.Noted.{entered_by, begun_by, begun_by_message, entered_among}

-- ---- tokens of which each stands once

-- ---- the entered tokens of the uses

-- one use more
entered_push : (us : List Use) (t e : Token) → each_once (map (λ (u : Use). u.1) (us ++ use_of t e ∷ [])) ≡ each_once (map (λ (u : Use). u.1) us) ++ cond (list_any (is_token e) (map (λ (u : Use). u.1) us)) [] (e ∷ [])
entered_push us t e = ap each_once (map-append (λ (u : Use). u.1) us (use_of t e ∷ [])) ∙ once_push (map (λ (u : Use). u.1) us) e

-- each of them is used, if its chain has a state
used_of_output : (a : Market) (m : ℕ) (us : List Use) (ns : List Token) (e : Token)
    → AllByRecursion (λ (g : Token × List Token). chain_facts a.tokens a.chains m g.0 ≡ Some (facts_of a.chains m g.0)) (map (λ x. (x, tokens_in us x)) ns)
    → list_any (is_token e) ns ≡ true → is_used a.tokens m e ≡ true
used_of_output a m us [] e output h = absurd (true≢false (sym h))
used_of_output a m us (n ∷ ns) e output h = at (is_token e n) refl h (used_of_output a m us ns e output.1)
  where
    at : (b : Bool) → is_token e n ≡ b → (b || list_any (is_token e) ns) ≡ true → (list_any (is_token e) ns ≡ true → is_used a.tokens m e ≡ true) → is_used a.tokens m e ≡ true
    at true p h ih = ap (is_used a.tokens m) (same_token e n p) ∙ sym (some_output a.tokens a.chains m n) ∙ ap is_some output.0
    at false p h ih = ih h

-- a token that is not used is none of them
pub fresh : (a : Market) (m : ℕ) (e : Token) → AreOutput a m (grouped (uses_of a.tokens m)) → is_used a.tokens m e ≡ false → list_any (is_token e) (map (λ (u : Use). u.1) (uses_of a.tokens m)) ≡ false
fresh a m e output unused = at (list_any (is_token e) (map (λ (u : Use). u.1) us)) refl
  where
    us : List Use
    us = uses_of a.tokens m

    at : (b : Bool) → list_any (is_token e) (map (λ (u : Use). u.1) us) ≡ b → b ≡ false
    at false h = refl
    at true h =
        absurd (true≢false (sym (used_of_output a m us (each_once (map (λ (u : Use). u.1) us)) e output (any_once e (map (λ (u : Use). u.1) us) ∙ h)) ∙ unused))

-- what is looked up is one of them
looked_up : (us : List Use) (t e : Token) → lookup (is_token t) us ≡ Some e → list_any (is_token e) (map (λ (u : Use). u.1) us) ≡ true
looked_up [] t e h = absurd (let z : None ≡ Some e = h in cc)
looked_up (u ∷ us) t e h = at (is_token t u.0) h (looked_up us t e)
  where
    itself : (x y : Token) → x ≡ y → is_token x y ≡ true
    itself x y p = subst (λ (z : Token). is_token x z ≡ true) p (Rattle.hx_members.proofs.ChainLaws.is_token-itself x)

    or_true : (c : Bool) → (c || true) ≡ true
    or_true true = refl
    or_true false = refl

    at : (b : Bool) → cond b (Some u.1) (lookup (is_token t) us) ≡ Some e → (lookup (is_token t) us ≡ Some e → list_any (is_token e) (map (λ (v : Use). v.1) us) ≡ true)
        → (is_token e u.1 || list_any (is_token e) (map (λ (v : Use). v.1) us)) ≡ true
    at true p ih = let same : u.1 ≡ e = cc in ap (λ (c : Bool). c || list_any (is_token e) (map (λ (v : Use). v.1) us)) (itself e u.1 (sym same))
    at false p ih = ap (λ (c : Bool). is_token e u.1 || c) (ih p) ∙ or_true (is_token e u.1)

-- the entered token of a used one is one of them
pub known : (a : Market) (m : ℕ) (t : Token) → is_used a.tokens m t ≡ true → list_any (is_token (entered_of a.tokens m t)) (map (λ (u : Use). u.1) (uses_of a.tokens m)) ≡ true
known a m t used =
    looked_up (uses_of a.tokens m) t (entered_of a.tokens m t)
    (lookup_uses a.tokens m t ∙ ap (λ (b : Bool). cond b (Some (entered_of a.tokens m t)) None) used)

-- ---- one event more

-- the chain that an event begins, if its sender is a member
pub record Begins (a : Market) (event : Event) (o : Option Begun) : Type 0 where
  pub some : IfSome o (λ begun. begun_by a event ≡ Some begun)
  pub none : IfNone o (IsMember (sender event) → begun_by a event ≡ None)

-- nothing is begun
begun_none : (a : Market) (event : Event) (o : Option Begun) → Begins a event o → begun_by a event ≡ None → o ≡ None
begun_none a event None b h = refl
begun_none a event (Some begun) b h = absurd (let p : begun_by a event ≡ Some begun = b.some in let z : None ≡ Some begun = sym h ∙ p in cc)

-- this chain is begun
begun_this : (a : Market) (event : Event) (o : Option Begun) (begun : Begun) → Begins a event o → IsMember (sender event) → begun_by a event ≡ Some begun → o ≡ Some begun
begun_this a event None begun b is h = absurd (let p : begun_by a event ≡ None = b.none is in let z : None ≡ Some begun = sym p ∙ h in cc)
begun_this a event (Some other) begun b is h = sym (let p : begun_by a event ≡ Some other = b.some in sym h ∙ p)

-- what is begun goes to this list
abbrev Goes : Market → Market → ℕ → Option Begun → Type 0
Goes a b m o = entered_by b m ≡ entered_by a m ++ entered_among m (cons_option o [])

none_goes : (a b : Market) (m : ℕ) (o : Option Begun) → uses_of b.tokens m ≡ uses_of a.tokens m → o ≡ None → Goes a b m o
none_goes a b m o same none =
    ap (λ (us : List Use). each_once (map (λ (u : Use). u.1) us)) same ∙ sym (append-nil (entered_by a m))
    ∙ ap (λ (p : Option Begun). entered_by a m ++ entered_among m (cons_option p [])) (sym none)

-- the chain of another member
other_goes : (a b : Market) (m : ℕ) (o : Option Begun) → uses_of b.tokens m ≡ uses_of a.tokens m → IfSome o (λ begun. eqb begun.member m ≡ false) → Goes a b m o
other_goes a b m None same other = none_goes a b m None same refl
other_goes a b m (Some begun) same other =
    ap (λ (us : List Use). each_once (map (λ (u : Use). u.1) us)) same ∙ sym (append-nil (entered_by a m))
    ∙ ap (λ (c : Bool). entered_by a m ++ map (λ (x : Begun). x.entered) (cond c (begun ∷ []) [])) (sym (let h : eqb begun.member m ≡ false = other in h))

-- of a message of another member
from_other : (a : Market) (k time m : ℕ) (bytes : List ℕ) (o : Option Begun) → Begins a (Message k time bytes) o → eqb k m ≡ false → IfSome o (λ begun. eqb begun.member m ≡ false)
from_other a k time m bytes None b h = tt
from_other a k time m bytes (Some begun) b h = ap (λ (j : ℕ). eqb j m) (his (inbound_of bytes) b.some) ∙ h
  where
    his : (x : Option Inbound) → begun_by_message a k x ≡ Some begun → begun.member ≡ k
    his None p = absurd (let z : None ≡ Some begun = p in cc)
    his (Some (Cancel c)) p = absurd (let z : None ≡ Some begun = p in cc)
    his (Some (Replace r)) p = absurd (let z : None ≡ Some begun = p in cc)
    his (Some (Enter e)) p = at (is_used a.tokens k e.token) p
      where
        at : (c : Bool) → cond c None (Some (record { member = k; entered = e.token })) ≡ Some begun → begun.member ≡ k
        at true q = absurd (let z : None ≡ Some begun = q in cc)
        at false q = let z : Some (record { member = k; entered = e.token }) ≡ Some begun = q in ap (λ (x : Begun). x.member) (sym (let s : record { member = k; entered = e.token } ≡ begun = cc in s))

-- a message of the member
enter_goes : (setup : Setup) (a : Market) (m time : ℕ) (bytes : List ℕ) (e : NewOrder) (o : Option Begun) → inbound_of bytes ≡ Some (Enter e) → AreOutput a m (grouped (uses_of a.tokens m))
    → AreOfMembers (step setup a (Message m time bytes)).market.tokens → Begins a (Message m time bytes) o
    → Lists a (step setup a (Message m time bytes)).market m (named_by (Some (Enter e))) → Goes a (step setup a (Message m time bytes)).market m o
enter_goes setup a m time bytes e o is output members begins lists = at (is_used a.tokens m e.token) refl
  where
    x : Event
    x = Message m time bytes

    b : Market
    b = (step setup a x).market

    begun_is : begun_by a x ≡ cond (is_used a.tokens m e.token) None (Some (record { member = m; entered = e.token }))
    begun_is = ap (begun_by_message a m) is

    uses_are : event_uses a x ≡ cond (is_used a.tokens m e.token) [] (entered_used m e.token ∷ [])
    uses_are = ap (Rattle.hx_audit.proofs.Goes.message_uses a m) is

    at : (c : Bool) → is_used a.tokens m e.token ≡ c → Goes a b m o
    at true used = none_goes a b m o (lists.0 used) (begun_none a x o begins (begun_is ∙ ap (λ (c : Bool). cond c None (Some (record { member = m; entered = e.token }))) used))
    at false unused =
        let tokens : b.tokens ≡ a.tokens ++ entered_used m e.token ∷ [] =
        (step_goes setup a x).tokens ∙ ap (λ (us : List Used). a.tokens ++ us) (uses_are ∙ ap (λ (c : Bool). cond c [] (entered_used m e.token ∷ [])) unused) in
        let used : is_used b.tokens m e.token ≡ true = ap (λ (ts : List Used). is_used ts m e.token) tokens ∙ used_last a.tokens (entered_used m e.token) in
        let begun : o ≡ Some (record { member = m; entered = e.token }) =
        begun_this a x o (record { member = m; entered = e.token }) begins (members m e.token used)
        (begun_is ∙ ap (λ (c : Bool). cond c None (Some (record { member = m; entered = e.token }))) unused) in
        let own : eqb m m ≡ true = (Decides-eqb m m).1 refl in
        ap (λ (us : List Use). each_once (map (λ (u : Use). u.1) us)) (lists.2 unused used)
        ∙ entered_push (uses_of a.tokens m) e.token (entered_of a.tokens m e.token)
        ∙ ap (λ (t : Token). entered_by a m ++ cond (list_any (is_token t) (map (λ (u : Use). u.1) (uses_of a.tokens m))) [] (t ∷ [])) (entered_of-unused a.tokens m e.token unused)
        ∙ ap (λ (c : Bool). entered_by a m ++ cond c [] (e.token ∷ [])) (fresh a m e.token output unused)
        ∙ ap (λ (c : Bool). entered_by a m ++ map (λ (y : Begun). y.entered) (cond c (record { member = m; entered = e.token } ∷ []) [])) (sym own)
        ∙ ap (λ (p : Option Begun). entered_by a m ++ entered_among m (cons_option p [])) (sym begun)

replace_goes : (setup : Setup) (a : Market) (m time : ℕ) (bytes : List ℕ) (r : Change) (o : Option Begun) → inbound_of bytes ≡ Some (Replace r) → Coherent a
    → Begins a (Message m time bytes) o
    → Lists a (step setup a (Message m time bytes)).market m (named_by (Some (Replace r))) → Goes a (step setup a (Message m time bytes)).market m o
replace_goes setup a m time bytes r o is coherent begins lists = at (is_used a.tokens m r.replacement_token) refl (is_used b.tokens m r.replacement_token) refl
  where
    x : Event
    x = Message m time bytes

    b : Market
    b = (step setup a x).market

    none : o ≡ None
    none = begun_none a x o begins (ap (begun_by_message a m) is)

    uses_are : event_uses a x ≡ joined_if a m r (find (is_called m r.existing_token) a.live) (is_used a.tokens m r.replacement_token) (is_order_halted a.halted (find (is_called m r.existing_token) a.live))
    uses_are = ap (Rattle.hx_audit.proofs.Goes.message_uses a m) is

    -- a member that replaces has a live order, whose token is used
    existing_used : is_used a.tokens m r.replacement_token ≡ false → is_used b.tokens m r.replacement_token ≡ true → is_used a.tokens m r.existing_token ≡ true
    existing_used p q = found (find (is_called m r.existing_token) a.live) refl
      where
        found : (l : Option Order) → find (is_called m r.existing_token) a.live ≡ l → is_used a.tokens m r.existing_token ≡ true
        found (Some y) h = called_used a m r.existing_token y coherent h
        found None h =
            let same : b.tokens ≡ a.tokens =
            (step_goes setup a x).tokens ∙ ap (λ (us : List Used). a.tokens ++ us)
            (uses_are ∙ ap (λ (l : Option Order). joined_if a m r l (is_used a.tokens m r.replacement_token) (is_order_halted a.halted l)) h)
            ∙ append-nil a.tokens in
            absurd (true≢false (sym q ∙ ap (λ (ts : List Used). is_used ts m r.replacement_token) same ∙ p))

    at : (c : Bool) → is_used a.tokens m r.replacement_token ≡ c → (d : Bool) → is_used b.tokens m r.replacement_token ≡ d → Goes a b m o
    at true p d q = none_goes a b m o (lists.0 p) none
    at false p false q = none_goes a b m o (lists.1 q) none
    at false p true q =
        ap (λ (us : List Use). each_once (map (λ (u : Use). u.1) us)) (lists.2 p q)
        ∙ entered_push (uses_of a.tokens m) r.replacement_token (entered_of a.tokens m r.existing_token)
        ∙ ap (λ (c : Bool). entered_by a m ++ cond c [] (entered_of a.tokens m r.existing_token ∷ [])) (known a m r.existing_token (existing_used p q))
        ∙ ap (λ (l : Option Begun). entered_by a m ++ entered_among m (cons_option l [])) (sym none)

-- the entered tokens of a member's chains go on by the one that an event begins
pub goes_on : (setup : Setup) (a : Market) (event : Event) (m : ℕ) (o : Option Begun) → Coherent a → AreOutput a m (grouped (uses_of a.tokens m)) → AreOfMembers (step setup a event).market.tokens
    → Begins a event o → entered_by (step setup a event).market m ≡ entered_by a m ++ entered_among m (cons_option o [])
goes_on setup a (Message k time bytes) m o coherent output members begins = at (eqb k m) refl (step_lists setup a (Message k time bytes) m)
  where
    b : Market
    b = (step setup a (Message k time bytes)).market

    own : (j : ℕ) → j ≡ m → AreOfMembers (step setup a (Message j time bytes)).market.tokens → Begins a (Message j time bytes) o → (l : Option Inbound) → inbound_of bytes ≡ l
        → Lists a (step setup a (Message j time bytes)).market m (named_by l) → Goes a (step setup a (Message j time bytes)).market m o
    own j same members begins l is lists = subst P (sym same) (his l is) members begins lists
      where
        P : ℕ → Type 0
        P i = AreOfMembers (step setup a (Message i time bytes)).market.tokens → Begins a (Message i time bytes) o → Lists a (step setup a (Message i time bytes)).market m (named_by l)
            → Goes a (step setup a (Message i time bytes)).market m o

        his : (y : Option Inbound) → inbound_of bytes ≡ y
            → AreOfMembers (step setup a (Message m time bytes)).market.tokens → Begins a (Message m time bytes) o → Lists a (step setup a (Message m time bytes)).market m (named_by y)
            → Goes a (step setup a (Message m time bytes)).market m o
        his None is ms bs ls = none_goes a (step setup a (Message m time bytes)).market m o ls (begun_none a (Message m time bytes) o bs (ap (begun_by_message a m) is))
        his (Some (Cancel c)) is ms bs ls = none_goes a (step setup a (Message m time bytes)).market m o ls (begun_none a (Message m time bytes) o bs (ap (begun_by_message a m) is))
        his (Some (Enter e)) is ms bs ls = enter_goes setup a m time bytes e o is output ms bs ls
        his (Some (Replace r)) is ms bs ls = replace_goes setup a m time bytes r o is coherent bs ls

    at : (c : Bool) → eqb k m ≡ c → Lists a b m (cond c (named_by (inbound_of bytes)) None) → Goes a b m o
    at true h lists = own k ((Decides-eqb k m).0 h) members begins (inbound_of bytes) refl lists
    at false h lists = other_goes a b m o lists (from_other a k time m bytes o begins h)
goes_on setup a (Tick time) m o coherent output members begins =
    none_goes a (step setup a (Tick time)).market m o (step_lists setup a (Tick time) m) (begun_none a (Tick time) o begins refl)
goes_on setup a (Hours time code) m o coherent output members begins =
    none_goes a (step setup a (Hours time code)).market m o (step_lists setup a (Hours time code) m) (begun_none a (Hours time code) o begins refl)
goes_on setup a (Halt time stock state reason) m o coherent output members begins =
    none_goes a (step setup a (Halt time stock state reason)).market m o (step_lists setup a (Halt time stock state reason) m) (begun_none a (Halt time stock state reason) o begins refl)
goes_on setup a (Break time number) m o coherent output members begins =
    none_goes a (step setup a (Break time number)).market m o (step_lists setup a (Break time number) m) (begun_none a (Break time number) o begins refl)

-- ---- what is looked up before the event

begun_if : (a : Market) (event : Event) (j k time : ℕ) (bytes : List ℕ) (e : NewOrder) (b : Bool) → event ≡ Message k time bytes → inbound_of bytes ≡ Some (Enter e) → j ≡ k
    → is_some (chain_facts a.tokens a.chains j e.token) ≡ b → begun_by a event ≡ cond b None (Some (record { member = j; entered = e.token }))
begun_if a event j k time bytes e b is says one used =
    ap (begun_by a) is ∙ ap (begun_by_message a k) says ∙ ap (λ (m : ℕ). begun_by_message a m (Some (Enter e))) (sym one)
    ∙ ap (λ (c : Bool). cond c None (Some (record { member = j; entered = e.token }))) (sym (some_output a.tokens a.chains j e.token) ∙ used)

pub begun_not : (a : Market) (event : Event) (j k time : ℕ) (bytes : List ℕ) (e : NewOrder) → event ≡ Message k time bytes → inbound_of bytes ≡ Some (Enter e) → j ≡ k
    → is_some (chain_facts a.tokens a.chains j e.token) ≡ true → begun_by a event ≡ None
begun_not a event j k time bytes e is says one used = begun_if a event j k time bytes e true is says one used

pub begun_new : (a : Market) (event : Event) (j k time : ℕ) (bytes : List ℕ) (e : NewOrder) → event ≡ Message k time bytes → inbound_of bytes ≡ Some (Enter e) → j ≡ k
    → is_some (chain_facts a.tokens a.chains j e.token) ≡ false → begun_by a event ≡ Some (record { member = j; entered = e.token })
begun_new a event j k time bytes e is says one used = begun_if a event j k time bytes e false is says one used
