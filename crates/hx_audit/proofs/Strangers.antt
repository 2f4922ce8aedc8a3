-- A number that the setup has not sends no recorded message: it has no chains, and nothing is struck for it.
use Rattle.std.proofs.Common.{◌≡◌, ℕ, arith, Bool, true, false, cond, not, eqb, leb, ◌&&◌, ◌||◌, refl, sym, ap, ◌∙◌, subst, List, [], ◌∷◌, map, Option, Some, None}
use Rattle.std.specs.Prelude.{is_none, is_some}
use Rattle.std.specs.Map.{lookup}
use Rattle.hx_units.specs.Names.{is_token}
use Rattle.hx_units.specs.Ranges.{IsMember}
use Rattle.std.proofs.lemmas.Bool.Decides.{Decides-eqb}
use Rattle.hx_members.specs.Setups.{Setup, member_of}
use Rattle.hx_ouch.specs.Inbound.{inbound_of}
use Rattle.hx_rules.specs.declared.event.Event.{Event}
use Rattle.hx_rules.specs.declared.event.Event.TheVariants.{Message, Tick, Hours, Halt, Break}
use Rattle.hx_rules.specs.declared.fault.PrepareError.{PrepareError}
use Rattle.hx_rules.specs.declared.fault.PrepareError.TheVariants.{NoMember, BadTime}
use Rattle.hx_market.specs.Refusals.{known_member, refusal}
use Rattle.hx_market.specs.Markets.{Market, opening}
use Rattle.hx_market.specs.Steps.{step, market_after, run}
use Rattle.hx_market.specs.QuietChains.{is_quiet, quiet_of_one, bears, strike, strike_one}
use Rattle.hx_audit.specs.Listing.{Use, uses_of, chains_of, grouped, output_chain}
use Rattle.hx_audit.specs.Finding.{named}
use Rattle.hx_audit.specs.Recording.{AreAccepted, AreRecorded}
use Rattle.hx_audit.specs.Auditing.{Audit, HasTaken, IsStranger, choice_of, is_chosen, is_borne}
use Rattle.hx_audit.specs.declared.bearing.Bearing.{Bearing}
use Rattle.hx_audit.specs.declared.auditor.Whose.{Whose}
use Rattle.hx_audit.specs.declared.auditor.Whose.TheVariants.{Of, OfAll}
use Rattle.hx_units.specs.declared.names.Token.{Token}
use Rattle.hx_members.specs.Chains.{is_used, is_loud, entered_of}
use Rattle.hx_audit.proofs.QuietTokens.{of_another}
use Rattle.hx_audit.proofs.Rooted.{none_listed}
use Rattle.hx_audit.proofs.Uses.{Lists, step_lists, has_used}
use Rattle.hx_audit.specs.Facts.{AreOfMembers}

unknown : (setup : Setup) (m : ℕ) → member_of setup m ≡ None → is_none (known_member setup m) ≡ true
unknown setup m h = at (leb 1 m && leb m 4095)
  where
    at : (b : Bool) → is_none (cond b (member_of setup m) None) ≡ true
    at true = ap is_none h
    at false = refl

-- an accepted message is from another
sent_by_another : (setup : Setup) (m : ℕ) → is_none (known_member setup m) ≡ true → (counts : List ℕ) (k time : ℕ) (bytes : List ℕ) → refusal setup counts (Message k time bytes) ≡ None → eqb k m ≡ false
sent_by_another setup m h counts k time bytes r = choose (eqb k m) refl
  where
    refused : (b c : Bool) (rest : Option PrepareError) → c ≡ true → cond b (Some BadTime) (cond c (Some NoMember) rest) ≡ None → false ≡ true
    refused true c rest e n = absurd (let z : Some BadTime ≡ None = n in cc)
    refused false true rest e n = absurd (let z : Some NoMember ≡ None = n in cc)
    refused false false rest e n = e

    choose : (b : Bool) → eqb k m ≡ b → eqb k m ≡ false
    choose false e = e
    choose true e =
        let same : k ≡ m = (Decides-eqb k m).0 e in
        absurd (let z : false ≡ true = refused (leb 86400000000000 time) (is_none (known_member setup k)) _ (subst (λ j. is_none (known_member setup j) ≡ true) (sym same) h) r in cc)

bears_none : (setup : Setup) (m : ℕ) → member_of setup m ≡ None → (counts : List ℕ) (a : Market) (event : Event) → refusal setup counts event ≡ None → bears (quiet_of_one m a) event ≡ false
bears_none setup m h counts a (Message k time bytes) r =
    let other = sent_by_another setup m (unknown setup m h) counts k time bytes r in
    of_another m k a (inbound_of bytes) (λ e. absurd (let z : true ≡ false = sym ((Decides-eqb k m).1 e) ∙ other in cc))
bears_none setup m h counts a (Tick time) r = refl
bears_none setup m h counts a (Hours time code) r = refl
bears_none setup m h counts a (Halt time stock state reason) r = refl
bears_none setup m h counts a (Break time number) r = refl

all_left : (setup : Setup) (m : ℕ) → member_of setup m ≡ None → (a b : Market) (events : List Event) → AreAccepted setup b events → strike (quiet_of_one m a) events ≡ events
unfolding strike
all_left setup m h a b [] r = refl
all_left setup m h a b (event ∷ events) r =
    ap (λ (c : Bool). cond (not c) (event ∷ strike (quiet_of_one m a) events) (strike (quiet_of_one m a) events)) (bears_none setup m h b.recorded a event r.0)
    ∙ ap (λ (l : List Event). event ∷ l) (all_left setup m h a (step setup b event).market events r.1)

pub nothing_struck : (setup : Setup) (m : ℕ) (events : List Event) → AreRecorded setup events → member_of setup m ≡ None → strike_one setup m events ≡ events
unfolding strike_one
nothing_struck setup m events r h = all_left setup m h (run setup events) (opening setup) events r

-- its list stays empty

names_none : (setup : Setup) (m : ℕ) → is_none (known_member setup m) ≡ true → (counts : List ℕ) (event : Event) → refusal setup counts event ≡ None → named m event ≡ None
names_none setup m h counts (Message k time bytes) r = rw (sent_by_another setup m h counts k time bytes r) refl
names_none setup m h counts (Tick time) r = refl
names_none setup m h counts (Hours time code) r = refl
names_none setup m h counts (Halt time stock state reason) r = refl
names_none setup m h counts (Break time number) r = refl

uses_none : (setup : Setup) (m : ℕ) → is_none (known_member setup m) ≡ true → (a : Market) (events : List Event) → AreAccepted setup a events → uses_of a.tokens m ≡ [] → uses_of (market_after setup a events).tokens m ≡ []
unfolding market_after
uses_none setup m h a [] r e = e
uses_none setup m h a (event ∷ events) r e =
    let b : Market = (step setup a event).market in
    let same : Lists a b m None = subst (Lists a b m) (names_none setup m h a.recorded event r.0) (step_lists setup a event m) in
    uses_none setup m h b events r.1 (same ∙ e)

pub no_chains : (setup : Setup) (m : ℕ) (events : List Event) → AreRecorded setup events → member_of setup m ≡ None → chains_of (run setup events) m ≡ []
unfolding run
no_chains setup m events r h =
    ap (λ (us : List Use). map (output_chain (run setup events).chains m) (grouped us)) (uses_none setup m (unknown setup m h) (opening setup) events r (none_listed setup (opening setup) m refl))

-- a number that has used a token is a member's

known_in_range : (setup : Setup) (m : ℕ) → is_none (known_member setup m) ≡ false → IsMember m
known_in_range setup m h = at (leb 1 m) refl (leb m 4095) refl h
  where
    at : (b : Bool) → leb 1 m ≡ b → (c : Bool) → leb m 4095 ≡ c → is_none (cond (b && c) (member_of setup m) None) ≡ false → IsMember m
    at true e true f h = (grind (arith, e), grind (arith, f))
    at true e false f h = absurd (let z : true ≡ false = h in cc)
    at false e c f h = absurd (let z : true ≡ false = h in cc)

pub users_are_members : (setup : Setup) (events : List Event) → AreRecorded setup events → AreOfMembers (run setup events).tokens
unfolding run
users_are_members setup events r m t used = at (is_none (known_member setup m)) refl
  where
    at : (b : Bool) → is_none (known_member setup m) ≡ b → IsMember m
    at false e = known_in_range setup m e
    at true e =
        let none = uses_none setup m e (opening setup) events r (none_listed setup (opening setup) m refl) in
        absurd (let z : true ≡ false = sym used ∙ sym (has_used (run setup events).tokens m t) ∙ ap (λ (us : List Use). is_some (lookup (is_token t) us)) none in cc)

-- a stranger has no quiet tokens

not_quiet : (setup : Setup) (m : ℕ) (events : List Event) → AreRecorded setup events → member_of setup m ≡ None → (n : ℕ) (t : Token) → quiet_of_one m (run setup events) n t ≡ false
unfolding quiet_of_one is_quiet run
not_quiet setup m events r h n t = at (eqb n m) refl
  where
    none : uses_of (market_after setup (opening setup) events).tokens m ≡ []
    none = uses_none setup m (unknown setup m h) (opening setup) events r (none_listed setup (opening setup) m refl)

    unused : is_used (market_after setup (opening setup) events).tokens m t ≡ false
    unused = sym (has_used (market_after setup (opening setup) events).tokens m t) ∙ ap (λ (us : List Use). is_some (lookup (is_token t) us)) none

    at : (b : Bool) → eqb n m ≡ b → (b && is_quiet (market_after setup (opening setup) events) n t) ≡ false
    at false e = refl
    at true e =
        rw ((Decides-eqb n m).0 e)
        (ap (λ (b : Bool). b && not (is_loud (market_after setup (opening setup) events).chains m (entered_of (market_after setup (opening setup) events).tokens m t))) unused)

pub none_borne : (a : Audit) (events : List Event) → HasTaken a events → IsStranger a.setup a.whose → (b : Bearing) → is_borne (choice_of a.whose a.market) b ≡ false
none_borne a events taken h b = at a.whose refl h
  where
    of_token : (m : ℕ) → member_of a.setup m ≡ None → (o : Option Token) → is_chosen (quiet_of_one m a.market) b.member o ≡ false
    of_token m g None = refl
    of_token m g (Some t) = ap (λ (k : Market). quiet_of_one m k b.member t) taken.market_is ∙ not_quiet a.setup m events taken.recorded g b.member t

    at : (w : Whose) → a.whose ≡ w → IsStranger a.setup w → is_borne (choice_of w a.market) b ≡ false
    at (Of m) e g = ap (λ (x : Bool). x || is_chosen (quiet_of_one m a.market) b.member b.second) (of_token m g b.first) ∙ of_token m g b.second
    at OfAll e g = absurd g
