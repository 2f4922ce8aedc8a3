-- Listed tokens whose chains are chosen.
use Rattle.std.proofs.Common.{◌≡◌, ℕ, suc, ◌+◌, ◌<◌, eqb, Bool, true, false, cond, ◌&&◌, ◌||◌, refl, sym, ap, ◌∙◌, subst, List, [], ◌∷◌, ◌++◌, length, take, drop, get_or, add-one, Option, Some, None, is_some, unwrap_or}
use Rattle.std.proofs.Math.Seq.{take-suc, split_at}
use Rattle.std.specs.List.{AllByRecursion, list_any}
use Rattle.std.specs.Map.{lookup}
use Rattle.std.specs.Option.{option_map_or}
use Rattle.std.proofs.lemmas.List.Folds.{list_any-append}
use Rattle.hx_units.specs.Names.{is_token}
use Rattle.hx_units.specs.declared.names.Token.{Token}
use Rattle.hx_match.proofs.First.{all_append}
use Rattle.hx_members.specs.Chains.{is_used, entered_of}
use Rattle.hx_ouch.specs.declared.inbound.Inbound.{Inbound}
use Rattle.hx_ouch.specs.declared.inbound.Inbound.TheVariants.{Enter, Replace, Cancel}
use Rattle.hx_ouch.specs.Inbound.{inbound_of}
use Rattle.hx_rules.specs.declared.event.Event.{Event}
use Rattle.hx_rules.specs.declared.event.Event.TheVariants.{Message, Tick, Hours, Halt, Break}
use Rattle.hx_market.specs.Markets.{Market}
use Rattle.hx_market.specs.QuietChains.{Choice, is_quiet, message_bears, bears, strike}
use Rattle.hx_laws.specs.Laws.{chained_with}
use Rattle.hx_audit.specs.Listing.{Use, uses_of}
use Rattle.hx_audit.specs.Finding.{in_chains, AreChosen}
use Rattle.hx_audit.specs.Recording.{IsFirstLoud}
use Rattle.hx_audit.proofs.Grouping.{token_flip}
use Rattle.hx_audit.proofs.Uses.{lookup_uses, entered_listed}

-- one more token of the list

next_token : (ts : List Token) (i : ℕ) (d : Token) → i < length ts → take (i + 1) ts ≡ take i ts ++ get_or ts i d ∷ []
next_token ts i d h = rw (add-one, take-suc ts i d) refl

pub quiet_more : (a : Market) (m : ℕ) (ts : List Token) (i : ℕ) (d : Token) → i < length ts → is_quiet a m (get_or ts i d) ≡ true
    → AllByRecursion (λ t. is_quiet a m t ≡ true) (take i ts) → AllByRecursion (λ t. is_quiet a m t ≡ true) (take (i + 1) ts)
quiet_more a m ts i d h q all =
    subst (AllByRecursion (λ t. is_quiet a m t ≡ true)) (sym (next_token ts i d h)) (all_append (λ t. is_quiet a m t ≡ true) (take i ts) (get_or ts i d ∷ []) all (q, tt))

some_or : (b : Bool) (x : Token) (o : Option Token) → is_some (cond b (Some x) o) ≡ (is_some o || b)
some_or true x None = refl
some_or true x (Some y) = refl
some_or false x None = refl
some_or false x (Some y) = refl

pub chosen_more : (uses chosen new : List Use) (ts : List Token) (i : ℕ) (d entered : Token) → i < length ts
    → entered ≡ unwrap_or (lookup (is_token (get_or ts i d)) uses) (get_or ts i d)
    → ((q : Token) → lookup (is_token q) new ≡ cond (is_token entered q) (Some (get_or ts i d)) (lookup (is_token q) chosen))
    → AreChosen uses chosen (take i ts) → AreChosen uses new (take (i + 1) ts)
chosen_more uses chosen new ts i d entered h e u all q =
    let test : Token → Bool = λ t. is_token q (unwrap_or (lookup (is_token t) uses) t) in
    let x = get_or ts i d in
    ap is_some (u q)
    ∙ some_or (is_token entered q) x (lookup (is_token q) chosen)
    ∙ (λ j. all q j || (token_flip entered q ∙ ap (is_token q) e) j)
    ∙ ap (λ b. list_any test (take i ts) || b) (sym (one (test x)))
    ∙ sym (list_any-append test (take i ts) (x ∷ []))
    ∙ ap (list_any test) (sym (next_token ts i d h))
  where
    one : (b : Bool) → (b || false) ≡ b
    one true = refl
    one false = refl

pub first_loud : (a : Market) (m : ℕ) (ts : List Token) (i : ℕ) (d : Token) → i < length ts → AllByRecursion (λ t. is_quiet a m t ≡ true) (take i ts)
    → is_quiet a m (get_or ts i d) ≡ false → IsFirstLoud a m ts (get_or ts i d)
first_loud a m ts i d h all loud = record {
  before = take i ts;
  after = drop (suc i) ts;
  split = split_at ts i d h;
  quiet = all;
  loud = loud;
}

-- the tokens of the chosen chains

pub same_chains : (a : Market) (m : ℕ) (uses chosen : List Use) (ts : List Token) → uses ≡ uses_of a.tokens m → AreChosen uses chosen ts
    → (member : ℕ) (token : Token) → in_chains m uses chosen member token ≡ chained_with m ts a member token
unfolding chained_with
same_chains a m uses chosen ts e all member token =
    ap (λ b. eqb member m && b)
    (ap (λ (us : List Use). option_map_or (λ entered. is_some (lookup (is_token entered) chosen)) (lookup (is_token token) us) false) e
    ∙ ap (λ (o : Option Token). option_map_or (λ entered. is_some (lookup (is_token entered) chosen)) o false) (lookup_uses a.tokens m token)
    ∙ at (is_used a.tokens m token))
  where
    listed : (t : Token) → unwrap_or (lookup (is_token t) uses) t ≡ entered_of a.tokens m t
    listed t = ap (λ (us : List Use). unwrap_or (lookup (is_token t) us) t) e ∙ entered_listed a.tokens m t

    any_same : (f g : Token → Bool) → ((t : Token) → f t ≡ g t) → (xs : List Token) → list_any f xs ≡ list_any g xs
    any_same f g same [] = refl
    any_same f g same (x ∷ xs) = (λ j. same x j || any_same f g same xs j)

    at : (b : Bool) → option_map_or (λ entered. is_some (lookup (is_token entered) chosen)) (cond b (Some (entered_of a.tokens m token)) None) false
        ≡ (b && list_any (λ t. is_token (entered_of a.tokens m token) (entered_of a.tokens m t)) ts)
    at false = refl
    at true =
        all (entered_of a.tokens m token)
        ∙ any_same (λ t. is_token (entered_of a.tokens m token) (unwrap_or (lookup (is_token t) uses) t)) (λ t. is_token (entered_of a.tokens m token) (entered_of a.tokens m t))
        (λ t. ap (is_token (entered_of a.tokens m token)) (listed t)) ts

-- the same choice strikes the same

message_same : (s t : Choice) → ((member : ℕ) (token : Token) → s member token ≡ t member token) → (m : ℕ) (x : Option Inbound) → message_bears s m x ≡ message_bears t m x
message_same s t same m None = refl
message_same s t same m (Some (Enter e)) = same m e.token
message_same s t same m (Some (Replace r)) = (λ j. same m r.existing_token j || same m r.replacement_token j)
message_same s t same m (Some (Cancel c)) = same m c.token

bears_same : (s t : Choice) → ((member : ℕ) (token : Token) → s member token ≡ t member token) → (event : Event) → bears s event ≡ bears t event
bears_same s t same (Message m time bytes) = message_same s t same m (inbound_of bytes)
bears_same s t same (Tick time) = refl
bears_same s t same (Hours time code) = refl
bears_same s t same (Halt time stock state reason) = refl
bears_same s t same (Break time number) = refl

pub strikes_same : (s t : Choice) → ((member : ℕ) (token : Token) → s member token ≡ t member token) → (events : List Event) → strike s events ≡ strike t events
unfolding strike
strikes_same s t same [] = refl
strikes_same s t same (event ∷ events) = rw (bears_same s t same event, strikes_same s t same events) refl
