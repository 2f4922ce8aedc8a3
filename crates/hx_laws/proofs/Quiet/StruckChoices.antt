-- The quiet chains of one member, any part of them, those of all members, and those of all but one.
use Rattle.std.proofs.Common.{◌≡◌, ℕ, Bool, true, false, refl, ap, sym, ◌∙◌, eqb-true, eq-eqb, ◌||◌, ◌&&◌, List, [], ◌∷◌}
use Rattle.std.specs.Prelude.{◌==◌}
use Rattle.std.specs.List.{AllByRecursion, list_any}
use Rattle.std.proofs.lemmas.Bool.{and_parts, and_from, not-true}
use Rattle.hx_units.specs.Names.{is_token}
use Rattle.hx_members.specs.Setups.{Setup}
use Rattle.hx_members.specs.Chains.{is_used, is_loud, entered_of}
use Rattle.hx_units.proofs.Booleans.{same_bools}
use Rattle.hx_members.proofs.ChainLaws.{same_token}
use Rattle.hx_rules.specs.declared.event.Event.{Event}
use Rattle.hx_rules.specs.Orders.{Token}
use Rattle.hx_rules.specs.Markets.{Market}
use Rattle.hx_rules.specs.Steps.{run}
use Rattle.hx_laws.specs.QuietChains.{Choice, is_quiet, quiet_of_one, strike, strike_one, all_but, seen}
use Rattle.hx_laws.specs.Laws.{AreQuietChains, IsUnknownTo, OneMember, listed, AreWholeQuietChains, ListedIsChoice, QuietIsChoice, AnyPart, chained_with, ChainsOfAny}
use Rattle.hx_laws.proofs.Quiet.QuietBefore.{quiet_loud}
use Rattle.hx_laws.proofs.History.CoherentSteps.{Coherent}
use Rattle.hx_laws.proofs.History.EventMoves.{coherent_run}
use Rattle.hx_laws.proofs.Quiet.StruckRuns.{quiet_chains}

quiet_whole : (a : Market) → Coherent a → (m : ℕ) (t : Token) → is_used a.tokens m t ≡ true → is_quiet a m t ≡ is_quiet a m (entered_of a.tokens m t)
unfolding is_quiet
quiet_whole a coherent m t u = rw (u, coherent.root_used m t u, coherent.root m t u) refl

-- the quiet tokens of the members that pass a test are whole quiet chains
pub among_quiet : (a : Market) → Coherent a → (p : ℕ → Bool) → AreQuietChains (λ m t. p m && is_quiet a m t) a
among_quiet a coherent p =
    record {
      whole = λ m t u. ap (λ b. p m && b) (quiet_whole a coherent m t u);
      quiet = λ m t u h. quiet_loud a m t (and_parts _ _ h).1;
    }

-- Choices among the tokens of one member.

abbrev of_one : ℕ → Choice → Choice
of_one m s member token = member == m && s member token

unknown_to_others : (m : ℕ) (s : Choice) → IsUnknownTo (all_but m) (of_one m s)
unknown_to_others m s p h t = ap (λ b. b && s p t) (not-true (p == m) h)

pub one_member : OneMember
unfolding strike_one quiet_of_one seen
one_member setup m events =
    let a = run setup events in
    quiet_chains setup events (quiet_of_one m a) (all_but m) (among_quiet a (coherent_run setup events) (λ p. p == m)) (unknown_to_others m (is_quiet a))

-- a test of tokens that is the same of all tokens of a chain, and that quiet ones alone pass
record IsOfQuietChains (m : ℕ) (s : Token → Bool) (a : Market) : Type 0 where
  whole : (t : Token) → is_used a.tokens m t ≡ true → s t ≡ s (entered_of a.tokens m t)
  quiet : (t : Token) → is_used a.tokens m t ≡ true → s t ≡ true → is_loud a.chains m (entered_of a.tokens m t) ≡ false

quiet_of_test : (m : ℕ) (s : Token → Bool) (a : Market) → IsOfQuietChains m s a → AreQuietChains (of_one m (λ p. s)) a
quiet_of_test m s a q = record { whole = λ p t u. whole p t (p == m) refl u; quiet = λ p t u h. quiet p t (and_parts (p == m) (s t) h) u }
  where
    whole : (p : ℕ) (t : Token) (b : Bool) → (p == m) ≡ b → is_used a.tokens p t ≡ true → (b && s t) ≡ (b && s (entered_of a.tokens p t))
    whole p t false e u = refl
    whole p t true e u =
        let same : p ≡ m = eqb-true p m e in
        q.whole t (ap (λ k. is_used a.tokens k t) (sym same) ∙ u) ∙ ap (λ k. s (entered_of a.tokens k t)) (sym same)

    quiet : (p : ℕ) (t : Token) → ((p == m) ≡ true) × (s t ≡ true) → is_used a.tokens p t ≡ true → is_loud a.chains p (entered_of a.tokens p t) ≡ false
    quiet p t h u =
        let same : p ≡ m = eqb-true p m h.0 in
        ap (λ k. is_loud a.chains k (entered_of a.tokens k t)) same ∙ q.quiet t (ap (λ k. is_used a.tokens k t) (sym same) ∙ u) h.1

part_struck : (setup : Setup) (m : ℕ) (s : Token → Bool) (events : List Event) → IsOfQuietChains m s (run setup events) → seen m setup events ≡ seen m setup (strike (of_one m (λ p. s)) events)
unfolding seen
part_struck setup m s events q = quiet_chains setup events (of_one m (λ p. s)) (all_but m) (quiet_of_test m s (run setup events) q) (unknown_to_others m (λ p. s))

-- what follows from each of a list that has P and passes a test, follows if one passes
from_any : {X : Type 0} (p : X → Bool) (P : X → Type 0) (Q : Type 0) → ((x : X) → p x ≡ true → P x → Q) → (xs : List X) → list_any p xs ≡ true → AllByRecursion P xs → Q
from_any p P Q f [] h a = absurd (let z : false ≡ true = h in cc)
from_any p P Q f (x ∷ xs) h a = choose (p x) refl h (λ k. from_any p P Q f xs k a.1)
  where
    choose : (b : Bool) → p x ≡ b → (b || list_any p xs) ≡ true → (list_any p xs ≡ true → Q) → Q
    choose true e h next = f x e a.0
    choose false e h next = next h

-- the tokens of the list, if it has whole chains
listed_quiet : (a : Market) → Coherent a → (m : ℕ) (tokens : List Token) → AreWholeQuietChains m tokens a → IsOfQuietChains m (λ t. list_any (is_token t) tokens) a
listed_quiet a coherent m tokens q = record { whole = whole; quiet = quiet }
  where
    is_listed : Token → Bool
    is_listed t = list_any (is_token t) tokens

    here : (t : Token) → is_listed t ≡ true → listed m tokens m t ≡ true
    here t h = and_from (m == m) (is_listed t) (eq-eqb m m refl) h

    back : (t : Token) → listed m tokens m t ≡ true → is_listed t ≡ true
    back t h = (and_parts (m == m) (is_listed t) h).1

    whole : (t : Token) → is_used a.tokens m t ≡ true → is_listed t ≡ is_listed (entered_of a.tokens m t)
    whole t u =
        let e = entered_of a.tokens m t in
        same_bools (is_listed t) (is_listed e)
        (λ h. back e (q.whole t e (here t h) (coherent.root_used m t u) (coherent.root m t u)))
        (λ h. back t (q.whole e t (here e h) u (sym (coherent.root m t u))))

    quiet : (t : Token) → is_used a.tokens m t ≡ true → is_listed t ≡ true → is_loud a.chains m (entered_of a.tokens m t) ≡ false
    quiet t u h =
        from_any (is_token t) (λ v. is_quiet a m v ≡ true) (is_loud a.chains m (entered_of a.tokens m t) ≡ false)
        (λ v e k. ap (λ z. is_loud a.chains m (entered_of a.tokens m z)) (same_token t v e) ∙ quiet_loud a m v k) tokens h q.quiet

pub listed_is_choice : ListedIsChoice
listed_is_choice setup events m tokens q =
    let a = run setup events in
    quiet_of_test m (λ t. list_any (is_token t) tokens) a (listed_quiet a (coherent_run setup events) m tokens q)

pub quiet_is_choice : QuietIsChoice
unfolding quiet_of_one
quiet_is_choice setup events m = among_quiet (run setup events) (coherent_run setup events) (λ p. p == m)

pub any_part : AnyPart
any_part setup m tokens events q =
    part_struck setup m (λ t. list_any (is_token t) tokens) events (listed_quiet (run setup events) (coherent_run setup events) m tokens q)

-- the used tokens in the chains of the list's
chained_quiet : (a : Market) → Coherent a → (m : ℕ) (tokens : List Token) → AllByRecursion (λ t. is_quiet a m t ≡ true) tokens
    → IsOfQuietChains m (λ t. is_used a.tokens m t && list_any (λ v. is_token (entered_of a.tokens m t) (entered_of a.tokens m v)) tokens) a
chained_quiet a coherent m tokens q = record { whole = λ t u. rw (u, coherent.root_used m t u, coherent.root m t u) refl; quiet = λ t u h. quiet t (and_parts (is_used a.tokens m t) _ h).1 }
  where
    quiet : (t : Token) → list_any (λ v. is_token (entered_of a.tokens m t) (entered_of a.tokens m v)) tokens ≡ true → is_loud a.chains m (entered_of a.tokens m t) ≡ false
    quiet t h =
        from_any (λ v. is_token (entered_of a.tokens m t) (entered_of a.tokens m v)) (λ v. is_quiet a m v ≡ true) (is_loud a.chains m (entered_of a.tokens m t) ≡ false)
        (λ v e k. ap (is_loud a.chains m) (same_token (entered_of a.tokens m t) (entered_of a.tokens m v) e) ∙ quiet_loud a m v k) tokens h q

pub chains_of_any : ChainsOfAny
unfolding chained_with
chains_of_any setup m tokens events q =
    let a = run setup events in
    part_struck setup m (λ t. is_used a.tokens m t && list_any (λ v. is_token (entered_of a.tokens m t) (entered_of a.tokens m v)) tokens) events
    (chained_quiet a (coherent_run setup events) m tokens q)
