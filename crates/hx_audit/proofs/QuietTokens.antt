-- Which messages bear a quiet token of a member, and what is left without them.
use Rattle.std.proofs.Common.{◌≡◌, ℕ, suc, ◌+◌, ◌<◌, ◌≤◌, Bool, true, false, cond, not, refl, sym, ap, ◌∙◌, eqb, ◌&&◌, List, [], ◌∷◌, ◌++◌, length, drop, get_or, Some, None, Option, add-one, append-nil, append_assoc}
use Rattle.std.proofs.Math.Seq.{drop-cons}
use Rattle.std.proofs.lemmas.List.{drop_all}
use Rattle.std.proofs.lemmas.Bool.Decides.{Decides-eqb}
use Rattle.hx_units.specs.declared.names.Token.{Token}
use Rattle.hx_members.specs.ChainFacts.{ChainFacts}
use Rattle.hx_members.specs.Chains.{is_used, entered_of, is_loud}
use Rattle.hx_members.specs.Tokens.{facts_of}
use Rattle.hx_ouch.specs.declared.inbound.Inbound.{Inbound}
use Rattle.hx_ouch.specs.declared.inbound.Inbound.TheVariants.{Enter, Replace, Cancel}
use Rattle.hx_rules.specs.declared.event.Event.{Event}
use Rattle.hx_market.specs.Markets.{Market}
use Rattle.hx_market.specs.MarketModel.{chain_facts}
use Rattle.hx_market.specs.QuietChains.{Choice, is_quiet, quiet_of_one, message_bears, bears, strike}
use Rattle.hx_units.specs.Ranges.{IsMember}
use Rattle.hx_audit.specs.Facts.{are_loud, FactsTell, AreOfMembers}

-- a message of another bears none
pub of_another : (m n : ℕ) (a : Market) (x : Option Inbound) → (n ≡ m → ⊥) → message_bears (quiet_of_one m a) n x ≡ false
unfolding quiet_of_one
of_another m n a x h = choose (eqb n m) refl x
  where
    choose : (b : Bool) → eqb n m ≡ b → (x : Option Inbound) → message_bears (quiet_of_one m a) n x ≡ false
    choose true e x = absurd (h ((Decides-eqb n m).0 e))
    choose false e None = refl
    choose false e (Some (Enter t)) = rw e refl
    choose false e (Some (Replace t)) = rw e refl
    choose false e (Some (Cancel t)) = rw e refl

-- a member's quiet tokens are no other's
pub quiet_of_another : (m n : ℕ) (a : Market) (t : Token) → eqb n m ≡ false → quiet_of_one m a n t ≡ false
unfolding quiet_of_one
quiet_of_another m n a t h = rw h refl

pub quiet_of_himself : (m n : ℕ) (a : Market) (t : Token) → eqb n m ≡ true → is_quiet a m t ≡ quiet_of_one m a n t
unfolding quiet_of_one
quiet_of_himself m n a t h = rw (h, ap (λ k. is_quiet a k t) ((Decides-eqb n m).0 h)) refl

-- a number of no member has no quiet tokens
pub quiet_of_nobody : (a : Market) (n : ℕ) (t : Token) → AreOfMembers a.tokens → (IsMember n → ⊥) → false ≡ is_quiet a n t
unfolding is_quiet
quiet_of_nobody a n t members h = at (is_used a.tokens n t) refl
  where
    at : (b : Bool) → is_used a.tokens n t ≡ b → false ≡ (b && not (is_loud a.chains n (entered_of a.tokens n t)))
    at true used = absurd (h (members n t used))
    at false used = refl

-- by the facts of its chain a token is quiet or not
pub output_quiet : (a : Market) (m : ℕ) (t : Token) (f : ChainFacts) → FactsTell a.chains → Some f ≡ chain_facts a.tokens a.chains m t → not (are_loud f) ≡ is_quiet a m t
unfolding is_quiet
output_quiet a m t f tell h = choose (is_used a.tokens m t) h
  where
    choose : (b : Bool) → Some f ≡ cond b (Some (facts_of a.chains m (entered_of a.tokens m t))) None → not (are_loud f) ≡ (b && not (is_loud a.chains m (entered_of a.tokens m t)))
    choose true h = let same : f ≡ facts_of a.chains m (entered_of a.tokens m t) = cc in ap (λ (g : ChainFacts). not (are_loud g)) same ∙ ap not (sym (tell m (entered_of a.tokens m t)))
    choose false h = absurd (let z : Some f ≡ None = h in cc)

pub untold_quiet : (a : Market) (m : ℕ) (t : Token) → None ≡ chain_facts a.tokens a.chains m t → false ≡ is_quiet a m t
unfolding is_quiet
untold_quiet a m t h = choose (is_used a.tokens m t) h
  where
    choose : (b : Bool) → None ≡ cond b (Some (facts_of a.chains m (entered_of a.tokens m t))) None → false ≡ (b && not (is_loud a.chains m (entered_of a.tokens m t)))
    choose true h = absurd (let z : None ≡ Some (facts_of a.chains m (entered_of a.tokens m t)) = h in cc)
    choose false h = refl

-- The messages retained so far, and those that will be retained of the rest.

pub retained_more : (s : Choice) (xs : List Event) (i : ℕ) (x : Event) (retained all : List Event) → i < length xs → x ≡ get_or xs i x → bears s x ≡ false → retained ++ strike s (drop i xs) ≡ all
    → (retained ++ x ∷ []) ++ strike s (drop (i + 1) xs) ≡ all
unfolding strike
retained_more s xs i x retained all h e b p =
    let rest : drop i xs ≡ x ∷ drop (i + 1) xs = rw (add-one, drop-cons xs i x h) (ap (λ (y : Event). y ∷ drop (suc i) xs) (sym e)) in
    append_assoc retained (x ∷ []) _ ∙ ap (λ (c : Bool). retained ++ cond (not c) (x ∷ strike s (drop (i + 1) xs)) (strike s (drop (i + 1) xs))) (sym b)
    ∙ ap (λ (l : List Event). retained ++ strike s l) (sym rest) ∙ p

pub left_out : (s : Choice) (xs : List Event) (i : ℕ) (x : Event) (retained all : List Event) → i < length xs → x ≡ get_or xs i x → bears s x ≡ true → retained ++ strike s (drop i xs) ≡ all
    → retained ++ strike s (drop (i + 1) xs) ≡ all
unfolding strike
left_out s xs i x retained all h e b p =
    let rest : drop i xs ≡ x ∷ drop (i + 1) xs = rw (add-one, drop-cons xs i x h) (ap (λ (y : Event). y ∷ drop (suc i) xs) (sym e)) in
    ap (λ (c : Bool). retained ++ cond (not c) (x ∷ strike s (drop (i + 1) xs)) (strike s (drop (i + 1) xs))) (sym b)
    ∙ ap (λ (l : List Event). retained ++ strike s l) (sym rest) ∙ p

pub all_retained : (s : Choice) (xs : List Event) (i : ℕ) (retained all : List Event) → length xs ≤ i → retained ++ strike s (drop i xs) ≡ all → retained ≡ all
unfolding strike
all_retained s xs i retained all h p = sym (append-nil retained) ∙ ap (λ (l : List Event). retained ++ strike s l) (sym (drop_all i xs h)) ∙ p
