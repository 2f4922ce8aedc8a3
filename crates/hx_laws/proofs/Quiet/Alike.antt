-- Two markets that are alike except for the chosen chains, and how each part of a step preserves that.
use Rattle.std.proofs.Common.{◌≡◌, ℕ, zero, suc, ◌+◌, Bool, true, false, refl, ap, sym, ◌∙◌, arith, not, List, [], ◌∷◌, length, get_or, get_or-set_other}
use Rattle.std.specs.Prelude.{slice_index}
use Rattle.std.specs.List.{filter}
use Rattle.std.proofs.lemmas.List.{append-nil}
use Rattle.hx_members.specs.Chains.{is_used, entered_of}
use Rattle.hx_refs.specs.Numbers.{raised}
use Rattle.hx_refs.proofs.Numbers.{length-raised}
use Rattle.hx_rules.specs.Orders.{Order, Token, is_called}
use Rattle.hx_rules.specs.Markets.{Market}
use Rattle.hx_rules.specs.Enter.{consumed, drawn}
use Rattle.hx_rules.specs.Removal.{lessened}
use Rattle.hx_rules.specs.Replace.{handed_over, executed_of}
use Rattle.hx_laws.specs.QuietChains.{Choice}
use Rattle.hx_laws.proofs.Quiet.QuietBefore.{not_both}
use Rattle.hx_laws.proofs.Quiet.RetainedViews.{none, blank, retained, retained_tokens, retained_chains, Spares}
use Rattle.hx_laws.proofs.Quiet.RetainedWords.{retained_tokens-append, retained_chains-append, used_retained, entered_retained, executed_retained, filter_retained, others_chosen, lessened_chosen, lessened_retained}

-- a market without its orders, tokens, chains and private numbers, and without the counts of recorded events
abbrev pub rest_of : Market → Market
rest_of a = record a { live = []; tokens = []; chains = []; numbers = record a.numbers { private = [] }; recorded = [] }

-- b is a without the chosen chains, except for the indices of chains and the private references
pub record IsAlike (s : Choice) (a b : Market) : Type 0 where
  pub live : retained true s a.live ≡ retained true none b.live
  pub tokens : retained_tokens s a.tokens ≡ b.tokens
  pub chains : retained_chains s a.chains ≡ b.chains
  pub counts : length a.numbers.private ≡ length b.numbers.private
  -- a member that is spared draws the same private references
  pub private : (p : ℕ) → Spares s p → slice_index a.numbers.private p ≡ slice_index b.numbers.private p
  -- and all else is equal
  pub rest : rest_of a ≡ rest_of b

pub alike_public : (s : Choice) (a b : Market) → IsAlike s a b → a.numbers.public ≡ b.numbers.public
alike_public s a b r = ap (λ (z : Market). z.numbers.public) r.rest

pub alike_matches : (s : Choice) (a b : Market) → IsAlike s a b → a.numbers.matches ≡ b.numbers.matches
alike_matches s a b r = ap (λ (z : Market). z.numbers.matches) r.rest

pub alike_hours : (s : Choice) (a b : Market) → IsAlike s a b → a.phase ≡ b.phase
alike_hours s a b r = ap (λ (z : Market). z.phase) r.rest

pub alike_halted : (s : Choice) (a b : Market) → IsAlike s a b → a.halted ≡ b.halted
alike_halted s a b r = ap (λ (z : Market). z.halted) r.rest

pub alike_executions : (s : Choice) (a b : Market) → IsAlike s a b → a.executions ≡ b.executions
alike_executions s a b r = ap (λ (z : Market). z.executions) r.rest

-- The state of tokens that are not chosen.

pub alike_used : (s : Choice) (a b : Market) → IsAlike s a b → (m : ℕ) (t : Token) → s m t ≡ false → is_used a.tokens m t ≡ is_used b.tokens m t
alike_used s a b r m t e = sym (used_retained s m t e a.tokens) ∙ ap (λ z. is_used z m t) r.tokens

pub alike_entered : (s : Choice) (a b : Market) → IsAlike s a b → (m : ℕ) (t : Token) → s m t ≡ false → entered_of a.tokens m t ≡ entered_of b.tokens m t
alike_entered s a b r m t e = sym (entered_retained s m t e a.tokens) ∙ ap (λ z. entered_of z m t) r.tokens

pub alike_executed : (s : Choice) (a b : Market) → IsAlike s a b → (m : ℕ) (t : Token) → s m t ≡ false → s m (entered_of a.tokens m t) ≡ false → executed_of a m t ≡ executed_of b m t
alike_executed s a b r m t e f = rw (← alike_entered s a b r m t e, ← r.chains) (sym (executed_retained s m _ f a.chains))

-- A token is used, that is chosen or not.

pub alike_consumed : (s : Choice) (a b : Market) → IsAlike s a b → (m : ℕ) (t : Token) → s m t ≡ false → IsAlike s (consumed a m t) (consumed b m t)
alike_consumed s a b r m t e =
    record {
      live = r.live;
      tokens = rw (retained_tokens-append s a.tokens _, r.tokens, e) refl;
      chains = rw (retained_chains-append s a.chains _, r.chains, e) refl;
      counts = r.counts;
      private = r.private;
      rest = r.rest;
    }

pub struck_consumed : (s : Choice) (a b : Market) → IsAlike s a b → (m : ℕ) (t : Token) → s m t ≡ true → IsAlike s (consumed a m t) b
struck_consumed s a b r m t e =
    record {
      live = r.live;
      tokens = rw (retained_tokens-append s a.tokens _, r.tokens, e) (append-nil b.tokens);
      chains = rw (retained_chains-append s a.chains _, r.chains, e) (append-nil b.chains);
      counts = r.counts;
      private = r.private;
      rest = r.rest;
    }

-- A token replaces another, whose order is gone.

pub alike_handed_over : (s : Choice) (a b : Market) → IsAlike s a b → (m : ℕ) (e t : Token) → s m e ≡ false → s m t ≡ false → IsAlike s (handed_over a m e t) (handed_over b m e t)
alike_handed_over s a b r m e t g h =
    record {
      live =
          filter_retained s (λ x. not (is_called m e x)) (λ x. refl) a.live
          ∙ ap (filter (λ x. not (is_called m e x))) r.live ∙ sym (filter_retained none (λ x. not (is_called m e x)) (λ x. refl) b.live);
      tokens = rw (retained_tokens-append s a.tokens _, r.tokens, h, alike_entered s a b r m e g) refl;
      chains = r.chains;
      counts = r.counts;
      private = r.private;
      rest = r.rest;
    }

pub struck_handed_over : (s : Choice) (a b : Market) → IsAlike s a b → (m : ℕ) (e t : Token) → s m e ≡ true → s m t ≡ true → IsAlike s (handed_over a m e t) b
struck_handed_over s a b r m e t g h =
    record {
      live = others_chosen s m e g a.live ∙ r.live;
      tokens = rw (retained_tokens-append s a.tokens _, r.tokens, h) (append-nil b.tokens);
      chains = r.chains;
      counts = r.counts;
      private = r.private;
      rest = r.rest;
    }

-- A reference is drawn.

raised_same : (xs ys : List ℕ) (m p : ℕ) → length xs ≡ length ys → get_or xs p 0 ≡ get_or ys p 0 → get_or (raised xs m) p 0 ≡ get_or (raised ys m) p 0
raised_same [] [] m p l h = refl
raised_same [] (y ∷ ys) m p l h = absurd (omega arith)
raised_same (x ∷ xs) [] m p l h = absurd (omega arith)
raised_same (x ∷ xs) (y ∷ ys) zero zero l h = ap (λ n. n + 1) h
raised_same (x ∷ xs) (y ∷ ys) zero (suc p) l h = h
raised_same (x ∷ xs) (y ∷ ys) (suc m) zero l h = h
raised_same (x ∷ xs) (y ∷ ys) (suc m) (suc p) l h = raised_same xs ys m p (omega arith) h

pub alike_drawn : (s : Choice) (a b : Market) → IsAlike s a b → (m : ℕ) (d : Bool) → IsAlike s (drawn a m d) (drawn b m d)
alike_drawn s a b r m true =
    record {
      live = r.live;
      tokens = r.tokens;
      chains = r.chains;
      counts = r.counts;
      private = r.private;
      rest = ap (λ (z : Market). record z { numbers = record z.numbers { public = z.numbers.public + 1 } }) r.rest;
    }
alike_drawn s a b r m false =
    record {
      live = r.live;
      tokens = r.tokens;
      chains = r.chains;
      rest = r.rest;
      counts = length-raised a.numbers.private m ∙ r.counts ∙ sym (length-raised b.numbers.private m);
      private = λ p h. raised_same a.numbers.private b.numbers.private m p r.counts (r.private p h);
    }

-- a member of whom a token is chosen is not spared
not_spared : (s : Choice) (m : ℕ) (t : Token) (p : ℕ) → s m t ≡ true → Spares s p → p ≡ m → ⊥
not_spared s m t p e h same = not_both (s m t) e (ap (λ k. s k t) (sym same) ∙ h t)

pub struck_drawn : (s : Choice) (a b : Market) → IsAlike s a b → (m : ℕ) (t : Token) → s m t ≡ true → IsAlike s (drawn a m false) b
struck_drawn s a b r m t e =
    record {
      live = r.live;
      tokens = r.tokens;
      chains = r.chains;
      rest = r.rest;
      counts = length-raised a.numbers.private m ∙ r.counts;
      private = λ p h. get_or-set_other a.numbers.private m p _ 0 (not_spared s m t p e h) ∙ r.private p h;
    }

-- Orders end, or lose shares.

pub alike_filtered : (s : Choice) (a b : Market) → IsAlike s a b → (p : Order → Bool) → ((x : Order) → p (blank true x) ≡ p x)
    → IsAlike s (record a { live = filter p a.live }) (record b { live = filter p b.live })
alike_filtered s a b r p same =
    record {
      live = filter_retained s p same a.live ∙ ap (filter p) r.live ∙ sym (filter_retained none p same b.live);
      tokens = r.tokens;
      chains = r.chains;
      counts = r.counts;
      private = r.private;
      rest = r.rest;
    }

pub alike_lessened : (s : Choice) (a b : Market) → IsAlike s a b → (m : ℕ) (t : Token) (by : ℕ) → s m t ≡ false
    → IsAlike s (record a { live = lessened m t by a.live }) (record b { live = lessened m t by b.live })
alike_lessened s a b r m t by e =
    record {
      live = lessened_retained s m t by e a.live ∙ ap (lessened m t by) r.live ∙ sym (lessened_retained none m t by refl b.live);
      tokens = r.tokens;
      chains = r.chains;
      counts = r.counts;
      private = r.private;
      rest = r.rest;
    }

pub struck_lessened : (s : Choice) (a b : Market) → IsAlike s a b → (m : ℕ) (t : Token) (by : ℕ) → s m t ≡ true → IsAlike s (record a { live = lessened m t by a.live }) b
struck_lessened s a b r m t by e =
    record {
      live = lessened_chosen s m t by e a.live ∙ r.live;
      tokens = r.tokens;
      chains = r.chains;
      counts = r.counts;
      private = r.private;
      rest = r.rest;
    }
