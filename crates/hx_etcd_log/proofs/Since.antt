-- Asks, one after the other.
use Rattle.std.proofs.Common.{◌≡◌, ℕ, List, [], ◌∷◌, ◌++◌, Bool, true, false, refl, sym, ap, subst, ◌∙◌, append_assoc}
use Rattle.std.specs.Prelude.{Err, if◌then◌else◌}
use Rattle.std.specs.List.{AllByRecursion}
use Rattle.hx_fenced_log.specs.declared.log.error.LogError.TheVariants as refusal
use Rattle.hx_etcd.specs.declared.reported.Answer.{Answer}
use Rattle.hx_etcd_log.specs.declared.nodes.AskError.{AskError}
use Rattle.hx_etcd_log.specs.declared.nodes.AskError.TheVariants as fault
use Rattle.hx_etcd_log.specs.Asks.{Ask, Answered, Unsent, Lost, outcome_of, lost_after, IsUnsent, MayBeTaken, Tells, EachSince, OneSince, IsMissed}

-- asks were made
pub record Since (before after : List Ask) : Type 0 where
  pub asks : List Ask
  pub is : after ≡ asks ++ before

module _ {P : Ask → Type 0} {a b : List Ask} where
  pub of_each : EachSince P a b → Since a b
  of_each h = record { asks = h.asks; is = h.is }

  pub of_one : OneSince P a b → Since a b
  of_one h = record { asks = h.newer ++ (h.ask ∷ h.older); is = h.is ∙ sym (append_assoc h.newer (h.ask ∷ h.older) a) }

-- one was made first, and then others
pub one_before : {P : Ask → Type 0} (a b c : List Ask) → OneSince P a b → Since b c → OneSince P a c
one_before a b c h s = record {
  newer = s.asks ++ h.newer;
  ask = h.ask;
  older = h.older;
  is = s.is ∙ ap (λ (l : List Ask). s.asks ++ l) h.is ∙ sym (append_assoc s.asks h.newer (h.ask ∷ (h.older ++ a)));
  holds = h.holds;
}

-- others were made first, and then one
pub one_after : {P : Ask → Type 0} (a b c : List Ask) → Since a b → OneSince P b c → OneSince P a c
one_after a b c s h = record {
  newer = h.newer;
  ask = h.ask;
  older = h.older ++ s.asks;
  is = h.is ∙ ap (λ (l : List Ask). h.newer ++ (h.ask ∷ (h.older ++ l))) s.is ∙ ap (λ (l : List Ask). h.newer ++ (h.ask ∷ l)) (sym (append_assoc h.older s.asks a));
  holds = h.holds;
}

all_append : (P : Ask → Type 0) (xs ys : List Ask) → AllByRecursion P xs → AllByRecursion P ys → AllByRecursion P (xs ++ ys)
all_append P [] ys p q = q
all_append P (x ∷ xs) ys p q = (p.0, all_append P xs ys p.1 q)

pub each_after : {P : Ask → Type 0} (a b c : List Ask) → EachSince P a b → EachSince P b c → EachSince P a c
each_after {P = P} a b c h k = record {
  asks = k.asks ++ h.asks;
  is = k.is ∙ ap (λ (l : List Ask). k.asks ++ l) h.is ∙ sym (append_assoc k.asks h.asks a);
  each = all_append P k.asks h.asks k.each h.each;
}

-- ---- one ask

pub one_of : {P : Ask → Type 0} (before after : List Ask) (x : Ask) → after ≡ x ∷ before → P x → OneSince P before after
one_of before after x is holds = record { newer = []; ask = x; older = []; is = is; holds = holds }

pub each_of : {P : Ask → Type 0} (before after : List Ask) (x : Ask) → after ≡ x ∷ before → P x → EachSince P before after
each_of before after x is holds = record { asks = x ∷ []; is = is; each = (holds, tt) }

-- the node may have taken what it answered, and what is lost
pub answered : (status : ℕ) (body : List ℕ) → Answered status body ≡ Unsent → ⊥
answered status body e = cc

lost : Lost ≡ Unsent → ⊥
lost e = cc

pub missed : (before after : List Ask) (node : ℕ) (request : List ℕ) (e : AskError) → after ≡ record { node = node; request = request; outcome = outcome_of (Err e) } ∷ before
    → IsMissed before after e
missed before after node request fault.Unsent is = each_of before after _ is refl
missed before after node request fault.Lost is = one_of before after _ is lost

-- ---- what answers report

-- what is asked is the same
pub asked_as : {P : Answer → Type 0} (request wanted : List ℕ) (b c : List Ask) → request ≡ wanted → OneSince (Tells request P) b c → OneSince (Tells wanted P) b c
asked_as {P = P} request wanted b c is h = subst (λ (q : List ℕ). OneSince (Tells q P) b c) is h

pub tells_also : {P Q : Answer → Type 0} (request : List ℕ) (b c : List Ask) → ((a : Answer) → P a → Q a) → OneSince (Tells request P) b c → OneSince (Tells request Q) b c
tells_also request b c f h = record {
  newer = h.newer;
  ask = h.ask;
  older = h.older;
  is = h.is;
  holds = record { asked = h.holds.asked; answer = h.holds.answer; gave = h.holds.gave; says = f h.holds.answer h.holds.says };
}

pub reported_is_taken : {P : Answer → Type 0} (request : List ℕ) (b c : List Ask) → OneSince (Tells request P) b c → OneSince MayBeTaken b c
reported_is_taken request b c h = record {
  newer = h.newer;
  ask = h.ask;
  older = h.older;
  is = h.is;
  holds = λ unsent. answered h.holds.answer.status h.holds.answer.body.items (sym h.holds.gave ∙ unsent);
}

-- ---- several tries, of which some may be lost

abbrev pub Tried : Bool → (before after : List Ask) → Type 0
Tried false before after = EachSince IsUnsent before after
Tried true before after = OneSince MayBeTaken before after

since_tried : (lost : Bool) (a b : List Ask) → Tried lost a b → Since a b
since_tried true a b h = of_one h
since_tried false a b h = of_each h

pub tried_unsent : (lost : Bool) (a b c : List Ask) → Tried lost a b → EachSince IsUnsent b c → Tried lost a c
tried_unsent true a b c h k = one_before a b c h (of_each k)
tried_unsent false a b c h k = each_after a b c h k

pub tried_lost : (lost : Bool) (a b c : List Ask) → Tried lost a b → OneSince MayBeTaken b c → Tried true a c
tried_lost lost a b c h k = one_after a b c (since_tried lost a b h) k

pub tried_reported : {P : Ask → Type 0} (lost : Bool) (a b c : List Ask) → Tried lost a b → OneSince P b c → OneSince P a c
tried_reported lost a b c h k = one_after a b c (since_tried lost a b h) k

pub tried_missed : (is_lost : Bool) (e : AskError) (a b c : List Ask) → Tried is_lost a b → IsMissed b c e → Tried (lost_after is_lost e) a c
tried_missed is_lost fault.Unsent a b c h k = tried_unsent is_lost a b c h k
tried_missed is_lost fault.Lost a b c h k = tried_lost is_lost a b c h k
