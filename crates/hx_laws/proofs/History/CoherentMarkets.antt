-- What holds of every market that a run reaches: a live order's token is used, and a shown one's chain is loud; each used token's chain is there.
use Rattle.std.proofs.Common.{◌≡◌, ℕ, true, refl, List}
use Rattle.std.specs.List.{AllByRecursion}
use Rattle.hx_match.proofs.AnyShares.{IsOfAnyShares}
use Rattle.hx_members.specs.Chains.{Used, Chain, is_used, entered_of, has_chain, is_loud}
use Rattle.hx_rules.specs.Orders.{Order, Token}
use Rattle.hx_laws.proofs.History.ChainsGrow.{Grows}

-- the order's token is used, and if it is shown, its chain was displayed
pub record IsKnown (ts : List Used) (cs : List Chain) (x : Order) : Type 0 where
  pub used : is_used ts x.member x.token ≡ true
  pub shown : x.shown ≡ true → is_loud cs x.member (entered_of ts x.member x.token) ≡ true

-- so is each live order; and each used token has a chain, whose entered token is used and its own
pub record IsCoherent (ts : List Used) (cs : List Chain) (live : List Order) : Type 0 where
  pub known : AllByRecursion (IsKnown ts cs) live
  pub has : (m : ℕ) (t : Token) → is_used ts m t ≡ true → has_chain cs m (entered_of ts m t) ≡ true
  pub root_used : (m : ℕ) (t : Token) → is_used ts m t ≡ true → is_used ts m (entered_of ts m t) ≡ true
  pub root : (m : ℕ) (t : Token) → is_used ts m t ≡ true → entered_of ts m (entered_of ts m t) ≡ entered_of ts m t

-- a known order stays known
pub known_grows : (ts : List Used) (cs : List Chain) (us : List Used) (ds : List Chain) → Grows ts cs us ds → (x : Order) → IsKnown ts cs x → IsKnown us ds x
known_grows ts cs us ds g x k =
    record { used = g.used _ _ k.used; shown = λ h. rw (g.entered x.member x.token k.used) (g.loud _ _ (k.shown h)) }

pub known_shares : (ts : List Used) (cs : List Chain) → IsOfAnyShares (IsKnown ts cs)
known_shares ts cs x n k = record { used = k.used; shown = k.shown }
