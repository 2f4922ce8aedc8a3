-- The market stays sound when a Replace fails or replaces, and when a Cancel takes shares off.
use Rattle.std.proofs.Common.{◌≡◌, ℕ, suc, ◌+◌, ◌-◌, ◌*◌, ◌≤◌, Bool, true, false, cond, ltb, not, List, [], ◌∷◌, ◌++◌, length, Some, refl, sym, ap, ◌∙◌, subst, arith, slice_index}
use Rattle.std.specs.List.{filter, find}
use Rattle.std.proofs.lemmas.Bool.{cond_both}
use Rattle.hx_units.specs.declared.names.Token.{Token}
use Rattle.hx_units.specs.declared.names.Symbol.{Symbol}
use Rattle.hx_units.proofs.Lists.{length-filter-le}
use Rattle.hx_book.specs.declared.order.Order.{Order}
use Rattle.hx_book.proofs.Lists.{found_among, all_filtered}
use Rattle.hx_match.specs.Matching.{with_shares}
use Rattle.hx_members.specs.Chains.{Used, is_used, entered_of, executed_by, entered_used, IsEnteredAt}
use Rattle.hx_refs.specs.Numbers.{raised}
use Rattle.hx_refs.proofs.Numbers.{length-raised}
use Rattle.hx_ouch.specs.declared.inbound.Replace.{Replace}
use Rattle.hx_rules.specs.Orders.{is_called, is_immediate}
use Rattle.hx_rules.specs.Markets.{Market}
use Rattle.hx_rules.specs.Enter.{drawn, after_draw}
use Rattle.hx_rules.specs.Removal.{others, less, lessened}
use Rattle.hx_rules.specs.Replace.{handed_over, replace_order}
use Rattle.hx_day.specs.Day.{MayRecord}
use Rattle.hx_rules.specs.Executions.{arrive, chains_after}
use Rattle.hx_day.specs.BoundChanges.{recording, Names, Replaces}
use Rattle.hx_day.specs.Bounds.{chains_by, own, is_name, open_in, IsPlaced, ArePlaced, total, IsSound, CanAccept}
use Rattle.hx_day.proofs.ChainShares.{IsWithin, open-append, placed-append, placed-shares, own-le}
use Rattle.hx_day.proofs.UsedTokens.{placed-more, open-more, chained-more, entered-last, used-last, get-append, same-name}
use Rattle.hx_day.proofs.OneOrderPerChain.{NoneOf, open-none, none-more, lone-more, lone-filter, lone-lessened, gone}
use Rattle.hx_day.proofs.Counts.{total-within, raised-along, raised-limited}
use Rattle.hx_day.proofs.AfterEnter.{more, raised-le, Arrives, matched_of, counted_arrival, own_note, ends, sound_arrived, draws}

-- Orders that go.

open-filter : (ts : List Used) (i : ℕ) (t : Token) (keep : Order → Bool) (xs : List Order) → open_in ts i t (filter keep xs) ≤ open_in ts i t xs
open-filter ts i t keep [] = omega arith
open-filter ts i t keep (x ∷ xs) = at (keep x) (open-filter ts i t keep xs)
  where
    at : (b : Bool) → open_in ts i t (filter keep xs) ≤ open_in ts i t xs → open_in ts i t (cond b (x ∷ filter keep xs) (filter keep xs)) ≤ open_in ts i t (x ∷ xs)
    at true h = omega arith
    at false h = omega arith

pub sound_filtered : (m : Market) (keep : Order → Bool) (phase : ℕ) → IsSound m → IsSound (record m { live = filter keep m.live; phase = phase })
sound_filtered m keep phase h = record {
  public = h.public;
  private = h.private;
  matches = (let a = h.matches in let b = length-filter-le keep m.live in omega arith);
  within = λ i t. let a = h.within i t in let b = open-filter m.tokens i t keep m.live in omega arith;
  placed = all_filtered (IsPlaced m.tokens) keep m.live h.placed;
  lone = lone-filter m.tokens keep m.live h.lone;
  chained = h.chained;
  numbered = h.numbered;
  limited = h.limited;
}

-- The old order, if a member's token names it.

placed_old : (m : Market) (i : ℕ) (t : Token) (old : Order) → IsSound m → Names m i t old → IsPlaced m.tokens old
placed_old m i t old h n = found_among (IsPlaced m.tokens) (is_called i t) old m.live h.placed n.found

abbrev who : (i : ℕ) (t : Token) (old : Order) → is_called i t old ≡ true → (old.member ≡ i) × (old.token ≡ t)
who i t old c = same-name old.member i old.token t c

-- the number of its chain
pub chain_old : (m : Market) (i : ℕ) (t : Token) (old : Order) → IsSound m → Names m i t old → IsEnteredAt m.tokens i (entered_of m.tokens i t) old.chain
chain_old m i t old h n =
    let s = who i t old n.called in
    subst (λ (u : Token). IsEnteredAt m.tokens i (entered_of m.tokens i u) old.chain) s.1
    (subst (λ k. IsEnteredAt m.tokens k (entered_of m.tokens k old.token) old.chain) s.0 (placed_old m i t old h n).at)

-- A Replace that fails.

abbrev tokens_with : Market → ℕ → Token → Token → List Used
tokens_with m i t u = (handed_over m i t u).tokens

abbrev others_in : Market → ℕ → Token → List Order
others_in m i t = others i t m.live

placed_others : (m : Market) (i : ℕ) (t : Token) → IsSound m → ArePlaced m.tokens (others_in m i t)
placed_others m i t h = all_filtered (IsPlaced m.tokens) (λ x. not (is_called i t x)) m.live h.placed

within_others : (m : Market) (i : ℕ) (t u : Token) → IsSound m → (k : ℕ) (v : Token) → executed_by m.chains k v + open_in (tokens_with m i t u) k v (others_in m i t) ≤ 999999
within_others m i t u h k v =
    let a = h.within k v in
    let b : open_in (tokens_with m i t u) k v (others_in m i t) ≡ open_in m.tokens k v (others_in m i t) = open-more m.tokens _ k v (others_in m i t) (placed_others m i t h) in
    let c = open-filter m.tokens k v (λ x. not (is_called i t x)) m.live in omega arith

pub sound_handed : (m : Market) (i : ℕ) (t u : Token) → IsSound m → IsSound (handed_over m i t u)
sound_handed m i t u h = record {
  public = h.public;
  private = h.private;
  matches = (let a = h.matches in let b = length-filter-le (λ x. not (is_called i t x)) m.live in omega arith);
  within = within_others m i t u h;
  placed = placed-more m.tokens _ (others_in m i t) (placed_others m i t h);
  lone = lone-more m.tokens _ (others_in m i t) (placed_others m i t h) (lone-filter m.tokens (λ x. not (is_called i t x)) m.live h.lone);
  chained = chained-more m.tokens _ m.chains h.chained;
  numbered = h.numbered;
  limited = h.limited;
}

-- A Replace that replaces.

none_left : (m : Market) (i : ℕ) (t : Token) (old : Order) → IsSound m → Names m i t old → NoneOf m.tokens i (entered_of m.tokens i t) (others_in m i t)
none_left m i t old h n =
    let s = who i t old n.called in
    subst (λ (u : Token). NoneOf m.tokens i (entered_of m.tokens i u) (others_in m i t)) s.1
    (subst (λ k. NoneOf m.tokens k (entered_of m.tokens k old.token) (others_in m i t)) s.0 (gone m.tokens i t old m.live h.lone n.found n.called))

within_replaced : (m : Market) (i : ℕ) (t : Token) (old x : Order) → IsSound m → Replaces m i t old x
    → IsWithin (tokens_with m i t x.token) i (entered_of m.tokens i t) x.shares m.chains (others_in m i t)
within_replaced m i t old x h r k v = at (is_name i (entered_of m.tokens i t) k v) refl
  where
    named : is_name i (entered_of m.tokens i t) k v ≡ true → (executed_by m.chains k v ≡ executed_by m.chains i (entered_of m.tokens i t)) × (open_in (tokens_with m i t x.token) k v (others_in m i t) ≡ 0)
    named n =
        let s = same-name i k (entered_of m.tokens i t) v n in
        let none : open_in m.tokens i (entered_of m.tokens i t) (others_in m i t) ≡ 0 = open-none m.tokens i (entered_of m.tokens i t) (others_in m i t) (none_left m i t old h r.names) in (
          ap (λ j. executed_by m.chains j v) (sym s.0) ∙ ap (λ (z : Token). executed_by m.chains i z) (sym s.1),
          open-more m.tokens _ k v (others_in m i t) (placed_others m i t h)
              ∙ ap (λ j. open_in m.tokens j v (others_in m i t)) (sym s.0) ∙ ap (λ (z : Token). open_in m.tokens i z (others_in m i t)) (sym s.1) ∙ none,
        )

    at : (b : Bool) → is_name i (entered_of m.tokens i t) k v ≡ b → executed_by m.chains k v + open_in (tokens_with m i t x.token) k v (others_in m i t) + own b x.shares ≤ 999999
    at true n = let z = named n in let a = z.0 in let b = z.1 in let s = r.shares in omega arith
    at false n = let z = within_others m i t x.token h k v in omega arith

pub arrives_replaced : (m : Market) (i : ℕ) (t : Token) (old x : Order) (shown : Bool) → IsSound m → Replaces m i t old x → Arrives (drawn (handed_over m i t x.token) i shown) x
arrives_replaced m i t old x shown h r =
    let en : Token = entered_of m.tokens i t in
    let ts : List Used = tokens_with m i t x.token in
    let own_member : x.member ≡ i = r.member ∙ (who i t old r.names.called).0 in
    let last : entered_of ts i x.token ≡ en = entered-last m.tokens i x.token en r.unused in
    let same : entered_of ts x.member x.token ≡ en = ap (λ k. entered_of ts k x.token) own_member ∙ last in
    let there : IsEnteredAt ts i en x.chain = subst (λ n. IsEnteredAt ts i en n) (sym r.chain) (get-append m.tokens _ old.chain (entered_used i en) (chain_old m i t old h r.names)) in
    record {
      used = subst (λ k. is_used ts k x.token ≡ true) (sym own_member) (used-last m.tokens i x.token en);
      at = subst (λ (z : Token). IsEnteredAt ts x.member z x.chain) (sym same) (subst (λ k. IsEnteredAt ts k en x.chain) (sym own_member) there);
      within = subst (λ (z : Token). IsWithin ts x.member z x.shares m.chains (others_in m i t)) (sym same)
          (subst (λ k. IsWithin ts k en x.shares m.chains (others_in m i t)) (sym own_member) (within_replaced m i t old x h r));
      placed = placed-more m.tokens _ (others_in m i t) (placed_others m i t h);
      chained = chained-more m.tokens _ m.chains h.chained;
      lone = lone-more m.tokens _ (others_in m i t) (placed_others m i t h) (lone-filter m.tokens (λ y. not (is_called i t y)) m.live h.lone);
      alone = subst (λ (z : Token). NoneOf ts x.member z (others_in m i t)) (sym same)
          (subst (λ k. NoneOf ts k en (others_in m i t)) (sym own_member) (none-more m.tokens _ i en (others_in m i t) (placed_others m i t h) (none_left m i t old h r.names)));
    }

-- the numbers and the chains have room for it
pub can_replace : (m : Market) (i : ℕ) (t : Token) (old x : Order) → IsSound m → MayRecord m.recorded i → Replaces m i t old x
    → CanAccept (tokens_with m i t x.token) m.chains m.numbers i x.token x.chain (matched_of (handed_over m i t x.token) x).fills
can_replace m i t old x h l r =
    let k : Market = drawn (handed_over m i t x.token) i false in
    let a = arrives_replaced m i t old x false h r in
    let e = ends (handed_over m i t x.token) x in
    let fewer = length-filter-le (λ y. not (is_called i t y)) m.live in
    let sum : total m.recorded ≤ length m.recorded * 4294967295 = total-within m.recorded 4294967295 h.limited in
    let len : length m.recorded * 4294967295 ≡ 4096 * 4294967295 = ap (λ n. n * 4294967295) h.numbered in
    let own_member : x.member ≡ i = r.member ∙ (who i t old r.names.called).0 in
    record {
      public = (let b = h.public in omega arith);
      private = (let b = h.private i in let c = l.limit in omega arith);
      matches = (let b = h.matches in omega arith);
      notes = (counted_arrival k x a).notes;
      own = own_note k x a;
      at = subst (λ n. IsEnteredAt (tokens_with m i t x.token) n (entered_of (tokens_with m i t x.token) n x.token) x.chain) own_member a.at;
      same = subst (λ n. chains_by (tokens_with m i t x.token) x.chain (matched_of (handed_over m i t x.token) x).fills m.chains ≡ chains_after (tokens_with m i t x.token) n (entered_of (tokens_with m i t x.token) n x.token) (matched_of (handed_over m i t x.token) x).fills m.chains) own_member (counted_arrival k x a).same;
    }

pub sound_replaced : (m : Market) (i time : ℕ) (stock : Symbol) (r : Replace) (old x : Order) → IsSound m → MayRecord m.recorded i → Replaces m i r.existing_token old x → x.token ≡ r.replacement_token
    → IsSound (replace_order (recording m i) i time stock r old x).market
sound_replaced m i time stock r old x h l s same =
    let up = more m i h l in
    let d = draws m.numbers i x.shown in
    let room = l.in_range in
    let size = h.numbered in
    let fewer = length-filter-le (λ y. not (is_called i r.existing_token y)) m.live in
    subst (λ (u : Token). IsSound (arrive time (is_immediate r.time_in_force) x (drawn (handed_over (recording m i) i r.existing_token u) i x.shown)).market) same
    (sound_arrived (drawn (handed_over (recording m i) i r.existing_token x.token) i x.shown) x time (is_immediate r.time_in_force)
    (arrives_recorded (arrives_replaced m i r.existing_token old x x.shown h s))
    (record {
      public = (let a = h.public in let b = d.0 in omega arith);
      private = λ j. private_le x.shown j (raised-along m.numbers.private m.recorded i (omega arith) h.private j) (let a = h.private j in let b = raised-le m.recorded i j in omega arith);
      matches = (let a = h.matches in let b = d.1 in omega arith);
      numbered = length-raised m.recorded i ∙ h.numbered;
      limited = raised-limited m.recorded i 4294967295 h.limited l.limit;
    }))
  where
    arrives_recorded : Arrives (drawn (handed_over m i r.existing_token x.token) i x.shown) x → Arrives (drawn (handed_over (recording m i) i r.existing_token x.token) i x.shown) x
    arrives_recorded a = record { used = a.used; at = a.at; within = a.within; placed = a.placed; chained = a.chained; lone = a.lone; alone = a.alone }

    private_le : (b : Bool) (j : ℕ) → slice_index (raised m.numbers.private i) j ≤ slice_index (raised m.recorded i) j → slice_index m.numbers.private j ≤ slice_index (raised m.recorded i) j
        → slice_index (after_draw m.numbers i b).private j ≤ slice_index (raised m.recorded i) j
    private_le true j a b = b
    private_le false j a b = a

-- A Cancel.

some_less : (x : Order) (by : ℕ) (P : List Order → Type 0) → P (with_shares x (x.shares - by) ∷ []) → P [] → P (less x by)
some_less x by P a b = cond_both (ltb by x.shares) (with_shares x (x.shares - by) ∷ []) [] P (λ _. a) (λ _. b)

open-lessened : (ts : List Used) (i : ℕ) (t : Token) (m : ℕ) (u : Token) (by : ℕ) (xs : List Order) → open_in ts i t (lessened m u by xs) ≤ open_in ts i t xs
open-lessened ts i t m u by [] = omega arith
open-lessened ts i t m u by (x ∷ xs) = at (is_called m u x) (open-lessened ts i t m u by xs)
  where
    small : open_in ts i t (less x by) ≤ own (is_name x.member (entered_of ts x.member x.token) i t) x.shares
    small =
        some_less x by (λ l. open_in ts i t l ≤ own (is_name x.member (entered_of ts x.member x.token) i t) x.shares)
        (let a = own-le (is_name x.member (entered_of ts x.member x.token) i t) (x.shares - by) x.shares (omega arith) in omega arith) (omega arith)

    at : (b : Bool) → open_in ts i t (lessened m u by xs) ≤ open_in ts i t xs → open_in ts i t (cond b (less x by ++ xs) (x ∷ lessened m u by xs)) ≤ open_in ts i t (x ∷ xs)
    at true h = let a = open-append ts i t (less x by) xs in let b = small in omega arith
    at false h = omega arith

pub length-lessened : (m : ℕ) (u : Token) (by : ℕ) (xs : List Order) → length (lessened m u by xs) ≤ length xs
length-lessened m u by [] = omega arith
length-lessened m u by (x ∷ xs) = at (is_called m u x) (length-lessened m u by xs)
  where
    small : length (less x by ++ xs) ≤ suc (length xs)
    small = some_less x by (λ l. length (l ++ xs) ≤ suc (length xs)) (omega arith) (omega arith)

    at : (b : Bool) → length (lessened m u by xs) ≤ length xs → length (cond b (less x by ++ xs) (x ∷ lessened m u by xs)) ≤ suc (length xs)
    at true h = small
    at false h = omega arith

placed-lessened : (ts : List Used) (m : ℕ) (u : Token) (by : ℕ) (xs : List Order) → ArePlaced ts xs → ArePlaced ts (lessened m u by xs)
placed-lessened ts m u by [] h = tt
placed-lessened ts m u by (x ∷ xs) h =
    cond_both (is_called m u x) (less x by ++ xs) (x ∷ lessened m u by xs) (ArePlaced ts)
    (λ _. placed-append ts (less x by) xs (some_less x by (ArePlaced ts) (placed-shares ts x (x.shares - by) h.0, tt) tt) h.1) (λ _. (h.0, placed-lessened ts m u by xs h.1))

pub sound_lessened : (m : Market) (i : ℕ) (u : Token) (by : ℕ) → IsSound m → IsSound (record m { live = lessened i u by m.live })
sound_lessened m i u by h = record {
  public = h.public;
  private = h.private;
  matches = (let a = h.matches in let b = length-lessened i u by m.live in omega arith);
  within = λ k t. (let a = h.within k t in let b = open-lessened m.tokens k t i u by m.live in omega arith);
  placed = placed-lessened m.tokens i u by m.live h.placed;
  lone = lone-lessened m.tokens i u by m.live h.lone;
  chained = h.chained;
  numbered = h.numbered;
  limited = h.limited;
}
