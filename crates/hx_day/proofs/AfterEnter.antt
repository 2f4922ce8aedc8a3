-- The market stays sound: at the opening, and when an event is recorded, rejected, accepted.
use Rattle.std.proofs.Common.{◌≡◌, ℕ, zero, suc, ◌+◌, ◌*◌, ◌≤◌, ◌&&◌, not, if◌then◌else◌, Bool, true, false, cond, ltb, List, [], ◌∷◌, ◌++◌, length, replicate, refl, sym, ap, ◌∙◌, subst, arith, slice_index}
use Rattle.std.specs.List.{AllByRecursion}
use Rattle.std.proofs.lemmas.Bool.{cond_both}
use Rattle.hx_units.specs.declared.names.Token.{Token}
use Rattle.hx_book.specs.declared.order.Order.{Order}
use Rattle.hx_match.specs.Matching.{Execution, Matched, matched}
use Rattle.hx_members.specs.Chains.{Used, Chain, is_used, entered_of, executed_by, note, IsEnteredAt, entered_used}
use Rattle.hx_members.specs.Setups.{Setup}
use Rattle.hx_refs.specs.Numbers.{Numbers, raised}
use Rattle.hx_refs.proofs.Numbers.{length-raised}
use Rattle.hx_ouch.specs.declared.inbound.Enter.{Enter}
use Rattle.hx_rules.specs.Orders.{is_immediate}
use Rattle.hx_rules.specs.Markets.{Market, opening}
use Rattle.hx_rules.specs.Executions.{chains_after, incoming_of, resting_of, displays, arrive}
use Rattle.hx_rules.specs.Enter.{consumed, drawn, accept_order, reject, after_draw}
use Rattle.hx_day.specs.Day.{MayRecord}
use Rattle.hx_day.specs.BoundChanges.{recording, IsEntered}
use Rattle.hx_day.specs.Bounds.{own, is_name, open_in, IsPlaced, ArePlaced, CanNote, chains_by, total, AreLone, IsSound, CanAccept}
use Rattle.hx_day.proofs.ChainShares.{open-append, IsWithin, Counted, counted, executed-noted, can, placed-append}
use Rattle.hx_day.proofs.UsedTokens.{placed-more, open-more, open-unused, executed-unused, executed-fresh, chained-more, chained-append, chained-noted, entered-last, used-last, get-last, same-name}
use Rattle.hx_day.proofs.OneOrderPerChain.{NoneOf, StayLone, stay_lone, lone-more, lone-append, none-more, none-unused}
use Rattle.hx_day.proofs.Counts.{ended, total-raised, total-within, raised-along, raised-limited}

zeros : (n i : ℕ) → slice_index (replicate n 0) i ≤ 0
zeros zero i = omega arith
zeros (suc n) zero = omega arith
zeros (suc n) (suc i) = zeros n i

pub sound_opening : (setup : Setup) → IsSound (opening setup)
unfolding opening
sound_opening setup = record {
  public = omega arith;
  private = λ i. (let a = zeros 4096 i in omega arith);
  matches = omega arith;
  within = λ i t. omega arith;
  placed = tt;
  lone = tt;
  chained = tt;
  numbered = refl;
  limited = λ i. (let a = zeros 4096 i in omega arith);
}

pub more : (m : Market) (i : ℕ) → IsSound m → MayRecord m.recorded i → total (raised m.recorded i) ≡ total m.recorded + 1
more m i h l = let a = h.numbered in let b = l.in_range in total-raised m.recorded i (omega arith)

pub raised-le : (xs : List ℕ) (i k : ℕ) → slice_index xs k ≤ slice_index (raised xs i) k
raised-le [] i k = omega arith
raised-le (x ∷ xs) zero zero = omega arith
raised-le (x ∷ xs) zero (suc k) = omega arith
raised-le (x ∷ xs) (suc i) zero = omega arith
raised-le (x ∷ xs) (suc i) (suc k) = raised-le xs i k

pub sound_recorded : (m : Market) (i : ℕ) → IsSound m → MayRecord m.recorded i → IsSound (recording m i)
sound_recorded m i h l = record {
  public = (let a = h.public in let b = more m i h l in omega arith);
  private = λ k. (let a = h.private k in let b = raised-le m.recorded i k in omega arith);
  matches = (let a = h.matches in let b = more m i h l in omega arith);
  within = h.within;
  placed = h.placed;
  lone = h.lone;
  chained = h.chained;
  numbered = length-raised m.recorded i ∙ h.numbered;
  limited = raised-limited m.recorded i 4294967295 h.limited l.limit;
}

-- The used tokens and the chains, when a token is used for the first time.

abbrev pub used_by : Market → ℕ → Token → List Used
used_by m i token = (consumed m i token).tokens

abbrev pub chains_with : Market → ℕ → Token → List Chain
chains_with m i token = (consumed m i token).chains

within_consumed : (m : Market) (i : ℕ) (token : Token) → IsSound m → (k : ℕ) (t : Token) → executed_by (chains_with m i token) k t + open_in (used_by m i token) k t m.live ≤ 999999
within_consumed m i token h k t =
    let a = h.within k t in
    let e : executed_by (chains_with m i token) k t ≡ executed_by m.chains k t = executed-fresh m.chains _ k t refl in
    let o : open_in (used_by m i token) k t m.live ≡ open_in m.tokens k t m.live = open-more m.tokens _ k t m.live h.placed in omega arith

chained_consumed : (m : Market) (i : ℕ) (token : Token) → IsSound m → AllByRecursion (λ c. is_used (used_by m i token) c.member c.entered ≡ true) (chains_with m i token)
chained_consumed m i token h =
    chained-append (used_by m i token) m.chains _ (chained-more m.tokens _ m.chains h.chained) (used-last m.tokens i token token, tt)

pub sound_rejected : (m : Market) (i time : ℕ) (token : Token) (letter : ℕ) → IsSound m → MayRecord m.recorded i → IsSound (reject (recording m i) i time token letter).market
sound_rejected m i time token letter h l = let r = sound_recorded m i h l in record {
  public = r.public;
  private = r.private;
  matches = r.matches;
  within = within_consumed m i token h;
  placed = placed-more m.tokens _ m.live h.placed;
  lone = lone-more m.tokens _ m.live h.placed h.lone;
  chained = chained_consumed m i token h;
  numbered = r.numbered;
  limited = r.limited;
}

-- An order arrives.

-- its token is used, in the chain of this number; with its open shares the chain is within its limit
pub record Arrives (m : Market) (x : Order) : Type 0 where
  pub used : is_used m.tokens x.member x.token ≡ true
  pub at : IsEnteredAt m.tokens x.member (entered_of m.tokens x.member x.token) x.chain
  pub within : IsWithin m.tokens x.member (entered_of m.tokens x.member x.token) x.shares m.chains m.live
  pub placed : ArePlaced m.tokens m.live
  pub chained : AllByRecursion (λ c. is_used m.tokens c.member c.entered ≡ true) m.chains
  -- and has no other live order
  pub lone : AreLone m.tokens m.live
  pub alone : NoneOf m.tokens x.member (entered_of m.tokens x.member x.token) m.live

abbrev pub matched_of : Market → Order → Matched
matched_of m x = matched (incoming_of x) x.shares m.live

pub counted_arrival : (m : Market) (x : Order) → Arrives m x → Counted m.tokens x.member (entered_of m.tokens x.member x.token) x.chain m.chains (matched_of m x)
unfolding matched
counted_arrival m x h = counted x.shares (incoming_of x) x.shares m.tokens x.member (entered_of m.tokens x.member x.token) x.chain m.chains m.live h.at h.within h.placed

pub own_note : (m : Market) (x : Order) → Arrives m x → CanNote m.tokens x.chain 0 (chains_by m.tokens x.chain (matched_of m x).fills m.chains)
own_note m x h =
    let k = counted_arrival m x h in
    let en : Token = entered_of m.tokens x.member x.token in
    subst (CanNote m.tokens x.chain 0) (sym k.same)
    (can m.tokens x.member en x.chain 0 (chains_after m.tokens x.member en (matched_of m x).fills m.chains) h.at (let a = k.within x.member en in omega arith))

-- the executions of an order are one more at most than the orders that they end
pub ends : (m : Market) (x : Order) → length (matched_of m x).fills + length (matched_of m x).rest ≤ length m.live + 1
unfolding matched
ends m x = let a = ended x.shares (incoming_of x) x.shares m.live in let b = small (ltb 0 x.shares) in omega arith
  where
    small : (b : Bool) → cond b 1 0 ≤ 1
    small true = omega arith
    small false = omega arith

chained_after : (ts : List Used) (i : ℕ) (en : Token) (es : List Execution) (cs : List Chain) → AllByRecursion (λ c. is_used ts c.member c.entered ≡ true) cs → AllByRecursion (λ c. is_used ts c.member c.entered ≡ true) (chains_after ts i en es cs)
chained_after ts i en [] cs h = h
chained_after ts i en (x ∷ es) cs h =
    chained_after ts i en es _ (chained-noted ts i en x.shares false _ (chained-noted ts x.order.member (entered_of ts x.order.member x.order.token) x.shares false cs h))

one_rests : (x : Order) (imm : Bool) (left : ℕ) → length (resting_of x imm left) ≤ 1
one_rests x imm left = cond_both (ltb 0 left && not imm) (record x { shares = left } ∷ []) [] (λ l. length l ≤ 1) (λ _. omega arith) (λ _. omega arith)

rests_within : (ts : List Used) (k : ℕ) (t : Token) (x : Order) (imm : Bool) (left : ℕ) → open_in ts k t (resting_of x imm left) ≤ own (is_name x.member (entered_of ts x.member x.token) k t) left
rests_within ts k t x imm left = cond_both (ltb 0 left && not imm) (record x { shares = left } ∷ []) [] (λ l. open_in ts k t l ≤ own (is_name x.member (entered_of ts x.member x.token) k t) left) (λ _. omega arith) (λ _. omega arith)

rests_placed : (ts : List Used) (x : Order) (imm : Bool) (left : ℕ) → IsPlaced ts x → ArePlaced ts (resting_of x imm left)
rests_placed ts x imm left h = cond_both (ltb 0 left && not imm) (record x { shares = left } ∷ []) [] (λ l. ArePlaced ts l) (λ _. (record { used = h.used; at = h.at }, tt)) (λ _. tt)

noted_within : (b : Bool) (i : ℕ) (en : Token) (cs : List Chain) (k : ℕ) (t : Token) → executed_by (if b then note i en 0 true cs else cs) k t ≤ executed_by cs k t
noted_within true i en cs k t = let a = executed-noted i en 0 true cs k t in let b : own (is_name i en k t) 0 ≡ 0 = none (is_name i en k t) in omega arith
  where
    none : (b : Bool) → ◌≡◌ {A = ℕ} (cond b 0 0) 0
    none true = refl
    none false = refl
noted_within false i en cs k t = omega arith

stay : (m : Market) (x : Order) → Arrives m x → StayLone m.tokens m.live (matched_of m x).rest
unfolding matched
stay m x h = stay_lone x.shares (incoming_of x) x.shares m.tokens m.live h.lone

rests_lone : (m : Market) (x : Order) (imm : Bool) (left : ℕ) (xs : List Order) → AreLone m.tokens xs → NoneOf m.tokens x.member (entered_of m.tokens x.member x.token) xs → AreLone m.tokens (xs ++ resting_of x imm left)
rests_lone m x imm left xs h n =
    cond_both (ltb 0 left && not imm) (record x { shares = left } ∷ []) [] (λ l. AreLone m.tokens (xs ++ l)) (λ _. lone-append m.tokens xs (record x { shares = left }) h n) (λ _. subst (AreLone m.tokens) (sym (append_nil xs)) h)
  where
    append_nil : (ys : List Order) → ys ++ [] ≡ ys
    append_nil [] = refl
    append_nil (y ∷ ys) = ap (λ l. y ∷ l) (append_nil ys)

-- what holds of the numbers before an order arrives
pub record AreReady (m : Market) : Type 0 where
  pub public : m.numbers.public ≤ total m.recorded
  pub private : (i : ℕ) → slice_index m.numbers.private i ≤ slice_index m.recorded i
  pub matches : m.numbers.matches + length m.live + 2 ≤ 2 * total m.recorded
  pub numbered : length m.recorded ≡ 4096
  pub limited : (i : ℕ) → slice_index m.recorded i ≤ 4294967295

pub sound_arrived : (m : Market) (x : Order) (time : ℕ) (imm : Bool) → Arrives m x → AreReady m → IsSound (arrive time imm x m).market
sound_arrived m x time imm h n =
    let ts : List Used = m.tokens in
    let en : Token = entered_of ts x.member x.token in
    let c : Matched = matched_of m x in
    let k = counted_arrival m x h in
    let resting : List Order = resting_of x imm c.left in
    let chains : List Chain = chains_after ts x.member en c.fills m.chains in
    record {
      public = n.public;
      private = n.private;
      matches = (let a = n.matches in let b = ends m x in let f = length-join c.rest resting in let g = one_rests x imm c.left in omega arith);
      within = λ j t. (let a = k.within j t in let b = open-append ts j t c.rest resting in let r = rests_within ts j t x imm c.left in let w = noted_within (displays resting) x.member en chains j t in omega arith);
      placed = placed-append ts c.rest resting k.placed (rests_placed ts x imm c.left (record { used = h.used; at = h.at }));
      lone = rests_lone m x imm c.left c.rest (stay m x h).lone ((stay m x h).none x.member en h.alone);
      chained = chained_if (displays resting) chains (chained_after ts x.member en c.fills m.chains h.chained);
      numbered = n.numbered;
      limited = n.limited;
    }
  where
    length-join : (xs ys : List Order) → length (xs ++ ys) ≡ length xs + length ys
    length-join [] ys = omega arith
    length-join (y ∷ xs) ys = let g : length (xs ++ ys) ≡ length xs + length ys = length-join xs ys in omega arith

    chained_if : (b : Bool) (cs : List Chain) → AllByRecursion (λ c. is_used m.tokens c.member c.entered ≡ true) cs
        → AllByRecursion (λ c. is_used m.tokens c.member c.entered ≡ true) (if b then note x.member (entered_of m.tokens x.member x.token) 0 true cs else cs)
    chained_if true cs g = chained-noted m.tokens x.member (entered_of m.tokens x.member x.token) 0 true cs g
    chained_if false cs g = g

-- An order is entered.

within_entered : (m : Market) (x : Order) → IsSound m → IsEntered m x → IsWithin (used_by m x.member x.token) x.member x.token x.shares (chains_with m x.member x.token) m.live
within_entered m x h new k t = at (is_name x.member x.token k t) refl
  where
    named : is_name x.member x.token k t ≡ true → executed_by (chains_with m x.member x.token) k t + open_in (used_by m x.member x.token) k t m.live ≡ 0
    named n =
        let a : executed_by (chains_with m x.member x.token) k t ≡ executed_by m.chains k t = executed-fresh m.chains _ k t refl in
        let o : open_in (used_by m x.member x.token) k t m.live ≡ open_in m.tokens k t m.live = open-more m.tokens _ k t m.live h.placed in
        let same = same-name x.member k x.token t n in
        let unused : is_used m.tokens k t ≡ false = subst (λ j. is_used m.tokens j t ≡ false) same.0 (subst (λ (z : Token). is_used m.tokens x.member z ≡ false) same.1 new.unused) in
        let y : executed_by m.chains k t ≡ 0 = executed-unused m.tokens k t m.chains unused h.chained in
        let z : open_in m.tokens k t m.live ≡ 0 = open-unused m.tokens k t m.live unused h.placed in omega arith

    at : (b : Bool) → is_name x.member x.token k t ≡ b → executed_by (chains_with m x.member x.token) k t + open_in (used_by m x.member x.token) k t m.live + own b x.shares ≤ 999999
    at true n = let z = named n in let s = new.shares in omega arith
    at false n = let z = within_consumed m x.member x.token h k t in omega arith

pub arrives_entered : (m : Market) (x : Order) (shown : Bool) → IsSound m → IsEntered m x → Arrives (drawn (consumed m x.member x.token) x.member shown) x
arrives_entered m x shown h new =
    let last : entered_of (used_by m x.member x.token) x.member x.token ≡ x.token = entered-last m.tokens x.member x.token x.token new.unused in
    record {
      used = used-last m.tokens x.member x.token x.token;
      at = subst (λ (z : Token). IsEnteredAt (used_by m x.member x.token) x.member z x.chain) (sym last)
          (subst (λ n. IsEnteredAt (used_by m x.member x.token) x.member x.token n) (sym new.chain) (get-last m.tokens (entered_used x.member x.token)));
      within = subst (λ (z : Token). IsWithin (used_by m x.member x.token) x.member z x.shares (chains_with m x.member x.token) m.live) (sym last) (within_entered m x h new);
      placed = placed-more m.tokens _ m.live h.placed;
      chained = chained_consumed m x.member x.token h;
      lone = lone-more m.tokens _ m.live h.placed h.lone;
      alone = subst (λ (z : Token). NoneOf (used_by m x.member x.token) x.member z m.live) (sym last) (none-more m.tokens _ x.member x.token m.live h.placed (none-unused m.tokens x.member x.token m.live new.unused h.placed));
    }

pub draws : (numbers : Numbers) (i : ℕ) (shown : Bool) → ((after_draw numbers i shown).public ≤ numbers.public + 1) × ((after_draw numbers i shown).matches ≡ numbers.matches)
draws numbers i true = (omega arith, refl)
draws numbers i false = (omega arith, refl)

-- the numbers have room for an entered order, and so have the chains
pub can_accept : (m : Market) (x : Order) → IsSound m → MayRecord m.recorded x.member → IsEntered m x
    → CanAccept (used_by m x.member x.token) (chains_with m x.member x.token) m.numbers x.member x.token x.chain (matched_of m x).fills
can_accept m x h l new =
    let a = arrives_entered m x false h new in
    let e = ends m x in
    let sum : total m.recorded ≤ length m.recorded * 4294967295 = total-within m.recorded 4294967295 h.limited in
    let len : length m.recorded * 4294967295 ≡ 4096 * 4294967295 = ap (λ n. n * 4294967295) h.numbered in
    record {
      public = (let b = h.public in omega arith);
      private = (let b = h.private x.member in let c = l.limit in omega arith);
      matches = (let b = h.matches in omega arith);
      notes = (counted_arrival (drawn (consumed m x.member x.token) x.member false) x a).notes;
      own = own_note (drawn (consumed m x.member x.token) x.member false) x a;
      at = a.at;
      same = (counted_arrival (drawn (consumed m x.member x.token) x.member false) x a).same;
    }

pub sound_accepted : (m : Market) (x : Order) (time : ℕ) (e : Enter) → IsSound m → MayRecord m.recorded x.member → IsEntered m x → IsSound (accept_order (recording m x.member) time e x).market
sound_accepted m x time e h l new =
    let up = more m x.member h l in
    let d = draws m.numbers x.member x.shown in
    let room = l.in_range in
    let size = h.numbered in
    sound_arrived (drawn (consumed (recording m x.member) x.member x.token) x.member x.shown) x time (is_immediate e.time_in_force)
    (arrives_recorded (arrives_entered m x x.shown h new))
    (record {
      public = (let a = h.public in let b = d.0 in omega arith);
      private = λ j. private_le x.shown j (raised-along m.numbers.private m.recorded x.member (omega arith) h.private j) (let a = h.private j in let b = raised-le m.recorded x.member j in omega arith);
      matches = (let a = h.matches in let b = d.1 in omega arith);
      numbered = length-raised m.recorded x.member ∙ h.numbered;
      limited = raised-limited m.recorded x.member 4294967295 h.limited l.limit;
    })
  where
    arrives_recorded : Arrives (drawn (consumed m x.member x.token) x.member x.shown) x → Arrives (drawn (consumed (recording m x.member) x.member x.token) x.member x.shown) x
    arrives_recorded a = record { used = a.used; at = a.at; within = a.within; placed = a.placed; chained = a.chained; lone = a.lone; alone = a.alone }

    private_le : (b : Bool) (j : ℕ) → slice_index (raised m.numbers.private x.member) j ≤ slice_index (raised m.recorded x.member) j → slice_index m.numbers.private j ≤ slice_index (raised m.recorded x.member) j
        → slice_index (after_draw m.numbers x.member b).private j ≤ slice_index (raised m.recorded x.member) j
    private_le true j a b = b
    private_le false j a b = a
