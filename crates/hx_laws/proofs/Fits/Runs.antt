-- The feed of a whole recorded history fits its fields.
use Rattle.std.proofs.Common.{◌≡◌, ℕ, zero, suc, ◌+◌, ◌*◌, ◌<◌, ◌≤◌, Bool, true, false, cond, leb, refl, sym, ◌∙◌, subst, arith, ◌&&◌, List, [], ◌∷◌, length, replicate, Some, None, Option, slice_index}
use Rattle.std.specs.Prelude.{is_none}
use Rattle.std.specs.List.{AllByRecursion}
use Rattle.std.specs.Option.{IfSome, option_map_or}
use Rattle.std.proofs.lemmas.Bool.{and_parts, leb-true, leb-false}
use Rattle.hx_book.proofs.Lists.{find-all}
use Rattle.hx_members.specs.Setups.{Setup, member_of}
use Rattle.hx_members.specs.Member.{Member}
use Rattle.hx_refs.specs.Numbers.{raised}
use Rattle.hx_refs.proofs.Numbers.{length-raised}
use Rattle.hx_rules.specs.declared.event.Event.{Event}
use Rattle.hx_rules.specs.declared.event.Event.TheVariants.{Message, Tick, Hours, Halt, Break}
use Rattle.hx_rules.specs.declared.fault.PrepareError.{PrepareError}
use Rattle.hx_rules.specs.Markets.{Market, opening}
use Rattle.hx_rules.specs.Refusals.{known_member, is_from_stranger, limit_of}
use Rattle.hx_rules.specs.Steps.{sender, time_of, with_record, happens, step, outputs_from, output, feed, feed_of}
use Rattle.hx_laws.specs.Recorded.{AreAccepted}
use Rattle.hx_laws.specs.FeedFits.{FitsMember, FitsSetup, FitsEvent, FeedFits}
use Rattle.hx_laws.proofs.Fits.EventOutput.{AreFeed, both_feed}
use Rattle.hx_laws.proofs.Fits.Events.{Good, happens_keeps}

-- ---- counts

abbrev total : List ℕ → ℕ
total [] = 0
total (n ∷ counts) = n + total counts

total_raised : (xs : List ℕ) (i : ℕ) → i < length xs → total (raised xs i) ≡ total xs + 1
total_raised [] i h = absurd (omega arith)
total_raised (x ∷ xs) zero h = omega arith
total_raised (x ∷ xs) (suc i) h = let k : total (raised xs i) ≡ total xs + 1 = total_raised xs i (omega arith) in omega arith

total_within : (xs : List ℕ) → ((i : ℕ) → slice_index xs i ≤ 4294967295) → total xs ≤ 4294967295 * length xs
total_within [] h = omega arith
total_within (x ∷ xs) h = let a = h 0 in let k : total xs ≤ 4294967295 * length xs = total_within xs (λ i. h (suc i)) in omega arith

limited_raised : (xs : List ℕ) (i : ℕ) → ((k : ℕ) → slice_index xs k ≤ 4294967295) → slice_index xs i < 4294967295 → (k : ℕ) → slice_index (raised xs i) k ≤ 4294967295
limited_raised [] i all l k = all k
limited_raised (x ∷ xs) zero all l zero = omega arith
limited_raised (x ∷ xs) zero all l (suc k) = all (suc k)
limited_raised (x ∷ xs) (suc i) all l zero = all 0
limited_raised (x ∷ xs) (suc i) all l (suc k) = limited_raised xs i (λ j. all (suc j)) l k

-- n events are counted
record Counted (n : ℕ) (counts : List ℕ) : Type 0 where
  numbered : length counts ≡ 4096
  limited : (k : ℕ) → slice_index counts k ≤ 4294967295
  total_is : total counts ≡ n

one_more : (n : ℕ) (counts : List ℕ) (i : ℕ) → Counted n counts → i < 4096 → slice_index counts i < 4294967295 → Counted (n + 1) (raised counts i)
one_more n counts i c l room =
    let numbered = c.numbered in
    let is = c.total_is in
    let up = total_raised counts i (omega arith) in
    record { numbered = length-raised counts i ∙ numbered; limited = limited_raised counts i c.limited room; total_is = omega arith }

-- no day has more events
few_of : (n : ℕ) (counts : List ℕ) → Counted (n + 1) counts → n < 17592186040320
few_of n counts c = let numbered = c.numbered in let is = c.total_is in let most = total_within counts c.limited in omega arith

zeros : (n i : ℕ) → slice_index (replicate n 0) i ≤ 4294967295
zeros zero i = omega arith
zeros (suc n) zero = omega arith
zeros (suc n) (suc i) = zeros n i

no_total : (n : ℕ) → total (replicate n 0) ≡ 0
no_total zero = refl
no_total (suc n) = let k : total (replicate n 0) ≡ 0 = no_total n in omega arith

-- ---- an event that is accepted

record Passes (time : ℕ) (stranger : Bool) (limit count : ℕ) : Type 0 where
  early : time < 86400000000000
  known : stranger ≡ false
  room : count < limit

passes : (time : ℕ) (stranger : Bool) (limit count : ℕ) (x y z : PrepareError) → cond (leb 86400000000000 time) (Some x) (cond stranger (Some y) (cond (leb limit count) (Some z) None)) ≡ None
    → Passes time stranger limit count
passes time stranger limit count x y z h = choose (leb 86400000000000 time) stranger (leb limit count) refl refl refl h
  where
    choose : (a b c : Bool) → leb 86400000000000 time ≡ a → stranger ≡ b → leb limit count ≡ c → cond a (Some x) (cond b (Some y) (cond c (Some z) None)) ≡ None → Passes time stranger limit count
    choose true b c d e f h = absurd (cc h)
    choose false true c d e f h = absurd (cc h)
    choose false false true d e f h = absurd (cc h)
    choose false false false d e f h = record { early = leb-false 86400000000000 time d; known = e; room = leb-false limit count f }

known_fits : (setup : Setup) (m : ℕ) → FitsSetup setup → is_none (known_member setup m) ≡ false → (m < 4096) × (option_map_or (λ k. k.limit) (known_member setup m) 0 ≤ 4294967295)
known_fits setup m fits h = choose (leb 1 m && leb m 4095) refl h
  where
    limit : (o : Option Member) → IfSome o FitsMember → option_map_or (λ k. k.limit) o 0 ≤ 4294967295
    limit None f = omega arith
    limit (Some k) f = let l = f.limit in omega arith

    choose : (b : Bool) → (leb 1 m && leb m 4095) ≡ b → is_none (cond b (member_of setup m) None) ≡ false → (m < 4096) × (option_map_or (λ k. k.limit) (cond b (member_of setup m) None) 0 ≤ 4294967295)
    choose true e g = let le : m ≤ 4095 = leb-true m 4095 (and_parts (leb 1 m) (leb m 4095) e).1 in (omega arith, limit (member_of setup m) (find-all FitsMember _ setup.members fits.members))
    choose false e g = absurd (let z : true ≡ false = g in cc)

sender_fits : (setup : Setup) (event : Event) → FitsSetup setup → is_from_stranger setup event ≡ false → (sender event < 4096) × (limit_of setup event ≤ 4294967295)
sender_fits setup (Message m time bytes) fits h = known_fits setup m fits h
sender_fits setup (Tick time) fits h = (omega arith, omega arith)
sender_fits setup (Hours time code) fits h = (omega arith, omega arith)
sender_fits setup (Halt time stock state reason) fits h = (omega arith, omega arith)
sender_fits setup (Break time number) fits h = (omega arith, omega arith)

-- ---- the run

fits_from : (setup : Setup) (n : ℕ) (a : Market) (events : List Event) → FitsSetup setup → Good n a → Counted n a.recorded → AllByRecursion FitsEvent events → AreAccepted setup a events
    → AreFeed (feed_of (outputs_from setup a events))
unfolding outputs_from step
fits_from setup n a [] fits g c all accepted = tt
fits_from setup n a (event ∷ events) fits g c all accepted =
    let p = passes (time_of event) (is_from_stranger setup event) (limit_of setup event) (slice_index a.recorded (sender event)) _ _ _ accepted.0 in
    let who = sender_fits setup event fits p.known in
    let most = who.1 in
    let some = p.room in
    let counted = one_more n a.recorded (sender event) c who.0 (omega arith) in
    let early = p.early in
    let b : Market = with_record event a in
    let k = happens_keeps setup n fits (few_of n (raised a.recorded (sender event)) counted) b event (record { orders = g.orders; public = g.public; matches = g.matches; executions = g.executions }) (omega arith) all.0 in
    both_feed (happens setup b event).output.feed _ k.feed
    (fits_from setup (n + 1) (happens setup b event).market events fits k.good (subst (Counted (n + 1)) (sym k.recorded) counted) all.1 accepted.1)

pub feed_fits : FeedFits
unfolding feed output opening
feed_fits setup events fits all recorded =
    fits_from setup 0 (opening setup) events fits (record { orders = tt; public = omega arith; matches = omega arith; executions = tt })
    (record { numbered = refl; limited = zeros 4096; total_is = no_total 4096 }) all recorded
