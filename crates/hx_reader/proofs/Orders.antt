-- What was handed out is a beginning of the feed.
use Rattle.std.proofs.Common.{◌≡◌, ℕ, ◌+◌, ◌-◌, ◌≤◌, ◌^◌, ◌==◌, ◌||◌, ◌&&◌, zero, suc, nat_lt, nat_le, List, [], ◌∷◌, ◌++◌, Bool, true, false, Option, Some, None, length, slice_get, slice_set, replicate, refl, sym, ap, subst, ◌∙◌, inl, inr, ◌⊎◌, arith, if◌then◌else◌, append_assoc, append-nil, length-append, ltb-false}
use Rattle.std.specs.Option.{option_to_list}
use Rattle.std.proofs.lemmas.Bool.Decides.{nat_tests}
use Rattle.std.specs.List.{AllByRecursion}
use Rattle.std.specs.Prelude.{bytes_eq}
use Rattle.std.proofs.lemmas.Slice.Eq.{bytes_eq-Decides}
use Rattle.std.proofs.lemmas.Option.{same_Some}
use Rattle.hx_mold.specs.declared.packet.MoldPacket.{MoldPacket}
use Rattle.hx_mold.specs.declared.packet.MoldPacket.TheVariants as mold
use Rattle.hx_mold.specs.Reading.{packet_of}
use Rattle.hx_reader.specs.Readings.{Reading, opening, is_vacant, filled, placed, all_placed, delivered_to, comes, session_of, packet_comes, received, first_retained, ready, vacated, handed}
use Rattle.hx_reader.specs.Runs.{Step, Comes, IsAsked, after, gives, after_all, given, IsSo, TellsOf, IsBeginning, InOrder, Whole}

abbrev pub Window : Type 0
Window = List (Option (List ℕ))

-- what is stored is in the feed, the first slot for message number o + 1
abbrev pub Agrees : List (List ℕ) → ℕ → Window → Type 0
Agrees feed o window = (i : ℕ) (x : List ℕ) → slice_get window i ≡ Some (Some x) → slice_get feed (o + i) ≡ Some x

-- the reading is one of the feed after this was handed out
pub record Holds (feed : List (List ℕ)) (session : List ℕ) (out : List (List ℕ)) (r : Reading) : Type 0 where
  pub same : r.session ≡ session
  pub front : IsBeginning out feed
  pub next : r.next ≡ length out + 1
  pub retained : Agrees feed (length out) r.window
  pub delivered : r.delivered ≤ length feed + 1
  pub ended : r.ended ≡ true → r.delivered ≡ length feed + 1

fill_cases : (k : ℕ) (m : List ℕ) (w : Window) (i : ℕ) (x : List ℕ) → slice_get (slice_set w k (Some m)) i ≡ Some (Some x) → ((i ≡ k) × (x ≡ m)) ⊎ (slice_get w i ≡ Some (Some x))
fill_cases k m [] i x h = inr h
fill_cases zero m (y ∷ w) zero x h = inl (refl, sym (same_Some m x (same_Some (Some m) (Some x) h)))
fill_cases zero m (y ∷ w) (suc i) x h = inr h
fill_cases (suc k) m (y ∷ w) zero x h = inr h
fill_cases (suc k) m (y ∷ w) (suc i) x h = elim (fill_cases k m w i x h) [ inl p ↦ inl (ap suc p.0, p.1) | inr q ↦ inr q ]

filled_agrees : (feed : List (List ℕ)) (o k : ℕ) (m : List ℕ) (w : Window) → slice_get feed (o + k) ≡ Some m → Agrees feed o w → Agrees feed o (filled k m w)
unfolding filled
filled_agrees feed o k m w there a = at (is_vacant (slice_get w k))
  where
    at : (b : Bool) → Agrees feed o (if b then slice_set w k (Some m) else w)
    at true i x h = elim (fill_cases k m w i x h) [ inl p ↦ ap (λ j. slice_get feed (o + j)) p.0 ∙ there ∙ ap Some (sym p.1) | inr q ↦ a i x q ]
    at false i x h = a i x h

module _ (feed : List (List ℕ)) (session : List ℕ) where
  pub placed_holds : (out : List (List ℕ)) (n k : ℕ) (m : List ℕ) (r : Reading) → n ≡ k + 1 → slice_get feed k ≡ Some m → Holds feed session out r → Holds feed session out (placed n m r)
  unfolding placed
  placed_holds out n k m r e there h = at (nat_lt n r.next) (nat_lt 44 (length m)) refl
    where
      at : (b c : Bool) → nat_lt n r.next ≡ b → Holds feed session out (if b || c then r else record r { window = filled (n - r.next) m r.window })
      at true c t = h
      at false true t = h
      at false false t =
          let below : r.next ≤ n = ltb-false n r.next t in
          let slot : length out + (n - r.next) ≡ k = omega (arith, h.next, e, below) in
          record {
            same = h.same;
            front = h.front;
            next = h.next;
            delivered = h.delivered;
            ended = h.ended;
            retained = filled_agrees feed (length out) (n - r.next) m r.window (ap (slice_get feed) slot ∙ there) h.retained;
          }

  abbrev EachAt : ℕ → List (List ℕ) → Type 0
  EachAt n [] = Unit {0}
  EachAt n (m ∷ ms) = ((k : ℕ) × (n ≡ k + 1) × (slice_get feed k ≡ Some m)) × EachAt (n + 1) ms

  all_placed_holds : (out : List (List ℕ)) (n : ℕ) (ms : List (List ℕ)) (r : Reading) → EachAt n ms → Holds feed session out r → Holds feed session out (all_placed n ms r)
  unfolding all_placed
  all_placed_holds out n [] r each h = h
  all_placed_holds out n (m ∷ ms) r each h = all_placed_holds out (n + 1) ms (placed n m r) each.1 (placed_holds out n each.0.0 m r each.0.1 each.0.2 h)

  seam : (before : List (List ℕ)) (m : List ℕ) (ms rest : List (List ℕ)) → slice_get ((before ++ m ∷ ms) ++ rest) (length before) ≡ Some m
  seam [] m ms rest = refl
  seam (b ∷ before) m ms rest = seam before m ms rest

  each_at : (before ms rest : List (List ℕ)) (n : ℕ) → feed ≡ before ++ ms ++ rest → n ≡ length before + 1 → EachAt n ms
  each_at before [] rest n e at = tt
  each_at before (m ∷ ms) rest n e at = (
    (length before, at, ap (λ l. slice_get l (length before)) e ∙ seam before m ms rest),
    each_at (before ++ m ∷ []) ms rest (n + 1) (e ∙ ap (λ l. l ++ rest) (sym (append_assoc before (m ∷ []) ms))) (omega (arith, at, length-append before (m ∷ []))),
  )

  stands_within : (before ms rest : List (List ℕ)) (n : ℕ) → feed ≡ before ++ ms ++ rest → n ≡ length before + 1 → n + length ms ≤ length feed + 1
  stands_within before ms rest n e at = omega (arith, at, ap length e, length-append (before ++ ms) rest, length-append before ms)

  delivered_holds : (out : List (List ℕ)) (n : ℕ) (r : Reading) → n ≤ length feed + 1 → Holds feed session out r → Holds feed session out (delivered_to n r)
  delivered_holds out n r le h = record {
    same = h.same;
    front = h.front;
    next = h.next;
    retained = h.retained;
    delivered = omega (arith, le, h.delivered);
    ended = λ yes. (let t : r.delivered ≡ length feed + 1 = h.ended yes in omega (arith, le, t));
  }

  comes_holds : (out : List (List ℕ)) (p : MoldPacket) (r : Reading) → IsSo feed p → Holds feed session out r → Holds feed session out (comes r p)
  comes_holds out (mold.Blocks s n ms) r so h = at (nat_lt n (2 ^ 64 - 65535))
    where
      at : (b : Bool) → Holds feed session out (if b then delivered_to (n + length ms) (all_placed n ms r) else r)
      at true = delivered_holds out (n + length ms) (all_placed n ms r) (stands_within so.0 ms so.1 n so.2 so.3) (all_placed_holds out n ms r (each_at so.0 ms so.1 n so.2 so.3) h)
      at false = h
  comes_holds out (mold.Heartbeat s n) r so h = delivered_holds out n r so h
  comes_holds out (mold.EndOfSession s n) r so h = record {
    same = h.same;
    front = h.front;
    next = h.next;
    retained = h.retained;
    delivered = omega (arith, so, h.delivered);
    ended = λ _. omega (arith, so, h.delivered);
  }

  received_holds : (out bytes : _) (r : Reading) → TellsOf feed session (Comes bytes) → Holds feed session out r → Holds feed session out (received r bytes)
  unfolding received
  received_holds out bytes r tells h = at (packet_of bytes) refl
    where
      at : (o : Option MoldPacket) → packet_of bytes ≡ o → Holds feed session out (packet_comes r o)
      at None e = h
      at (Some p) e = by (bytes_eq (session_of p) r.session) refl
        where
          by : (b : Bool) → bytes_eq (session_of p) r.session ≡ b → Holds feed session out (if b then comes r p else r)
          by true t = comes_holds out p r (tells p e ((bytes_eq-Decides (session_of p) r.session).0 t ∙ h.same)) h
          by false t = h

  tail_of : (out rest : List (List ℕ)) (m : List ℕ) → slice_get (out ++ rest) (length out) ≡ Some m → (more : List (List ℕ)) × (rest ≡ m ∷ more)
  tail_of [] [] m h = absurd (let e : None ≡ Some m = h in cc)
  tail_of [] (y ∷ ys) m h = (ys, ap (λ z. z ∷ ys) (same_Some y m h))
  tail_of (o ∷ out) rest m h = tail_of out rest m h

  before_vacant : (w : Window) (i : ℕ) (x : List ℕ) → slice_get (w ++ None ∷ []) i ≡ Some (Some x) → slice_get w i ≡ Some (Some x)
  before_vacant [] zero x h = absurd (let e : Some None ≡ Some (Some x) = h in cc)
  before_vacant [] (suc i) x h = absurd (let e : None ≡ Some (Some x) = h in cc)
  before_vacant (y ∷ w) zero x h = h
  before_vacant (y ∷ w) (suc i) x h = before_vacant w i x h

  handed_holds : (out : List (List ℕ)) (r : Reading) → Holds feed session out r → Holds feed session (out ++ option_to_list (ready r)) (handed r (ready r))
  handed_holds out r h = at r.window refl
    where
      nothing : Holds feed session (out ++ []) r
      nothing = subst (λ l. Holds feed session l r) (sym (append-nil out)) h

      at : (w : Window) → r.window ≡ w → Holds feed session (out ++ option_to_list (first_retained r.next w)) (handed r (first_retained r.next w))
      at [] e = nothing
      at (None ∷ w) e = nothing
      at (Some m ∷ w) e = by (r.next == 18446744073709551615)
        where
          there : slice_get feed (length out) ≡ Some m
          there = ap (slice_get feed) (omega arith) ∙ h.retained 0 m (ap (λ l. slice_get l 0) e)

          more : (rest : List (List ℕ)) × (h.front.0 ≡ m ∷ rest)
          more = tail_of out h.front.0 m (ap (λ l. slice_get l (length out)) h.front.1 ∙ there)

          longer : length (out ++ m ∷ []) ≡ length out + 1
          longer = length-append out (m ∷ [])

          by : (b : Bool) → Holds feed session (out ++ option_to_list (if b then None else Some m)) (handed r (if b then None else Some m))
          by true = nothing
          by false = record {
            same = h.same;
            front = (more.0, append_assoc out (m ∷ []) more.0 ∙ ap (λ l. out ++ l) (sym more.1) ∙ h.front.1);
            next = omega (arith, h.next, longer);
            retained = λ i x k. ap (slice_get feed) (omega (arith, longer)) ∙ h.retained (suc i) x (ap (λ l. slice_get l (suc i)) e ∙ before_vacant w i x (ap (λ l. slice_get (vacated l) i) (sym e) ∙ k));
            delivered = h.delivered;
            ended = h.ended;
          }

  step_holds : (out : List (List ℕ)) (s : Step) (r : Reading) → TellsOf feed session s → Holds feed session out r → Holds feed session (out ++ gives r s) (after r s)
  step_holds out (Comes bytes) r tells h = subst (λ l. Holds feed session l (received r bytes)) (sym (append-nil out)) (received_holds out bytes r tells h)
  step_holds out IsAsked r tells h = handed_holds out r h

  pub run_holds : (out : List (List ℕ)) (steps : List Step) (r : Reading) → AllByRecursion (TellsOf feed session) steps → Holds feed session out r → Holds feed session (out ++ given r steps) (after_all r steps)
  run_holds out [] r all h = subst (λ l. Holds feed session l r) (sym (append-nil out)) h
  run_holds out (s ∷ steps) r all h =
      subst (λ l. Holds feed session l (after_all (after r s) steps)) (append_assoc out (gives r s) (given (after r s) steps)) (run_holds (out ++ gives r s) steps (after r s) all.1 (step_holds out s r all.0 h))

  vacant : (n i : ℕ) (x : List ℕ) → slice_get (replicate n None) i ≡ Some (Some x) → slice_get feed (0 + i) ≡ Some x
  vacant zero i x h = absurd (let e : None ≡ Some (Some x) = h in cc)
  vacant (suc n) zero x h = absurd (let e : Some None ≡ Some (Some x) = h in cc)
  vacant (suc n) (suc i) x h = absurd (never n i x h)
    where
      never : (n i : ℕ) (x : List ℕ) → slice_get (replicate n None) i ≡ Some (Some x) → ⊥
      never zero i x h = let e : None ≡ Some (Some x) = h in cc
      never (suc n) zero x h = let e : Some None ≡ Some (Some x) = h in cc
      never (suc n) (suc i) x h = never n i x h

  opening_holds : (size : ℕ) → Holds feed session [] (opening session size)
  opening_holds size = record {
    same = refl;
    front = (feed, refl);
    next = refl;
    retained = vacant size;
    delivered = omega arith;
    ended = λ h. absurd (let e : false ≡ true = h in cc);
  }

pub in_order : InOrder
in_order feed session size steps all = (run_holds feed session [] steps (opening session size) all (opening_holds feed session size)).front

finish : (out rest feed : List (List ℕ)) → out ++ rest ≡ feed → length feed ≤ length out → out ≡ feed
finish out [] feed e le = sym (append-nil out) ∙ e
finish out (y ∷ ys) feed e le = absurd (omega (arith, length-append out (y ∷ ys), ap length e, le))

both : (a : Bool) (m n : ℕ) → a && nat_le m n ≡ true → (a ≡ true) × (m ≤ n)
both true m n h = (refl, grind (arith, nat_tests, h))
both false m n h = absurd (let e : false ≡ true = h in cc)

pub whole : Whole
whole feed session size steps all is =
    let r = after_all (opening session size) steps in
    let h = run_holds feed session [] steps (opening session size) all (opening_holds feed session size) in
    let b = both r.ended r.delivered r.next is in
    finish (given (opening session size) steps) h.front.0 feed h.front.1 (omega (arith, h.ended b.0, b.1, h.next))
