-- A replay of a history's tape stops at no line.
use Rattle.std.proofs.Common.{◌≡◌, ◌≤◌, ℕ, List, [], ◌∷◌, ◌++◌, length, Some, None, inl, inr, sym, ap, ◌∙◌, subst, arith, append_assoc, append-nil, length-append}
use Rattle.std.specs.Prelude.{◌≢◌}
use Rattle.std.specs.Fmt.{decimal}
use Rattle.std.proofs.lemmas.Fmt.{length-decimal-le}
use Rattle.std.proofs.lemmas.List.Elements.{All-head, All-tail}
use Rattle.hex.specs.Hex.{encode_lower}
use Rattle.hx_units.specs.Cuts.{Lacks}
use Rattle.hx_units.proofs.Splits.{same_split, none_split}
use Rattle.hx_tape_lines.specs.Text.{Entry as Line, IsEntry, line, tape}
use Rattle.hx_tape_lines.proofs.Lines.{hex_length}
use Rattle.hx_tape_lines.proofs.OneLine.{line_same}
use Rattle.hx_tape_lines.specs.declared.fault.Kind.{Kind}
use Rattle.hx_replay.specs.Run.{Progress, after, after_all, check_of, AreEvents, BeginsBadly, FailsAs}
use Rattle.hx_replay.proofs.OneReading.{line_no_feed, tape-cons}

-- ---- lengths

-- no line is longer than the longest
pub line_fits : (e : Line) → IsEntry e → length (line e) ≤ 2066
line_fits e h =
    omega (
      arith,
      h.few,
      length-append (decimal e.time) (32 ∷ (decimal e.member ++ 32 ∷ encode_lower e.bytes)),
      length-append (decimal e.member) (32 ∷ encode_lower e.bytes),
      length-decimal-le 14 e.time (omega arith) (omega (arith, h.time)) (omega (arith, h.time)),
      length-decimal-le 4 e.member (omega arith) (omega (arith, h.member)) (omega (arith, h.member)),
      hex_length e.bytes,
    )

-- a text without this byte ends before the first of them
within : (b : ℕ) (a x c y : List ℕ) → Lacks b a → a ++ x ≡ c ++ b ∷ y → length a ≤ length c
within b [] x c y p e = omega arith
within b (a ∷ as') x [] y p e = absurd (All-head (λ n. n ≢ b) a as' p (cc))
within b (a ∷ as') x (c ∷ cs) y p e =
    let tails : as' ++ x ≡ cs ++ b ∷ y = cc in
    let rest = within b as' x cs y (All-tail (λ n. n ≢ b) a as' p) tails in
    omega (arith, rest)

nothing : (xs ys : List ℕ) → xs ++ ys ≡ [] → length xs ≡ 0
nothing xs ys e = omega (arith, ap length e, length-append xs ys)

-- ---- the lines that were read are the first ones of the tape

pub record Left (p : Progress) (rest : List ℕ) : Type 0 where
  pub entries : List Line
  pub taken : AreEvents p entries
  pub text : rest ≡ tape entries

pub first_ones : (p : Progress) (events own : List Line) (rest : List ℕ) → AreEvents p events → AreEvents p own → tape events ++ rest ≡ tape own → Left (after_all p events) rest
first_ones p [] own rest h k e = record { entries = own; taken = k; text = e }
first_ones p (x ∷ events) [] rest h k e =
    let none = nothing (tape (x ∷ events)) rest e in
    absurd (omega (arith, none, ap length (tape-cons x events), length-append (line x) (10 ∷ tape events)))
first_ones p (x ∷ events) (o ∷ own) rest h k e =
    let cut : line x ++ 10 ∷ (tape events ++ rest) ≡ line o ++ 10 ∷ tape own =
    sym (ap (λ (t : List ℕ). t ++ rest) (tape-cons x events) ∙ append_assoc (line x) (10 ∷ tape events) rest) ∙ e ∙ tape-cons o own in
    let parts = same_split 10 (line x) (tape events ++ rest) (line o) (tape own) (line_no_feed x h.0.entry) (line_no_feed o k.0.entry) cut in
    let same = line_same x o h.0.entry k.0.entry parts.0 in
    first_ones (after p x) events own rest h.1 (subst (λ (l : Line). AreEvents (after p l) own) (sym same) k.1) parts.1

-- ---- none of those that are left is bad

-- a line that is an event's fails no check
fails_not : (p : Progress) (k : Kind) (bad : List ℕ) (o : Line) → IsEntry o → check_of p o ≡ None → bad ≡ line o → FailsAs p k bad → ⊥
fails_not p k bad o entry passes is (inl none) = none.1 o entry is
fails_not p k bad o entry passes is (inr (e, its, text, fails)) =
    let same = line_same e o its entry (sym text ∙ is) in
    let both : None ≡ Some k = sym passes ∙ ap (check_of p) (sym same) ∙ fails in
    cc

pub not_badly : (End : Type 0) (p : Progress) (k : Kind) (rest unread : List ℕ) → Left p (rest ++ unread) → (End → unread ≡ []) → BeginsBadly End p k rest → ⊥
not_badly End p k rest unread l ends (inl (bad, more, is, lacks, fails)) = at l.entries l.taken (ap (λ (t : List ℕ). t ++ unread) (sym is) ∙ l.text)
  where
    at : (own : List Line) → AreEvents p own → (bad ++ 10 ∷ more) ++ unread ≡ tape own → ⊥
    at [] h e = let none = nothing (bad ++ 10 ∷ more) unread e in omega (arith, none, length-append bad (10 ∷ more))
    at (o ∷ own) h e =
        let cut = same_split 10 bad (more ++ unread) (line o) (tape own) lacks (line_no_feed o h.0.entry) (sym (append_assoc bad (10 ∷ more) unread) ∙ e ∙ tape-cons o own) in
        fails_not p k bad o h.0.entry h.0.passes cut.0 fails
not_badly End p k rest unread l ends (inr (is, lacks, inl long)) = at l.entries l.taken l.text
  where
    at : (own : List Line) → AreEvents p own → rest ++ unread ≡ tape own → ⊥
    at [] h e = omega (arith, long, nothing rest unread e)
    at (o ∷ own) h e = omega (arith, long, within 10 rest unread (line o) (tape own) lacks (e ∙ tape-cons o own), line_fits o h.0.entry)
not_badly End p k rest unread l ends (inr (is, lacks, inr (some, end))) = at l.entries l.taken (sym (append-nil rest) ∙ ap (λ (t : List ℕ). rest ++ t) (sym (ends end)) ∙ l.text)
  where
    at : (own : List Line) → AreEvents p own → rest ≡ tape own → ⊥
    at [] h e = omega (arith, some, ap length e)
    at (o ∷ own) h e = none_split 10 (line o) (tape own) (subst (Lacks 10) (e ∙ tape-cons o own) lacks)
