-- A text has one setup at most, and one bad line at most.
use Rattle.std.proofs.Common.{◌≡◌, ℕ, ◌<◌, ◌≤◌, Bool, true, false, List, [], ◌∷◌, ◌++◌, refl, sym, ap, ◌∙◌, inl, inr, arith, get_or, take, drop}
use Rattle.std.specs.Prelude.{codes}
use Rattle.std.proofs.lemmas.Bool.{cases_lt}
use Rattle.std.proofs.lemmas.List.{append_assoc, append-nil, append_cancel_left, length-take, take-append-drop}
use Rattle.std.proofs.lemmas.List.Concat.{flat_map-append}
use Rattle.hx_setup.specs.declared.stock.Stock.{Stock}
use Rattle.hx_setup.specs.declared.stock.Member.{Member}
use Rattle.hx_setup.specs.Setups.{Setup}
use Rattle.hx_setup.specs.SetupText.{text_of, session_line, start_line, setup_lines, setup_text, HasText, Begins, IsBadLine}
use Rattle.hx_setup.proofs.SetupLines.{setup_feeds, first_line, goes_whole, same_head, same_tail, same_lines}
use Rattle.hx_units.proofs.Lists.{line_feed-not_nil}

begins_less : (m n : ℕ) (text : List ℕ) → m ≤ n → Begins n text → Begins m text
begins_less m n text less b = record {
  setup = b.setup;
  has_text = b.has_text;
  lines = take m b.lines;
  others = drop m b.lines ++ b.others;
  of_setup = b.of_setup ∙ ap (λ (l : List (List ℕ)). l ++ b.others) (sym (take-append-drop m b.lines)) ∙ append_assoc (take m b.lines) (drop m b.lines) b.others;
  count = omega (arith, length-take m b.lines, b.count, less);
  rest = text_of (drop m b.lines) ++ b.rest;
  of_text = b.of_text
      ∙ ap (λ (l : List ℕ). l ++ b.rest) (ap text_of (sym (take-append-drop m b.lines)) ∙ flat_map-append (λ (l : List ℕ). l ++ 10 ∷ []) (take m b.lines) (drop m b.lines))
      ∙ append_assoc (text_of (take m b.lines)) (text_of (drop m b.lines)) b.rest;
}

earlier : (m n : ℕ) (text : List ℕ) → IsBadLine m text → IsBadLine n text → m < n → ⊥
earlier m n text p q less = p.goes_wrong (begins_less m q.before text (omega (arith, q.is_next, less)) q.begins)

pub one_bad : (m n : ℕ) (text : List ℕ) → IsBadLine m text → IsBadLine n text → m ≡ n
one_bad m n text p q =
    elim (cases_lt m n) [
      | inl less ↦ absurd (earlier m n text p q less)
      | inr past ↦
          elim (cases_lt n m) [
            | inl less ↦ absurd (earlier n m text q p less)
            | inr over ↦ omega (arith, past, over)
          ]
    ]

same_session : (s t : List ℕ) → session_line s ≡ session_line t → s ≡ t
unfolding session_line
same_session s t e = append_cancel_left (codes "session ") s t e

same_start : (a b : Bool) → start_line a ≡ start_line b → a ≡ b
unfolding start_line
same_start true true e = refl
same_start true false e = absurd (let letters : get_or (start_line true) 6 0 ≡ get_or (start_line false) 6 0 = ap (λ (l : List ℕ). get_or l 6 0) e in omega (arith, letters))
same_start false true e = absurd (let letters : get_or (start_line false) 6 0 ≡ get_or (start_line true) 6 0 = ap (λ (l : List ℕ). get_or l 6 0) e in omega (arith, letters))
same_start false false e = refl

same_setup : (a b : Setup) → HasText a → HasText b → setup_lines b ≡ setup_lines a → a ≡ b
same_setup a b p q e =
    let lists = same_lines a.stocks b.stocks a.members b.members p.stocks q.stocks p.members q.members (same_tail _ _ _ _ (same_tail _ _ _ _ e)) in
    let session = same_session a.session b.session (sym (same_head _ _ _ _ e)) in
    let start = same_start a.start_open b.start_open (sym (same_head _ _ _ _ (same_tail _ _ _ _ e))) in
    let made : List ℕ → Bool → List Stock → List Member → Setup = λ s o k m. record { session = s; start_open = o; stocks = k; members = m } in
    ap (λ (s : List ℕ). made s a.start_open a.stocks a.members) session ∙ ap (λ (o : Bool). made b.session o a.stocks a.members) start
    ∙ ap (λ (k : List Stock). made b.session b.start_open k a.members) (sym lists.0) ∙ ap (λ (m : List Member). made b.session b.start_open b.stocks m) (sym lists.1)

pub one_text : (a b : Setup) → HasText a → HasText b → setup_text a ≡ setup_text b → a ≡ b
one_text a b p q e =
    let g = goes_whole (setup_lines a) (setup_lines b) [] (setup_feeds a p) (setup_feeds b q) (append-nil (text_of (setup_lines a)) ∙ e) in
    at g.more g.lines_are g.rest_is
  where
    at : (more : List (List ℕ)) → setup_lines b ≡ setup_lines a ++ more → [] ≡ text_of more ++ [] → a ≡ b
    at [] same r = same_setup a b p q (same ∙ append-nil (setup_lines a))
    at (z ∷ more) same r = absurd (line_feed-not_nil z (text_of more ++ []) (sym (r ∙ first_line z more [])))
