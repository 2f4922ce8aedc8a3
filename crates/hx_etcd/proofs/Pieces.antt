-- A body that is read piece by piece.
use Rattle.std.proofs.Common.{◌≡◌, ◌≢◌, ℕ, ◌+◌, ◌-◌, ◌<◌, ◌≤◌, List, [], ◌∷◌, ◌++◌, length, drop, refl, sym, ap, ◌∙◌, subst, arith, append_assoc}
use Rattle.std.proofs.lemmas.List.{drop-drop, append-nil}
use Rattle.httparse.specs.declared.spans.HeaderSpan.{HeaderSpan}
use Rattle.http1.specs.declared.decode.Decoder.{Decoder}
use Rattle.http1.specs.declared.decode.Decoder.TheVariants.{Length, Chunked, UntilClose}
use Rattle.http1.specs.Body.{Body, body_of}
use Rattle.http1.specs.Decoder.{Completes, with_front, Runs, Continues, Starves, Ends, HasNoBody}
use Rattle.hx_etcd.specs.Pieces.{GoesOn, HasNotEnded, ComesToEnd}
use Rattle.hx_etcd.specs.Responses.{most_fields}
use Rattle.hx_etcd.proofs.Heads.{fields_fit}

-- two pieces in front are one
pub fronts_join : (content piece : List ℕ) (whole first next : Body) → whole ≡ with_front content first → first ≡ with_front piece next → whole ≡ with_front (content ++ piece) next
fronts_join content piece whole first next is then =
    is ∙ ap (with_front content) then ∙ ap (λ (l : List ℕ). body_of l next.trailers) (sym (append_assoc content piece next.bytes))

-- a decoder of a body that has an end stays so
runs_bounded : (old new : Decoder) (input : List ℕ) (len : ℕ) (piece : List ℕ) → Runs old input new len piece → old ≢ UntilClose → new ≢ UntilClose
runs_bounded (Length left) new input len piece runs bounded = λ e. let bad : Length (left - len) ≡ UntilClose = sym runs ∙ e in cc bad
runs_bounded (Chunked chunks max_len) new input len piece runs bounded = λ e. let bad : Chunked runs.0 max_len ≡ UntilClose = sym runs.1 ∙ e in cc bad
runs_bounded UntilClose new input len piece runs bounded = absurd (bounded refl)

-- a piece more is read
goes_further : (d0 d1 d2 : Decoder) (input : List ℕ) (at len : ℕ) (content piece : List ℕ) → GoesOn d0 input d1 at content → Continues d1 (drop at input) d2 len piece → GoesOn d0 input d2 (at + len) (content ++ piece)
goes_further d0 d1 d2 input at len content piece before step = record {
  back = λ more body rest h.
      let moved : Completes d2 (drop len (drop at input) ++ more) body rest = subst (λ (l : List ℕ). Completes d2 (l ++ more) body rest) (sym (drop-drop len at input)) h in
      let whole : Completes d0 (input ++ more) (with_front content (with_front piece body)) rest = before.back more (with_front piece body) rest (step.back more body rest moved) in
      subst (λ (l : List ℕ). Completes d0 (input ++ more) (body_of l body.trailers) rest) (sym (append_assoc content piece body.bytes)) whole;
  forth = λ more whole rest h.
      let first = before.forth more whole rest h in
      let next = step.forth more first.0 rest first.2 in
      (next.0, fronts_join content piece whole first.0 next.0 first.1 next.1, subst (λ (l : List ℕ). Completes d2 (l ++ more) next.0 rest) (drop-drop len at input) next.2);
  bounded = λ h. runs_bounded d1 d2 (drop at input) len piece step.runs (before.bounded h);
}

-- nothing more has come
pauses : (d0 d1 d2 : Decoder) (input : List ℕ) (at len : ℕ) (content : List ℕ) → GoesOn d0 input d1 at content → Starves d1 (drop at input) d2 len → HasNotEnded d0 input × GoesOn d0 input d2 (at + len) content
pauses d0 d1 d2 input at len content before step = (
  λ bounded body rest h.
      let long : Completes d0 (input ++ []) body rest = subst (λ (l : List ℕ). Completes d0 l body rest) (sym (append-nil input)) h in
      let first = before.forth [] body rest long in
      step.unfinished (before.bounded bounded) first.0 rest (subst (λ (l : List ℕ). Completes d1 l first.0 rest) (append-nil (drop at input)) first.2),
  subst (λ (l : List ℕ). GoesOn d0 input d2 (at + len) l) (append-nil content) (goes_further d0 d1 d2 input at len content [] before step.continues),
)

-- the body ends
comes_to_end : (d0 d1 : Decoder) (input : List ℕ) (spans : List HeaderSpan) (at len count : ℕ) (content : List ℕ) → GoesOn d0 input d1 at content → Ends d1 (drop at input) spans len count → length spans ≤ most_fields → ComesToEnd d0 input (at + len) content
comes_to_end d0 d1 input spans at len count content before end room = record {
  trailers = end.trailers;
  few = omega (arith, room, fields_fit (drop at input) spans count end.trailers end.covered end.within.count_fits);
  completes = λ more.
      let whole : Completes d0 (input ++ more) (with_front content (body_of [] end.trailers)) (drop len (drop at input) ++ more)
      = before.back more (body_of [] end.trailers) (drop len (drop at input) ++ more) (end.completes more) in
      let emptied : Completes d0 (input ++ more) (body_of content end.trailers) (drop len (drop at input) ++ more)
      = subst (λ (l : List ℕ). Completes d0 (input ++ more) (body_of l end.trailers) (drop len (drop at input) ++ more)) (append-nil content) whole in
      subst (λ (l : List ℕ). Completes d0 (input ++ more) (body_of content end.trailers) (l ++ more)) (drop-drop len at input) emptied;
}

-- the same of a slice from there on
module _ (d0 d1 : Decoder) (input part : List ℕ) (at : ℕ) (content : List ℕ) (before : GoesOn d0 input d1 at content) (there : part ≡ drop at input) where
  pub part_goes_further : (d2 : Decoder) (len : ℕ) (piece : List ℕ) → Continues d1 part d2 len piece → GoesOn d0 input d2 (at + len) (content ++ piece)
  part_goes_further d2 len piece step = goes_further d0 d1 d2 input at len content piece before (subst (λ (l : List ℕ). Continues d1 l d2 len piece) there step)

  pub part_pauses : (d2 : Decoder) (len : ℕ) → Starves d1 part d2 len → HasNotEnded d0 input × GoesOn d0 input d2 (at + len) content
  part_pauses d2 len step = pauses d0 d1 d2 input at len content before (subst (λ (l : List ℕ). Starves d1 l d2 len) there step)

  pub part_comes_to_end : (spans : List HeaderSpan) (len count : ℕ) → Ends d1 part spans len count → length spans ≤ most_fields → ComesToEnd d0 input (at + len) content
  part_comes_to_end spans len count end room = comes_to_end d0 d1 input spans at len count content before (subst (λ (l : List ℕ). Ends d1 l spans len count) there end) room
