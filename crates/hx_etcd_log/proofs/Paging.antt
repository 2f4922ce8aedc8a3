-- What a copy reports of a log.
use Rattle.std.specs.Prelude.{◌≢◌}
use Rattle.std.proofs.Common.{◌≡◌, ℕ, suc, get_or, ◌+◌, ◌<◌, List, [], ◌∷◌, ◌++◌, length, take, drop, drop-cons, take-append-drop, sym, ap, ◌∙◌, subst, arith}
use Rattle.std.proofs.lemmas.List.{length-take, take_more}
use Rattle.hx_fenced_log.specs.Records.{Record}
use Rattle.hx_fenced_log.specs.Logs.{AreNumbered}
use Rattle.hx_fenced_log.proofs.Standing.{numbered_push}
use Rattle.hx_etcd_log.specs.Copied.{IsMisnumbered}

-- one more record has its number
pub numbered_more : (from number i : ℕ) (page : List Record) (r : Record) → i < length page → r ≡ get_or page i r → number ≡ from + i → AreNumbered from (take i page) → r.head.number ≡ number
    → AreNumbered from (take (i + 1) page)
numbered_more from number i page r lt is count numbered same =
    let more : take (i + 1) page ≡ take i page ++ r ∷ [] = take_more page i r lt ∙ ap (λ (x : Record). take i page ++ x ∷ []) (sym is) in
    subst (λ (l : List Record). AreNumbered from l) (sym more) (numbered_push from (take i page) r numbered (omega (arith, same, count, length-take i page, lt)))

-- the next one has another
pub misnumbered : (from number i : ℕ) (page : List Record) (r : Record) → i < length page → r ≡ get_or page i r → number ≡ from + i → AreNumbered from (take i page) → r.head.number ≢ number
    → IsMisnumbered from page number
misnumbered from number i page r lt is count numbered other = record {
  before = take i page;
  found = r;
  later = drop (suc i) page;
  is = sym (take-append-drop i page) ∙ ap (λ (l : List Record). take i page ++ l) (drop-cons page i r lt ∙ ap (λ (x : Record). x ∷ drop (suc i) page) (sym is));
  numbered = numbered;
  due = omega (arith, count, length-take i page, lt);
  other = other;
}
