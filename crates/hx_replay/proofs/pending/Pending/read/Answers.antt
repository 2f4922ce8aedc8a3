use Rattle.std.proofs.Common.{◌≡◌, ℕ, List, [], ◌++◌, length, Option, sym, ap, ◌∙◌, subst, arith}
use borrow.Author.Tests.{ltb-false}
use Rattle.std.specs.Io.KnownBytes.{Consumes}
use Rattle.std.proofs.KnownBytes.{Consumes-nil, Consumes-kept}
use Rattle.std.proofs.lemmas.List.{append-nil, nil_from_length}
use Rattle.hx_replay.proofs.pending.Pending.read.Goals as goal

-- no byte is read
none_read : (s t : Option (List ℕ)) (old new piece : List ℕ) → new ≡ old ++ piece → Consumes s t piece → length piece ≡ 0 → (new ≡ old) × Consumes s t []
none_read s t old new piece is took empty =
    let none : piece ≡ [] = nil_from_length piece empty in
    (is ∙ ap (λ (l : List ℕ). old ++ l) none ∙ append-nil old, subst (Consumes s t) none took)

pub returns-in-Ok-clause-piece : goal.returns-in-Ok-clause-piece
returns-in-Ok-clause-piece g c =
    let p = c.in-Ok.ensures.piece in
    (p.0, p.1, p.3)

pub returns-in-Ok-clause-end : goal.returns-in-Ok-clause-end
returns-in-Ok-clause-end g c = λ none.
    let p = c.in-Ok.ensures.piece in
    let empty : c.in-Ok.count ≡ 0 = omega (arith, ltb-false 0 c.in-Ok.count none) in
    let same = none_read _ _ _ _ p.0 p.1 p.3 (p.2 ∙ empty) in
    (same.0, same.1, c.in-Ok.ensures.end empty)

pub returns-in-Err-clause-piece : goal.returns-in-Err-clause-piece
returns-in-Err-clause-piece g c =
    let r = g.R.Read.remaining c.args.reader.now in
    ([], c.in-Err.ensures.err.0 ∙ sym (append-nil c.args.self.now), Consumes-kept r r _ [] (Consumes-nil r) c.in-Err.ensures.err.1)
