use Rattle.std.proofs.Common.{◌≡◌, ◌∙◌, ◌+◌, ◌++◌, ◌∷◌, [], length, ap, sym, List, ℕ, subst, arith}
use Rattle.hx_engine.specs.Pieces.{pieces, AreEnds}
use Rattle.hx_engine.proofs.Pieces.{ends_more, pieces_more}
use Rattle.hx_engine.proofs.spelled.Records.push.Goals as goal

pub invariant_of-self-2 : goal.invariant_of-self-2
invariant_of-self-2 c =
    let t = c.self.inside.text.items in
    let es = c.self.inside.ends.items in
    let b = c.args.bytes.now in
    let end = c.len.result in
    let text : c.extend_from_slice.new.self.items ≡ t ++ b = c.in_ok-extend_from_slice.ensures.items in
    let ends : c.push_reserved.new.self.items ≡ es ++ end ∷ [] = c.push_reserved.ensures.items ∙ ap (λ (l : List ℕ). l ++ end ∷ []) c.reserve.ensures.items in
    let long : end ≡ length c.extend_from_slice.new.self.items = omega arith in
    let is : end ≡ 0 + length (t ++ b) = omega (arith, long, ap (λ (l : List ℕ). length l) text) in
    subst (λ x. AreEnds 0 x c.push_reserved.new.self.items) (sym text) (subst (λ x. AreEnds 0 (t ++ b) x) (sym ends) (ends_more 0 t b es end c.self.invariant is))

pub returns-clause-ok : goal.returns-clause-ok
returns-clause-ok c =
    let t = c.self.inside.text.items in
    let es = c.self.inside.ends.items in
    let b = c.args.bytes.now in
    let end = c.len.result in
    let text : c.extend_from_slice.new.self.items ≡ t ++ b = c.in_ok-extend_from_slice.ensures.items in
    let ends : c.push_reserved.new.self.items ≡ es ++ end ∷ [] = c.push_reserved.ensures.items ∙ ap (λ (l : List ℕ). l ++ end ∷ []) c.reserve.ensures.items in
    let long : end ≡ length c.extend_from_slice.new.self.items = omega arith in
    let is : end ≡ 0 + length (t ++ b) = omega (arith, long, ap (λ (l : List ℕ). length l) text) in
    (λ i. pieces 0 (text i) (ends i)) ∙ pieces_more 0 t b es end c.self.invariant is ∙ ap (λ (l : List (List ℕ)). l ++ b ∷ []) c.self.view_is
