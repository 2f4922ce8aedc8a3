use Rattle.std.proofs.Common.{◌≡◌, ◌∙◌, ◌-◌, ◌≤◌, ◌∷◌, get_or, take, length, ap, sym, subst, List, ℕ, arith}
use Rattle.std.proofs.lemmas.List.{take_all}
use Rattle.hx_engine.specs.Pieces.{pieces, AreEnds}
use Rattle.hx_engine.proofs.Pieces.{many, ends_cut, pieces_cut}
use Rattle.hx_engine.proofs.spelled.Records.truncate.Goals as goal

pub returns-then-count-len : goal.returns-then-count-len
returns-then-count-len c =
    let t = c.self.inside.text.items in
    let es = c.self.inside.ends.items in
    sym (take_all c.args.count c.args.self.now (omega (arith, many 0 t es, ap (λ (l : List (List ℕ)). length l) c.self.view_is)))

pub invariant_of-self : goal.invariant_of-self
invariant_of-self c =
    let t = c.self.inside.text.items in
    let es = c.self.inside.ends.items in
    let count = c.args.count in
    let in' : count ≤ length es = omega arith in
    let end : c.end_before-end.result ≡ get_or (0 ∷ es) count 0 = c.end_before-end.ensures ∙ ap (λ (l : List ℕ). get_or (0 ∷ l) count 0) c.deref.ensures.value in
    let text : c.truncate.new.self.items ≡ take (get_or (0 ∷ es) count 0 - 0) t = c.truncate.ensures.items ∙ ap (λ n. take n t) (let far : c.end_before-end.result ≡ get_or (0 ∷ es) count 0 - 0 = omega (arith, end) in far) in
    subst (λ x. AreEnds 0 x c.truncate-2.new.self.items) (sym text) (subst (λ x. AreEnds 0 (take (get_or (0 ∷ es) count 0 - 0) t) x) (sym c.truncate-2.ensures.items) (ends_cut 0 t es count c.self.invariant in'))

pub returns : goal.returns
returns c =
    let t = c.self.inside.text.items in
    let es = c.self.inside.ends.items in
    let count = c.args.count in
    let in' : count ≤ length es = omega arith in
    let end : c.end_before-end.result ≡ get_or (0 ∷ es) count 0 = c.end_before-end.ensures ∙ ap (λ (l : List ℕ). get_or (0 ∷ l) count 0) c.deref.ensures.value in
    let text : c.truncate.new.self.items ≡ take (get_or (0 ∷ es) count 0 - 0) t = c.truncate.ensures.items ∙ ap (λ n. take n t) (let far : c.end_before-end.result ≡ get_or (0 ∷ es) count 0 - 0 = omega (arith, end) in far) in
    (λ i. pieces 0 (text i) (c.truncate-2.ensures.items i)) ∙ pieces_cut 0 t es count c.self.invariant in' ∙ ap (λ (l : List (List ℕ)). take count l) c.self.view_is
