use Rattle.std.proofs.Common.{◌≡◌, ◌∙◌, ◌-◌, ◌<◌, ◌≤◌, ◌∷◌, [], get_or, take, drop, length, ap, List, ℕ, arith}
use Rattle.hx_engine.proofs.Pieces.{many, piece_within, piece_at, stands_at}
use Rattle.hx_engine.proofs.spelled.Records.get.Goals as goal

pub end_before-start-requires : goal.end_before-start-requires
end_before-start-requires c =
    let t = c.self.inside.text.items in
    let es = c.self.inside.ends.items in
    omega (arith, c.requires, many 0 t es, ap (λ (l : List (List ℕ)). length l) c.self.view_is, ap (λ (l : List ℕ). length l) c.deref.ensures.value)

pub index-requires : goal.index-requires
index-requires c =
    let t = c.self.inside.text.items in
    let es = c.self.inside.ends.items in
    omega (arith, c.requires, many 0 t es, ap (λ (l : List (List ℕ)). length l) c.self.view_is)

pub slice_bounds-result-count : goal.slice_bounds-result-count
slice_bounds-result-count c =
    let t = c.self.inside.text.items in
    let es = c.self.inside.ends.items in
    let index = c.args.index in
    let in' : index < length es = omega (arith, c.requires, many 0 t es, ap (λ (l : List (List ℕ)). length l) c.self.view_is) in
    let start : c.end_before-start.result ≡ get_or (0 ∷ es) index 0 = c.end_before-start.ensures ∙ ap (λ (l : List ℕ). get_or (0 ∷ l) index 0) c.deref.ensures.value in
    let end : c.index.result.now ≡ get_or es index 0 = c.index.ensures ∙ stands_at es index c.index.result.now 0 in' in
    let w = piece_within 0 t es index c.self.invariant in' in
    omega (arith, start, end, w.1)

pub slice_bounds-result-start : goal.slice_bounds-result-start
slice_bounds-result-start c =
    let t = c.self.inside.text.items in
    let es = c.self.inside.ends.items in
    let index = c.args.index in
    let in' : index < length es = omega (arith, c.requires, many 0 t es, ap (λ (l : List (List ℕ)). length l) c.self.view_is) in
    let start : c.end_before-start.result ≡ get_or (0 ∷ es) index 0 = c.end_before-start.ensures ∙ ap (λ (l : List ℕ). get_or (0 ∷ l) index 0) c.deref.ensures.value in
    let end : c.index.result.now ≡ get_or es index 0 = c.index.ensures ∙ stands_at es index c.index.result.now 0 in' in
    let w = piece_within 0 t es index c.self.invariant in' in
    let low : c.end_before-start.result ≤ c.index.result.now = omega (arith, start, end, w.1) in
    low

pub slice_bounds-result-end : goal.slice_bounds-result-end
slice_bounds-result-end c =
    let t = c.self.inside.text.items in
    let es = c.self.inside.ends.items in
    let index = c.args.index in
    let in' : index < length es = omega (arith, c.requires, many 0 t es, ap (λ (l : List (List ℕ)). length l) c.self.view_is) in
    let start : c.end_before-start.result ≡ get_or (0 ∷ es) index 0 = c.end_before-start.ensures ∙ ap (λ (l : List ℕ). get_or (0 ∷ l) index 0) c.deref.ensures.value in
    let end : c.index.result.now ≡ get_or es index 0 = c.index.ensures ∙ stands_at es index c.index.result.now 0 in' in
    let w = piece_within 0 t es index c.self.invariant in' in
    let high : c.index.result.now ≤ length c.deref-2.result.now = omega (arith, end, w.2, ap (λ (l : List ℕ). length l) c.deref-2.ensures.value) in
    high

pub returns : goal.returns
returns c =
    let t = c.self.inside.text.items in
    let es = c.self.inside.ends.items in
    let index = c.args.index in
    let in' : index < length es = omega (arith, c.requires, many 0 t es, ap (λ (l : List (List ℕ)). length l) c.self.view_is) in
    let start : c.end_before-start.result ≡ get_or (0 ∷ es) index 0 = c.end_before-start.ensures ∙ ap (λ (l : List ℕ). get_or (0 ∷ l) index 0) c.deref.ensures.value in
    let end : c.index.result.now ≡ get_or es index 0 = c.index.ensures ∙ stands_at es index c.index.result.now 0 in' in
    let far : get_or (0 ∷ es) index 0 ≡ get_or (0 ∷ es) index 0 - 0 = omega arith in
    (λ i. take (end i - start i) (drop (start i) (c.deref-2.ensures.value i)))
    ∙ ap (λ n. take (get_or es index 0 - get_or (0 ∷ es) index 0) (drop n t)) far
    ∙ piece_at 0 t es index c.self.invariant in'
    ∙ ap (λ (l : List (List ℕ)). get_or l index []) c.self.view_is
