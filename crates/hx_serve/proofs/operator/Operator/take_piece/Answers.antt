use Rattle.std.proofs.Common.{List, ℕ, ◌≡◌, ◌++◌, ap, ◌∙◌}
use Rattle.hx_serve.proofs.Conducting.{conducts_none, conducts_line}
use Rattle.hx_serve.proofs.operator.Operator.take_piece.Goals as goal

pub returns-in_default-clause-err : goal.returns-in_default-clause-err
returns-in_default-clause-err g c = (_, conducts_none _ _)

pub returns-in_default-extend_from_slice-clause-err : goal.returns-in_default-extend_from_slice-clause-err
returns-in_default-extend_from_slice-clause-err g c = (_, conducts_none _ _)

pub loop-line-init : goal.loop-line-init
loop-line-init g c =
    let same : c.as_slice-rest.result.now ≡ c.args.self.now.pending.items ++ c.args.piece.now =
    c.as_slice-rest.ensures.value ∙ c.in-Ok-extend_from_slice.ensures.items
    ∙ ap (λ (x : List ℕ). x ++ c.args.piece.now) (c.in-Ok.ensures.items ∙ c.deref.ensures.value) in
    rw (same) (conducts_none _ _)

pub loop-line-preserved : goal.loop-line-preserved
loop-line-preserved g c =
    let ok = c.in-Ok-take_line.ensures.ok in
    conducts_line _ _ _ _ _ _ _ ok.0 c.loop-line.invariant c.in-Some.ensures.some.0 ok.1 ok.2
