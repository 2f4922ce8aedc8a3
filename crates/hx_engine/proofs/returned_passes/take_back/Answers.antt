use Rattle.std.proofs.Common.{take, drop, subst}
use Rattle.hx_engine.specs.Passes.{PassState}
use Rattle.hx_engine.specs.Finish.{IsReturned}
use Rattle.hx_engine.proofs.Positions.{more_known}
use Rattle.hx_engine.proofs.returned_passes.take_back.Goals as goal

pub returns-clause-returned : goal.returns-clause-returned
returns-clause-returned g c =
    let inside = c.pass.inside in
    let i = c.pass.invariant in
    let old : PassState = record { number = inside.number; sent = take inside.published_end inside.sent.items; waiting = drop inside.published_end inside.sent.items; known = inside.knows.known } in
    subst (λ (p : PassState). IsReturned g.V.Ledger.parts c.args.desk.now.published p) c.pass.view_is
    (record {
      first = i.4;
      last = i.5;
      sent = more_known inside.number (take inside.published_end inside.sent.items) inside.knows.known c.args.desk.now.published c.confirm.ensures.begins i.6;
      knew = c.confirm.ensures.begins;
    })
