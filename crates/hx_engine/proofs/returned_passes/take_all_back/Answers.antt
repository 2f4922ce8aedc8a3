use Rattle.std.proofs.Common.{◌≡◌, ◌∙◌, ◌++◌, ◌∷◌, [], List, ap, sym, subst, arith, length, length-append}
use Rattle.std.specs.List.{AllByRecursion}
use Rattle.hx_desk.specs.Desks.{DeskState}
use Rattle.hx_engine.specs.Passes.{PassState}
use Rattle.hx_engine.specs.Finish.{is_any_waiting, sent_by_all, IsReturned}
use Rattle.hx_engine.proofs.AllBack.{sent_more, all_more, none_waiting}
use Rattle.hx_engine.proofs.returned_passes.take_all_back.Goals as goal

pub take_back-requires-clause-live : goal.take_back-requires-clause-live
take_back-requires-clause-live g c = (none_waiting c.pop.new.self.items c.in-Some.pass (sym (ap is_any_waiting c.in-Some.ensures.items) ∙ c.loop-pass.invariant.live)).1

pub loop-pass-preserved : goal.loop-pass-preserved
loop-pass-preserved g c =
    let inv = c.loop-pass.invariant in
    let take = c.take_back.ensures in
    let pass : PassState = c.in-Some.pass in
    let rest : List PassState = c.pop.new.self.items in
    let items : c.loop-pass.passes.items ≡ rest ++ pass ∷ [] = c.in-Some.ensures.items in
    let live = none_waiting rest pass (sym (ap is_any_waiting items) ∙ inv.live) in
    record {
      live = live.0;
      same = take.same ∙ inv.same;
      parts = omega (arith, take.parts, inv.parts, ap (λ (l : List PassState). length l) items, length-append rest (pass ∷ []));
      amount = omega (arith, take.amount, inv.amount, ap sent_by_all items, sent_more rest pass);
      returned = λ all. inv.returned (subst (AllByRecursion (IsReturned g.V.Ledger.parts c.args.desk.now.published)) (sym items)
          (all_more (IsReturned g.V.Ledger.parts c.args.desk.now.published) rest pass all (subst (λ (d : DeskState). IsReturned g.V.Ledger.parts d.published pass) inv.same take.returned)));
    }
