use Rattle.std.proofs.Common.{sym}
use Rattle.hx_report.proofs.Noting.{applied}
use Rattle.hx_report.proofs.census.Notes.take.Goals as goal

pub returns : goal.returns
returns c setup events h =
    applied setup events c.args.event.now c.args.self.now _ c.chain_begun-begun.result c.apply.result _ _ _ _ h (sym c.if-is_err.ensures.value) c.apply.ensures.passes c.apply.ensures.setup c.apply.ensures.market
    (record { some = c.chain_begun-begun.ensures.some; none = c.chain_begun-begun.ensures.none })
    c.clear-2.ensures.items c.apply.ensures.replies c.deref.ensures.value c.deref-2.ensures.value c.in_ok-note_begun.ensures c.in_ok-note_traded.ensures c.in_ok-note_rested.ensures
