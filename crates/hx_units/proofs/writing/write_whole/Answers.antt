use Rattle.std.proofs.Common.{◌≡◌, drop, sym, subst, arith}
use Rattle.hx_units.specs.Writing.{Writes}
use Rattle.std.proofs.lemmas.Grind.{common_steps}
use Rattle.hx_units.proofs.Fronts.{writes_more, writes_retained}
use Rattle.hx_units.proofs.writing.write_whole.Goals as goal
use Rattle.hx_units.proofs.writing.write_whole.Goals.{in-Ok, in-Err+else-ne}

pub loop-preserved : goal.loop-preserved
loop-preserved g c =
    let w0 = g.W.Write.contents c.args.writer.now in
    let w1 = g.W.Write.contents c.loop.writer in
    let w2 = g.W.Write.contents c.write.new.self in
    elim c.match-write.branch [
      | in-Ok w ↦
          let is : c.match-write.rest.now ≡ drop w.in-Ok.count c.loop.rest.now = rw w.rest-is (grind (arith, common_steps)) in
          subst (Writes w0 w2 c.args.bytes.now) (sym is) (writes_more w0 w1 w2 c.args.bytes.now c.loop.rest.now w.in-Ok.count c.loop.invariant w.in-Ok.ensures.bytes)
      | in-Err+else-ne w ↦ rw w.rest-is (writes_retained w0 w1 w2 c.args.bytes.now c.loop.rest.now c.loop.invariant w.in-Err.ensures.bytes)
    ]
