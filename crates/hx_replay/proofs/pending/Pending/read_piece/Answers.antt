use Rattle.std.proofs.Common.{List, ℕ, ◌++◌, take, ap, length, ◌∙◌, arith}
use Rattle.std.proofs.lemmas.List.{length-take}
use Rattle.hx_replay.proofs.Waiting.{moved_to_front, read_after}
use Rattle.hx_replay.proofs.pending.Pending.read_piece.Goals as goal

pub returns-in-Ok-clause-piece : goal.returns-in-Ok-clause-piece
returns-in-Ok-clause-piece g c =
    let at = c.self.inside.start in
    let n = c.self.inside.count in
    let m = c.in-Ok.count in
    let text = c.deref_mut.result.now in
    let xs = c.self.inside.bytes.items in
    let buf = c.read.new.buf in
    let front = moved_to_front xs c.copy_within.new.self.items text c.args.self.now at n c.deref_mut.ensures.value c.copy_within.ensures.items c.self.invariant.0 c.self.view_is in
    let long = ap length c.deref_mut.ensures.value in (
      take m buf,
      read_after c.copy_within.new.self.len n m text c.copy_within.new.self.items buf _ (omega (arith, long, c.self.invariant)) (omega (arith, c.in-Ok.ensures.bound)) (omega (arith, long, c.self.invariant, c.in-Ok.ensures.bound, c.deref_mut.ensures.len))
          ∙ ap (λ (l : List ℕ). l ++ take m buf) front,
      omega (arith, length-take m buf, c.in-Ok.ensures.bound),
      c.in-Ok.ensures.bytes.0,
    )
