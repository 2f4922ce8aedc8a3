use Rattle.std.proofs.Common.{◌≡◌, drop, length-drop, take_all, arith}
use Rattle.hx_soup.proofs.Growth.{reads_whole}
use Rattle.hx_soup.proofs.step.read_packet.Goals as goal

pub returns : goal.returns
returns c =
    let payload : c.put.new.out.items ≡ drop 3 c.args.bytes.now = rw (c.put.ensures.items, c.new-payload.ensures) (take_all _ (drop 3 c.args.bytes.now) (omega (arith, c.requires.most, length-drop 3 c.args.bytes.now))) in
    reads_whole c.args.bytes.now _ (λ i. omega (arith, c.type_inv.bytes i)) c.requires.len c.requires.some c.requires.most payload
