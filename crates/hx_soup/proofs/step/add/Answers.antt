use Rattle.std.proofs.Common.{◌∙◌}
use Rattle.hx_soup.proofs.Growth.{whole_len, adds_read}
use Rattle.hx_soup.proofs.step.add.Goals as goal

pub read_packet-packet-requires : goal.read_packet-packet-requires
read_packet-packet-requires c =
    let w = whole_len _ _ _ _ c.requires (c.as_slice-bytes.ensures.value ∙ c.push.ensures.items) c.if-bytes-lt2.false c.u16_at-length.ensures c.if-length-eq0.false c.if-length-gt-LONGEST.false c.if-bytes-length.false in
    record { len = w.0; some = w.1; most = w.2 }

pub returns : goal.returns
returns c =
    adds_read _ _ _ _ _ (c.as_slice-bytes.ensures.value ∙ c.push.ensures.items) c.clear.ensures c.read_packet-packet.ensures
