use Rattle.std.proofs.Common.{◌/◌, ◌%◌, get_or, ap, ◌∙◌}
use Rattle.hx_blog.proofs.Packing.{byte_in}
use Rattle.hx_blog.proofs.words.byte_of.Goals as goal

pub returns : goal.returns
returns c m is e = ap (λ l. get_or l (c.args.k % 8) 0) c.to_be_bytes.ensures ∙ byte_in m c.args.k _ is c.requires (ap (λ ws. get_or ws (c.args.k / 8) 0) e)
