use Rattle.std.proofs.Common.{◌≡◌, ◌++◌, List, subst}
use Rattle.std.specs.Prelude.{OnOk, codes}
use Rattle.hx_show.specs.declared.part.Part.{Part}
use Rattle.hx_show.specs.Parts.{message_words}
use Rattle.hx_show.proofs.inbound.put_inbound.Goals as goal

pub returns-in-Replace : goal.returns-in-Replace
returns-in-Replace c =
    let put = c.put_message-in-Replace in
    rw c.in-Replace.is
    (subst (λ (parts : List Part). OnOk put.result (put.new.out.items ≡ c.args.out.now.items ++ message_words (codes "Replace Order") parts)) c.replace_parts.ensures put.ensures)
