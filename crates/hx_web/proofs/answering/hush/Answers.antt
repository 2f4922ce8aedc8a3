use Rattle.std.proofs.Common.{[], ◌∷◌, ◌++◌, append_assoc, codes}
use Rattle.std.proofs.lemmas.Result.{on_ok_weaker}
use Rattle.http_server.specs.Response.{fields_of}
use Rattle.hx_web.specs.Answers.{discreet}
use Rattle.hx_web.proofs.Responses.{after}
use Rattle.hx_web.proofs.answering.hush.Goals as goal

pub returns : goal.returns
unfolding discreet
returns c =
    let old = fields_of c.args.response.now in
    let a = (codes "x-content-type-options", codes "nosniff") ∷ [] in
    let b = (codes "referrer-policy", codes "no-referrer") ∷ [] in
    let d = (codes "cache-control", codes "no-store") ∷ [] in
    on_ok_weaker c.add-3.result
    (λ third. after _ (after _ c.in_ok-add.ensures c.in_ok-add-2.ensures (append_assoc old a b))
    third (append_assoc old (a ++ b) d)) c.add-3.ensures
