use Rattle.std.proofs.Common.{[], ◌∷◌, append_assoc, codes}
use Rattle.std.proofs.lemmas.Result.{on_ok_weaker}
use Rattle.http_server.specs.Response.{fields_of}
use Rattle.hx_web.specs.Answers.{closed, policy}
use Rattle.hx_web.proofs.Responses.{after}
use Rattle.hx_web.proofs.answering.close.Goals as goal

pub returns : goal.returns
unfolding closed
returns c =
    on_ok_weaker c.add-2.result
    (λ second. after _ c.in_ok-add.ensures second
    (append_assoc (fields_of c.args.response.now) ((codes "content-security-policy", policy) ∷ [])
    ((codes "x-frame-options", codes "DENY") ∷ []))) c.add-2.ensures
