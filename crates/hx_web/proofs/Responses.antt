-- A response to which fields were added twice.
use Rattle.std.proofs.Common.{◌≡◌, ℕ, List, ◌++◌, ap, ◌∙◌}
use Rattle.http_server.specs.declared.response.Response.{Response}
use Rattle.http_server.specs.Response.{IsResponse, fields_of}
use Rattle.http1.specs.Fields.{Header}

pub after : {code : ℕ} {sent all : List Header} {content : List ℕ} {mid new : Response} (more : List Header) → IsResponse code sent content mid → IsResponse mid.status (fields_of mid ++ more) mid.body.items new → sent ++ more ≡ all → IsResponse code all content new
after more first second e =
    record {
      status = second.status ∙ first.status;
      headers = second.headers ∙ (ap (λ l. l ++ more) first.headers ∙ e);
      body = second.body ∙ first.body;
    }
