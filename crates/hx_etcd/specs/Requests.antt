-- Requests as texts.
use Rattle.std.specs.Prelude.{ℕ, List, [], ◌∷◌, ◌++◌, length, codes}
use Rattle.std.specs.Fmt.{decimal}

-- the end of a line (RFC 9112, section 2.1)
abbrev pub crlf : List ℕ
crlf = 13 ∷ 10 ∷ []

-- a request with a JSON text (RFC 9112, sections 3 and 6.2)
abbrev pub request_text : (path body : List ℕ) → List ℕ
request_text path body =
    codes "POST " ++ (path ++ (codes " HTTP/1.1" ++ (crlf
    ++ (codes "Host: etcd" ++ (crlf
    ++ (codes "Content-Type: application/json" ++ (crlf
    ++ (codes "Content-Length: " ++ (decimal (length body) ++ (crlf ++ (crlf
    ++ body)))))))))))
